-- What comes of an event of a line, and of all of them.
use Rattle.std.proofs.Common.{◌≡◌, ◌≢◌, ◌⊎◌, ◌↔◌, ◌≤◌, ◌<◌, ℕ, zero, suc, ◌+◌, List, [], ◌∷◌, ◌++◌, Bool, true, false, IsTrue, cond, Option, None, Some, Result, Ok, Err, OnOk, Vec, Global, length, map, take, get_or, slice_get, inl, inr, refl, sym, ap, ap₂, subst, ◌∙◌, append-nil, append_assoc, arith}
use Rattle.std.proofs.lemmas.Option.{slice_get-get_or}
use Rattle.node_lines.specs.ElementTexts.{AreElementsOf}
use Rattle.histories.specs.declared.entry.Entry.{Entry}
use Rattle.history_laws.specs.Replays.{Brings, Does, EntryStep, Idle}
use Rattle.json_text.specs.Fault.{Fails as FailsToRead, Read}
use Rattle.json_text.specs.declared.fault.JsonFault.{JsonFault}
use Rattle.json_text.specs.declared.fault.JsonFault.TheVariants as json
use Rattle.line_runs.specs.declared.run.Turn.TheVariants.{Refused, Taken}
use Rattle.node_replay.specs.Replayed.{Adds, ChangesRows, Fails, Leads, Passes, Refuses}
use Rattle.node_replay.specs.declared.outcome.Replayed.{Replayed}
use Rattle.node_replay.specs.declared.outcome.Replayed.TheVariants as replayed
use Rattle.node_replay.specs.declared.outcome.ReplayFault.{ReplayFault}
use Rattle.node_replay.specs.declared.outcome.ReplayFault.TheVariants as fault
use Rattle.node_runs.specs.DoneLines.{idle_line, malformed_line, refused_line, skipped_line}
use Rattle.node_runs.specs.LineAnswers as answer
use Rattle.node_runs.specs.LineAnswers.{IsOwn, PlacedTurn, step_line}
use Rattle.node_steps.specs.declared.fault.NodeFault.{NodeFault}
use Rattle.ocpi_text.specs.Text.{key}
use Rattle.ocpi_types.specs.declared.node_events.NodeEvent.{NodeEvent}
use Rattle.ocpi_types.specs.declared.node_events.NodeEventKind.{NodeEventKind}
use Rattle.ocpi_types.specs.declared.node_events.NodeEventKind.TheVariants as event
use Rattle.ocpi_types.specs.declared.packet.Packet.{Packet}
use Rattle.ocpi_types.specs.declared.rows.Change.{Change}
use Rattle.program_lines.specs.Writing.{packet_lines}
use Rattle.stored_nodes.specs.Transactions.{changes_of_each}
use Rattle.world_steps.specs.Network.{Input}
use Rattle.world_steps.specs.Steps.{NodeEvent as Deed, changes_of, packets_of}
use Rattle.replays.proofs.Told.{no_openings, sources_join}
use Rattle.replays.specs.Answering.{Enters, EventDone, EventsDone, IsReplayTold, IsSameRun, turn_of}
use Rattle.replays.specs.Happenings.{Came, Happening, IsTextAt, Placed, came_by, entries_behind, entries_of_done, entries_of_turn, openings_in}
use Rattle.replays.specs.LineTurns.{last_behind}
use Rattle.replays.specs.Telling.{AreSourcesOf}
use Rattle.replays.specs.declared.answering.Happened.{Happened}
use Rattle.replays.specs.declared.answering.Running.{Running}
use Rattle.replays.specs.declared.cutting.EchoedLine.{EchoedLine}
use Rattle.replays.specs.declared.transcript.Source.TheVariants.{Echoed}

-- ---- what is entered

pub enters_nothing : (place : ℕ) (before after : Happened) → after.entries.items ≡ before.entries.items → after.sources.items ≡ before.sources.items → Enters place [] before after
enters_nothing place before after entries sources = record {
  entries = entries ∙ sym (append-nil before.entries.items);
  added = [];
  sources = sources ∙ sym (append-nil before.sources.items);
  from = tt;
}

came_joined : (line : List ℕ) (xs ys : List Placed) → came_by line (xs ++ ys) ≡ came_by line xs ++ came_by line ys
came_joined line [] ys = refl
came_joined line (x ∷ xs) ys = ap (λ l. Came line x ∷ l) (came_joined line xs ys)

behind_joined : (line : List ℕ) (xs : List Placed) (ks : List Happening) → entries_behind (came_by line xs ++ ks) ≡ entries_behind (came_by line xs) ++ entries_behind ks
behind_joined line [] ks = refl
behind_joined line (x ∷ xs) ks = ap (λ l. x.entry ∷ l) (behind_joined line xs ks)

pub enters_both : (place : ℕ) (line : List ℕ) (xs ys : List Placed) (first middle last : Happened) → Enters place (came_by line xs) first middle → Enters place (came_by line ys) middle last
    → Enters place (came_by line (xs ++ ys)) first last
enters_both place line xs ys first middle last one two = record {
  entries = two.entries ∙ ap (λ l. l ++ entries_behind (came_by line ys)) one.entries ∙ append_assoc first.entries.items (entries_behind (came_by line xs)) (entries_behind (came_by line ys))
      ∙ ap (λ l. first.entries.items ++ l) (sym (behind_joined line xs (came_by line ys)) ∙ ap entries_behind (sym (came_joined line xs ys)));
  added = one.added ++ two.added;
  sources = two.sources ∙ ap (λ l. l ++ two.added) one.sources ∙ append_assoc first.sources.items one.added two.added;
  from = subst (λ l. AreSourcesOf place l (one.added ++ two.added)) (sym (came_joined line xs ys))
      (sources_join place place (came_by line xs) (came_by line ys) one.added two.added one.from (count (no_openings line xs)) two.from);
}
  where
    count : openings_in (came_by line xs) ≡ [] → place + length (openings_in (came_by line xs)) ≡ place
    count none = let size = ap length none in omega (arith, size)

-- ---- the last line that took hold

no_truth : IsTrue false → ⊥
no_truth is = let bad : false ≡ true = is in cc

pub last_joined : (xs ys : List Change) (last number : ℕ) → last_behind (xs ++ ys) last number ≡ last_behind ys (last_behind xs last number) number
last_joined [] ys last number = refl
last_joined (x ∷ xs) [] last number = refl
last_joined (x ∷ xs) (y ∷ ys) last number = refl

one_changed : (deed : Deed) → changes_of_each (deed ∷ []) ≡ changes_of deed
one_changed deed = append-nil (changes_of deed)

last_by : (changed : Bool) (cs : List Change) (last number : ℕ) → (IsTrue changed ↔ (cs ≢ [])) → cond changed number last ≡ last_behind cs last number
last_by true [] last number tells = absurd (tells.0 refl refl)
last_by true (c ∷ cs) last number tells = refl
last_by false [] last number tells = refl
last_by false (c ∷ cs) last number tells = absurd (no_truth (tells.1 (λ none. some none)))
  where
    some : c ∷ cs ≡ [] → ⊥
    some none = let size = ap length none in omega (arith, size)

-- ---- whether the storing of an event was refused

is_refused : (k : NodeEventKind) → (k ≡ event.Refused) ⊎ (k ≢ event.Refused)
is_refused (event.Submit at to order) = inr (λ is. cc)
is_refused (event.Token at token) = inr (λ is. cc)
is_refused (event.Service evse_uid in_service) = inr (λ is. cc)
is_refused (event.Charger at report) = inr (λ is. cc)
is_refused (event.Credit at session_id) = inr (λ is. cc)
is_refused (event.Deliver at packet) = inr (λ is. cc)
is_refused (event.Tick at) = inr (λ is. cc)
is_refused event.Restart = inr (λ is. cc)
is_refused event.Refused = inl refl

-- ---- an event

pub same_run : (r : Running) → IsSameRun r r
same_run r = record { party = refl; known = refl; number = refl; opening = refl }

module _ (before after : Running) (number : ℕ) (place : Option ℕ) (read : Read NodeEvent) (element text_before text_after : List ℕ) (first last : Happened) where
  -- nothing happened at the node
  quiet : (taken : Bool) (out : List ℕ) (turns : (party : List ℕ) → party ≡ before.party → PlacedTurn party before.node number place read (turn_of taken) out [] after.node)
      → ((party : List ℕ) (is : party ≡ before.party) → entries_of_turn (turns party is) ≡ []) → text_after ≡ text_before ++ out
      → after.last ≡ before.last → IsSameRun before after → last.entries.items ≡ first.entries.items → last.sources.items ≡ first.sources.items
      → EventDone before after number place read element text_before text_after first last
  quiet taken out turns none written kept same entries sources = record {
    taken = taken;
    out = out;
    did = [];
    turns = turns;
    written = written;
    last = kept;
    same = same;
    enters = λ party is line at. subst (λ xs. Enters (suc before.opening) (came_by line xs) first last) (sym (none party is)) (enters_nothing (suc before.opening) first last entries sources);
  }

  pub elsewhere : (x : NodeEvent) → read ≡ Ok x → key x.node ≢ key before.party → text_after ≡ text_before ++ skipped_line number place → after ≡ before → last ≡ first
      → EventDone before after number place read element text_before text_after first last
  elsewhere x is other written same entered =
      quiet true (skipped_line number place) (λ party e. answer.IsElsewhere x is (λ y. other (y ∙ ap key e)) refl refl refl (ap (λ (r : Running). r.node) same)) (λ party e. refl) written (ap (λ (r : Running). r.last) same)
      (subst (λ (r : Running). IsSameRun before r) (sym same) (same_run before)) (ap (λ (h : Happened). h.entries.items) entered) (ap (λ (h : Happened). h.sources.items) entered)

  pub malformed : (why : JsonFault) → read ≡ Err why → why ≢ json.Memory → text_after ≡ text_before ++ malformed_line number place why → after ≡ before → last ≡ first
      → EventDone before after number place read element text_before text_after first last
  malformed why is other written same entered =
      quiet false (malformed_line number place why) (λ party e. answer.IsMalformed why is other refl refl refl (ap (λ (r : Running). r.node) same)) (λ party e. refl) written (ap (λ (r : Running). r.last) same)
      (subst (λ (r : Running). IsSameRun before r) (sym same) (same_run before)) (ap (λ (h : Happened). h.entries.items) entered) (ap (λ (h : Happened). h.sources.items) entered)

  module _ (x : NodeEvent) (own : IsOwn before.party read x) where
    its_own : (party : List ℕ) → party ≡ before.party → IsOwn party read x
    its_own party is = record { is = own.is; same = own.same ∙ ap key (sym is) }

    pub of_other_role : Passes before.node x.kind → text_after ≡ text_before ++ skipped_line number place → after.node ≡ before.node → after.last ≡ before.last → IsSameRun before after
        → last.entries.items ≡ first.entries.items → last.sources.items ≡ first.sources.items → EventDone before after number place read element text_before text_after first last
    of_other_role passes written node kept same entries sources =
        quiet true (skipped_line number place) (λ party e. answer.IsOfOtherRole x (its_own party e) passes.taken passes.nothing refl refl refl node) (λ party e. refl) written kept same entries sources

    pub declined : (why : NodeFault) → Refuses before.node x.kind why → text_after ≡ text_before ++ refused_line number place why → after.node ≡ before.node → after.last ≡ before.last
        → IsSameRun before after → last.entries.items ≡ first.entries.items → last.sources.items ≡ first.sources.items → EventDone before after number place read element text_before text_after first last
    declined reason why written node kept same entries sources =
        quiet false (refused_line number place reason) (λ party e. answer.IsRefused x (its_own party e) why.input why.brings reason why.refuses why.other refl refl refl node) (λ party e. refl) written kept same entries sources

    pub stepped : (packets : List Packet) (changed : Bool) (text : EchoedLine) → Leads before.node x.kind packets changed after.node → text.bytes.now ≡ element
        → text_after ≡ text_before ++ (packet_lines packets ++ step_line number place packets changed) → after.last ≡ cond changed number before.last → IsSameRun before after
        → last.entries.items ≡ first.entries.items ++ record { event = x.kind; packets = packets } ∷ [] → last.sources.items ≡ first.sources.items ++ Echoed before.opening text ∷ []
        → EventDone before after number place read element text_before text_after first last
    stepped packets changed text leads bytes written kept same entries sources = by leads.step leads.tells leads.own
      where
        from : (line : List ℕ) (p : Placed) → p.place ≡ place → IsTextAt line place element → AreSourcesOf (suc before.opening) (Came line p ∷ []) (Echoed before.opening text ∷ [])
        from line p where_so at = (refl, subst (λ l. IsTextAt line p.place l) (sym bytes) (subst (λ o. IsTextAt line o element) (sym where_so) at), tt)

        by : (step : EntryStep before.node (record { event = x.kind; packets = packets }) after.node)
            → (IsTrue changed ↔ ChangesRows step) → (Passes before.node x.kind → ⊥) → EventDone before after number place read element text_before text_after first last
        by (Does deed did) tells own_role = record {
          taken = true;
          out = packet_lines (packets_of deed) ++ step_line number place (packets_of deed) changed;
          did = deed ∷ [];
          turns = λ party e. answer.WasDone x (its_own party e) deed did.brings did.step changed tells refl refl refl;
          written = written ∙ ap (λ l. text_before ++ (packet_lines l ++ step_line number place l changed)) did.sends;
          last = kept ∙ last_by changed (changes_of deed) before.last number tells ∙ ap (λ l. last_behind l before.last number) (sym (one_changed deed));
          same = same;
          enters = λ party e line at. record {
            entries = entries ∙ ap (λ l. first.entries.items ++ record { event = x.kind; packets = l } ∷ []) did.sends;
            added = Echoed before.opening text ∷ [];
            sources = sources;
            from = from line (record { place = place; entry = record { event = x.kind; packets = packets_of deed } }) refl at;
          };
        }
        by (Idle idle) tells own_role = record {
          taken = true;
          out = idle_line number place;
          did = [];
          turns = λ party e. answer.WasUnstored x (its_own party e) stored refl refl refl idle.same;
          written = written ∙ ap₂ (λ l b. text_before ++ (packet_lines l ++ step_line number place l b)) idle.sends unchanged;
          last = kept ∙ ap (λ b. cond b number before.last) unchanged;
          same = same;
          enters = λ party e line at. record {
            entries = entries ∙ ap (λ l. first.entries.items ++ record { event = x.kind; packets = l } ∷ []) idle.sends;
            added = Echoed before.opening text ∷ [];
            sources = sources;
            from = from line (record { place = place; entry = record { event = x.kind; packets = [] } }) refl at;
          };
        }
          where
            stored : x.kind ≡ event.Refused
            stored = of (is_refused x.kind) idle.why
              where
                of : (x.kind ≡ event.Refused) ⊎ (x.kind ≢ event.Refused) → (x.kind ≡ event.Refused) ⊎ ((i : Input) → Brings before.node x.kind i → ⊥) → x.kind ≡ event.Refused
                of (inl is) why = is
                of (inr other) (inl is) = is
                of (inr other) (inr nothing) = absurd (own_role (record { taken = other; nothing = nothing }))

            unchanged : changed ≡ false
            unchanged = is_false changed (λ yes. tells.0 yes)
              where
                is_false : (b : Bool) → (IsTrue b → ⊥) → b ≡ false
                is_false true never = absurd (never refl)
                is_false false never = refl

-- ---- all events of a line

pub none_yet : (r : Running) (number : ℕ) (line text : List ℕ) (h : Happened) → EventsDone r r number line [] text text h h
none_yet r number line text h = record {
  turn = Taken;
  out = [];
  did = [];
  done = answer.none_done;
  written = sym (append-nil text);
  last = refl;
  same = same_run r;
  enters = enters_nothing (suc r.opening) h h refl refl;
}

changes_joined : (xs ys : List Deed) → changes_of_each (xs ++ ys) ≡ changes_of_each xs ++ changes_of_each ys
changes_joined [] ys = refl
changes_joined (x ∷ xs) ys = ap (λ l. changes_of x ++ l) (changes_joined xs ys) ∙ sym (append_assoc (changes_of x) (changes_of_each xs) (changes_of_each ys))

module _ (before now after : Running) (number : ℕ) (line : List ℕ) (reads : List (Read NodeEvent)) (read : Read NodeEvent) (element text_first text_now text_after : List ℕ) (first middle last : Happened) where
  pub one_more : EventsDone before now number line reads text_first text_now first middle → EventDone now after number (Some (length reads)) read element text_now text_after middle last
      → IsTextAt line (Some (length reads)) element → EventsDone before after number line (reads ++ read ∷ []) text_first text_after first last
  one_more so one at = by one.taken (one.turns before.party (sym so.same.party)) (one.enters before.party (sym so.same.party) line at)
    where
      written_so : text_after ≡ text_first ++ (so.out ++ one.out)
      written_so = one.written ∙ ap (λ l. l ++ one.out) so.written ∙ append_assoc text_first so.out one.out

      last_so : after.last ≡ last_behind (changes_of_each (so.did ++ one.did)) before.last number
      last_so =
          one.last ∙ ap (λ l. last_behind (changes_of_each one.did) l number) so.last
          ∙ sym (last_joined (changes_of_each so.did) (changes_of_each one.did) before.last number) ∙ ap (λ l. last_behind l before.last number) (sym (changes_joined so.did one.did))

      same_so : IsSameRun before after
      same_so = record {
        party = one.same.party ∙ so.same.party;
        known = one.same.known ∙ so.same.known;
        number = one.same.number ∙ so.same.number;
        opening = one.same.opening ∙ so.same.opening;
      }

      joined : (xs : List Placed) → Enters (suc now.opening) (came_by line xs) middle last → Enters (suc before.opening) (came_by line (entries_of_done so.done ++ xs)) first last
      joined xs more =
          enters_both (suc before.opening) line (entries_of_done so.done) xs first middle last so.enters
          (subst (λ o. Enters (suc o) (came_by line xs) middle last) so.same.opening more)

      by : (taken : Bool) (turns : PlacedTurn before.party now.node number (Some (length reads)) read (turn_of taken) one.out one.did after.node)
          → Enters (suc now.opening) (came_by line (entries_of_turn turns)) middle last → EventsDone before after number line (reads ++ read ∷ []) text_first text_after first last
      by true turns more = record {
        turn = so.turn;
        out = so.out ++ one.out;
        did = so.did ++ one.did;
        done = answer.one_taken so.done turns;
        written = written_so;
        last = last_so;
        same = same_so;
        enters = joined (entries_of_turn turns) more;
      }
      by false turns more = record {
        turn = Refused;
        out = so.out ++ one.out;
        did = so.did ++ one.did;
        done = answer.one_refused so.done turns;
        written = written_so;
        last = last_so;
        same = same_so;
        enters = joined (entries_of_turn turns) more;
      }

-- ---- what a call answered

pub on_ok : {A E P Q : Type 0} (r : Result A E) → (P → Q) → OnOk r P → OnOk r Q
on_ok (Ok x) f p = f p
on_ok (Err e) f p = tt

-- what became of an event of the node
pub replayed_done : (x : Replayed) (before middle after : Running) (number : ℕ) (place : Option ℕ) (read : Read NodeEvent) (line : EchoedLine) (text_before text_after : List ℕ) (first entered last : Happened) (e : NodeEvent)
    → IsOwn before.party read e → Adds before.node first.entries.items e.kind x middle.node entered.entries.items → IsSameRun before middle → middle.last ≡ before.last
    → entered.sources.items ≡ first.sources.items → IsReplayTold x middle after number place line text_before text_after entered last
    → EventDone before after number place read line.bytes.now text_before text_after first last
replayed_done replayed.Skipped before middle after number place read line text_before text_after first entered last e own adds same kept sources told =
    let node = ap (λ (r : Running). r.node) told.1 in
    let run : IsSameRun before after = subst (λ (r : Running). IsSameRun before r) (sym told.1) same in
    of_other_role before after number place read line.bytes.now text_before text_after first last e own adds.0 told.0 (node ∙ adds.1) (ap (λ (r : Running). r.last) told.1 ∙ kept) run
    (ap (λ (h : Happened). h.entries.items) told.2 ∙ adds.2) (ap (λ (h : Happened). h.sources.items) told.2 ∙ sources)
replayed_done (replayed.Stepped changed) before middle after number place read line text_before text_after first entered last e own adds same kept sources told =
    stepped before after number place read line.bytes.now text_before text_after first last e own adds.0 changed line
    (subst (λ n. Leads before.node e.kind adds.0 changed n) (sym told.node) adds.1) refl (told.written first.entries.items (record { event = e.kind; packets = adds.0 }) adds.2)
    (told.last ∙ ap (λ l. cond changed number l) kept) run (ap (λ (v : Vec Entry Global). v.items) told.entries ∙ adds.2)
    (told.sources ∙ ap₂ (λ l o. l ++ Echoed o line ∷ []) sources same.opening)
  where
    run : IsSameRun before after
    run = record {
      party = told.same.party ∙ same.party;
      known = told.same.known ∙ same.known;
      number = told.same.number ∙ same.number;
      opening = told.same.opening ∙ same.opening;
    }

-- why the node refused it
pub declined_done : (x : ReplayFault) (before after : Running) (number : ℕ) (place : Option ℕ) (read : Read NodeEvent) (element text_before text_after : List ℕ) (first last : Happened) (e : NodeEvent)
    → IsOwn before.party read e → Fails before.node e.kind x → after.node ≡ before.node → after.last ≡ before.last → IsSameRun before after
    → last.entries.items ≡ first.entries.items → last.sources.items ≡ first.sources.items → ((why : NodeFault) × (x ≡ fault.Core why) × (text_after ≡ text_before ++ refused_line number place why))
    → EventDone before after number place read element text_before text_after first last
declined_done x before after number place read element text_before text_after first last e own fails node kept same entries sources (why, is, written) =
    declined before after number place read element text_before text_after first last e own why (subst (λ y. Fails before.node e.kind y) is fails) written node kept same entries sources

-- a fault that is not want of memory is what was read
pub fault_due : {A : Type 0} (why : JsonFault) (r : Read A) → why ≢ json.Memory → FailsToRead why r → r ≡ Err why
fault_due json.Memory r other fails = absurd (other refl)
fault_due json.Syntax r other fails = fails
fault_due json.BadNumberToken r other fails = fails
fault_due json.TaggedText r other fails = fails
fault_due (json.Missing field) r other fails = fails
fault_due (json.WrongForm field) r other fails = fails
fault_due (json.UnknownWord field) r other fails = fails
fault_due json.UnknownKind r other fails = fails

pub size_of_map : {A B : Type 0} (f : A → B) (xs : List A) → length (map f xs) ≡ length xs
size_of_map f [] = refl
size_of_map f (x ∷ xs) = ap suc (size_of_map f xs)

-- the text of an element is the one at its place
pub text_there : (line : List ℕ) (texts : List (List ℕ)) (place : ℕ) → AreElementsOf line texts → place < length texts
    → (result : List ℕ) → ((text : List ℕ) → slice_get texts place ≡ Some text → result ≡ text) → IsTextAt line (Some place) result
text_there line texts place cut within result same =
    let there = slice_get-get_or texts place [] within in
    (texts, cut, there ∙ ap (λ t. Some t) (sym (same (get_or texts place []) there)))
