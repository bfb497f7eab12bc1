-- What the lines of a run make of its node.
use Rattle.std.proofs.Common.{◌≡◌, ◌≢◌, ◌++◌, ◌∙◌, ◌+◌, ◌<◌, ◌≤◌, ℕ, suc, Bool, List, [], ◌∷◌, Option, Some, None, refl, sym, ap, subst, inl, inr, arith, length, length-append, append_assoc, append-nil}
use Rattle.std.proofs.lemmas.List.Concat.{flat_map-append}
use Rattle.ocpi_text.specs.Whole.{max_whole}
use Rattle.node_laws.specs.Runs.{Run}
use Rattle.json_text.specs.Fault.{Read}
use Rattle.ocpi_types.specs.Setups.{party_of}
use Rattle.ocpi_types.specs.declared.node_events.NodeEvent.{NodeEvent as Event}
use Rattle.ocpi_types.specs.declared.rows.Row.{Row}
use Rattle.ocpi_types.specs.declared.setup.Node.{Node}
use Rattle.ocpi_types.specs.declared.setup.Node.TheVariants as node
use Rattle.operator_rows.specs.Steps as operator_steps
use Rattle.provider_rows.specs.Steps as provider_steps
use Rattle.world_steps.specs.Steps.{NodeEvent, NodeStep}
use Rattle.world_steps.specs.Steps as steps
use Rattle.world_steps.specs.World.{NodeState, Operates, Provides, opening_of}
use Rattle.line_runs.specs.Numbered.{AreNumbered, empty_line, none_numbered, refused_line, taken_line}
use Rattle.line_runs.specs.declared.outcome.Ran.{Ran}
use Rattle.line_runs.specs.declared.run.Turn.{Turn}
use Rattle.line_runs.specs.declared.run.Turn.TheVariants.{Ended, Refused, Taken}
use Rattle.node_keepers.specs.Opening.{Source}
use Rattle.stored_nodes.specs.Keepers.{Commits, IsLine, IsSettled, Keeper, KeepsOn, Nothing, Taken as TakenBy}
use Rattle.stored_nodes.specs.Stored.{IsStored}
use Rattle.stored_nodes.specs.Transactions.{changes_of_each}
use Rattle.stored_nodes.proofs.Staying.{marked_holds}
use Rattle.stored_nodes.proofs.Together.{held_by_events, starts_by_events}
use Rattle.node_core.specs.Members.{IsMadeOfRows}
use Rattle.node_rows.specs.Holds.{HoldsRows}
use Rattle.node_rows.specs.Laws.{AreClasses, ChangesAreHeld, RestartsAreHeld}
use Rattle.node_store.specs.Contents.{Content, IsReadAgain, changed_all, line_of, marked}
use Rattle.node_store.proofs.Numbered.{numbers_are_no_rows}
use Rattle.std.specs.Prelude.{All, IsSome}
use Rattle.stored_laws.specs.Nodes.{CanStartAgain, IsOfOpening, NodesCanStartAgain, NodesKeepOpenings, restarted}
use Rattle.node_runs.specs.LineAnswers.{Answers, AreDone, PlacedTurn}
use Rattle.node_runs.specs.LineAnswers as lines
use Rattle.node_runs.specs.NodeAnswers.{BehindTurn, LineTurn, LosesLine, NodeLineGives, NodeTurn, next_stage}
use Rattle.node_runs.specs.NodeAnswers as answers
use Rattle.node_runs.specs.NodeTurns.{IsMember, OpensNode, Running, Stage, number_from, opened_stage, opening}
use Rattle.node_runs.specs.NumberedRuns.{Carries, Changed, IsKnown, IsRead, Numbered, Takes, all_done, none_carried, none_changed, one_carried, one_changed, one_quiet}
use Rattle.node_runs.proofs.EndLemmas.{all_go_on}
use Rattle.node_runs.specs.NodeTurns as turns
use Rattle.node_runs.specs.NodeHistories.{Before_line, Behind_line, GoesOnAtLine, GoesOnFrom, HasHistory, IsLeftBy, LostLinesGoOn, RunsAreHistories, TwoRunsAreOne, WasRun, kept_line, restart_of, some_lines}
use Rattle.node_runs.specs.declared.fault.NodeStop.{NodeStop}

-- ---- runs

joined : (s u t : NodeState) (xs ys : List NodeEvent) → Run NodeStep s xs u → Run NodeStep u ys t → Run NodeStep s (xs ++ ys) t
joined s u t [] ys is more = subst (λ (n : NodeState). Run NodeStep n ys t) is more
joined s u t (x ∷ xs) ys did more = (did.0, did.1, joined did.0 u t xs ys did.2 more)

-- what the events of a line made of a node, one after another, is a chain of steps
placed_run : {party : List ℕ} {now : NodeState} {number : ℕ} {place : Option ℕ} {read : Read Event} {turn : Turn} {out : List ℕ} {did : List NodeEvent} {next : NodeState}
    → PlacedTurn party now number place read turn out did next → Run NodeStep now did next
placed_run {now = now} {next = next} (lines.WasDone x is deed brings step changed tells taken written one) =
    subst (λ (did : List NodeEvent). Run NodeStep now did next) (sym one) (next, step, refl)
placed_run {now = now} {next = next} (lines.WasUnstored x is refused taken written none same) =
    subst (λ (did : List NodeEvent). Run NodeStep now did next) (sym none) same
placed_run {now = now} {next = next} (lines.IsElsewhere x is other taken written none same) =
    subst (λ (did : List NodeEvent). Run NodeStep now did next) (sym none) same
placed_run {now = now} {next = next} (lines.IsOfOtherRole x is stored nothing taken written none same) =
    subst (λ (did : List NodeEvent). Run NodeStep now did next) (sym none) same
placed_run {now = now} {next = next} (lines.IsMalformed fault is other refused written none same) =
    subst (λ (did : List NodeEvent). Run NodeStep now did next) (sym none) same
placed_run {now = now} {next = next} (lines.IsRefused x is input brings fault refuses other refused written none same) =
    subst (λ (did : List NodeEvent). Run NodeStep now did next) (sym none) same

all_run : {party : List ℕ} {first : NodeState} {number : ℕ} {events : List (Read Event)} {turn : Turn} {out : List ℕ} {did : List NodeEvent} {after : NodeState}
    → AreDone party first number events turn out did after → Run NodeStep first did after
all_run lines.none_done = refl
all_run {first = first} (lines.one_taken {did = did} {also = also} {now = now} {next = next} before is) =
    joined first now next did also (all_run before) (placed_run is)
all_run {first = first} (lines.one_refused {did = did} {also = also} {now = now} {next = next} before is) =
    joined first now next did also (all_run before) (placed_run is)

pub line_run : {party : List ℕ} {now : NodeState} {number : ℕ} {line : List ℕ} {turn : Turn} {out : List ℕ} {did : List NodeEvent} {next : NodeState}
    → Answers party now number line turn out did next → Run NodeStep now did next
line_run (lines.OneEvent read is turns) = placed_run turns
line_run (lines.SeveralEvents events is carries) = all_run carries.done

takes_run : {party : List ℕ} {known number : ℕ} {line : List ℕ} {now : NodeState} {out : List ℕ} {did : List NodeEvent} {next : NodeState}
    → Takes party known number line now out did next → Run NodeStep now did next
takes_run {now = now} {next = next} (IsKnown is written none same) = subst (λ (did : List NodeEvent). Run NodeStep now did next) (sym none) same
takes_run (IsRead new turn answers) = line_run answers

-- ---- a stop leaves just what is kept

module _ {K : Type 0} (keeper : Keeper K) where
  settled_on : (before after : K) → KeepsOn keeper before after → IsSettled keeper before → IsSettled keeper after
  settled_on before after on settled honest c may = settled (on.earlier honest) c (on.stops honest c may) ∙ sym (on.same honest)

  settled_by : (line : Option ℕ) (did : List NodeEvent) (before after : K) → Commits keeper line (changes_of_each did) before after → IsSettled keeper before → IsSettled keeper after
  settled_by line did before after (Nothing none same) settled = subst (IsSettled keeper) (sym same) settled
  settled_by line did before after (TakenBy some takes) settled = takes.settled

-- ---- a run

done_on : (xs : List Numbered) (x : Numbered) → all_done (xs ++ x ∷ []) ≡ all_done xs ++ x.1
done_on xs x = flat_map-append (λ (y : Numbered). y.1) xs (x ∷ []) ∙ ap (λ (l : List NodeEvent). all_done xs ++ l) (append-nil x.1)

lines_on : (all : List (List ℕ)) (line : List ℕ) → some_lines (all ++ line ∷ []) ≡ some_lines all ++ kept_line line
lines_on all line = flat_map-append kept_line all (line ∷ []) ∙ ap (λ (l : List (List ℕ)). some_lines all ++ l) (append-nil (kept_line line))

one_kept : (line : List ℕ) → 0 < length line → kept_line line ≡ line ∷ []
one_kept [] some = absurd (omega (arith, some))
one_kept (c ∷ cs) some = refl

module _ {K : Type 0} (keeper : Keeper K) (source : Source K) (wanted : Option (List ℕ)) where
  -- what is known of the node that runs, where one does, and which lines were read before one does
  abbrev Known : List (List ℕ) → Stage K → Option (Running K) → Type 0
  Known all s None = Unit {0}
  Known all s (Some now) = HasHistory keeper source wanted all s now

  record IsTold (all : List (List ℕ)) (s : Stage K) : Type 0 where
    wanted_so : s.wanted ≡ wanted
    known : Known all s s.running
    first : s.running ≡ None → s.stop ≡ None → some_lines all ≡ []

  -- an empty line is passed over
  known_behind : (all : List (List ℕ)) (s : Stage K) (running : Option (Running K)) → Known all s running → Known (all ++ [] ∷ []) s running
  known_behind all s None known = tt
  known_behind all s (Some now) h = record {
    first = h.first;
    setup = h.setup;
    base = h.base;
    reads = h.reads;
    member = h.member;
    asked = h.asked;
    did = h.did;
    was = h.was;
    found = h.found;
    numbered = h.numbered;
    others = h.others;
    carries = h.carries;
    are = lines_on all [] ∙ append-nil (some_lines all) ∙ h.are;
    number = h.number;
    beyond = h.beyond;
    known = h.known;
    changed = h.changed;
    last_change = h.last_change;
    changes = h.changes;
    marked = h.marked;
  }

  -- a line more, by the next number
  one_more : (all : List (List ℕ)) (line out : List ℕ) (did : List NodeEvent) (s : Stage K) (now next : Running K) → 0 < length line → suc s.number ≤ max_whole
      → Takes now.party s.known (suc s.number) line now.node.state out did next.node.state → next.party ≡ now.party → IsSettled keeper next.node.keep
      → Commits keeper (Some (suc s.number)) (changes_of_each did) now.node.keep next.node.keep → HasHistory keeper source wanted all s now → HasHistory keeper source wanted (all ++ line ∷ []) (next_stage s next (suc s.number)) next
  one_more all line out did s now next some few takes party settled commits h =
      let was = h.was in
      let base = number_from h.base was.last in
      let none : h.others ≡ [] = no_others h.others h.beyond few in
      let number = suc (base + length h.numbered) in
      let takes_so : Takes now.party was.last number line now.node.state out did next.node.state =
      subst (λ (n : ℕ). Takes now.party was.last n line now.node.state out did next.node.state) (ap suc h.number)
      (subst (λ (k : ℕ). Takes now.party k (suc s.number) line now.node.state out did next.node.state) h.known takes) in
      record {
        first = h.first;
        setup = h.setup;
        base = h.base;
        reads = h.reads;
        member = h.member;
        asked = h.asked;
        did = h.did ++ (number, did) ∷ [];
        was = record {
          rows = was.rows;
          last = was.last;
          start = was.start;
          starts = was.starts;
          did = subst (λ (xs : List NodeEvent). Run NodeStep was.start.state xs next.node.state) (sym (done_on h.did (number, did)))
              (joined was.start.state now.node.state next.node.state (all_done h.did) did was.did (takes_run takes));
          settled = settled;
          party = party ∙ was.party;
        };
        found = h.found;
        numbered = h.numbered ++ line ∷ [];
        others = [];
        carries = subst (λ (p : List ℕ). Carries p was.last base was.start.state (h.numbered ++ line ∷ []) (h.did ++ (number, did) ∷ []) next.node.state) (sym party)
            (one_carried h.carries takes_so);
        are = lines_on all line ∙ ap (λ (l : List (List ℕ)). some_lines all ++ l) (one_kept line some)
            ∙ ap (λ (l : List (List ℕ)). l ++ line ∷ []) (h.are ∙ ap (λ (l : List (List ℕ)). h.first ∷ (h.numbered ++ l)) none ∙ ap (λ (l : List (List ℕ)). h.first ∷ l) (append-nil h.numbered))
            ∙ ap (λ (l : List (List ℕ)). h.first ∷ l) (sym (append-nil (h.numbered ++ line ∷ [])));
        number = omega (arith, h.number, length-append h.numbered (line ∷ []));
        beyond = λ some. absurd (some refl);
        known = h.known;
        changed = (mark commits).0;
        last_change = (mark commits).1;
        changes = (mark commits).2;
        marked = (mark commits).3;
      }
    where
      mark : Commits keeper (Some (suc s.number)) (changes_of_each did) now.node.keep next.node.keep →
          (changed : List ℕ) × (last : ℕ) × Changed h.was.last (h.did ++ (suc (number_from h.base h.was.last + length h.numbered), did) ∷ []) changed last
          × (keeper.is_honest next.node.keep → line_of (keeper.content next.node.keep) ≡ Some last)
      mark (Nothing none same) =
          (h.changed, h.last_change, one_quiet (suc (number_from h.base h.was.last + length h.numbered)) did h.changes none, λ honest. ap (λ (k : K). line_of (keeper.content k)) same ∙ h.marked (subst keeper.is_honest same honest))
      mark (TakenBy some takes) =
          let number = suc (number_from h.base h.was.last + length h.numbered) in (
            h.changed ++ number ∷ [],
            number,
            one_changed number did h.changes some,
            λ honest.
                ap line_of (takes.makes honest) ∙ numbers_are_no_rows.is (changed_all (keeper.content now.node.keep) (changes_of_each did)) (suc s.number) takes.is_line.0 takes.is_line.1
                ∙ ap Some (ap suc h.number),
          )

      no_others : (others : List (List ℕ)) → (others ≢ [] → s.number ≡ max_whole) → suc s.number ≤ max_whole → others ≡ []
      no_others [] beyond few = refl
      no_others (o ∷ os) beyond few = let is = beyond (λ e. absurd (cc e)) in absurd (omega (arith, is, few))

  -- a line for which there is no number
  one_beyond : (all : List (List ℕ)) (line : List ℕ) (s : Stage K) (now : Running K) → 0 < length line → s.number ≡ max_whole
      → HasHistory keeper source wanted all s now → HasHistory keeper source wanted (all ++ line ∷ []) (next_stage s now max_whole) now
  one_beyond all line s now some is h = record {
    first = h.first;
    setup = h.setup;
    base = h.base;
    reads = h.reads;
    member = h.member;
    asked = h.asked;
    did = h.did;
    was = h.was;
    found = h.found;
    numbered = h.numbered;
    others = h.others ++ line ∷ [];
    carries = h.carries;
    are = lines_on all line ∙ ap (λ (l : List (List ℕ)). some_lines all ++ l) (one_kept line some) ∙ ap (λ (l : List (List ℕ)). l ++ line ∷ []) h.are
        ∙ ap (λ (l : List (List ℕ)). h.first ∷ l) (append_assoc h.numbered h.others (line ∷ []));
    number = sym is ∙ h.number;
    beyond = λ more. refl;
    known = h.known;
    changed = h.changed;
    last_change = h.last_change;
    changes = h.changes;
    marked = h.marked;
  }

  behind_setup : (all : List (List ℕ)) (now : Running K) (s : Stage K) (line : List ℕ) (turn : Turn) (out : List ℕ) (t : Stage K) → 0 < length line → (turn ≡ Ended → ⊥)
      → BehindTurn keeper now s line turn out t → IsTold all s → HasHistory keeper source wanted all s now → IsTold (all ++ line ∷ []) t
  behind_setup all now s line turn out t some on (answers.WasKnown is taken written left) whole h =
      subst (IsTold (all ++ line ∷ [])) (sym left) (record {
        wanted_so = whole.wanted_so;
        known = one_more all line out [] s now now some (omega (arith, is, h.known, h.was.starts.reopens.most)) (IsKnown is written refl refl) refl h.was.settled (Nothing refl refl) h;
        first = λ e. absurd (cc e);
      })
  behind_setup all now s line turn out t some on (answers.WasBeyond is refused written left) whole h =
      subst (IsTold (all ++ line ∷ [])) (sym left) (record { wanted_so = whole.wanted_so; known = one_beyond all line s now some is h; first = λ e. absurd (cc e) })
  behind_setup all now s line turn out t some on (answers.GoesOn new few next is left) whole h =
      subst (IsTold (all ++ line ∷ [])) (sym left) (record {
        wanted_so = whole.wanted_so;
        known = one_more all line out is.did s now next some few (IsRead new turn is.answers) is.party (settled_by keeper (Some (suc s.number)) is.did now.node.keep next.node.keep is.commits h.was.settled) is.commits h;
        first = λ e. absurd (cc e);
      })
  behind_setup all now s line turn out t some on (answers.Ends stop keep loses known stored number ended written left) whole h = absurd (on ended)

  -- the setup, which is the first line
  opened_so : (all : List (List ℕ)) (line : List ℕ) (s : Stage K) (o : OpensNode keeper source s.wanted line) → 0 < length line → some_lines all ≡ [] → IsTold all s
      → IsTold (all ++ line ∷ []) (opened_stage s o s.stop)
  opened_so all line s o some none whole =
      let now : Running K = record { party = party_of o.member; node = o.node } in
      let was : WasRun keeper o.setup o.member [] now = record {
        rows = o.rows;
        last = o.last;
        start = o.node;
        starts = o.begins.starts;
        did = refl;
        settled = settled_on keeper o.begins.starts.fresh o.node.keep o.begins.starts.reopens.keeps o.begins.starts.settled;
        party = refl;
      } in
      record {
        wanted_so = whole.wanted_so;
        known = record {
          first = line;
          setup = o.setup;
          base = o.base;
          reads = o.reads;
          member = o.member;
          asked = subst (λ (w : Option (List ℕ)). IsMember o.setup w o.member) whole.wanted_so o.asked;
          did = [];
          was = was;
          found = o.begins.found;
          numbered = [];
          others = [];
          carries = none_carried;
          are = lines_on all line ∙ ap (λ (l : List (List ℕ)). l ++ kept_line line) none ∙ one_kept line some;
          number = omega arith;
          beyond = λ more. absurd (more refl);
          known = refl;
          changed = [];
          last_change = o.last;
          changes = none_changed;
          marked = λ honest. ap line_of (o.begins.starts.reopens.keeps.same honest) ∙ o.begins.starts.reopens.told honest;
        };
        first = λ e. absurd (cc e);
      }

  one_line : (all : List (List ℕ)) (now : Option (Running K)) (s : Stage K) (line : List ℕ) (turn : Turn) (out : List ℕ) (t : Stage K) → 0 < length line → (turn ≡ Ended → ⊥)
      → s.running ≡ now → s.stop ≡ None → NodeTurn keeper source now s line turn out t → IsTold all s → Known all s now → IsTold (all ++ line ∷ []) t
  one_line all None s line turn out t some on is go (turns.Opened o taken written left) whole known =
      subst (IsTold (all ++ line ∷ [])) (sym left) (opened_so all line s o some (whole.first is go) whole)
  one_line all None s line turn out t some on is go (turns.Untold o ended written left) whole known = absurd (on ended)
  one_line all None s line turn out t some on is go (turns.Unbegun setup base read places spare stop unbegun ended written left) whole known = absurd (on ended)
  one_line all None s line turn out t some on is go (turns.NoSetup fault fails other ended written left) whole known = absurd (on ended)
  one_line all None s line turn out t some on is go (turns.Unread ended written left) whole known = absurd (on ended)
  one_line all (Some now) s line turn out t some on is go gives whole known = behind_setup all now s line turn out t some on gives whole known

  all_known : {echo : Bool} {opened : List ℕ} {all : List (List ℕ)} {ran : Ran} {out : List ℕ} {s : Stage K} →
      AreNumbered (NodeLineGives keeper source) echo (opening wanted opened) all ran out s → IsTold all s
  all_known none_numbered = record { wanted_so = refl; known = tt; first = λ none go. refl }
  all_known (empty_line {s = s} {before = before} earlier) =
      let whole = all_known earlier in
      record {
        wanted_so = whole.wanted_so;
        known = known_behind before s s.running whole.known;
        first = λ none go. lines_on before [] ∙ append-nil (some_lines before) ∙ whole.first none go;
      }
  all_known (taken_line {s = s} {t = t} {line = line} {before = before} {more = more} earlier some gives) =
      let whole = all_known earlier in one_line before s.running s line Taken more t some (λ e. absurd (cc e)) refl (all_go_on keeper source earlier) gives whole whole.known
  all_known (refused_line {s = s} {t = t} {line = line} {before = before} {more = more} earlier some gives) =
      let whole = all_known earlier in one_line before s.running s line Refused more t some (λ e. absurd (cc e)) refl (all_go_on keeper source earlier) gives whole whole.known

  known_of : (all : List (List ℕ)) (s : Stage K) (q : Option (Running K)) (now : Running K) → q ≡ Some now → Known all s q → HasHistory keeper source wanted all s now
  known_of all s q now is known = subst (Known all s) is known

pub runs_are_histories : {K : Type 0} (keeper : Keeper K) (source : Source K) → RunsAreHistories keeper source
runs_are_histories keeper source echo wanted opened all ran out s now answered is =
    let whole = all_known keeper source wanted answered in known_of keeper source wanted all s s.running now is whole.known

-- ---- two runs

restarts : (n : NodeState) → NodeStep n (restart_of n) (restarted n)
restarts (Operates s) = steps.Restarted refl refl
restarts (Provides s) = steps.Restarted refl refl

-- a node that was made of rows is of its opening
made_of_opening : (setup : List Node) (member : Node) (rows : List Row) (n : NodeState) → IsMadeOfRows setup member rows n → IsOfOpening (opening_of setup member) n
made_of_opening setup (node.Operator party site) rows (Operates s) made = ap operator_steps.restarted made.of_site
made_of_opening setup (node.Operator party site) rows (Provides s) made = absurd made
made_of_opening setup (node.Provider party) rows (Operates s) made = absurd made
made_of_opening setup (node.Provider party) rows (Provides s) made = ap provider_steps.restarted made.with_peers

left_is : {K : Type 0} (keeper : Keeper K) (k : K) (c : Content) → keeper.is_honest k → IsSettled keeper k → IsLeftBy keeper k c → c ≡ keeper.content k
left_is keeper k c honest settled (inl is) = is
left_is keeper k c honest settled (inr may) = settled honest c may

module _ (keep : NodesKeepOpenings) (held : ChangesAreHeld) (start : NodesCanStartAgain) (alike : RestartsAreHeld) (classes : AreClasses) where
  run_of_opening : (first s t : NodeState) (xs : List NodeEvent) → IsOfOpening first s → Run NodeStep s xs t → IsOfOpening first t
  run_of_opening first s t [] is did = subst (IsOfOpening first) (sym did) is
  run_of_opening first s t (x ∷ xs) is did = run_of_opening first did.0 t xs (keep.by_steps first s did.0 x is did.1) did.2

  -- of two runs of one node of a setup
  module _ {K : Type 0} (keeper : Keeper K) (setup : List Node) (member : Node) (xs ys : List NodeEvent) (left now : Running K)
      (first : WasRun keeper setup member xs left) (second : WasRun keeper setup member ys now) (later : keeper.is_honest second.start.keep) where
    abbrev fresh : Content
    fresh = keeper.content second.starts.fresh

    of_setup : IsOfOpening (opening_of setup member) left.node.state
    of_setup =
        let made = made_of_opening setup member first.starts.reopens.list first.start.state first.starts.reopens.made in
        run_of_opening (opening_of setup member) first.start.state left.node.state xs made first.did

    -- the second begins over the rows of a node of the opening
    begins_at : (v : NodeState) → CanStartAgain v → IsOfOpening (opening_of setup member) v → HoldsRows fresh v → second.start.state ≡ restarted v
    begins_at v starts is holds =
        second.starts.again later v (record { starts = starts; of_member = is; holds = holds; numbered = subst IsSome (sym (second.starts.reopens.told later)) refl })

    -- over what the first kept
    begins_there : IsStored keeper left.node → keeper.is_honest left.node.keep → fresh ≡ keeper.content left.node.keep → second.start.state ≡ restarted left.node.state
    begins_there stored honest same =
        begins_at left.node.state stored.starts of_setup (subst (λ c. HoldsRows c left.node.state) (sym same) (stored.holds honest))

    knows : fresh ≡ keeper.content left.node.keep → line_of (keeper.content left.node.keep) ≡ Some second.last
    knows same = sym (ap line_of same) ∙ second.starts.reopens.told later

    there : IsStored keeper left.node → keeper.is_honest left.node.keep → (number : ℕ) (line : List ℕ) → fresh ≡ keeper.content left.node.keep
        → GoesOnAtLine keeper left number line second.start.state second.last
    there stored honest number line same = Before_line (begins_there stored honest same) (knows same)

    -- the line was carried out, and changed rows, which were committed with its number
    behind : IsStored keeper left.node → keeper.is_honest left.node.keep → (number : ℕ) (line : List ℕ) (turn : Turn) (out : List ℕ) (did : List NodeEvent) (after : NodeState)
        → Answers left.party left.node.state number line turn out did after → changes_of_each did ≢ []
        → All IsReadAgain (changes_of_each did) → IsLine (Some number) → fresh ≡ marked (Some number) (changed_all (keeper.content left.node.keep) (changes_of_each did))
        → GoesOnAtLine keeper left number line second.start.state second.last
    behind stored honest number line turn out did after is some again is_line made =
        let c = keeper.content left.node.keep in
        let run = line_run is in
        let holds = subst (λ b. HoldsRows b after) (sym made) (marked_holds (Some number) (changed_all c (changes_of_each did)) after
        (held_by_events held start c left.node.state after did stored.starts (stored.holds honest) run again)) in
        let begins = begins_at after (starts_by_events start left.node.state after did run stored.starts) (run_of_opening (opening_of setup member) left.node.state after did of_setup run) holds in
        let last = sym (second.starts.reopens.told later) ∙ ap line_of made ∙ numbers_are_no_rows.is (changed_all c (changes_of_each did)) number is_line.0 is_line.1 in
        Behind_line turn out did after is some begins (cc last)

    pub goes_on_from : IsStored keeper left.node → keeper.is_honest left.node.keep → IsLeftBy keeper left.node.keep fresh → GoesOnFrom keeper setup member xs ys left now first second
    goes_on_from stored honest over =
        let same = left_is keeper left.node.keep fresh honest first.settled over in
        let state = begins_there stored honest same in
        let did = subst (λ (n : NodeState). Run NodeStep n ys now.node.state) state second.did in
        record {
          state = state;
          line = knows same;
          one = joined first.start.state left.node.state now.node.state xs (restart_of left.node.state ∷ ys) first.did (restarted left.node.state, restarts left.node.state, did);
        }

    -- ---- the first ended at a line

    module _ (number : ℕ) (line : List ℕ) (stored : IsStored keeper left.node) where
      untold : (turn : Turn) (out : List ℕ) (next : Running K) (k : K) → (is : LineTurn keeper left number line turn out next) → IsStored keeper next.node → keeper.is_honest next.node.keep
          → Commits keeper (Some number) (changes_of_each is.did) left.node.keep next.node.keep → fresh ≡ keeper.content next.node.keep → GoesOnAtLine keeper left number line second.start.state second.last
      untold turn out next k is after honest (Nothing none same) over =
          there stored (subst keeper.is_honest same honest) number line (over ∙ ap keeper.content same)
      untold turn out next k is after honest (TakenBy some takes) over =
          behind stored (takes.earlier honest) number line turn out is.did next.node.state is.answers some takes.again takes.is_line (over ∙ takes.makes honest)

      pub goes_on_at : (stop : NodeStop) (k : K) → LosesLine keeper left number line stop k → keeper.is_honest k → IsLeftBy keeper k fresh
          → GoesOnAtLine keeper left number line second.start.state second.last
      goes_on_at stop k (answers.WasStarved want same) honest over =
          let here = subst keeper.is_honest same honest in
          there stored here number line (left_is keeper left.node.keep fresh here first.settled (subst (λ (q : K). IsLeftBy keeper q fresh) same over))
      goes_on_at stop k (answers.WasUntold turn out next is after want same) honest over =
          let here = subst keeper.is_honest same honest in
          let settled = settled_by keeper (Some number) is.did left.node.keep next.node.keep is.commits first.settled in
          untold turn out next k is after here is.commits (left_is keeper next.node.keep fresh here settled (subst (λ (q : K). IsLeftBy keeper q fresh) same over))
      goes_on_at stop k (answers.WasDeclined turn out did after is some fault of_commit d told) honest over =
          let here = d.earlier honest in
          elim over [
            | inl same ↦ there stored here number line (same ∙ d.same honest)
            | inr may ↦ elim (d.stops honest fresh may) [
              | inl before ↦ there stored here number line (first.settled here fresh before)
              | inr made ↦ behind stored here number line turn out did after is some made.1 d.is_line made.0
            ]
          ]

  pub two_runs_are_one : {K : Type 0} (keeper : Keeper K) → TwoRunsAreOne keeper
  two_runs_are_one keeper setup member xs ys ended now first second stored honest later over =
      goes_on_from keeper setup member xs ys ended now first second later stored honest over

  pub lost_lines_go_on : {K : Type 0} (keeper : Keeper K) → LostLinesGoOn keeper
  lost_lines_go_on keeper setup member xs ys left now first second number line stop k loses stored honest later over =
      goes_on_at keeper setup member xs ys left now first second later number line stored stop k loses honest over
