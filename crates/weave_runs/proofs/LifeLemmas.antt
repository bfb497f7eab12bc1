-- What is told of runs, as the life of their node: what each event made of it, and what each later run was opened with.
use Rattle.std.proofs.Common.{◌≡◌, ◌≢◌, ◌⊎◌, ◌∙◌, ℕ, suc, List, [], ◌∷◌, ◌++◌, append-nil, length, map, sym, ap, subst, option_map, refl, inl, inr, Ok}
use Rattle.std.proofs.lemmas.Option.{slice_get-map}
use Rattle.std.specs.Prelude.{Contains, None, Option, Some, slice_get}
use Rattle.ocpi_text.specs.Text.{key}
use Rattle.ocpi_types.specs.Setups.{party_of}
use Rattle.ocpi_types.specs.declared.node_events.NodeEvent.{NodeEvent}
use Rattle.ocpi_types.specs.declared.rows.Row.{Row}
use Rattle.ocpi_json.specs.NodeEventForms.{node_event_in}
use Rattle.json_text.specs.Fault.{Read}
use Rattle.histories.proofs.Lists.{got_between, got_left, some_same}
use Rattle.history_laws.specs.Replays.{Does, EntryStep, Idle}
use Rattle.line_runs.specs.declared.run.Turn.{Turn}
use Rattle.node_core.specs.Members.{IsMadeOfRows}
use Rattle.node_lines.specs.NodeLines.{node_line_in, one_of}
use Rattle.node_lines.specs.declared.node_line.NodeLine.TheVariants.{Several}
use Rattle.node_lines.proofs.ElementLemmas.{elements_read}
use Rattle.node_lines.proofs.NodeLineLemmas.{event_found}
use Rattle.node_runs.specs.LineAnswers as answer
use Rattle.node_runs.specs.LineAnswers.{Answers, AreDone, PlacedTurn}
use Rattle.replays.specs.Cutting as cutting
use Rattle.replays.specs.Happenings.{Came, Happening, IsTextAt, Opened, OpenedRun, Placed, came_by, entries_of_done, entries_of_line, entries_of_turn}
use Rattle.replays.specs.LineTurns as line
use Rattle.replays.specs.LineTurns.{AreOf, Held, Kept, LineGives, Lists, Running}
use Rattle.replays.specs.Openings.{Opens, begun, opened_by}
use Rattle.replays.specs.Printed as printed
use Rattle.replays.specs.Printed.{ArePrinted, GoesOn, Prints}
use Rattle.replays.proofs.ReadSetups.{is_setup}
use Rattle.stored_laws.specs.Nodes.{AreNodeRows, CanStartAgain, last_serial}
use Rattle.world_laws.specs.Laws.{IsSetup}
use Rattle.world_steps.specs.Steps.{NodeEvent as Deed}
use Rattle.world_steps.specs.World.{NodeState}
use Rattle.weave_runs.specs.Steps.{IsEventLine}

-- ---- what a history tells

-- the text of an event that came is one of the node of that party
abbrev pub IsReadSo : List ℕ → List ℕ → Placed → Type 0
IsReadSo party text x = (element : List ℕ) → IsTextAt text x.place element → IsEventLine party x.entry element

-- the node of a run is made of the rows that there were, by a setup that has the party which was asked for
pub record OpensSo (wanted : List ℕ) (Had : List Row → Type 0) (o : OpenedRun) (s : NodeState) : Type 0 where
  pub is_setup : IsSetup o.setup
  pub within : Contains o.setup o.member
  pub same : key (party_of o.member) ≡ key wanted
  pub rows : List Row
  pub had : Had rows
  pub made : IsMadeOfRows o.setup o.member rows s
  pub starts : CanStartAgain s
  pub count : o.rows ≡ length rows
  pub serial : o.serial ≡ last_serial s

-- what is told leads from one state to the other, from a run on whose node is of that party, as its setup spells it
abbrev pub Leads : List ℕ → List ℕ → NodeState → List Happening → NodeState → Type 0
Leads wanted party s [] t = s ≡ t
Leads wanted party s (Came text x ∷ hs) t = (u : NodeState) × EntryStep s x.entry u × IsReadSo party text x × Leads wanted party u hs t
Leads wanted party s (Opened o ∷ hs) t = (u : NodeState) × OpensSo wanted (λ rows. AreNodeRows rows s) o u × Leads wanted (party_of o.member) u hs t

-- ---- one behind the other

module _ (w : List ℕ) where
  -- a later run is opened with its own party
  join : (p : List ℕ) (s u t : NodeState) (hs ks : List Happening) → Leads w p s hs u → ((q : List ℕ) → Leads w q u ks t) → Leads w p s (hs ++ ks) t
  join p s u t [] ks leads later = subst (λ (n : NodeState). Leads w p n ks t) (sym leads) (later p)
  join p s u t (Came text x ∷ hs) ks (v, step, reads, rest) later = (v, step, reads, join p v u t hs ks rest later)
  join p s u t (Opened o ∷ hs) ks (v, opens, rest) later = (v, opens, join (party_of o.member) v u t hs ks rest later)

  came_join : (p : List ℕ) (s u t : NodeState) (text : List ℕ) (xs : List Placed) (ks : List Happening) → Leads w p s (came_by text xs) u → Leads w p u ks t
      → Leads w p s (came_by text xs ++ ks) t
  came_join p s u t text [] ks leads later = subst (λ (n : NodeState). Leads w p n ks t) (sym leads) later
  came_join p s u t text (x ∷ xs) ks (v, step, reads, rest) later = (v, step, reads, came_join p v u t text xs ks rest later)

  came_more : (p : List ℕ) (s u t : NodeState) (text : List ℕ) (xs ys : List Placed) → Leads w p s (came_by text xs) u → Leads w p u (came_by text ys) t
      → Leads w p s (came_by text (xs ++ ys)) t
  came_more p s u t text [] ys leads later = subst (λ (n : NodeState). Leads w p n (came_by text ys) t) (sym leads) later
  came_more p s u t text (x ∷ xs) ys (v, step, reads, rest) later = (v, step, reads, came_more p v u t text xs ys rest later)

-- ---- a line

-- the element at a place of a line is read as that
abbrev IsRead : List ℕ → Option ℕ → Read NodeEvent → Type 0
IsRead text place read = (x : NodeEvent) → read ≡ Ok x → (element : List ℕ) → IsTextAt text place element → node_event_in element ≡ Ok x

abbrev AreRead : List ℕ → List (Read NodeEvent) → Type 0
AreRead text events = (k : ℕ) (read : Read NodeEvent) → slice_get events k ≡ Some read → IsRead text (Some k) read

several_read : (text : List ℕ) (events : List (Read NodeEvent)) → node_line_in text ≡ Ok (Several events) → AreRead text events
several_read text events is k read at x reads element (texts, are, here) =
    some_same (node_event_in element) read (
    ap (option_map node_event_in) (sym here) ∙ sym (slice_get-map node_event_in texts k) ∙ ap (λ (l : List (Read NodeEvent)). slice_get l k) (elements_read text texts events are is) ∙ at)
    ∙ reads

one_read : (text : List ℕ) (read : Read NodeEvent) → node_line_in text ≡ one_of read → IsRead text None read
one_read text read is x reads element same =
    ap node_event_in same ∙ event_found text x (is ∙ ap one_of reads)

module _ (w : List ℕ) where
  turn_leads : {party : List ℕ} {now : NodeState} {number : ℕ} {place : Option ℕ} {read : Read NodeEvent} {turn : Turn} {out : List ℕ} {did : List Deed} {next : NodeState}
      → (turns : PlacedTurn party now number place read turn out did next) → (text : List ℕ) → IsRead text place read → Leads w party now (came_by text (entries_of_turn turns)) next
  turn_leads {next = next} (answer.WasDone x own deed brings step changed tells taken written one) text reads = (
    next,
    Does deed (record { brings = brings; step = step; sends = refl }),
    (λ element at. record { event = x; reads = reads x own.is element at; own = own.same; same = refl }),
    refl,
  )
  turn_leads {now = now} (answer.WasUnstored x own unstored taken written none same) text reads = (
    now,
    Idle (record { why = inl unstored; sends = refl; same = refl }),
    (λ element at. record { event = x; reads = reads x own.is element at; own = own.same; same = refl }),
    sym same,
  )
  turn_leads (answer.IsElsewhere x is other taken written none same) text reads = sym same
  turn_leads (answer.IsOfOtherRole x own stored nothing taken written none same) text reads = sym same
  turn_leads (answer.IsMalformed fault is other refused written none same) text reads = sym same
  turn_leads (answer.IsRefused x own input brings fault refuses other refused written none same) text reads = sym same

  done_leads : {party : List ℕ} {first : NodeState} {number : ℕ} {events : List (Read NodeEvent)} {turn : Turn} {out : List ℕ} {did : List Deed} {next : NodeState}
      → (done : AreDone party first number events turn out did next) → (text : List ℕ) → AreRead text events → Leads w party first (came_by text (entries_of_done done)) next
  done_leads answer.none_done text reads = refl
  done_leads {party = party} {first = first} {next = next} (answer.one_taken {before = before} {now = now} {read = read} done turns) text reads =
      came_more w party first now next text (entries_of_done done) (entries_of_turn turns) (done_leads done text (λ k r at. reads k r (got_left before (read ∷ []) k r at)))
      (turn_leads turns text (reads (length before) read (got_between before read [] (length before) refl)))
  done_leads {party = party} {first = first} {next = next} (answer.one_refused {before = before} {now = now} {read = read} done turns) text reads =
      came_more w party first now next text (entries_of_done done) (entries_of_turn turns) (done_leads done text (λ k r at. reads k r (got_left before (read ∷ []) k r at)))
      (turn_leads turns text (reads (length before) read (got_between before read [] (length before) refl)))

  answers_lead : {party : List ℕ} {now : NodeState} {number : ℕ} {text : List ℕ} {turn : Turn} {out : List ℕ} {did : List Deed} {next : NodeState}
      → (answers : Answers party now number text turn out did next) → Leads w party now (came_by text (entries_of_line answers)) next
  answers_lead {text = text} (answer.OneEvent read is turns) = turn_leads turns text (one_read text read is)
  answers_lead {text = text} (answer.SeveralEvents events is carries) = done_leads carries.done text (several_read text events is)

  -- a line leaves the node of its party
  record LineLeads (now : Running) (text : List ℕ) (entered : List Placed) (next : Running) : Type 0 where
    party : next.party ≡ now.party
    leads : Leads w now.party now.state (came_by text entered) next.state

  line_leads : (now : Running) (text out : List ℕ) (entered : List Placed) (did : List Deed) (next : Running) → LineGives now text out entered did next → LineLeads now text entered next
  line_leads now text out entered did next (line.WasKnown known written none nothing is) = record {
    party = ap (λ (r : Running). r.party) is;
    leads = subst (λ (xs : List Placed). Leads w now.party now.state (came_by text xs) next.state) (sym none) (sym (ap (λ (r : Running). r.state) is));
  }
  line_leads now text out entered did next (line.WasBeyond above last written none nothing is) = record {
    party = ap (λ (r : Running). r.party) is;
    leads = subst (λ (xs : List Placed). Leads w now.party now.state (came_by text xs) next.state) (sym none) (sym (ap (λ (r : Running). r.state) is));
  }
  line_leads now text out entered did next (line.WasRead above below turn after answers came is) = record {
    party = ap (λ (r : Running). r.party) is;
    leads = subst (λ (xs : List Placed). Leads w now.party now.state (came_by text xs) next.state) (sym came)
        (subst (λ (n : NodeState). Leads w now.party now.state (came_by text (entries_of_line answers)) n) (sym (ap (λ (r : Running). r.state) is)) (answers_lead answers));
  }

  -- ---- a run

  -- what is told behind an opening leads to the node whose rows are left
  abbrev GoesTo : Running → List Happening → Held → Type 0
  GoesTo now told left = (t : NodeState) × Leads w now.party now.state told t × AreOf left.kept t

  goes_to : (now : Running) (text : List ℕ) (told : List Happening) (left : Held) → GoesOn now text told left → GoesTo now told left
  goes_to now text told left (printed.Stopped fed is front more cut kept_by kept) = (now.state, refl, kept.rows)
  goes_to now text told left (printed.TookHold fed is out entered did next gives changed kept_by kept) =
      (next.state, (line_leads now fed out entered did next gives).leads, kept.rows)
  goes_to now text told left (printed.Cut fed is out entered did next gives front more cut some kept_by kept) =
      (next.state, (line_leads now fed out entered did next gives).leads, kept.rows)
  goes_to now text told left (printed.Whole fed is out entered did next gives behind said kept_by on) =
      let first = line_leads now fed out entered did next gives in
      let (t, leads, of) = goes_to next behind said kept_by on in
      (t, came_join w now.party now.state next.state t fed entered said first.leads (subst (λ (p : List ℕ). Leads w p next.state said t) first.party leads), of)

-- what a run tells: nothing, and it leaves what it found; or that its node was opened, and what that did
data RunTells (w : List ℕ) (found : Held) (told : List Happening) (left : Held) : Type 0 where
  TellsNothing : told ≡ [] → left ≡ found → RunTells w found told left
  TellsRun : (o : OpenedRun) (hs : List Happening) (s t : NodeState) → told ≡ Opened o ∷ hs → OpensSo w (Lists found.kept) o s → Leads w (party_of o.member) s hs t → AreOf left.kept t
      → RunTells w found told left

opens_so : {w : List ℕ} {held : Held} {text : List ℕ} → (o : Opens w held text) → OpensSo w (Lists held.kept) (opened_by o) o.state
opens_so {w = w} {text = text} o = record {
  is_setup = is_setup text o.setup o.base o.reads;
  within = o.asked.within;
  same = o.asked.same ∙ ap key (sym (some_same w o.asked.party o.asked.asked));
  rows = o.rows;
  had = o.lists;
  made = o.made;
  starts = o.starts;
  count = refl;
  serial = refl;
}

run_tells : (w : List ℕ) (found : Held) (text : List ℕ) (told : List Happening) (left : Held) → Prints w found text told left → RunTells w found told left
run_tells w found text told left (printed.NotBegun fed is front more cut) = TellsNothing refl refl
run_tells w found text told left (printed.NoSetup fed is fault fails other front more cut some) = TellsNothing refl refl
run_tells w found text told left (printed.CutOpening fed is o front more cut some long) = TellsNothing refl refl
run_tells w found text told left (printed.BareOpening fed is o front cut kept_by kept) = TellsRun (opened_by o) [] o.state o.state refl (opens_so o) refl kept.rows
run_tells w found text told left (printed.Begun fed is o behind said kept_by on) =
    let (t, leads, of) = goes_to w (begun o) behind said kept_by on in
    TellsRun (opened_by o) said o.state t refl (opens_so o) leads of

-- ---- all runs

-- nothing is told, or the life of the node
pub data Life (w : List ℕ) (held : Held) (told : List Happening) : Type 0 where
  NoLife : told ≡ [] → Life w held told
  Living : (o : OpenedRun) (hs : List Happening) (s t : NodeState) → told ≡ Opened o ∷ hs → OpensSo w (Lists held.kept) o s → Leads w (party_of o.member) s hs t → Life w held told

rows_of : (k : Kept) (rows : List Row) (n : NodeState) → Lists k rows → AreOf k n → AreNodeRows rows n
rows_of (line.Listed given) rows n lists of = subst (λ (l : List Row). AreNodeRows l n) (sym lists) of
rows_of (line.OfNode m) rows n lists of = subst (AreNodeRows rows) of lists

opens_over : (w : List ℕ) (k : Kept) (n : NodeState) (o : OpenedRun) (s : NodeState) → AreOf k n → OpensSo w (Lists k) o s → OpensSo w (λ rows. AreNodeRows rows n) o s
opens_over w k n o s of opens = record {
  is_setup = opens.is_setup;
  within = opens.within;
  same = opens.same;
  rows = opens.rows;
  had = rows_of k opens.rows n opens.had of;
  made = opens.made;
  starts = opens.starts;
  count = opens.count;
  serial = opens.serial;
}

more_lives : (w : List ℕ) (held left : Held) (told later : List Happening) → RunTells w held told left → Life w left later → Life w held (told ++ later)
more_lives w held left told later (TellsNothing none same) life =
    subst (λ (l : List Happening). Life w held (l ++ later)) (sym none) (subst (λ (h : Held). Life w h later) same life)
more_lives w held left told later (TellsRun o hs s t is opens leads of) (NoLife none) =
    Living o hs s t (ap (λ (l : List Happening). told ++ l) none ∙ append-nil told ∙ is) opens leads
more_lives w held left told later (TellsRun o hs s t is opens leads of) (Living p ks u v next opens_next leads_next) =
    Living o (hs ++ later) s v (ap (λ (l : List Happening). l ++ later) is) opens
    (subst (λ (l : List Happening). Leads w (party_of o.member) s (hs ++ l) v) (sym next)
    (join w (party_of o.member) s t v hs (Opened p ∷ ks) leads (λ q. (u, opens_over w left.kept t p u of opens_next, leads_next))))

pub life_of : (w : List ℕ) (held : Held) (text : List ℕ) (told : List Happening) → ArePrinted w held text told → Life w held told
life_of w held text told cutting.NoMore = NoLife refl
life_of w held text told (cutting.AtOnce {rest = rest} more) = life_of w held rest told more
life_of w held text all (cutting.OneMore {left = left} {run = run} {rest = rest} {told = told} {later = later} prints plain more) =
    more_lives w held left told later (run_tells w held run told left prints) (life_of w left rest later more)
