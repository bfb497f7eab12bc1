-- The lines of entries, and those of the entries that turns name.
use Rattle.std.proofs.Common.{◌≡◌, ◌≢◌, ◌∙◌, zero, suc, ℕ, ◌+◌, ◌<◌, List, [], ◌∷◌, ◌++◌, get_or, length, take, map, sym, ap, subst, option_map, arith, refl, Ok, Err, OnOk, Result, ◌⊎◌, inl, inr}
use Rattle.std.proofs.lemmas.List.{append-nil, append_assoc, length-map}
use Rattle.std.proofs.lemmas.List.Concat.{flat_map-append}
use Rattle.std.proofs.lemmas.Option.{slice_get-get_or, slice_get-map, slice_get_within}
use Rattle.std.proofs.lemmas.List.Elements.{Contains-append_cases}
use Rattle.std.specs.Prelude.{Contains, Some, flat_map, slice_get}
use Rattle.ocpi_text.specs.Text.{key}
use Rattle.ocpi_types.specs.declared.events.Event.{Event}
use Rattle.ocpi_types.specs.declared.events.EventKind.TheVariants as kind
use Rattle.ocpi_types.specs.declared.node_events.NodeEventKind.{NodeEventKind}
use Rattle.ocpi_types.specs.declared.node_events.NodeEventKind.TheVariants as event
use Rattle.ocpi_types.specs.declared.packet.Packet.{Packet}
use Rattle.ocpi_types.specs.declared.setup.Node.{Node}
use Rattle.histories.specs.declared.entry.Entry.{Entry}
use Rattle.histories.specs.declared.history.NodeHistory.{NodeHistory}
use Rattle.histories.specs.Weaving.{Woven, event_of, kind_of}
use Rattle.histories.proofs.Lists.{is_in, some_same, stands, take_one}
use Rattle.node_replay.specs.Replayed.{restart_entry}
use Rattle.replays.specs.Transcripts.{IsTranscript, Transcript, opening_of, party_opened, teller}
use Rattle.replays.specs.declared.cutting.EchoedLine.{EchoedLine}
use Rattle.replays.specs.declared.transcript.Opening.{Opening}
use Rattle.replays.specs.declared.transcript.Source.{Source}
use Rattle.replays.specs.declared.transcript.Source.TheVariants as origin
use Rattle.tables.proofs.Elements.{in_none, in_single}
use Rattle.transcript_lines.specs.EventLines.{NodeLinesAreLines, delivery_text, restart_text}
use Rattle.weave.specs.declared.turn.Turn.{Turn}
use Rattle.weave.specs.Given.{InterleavesWith}
use Rattle.weave.specs.Turns.{AreTurns, IsOrderWith, IsTurn}
use Rattle.weave.proofs.Places.{got_by}
use Rattle.weave.proofs.Turning.{one_entry, turn_at}
use Rattle.weave_runs.specs.Histories.{AreHistories, AreTold, Lived, lived, lived_told}
use Rattle.weave_runs.specs.Refusals.{spelled}
use Rattle.weave_runs.specs.Steps.{AddsDelivery, AddsFirst, AddsLine, AddsNew, AddsOtherSetup, AddsRestart, AddsSetups, AddsStep, AddsTurn, AreNamed, AreSourced, AreStepsOf, Came, Delivered, Given, HasFirstSetup, HasNewSetup, HasSources, HasSteps, HasStepsAndSetups, IsEventLine, IsFirst, IsLater, IsNamed, IsNew, IsNone, IsOfRuns, IsSame, IsSourceIn, IsStep, IsStepIn, IsStepOf, IsTakenAsItCame, Names, Restarted, Step, ended, entry_of, lines_text, step_text, step_with_setups}
use Rattle.weave_runs.proofs.RunLemmas.{IsOwn}

pub on_ok : {T E P Q : Type 0} (r : Result T E) → (P → Q) → OnOk r P → OnOk r Q
on_ok (Ok x) f h = f h
on_ok (Err e) f h = tt

-- ---- the line of an entry

-- an event is a delivery, or is none
is_delivery : (k : NodeEventKind) → ((at : ℕ) × (q : Packet) × (k ≡ event.Deliver at q)) ⊎ ((at : ℕ) (q : Packet) → k ≡ event.Deliver at q → ⊥)
is_delivery (event.Submit at to order) = inr (λ a q e. cc)
is_delivery (event.Token at token) = inr (λ a q e. cc)
is_delivery (event.Service evse_uid in_service) = inr (λ a q e. cc)
is_delivery (event.Charger at report) = inr (λ a q e. cc)
is_delivery (event.Credit at session_id) = inr (λ a q e. cc)
is_delivery (event.Deliver at packet) = inl (at, packet, refl)
is_delivery (event.Tick at) = inr (λ a q e. cc)
is_delivery event.Restart = inr (λ a q e. cc)
is_delivery event.Refused = inr (λ a q e. cc)

module _ (given : List (List ℕ)) (hs : List NodeHistory) (x : Opening) (e : Entry) where
  -- the step of that entry, with that line, which tells that event
  abbrev step_of : List ℕ → List (List ℕ) → Event → List ℕ → Step
  step_of party setups tells line = record { entry = record { party = party; entry = e }; node = party_opened x; nodes = x.setup; setups = setups; event = tells; line = line }

  in_run : (party : List ℕ) (setups : List (List ℕ)) (tells : Event) (line : List ℕ) → IsStep given hs (step_of party setups tells line)
      → IsStepIn given hs (record { party = party; entry = e }) x setups (step_of party setups tells line)
  in_run party setups tells line is = record { entry = refl; node = refl; nodes = refl; setups_are = refl; is_step = is }

  -- a delivery that is not taken as it came
  pub delivered : (at : ℕ) (q : Packet) (before after : List ℕ) → e.event ≡ event.Deliver at q → (IsTakenAsItCame given hs q → ⊥) → AddsDelivery x.setup (party_opened x) at q before after
      → AddsStep given hs x e before after
  delivered at q before after is asked adds party setups =
      let tells : Event = record { node = party_opened x; kind = kind.Deliver at (spelled x.setup q.from) q.serial } in
      let line = delivery_text at (spelled x.setup q.from) (party_opened x) q.serial in
      (step_of party setups tells line, in_run party setups tells line (Delivered at q is asked refl refl adds.reads), adds.added)

  -- a start between runs
  pub restarted : (before after : List ℕ) → e ≡ restart_entry → AddsRestart (party_opened x) before after → AddsStep given hs x e before after
  restarted before after is adds party setups =
      let tells : Event = record { node = party_opened x; kind = kind.Restart } in
      let line = restart_text (party_opened x) in
      (step_of party setups tells line, in_run party setups tells line (Restarted is refl refl adds.reads), adds.added)

  -- a delivery that is taken as it came
  came_given : (line before after : List ℕ) → IsEventLine (party_opened x) e line → (at : ℕ) (q : Packet) → e.event ≡ event.Deliver at q → IsTakenAsItCame given hs q
      → AddsLine line before after → AddsStep given hs x e before after
  came_given line before after is at q delivers taken adds party setups =
      let tells = event_of (record { party = party; entry = e }) in
      (step_of party setups tells line, in_run party setups tells line (Given at q delivers taken is refl), adds)

  -- any other, as it came
  came_other : NodeLinesAreLines → (line before after : List ℕ) → IsEventLine (party_opened x) e line → ((at : ℕ) (q : Packet) → e.event ≡ event.Deliver at q → ⊥)
      → AddsLine line before after → AddsStep given hs x e before after
  came_other law line before after is none adds party setups =
      let tells : Event = record { node = is.event.node; kind = kind_of is.event.kind } in (
        step_of party setups tells line,
        in_run party setups tells line (Came (law line is.event is.reads (λ at q delivers. none at q (sym is.same ∙ delivers))) is.own (ap kind_of is.same)),
        adds,
      )

  -- what came as it is written: each delivery is taken as it came
  pub came : NodeLinesAreLines → (line before after : List ℕ) → IsEventLine (party_opened x) e line → ((at : ℕ) (q : Packet) → e.event ≡ event.Deliver at q → IsTakenAsItCame given hs q)
      → AddsLine line before after → AddsStep given hs x e before after
  came law line before after is from adds = elim (is_delivery e.event) [
    | inl (at, q, delivers) ↦ came_given line before after is at q delivers (from at q delivers) adds
    | inr none ↦ came_other law line before after is none adds
  ]

  -- the same, of what an entry's run is called
  module _ (nodes : List Node) (party : List ℕ) (nodes_are : nodes ≡ x.setup) (party_is : party ≡ party_opened x) where
    pub delivered_so : (at : ℕ) (q : Packet) (before after : List ℕ) → e.event ≡ event.Deliver at q → (IsTakenAsItCame given hs q → ⊥) → AddsDelivery nodes party at q before after
        → AddsStep given hs x e before after
    delivered_so at q before after is asked adds =
        delivered at q before after is asked
        (subst (λ (ns : List Node). AddsDelivery ns (party_opened x) at q before after) nodes_are (subst (λ (p : List ℕ). AddsDelivery nodes p at q before after) party_is adds))

    pub restarted_so : (source : Source) (at : ℕ) (before after : List ℕ) → source ≡ origin.Restarted at → IsSourceIn x e source → AddsRestart party before after → AddsStep given hs x e before after
    restarted_so source at before after same is adds =
        restarted before after (subst (IsSourceIn x e) same is) (subst (λ (p : List ℕ). AddsRestart p before after) party_is adds)

  pub came_so : NodeLinesAreLines → (source : Source) (at : ℕ) (line : EchoedLine) (before after : List ℕ) → source ≡ origin.Echoed at line → IsSourceIn x e source
      → ((at : ℕ) (q : Packet) → e.event ≡ event.Deliver at q → IsTakenAsItCame given hs q) → AddsLine line.bytes.now before after → AddsStep given hs x e before after
  came_so law source at line before after same is from adds = came law line.bytes.now before after (subst (IsSourceIn x e) same is) from adds

-- ---- the setup lines before an entry

pub first_setup : (openings : List Opening) (place : ℕ) → openings ≢ [] → (first : List (List ℕ)) × HasFirstSetup openings place first
first_setup [] place some = absurd (some refl)
first_setup (x ∷ openings) zero some = (x.line.bytes.now ∷ [], IsFirst x refl refl)
first_setup (x ∷ openings) (suc k) some = ([], IsLater (λ none. omega (arith, none)))

-- where all runs have one setup, none stands before a restart
pub same_setup : (t : Transcript) (setup : List Node) (s : Source) → ((x : Opening) → Contains t.openings x → x.setup ≡ setup) → ((at : ℕ) → s ≡ origin.Restarted at → at ≢ 0)
    → (y : Opening) → slice_get t.openings (opening_of s) ≡ Some y → HasNewSetup t.openings s []
same_setup t setup (origin.Echoed at line) all later y here = IsNone (λ place e. cc)
same_setup t setup (origin.Restarted zero) all later y here = absurd (later zero refl refl)
same_setup t setup (origin.Restarted (suc n)) all later y here =
    let within = slice_get_within t.openings (suc n) y here in
    let before = stands t.openings n (omega (arith, within)) in
    IsSame n before.0 y refl before.1 here (all before.0 (is_in t.openings n before.0 before.1) ∙ sym (all y (is_in t.openings (suc n) y here)))

-- where they differ from those before, they stand there
pub new_setup : (openings : List Opening) (at : ℕ) (before after : List ℕ) → at ≢ 0 → at < length openings → AddsOtherSetup openings at before after
    → AddsNew openings (origin.Restarted at) before after
new_setup openings zero before after later within adds = absurd (later refl)
new_setup openings (suc n) before after later within adds =
    let x = stands openings n (omega (arith, within)) in
    let y = stands openings (suc n) within in
    of x.0 x.1 y.0 y.1 (adds n x.0 y.0 refl x.1 y.1)
  where
    of : (x : Opening) → slice_get openings n ≡ Some x → (y : Opening) → slice_get openings (suc n) ≡ Some y
        → ((x.setup ≡ y.setup) × (after ≡ before)) ⊎ ((x.setup ≢ y.setup) × AddsLine y.line.bytes.now before after)
        → AddsNew openings (origin.Restarted (suc n)) before after
    of x here y there (inl (same, nothing)) = ([], IsSame n x y refl here there same, nothing ∙ sym (append-nil before))
    of x here y there (inr (apart, added)) = (y.line.bytes.now ∷ [], IsNew n x y refl here there apart, added ∙ ap (λ l. before ++ l) (sym (append-nil (ended y.line.bytes.now))))

pub no_setup : (openings : List Opening) (s : Source) (at : ℕ) (line : EchoedLine) (before after : List ℕ) → s ≡ origin.Echoed at line → after ≡ before → AddsNew openings s before after
no_setup openings s at line before after is same = ([], IsNone (λ place other. apart place (sym is ∙ other)), same ∙ sym (append-nil before))
  where
    apart : (place : ℕ) → origin.Echoed at line ≡ origin.Restarted place → ⊥
    apart place e = cc

pub first_here : (openings : List Opening) (place : ℕ) (x : Opening) (later : List Opening) (before after : List ℕ) → place ≡ 0 → openings ≡ x ∷ later → AddsLine x.line.bytes.now before after
    → AddsFirst openings place before after
first_here openings place x later before after none is added =
    (x.line.bytes.now ∷ [], IsFirst x none (ap (λ (l : List Opening). slice_get l 0) is), added ∙ ap (λ l. before ++ l) (sym (append-nil (ended x.line.bytes.now))))

pub first_later : (openings : List Opening) (place : ℕ) (before after : List ℕ) → place ≢ 0 → after ≡ before → AddsFirst openings place before after
first_later openings place before after some same = ([], IsLater some, same ∙ sym (append-nil before))

-- what a turn names, as it was read
pub record TurnAt (told : List Transcript) (t : Turn) (u : Transcript) (from : Source) (x : Opening) (e : Entry) : Type 0 where
  pub here : slice_get told t.history ≡ Some u
  pub inside : Contains told u
  pub comes : slice_get u.sources t.entry ≡ Some from
  pub of_run : slice_get u.openings (opening_of from) ≡ Some x
  pub opened : Contains u.openings x
  pub stands : slice_get u.entries t.entry ≡ Some e

-- what is known of the entry that a turn names, by its places
module _ (told : List Transcript) (t : Turn) (u : Transcript) (here : slice_get told t.history ≡ Some u) where
  same_teller : (w : Woven) (names : Names told t w) → names.teller_of ≡ u
  same_teller w names = some_same names.teller_of u (sym names.here ∙ here)

  same_source : (w : Woven) (names : Names told t w) (from : Source) → slice_get u.sources t.entry ≡ Some from → names.source ≡ from
  same_source w names from comes =
      some_same names.source from (sym names.comes_from ∙ ap (λ (v : Transcript). slice_get v.sources t.entry) (same_teller w names) ∙ comes)

  pub sources_within : (w : Woven) → Names told t w → t.entry < length u.sources
  sources_within w names =
      slice_get_within u.sources t.entry names.source (subst (λ (v : Transcript). slice_get v.sources t.entry ≡ Some names.source) (same_teller w names) names.comes_from)

  pub entries_within : (w : Woven) → Names told t w → t.entry < length u.entries
  entries_within w names = slice_get_within u.entries t.entry w.entry (subst (λ (v : Transcript). slice_get v.entries t.entry ≡ Some w.entry) (same_teller w names) names.stands)

  pub setups_add : (from : Source) → slice_get u.sources t.entry ≡ Some from → (before between after : List ℕ) → AddsFirst u.openings t.entry before between → AddsNew u.openings from between after
      → AddsSetups told t before after
  setups_add from comes before between after (first, has_first, put) (later, has_new, added) w names =
      let teller = sym (same_teller w names) in
      let source = sym (same_source w names from comes) in (
        first,
        subst (λ (v : Transcript). HasFirstSetup v.openings t.entry first) teller has_first,
        (
          later,
          subst (λ (s : Source). HasNewSetup names.teller_of.openings s later) source (subst (λ (v : Transcript). HasNewSetup v.openings from later) teller has_new),
          added ∙ ap (λ l. l ++ lines_text later) put ∙ append_assoc before (lines_text first) (lines_text later) ∙ ap (λ l. before ++ l) (sym (flat_map-append ended first later)),
        ),
      )

  pub turn_adds : (given : List (List ℕ)) (hs : List NodeHistory) (e : Entry) → slice_get u.entries t.entry ≡ Some e → (from : Source) → slice_get u.sources t.entry ≡ Some from
      → (x : Opening) → slice_get u.openings (opening_of from) ≡ Some x → (before after : List ℕ) → AddsStep given hs x e before after → AddsTurn given hs told t before after
  turn_adds given hs e stands from comes x of_run before after adds w names setups =
      let teller = same_teller w names in
      let entry : w.entry ≡ e = some_same w.entry e (sym names.stands ∙ ap (λ (v : Transcript). slice_get v.entries t.entry) teller ∙ stands) in
      let opening : names.opening ≡ x = some_same names.opening x (sym names.of_run ∙ ap (λ (v : Transcript). slice_get v.openings (opening_of names.source)) teller
      ∙ ap (λ (s : Source). slice_get u.openings (opening_of s)) (same_source w names from comes) ∙ of_run) in
      let (s, is, added) = adds w.party setups in
      let woven : s.entry ≡ w = is.entry ∙ ap (λ (f : Entry). record { party = w.party; entry = f }) (sym entry) in (
        s,
        record {
          entry = woven;
          node = is.node ∙ ap party_opened (sym opening);
          nodes = is.nodes ∙ ap (λ (y : Opening). y.setup) (sym opening);
          setups_are = is.setups_are;
          is_step = is.is_step;
        },
        added,
      )

  -- each restart is of a later run
  pub of_runs : HasSources u → IsTranscript u → (from : Source) → slice_get u.sources t.entry ≡ Some from → IsOfRuns u.openings from
  of_runs has is from comes = of from (is_in u.sources t.entry from comes)
    where
      of : (from : Source) → Contains u.sources from → IsOfRuns u.openings from
      of (origin.Echoed at line) within = tt
      of (origin.Restarted at) within = (has.later at within, is.runs (origin.Restarted at) within)

pub as_read : (told : List Transcript) (t : Turn) (u : Transcript) → IsNamed told t → AreTold told → u ≡ get_or told t.history u → {sources : List Source} → sources ≡ u.sources
    → {openings : List Opening} → openings ≡ u.openings → {entries : List Entry} → entries ≡ u.entries → (d : Source) → {place : ℕ} → place ≡ opening_of (get_or sources t.entry d)
    → {x : Opening} → x ≡ get_or openings place x → {e : Entry} → e ≡ get_or entries t.entry e → TurnAt told t u (get_or sources t.entry d) x e
as_read told t u (w, names) all is {sources = sources} sources_are {openings = openings} openings_are {entries = entries} entries_are d {place = place} place_is {x = x} x_is {e = e} e_is =
    let here = got_by told t.history u (slice_get_within told t.history names.teller_of names.here) is in
    let inside = is_in told t.history u here in
    let from = get_or sources t.entry d in
    let comes : slice_get u.sources t.entry ≡ Some from = ap (λ (l : List Source). slice_get l t.entry) (sym sources_are)
    ∙ slice_get-get_or sources t.entry d (subst (λ (l : List Source). t.entry < length l) (sym sources_are) (sources_within told t u here w names)) in
    let run = (all.each u inside).runs from (is_in u.sources t.entry from comes) in
    let within : place < length openings = subst (λ (n : ℕ). n < length openings) (sym place_is) (subst (λ (l : List Opening). opening_of from < length l) (sym openings_are) run) in
    let of_run : slice_get u.openings (opening_of from) ≡ Some x = ap (λ (l : List Opening). slice_get l (opening_of from)) (sym openings_are)
    ∙ ap (λ (n : ℕ). slice_get openings n) (sym place_is) ∙ got_by openings place x within x_is in
    record {
      here = here;
      inside = inside;
      comes = comes;
      of_run = of_run;
      opened = is_in u.openings (opening_of from) x of_run;
      stands = ap (λ (l : List Entry). slice_get l t.entry) (sym entries_are)
          ∙ got_by entries t.entry e (subst (λ (l : List Entry). t.entry < length l) (sym entries_are) (entries_within told t u here w names)) e_is;
    }

-- ---- the lines of turns

pub one_behind : {X : Type 0} (f : X → List ℕ) (xs : List X) (x : X) (front before after : List ℕ) → before ≡ front ++ flat_map f xs → after ≡ before ++ f x → after ≡ front ++ flat_map f (xs ++ x ∷ [])
one_behind f xs x front before after is added =
    added ∙ ap (λ l. l ++ f x) is ∙ append_assoc front (flat_map f xs) (f x)
    ∙ ap (λ l. front ++ l) (ap (λ l. flat_map f xs ++ l) (sym (append-nil (f x))) ∙ sym (flat_map-append f xs (x ∷ [])))

module _ (given : List (List ℕ)) (hs : List NodeHistory) (told : List Transcript) where
  pub steps_push : (ts : List Turn) (steps : List Step) (t : Turn) (s : Step) → AreStepsOf given hs told ts steps → IsStepOf given hs told t s → AreStepsOf given hs told (ts ++ t ∷ []) (steps ++ s ∷ [])
  steps_push [] [] t s h is = (is, tt)
  steps_push [] (y ∷ steps) t s h is = absurd h
  steps_push (u ∷ ts) [] t s h is = absurd h
  steps_push (u ∷ ts) (y ∷ steps) t s (first, rest) is = (first, steps_push ts steps t s rest is)

  -- each of them is one
  pub each_step : (ts : List Turn) (steps : List Step) → AreStepsOf given hs told ts steps → (s : Step) → Contains steps s → (t : Turn) × IsStepOf given hs told t s
  each_step [] [] h s within = absurd (in_none s within)
  each_step [] (y ∷ steps) h s within = absurd h
  each_step (t ∷ ts) [] h s within = absurd h
  each_step (t ∷ ts) (y ∷ steps) (first, rest) s within = elim (Contains-append_cases (y ∷ []) steps s within) [
    | inl here ↦ (t, subst (IsStepOf given hs told t) (in_single y s here) first)
    | inr later ↦ each_step ts steps rest s later
  ]

  pub each_own : AreSourced told → (ts : List Turn) (steps : List Step) → AreStepsOf given hs told ts steps → (s : Step) → Contains steps s → IsStep given hs s × IsOwn s
  each_own sourced ts steps are s within =
      let (t, is) = each_step ts steps are s within in
      let names = is.names in
      let inside = is_in told t.history names.teller_of names.here in
      let run = is_in names.teller_of.openings (opening_of names.source) names.opening names.of_run in
      (is.is_step, ap key is.node ∙ (sourced names.teller_of inside).parties names.opening run ∙ ap key names.party)

  -- the step of a turn, whose setup lines are known
  step_is : (t : Turn) (w : Woven) (names : Names told t w) (first later : List (List ℕ)) → HasFirstSetup names.teller_of.openings t.entry first
      → HasNewSetup names.teller_of.openings names.source later → (s : Step) → IsStepIn given hs w names.opening (first ++ later) s → IsStepOf given hs told t s
  step_is t w names first later has_first has_new s is = record {
    names = record {
      teller_of = names.teller_of;
      here = names.here;
      party = names.party ∙ ap (λ (z : Woven). z.party) (sym is.entry);
      stands = names.stands ∙ ap (λ (z : Woven). Some z.entry) (sym is.entry);
      source = names.source;
      comes_from = names.comes_from;
      opening = names.opening;
      of_run = names.of_run;
    };
    node = is.node;
    nodes = is.nodes;
    first = first;
    has_first = has_first;
    later = later;
    has_new = has_new;
    setups = is.setups_are;
    is_step = is.is_step;
  }

  pub steps_none : (front text : List ℕ) → text ≡ front → HasSteps given hs told [] front text
  steps_none front text is = ([], tt, is ∙ sym (append-nil front))

  pub steps_and_setups_none : (front text : List ℕ) → text ≡ front → HasStepsAndSetups given hs told [] front text
  steps_and_setups_none front text is = ([], tt, is ∙ sym (append-nil front))

  -- one line more, where all runs have one setup
  pub steps_more : (turns : List Turn) (i : ℕ) (t : Turn) (front before after : List ℕ) → slice_get turns i ≡ Some t → HasSteps given hs told (take i turns) front before
      → (w : Woven) (names : Names told t w) → ((later : List (List ℕ)) × HasNewSetup names.teller_of.openings names.source later) → names.teller_of.openings ≢ [] → AddsTurn given hs told t before after
      → HasSteps given hs told (take (i + 1) turns) front after
  steps_more turns i t front before after at (steps, are, is) w names new some adds =
      let first = first_setup names.teller_of.openings t.entry some in
      let (s, in_run, added) = adds w names (first.0 ++ new.0) in
      let is_step = step_is t w names first.0 new.0 first.1 new.1 s in_run in (
        steps ++ s ∷ [],
        subst (λ ts. AreStepsOf given hs told ts (steps ++ s ∷ [])) (sym (take_one turns i t at)) (steps_push (take i turns) steps t s are is_step),
        one_behind step_text steps s front before after is added,
      )

  -- and behind its setup lines
  pub steps_and_setups_more : (turns : List Turn) (i : ℕ) (t : Turn) (front before between after : List ℕ) → slice_get turns i ≡ Some t → HasStepsAndSetups given hs told (take i turns) front before
      → (w : Woven) → Names told t w → AddsSetups told t before between → AddsTurn given hs told t between after → HasStepsAndSetups given hs told (take (i + 1) turns) front after
  steps_and_setups_more turns i t front before between after at (steps, are, is) w names setups adds =
      let (first, has_first, (later, has_new, put)) = setups w names in
      let (s, in_run, added) = adds w names (first ++ later) in
      let is_step = step_is t w names first later has_first has_new s in_run in
      let whole : after ≡ before ++ step_with_setups s =
      added ∙ ap (λ l. l ++ step_text s) put ∙ append_assoc before (lines_text (first ++ later)) (step_text s)
      ∙ ap (λ (ls : List (List ℕ)). before ++ (lines_text ls ++ step_text s)) (sym in_run.setups_are) in (
        steps ++ s ∷ [],
        subst (λ ts. AreStepsOf given hs told ts (steps ++ s ∷ [])) (sym (take_one turns i t at)) (steps_push (take i turns) steps t s are is_step),
        one_behind step_with_setups steps s front before after is whole,
      )

-- ---- an order of histories

module _ (told : List Transcript) (hs : List NodeHistory) (same : AreHistories hs told) where
  sizes : length hs ≡ length told
  sizes = sym (length-map hs lived) ∙ ap length same ∙ length-map told lived_told

  -- what stands at one place
  paired : (i : ℕ) (h : NodeHistory) (u : Transcript) → slice_get hs i ≡ Some h → slice_get told i ≡ Some u → lived h ≡ lived_told u
  paired i h u here there = some_same (lived h) (lived_told u) (
      ap (option_map lived) (sym here) ∙ sym (slice_get-map lived hs i) ∙ ap (λ l. slice_get l i) same ∙ slice_get-map lived_told told i
      ∙ ap (option_map lived_told) there)

  names_turn : (t : Turn) (x : Woven) → Names told t x → IsTurn hs t x
  names_turn t x names =
      let within = slice_get_within told t.history names.teller_of names.here in
      let found = stands hs t.history (omega (arith, within, sizes)) in
      let are = paired t.history found.0 names.teller_of found.1 names.here in
      record {
        history = found.0;
        here = found.1;
        party = ap (λ (l : Lived). l.party) are ∙ names.party;
        entry = ap (λ (l : Lived). slice_get l.entries t.entry) are ∙ names.stands;
      }

  pub turn_names : AreTold told → (t : Turn) (x : Woven) → IsTurn hs t x → Names told t x
  turn_names all t x is =
      let within = slice_get_within hs t.history is.history is.here in
      let found = stands told t.history (omega (arith, within, sizes)) in
      let are = paired t.history is.history found.0 is.here found.1 in
      let entry : slice_get found.0.entries t.entry ≡ Some x.entry = ap (λ (l : Lived). slice_get l.entries t.entry) (sym are) ∙ is.entry in
      let has = all.each found.0 (is_in told t.history found.0 found.1) in
      let inside = slice_get_within found.0.entries t.entry x.entry entry in
      let size = has.size in
      let from = stands found.0.sources t.entry (omega (arith, inside, size)) in
      let run = stands found.0.openings (opening_of from.0) (has.runs from.0 (is_in found.0.sources t.entry from.0 from.1)) in
      record {
        teller_of = found.0;
        here = found.1;
        party = ap (λ (l : Lived). l.party) (sym are) ∙ is.party;
        stands = entry;
        source = from.0;
        comes_from = from.1;
        opening = run.0;
        of_run = run.1;
      }

  -- each turn of an order names an entry of what is told
  pub order_named : AreTold told → (given : List (List ℕ)) (turns : List Turn) → IsOrderWith given hs turns → AreNamed told turns
  order_named all given turns (xs, woven, are) k t at = let (x, here, is) = turn_at hs turns xs are k t at in (x, turn_names all t x is)

  same_entries : (given : List (List ℕ)) (of : List NodeHistory) (ts : List Turn) (xs : List Woven) (steps : List Step) → AreTurns hs ts xs → AreStepsOf given of told ts steps → xs ≡ map entry_of steps
  same_entries given of [] [] [] are steps_are = refl
  same_entries given of [] [] (s ∷ steps) are steps_are = absurd steps_are
  same_entries given of [] (x ∷ xs) steps are steps_are = absurd are
  same_entries given of (t ∷ ts) [] steps are steps_are = absurd are
  same_entries given of (t ∷ ts) (x ∷ xs) [] are steps_are = absurd steps_are
  same_entries given of (t ∷ ts) (x ∷ xs) (s ∷ steps) (first, rest) (is, more) =
      ap (λ y. y ∷ xs) (one_entry hs t x s.entry first (names_turn t s.entry is.names)) ∙ ap (λ l. s.entry ∷ l) (same_entries given of ts xs steps rest more)

  -- its lines are those of an interleaving
  pub steps_interleave : (given : List (List ℕ)) (of : List NodeHistory) (turns : List Turn) (steps : List Step) → IsOrderWith given hs turns → AreStepsOf given of told turns steps
      → InterleavesWith given hs (map entry_of steps)
  steps_interleave given of turns steps (xs, woven, are) steps_are = subst (InterleavesWith given hs) (same_entries given of turns xs steps are steps_are) woven
