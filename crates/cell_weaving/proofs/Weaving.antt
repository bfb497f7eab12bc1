-- The histories of cells of a setup are replayed from its opening, and numbered.
use Rattle.std.proofs.Common.{◌≡◌, ◌∙◌, ℕ, ◌+◌, List, [], ◌∷◌, ◌++◌, length, take, map, sym, ap, subst, option_map, arith, Result, Ok, Err, IfOk, IfErr}
use Rattle.std.proofs.lemmas.List.{length-map, map-append}
use Rattle.std.proofs.lemmas.List.Elements.{All-contains, All-push}
use Rattle.std.specs.Prelude.{◌≢◌, All, Contains, Some, slice_get}
use Rattle.std.proofs.lemmas.Option.{slice_get-map, slice_get_within}
use Rattle.ocpi_text.specs.Text.{key}
use Rattle.ocpi_types.specs.declared.events.Event.{Event}
use Rattle.ocpi_types.specs.declared.setup.Node.{Node}
use Rattle.histories.specs.declared.entry.Entry.{Entry}
use Rattle.histories.specs.declared.history.NodeHistory.{NodeHistory}
use Rattle.histories.specs.Entries.{IsNumbered, sent}
use Rattle.histories.specs.Weaving.{AreApart, AreNumbered, CanInterleave, IsInterleaving}
use Rattle.histories.proofs.Lists.{is_in, place_in, some_same, stands, take_one}
use Rattle.history_laws.specs.Laws.{AreReplayed, InterleavingsAreRuns, IsReplayed, ReplaysAreNumbered}
use Rattle.history_laws.specs.Replays.{Replays}
use Rattle.stored_nodes.specs.Keepers.{Keeper}
use Rattle.node_cells.specs.Cells.{Cell, IsCell}
use Rattle.weave.specs.Faults.{Explains}
use Rattle.weave.specs.declared.fault.WeaveFault.{WeaveFault}
use Rattle.weave.specs.declared.fault.WeaveFault.TheVariants as fault
use Rattle.world_steps.specs.World.{NodeState, opening_of}
use Rattle.cell_weaving.specs.Cells.{AreCellsOf, AreTold, IsCellOf, IsNotWoven, IsRunOfCells, Told, state_in, told_of, told_of_cell}

-- one cell more, and its history
pub told_more : {K : Type 0} (hs longer : List NodeHistory) (cells : List (Cell K)) (i : ℕ) (h : NodeHistory) (c : Cell K) → slice_get cells i ≡ Some c → AreTold hs (take i cells) → told_of h ≡ told_of_cell c
    → longer ≡ hs ++ h ∷ [] → AreTold longer (take (i + 1) cells)
told_more hs longer cells i h c at told same is =
    ap (map told_of) is ∙ map-append told_of hs (h ∷ []) ∙ ap (λ l. l ++ told_of h ∷ []) told ∙ ap (λ (t : Told). map told_of_cell (take i cells) ++ t ∷ []) same
    ∙ sym (map-append told_of_cell (take i cells) (c ∷ [])) ∙ ap (map told_of_cell) (sym (take_one cells i c at))

pub all_more : {X : Type 0} (P : X → Type 0) (xs : List X) (i : ℕ) (x : X) → slice_get xs i ≡ Some x → All P (take i xs) → P x → All P (take (i + 1) xs)
all_more P xs i x at before here = subst (All P) (sym (take_one xs i x at)) (All-push P (take i xs) x before here)

module _ {K : Type 0} (keeper : Keeper K) (setup : List Node) (cells : List (Cell K)) (hs : List NodeHistory)
    (told : AreTold hs cells) (kept : All (IsCell keeper) cells) (are : AreCellsOf setup cells) where
  sizes : length hs ≡ length cells
  sizes = sym (length-map hs told_of) ∙ ap length told ∙ length-map cells told_of_cell

  -- the cell of a history
  cell_at : (i : ℕ) (h : NodeHistory) → slice_get hs i ≡ Some h → (c : Cell K) × (slice_get cells i ≡ Some c) × (told_of h ≡ told_of_cell c)
  cell_at i h here =
      let within = slice_get_within hs i h here in
      let found = stands cells i (omega (arith, within, sizes)) in (
        found.0,
        found.1,
        some_same (told_of h) (told_of_cell found.0) (
            ap (option_map told_of) (sym here) ∙ sym (slice_get-map told_of hs i) ∙ ap (λ l. slice_get l i) told ∙ slice_get-map told_of_cell cells i
            ∙ ap (option_map told_of_cell) found.1),
      )

  replayed_by : (h : NodeHistory) (c : Cell K) → Contains cells c → told_of h ≡ told_of_cell c → IsCellOf setup c → IsReplayed setup h c.state
  replayed_by h c within same of = record {
    node = of.member;
    in_setup = of.among;
    party = ap (λ (t : Told). t.party) same ∙ of.party;
    replays = subst (λ (es : List Entry). Replays (opening_of setup of.member) es c.state) (sym (ap (λ (t : Told). t.entries) same))
        (subst (λ (n : NodeState). Replays n c.history c.state) of.first (All-contains (IsCell keeper) cells c kept within).replays);
  }

  pub apart : AreApart hs
  apart i j h g here there same =
      let c = cell_at i h here in
      let d = cell_at j g there in
      are.apart i j c.0 d.0 c.1 d.1 (ap (λ (t : Told). key t.party) (sym c.2) ∙ same ∙ ap (λ (t : Told). key t.party) d.2)

  pub replayed : AreReplayed setup hs (map state_in cells)
  replayed = record {
    is_setup = are.is_setup;
    apart = apart;
    each = λ i h here.
        let c = cell_at i h here in
        let within = is_in cells i c.0 c.1 in (
          c.0.state,
          slice_get-map state_in cells i ∙ ap (option_map state_in) c.1,
          replayed_by h c.0 within c.2 (are.each c.0 within),
        );
  }

  pub numbered : ReplaysAreNumbered → AreNumbered hs
  numbered law h within =
      let at = place_in hs h within in
      let r = replayed.each at.0 h at.1 in
      let none : h.before ≡ 0 = ap (λ (t : Told). t.before) (cell_at at.0 h at.1).2 in
      (none, subst (λ n. IsNumbered h.party n (sent h.entries.now)) (sym none) (law setup are.is_setup h r.0 r.2))

  -- an interleaving of them is a run of the setup's world
  pub runs : InterleavingsAreRuns → (events : List Event) → IsInterleaving hs events → IsRunOfCells setup cells events
  runs law events woven = record {
    histories = hs;
    told = told;
    interleaving = woven;
    run = law setup hs (map state_in cells) events replayed woven;
  }

-- what is told of them is told of the cells
pub not_woven : {K : Type 0} (cells : List (Cell K)) (hs : List NodeHistory) (f : WeaveFault) → AreTold hs cells → Explains hs f → (f ≢ fault.Memory → CanInterleave hs → ⊥)
    → IsNotWoven cells f
not_woven cells hs (fault.NeverSent q) told cause none = record { histories = hs; told = told; cause = cause; none = none (λ e. cc) }
not_woven cells hs (fault.Differs q) told cause none = record { histories = hs; told = told; cause = cause; none = none (λ e. cc) }
not_woven cells hs (fault.NoOrder front) told cause none = record { histories = hs; told = told; cause = cause; none = none (λ e. cc) }
not_woven cells hs fault.Memory told cause none = tt

pub refused : {K X : Type 0} (cells : List (Cell K)) (hs : List NodeHistory) (r : Result X WeaveFault) → AreTold hs cells → IfErr r (Explains hs) → IfErr r (λ f. f ≢ fault.Memory → CanInterleave hs → ⊥)
    → IfErr r (IsNotWoven cells)
refused cells hs (Ok x) told cause none = tt
refused cells hs (Err f) told cause none = not_woven cells hs f told cause none

pub woven : {K X : Type 0} (keeper : Keeper K) (cells : List (Cell K)) (hs : List NodeHistory) (events : X → List Event) (r : Result X WeaveFault) → AreTold hs cells → All (IsCell keeper) cells → InterleavingsAreRuns
    → IfOk r (λ x. IsInterleaving hs (events x)) → IfOk r (λ x. (setup : List Node) → AreCellsOf setup cells → IsRunOfCells setup cells (events x))
woven keeper cells hs events (Ok x) told kept law h = λ setup are. runs keeper setup cells hs told kept are law (events x) h
woven keeper cells hs events (Err f) told kept law h = tt
