-- What the contract says a run wrote, and what runs over one store print one behind the other.
use Rattle.std.proofs.Common.{◌≡◌, ◌≢◌, ℕ, zero, suc, List, [], ◌∷◌, ◌++◌, true, Option, None, Some, IfSome, take, refl, sym, ap, subst, ◌∙◌, append_assoc, zero-lt-suc, arith}
use Rattle.std.proofs.lemmas.List.Elements.{All-cons, All-nil}
use Rattle.std.specs.FinMap.{empty}
use Rattle.std.specs.Io.KnownBytes.{Appends}
use Rattle.std.specs.Str.Lines.{lines}
use Rattle.line_runs.specs.Numbered.{NumberedBegins, NumberedOutputs}
use Rattle.line_runs.specs.declared.outcome.Ran.{Ran}
use Rattle.node_keepers.specs.Opening.{Source}
use Rattle.node_rows.proofs.Telling.{empty_is_held}
use Rattle.node_rows.specs.Holds.{HoldsRows}
use Rattle.node_rows.specs.Laws.{ChangesAreHeld}
use Rattle.node_runs.specs.NodeAnswers.{NodeEndGives, NodeLineGives}
use Rattle.node_runs.specs.NodeOutputs as contract
use Rattle.node_runs.specs.NodeOutputs.{BeginsSo, NodeBegins, NodeOutputs, asked_for, begin_bytes}
use Rattle.node_runs.specs.NodeTurns.{Stage, keep_in, opening}
use Rattle.node_runs.specs.declared.fault.NodeStop.{NodeStop}
use Rattle.node_store.proofs.Numbered.{line_of_empty}
use Rattle.node_store.specs.Contents.{Content, rows_of}
use Rattle.ocpi_types.specs.declared.setup.Node.TheVariants as node
use Rattle.stored_laws.specs.Nodes.{NodesCanStartAgain}
use Rattle.stored_nodes.specs.Keepers.{Keeper}
use Rattle.tables.proofs.Elements.{in_front}
use Rattle.world_steps.specs.World.{opening_of}
use Rattle.replays.proofs.InputLines.{lines_are_plain}
use Rattle.replays.proofs.OutputEnds.{Shown, stopped, went}
use Rattle.replays.proofs.OutputLines.{prints_plain}
use Rattle.replays.specs.Cutting.{AtOnce as Feed, NoMore, OneMore}
use Rattle.replays.specs.Happenings.{Happening}
use Rattle.replays.specs.LineTurns.{Held, IsLine, Store, held_in}
use Rattle.replays.specs.Outputs.{ArePrintedRuns, AreRuns, Both, Ended, HadContent, Has, IsOfContract, IsRun, MayLeave, Nothing, OneFeed, OutputsArePrinted, PrintsAll, RunsArePrinted, Wrote, no_run, one_run}
use Rattle.replays.specs.Printed as printed
use Rattle.replays.specs.Printed.{ArePrinted, Prints}

-- ---- what the contract says

module _ {K : Type 0} (keeper : Keeper K) (source : Source K) where
  abbrev Written : List ℕ → List ℕ → Option (List ℕ) → Option K → Type 0
  Written wanted before new kept = (text : List ℕ) × ((new ≡ Some (before ++ text)) × Wrote keeper source wanted text kept)

  -- behind what was begun with
  behind : (before b out : List ℕ) (new : Option (List ℕ)) → b ≡ before ++ (10 ∷ 10 ∷ []) → new ≡ Some (b ++ out) → new ≡ Some (before ++ (10 ∷ 10 ∷ out))
  behind before b out new begun is = is ∙ ap (λ (l : List ℕ). Some (l ++ out)) begun ∙ ap (λ (l : List ℕ). Some l) (append_assoc before (10 ∷ 10 ∷ []) out)

  module _ (wanted places word input before : List ℕ) (new : Option (List ℕ)) (kept : Option K) (asked : (party : List ℕ) → asked_for word ≡ Some party → party ≡ wanted)
      (honest : IfSome kept keeper.is_honest) where
    wrote : (text : List ℕ) (last : Stage K) → keep_in last.running last.spare ≡ kept → Ended keeper source (opening (asked_for word) places) (lines input) text last
        → Wrote keeper source wanted text kept
    wrote text last left ended = record { word = word; asked = asked; places = places; input = input; last = last; ended = ended; left = left; honest = honest }

    ended_so : (ran : Ran) (stop : Option NodeStop) → NodeOutputs keeper source places word true (Some input) ran stop (Some before) new kept → Written wanted before new kept
    ended_so ran stop is = of is.begun is.begins is.outputs
      where
        of : (begun : Option (List ℕ)) → Appends (Some before) begun (begin_bytes true)
            → NumberedOutputs (NodeLineGives keeper source) NodeEndGives true (opening (asked_for word) places) (Some input) ran begun new is.last → Written wanted before new kept
        of None begins outputs = absurd begins
        of (Some b) begins outputs =
            (10 ∷ 10 ∷ outputs.0, (behind before b outputs.0 new begins outputs.2, wrote (10 ∷ 10 ∷ outputs.0) is.last is.left (Ended.Went outputs.1)))

    abbrev BeginsAt : Stage K → Type 0
    BeginsAt last =
        BeginsSo (NumberedBegins (NodeLineGives keeper source) NodeEndGives true (opening (asked_for word) places) (Some input)) (opening (asked_for word) places) true (Some before) new last

    stopped_so : NodeBegins keeper source places word true (Some input) (Some before) new kept → Written wanted before new kept
    stopped_so is = of is.begins
      where
        cut : (n : ℕ) (o : Option (List ℕ)) → new ≡ o → Appends (Some before) o (take n (begin_bytes true)) → is.last ≡ opening (asked_for word) places → Written wanted before new kept
        cut n None same appends first = absurd appends
        cut n (Some b) same appends first = (
          take n (10 ∷ 10 ∷ []),
          (
            same ∙ ap (λ (l : List ℕ). Some l) appends,
            wrote (take n (10 ∷ 10 ∷ [])) (opening (asked_for word) places) (sym (ap (λ (s : Stage K). keep_in s.running s.spare) first) ∙ is.left) (Ended.AtOnce n),
          ),
        )

        whole : (begun : Option (List ℕ)) → Appends (Some before) begun (begin_bytes true)
            → NumberedBegins (NodeLineGives keeper source) NodeEndGives true (opening (asked_for word) places) (Some input) begun new is.last → Written wanted before new kept
        whole None begins begun = absurd begins
        whole (Some b) begins begun =
            (10 ∷ 10 ∷ begun.0, (behind before b begun.0 new begins begun.2, wrote (10 ∷ 10 ∷ begun.0) is.last is.left (Ended.Stopped begun.1)))

        of : BeginsAt is.last → Written wanted before new kept
        of (contract.Cut n appends first) = cut n new refl appends first
        of (contract.Whole begun begins inner) = whole begun begins inner

  is_of_contract : IsOfContract keeper source
  is_of_contract = record {
    went = λ wanted places word input before ran stop new kept asked honest is. ended_so wanted places word input before new kept asked honest ran stop is;
    stopped = λ wanted places word input before new kept asked honest is. stopped_so wanted places word input before new kept asked honest is;
  }

-- ---- what is printed

abbrev no_bytes : List ℕ
no_bytes = []

take_none : (n : ℕ) → take n no_bytes ≡ no_bytes
take_none zero = refl
take_none (suc n) = refl

letter_fed : IsLine (65 ∷ [])
letter_fed = record { some = zero-lt-suc zero; plain = All-cons (λ b. b ≢ 10) 65 [] (λ e. omega (arith, e)) (All-nil (λ b. b ≢ 10)) }

silent : (wanted : List ℕ) (held : Held) → Prints wanted held [] [] held
silent wanted held = printed.NotBegun (65 ∷ []) letter_fed [] (65 ∷ 10 ∷ []) refl

module _ (changes : ChangesAreHeld) (start : NodesCanStartAgain) {K : Type 0} (keeper : Keeper K) (source : Source K) where
  abbrev Answer : List ℕ → List ℕ → Option K → Type 0
  Answer wanted text kept = (opened : Option K) × (IfSome opened (source.found 1)
      × ((c next : Content) → HadContent keeper opened c → MayLeave keeper c kept next → IsRun wanted c text next))

  whole : (wanted text : List ℕ) (kept : Option K) → Shown keeper source wanted text kept → Answer wanted (10 ∷ 10 ∷ text) kept
  whole wanted text kept (opened, (found, each)) = (opened, (found, λ c next had leaves held has. of held c next (each c next had leaves held has)))
    where
      of : (held : Held) (c next : Content) → (told : List Happening) × ((left : Held) × (Prints wanted held text told left × Has next left))
          → (told : List Happening) × ((left : Held) × (PrintsAll wanted held (10 ∷ 10 ∷ text) told left × Has next left))
      of held c next (told, (left, (prints, so))) = (told, (left, (Both prints (prints_plain prints), so)))

  begun : (wanted : List ℕ) (n : ℕ) (kept : Option K) → None ≡ kept → Answer wanted (take n (10 ∷ 10 ∷ [])) kept
  begun wanted n kept none = subst (λ (q : Option K). Answer wanted (take n (10 ∷ 10 ∷ [])) q) none (None, (tt, λ c next had left held has. ([], (held, (feeds n held, subst (λ (d : Content). Has d held) (sym left) has)))))
    where
      feeds : (n : ℕ) (held : Held) → PrintsAll wanted held (take n (10 ∷ 10 ∷ [])) [] held
      feeds zero held = Nothing
      feeds (suc zero) held = OneFeed
      feeds (suc (suc n)) held =
          let no_text : Prints wanted held (take n []) [] held = subst (λ l. Prints wanted held l [] held) (sym (take_none n)) (silent wanted held) in
          Both no_text (prints_plain no_text)

  is_printed : (wanted text : List ℕ) (kept : Option K) → Wrote keeper source wanted text kept → Answer wanted text kept
  is_printed wanted text kept w = of text w.last w.ended w.left
    where
      of : (text : List ℕ) (last : Stage K) → Ended keeper source (opening (asked_for w.word) w.places) (lines w.input) text last → keep_in last.running last.spare ≡ kept → Answer wanted text kept
      of text last (Ended.Went {out = out} run) left =
          whole wanted out kept (went keeper source wanted (asked_for w.word) w.places w.asked changes start (lines_are_plain w.input) run kept left w.honest)
      of text last (Ended.Stopped {out = out} run) left =
          whole wanted out kept (stopped keeper source wanted (asked_for w.word) w.places w.asked changes start (lines_are_plain w.input) run kept left w.honest)
      of text last (Ended.AtOnce n) left = begun wanted n kept left

  pub outputs_are_printed : OutputsArePrinted keeper source
  outputs_are_printed = record { contract = is_of_contract keeper source; printed = is_printed }

-- ---- runs, one behind the other

run_more : (wanted : List ℕ) (held left : Held) (text rest : List ℕ) (told later : List Happening) → PrintsAll wanted held text told left → ArePrinted wanted left rest later
    → ArePrinted wanted held (text ++ rest) (told ++ later)
run_more wanted held left text rest told later Nothing more = more
run_more wanted held left text rest told later OneFeed more = Feed more
run_more wanted held left text rest told later (Both prints plain) more = OneMore prints plain more

are_printed : (wanted : List ℕ) (c : Content) (text : List ℕ) → AreRuns wanted c text → (held : Held) → Has c held → (told : List Happening) × ArePrinted wanted held text told
are_printed wanted c text no_run held has = ([], NoMore)
are_printed wanted c text (one_run {next = next} {text = one} {rest = rest} run more) held has =
    let first = run held has in
    let later = are_printed wanted next rest more first.1.0 first.1.1.1 in
    (first.0 ++ later.0, run_more wanted held first.1.0 one rest first.0 later.0 first.1.1.0 later.1)

all_printed : (wanted : List ℕ) (c : Content) (text : List ℕ) (start : Store) → Has c (held_in start) → AreRuns wanted c text → ArePrintedRuns wanted start text
all_printed wanted c text start has runs =
    let all = are_printed wanted c text runs (held_in start) has in
    let none = silent wanted (held_in start) in
    record {
      told = all.0;
      printed = all.1;
      by = λ earlier other. (wanted, other, OneMore none (prints_plain none) all.1);
    }

-- ---- a new store

abbrev new_content : Content
new_content = empty

no_rows : rows_of new_content ≡ Some []
no_rows = of (empty_is_held.openings [] (node.Provider []))
  where
    of : HoldsRows new_content (opening_of [] (node.Provider [])) → rows_of new_content ≡ Some []
    of ([], is, all) = is
    of (r ∷ rows, is, all) = absurd (empty_is_held.only (opening_of [] (node.Provider [])) (r ∷ rows, is, all) r ((all.exact r).0 (in_front r rows)))

pub runs_are_printed : RunsArePrinted
runs_are_printed = record { new_store = record { rows = []; read = no_rows; lists = refl; line = line_of_empty }; printed = all_printed }
