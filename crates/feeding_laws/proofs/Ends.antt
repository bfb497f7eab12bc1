-- How a run of `node` ends that is fed lines by their numbers.
use Rattle.std.proofs.Common.{◌≡◌, ◌++◌, ◌∙◌, ◌+◌, ◌<◌, ℕ, Bool, List, [], ◌∷◌, Option, Some, None, Ok, refl, sym, ap, subst, arith, length, append_assoc, append-nil, take, take_all, take_at}
use Rattle.std.specs.Io.KnownBytes.{Appends}
use Rattle.std.specs.Str.Lines.{lines as lines_of}
use Rattle.std.proofs.lemmas.List.Concat.{flat_map-append}
use Rattle.json_text.specs.declared.fault.JsonFault.TheVariants.{Syntax}
use Rattle.line_runs.specs.Numbered.{IsNumberedBegun, IsNumberedRun, NumberedBegins, NumberedOutputs, begun_answer, begun_between, begun_echo, begun_end, echo_of, numbered_end, numbered_stop}
use Rattle.line_runs.specs.declared.outcome.Ran.{Ran as How}
use Rattle.line_runs.specs.declared.run.Turn.{Turn}
use Rattle.line_runs.specs.declared.run.Turn.TheVariants.{Ended, Refused, Taken}
use Rattle.node_keepers.specs.Opening.{Source}
use Rattle.node_rows.specs.Laws.{ChangesAreHeld}
use Rattle.node_runs.specs.NodeAnswers as answers
use Rattle.node_runs.specs.NodeAnswers.{BehindTurn, NodeEnd, NodeEndGives, NodeLineGives, NodeTurn}
use Rattle.node_runs.specs.NodeHistories.{kept_line, some_lines}
use Rattle.node_runs.specs.NodeOutputs as outputs
use Rattle.node_runs.specs.NodeOutputs.{BeginsSo, IsKept, asked_for, begin_bytes}
use Rattle.node_runs.specs.NodeTurns as turns
use Rattle.node_runs.specs.NodeTurns.{IsMember, IsUnbegun, Running, SetupTurn, Stage, keep_in, number_from, opened_stage, opening}
use Rattle.node_runs.specs.NumberedRuns.{all_done}
use Rattle.node_runs.specs.SetupLines.{numbered_setup_in}
use Rattle.node_runs.specs.declared.fault.NodeStop.TheVariants.{Memory}
use Rattle.ocpi_types.specs.Setups.{party_of}
use Rattle.ocpi_types.specs.declared.setup.Node.{Node}
use Rattle.stored_laws.specs.Nodes.{NodesCanStartAgain}
use Rattle.stored_nodes.specs.Keepers.{Keeper}
use Rattle.world_steps.specs.Steps.{NodeEvent as Deed}
use Rattle.feeding_laws.proofs.Fed.{Before, Comes, Going, Runs, all_come, line_tells, no_piece, one_kept, one_line, opened_so, read_on, tells_join, tells_more, tells_on}
use Rattle.feeding_laws.proofs.Left.{IsMade, answered_by, at_stage, fits, front_of, lost, next_at, no_setup, none_empty, of_first, one_setup, ran_so, unbegun}
use Rattle.feeding_laws.proofs.Members.{one_member}
use Rattle.feeding_laws.specs.Fed.{Beginning, Broke, By_number, Echo, IsFed, IsPiece, NoSetup, No_setup, Nothing as NoLines, RunsAreFed, TellsTo, Unopened, WasFed, Went, nothing_told, piece_told}

not_ended : (turn : Turn) → turn ≡ Taken → turn ≡ Ended → ⊥
not_ended turn one other = cc (one, other)

not_refused : (turn : Turn) → turn ≡ Refused → turn ≡ Ended → ⊥
not_refused turn one other = cc (one, other)

-- that line stands first among those behind the ones that hold nothing
line_first : (before later : List (List ℕ)) (line : List ℕ) → 0 < length line → some_lines before ≡ [] → some_lines (before ++ line ∷ later) ≡ line ∷ some_lines later
line_first before later line some none =
    flat_map-append kept_line before (line ∷ later) ∙ ap (λ (l : List (List ℕ)). l ++ (kept_line line ++ some_lines later)) none ∙ ap (λ (l : List (List ℕ)). l ++ some_lines later) (one_kept line some)

module _ (held : ChangesAreHeld) (start : NodesCanStartAgain) {K : Type 0} (keeper : Keeper K) (source : Source K)
    (wanted : Option (List ℕ)) (opened : List ℕ) (echo : Bool) (most : ℕ) (setup : List Node) (lines : ℕ → List ℕ) (base : ℕ)
    (member : Node) (only : (first : List ℕ) (m : Node) → numbered_setup_in first ≡ Ok (setup, Some base) → IsMember setup wanted m → m ≡ member) where
  abbrev Fed : List (List ℕ) → Type 0
  Fed all = IsFed setup lines base most all

  abbrev Left : List ℕ → Option K → Type 0
  Left text kept = WasFed keeper source setup member lines base most echo text kept

  -- what tells of no line above some number goes on so
  abbrev Tell : List ℕ → List ℕ → Type 0
  Tell out text = (d : List Deed) (n : ℕ) → TellsTo echo d n most out → TellsTo echo d n most text

  first_setup : (before later : List (List ℕ)) (line : List ℕ) (xs : List Node) (m : Option ℕ) → 0 < length line → some_lines before ≡ [] → numbered_setup_in line ≡ Ok (xs, m)
      → Fed (before ++ line ∷ later) → ◌≡◌ {A = List Node × Option ℕ} (xs, m) (setup, Some base)
  first_setup before later line xs m some none read (NoLines nothing) = absurd (none_empty (some_lines later) line (sym (line_first before later line some none) ∙ nothing))
  first_setup before later line xs m some none read (No_setup part fault are not) =
      let one = of_first line part (some_lines later) [] (sym (line_first before later line some none) ∙ are) in
      absurd (no_setup part xs m fault (subst (λ (l : List ℕ). numbered_setup_in l ≡ Ok (xs, m)) one.0 read) not)
  first_setup before later line xs m some none read (By_number first fed cut are reads behind most_is is_cut) =
      let one = of_first line first (some_lines later) (fed ++ cut) (sym (line_first before later line some none) ∙ are) in
      one_setup line first xs setup m (Some base) one.0 read reads

  -- ---- at a line

  -- of the first line, at which the run ended
  module _ (before later : List (List ℕ)) (out text line more : List ℕ) (m : ℕ) (s t : Stage K) (turn : Turn) (kept : Option K) (some : 0 < length line) (fed : Fed (before ++ line ∷ later))
      (at_end : turn ≡ Ended) (left : keep_in t.running t.spare ≡ kept) (stored : IsKept keeper t.running) (tell : Tell (out ++ (echo_of echo line ++ take m more)) text) where
    setup_ended : s ≡ opening wanted opened → some_lines before ≡ [] → out ≡ [] → SetupTurn keeper source s line turn more t → Left text kept
    setup_ended is none nothing (turns.Opened o taken written next) = absurd (not_ended turn taken at_end)
    setup_ended is none nothing (turns.Untold o ended written next) =
        let number = number_from o.base o.last in
        let g = opened_so keeper source wanted opened echo most before line s o some none (ap (λ (s : Stage K). s.wanted) is) in
        let tells = line_tells line m (subst (TellsTo echo (all_done g.did) number most) (sym nothing) nothing_told) (subst (IsPiece echo (all_done g.did) number most) (sym written) no_piece) in
        at_stage held start keeper source wanted opened echo most setup lines base member only (before ++ line ∷ []) later (out ++ (echo_of echo line ++ take m more)) text (opened_stage s o (Some Memory)) kept
        (subst Fed (sym (append_assoc before (line ∷ []) later)) fed)
        (Runs (record { party = party_of o.member; node = o.node }) refl o.setup o.base line g tells)
        (sym (ap (λ (t : Stage K). keep_in t.running t.spare) next) ∙ left) (subst (λ (t : Stage K). IsKept keeper t.running) next stored) tell
    setup_ended is none nothing (turns.Unbegun xs n read places spare stop began ended written next) =
        let spare_is : spare ≡ kept = sym (ap (λ (t : Stage K). keep_in t.running t.spare) next) ∙ left in
        subst (Left text) spare_is
        (unbegun held start keeper source wanted opened echo most setup lines base member only line xs n places spare stop text read (first_setup before later line xs n some none read fed)
        (subst (λ (w : Option (List ℕ)). IsUnbegun keeper source xs w places spare stop) (ap (λ (s : Stage K). s.wanted) is) began)
        (λ d n. tell d n (line_tells line m (subst (TellsTo echo d n most) (sym nothing) nothing_told) (subst (IsPiece echo d n most) (sym written) no_piece))))
    setup_ended is none nothing (turns.NoSetup fault fails other ended written next) =
        subst (Left text) (sym (ap (λ (t : Stage K). keep_in t.running t.spare) (next ∙ is)) ∙ left)
        (Unopened (tell [] base (line_tells line m (subst (TellsTo echo [] base most) (sym nothing) nothing_told) (subst (IsPiece echo [] base most) (sym written) (NoSetup 1 (omega arith) fault)))))
    setup_ended is none nothing (turns.Unread ended written next) =
        subst (Left text) (sym (ap (λ (t : Stage K). keep_in t.running t.spare) next ∙ ap (λ (s : Stage K). s.spare) is) ∙ left)
        (Unopened (tell [] base (line_tells line m (subst (TellsTo echo [] base most) (sym nothing) nothing_told) (subst (IsPiece echo [] base most) (sym written) no_piece))))

    -- of another
    behind_ended : (now : Running K) (xs : List Node) (n : Option ℕ) (first : List ℕ) → (h : Going keeper source wanted opened echo most xs n first before s.number s.known now) → TellsTo echo (all_done h.did) s.number most out
        → BehindTurn keeper now s line turn more t → Left text kept
    behind_ended now xs n first h tells (answers.WasKnown is taken written next) = absurd (not_ended turn taken at_end)
    behind_ended now xs n first h tells (answers.WasBeyond is refused written next) = absurd (not_refused turn refused at_end)
    behind_ended now xs n first h tells (answers.GoesOn new few after is next) =
        let b = read_on keeper source wanted opened echo most before s t now after line turn more some new few is next h in
        at_stage held start keeper source wanted opened echo most setup lines base member only (before ++ line ∷ []) later (out ++ (echo_of echo line ++ take m more)) text t kept
        (subst Fed (sym (append_assoc before (line ∷ []) later)) fed) (Runs b.0 b.1 xs n first b.2 (line_tells line m (tells_more b.5 b.4 tells) b.3)) left stored tell
    behind_ended now xs n first h tells (answers.Ends stop keep loses known kept_then number ended written next) =
        let f = fits held start keeper source wanted opened echo most setup lines base member only xs n first before (line ∷ later) s.number s.known now h fed in
        let r = front_of held start keeper source wanted opened echo most setup lines base member only f in
        let g = f.going in
        subst (Left text) (sym (ap (λ (t : Stage K). keep_in t.running t.spare) next) ∙ left)
        (ran_so held start keeper source wanted opened echo most setup lines base member only g (answered_by held start keeper source wanted opened echo most setup lines base member only f r) kept_then
        (IsMade keeper line s.number s.known now) (next_at held start keeper source wanted opened echo most setup lines base member only f some r) keep
        (λ honest. lost keeper line s.number s.known now stop keep loses known g.settled honest) text
        (subst (λ (d : List Deed). TellsTo echo d s.number most text) (sym f.does) (tell (all_done h.did) s.number (line_tells line m tells (subst (IsPiece echo (all_done h.did) s.number most) (sym written) no_piece)))))

  at_line : (before later : List (List ℕ)) (out text : List ℕ) (s t : Stage K) (place : ℕ) (line : List ℕ) (turn : Turn) (more : List ℕ) (m : ℕ) (kept : Option K) → Fed (before ++ line ∷ later)
      → Comes keeper source wanted opened echo most before out s → 0 < length line → NodeLineGives keeper source s place line turn more t → keep_in t.running t.spare ≡ kept → IsKept keeper t.running
      → Tell (out ++ (echo_of echo line ++ take m more)) text → Left text kept
  at_line before later out text s t place line Taken more m kept fed h some gives left stored tell =
      at_stage held start keeper source wanted opened echo most setup lines base member only (before ++ line ∷ []) later (out ++ (echo_of echo line ++ take m more)) text t kept
      (subst Fed (sym (append_assoc before (line ∷ []) later)) fed)
      (one_line keeper source wanted opened echo most before out s t place line Taken more m some (λ e. absurd (cc e)) gives h) left stored tell
  at_line before later out text s t place line Refused more m kept fed h some gives left stored tell =
      at_stage held start keeper source wanted opened echo most setup lines base member only (before ++ line ∷ []) later (out ++ (echo_of echo line ++ take m more)) text t kept
      (subst Fed (sym (append_assoc before (line ∷ []) later)) fed)
      (one_line keeper source wanted opened echo most before out s t place line Refused more m some (λ e. absurd (cc e)) gives h) left stored tell
  at_line before later out text s t place line Ended more m kept fed (Before is none nothing) some gives left stored tell =
      setup_ended before later out text line more m s t Ended kept some fed refl left stored tell is none nothing
      (subst (λ (q : Option (Running K)). NodeTurn keeper source q s line Ended more t) (ap (λ (s : Stage K). s.running) is) gives)
  at_line before later out text s t place line Ended more m kept fed (Runs now is xs n first h tells) some gives left stored tell =
      behind_ended before later out text line more m s t Ended kept some fed refl left stored tell now xs n first h tells
      (subst (λ (q : Option (Running K)). NodeTurn keeper source q s line Ended more t) is gives)

  -- ---- a run

  -- what is written at the end of the input
  end_piece : (d : List Deed) (n : ℕ) (q : Option (Running K)) (how : How) (more : List ℕ) → NodeEnd q how more → IsPiece echo d n most more
  end_piece d n None how more is = subst (IsPiece echo d n most) (sym is.1) (NoSetup 0 (omega arith) Syntax)
  end_piece d n (Some now) how more is = subst (IsPiece echo d n most) (sym is.1) no_piece

  abbrev Stays : Stage K → Option K → Type 0
  Stays last kept = (keep_in last.running last.spare ≡ kept) × IsKept keeper last.running

  run_ends : {all : List (List ℕ)} {how : How} {out : List ℕ} {last : Stage K} (kept : Option K) (text : List ℕ)
      → IsNumberedRun (NodeLineGives keeper source) NodeEndGives echo (opening wanted opened) all how out last → Fed all → Stays last kept → Tell out text → Left text kept
  run_ends kept text (numbered_end {s = s} {all = all} {last = how} {out = out} {more = more} are gives) fed stays tell =
      at_stage held start keeper source wanted opened echo most setup lines base member only all [] out text s kept (subst Fed (sym (append-nil all)) fed)
      (all_come keeper source wanted opened echo most are) stays.0 stays.1 (λ d n tells. tell d n (tells_on tells (end_piece d n s.running how more gives)))
  run_ends kept text (numbered_stop {s = s} {t = t} {line = line} {before = before} {out = out} {more = more} are some gives later) fed stays tell =
      at_line before later out text s t (length before + 1) line Ended more (length more) kept fed (all_come keeper source wanted opened echo most are) some gives stays.0 stays.1
      (λ d n tells. tell d n (subst (λ (l : List ℕ). TellsTo echo d n most (out ++ (echo_of echo line ++ l))) (take_all (length more) more (omega arith)) tells))

  begun_ends : {all : List (List ℕ)} {out : List ℕ} {last : Stage K} (kept : Option K) (text : List ℕ)
      → IsNumberedBegun (NodeLineGives keeper source) NodeEndGives echo (opening wanted opened) all out last → Fed all → Stays last kept → Tell out text → Left text kept
  begun_ends kept text (begun_between {s = s} {before = before} {out = out} are later) fed stays tell =
      at_stage held start keeper source wanted opened echo most setup lines base member only before later out text s kept fed (all_come keeper source wanted opened echo most are) stays.0 stays.1 tell
  begun_ends kept text (begun_echo {s = s} {before = before} {out = out} are line front more is later) fed stays tell =
      at_stage held start keeper source wanted opened echo most setup lines base member only before (line ∷ later) out text s kept fed (all_come keeper source wanted opened echo most are) stays.0 stays.1
      (λ d n tells. tell d n (subst (λ (l : List ℕ). TellsTo echo d n most (out ++ l)) (ap (take (length front)) is ∙ take_at front more (length front) refl) (piece_told tells (Echo line) (length front))))
  begun_ends kept text (begun_answer {s = s} {t = t} {line = line} {before = before} {turn = turn} {out = out} {more = more} are some gives later n) fed stays tell =
      at_line before later out text s t (length before + 1) line turn more n kept fed (all_come keeper source wanted opened echo most are) some gives stays.0 stays.1 tell
  begun_ends kept text (begun_end {s = s} {all = all} {last = how} {out = out} {more = more} are gives n) fed stays tell =
      at_stage held start keeper source wanted opened echo most setup lines base member only all [] out text s kept (subst Fed (sym (append-nil all)) fed)
      (all_come keeper source wanted opened echo most are) stays.0 stays.1 (λ d k tells. tell d k (piece_told tells (end_piece d k s.running how more gives) n))

  -- behind what an echo begins with
  begins_tell : (out : List ℕ) → Tell out (begin_bytes echo ++ out)
  begins_tell out d n tells = tells_join (tells_on nothing_told Beginning) tells

  abbrev Result : List ℕ → Option (List ℕ) → Option K → Type 0
  Result before new kept = (text : List ℕ) × (new ≡ Some (before ++ text)) × Left text kept

  joined : (before b out : List ℕ) (new : Option (List ℕ)) → b ≡ before ++ begin_bytes echo → new ≡ Some (b ++ out) → new ≡ Some (before ++ (begin_bytes echo ++ out))
  joined before b out new is wrote = wrote ∙ ap Some (ap (λ (l : List ℕ). l ++ out) is ∙ append_assoc before (begin_bytes echo) out)

  went : (input before : List ℕ) (begun new : Option (List ℕ)) (how : How) (last : Stage K) (kept : Option K) → Fed (lines_of input) → Appends (Some before) begun (begin_bytes echo)
      → NumberedOutputs (NodeLineGives keeper source) NodeEndGives echo (opening wanted opened) (Some input) how begun new last → Stays last kept → Result before new kept
  went input before None new how last kept fed is wrote stays = absurd is
  went input before (Some b) new how last kept fed is (out, run, wrote) stays =
      (begin_bytes echo ++ out, joined before b out new is wrote, run_ends kept (begin_bytes echo ++ out) run fed stays (begins_tell out))

  broke_behind : (input before : List ℕ) (begun new : Option (List ℕ)) (last : Stage K) (kept : Option K) → Fed (lines_of input) → Appends (Some before) begun (begin_bytes echo)
      → NumberedBegins (NodeLineGives keeper source) NodeEndGives echo (opening wanted opened) (Some input) begun new last → Stays last kept → Result before new kept
  broke_behind input before None new last kept fed is wrote stays = absurd is
  broke_behind input before (Some b) new last kept fed is (out, run, wrote) stays =
      (begin_bytes echo ++ out, joined before b out new is wrote, begun_ends kept (begin_bytes echo ++ out) run fed stays (begins_tell out))

  cut : (input before : List ℕ) (new : Option (List ℕ)) (n : ℕ) (last : Stage K) (kept : Option K) → Fed (lines_of input) → Appends (Some before) new (take n (begin_bytes echo))
      → last ≡ opening wanted opened → Stays last kept → Result before new kept
  cut input before None n last kept fed is first stays = absurd is
  cut input before (Some b) n last kept fed is first stays = (
    take n (begin_bytes echo),
    ap Some is,
    at_stage held start keeper source wanted opened echo most setup lines base member only [] (lines_of input) [] (take n (begin_bytes echo)) last kept fed
        (Before first refl refl) stays.0 stays.1 (λ d k tells. piece_told nothing_told Beginning n),
  )

  broke : (input before : List ℕ) (new : Option (List ℕ)) (last : Stage K) (kept : Option K) → Fed (lines_of input)
      → BeginsSo (NumberedBegins (NodeLineGives keeper source) NodeEndGives echo (opening wanted opened) (Some input)) (opening wanted opened) echo (Some before) new last → Stays last kept
      → Result before new kept
  broke input before new last kept fed (outputs.Cut n wrote first) stays = cut input before new n last kept fed wrote first stays
  broke input before new last kept fed (outputs.Whole begun is begins) stays = broke_behind input before begun new last kept fed is begins stays

pub runs_are_fed : ChangesAreHeld → NodesCanStartAgain → {K : Type 0} (keeper : Keeper K) (source : Source K) → RunsAreFed keeper source
runs_are_fed held start keeper source setup member lines base most opened word echo input before new kept of fed (Went how stop o) =
    went held start keeper source (asked_for word) opened echo most setup lines base member (λ first m reads asked. one_member first setup (Some base) (asked_for word) m member reads asked of) input before o.begun new how o.last kept fed o.begins o.outputs (o.left, o.stored)
runs_are_fed held start keeper source setup member lines base most opened word echo input before new kept of fed (Broke o) =
    broke held start keeper source (asked_for word) opened echo most setup lines base member (λ first m reads asked. one_member first setup (Some base) (asked_for word) m member reads asked of) input before new o.last kept fed o.begins (o.left, o.stored)
