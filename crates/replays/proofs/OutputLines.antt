-- What runs print has no empty line.
use Rattle.std.proofs.Common.{◌≡◌, ℕ, suc, List, [], ◌∷◌, ◌++◌, Bool, true, false, Option, None, length, sym, ap, subst, ◌∙◌, append-nil, append_assoc}
use Rattle.json_text.specs.Fault.{Read}
use Rattle.line_runs.specs.declared.run.Turn.{Turn}
use Rattle.node_runs.specs.DoneLines.{all_line, idle_line, known_line, malformed_line, refused_line, skipped_line}
use Rattle.node_runs.specs.LineAnswers as answer
use Rattle.node_runs.specs.LineAnswers.{Answers, AreDone, PlacedTurn, step_line}
use Rattle.node_steps.specs.declared.fault.NodeFault.TheVariants.{NumbersUsedUp}
use Rattle.ocpi_text.specs.Whole.{max_whole}
use Rattle.ocpi_types.specs.declared.node_events.NodeEvent.{NodeEvent}
use Rattle.ocpi_types.specs.declared.packet.Packet.{Packet}
use Rattle.program_lines.specs.Writing.{packet_lines}
use Rattle.world_steps.specs.Steps.{NodeEvent as Deed, packets_of}
use Rattle.world_steps.specs.World.{NodeState}
use Rattle.replays.proofs.OutputTexts.{AreLines, IsEnded, all_ended, front_plain, idle_ended, known_ended, lines_both, malformed_ended, no_line, one_ended, one_line, opened_ended, refused_ended, skipped_ended, stepped_ended}
use Rattle.replays.proofs.PacketLines.{packets_are_lines}
use Rattle.replays.specs.Cutting.{HasNoEmptyLine}
use Rattle.replays.specs.Happenings.{Happening, Placed}
use Rattle.replays.specs.LineTurns.{Held, IsLine, LineGives, Running, WasBeyond, WasKnown, WasRead, echo_of}
use Rattle.replays.specs.Openings.{Opens, opening_of}
use Rattle.replays.specs.Printed as printed
use Rattle.replays.specs.Printed.{GoesOn, Prints}

-- ---- what a line gives

step_ended : (n : ℕ) (place : Option ℕ) (packets : List Packet) (changed : Bool) → IsEnded (step_line n place packets changed)
step_ended n place [] false = idle_ended n place
step_ended n place [] true = stepped_ended n place 0
step_ended n place (p ∷ ps) changed = stepped_ended n place (length (p ∷ ps))

placed_lines : {party : List ℕ} {now : NodeState} {number : ℕ} {place : Option ℕ} {read : Read NodeEvent} {turn : Turn} {out : List ℕ} {did : List Deed} {next : NodeState}
    → PlacedTurn party now number place read turn out did next → AreLines out
placed_lines {number = n} {place = place} (answer.WasDone x own deed brings step changed tells taken written did) =
    subst AreLines (sym written)
    (lines_both (packet_lines (packets_of deed)) (step_line n place (packets_of deed) changed) (packets_are_lines (packets_of deed))
    (one_ended (step_line n place (packets_of deed) changed) (step_ended n place (packets_of deed) changed)))
placed_lines {number = n} {place = place} (answer.WasUnstored x own unstored taken written did next) =
    subst AreLines (sym written) (one_ended (idle_line n place) (idle_ended n place))
placed_lines {number = n} {place = place} (answer.IsElsewhere x is other taken written did next) =
    subst AreLines (sym written) (one_ended (skipped_line n place) (skipped_ended n place))
placed_lines {number = n} {place = place} (answer.IsOfOtherRole x own stored nothing taken written did next) =
    subst AreLines (sym written) (one_ended (skipped_line n place) (skipped_ended n place))
placed_lines {number = n} {place = place} (answer.IsMalformed fault is other refused written did next) =
    subst AreLines (sym written) (one_ended (malformed_line n place fault) (malformed_ended n place fault))
placed_lines {number = n} {place = place} (answer.IsRefused x own input brings fault refuses other refused written did next) =
    subst AreLines (sym written) (one_ended (refused_line n place fault) (refused_ended n place fault))

done_lines : {party : List ℕ} {first : NodeState} {number : ℕ} {events : List (Read NodeEvent)} {turn : Turn} {out : List ℕ} {did : List Deed} {next : NodeState}
    → AreDone party first number events turn out did next → AreLines out
done_lines answer.none_done = no_line
done_lines (answer.one_taken {out = out} {more = more} before turns) = lines_both out more (done_lines before) (placed_lines turns)
done_lines (answer.one_refused {out = out} {more = more} before turns) = lines_both out more (done_lines before) (placed_lines turns)

answers_lines : {party : List ℕ} {now : NodeState} {number : ℕ} {line : List ℕ} {turn : Turn} {out : List ℕ} {did : List Deed} {next : NodeState}
    → Answers party now number line turn out did next → AreLines out
answers_lines (answer.OneEvent read is turns) = placed_lines turns
answers_lines {number = n} (answer.SeveralEvents events is carries) =
    subst AreLines (sym carries.written)
    (lines_both carries.lines (all_line n (length events)) (done_lines carries.done) (one_ended (all_line n (length events)) (all_ended n (length events))))

pub gives_lines : {now : Running} {line out : List ℕ} {entered : List Placed} {did : List Deed} {next : Running} → LineGives now line out entered did next → AreLines out
gives_lines {now = now} (WasKnown known written none nothing is) = subst AreLines (sym written) (one_ended (known_line (suc now.number)) (known_ended (suc now.number)))
gives_lines {now = now} (WasBeyond new at written none nothing is) = subst AreLines (sym written) (one_ended (refused_line max_whole None NumbersUsedUp) (refused_ended max_whole None NumbersUsedUp))
gives_lines (WasRead new within turn after answers entered_so is) = answers_lines answers

-- ---- what a run prints

-- with what it would have printed
abbrev Begins : List ℕ → Type 0
Begins text = (rest : List ℕ) × AreLines (text ++ rest)

echo_lines : (line : List ℕ) → IsLine line → AreLines (echo_of line)
echo_lines line fed = one_line line [] fed no_line

cut_echo : (line front more : List ℕ) → IsLine line → echo_of line ≡ front ++ more → Begins front
cut_echo line front more fed cut = (more, subst AreLines cut (echo_lines line fed))

-- a beginning of what stands behind an echo
behind_echo : (line out front more : List ℕ) → IsLine line → AreLines out → out ≡ front ++ more → Begins (echo_of line ++ front)
behind_echo line out front more fed lines cut =
    (more, subst AreLines (ap (λ l. echo_of line ++ l) cut ∙ sym (append_assoc (echo_of line) front more)) (lines_both (echo_of line) out (echo_lines line fed) lines))

-- and all of it
past_echo : (line out text : List ℕ) → IsLine line → AreLines out → Begins text → Begins (echo_of line ++ (out ++ text))
past_echo line out text fed lines (rest, more) = (
  rest,
  subst AreLines (ap (λ l. echo_of line ++ l) (sym (append_assoc out text rest)) ∙ sym (append_assoc (echo_of line) (out ++ text) rest))
      (lines_both (echo_of line) (out ++ (text ++ rest)) (echo_lines line fed) (lines_both out (text ++ rest) lines more)),
)

goes_on_lines : {now : Running} {text : List ℕ} {told : List Happening} {left : Held} → GoesOn now text told left → Begins text
goes_on_lines (printed.Stopped line fed front more cut left kept) = cut_echo line front more fed cut
goes_on_lines (printed.TookHold line fed out entered did next gives changed left kept) = cut_echo line (echo_of line) [] fed (sym (append-nil (echo_of line)))
goes_on_lines (printed.Cut line fed out entered did next gives front more cut some left kept) = behind_echo line out front more fed (gives_lines gives) cut
goes_on_lines (printed.Whole line fed out entered did next gives text told left on) = past_echo line out text fed (gives_lines gives) (goes_on_lines on)

opening_lines : {wanted : List ℕ} {found : Held} {line : List ℕ} → (o : Opens wanted found line) → AreLines (opening_of o)
opening_lines o = one_ended (opening_of o) (opened_ended _ _ _ _)

prints_lines : {wanted : List ℕ} {found : Held} {text : List ℕ} {told : List Happening} {left : Held} → Prints wanted found text told left → Begins text
prints_lines (printed.NotBegun line fed front more cut) = cut_echo line front more fed cut
prints_lines (printed.NoSetup line fed fault fails real front more cut some) =
    behind_echo line (malformed_line 1 None fault) front more fed (one_ended (malformed_line 1 None fault) (malformed_ended 1 None fault)) cut
prints_lines (printed.CutOpening line fed o front more cut some long) = behind_echo line (opening_of o) front more fed (opening_lines o) cut
prints_lines (printed.BareOpening line fed o front cut left kept) = behind_echo line (opening_of o) front (10 ∷ []) fed (opening_lines o) cut
prints_lines (printed.Begun line fed o text told left on) = past_echo line (opening_of o) text fed (opening_lines o) (goes_on_lines on)

pub prints_plain : {wanted : List ℕ} {found : Held} {text : List ℕ} {told : List Happening} {left : Held} → Prints wanted found text told left → HasNoEmptyLine text
prints_plain {text = text} prints = of (prints_lines prints)
  where
    of : Begins text → HasNoEmptyLine text
    of (rest, lines) = front_plain text rest lines
