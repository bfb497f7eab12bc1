-- What is so of each line that is carried out.
use Rattle.std.proofs.Common.{◌≡◌, ◌≢◌, ◌⊎◌, ◌↔◌, ◌≤◌, ◌<◌, ℕ, suc, ◌+◌, List, [], ◌∷◌, ◌++◌, Bool, true, false, Option, None, Some, length, codes, decimal, inl, inr, refl, sym, ap, subst, ◌∙◌, append-nil, append_assoc, arith}
use Rattle.json_text.specs.Fault.{fault_field}
use Rattle.json_text.specs.declared.fault.JsonFault.{JsonFault}
use Rattle.line_runs.specs.declared.run.Turn.{Turn}
use Rattle.node_runs.specs.DoneLines.{all_line, fault_line, idle_line, known_line, malformed_line, place_member, refused_line, skipped_line, stepped_line}
use Rattle.node_runs.specs.LineAnswers as answer
use Rattle.node_runs.specs.LineAnswers.{Answers, PlacedTurn, step_line}
use Rattle.node_steps.specs.declared.fault.NodeFault.{NodeFault}
use Rattle.node_steps.specs.declared.fault.NodeFault.TheVariants.{NumbersUsedUp}
use Rattle.ocpi_text.specs.Whole.{max_whole}
use Rattle.ocpi_types.specs.declared.field.Field.{Field}
use Rattle.ocpi_types.specs.declared.packet.Packet.{Packet}
use Rattle.ocpi_types.specs.declared.rows.Change.{Change}
use Rattle.program_lines.specs.Writing.{packet_lines}
use Rattle.json_text.specs.Fault.{Read}
use Rattle.ocpi_types.specs.declared.node_events.NodeEvent.{NodeEvent}
use Rattle.stored_nodes.specs.Transactions.{changes_of_each}
use Rattle.world_steps.specs.Steps.{NodeEvent as Deed}
use Rattle.world_steps.specs.World.{NodeState}
use Rattle.replays.proofs.Going.{IsClosed}
use Rattle.replays.proofs.Lines.{Counting}
use Rattle.replays.specs.Happenings.{Placed}
use Rattle.replays.specs.LineTurns.{LineGives, Running, WasBeyond, WasKnown, WasRead, last_behind}

-- ---- each ends with its line feed

closed_behind : (xs ys : List ℕ) → IsClosed ys → IsClosed (xs ++ ys)
closed_behind xs ys (front, is) = (xs ++ front, ap (λ l. xs ++ l) is ∙ sym (append_assoc xs front (10 ∷ [])))

brace : IsClosed (codes "}\n")
brace = (125 ∷ [], refl)

numbered : (xs : List ℕ) (n : ℕ) → IsClosed (xs ++ (decimal n ++ codes "}\n"))
numbered xs n = closed_behind xs (decimal n ++ codes "}\n") (closed_behind (decimal n) (codes "}\n") brace)

known_closed : (n : ℕ) → IsClosed (known_line n)
known_closed n = numbered (codes "{\"done\":\"known\",\"line\":") n

idle_closed : (n : ℕ) (place : Option ℕ) → IsClosed (idle_line n place)
idle_closed n place = closed_behind (codes "{\"done\":\"idle\"") _ (closed_behind (place_member place) _ (numbered (codes ",\"line\":") n))

skipped_closed : (n : ℕ) (place : Option ℕ) → IsClosed (skipped_line n place)
skipped_closed n place = closed_behind (codes "{\"done\":\"skipped\"") _ (closed_behind (place_member place) _ (numbered (codes ",\"line\":") n))

stepped_closed : (n : ℕ) (place : Option ℕ) (count : ℕ) → IsClosed (stepped_line n place count)
stepped_closed n place count =
    closed_behind (codes "{\"done\":\"stepped\"") _ (closed_behind (place_member place) _ (closed_behind (codes ",\"line\":") _ (closed_behind (decimal n) _ (numbered (codes ",\"packets\":") count))))

all_closed : (n count : ℕ) → IsClosed (all_line n count)
all_closed n count = closed_behind (codes "{\"done\":\"all\",\"events\":") _ (closed_behind (decimal count) _ (numbered (codes ",\"line\":") n))

refused_closed : (n : ℕ) (place : Option ℕ) (fault : NodeFault) → IsClosed (refused_line n place fault)
refused_closed n place fault =
    closed_behind (codes "{\"done\":\"refused\"") _ (closed_behind (place_member place) _ (closed_behind (codes ",\"line\":") _ (closed_behind (decimal n) _ (closed_behind (codes ",\"name\":\"") _ (closed_behind _ _ (numbered (codes "\",\"number\":") _))))))

malformed_closed : (n : ℕ) (place : Option ℕ) (fault : JsonFault) → IsClosed (malformed_line n place fault)
malformed_closed n place fault = of (fault_field fault)
  where
    of : (field : Option Field) → IsClosed (fault_line n place fault field)
    of None =
        closed_behind (codes "{\"done\":\"malformed\"") _ (closed_behind (place_member place) _ (closed_behind (codes ",\"line\":") _ (closed_behind (decimal n) _ (closed_behind (codes ",\"name\":\"") _ (closed_behind _ _ (numbered (codes "\",\"number\":") _))))))
    of (Some field) =
        closed_behind (codes "{\"done\":\"malformed\"") _ (closed_behind (place_member place) _ (closed_behind (codes ",\"field\":\"") _ (closed_behind _ _ (closed_behind (codes "\",\"line\":") _ (closed_behind (decimal n) _ (closed_behind (codes ",\"name\":\"") _ (closed_behind _ _ (numbered (codes "\",\"number\":") _))))))))

step_closed : (n : ℕ) (place : Option ℕ) (packets : List Packet) (changed : Bool) → IsClosed (step_line n place packets changed)
step_closed n place [] false = idle_closed n place
step_closed n place [] true = stepped_closed n place 0
step_closed n place (p ∷ ps) changed = stepped_closed n place (length (p ∷ ps))

placed_closed : {party : List ℕ} {now : NodeState} {number : ℕ} {place : Option ℕ} {read : Read NodeEvent} {turn : Turn} {out : List ℕ} {did : List Deed} {next : NodeState}
    → PlacedTurn party now number place read turn out did next → IsClosed out
placed_closed {number = n} {place = place} (answer.WasDone x own deed brings step changed tells taken written did) =
    subst IsClosed (sym written) (closed_behind (packet_lines _) _ (step_closed n place _ changed))
placed_closed {number = n} {place = place} (answer.WasUnstored x own unstored taken written did next) = subst IsClosed (sym written) (idle_closed n place)
placed_closed {number = n} {place = place} (answer.IsElsewhere x is other taken written did next) = subst IsClosed (sym written) (skipped_closed n place)
placed_closed {number = n} {place = place} (answer.IsOfOtherRole x own stored nothing taken written did next) = subst IsClosed (sym written) (skipped_closed n place)
placed_closed {number = n} {place = place} (answer.IsMalformed fault is other refused written did next) = subst IsClosed (sym written) (malformed_closed n place fault)
placed_closed {number = n} {place = place} (answer.IsRefused x own input brings fault refuses other refused written did next) = subst IsClosed (sym written) (refused_closed n place fault)

answers_closed : {party : List ℕ} {now : NodeState} {number : ℕ} {line : List ℕ} {turn : Turn} {out : List ℕ} {did : List Deed} {next : NodeState}
    → Answers party now number line turn out did next → IsClosed out
answers_closed (answer.OneEvent read is turns) = placed_closed turns
answers_closed {number = n} (answer.SeveralEvents events is carries) = subst IsClosed (sym carries.written) (closed_behind carries.lines _ (all_closed n (length events)))

pub line_closed : (now : Running) (line out : List ℕ) (entered : List Placed) (did : List Deed) (next : Running) → LineGives now line out entered did next → IsClosed out
line_closed now line out entered did next (WasKnown known written none nothing is) = subst IsClosed (sym written) (known_closed (suc now.number))
line_closed now line out entered did next (WasBeyond new at written none nothing is) = subst IsClosed (sym written) (refused_closed max_whole None NumbersUsedUp)
line_closed now line out entered did next (WasRead new within turn after answers entered_so is) = answers_closed answers

-- ---- the numbers

-- the last line that took hold is the one that the run was opened behind, or one of the run
abbrev pub IsCounted : Running → Type 0
IsCounted now = (now.last ≡ now.known) ⊎ (now.last ≤ now.number)

last_within : (now : Running) → IsCounted now → now.known ≤ now.number → now.last ≤ now.number
last_within now (inl is) new = subst (λ n. n ≤ now.number) (sym is) new
last_within now (inr within) new = within

pub stays_counted : (now : Running) (line out : List ℕ) (entered : List Placed) (did : List Deed) (next : Running) → IsCounted now → LineGives now line out entered did next → IsCounted next
stays_counted now line out entered did next counted (WasKnown known written none nothing is) = subst IsCounted (sym is) (of counted)
  where
    of : IsCounted now → (now.last ≡ now.known) ⊎ (now.last ≤ suc now.number)
    of (inl same) = inl same
    of (inr within) = inr (omega (arith, within))
stays_counted now line out entered did next counted (WasBeyond new at written none nothing is) = subst IsCounted (sym is) counted
stays_counted now line out entered did next counted (WasRead new within turn after answers entered_so is) = subst IsCounted (sym is) (inr (of (changes_of_each did)))
  where
    of : (cs : List Change) → last_behind cs now.last (suc now.number) ≤ suc now.number
    of [] = let low = last_within now counted new in omega (arith, low)
    of (c ∷ cs) = omega arith

pub effect_of : (now : Running) (line out : List ℕ) (entered : List Placed) (did : List Deed) (next : Running) → IsCounted now → LineGives now line out entered did next
    → (changes_of_each did ≢ []) ↔ (next.last ≢ now.last)
effect_of now line out entered did next counted (WasKnown known written none nothing is) =
    ((λ some. absurd (some (ap changes_of_each nothing))), (λ moved. absurd (moved (ap (λ (n : Running). n.last) is))))
effect_of now line out entered did next counted (WasBeyond new at written none nothing is) =
    ((λ some. absurd (some (ap changes_of_each nothing))), (λ moved. absurd (moved (ap (λ (n : Running). n.last) is))))
effect_of now line out entered did next counted (WasRead new within turn after answers entered_so is) = of (changes_of_each did) (ap (λ (n : Running). n.last) is)
  where
    of : (cs : List Change) → next.last ≡ last_behind cs now.last (suc now.number) → (cs ≢ []) ↔ (next.last ≢ now.last)
    of [] same = ((λ some. absurd (some refl)), (λ moved. absurd (moved same)))
    of (c ∷ cs) same =
        let low = last_within now counted new in
        ((λ some back. let bad = sym same ∙ back in absurd (omega (arith, bad, low))), (λ moved none. let size = ap length none in omega (arith, size)))

pub lines_count : Counting IsCounted
lines_count = record { fed = line_closed; stays = stays_counted; effect = effect_of }
