-- What an operator refuses, it does not do.
use Rattle.std.proofs.Common.{◌≡◌, ℕ, List, refl, sym, subst}
use Rattle.std.specs.Prelude.{◌≢◌}
use Rattle.ocpi_types.specs.Locations.{AreLocations}
use Rattle.ocpi_types.specs.declared.events.ChargerEvent.{ChargerEvent}
use Rattle.ocpi_types.specs.declared.packet.Packet.{Packet}
use Rattle.node_steps.specs.Acts.{Act}
use Rattle.node_steps.specs.Drafts.{IsInRange, later}
use Rattle.node_steps.specs.declared.fault.NodeFault.{NodeFault}
use Rattle.node_steps.specs.declared.fault.NodeFault.TheVariants.{NotForMe, UnknownOperator, UnknownToken, StampEnd, NumbersUsedUp, Memory}
use Rattle.operator_rows.specs.State.{State}
use Rattle.operator_rows.specs.Sound.{IsConsistent}
use Rattle.operator_steps.specs.Charger.{ChargerLine}
use Rattle.operator_steps.specs.Credits.{CreditLine}
use Rattle.operator_steps.specs.Events.{Arrives, Asks, Credits, Input, Reopens, Reports, Restarts, Serves, Ticks}
use Rattle.operator_steps.specs.Faults.{PassesLast}
use Rattle.operator_steps.specs.Moves.{AreInRange, Out, Quietly, StepBy, Work, counters_of}
use Rattle.operator_steps.specs.Steps.{Comes}
use Rattle.operator_steps.specs.Tick.{TickLine}
use Rattle.world_steps.specs.Steps.{OperatorRefuses}
use Rattle.refusal_laws.proofs.OperatorPackets.{is_taken, one_packet}
use Rattle.refusal_laws.proofs.OperatorReports.{no_credit_after, no_report_after, one_credit, one_report}
use Rattle.refusal_laws.proofs.OperatorTicks.{one_moment}
use Rattle.refusal_laws.proofs.Tallies.{Tally, same_counts, tally}

-- acts that take what others take are in range where these are
range_of : (s : State) (xs ys : List Act) → tally xs ≡ tally ys → AreInRange s ys → AreInRange s xs
range_of s xs ys same h = record {
  counters = subst (λ (t : Tally). IsInRange (later (counters_of s) t.messages t.requests)) (sym same) h.counters;
  numbers = λ c n i. h.numbers c n (same_counts xs ys same c n i);
}

-- where all that a line asks for takes the same, one that passes the last number leaves no step
none_past : (Line : Work → Type 0) (s : State) → ((v w : Work) → Line v → Line w → tally v.acts ≡ tally w.acts) → PassesLast Line s → (out : Out) → StepBy Line s out → ⊥
none_past Line s one h out step = h.past (range_of s h.work.acts step.work.acts (one h.work step.work h.line step.line) step.in_range)

module _ (s : State) (fine : IsConsistent s) (are : AreLocations s.site.locations) (out : Out) where
  packets : (at : ℕ) (q : Packet) (fault : NodeFault) → OperatorRefuses s (Arrives at q) fault → fault ≢ Memory → StepBy (Comes s at q) s out → ⊥
  packets at q NotForMe h other step = h (record { to = step.line.to; from = (step.line.provider, step.line.from); kind = is_taken s at q are step.line.provider step.work step.line.line })
  packets at q UnknownOperator h other step = h
  packets at q UnknownToken h other step = h
  packets at q StampEnd h other step = h
  packets at q NumbersUsedUp h other step = none_past (Comes s at q) s (one_packet s at q are) h out step
  packets at q Memory h other step = other refl

  reports : (at : ℕ) (report : ChargerEvent) (fault : NodeFault) → OperatorRefuses s (Reports at report) fault → fault ≢ Memory → StepBy (ChargerLine s at report) s out → ⊥
  reports at report NotForMe h other step = h
  reports at report UnknownOperator h other step = h
  reports at report UnknownToken h other step = h
  reports at report StampEnd h other step = no_report_after s at report fine.sound.one_claim h step.work step.line
  reports at report NumbersUsedUp h other step = none_past (ChargerLine s at report) s (one_report s at report fine.sound.one_claim) h out step
  reports at report Memory h other step = other refl

  credits : (at : ℕ) (session : List ℕ) (fault : NodeFault) → OperatorRefuses s (Credits at session) fault → fault ≢ Memory → StepBy (Quietly (CreditLine s at session)) s out → ⊥
  credits at session NotForMe h other step = h
  credits at session UnknownOperator h other step = h
  credits at session UnknownToken h other step = h
  credits at session StampEnd h other step = no_credit_after s at session h step.line.0 step.line.1
  credits at session NumbersUsedUp h other step = none_past (Quietly (CreditLine s at session)) s (one_credit s at session) h out step
  credits at session Memory h other step = other refl

  ticks : (at : ℕ) (fault : NodeFault) → OperatorRefuses s (Ticks at) fault → fault ≢ Memory → StepBy (TickLine s at) s out → ⊥
  ticks at NotForMe h other step = h
  ticks at UnknownOperator h other step = h
  ticks at UnknownToken h other step = h
  ticks at StampEnd h other step = h
  ticks at NumbersUsedUp h other step = none_past (TickLine s at) s (one_moment s at fine) h out step
  ticks at Memory h other step = other refl

  pub operator_excludes : (i : Input) (fault : NodeFault) → OperatorRefuses s i fault → fault ≢ Memory → StepBy (Asks s i) s out → ⊥
  operator_excludes (Arrives at q) fault h other step = packets at q fault h other step
  operator_excludes (Serves evse in_service) fault h other step = h
  operator_excludes (Reports at report) fault h other step = reports at report fault h other step
  operator_excludes (Credits at session) fault h other step = credits at session fault h other step
  operator_excludes (Ticks at) fault h other step = ticks at fault h other step
  operator_excludes Restarts fault h other step = h
  operator_excludes (Reopens line) fault h other step = h
