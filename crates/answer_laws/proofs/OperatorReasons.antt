-- An operator refuses an input for one reason.
use Rattle.std.proofs.Common.{◌≡◌, ℕ, List, inl, inr, refl, sym, ◌∙◌}
use Rattle.std.specs.Prelude.{◌≢◌}
use Rattle.ocpi_types.specs.declared.events.ChargerEvent.{ChargerEvent}
use Rattle.ocpi_types.specs.declared.packet.Packet.{Packet}
use Rattle.node_steps.specs.declared.fault.NodeFault.{NodeFault}
use Rattle.node_steps.specs.declared.fault.NodeFault.TheVariants.{NotForMe, UnknownOperator, UnknownToken, StampEnd, NumbersUsedUp, Memory}
use Rattle.operator_rows.specs.Sound.{IsConsistent}
use Rattle.operator_rows.specs.State.{State}
use Rattle.operator_steps.specs.Credits.{HasNoCreditStamp}
use Rattle.operator_steps.specs.Events.{Arrives, Credits, Input, Reopens, Reports, Restarts, Serves, Ticks}
use Rattle.operator_steps.specs.Faults.{IsCreditFault, IsDue, IsOwnFault, IsReportFault}
use Rattle.operator_steps.specs.Moves.{Work}
use Rattle.operator_steps.specs.Sessions.{HasNoStamp}
use Rattle.operator_steps.specs.Steps as packets
use Rattle.operator_steps.specs.Steps.{Comes, IsForMe, IsTaken, PacketLine}
use Rattle.operator_steps.specs.Tick.{TickLine}
use Rattle.world_steps.specs.Steps.{OperatorRefuses}
use Rattle.world_steps.specs.Network.{OfOperator, OfProvider}
use Rattle.world_steps.specs.World.{Operates, Provides}
use Rattle.answer_laws.specs.Answers.{RefusalsHaveOneReason}
use Rattle.answer_laws.specs.Nodes.{SiteDiffers}
use Rattle.answer_laws.proofs.Branching.{Branch, one_branch, one_is}
use Rattle.answer_laws.proofs.OperatorReports.{no_report_after}
use Rattle.answer_laws.proofs.OperatorSteps.{no_credit_after}
use Rattle.answer_laws.proofs.ProviderReasons as provider

module _ (s : State) where
  is_taken : (at : ℕ) (q : Packet) (to : List ℕ) (work : Work) → PacketLine s at q to work → IsTaken q.body
  is_taken at q to work (packets.Again request r kept is) = inl request
  is_taken at q to work (packets.Decided c d h is) = inl (inl (c, h.carries))
  is_taken at q to work (packets.Sent t acts token new line is) = inl (inr (t, token))
  is_taken at q to work (packets.Acknowledged a ack ends is) = inr (inl (a, ack))
  is_taken at q to work (packets.Idle a ack other is) = inr (inl (a, ack))
  is_taken at q to work (packets.Answered a answer h) = inr (inr (a, answer))
  is_taken at q to work (packets.Unasked a answer none is) = inr (inr (a, answer))

  -- a packet that comes to something is for the operator
  pub for_me : (at : ℕ) (q : Packet) (work : Work) → Comes s at q work → IsForMe s q
  for_me at q work h = record { to = h.to; from = (h.provider, h.from); kind = is_taken at q h.provider work h.line }

  -- ---- the reason, by what holds

  packet_reason : (at : ℕ) (q : Packet) (f : NodeFault) → IsDue s at q f → f ≢ Memory → Branch (IsForMe s q) (λ x. x ≡ NumbersUsedUp) (λ x. x ≡ NotForMe) f
  packet_reason at q NotForMe h other = inr (h, refl)
  packet_reason at q UnknownOperator h other = absurd h
  packet_reason at q UnknownToken h other = absurd h
  packet_reason at q StampEnd h other = absurd h
  packet_reason at q NumbersUsedUp h other = inl (for_me at q h.work h.line, refl)
  packet_reason at q Memory h other = absurd (other refl)

  credit_reason : SiteDiffers s → (at : ℕ) (session : List ℕ) (f : NodeFault) → IsCreditFault s at session f → f ≢ Memory → Branch (HasNoCreditStamp s session) (λ x. x ≡ StampEnd) (λ x. x ≡ NumbersUsedUp) f
  credit_reason apart at session NotForMe h other = absurd h
  credit_reason apart at session UnknownOperator h other = absurd h
  credit_reason apart at session UnknownToken h other = absurd h
  credit_reason apart at session StampEnd h other = inl (h, refl)
  credit_reason apart at session NumbersUsedUp h other = inr (λ late. no_credit_after s apart at session late h.line.0 h.line.1, refl)
  credit_reason apart at session Memory h other = absurd (other refl)

  tick_reason : (at : ℕ) (f : NodeFault) → IsOwnFault (TickLine s at) s f → f ≢ Memory → f ≡ NumbersUsedUp
  tick_reason at NotForMe h other = absurd h
  tick_reason at UnknownOperator h other = absurd h
  tick_reason at UnknownToken h other = absurd h
  tick_reason at StampEnd h other = absurd h
  tick_reason at NumbersUsedUp h other = refl
  tick_reason at Memory h other = absurd (other refl)

  module _ (fine : IsConsistent s) (apart : SiteDiffers s) where
    report_reason : (at : ℕ) (report : ChargerEvent) (f : NodeFault) → IsReportFault s at report f → f ≢ Memory → Branch (HasNoStamp s at report) (λ x. x ≡ StampEnd) (λ x. x ≡ NumbersUsedUp) f
    report_reason at report NotForMe h other = absurd h
    report_reason at report UnknownOperator h other = absurd h
    report_reason at report UnknownToken h other = absurd h
    report_reason at report StampEnd h other = inl (h, refl)
    report_reason at report NumbersUsedUp h other = inr (λ late. no_report_after s fine apart at report late h.work h.line, refl)
    report_reason at report Memory h other = absurd (other refl)

    pub one_reason : (i : Input) (f g : NodeFault) → OperatorRefuses s i f → OperatorRefuses s i g → f ≢ Memory → g ≢ Memory → f ≡ g
    one_reason (Arrives at q) f g h k a b = one_branch (one_is NumbersUsedUp) (one_is NotForMe) f g (packet_reason at q f h a) (packet_reason at q g k b)
    one_reason (Serves evse in_service) f g h k a b = absurd h
    one_reason (Reports at report) f g h k a b = one_branch (one_is StampEnd) (one_is NumbersUsedUp) f g (report_reason at report f h a) (report_reason at report g k b)
    one_reason (Credits at session) f g h k a b = one_branch (one_is StampEnd) (one_is NumbersUsedUp) f g (credit_reason apart at session f h a) (credit_reason apart at session g k b)
    one_reason (Ticks at) f g h k a b = tick_reason at f h a ∙ sym (tick_reason at g k b)
    one_reason Restarts f g h k a b = absurd h
    one_reason (Reopens line) f g h k a b = absurd h

-- ---- a node of either role

pub refusals_have_one_reason : RefusalsHaveOneReason
refusals_have_one_reason (Operates s) (OfOperator i) f g sound apart h k a b = one_reason s sound apart i f g h k a b
refusals_have_one_reason (Provides s) (OfProvider i) f g sound apart h k a b = provider.one_reason s i f g h k a b
refusals_have_one_reason (Operates s) (OfProvider i) f g sound apart h k a b = absurd h
refusals_have_one_reason (Provides s) (OfOperator i) f g sound apart h k a b = absurd h
