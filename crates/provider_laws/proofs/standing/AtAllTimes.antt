-- What holds of a provider at all times, over runs.
use Rattle.std.proofs.Common.{List, sym, subst}
use Rattle.node_laws.proofs.Runs.{kept_runs}
use Rattle.node_steps.specs.Acts.{Act}
use Rattle.provider_rows.specs.State.{State, opening}
use Rattle.provider_rows.specs.Sound.{IsConsistent}
use Rattle.provider_rows.specs.Steps.{MayFollow}
use Rattle.provider_rows.proofs.KeepingTimes.{reopened_consistent}
use Rattle.provider_steps.specs.Events.{Arrives, Asks, Done, Event, Gives, Happens, Input, Refused, Reopened, Reopens, Restarted, Restarts, Submits, Ticks}
use Rattle.provider_steps.specs.Moves.{AreInRange, Out, step_of_acts}
use Rattle.provider_rows.specs.RowLaws.{StaysConsistent}
use Rattle.provider_steps.specs.Facts.{OrdersMayFollow, PacketsMayFollow, TicksMayFollow, TokensMayFollow}
use Rattle.provider_laws.specs.Laws.{AlwaysConsistent}

-- what is said of rows and of steps: what a line asks for may be carried out, and what may be carried out leaves a
-- provider consistent
pub record StepsHold : Type 0 where
  pub rows : StaysConsistent
  pub packets : PacketsMayFollow
  pub orders : OrdersMayFollow
  pub tokens : TokensMayFollow
  pub ticks : TicksMayFollow

module _ (hold : StepsHold) where
  asked_may : (s : State) (i : Input) (acts : List Act) → IsConsistent s → Asks s i acts → AreInRange s acts → MayFollow s (step_of_acts s acts)
  asked_may s (Arrives at q) acts fine line range = hold.packets at q s acts fine line range
  asked_may s (Submits at operator order) acts fine line range = hold.orders at operator order s acts fine line range
  asked_may s (Gives at t) acts fine line range = hold.tokens at t s acts fine line range
  asked_may s (Ticks at) acts fine line range = hold.ticks at s acts fine line range
  asked_may s Restarts acts fine line range = absurd line
  asked_may s (Reopens p) acts fine line range = absurd line

  consistent_stays : (s t : State) (e : Event) → Happens s e t → IsConsistent s → IsConsistent t
  consistent_stays s t e (Done by) fine =
      subst (λ (o : Out). IsConsistent o.state) (sym by.out_is) (hold.rows.by_steps s (step_of_acts s by.acts) (asked_may s e.input by.acts fine by.line by.in_range) fine)
  consistent_stays s t e (Restarted now is) fine = subst (λ (o : Out). IsConsistent o.state) (sym is) (hold.rows.by_restarts s fine)
  consistent_stays s t e (Reopened p now may is) fine = subst (λ (o : Out). IsConsistent o.state) (sym is) (reopened_consistent p s may)
  consistent_stays s t e (Refused same_setup is) fine = subst (λ (o : Out). IsConsistent o.state) (sym is) fine

pub consistent_over_runs : StepsHold → AlwaysConsistent
consistent_over_runs hold p es t peers run = kept_runs Happens IsConsistent (consistent_stays hold) (opening p) t es run (hold.rows.at_first p peers)
