use Rattle.std.proofs.Common.{◌≡◌, drop}
use Rattle.std.specs.FinMap.{get}
use Rattle.node_steps.proofs.Gathering.{all_turns}
use Rattle.provider_steps.specs.Tick.{resent_acts}
use Rattle.provider_core.proofs.provider.Provider.add_all_resent.Given as goal

-- with the requests that are left, all are sent again
abbrev pub invariant-loop-number : goal.invariant-loop-number
invariant-loop-number l =
    all_turns (λ last n. resent_acts l.self.state.operators l.at n (get l.self.state.rows.outbox.pushes n) (get l.self.state.rows.outbox.commands n)) (drop l.number-index l.numbers) l.draft
    ≡ all_turns (λ last n. resent_acts l.self.state.operators l.at n (get l.self.state.rows.outbox.pushes n) (get l.self.state.rows.outbox.commands n)) l.numbers l.initial.draft
