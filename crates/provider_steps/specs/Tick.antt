-- What the time does at a provider.
use Rattle.std.specs.Prelude.{◌≡◌, ℕ, List, [], ◌∷◌, Option, Some, None}
use Rattle.std.specs.List.{flat_map}
use Rattle.std.specs.FinMap.{get}
use Rattle.ocpi_types.specs.declared.stored.SentCommand.{SentCommand}
use Rattle.outbox.specs.Due.{AreExactly, IsDue}
use Rattle.outbox.specs.Outbox.{OutboxRows}
use Rattle.outbox.specs.declared.push_book.Outgoing.{Outgoing}
use Rattle.node_steps.specs.Acts.{Act, command_resent, resent}
use Rattle.node_steps.specs.Peers.{spelled}
use Rattle.provider_rows.specs.State.{State}
use Rattle.provider_steps.specs.Moves.{Out, StepBy}

-- the request of that number, a push or a command, is sent again, to its operator as these are spelled
abbrev pub resent_acts : List (List ℕ) → ℕ → ℕ → Option Outgoing → Option SentCommand → List Act
resent_acts operators at n (Some o) c = resent at n (spelled operators o.to) o.push ∷ []
resent_acts operators at n None (Some c) = command_resent at n (spelled operators c.to) c.command ∷ []
resent_acts operators at n None None = []

abbrev pub all_resent : List (List ℕ) → ℕ → OutboxRows → List ℕ → List Act
all_resent operators at r numbers = flat_map (λ n. resent_acts operators at n (get r.pushes n) (get r.commands n)) numbers

-- what a moment comes to, were there no last number: the requests that wait and are due are sent again, by their
-- numbers
pub record TickLine (s : State) (at : ℕ) (acts : List Act) : Type 0 where
  pub due : List ℕ
  pub are_due : AreExactly (IsDue s.rows.outbox s.resend at) due
  pub acts_are : acts ≡ all_resent s.operators at s.rows.outbox due

-- one step of a provider: time passes
abbrev pub TickStep : State → ℕ → Out → Type 0
TickStep s at out = StepBy (TickLine s at) s out
