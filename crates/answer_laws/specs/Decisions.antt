-- What an operator decides on a command (OCPI 2.2.1, Commands).
use Rattle.std.specs.Prelude.{◌≡◌, ℕ, List}
use Rattle.ocpi_types.specs.declared.commands.Command.{Command}
use Rattle.operator_rows.specs.State.{State}
use Rattle.operator_tables.specs.Decides.{Decides}
use Rattle.operator_tables.specs.declared.decision.Decision.{Decision}
use Rattle.stored_laws.specs.Nodes.{IsSound}
use Rattle.world_steps.specs.World.{Operates}
use Rattle.answer_laws.specs.Nodes.{SiteDiffers}

-- a command is decided in one way, also which of several EVSEs it takes
abbrev pub CommandsHaveOneDecision : Type 0
CommandsHaveOneDecision = (s : State) (at : ℕ) (sender : List ℕ) (n : ℕ) (c : Command) (d e : Decision) → IsSound (Operates s) → SiteDiffers s →
    Decides s.site s.rows at sender n c d → Decides s.site s.rows at sender n c e → d ≡ e
