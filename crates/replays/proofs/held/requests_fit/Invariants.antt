use Rattle.std.proofs.Common.{◌≤◌, ℕ, take}
use Rattle.std.specs.Prelude.{Contains}
use Rattle.ocpi_text.specs.Whole.{max_whole}
use Rattle.ocpi_types.specs.declared.rows.Row.TheVariants.{Command}
use Rattle.ocpi_types.specs.declared.stored.SentCommand.{SentCommand}
use Rattle.replays.proofs.held.requests_fit.Given as goal

-- so it is of each before this one
abbrev pub invariant-loop-row : goal.invariant-loop-row
invariant-loop-row l = (n : ℕ) (c : SentCommand) → Contains (take l.row-index l.rows) (Command n c) → n ≤ max_whole
