-- The authorization references of starts (OCPI 2.2.1, Commands: StartSession), and which open starts carry them.
use Rattle.std.specs.Prelude.{◌≡◌, ℕ, List, Some}
use Rattle.std.specs.FinMap.{get}
use Rattle.ocpi_text.specs.Text.{key}
use Rattle.ocpi_types.specs.Commands.{reference_of}
use Rattle.ocpi_types.specs.declared.stored.OpenCommand.{OpenCommand}
use Rattle.operator_rows.specs.State.{Rows}

-- the open command is a start with that reference, in key form
abbrev pub Uses : OpenCommand → List ℕ → Type 0
Uses o reference = (spelled : List ℕ) × (reference_of o.command ≡ Some spelled) × (key spelled ≡ reference)

-- the open command of that provider and number carries the reference
abbrev pub Carries : Rows → List ℕ → ℕ → List ℕ → Type 0
Carries s p n reference = (o : OpenCommand) × (get s.commands.pending (p, n) ≡ Some o) × Uses o reference

-- each reference of a provider is carried by at most one of its open starts
abbrev pub HaveOneCarrier : Rows → Type 0
HaveOneCarrier s = (p : List ℕ) (m n : ℕ) (reference : List ℕ) → Carries s p m reference → Carries s p n reference → m ≡ n

-- a reference that is carried may not be used again
abbrev pub AreSpent : Rows → Type 0
AreSpent s = (p : List ℕ) (n : ℕ) (reference : List ℕ) → Carries s p n reference → get s.spent (p, reference) ≡ Some tt
