-- How open commands end, reservations expire, and pushes are sent again (OCPI 2.2.1, Commands: CommandResult).
use Rattle.std.specs.Prelude.{◌≡◌, ℕ, map, List, [], ◌∷◌, Option, Some, None, Contains}
use Rattle.std.specs.List.{flat_map}
use Rattle.std.specs.FinMap.{get}
use Rattle.ocpi_text.specs.Text.{key}
use Rattle.ocpi_types.specs.Commands.{url_of}
use Rattle.ocpi_types.specs.declared.stored.OpenCommand.{OpenCommand}
use Rattle.command_book.specs.Stored as book
use Rattle.outbox.specs.Pushes.{Pushes}
use Rattle.outbox.specs.declared.push_book.Outgoing.{Outgoing}
use Rattle.reservation_book.specs.declared.standing.Standing.{Standing}
use Rattle.node_steps.specs.Acts.{Act, in_turn, resent}
use Rattle.node_steps.specs.Peers.{spelled}
use Rattle.operator_rows.specs.State.{Rows}
use Rattle.operator_steps.specs.declared.ending.Ending.{Ending}
use Rattle.operator_steps.specs.Acts.{closed, freed, settled}

-- to where the result of an open command is posted
abbrev pub url_in : Option OpenCommand → List ℕ
url_in None = []
url_in (Some o) = url_of o.command

-- the command is open no more: its result is pushed as the request after `last`, and kept
abbrev pub end_acts : ℕ → book.OpenCommands → ℕ → Ending → List Act
end_acts at m last e = closed e.provider e.number ∷ settled at last e.to e.provider e.number (url_in (get m (e.provider, e.number))) e.result

-- commands end one after the other, each under the next request number
abbrev pub ends_acts : ℕ → book.OpenCommands → ℕ → List Ending → List Act
ends_acts at m last ends = in_turn (end_acts at m) last ends

-- reservations end, of which nobody is told
abbrev pub expired_acts : List Standing → List Act
expired_acts expired = map (λ (x : Standing). freed x.provider x.id) expired

-- the push of that number is sent again, to its provider as these are spelled
abbrev pub resent_acts : List (List ℕ) → ℕ → ℕ → Option Outgoing → List Act
resent_acts providers at n None = []
resent_acts providers at n (Some o) = resent at n (spelled providers o.to) o.push ∷ []

abbrev pub all_resent : List (List ℕ) → ℕ → Pushes → List ℕ → List Act
all_resent providers at m numbers = flat_map (λ n. resent_acts providers at n (get m n)) numbers

-- the command of that ending is open
abbrev pub IsOpen : Rows → Ending → Type 0
IsOpen s e = (o : OpenCommand) × (get s.commands.pending (e.provider, e.number) ≡ Some o)

-- the ending names the provider as the site spells it
pub record IsOfSite (providers : List (List ℕ)) (e : Ending) : Type 0 where
  pub listed : Contains providers e.to
  pub same : key e.to ≡ e.provider
