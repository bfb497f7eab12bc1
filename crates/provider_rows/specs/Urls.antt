-- How the command is found whose result is posted to a url (OCPI 2.2.1, Commands: response_url).
use Rattle.std.specs.Prelude.{◌≡◌, ℕ, ◌+◌, ◌*◌, ◌%◌, List, [], ◌∷◌, Some, IsTrue}
use Rattle.std.specs.FinMap.{get, contains_key}
use Rattle.ocpi_text.specs.Text.{key}
use Rattle.ocpi_types.specs.Commands.{url_of}
use Rattle.ocpi_types.specs.declared.stored.SentCommand.{SentCommand}
use Rattle.tables.specs.Indexes.{Indexes}
use Rattle.outbox.specs.Commands.{Commands}
use Rattle.outbox.specs.Resend.{Moments, queue_number}

-- the result of the command of that number is posted to that url, by that party
pub record Fits (m : Commands) (url from : List ℕ) (n : ℕ) : Type 0 where
  pub command : SentCommand
  pub stands : get m n ≡ Some command
  pub posted : url_of command.command ≡ url
  pub sender : key command.to ≡ key from

-- the number by which commands are found by their urls: a sum of its bytes, each weighed by its place. Other urls may
-- have the same
abbrev pub url_place : List ℕ → ℕ
url_place [] = 0
url_place (b ∷ bs) = (b + 31 * url_place bs) % 1000000007

-- where the command of a number stands among all, by its url
abbrev pub url_entry : ℕ → SentCommand → ℕ × ℕ
url_entry n command = (url_place (url_of command.command), n)

-- each command stands there, and nothing else
abbrev pub AreFound : Commands → Moments → Type 0
AreFound m urls = Indexes url_entry queue_number m urls

-- each entry that has room keeps it
abbrev pub KeepsUrlRoom : Moments → Moments → Type 0
KeepsUrlRoom s t = (q : ℕ × ℕ) → IsTrue (contains_key s q) → IsTrue (contains_key t q)
