-- A request as the operator handles it, and what a moment comes to where all was read before it.
use Rattle.std.specs.Prelude.{◌≡◌, ℕ, List, [], ◌∷◌, Option, Some, None, Result, Ok, Err, IsTrue, Contains}
use Rattle.std.specs.FinMap.{contains_key, get}
use Rattle.ocpi_text.specs.Text.{key}
use Rattle.ocpi_types.specs.Commands.{url_of}
use Rattle.ocpi_types.specs.declared.packet.Packet.{Packet}
use Rattle.ocpi_types.specs.declared.replies.CommandResult.{CommandResult}
use Rattle.ocpi_types.specs.declared.rows.Place.{Place}
use Rattle.ocpi_types.specs.declared.commands.Command.{Command}
use Rattle.ocpi_types.specs.declared.stored.Reply.{Reply}
use Rattle.ocpi_types.specs.declared.words.CommandResultType.{CommandResultType}
use Rattle.command_book.specs.Stored as book
use Rattle.outbox.specs.Pushes.{Pushes}
use Rattle.ocpi_types.specs.declared.rows.Change.TheVariants.{Put}
use Rattle.ocpi_types.specs.declared.rows.Row.TheVariants as row
use Rattle.ocpi_types.specs.declared.token.Token.{Token}
use Rattle.token_desk.specs.declared.answers.TokenPut.{TokenPut}
use Rattle.token_desk.specs.declared.answers.TokenPut.TheVariants.{Stored, Kept}
use Rattle.token_desk.specs.declared.fault.TokenFault.{TokenFault}
use Rattle.node_steps.specs.Acts.{Act, answered, changed, repeated}
use Rattle.node_steps.specs.Peers.{IsPeer}
use Rattle.operator_rows.specs.State.{Rows, State}
use Rattle.operator_tables.specs.declared.decision.Decision.{Decision}
use Rattle.operator_tables.specs.declared.request.Request.{Request}
use Rattle.operator_steps.specs.declared.ending.Ending.{Ending}
use Rattle.operator_steps.specs.Acts.{deadline, decided_acts, opened, own_acts, settled_if, told}
use Rattle.operator_steps.specs.Ends.{ends_acts, url_in}
use Rattle.operator_steps.specs.Steps.{acknowledgement}

-- the request that came to this operator in a packet
pub record IsRequest (s : State) (at : ℕ) (q : Packet) (r : Request) : Type 0 where
  pub to : key q.to ≡ key s.party
  pub from : IsPeer s.providers q.from r.from
  pub provider : r.provider ≡ key q.from
  pub number : r.number ≡ q.request
  pub moment : r.at ≡ at

-- each of the numbers is of a push that stands
abbrev pub AllStand : Pushes → List ℕ → Type 0
AllStand m numbers = (n : ℕ) → Contains numbers n → IsTrue (contains_key m n)

-- how many results there are
abbrev pub result_count : Option CommandResultType → ℕ
result_count None = 0
result_count (Some x) = 1

-- what a decision does in answer to a request, beside the reply and the result, and of it that the command is open
-- until its result
abbrev pub opened_by : Request → Command → Option Place → Act
opened_by r c place = opened r.provider r.number (book.open_command c place (deadline r.at))

abbrev pub own_by : Request → Command → Decision → List Act
own_by r c d = own_acts r.at r.provider r.number c d

-- the result of a request, where it has one at once; `last` is the operator's last request
abbrev pub settled_by : Request → ℕ → Command → Option CommandResultType → List Act
settled_by r last c x = settled_if r.at last r.from r.provider r.number (url_of c) x

-- all that a decision does in answer to a request, and all where the request was answered before
abbrev pub decided_by : Request → ℕ → Command → Decision → List Act
decided_by r last c d = decided_acts r.at last r.from r.provider r.number c d

abbrev pub repeated_by : Request → Reply → List Act
repeated_by r reply = repeated r.from r.number reply ∷ []

-- how an open command ended, as its provider is told, and what its end does where nothing else happens
abbrev pub told_of_end : Rows → Ending → CommandResult
told_of_end s e = told (url_in (get s.commands.pending (e.provider, e.number))) e.result

abbrev pub acts_of_end : State → ℕ → Ending → List Act
acts_of_end s at e = ends_acts at s.rows.commands.pending s.rows.request (e ∷ [])

-- the status of the reply to a token
abbrev pub status_of : Result TokenPut TokenFault → ℕ
status_of (Ok put) = 1000
status_of (Err fault) = 2001

-- the token is stored where it is newer
abbrev pub stored_acts : Token → Result TokenPut TokenFault → List Act
stored_acts t (Ok Stored) = changed (Put (row.Token t)) ∷ []
stored_acts t (Ok Kept) = []
stored_acts t (Err fault) = []

-- all that becomes of a token in answer to a request
abbrev pub put_acts : Request → Token → Result TokenPut TokenFault → List Act
put_acts r t put = answered r.provider r.from r.number (acknowledgement r.at (status_of put)) ∷ stored_acts t put
