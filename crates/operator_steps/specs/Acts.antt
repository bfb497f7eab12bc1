-- What an operator does in answer to a command: its acts (OCPI 2.2.1, Commands).
use Rattle.std.specs.Prelude.{ℕ, ◌+◌, ◌*◌, min, List, [], ◌∷◌, ◌++◌, Option, Some, None}
use Rattle.ocpi_text.specs.Text.{key}
use Rattle.ocpi_text.specs.Moment.{last_moment}
use Rattle.ocpi_types.specs.Commands.{reference_of, url_of}
use Rattle.ocpi_types.specs.declared.replies.CommandResult.{CommandResult}
use Rattle.ocpi_types.specs.declared.replies.CommandResponse.TheVariants as response
use Rattle.ocpi_types.specs.declared.rows.Change.TheVariants.{Put, Drop}
use Rattle.ocpi_types.specs.declared.rows.Row.TheVariants as row
use Rattle.ocpi_types.specs.declared.rows.RowKey.TheVariants as keys
use Rattle.ocpi_types.specs.declared.commands.Command.{Command}
use Rattle.ocpi_types.specs.declared.stored.OpenCommand.{OpenCommand}
use Rattle.ocpi_types.specs.declared.stored.Push.TheVariants as push
use Rattle.ocpi_types.specs.declared.stored.Reply.{Reply}
use Rattle.ocpi_types.specs.declared.stored.Reply.TheVariants as reply
use Rattle.ocpi_types.specs.declared.stored.Reservation.{Reservation}
use Rattle.ocpi_types.specs.declared.words.CommandResponseType.{CommandResponseType}
use Rattle.ocpi_types.specs.declared.words.CommandResponseType.TheVariants as word
use Rattle.ocpi_types.specs.declared.words.CommandResultType.{CommandResultType}
use Rattle.command_book.specs.Stored as book
use Rattle.node_steps.specs.Acts.{Act, changed, answered, pushed}
pub use Rattle.operator_tables.specs.Decides.{result_of}
use Rattle.operator_tables.specs.declared.decision.Decision.{Decision}
use Rattle.operator_tables.specs.declared.decision.Decision.TheVariants as decision

-- the seconds within which a result follows
abbrev pub timeout : ℕ
timeout = 30

-- the moment by which a command that is open since then has its result
abbrev pub deadline : ℕ → ℕ
deadline at = min (at + 1000 * timeout) last_moment

-- a response of another status than 1000, without data
abbrev pub refusal : ℕ → ℕ → Reply
refusal at status = reply.CommandResponse (response.Refused at status)

-- a response of status 1000
abbrev pub responded : ℕ → CommandResponseType → Reply
responded at w = reply.CommandResponse (response.Done at (record { result = w; timeout = timeout }))

-- the reply that a decision gives
abbrev pub reply_of : ℕ → Decision → Reply
reply_of at (decision.Refused status) = refusal at status
reply_of at (decision.Answered w) = responded at w
reply_of at decision.Opened = responded at word.Accepted
reply_of at (decision.Started place used) = responded at word.Accepted
reply_of at (decision.Resulted x) = responded at word.Accepted
reply_of at (decision.Noted id x) = responded at word.Accepted
reply_of at (decision.Reserved id r) = responded at word.Accepted
reply_of at (decision.Cancelled id) = responded at word.Accepted

-- the command of number n of the party of key p is open until its result
abbrev pub opened : List ℕ → ℕ → OpenCommand → Act
opened p n o = changed (Put (row.Pending p n o))

-- it is open no more
abbrev pub closed : List ℕ → ℕ → Act
closed p n = changed (Drop (keys.Pending p n))

-- requests about the reservation of that id that are older than n come too late
abbrev pub marked : List ℕ → List ℕ → ℕ → Act
marked p id n = changed (Put (row.Mark p id n))

-- the reservation of that id stands from now on, and it ends
abbrev pub reserved : List ℕ → List ℕ → Reservation → Act
reserved p id r = changed (Put (row.Reservation p id r))

abbrev pub freed : List ℕ → List ℕ → Act
freed p id = changed (Drop (keys.Reservation p id))

-- the reservation that is used, where one is, ends
abbrev pub used : List ℕ → Option (List ℕ) → List Act
used p None = []
used p (Some id) = freed p id ∷ []

-- the reference, where there is one, may not be used again
abbrev pub spent : List ℕ → Option (List ℕ) → List Act
spent p None = []
spent p (Some reference) = changed (Put (row.Spent p (key reference))) ∷ []

-- how a command ended, as its provider is told (OCPI 2.2.1, Commands: CommandResult)
abbrev pub told : List ℕ → CommandResultType → CommandResult
told url x = record { response_url = url; result = x }

-- the command of number n of the party `to`, whose key is p, ended by that result, which is pushed as the request
-- after `last`, and kept
abbrev pub settled : ℕ → ℕ → List ℕ → List ℕ → ℕ → List ℕ → CommandResultType → List Act
settled at last to p n url x = pushed at (last + 1) to (push.CommandResult (told url x)) ∷ (changed (Put (row.Result p n x)) ∷ [])

abbrev pub settled_if : ℕ → ℕ → List ℕ → List ℕ → ℕ → List ℕ → Option CommandResultType → List Act
settled_if at last to p n url None = []
settled_if at last to p n url (Some x) = settled at last to p n url x

-- what a decision does beside the reply and the result, on the command of that number of the party of key p
abbrev pub own_acts : ℕ → List ℕ → ℕ → Command → Decision → List Act
own_acts at p n c (decision.Refused status) = []
own_acts at p n c (decision.Answered w) = []
own_acts at p n c decision.Opened = opened p n (book.open_command c None (deadline at)) ∷ []
own_acts at p n c (decision.Started place reservation) = used p reservation ++ (opened p n (book.open_command c (Some place) (deadline at)) ∷ spent p (reference_of c))
own_acts at p n c (decision.Resulted x) = []
own_acts at p n c (decision.Noted id x) = marked p id n ∷ []
own_acts at p n c (decision.Reserved id r) = marked p id n ∷ (reserved p id r ∷ [])
own_acts at p n c (decision.Cancelled id) = marked p id n ∷ (freed p id ∷ [])

-- a decision on the command of that number of a party `to`, whose key is p: it is answered, what was decided is done,
-- and its result follows, where there is one
abbrev pub decided_acts : ℕ → ℕ → List ℕ → List ℕ → ℕ → Command → Decision → List Act
decided_acts at last to p n c d = answered p to n (reply_of at d) ∷ (own_acts at p n c d ++ settled_if at last to p n (url_of c) (result_of d))
