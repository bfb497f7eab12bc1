-- What a command says of its result and of its session.
use Rattle.std.specs.Prelude.{ℕ, List, Option, None}
use Rattle.ocpi_types.specs.declared.commands.Command.{Command}
use Rattle.ocpi_types.specs.declared.commands.Command.TheVariants as command

-- to where the result of a command is posted (OCPI 2.2.1, Commands: response_url)
abbrev pub url_of : Command → List ℕ
url_of (command.StartSession c) = c.response_url
url_of (command.StopSession c) = c.response_url
url_of (command.ReserveNow c) = c.response_url
url_of (command.CancelReservation c) = c.response_url
url_of (command.UnlockConnector c) = c.response_url

-- the authorization reference of a start, if it has one (OCPI 2.2.1, Commands: StartSession object)
abbrev pub reference_of : Command → Option (List ℕ)
reference_of (command.StartSession c) = c.authorization_reference
reference_of (command.StopSession c) = None
reference_of (command.ReserveNow c) = None
reference_of (command.CancelReservation c) = None
reference_of (command.UnlockConnector c) = None
