-- The kind of what a packet carries.
use Rattle.ocpi_types.specs.declared.commands.Command.{Command}
use Rattle.ocpi_types.specs.declared.commands.Command.TheVariants as command
use Rattle.ocpi_types.specs.declared.packet.Body.{Body}
use Rattle.ocpi_types.specs.declared.packet.Body.TheVariants as body
use Rattle.ocpi_types.specs.declared.words.PacketKind.{PacketKind}
use Rattle.ocpi_types.specs.declared.words.PacketKind.TheVariants as kind

abbrev pub kind_of_command : Command → PacketKind
kind_of_command (command.StartSession c) = kind.StartSession
kind_of_command (command.StopSession c) = kind.StopSession
kind_of_command (command.ReserveNow c) = kind.ReserveNow
kind_of_command (command.CancelReservation c) = kind.CancelReservation
kind_of_command (command.UnlockConnector c) = kind.UnlockConnector

abbrev pub kind_of : Body → PacketKind
kind_of (body.Command c) = kind_of_command c
kind_of (body.CommandResponse b) = kind.CommandResponse
kind_of (body.CommandResult b) = kind.CommandResult
kind_of (body.PutToken b) = kind.PutToken
kind_of (body.Authorize b) = kind.Authorize
kind_of (body.Authorization b) = kind.Authorization
kind_of (body.PutSession b) = kind.PutSession
kind_of (body.PostCdr b) = kind.PostCdr
kind_of (body.Ack b) = kind.Ack
