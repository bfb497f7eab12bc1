-- The words of the closed lists (OCPI 2.2.1, Tokens: TokenType, WhitelistType and AllowedType; Commands:
-- CommandResponseType and CommandResultType; Sessions: SessionStatus; CDRs: AuthMethod).
use Rattle.std.specs.Prelude.{ℕ, List, codes, Option, Some, None, if◌then◌else◌}
use Rattle.std.specs.Str.{bytes_eq}
use Rattle.ocpi_types.specs.declared.words.TokenType.{TokenType}
use Rattle.ocpi_types.specs.declared.words.TokenType.TheVariants as type
use Rattle.ocpi_types.specs.declared.words.CommandResponseType.{CommandResponseType}
use Rattle.ocpi_types.specs.declared.words.CommandResponseType.TheVariants as response
use Rattle.ocpi_types.specs.declared.words.WhitelistType.{WhitelistType}
use Rattle.ocpi_types.specs.declared.words.WhitelistType.TheVariants as list
use Rattle.ocpi_types.specs.declared.words.CommandResultType.{CommandResultType}
use Rattle.ocpi_types.specs.declared.words.CommandResultType.TheVariants as result
use Rattle.ocpi_types.specs.declared.words.AllowedType.{AllowedType}
use Rattle.ocpi_types.specs.declared.words.AllowedType.TheVariants as allowed
use Rattle.ocpi_types.specs.declared.words.SessionStatus.{SessionStatus}
use Rattle.ocpi_types.specs.declared.words.SessionStatus.TheVariants as status
use Rattle.ocpi_types.specs.declared.words.AuthMethod.{AuthMethod}
use Rattle.ocpi_types.specs.declared.words.AuthMethod.TheVariants as method
use Rattle.ocpi_types.specs.declared.words.PacketKind.{PacketKind}
use Rattle.ocpi_types.specs.declared.words.PacketKind.TheVariants as kind

abbrev pub token_type_word : TokenType → List ℕ
token_type_word type.AdHocUser = codes "AD_HOC_USER"
token_type_word type.AppUser = codes "APP_USER"
token_type_word type.Other = codes "OTHER"
token_type_word type.Rfid = codes "RFID"

abbrev pub token_type_of : List ℕ → Option TokenType
token_type_of s =
    if bytes_eq s (codes "AD_HOC_USER") then Some type.AdHocUser
    else if bytes_eq s (codes "APP_USER") then Some type.AppUser
    else if bytes_eq s (codes "OTHER") then Some type.Other
    else if bytes_eq s (codes "RFID") then Some type.Rfid else None

abbrev pub whitelist_word : WhitelistType → List ℕ
whitelist_word list.Always = codes "ALWAYS"
whitelist_word list.Allowed = codes "ALLOWED"
whitelist_word list.AllowedOffline = codes "ALLOWED_OFFLINE"
whitelist_word list.Never = codes "NEVER"

abbrev pub whitelist_of : List ℕ → Option WhitelistType
whitelist_of s =
    if bytes_eq s (codes "ALWAYS") then Some list.Always
    else if bytes_eq s (codes "ALLOWED") then Some list.Allowed
    else if bytes_eq s (codes "ALLOWED_OFFLINE") then Some list.AllowedOffline
    else if bytes_eq s (codes "NEVER") then Some list.Never else None

abbrev pub response_word : CommandResponseType → List ℕ
response_word response.NotSupported = codes "NOT_SUPPORTED"
response_word response.Rejected = codes "REJECTED"
response_word response.Accepted = codes "ACCEPTED"
response_word response.UnknownSession = codes "UNKNOWN_SESSION"

abbrev pub response_of : List ℕ → Option CommandResponseType
response_of s =
    if bytes_eq s (codes "NOT_SUPPORTED") then Some response.NotSupported
    else if bytes_eq s (codes "REJECTED") then Some response.Rejected
    else if bytes_eq s (codes "ACCEPTED") then Some response.Accepted
    else if bytes_eq s (codes "UNKNOWN_SESSION") then Some response.UnknownSession else None

abbrev pub result_word : CommandResultType → List ℕ
result_word result.Accepted = codes "ACCEPTED"
result_word result.CanceledReservation = codes "CANCELED_RESERVATION"
result_word result.EvseOccupied = codes "EVSE_OCCUPIED"
result_word result.EvseInoperative = codes "EVSE_INOPERATIVE"
result_word result.Failed = codes "FAILED"
result_word result.NotSupported = codes "NOT_SUPPORTED"
result_word result.Rejected = codes "REJECTED"
result_word result.Timeout = codes "TIMEOUT"
result_word result.UnknownReservation = codes "UNKNOWN_RESERVATION"

abbrev pub result_of : List ℕ → Option CommandResultType
result_of s =
    if bytes_eq s (codes "ACCEPTED") then Some result.Accepted
    else if bytes_eq s (codes "CANCELED_RESERVATION") then Some result.CanceledReservation
    else if bytes_eq s (codes "EVSE_OCCUPIED") then Some result.EvseOccupied
    else if bytes_eq s (codes "EVSE_INOPERATIVE") then Some result.EvseInoperative
    else if bytes_eq s (codes "FAILED") then Some result.Failed
    else if bytes_eq s (codes "NOT_SUPPORTED") then Some result.NotSupported
    else if bytes_eq s (codes "REJECTED") then Some result.Rejected
    else if bytes_eq s (codes "TIMEOUT") then Some result.Timeout
    else if bytes_eq s (codes "UNKNOWN_RESERVATION") then Some result.UnknownReservation else None

abbrev pub allowed_word : AllowedType → List ℕ
allowed_word allowed.Allowed = codes "ALLOWED"
allowed_word allowed.Blocked = codes "BLOCKED"
allowed_word allowed.Expired = codes "EXPIRED"
allowed_word allowed.NoCredit = codes "NO_CREDIT"
allowed_word allowed.NotAllowed = codes "NOT_ALLOWED"

abbrev pub allowed_of : List ℕ → Option AllowedType
allowed_of s =
    if bytes_eq s (codes "ALLOWED") then Some allowed.Allowed
    else if bytes_eq s (codes "BLOCKED") then Some allowed.Blocked
    else if bytes_eq s (codes "EXPIRED") then Some allowed.Expired
    else if bytes_eq s (codes "NO_CREDIT") then Some allowed.NoCredit
    else if bytes_eq s (codes "NOT_ALLOWED") then Some allowed.NotAllowed else None

abbrev pub status_word : SessionStatus → List ℕ
status_word status.Active = codes "ACTIVE"
status_word status.Completed = codes "COMPLETED"
status_word status.Invalid = codes "INVALID"
status_word status.Pending = codes "PENDING"
status_word status.Reservation = codes "RESERVATION"

abbrev pub status_of : List ℕ → Option SessionStatus
status_of s =
    if bytes_eq s (codes "ACTIVE") then Some status.Active
    else if bytes_eq s (codes "COMPLETED") then Some status.Completed
    else if bytes_eq s (codes "INVALID") then Some status.Invalid
    else if bytes_eq s (codes "PENDING") then Some status.Pending
    else if bytes_eq s (codes "RESERVATION") then Some status.Reservation else None

abbrev pub method_word : AuthMethod → List ℕ
method_word method.AuthRequest = codes "AUTH_REQUEST"
method_word method.Command = codes "COMMAND"
method_word method.Whitelist = codes "WHITELIST"

abbrev pub method_of : List ℕ → Option AuthMethod
method_of s =
    if bytes_eq s (codes "AUTH_REQUEST") then Some method.AuthRequest
    else if bytes_eq s (codes "COMMAND") then Some method.Command
    else if bytes_eq s (codes "WHITELIST") then Some method.Whitelist else None

-- what a packet carries
abbrev pub kind_word : PacketKind → List ℕ
kind_word kind.StartSession = codes "start_session"
kind_word kind.StopSession = codes "stop_session"
kind_word kind.ReserveNow = codes "reserve_now"
kind_word kind.CancelReservation = codes "cancel_reservation"
kind_word kind.UnlockConnector = codes "unlock_connector"
kind_word kind.CommandResponse = codes "command_response"
kind_word kind.CommandResult = codes "command_result"
kind_word kind.PutToken = codes "put_token"
kind_word kind.Authorize = codes "authorize"
kind_word kind.Authorization = codes "authorization"
kind_word kind.PutSession = codes "put_session"
kind_word kind.PostCdr = codes "post_cdr"
kind_word kind.Ack = codes "ack"

abbrev pub kind_of_word : List ℕ → Option PacketKind
kind_of_word s =
    if bytes_eq s (codes "start_session") then Some kind.StartSession
    else if bytes_eq s (codes "stop_session") then Some kind.StopSession
    else if bytes_eq s (codes "reserve_now") then Some kind.ReserveNow
    else if bytes_eq s (codes "cancel_reservation") then Some kind.CancelReservation
    else if bytes_eq s (codes "unlock_connector") then Some kind.UnlockConnector
    else if bytes_eq s (codes "command_response") then Some kind.CommandResponse
    else if bytes_eq s (codes "command_result") then Some kind.CommandResult
    else if bytes_eq s (codes "put_token") then Some kind.PutToken
    else if bytes_eq s (codes "authorize") then Some kind.Authorize
    else if bytes_eq s (codes "authorization") then Some kind.Authorization
    else if bytes_eq s (codes "put_session") then Some kind.PutSession
    else if bytes_eq s (codes "post_cdr") then Some kind.PostCdr
    else if bytes_eq s (codes "ack") then Some kind.Ack else None
