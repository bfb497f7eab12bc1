-- Why rows are those of no provider with certain peers: which row of the list shows it, wherever it stands, and for
-- what reason.
use Rattle.std.specs.Prelude.{◌≡◌, ◌≢◌, ◌⊎◌, ℕ, List, Some, Contains, ⊤}
use Rattle.ocpi_text.specs.Text.{key}
use Rattle.ocpi_text.specs.declared.own_ids.OwnIdKind.TheVariants.{AuthorizationReference}
use Rattle.ocpi_types.specs.Commands.{reference_of}
use Rattle.ocpi_types.specs.Credits.{AreAlike, IsBill, IsCredit}
use Rattle.ocpi_types.specs.Rows.{key_of}
use Rattle.ocpi_types.specs.declared.cdrs.Cdr.{Cdr}
use Rattle.ocpi_types.specs.declared.rows.Counter.{Counter}
use Rattle.ocpi_types.specs.declared.rows.Counter.TheVariants as counter
use Rattle.ocpi_types.specs.declared.rows.Row.{Row}
use Rattle.ocpi_types.specs.declared.rows.Row.TheVariants as row
use Rattle.ocpi_types.specs.declared.rows.RowKey.{RowKey}
use Rattle.ocpi_types.specs.declared.rows.RowKey.TheVariants as keys
use Rattle.ocpi_types.specs.declared.sessions.Session.{Session}
use Rattle.ocpi_types.specs.declared.stored.Push.{Push}
use Rattle.ocpi_types.specs.declared.stored.SentCommand.{SentCommand}
use Rattle.ocpi_types.specs.declared.token.Token.{Token}
use Rattle.outbox.specs.Pushes.{subject}
use Rattle.outbox.specs.declared.push_book.Subject.{Subject}
use Rattle.node_steps.specs.Peers.{HasPeer}
use Rattle.provider_rows.specs.State.{Peering}
use Rattle.stored_rows.specs.Given.{IsNotGiven, IsOwnId, RepeatsKey}
use Rattle.stored_rows.specs.declared.fault.BadReason.{BadReason}
use Rattle.stored_rows.specs.declared.fault.BadReason.TheVariants as reason

-- a provider stores no such row: it has no sessions and no charge points of its own
abbrev pub IsForeign : Row → Type 0
IsForeign (row.Count counter.Session n) = ⊤
IsForeign (row.Count counter.Cdr n) = ⊤
IsForeign (row.Service evse) = ⊤
IsForeign (row.Spent p reference) = ⊤
IsForeign (row.Mark p id n) = ⊤
IsForeign (row.Reservation p id r) = ⊤
IsForeign (row.Pending p n o) = ⊤
IsForeign (row.Result p n x) = ⊤
IsForeign r = ⊥

pub data IsBad (peers : Peering) (rows : List Row) : RowKey → BadReason → Type 0 where
  -- ---- kinds, keys and numbers
  Repeated : (twice : RepeatsKey rows) → IsBad peers rows (key_of twice.other) reason.Repeated
  Foreign : (r : Row) → Contains rows r → IsForeign r → IsBad peers rows (key_of r) reason.OfOtherRole
  -- a counter that gave no number has no row
  NothingCounted : (c : Counter) → Contains rows (row.Count c 0) → IsBad peers rows (keys.Count c) reason.NothingCounted
  PushNotGiven : (n : ℕ) (to : List ℕ) (push : Push) → Contains rows (row.Push n to push) → IsNotGiven rows counter.Request n →
      IsBad peers rows (keys.Push n) reason.NotGiven
  CommandNotGiven : (n : ℕ) (c : SentCommand) → Contains rows (row.Command n c) → IsNotGiven rows counter.Request n → IsBad peers rows (keys.Command n) reason.NotGiven
  ReferenceNotGiven : (n : ℕ) (c : SentCommand) (r : List ℕ) (number : ℕ) → Contains rows (row.Command n c) → reference_of c.command ≡ Some r →
      IsOwnId AuthorizationReference peers.provider r number → IsNotGiven rows counter.Reference number → IsBad peers rows (keys.Command n) reason.NotGiven
  -- a number that is a push's and a command's: either shows it
  NumberShared : (n : ℕ) (to : List ℕ) (push : Push) (c : SentCommand) (k : RowKey) → Contains rows (row.Push n to push) → Contains rows (row.Command n c) →
      (k ≡ keys.Push n) ⊎ (k ≡ keys.Command n) → IsBad peers rows k reason.NumberShared
  -- ---- parties: what is of another provider's tokens, a reference that is not the provider's own, and what is to an
  -- operator that it does not deal with
  OtherToken : (t : Token) → Contains rows (row.Token t) → key t.party ≢ key peers.provider → IsBad peers rows (key_of (row.Token t)) reason.OfOtherParty
  OtherSession : (x : Session) → Contains rows (row.Session x) → key x.cdr_token.party ≢ key peers.provider → IsBad peers rows (key_of (row.Session x)) reason.OfOtherParty
  OtherCdr : (x : Cdr) → Contains rows (row.Cdr x) → key x.cdr_token.party ≢ key peers.provider → IsBad peers rows (key_of (row.Cdr x)) reason.OfOtherParty
  ReferenceNotOwn : (n : ℕ) (c : SentCommand) (r : List ℕ) → Contains rows (row.Command n c) → reference_of c.command ≡ Some r →
      ((number : ℕ) → IsOwnId AuthorizationReference peers.provider r number → ⊥) → IsBad peers rows (keys.Command n) reason.NotOwnReference
  PushToStranger : (n : ℕ) (to : List ℕ) (push : Push) → Contains rows (row.Push n to push) → ¬ HasPeer peers.operators (key to) →
      IsBad peers rows (keys.Push n) reason.UnknownParty
  CommandToStranger : (n : ℕ) (c : SentCommand) → Contains rows (row.Command n c) → ¬ HasPeer peers.operators (key c.to) →
      IsBad peers rows (keys.Command n) reason.UnknownParty
  -- ---- two pushes of one token to one party, and two bills or two credits of one session: each of the two shows it
  PushedTwice : (m n : ℕ) (to other : List ℕ) (a b : Push) (u : Subject) → m ≢ n → Contains rows (row.Push m to a) → Contains rows (row.Push n other b) →
      subject to a ≡ Some u → subject other b ≡ Some u → IsBad peers rows (keys.Push m) reason.PushedTwice
  BilledTwice : (x y : Cdr) → Contains rows (row.Cdr x) → Contains rows (row.Cdr y) → key x.party ≡ key y.party → key x.id ≢ key y.id →
      key x.session_id ≡ key y.session_id → AreAlike x y → IsBill x → IsBad peers rows (key_of (row.Cdr x)) reason.BilledTwice
  CreditedTwice : (x y : Cdr) → Contains rows (row.Cdr x) → Contains rows (row.Cdr y) → key x.party ≡ key y.party → key x.id ≢ key y.id →
      key x.session_id ≡ key y.session_id → AreAlike x y → IsCredit x → IsBad peers rows (key_of (row.Cdr x)) reason.CreditedTwice
