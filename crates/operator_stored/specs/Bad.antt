-- Why rows are those of no operator of a site: which row of the list shows it, wherever it stands, and for what reason.
use Rattle.std.specs.Prelude.{◌≡◌, ◌≢◌, ℕ, List, None, Some, Contains, ⊤}
use Rattle.ocpi_text.specs.Text.{key}
use Rattle.ocpi_text.specs.declared.own_ids.OwnIdKind.TheVariants as own
use Rattle.ocpi_types.specs.Prices.{price_at}
use Rattle.ocpi_types.specs.Credits.{IsBill, IsCredit}
use Rattle.ocpi_types.specs.Rows.{key_of}
use Rattle.ocpi_types.specs.declared.cdrs.Cdr.{Cdr}
use Rattle.ocpi_types.specs.declared.rows.Counter.{Counter}
use Rattle.ocpi_types.specs.declared.rows.Counter.TheVariants as counter
use Rattle.ocpi_types.specs.declared.rows.Row.{Row}
use Rattle.ocpi_types.specs.declared.rows.Row.TheVariants as row
use Rattle.ocpi_types.specs.declared.rows.RowKey.{RowKey}
use Rattle.ocpi_types.specs.declared.rows.RowKey.TheVariants as keys
use Rattle.ocpi_types.specs.declared.sessions.Price.{Price}
use Rattle.ocpi_types.specs.declared.sessions.Session.{Session}
use Rattle.ocpi_types.specs.declared.site.SiteLine.{SiteLine}
use Rattle.ocpi_types.specs.declared.stored.OpenCommand.{OpenCommand}
use Rattle.ocpi_types.specs.declared.stored.Push.{Push}
use Rattle.ocpi_types.specs.declared.stored.Reply.{Reply}
use Rattle.ocpi_types.specs.declared.stored.Reservation.{Reservation}
use Rattle.ocpi_types.specs.declared.token.Token.{Token}
use Rattle.ocpi_types.specs.declared.words.CommandResultType.{CommandResultType}
use Rattle.ocpi_types.specs.declared.words.SessionStatus.TheVariants as status
use Rattle.site_book.specs.Sites.{IsConnectorOf, IsEvse, IsSiteOf}
use Rattle.site_book.specs.declared.claim.Claim.{Claim}
use Rattle.site_book.specs.declared.claim.Claim.TheVariants.{OpenStart, Live, Reserved}
use Rattle.outbox.specs.Pushes.{subject}
use Rattle.outbox.specs.declared.push_book.Subject.{Subject}
use Rattle.session_state.specs.Versions.{IsPriced, IsUncharged}
use Rattle.node_steps.specs.Peers.{HasPeer}
use Rattle.operator_rows.specs.Sound.{IsOwnStart}
use Rattle.operator_rows.specs.State.{IsLive, IsStart, Occupies, Takes}
use Rattle.stored_rows.specs.Given.{IsNotGiven, IsOwnId, RepeatsKey}
use Rattle.stored_rows.specs.Records.{IsRecordId}
use Rattle.stored_rows.specs.declared.fault.BadReason.{BadReason}
use Rattle.stored_rows.specs.declared.fault.BadReason.TheVariants as reason
use Rattle.operator_stored.specs.Bills.{BillsTwice, HasBill, HasEnded, HasItsBill}

-- an operator stores no such row: it gives no authorization references to orders of its own, and sends no commands
abbrev pub IsForeign : Row → Type 0
IsForeign (row.Count counter.Reference n) = ⊤
IsForeign (row.Command n command) = ⊤
IsForeign r = ⊥

-- the row makes that claim on the EVSE of that key
abbrev pub MakesClaim : Row → List ℕ → Claim → Type 0
MakesClaim (row.Pending p n o) evse c = Takes o evse × (c ≡ OpenStart p n)
MakesClaim (row.Reservation p id r) evse c = (key r.evse_uid ≡ evse) × (c ≡ Reserved p id)
MakesClaim (row.Session v) evse c = (p : List ℕ) × Occupies v p evse × (c ≡ Live p (key v.id))
MakesClaim r evse c = ⊥

pub data IsBad (line : SiteLine) (rows : List Row) : RowKey → BadReason → Type 0 where
  -- ---- kinds, keys and numbers
  Repeated : (twice : RepeatsKey rows) → IsBad line rows (key_of twice.other) reason.Repeated
  Foreign : (r : Row) → Contains rows r → IsForeign r → IsBad line rows (key_of r) reason.OfOtherRole
  -- a counter that gave no number has no row
  NothingCounted : (c : Counter) → Contains rows (row.Count c 0) → IsBad line rows (keys.Count c) reason.NothingCounted
  PushNotGiven : (n : ℕ) (to : List ℕ) (push : Push) → Contains rows (row.Push n to push) → IsNotGiven rows counter.Request n →
      IsBad line rows (keys.Push n) reason.NotGiven
  SessionNotGiven : (v : Session) (n : ℕ) → Contains rows (row.Session v) → IsOwnId own.Session line.parties.operator v.id n → IsNotGiven rows counter.Session n →
      IsBad line rows (key_of (row.Session v)) reason.NotGiven
  CdrNotGiven : (x : Cdr) (n : ℕ) → Contains rows (row.Cdr x) → IsRecordId line.parties.operator x n → IsNotGiven rows counter.Cdr n →
      IsBad line rows (key_of (row.Cdr x)) reason.NotGiven
  -- ---- parties: what is not the operator's own, and what concerns a provider that is none of the site's
  SessionOfOther : (v : Session) → Contains rows (row.Session v) → key v.party ≢ key line.parties.operator → IsBad line rows (key_of (row.Session v)) reason.OfOtherParty
  CdrOfOther : (x : Cdr) → Contains rows (row.Cdr x) → key x.party ≢ key line.parties.operator → IsBad line rows (key_of (row.Cdr x)) reason.OfOtherParty
  SessionIdNotOwn : (v : Session) → Contains rows (row.Session v) → ((n : ℕ) → IsOwnId own.Session line.parties.operator v.id n → ⊥) →
      IsBad line rows (key_of (row.Session v)) reason.NotOwnId
  CdrIdNotOwn : (x : Cdr) → Contains rows (row.Cdr x) → ((n : ℕ) → IsRecordId line.parties.operator x n → ⊥) →
      IsBad line rows (key_of (row.Cdr x)) reason.NotOwnId
  PushToStranger : (n : ℕ) (to : List ℕ) (push : Push) → Contains rows (row.Push n to push) → ¬ HasPeer line.parties.providers (key to) →
      IsBad line rows (keys.Push n) reason.UnknownParty
  TokenOfStranger : (t : Token) → Contains rows (row.Token t) → ¬ HasPeer line.parties.providers (key t.party) → IsBad line rows (key_of (row.Token t)) reason.UnknownParty
  CommandOfStranger : (p : List ℕ) (n : ℕ) (o : OpenCommand) → Contains rows (row.Pending p n o) → ¬ HasPeer line.parties.providers p →
      IsBad line rows (keys.Pending p n) reason.UnknownParty
  SessionOfStranger : (v : Session) → Contains rows (row.Session v) → IsLive v.status → ¬ HasPeer line.parties.providers (key v.cdr_token.party) →
      IsBad line rows (key_of (row.Session v)) reason.UnknownParty
  -- an open start with a token of another provider
  StartOfOtherToken : (p : List ℕ) (n : ℕ) (o : OpenCommand) → Contains rows (row.Pending p n o) → ¬ IsOwnStart p o.command →
      IsBad line rows (keys.Pending p n) reason.TokenOfOtherParty
  -- ---- EVSEs that the site has not
  ServiceNowhere : (evse : List ℕ) → Contains rows (row.Service evse) → ¬ IsEvse line.site.locations evse → IsBad line rows (keys.Service evse) reason.UnknownEvse
  ReservationNowhere : (p id : List ℕ) (r : Reservation) → Contains rows (row.Reservation p id r) → ¬ IsEvse line.site.locations (key r.evse_uid) →
      IsBad line rows (keys.Reservation p id) reason.UnknownEvse
  StartNowhere : (p : List ℕ) (n : ℕ) (o : OpenCommand) (uid : List ℕ) → Contains rows (row.Pending p n o) → IsStart o.command → o.evse_uid ≡ Some uid →
      ¬ IsEvse line.site.locations (key uid) → IsBad line rows (keys.Pending p n) reason.UnknownEvse
  SessionNowhere : (v : Session) → Contains rows (row.Session v) → IsLive v.status → ¬ IsEvse line.site.locations (key v.evse_uid) →
      IsBad line rows (key_of (row.Session v)) reason.UnknownEvse
  -- ---- EVSEs of the site that have no such connector, or are elsewhere; and starts without an EVSE or a connector
  StartAtNoConnector : (p : List ℕ) (n : ℕ) (o : OpenCommand) (uid connector : List ℕ) → Contains rows (row.Pending p n o) → IsStart o.command →
      o.evse_uid ≡ Some uid → o.connector_id ≡ Some connector → IsEvse line.site.locations (key uid) →
      ¬ IsConnectorOf line.site.locations (key uid) (key connector) → IsBad line rows (keys.Pending p n) reason.UnknownConnector
  SessionAtNoConnector : (v : Session) → Contains rows (row.Session v) → IsLive v.status → IsEvse line.site.locations (key v.evse_uid) →
      ¬ IsConnectorOf line.site.locations (key v.evse_uid) (key v.connector_id) → IsBad line rows (key_of (row.Session v)) reason.UnknownConnector
  ReservationElsewhere : (p id : List ℕ) (r : Reservation) → Contains rows (row.Reservation p id r) → IsEvse line.site.locations (key r.evse_uid) →
      ¬ IsSiteOf line.site.locations (key r.evse_uid) (key r.location_id) → IsBad line rows (keys.Reservation p id) reason.OtherLocation
  StartWithoutEvse : (p : List ℕ) (n : ℕ) (o : OpenCommand) → Contains rows (row.Pending p n o) → IsStart o.command → o.evse_uid ≡ None →
      IsBad line rows (keys.Pending p n) reason.WithoutPlace
  StartWithoutConnector : (p : List ℕ) (n : ℕ) (o : OpenCommand) → Contains rows (row.Pending p n o) → IsStart o.command → o.connector_id ≡ None →
      IsBad line rows (keys.Pending p n) reason.WithoutPlace
  -- ---- two claims on one EVSE: each of the two rows shows it
  ClaimedTwice : (a b : Row) (evse : List ℕ) (c d : Claim) → Contains rows a → Contains rows b → MakesClaim a evse c → MakesClaim b evse d → c ≢ d →
      IsBad line rows (key_of a) reason.ClaimedTwice
  -- ---- commands without a reply, and with a result while they are open: the command and its result show it
  OpenUnanswered : (p : List ℕ) (n : ℕ) (o : OpenCommand) → Contains rows (row.Pending p n o) →
      ((reply : Reply) → ¬ Contains rows (row.Reply p n reply)) → IsBad line rows (keys.Pending p n) reason.Unanswered
  ResultUnanswered : (p : List ℕ) (n : ℕ) (x : CommandResultType) → Contains rows (row.Result p n x) →
      ((reply : Reply) → ¬ Contains rows (row.Reply p n reply)) → IsBad line rows (keys.Result p n) reason.Unanswered
  OpenWithResult : (p : List ℕ) (n : ℕ) (o : OpenCommand) (x : CommandResultType) → Contains rows (row.Pending p n o) → Contains rows (row.Result p n x) →
      IsBad line rows (keys.Pending p n) reason.OpenWithResult
  ResultOfOpen : (p : List ℕ) (n : ℕ) (o : OpenCommand) (x : CommandResultType) → Contains rows (row.Pending p n o) → Contains rows (row.Result p n x) →
      IsBad line rows (keys.Result p n) reason.OpenWithResult
  -- ---- two pushes of one session, or of one token to one party: each of the two shows it
  PushedTwice : (m n : ℕ) (to other : List ℕ) (a b : Push) (u : Subject) → m ≢ n → Contains rows (row.Push m to a) → Contains rows (row.Push n other b) →
      subject to a ≡ Some u → subject other b ≡ Some u → IsBad line rows (keys.Push m) reason.PushedTwice
  -- ---- sessions that cannot go on: which status has it, whether it has a cost, and of what price that is. One that is
  -- PENDING has no energy
  OfReservation : (v : Session) → Contains rows (row.Session v) → v.status ≡ status.Reservation → IsBad line rows (key_of (row.Session v)) reason.ReservationStatus
  CostMissing : (v : Session) → Contains rows (row.Session v) → v.total_cost ≡ None → IsBad line rows (key_of (row.Session v)) reason.WithoutCost
  ChargedEarly : (v : Session) → Contains rows (row.Session v) → ¬ IsUncharged v → IsBad line rows (key_of (row.Session v)) reason.EnergyWhilePending
  OtherPrice : (v : Session) (cost : Price) → Contains rows (row.Session v) → v.total_cost ≡ Some cost → ¬ IsPriced (price_at line.site) v →
      IsBad line rows (key_of (row.Session v)) (reason.OtherPrice v.start_date_time v.kwh cost.excl_vat (price_at line.site v.start_date_time))
  -- ---- a session that has not ended would cost what the site's number says, in another money
  OtherMoney : (v : Session) → Contains rows (row.Session v) → IsLive v.status → v.currency ≢ line.site.currency → IsBad line rows (key_of (row.Session v)) reason.OtherCurrency
  -- ---- bills and credits: each of two bills of one session shows it, and each of two credits
  BilledTwice : (twice : BillsTwice rows) → IsBill twice.other → IsBad line rows (key_of (row.Cdr twice.other)) reason.BilledTwice
  CreditedTwice : (twice : BillsTwice rows) → IsCredit twice.other → IsBad line rows (key_of (row.Cdr twice.other)) reason.CreditedTwice
  BilledEarly : (x : Cdr) → Contains rows (row.Cdr x) → ¬ HasEnded rows (key x.session_id) → IsBad line rows (key_of (row.Cdr x)) reason.BilledEarly
  Unbilled : (v : Session) → Contains rows (row.Session v) → v.status ≡ status.Completed → ¬ HasBill rows (key v.id) → IsBad line rows (key_of (row.Session v)) reason.Unbilled
  CreditWithoutBill : (x : Cdr) → Contains rows (row.Cdr x) → IsCredit x → ¬ HasItsBill rows x → IsBad line rows (key_of (row.Cdr x)) reason.CreditWithoutBill
