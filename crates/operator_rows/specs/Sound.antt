-- What holds of an operator at all times, which is exactly what stored rows are to be tested for when an operator is
-- made of them; and which changes of rows keep it.
use Rattle.std.specs.Prelude.{◌≡◌, ◌≢◌, ◌≤◌, ℕ, List, [], ◌∷◌, Some, None, Ok, IsTrue, ⊤}
use Rattle.std.specs.FinMap.{get, contains_key}
use Rattle.ocpi_text.specs.Party.{party_at}
use Rattle.ocpi_text.specs.Text.{key}
use Rattle.ocpi_text.specs.Whole.{max_whole}
use Rattle.ocpi_types.specs.Prices.{price_at}
use Rattle.ocpi_types.specs.declared.rows.Row.{Row}
use Rattle.ocpi_types.specs.declared.rows.Row.TheVariants as row
use Rattle.ocpi_types.specs.declared.rows.RowKey.{RowKey}
use Rattle.ocpi_types.specs.declared.rows.RowKey.TheVariants as keys
use Rattle.ocpi_types.specs.declared.rows.Change.{Change}
use Rattle.ocpi_types.specs.declared.rows.Change.TheVariants.{Put, Drop}
use Rattle.ocpi_types.specs.declared.rows.Counter.{Counter}
use Rattle.ocpi_types.specs.declared.rows.Counter.TheVariants as counter
use Rattle.ocpi_types.specs.declared.site.Site.{Site}
use Rattle.ocpi_types.specs.declared.cdrs.Cdr.{Cdr}
use Rattle.ocpi_types.specs.declared.sessions.Session.{Session}
use Rattle.ocpi_types.specs.declared.token.Token.{Token}
use Rattle.ocpi_types.specs.declared.commands.Command.{Command}
use Rattle.ocpi_types.specs.declared.commands.Command.TheVariants as command
use Rattle.ocpi_types.specs.declared.stored.OpenCommand.{OpenCommand}
use Rattle.ocpi_types.specs.declared.stored.Push.{Push}
use Rattle.ocpi_types.specs.declared.stored.Reservation.{Reservation}
use Rattle.ocpi_types.specs.declared.words.CommandResultType.{CommandResultType}
use Rattle.site_book.specs.declared.claim.Claim.{Claim}
use Rattle.site_book.specs.declared.claim.Claim.TheVariants.{OpenStart, Live, Reserved}
use Rattle.site_book.specs.Sites.{IsEvse, IsConnectorOf, IsSiteOf}
use Rattle.command_book.specs.Stored as commands
use Rattle.ocpi_text.specs.OwnIds.{own_id_text}
use Rattle.ocpi_text.specs.declared.own_ids.OwnIdKind.TheVariants as kind
use Rattle.session_state.specs.Versions.{IsPriced, IsUncharged}
use Rattle.session_book.specs.Stored as charged
use Rattle.session_book.specs.Numbers.{AreNumbered}
use Rattle.token_desk.specs.Tokens.{TokenKey}
use Rattle.token_desk.specs.Tokens as desk
use Rattle.authorization_book.specs.Waits.{OneEach}
use Rattle.authorization_book.specs.declared.awaited.Awaited.{Awaited}
use Rattle.outbox.specs.Outbox as outbox
use Rattle.outbox.specs.Pushes.{subject}
use Rattle.outbox.specs.declared.push_book.Outgoing.{Outgoing}
use Rattle.node_steps.specs.Peers.{HasPeer}
use Rattle.operator_rows.specs.State.{State, Rows, HasClaim, IsLive, IsStart, OneClaimEach, Takes, as_outbox}
use Rattle.operator_rows.specs.Stored.{changed}

-- the EVSE and the connector that a start took, which are of the site
pub record HasPlace (site : Site) (o : OpenCommand) : Type 0 where
  pub uid : List ℕ
  pub evse_is : o.evse_uid ≡ Some uid
  pub connector : List ℕ
  pub connector_is : o.connector_id ≡ Some connector
  pub of_site : IsConnectorOf site.locations (key uid) (key connector)

-- the command is no start, or its token is the provider's
abbrev pub IsOwnStart : List ℕ → Command → Type 0
IsOwnStart p (command.StartSession c) = key c.token.party ≡ p
IsOwnStart p (command.StopSession c) = ⊤
IsOwnStart p (command.ReserveNow c) = ⊤
IsOwnStart p (command.CancelReservation c) = ⊤
IsOwnStart p (command.UnlockConnector c) = ⊤

-- a command of that provider and number may be open: it was answered, and has no result
pub record MayBeOpen (s : State) (p : List ℕ) (n : ℕ) (o : OpenCommand) : Type 0 where
  pub provider : HasPeer s.providers p
  pub answered : IsTrue (contains_key s.rows.commands.replies (p, n))
  pub unsettled : get s.rows.commands.results (p, n) ≡ None
  pub own : IsOwnStart p o.command
  pub place : IsStart o.command → HasPlace s.site o

-- a session that has not ended: its provider is one of the site, it is at a connector of the site, its currency is the
-- site's, and its cost is that of its energy at the price of the moment at which it began; one that is PENDING has none
pub record MayGoOn (s : State) (v : Session) : Type 0 where
  pub provider : HasPeer s.providers (key v.cdr_token.party)
  pub place : IsConnectorOf s.site.locations (key v.evse_uid) (key v.connector_id)
  pub currency : v.currency ≡ s.site.currency
  pub priced : IsPriced (price_at s.site) v
  pub uncharged : IsUncharged v

-- a session is of this operator, and may go on if it has not ended
pub record MayStand (s : State) (v : Session) : Type 0 where
  pub own : key v.party ≡ key s.party
  pub going : IsLive v.status → MayGoOn s v

-- the authorization of a token may be awaited: its provider is one of the site, and the driver is at a connector of
-- the site
pub record MayAwait (s : State) (w : Awaited) : Type 0 where
  pub provider : HasPeer s.providers (key w.token.party)
  pub place : IsConnectorOf s.site.locations (key w.place.evse_uid) (key w.place.connector_id)

pub record IsSound (s : State) : Type 0 where
  -- each EVSE has at most one claim
  pub one_claim : OneClaimEach s.rows
  -- each open command was answered, has no result, and is of a provider of the site; a start has an EVSE and a
  -- connector, and a token of its provider
  pub pending : (p : List ℕ) (n : ℕ) (o : OpenCommand) → get s.rows.commands.pending (p, n) ≡ Some o → MayBeOpen s p n o
  -- each command that has a result was answered
  pub results : (k : commands.Request) (x : CommandResultType) → get s.rows.commands.results k ≡ Some x → IsTrue (contains_key s.rows.commands.replies k)
  -- each reservation is on an EVSE of the site, and names the location of that EVSE
  pub reservations : (p id : List ℕ) (r : Reservation) → get s.rows.booked.reservations (p, id) ≡ Some r → IsSiteOf s.site.locations (key r.evse_uid) (key r.location_id)
  -- what is out of service is an EVSE of the site
  pub service : (evse : List ℕ) → IsTrue (contains_key s.rows.out_of_service evse) → IsEvse s.site.locations evse
  -- each push is to a provider of the site
  pub pushes : (n : ℕ) (o : Outgoing) → get s.rows.pushes n ≡ Some o → HasPeer s.providers (key o.to)
  -- each push has a number that was given, and no two are about the same
  pub outbox : outbox.AreConsistent (as_outbox s.rows)
  -- each token, each session and each charge detail record stands under its own key
  pub tokens_keyed : desk.AreKeyed s.rows.tokens
  pub charged_keyed : charged.AreKeyed s.rows.charged
  -- each token is of a provider of the site
  pub tokens : (k : TokenKey) (t : Token) → get s.rows.tokens k ≡ Some t → HasPeer s.providers (key t.party)
  -- each session and each charge detail record is of this operator, and a session that has not ended may go on
  pub sessions : (id : List ℕ) (v : Session) → get s.rows.charged.sessions id ≡ Some v → MayStand s v
  pub cdrs : (id : List ℕ) (x : Cdr) → get s.rows.charged.cdrs id ≡ Some x → key x.party ≡ key s.party
  -- each of them whose id this operator makes of a number has a number that was given
  pub numbered : AreNumbered s.party s.rows.charged

pub record IsConsistent (s : State) : Type 0 where
  pub sound : IsSound s
  -- only a push that stands has a resend time
  pub resend : outbox.AreResent (as_outbox s.rows) s.resend
  -- at each EVSE at most one authorization is awaited, of a provider of the site, and at a connector of the site
  pub waits : OneEach s.waits
  pub awaited : (n : ℕ) (w : Awaited) → get s.waits n ≡ Some w → MayAwait s w
  -- each was asked for by a request whose number was given
  pub asked : (n : ℕ) → IsTrue (contains_key s.waits n) → n ≤ s.rows.request
  -- the operator is a party by its form, so that its ids differ
  pub own : party_at s.party ≡ Ok s.party

-- nothing claims the EVSE but, perhaps, what makes that claim
abbrev pub MayClaim : Rows → List ℕ → Claim → Type 0
MayClaim s evse c = (d : Claim) → HasClaim s evse d → d ≡ c

pub record MayPutPush (s : State) (n : ℕ) (to : List ℕ) (push : Push) : Type 0 where
  pub peer : HasPeer s.providers (key to)
  pub outbox : outbox.MayPutPush (as_outbox s.rows) n (subject to push)

pub record MayPutReservation (s : State) (p id : List ℕ) (r : Reservation) : Type 0 where
  pub place : IsSiteOf s.site.locations (key r.evse_uid) (key r.location_id)
  pub alone : MayClaim s.rows (key r.evse_uid) (Reserved p id)

pub record MayPutPending (s : State) (p : List ℕ) (n : ℕ) (o : OpenCommand) : Type 0 where
  pub may : MayBeOpen s p n o
  pub alone : (evse : List ℕ) → Takes o evse → MayClaim s.rows evse (OpenStart p n)

pub record MayPutResult (s : State) (p : List ℕ) (n : ℕ) : Type 0 where
  pub answered : IsTrue (contains_key s.rows.commands.replies (p, n))
  pub settled : get s.rows.commands.pending (p, n) ≡ None

-- no request that stands has a number above that one, which was given, and the counter does not go back
pub record MayPutRequest (s : State) (last : ℕ) : Type 0 where
  pub given : last ≢ 0
  pub up_to : outbox.AreUpTo (as_outbox s.rows) last
  pub grows : s.rows.request ≤ last

-- the counter of sessions, or of charge detail records, gave that number last, and no number above it
pub record MayPutNumber (s : State) (c : Counter) (last : ℕ) : Type 0 where
  pub given : last ≢ 0
  pub numbered : AreNumbered s.party (charged.counted c last s.rows.charged)

-- a token of a provider of the site
abbrev pub MayPutToken : State → Token → Type 0
MayPutToken s t = HasPeer s.providers (key t.party)

-- a version of a session in place of the one that stands, if there is one
pub record MayPutSession (s : State) (v : Session) : Type 0 where
  pub stands : MayStand s v
  pub alone : IsLive v.status → MayClaim s.rows (key v.evse_uid) (Live (key v.cdr_token.party) (key v.id))
  pub number : (n : ℕ) → n ≤ max_whole → key (own_id_text kind.Session s.party n) ≡ key v.id → n ≤ s.rows.charged.last_session

pub record MayPutCdr (s : State) (x : Cdr) : Type 0 where
  pub own : key x.party ≡ key s.party
  pub number : (n : ℕ) → n ≤ max_whole → key (own_id_text kind.Cdr s.party n) ≡ key x.id → n ≤ s.rows.charged.last_cdr

-- a counter that gave no number has no row. A provider alone has the counter of references
abbrev pub MayPutCount : State → Counter → ℕ → Type 0
MayPutCount s counter.Serial last = last ≢ 0
MayPutCount s counter.Request last = MayPutRequest s last
MayPutCount s counter.Session last = MayPutNumber s counter.Session last
MayPutCount s counter.Cdr last = MayPutNumber s counter.Cdr last
MayPutCount s counter.Reference last = ⊥

-- what holds at all times holds after the row is put. Of some kinds an operator stores no rows
abbrev pub MayPut : State → Row → Type 0
MayPut s (row.Count c last) = MayPutCount s c last
MayPut s (row.Reply sender number reply) = ⊤
MayPut s (row.Token t) = MayPutToken s t
MayPut s (row.Push n to push) = MayPutPush s n to push
MayPut s (row.Service evse) = IsEvse s.site.locations evse
MayPut s (row.Spent provider reference) = ⊤
MayPut s (row.Mark provider id number) = ⊤
MayPut s (row.Reservation provider id r) = MayPutReservation s provider id r
MayPut s (row.Pending provider number o) = MayPutPending s provider number o
MayPut s (row.Result provider number x) = MayPutResult s provider number
MayPut s (row.Session x) = MayPutSession s x
MayPut s (row.Cdr x) = MayPutCdr s x
MayPut s (row.Command n x) = ⊥

-- and after it is dropped. Counters, replies, tokens, results, spent references, marks, sessions and charge detail
-- records are kept for good
abbrev pub MayDrop : State → RowKey → Type 0
MayDrop s (keys.Count c) = ⊥
MayDrop s (keys.Reply sender number) = ⊥
MayDrop s (keys.Token party token_type uid) = ⊥
MayDrop s (keys.Push n) = ⊤
MayDrop s (keys.Service evse) = IsEvse s.site.locations evse
MayDrop s (keys.Spent provider reference) = ⊥
MayDrop s (keys.Mark provider id) = ⊥
MayDrop s (keys.Reservation provider id) = ⊤
MayDrop s (keys.Pending provider number) = ⊤
MayDrop s (keys.Result provider number) = ⊥
MayDrop s (keys.Session operator id) = ⊥
MayDrop s (keys.Cdr operator id) = ⊥
MayDrop s (keys.Command n) = ⊥

abbrev pub MayChange : State → Change → Type 0
MayChange s (Put r) = MayPut s r
MayChange s (Drop k) = MayDrop s k

-- the state with other rows
abbrev pub with_rows : Rows → State → State
with_rows rows s = record s { rows = rows }

-- changes may be made one after the other
abbrev pub MayChangeAll : State → List Change → Type 0
MayChangeAll s [] = ⊤
MayChangeAll s (c ∷ cs) = MayChange s c × MayChangeAll (with_rows (changed c s.rows) s) cs
