-- A row that is put beside those that stand, none of which is of a later turn.
use Rattle.std.specs.Prelude.{◌≡◌, ◌≢◌, ◌≤◌, ◌<◌, ℕ, List, Contains, Result, Ok, Err, ⊤}
use Rattle.ocpi_text.specs.OwnIds.{own_id_text}
use Rattle.ocpi_text.specs.Text.{key}
use Rattle.ocpi_text.specs.Whole.{max_whole}
use Rattle.ocpi_text.specs.declared.own_ids.OwnIdKind.{OwnIdKind}
use Rattle.ocpi_text.specs.declared.own_ids.OwnIdKind.TheVariants as own
use Rattle.ocpi_types.specs.Prices.{price_at}
use Rattle.ocpi_types.specs.Rows.{key_of}
use Rattle.ocpi_types.specs.declared.rows.Row.{Row}
use Rattle.ocpi_types.specs.declared.rows.Row.TheVariants as row
use Rattle.ocpi_types.specs.declared.rows.RowKey.{RowKey}
use Rattle.ocpi_types.specs.declared.site.SiteLine.{SiteLine}
use Rattle.ocpi_types.specs.declared.sessions.Session.{Session}
use Rattle.ocpi_types.specs.declared.stored.OpenCommand.{OpenCommand}
use Rattle.node_steps.specs.Peers.{HasPeer}
use Rattle.site_book.specs.Sites.{IsConnectorOf}
use Rattle.site_book.specs.declared.claim.Claim.TheVariants.{Live, OpenStart}
use Rattle.session_state.specs.Resuming.{CannotResume}
use Rattle.stored_rows.specs.Given.{IsOwnId, RepeatsKey}
use Rattle.stored_rows.specs.Records.{IsRecordId}
use Rattle.stored_rows.specs.Turns.{turn_of}
use Rattle.stored_rows.specs.declared.fault.BadReason.{BadReason}
use Rattle.operator_rows.specs.Rows.{AreRowsOf, HasRow}
use Rattle.operator_rows.specs.Sound.{HasPlace, IsSound, MayClaim, MayPut, with_rows}
use Rattle.operator_rows.specs.State.{IsStart, State, Takes, opening}
use Rattle.operator_stored.specs.Bad.{IsBad}

-- no row of a later turn stands
pub record IsInTurn (s : State) (r : Row) : Type 0 where
  pub sound : IsSound s
  pub no_later : (q : Row) → HasRow s.rows q → turn_of q ≤ turn_of r

-- none of its key does
abbrev pub IsNew : State → Row → Type 0
IsNew s r = (q : Row) → HasRow s.rows q → key_of q ≢ key_of r

-- one of its key does
abbrev pub Stands : State → Row → Type 0
Stands s r = (q : Row) × HasRow s.rows q × (key_of q ≡ key_of r)

pub record ComesNext (s : State) (r : Row) : Type 0 where
  pub in_turn : IsInTurn s r
  pub is_new : IsNew s r

-- the row is one of those of which an operator of that site is made, and those of all earlier turns stand
pub record IsPlaced (line : SiteLine) (rows : List Row) (s : State) (r : Row) : Type 0 where
  pub of_site : s ≡ with_rows s.rows (opening line)
  pub here : Contains rows r
  pub among : (q : Row) → HasRow s.rows q → Contains rows q
  pub earlier : (q : Row) → Contains rows q → turn_of q < turn_of r → HasRow s.rows q
  pub twice : (q : Row) → HasRow s.rows q → key_of q ≡ key_of r → (t : RepeatsKey rows) × (key_of t.other ≡ key_of r)

-- what is asked of a row beside what the books keep
abbrev pub IsFit : State → Row → Type 0
IsFit s (row.Session v) = ((n : ℕ) × IsOwnId own.Session s.party v.id n) × ¬ CannotResume (price_at s.site v.start_date_time) v
IsFit s (row.Cdr x) = (n : ℕ) × IsRecordId s.party x n
IsFit s r = ⊤

pub record MayAdd (s : State) (r : Row) : Type 0 where
  pub may : MayPut s r
  pub fit : IsFit s r

-- an open command has its place to itself, if it is a start
pub record MayTake (s : State) (p : List ℕ) (n : ℕ) (o : OpenCommand) : Type 0 where
  pub place : IsStart o.command → HasPlace s.site o
  pub alone : (evse : List ℕ) → Takes o evse → MayClaim s.rows evse (OpenStart p n)

-- a session is in the site's currency, and has its place to itself
pub record MayCharge (s : State) (v : Session) : Type 0 where
  pub currency : v.currency ≡ s.site.currency
  pub provider : HasPeer s.providers (key v.cdr_token.party)
  pub place : IsConnectorOf s.site.locations (key v.evse_uid) (key v.connector_id)
  pub alone : MayClaim s.rows (key v.evse_uid) (Live (key v.cdr_token.party) (key v.id))

-- what has that party and that id is the operator's own, and its number was given, of which the last is that one
pub record IsOwn (s : State) (kind : OwnIdKind) (last : ℕ) (party id : List ℕ) : Type 0 where
  pub of_operator : key party ≡ key s.party
  pub number : ℕ
  pub made : IsOwnId kind s.party id number
  pub given : (n : ℕ) → n ≤ max_whole → key (own_id_text kind s.party n) ≡ key id → n ≤ last

-- the row of that key shows that the rows are bad, and why, whichever the others are
abbrev pub ShowsAs : State → Row → RowKey → BadReason → Type 0
ShowsAs s r k reason = (line : SiteLine) (rows : List Row) → IsPlaced line rows s r → IsBad line rows k reason

-- the row itself does
abbrev pub ShowsBad : State → Row → BadReason → Type 0
ShowsBad s r reason = ShowsAs s r (key_of r) reason

-- the answer to whether that holds, where the row shows for what reason the rows are bad if it does not
abbrev pub Answers : Result (Unit {0}) BadReason → Type 0 → State → Row → Type 0
Answers (Ok x) P s r = P
Answers (Err reason) P s r = ShowsBad s r reason

-- the answer to whether the row may be put
abbrev pub Tells : Result (Unit {0}) BadReason → State → Row → Type 0
Tells answer s r = Answers answer (MayAdd s r) s r

-- just these rows stand, each once, and nothing else differs from the opening
pub record ArePut (line : SiteLine) (rows : List Row) (s : State) : Type 0 where
  pub of_site : s ≡ with_rows s.rows (opening line)
  pub has_rows : AreRowsOf rows s.rows
  pub fit : (r : Row) → HasRow s.rows r → IsFit s r
