-- How much the JSON of each record of OCPI needs at most.
use Rattle.std.proofs.Common.{◌≡◌, ◌≤◌, ◌<◌, ◌+◌, ◌*◌, ℕ, ℤ, suc, Bool, true, false, List, [], ◌∷◌, length, map, Option, Some, None, option_map, Ok, refl, arith, length-take, length-drop}
use Rattle.std.specs.List.{All}
use Rattle.std.specs.Prelude.{IfSome, unsigned_abs}
use Rattle.json.specs.Json as json
use Rattle.json.specs.Tree.{items_tokens, json_tokens, room}
use Rattle.ocpi_text.specs.Decimal.{e4_limit}
use Rattle.ocpi_text.specs.Moment.{moment_text}
use Rattle.ocpi_text.specs.Party.{party_at, country_of, party_id_of}
use Rattle.ocpi_text.specs.Whole.{max_whole}
use Rattle.ocpi_text.proofs.Parties.{party_parts}
use Rattle.ocpi_types.specs.Kinds.{kind_of}
use Rattle.ocpi_types.specs.Words.{allowed_word, kind_word, method_word, response_word, result_word, status_word, token_type_word, whitelist_word}
use Rattle.ocpi_types.specs.declared.authorizations.Authorization.{Authorization}
use Rattle.ocpi_types.specs.declared.authorizations.Authorization.TheVariants as authorization
use Rattle.ocpi_types.specs.declared.authorizations.AuthorizationInfo.{AuthorizationInfo}
use Rattle.ocpi_types.specs.declared.authorizations.Authorize.{Authorize}
use Rattle.ocpi_types.specs.declared.authorizations.LocationReferences.{LocationReferences}
use Rattle.ocpi_types.specs.declared.cdrs.Cdr.{Cdr}
use Rattle.ocpi_types.specs.declared.cdrs.CdrDimension.{CdrDimension}
use Rattle.ocpi_types.specs.declared.cdrs.CdrLocation.{CdrLocation}
use Rattle.ocpi_types.specs.declared.cdrs.ChargingPeriod.{ChargingPeriod}
use Rattle.ocpi_types.specs.declared.cdrs.GeoLocation.{GeoLocation}
use Rattle.ocpi_types.specs.declared.commands.CancelReservation.{CancelReservation}
use Rattle.ocpi_types.specs.declared.commands.Command.{Command}
use Rattle.ocpi_types.specs.declared.commands.Command.TheVariants as command
use Rattle.ocpi_types.specs.declared.commands.ReserveNow.{ReserveNow}
use Rattle.ocpi_types.specs.declared.commands.StartSession.{StartSession}
use Rattle.ocpi_types.specs.declared.commands.StopSession.{StopSession}
use Rattle.ocpi_types.specs.declared.commands.UnlockConnector.{UnlockConnector}
use Rattle.ocpi_types.specs.declared.packet.Body.{Body}
use Rattle.ocpi_types.specs.declared.packet.Body.TheVariants as body
use Rattle.ocpi_types.specs.declared.replies.Ack.{Ack}
use Rattle.ocpi_types.specs.declared.replies.CommandResponse.{CommandResponse}
use Rattle.ocpi_types.specs.declared.replies.CommandResponse.TheVariants as response
use Rattle.ocpi_types.specs.declared.replies.CommandResult.{CommandResult}
use Rattle.ocpi_types.specs.declared.replies.ResponseData.{ResponseData}
use Rattle.ocpi_types.specs.declared.sessions.Price.{Price}
use Rattle.ocpi_types.specs.declared.sessions.Session.{Session}
use Rattle.ocpi_types.specs.declared.token.CdrToken.{CdrToken}
use Rattle.ocpi_types.specs.declared.token.Token.{Token}
use Rattle.ocpi_types.specs.declared.words.AllowedType.{AllowedType}
use Rattle.ocpi_types.specs.declared.words.AllowedType.TheVariants as allowed
use Rattle.ocpi_types.specs.declared.words.AuthMethod.{AuthMethod}
use Rattle.ocpi_types.specs.declared.words.AuthMethod.TheVariants as method
use Rattle.ocpi_types.specs.declared.words.CommandResponseType.{CommandResponseType}
use Rattle.ocpi_types.specs.declared.words.CommandResponseType.TheVariants as answer
use Rattle.ocpi_types.specs.declared.words.CommandResultType.{CommandResultType}
use Rattle.ocpi_types.specs.declared.words.CommandResultType.TheVariants as outcome
use Rattle.ocpi_types.specs.declared.words.PacketKind.{PacketKind}
use Rattle.ocpi_types.specs.declared.words.PacketKind.TheVariants as kind
use Rattle.ocpi_types.specs.declared.words.SessionStatus.{SessionStatus}
use Rattle.ocpi_types.specs.declared.words.SessionStatus.TheVariants as status
use Rattle.ocpi_types.specs.declared.words.TokenType.{TokenType}
use Rattle.ocpi_types.specs.declared.words.TokenType.TheVariants as type
use Rattle.ocpi_types.specs.declared.words.WhitelistType.{WhitelistType}
use Rattle.ocpi_types.specs.declared.words.WhitelistType.TheVariants as whitelist
use Rattle.ocpi_forms.specs.AnyCommand.{command_members, CommandFits}
use Rattle.ocpi_forms.specs.AuthorizationForms.{authorization_info_members, authorization_members, authorize_members, location_references_members, AuthorizationFits, AuthorizationInfoFits, AuthorizeFits, LocationReferencesFits}
use Rattle.ocpi_forms.specs.Bodies.{body_members, BodyFits}
use Rattle.ocpi_forms.specs.CdrForms.{cdr_members, cdr_members_in, CdrFits}
use Rattle.ocpi_forms.specs.CdrLocationForms.{cdr_location_members, geo_location_members, CdrLocationFits, GeoLocationFits}
use Rattle.ocpi_forms.specs.ChargingPeriodForms.{cdr_dimension_members, charging_period_members, CdrDimensionFits, ChargingPeriodFits}
use Rattle.ocpi_forms.specs.CreditForms.{credit_value}
use Rattle.ocpi_forms.specs.declared.credits.CdrForm.TheVariants as form
use Rattle.ocpi_forms.specs.CommandForms.{cancel_reservation_members, reserve_now_members, start_session_members, stop_session_members, unlock_connector_members, CancelReservationFits, ReserveNowFits, StartSessionFits, StopSessionFits, UnlockConnectorFits}
use Rattle.ocpi_forms.specs.ReplyForms.{ack_members, command_response_members, command_result_members, response_data_members, AckFits, CommandResponseFits, CommandResultFits, ResponseDataFits}
use Rattle.ocpi_forms.specs.SessionForms.{cdr_token_members, price_members, session_members, CdrTokenFits, PriceFits, SessionFits}
use Rattle.ocpi_forms.specs.Tokens.{token_members, TokenFits}
use Rattle.json_text.specs.Fits.{FitsCi, FitsOption}
use Rattle.json_text.specs.Members.{items_of, object_of, objects, strings}
use Rattle.packet_lengths.specs.Lengths.{evses_listed, listed, periods_listed, texts_listed}
use Rattle.packet_lengths.proofs.Sizes.{◌and◌, Needs, OptionNeeds, ci_needs, e4_needs, free_needs, moment_needs, record_needs, record_within, room_append, text_needs, truth_needs, whole_needs, wider}

-- ---- the words of the closed lists, and the halves of a party

word_needs : (s : List ℕ) → length s ≤ 20 → Needs 123 (json.string s)
word_needs s le = text_needs 20 s le

token_type_short : (t : TokenType) → length (token_type_word t) ≤ 20
token_type_short type.AdHocUser = omega arith
token_type_short type.AppUser = omega arith
token_type_short type.Other = omega arith
token_type_short type.Rfid = omega arith

whitelist_short : (t : WhitelistType) → length (whitelist_word t) ≤ 20
whitelist_short whitelist.Always = omega arith
whitelist_short whitelist.Allowed = omega arith
whitelist_short whitelist.AllowedOffline = omega arith
whitelist_short whitelist.Never = omega arith

answer_short : (t : CommandResponseType) → length (response_word t) ≤ 20
answer_short answer.NotSupported = omega arith
answer_short answer.Rejected = omega arith
answer_short answer.Accepted = omega arith
answer_short answer.UnknownSession = omega arith

outcome_short : (t : CommandResultType) → length (result_word t) ≤ 20
outcome_short outcome.Accepted = omega arith
outcome_short outcome.CanceledReservation = omega arith
outcome_short outcome.EvseOccupied = omega arith
outcome_short outcome.EvseInoperative = omega arith
outcome_short outcome.Failed = omega arith
outcome_short outcome.NotSupported = omega arith
outcome_short outcome.Rejected = omega arith
outcome_short outcome.Timeout = omega arith
outcome_short outcome.UnknownReservation = omega arith

allowed_short : (t : AllowedType) → length (allowed_word t) ≤ 20
allowed_short allowed.Allowed = omega arith
allowed_short allowed.Blocked = omega arith
allowed_short allowed.Expired = omega arith
allowed_short allowed.NoCredit = omega arith
allowed_short allowed.NotAllowed = omega arith

status_short : (t : SessionStatus) → length (status_word t) ≤ 20
status_short status.Active = omega arith
status_short status.Completed = omega arith
status_short status.Invalid = omega arith
status_short status.Pending = omega arith
status_short status.Reservation = omega arith

method_short : (t : AuthMethod) → length (method_word t) ≤ 20
method_short method.AuthRequest = omega arith
method_short method.Command = omega arith
method_short method.Whitelist = omega arith

pub kind_short : (t : PacketKind) → length (kind_word t) ≤ 20
kind_short kind.StartSession = omega arith
kind_short kind.StopSession = omega arith
kind_short kind.ReserveNow = omega arith
kind_short kind.CancelReservation = omega arith
kind_short kind.UnlockConnector = omega arith
kind_short kind.CommandResponse = omega arith
kind_short kind.CommandResult = omega arith
kind_short kind.PutToken = omega arith
kind_short kind.Authorize = omega arith
kind_short kind.Authorization = omega arith
kind_short kind.PutSession = omega arith
kind_short kind.PostCdr = omega arith
kind_short kind.Ack = omega arith

pub party_needs : (p : List ℕ) → party_at p ≡ Ok p → Needs 39 (json.string p)
party_needs p h = text_needs 6 p (let six = (party_parts p h).characters in omega arith)

country_needs : (p : List ℕ) → party_at p ≡ Ok p → Needs 39 (json.string (country_of p))
country_needs p h = text_needs 6 (country_of p) (let six = (party_parts p h).characters in omega (arith, length-take 2 p))

party_id_needs : (p : List ℕ) → party_at p ≡ Ok p → Needs 39 (json.string (party_id_of p))
party_id_needs p h = text_needs 6 (party_id_of p) (let six = (party_parts p h).characters in omega (arith, length-drop 3 p))

-- ---- optional members

optional_ci : (max : ℕ) (o : Option (List ℕ)) → FitsOption max o → OptionNeeds (3 + 6 * max) (option_map json.string o)
optional_ci max None fits = tt
optional_ci max (Some s) fits = ci_needs max s fits

optional_moment_needs : (o : Option ℕ) → OptionNeeds 147 (option_map (λ n. json.string (moment_text n)) o)
optional_moment_needs None = tt
optional_moment_needs (Some n) = moment_needs n

optional_type : (o : Option TokenType) → OptionNeeds 123 (option_map json.string (option_map token_type_word o))
optional_type None = tt
optional_type (Some t) = word_needs (token_type_word t) (token_type_short t)

-- ---- tokens and prices

token_needs : (t : Token) → TokenFits t → Needs 3760 (object_of (token_members t))
unfolding token_members
token_needs t fits = record_needs (219 ∷ 39 ∷ 1563 ∷ 147 ∷ 39 ∷ 123 ∷ 219 ∷ 6 ∷ 123 ∷ []) (token_members t) (
    ci_needs 36 t.contract_id fits.contract_id
    and country_needs t.party fits.party
    and free_needs 64 t.issuer fits.issuer
    and moment_needs t.last_updated
    and party_id_needs t.party fits.party
    and word_needs _ (token_type_short t.token_type)
    and ci_needs 36 t.uid fits.uid
    and truth_needs t.valid
    and word_needs _ (whitelist_short t.whitelist)
    and tt)

-- 5 members
cdr_token_needs : (t : CdrToken) → CdrTokenFits t → Needs 1353 (object_of (cdr_token_members t))
unfolding cdr_token_members
cdr_token_needs t fits = record_needs (219 ∷ 39 ∷ 39 ∷ 123 ∷ 219 ∷ []) (cdr_token_members t) (
    ci_needs 36 t.contract_id fits.contract_id
    and country_needs t.party fits.party
    and party_id_needs t.party fits.party
    and word_needs _ (token_type_short t.token_type)
    and ci_needs 36 t.uid fits.uid
    and tt)

price_needs : (p : Price) → PriceFits p → Needs 164 (object_of (price_members p))
unfolding price_members
price_needs p fits = record_needs (18 ∷ []) (price_members p) (e4_needs p.excl_vat fits.excl_vat and tt)

optional_price : (o : Option Price) → IfSome o PriceFits → OptionNeeds 164 (option_map object_of (option_map price_members o))
optional_price None fits = tt
optional_price (Some p) fits = price_needs p fits

-- ---- commands

start_session_needs : (s : StartSession) → StartSessionFits s → Needs 11639 (object_of (start_session_members s))
unfolding start_session_members
start_session_needs s fits = record_needs (219 ∷ 219 ∷ 219 ∷ 219 ∷ 6147 ∷ 3760 ∷ []) (start_session_members s) (
    optional_ci 36 s.authorization_reference fits.authorization_reference
    and optional_ci 36 s.connector_id fits.connector_id
    and optional_ci 36 s.evse_uid fits.evse_uid
    and ci_needs 36 s.location_id fits.location_id
    and free_needs 255 s.response_url fits.response_url
    and token_needs s.token fits.token
    and tt)

stop_session_needs : (s : StopSession) → StopSessionFits s → Needs 6654 (object_of (stop_session_members s))
unfolding stop_session_members
stop_session_needs s fits = record_needs (6147 ∷ 219 ∷ []) (stop_session_members s) (
    free_needs 255 s.response_url fits.response_url
    and ci_needs 36 s.session_id fits.session_id
    and tt)

reserve_now_needs : (r : ReserveNow) → ReserveNowFits r → Needs 11567 (object_of (reserve_now_members r))
unfolding reserve_now_members
reserve_now_needs r fits = record_needs (219 ∷ 147 ∷ 219 ∷ 219 ∷ 6147 ∷ 3760 ∷ []) (reserve_now_members r) (
    optional_ci 36 r.evse_uid fits.evse_uid
    and moment_needs r.expiry_date
    and ci_needs 36 r.location_id fits.location_id
    and ci_needs 36 r.reservation_id fits.reservation_id
    and free_needs 255 r.response_url fits.response_url
    and token_needs r.token fits.token
    and tt)

cancel_reservation_needs : (c : CancelReservation) → CancelReservationFits c → Needs 6654 (object_of (cancel_reservation_members c))
unfolding cancel_reservation_members
cancel_reservation_needs c fits = record_needs (219 ∷ 6147 ∷ []) (cancel_reservation_members c) (
    ci_needs 36 c.reservation_id fits.reservation_id
    and free_needs 255 c.response_url fits.response_url
    and tt)

unlock_connector_needs : (u : UnlockConnector) → UnlockConnectorFits u → Needs 7376 (object_of (unlock_connector_members u))
unfolding unlock_connector_members
unlock_connector_needs u fits = record_needs (219 ∷ 219 ∷ 219 ∷ 6147 ∷ []) (unlock_connector_members u) (
    ci_needs 36 u.connector_id fits.connector_id
    and ci_needs 36 u.evse_uid fits.evse_uid
    and ci_needs 36 u.location_id fits.location_id
    and free_needs 255 u.response_url fits.response_url
    and tt)

command_needs : (c : Command) → CommandFits c → Needs 30000 (object_of (command_members c))
unfolding command_members
command_needs (command.StartSession c) fits = wider (object_of (start_session_members c)) (start_session_needs c fits) (omega arith)
command_needs (command.StopSession c) fits = wider (object_of (stop_session_members c)) (stop_session_needs c fits) (omega arith)
command_needs (command.ReserveNow c) fits = wider (object_of (reserve_now_members c)) (reserve_now_needs c fits) (omega arith)
command_needs (command.CancelReservation c) fits = wider (object_of (cancel_reservation_members c)) (cancel_reservation_needs c fits) (omega arith)
command_needs (command.UnlockConnector c) fits = wider (object_of (unlock_connector_members c)) (unlock_connector_needs c fits) (omega arith)

-- ---- replies

response_data_needs : (r : ResponseData) → ResponseDataFits r → Needs 430 (object_of (response_data_members r))
unfolding response_data_members
response_data_needs r fits = record_needs (123 ∷ 19 ∷ []) (response_data_members r) (
    word_needs _ (answer_short r.result)
    and whole_needs r.timeout fits.timeout
    and tt)

command_response_needs : (r : CommandResponse) → CommandResponseFits r → Needs 30000 (object_of (command_response_members r))
unfolding command_response_members
command_response_needs (response.Done at r) fits =
    record_within (430 ∷ 19 ∷ 147 ∷ []) (command_response_members (response.Done at r)) (
    response_data_needs r fits.response and whole_needs 1000 (omega arith) and moment_needs at and tt) (omega arith)
command_response_needs (response.Refused at status) fits =
    record_within (19 ∷ 147 ∷ []) (command_response_members (response.Refused at status)) (
    whole_needs status (let below = fits.below in omega arith) and moment_needs at and tt) (omega arith)

command_result_needs : (r : CommandResult) → CommandResultFits r → Needs 30000 (object_of (command_result_members r))
unfolding command_result_members
command_result_needs r fits = record_within (6147 ∷ 123 ∷ []) (command_result_members r) (
    free_needs 255 r.response_url fits.response_url and word_needs _ (outcome_short r.result) and tt) (omega arith)

ack_needs : (a : Ack) → AckFits a → Needs 30000 (object_of (ack_members a))
unfolding ack_members
ack_needs a fits = record_within (19 ∷ 147 ∷ []) (ack_members a) (
    whole_needs a.status_code (let most = fits.most in omega arith) and moment_needs a.timestamp and tt) (omega arith)

-- ---- authorizations

uids_need : (uids : List (List ℕ)) → All (FitsCi 36) uids → room (items_tokens (items_of (strings uids))) ≤ 2 + 2000 * length uids
uids_need [] all = omega arith
uids_need (u ∷ us) all =
    let one = ci_needs 36 u (all 0 u (omega arith)) in
    let rest = uids_need us (λ k d lt. all (suc k) d (omega arith)) in
    omega (arith, room_append (json_tokens (json.string u)) (items_tokens (items_of (strings us))), one, rest)

optional_uids : (o : Option (List (List ℕ))) → IfSome o (All (FitsCi 36)) → OptionNeeds (4 + 2000 * texts_listed o) (option_map (λ js. json.array (items_of js)) (option_map strings o))
optional_uids None fits = tt
optional_uids (Some uids) fits = omega (arith, uids_need uids fits)

location_needs : (l : LocationReferences) → LocationReferencesFits l → Needs (600 + 2000 * texts_listed l.evse_uids) (object_of (location_references_members l))
unfolding location_references_members
location_needs l fits = record_within ((4 + 2000 * texts_listed l.evse_uids) ∷ 219 ∷ []) (location_references_members l) (
    optional_uids l.evse_uids fits.evse_uids and ci_needs 36 l.location_id fits.location_id and tt) (omega arith)

optional_location : (o : Option LocationReferences) → IfSome o LocationReferencesFits → OptionNeeds (600 + 2000 * evses_listed o) (option_map object_of (option_map location_references_members o))
optional_location None fits = tt
optional_location (Some l) fits = location_needs l fits

authorize_needs : (a : Authorize) → AuthorizeFits a → Needs (30000 + 2000 * evses_listed a.location) (object_of (authorize_members a))
unfolding authorize_members
authorize_needs a fits = record_within ((600 + 2000 * evses_listed a.location) ∷ 219 ∷ 123 ∷ []) (authorize_members a) (
    optional_location a.location fits.location and ci_needs 36 a.token_uid fits.token_uid and optional_type a.token_type and tt) (omega arith)

authorization_info_needs : (i : AuthorizationInfo) → AuthorizationInfoFits i → Needs 4532 (object_of (authorization_info_members i))
unfolding authorization_info_members
authorization_info_needs i fits = record_needs (123 ∷ 219 ∷ 3760 ∷ []) (authorization_info_members i) (
    word_needs _ (allowed_short i.allowed) and optional_ci 36 i.authorization_reference fits.authorization_reference and token_needs i.token fits.token and tt)

authorization_needs : (a : Authorization) → AuthorizationFits a → Needs 30000 (object_of (authorization_members a))
unfolding authorization_members
authorization_needs (authorization.Done at i) fits =
    record_within (4532 ∷ 19 ∷ 147 ∷ []) (authorization_members (authorization.Done at i)) (
    authorization_info_needs i fits.info and whole_needs 1000 (omega arith) and moment_needs at and tt) (omega arith)
authorization_needs (authorization.Refused at status) fits =
    record_within (19 ∷ 147 ∷ []) (authorization_members (authorization.Refused at status)) (
    whole_needs status (let below = fits.below in omega arith) and moment_needs at and tt) (omega arith)

-- ---- sessions

session_needs : (s : Session) → SessionFits s → Needs 30000 (object_of (session_members s))
unfolding session_members
session_needs s fits = record_within (123 ∷ 219 ∷ 1353 ∷ 219 ∷ 39 ∷ 99 ∷ 147 ∷ 219 ∷ 219 ∷ 18 ∷ 147 ∷ 219 ∷ 39 ∷ 147 ∷ 123 ∷ 164 ∷ []) (session_members s) (
    word_needs _ (method_short s.auth_method)
    and optional_ci 36 s.authorization_reference fits.authorization_reference
    and cdr_token_needs s.cdr_token fits.cdr_token
    and ci_needs 36 s.connector_id fits.connector_id
    and country_needs s.party fits.party
    and free_needs 3 s.currency fits.currency
    and optional_moment_needs s.end_date_time
    and ci_needs 36 s.evse_uid fits.evse_uid
    and ci_needs 36 s.id fits.id
    and e4_needs s.kwh fits.kwh.bound
    and moment_needs s.last_updated
    and ci_needs 36 s.location_id fits.location_id
    and party_id_needs s.party fits.party
    and moment_needs s.start_date_time
    and word_needs _ (status_short s.status)
    and optional_price s.total_cost fits.total_cost
    and tt) (omega arith)

-- ---- charge detail records

geo_needs : (g : GeoLocation) → GeoLocationFits g → Needs 846 (object_of (geo_location_members g))
unfolding geo_location_members
geo_needs g fits = record_needs (267 ∷ 291 ∷ []) (geo_location_members g) (
    free_needs 10 g.latitude fits.latitude and free_needs 11 g.longitude fits.longitude and tt)

cdr_location_needs : (l : CdrLocation) → CdrLocationFits l → Needs 10362 (object_of (cdr_location_members l))
unfolding cdr_location_members
cdr_location_needs l fits = record_needs (1107 ∷ 1107 ∷ 1563 ∷ 219 ∷ 1563 ∷ 1563 ∷ 846 ∷ 99 ∷ 291 ∷ 219 ∷ 219 ∷ []) (cdr_location_members l) (
    free_needs 45 l.address fits.address
    and free_needs 45 l.city fits.city
    and free_needs 64 l.connector_format fits.connector_format
    and ci_needs 36 l.connector_id fits.connector_id
    and free_needs 64 l.connector_power_type fits.connector_power_type
    and free_needs 64 l.connector_standard fits.connector_standard
    and geo_needs l.coordinates fits.coordinates
    and free_needs 3 l.country fits.country
    and ci_needs 48 l.evse_id fits.evse_id
    and ci_needs 36 l.evse_uid fits.evse_uid
    and ci_needs 36 l.id fits.id
    and tt)

dimension_needs : (x : CdrDimension) → CdrDimensionFits x → Needs 1869 (object_of (cdr_dimension_members x))
unfolding cdr_dimension_members
dimension_needs x fits = record_needs (1563 ∷ 18 ∷ []) (cdr_dimension_members x) (
    free_needs 64 x.dimension_type fits.dimension_type and e4_needs x.volume fits.volume and tt)

dimensions_need : (xs : List CdrDimension) → All CdrDimensionFits xs → room (items_tokens (items_of (objects cdr_dimension_members xs))) ≤ 2 + 2000 * length xs
dimensions_need [] all = omega arith
dimensions_need (x ∷ xs) all =
    let one = dimension_needs x (all 0 x (omega arith)) in
    let rest = dimensions_need xs (λ k d lt. all (suc k) d (omega arith)) in
    omega (arith, room_append (json_tokens (object_of (cdr_dimension_members x))) (items_tokens (items_of (objects cdr_dimension_members xs))), one, rest)

period_needs : (p : ChargingPeriod) → ChargingPeriodFits p → Needs (2000 + 2000 * length p.dimensions) (object_of (charging_period_members p))
unfolding charging_period_members
period_needs p fits = record_within ((4 + 2000 * length p.dimensions) ∷ 147 ∷ []) (charging_period_members p) (
    omega (arith, dimensions_need p.dimensions fits.dimensions) and moment_needs p.start_date_time and tt) (omega arith)

periods_need : (ps : List ChargingPeriod) → All ChargingPeriodFits ps → room (items_tokens (items_of (objects charging_period_members ps))) ≤ 2 + 2000 * periods_listed ps
periods_need [] all = omega arith
periods_need (p ∷ ps) all =
    let one = period_needs p (all 0 p (omega arith)) in
    let rest = periods_need ps (λ k d lt. all (suc k) d (omega arith)) in
    omega (arith, room_append (json_tokens (object_of (charging_period_members p))) (items_tokens (items_of (objects charging_period_members ps))), one, rest)

sent_credit : (o : Option (List ℕ)) → OptionNeeds 6 (credit_value form.Sent o)
sent_credit None = tt
sent_credit (Some reference) = truth_needs true

cdr_needs : (c : Cdr) → CdrFits c → Needs (30000 + 2000 * periods_listed c.charging_periods) (object_of (cdr_members c))
unfolding cdr_members_in
cdr_needs c fits = record_within (123 ∷ 219 ∷ 10362 ∷ 1353 ∷ (4 + 2000 * periods_listed c.charging_periods) ∷ 39 ∷ 6 ∷ 237 ∷ 99 ∷ 147 ∷ 237 ∷ 147 ∷ 39 ∷ 219 ∷ 147 ∷ 164 ∷ 18 ∷ 18 ∷ []) (cdr_members c) (
    word_needs _ (method_short c.auth_method)
    and optional_ci 36 c.authorization_reference fits.authorization_reference
    and cdr_location_needs c.cdr_location fits.cdr_location
    and cdr_token_needs c.cdr_token fits.cdr_token
    and omega (arith, periods_need c.charging_periods fits.charging_periods)
    and country_needs c.party fits.party
    and sent_credit c.credit_reference_id
    and optional_ci 39 c.credit_reference_id fits.credit_reference_id
    and free_needs 3 c.currency fits.currency
    and moment_needs c.end_date_time
    and ci_needs 39 c.id fits.id
    and moment_needs c.last_updated
    and party_id_needs c.party fits.party
    and ci_needs 36 c.session_id fits.session_id
    and moment_needs c.start_date_time
    and price_needs c.total_cost fits.total_cost
    and e4_needs c.total_energy fits.total_energy.bound
    and e4_needs c.total_time fits.total_time.bound
    and tt) (omega arith)

-- ---- bodies

pub body_needs : (b : Body) → BodyFits b → Needs (30000 + 2000 * listed b) (object_of (body_members b))
unfolding body_members
body_needs (body.Command c) fits = command_needs c fits
body_needs (body.CommandResponse b) fits = command_response_needs b fits
body_needs (body.CommandResult b) fits = command_result_needs b fits
body_needs (body.PutToken b) fits = wider (object_of (token_members b)) (token_needs b fits) (omega arith)
body_needs (body.Authorize b) fits = authorize_needs b fits
body_needs (body.Authorization b) fits = authorization_needs b fits
body_needs (body.PutSession b) fits = session_needs b fits
body_needs (body.PostCdr b) fits = cdr_needs b fits
body_needs (body.Ack b) fits = ack_needs b fits
