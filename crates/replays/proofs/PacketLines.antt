-- The line of each packet holds something, and no line feed.
use Rattle.std.proofs.Common.{◌≢◌, ◌<◌, ℕ, ◌+◌, ◌/◌, ◌%◌, List, [], ◌∷◌, ◌++◌, Bool, true, false, Option, None, Some, cond, decimal, option_map, refl, sym, subst, append_assoc, zero-lt-suc, arith, length}
use Rattle.std.specs.Int.{is_negative}
use Rattle.std.specs.Prelude.{ℤ, unsigned_abs}
use Rattle.std.proofs.lemmas.List.Elements.{All-nil}
use Rattle.json.specs.Json as json
use Rattle.json.specs.Print.{ends, print_from, quoted, separator, token_text}
use Rattle.json.specs.Token.{Token}
use Rattle.json.specs.Tree.{items_tokens, json_tokens, members_tokens}
use Rattle.json_text.proofs.WellFormed.{◌and◌}
use Rattle.json_text.specs.Members.{Member, and_before, items_of, json_text, members_of, object_of, objects, strings}
use Rattle.ocpi_forms.specs.AnyCommand.{command_members}
use Rattle.ocpi_forms.specs.AuthorizationForms.{authorization_info_members, authorization_members, authorize_members, location_references_members}
use Rattle.ocpi_forms.specs.Bodies.{body_members}
use Rattle.ocpi_forms.specs.CdrForms.{cdr_members, cdr_members_in}
use Rattle.ocpi_forms.specs.CdrLocationForms.{cdr_location_members, geo_location_members}
use Rattle.ocpi_forms.specs.ChargingPeriodForms.{cdr_dimension_members, charging_period_members}
use Rattle.ocpi_forms.specs.CommandForms.{cancel_reservation_members, reserve_now_members, start_session_members, stop_session_members, unlock_connector_members}
use Rattle.ocpi_forms.specs.CreditForms.{credit_value}
use Rattle.ocpi_forms.specs.ReplyForms.{ack_members, command_response_members, command_result_members, response_data_members}
use Rattle.ocpi_forms.specs.SessionForms.{cdr_token_members, price_members, session_members}
use Rattle.ocpi_forms.specs.Tokens.{token_members}
use Rattle.ocpi_forms.specs.declared.credits.CdrForm.TheVariants as form
use Rattle.ocpi_json.specs.Packets.{packet_json, packet_members, packet_text}
use Rattle.ocpi_text.specs.Decimal.{e4_text, sign_text, sum_text, unsigned_text}
use Rattle.ocpi_text.specs.Digits.{four_digits, two_digits}
use Rattle.ocpi_text.specs.Moment.{moment_text}
use Rattle.ocpi_types.specs.declared.authorizations.Authorization.{Authorization}
use Rattle.ocpi_types.specs.declared.authorizations.Authorization.TheVariants as authorization
use Rattle.ocpi_types.specs.declared.authorizations.AuthorizationInfo.{AuthorizationInfo}
use Rattle.ocpi_types.specs.declared.authorizations.Authorize.{Authorize}
use Rattle.ocpi_types.specs.declared.authorizations.LocationReferences.{LocationReferences}
use Rattle.ocpi_types.specs.declared.cdrs.Cdr.{Cdr}
use Rattle.ocpi_types.specs.declared.cdrs.CdrDimension.{CdrDimension}
use Rattle.ocpi_types.specs.declared.cdrs.CdrLocation.{CdrLocation}
use Rattle.ocpi_types.specs.declared.cdrs.ChargingPeriod.{ChargingPeriod}
use Rattle.ocpi_types.specs.declared.commands.CancelReservation.{CancelReservation}
use Rattle.ocpi_types.specs.declared.commands.Command.{Command}
use Rattle.ocpi_types.specs.declared.commands.Command.TheVariants as command
use Rattle.ocpi_types.specs.declared.commands.ReserveNow.{ReserveNow}
use Rattle.ocpi_types.specs.declared.commands.StartSession.{StartSession}
use Rattle.ocpi_types.specs.declared.commands.StopSession.{StopSession}
use Rattle.ocpi_types.specs.declared.commands.UnlockConnector.{UnlockConnector}
use Rattle.ocpi_types.specs.declared.field.Field.{Field}
use Rattle.ocpi_types.specs.declared.packet.Body.{Body}
use Rattle.ocpi_types.specs.declared.packet.Body.TheVariants as body
use Rattle.ocpi_types.specs.declared.packet.Packet.{Packet}
use Rattle.ocpi_types.specs.declared.replies.Ack.{Ack}
use Rattle.ocpi_types.specs.declared.replies.CommandResponse.{CommandResponse}
use Rattle.ocpi_types.specs.declared.replies.CommandResponse.TheVariants as response
use Rattle.ocpi_types.specs.declared.replies.CommandResult.{CommandResult}
use Rattle.ocpi_types.specs.declared.replies.ResponseData.{ResponseData}
use Rattle.ocpi_types.specs.declared.sessions.Price.{Price}
use Rattle.ocpi_types.specs.declared.sessions.Session.{Session}
use Rattle.ocpi_types.specs.declared.token.CdrToken.{CdrToken}
use Rattle.ocpi_types.specs.declared.token.Token.{Token as Driver}
use Rattle.program_lines.specs.Writing.{packet_lines}
use Rattle.replays.proofs.Lists.{IsPlain}
use Rattle.replays.proofs.OutputTexts.{AreLines, decimal_plain, no_line, one_line, plain_both, plain_more, plain_text, quoted_plain}
use Rattle.replays.specs.LineTurns.{IsLine}

-- ---- tokens

abbrev AreTexts : List Token → Type 0
AreTexts [] = Unit {0}
AreTexts (t ∷ ts) = IsPlain (token_text t) × AreTexts ts

both : (xs ys : List Token) → AreTexts xs → AreTexts ys → AreTexts (xs ++ ys)
both [] ys h g = g
both (x ∷ xs) ys h g = (h.0, both xs ys h.1 g)

comma : (b : Bool) → IsPlain (cond b (44 ∷ []) [])
comma true = plain_text (44 ∷ []) refl
comma false = All-nil (λ b. b ≢ 10)

printed : (after_value : Bool) (ts : List Token) → AreTexts ts → IsPlain (print_from after_value ts)
unfolding print_from
printed after_value [] h = All-nil (λ b. b ≢ 10)
printed after_value (t ∷ ts) h = plain_both (separator after_value t) _ (comma _) (plain_both (token_text t) _ h.0 (printed (ends t) ts h.1))

-- ---- values

-- its numbers have no line feed
abbrev mutual
  HasPlain : json.Json → Type 0
  HasPlain json.null = Unit {0}
  HasPlain (json.boolean b) = Unit {0}
  HasPlain (json.number s) = IsPlain s
  HasPlain (json.string s) = Unit {0}
  HasPlain (json.array js) = ItemsHavePlain js
  HasPlain (json.object ms) = MembersHavePlain ms

  ItemsHavePlain : json.Items → Type 0
  ItemsHavePlain json.no_items = Unit {0}
  ItemsHavePlain (json.item j js) = HasPlain j × ItemsHavePlain js

  MembersHavePlain : json.Members → Type 0
  MembersHavePlain json.no_members = Unit {0}
  MembersHavePlain (json.member k j ms) = HasPlain j × MembersHavePlain ms

truth_plain : (b : Bool) → IsPlain (token_text (Token.boolean b))
truth_plain true = plain_text (token_text (Token.boolean true)) refl
truth_plain false = plain_text (token_text (Token.boolean false)) refl

mutual
  value_tokens : (j : json.Json) → HasPlain j → AreTexts (json_tokens j)
  value_tokens json.null h = (plain_text (token_text Token.null) refl, tt)
  value_tokens (json.boolean b) h = (truth_plain b, tt)
  value_tokens (json.number s) h = (h, tt)
  value_tokens (json.string s) h = (quoted_plain s, tt)
  value_tokens (json.array js) h = (plain_text (91 ∷ []) refl, list_tokens js h)
  value_tokens (json.object ms) h = (plain_text (123 ∷ []) refl, record_tokens ms h)

  list_tokens : (js : json.Items) → ItemsHavePlain js → AreTexts (items_tokens js)
  list_tokens json.no_items h = (plain_text (93 ∷ []) refl, tt)
  list_tokens (json.item j js) h = both (json_tokens j) (items_tokens js) (value_tokens j h.0) (list_tokens js h.1)

  record_tokens : (ms : json.Members) → MembersHavePlain ms → AreTexts (members_tokens ms)
  record_tokens json.no_members h = (plain_text (125 ∷ []) refl, tt)
  record_tokens (json.member k j ms) h =
      (plain_both (quoted k) (58 ∷ []) (quoted_plain k) (plain_text (58 ∷ []) refl), both (json_tokens j) (members_tokens ms) (value_tokens j h.0) (record_tokens ms h.1))

-- ---- records

abbrev IfValue : Option json.Json → Type 0
IfValue None = Unit {0}
IfValue (Some j) = HasPlain j

abbrev AllPlain : List Member → Type 0
AllPlain [] = Unit {0}
AllPlain (m ∷ ms) = IfValue m.value × AllPlain ms

one_more : (f : Field) (o : Option json.Json) (ms : json.Members) → IfValue o → MembersHavePlain ms → MembersHavePlain (and_before f o ms)
one_more f None ms h all = all
one_more f (Some j) ms h all = (h, all)

record_plain : (ms : List Member) → AllPlain ms → HasPlain (object_of ms)
record_plain [] h = tt
record_plain (m ∷ ms) h = one_more m.field m.value (members_of ms) h.0 (record_plain ms h.1)

maybe : {X : Type 0} (f : X → json.Json) → ((x : X) → HasPlain (f x)) → (o : Option X) → IfValue (option_map f o)
maybe f each None = tt
maybe f each (Some x) = each x

maybe_text : (o : Option (List ℕ)) → IfValue (option_map json.string o)
maybe_text o = maybe json.string (λ s. tt) o

maybe_word : {X : Type 0} (word : X → List ℕ) (o : Option X) → IfValue (option_map json.string (option_map word o))
maybe_word word None = tt
maybe_word word (Some x) = tt

maybe_inner : {X : Type 0} (members : X → List Member) → ((x : X) → AllPlain (members x)) → (o : Option X) → IfValue (option_map object_of (option_map members o))
maybe_inner members each None = tt
maybe_inner members each (Some x) = record_plain (members x) (each x)

each_text : (xs : List (List ℕ)) → ItemsHavePlain (items_of (strings xs))
each_text [] = tt
each_text (x ∷ xs) = (tt, each_text xs)

maybe_texts : (o : Option (List (List ℕ))) → IfValue (option_map (λ js. json.array (items_of js)) (option_map strings o))
maybe_texts None = tt
maybe_texts (Some xs) = each_text xs

each_inner : {X : Type 0} (members : X → List Member) → ((x : X) → AllPlain (members x)) → (xs : List X) → ItemsHavePlain (items_of (objects members xs))
each_inner members each [] = tt
each_inner members each (x ∷ xs) = (record_plain (members x) (each x), each_inner members each xs)

-- ---- numbers of four decimals

sign_plain : (b : Bool) → IsPlain (sign_text b)
sign_plain true = plain_text (45 ∷ []) refl
sign_plain false = All-nil (λ b. b ≢ 10)

two_plain : (n : ℕ) → IsPlain (two_digits n)
two_plain n = plain_more (48 + n / 10) ((48 + n % 10) ∷ []) (λ e. omega (arith, e)) (plain_more (48 + n % 10) [] (λ e. omega (arith, e)) (All-nil (λ b. b ≢ 10)))

unsigned_plain : (n : ℕ) → IsPlain (unsigned_text n)
unfolding unsigned_text
unsigned_plain n =
    plain_both (decimal (n / 10000)) (46 ∷ four_digits (n % 10000)) (decimal_plain (n / 10000))
    (plain_more 46 (four_digits (n % 10000)) (λ e. omega (arith, e)) (plain_both (two_digits (n % 10000 / 100)) (two_digits (n % 10000 % 100)) (two_plain (n % 10000 / 100)) (two_plain (n % 10000 % 100))))

e4_plain : (z : ℤ) → IsPlain (e4_text z)
unfolding sum_text
e4_plain z = plain_both (sign_text (is_negative z)) (unsigned_text (unsigned_abs z)) (sign_plain (is_negative z)) (unsigned_plain (unsigned_abs z))

-- ---- each record

token_plain : (t : Driver) → AllPlain (token_members t)
unfolding token_members
token_plain t = tt and tt and tt and tt and tt and tt and tt and tt and tt and tt

cdr_token_plain : (t : CdrToken) → AllPlain (cdr_token_members t)
unfolding cdr_token_members
cdr_token_plain t = tt and tt and tt and tt and tt and tt

price_plain : (p : Price) → AllPlain (price_members p)
unfolding price_members
price_plain p = e4_plain p.excl_vat and tt

start_plain : (s : StartSession) → AllPlain (start_session_members s)
unfolding start_session_members
start_plain s =
    maybe_text s.authorization_reference and maybe_text s.connector_id and maybe_text s.evse_uid and tt and tt and record_plain (token_members s.token) (token_plain s.token) and tt

stop_plain : (s : StopSession) → AllPlain (stop_session_members s)
unfolding stop_session_members
stop_plain s = tt and tt and tt

reserve_plain : (r : ReserveNow) → AllPlain (reserve_now_members r)
unfolding reserve_now_members
reserve_plain r = maybe_text r.evse_uid and tt and tt and tt and tt and record_plain (token_members r.token) (token_plain r.token) and tt

cancel_plain : (c : CancelReservation) → AllPlain (cancel_reservation_members c)
unfolding cancel_reservation_members
cancel_plain c = tt and tt and tt

unlock_plain : (u : UnlockConnector) → AllPlain (unlock_connector_members u)
unfolding unlock_connector_members
unlock_plain u = tt and tt and tt and tt and tt

command_plain : (c : Command) → AllPlain (command_members c)
unfolding command_members
command_plain (command.StartSession c) = start_plain c
command_plain (command.StopSession c) = stop_plain c
command_plain (command.ReserveNow c) = reserve_plain c
command_plain (command.CancelReservation c) = cancel_plain c
command_plain (command.UnlockConnector c) = unlock_plain c

details_plain : (r : ResponseData) → AllPlain (response_data_members r)
unfolding response_data_members
details_plain r = tt and decimal_plain r.timeout and tt

response_plain : (r : CommandResponse) → AllPlain (command_response_members r)
unfolding command_response_members
response_plain (response.Done at r) = record_plain (response_data_members r) (details_plain r) and decimal_plain 1000 and tt and tt
response_plain (response.Refused at status) = decimal_plain status and tt and tt

result_plain : (r : CommandResult) → AllPlain (command_result_members r)
unfolding command_result_members
result_plain r = tt and tt and tt

ack_plain : (a : Ack) → AllPlain (ack_members a)
unfolding ack_members
ack_plain a = decimal_plain a.status_code and tt and tt

location_plain : (l : LocationReferences) → AllPlain (location_references_members l)
unfolding location_references_members
location_plain l = maybe_texts l.evse_uids and tt and tt

authorize_plain : (a : Authorize) → AllPlain (authorize_members a)
unfolding authorize_members
authorize_plain a = maybe_inner location_references_members location_plain a.location and tt and maybe_word _ a.token_type and tt

info_plain : (i : AuthorizationInfo) → AllPlain (authorization_info_members i)
unfolding authorization_info_members
info_plain i = tt and maybe_text i.authorization_reference and record_plain (token_members i.token) (token_plain i.token) and tt

authorization_plain : (a : Authorization) → AllPlain (authorization_members a)
unfolding authorization_members
authorization_plain (authorization.Done at i) = record_plain (authorization_info_members i) (info_plain i) and decimal_plain 1000 and tt and tt
authorization_plain (authorization.Refused at status) = decimal_plain status and tt and tt

session_plain : (s : Session) → AllPlain (session_members s)
unfolding session_members
session_plain s =
    tt and maybe_text s.authorization_reference and record_plain (cdr_token_members s.cdr_token) (cdr_token_plain s.cdr_token) and tt and tt and tt
    and maybe (λ n. json.string (moment_text n)) (λ n. tt) s.end_date_time and tt and tt and e4_plain s.kwh and tt and tt and tt and tt and tt
    and maybe_inner price_members price_plain s.total_cost and tt

dimension_plain : (x : CdrDimension) → AllPlain (cdr_dimension_members x)
unfolding cdr_dimension_members
dimension_plain x = tt and e4_plain x.volume and tt

period_plain : (p : ChargingPeriod) → AllPlain (charging_period_members p)
unfolding charging_period_members
period_plain p = each_inner cdr_dimension_members dimension_plain p.dimensions and tt and tt

place_plain : (l : CdrLocation) → AllPlain (cdr_location_members l)
unfolding cdr_location_members geo_location_members
place_plain l = tt and tt and tt and tt and tt and tt and (tt and tt and tt) and tt and tt and tt and tt and tt

credit_plain : (o : Option (List ℕ)) → IfValue (credit_value form.Sent o)
credit_plain None = tt
credit_plain (Some reference) = tt

cdr_plain : (c : Cdr) → AllPlain (cdr_members c)
unfolding cdr_members_in
cdr_plain c =
    tt and maybe_text c.authorization_reference and record_plain (cdr_location_members c.cdr_location) (place_plain c.cdr_location)
    and record_plain (cdr_token_members c.cdr_token) (cdr_token_plain c.cdr_token) and each_inner charging_period_members period_plain c.charging_periods
    and tt and credit_plain c.credit_reference_id and maybe_text c.credit_reference_id and tt and tt and tt and tt and tt and tt and tt
    and record_plain (price_members c.total_cost) (price_plain c.total_cost) and e4_plain c.total_energy and e4_plain c.total_time and tt

body_plain : (b : Body) → AllPlain (body_members b)
unfolding body_members
body_plain (body.Command c) = command_plain c
body_plain (body.CommandResponse b) = response_plain b
body_plain (body.CommandResult b) = result_plain b
body_plain (body.PutToken b) = token_plain b
body_plain (body.Authorize b) = authorize_plain b
body_plain (body.Authorization b) = authorization_plain b
body_plain (body.PutSession b) = session_plain b
body_plain (body.PostCdr b) = cdr_plain b
body_plain (body.Ack b) = ack_plain b

packet_plain : (p : Packet) → AllPlain (packet_members p)
unfolding packet_members
packet_plain p = record_plain (body_members p.body) (body_plain p.body) and tt and tt and decimal_plain p.request and decimal_plain p.serial and tt and tt

-- ---- lines

text_plain : (p : Packet) → IsPlain (packet_text p)
text_plain p = printed false (json_tokens (packet_json p)) (value_tokens (packet_json p) (record_plain (packet_members p) (packet_plain p)))

object_has : (ms : json.Members) → 0 < length (json_text (json.object ms))
unfolding print_from
object_has ms = zero-lt-suc _

packet_fed : (p : Packet) → IsLine (packet_text p)
packet_fed p = record { some = object_has (members_of (packet_members p)); plain = text_plain p }

pub packets_are_lines : (packets : List Packet) → AreLines (packet_lines packets)
packets_are_lines [] = no_line
packets_are_lines (p ∷ ps) =
    subst AreLines (sym (append_assoc (packet_text p) (10 ∷ []) (packet_lines ps))) (one_line (packet_text p) (packet_lines ps) (packet_fed p) (packets_are_lines ps))
