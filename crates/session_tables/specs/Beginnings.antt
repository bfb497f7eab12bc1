-- A session that begins (OCPI 2.2.1, Sessions: Session object; CDRs: AuthMethod, CdrToken).
use Rattle.std.specs.Prelude.{ℕ, List, Option}
use Rattle.ocpi_text.specs.OwnIds.{own_id_text}
use Rattle.ocpi_text.specs.declared.own_ids.OwnIdKind.TheVariants as own
use Rattle.ocpi_types.specs.declared.sessions.Opening.{Opening}
use Rattle.ocpi_types.specs.declared.site.Connector.{Connector}
use Rattle.ocpi_types.specs.declared.site.Evse.{Evse}
use Rattle.ocpi_types.specs.declared.site.Location.{Location}
use Rattle.ocpi_types.specs.declared.site.Site.{Site}
use Rattle.ocpi_types.specs.declared.token.CdrToken.{CdrToken}
use Rattle.ocpi_types.specs.declared.token.Token.{Token}
use Rattle.ocpi_types.specs.declared.words.AuthMethod.{AuthMethod}
use Rattle.session_tables.specs.declared.beginning.Beginning.{Beginning}
use Rattle.session_tables.specs.Places.{place_of}

-- the token as sessions and charge detail records name it
abbrev pub cdr_token_of : Token → CdrToken
cdr_token_of t = record { party = t.party; uid = t.uid; token_type = t.token_type; contract_id = t.contract_id }

-- what begins for a token at a connector of the site, as the site spells it
abbrev pub begins : Token → AuthMethod → Option (List ℕ) → Location → Evse → Connector → Option (List ℕ) → Beginning
begins t how reference l e k used = record {
  token = cdr_token_of t;
  auth_method = how;
  authorization_reference = reference;
  location_id = l.id;
  place = place_of e k;
  reservation_id = used;
}

-- the session of number n of that operator, which is its first version's
abbrev pub opening_of : List ℕ → Site → ℕ → Beginning → Opening
opening_of party site n b = record {
  party = party;
  id = own_id_text own.Session party n;
  cdr_token = b.token;
  auth_method = b.auth_method;
  authorization_reference = b.authorization_reference;
  location_id = b.location_id;
  evse_uid = b.place.evse_uid;
  connector_id = b.place.connector_id;
  currency = site.currency;
}
