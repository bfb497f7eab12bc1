-- What begins, by whatever it begins: for whom, how it was allowed, and where it is charged.
use Rattle.std.proofs.Common.{◌≡◌, ℕ, true, List, refl, sym, ap, subst}
use Rattle.std.specs.Prelude.{Option, Some, None}
use Rattle.std.specs.FinMap.{get}
use Rattle.ocpi_text.specs.Text.{key}
use Rattle.ocpi_types.specs.declared.authorizations.Authorization.{Authorization}
use Rattle.ocpi_types.specs.declared.authorizations.AuthorizationInfo.{AuthorizationInfo}
use Rattle.ocpi_types.specs.declared.site.Connector.{Connector}
use Rattle.ocpi_types.specs.declared.site.Evse.{Evse}
use Rattle.ocpi_types.specs.declared.site.Location.{Location}
use Rattle.ocpi_types.specs.declared.site.Site.{Site}
use Rattle.ocpi_types.specs.declared.stored.OpenCommand.{OpenCommand}
use Rattle.ocpi_types.specs.declared.token.CdrToken.{CdrToken}
use Rattle.ocpi_types.specs.declared.token.Token.{Token}
use Rattle.ocpi_types.specs.declared.words.AuthMethod.{AuthMethod}
use Rattle.ocpi_types.specs.declared.words.AuthMethod.TheVariants as how
use Rattle.ocpi_types.specs.declared.words.TokenType.{TokenType}
use Rattle.authorization_book.specs.declared.awaited.Awaited.{Awaited}
use Rattle.node_steps.specs.Peers.{HasPeer}
use Rattle.token_desk.specs.Swipes as desk
use Rattle.token_desk.specs.Tokens.{Tokens}
use Rattle.token_desk.specs.declared.answers.Swipe.{Swipe}
use Rattle.token_desk.specs.declared.answers.Swipe.TheVariants as told
use Rattle.operator_rows.specs.Sound.{IsOwnStart, IsSound, MayAwait, MayBeOpen}
use Rattle.operator_rows.specs.State.{Rows, State}
use Rattle.session_tables.specs.Accepts.{Accepts}
use Rattle.session_tables.specs.Answers.{Allows, BeginsByAnswer, BeginsThere, BeginsWithoutAnswer}
use Rattle.session_tables.specs.Beginnings.{begins, cdr_token_of}
use Rattle.session_tables.specs.Laws.{IsOfSite}
use Rattle.session_tables.specs.Places.{IsConnectorAt}
use Rattle.session_tables.specs.Swipes.{Closed, Open, SwipeLine, Unplaced, id_of, provider_of, told_by}
use Rattle.session_tables.specs.declared.beginning.Beginning.{Beginning}
use Rattle.session_tables.specs.declared.shown.Shown.TheVariants as shown
use Rattle.session_tables.proofs.Finding.{of_site}

-- the session is for that token, was allowed so, and is at the connector of the site with those keys
pub record IsFor (site : Site) (t : Token) (method : AuthMethod) (reference : Option (List ℕ)) (evse connector : List ℕ) (b : Beginning) : Type 0 where
  pub token_is : b.token ≡ cdr_token_of t
  pub method_is : b.auth_method ≡ method
  pub reference_is : b.authorization_reference ≡ reference
  pub evse_is : key b.place.evse_uid ≡ evse
  pub connector_is : key b.place.connector_id ≡ connector
  pub of_site : IsOfSite site b

pub begins_for : (site : Site) (t : Token) (method : AuthMethod) (reference : Option (List ℕ)) (evse connector : List ℕ) (l : Location) (e : Evse) (k : Connector) (used : Option (List ℕ)) →
    IsConnectorAt site.locations evse connector l e k → (b : Beginning) → b ≡ begins t method reference l e k used → IsFor site t method reference evse connector b
begins_for site t method reference evse connector l e k used at b is =
    subst (IsFor site t method reference evse connector) (sym is) (record {
      token_is = refl;
      method_is = refl;
      reference_is = refl;
      evse_is = at.of_site.same;
      connector_is = at.same;
      of_site = of_site site.locations evse connector l e k at;
    })

-- the provider of the token is the session's
pub peer_of : (s : State) (t : Token) (method : AuthMethod) (reference : Option (List ℕ)) (evse connector : List ℕ) (b : Beginning) → IsFor s.site t method reference evse connector b →
    HasPeer s.providers (key t.party) → HasPeer s.providers (key b.token.party)
peer_of s t method reference evse connector b is peer = subst (λ (x : List ℕ). HasPeer s.providers (key x)) (sym (ap (λ (x : CdrToken). x.party) is.token_is)) peer

pub there_for : (site : Site) (May : Option (List ℕ) → Type 0) (w : Awaited) (method : AuthMethod) (reference : Option (List ℕ)) (b : Beginning) →
    BeginsThere site May w method reference b → IsFor site w.token method reference (key w.place.evse_uid) (key w.place.connector_id) b
there_for site May w method reference b there =
    begins_for site w.token method reference (key w.place.evse_uid) (key w.place.connector_id) there.location there.of_evse there.of_connector there.used there.place b there.begins_is

-- by an answer: for the token that was awaited, with the reference of the answer
pub answered_for : (site : Site) (s : Rows) (w : Awaited) (a : Authorization) (b : Beginning) → BeginsByAnswer site s w a b →
    (info : AuthorizationInfo) × Allows a w info × IsFor site w.token how.AuthRequest info.authorization_reference (key w.place.evse_uid) (key w.place.connector_id) b
answered_for site s w a b by = (by.info, by.allows, there_for site _ w how.AuthRequest by.info.authorization_reference b by.there)

-- without one: for the token that was awaited
pub unanswered_for : (site : Site) (May : Option (List ℕ) → Type 0) (w : Awaited) (b : Beginning) → BeginsWithoutAnswer site May w b →
    IsFor site w.token how.Whitelist None (key w.place.evse_uid) (key w.place.connector_id) b
unanswered_for site May w b x = there_for site May w how.Whitelist None b x.there

-- by a start: for its token, with its reference, where it took the EVSE
pub accepted_for : (site : Site) (o : OpenCommand) (b : Beginning) (x : Accepts site o b) →
    IsFor site x.start.token how.Command x.start.authorization_reference (key x.evse) (key x.connector) b
accepted_for site o b x =
    begins_for site x.start.token how.Command x.start.authorization_reference (key x.evse) (key x.connector) x.location x.of_evse x.of_connector None x.place b x.begins_is

-- a token that is shown, and need not be asked about, is one that the operator has
pub record IsWelcome (tokens : Tokens) (type : TokenType) (uid : List ℕ) (t : Token) : Type 0 where
  pub provider : List ℕ
  pub stands : get tokens ((type, uid), provider) ≡ Some t
  pub whitelisted : desk.IsWhitelisted t.whitelist
  pub valid : t.valid ≡ true

stands_shown : (tokens : Tokens) (provider : Option (List ℕ)) (type : TokenType) (uid : List ℕ) (t : Token) → desk.IsShown tokens provider type uid t → (p : List ℕ) × (get tokens ((type, uid), p) ≡ Some t)
stands_shown tokens (Some p) type uid t is = (p, is)
stands_shown tokens None type uid t first = (first.0, first.1)

welcome : (tokens : Tokens) (provider : Option (List ℕ)) (type : TokenType) (uid : List ℕ) (t : Token) → desk.SwipeLine tokens provider type uid (told.Begin t) → IsWelcome tokens type uid t
welcome tokens provider type uid t (desk.Unknown none is) = absurd (cc)
welcome tokens provider type uid t (desk.Known u is_shown line) = by_line line
  where
    by_line : desk.TokenLine u (told.Begin t) → IsWelcome tokens type uid t
    by_line (desk.Begins whitelisted valid is) =
        let same : u ≡ t = cc in
        let there = stands_shown tokens provider type uid u is_shown in
        subst (IsWelcome tokens type uid) same (record { provider = there.0; stands = there.1; whitelisted = whitelisted; valid = valid })
    by_line (desk.Invalid whitelisted valid is) = absurd (cc)
    by_line (desk.Asks asked is) = absurd (cc)

-- where it is shown: for such a token, at the connector where it is shown
pub record IsShownFor (s : State) (evse_uid connector_id token_uid : List ℕ) (type : TokenType) (b : Beginning) : Type 0 where
  pub token : Token
  pub is_welcome : IsWelcome s.rows.tokens type (key token_uid) token
  pub is_for : IsFor s.site token how.Whitelist None (key evse_uid) (key connector_id) b

module _ (s : State) (evse_uid connector_id token_uid : List ℕ) (type : TokenType) (b : Beginning) where
  pub shown_for : SwipeLine s evse_uid connector_id token_uid type (shown.Begins b) → IsShownFor s evse_uid connector_id token_uid type b
  shown_for (Unplaced none is) = absurd (cc)
  shown_for (Closed none is) = absurd (cc)
  shown_for (Open l e k place held opens tells line is) = by_told tells line is
    where
      by_told : (x : Swipe) → desk.SwipeLine s.rows.tokens (provider_of held) type (key token_uid) x → shown.Begins b ≡ told_by x l e k (id_of held) → IsShownFor s evse_uid connector_id token_uid type b
      by_told (told.Begin t) shows same =
          let one : b ≡ begins t how.Whitelist None l e k (id_of held) = cc in
          record {
            token = t;
            is_welcome = welcome s.rows.tokens (provider_of held) type (key token_uid) t shows;
            is_for = begins_for s.site t how.Whitelist None (key evse_uid) (key connector_id) l e k (id_of held) place b one;
          }
      by_told (told.Ask t) shows same = absurd (cc)
      by_told told.Nothing shows same = absurd (cc)

  -- whose provider is one of the site
  pub shown_peer : IsSound s → IsShownFor s evse_uid connector_id token_uid type b → HasPeer s.providers (key b.token.party)
  shown_peer sound x =
      peer_of s x.token how.Whitelist None (key evse_uid) (key connector_id) b x.is_for (sound.tokens ((type, key token_uid), x.is_welcome.provider) x.token x.is_welcome.stands)

-- the providers of what was awaited, and of a start that is open, are of the site
module _ (s : State) (b : Beginning) where
  pub answered_peer : (w : Awaited) → MayAwait s w → (a : Authorization) → BeginsByAnswer s.site s.rows w a b → HasPeer s.providers (key b.token.party)
  answered_peer w may a by = let x = answered_for s.site s.rows w a b by in peer_of s w.token how.AuthRequest x.0.authorization_reference (key w.place.evse_uid) (key w.place.connector_id) b x.2 may.provider

  pub unanswered_peer : (w : Awaited) → MayAwait s w → (May : Option (List ℕ) → Type 0) → BeginsWithoutAnswer s.site May w b → HasPeer s.providers (key b.token.party)
  unanswered_peer w may May x = peer_of s w.token how.Whitelist None (key w.place.evse_uid) (key w.place.connector_id) b (unanswered_for s.site May w b x) may.provider

  pub accepted_peer : (p : List ℕ) (n : ℕ) (o : OpenCommand) → MayBeOpen s p n o → Accepts s.site o b → HasPeer s.providers (key b.token.party)
  accepted_peer p n o may x =
      let own : key x.start.token.party ≡ p = (let is = subst (IsOwnStart p) x.command_is may.own in is) in
      peer_of s x.start.token how.Command x.start.authorization_reference (key x.evse) (key x.connector) b (accepted_for s.site o b x) (subst (HasPeer s.providers) (sym own) may.provider)
