-- A session goes on or ends: its new version may be put, and comes next.
use Rattle.std.proofs.Common.{◌≡◌, ◌≤◌, ◌<◌, ℕ, ℤ, inl, inr, refl, sym, ap, subst, ◌∙◌, arith}
use Rattle.std.specs.Prelude.{Some, is_some}
use Rattle.std.specs.FinMap.{get}
use Rattle.ocpi_text.specs.Moment.{last_moment}
use Rattle.ocpi_text.specs.Text.{key}
use Rattle.ocpi_types.specs.Prices.{price_at}
use Rattle.ocpi_types.specs.declared.events.ChargerEvent.{ChargerEvent}
use Rattle.ocpi_types.specs.declared.sessions.Session.{Session}
use Rattle.site_book.specs.Sites.{IsConnectorOf}
use Rattle.site_book.specs.declared.claim.Claim.{Claim}
use Rattle.site_book.specs.declared.claim.Claim.TheVariants.{Live}
use Rattle.session_state.specs.Pasts.{MayFollow}
use Rattle.session_state.proofs.PastLemmas.{never_pending}
use Rattle.session_tables.proofs.Following.{may_follow}
use Rattle.session_tables.specs.Moves.{Moves}
use Rattle.node_steps.specs.Peers.{HasPeer}
use Rattle.operator_rows.specs.State.{State, Rows, HasClaim}
use Rattle.operator_rows.specs.Sound.{IsSound, MayPutSession, with_rows}
use Rattle.operator_rows.specs.Steps.{IsNext, IsNextOf}

module _ (s : State) (sound : IsSound s) (at : ℕ) (report : ChargerEvent) (v w : Session) (moves : Moves s.site s.rows at report v w) (later : v.last_updated < last_moment) where
  stands : get s.rows.charged.sessions (key v.id) ≡ Some v
  stands = moves.here.stands

  pub follows : MayFollow (price_at s.site) v w
  follows =
      let going = (sound.sessions (key v.id) v stands).going moves.here.live in
      may_follow s.site s.rows at report v w moves going.priced going.uncharged later

  -- the new version comes next
  pub moved_next : IsNext s w
  moved_next = subst (λ o. IsNextOf (price_at s.site) o w) (sym (ap (get s.rows.charged.sessions) (ap key (sym follows.same.id)) ∙ stands)) follows

  -- and may be put, where claims are as they were
  pub moved_may : (r : Rows) → ((d : Claim) → HasClaim r (key w.evse_uid) d → HasClaim s.rows (key w.evse_uid) d) → s.rows.charged.last_session ≤ r.charged.last_session → MayPutSession (with_rows r s) w
  moved_may r claims numbers =
      let before = sound.sessions (key v.id) v stands in
      let going = before.going moves.here.live in
      let same = follows.same in
      record {
        stands = record {
          own = ap key (sym same.party) ∙ before.own;
          going = λ live. record {
            provider = subst (λ t. HasPeer s.providers (key t.party)) same.cdr_token going.provider;
            place = subst (λ c. IsConnectorOf s.site.locations (key w.evse_uid) (key c)) same.connector_id
                (subst (λ e. IsConnectorOf s.site.locations (key e) (key v.connector_id)) same.evse_uid going.place);
            currency = sym same.currency ∙ going.currency;
            priced = follows.priced;
            uncharged = λ pending. absurd (never_pending v.status w.status follows.turn pending);
          };
        };
        alone = λ live d claim.
            let here = subst (λ e. HasClaim s.rows (key e) d) (sym same.evse_uid) (claims d claim) in
            let one = sound.one_claim (key v.evse_uid) d (Live (key v.cdr_token.party) (key v.id)) here (v, stands, record { live = moves.here.live; here = refl; of_provider = refl }) in
            one ∙ (λ i. Live (key (same.cdr_token i).party) (key (same.id i)));
        number = λ n below is.
            let at_id = ap (get s.rows.charged.sessions) (is ∙ ap key (sym same.id)) ∙ stands in
            let given = sound.numbered.sessions n below (ap is_some at_id) in
            omega (arith, given, numbers);
      }
