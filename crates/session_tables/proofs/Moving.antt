-- What a report makes of the session at an EVSE.
use Rattle.std.proofs.Common.{◌≡◌, ℕ, ℤ, List, refl, sym, ap, subst, ◌∙◌, inl, inr}
use Rattle.std.specs.Prelude.{Some}
use Rattle.std.proofs.lemmas.Option.{same_Some}
use Rattle.ocpi_text.specs.Text.{key}
use Rattle.ocpi_types.specs.Prices.{price_at}
use Rattle.ocpi_types.specs.declared.events.ChargerEvent.{ChargerEvent}
use Rattle.ocpi_types.specs.declared.sessions.Session.{Session}
use Rattle.ocpi_types.specs.declared.site.Site.{Site}
use Rattle.ocpi_types.specs.declared.words.SessionStatus.{SessionStatus}
use Rattle.ocpi_types.specs.declared.words.SessionStatus.TheVariants as status
use Rattle.session_state.specs.Resuming.{CannotResume, IsResumed, in_state}
use Rattle.session_state.specs.Versions.{HasCost, Priced}
use Rattle.session_state.specs.declared.resuming.Resumed.{Resumed}
use Rattle.session_state.specs.declared.resuming.Resumed.TheVariants as resumed
use Rattle.operator_rows.specs.Sound.{IsSound}
use Rattle.operator_rows.specs.State.{Rows, State, IsLive}
use Rattle.session_tables.specs.declared.outcome.Moved.{Moved}
use Rattle.session_tables.specs.declared.outcome.Moved.TheVariants.{Nothing}
use Rattle.session_tables.specs.Going.{IsGoing, IsGoingAt}
use Rattle.session_tables.specs.Moved as lines
use Rattle.session_tables.specs.Moved.{Comes, IsMoved}
use Rattle.session_tables.specs.Moves.{IsSessionAt, Makes, Moves, charging_at}

module _ (site : Site) (s : Rows) (at : ℕ) (report : ChargerEvent) (evse : List ℕ) (about : charging_at report ≡ Some evse) where
  here_of : (v w : Session) → Moves site s at report v w → IsSessionAt s evse v
  here_of v w moves = subst (λ k. IsSessionAt s k v) (same_Some _ _ (sym moves.about ∙ about)) moves.here

  -- nothing is made where no session is
  pub nobody : ((v : Session) → IsSessionAt s evse v → ⊥) → IsMoved site s at report Nothing
  nobody none = lines.Still (λ v w moves. none v (here_of v w moves)) refl

  -- nor where nothing is made of the one that is
  pub still : (v : Session) → ((w : Session) → IsSessionAt s evse w → w ≡ v) → ((w : Session) → Makes (price_at site v.start_date_time) at report v w → ⊥) → IsMoved site s at report Nothing
  still v only none = lines.Still (λ u w moves. none w (subst (λ x. Makes (price_at site x.start_date_time) at report x w) (only u (here_of u w moves)) moves.makes)) refl

  -- and else it moves
  pub goes : (v w : Session) → IsSessionAt s evse v → Makes (price_at site v.start_date_time) at report v w → (m : Moved) → Comes v w m → IsMoved site s at report m
  goes v w here makes m comes = lines.Goes v w (record { evse = evse; about = about; here = here; makes = makes }) comes

  -- it moves, where it is PENDING
  pub goes_pending : (x : Priced) → IsGoingAt s site evse (resumed.Pending x) → (w : Session) → (x.version.status ≡ status.Pending → Makes (price_at site x.version.start_date_time) at report x.version w) →
      (m : Moved) → Comes x.version w m → IsMoved site s at report m
  goes_pending x g w makes m comes =
      let same : x.version ≡ g.session = ap (λ (p : Priced). p.version) g.going.1 in
      goes x.version w (subst (IsSessionAt s evse) (sym same) g.here) (makes (ap (λ (v : Session). v.status) same ∙ g.going.0)) m comes

  -- and where it is ACTIVE
  pub goes_active : (x : Priced) → IsGoingAt s site evse (resumed.Active x) → (w : Session) → (x.version.status ≡ status.Active → x.price ≡ price_at site x.version.start_date_time → Makes (price_at site x.version.start_date_time) at report x.version w) →
      (m : Moved) → Comes x.version w m → IsMoved site s at report m
  goes_active x g w makes m comes =
      let same : x.version ≡ g.session = ap (λ (p : Priced). p.version) g.going.1 in
      let priced : x.price ≡ price_at site x.version.start_date_time = ap (λ (p : Priced). p.price) g.going.1 ∙ ap (λ (v : Session). price_at site v.start_date_time) (sym same) in
      goes x.version w (subst (IsSessionAt s evse) (sym same) g.here) (makes (ap (λ (v : Session). v.status) same ∙ g.going.0) priced) m comes
