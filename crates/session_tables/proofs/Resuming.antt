-- A session that has not ended goes on at the price of its cost.
use Rattle.std.proofs.Common.{◌≡◌, inl, inr, ℤ, refl, subst, Some}
use Rattle.ocpi_types.specs.declared.sessions.Session.{Session}
use Rattle.ocpi_types.specs.declared.words.SessionStatus.{SessionStatus}
use Rattle.ocpi_types.specs.declared.words.SessionStatus.TheVariants as status
use Rattle.session_state.specs.declared.resuming.Resumed.{Resumed}
use Rattle.session_state.specs.Resuming.{CannotResume, IsResumed, in_state}
use Rattle.session_state.specs.Versions.{HasCost, IsUncharged}
use Rattle.operator_rows.specs.State.{IsLive}
use Rattle.session_tables.specs.Going.{IsGoing}
use Rattle.tables.proofs.Options.{some_same}

module _ (price : ℤ) (v : Session) where
  going_in : (st : SessionStatus) → v.status ≡ st → IsLive st → (x : Resumed) → in_state st (record { version = v; price = price }) ≡ Some x → IsGoing price v x
  going_in status.Pending is live x e = subst (IsGoing price v) (some_same _ x e) (is, refl)
  going_in status.Active is live x e = subst (IsGoing price v) (some_same _ x e) (is, refl)
  going_in status.Completed is live x e = absurd live
  going_in status.Invalid is live x e = absurd live
  going_in status.Reservation is live x e = absurd live

  pub goes_on : (x : Resumed) → IsLive v.status → IsResumed price v x → IsGoing price v x
  goes_on x live resumed = going_in v.status refl live x resumed.state

  -- what has not ended, has its cost and was charged only since its charging began can be made again
  pub can_go_on : CannotResume price v → IsLive v.status → HasCost price v → IsUncharged v → ⊥
  can_go_on (inl reserved) live cost uncharged = subst IsLive reserved live
  can_go_on (inr (inl other)) live cost uncharged = other cost
  can_go_on (inr (inr charged)) live cost uncharged = charged uncharged
