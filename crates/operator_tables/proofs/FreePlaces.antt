-- What the tables ask of claims and of reservations for a token.
use Rattle.std.proofs.Common.{◌≡◌, ℕ, Bool, true, false, List, refl, sym, ap, subst, ◌∙◌}
use Rattle.std.specs.Prelude.{Option, Some, None, IsTrue, is_some, not, ◌&&◌, slice_get}
use Rattle.std.specs.FinMap.{get, contains_key}
use Rattle.ocpi_text.specs.Text.{key}
use Rattle.ocpi_types.specs.declared.site.Location.{Location}
use Rattle.ocpi_types.specs.declared.site.Evse.{Evse}
use Rattle.ocpi_types.specs.declared.site.Connector.{Connector}
use Rattle.ocpi_types.specs.declared.commands.StartSession.{StartSession}
use Rattle.reservation_book.specs.declared.standing.Standing.{Standing}
use Rattle.reservation_book.specs.Tokens.{IsFor}
use Rattle.site_book.specs.declared.claim.Claim.{Claim}
use Rattle.std.specs.BTreeMap.Range.{IsLeBy}
use Rattle.tables.specs.Keys.{text_cmp}
use Rattle.site_book.proofs.Apart.{contained}
use Rattle.site_book.proofs.Finding.{first_named, first_of}
use Rattle.site_book.specs.Positions.{OneEvseEach}
use Rattle.site_book.specs.Sites.{Claims, OutOfService, SiteState, IsEvseFor, IsFirst, IsFirstFree, IsFreeFor, IsFreeEvse, IsEvse, is_free, works}
use Rattle.operator_rows.specs.State.{Rows, HasClaim, IsFree}
use Rattle.operator_rows.specs.Claimed.{IsIndexed}
use Rattle.operator_tables.specs.Places.{IsHeldFor, token_at}
use Rattle.operator_tables.specs.Start.{IsLeastHeld, MayStart, NoneHeld}
use Rattle.operator_tables.specs.Held.{token_of, IsHeldBy, HasNoHeld}

neither : (a b : Bool) → IsTrue (not a && not b) → (a ≡ false) × IsTrue (not b)
neither true b h = absurd (let f : false ≡ true = h in cc)
neither false b h = (refl, h)

module _ (claims : Claims) (out : OutOfService) (s : Rows) (h : IsIndexed claims s) (evse : List ℕ) where
  -- an EVSE has one claim
  pub only_claim : (c d : Claim) → HasClaim s evse c → HasClaim s evse d → d ≡ c
  only_claim c d one other =
      let a : get claims evse ≡ Some c = (h evse c).1 one in
      let b : get claims evse ≡ Some d = (h evse d).1 other in
      cc

  -- an EVSE is free where it has no claim among the kept ones and is in service
  pub in_service : IsTrue (is_free claims out evse) → IsTrue (works out evse)
  in_service free = (neither _ _ free).1

  pub unclaimed : IsTrue (is_free claims out evse) → IsFree s evse
  unclaimed free c has =
      let there : contains_key claims evse ≡ true = ap is_some ((h evse c).1 has) in
      let never : true ≡ false = sym there ∙ (neither _ _ free).0 in cc

  pub free_of : IsFree s evse → IsTrue (works out evse) → IsTrue (is_free claims out evse)
  free_of free serves = go (get claims evse) refl
    where
      go : (o : Option Claim) → get claims evse ≡ o → IsTrue (is_free claims out evse)
      go None e = ap (λ (o : Option Claim). not (is_some o) && works out evse) e ∙ serves
      go (Some d) e = absurd (free d ((h evse d).0 e))

  -- an EVSE that works is free, or has a claim
  pub works_free : IsTrue (works out evse) → (IsTrue (is_free claims out evse) → ⊥) → (c : Claim) × HasClaim s evse c
  works_free work not_free = go (get claims evse) refl
    where
      go : (o : Option Claim) → get claims evse ≡ o → (c : Claim) × HasClaim s evse c
      go None e = absurd (not_free (ap (λ (o : Option Claim). not (is_some o) && works out evse) e ∙ work))
      go (Some c) e = (c, (h evse c).0 e)

module _ (s : Rows) (sender : List ℕ) (c : StartSession) (l : Location) (same : key l.id ≡ key c.location_id) where
  same_token : token_of (key sender) c ≡ token_at sender c.token l
  same_token = λ i. record { provider = key sender; location_id = sym same i; uid = key c.token.uid; token_type = c.token.token_type }

  -- what is held for the token at the location that the command names is held for it at that location
  pub held_for : (x : Standing) (e : Evse) (k : Connector) → IsHeldBy s (token_of (key sender) c) c l x e k → IsHeldFor s sender c.token l e x
  held_for x e k h = record { is_for = subst (λ t. IsFor s.booked.reservations t x) same_token h.is_for; here = h.here }

  pub none_held : HasNoHeld s (token_of (key sender) c) c l → NoneHeld s sender c l
  none_held none f j x place serves held =
      none x f j (record { place = place; works = serves; is_for = subst (λ t. IsFor s.booked.reservations t x) (sym same_token) held.is_for; here = held.here })

  -- and the least of what is held so is the least of what is held for it at that location
  pub least_for : (e : Evse) → ((x : Standing) (f : Evse) (j : Connector) → IsHeldBy s (token_of (key sender) c) c l x f j → IsLeBy text_cmp (key e.uid) (key f.uid)) → IsLeastHeld s sender c l e
  least_for e least f j x place serves held =
      least x f j (record { place = place; works = serves; is_for = subst (λ t. IsFor s.booked.reservations t x) (sym same_token) held.is_for; here = held.here })

-- the first EVSE that is not claimed is the first that a start may take
pub first_start : (site : SiteState) (s : Rows) → IsIndexed site.claims s → site.out_of_service ≡ s.out_of_service → (c : StartSession) (l : Location) (e : Evse) →
    IsFirst l (IsFreeFor site c.evse_uid) e → IsFirst l (MayStart s c) e
first_start site s h service c l e first = first_of l (IsFreeFor site c.evse_uid) (MayStart s c) e (λ f may. record {
  named = may.named;
  free = subst (λ (z : OutOfService). IsTrue (is_free site.claims z (key f.uid))) (sym service) (free_of site.claims s.out_of_service s h (key f.uid) may.free may.works);
}) first

-- an EVSE that is named
module _ (site : SiteState) (at : ℕ) (l : Location) (named : Option (List ℕ)) (name : List ℕ) (e : Evse) (stands : slice_get site.site.locations at ≡ Some l) (is : named ≡ Some name) (fits : IsEvseFor l named e) where
  here : IsEvseFor l (Some name) e
  here = subst (λ o. IsEvseFor l o e) is fits

  -- and free is the first of its uid that is free
  pub named_first : OneEvseEach site.site.locations → IsFreeEvse site e → IsFirstFree site l named e
  named_first one free = subst (λ o. IsFirstFree site l o e) (sym is) (record {
    fits = here;
    free = free;
    first = first_named site.site.locations at l stands one name (IsFreeFor site (Some name)) e (λ g may. may.named) here;
  })

  -- and not free leaves none of its uid that is
  pub named_taken : (b : Bool) → (IsEvse site.site.locations (key e.uid) × IsFreeEvse site e → IsTrue b) → b ≡ false → (f : Evse) → IsEvseFor l named f → IsFreeEvse site f → ⊥
  named_taken b free_is taken f other free =
      let there : IsEvseFor l (Some name) f = subst (λ o. IsEvseFor l o f) is other in
      let same : key f.uid ≡ key e.uid = there.named ∙ sym here.named in
      let of_site : IsEvse site.site.locations (key e.uid) = record { location = l; evse = e; listed = contained site.site.locations at l stands; within = here.listed; same = refl } in
      let told : b ≡ true = free_is (of_site, subst (λ k. IsTrue (is_free site.claims site.out_of_service k)) same free) in
      cc
