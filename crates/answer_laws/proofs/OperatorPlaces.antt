-- A place of a site is found by its ids.
use Rattle.std.proofs.Common.{◌≡◌, ℕ, List, [], ◌∷◌, refl, sym, subst, ◌∙◌}
use Rattle.std.specs.Prelude.{Option, None, Some, Contains, slice_get}
use Rattle.ocpi_text.specs.Text.{key}
use Rattle.ocpi_types.specs.Apart.{AllDiffer}
use Rattle.ocpi_types.specs.Locations.{site_evse_keys}
use Rattle.ocpi_types.specs.declared.site.Connector.{Connector}
use Rattle.ocpi_types.specs.declared.site.Evse.{Evse}
use Rattle.ocpi_types.specs.declared.site.Location.{Location}
use Rattle.site_book.proofs.Apart.{one_evse_each, place}
use Rattle.site_book.specs.Sites.{IsChosen, IsEvseOf, IsLocation}
use Rattle.node_steps.specs.Peers.{IsPeer}
use Rattle.operator_rows.specs.State.{State}
use Rattle.session_tables.proofs.Finding.{same_connector}
use Rattle.session_tables.specs.Places.{IsConnectorAt}
use Rattle.answer_laws.specs.Nodes.{SiteDiffers}
use Rattle.answer_laws.proofs.Listings.{one_of_key, one_peer}

-- an EVSE of the locations is one, and so is its location
one_evse : (locations : List Location) (uid : List ℕ) (l m : Location) (e f : Evse) → AllDiffer (site_evse_keys locations) → IsEvseOf locations uid l e → IsEvseOf locations uid m f → (l ≡ m) × (e ≡ f)
one_evse locations uid l m e f apart h g =
    let a = place locations l h.listed in
    let b = place l.evses e h.within in
    let c = place locations m g.listed in
    let d = place m.evses f g.within in
    let same : ◌≡◌ {A = ℕ × ℕ} (a.0, b.0) (c.0, d.0) = one_evse_each locations apart uid (a.0, b.0) (c.0, d.0)
    (record { evse = e; at = record { location = l; stands = a.1; within = b.1 }; same = h.same })
    (record { evse = f; at = record { location = m; stands = c.1; within = d.1 }; same = g.same }) in
    let found : Some l ≡ Some m = sym a.1 ∙ (λ i. slice_get locations (same i).0) ∙ c.1 in
    let its_location : l ≡ m = cc in
    let there : Some e ≡ Some f = sym b.1 ∙ (λ i. slice_get (its_location i).evses (same i).1) ∙ d.1 in
    let itself : e ≡ f = cc in
    (its_location, itself)

module _ (s : State) (apart : SiteDiffers s) where
  -- a provider is spelled in one way
  pub one_provider : (party p q : List ℕ) → IsPeer s.providers party p → IsPeer s.providers party q → p ≡ q
  one_provider party p q h g = one_peer (key s.party ∷ []) s.providers party p q apart.parties.apart h g

  pub one_location : (id : List ℕ) (l m : Location) → IsLocation s.site.locations id l → IsLocation s.site.locations id m → l ≡ m
  one_location id l m h g = one_of_key (λ (x : Location). key x.id) [] s.site.locations l m apart.places.locations.apart h.listed g.listed (h.same ∙ sym g.same)

  -- a connector that is found by the uid of its EVSE and by its own id
  pub one_connector : (evse connector : List ℕ) (l m : Location) (e f : Evse) (j k : Connector) → IsConnectorAt s.site.locations evse connector l e j → IsConnectorAt s.site.locations evse connector m f k →
      (l ≡ m) × (e ≡ f) × (j ≡ k)
  one_connector evse connector l m e f j k h g =
      let one = one_evse s.site.locations evse l m e f apart.places.locations.evses_apart h.of_site g.of_site in
      let here : Contains f.connectors j = subst (λ (x : Evse). Contains x.connectors j) one.1 h.listed in
      (one.0, one.1, same_connector f.connectors (apart.places.connectors m f g.of_site.listed g.of_site.within) j k here g.listed (h.same ∙ sym g.same))

  -- an EVSE of a location is known by its uid
  pub one_of_uid : (l : Location) (e f : Evse) → Contains s.site.locations l → Contains l.evses e → Contains l.evses f → key e.uid ≡ key f.uid → e ≡ f
  one_of_uid l e f listed h g same =
      (one_evse s.site.locations (key f.uid) l l e f apart.places.locations.evses_apart (record { listed = listed; within = h; same = same }) (record { listed = listed; within = g; same = refl })).1

  -- the connector that is named, or the first, is one
  pub one_chosen : (named : Option (List ℕ)) (l : Location) (e : Evse) (j k : Connector) → Contains s.site.locations l → Contains l.evses e → IsChosen named e.connectors j → IsChosen named e.connectors k → j ≡ k
  one_chosen None l e j k listed within h g = let found : Some j ≡ Some k = sym h ∙ g in cc
  one_chosen (Some name) l e j k listed within h g = same_connector e.connectors (apart.places.connectors l e listed within) j k h.0 g.0 (h.1 ∙ sym g.1)
