-- A site line is read just where the tree has its form.
use Rattle.std.proofs.Common.{◌≡◌, ℕ, List, [], ◌∷◌, ◌++◌, length, map, Ok, refl, sym, subst, ap, ◌∙◌, arith}
use Rattle.std.proofs.lemmas.List.{append_assoc, append-nil}
use Rattle.std.proofs.lemmas.Grind.{flat_map-append}
use Rattle.serde_json.specs.Data.{Data, Items}
use Rattle.ocpi_text.specs.Text.{key}
use Rattle.ocpi_text.specs.Party.{party_at}
use Rattle.ocpi_types.specs.Apart.{DifferFrom}
use Rattle.ocpi_types.specs.Limits.{IsCount}
use Rattle.ocpi_types.specs.Connectors.{connector_keys, AreConnectors}
use Rattle.ocpi_types.specs.Locations.{evse_keys, location_keys, site_evse_keys, AreLocations}
use Rattle.ocpi_types.specs.Parties.{AreParties}
use Rattle.ocpi_types.specs.declared.field.Field.TheVariants as field
use Rattle.ocpi_types.specs.declared.site.Connector.{Connector}
use Rattle.ocpi_types.specs.declared.site.Evse.{Evse}
use Rattle.ocpi_types.specs.declared.site.Location.{Location}
use Rattle.ocpi_forms.specs.declared.sites.LocationPlace.{LocationPlace}
use Rattle.json_text.specs.Fields.{as_text, formed, ci_in, free_in, moment_in, party_in, record_in, each_after}
use Rattle.json_text.specs.Lists.{new_ci_in, counted_in}
use Rattle.ocpi_forms.specs.Sites.{connector_at, connector_element, connectors_in, evse_at, evse_element, evses_in, location_place_at, location_at, location_element, locations_in, site_at, provider_at, providers_in, parties_at, site_line_at, site_of_line}
use Rattle.ocpi_forms.specs.SitePrices.{price_in, prices_in}
use Rattle.json_text.specs.Form.{Required, IsFree, IsParty, IsRecord, IsList}
use Rattle.ocpi_forms.specs.SiteForm.{IsConnector, IsEvse, IsLocation, IsSite, HasParties, IsSiteLine, IsSiteLineTree}
use Rattle.json_text.proofs.Exact.{Exact, ok_is, bind_ok, both_steps, text_exact, formed_ok, ci_exact, free_exact, moment_exact, party_exact, inner_exact, as_record_exact}
use Rattle.ocpi_forms.proofs.PriceForms.{price_exact, prices_exact}
use Rattle.json_text.proofs.Elements.{record_beside, beside, AllNew, ExactBeside, IsListing, listing_exact, new_ci_exact, new_among_sound, new_among_complete, Apart, differ_from_new, new_from_differ}

-- ---- connectors

abbrev NewConnector : List Connector → Connector → Type 0
NewConnector = Apart (λ c. key c.id) []

connector_exact : (before : List Connector) → Exact (connector_at before) (λ d c. IsConnector d c × NewConnector before c)
unfolding connector_at
connector_exact before = record {
  sound = λ d x e.
      let a = bind_ok (new_ci_in 36 field.Id (connector_keys before) d) _ x e in
      let b = bind_ok (free_in 64 field.Standard d) _ x a.2 in
      let g = bind_ok (free_in 64 field.Format d) _ x b.2 in
      let h = bind_ok (free_in 64 field.PowerType d) _ x g.2 in
      let id = (new_ci_exact 36 field.Id (connector_keys before)).sound d a.0 a.1 in
      subst (λ c. IsConnector d c × NewConnector before c) (ok_is _ x h.2) (
        record {
          id = id.form;
          standard = (free_exact 64 field.Standard).sound d b.0 b.1;
          format = (free_exact 64 field.Format).sound d g.0 g.1;
          power_type = (free_exact 64 field.PowerType).sound d h.0 h.1;
        },
        id.apart,
      );
  complete = λ d x p. rw (
    (new_ci_exact 36 field.Id (connector_keys before)).complete d x.id (record { form = p.0.id; apart = p.1 }),
    (free_exact 64 field.Standard).complete d x.standard p.0.standard,
    (free_exact 64 field.Format).complete d x.format p.0.format,
    (free_exact 64 field.PowerType).complete d x.power_type p.0.power_type,
  ) refl;
}

connector_beside : ExactBeside connector_element (IsRecord IsConnector) NewConnector
connector_beside = record_beside field.Connectors connector_exact

connectors_listing : Exact connectors_in (IsListing (IsRecord IsConnector) NewConnector 1 10 field.Connectors)
unfolding connectors_in
connectors_listing = listing_exact connector_beside 1 10 field.Connectors

listed_connectors : (d : Data) (xs : List Connector) → IsListing (IsRecord IsConnector) NewConnector 1 10 field.Connectors d xs → AreConnectors xs
listed_connectors d xs l = record { count = record { some = l.low; few = l.high }; apart = differ_from_new (λ c. key c.id) [] [] xs l.apart }

pub connectors_are : (d : Data) (items : Items) (xs : List Connector) → counted_in 1 10 field.Connectors d ≡ Ok items → each_after connector_element [] items ≡ Ok xs → AreConnectors xs
unfolding connectors_in
connectors_are d items xs c e = listed_connectors d xs (connectors_listing.sound d xs (both_steps (counted_in 1 10 field.Connectors d) (each_after connector_element []) items xs c e))

-- a list of connectors that differ
record HasConnectors (d : Data) (xs : List Connector) : Type 0 where
  listed : Required (IsList (IsRecord IsConnector)) field.Connectors d xs
  are : AreConnectors xs

connectors_exact : Exact connectors_in HasConnectors
connectors_exact = record {
  sound = λ d xs e. let l = connectors_listing.sound d xs e in record { listed = l.elements; are = listed_connectors d xs l };
  complete = λ d xs p. connectors_listing.complete d xs (record {
    elements = p.listed;
    low = p.are.count.some;
    high = p.are.count.few;
    apart = new_from_differ (λ c. key c.id) [] [] xs p.are.apart;
  });
}

-- ---- EVSEs

abbrev NewEvse : List Location → List Evse → Evse → Type 0
NewEvse earlier = Apart (λ e. key e.uid) (site_evse_keys earlier)

evse_exact : (earlier : List Location) (before : List Evse) → Exact (evse_at earlier before) (λ d e. IsEvse d e × NewEvse earlier before e)
unfolding evse_at
evse_exact earlier before = record {
  sound = λ d x e.
      let a = bind_ok (new_ci_in 36 field.Uid (site_evse_keys earlier ++ evse_keys before) d) _ x e in
      let b = bind_ok (ci_in 48 field.EvseId d) _ x a.2 in
      let g = bind_ok (connectors_in d) _ x b.2 in
      let uid = (new_ci_exact 36 field.Uid (site_evse_keys earlier ++ evse_keys before)).sound d a.0 a.1 in
      let connectors = connectors_exact.sound d g.0 g.1 in
      subst (λ c. IsEvse d c × NewEvse earlier before c) (ok_is _ x g.2) (
        record {
          uid = uid.form;
          evse_id = (ci_exact 48 field.EvseId).sound d b.0 b.1;
          connectors = connectors.listed;
          are = connectors.are;
        },
        uid.apart,
      );
  complete = λ d x p. rw (
    (new_ci_exact 36 field.Uid (site_evse_keys earlier ++ evse_keys before)).complete d x.uid (record { form = p.0.uid; apart = p.1 }),
    (ci_exact 48 field.EvseId).complete d x.evse_id p.0.evse_id,
    connectors_exact.complete d x.connectors (record { listed = p.0.connectors; are = p.0.are }),
  ) refl;
}

evse_beside : (earlier : List Location) → ExactBeside (evse_element earlier) (IsRecord IsEvse) (NewEvse earlier)
evse_beside earlier = record_beside field.Evses (evse_exact earlier)

evses_listing : (earlier : List Location) → Exact (evses_in earlier) (IsListing (IsRecord IsEvse) (NewEvse earlier) 1 1000 field.Evses)
unfolding evses_in
evses_listing earlier = listing_exact (evse_beside earlier) 1 1000 field.Evses

-- EVSEs that differ from one another, and from earlier ones
record HasEvses (earlier : List Location) (d : Data) (xs : List Evse) : Type 0 where
  listed : Required (IsList (IsRecord IsEvse)) field.Evses d xs
  count : IsCount 1000 (length xs)
  apart : DifferFrom (site_evse_keys earlier) (evse_keys xs)

evses_exact : (earlier : List Location) → Exact (evses_in earlier) (HasEvses earlier)
evses_exact earlier =
    let no_more = append-nil (site_evse_keys earlier) in
    record {
      sound = λ d xs e.
          let l = (evses_listing earlier).sound d xs e in
          record {
            listed = l.elements;
            count = record { some = l.low; few = l.high };
            apart = subst (λ front. DifferFrom front (evse_keys xs)) no_more (differ_from_new (λ (e : Evse). key e.uid) (site_evse_keys earlier) [] xs l.apart);
          };
      complete = λ d xs p. (evses_listing earlier).complete d xs (record {
        elements = p.listed;
        low = p.count.some;
        high = p.count.few;
        apart = new_from_differ (λ (e : Evse). key e.uid) (site_evse_keys earlier) [] xs (subst (λ front. DifferFrom front (evse_keys xs)) (sym no_more) p.apart);
      });
    }

-- ---- locations

record HasPlace (d : Data) (l : LocationPlace) : Type 0 where
  address : Required (IsFree 45) field.Address d l.address
  city : Required (IsFree 45) field.City d l.city
  country : Required (IsFree 3) field.Country d l.country
  latitude : Required (IsFree 10) field.Latitude d l.latitude
  longitude : Required (IsFree 11) field.Longitude d l.longitude

place_exact : Exact location_place_at HasPlace
unfolding location_place_at
place_exact = record {
  sound = λ d x e.
      let b = bind_ok (free_in 45 field.Address d) _ x e in
      let g = bind_ok (free_in 45 field.City d) _ x b.2 in
      let h = bind_ok (free_in 3 field.Country d) _ x g.2 in
      let i = bind_ok (free_in 10 field.Latitude d) _ x h.2 in
      let j = bind_ok (free_in 11 field.Longitude d) _ x i.2 in
      subst (HasPlace d) (ok_is _ x j.2) (record {
        address = (free_exact 45 field.Address).sound d b.0 b.1;
        city = (free_exact 45 field.City).sound d g.0 g.1;
        country = (free_exact 3 field.Country).sound d h.0 h.1;
        latitude = (free_exact 10 field.Latitude).sound d i.0 i.1;
        longitude = (free_exact 11 field.Longitude).sound d j.0 j.1;
      });
  complete = λ d x p. rw (
    (free_exact 45 field.Address).complete d x.address p.address,
    (free_exact 45 field.City).complete d x.city p.city,
    (free_exact 3 field.Country).complete d x.country p.country,
    (free_exact 10 field.Latitude).complete d x.latitude p.latitude,
    (free_exact 11 field.Longitude).complete d x.longitude p.longitude,
  ) refl;
}

abbrev place_part : Location → LocationPlace
place_part l = record { address = l.address; city = l.city; country = l.country; latitude = l.latitude; longitude = l.longitude }

-- an id that is new, and EVSEs that are
record NewLocation (before : List Location) (l : Location) : Type 0 where
  id : Apart (λ (x : Location). key x.id) [] before l
  evses : DifferFrom (site_evse_keys before) (evse_keys l.evses)

location_exact : (before : List Location) → Exact (location_at before) (λ d l. IsLocation d l × NewLocation before l)
unfolding location_at
location_exact before = record {
  sound = λ d x e.
      let a = bind_ok (new_ci_in 36 field.Id (location_keys before) d) _ x e in
      let b = bind_ok (location_place_at d) _ x a.2 in
      let g = bind_ok (evses_in before d) _ x b.2 in
      let id = (new_ci_exact 36 field.Id (location_keys before)).sound d a.0 a.1 in
      let place = place_exact.sound d b.0 b.1 in
      let evses = (evses_exact before).sound d g.0 g.1 in
      subst (λ l. IsLocation d l × NewLocation before l) (ok_is _ x g.2) (
        record {
          id = id.form;
          address = place.address;
          city = place.city;
          country = place.country;
          latitude = place.latitude;
          longitude = place.longitude;
          evses = evses.listed;
          count = evses.count;
        },
        record { id = id.apart; evses = evses.apart },
      );
  complete = λ d x p. rw (
    (new_ci_exact 36 field.Id (location_keys before)).complete d x.id (record { form = p.0.id; apart = p.1.id }),
    place_exact.complete d (place_part x) (record {
      address = p.0.address;
      city = p.0.city;
      country = p.0.country;
      latitude = p.0.latitude;
      longitude = p.0.longitude;
    }),
    (evses_exact before).complete d x.evses (record { listed = p.0.evses; count = p.0.count; apart = p.1.evses }),
  ) refl;
}

location_beside : ExactBeside location_element (IsRecord IsLocation) NewLocation
location_beside = record_beside field.Locations location_exact

locations_listing : Exact locations_in (IsListing (IsRecord IsLocation) NewLocation 1 1000 field.Locations)
unfolding locations_in
locations_listing = listing_exact location_beside 1 1000 field.Locations

-- texts that differ, in two parts
differ_parts : (front xs ys : List (List ℕ)) → DifferFrom front (xs ++ ys) → DifferFrom front xs × DifferFrom (front ++ xs) ys
differ_parts front [] ys h = (tt, subst (λ l. DifferFrom l ys) (sym (append-nil front)) h)
differ_parts front (x ∷ xs) ys h =
    let p = differ_parts (front ++ x ∷ []) xs ys h.1 in
    ((h.0, p.0), subst (λ l. DifferFrom l ys) (append_assoc front (x ∷ []) xs) p.1)

differ_join : (front xs ys : List (List ℕ)) → DifferFrom front xs → DifferFrom (front ++ xs) ys → DifferFrom front (xs ++ ys)
differ_join front [] ys h k = subst (λ l. DifferFrom l ys) (append-nil front) k
differ_join front (x ∷ xs) ys h k = (h.0, differ_join (front ++ x ∷ []) xs ys h.1 (subst (λ l. DifferFrom l ys) (sym (append_assoc front (x ∷ []) xs)) k))

evses_then : (before : List Location) (l : Location) → site_evse_keys before ++ evse_keys l.evses ≡ site_evse_keys (before ++ l ∷ [])
evses_then before l = ap (λ (k : List (List ℕ)). site_evse_keys before ++ k) (sym (append-nil (evse_keys l.evses))) ∙ sym (flat_map-append (λ (x : Location). evse_keys x.evses) before (l ∷ []))

ids_of_new : (before ls : List Location) → AllNew NewLocation before ls → AllNew (Apart (λ (x : Location). key x.id) []) before ls
ids_of_new before [] h = tt
ids_of_new before (l ∷ ls) h = (h.0.id, ids_of_new (before ++ l ∷ []) ls h.1)

evses_of_new : (before ls : List Location) → AllNew NewLocation before ls → DifferFrom (site_evse_keys before) (site_evse_keys ls)
evses_of_new before [] h = tt
evses_of_new before (l ∷ ls) h =
    differ_join (site_evse_keys before) (evse_keys l.evses) (site_evse_keys ls) h.0.evses
    (subst (λ front. DifferFrom front (site_evse_keys ls)) (sym (evses_then before l)) (evses_of_new (before ++ l ∷ []) ls h.1))

new_locations : (before ls : List Location) → AllNew (Apart (λ (x : Location). key x.id) []) before ls → DifferFrom (site_evse_keys before) (site_evse_keys ls) → AllNew NewLocation before ls
new_locations before [] h k = tt
new_locations before (l ∷ ls) h k =
    let p = differ_parts (site_evse_keys before) (evse_keys l.evses) (site_evse_keys ls) k in
    (record { id = h.0; evses = p.0 }, new_locations (before ++ l ∷ []) ls h.1 (subst (λ front. DifferFrom front (site_evse_keys ls)) (evses_then before l) p.1))

listed_locations : (d : Data) (xs : List Location) → IsListing (IsRecord IsLocation) NewLocation 1 1000 field.Locations d xs → AreLocations xs
listed_locations d xs l = record {
  count = record { some = l.low; few = l.high };
  apart = differ_from_new (λ (x : Location). key x.id) [] [] xs (ids_of_new [] xs l.apart);
  evses_apart = evses_of_new [] xs l.apart;
}

pub locations_are : (d : Data) (items : Items) (xs : List Location) → counted_in 1 1000 field.Locations d ≡ Ok items → each_after location_element [] items ≡ Ok xs → AreLocations xs
unfolding locations_in
locations_are d items xs c e = listed_locations d xs (locations_listing.sound d xs (both_steps (counted_in 1 1000 field.Locations d) (each_after location_element []) items xs c e))

record HasLocations (d : Data) (xs : List Location) : Type 0 where
  listed : Required (IsList (IsRecord IsLocation)) field.Locations d xs
  are : AreLocations xs

locations_exact : Exact locations_in HasLocations
locations_exact = record {
  sound = λ d xs e. let l = locations_listing.sound d xs e in record { listed = l.elements; are = listed_locations d xs l };
  complete = λ d xs p. locations_listing.complete d xs (record {
    elements = p.listed;
    low = p.are.count.some;
    high = p.are.count.few;
    apart = new_locations [] xs (new_from_differ (λ (x : Location). key x.id) [] [] xs p.are.apart) p.are.evses_apart;
  });
}

-- ---- parties

abbrev NewProvider : List ℕ → List (List ℕ) → List ℕ → Type 0
NewProvider operator = Apart key (key operator ∷ [])

provider_exact : (operator : List ℕ) (before : List (List ℕ)) → Exact (provider_at operator before) (λ d p. IsParty d p × NewProvider operator before p)
unfolding provider_at
provider_exact operator before = record {
  sound = λ d x e.
      let a = bind_ok (as_text field.Providers d) _ x e in
      let b = bind_ok (formed field.Providers (party_at a.0)) _ x a.2 in
      let new = new_among_sound field.Providers (key operator ∷ map key before) b.0 x b.2 in
      let is = formed_ok field.Providers (party_at a.0) b.0 b.1 in
      (subst (IsParty d) new.0 (a.0, (text_exact field.Providers).sound d a.0 a.1, is), new.1);
  complete = λ d x p. rw (
    (text_exact field.Providers).complete d p.0.0 p.0.1,
    p.0.2,
  ) (new_among_complete field.Providers (key operator ∷ map key before) x p.1);
}

provider_beside : (operator : List ℕ) → ExactBeside (provider_at operator) IsParty (NewProvider operator)
provider_beside operator = beside (provider_exact operator)

providers_listing : (operator : List ℕ) → Exact (providers_in operator) (IsListing IsParty (NewProvider operator) 0 63 field.Providers)
unfolding providers_in
providers_listing operator = listing_exact (provider_beside operator) 0 63 field.Providers

listed_parties : (operator : List ℕ) (d : Data) (xs : List (List ℕ)) → IsListing IsParty (NewProvider operator) 0 63 field.Providers d xs → AreParties (record { operator = operator; providers = xs })
listed_parties operator d xs l = record { few = l.high; apart = differ_from_new key (key operator ∷ []) [] xs l.apart }

pub parties_are : (operator : List ℕ) (d : Data) (items : Items) (xs : List (List ℕ)) → counted_in 0 63 field.Providers d ≡ Ok items → each_after (provider_at operator) [] items ≡ Ok xs → AreParties (record { operator = operator; providers = xs })
unfolding providers_in
parties_are operator d items xs c e = listed_parties operator d xs ((providers_listing operator).sound d xs (both_steps (counted_in 0 63 field.Providers d) (each_after (provider_at operator) []) items xs c e))

parties_exact : Exact parties_at HasParties
unfolding parties_at
parties_exact = record {
  sound = λ d p e.
      let a = bind_ok (party_in field.Party d) _ p e in
      let b = bind_ok (providers_in a.0 d) _ p a.2 in
      let l = (providers_listing a.0).sound d b.0 b.1 in
      subst (HasParties d) (ok_is _ p b.2) (record {
        operator = (party_exact field.Party).sound d a.0 a.1;
        providers = l.elements;
        are = listed_parties a.0 d b.0 l;
      });
  complete = λ d p h. rw (
    (party_exact field.Party).complete d p.operator h.operator,
    (providers_listing p.operator).complete d p.providers (record {
      elements = h.providers;
      low = omega arith;
      high = h.are.few;
      apart = new_from_differ key (key p.operator ∷ []) [] p.providers h.are.apart;
    }),
  ) refl;
}

-- ---- the site and its line

pub site_exact : Exact site_at IsSite
unfolding site_at
site_exact = record {
  sound = λ d s e.
      let a = bind_ok (free_in 3 field.Currency d) _ s e in
      let b = bind_ok (price_in d) _ s a.2 in
      let g = bind_ok (prices_in d) _ s b.2 in
      let h = bind_ok (locations_in d) _ s g.2 in
      let price = price_exact.sound d b.0 b.1 in
      let locations = locations_exact.sound d h.0 h.1 in
      subst (IsSite d) (ok_is _ s h.2) (record {
        currency = (free_exact 3 field.Currency).sound d a.0 a.1;
        price = price.form;
        bound = price.bound;
        prices = prices_exact.sound d g.0 g.1;
        locations = locations.listed;
        are = locations.are;
      });
  complete = λ d s p. rw (
    (free_exact 3 field.Currency).complete d s.currency p.currency,
    price_exact.complete d s.price (record { form = p.price; bound = p.bound }),
    prices_exact.complete d s.prices p.prices,
    locations_exact.complete d s.locations (record { listed = p.locations; are = p.are }),
  ) refl;
}

pub site_line_exact : Exact site_line_at IsSiteLine
unfolding site_line_at
site_line_exact = record {
  sound = λ d s e.
      let a = bind_ok (moment_in field.At d) _ s e in
      let b = bind_ok (parties_at d) _ s a.2 in
      let g = bind_ok (record_in field.Site d) _ s b.2 in
      let h = bind_ok (site_at g.0) _ s g.2 in
      let site = both_steps (record_in field.Site d) site_at g.0 h.0 g.1 h.1 in
      subst (IsSiteLine d) (ok_is _ s h.2) (record {
        at = (moment_exact field.At).sound d a.0 a.1;
        parties = parties_exact.sound d b.0 b.1;
        site = (inner_exact field.Site site_at IsSite site_exact).sound d h.0 site;
      });
  complete = λ d s p.
      let inner = bind_ok (record_in field.Site d) site_at s.site ((inner_exact field.Site site_at IsSite site_exact).complete d s.site p.site) in
      rw (
        (moment_exact field.At).complete d s.at p.at,
        parties_exact.complete d s.parties p.parties,
        inner.1,
        inner.2,
      ) refl;
}

-- a line's tree is read just where it is a site line
pub site_of_line_exact : Exact site_of_line IsSiteLineTree
unfolding site_of_line
site_of_line_exact = as_record_exact field.Line site_line_at IsSiteLine site_line_exact
