-- What the indexes of a site find is what is looked for.
use Rattle.std.proofs.Common.{◌≡◌, ◌<◌, ℕ, arith, Bool, true, false, List, [], ◌∷◌, refl, sym, ap, subst, ◌∙◌}
use Rattle.std.specs.Prelude.{◌≢◌, ◌↔◌, IfSome, Option, Some, None, IsTrue, IsSome, IsNone, IfNone, Contains, is_some, slice_get, nat_eq}
use Rattle.std.proofs.lemmas.Option.{same_Some}
use Rattle.std.specs.List.{list_any, position}
use Rattle.std.specs.Cmp.Lexicographic.{pointwise}
use Rattle.std.specs.FinMap.{FinMap, get, contains_key}
use Rattle.ocpi_types.specs.Locations.{location_keys}
use Rattle.ocpi_text.specs.Text.{key}
use Rattle.ocpi_types.specs.declared.site.Location.{Location}
use Rattle.ocpi_types.specs.declared.site.Evse.{Evse}
use Rattle.ocpi_types.specs.declared.site.Connector.{Connector}
use Rattle.tables.specs.Keys.{text_cmp}
use Rattle.site_book.specs.Sites.{OutOfService, IsLocation, IsEvseFor, IsChosen, Fits, IsEvse, IsEvseOf, IsFirst, IsNamed}
use Rattle.site_book.specs.Positions.{Position, IsEvseAt, HasEvse, OneEvseEach, OneLocationEach, FindsEvses, IsFlag, Marks}
use Rattle.site_book.proofs.Apart.{contained, place}
use Rattle.site_book.proofs.Ids.{located, unlocated}
use Rattle.site_book.proofs.Indexing.{one_evse}
use Rattle.site_book.proofs.Marking.{one_flag}

pub none_then : {X P Q : Type 0} (r : Option X) → IfNone r P → (P → Q) → IfNone r Q
none_then None p f = f p
none_then (Some x) p f = tt

pub none_from : {X P : Type 0} (r : Option X) → P → IfNone r P
none_from None p = p
none_from (Some x) p = tt

-- the EVSE of a place of the location is one of it
pub fitting : (l : Location) (uid connector : Option (List ℕ)) (e : Evse) (k : Connector) → Fits l.evses uid connector e k → IsEvseFor l uid e
fitting l uid connector e k f = record { listed = f.listed; named = f.named }

-- without a place at the EVSE that is looked at, none fits
pub no_place : {X : Type 0} (l : Location) (r : Option X) (uid connector : Option (List ℕ)) (e : Evse) → (IsSome connector × IsNone uid → ⊥) → (IsSome uid → (f : Evse) → IsEvseFor l uid f → f ≡ e) →
    IfNone r ((k : Connector) → IsChosen connector e.connectors k → ⊥) → (IsNone connector → IsSome r) →
    IfNone r ((f : Evse) (k : Connector) → Fits l.evses uid connector f k → ⊥)
no_place l (Some x) uid connector e named sole none first = tt
no_place l None uid None e named sole none first = λ f k fit. let h = first refl in absurd (cc)
no_place l None None (Some name) e named sole none first = λ f k fit. named (refl, refl)
no_place l None (Some u) (Some name) e named sole none first = λ f k fit.
    let same : f ≡ e = sole refl f (fitting l (Some u) (Some name) f k fit) in
    none k (subst (λ (x : Evse). IsChosen (Some name) x.connectors k) same fit.chosen)

-- the first that passes a test is the first of what passes a narrower one
pub first_of : (l : Location) (P Q : Evse → Type 0) (e : Evse) → ((f : Evse) → Q f → P f) → IsFirst l P e → IsFirst l Q e
first_of l P Q e narrower first = record { place = first.place; stands = first.stands; none_before = λ i f less at passes. first.none_before i f less at (narrower f passes) }

module _ (locations : List Location) where
  module _ (ids : List (List ℕ)) (are : ids ≡ location_keys locations) (id : List ℕ) where
    -- no location has an id that is not there
    pub unknown_id : list_any (pointwise nat_eq (key id)) ids ≡ false → (l : Location) → IsLocation locations id l → ⊥
    unknown_id none l is = let p = place locations l is.listed in unlocated locations ids are (key id) p.0 none (record { location = l; stands = p.1; same = is.same })

    module _ (i : ℕ) (known : position (pointwise nat_eq (key id)) ids ≡ Some i) where
      -- a location stands where its id does
      pub no_location : ((l : Location) → slice_get locations i ≡ Some l → ⊥) → ⊥
      no_location none = let h = located locations ids are (key id) i known in none h.location h.stands

      -- and it has the id
      pub found_id : (l : Location) → slice_get locations i ≡ Some l → IsLocation locations id l
      found_id l stands =
          let h = located locations ids are (key id) i known in
          let same : h.location ≡ l = same_Some h.location l (sym h.stands ∙ stands) in
          record { listed = contained locations i l stands; same = ap (λ (x : Location). key x.id) (sym same) ∙ h.same }

      -- and no other has
      pub sole_id : OneLocationEach locations → (l : Location) → slice_get locations i ≡ Some l → (m : Location) → IsLocation locations id m → m ≡ l
      sole_id one l stands m is =
          let p = place locations m is.listed in
          let same : p.0 ≡ i = one (key id) p.0 i (record { location = m; stands = p.1; same = is.same }) (located locations ids are (key id) i known) in
          same_Some m l (sym p.1 ∙ ap (slice_get locations) same ∙ stands)

  -- an EVSE of the site stands at a position
  pub standing : (uid : List ℕ) → IsEvse locations uid → (p : Position) × HasEvse locations p uid
  standing uid e =
      let i = place locations e.location e.listed in
      let j = place e.location.evses e.evse e.within in
      ((i.0, j.0), record { evse = e.evse; at = record { location = e.location; stands = i.1; within = j.1 }; same = e.same })

  -- and what stands at one is of the site
  pub of_site : (p : Position) (uid : List ℕ) → HasEvse locations p uid → IsEvse locations uid
  of_site p uid has = record {
    location = has.at.location;
    evse = has.evse;
    listed = contained locations p.0 has.at.location has.at.stands;
    within = contained has.at.location.evses p.1 has.evse has.at.within;
    same = has.same;
  }

  -- the EVSEs of the location that stands there
  module _ (at : ℕ) (l : Location) (stands : slice_get locations at ≡ Some l) where
    -- one that stands at a position is one of the location
    pub of_location : (j : ℕ) (e : Evse) → IsEvseAt locations (at, j) e → Contains l.evses e
    of_location j e there =
        let same : there.location ≡ l = same_Some there.location l (sym there.stands ∙ stands) in
        subst (λ (x : Location). Contains x.evses e) same (contained there.location.evses j e there.within)

    pub any_there : (j : ℕ) (e : Evse) → IsEvseAt locations (at, j) e → IsEvseFor l None e
    any_there j e there = record { listed = of_location j e there; named = tt }

    -- and each of them has a position
    pub position_of : (uid : Option (List ℕ)) (e : Evse) → IsEvseFor l uid e → (j : ℕ) × IsEvseAt locations (at, j) e
    position_of uid e is = let p = place l.evses e is.listed in (p.0, record { location = l; stands = stands; within = p.1 })

    -- a location without a first EVSE has none
    pub no_first : ((e : Evse) → IsEvseAt locations (at, 0) e → ⊥) → (uid : Option (List ℕ)) (e : Evse) → IsEvseFor l uid e → ⊥
    no_first none uid e is = go l.evses (place l.evses e is.listed) (λ f first. none f (record { location = l; stands = stands; within = first }))
      where
        go : (es : List Evse) → (i : ℕ) × (slice_get es i ≡ Some e) → ((f : Evse) → slice_get es 0 ≡ Some f → ⊥) → ⊥
        go es h first = elim es as (λ (es : List Evse). slice_get es h.0 ≡ Some e → ((f : Evse) → slice_get es 0 ≡ Some f → ⊥) → ⊥) [
          | [] ↦ λ at first. cc
          | f ∷ fs ↦ λ at first. first f refl
        ] h.1 first

    -- where no two EVSEs have one uid, that of a uid is the first of what has it
    pub first_named : OneEvseEach locations → (uid : List ℕ) (P : Evse → Type 0) (e : Evse) → ((f : Evse) → P f → IsNamed (Some uid) f.uid) → IsEvseFor l (Some uid) e → IsFirst l P e
    first_named one uid P e names is =
        let p = place l.evses e is.listed in
        record {
          place = p.0;
          stands = p.1;
          none_before = λ i f less here passes.
              let same : (at, i) ≡ (at, p.0) = one (key uid) (at, i) (at, p.0) (record { evse = f; at = record { location = l; stands = stands; within = here }; same = names f passes })
              (record { evse = e; at = record { location = l; stands = stands; within = p.1 }; same = is.named }) in
              let equal : i ≡ p.0 = ap (λ (q : Position). q.1) same in
              absurd (omega arith);
        }

    module _ (flags : List (List Bool)) (test : List ℕ → Bool) (m : Marks locations flags test) where
      -- an EVSE at a position whose flag is set passes the test
      pub marked_there : (j : ℕ) (e : Evse) → IsFlag flags (at, j) true → IsEvseAt locations (at, j) e → IsTrue (test (key e.uid))
      marked_there j e is there =
          let right = m.right (key e.uid) (at, j) (record { evse = e; at = there; same = refl }) in
          sym (one_flag flags (at, j) true (test (key e.uid)) is right)

      -- and stands there
      pub marked_stands : (j : ℕ) → IsFlag flags (at, j) true → ((e : Evse) → IsEvseAt locations (at, j) e → ⊥) → ⊥
      marked_stands j is none = let was = m.no_others (at, j) is in none was.1.evse was.1.at

      -- where no flag of the location is set, none of its EVSEs passes
      pub none_marked : ((j : ℕ) → IsFlag flags (at, j) true → ⊥) → (e : Evse) → IsEvseFor l None e → IsTrue (test (key e.uid)) → ⊥
      none_marked none e is passes =
          let p = position_of None e is in
          none p.0 (subst (IsFlag flags (at, p.0)) passes (m.right (key e.uid) (at, p.0) (record { evse = e; at = p.1; same = refl })))

      -- the EVSE of the first flag that is set is the first that passes
      pub first_marked : (j : ℕ) (e : Evse) → ((i : ℕ) → i < j → IsFlag flags (at, i) true → ⊥) → IsEvseAt locations (at, j) e → IsFirst l (λ f. IsTrue (test (key f.uid))) e
      first_marked j e first there = record {
        place = j;
        stands = ap (λ (x : Location). slice_get x.evses j) (same_Some l there.location (sym stands ∙ there.stands)) ∙ there.within;
        none_before = λ i f less here passes.
            let at_i : IsEvseAt locations (at, i) f = record { location = l; stands = stands; within = here } in
            first i less (subst (IsFlag flags (at, i)) passes (m.right (key f.uid) (at, i) (record { evse = f; at = at_i; same = refl })));
      }

  module _ (index : FinMap text_cmp Position) (claim_rooms service_rooms : OutOfService) (h : FindsEvses locations (λ p. Unit {0}) index claim_rooms service_rooms) where
    -- whether the EVSE of a key is of the site
    pub known_evse : (uid : List ℕ) → IsEvse locations uid → IsTrue (contains_key index uid)
    known_evse uid e = let has = standing uid e in h.complete uid has.0 tt has.1

    pub unknown_evse : (uid : List ℕ) → get index uid ≡ None → IsEvse locations uid → ⊥
    unknown_evse uid none e =
        let there : IsTrue (is_some (get index uid)) = known_evse uid e in
        let absent : is_some (get index uid) ≡ false = ap is_some none in
        cc

    pub evse_known : (uid : List ℕ) → IsTrue (contains_key index uid) → IsEvse locations uid
    evse_known uid known = go (get index uid) refl
      where
        go : (o : Option Position) → get index uid ≡ o → IsEvse locations uid
        go None e = let absent : is_some (get index uid) ≡ false = ap is_some e in absurd (cc)
        go (Some p) e = of_site p uid (h.sound uid p e)

    -- what the index finds stands there
    pub found_there : (uid : List ℕ) (r : Option Position) → r ≡ get index uid → IfSome r (λ p. HasEvse locations p uid)
    found_there uid None is = tt
    found_there uid (Some p) is = h.sound uid p (sym is)

    -- and what it does not find is not of the site
    pub none_there : (uid : List ℕ) (r : Option Position) → r ≡ get index uid → IfNone r (IsEvse locations uid → ⊥)
    none_there uid None is = unknown_evse uid (sym is)
    none_there uid (Some p) is = tt

  -- the EVSE of a key that stands at a position
  module _ (uid : List ℕ) (p : Position) (has : HasEvse locations p uid) where
    pub no_evse_there : ((e : Evse) → IsEvseAt locations p e → ⊥) → ⊥
    no_evse_there none = none has.evse has.at

    -- it has the uid
    pub its_uid : (e : Evse) → IsEvseAt locations p e → key e.uid ≡ uid
    its_uid e there = ap (λ (x : Evse). key x.uid) (one_evse locations p e has.evse there has.at) ∙ has.same

    module _ (l : Location) (stands : slice_get locations p.0 ≡ Some l) (e : Evse) (there : IsEvseAt locations p e) where
      -- and is of the location that stands at the first part
      pub found_of : IsEvseOf locations uid l e
      found_of = record { listed = contained locations p.0 l stands; within = of_location p.0 l stands p.1 e there; same = its_uid e there }

      -- and no other EVSE is
      pub sole_of : OneEvseEach locations → (m : Location) (f : Evse) → IsEvseOf locations uid m f → (m ≡ l) × (f ≡ e)
      sole_of one m f of =
          let i = place locations m of.listed in
          let j = place m.evses f of.within in
          let at : IsEvseAt locations (i.0, j.0) f = record { location = m; stands = i.1; within = j.1 } in
          let same : p ≡ (i.0, j.0) = one uid p (i.0, j.0) has (record { evse = f; at = at; same = of.same }) in (
            same_Some m l (sym i.1 ∙ ap (λ (q : Position). slice_get locations q.0) (sym same) ∙ stands),
            one_evse locations p f e (subst (λ z. IsEvseAt locations z f) (sym same) at) there,
          )

  -- the EVSE of a uid, if it is one of the location
  module _ (at : ℕ) (l : Location) (stands : slice_get locations at ≡ Some l) (uid : List ℕ) where
    pub is_of_site : (e : Evse) → IsEvseFor l (Some uid) e → IsEvse locations (key uid)
    is_of_site e is = record { location = l; evse = e; listed = contained locations at l stands; within = is.listed; same = is.named }

    module _ (p : Position) (has : HasEvse locations p (key uid)) where
      same_position : OneEvseEach locations → (e : Evse) → IsEvseFor l (Some uid) e → (j : ℕ) × IsEvseAt locations (at, j) e × (p ≡ (at, j))
      same_position one e is =
          let q = position_of at l stands (Some uid) e is in
          (q.0, q.1, one (key uid) p (at, q.0) has (record { evse = e; at = q.1; same = is.named }))

      pub other_location : OneEvseEach locations → p.0 ≢ at → (e : Evse) → IsEvseFor l (Some uid) e → ⊥
      other_location one other e is = let q = same_position one e is in other (ap (λ (x : Position). x.0) q.2)

      pub found_uid : p.0 ≡ at → (e : Evse) → IsEvseAt locations p e → IsEvseFor l (Some uid) e
      found_uid same e there = record {
        listed = of_location p.0 l (ap (slice_get locations) same ∙ stands) p.1 e there;
        named = its_uid (key uid) p has e there;
      }

      pub sole_uid : OneEvseEach locations → (e : Evse) → IsEvseAt locations p e → (f : Evse) → IsEvseFor l (Some uid) f → f ≡ e
      sole_uid one e there f is =
          let q = same_position one f is in
          one_evse locations p f e (subst (λ z. IsEvseAt locations z f) (sym q.2) q.1) there

      -- one of the location passes a test where the test passes its uid
      pub passes_there : p.0 ≡ at → (b : Bool) (test : List ℕ → Bool) → b ≡ test (key uid) → IsTrue b ↔ ((e : Evse) × IsEvseFor l (Some uid) e × IsTrue (test (key e.uid)))
      passes_there same b test is = (
        λ yes. (has.evse, found_uid same has.evse has.at, ap test has.same ∙ sym is ∙ yes),
        λ x. is ∙ ap test (sym x.1.named) ∙ x.2,
      )
