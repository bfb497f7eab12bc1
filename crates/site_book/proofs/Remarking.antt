-- The indexes of a site are right again once the flags of an EVSE are set anew.
use Rattle.std.proofs.Common.{◌≡◌, ◌≢◌, ℕ, ◌&&◌, Bool, true, false, ◌⊎◌, inl, inr, List, refl, sym, ap, subst, ◌∙◌}
use Rattle.std.specs.Prelude.{Option, Some, None, IsTrue, is_some, not}
use Rattle.std.specs.Ordering.{eq_by_cmp}
use Rattle.std.specs.Cmp.{eq_by_cmp_equiv}
use Rattle.std.specs.FinMap.{FinMap, get, insert, remove, contains_key, same_map}
use Rattle.ocpi_types.specs.declared.site.Location.{Location}
use Rattle.tables.specs.Keys.{text_cmp, text_total, text_exact}
use Rattle.tables.specs.Tables.{shown_of}
use Rattle.tables.proofs.Maps.{equal_of_is_eq, get-insert_other, get-remove_other, get-remove_same}
use Rattle.site_book.specs.declared.claim.Claim.{Claim}
use Rattle.site_book.specs.declared.indexes.Indexes.{Indexes}
use Rattle.site_book.specs.Indexes.{AreIndexes, HasFlags, Remarks}
use Rattle.site_book.specs.Sites.{OutOfService, works, is_free, with_service}
use Rattle.site_book.specs.Positions.{Position, HasEvse, OneEvseEach, IsFlag}
use Rattle.site_book.proofs.Marking.{marks_set, one_flag}

told : (q k : List ℕ) → (q ≡ k) ⊎ (q ≢ k)
told q k = elim (eq_by_cmp text_cmp q k) as (λ b. eq_by_cmp text_cmp q k ≡ b → (q ≡ k) ⊎ (q ≢ k)) [
  | true ↦ λ e. inl (text_exact q k (equal_of_is_eq (text_cmp q k) e))
  | false ↦ λ e. inr (λ same. let t : eq_by_cmp text_cmp q k ≡ true = subst (λ z. eq_by_cmp text_cmp q z ≡ true) same ((eq_by_cmp_equiv text_total).refl q) in cc)
] refl

-- whether another key is there
pub inserted_other : {X : Type 0} (m : FinMap text_cmp X) (k : List ℕ) (v : X) (q : List ℕ) → q ≢ k → contains_key (insert m k v) q ≡ contains_key m q
inserted_other m k v q apart = ap is_some (get-insert_other text_total text_exact m k v q apart)

pub removed_other : {X : Type 0} (m : FinMap text_cmp X) (k q : List ℕ) → q ≢ k → contains_key (remove m k) q ≡ contains_key m q
removed_other m k q apart = ap is_some (get-remove_other text_total text_exact m k q apart)

pub serviced_other : (in_service : Bool) (out : OutOfService) (k q : List ℕ) → q ≢ k → contains_key (with_service in_service k out) q ≡ contains_key out q
serviced_other true out k q apart = removed_other out k q apart
serviced_other false out k q apart = inserted_other out k tt q apart

-- taking away what is not there changes nothing
removed_absent : {X : Type 0} (m : FinMap text_cmp X) (k : List ℕ) → get m k ≡ None → remove m k ≡ m
removed_absent m k none = same_map text_total text_exact _ _ (λ q. elim (told q k) [
  | inl same ↦ ap (get (remove m k)) same ∙ get-remove_same text_total text_exact m k ∙ sym none ∙ ap (get m) (sym same)
  | inr apart ↦ get-remove_other text_total text_exact m k q apart
])

-- an EVSE that is not of the site has no claim to take away
pub unknown_unclaimed : (locations : List Location) (t : Indexes) → AreIndexes locations t → (uid : List ℕ) → get (shown_of text_cmp t.evses) uid ≡ None →
    shown_of text_cmp t.claims ≡ remove (shown_of text_cmp t.claims) uid
unknown_unclaimed locations t are uid none = sym (removed_absent (shown_of text_cmp t.claims) uid (go (get (shown_of text_cmp t.claims) uid) refl))
  where
    go : (o : Option Claim) → get (shown_of text_cmp t.claims) uid ≡ o → o ≡ None
    go None e = refl
    go (Some c) e =
        let has = are.claims_there uid (ap is_some e) in
        let there : IsTrue (is_some (get (shown_of text_cmp t.evses) uid)) = are.evses_found.complete uid has.0 tt has.1 in
        let absent : is_some (get (shown_of text_cmp t.evses) uid) ≡ false = ap is_some none in
        absurd (cc)

module _ (locations : List Location) (one : OneEvseEach locations) (t : Indexes) (are : AreIndexes locations t) (uid : List ℕ) (p : Position) (here : HasEvse locations p uid) where
  -- both flags of an EVSE stand
  pub flags_stand : HasFlags p t
  flags_stand = record {
    working = (works (shown_of text_cmp t.out_of_service) uid, are.working.right uid p here);
    free = (is_free (shown_of text_cmp t.claims) (shown_of text_cmp t.out_of_service) uid, are.free.right uid p here);
  }

  -- and say what its claim and its service say
  pub works_there : (b : Bool) → IsFlag t.working.items p b → b ≡ works (shown_of text_cmp t.out_of_service) uid
  works_there b is = one_flag t.working.items p b _ is (are.working.right uid p here)

  pub free_there : (b : Bool) → IsFlag t.free.items p b → b ≡ is_free (shown_of text_cmp t.claims) (shown_of text_cmp t.out_of_service) uid
  free_there b is = one_flag t.free.items p b _ is (are.free.right uid p here)

  pub remarked : (u : Indexes) → Remarks uid p t u → ((q : List ℕ) → q ≢ uid → contains_key (shown_of text_cmp u.claims) q ≡ contains_key (shown_of text_cmp t.claims) q) →
      ((q : List ℕ) → q ≢ uid → contains_key (shown_of text_cmp u.out_of_service) q ≡ contains_key (shown_of text_cmp t.out_of_service) q) → AreIndexes locations u
  remarked u r claims service = record {
    ids = rw r.ids_stay are.ids;
    evses_found = rw (r.evses_stay, r.claim_rooms_stay, r.service_rooms_stay) are.evses_found;
    claims_there = λ q has. elim (told q uid) [
      | inl same ↦ (p, subst (HasEvse locations p) (sym same) here)
      | inr apart ↦ are.claims_there q (sym (claims q apart) ∙ has)
    ];
    working = rw r.working (marks_set locations t.working.items (works (shown_of text_cmp t.out_of_service)) (works (shown_of text_cmp u.out_of_service)) are.working p uid one here (λ q apart. ap not (service q apart)));
    free = rw r.free
        (marks_set locations t.free.items (is_free (shown_of text_cmp t.claims) (shown_of text_cmp t.out_of_service)) (is_free (shown_of text_cmp u.claims) (shown_of text_cmp u.out_of_service)) are.free p uid one here
        (λ q apart i. not (claims q apart i) && not (service q apart i)));
  }
