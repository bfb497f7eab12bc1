-- The edits of a store of layout 1 move its texts to layout 2.
use Rattle.std.proofs.Common.{◌≡◌, ◌≢◌, ◌⊎◌, inl, inr, ℕ, ◌+◌, ◌<◌, Bool, true, false, cond, List, [], ◌∷◌, ◌++◌, get_or, length, take, All, IfErr, OnOk, Option, Some, None, Result, Ok, Err, refl, sym, ap, subst, ◌∙◌}
use Rattle.std.specs.Prelude.{flat_map}
use Rattle.std.specs.FinMap.{entries, find, get, get-entries, get-insert}
use Rattle.std.specs.Ordering.{eq_by_cmp}
use Rattle.std.proofs.lemmas.List.{append-nil, take_more}
use Rattle.std.proofs.lemmas.Grind.{flat_map-append}
use Rattle.std.proofs.lemmas.List.Elements.{All-head, All-tail, Contains-get_or}
use Rattle.tables.specs.Keys.{text_pair_cmp, text_pair_total, text_pair_exact}
use Rattle.tables.proofs.Entries.{listed_only}
use Rattle.json_text.specs.Fault.{Read}
use Rattle.ocpi_types.specs.Rows.{key_of}
use Rattle.ocpi_types.specs.declared.rows.Row.{Row}
use Rattle.ocpi_json.specs.RowForms.{row_in, row_in_1, row_text}
use Rattle.row_table.specs.Contents.{at_version}
use Rattle.row_table.specs.Contents as table
use Rattle.row_table.specs.Effects.{Edit, set_all}
use Rattle.node_store.specs.Contents.{AnswersRow, Content, RowPlace, after_row, is_row, line_place, place_of}
use Rattle.node_store.specs.Moved.{HasBadText, IsMoved, IsMovedTo, MovesTo, is_cdr, moved_text}
use Rattle.node_store.specs.Moving.{Entry, HasBadEntry, IsBadEntry, IsMovable, MayMove, edits_of_read, text_edits}
use Rattle.node_store.specs.Numbers.{is_line_place}
use Rattle.node_store.specs.declared.fault.StoreFault.{StoreFault}
use Rattle.node_store.specs.declared.fault.StoreFault.TheVariants.{Refused, BadRow, OldLayout, Memory}
use Rattle.ocpi_json.proofs.RowLemmas.{row_found_1}
use Rattle.node_store.proofs.Alike.{row_alike}
use Rattle.node_store.proofs.Edited.{set_more}
use Rattle.node_store.proofs.Numbered.{at_line, no_row_place, not_line, one_place, same_place}

-- ---- one text

written_or_same : (p : RowPlace) (t : List ℕ) (r : Row) (b : Bool) → is_cdr r ≡ b → place_of (key_of r) ≡ p → row_in_1 p.0 p.1 t ≡ Ok r → (is_cdr r ≡ true → row_in p.0 p.1 (row_text r) ≡ Ok r) → row_in p.0 p.1 (cond b (row_text r) t) ≡ Ok r
written_or_same p t r true kind at was again = again kind
written_or_same p t r false kind at was again = row_alike p t r kind at was

-- a row that was read at its own place
pub movable : (e : Entry) (kind name text : List ℕ) (r : Row) → kind ≡ e.0.0 → name ≡ e.0.1 → text ≡ e.1 → row_in_1 kind name text ≡ Ok r → place_of (key_of r) ≡ (kind, name)
    → (is_cdr r ≡ true → row_in (place_of (key_of r)).0 (place_of (key_of r)).1 (row_text r) ≡ Ok r) → IsMovable e
movable e kind name text r k n t was at again =
    let own : place_of (key_of r) ≡ e.0 = at ∙ (λ i. (k i, n i)) in
    let read : row_in_1 e.0.0 e.0.1 e.1 ≡ Ok r = sym (λ i. row_in_1 (k i) (n i) (t i)) ∙ was in
    record { row = r; was = read; is = written_or_same e.0 e.1 r (is_cdr r) refl own read (λ cdr. subst (λ (p : RowPlace). row_in p.0 p.1 (row_text r) ≡ Ok r) own (again cdr)) }

no_row : (read : Read Row) → after_row read Some ≡ None → is_row read ≡ false
no_row (Ok r) none = absurd (let h = none in cc)
no_row (Err fault) none = refl

pub told_bad : (result : Result Row StoreFault) (read : Read Row) → AnswersRow result read → IfErr result (λ e. e ≡ BadRow → is_row read ≡ false)
told_bad (Ok r) read told = tt
told_bad (Err (Refused cause)) read told = absurd told
told_bad (Err BadRow) read told = λ _. no_row read told
told_bad (Err OldLayout) read told = absurd told
told_bad (Err Memory) read told = λ is. absurd (let h = is in cc)

-- ---- texts in turn

-- the edits of one text more
pub one_more : (es : List Entry) (i : ℕ) (e : Entry) (front more : List Edit) → i < length es → e ≡ get_or es i e → more ≡ front ++ text_edits e → front ≡ flat_map text_edits (take i es) → more ≡ flat_map text_edits (take (i + 1) es)
one_more es i e front more lt is made so_far =
    made ∙ ap (λ (f : List Edit). f ++ text_edits e) so_far
    ∙ sym (ap (flat_map text_edits) (take_more es i e lt) ∙ flat_map-append text_edits (take i es) (get_or es i e ∷ []) ∙ ap (λ (x : Entry). flat_map text_edits (take i es) ++ flat_map text_edits (x ∷ [])) (sym is) ∙ ap (λ (l : List Edit). flat_map text_edits (take i es) ++ l) (no_more (text_edits e)))
  where
    no_more : (l : List Edit) → l ++ [] ≡ l
    no_more [] = refl
    no_more (x ∷ xs) = ap (λ (l : List Edit). x ∷ l) (no_more xs)

-- what stands elsewhere stays
put_apart : (b : Bool) (p k : RowPlace) (v : List ℕ) (d : Content) → eq_by_cmp text_pair_cmp p k ≡ false → get (set_all d (cond b ((k, Some v) ∷ []) [])) p ≡ get d p
put_apart true p k v d apart = get-insert text_pair_total d k v p ∙ ap (λ (b : Bool). cond b (Some v) (get d p)) apart
put_apart false p k v d apart = refl

left_alone : (read : Read Row) (p k : RowPlace) (d : Content) → eq_by_cmp text_pair_cmp p k ≡ false → get (set_all d (edits_of_read k read)) p ≡ get d p
left_alone (Ok r) p k d apart = put_apart (is_cdr r) p k (row_text r) d apart
left_alone (Err fault) p k d apart = refl

not_here : (b : Bool) (t : List ℕ) (rest o : Option (List ℕ)) → b ≡ false → cond b (Some t) rest ≡ o → rest ≡ o
not_here true t rest o apart e = absurd (let h = apart in cc)
not_here false t rest o apart e = e

here : (b : Bool) (t u : List ℕ) (rest : Option (List ℕ)) → b ≡ true → cond b (Some t) rest ≡ Some u → t ≡ u
here true t u rest tied e = cc
here false t u rest tied e = absurd (let h = tied in cc)

never_none : (b : Bool) (t : List ℕ) (rest : Option (List ℕ)) → b ≡ true → cond b (Some t) rest ≡ None → ⊥
never_none true t rest tied e = absurd (let h = e in cc)
never_none false t rest tied e = absurd (let h = tied in cc)

-- where no text stands none is put
absent : (p : RowPlace) (es : List Entry) (d : Content) → find text_pair_cmp p es ≡ None → get (set_all d (flat_map text_edits es)) p ≡ get d p
absent p [] d none = refl
absent p (e ∷ es) d none =
    ap (λ (c : Content). get c p) (set_more d (text_edits e) (flat_map text_edits es)) ∙ by_place (eq_by_cmp text_pair_cmp p e.0) refl (absent p es (set_all d (text_edits e)))
  where
    by_place : (b : Bool) → eq_by_cmp text_pair_cmp p e.0 ≡ b → (find text_pair_cmp p es ≡ None → get (set_all (set_all d (text_edits e)) (flat_map text_edits es)) p ≡ get (set_all d (text_edits e)) p)
        → get (set_all (set_all d (text_edits e)) (flat_map text_edits es)) p ≡ get d p
    by_place true tied rest = absurd (never_none _ e.1 _ tied none)
    by_place false apart rest = rest (not_here _ e.1 _ None apart none) ∙ left_alone (row_in_1 e.0.0 e.0.1 e.1) p e.0 d apart

module _ (p : RowPlace) (t : List ℕ) (r : Row) (was : row_in_1 p.0 p.1 t ≡ Ok r) where
  put_own : (b : Bool) (v : List ℕ) (d : Content) → (get d p ≡ Some t) ⊎ (get d p ≡ Some (cond b v t)) → get (set_all d (cond b ((p, Some v) ∷ []) [])) p ≡ Some (cond b v t)
  put_own true v d had = get-insert text_pair_total d p v p ∙ ap (λ (b : Bool). cond b (Some v) (get d p)) (same_place p)
  put_own false v d (inl had) = had
  put_own false v d (inr had) = had

  own_text : (e : Entry) (d : Content) → e ≡ (p, t) → (get d p ≡ Some t) ⊎ (get d p ≡ Some (moved_text r t)) → get (set_all d (text_edits e)) p ≡ Some (moved_text r t)
  own_text e d is had = ap (λ (es : List Edit). get (set_all d es) p) (ap text_edits is ∙ ap (edits_of_read p) was) ∙ put_own (is_cdr r) (row_text r) d had

  abbrev IsOwn : Entry → Type 0
  IsOwn e = e.0 ≡ p → e.1 ≡ t

  the_entry : (e : Entry) → IsOwn e → eq_by_cmp text_pair_cmp p e.0 ≡ true → e ≡ (p, t)
  the_entry e own tied =
      let place = sym (one_place p e.0 tied) in
      let text = own place in
      λ i. (place i, text i)

  stays : (es : List Entry) (d : Content) → All IsOwn es → get d p ≡ Some (moved_text r t) → get (set_all d (flat_map text_edits es)) p ≡ Some (moved_text r t)
  stays [] d own had = had
  stays (e ∷ es) d own had =
      ap (λ (c : Content). get c p) (set_more d (text_edits e) (flat_map text_edits es)) ∙ stays es (set_all d (text_edits e)) (All-tail IsOwn e es own) (by_place (eq_by_cmp text_pair_cmp p e.0) refl)
    where
      by_place : (b : Bool) → eq_by_cmp text_pair_cmp p e.0 ≡ b → get (set_all d (text_edits e)) p ≡ Some (moved_text r t)
      by_place true tied = own_text e d (the_entry e (All-head IsOwn e es own) tied) (inr had)
      by_place false apart = left_alone (row_in_1 e.0.0 e.0.1 e.1) p e.0 d apart ∙ had

  becomes : (es : List Entry) (d : Content) → All IsOwn es → find text_pair_cmp p es ≡ Some t → get d p ≡ Some t → get (set_all d (flat_map text_edits es)) p ≡ Some (moved_text r t)
  becomes [] d own found had = absurd (let h = found in cc)
  becomes (e ∷ es) d own found had =
      ap (λ (c : Content). get c p) (set_more d (text_edits e) (flat_map text_edits es))
      ∙ by_place (eq_by_cmp text_pair_cmp p e.0) refl (becomes es (set_all d (text_edits e)) (All-tail IsOwn e es own))
    where
      by_place : (b : Bool) → eq_by_cmp text_pair_cmp p e.0 ≡ b
          → (find text_pair_cmp p es ≡ Some t → get (set_all d (text_edits e)) p ≡ Some t → get (set_all (set_all d (text_edits e)) (flat_map text_edits es)) p ≡ Some (moved_text r t))
          → get (set_all (set_all d (text_edits e)) (flat_map text_edits es)) p ≡ Some (moved_text r t)
      by_place true tied rest = stays es (set_all d (text_edits e)) (All-tail IsOwn e es own) (own_text e d (the_entry e (All-head IsOwn e es own) tied) (inl had))
      by_place false apart rest = rest (not_here _ e.1 _ (Some t) apart found) (left_alone (row_in_1 e.0.0 e.0.1 e.1) p e.0 d apart ∙ had)

-- ---- all texts

found_movable : (p : RowPlace) (t : List ℕ) (es : List Entry) → p ≢ line_place → All MayMove es → find text_pair_cmp p es ≡ Some t → IsMovable (p, t)
found_movable p t [] other each found = absurd (let h = found in cc)
found_movable p t (e ∷ es) other each found = by_place (eq_by_cmp text_pair_cmp p e.0) refl (found_movable p t es other (All-tail MayMove e es each))
  where
    by_place : (b : Bool) → eq_by_cmp text_pair_cmp p e.0 ≡ b → (find text_pair_cmp p es ≡ Some t → IsMovable (p, t)) → IsMovable (p, t)
    by_place true tied rest =
        let place = sym (one_place p e.0 tied) in
        let text = here _ e.1 t _ tied found in
        subst IsMovable (λ i. (place i, text i)) (All-head MayMove e es each (λ at. other (sym place ∙ at)))
    by_place false apart rest = rest (not_here _ e.1 _ (Some t) apart found)

same_text : (a b : List ℕ) → Some a ≡ Some b → a ≡ b
same_text a b e = cc

-- no row stands at the place of the number
pub no_edits : (e : Entry) → e.0 ≡ line_place → text_edits e ≡ []
no_edits e at = by_read (row_in_1 e.0.0 e.0.1 e.1) refl
  where
    by_read : (read : Read Row) → row_in_1 e.0.0 e.0.1 e.1 ≡ read → edits_of_read e.0 read ≡ []
    by_read (Ok r) was = absurd (let h = row_found_1 e.0.0 e.0.1 e.1 r was in no_row_place (key_of r) ((λ i. (h.kind i, h.key_is i)) ∙ at))
    by_read (Err fault) was = refl

-- what stands at the place of the number is passed over
module _ (e : Entry) (kind name : List ℕ) (k : kind ≡ e.0.0) (n : name ≡ e.0.1) where
  place_is : (kind, name) ≡ e.0
  place_is i = (k i, n i)

  pub passed : is_line_place (kind, name) ≡ true → MayMove e
  passed is other = absurd (other (sym place_is ∙ at_line (kind, name) is))

  pub passed_edits : (front : List Edit) → is_line_place (kind, name) ≡ true → front ≡ front ++ text_edits e
  passed_edits front is = sym (append-nil front) ∙ ap (λ (l : List Edit). front ++ l) (sym (no_edits e (sym place_is ∙ at_line (kind, name) is)))

pub may_move : {X E : Type 0} (r : Result X E) (e : Entry) → OnOk r (IsMovable e) → OnOk r (MayMove e)
may_move (Ok x) e movable = λ other. movable
may_move (Err f) e movable = tt

pub is_bad : {X : Type 0} (r : Result X StoreFault) (e : Entry) (kind name : List ℕ) → kind ≡ e.0.0 → name ≡ e.0.1 → is_line_place (kind, name) ≡ false
    → IfErr r (λ f. f ≡ BadRow → is_row (row_in_1 e.0.0 e.0.1 e.1) ≡ false) → IfErr r (λ f. f ≡ BadRow → IsBadEntry e)
is_bad (Ok x) e kind name k n is told = tt
is_bad (Err f) e kind name k n is told = λ bad. (λ at. not_line (kind, name) is ((λ i. (k i, n i)) ∙ at), told bad)

-- the number stays
line_kept : (es : List Entry) (d : Content) → get (set_all d (flat_map text_edits es)) line_place ≡ get d line_place
line_kept [] d = refl
line_kept (e ∷ es) d =
    ap (λ (c : Content). get c line_place) (set_more d (text_edits e) (flat_map text_edits es)) ∙ line_kept es (set_all d (text_edits e)) ∙ by_place (eq_by_cmp text_pair_cmp line_place e.0) refl
  where
    by_place : (b : Bool) → eq_by_cmp text_pair_cmp line_place e.0 ≡ b → get (set_all d (text_edits e)) line_place ≡ get d line_place
    by_place true tied = ap (λ (l : List Edit). get (set_all d l) line_place) (no_edits e (sym (one_place line_place e.0 tied)))
    by_place false apart = left_alone (row_in_1 e.0.0 e.0.1 e.1) line_place e.0 d apart

moved_rows : (c : Content) → All MayMove (entries c) → (p : RowPlace) → p ≢ line_place → MovesTo p (get c p) (get (set_all c (flat_map text_edits (entries c))) p)
moved_rows c each p other = by_text (get c p) refl
  where
    by_text : (o : Option (List ℕ)) → get c p ≡ o → MovesTo p (get c p) (get (set_all c (flat_map text_edits (entries c))) p)
    by_text None none =
        let still = absent p (entries c) c (sym (get-entries c p) ∙ none) ∙ none in
        subst (λ (o : Option (List ℕ)). MovesTo p o (get (set_all c (flat_map text_edits (entries c))) p)) (sym none) (subst (MovesTo p None) (sym still) tt)
    by_text (Some t) some =
        let found = sym (get-entries c p) ∙ some in
        let it = found_movable p t (entries c) other each found in
        let now = becomes p t it.row it.was (entries c) c
        (λ k d low same.
        let e = get_or (entries c) k d in
        let stands = listed_only text_pair_total text_pair_exact c e.0 e.1 (Contains-get_or (entries c) k d low) in
        same_text e.1 t (sym stands ∙ ap (get c) same ∙ some)) found some in
        subst (λ (o : Option (List ℕ)). MovesTo p o (get (set_all c (flat_map text_edits (entries c))) p)) (sym some)
        (subst (MovesTo p (Some t)) (sym now) (record { row = it.row; was = it.was; is = it.is; text = refl }))

pub moved_all : (c : Content) → All MayMove (entries c) → IsMoved c (set_all c (flat_map text_edits (entries c)))
moved_all c each = record { rows = moved_rows c each; line = line_kept (entries c) c }

-- what is to stand in place of what stands
pub moved_by : (old : Content) (new : table.Content) (es : List Entry) (edits : List Edit) → entries old ≡ es → All MayMove es → edits ≡ flat_map text_edits es → new ≡ at_version 2 (set_all old edits) → IsMovedTo old new
moved_by old new es edits same each made is =
    subst (IsMovedTo old) (sym (is ∙ ap (λ (l : List Edit). at_version 2 (set_all old l)) (made ∙ ap (flat_map text_edits) (sym same)))) (refl, moved_all old (subst (All MayMove) (sym same) each))

bad_text : (c : Content) → HasBadEntry (entries c) → HasBadText c
bad_text c h = record {
  place = h.entry.0;
  text = h.entry.1;
  other = h.bad.0;
  stands = subst (λ (e : Entry). get c e.0 ≡ Some e.1) (sym h.is)
      (let e = get_or (entries c) h.at h.entry in listed_only text_pair_total text_pair_exact c e.0 e.1 (Contains-get_or (entries c) h.at h.entry h.within));
  bad = h.bad.1;
}

pub bad_found : (c : Content) (es : List Entry) → entries c ≡ es → HasBadEntry es → HasBadText c
bad_found c es same h = bad_text c (subst HasBadEntry (sym same) h)
