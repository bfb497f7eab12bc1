-- The rows of a command book as a list, and the command book of a list.
use Rattle.std.proofs.Common.{◌≡◌, ◌≢◌, ◌↔◌, List, [], ◌∷◌, ◌++◌, map, ◌⊎◌, inl, inr, sym, ap, subst, ◌∙◌}
use Rattle.std.specs.Prelude.{Contains}
use Rattle.std.specs.List.{AllPairs}
use Rattle.std.proofs.lemmas.List.{append_assoc}
use Rattle.std.proofs.lemmas.List.Elements.{Contains-append_left, Contains-append_right, Contains-append_cases}
use Rattle.tables.proofs.Elements.{in_none, in_single, in_front, of_map, first_pairs, later_pairs, joined}
use Rattle.tables.proofs.Listings.{each_there, found_there, listed_apart}
use Rattle.ocpi_types.specs.Rows.{key_of}
use Rattle.ocpi_types.specs.declared.rows.Row.{Row}
use Rattle.ocpi_types.specs.declared.rows.Row.TheVariants as row
use Rattle.command_book.specs.Stored.{Rows, no_rows, HasRow, put_row}
use Rattle.command_book.specs.Listing.{AreKindByKind, AreRowsOf, put_rows, reply_row, pending_row, result_row}
use Rattle.command_book.proofs.RowChanges.{IsKept, is_kept, no_row, same_rows, same_key, other_key, put_stands, put_alone}

abbrev Apart : Row → Row → Type 0
Apart a b = key_of a ≢ key_of b

-- rows kind by kind are those that stand, each once
pub rows_are : (list : List Row) (s : Rows) → AreKindByKind list s → AreRowsOf list s
rows_are list s k = subst (λ l. AreRowsOf l s) (sym k.joined) (record { exact = λ r. (stand r, stands r); apart = differ })
  where
    replies : List Row
    replies = map reply_row k.replies

    pending : List Row
    pending = map pending_row k.pending

    results : List Row
    results = map result_row k.results

    stand : (r : Row) → Contains (replies ++ pending ++ results) r → HasRow s r
    stand r h = elim (Contains-append_cases (replies ++ pending) results r h) [
      | inl i ↦ elim (Contains-append_cases replies pending r i) [
        | inl j ↦ each_there reply_row s.replies k.replies k.list_replies (HasRow s) (λ q x e. e) r j
        | inr j ↦ each_there pending_row s.pending k.pending k.list_pending (HasRow s) (λ q x e. e) r j
      ]
      | inr i ↦ each_there result_row s.results k.results k.list_results (HasRow s) (λ q x e. e) r i
    ]

    stands : (r : Row) → HasRow s r → Contains (replies ++ pending ++ results) r
    stands (row.Reply p n b) h = Contains-append_left (replies ++ pending) results _ (Contains-append_left replies pending _ (found_there reply_row s.replies k.replies k.list_replies (p, n) b h))
    stands (row.Pending p n b) h = Contains-append_left (replies ++ pending) results _ (Contains-append_right replies pending _ (found_there pending_row s.pending k.pending k.list_pending (p, n) b h))
    stands (row.Result p n b) h = Contains-append_right (replies ++ pending) results _ (found_there result_row s.results k.results k.list_results (p, n) b h)
    stands other h = absurd h

    first_two : (x y : Row) → Contains replies x → Contains pending y → Apart x y
    first_two x y i j =
        let a = of_map reply_row k.replies x i in
        let b = of_map pending_row k.pending y j in
        subst (λ z. Apart z y) a.2 (subst (λ z. Apart (reply_row a.0) z) b.2 (λ e. absurd (cc)))

    last : (x y : Row) → Contains (replies ++ pending) x → Contains results y → Apart x y
    last x y i j =
        let b = of_map result_row k.results y j in
        subst (λ z. Apart x z) b.2 (elim (Contains-append_cases replies pending x i) [
          | inl j ↦ let a = of_map reply_row k.replies x j in subst (λ z. Apart z (result_row b.0)) a.2 (λ e. absurd (cc))
          | inr j ↦ let a = of_map pending_row k.pending x j in subst (λ z. Apart z (result_row b.0)) a.2 (λ e. absurd (cc))
        ])

    differ : AllPairs Apart (replies ++ pending ++ results)
    differ =
        joined Apart (replies ++ pending) results
        (joined Apart replies pending
        (listed_apart reply_row s.replies k.replies k.list_replies Apart (λ a b _ _ apart e. apart (let p : a.0.0 ≡ b.0.0 = cc in let n : a.0.1 ≡ b.0.1 = cc in λ i. (p i, n i))))
        (listed_apart pending_row s.pending k.pending k.list_pending Apart (λ a b _ _ apart e. apart (let p : a.0.0 ≡ b.0.0 = cc in let n : a.0.1 ≡ b.0.1 = cc in λ i. (p i, n i)))) first_two)
        (listed_apart result_row s.results k.results k.list_results Apart (λ a b _ _ apart e. apart (let p : a.0.0 ≡ b.0.0 = cc in let n : a.0.1 ≡ b.0.1 = cc in λ i. (p i, n i)))) last

-- no row of the list has the key of one that stands
abbrev AreNew : List Row → Rows → Type 0
AreNew list t = (a r : Row) → Contains list a → HasRow t r → key_of r ≢ key_of a

-- a new row is put
put_new : (x : Row) (t : Rows) → IsKept x → ((r : Row) → HasRow t r → key_of r ≢ key_of x) → (r : Row) → HasRow (put_row x t) r ↔ ((r ≡ x) ⊎ HasRow t r)
put_new x t kept new r = (
  λ h. elim (same_key x r kept) [
    | inl same ↦ inl (put_alone x t r kept same h)
    | inr apart ↦ inr ((other_key x t r apart).0 h)
  ],
  λ y. elim y [
    | inl e ↦ subst (HasRow (put_row x t)) (sym e) (put_stands x t kept)
    | inr h ↦ (other_key x t r (new r h)).1 h
  ],
)

-- the rows that stand after a list of new rows is put
put_all : (list : List Row) (t : Rows) → ((a : Row) → Contains list a → IsKept a) → AllPairs Apart list → AreNew list t → (r : Row) → HasRow (put_rows list t) r ↔ (Contains list r ⊎ HasRow t r)
put_all [] t kept apart new r = (λ h. inr h, λ y. elim y [ inl i ↦ absurd (in_none r i) | inr h ↦ h ])
put_all (x ∷ xs) t kept apart new r =
    let one = put_new x t (kept x (in_front x xs)) (λ q h. new x q (in_front x xs) h) in
    let rest = put_all xs (put_row x t) (λ a i. kept a (Contains-append_right (x ∷ []) xs a i)) (later_pairs Apart x xs apart) later in (
      λ h. elim ((rest r).0 h) [
        | inl i ↦ inl (Contains-append_right (x ∷ []) xs r i)
        | inr g ↦ elim ((one r).0 g) [ inl e ↦ inl (subst (Contains (x ∷ xs)) (sym e) (in_front x xs)) | inr k ↦ inr k ]
      ],
      λ y. elim y [
        | inl i ↦ elim (Contains-append_cases (x ∷ []) xs r i) [ inl j ↦ (rest r).1 (inr ((one r).1 (inl (sym (in_single x r j))))) | inr j ↦ (rest r).1 (inl j) ]
        | inr k ↦ (rest r).1 (inr ((one r).1 (inr k)))
      ],
    )
  where
    earlier : (a : Row) → Contains xs a → key_of x ≢ key_of a
    earlier a i = subst (λ z. Apart x z) i.2 (first_pairs Apart x xs apart i.0 a i.1)

    later : AreNew xs (put_row x t)
    later a q i h = elim ((put_new x t (kept x (in_front x xs)) (λ q h. new x q (in_front x xs) h) q).0 h) [
      | inl e ↦ subst (λ z. key_of z ≢ key_of a) (sym e) (earlier a i)
      | inr g ↦ new a q (Contains-append_right (x ∷ []) xs a i) g
    ]

-- the rows of a command book, put one after the other, give its rows
pub put_rows_of : (list : List Row) (s : Rows) → AreRowsOf list s → put_rows list no_rows ≡ s
put_rows_of list s h = same_rows (put_rows list no_rows) s (λ r. (
  λ g. elim ((all r).0 g) [ inl i ↦ (h.exact r).0 i | inr none ↦ absurd (no_row r none) ],
  λ g. (all r).1 (inl ((h.exact r).1 g)),
))
  where
    all : (r : Row) → HasRow (put_rows list no_rows) r ↔ (Contains list r ⊎ HasRow no_rows r)
    all = put_all list no_rows (λ a i. is_kept s a ((h.exact a).0 i)) h.apart (λ a r i none. absurd (no_row r none))

-- three lists are added one after the other
pub added_up : (before first second after a b c : List Row) → first ≡ before ++ a → second ≡ first ++ b → after ≡ second ++ c → after ≡ before ++ (a ++ b ++ c)
added_up before first second after a b c x y z = z ∙ ap (λ l. l ++ c) (y ∙ ap (λ l. l ++ b) x ∙ append_assoc before a b) ∙ append_assoc before (a ++ b) c
