-- Rows that are put one after the other, each under a key of its own: what stands is what was put.
use Rattle.std.proofs.Common.{◌≡◌, ◌≢◌, ◌↔◌, ◌+◌, ◌<◌, ◌≤◌, List, [], ◌∷◌, ◌++◌, length, get_or, ◌⊎◌, inl, inr, refl, sym, ap, subst, ◌∙◌, arith, length-append}
use Rattle.std.specs.Prelude.{Contains}
use Rattle.std.specs.List.{AllPairs}
use Rattle.std.specs.List.Sorted.{IsNonDecreasingBy}
use Rattle.std.proofs.Math.Seq.{get_or-append_seam}
use Rattle.std.proofs.lemmas.Bool.{cases_lt}
use Rattle.std.proofs.lemmas.List.{get_or_append_left}
use Rattle.std.proofs.lemmas.List.Elements.{Contains-append_cases, Contains-append_left, Contains-append_right}
use Rattle.tables.proofs.Elements.{in_none, in_single, in_front, joined, no_pairs}
use Rattle.ocpi_types.specs.Rows.{key_of}
use Rattle.ocpi_types.specs.declared.rows.Row.{Row}
use Rattle.ocpi_types.specs.declared.rows.Change.TheVariants.{Put}
use Rattle.ocpi_types.specs.declared.rows.Row.TheVariants as row
use Rattle.stored_rows.specs.Turns.{rank_of, turn_of}

-- the rows of the list stand, and no others, each under a key of its own
pub record AreExactly (rows : List Row) (Has : Row → Type 0) : Type 0 where
  pub exact : (r : Row) → Contains rows r ↔ Has r
  pub apart : AllPairs (λ a b. key_of a ≢ key_of b) rows

pub none_stand : (Has : Row → Type 0) → ((r : Row) → Has r → ⊥) → AreExactly [] Has
none_stand Has none = record {
  exact = λ r. (λ h. absurd (in_none r h), λ h. absurd (none r h));
  apart = no_pairs (λ a b. key_of a ≢ key_of b);
}

-- what stands once a row is put, where none stood under its key
pub one_more : (rows : List Row) (Had Has : Row → Type 0) (x : Row) → AreExactly rows Had → ((r : Row) → Had r → key_of r ≢ key_of x)
    → ((r : Row) → Has r ↔ (Contains (Put x ∷ []) (Put r) ⊎ (Had r × ¬ Contains (key_of x ∷ []) (key_of r)))) → AreExactly (rows ++ x ∷ []) Has
one_more rows Had Has x was new now = record {
  exact = λ r. (
    λ h. elim (Contains-append_cases rows (x ∷ []) r h) [
      | inl i ↦ let had = (was.exact r).0 i in (now r).1 (inr (had, λ k. new r had (sym (in_single (key_of x) (key_of r) k))))
      | inr i ↦ (now r).1 (inl (subst (λ y. Contains (Put x ∷ []) (Put y)) (in_single x r i) (in_front (Put x) [])))
    ],
    λ h. elim ((now r).0 h) [
      | inl i ↦ let put : Put x ≡ Put r = in_single (Put x) (Put r) i in
          let same : x ≡ r = cc in
          Contains-append_right rows (x ∷ []) r (subst (λ y. Contains (x ∷ []) y) same (in_front x []))
      | inr i ↦ Contains-append_left rows (x ∷ []) r ((was.exact r).1 i.0)
    ],
  );
  apart = joined (λ a b. key_of a ≢ key_of b) rows (x ∷ []) was.apart (one_alone x)
      (λ a b i j same. new a ((was.exact a).0 i) (same ∙ sym (ap key_of (in_single x b j))));
}
  where
    one_alone : (x : Row) → AllPairs (λ a b. key_of a ≢ key_of b) (x ∷ [])
    one_alone x i j d below bound = absurd (omega arith)

-- a turn is at most the last one and at most the rank, and each that is not the last one is the rank
turn_within : (r : Row) → (turn_of r ≤ 2) × (turn_of r ≤ rank_of r) × ((turn_of r ≡ rank_of r) ⊎ (turn_of r ≡ 2))
turn_within (row.Count c l) = (omega arith, omega arith, inl refl)
turn_within (row.Reply s n r) = (omega arith, omega arith, inl refl)
turn_within (row.Token t) = (omega arith, omega arith, inr refl)
turn_within (row.Push n t p) = (omega arith, omega arith, inr refl)
turn_within (row.Service u) = (omega arith, omega arith, inr refl)
turn_within (row.Spent p r) = (omega arith, omega arith, inr refl)
turn_within (row.Mark p i n) = (omega arith, omega arith, inr refl)
turn_within (row.Reservation p i r) = (omega arith, omega arith, inr refl)
turn_within (row.Pending p n o) = (omega arith, omega arith, inr refl)
turn_within (row.Result p n r) = (omega arith, omega arith, inr refl)
turn_within (row.Session s) = (omega arith, omega arith, inr refl)
turn_within (row.Cdr c) = (omega arith, omega arith, inr refl)
turn_within (row.Command n c) = (omega arith, omega arith, inr refl)

-- rows that rise by rank come in turn
pub turn_rises : (r q : Row) → rank_of r ≤ rank_of q → turn_of r ≤ turn_of q
turn_rises r q up =
    let of_r = turn_within r in
    elim (turn_within q).2 [
      | inl same ↦ omega arith
      | inr last ↦ omega arith
    ]

-- rows that come in turn: what is of an earlier turn than a row stands before it
pub stands_before : (before rest : List Row) (x r : Row) → IsNonDecreasingBy turn_of (before ++ x ∷ rest)
    → Contains (before ++ x ∷ rest) r → turn_of r < turn_of x → Contains before r
stands_before before rest x r order h earlier =
    let all = before ++ x ∷ rest in
    elim (cases_lt h.0 (length before)) [
      | inl within ↦ (h.0, within, sym (get_or_append_left before (x ∷ rest) r h.0 within) ∙ h.2)
      | inr later ↦
          let up : turn_of (get_or all (length before) r) ≤ turn_of (get_or all h.0 r) = order (length before) h.0 r later h.1 in
          let here : turn_of (get_or all (length before) r) ≡ turn_of x = ap turn_of (get_or-append_seam before x rest r) in
          let there : turn_of (get_or all h.0 r) ≡ turn_of r = ap turn_of h.2 in
          absurd (omega arith)
    ]

-- and no row before it is of a later turn
pub is_no_later : (before rest : List Row) (x r : Row) → IsNonDecreasingBy turn_of (before ++ x ∷ rest) → Contains before r → turn_of r ≤ turn_of x
is_no_later before rest x r order h =
    let all = before ++ x ∷ rest in
    let long : length all ≡ length before + length (x ∷ rest) = length-append before (x ∷ rest) in
    let within : h.0 < length before = h.1 in
    let up : turn_of (get_or all h.0 r) ≤ turn_of (get_or all (length before) r) = order h.0 (length before) r (omega arith) (omega arith) in
    let here : turn_of (get_or all (length before) r) ≡ turn_of x = ap turn_of (get_or-append_seam before x rest r) in
    let there : turn_of (get_or all h.0 r) ≡ turn_of r = ap turn_of (get_or_append_left before (x ∷ rest) r h.0 within ∙ h.2) in
    omega arith
