-- Whether bytes are printable, by parts of eight.
use Rattle.std.proofs.Common.{◌≡◌, ℕ, zero, suc, ◌+◌, ◌*◌, ◌%◌, ◌^◌, ◌≤◌, ltb, cond, true, false, Bool, List, [], ◌∷◌, length, take, drop, map, replicate, w8, refl, sym, ap, ap₂, ◌∙◌, arith}
use Rattle.std.specs.Prelude.{◌&&◌, ◌==◌}
use Rattle.std.specs.List.{list_all}
use Rattle.std.proofs.lemmas.Bool.{and_parts, and_from, ne_eqb}
use Rattle.std.proofs.lemmas.Bool.Decides.{nat_tests}
use Rattle.std.proofs.lemmas.List.{take-append-drop, take-take, length-map}
use Rattle.std.proofs.lemmas.List.Folds.{list_all-append}
use Rattle.std.proofs.lemmas.Simd.{bitmask_splat, tops_compared, zip2_splat_left, mask_l-mod}
use Rattle.std.proofs.Math.Seq.{take-add}
use lib.Lanes.{zip2, mask_l, top}
use Rattle.ocpi_text.specs.Text.{is_printable, is_ascii_text}

abbrev below : ℕ → ℕ → ℕ
below a b = cond (ltb a b) 255 0

no_flag : (b : Bool) (n : ℕ) → ((cond b 1 0 + 2 * n) == 0) ≡ cond b false (n == 0)
no_flag true n = ne_eqb _ _ (omega arith)
no_flag false zero = refl
no_flag false (suc n) = ne_eqb _ _ (omega arith) ∙ sym (ne_eqb _ _ (omega arith))

both_tests : (low high l h printable rest : Bool) → printable ≡ cond low false (cond high false true) → (l && h) ≡ rest
    → (cond low false l && cond high false h) ≡ (printable && rest)
both_tests true high l h printable rest first more = rw first refl
both_tests false true true h printable rest first more = rw first refl
both_tests false true false h printable rest first more = rw first refl
both_tests false false l h printable rest first more = rw first more

by_tests : (x : ℕ) → is_printable x ≡ cond (ltb x 32) false (cond (ltb 126 x) false true)
by_tests x = grind (arith, nat_tests)

no_flags : (v : List ℕ) → ((mask_l (map (λ x. ltb x 32) v) == 0) && (mask_l (map (λ x. ltb 126 x) v) == 0)) ≡ list_all is_printable v
no_flags [] = refl
no_flags (x ∷ v) =
    ap₂ (λ a b. a && b) (no_flag (ltb x 32) (mask_l (map (λ y. ltb y 32) v))) (no_flag (ltb 126 x) (mask_l (map (λ y. ltb 126 y) v)))
    ∙ both_tests (ltb x 32) (ltb 126 x) _ _ (is_printable x) (list_all is_printable v) (by_tests x) (no_flags v)

-- the two tests of a vector of eight lanes, as the code makes them
pub eight_tests : (v : List ℕ) → length v ≡ 8
    → ((mask_l (map (top 7) (zip2 below v (replicate 8 32))) % 2 ^ 64 == 0) && (mask_l (map (top 7) (zip2 below (replicate 8 126) v)) % 2 ^ 64 == 0)) ≡ is_ascii_text v
unfolding is_ascii_text
eight_tests v long =
    let low = bitmask_splat w8 ltb v 8 32 long (omega arith) in
    let flags = tops_compared w8 ltb (replicate 8 126) v ∙ zip2_splat_left ltb 126 8 v long in
    let high = ap (λ (l : List Bool). mask_l l % 2 ^ 64) flags ∙ mask_l-mod (map (λ x. ltb 126 x) v) 64 (omega (arith, length-map v (λ x. ltb 126 x))) in
    ap₂ (λ a b. (a == 0) && (b == 0)) low high ∙ no_flags v

printable_parts : (n : ℕ) (s : List ℕ) → is_ascii_text s ≡ (is_ascii_text (take n s) && is_ascii_text (drop n s))
unfolding is_ascii_text
printable_parts n s = ap (list_all is_printable) (sym (take-append-drop n s)) ∙ list_all-append is_printable (take n s) (drop n s)

and_no : (b : Bool) → (b && false) ≡ false
and_no true = refl
and_no false = refl

-- a part that is not printable decides
pub part_fails : (at n : ℕ) (s : List ℕ) → is_ascii_text (take n (drop at s)) ≡ false → is_ascii_text s ≡ false
part_fails at n s fails =
    let after : is_ascii_text (drop at s) ≡ false = printable_parts n (drop at s) ∙ ap (λ (b : Bool). b && is_ascii_text (drop n (drop at s))) fails in
    printable_parts at s ∙ ap (λ (b : Bool). is_ascii_text (take at s) && b) after ∙ and_no (is_ascii_text (take at s))

pub part_further : (at n : ℕ) (s : List ℕ) → is_ascii_text (take at s) ≡ true → is_ascii_text (take n (drop at s)) ≡ true → is_ascii_text (take (at + n) s) ≡ true
unfolding is_ascii_text
part_further at n s front part =
    ap (list_all is_printable) (take-add at n s) ∙ list_all-append is_printable (take at s) (take n (drop at s)) ∙ and_from _ _ front part

-- and the rest does, where what stands before it is printable
pub rest_decides : (k at : ℕ) (s : List ℕ) → k ≤ at → is_ascii_text (take at s) ≡ true → is_ascii_text s ≡ is_ascii_text (drop k s)
rest_decides k at s le front =
    let both = and_parts _ _ (sym (printable_parts k (take at s)) ∙ front) in
    let before : is_ascii_text (take k s) ≡ true = ap is_ascii_text (sym (take-take k at s le)) ∙ both.0 in
    printable_parts k s ∙ ap (λ (b : Bool). b && is_ascii_text (drop k s)) before
