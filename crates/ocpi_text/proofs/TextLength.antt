-- How many cells stand before the first zero.
use Rattle.std.proofs.Common.{◌≡◌, ℕ, zero, suc, ◌+◌, ◌-◌, ◌<◌, ◌≤◌, true, false, List, [], ◌∷◌, ◌++◌, get_or, length, map, replicate, ap, sym, refl, ◌∙◌, arith, inl, inr}
use Rattle.std.specs.Prelude.{◌==◌, not}
use Rattle.std.specs.Char.{to_ascii_uppercase}
use Rattle.std.proofs.lemmas.Bool.{and_parts, eq-eqb, cases_lt}
use Rattle.std.proofs.lemmas.Bool.Decides.{nat_tests}
use Rattle.std.proofs.lemmas.List.{get_or-drop, append-nil}
use Rattle.std.proofs.lemmas.List.Sums.{prefix_len_passes}
use Rattle.ocpi_text.specs.Text.{is_printable, is_ascii_text}
use Rattle.ocpi_text.specs.Cells.{text_len, IsCiText}

printable_not_zero : (x : ℕ) → is_printable x ≡ true → (x == 0) ≡ false
printable_not_zero x h = grind (arith, nat_tests)

pub len_before_zeros : (s : List ℕ) (n : ℕ) → is_ascii_text s ≡ true → text_len (s ++ replicate n 0) ≡ length s
unfolding text_len is_ascii_text
len_before_zeros [] zero h = refl
len_before_zeros [] (suc n) h = refl
len_before_zeros (x ∷ s) n h =
    let both = and_parts _ _ h in
    let rest = len_before_zeros s n both.1 in
    rw (printable_not_zero x both.0) (omega arith)

pub len_of_full : (s : List ℕ) → is_ascii_text s ≡ true → text_len s ≡ length s
len_of_full s h = ap text_len (sym (append-nil s)) ∙ len_before_zeros s 0 h

upper_zero : (x : ℕ) → (to_ascii_uppercase x == 0) ≡ (x == 0)
upper_zero x = grind (arith, nat_tests)

pub key_len : (cells : List ℕ) → text_len (map to_ascii_uppercase cells) ≡ text_len cells
unfolding text_len
key_len [] = refl
key_len (x ∷ cells) = rw (upper_zero x, key_len cells) refl

zero_at : (n k : ℕ) → ◌≡◌ {A = ℕ} (get_or (replicate n 0) k 0) 0
zero_at zero k = refl
zero_at (suc n) zero = refl
zero_at (suc n) (suc k) = zero_at n k

-- a cell that is no zero stands in the text, and one that is a zero does not
pub in_text : (cells : List ℕ) (k : ℕ) → IsCiText (length cells) cells → (get_or cells k 0 ≡ 0 → ⊥) → k < text_len cells
in_text cells k h other =
    elim (cases_lt k (text_len cells)) [
      | inl less ↦ less
      | inr over ↦
          let n = text_len cells in
          let back : n + (k - n) ≡ k = omega arith in
          let here = ap (λ (j : ℕ). get_or cells j 0) (sym back) ∙ sym (get_or-drop n cells (k - n) 0) in
          absurd (other (here ∙ ap (λ (l : List ℕ). get_or l (k - n) 0) h.rest ∙ zero_at (length cells - n) (k - n)))
    ]

pub not_in_text : (cells : List ℕ) (k : ℕ) → get_or cells k 0 ≡ 0 → text_len cells ≤ k
unfolding text_len
not_in_text cells k h =
    elim (cases_lt k (text_len cells)) [
      | inl less ↦
          let other = prefix_len_passes (λ c. not (c == 0)) cells k 0 less in
          cc (other, eq-eqb _ _ h)
      | inr over ↦ over
    ]
