-- A text that is copied piece by piece.
use Rattle.std.proofs.Common.{◌≡◌, ℕ, suc, ◌+◌, ◌-◌, ◌<◌, ◌≤◌, Bool, true, false, List, [], ◌∷◌, ◌++◌, length, get_or}
use Rattle.std.proofs.Common.{take, drop, refl, ap, ◌∙◌, arith, ◌==◌, ◌&&◌, not}
use Rattle.std.proofs.lemmas.Grind.{common_steps}
use Rattle.std.proofs.lemmas.List.{take_more, get_or-drop, length-drop, drop-drop, take_all}
use Rattle.std.proofs.Math.Seq.{take-add}
use Rattle.json_text.specs.Quote.{is_plain}

-- the bytes from one place to another
abbrev pub between : List ℕ → ℕ → ℕ → List ℕ
between s from to = take (to - from) (drop from s)

pub between-one_more : (s : List ℕ) (from to : ℕ) → from ≤ to → to < length s → between s from (to + 1) ≡ between s from to ++ get_or s to 0 ∷ []
between-one_more s from to le lt =
    let more : (to + 1) - from ≡ (to - from) + 1 = omega arith in
    let at : from + (to - from) ≡ to = omega arith in
    let some : to - from < length (drop from s) = omega (arith, length-drop {A = ℕ}) in
    ap (λ (n : ℕ). take n (drop from s)) more
    ∙ take_more (drop from s) (to - from) 0 some
    ∙ ap (λ (x : ℕ). take (to - from) (drop from s) ++ x ∷ []) (get_or-drop from s (to - from) 0 ∙ ap (λ (n : ℕ). get_or s n 0) at)

pub between-none : (s : List ℕ) (at : ℕ) → between s at at ≡ []
between-none s at = grind (arith, common_steps)

pub between-all : (s : List ℕ) (from : ℕ) → between s from (length s) ≡ drop from s
between-all s from = grind (arith, common_steps)

-- the bytes from one place to another, and n more
pub between-more : (s : List ℕ) (from to n : ℕ) → from ≤ to → between s from (to + n) ≡ between s from to ++ take n (drop to s)
between-more s from to n le =
    let more : (to + n) - from ≡ (to - from) + n = omega arith in
    let at : from + (to - from) ≡ to = omega arith in
    ap (λ (k : ℕ). take k (drop from s)) more
    ∙ take-add (to - from) n (drop from s)
    ∙ ap (λ (l : List ℕ). take (to - from) (drop from s) ++ take n l) (drop-drop (to - from) from s ∙ ap (λ (k : ℕ). drop k s) at)

pub tail_is : (s : List ℕ) (k : ℕ) → take (length s - k) (drop k s) ≡ drop k s
tail_is s k = take_all (length s - k) (drop k s) (omega (arith, length-drop k s))

-- ---- bytes that are neither a quote nor a backslash

two_tests : (b d : Bool) → (not b && not d) ≡ true → (b ≡ false) × (d ≡ false)
two_tests true d e = absurd cc
two_tests false true e = absurd cc
two_tests false false e = (refl, refl)

pub plain_tests : (c : ℕ) → is_plain c ≡ true → ((c == 34) ≡ false) × ((c == 92) ≡ false)
plain_tests c e = two_tests (c == 34) (c == 92) e

pub one_up : (n : ℕ) → 1 + n ≡ suc n
one_up n = omega arith
