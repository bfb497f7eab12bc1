-- What was read at a place of a list, and places that count from 0.
use Rattle.std.proofs.Common.{zero, suc, ◌≡◌, ℕ, ◌<◌, List, length, get_or, refl, sym, ap, ◌∙◌, arith, replicate, Some}
use Rattle.std.proofs.Common.{slice_get, slice_index, sum}
use Rattle.std.proofs.lemmas.List.Sums.{sum_by-cons}
use Rattle.std.proofs.lemmas.Option.{get_or_from_slice_get, slice_get-get_or}

-- what was read at a place stands there
pub got_by : {X : Type 0} (xs : List X) (i : ℕ) (x : X) → i < length xs → x ≡ get_or xs i x → slice_get xs i ≡ Some x
got_by xs i x h is = slice_get-get_or xs i x h ∙ ap Some (sym is)

-- what was read of numbers at a place
pub index_is : (xs : List ℕ) (i n : ℕ) → i < length xs → n ≡ get_or xs i n → slice_index xs i ≡ n
index_is xs i n below is = get_or_from_slice_get xs i n 0 (got_by xs i n below is)

pub index_replicate : (n i : ℕ) → slice_index (replicate n 0) i ≡ 0
index_replicate zero i = refl
index_replicate (suc n) zero = refl
index_replicate (suc n) (suc i) = index_replicate n i

pub sum_replicate : (n : ℕ) → sum (replicate n 0) ≡ 0
sum_replicate zero = refl
sum_replicate (suc n) = sum_by-cons (λ x. x) 0 (replicate n 0) ∙ (let h = sum_replicate n in omega (arith, h))

pub length_replicate : {X : Type 0} (n : ℕ) (x : X) → length (replicate n x) ≡ n
length_replicate zero x = refl
length_replicate (suc n) x = ap suc (length_replicate n x)
