-- A party that is none of these.
use Rattle.std.proofs.Common.{◌≡◌, ◌<◌, ℕ, List, [], ◌∷◌, ◌++◌, inl, inr, ap, arith, length, length-append}
use Rattle.std.proofs.lemmas.List.{length-map}
use Rattle.std.specs.Char.{to_ascii_uppercase}
use Rattle.std.specs.Prelude.{Contains, map}
use Rattle.tables.proofs.Elements.{in_none, of_cons}
use Rattle.replays.specs.Reading.{IsOther}

-- a text that is longer than each of them
longer : List (List ℕ) → List ℕ
longer [] = 65 ∷ []
longer (p ∷ ps) = p ++ longer ps

some : (ps : List (List ℕ)) → 0 < length (longer ps)
unfolding longer
some [] = omega arith
some (p ∷ ps) = let a = length-append p (longer ps) in let b = some ps in omega (arith, a, b)

is_longer : (ps : List (List ℕ)) (p : List ℕ) → Contains ps p → length p < length (longer ps)
unfolding longer
is_longer [] p within = absurd (in_none p within)
is_longer (q ∷ ps) p within = let a = length-append q (longer ps) in elim (of_cons q ps p within) [
  | inl is ↦ let b = ap length is in let c = some ps in omega (arith, a, b, c)
  | inr later ↦ let b = is_longer ps p later in omega (arith, a, b)
]

-- for each list of parties there is one that is none of them, in whichever case
pub fresh : (parties : List (List ℕ)) → (party : List ℕ) × IsOther parties party
fresh parties = (longer parties, other)
  where
    other : IsOther parties (longer parties)
    other p within same =
        let a : length (map to_ascii_uppercase p) ≡ length (map to_ascii_uppercase (longer parties)) = ap length same in
        let b = length-map p to_ascii_uppercase in
        let c = length-map (longer parties) to_ascii_uppercase in
        let d = is_longer parties p within in
        omega (arith, a, b, c, d)
