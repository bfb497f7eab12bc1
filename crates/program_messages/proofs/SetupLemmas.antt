-- The setup of a run, read from its file.
use Rattle.std.proofs.Common.{◌≡◌, ◌<◌, ◌≤◌, ◌+◌, ◌++◌, ℕ, List, [], Result, Ok, Err, IfOk, Option, None, Some, IfSome, length, option_map, take, ap, subst, ◌∙◌, arith, take_all}
use Rattle.std.proofs.lemmas.List.{length-take}
use Rattle.std.specs.Io.Take.{take_remaining}
use Rattle.std.specs.declared.io.traits.Take.{Take}

-- all that a known reader gives, up to a limit
part_of : (known : Option (List ℕ)) (n : ℕ) (old new : List ℕ) → old ≡ [] → IfSome (option_map (take n) known) (λ xs. new ≡ old ++ xs)
    → IfSome known (λ text. new ≡ take n text)
part_of None n old new none all = tt
part_of (Some text) n old new none all = all ∙ ap (λ l. l ++ take n text) none

pub read_part : {R : Type 0} (remaining : R → Option (List ℕ)) (t : Take R) (n : ℕ) (file : R) (old new : List ℕ) → t.limit ≡ n → t.inner ≡ file → old ≡ []
    → IfSome (take_remaining remaining t) (λ xs. new ≡ old ++ xs) → IfSome (remaining file) (λ text. new ≡ take n text)
read_part remaining t n file old new limit inner none all =
    let part = part_of (remaining t.inner) t.limit old new none all in
    subst (λ r. IfSome (remaining r) (λ text. new ≡ take n text)) inner
    (subst (λ k. IfSome (remaining t.inner) (λ text. new ≡ take k text)) limit part)

-- a known text is what was read of it, where more would have been read of a longer one
whole_text : (n : ℕ) (text read : List ℕ) → read ≡ take (n + 1) text → length read ≤ n → read ≡ text
whole_text n text read e short =
    let long = ap length e ∙ length-take (n + 1) text in
    e ∙ take_all (n + 1) text (omega (arith, long, short))

-- what holds of that holds of the text
pub of_text : (P : List ℕ → Type 0) (n : ℕ) (known : Option (List ℕ)) (read : List ℕ) → IfSome known (λ text. read ≡ take (n + 1) text) → length read ≤ n → P read
    → IfSome known P
of_text P n None read e short p = tt
of_text P n (Some text) read e short p = subst P (whole_text n text read e short) p

-- a known text is longer than a limit, where what was read of it is
pub longer_text : (n : ℕ) (known : Option (List ℕ)) (read : List ℕ) → IfSome known (λ text. read ≡ take (n + 1) text) → n < length read → IfSome known (λ text. n < length text)
longer_text n None read e long = tt
longer_text n (Some text) read e long =
    let part = ap length e ∙ length-take (n + 1) text in
    omega (arith, part, long)

-- the same, of what is shown of what was read
pub shown_text : (n : ℕ) (known : Option (List ℕ)) (read shown : List ℕ) → shown ≡ read → IfSome known (λ text. read ≡ take (n + 1) text)
    → IfSome known (λ text. shown ≡ take (n + 1) text)
shown_text n None read shown is e = tt
shown_text n (Some text) read shown is e = is ∙ e

-- what a result says of what was read, which is short, it says of the text
pub of_result : {V E : Type 0} (A : Type 0) (P : V → List ℕ → Type 0) (n : ℕ) (known : Option (List ℕ)) (read : List ℕ) (r : Result V E)
    → IfSome known (λ text. read ≡ take (n + 1) text) → IfOk r (λ v. A × (length read ≤ n)) → IfOk r (λ v. P v read) → IfOk r (λ v. IfSome known (P v))
of_result A P n known read (Ok v) e short p = of_text (P v) n known read e short.1 p
of_result A P n known read (Err f) e short p = tt
