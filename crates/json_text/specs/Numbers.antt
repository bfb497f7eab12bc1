-- The numbers of JSON (RFC 8259, section 6), as lists of bytes.
use Rattle.std.specs.Prelude.{◌≡◌, ℕ, List, [], ◌∷◌, ◌++◌, codes, true}
use Rattle.std.specs.List.{list_all}
use Rattle.json_text.specs.Quote.{is_digit, is_mark, is_sign}

abbrev pub AreDigits : List ℕ → Type 0
AreDigits s = list_all is_digit s ≡ true

-- one digit or more
pub record IsDigits (s : List ℕ) : Type 0 where
  pub first : ℕ
  pub more : List ℕ
  pub is : s ≡ first ∷ more
  pub digit : is_digit first ≡ true
  pub digits : AreDigits more

pub data IsMinus (s : List ℕ) : Type 0 where
  no_minus : s ≡ [] → IsMinus s
  minus : s ≡ codes "-" → IsMinus s

-- no other int begins with a zero
pub data IsInt (s : List ℕ) : Type 0 where
  zero_int : s ≡ codes "0" → IsInt s
  other_int : (h : IsDigits s) → (h.first ≡ 48 → ⊥) → IsInt s

pub data IsFraction (s : List ℕ) : Type 0 where
  no_fraction : s ≡ [] → IsFraction s
  fraction : (digits : List ℕ) → s ≡ codes "." ++ digits → IsDigits digits → IsFraction s

pub data IsSign (s : List ℕ) : Type 0 where
  no_sign : s ≡ [] → IsSign s
  sign : (c : ℕ) → s ≡ c ∷ [] → is_sign c ≡ true → IsSign s

pub data IsExponent (s : List ℕ) : Type 0 where
  no_exponent : s ≡ [] → IsExponent s
  exponent : (mark : ℕ) (sign digits : List ℕ) → s ≡ mark ∷ (sign ++ digits) → is_mark mark ≡ true → IsSign sign → IsDigits digits → IsExponent s

-- [ minus ] int [ frac ] [ exp ]
pub record IsJsonNumber (s : List ℕ) : Type 0 where
  pub minus : List ℕ
  pub int : List ℕ
  pub fraction : List ℕ
  pub exponent : List ℕ
  pub parts : s ≡ minus ++ (int ++ (fraction ++ exponent))
  pub is_minus : IsMinus minus
  pub is_int : IsInt int
  pub is_fraction : IsFraction fraction
  pub is_exponent : IsExponent exponent
