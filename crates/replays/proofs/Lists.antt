-- Texts that are cut at a line feed.
use Rattle.std.proofs.Common.{◌≡◌, ◌≢◌, ℕ, zero, suc, List, [], ◌∷◌, ◌++◌, All, length, refl, sym, ap, subst, suc-le-suc, zero-lt-suc}

abbrev tail_of : {A : Type 0} → List A → List A
tail_of [] = []
tail_of (x ∷ xs) = xs

abbrev head_or : {A : Type 0} → A → List A → A
head_or d [] = d
head_or d (x ∷ xs) = x

pub tails : {A : Type 0} (x y : A) (xs ys : List A) → x ∷ xs ≡ y ∷ ys → xs ≡ ys
tails x y xs ys is = ap tail_of is

pub heads : {A : Type 0} (x y : A) (xs ys : List A) → x ∷ xs ≡ y ∷ ys → x ≡ y
heads x y xs ys is = ap (head_or x) is

abbrev is_some : {A : Type 0} → List A → Type 0
is_some [] = ⊥
is_some (x ∷ xs) = Unit {0}

pub some_is_none : {X : Type 0} {A : Type 0} (x : A) (xs : List A) → x ∷ xs ≡ [] → X
some_is_none x xs is = absurd (subst is_some is tt)

-- something stands in front of nothing
pub joined_is_none : {X : Type 0} {A : Type 0} (xs : List A) (x : A) (ys : List A) → xs ++ x ∷ ys ≡ [] → X
joined_is_none [] x ys is = some_is_none x ys is
joined_is_none (z ∷ xs) x ys is = some_is_none z (xs ++ x ∷ ys) is

-- how two cuts of one list lie
pub data Cuts {A : Type 0} (xs ys zs ws : List A) : Type 0 where
  First : (m : List A) → zs ≡ xs ++ m → ys ≡ m ++ ws → Cuts xs ys zs ws
  Second : (m : List A) → xs ≡ zs ++ m → ws ≡ m ++ ys → Cuts xs ys zs ws

longer : {A : Type 0} (x : A) (xs ys zs ws : List A) → Cuts xs ys zs ws → Cuts (x ∷ xs) ys (x ∷ zs) ws
longer x xs ys zs ws (First m a b) = First m (ap (λ l. x ∷ l) a) b
longer x xs ys zs ws (Second m a b) = Second m (ap (λ l. x ∷ l) a) b

pub cuts : {A : Type 0} (xs ys zs ws : List A) → xs ++ ys ≡ zs ++ ws → Cuts xs ys zs ws
cuts [] ys zs ws is = First zs refl is
cuts (x ∷ xs) ys [] ws is = Second (x ∷ xs) refl (sym is)
cuts (x ∷ xs) ys (z ∷ zs) ws is =
    let same : x ≡ z = heads x z (xs ++ ys) (zs ++ ws) is in
    subst (λ c. Cuts (x ∷ xs) ys (c ∷ zs) ws) same (longer x xs ys zs ws (cuts xs ys zs ws (tails x z (xs ++ ys) (zs ++ ws) is)))

-- what stands behind one front is one
pub behind_front : {A : Type 0} (front xs ys : List A) → front ++ xs ≡ front ++ ys → xs ≡ ys
behind_front [] xs ys is = is
behind_front (c ∷ front) xs ys is = behind_front front xs ys (tails c c (front ++ xs) (front ++ ys) is)

-- a list ends in one way
pub last_is : {A : Type 0} (xs ys : List A) (a b : A) → xs ++ a ∷ [] ≡ ys ++ b ∷ [] → xs ≡ ys
last_is [] [] a b is = refl
last_is [] (y ∷ ys) a b is = joined_is_none ys b [] (sym (tails a y [] (ys ++ b ∷ []) is))
last_is (x ∷ xs) [] a b is = joined_is_none xs a [] (tails x b (xs ++ a ∷ []) [] is)
last_is (x ∷ xs) (y ∷ ys) a b is =
    subst (λ z. x ∷ xs ≡ z ∷ ys) (heads x y (xs ++ a ∷ []) (ys ++ b ∷ []) is) (ap (λ l. x ∷ l) (last_is xs ys a b (tails x y (xs ++ a ∷ []) (ys ++ b ∷ []) is)))

pub last_one : {A : Type 0} (xs ys : List A) (a b : A) → xs ++ a ∷ [] ≡ ys ++ b ∷ [] → a ≡ b
last_one [] [] a b is = heads a b [] [] is
last_one [] (y ∷ ys) a b is = joined_is_none ys b [] (sym (tails a y [] (ys ++ b ∷ []) is))
last_one (x ∷ xs) [] a b is = joined_is_none xs a [] (tails x b (xs ++ a ∷ []) [] is)
last_one (x ∷ xs) (y ∷ ys) a b is = last_one xs ys a b (tails x y (xs ++ a ∷ []) (ys ++ b ∷ []) is)

-- no line feed
abbrev pub IsPlain : List ℕ → Type 0
IsPlain text = All (λ b. b ≢ 10) text

first_plain : (c : ℕ) (text : List ℕ) → IsPlain (c ∷ text) → c ≢ 10
first_plain c text plain = plain 0 0 (zero-lt-suc (length text))

rest_plain : (c : ℕ) (text : List ℕ) → IsPlain (c ∷ text) → IsPlain text
rest_plain c text plain = λ k d lt. plain (suc k) d (suc-le-suc lt)

pub plain_has_feed : {X : Type 0} (xs ys : List ℕ) → IsPlain (xs ++ 10 ∷ ys) → X
plain_has_feed [] ys plain = absurd (first_plain 10 ys plain refl)
plain_has_feed (x ∷ xs) ys plain = plain_has_feed xs ys (rest_plain x (xs ++ 10 ∷ ys) plain)

-- there is one place of the first line feed
pub same_line : (a b xs ys : List ℕ) → IsPlain a → IsPlain b → a ++ 10 ∷ xs ≡ b ++ 10 ∷ ys → (a ≡ b) × (xs ≡ ys)
same_line [] [] xs ys p q is = (refl, tails 10 10 xs ys is)
same_line [] (y ∷ b) xs ys p q is = absurd (first_plain y b q (sym (heads 10 y xs (b ++ 10 ∷ ys) is)))
same_line (x ∷ a) [] xs ys p q is = absurd (first_plain x a p (heads x 10 (a ++ 10 ∷ xs) ys is))
same_line (x ∷ a) (y ∷ b) xs ys p q is =
    let rest = same_line a b xs ys (rest_plain x a p) (rest_plain y b q) (tails x y (a ++ 10 ∷ xs) (b ++ 10 ∷ ys) is) in
    (subst (λ z. x ∷ a ≡ z ∷ b) (heads x y (a ++ 10 ∷ xs) (b ++ 10 ∷ ys) is) (ap (λ l. x ∷ l) rest.0), rest.1)
