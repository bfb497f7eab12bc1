-- Flags of the places of a list, and the tree that finds one of those that are set.
use Rattle.std.specs.Prelude.{◌≡◌, ℕ, ◌+◌, ◌*◌, ◌^◌, ◌<◌, ◌≤◌, ◌||◌, Bool, true, false, List, Some, length, slice_get, slice_index_or}

-- node k is set where one of the two below it is
abbrev pub IsJoint : List Bool → ℕ → Type 0
IsJoint nodes k = slice_index_or nodes k false ≡ (slice_index_or nodes (2 * k) false || slice_index_or nodes (2 * k + 1) false)

-- a power of two
abbrev pub IsPowerOfTwo : ℕ → Type 0
IsPowerOfTwo width = (height : ℕ) × (width ≡ 2 ^ height)

-- the nodes of a tree: from 1 on, each with two below it, and the flags from `width` on, all of them at one height
pub record IsTree (width : ℕ) (nodes : List Bool) : Type 0 where
  pub wide : 0 < width
  pub level : IsPowerOfTwo width
  pub size : length nodes ≡ 2 * width
  pub joint : (k : ℕ) → 0 < k → k < width → IsJoint nodes k

-- no flag is set
abbrev pub AreNone : List Bool → Type 0
AreNone flags = (i : ℕ) → slice_get flags i ≡ Some true → ⊥

-- no flag before that place is set
abbrev pub NoneBefore : List Bool → ℕ → Type 0
NoneBefore flags i = (j : ℕ) → j < i → slice_get flags j ≡ Some true → ⊥

-- the flags of the first places are set, so many, and no others
pub record AreFirst (count : ℕ) (flags : List Bool) : Type 0 where
  pub within : count ≤ length flags
  pub all : (i : ℕ) → i < count → slice_get flags i ≡ Some true
  pub no_others : (i : ℕ) → slice_get flags i ≡ Some true → i < count
