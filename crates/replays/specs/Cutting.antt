-- How a file is cut at its empty lines.
use Rattle.std.specs.Prelude.{◌≡◌, ◌≢◌, ℕ, List, [], ◌∷◌, ◌++◌, None, replicate}

-- no two line feeds follow one another
abbrev pub HasNoEmptyLine : List ℕ → Type 0
HasNoEmptyLine text = (before after : List ℕ) → text ≢ before ++ 10 ∷ 10 ∷ after

abbrev pub feeds : ℕ → List ℕ
feeds n = replicate n 10

-- what may stand behind the text of a run: nothing, or a line feed at the end of the file, or an empty line
pub data EndsRun : List ℕ → Type 0 where
  AtEnd : EndsRun []
  AtFeed : EndsRun (10 ∷ [])
  AtEmptyLine : (more : List ℕ) → EndsRun (10 ∷ 10 ∷ more)

-- What runs print over a store, each behind two line feeds, and what of that is told, one behind the other. None prints
-- an empty line besides.
pub data ArePrintedBy {H T : Type 0} (Run : H → List ℕ → List T → H → Type 0) : H → List ℕ → List T → Type 0 where
  NoMore : {held : H} → ArePrintedBy Run held [] []
  -- one was stopped behind its first line feed
  AtOnce : {held : H} {rest : List ℕ} {told : List T} → ArePrintedBy Run held rest told → ArePrintedBy Run held (10 ∷ rest) told
  OneMore : {held left : H} {run rest : List ℕ} {told later : List T} → Run held run told left → HasNoEmptyLine run
      → ArePrintedBy Run left rest later → ArePrintedBy Run held (10 ∷ 10 ∷ (run ++ rest)) (told ++ later)

-- a text that begins with no line feed, or has nothing
pub data BeginsAnew : List ℕ → Type 0 where
  Empty : BeginsAnew []
  Other : (c : ℕ) (text : List ℕ) → c ≢ 10 → BeginsAnew (c ∷ text)

-- so far neither an empty line nor the end of the text came
pub record GoesFurther (front rest : List ℕ) : Type 0 where
  pub plain : HasNoEmptyLine front
  pub open_line : (before : List ℕ) → front ≡ before ++ 10 ∷ [] → (c : ℕ) × ((more : List ℕ) × (rest ≡ c ∷ more) × (c ≢ 10))

-- what begins the text ends no run
abbrev pub GoesPast : List ℕ → Type 0
GoesPast text = (behind : List ℕ) → text ≡ 10 ∷ behind → (c : ℕ) × ((more : List ℕ) × (behind ≡ c ∷ more) × (c ≢ 10))
