-- Lines that begin as a JSON array does.
use Rattle.std.specs.Prelude.{◌≡◌, ◌⊎◌, ℕ, List, ◌∷◌, ◌++◌, All, take}
use Rattle.line_runs.specs.declared.lines.TheConstants.{KEPT_BYTES}

-- JSON space: a blank, a tab, a line feed or a carriage return
abbrev pub IsSpace : ℕ → Type 0
IsSpace c = (c ≡ 32) ⊎ (c ≡ 9) ⊎ (c ≡ 10) ⊎ (c ≡ 13)

-- the first byte that is no JSON space is [
pub record BeginsList (text : List ℕ) : Type 0 where
  pub spaces : List ℕ
  pub rest : List ℕ
  pub all : All IsSpace spaces
  pub is : text ≡ spaces ++ 91 ∷ rest

-- of the bytes of a line that are looked at
abbrev pub IsListLine : List ℕ → Type 0
IsListLine line = BeginsList (take KEPT_BYTES line)
