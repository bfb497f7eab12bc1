-- What a store with the two tables holds: the version of its layout, and a text under each kind and name.
use Rattle.std.specs.Prelude.{◌≡◌, ◌≢◌, ℕ, ℤ, pos, List, [], ◌∷◌, map}
use Rattle.std.specs.FinMap.{empty}
use Rattle.sqlite.specs.declared.types.Value.{Value}
use Rattle.sqlite.specs.declared.types.Value.TheVariants.{Int}
use Rattle.sqlite.specs.Order.{Row, column}
use Rattle.sqlite.specs.Tree.{Trees}
use Rattle.sqlite_catalog.specs.Listing.{IsSound}
use Rattle.row_table.specs.Layout.{both_tables}
use Rattle.row_table.specs.Texts.{Texts, texts_of, AreTexts}

-- what the rows of `layout` say
abbrev pub versions : Trees → List Value
versions trees = map (λ r. column r 1) (trees 0)

-- the numbers in `layout`, and the texts
pub record Content : Type 0 where
  pub versions : List Value
  pub texts : Texts

abbrev pub content_of : Trees → Content
content_of trees = record { versions = versions trees; texts = texts_of trees }

-- just one version, and these texts
abbrev pub at_version : ℕ → Texts → Content
at_version version texts = record { versions = Int (pos version) ∷ []; texts = texts }

-- the same version, and these texts
abbrev pub with_texts : Content → Texts → Content
with_texts c texts = record { versions = c.versions; texts = texts }

-- just one row, with a rowid and this number
pub record IsNumbered (version : ℕ) (rows : List Row) : Type 0 where
  pub row : Row
  pub only : rows ≡ row ∷ []
  pub id : ℤ
  pub has_id : column row 0 ≡ Int id
  pub has_version : column row 1 ≡ Int (pos version)

abbrev pub HasVersion : ℕ → Trees → Type 0
HasVersion version trees = IsNumbered version (trees 0)

-- `layout` says neither of these versions alone
abbrev pub IsOfOthers : ℕ → ℕ → Trees → Type 0
IsOfOthers version older trees = (versions trees ≢ Int (pos version) ∷ []) × (versions trees ≢ Int (pos older) ∷ [])

-- The trees of a whole store. They list the two tables and nothing else, with one version, and rows that are texts.
pub record IsWhole (trees : Trees) : Type 0 where
  pub listed : IsSound both_tables trees
  pub version : ℕ
  pub has_version : HasVersion version trees
  pub are_texts : AreTexts (trees 1)

-- a whole store of this version, without a text
pub record IsNewStore (version : ℕ) (trees : Trees) : Type 0 where
  pub whole : IsWhole trees
  pub holds : content_of trees ≡ at_version version empty
