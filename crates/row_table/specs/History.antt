-- What openings, changes and stops make of one store, over any list of them.
use Rattle.std.specs.Prelude.{◌≡◌, ◌≢◌, ◌⊎◌, ℕ, pos, List, [], ◌∷◌, Option, Some, None}
use Rattle.std.specs.FinMap.{empty}
use Rattle.sqlite.specs.declared.types.Value.TheVariants.{Int}
use Rattle.sqlite.specs.Tree.{Trees}
use Rattle.sqlite.specs.State.{IsLive, Opens}
use Rattle.sqlite.specs.Store.{Ghosts}
use Rattle.sqlite.specs.Held.{Held, state}
use Rattle.sqlite_catalog.specs.Listing.{IsSound}
use Rattle.row_table.specs.declared.opening.OpenFault.{OpenFault}
use Rattle.row_table.specs.declared.opening.OpenFault.TheVariants.{OldLayout}
use Rattle.row_table.specs.Layout.{no_schema}
use Rattle.row_table.specs.Contents.{Content, IsWhole, at_version, content_of, with_texts}
use Rattle.row_table.specs.Effects.{Edit, set_all}
use Rattle.row_table.specs.Kept.{Kept, Leaves, LeavesWhole, content}
use Rattle.row_table.specs.Opening.{Finds, IsOldLayout, IsSpared}

-- ---- what a store holds: nothing yet, or a version and texts

abbrev pub Holds : Trees → Option Content → Type 0
Holds trees None = IsSound no_schema trees
Holds trees (Some c) = IsWhole trees × (content_of trees ≡ c)

-- what a table of this version then has
abbrev pub opened_as : ℕ → Option Content → Content
opened_as version None = at_version version empty
opened_as version (Some c) = c

-- it is of the version that was found, or holds nothing, and that is the version that new stores get
abbrev pub IsFor : ℕ → ℕ → Option Content → Type 0
IsFor version found None = found ≡ version
IsFor version found (Some c) = c.versions ≡ Int (pos found) ∷ []

-- it is of neither version
abbrev pub IsOther : ℕ → ℕ → Option Content → Type 0
IsOther version older None = ⊥
IsOther version older (Some c) = (c.versions ≢ Int (pos version) ∷ []) × (c.versions ≢ Int (pos older) ∷ [])

-- the edits in turn, and a new version where one is given
abbrev pub changed : Option ℕ → List Edit → Content → Content
changed None edits c = with_texts c (set_all c.texts edits)
changed (Some version) edits c = at_version version (set_all c.texts edits)

-- ---- what happens to it

-- Each connection is opened after a stop, over what that stop left.
pub data Happening (S : Type 0) : Type 0 where
  -- a connection was taken over as this table; new stores get the first version, and the second was found
  Opened : ℕ → ℕ → Held S → Kept S → Happening S
  -- a connection was handed back so, with this fault, where these two versions are taken
  Refused : ℕ → ℕ → OpenFault → Held S → Held S → Happening S
  -- one table became the other, when the changes were made
  Changed : Option ℕ → List Edit → Kept S → Kept S → Happening S
  -- one table became the other, when the changes were refused
  Failed : Option ℕ → List Edit → Kept S → Kept S → Happening S

module _ {S : Type 0} (g : Ghosts S) where
  -- a connection was opened, and found what a stop left
  pub record IsOver (left : Trees → Type 0) (conn : Held S) : Type 0 where
    pub opens : Opens (state g conn)
    pub live : IsLive (state g conn)
    pub found : left (state g conn).committed.trees

  -- what the clauses of `adopt` say of a table
  pub record IsOpened (version found : ℕ) (conn : Held S) (table : Kept S) : Type 0 where
    pub finds : Finds version found (state g conn).now (content g table)
    pub stops : (trees : Trees) → Leaves g table trees → content_of trees ≡ content g table
    pub whole : LeavesWhole g table

  -- and of a connection that it hands back
  pub record IsRefused (version older : ℕ) (fault : OpenFault) (conn back : Held S) : Type 0 where
    pub spared : IsSpared version (state g conn) (state g back)
    pub old : fault ≡ OldLayout → IsOldLayout version older (state g conn).now

  -- what those of `change`, with edits, and of `change_to` say where they answer that the changes were made
  pub record IsChanged (version : Option ℕ) (edits : List Edit) (old new : Kept S) : Type 0 where
    pub all : content g new ≡ changed version edits (content g old)
    pub settled : (trees : Trees) → Leaves g new trees → content_of trees ≡ content g new
    pub whole : LeavesWhole g new

  -- and where they refuse
  pub record IsFailed (version : Option ℕ) (edits : List Edit) (old new : Kept S) : Type 0 where
    pub none : content g new ≡ content g old
    pub stops : (trees : Trees) → Leaves g new trees → Leaves g old trees ⊎ (content_of trees ≡ changed version edits (content g old))
    pub whole : LeavesWhole g new

  -- all this may happen in turn, from when a stop leaves such trees, and this table is open
  abbrev pub Follows : (Trees → Type 0) → Option (Kept S) → List (Happening S) → Type 0
  Follows left now [] = Unit {0}
  Follows left now (Opened version found conn table ∷ rest) = IsOver left conn × IsOpened version found conn table × Follows (Leaves g table) (Some table) rest
  Follows left now (Refused version older fault conn back ∷ rest) = IsOver left conn × IsRefused version older fault conn back × Follows (state g back).may_leave None rest
  Follows left now (Changed version edits old new ∷ rest) = (now ≡ Some old) × IsChanged version edits old new × Follows (Leaves g new) (Some new) rest
  Follows left now (Failed version edits old new ∷ rest) = (now ≡ Some old) × IsFailed version edits old new × Follows (Leaves g new) (Some new) rest

  -- ---- the law

  -- A stop leaves only what may be held, and the next opening finds it: it is told that the layout is old only where
  -- neither version is held. What may be held is what was opened or changed last, and after a change that was refused
  -- also what it would have made.
  abbrev pub IsKept : (Option Content → Type 0) → List (Happening S) → Type 0
  IsKept may [] = Unit {0}
  IsKept may (Opened version found conn table ∷ rest) =
      ((held : Option Content) × may held × IsFor version found held × (content g table ≡ opened_as version held)) × IsKept (λ h. h ≡ Some (content g table)) rest
  IsKept may (Refused version older fault conn back ∷ rest) =
      (held : Option Content) × may held × (fault ≡ OldLayout → IsOther version older held) × IsKept (λ h. (h ≡ held) ⊎ ((held ≡ None) × (h ≡ Some (at_version version empty)))) rest
  IsKept may (Changed version edits old new ∷ rest) =
      (content g new ≡ changed version edits (content g old)) × IsKept (λ h. h ≡ Some (content g new)) rest
  IsKept may (Failed version edits old new ∷ rest) =
      (content g new ≡ content g old) × IsKept (λ h. may h ⊎ (h ≡ Some (changed version edits (content g old)))) rest

  -- from a store with nothing on
  abbrev pub StopsAreFound : Type 0
  StopsAreFound = (history : List (Happening S)) → Follows (IsSound no_schema) None history → IsKept (λ h. h ≡ None) history
