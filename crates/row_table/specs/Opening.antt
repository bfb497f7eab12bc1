-- What opening a store makes of it.
use Rattle.std.specs.Prelude.{◌≡◌, ◌≢◌, ◌⊎◌, ℕ, true, [], IsTrue}
use Rattle.std.specs.FinMap.{empty}
use Rattle.sqlite.specs.Tree.{Trees}
use Rattle.sqlite.specs.Effect.{Database}
use Rattle.sqlite.specs.State.{State, Shows}
use Rattle.sqlite.specs.Store.{Ghosts}
use Rattle.sqlite.specs.Held.{Held, state}
use Rattle.row_table.specs.Layout.{both_tables, layout_alone, no_schema}
use Rattle.row_table.specs.Contents.{Content, HasVersion, IsNewStore, IsOfOthers, at_version, content_of}
use Rattle.row_table.specs.Checking.{HasOurNames}
use Rattle.row_table.specs.Effects.{HasTables}
use Rattle.row_table.specs.Kept.{IsAtRest}

-- ---- the tables are made

pub record HasLayout (old new : State) : Type 0 where
  pub shown : Shows old new new.now old.committed true
  pub schema : new.now.schema ≡ layout_alone
  pub none : new.now.trees 0 ≡ []

-- both tables, with no row in either
pub record HasNothing (s : State) : Type 0 where
  pub schema : s.now.schema ≡ both_tables
  pub no_version : s.now.trees 0 ≡ []
  pub no_text : s.now.trees 1 ≡ []

abbrev pub HasBoth : State → State → Type 0
HasBoth old new = Shows old new new.now old.committed true × HasNothing new

-- the transaction goes on, with a new store of this version
pub record HasFirst (version : ℕ) (old new : State) : Type 0 where
  pub shown : Shows old new new.now old.committed true
  pub schema : new.now.schema ≡ both_tables
  pub one : IsNewStore version new.now.trees

-- a new store of this version is committed
pub record IsMade (version : ℕ) (old new : State) : Type 0 where
  pub was_open : IsTrue old.is_open
  pub is_open : IsTrue new.is_open
  pub schema : new.now.schema ≡ both_tables
  pub one : IsNewStore version new.now.trees
  pub settled : new.now ≡ new.committed

-- ---- a store is opened

-- What a table has when it is opened, and of which version it is. It has what the store held, which was of that
-- version; or, where the store was new, nothing but the version that new ones get.
abbrev pub Finds : ℕ → ℕ → Database → Content → Type 0
Finds version found db c =
    ((db.schema ≡ both_tables) × HasVersion found db.trees × (c ≡ content_of db.trees)) ⊎ ((db.schema ≡ no_schema) × (found ≡ version) × (c ≡ at_version version empty))

-- the store was laid out for other rows than those of these versions: it has something, and either not just the two
-- tables with their columns, or neither version alone
abbrev pub IsOldLayout : ℕ → ℕ → Database → Type 0
IsOldLayout version older db = (db.schema ≢ no_schema) × ((¬ HasOurNames db.schema) ⊎ IsOfOthers version older db.trees)

-- the connection shows what it showed, if it is still open
pub record ShowsTheSame (old new : State) : Type 0 where
  pub was_open : IsTrue new.is_open → IsTrue old.is_open
  pub same : IsTrue new.is_open → (new.now ≡ old.now) × (new.committed ≡ old.committed)

-- and a stop leaves nothing that it did not leave before
pub record IsUntouched (old new : State) : Type 0 where
  pub shown : ShowsTheSame old new
  pub stops : (trees : Trees) → new.may_leave trees → old.may_leave trees

pub record HoldsAsOpened {S : Type 0} (g : Ghosts S) (version found : ℕ) (old new last : Held S) : Type 0 where
  pub rest : IsAtRest g (record { conn = new; last = last })
  pub finds : Finds version found (state g old).now (content_of (state g last).now.trees)
  -- a stop leaves just this
  pub stops : (trees : Trees) → (state g new).may_leave trees → content_of trees ≡ content_of (state g last).now.trees
  pub untouched : (state g old).now.schema ≢ no_schema → IsUntouched (state g old) (state g new)

-- An opening was refused. The connection shows what it showed, if it is still open. A stop leaves what it left before,
-- or a whole new store where there was nothing.
pub record IsSpared (version : ℕ) (old new : State) : Type 0 where
  pub shown : ShowsTheSame old new
  pub stops : (trees : Trees) → new.may_leave trees → old.may_leave trees ⊎ ((old.now.schema ≡ no_schema) × IsNewStore version trees)

-- an open store of this version
pub record IsOfVersion (version : ℕ) (s : State) : Type 0 where
  pub is_open : IsTrue s.is_open
  pub tables : HasTables s.now
  pub has_version : HasVersion version s.now.trees
