-- What the statements on the tables do to a connection.
use Rattle.std.specs.Prelude.{◌≡◌, ◌⊎◌, ℕ, true, false, List, [], ◌∷◌, Option, Some, None, IsTrue}
use Rattle.std.specs.FinMap.{insert, remove}
use Rattle.sqlite.specs.Tree.{Trees}
use Rattle.sqlite.specs.Effect.{Database}
use Rattle.sqlite.specs.State.{State, IsUnchanged, Shows}
use Rattle.sqlite_catalog.specs.Listing.{IsSound}
use Rattle.row_table.specs.Layout.{both_tables}
use Rattle.row_table.specs.Texts.{Place, Texts, texts_of}
use Rattle.row_table.specs.Contents.{Content, HasVersion, IsWhole, content_of, with_texts}

-- a database with the two tables and nothing else, with one version, and rows that are texts
pub record HasTables (db : Database) : Type 0 where
  pub schema : db.schema ≡ both_tables
  pub whole : IsWhole db.trees

-- a connection that is shut says nothing
abbrev pub HadTables : State → Type 0
HadTables s = IsTrue s.is_open → HasTables s.now

-- the transaction goes on, and holds this
pub record HasMade (old new : State) (content : Content) : Type 0 where
  pub shown : Shows old new new.now old.committed true
  pub tables : HasTables new.now
  pub holds : content_of new.now.trees ≡ content

-- a statement that failed left all as it was, or the transaction is over
abbrev pub IsNotMade : State → State → Type 0
IsNotMade old new = IsUnchanged old new ⊎ (new.in_transaction ≡ false)

-- How many texts were replaced: where none stood under the kind and the name all is as it was, and where one did this
-- stands in its place.
abbrev pub IsReplaced : List ℕ → List ℕ → List ℕ → State → State → ℕ → Type 0
IsReplaced kind name body old new count =
    (count ≡ 0 → HasMade old new (content_of old.now.trees)) × (count ≡ 1 → HasMade old new (with_texts (content_of old.now.trees) (insert (texts_of old.now.trees) (kind, name) body)))

-- the transaction goes on, without a version
pub record HasNoVersion (old new : State) : Type 0 where
  pub shown : Shows old new new.now old.committed true
  pub schema : new.now.schema ≡ both_tables
  pub none : new.now.trees 0 ≡ []
  pub texts : new.now.trees 1 ≡ old.now.trees 1

-- the transaction goes on, with this version
pub record HasNumbered (version : ℕ) (old new : State) : Type 0 where
  pub shown : Shows old new new.now old.committed true
  pub schema : new.now.schema ≡ both_tables
  pub listed : IsSound both_tables new.now.trees
  pub has_version : HasVersion version new.now.trees
  pub texts : new.now.trees 1 ≡ old.now.trees 1

-- a place, and the text that is to stand there, or none where none is
abbrev pub Edit : Type 0
Edit = Place × Option (List ℕ)

abbrev pub set : Texts → Edit → Texts
set texts (p, Some t) = insert texts p t
set texts (p, None) = remove texts p

abbrev pub set_all : Texts → List Edit → Texts
set_all texts [] = texts
set_all texts (e ∷ es) = set_all (set texts e) es

-- this is committed
pub record HasCommitted (old new : State) (content : Content) : Type 0 where
  pub was_open : IsTrue old.is_open
  pub is_open : IsTrue new.is_open
  pub tables : HasTables new.now
  pub holds : content_of new.now.trees ≡ content
  pub settled : new.now ≡ new.committed

-- the connection shows the last commit, if it is still open
pub record HasUndone (old new : State) : Type 0 where
  pub was_open : IsTrue new.is_open → IsTrue old.is_open
  pub undone : IsTrue new.is_open → (new.now ≡ old.committed) × (new.committed ≡ old.committed)

-- what a stop inside a commit may leave: a whole store that holds this
pub record MayCommit (old : State) (content : Content) (trees : Trees) : Type 0 where
  pub was_open : IsTrue old.is_open
  pub whole : IsWhole trees
  pub holds : content_of trees ≡ content
