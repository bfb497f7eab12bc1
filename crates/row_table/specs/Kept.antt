-- What a table of texts keeps: a version, and a text under each kind and name.
use Rattle.std.specs.Prelude.{◌≡◌, false, IsTrue, refl}
use Rattle.std.specs.Coded.{Coded, code_by, coded×}
use Rattle.sqlite.specs.Tree.{Trees}
use Rattle.sqlite.specs.Store.{Ghosts}
use Rattle.sqlite.specs.State.{HasCleanDisk}
use Rattle.sqlite.specs.Held.{Held, held_code, state}
use Rattle.row_table.specs.Texts.{Texts, texts_of}
use Rattle.row_table.specs.Contents.{Content, IsWhole, content_of}
use Rattle.row_table.specs.Effects.{HadTables}

-- a connection as it is, and as it was after the last change, since one that is shut shows nothing
pub record Kept (S : Type 0) : Type 0 where
  pub conn : Held S
  pub last : Held S

abbrev pub kept_code : {S : Type 0} → Coded S → Coded (Kept S)
kept_code {S} store = code_by (Held S × Held S) (coded× (held_code store) (held_code store)) (λ k. (k.conn, k.last)) (λ p. record { conn = p.0; last = p.1 }) (λ _. refl)

module _ {S : Type 0} (g : Ghosts S) (k : Kept S) where
  abbrev pub content : Content
  content = content_of (state g k.last).now.trees

  abbrev pub texts : Texts
  texts = texts_of (state g k.last).now.trees

  -- so far the disk has returned what was written, and nobody else has written
  abbrev pub IsClean : Type 0
  IsClean = HasCleanDisk (state g k.conn)

  -- what an open after a stop may find
  abbrev pub Leaves : Trees → Type 0
  Leaves = (state g k.conn).may_leave

  -- the texts of what it may find
  abbrev pub MayLeave : Texts → Type 0
  MayLeave t = (trees : Trees) × Leaves trees × (t ≡ texts_of trees)

  -- whatever it may find is a whole store
  abbrev pub LeavesWhole : Type 0
  LeavesWhole = (trees : Trees) → Leaves trees → IsWhole trees

  -- between two calls
  pub record IsAtRest : Type 0 where
    pub idle : k.conn.in_transaction ≡ false
    pub tables : HasCleanDisk (state g k.conn) → HadTables (state g k.conn)
    pub same : HasCleanDisk (state g k.conn) → IsTrue (state g k.conn).is_open → content_of (state g k.conn).now.trees ≡ content
    pub settled : HasCleanDisk (state g k.conn) → IsTrue (state g k.conn).is_open → (state g k.conn).now ≡ (state g k.conn).committed
    pub left : HasCleanDisk (state g k.conn) → LeavesWhole
