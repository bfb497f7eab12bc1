-- What is known of a keeper in a file: what it was made of, and what it leaves.
use Rattle.std.specs.Prelude.{◌≡◌, ◌≢◌, ◌⊎◌, ℕ, List, Option, Some, None, Result, Ok, Err}
use Rattle.std.specs.FinMap.{empty}
use Rattle.sqlite_disk.specs.declared.Disk.{Ghosts}
use Rattle.sqlite_disk.specs.declared.Files.{Files}
use Rattle.sqlite.specs.declared.FileStore.{FileStore}
use Rattle.sqlite.specs.Recovery.{Image}
use Rattle.sqlite.specs.WalReads.{AreClean}
use Rattle.sqlite.specs.Closing.{IsCopied}
use Rattle.sqlite.specs.Files.{over_files}
use Rattle.sqlite.specs.FileStore.{view}
use Rattle.sqlite.specs.View.{IsClean as IsCleanStore}
use Rattle.ocpi_types.specs.declared.rows.Row.{Row}
use Rattle.row_table.specs.Kept.{Kept, IsClean, content, texts}
use Rattle.node_store.specs.Closed.{IsUnclosed}
use Rattle.node_store.specs.Contents.{Content, line_of, rows_of}
use Rattle.node_store.specs.Opened.{FindsInFile}
use Rattle.node_store.specs.declared.fault.StoreFault.{StoreFault}

-- it has what was found in a file that held this
abbrev pub IsFoundIn : {D : Type 0} {g : Ghosts D} → Image → Kept (FileStore D g) × ℕ → Type 0
IsFoundIn image k = IsClean over_files k.0 → FindsInFile image k.0.conn (content over_files k.0)

-- it has no text
abbrev pub IsBlank : {D : Type 0} {g : Ghosts D} → Kept (FileStore D g) × ℕ → Type 0
IsBlank k = IsClean over_files k.0 → texts over_files k.0 ≡ empty

-- what is told of a content: its rows; or none, where a text of it is no row, or that of the number of the last line is
-- no such number
abbrev pub Tells : Content → Option (List Row) → Type 0
Tells c (Some rows) = (rows_of c ≡ Some rows) × (line_of c ≢ None)
Tells c None = (rows_of c ≡ None) ⊎ (line_of c ≡ None)

-- A keeper of which these rows were told, or none where a text of it was no row or no number, became this one.
pub record HadRowsBefore {K : Type 0} (content_now : K → Content) (is_honest : K → Type 0) (k : K) (rows : Option (List Row)) (last : K) : Type 0 where
  pub earlier : is_honest last → is_honest k
  pub are : is_honest last → Tells (content_now k) rows
  pub same : is_honest last → content_now last ≡ content_now k

-- It was ended, and left this, also where that was refused.
abbrev pub HadRows : {K E L : Type 0} → (K → Content) → (K → Type 0) → (K → E → Type 0) → (K → StoreFault → L → Type 0) → K → Option (List Row) → Result E (StoreFault × L) → Type 0
HadRows {K} content_now is_honest leaves keeps k rows (Ok ended) = (last : K) × HadRowsBefore content_now is_honest k rows last × leaves last ended
HadRows {K} content_now is_honest leaves keeps k rows (Err e) = (last : K) × HadRowsBefore content_now is_honest k rows last × keeps last e.0 e.1

-- These rows were found in a file that held this, or none where a text was no row or no number. What was found became
-- this keeper.
pub record HeldRows {D : Type 0} {g : Ghosts D} (image : Image) (rows : Option (List Row)) (last : Kept (FileStore D g)) : Type 0 where
  pub first : Kept (FileStore D g)
  pub found : FindsInFile image first.conn (content over_files first)
  pub are : Tells (texts over_files first) rows
  pub same : texts over_files last ≡ texts over_files first

-- It was ended, as long as the disk returns what was written: what it had is in the database file alone. Where ending it
-- was refused, a stop leaves nothing that it did not leave before.
abbrev pub WereFound : {D : Type 0} (g : Ghosts D) → Image → Option (List Row) → Result (Files D) (StoreFault × FileStore D g) → Type 0
WereFound {D} g image rows (Ok files) = AreClean g files.log files.db → (last : Kept (FileStore D g)) × HeldRows image rows last × IsCopied last.conn files
WereFound {D} g image rows (Err e) = IsCleanStore (view e.1) → (last : Kept (FileStore D g)) × HeldRows image rows last × IsUnclosed last.conn e.1 e.0
