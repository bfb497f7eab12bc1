-- Keepers of files.
use Rattle.std.proofs.Common.{◌≡◌, ◌<◌, ℕ, List, [], Option, Some, None, Result, Ok, Err, IfOk, IfErr, inl, inr, sym, ap, subst, ◌∙◌, length, arith}
use Rattle.std.specs.FinMap.{empty}
use Rattle.sqlite_disk.specs.declared.Disk.{Ghosts}
use Rattle.sqlite.specs.declared.FileStore.{FileStore}
use Rattle.sqlite.specs.Recovery.{Image}
use Rattle.sqlite.specs.Tree.{Trees}
use Rattle.sqlite.specs.Effect.{Database}
use Rattle.sqlite.specs.Held.{Held}
use Rattle.sqlite.specs.Files.{AreFoundIn, IsEmpty, file_state}
use Rattle.row_table.specs.Contents.{HasVersion}
use Rattle.row_table.specs.Contents as table
use Rattle.node_store.specs.Moved.{OpensAs}
use Rattle.node_store.specs.Opened.{FindsInFile}
use Rattle.sqlite_disk.specs.declared.Files.{Files}
use Rattle.ocpi_types.specs.declared.rows.Row.{Row}
use Rattle.row_table.specs.Kept.{Kept, IsClean, content, texts}
use Rattle.sqlite.specs.Files.{over_files}
use Rattle.node_store.specs.Closed.{IsCopiedIfClean, IsUnclosed}
use Rattle.node_store.specs.Contents.{Content}
use Rattle.node_store.specs.declared.fault.StoreFault.{StoreFault}
use Rattle.node_keepers.specs.InFiles.{HadRows, HadRowsBefore, HeldRows, IsBlank, IsFoundIn, Tells, WereFound}

-- what is found in files of which the database is empty
found_nothing : (image : Image) (trees : Trees) → length image.db ≡ 0 → AreFoundIn image trees → IsEmpty trees
found_nothing image trees none (inl found) = let some : 0 < length image.db = found.3.found.present in absurd (omega (arith, some, none))
found_nothing image trees none (inr found) = found.1

-- a database without a row has no version
no_version : (version : ℕ) (trees : Trees) → trees 0 ≡ [] → HasVersion version trees → ⊥
no_version version trees none has = cc (none, has.only)

-- what is made of a database without a row has no text
no_texts : (db : Database) (c : table.Content) → db.trees 0 ≡ [] → OpensAs db c → c.texts ≡ empty
no_texts db c none (inl (inl finds)) = absurd (no_version 2 db.trees none finds.1)
no_texts db c none (inl (inr finds)) = ap (λ (x : table.Content). x.texts) finds.2
no_texts db c none (inr moved) = absurd (no_version 1 db.trees none moved.0.1)

-- a keeper of files that held nothing has no text
pub begins_blank : {D : Type 0} {g : Ghosts D} (image : Image) (now : Held (FileStore D g)) (c : table.Content) → length image.db ≡ 0 →
    FindsInFile image now c → c.texts ≡ empty
begins_blank image now c none found =
    let trees = (file_state found.was).committed.trees in
    let nothing : IsEmpty trees = found_nothing image trees none found.found.reads in
    let same : (file_state found.was).now.trees ≡ trees = ap (λ (d : Database). d.trees) found.opened.0.clean in
    no_texts (file_state found.was).now c (ap (λ (t : Trees). t 0) same ∙ nothing.0 0 (omega arith)) found.says

-- the same, of one that may have been opened
pub all_blank : {D : Type 0} {g : Ghosts D} (image : Image) (r : Result (Kept (FileStore D g) × ℕ) StoreFault) → IfOk r (IsFoundIn image) →
    length image.db ≡ 0 → IfOk r IsBlank
all_blank image (Ok k) found none = λ clean. begins_blank image k.0.conn (content over_files k.0) none (found clean)
all_blank image (Err e) found none = tt

-- what is known of a keeper that was opened is known of that which is handed on
pub handed_on : {K X : Type 0} (P : K → Type 0) (opened : Result K (StoreFault × X)) (r : Result K StoreFault) → IfOk opened (λ k. r ≡ Ok k) →
    IfErr opened (λ e. r ≡ Err e.0) → IfOk opened P → IfOk r P
handed_on {K} P (Ok k) r same fault known = subst (λ (x : Result K StoreFault). IfOk x P) (sym same) known
handed_on {K} P (Err e) r same fault known = subst (λ (x : Result K StoreFault). IfOk x P) (sym fault) tt

each_ok : {X E : Type 0} (P Q : X → Type 0) (r : Result X E) → ((x : X) → P x → Q x) → IfOk r P → IfOk r Q
each_ok P Q (Ok x) all known = all x known
each_ok P Q (Err e) all known = tt

each_err : {X E : Type 0} (P Q : E → Type 0) (r : Result X E) → ((e : E) → P e → Q e) → IfErr r P → IfErr r Q
each_err P Q (Ok x) all known = tt
each_err P Q (Err e) all known = all e known

-- what follows of a keeper that was opened, for that which was made of it
of_opened : {K F : Type 0} (Known : K → Type 0) (P : K → F → Type 0) (Q : F → Type 0) (opened : Result K StoreFault) (r : Result F StoreFault) →
    ((k : K) (f : F) → Known k → P k f → Q f) → IfOk opened Known → IfErr opened (λ e. r ≡ Err e) → IfOk opened (λ k. IfOk r (P k)) → IfOk r Q
of_opened Known P Q (Ok k) (Ok f) each known fault told = each k f known told
of_opened Known P Q (Ok k) (Err e) each known fault told = tt
of_opened Known P Q (Err e) (Ok f) each known fault told = absurd (cc fault)
of_opened Known P Q (Err e) (Err other) each known fault told = tt

-- what is told of a keeper's rows, however it ended
pub had_rows : {K E L : Type 0} (content_now : K → Content) (is_honest : K → Type 0) (leaves : K → E → Type 0) (keeps : K → StoreFault → L → Type 0) (k last : K) (rows : Option (List Row))
    (closed : Result E (StoreFault × L)) → (is_honest last → is_honest k) → (is_honest last → Tells (content_now k) rows) → (is_honest last → content_now last ≡ content_now k)
    → IfOk closed (leaves last) → IfErr closed (λ e. keeps last e.0 e.1) → HadRows content_now is_honest leaves keeps k rows closed
had_rows content_now is_honest leaves keeps k last rows (Ok ended) earlier are same left kept = (last, record { earlier = earlier; are = are; same = same }, left)
had_rows content_now is_honest leaves keeps k last rows (Err e) earlier are same left kept = (last, record { earlier = earlier; are = are; same = same }, kept)

-- a keeper of a file had these rows
abbrev pub TheRows : {D : Type 0} {g : Ghosts D} → Kept (FileStore D g) × ℕ → Option (List Row) → Result (Files D) (StoreFault × FileStore D g) → Type 0
TheRows {D} {g} = HadRows (λ (k : Kept (FileStore D g) × ℕ). texts over_files k.0) (λ (k : Kept (FileStore D g) × ℕ). IsClean over_files k.0)
    (λ (k : Kept (FileStore D g) × ℕ) (files : Files D). IsCopiedIfClean k.0.conn files)
    (λ (k : Kept (FileStore D g) × ℕ) (fault : StoreFault) (left : FileStore D g). IsUnclosed k.0.conn left fault)

-- they were found in the file
module _ {D : Type 0} {g : Ghosts D} (image : Image) where
  abbrev HadThem : Kept (FileStore D g) × ℕ → Option (List Row) → Kept (FileStore D g) × ℕ → Type 0
  HadThem k rows last = HadRowsBefore (λ (k : Kept (FileStore D g) × ℕ). texts over_files k.0) (λ (k : Kept (FileStore D g) × ℕ). IsClean over_files k.0) k rows last

  held : (k last : Kept (FileStore D g) × ℕ) (rows : Option (List Row)) → IsFoundIn image k → HadThem k rows last → IsClean over_files last.0 → HeldRows image rows last.0
  held k last rows found had clean = record { first = k.0; found = found (had.earlier clean); are = had.are clean; same = had.same clean }

  the_rows : (k : Kept (FileStore D g) × ℕ) (rows : Option (List Row)) (closed : Result (Files D) (StoreFault × FileStore D g)) → IsFoundIn image k → TheRows k rows closed
      → WereFound g image rows closed
  the_rows k rows (Ok files) found had = λ clean.
      let copied = had.2 clean in
      (had.0.0, held k had.0 rows found had.1 copied.was_clean, copied)
  the_rows k rows (Err e) found had = λ clean.
      let was : IsClean over_files had.0.0 = let more = had.2.closed.quiet.clean in omega arith in
      (had.0.0, held k had.0 rows found had.1 was, had.2)

  module _ {F V : Type 0} (opened : Result (Kept (FileStore D g) × ℕ) StoreFault) (r : Result F StoreFault) (found : IfOk opened (IsFoundIn image))
      (fault : IfErr opened (λ e. r ≡ Err e)) (rows : F → Result V StoreFault) (items : V → List Row) (closed : F → Result (Files D) (StoreFault × FileStore D g)) where
    pub rows_found : IfOk opened (λ k. IfOk r (λ f. IfOk (rows f) (λ v. TheRows k (Some (items v)) (closed f)))) →
        IfOk r (λ f. IfOk (rows f) (λ v. WereFound g image (Some (items v)) (closed f)))
    rows_found told =
        of_opened (IsFoundIn image) (λ (k : Kept (FileStore D g) × ℕ) (f : F). IfOk (rows f) (λ v. TheRows k (Some (items v)) (closed f)))
        (λ (f : F). IfOk (rows f) (λ v. WereFound g image (Some (items v)) (closed f))) opened r
        (λ k f known. each_ok (λ (v : V). TheRows k (Some (items v)) (closed f)) (λ (v : V). WereFound g image (Some (items v)) (closed f)) (rows f)
        (λ v. the_rows k (Some (items v)) (closed f) known))
        found fault told

    pub bad_found : (bad : StoreFault) → IfOk opened (λ k. IfOk r (λ f. IfErr (rows f) (λ e. e ≡ bad → TheRows k None (closed f)))) →
        IfOk r (λ f. IfErr (rows f) (λ e. e ≡ bad → WereFound g image None (closed f)))
    bad_found bad told =
        of_opened (IsFoundIn image) (λ (k : Kept (FileStore D g) × ℕ) (f : F). IfErr (rows f) (λ e. e ≡ bad → TheRows k None (closed f)))
        (λ (f : F). IfErr (rows f) (λ e. e ≡ bad → WereFound g image None (closed f))) opened r
        (λ k f known. each_err (λ (e : StoreFault). e ≡ bad → TheRows k None (closed f))
        (λ (e : StoreFault). e ≡ bad → WereFound g image None (closed f)) (rows f)
        (λ e had is. the_rows k None (closed f) known (had is)))
        found fault told
