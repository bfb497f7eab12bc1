-- What a stop leaves is what the next opening finds.
use Rattle.std.proofs.Common.{◌≡◌, ◌⊎◌, inl, inr, ℕ, ◌+◌, pos, List, [], ◌∷◌, map, Option, Some, None, Ok, Result, refl, sym, ap, subst, ◌∙◌, arith}
use Rattle.std.specs.List.{AllZip}
use Rattle.std.specs.FinMap.{empty}
use Rattle.sqlite.specs.declared.types.Value.{Value}
use Rattle.sqlite.specs.declared.types.Value.TheVariants.{Int, Text}
use Rattle.sqlite.specs.Order.{Row, column}
use Rattle.sqlite.specs.Tree.{Trees}
use Rattle.sqlite.specs.Table.{Table}
use Rattle.sqlite.specs.Schema.{Schema}
use Rattle.sqlite.specs.Effect.{Database}
use Rattle.sqlite.specs.Store.{Ghosts}
use Rattle.sqlite.specs.Held.{Held, state}
use Rattle.sqlite_catalog.specs.Listing.{IsSound, IsTableRow}
use Rattle.sqlite_resolve.specs.Compile.{table_defined_by}
use Rattle.sqlite_resolve.specs.declared.error.CompileError.{CompileError}
use Rattle.row_table.specs.declared.opening.OpenFault.{OpenFault}
use Rattle.row_table.specs.Layout.{both_tables, no_schema}
use Rattle.row_table.specs.Contents.{Content, IsNewStore, IsWhole, at_version, content_of, versions}
use Rattle.row_table.specs.Checking.{HasOurNames, outline}
use Rattle.row_table.specs.Effects.{Edit}
use Rattle.row_table.specs.Kept.{Kept, Leaves, content}
use Rattle.row_table.specs.Opening.{Finds, IsOldLayout}
use Rattle.row_table.specs.History.{Happening, Opened, Refused, Changed, Failed, Holds, IsFor, IsOther, IsOver, IsRefused, IsFailed, Follows, IsKept, StopsAreFound, changed, opened_as}
use Rattle.row_table.proofs.KeptLemmas.{LeavesCommit}

-- ---- the rows of sqlite_schema tell the tables

same_number : (a b : ℕ) → Int (pos (a + 1)) ≡ Int (pos (b + 1)) → a ≡ b
same_number a b e = let next : a + 1 ≡ b + 1 = cc in omega arith

same_text : (s t : List ℕ) → Text s ≡ Text t → s ≡ t
same_text s t e = cc

same_made : (s t : Table) (r : Result Table CompileError) → r ≡ Ok s → r ≡ Ok t → s ≡ t
same_made s t r e f = let g : ◌≡◌ {A = Result Table CompileError} (Ok s) (Ok t) = sym e ∙ f in cc

numbered : Table → ℕ → Table
numbered made tree = record made { tree = tree }

one_table : (row : Row) (a b : Table) → IsTableRow row a → IsTableRow row b → a ≡ b
unfolding numbered
one_table row a b p q =
    let sql = same_text p.sql q.sql (sym p.sql_is ∙ q.sql_is) in
    let tree = same_number a.tree b.tree (sym p.described.id ∙ q.described.id) in
    let made = same_made p.defined.0 q.defined.0 _ p.defined.1 (subst (λ (s : List ℕ). table_defined_by s ≡ Ok q.defined.0) (sym sql) q.defined.1) in
    p.defined.2 ∙ ap (λ (t : Table). numbered t a.tree) made ∙ ap (numbered q.defined.0) tree ∙ sym q.defined.2

one_list : (rows : List Row) (ss ts : List Table) → AllZip IsTableRow rows ss → AllZip IsTableRow rows ts → ss ≡ ts
one_list [] [] [] p q = refl
one_list [] [] (t ∷ ts) p q = absurd q
one_list [] (s ∷ ss) ts p q = absurd p
one_list (r ∷ rows) [] ts p q = absurd p
one_list (r ∷ rows) (s ∷ ss) [] p q = absurd q
one_list (r ∷ rows) (s ∷ ss) (t ∷ ts) p q =
    ap (λ (x : Table). x ∷ ss) (one_table r s t p.0 q.0) ∙ ap (λ (l : List Table). t ∷ l) (one_list rows ss ts p.1 q.1)

same_tables : (s t : Schema) (trees : Trees) → IsSound s trees → IsSound t trees → s.tables ≡ t.tables
same_tables s t trees p q = one_list _ s.tables t.tables p.lists.listed.tables q.lists.listed.tables

none_listed : {X Y : Type 0} (P : Row → X → Type 0) (Q : Row → Y → Type 0) (rows : List Row) (ys : List Y) → AllZip P rows [] → AllZip Q rows ys → ys ≡ []
none_listed P Q [] [] p q = refl
none_listed P Q [] (y ∷ ys) p q = absurd q
none_listed P Q (r ∷ rows) ys p q = absurd p

-- a store with nothing has no schema
no_other : (s : Schema) (trees : Trees) → IsSound no_schema trees → IsSound s trees → s ≡ no_schema
no_other s trees none some =
    let tables = none_listed _ _ _ s.tables none.lists.listed.tables some.lists.listed.tables in
    let indexes = none_listed _ _ _ s.indexes none.lists.listed.indexes some.lists.listed.indexes in
    let views = none_listed _ _ _ s.views none.lists.listed.views some.lists.listed.views in
    ap (λ l. let t : Schema = record { tables = l; indexes = s.indexes; views = s.views } in t) tables
    ∙ ap (λ l. let t : Schema = record { tables = []; indexes = l; views = s.views } in t) indexes
    ∙ ap (λ l. let t : Schema = record { tables = []; indexes = []; views = l } in t) views

some_tables : both_tables.tables ≡ [] → ⊥
some_tables e = cc

-- a whole store has the names of its tables
our_names : (s : Schema) (trees : Trees) → IsWhole trees → IsSound s trees → HasOurNames s
our_names s trees whole sound = inl (ap (map outline) (same_tables s both_tables trees sound whole.listed))

not_empty : (s : Schema) (trees : Trees) → IsWhole trees → IsSound s trees → s ≡ no_schema → ⊥
not_empty s trees whole sound none = some_tables (same_tables both_tables s trees whole.listed sound ∙ ap (λ (t : Schema). t.tables) none)

-- ---- what an opening finds

holds_found : (version found : ℕ) (db : Database) (held : Option Content) (c : Content) → IsSound db.schema db.trees → Holds db.trees held → Finds version found db c → IsFor version found held × (c ≡ opened_as version held)
holds_found version found db None c sound none (inl h) = absurd (some_tables (same_tables both_tables no_schema db.trees (subst (λ (s : Schema). IsSound s db.trees) h.0 sound) none))
holds_found version found db None c sound none (inr h) = (h.1, h.2)
holds_found version found db (Some d) c sound holds (inl h) =
    let v = h.1 in
    let number : versions db.trees ≡ Int (pos found) ∷ [] = ap (map (λ (r : Row). column r 1)) v.only ∙ ap (λ (x : Value). x ∷ []) v.has_version in
    (ap (λ (e : Content). e.versions) (sym holds.1) ∙ number, h.2 ∙ holds.1)
holds_found version found db (Some d) c sound holds (inr h) = absurd (not_empty db.schema db.trees holds.0 sound h.0)

told_old : (version older : ℕ) (db : Database) (held : Option Content) → IsSound db.schema db.trees → Holds db.trees held → IsOldLayout version older db → IsOther version older held
told_old version older db None sound none old = old.0 (no_other db.schema db.trees none sound)
told_old version older db (Some d) sound holds (some, inl names) = absurd (names (our_names db.schema db.trees holds.0 sound))
told_old version older db (Some d) sound holds (some, inr other) =
    let same = ap (λ (e : Content). e.versions) holds.1 in
    (λ is. other.0 (same ∙ is), λ is. other.1 (same ∙ is))

-- what a refused opening leaves
new_held : (version : ℕ) (db : Database) (held : Option Content) (trees : Trees) → IsSound db.schema db.trees → Holds db.trees held → db.schema ≡ no_schema → IsNewStore version trees
    → (h : Option Content) × ((h ≡ held) ⊎ ((held ≡ None) × (h ≡ Some (at_version version empty)))) × Holds trees h
new_held version db None trees sound none empty_schema made = (Some (at_version version empty), inr (refl, refl), (made.whole, made.holds))
new_held version db (Some d) trees sound holds empty_schema made = absurd (not_empty db.schema db.trees holds.0 sound empty_schema)

-- ---- over all that happens

module _ {S : Type 0} (g : Ghosts S) (law : (h : Held S) → LeavesCommit (state g h)) where
  -- a stop leaves only what may be held, and what the open table leaves is among it
  record Stands (left : Trees → Type 0) (now : Option (Kept S)) (may : Option Content → Type 0) : Type 0 where
    left_held : (trees : Trees) → left trees → (h : Option Content) × may h × Holds trees h
    table_left : (k : Kept S) → now ≡ Some k → (trees : Trees) → Leaves g k trees → left trees

  same_table : (a b : Kept S) → Some a ≡ Some b → a ≡ b
  same_table a b e = cc

  -- where a stop leaves just this
  stands_at : (k : Kept S) → ((trees : Trees) → Leaves g k trees → content_of trees ≡ content g k) → ((trees : Trees) → Leaves g k trees → IsWhole trees) → Stands (Leaves g k) (Some k) (λ h. h ≡ Some (content g k))
  stands_at k just whole = record {
    left_held = λ trees may. (Some (content g k), refl, (whole trees may, just trees may));
    table_left = λ other same trees may. subst (λ (j : Kept S). Leaves g j trees) (sym (same_table k other same)) may;
  }

  held_now : (left : Trees → Type 0) (now : Option (Kept S)) (may : Option Content → Type 0) (conn : Held S) → Stands left now may → IsOver g left conn
      → (h : Option Content) × may h × Holds (state g conn).now.trees h
  held_now left now may conn stands over =
      let held = stands.left_held _ over.found in
      (held.0, held.1, subst (λ (d : Database). Holds d.trees held.0) (sym over.opens.clean) held.2)

  stands_refused : (version older : ℕ) (fault : OpenFault) (conn back : Held S) (held : Option Content) (left : Trees → Type 0) → IsOver g left conn → Holds (state g conn).now.trees held → IsRefused g version older fault conn back
      → Stands (state g back).may_leave None (λ h. (h ≡ held) ⊎ ((held ≡ None) × (h ≡ Some (at_version version empty))))
  stands_refused version older fault conn back held left over holds refused = record {
    left_held = λ trees may. elim (refused.spared.stops trees may) [
      | inl before ↦
          let same : trees ≡ (state g conn).now.trees = law conn over.opens.is_open trees before ∙ sym (ap (λ (d : Database). d.trees) over.opens.clean) in
          (held, inl refl, subst (λ (t : Trees). Holds t held) (sym same) holds)
      | inr made ↦ new_held version (state g conn).now held trees (over.live over.opens.is_open).0 holds made.0 made.1
    ];
    table_left = λ k same. absurd (let e = same in cc);
  }

  stands_failed : (version : Option ℕ) (edits : List Edit) (old new : Kept S) (left : Trees → Type 0) (now : Option (Kept S)) (may : Option Content → Type 0) → Stands left now may → now ≡ Some old → IsFailed g version edits old new
      → Stands (Leaves g new) (Some new) (λ h. may h ⊎ (h ≡ Some (changed version edits (content g old))))
  stands_failed version edits old new left now may stands open_one failed = record {
    left_held = λ trees m. elim (failed.stops trees m) [
      | inl before ↦ let held = stands.left_held trees (stands.table_left old open_one trees before) in (held.0, inl held.1, held.2)
      | inr made ↦ (Some (changed version edits (content g old)), inr refl, (failed.whole trees m, made))
    ];
    table_left = λ k same trees m. subst (λ (j : Kept S). Leaves g j trees) (sym (same_table new k same)) m;
  }

  kept : (history : List (Happening S)) (left : Trees → Type 0) (now : Option (Kept S)) (may : Option Content → Type 0) → Stands left now may → Follows g left now history → IsKept g may history
  kept [] left now may stands run = tt
  kept (Opened version of conn table ∷ rest) left now may stands run =
      let over = run.0 in
      let held = held_now left now may conn stands over in
      let found = holds_found version of (state g conn).now held.0 (content g table) (over.live over.opens.is_open).0 held.2 run.1.finds in
      ((held.0, held.1, found.0, found.1), kept rest _ _ _ (stands_at table run.1.stops run.1.whole) run.2)
  kept (Refused version older fault conn back ∷ rest) left now may stands run =
      let over = run.0 in
      let held = held_now left now may conn stands over in (
        held.0,
        held.1,
        (λ is. told_old version older (state g conn).now held.0 (over.live over.opens.is_open).0 held.2 (run.1.old is)),
        kept rest _ _ _ (stands_refused version older fault conn back held.0 left over held.2 run.1) run.2,
      )
  kept (Changed version edits old new ∷ rest) left now may stands run =
      (run.1.all, kept rest _ _ _ (stands_at new run.1.settled run.1.whole) run.2)
  kept (Failed version edits old new ∷ rest) left now may stands run =
      (run.1.none, kept rest _ _ _ (stands_failed version edits old new left now may stands run.0 run.1) run.2)

  pub stops_are_found : StopsAreFound g
  stops_are_found history run =
      kept history _ None _ (record { left_held = λ trees sound. (None, refl, sound); table_left = λ k same. absurd (let e = same in cc) }) run
