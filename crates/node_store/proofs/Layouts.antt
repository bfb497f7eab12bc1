-- What a call leaves of a keeper's table.
use Rattle.std.proofs.Common.{◌≡◌, ◌⊎◌, inl, inr, ℕ, pos, List, [], ◌∷◌, map, OnOk, OnErr, Ok, Err, Result, sym, ap, ◌∙◌}
use Rattle.sqlite.specs.declared.types.Value.{Value}
use Rattle.sqlite.specs.declared.types.Value.TheVariants.{Int}
use Rattle.sqlite.specs.Order.{Row, column}
use Rattle.sqlite.specs.Tree.{Trees}
use Rattle.sqlite.specs.Store.{Ghosts}
use Rattle.sqlite.specs.Effect.{Database}
use Rattle.row_table.specs.Contents.{IsNumbered, content_of, versions, with_texts}
use Rattle.row_table.specs.Contents as table
use Rattle.row_table.specs.Opening.{Finds}
use Rattle.row_table.specs.Kept.{Kept, IsClean, Leaves, LeavesWhole, MayLeave, content}
use Rattle.node_store.specs.Contents.{Content}
use Rattle.node_store.specs.Layout.{KeepsLayout}
use Rattle.node_store.specs.Moved.{IsMovedTo}

module _ {S : Type 0} (g : Ghosts S) (old new : Kept S) where
  -- ---- the texts

  pub texts_left : ((trees : Trees) → Leaves g new trees → Leaves g old trees) → (t : Content) → MayLeave g new t → MayLeave g old t
  texts_left left t may = (may.0, left may.0 may.1, may.2)

  pub texts_made : (c : table.Content) → ((trees : Trees) → Leaves g new trees → Leaves g old trees ⊎ (content_of trees ≡ c)) → (t : Content) → MayLeave g new t → MayLeave g old t ⊎ (t ≡ c.texts)
  texts_made c left t may = elim (left may.0 may.1) [ inl before ↦ inl (may.0, before, may.2) | inr is ↦ inr (may.2 ∙ ap (λ (d : table.Content). d.texts) is) ]

  -- ---- the layout

  pub layout_read : (IsClean g new → IsClean g old) → content g new ≡ content g old → (IsClean g new → (trees : Trees) → Leaves g new trees → Leaves g old trees) → KeepsLayout g old → KeepsLayout g new
  layout_read honest kept left was clean =
      let it = was (honest clean) in
      record { version = ap (λ (c : table.Content). c.versions) kept ∙ it.version; left = λ trees may. it.left trees (left clean trees may) }

  same_versions : {A E : Type 0} (r : Result A E) (t : Content) → OnOk r (content g new ≡ with_texts (content g old) t) → OnErr r (content g new ≡ content g old) → (content g new).versions ≡ (content g old).versions
  same_versions (Ok a) t all none = ap (λ (c : table.Content). c.versions) all
  same_versions (Err e) t all none = ap (λ (c : table.Content). c.versions) none

  pub layout_changed : {A E : Type 0} (r : Result A E) (t : Content) → (IsClean g new → IsClean g old) → (IsClean g new → OnOk r (content g new ≡ with_texts (content g old) t)) → (IsClean g new → OnErr r (content g new ≡ content g old))
      → (IsClean g new → (trees : Trees) → Leaves g new trees → Leaves g old trees ⊎ (content_of trees ≡ with_texts (content g old) t)) → (IsClean g new → LeavesWhole g new) → KeepsLayout g old → KeepsLayout g new
  layout_changed r t honest all none stops whole was clean =
      let it = was (honest clean) in
      record {
        version = same_versions r t (all clean) (none clean) ∙ it.version;
        left = λ trees may. (whole clean trees may, elim (stops clean trees may) [ inl before ↦ (it.left trees before).1 | inr is ↦ ap (λ (c : table.Content). c.versions) is ∙ it.version ]);
      }

pub texts_settled : {S : Type 0} (g : Ghosts S) (k : Kept S) → ((trees : Trees) → Leaves g k trees → content_of trees ≡ content g k) → (t : Content) → MayLeave g k t → t ≡ (content g k).texts
texts_settled g k settled t may = may.2 ∙ ap (λ (d : table.Content). d.texts) (settled may.0 may.1)

pub numbered : (version : ℕ) (rows : List Row) → IsNumbered version rows → map (λ (r : Row). column r 1) rows ≡ Int (pos version) ∷ []
numbered version rows v = ap (map (λ (r : Row). column r 1)) v.only ∙ ap (λ (x : Value). x ∷ []) v.has_version

-- a table that was opened has the version that was found
opened_version : (version found : ℕ) (db : Database) (c : table.Content) → Finds version found db c → c.versions ≡ Int (pos found) ∷ []
opened_version version found db c (inl h) = ap (λ (d : table.Content). d.versions) h.2 ∙ numbered found (db.trees 0) h.1
opened_version version found db c (inr h) = ap (λ (d : table.Content). d.versions) h.2 ∙ ap (λ (n : ℕ). Int (pos n) ∷ []) (sym h.1)

-- a stop leaves just what it has, which is of layout 2
layout_two : {S : Type 0} (g : Ghosts S) (k : Kept S) → (IsClean g k → (content g k).versions ≡ Int (pos 2) ∷ []) → (IsClean g k → (trees : Trees) → Leaves g k trees → content_of trees ≡ content g k) → (IsClean g k → LeavesWhole g k) → KeepsLayout g k
layout_two g k version stops whole clean =
    record { version = version clean; left = λ trees may. (whole clean trees may, ap (λ (c : table.Content). c.versions) (stops clean trees may) ∙ version clean) }

pub layout_opened : {S : Type 0} (g : Ghosts S) (found : ℕ) (db : Database) (k : Kept S) → found ≡ 2 → (IsClean g k → Finds 2 found db (content g k)) → (IsClean g k → (trees : Trees) → Leaves g k trees → content_of trees ≡ content g k)
    → (IsClean g k → LeavesWhole g k) → KeepsLayout g k
layout_opened g found db k two finds = layout_two g k (λ clean. opened_version 2 found db (content g k) (finds clean) ∙ ap (λ (n : ℕ). Int (pos n) ∷ []) two)

pub layout_moved : {S : Type 0} (g : Ghosts S) (k : Kept S) (old : Content) → (IsClean g k → IsMovedTo old (content g k)) → (IsClean g k → (trees : Trees) → Leaves g k trees → content_of trees ≡ content g k) → (IsClean g k → LeavesWhole g k) → KeepsLayout g k
layout_moved g k old moved = layout_two g k (λ clean. (moved clean).0)
