-- What calls leave of a table of texts.
use Rattle.std.proofs.Common.{◌≡◌, ◌⊎◌, inl, inr, List, [], ◌∷◌, false, IsTrue, OnErr, Result, Ok, Err, slice_index_or, refl, sym, ap, subst, ◌∙◌}
use Rattle.sqlite.specs.Tree.{Trees}
use Rattle.sqlite.specs.Store.{Ghosts}
use Rattle.sqlite.specs.Effect.{Database}
use Rattle.sqlite.specs.State.{State, HasCleanDisk}
use Rattle.sqlite.specs.Held.{Held, state}
use Rattle.row_table.specs.Contents.{Content, IsWhole, content_of}
use Rattle.row_table.specs.Effects.{HasTables, HasCommitted, HasUndone}
use Rattle.row_table.specs.Kept.{IsAtRest}

-- the one item is found, whatever stands for it past the end
pub the_one : {X : Type 0} (items : List X) (x a b : X) → items ≡ slice_index_or items 0 a ∷ [] → slice_index_or items 0 b ≡ slice_index_or items 0 a
the_one items x a b one = ap (λ l. slice_index_or l 0 b) one

pub still_one : {X : Type 0} (items : List X) (a b : X) → items ≡ slice_index_or items 0 a ∷ [] → items ≡ slice_index_or items 0 b ∷ []
still_one items a b one = one ∙ ap (λ x. x ∷ []) (sym (the_one items a a b one))

-- what holds at all times holds after an error
pub any_err : {A E : Type 0} (r : Result A E) (P : Type 0) → P → OnErr r P
any_err (Ok a) P p = tt
any_err (Err e) P p = p

-- while a store is open, a stop leaves the last commit and nothing else
abbrev pub LeavesCommit : State → Type 0
LeavesCommit s = IsTrue s.is_open → (db : Trees) → s.may_leave db → db ≡ s.committed.trees

-- what a stop could leave before the call, or inside its commit, is whole
pub left_whole : (old : State) (Other : Trees → Type 0) → ((trees : Trees) → old.may_leave trees → IsWhole trees) → ((trees : Trees) → Other trees → IsWhole trees) → (trees : Trees) → old.may_leave trees ⊎ Other trees → IsWhole trees
left_whole old Other before inside trees (inl may) = before trees may
left_whole old Other before inside trees (inr may) = inside trees may

module _ {S : Type 0} (g : Ghosts S) (old last new : Held S) where
  pub undone_rest : IsAtRest g (record { conn = old; last = last }) → new.in_transaction ≡ false → (HasCleanDisk (state g new) → HasCleanDisk (state g old)) → (HasCleanDisk (state g new) → HasUndone (state g old) (state g new))
      → (HasCleanDisk (state g new) → (trees : Trees) → (state g new).may_leave trees → IsWhole trees) → IsAtRest g (record { conn = new; last = last })
  undone_rest rest idle earlier undone left =
      let back = λ (clean : HasCleanDisk (state g new)) (is_open : IsTrue (state g new).is_open).
      let it = undone clean in
      let now : (state g new).now ≡ (state g old).now = (it.undone is_open).0 ∙ sym (rest.settled (earlier clean) (it.was_open is_open)) in
      now in
      record {
        idle = idle;
        tables = λ clean is_open. subst HasTables (sym (back clean is_open)) (rest.tables (earlier clean) ((undone clean).was_open is_open));
        same = λ clean is_open. ap (λ (d : Database). content_of d.trees) (back clean is_open) ∙ rest.same (earlier clean) ((undone clean).was_open is_open);
        settled = λ clean is_open. ((undone clean).undone is_open).0 ∙ sym ((undone clean).undone is_open).1;
        left = left;
      }

  pub committed_rest : new.in_transaction ≡ false → (c : Content) → (HasCleanDisk (state g new) → HasCommitted (state g old) (state g new) c) → LeavesCommit (state g new) → IsAtRest g (record { conn = new; last = new })
  committed_rest idle c done law = record {
    idle = idle;
    tables = λ clean _. (done clean).tables;
    same = λ clean _. refl;
    settled = λ clean _. (done clean).settled;
    left = λ clean trees may.
        let it = done clean in
        subst IsWhole (sym (law it.is_open trees may ∙ sym (ap (λ (d : Database). d.trees) it.settled))) it.tables.whole;
  }
