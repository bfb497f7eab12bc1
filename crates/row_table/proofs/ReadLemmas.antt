-- What a query by itself leaves, and what it shows.
use Rattle.std.proofs.Common.{◌≡◌, ◌⊎◌, inl, inr, ℕ, List, [], true, cond, IsTrue, IfOk, IfErr, Option, Some, None, Ok, Err, Result, Vec, refl, ap, ◌∙◌}
use Rattle.std.specs.declared.alloc.Global.{Global}
use Rattle.sqlite.specs.Order.{Row}
use Rattle.sqlite.specs.Store.{Ghosts}
use Rattle.sqlite.specs.declared.error.Error.{Error}
use Rattle.sqlite_resolve.specs.declared.compiled.Compiled.{Compiled}
use Rattle.sqlite_schema.specs.declared.command.Returning.{Returning}
use Rattle.sqlite.specs.State.{State, IsUnchanged, IsRolledBack, KeepsCommit, IsNotRun, FailsToQuery, FailsToShow, ShowsRows, Shown, IsTooLate}
use Rattle.sqlite.specs.Held.{Held, state}
use Rattle.row_table.specs.Effects.{HasUndone}
use Rattle.row_table.specs.Reading.{IsAnswered}

module _ (old new : State) where
  unchanged : IsUnchanged old new → KeepsCommit old new
  unchanged same = record { was_open = λ _. same.0.was_open; committed = λ _. same.0.committed_is }

  rolled : IsRolledBack old new → KeepsCommit old new
  rolled back = record { was_open = back.was_open; committed = λ h. (back.undone h).1 }

  not_run : (sql : List ℕ) (params : Row) (e : Error) → IsNotRun old new sql params e → KeepsCommit old new
  unfolding IsNotRun
  not_run sql params e (inl h) = unchanged h.1
  not_run sql params e (inr h) = rolled h.3

  to_show : (sql : List ℕ) (c : Compiled) (params : Row) (e : Error) (r : Option Returning) → FailsToShow old new sql c params e r → KeepsCommit old new
  to_show sql c params e None h = unchanged h.3
  to_show sql c params e (Some what) (inl h) = unchanged h.1
  to_show sql c params e (Some what) (inr h) = rolled h.3

  fails_keep : (sql : List ℕ) (params : Row) (e : Error) → FailsToQuery sql params old new e ⊎ IsTooLate sql params old new e → KeepsCommit old new
  unfolding FailsToQuery
  fails_keep sql params e (inl (inl h)) = not_run sql params e h
  fails_keep sql params e (inl (inr h)) = to_show sql h.0 _ e h.0.returning h.2
  fails_keep sql params e (inr h) = unchanged h.5

  rows_keep : (sql : List ℕ) (c : Compiled) (params : Row) (rows : List Row) (r : Option Returning) → old.in_transaction ≡ true → ShowsRows old new sql c params rows r → KeepsCommit old new × IsTrue old.is_open
  rows_keep sql c params rows None within h = (unchanged h.3, h.3.0.was_open)
  rows_keep sql c params rows (Some what) within h =
      (record { was_open = λ _. h.1.shown.was_open; committed = λ _. h.1.shown.committed_is ∙ ap (λ b. cond b old.committed new.now) within }, h.1.shown.was_open)

  pub shown_keeps : (sql : List ℕ) (params : Row) (rows : List Row) → old.in_transaction ≡ true → Shown sql params old new rows → KeepsCommit old new × IsTrue old.is_open
  unfolding Shown
  shown_keeps sql params rows within h = rows_keep sql h.0 _ rows h.0.returning within h.2

  pub query_keeps : (sql : List ℕ) (params : Row) (r : Result (Vec Row Global) Error) → old.in_transaction ≡ true → IfOk r (λ v. Shown sql params old new v.items)
      → IfErr r (λ e. FailsToQuery sql params old new e ⊎ IsTooLate sql params old new e) → KeepsCommit old new
  query_keeps sql params (Ok v) within shown fails = (shown_keeps sql params v.items within shown).0
  query_keeps sql params (Err e) within shown fails = fails_keep sql params e fails

pub undone_after : (old last end : State) → KeepsCommit (record old { in_transaction = true }) last → IsRolledBack last end → HasUndone old end
undone_after old last end kept back = record {
  was_open = λ h. kept.was_open (back.was_open h);
  undone = λ h. let same = kept.committed (back.was_open h) in ((back.undone h).0 ∙ same, (back.undone h).1 ∙ same);
}

pub answered : {S : Type 0} (g : Ghosts S) (old mid : Held S) (sql : List ℕ) (r : Result (Vec Row Global) Error) → IfOk r (λ v. Shown sql [] (state g (record old { in_transaction = true })) (state g mid) v.items) → IfOk r (λ v. IsAnswered g old sql v.items)
answered g old mid sql (Ok v) shown = record { mid = mid; shown = shown }
answered g old mid sql (Err e) shown = tt

pub answered_open : {S : Type 0} (g : Ghosts S) (old : Held S) (sql : List ℕ) (rows : List Row) → IsAnswered g old sql rows → IsTrue (state g old).is_open
answered_open g old sql rows h = (shown_keeps (state g (record old { in_transaction = true })) (state g h.mid) sql [] rows refl h.shown).1
