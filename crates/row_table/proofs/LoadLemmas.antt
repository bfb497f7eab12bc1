-- The rows that are read in order are the entries.
use Rattle.std.proofs.Common.{◌≡◌, ℕ, true, List, map, T, IfOk, OnOk, Ok, Err, Result, Vec}
use Rattle.std.specs.declared.alloc.Global.{Global}
use Rattle.std.specs.FinMap.{entries, is_sorted}
use Rattle.sqlite.specs.Order.{Row}
use Rattle.sqlite.specs.Store.{Ghosts}
use Rattle.sqlite.specs.declared.error.Error.{Error}
use Rattle.sqlite.specs.Held.{Held, state}
use Rattle.tables.specs.Keys.{text_pair_cmp}
use Rattle.row_table.specs.Texts.{Place, texts_of}
use Rattle.row_table.specs.Effects.{HadTables}
use Rattle.row_table.specs.Reading.{IsAnswered, entry_shown}
use Rattle.row_table.proofs.Meanings.{select_text}
use Rattle.row_table.proofs.StatementLemmas.{selects}
use Rattle.row_table.proofs.ReadLemmas.{answered_open}
use Rattle.row_table.proofs.SortLemmas.{entries_read}

pub loaded : {S : Type 0} (g : Ghosts S) (old : Held S) (rows : List Row) (r : Result (Vec (Place × List ℕ) Global) Error) → IsAnswered g old select_text rows → HadTables (state g old)
    → IfOk r (λ v. v.items ≡ map entry_shown rows) → IfOk r (λ v. T (is_sorted text_pair_cmp v.items)) → IfOk r (λ v. entries (texts_of (state g old).now.trees) ≡ v.items)
loaded g old rows (Ok v) answer had read sorted =
    let has = had (answered_open g old select_text rows answer) in
    let moved = selects (state g (record old { in_transaction = true })) (state g answer.mid) rows has.schema answer.shown in
    entries_read ((state g old).now.trees 1) rows v.items moved read sorted
loaded g old rows (Err e) answer had read sorted = tt

pub any_ok : {A E : Type 0} (r : Result A E) (P : Type 0) → P → OnOk r P
any_ok (Ok a) P p = p
any_ok (Err e) P p = tt
