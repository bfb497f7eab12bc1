use Rattle.std.proofs.Common.{◌≡◌, ◌⊎◌, ℕ, List, Option, Some, None, IfErr, IfOk, sym, ap, subst}
use Rattle.ocpi_types.specs.declared.rows.Row.{Row}
use Rattle.row_table.specs.Contents as table
use Rattle.row_table.specs.Kept.{texts}
use Rattle.node_store.specs.declared.fault.StoreFault.TheVariants.{BadRow}
use Rattle.node_store.proofs.Layouts.{layout_read, texts_left}
use Rattle.node_store.proofs.Numbered.{loaded_line, loaded_rows}
use Rattle.node_store.proofs.table_keep.load.Goals as goal

pub returns-in-Ok-clause-rows : goal.returns-in-Ok-clause-rows
returns-in-Ok-clause-rows g c clean =
    let same = loaded_rows (texts g.S.Store c.args.table.now) c.in-Ok.texts.items (c.in-Ok.ensures.rows clean) in
    subst (λ (o : Option (List Row)). IfOk c.kept_in.result (λ k. o ≡ Some k.rows.items)) (sym same) c.kept_in.ensures.rows

pub returns-in-Ok-clause-line : goal.returns-in-Ok-clause-line
returns-in-Ok-clause-line g c clean =
    let same = loaded_line (texts g.S.Store c.args.table.now) c.in-Ok.texts.items (c.in-Ok.ensures.rows clean) in
    subst (λ (o : Option ℕ). IfOk c.kept_in.result (λ k. o ≡ Some k.line)) (sym same) c.kept_in.ensures.line

pub returns-in-Ok-clause-bad : goal.returns-in-Ok-clause-bad
returns-in-Ok-clause-bad g c clean =
    let old = texts g.S.Store c.args.table.now in
    let are = c.in-Ok.ensures.rows clean in
    let rows = loaded_rows old c.in-Ok.texts.items are in
    let line = loaded_line old c.in-Ok.texts.items are in
    subst (λ (p : Option (List Row) × Option ℕ). IfErr c.kept_in.result (λ e. e ≡ BadRow → (p.0 ≡ None) ⊎ (p.1 ≡ None))) (λ i. (sym rows i, sym line i)) c.kept_in.ensures.bad

pub returns-in-Ok-clause-kept : goal.returns-in-Ok-clause-kept
returns-in-Ok-clause-kept g c = ap (λ (d : table.Content). d.texts) c.rows.ensures.kept

pub returns-in-Ok-clause-layout : goal.returns-in-Ok-clause-layout
returns-in-Ok-clause-layout g c = layout_read g.S.Store c.args.table.now c.rows.new.self c.rows.ensures.honest c.rows.ensures.kept c.rows.ensures.stops

pub returns-in-Ok-clause-stops : goal.returns-in-Ok-clause-stops
returns-in-Ok-clause-stops g c clean = texts_left g.S.Store c.args.table.now c.rows.new.self (c.rows.ensures.stops clean)

pub returns-in-Err-clause-kept : goal.returns-in-Err-clause-kept
returns-in-Err-clause-kept g c = ap (λ (d : table.Content). d.texts) c.rows.ensures.kept

pub returns-in-Err-clause-layout : goal.returns-in-Err-clause-layout
returns-in-Err-clause-layout g c = layout_read g.S.Store c.args.table.now c.rows.new.self c.rows.ensures.honest c.rows.ensures.kept c.rows.ensures.stops

pub returns-in-Err-clause-stops : goal.returns-in-Err-clause-stops
returns-in-Err-clause-stops g c clean = texts_left g.S.Store c.args.table.now c.rows.new.self (c.rows.ensures.stops clean)
