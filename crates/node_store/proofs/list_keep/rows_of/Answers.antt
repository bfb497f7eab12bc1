use Rattle.std.proofs.Common.{◌≡◌, List, Option, Some, None, IfErr, IfOk, sym, subst, ◌∙◌}
use Rattle.ocpi_types.specs.declared.rows.Row.{Row}
use Rattle.node_store.specs.Placing.{kept}
use Rattle.node_store.specs.declared.fault.StoreFault.TheVariants.{BadRow}
use Rattle.node_store.proofs.Listed.{at_places}
use Rattle.node_store.proofs.Numbered.{loaded_rows}
use Rattle.node_store.proofs.list_keep.rows_of.Goals as goal

pub returns-clause-rows : goal.returns-clause-rows
returns-clause-rows c =
    let old = kept c.args.stored.now in
    let are = c.as_slice.ensures.value ∙ c.in_ok-places.ensures in
    subst (λ (o : Option (List Row)). IfOk c.listed_rows.result (λ v. o ≡ Some v.items)) (sym (loaded_rows old _ (sym (at_places old c.as_slice.result.now are)))) c.listed_rows.ensures.rows

pub returns-clause-bad : goal.returns-clause-bad
returns-clause-bad c =
    let old = kept c.args.stored.now in
    let are = c.as_slice.ensures.value ∙ c.in_ok-places.ensures in
    subst (λ (o : Option (List Row)). IfErr c.listed_rows.result (λ e. e ≡ BadRow → o ≡ None)) (sym (loaded_rows old _ (sym (at_places old c.as_slice.result.now are)))) c.listed_rows.ensures.bad
