use Rattle.node_store.specs.declared.fault.StoreFault.TheVariants.{BadRow}
use Rattle.node_keepers.proofs.FileLemmas.{bad_found, rows_found}
use Rattle.node_keepers.proofs.found.rows_in.Goals as goal

pub returns-clause-rows : goal.returns-clause-rows
returns-clause-rows g c =
    rows_found _ c.open_file.result c.rows_of.result c.open_file.ensures.found c.rows_of.ensures.fault (λ f. f.rows) (λ v. v.items) (λ f. f.closed) c.rows_of.ensures.rows

pub returns-clause-bad : goal.returns-clause-bad
returns-clause-bad g c =
    bad_found _ c.open_file.result c.rows_of.result c.open_file.ensures.found c.rows_of.ensures.fault (λ f. f.rows) (λ v. v.items) (λ f. f.closed) BadRow c.rows_of.ensures.bad
