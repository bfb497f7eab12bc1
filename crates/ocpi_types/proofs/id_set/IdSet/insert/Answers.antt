use Rattle.std.proofs.Common.{not, ap, sym, ◌∙◌}
use Rattle.std.specs.FinSet.{insert}
use Rattle.ocpi_types.proofs.Ids.{held, inserted, on_err}
use Rattle.ocpi_types.proofs.id_set.IdSet.insert.Goals as goal

pub returns-in_err-insert-clause-absent : goal.returns-in_err-insert-clause-absent
returns-in_err-insert-clause-absent c =
    on_err c.from_residual.result (sym (held c.self.inside.keys.keys c.key.result c.self.view_is c.key.ensures) ∙ c.in_err-insert.ensures.absent)

pub returns-clause-added : goal.returns-clause-added
returns-clause-added c =
    c.in_ok-insert.ensures.added ∙ ap not (held c.self.inside.keys.keys c.key.result c.self.view_is c.key.ensures)

pub returns-clause-after : goal.returns-clause-after
returns-clause-after c =
    inserted c.self.inside.keys.keys c.insert.new.self.keys c.key.result c.in_ok-insert.ensures.updates.0
    ∙ ap (λ s. insert s c.key.result) c.self.view_is
    ∙ ap (insert c.args.self.now) c.key.ensures
