use Rattle.std.proofs.Common.{List, subst}
use Rattle.ocpi_types.specs.declared.rows.Change.{Change}
use Rattle.stored_nodes.proofs.Together.{committed}
use Rattle.stored_nodes.proofs.transaction.Transaction.commit.Goals as goal
use Rattle.stored_nodes.specs.Keepers.{Commits, keeper_of}
use Rattle.node_core.specs.States.{state_of}

pub invariant_of-result : goal.invariant_of-result
invariant_of-result g c =
    let keeper = (keeper_of g.K.Keep.content g.K.Keep.is_honest g.K.Keep.refusals g.K.Keep.may_leave) in
    let commits = subst (λ (l : List Change). Commits keeper c.args.line l c.self.inside.keep c.commit-committed.new.keep) c.as_slice.ensures.value c.in-Ok.ensures.ok.1 in
    committed keeper c.changes_are_held.ensures c.nodes_can_start_again.ensures c.restarts_are_held.ensures c.alike_are_classes.ensures c.args.line
    (record { state = state_of c.self.inside.node; keep = c.self.inside.keep; changes = c.self.inside.changes.items }) c.commit-committed.new.keep c.self.invariant commits
