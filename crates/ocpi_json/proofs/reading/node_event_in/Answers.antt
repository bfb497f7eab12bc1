use Rattle.std.proofs.lemmas.Result.{err_from_is_err_and}
use Rattle.ocpi_json.proofs.Unread.{passed_on}
use Rattle.ocpi_json.proofs.reading.node_event_in.Goals as goal

pub returns-in_err-tree-clause-unread : goal.returns-in_err-tree-clause-unread
returns-in_err-tree-clause-unread c = λ never.
    let p = err_from_is_err_and c.from_residual.result c.from_residual.ensures.1 in
    rw (p.1, p.2) (passed_on _ (c.in_err-tree.ensures.unread never))

pub returns-clause-unread : goal.returns-clause-unread
returns-clause-unread c = λ never. absurd (cc (c.in_ok-tree.ensures.unread never))
