use Rattle.node_store.specs.Placing.{kept}
use Rattle.node_store.proofs.KeptRows.{kept_rows}
use Rattle.node_store.proofs.list_keep.ListKeepKeep.commit.Goals as goal

pub invariant_of-self : goal.invariant_of-self
invariant_of-self c =
    kept_rows c.change_all.result (kept c.self.inside.stored) (kept c.change_all.new.stored) c.args.changes.now c.args.line c.change_all.ensures.all c.change_all.ensures.none c.change_all.ensures.again c.change_all.ensures.fits c.self.invariant
