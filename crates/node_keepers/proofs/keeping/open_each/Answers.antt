use Rattle.std.proofs.Common.{◌+◌, ◌∙◌, ap, arith, inr, refl}
use Rattle.ocpi_text.specs.Text.{key}
use Rattle.node_keepers.proofs.KeeperLemmas.{err_one, one_opened, one_unopened}
use Rattle.node_keepers.specs.Keeping.{AreUnopened, keeping_of}
use Rattle.node_keepers.proofs.keeping.open_each.Goals as goal

pub loop-node-preserved : goal.loop-node-preserved
loop-node-preserved g c =
    one_opened (keeping_of g.S.Kept.Keep.content g.S.Kept.Keep.is_honest g.S.Kept.Keep.refusals) c.args.setup.now c.loop-node.kept.items c.push.new.self.items c.loop-node.node-index c.node-item.result
    (record { party = c.key.result; keep = c.in_ok-keep.keep }) (omega arith) c.loop-node.invariant c.node-item.is c.in_ok-push.ensures.items
    (record { party = c.key.ensures ∙ ap key c.party.ensures; keeps_nothing = c.in_ok-keep.ensures.ok })

pub returns-in_err-keep-clause-err : goal.returns-in_err-keep-clause-err
returns-in_err-keep-clause-err g c =
    let keeping = keeping_of g.S.Kept.Keep.content g.S.Kept.Keep.is_honest g.S.Kept.Keep.refusals in
    let may_refuse = g.S.Keeps.may_refuse in
    let long = c.loop-node.kept.ok.0 in
    err_one (AreUnopened keeping may_refuse c.args.setup.now) c.from_residual.result _ c.from_residual.ensures.1
    (one_unopened keeping may_refuse c.args.setup.now c.loop-node.kept.items c.loop-node.node-index (c.len.result + 1) _ (omega arith) c.loop-node.invariant (omega (arith, c.len.ensures, long)) c.in_err-keep.ensures.err)

pub returns-in_err-push-clause-err : goal.returns-in_err-push-clause-err
returns-in_err-push-clause-err g c =
    err_one (AreUnopened (keeping_of g.S.Kept.Keep.content g.S.Kept.Keep.is_honest g.S.Kept.Keep.refusals) g.S.Keeps.may_refuse c.args.setup.now) c.from_residual-in_err-push.result _ c.from_residual-in_err-push.ensures.1 (inr refl)
