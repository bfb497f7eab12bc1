use Rattle.std.proofs.Common.{◌∙◌, ap, arith, sym}
use Rattle.node_keepers.proofs.KeeperLemmas.{is_here, none_at_all, none_more, none_yet, other_key, same_key}
use Rattle.node_keepers.proofs.keeping.find.Goals as goal

pub loop-i-init : goal.loop-i-init
loop-i-init g c = none_yet c.args.kept.now c.args.party.now

pub returns-then-eq-clause-found : goal.returns-then-eq-clause-found
returns-then-eq-clause-found g c =
    let x = c.index-kept-i.result in (
      x,
      record {
        here = is_here c.args.kept.now c.loop-i.i x (omega arith) c.index-kept-i.is;
        same = ap (λ z. z.party) c.index-kept-i.is ∙ same_key _ c.key-name.result c.eq.result c.eq.ensures c.if-eq.true ∙ c.key-name.ensures;
      },
    )

pub loop-i-preserved : goal.loop-i-preserved
loop-i-preserved g c =
    let x = c.index-kept-i.result in
    none_more c.args.kept.now c.args.party.now c.loop-i.i x (is_here c.args.kept.now c.loop-i.i x (omega arith) c.index-kept-i.is) c.loop-i.invariant
    (λ same. other_key _ c.key-name.result c.eq.result c.eq.ensures c.if-eq.false (sym (ap (λ z. z.party) c.index-kept-i.is) ∙ same ∙ sym c.key-name.ensures))

pub returns-clause-none : goal.returns-clause-none
returns-clause-none g c = none_at_all c.args.kept.now c.args.party.now c.loop-i.i (omega arith) c.loop-i.invariant
