use Rattle.std.proofs.Common.{arith, refl}
use Rattle.node_keepers.specs.Keeping.{No_keeper, keeping_of}
use Rattle.node_keepers.proofs.KeeperLemmas.{committed, found_in, never_none, none_in, not_committed, of_each, some_of}
use Rattle.node_keepers.proofs.keeping.commit.Goals as goal

-- the party has no keeper
pub returns-in_default-clause-some : goal.returns-in_default-clause-some
returns-in_default-clause-some g c = some_of c.args.changes.now _ c.is_empty.ensures c.if-is_empty.false

pub returns-in_default-clause-err : goal.returns-in_default-clause-err
returns-in_default-clause-err g c = No_keeper (none_in c.args.kept.now.items _ c.args.party.now c.as_slice.ensures.value c.in_default.ensures.none) refl refl

-- its keeper is asked

pub returns-in-Some-get_mut-clause-ok : goal.returns-in-Some-get_mut-clause-ok
returns-in-Some-get_mut-clause-ok g c =
    committed (keeping_of g.K.Keep.content g.K.Keep.is_honest g.K.Keep.refusals) c.args.party.now c.args.changes.now c.args.kept.now.items c.in-Some.i c.in-Some-get_mut.node.now c.commit.new.self
    (found_in _ _ _ _ c.as_slice.ensures.value c.in-Some.ensures.found) c.in-Some-get_mut.ensures.value c.commit.ensures.honest c.commit.result c.commit.ensures.all c.commit.ensures.counted

pub returns-in-Some-get_mut-clause-some : goal.returns-in-Some-get_mut-clause-some
returns-in-Some-get_mut-clause-some g c = of_each c.commit.result (some_of c.args.changes.now _ c.is_empty.ensures c.if-is_empty.false)

pub returns-in-Some-get_mut-clause-err : goal.returns-in-Some-get_mut-clause-err
returns-in-Some-get_mut-clause-err g c =
    not_committed (keeping_of g.K.Keep.content g.K.Keep.is_honest g.K.Keep.refusals) c.args.party.now c.args.changes.now c.args.kept.now.items c.in-Some.i c.in-Some-get_mut.node.now c.commit.new.self
    (found_in _ _ _ _ c.as_slice.ensures.value c.in-Some.ensures.found) c.in-Some-get_mut.ensures.value c.commit.ensures.honest c.commit.result c.commit.ensures.none c.commit.ensures.fault c.commit.ensures.counted

-- where it was found there is one
pub returns-in-None-clause-some : goal.returns-in-None-clause-some
returns-in-None-clause-some g c = some_of c.args.changes.now _ c.is_empty.ensures c.if-is_empty.false

pub returns-in-None-clause-err : goal.returns-in-None-clause-err
returns-in-None-clause-err g c =
    let long = c.args.kept.now.ok.0 in
    absurd (never_none c.get_mut.result c.args.kept.now.items c.args.party.now c.in-Some.i (found_in _ _ _ _ c.as_slice.ensures.value c.in-Some.ensures.found)
    (λ within. c.get_mut.ensures.variant.1 (omega (arith, within, long))) c.in-None.is)
