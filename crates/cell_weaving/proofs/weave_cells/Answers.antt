use Rattle.std.proofs.Common.{ap, map, ◌∙◌}
use Rattle.cell_weaving.specs.Cells.{told_of}
use Rattle.stored_nodes.specs.Keepers.{keeper_of}
use Rattle.cell_weaving.proofs.Weaving as weaving
use Rattle.cell_weaving.proofs.weave_cells.Goals as goal

pub weave-requires-clause-apart : goal.weave-requires-clause-apart
weave-requires-clause-apart g c =
    let keeper = keeper_of g.K.Keep.content g.K.Keep.is_honest g.K.Keep.refusals g.K.Keep.may_leave in
    let told = ap (map told_of) c.deref.ensures.value ∙ c.in_ok-histories.ensures.told in
    weaving.apart keeper c.requires.cells.0 c.args.cells.now c.deref.result.now told c.in_ok-histories.ensures.kept c.requires.cells.1

pub weave-requires-clause-numbered : goal.weave-requires-clause-numbered
weave-requires-clause-numbered g c =
    let keeper = keeper_of g.K.Keep.content g.K.Keep.is_honest g.K.Keep.refusals g.K.Keep.may_leave in
    let told = ap (map told_of) c.deref.ensures.value ∙ c.in_ok-histories.ensures.told in
    weaving.numbered keeper c.requires.cells.0 c.args.cells.now c.deref.result.now told c.in_ok-histories.ensures.kept c.requires.cells.1 c.replays_are_numbered.ensures

pub returns-clause-run : goal.returns-clause-run
returns-clause-run g c =
    let keeper = keeper_of g.K.Keep.content g.K.Keep.is_honest g.K.Keep.refusals g.K.Keep.may_leave in
    let told = ap (map told_of) c.deref.ensures.value ∙ c.in_ok-histories.ensures.told in
    weaving.woven keeper c.args.cells.now c.deref.result.now (λ v. v.items) c.weave.result told c.in_ok-histories.ensures.kept c.interleavings_are_runs.ensures c.weave.ensures.interleaving

pub returns-clause-err : goal.returns-clause-err
returns-clause-err g c =
    let told = ap (map told_of) c.deref.ensures.value ∙ c.in_ok-histories.ensures.told in
    weaving.refused c.args.cells.now c.deref.result.now c.weave.result told c.weave.ensures.cause c.weave.ensures.complete
