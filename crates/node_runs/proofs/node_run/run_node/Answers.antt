use Rattle.std.proofs.Common.{sym}
use Rattle.stored_nodes.specs.Keepers.{keeper_of}
use Rattle.node_keepers.specs.Opening.{source_of}
use Rattle.node_runs.proofs.EndLemmas.{begun_so, broken_off, read_to, same_fault, stopped_off, went}
use Rattle.node_runs.proofs.node_run.run_node.Goals as goal

pub returns-clause-output : goal.returns-clause-output
returns-clause-output g c =
    went (keeper_of g.S.Kept.Keep.content g.S.Kept.Keep.is_honest g.S.Kept.Keep.refusals g.S.Kept.Keep.may_leave) (source_of g.S.Keeps.may_refuse g.S.Keeps.found) (g.S.Keeps.opened c.args.keeps) c.args.party.now c.args.echo
    (g.R.Read.remaining c.args.input.now.reader) (g.W.Write.contents c.args.writer.now) (g.W.Write.contents c.run_begun-ran.new.writer)
    c.new-program.result c.run_begun-ran.new.machine (begun_so g.row.S-Kept.Denot c.new-program.result _ _ _ c.new-program.ensures c.asked_for-wanted.ensures) c.close-left.result.0 (sym c.close-left.ensures.kept) c.close-left.ensures.stored
    c.close-left.result.1 c.close-left.ensures.stop c.ended.result c.run_begun-ran.result c.ended.ensures.ok c.run_begun-ran.ensures.output

pub returns-clause-begun : goal.returns-clause-begun
returns-clause-begun g c =
    broken_off (keeper_of g.S.Kept.Keep.content g.S.Kept.Keep.is_honest g.S.Kept.Keep.refusals g.S.Kept.Keep.may_leave) (source_of g.S.Keeps.may_refuse g.S.Keeps.found) (g.S.Keeps.opened c.args.keeps) c.args.party.now c.args.echo
    (g.R.Read.remaining c.args.input.now.reader) (g.W.Write.contents c.args.writer.now) (g.W.Write.contents c.run_begun-ran.new.writer)
    c.new-program.result c.run_begun-ran.new.machine (begun_so g.row.S-Kept.Denot c.new-program.result _ _ _ c.new-program.ensures c.asked_for-wanted.ensures) c.close-left.result.0 (sym c.close-left.ensures.kept) c.close-left.ensures.stored
    c.ended.result c.run_begun-ran.result c.ended.ensures.run c.run_begun-ran.ensures.begun

pub returns-clause-stopped : goal.returns-clause-stopped
returns-clause-stopped g c =
    read_to (keeper_of g.S.Kept.Keep.content g.S.Kept.Keep.is_honest g.S.Kept.Keep.refusals g.S.Kept.Keep.may_leave) (source_of g.S.Keeps.may_refuse g.S.Keeps.found) (g.S.Keeps.opened c.args.keeps) c.args.party.now c.args.echo
    (g.R.Read.remaining c.args.input.now.reader) (g.W.Write.contents c.args.writer.now) (g.W.Write.contents c.run_begun-ran.new.writer)
    c.new-program.result c.run_begun-ran.new.machine (begun_so g.row.S-Kept.Denot c.new-program.result _ _ _ c.new-program.ensures c.asked_for-wanted.ensures) c.close-left.result.0 (sym c.close-left.ensures.kept) c.close-left.ensures.stored
    (g.R.Read.remaining c.run_begun-ran.new.input.reader) c.ended.result c.run_begun-ran.result c.ended.ensures.run c.run_begun-ran.ensures.stopped

pub returns-clause-node : goal.returns-clause-node
returns-clause-node g c =
    stopped_off (keeper_of g.S.Kept.Keep.content g.S.Kept.Keep.is_honest g.S.Kept.Keep.refusals g.S.Kept.Keep.may_leave) (source_of g.S.Keeps.may_refuse g.S.Keeps.found) (g.S.Keeps.opened c.args.keeps) c.args.party.now c.args.echo
    (g.R.Read.remaining c.args.input.now.reader) (g.W.Write.contents c.args.writer.now) (g.W.Write.contents c.run_begun-ran.new.writer)
    c.new-program.result c.run_begun-ran.new.machine (begun_so g.row.S-Kept.Denot c.new-program.result _ _ _ c.new-program.ensures c.asked_for-wanted.ensures) c.close-left.result.0 (sym c.close-left.ensures.kept) c.close-left.ensures.stored
    c.close-left.result.1 c.close-left.ensures.stop c.ended.result c.run_begun-ran.result c.ended.ensures.node c.run_begun-ran.ensures.output

pub returns-clause-failed : goal.returns-clause-failed
returns-clause-failed g c = λ e. c.run_begun-ran.ensures.failed (same_fault c.ended.result c.run_begun-ran.result _ c.ended.ensures.run e)
