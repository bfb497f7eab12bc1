use Rattle.std.proofs.Common.{sym}
use Rattle.node_programs.proofs.EndLemmas.{broken_off, kept_off, read_to, same_fault, went}
use Rattle.node_keepers.specs.Keeping.{keeping_of}
use Rattle.node_programs.proofs.play.run_play.Goals as goal

pub returns-clause-output : goal.returns-clause-output
returns-clause-output g c =
    went (keeping_of g.S.Kept.Keep.content g.S.Kept.Keep.is_honest g.S.Kept.Keep.refusals) g.S.Keeps.may_refuse c.args.done
    (g.R.Read.remaining c.args.input.now.reader) (g.W.Write.contents c.args.writer.now) (g.W.Write.contents c.run_whole-ran.new.writer)
    c.new-playing.result c.run_whole-ran.new.machine c.new-playing.ensures
    c.close-played.result.1 c.close-played.ensures.stop c.close-played.result.0 (sym c.close-played.ensures.played) c.ended.result c.run_whole-ran.result c.ended.ensures.ok c.run_whole-ran.ensures.output

pub returns-clause-begun : goal.returns-clause-begun
returns-clause-begun g c =
    broken_off (keeping_of g.S.Kept.Keep.content g.S.Kept.Keep.is_honest g.S.Kept.Keep.refusals) g.S.Keeps.may_refuse c.args.done
    (g.R.Read.remaining c.args.input.now.reader) (g.W.Write.contents c.args.writer.now) (g.W.Write.contents c.run_whole-ran.new.writer)
    c.new-playing.result c.run_whole-ran.new.machine c.new-playing.ensures c.close-played.result.0 (sym c.close-played.ensures.played)
    c.ended.result c.run_whole-ran.result c.ended.ensures.run c.run_whole-ran.ensures.begun

pub returns-clause-stopped : goal.returns-clause-stopped
returns-clause-stopped g c =
    read_to (keeping_of g.S.Kept.Keep.content g.S.Kept.Keep.is_honest g.S.Kept.Keep.refusals) g.S.Keeps.may_refuse c.args.done
    (g.R.Read.remaining c.args.input.now.reader) (g.W.Write.contents c.args.writer.now) (g.W.Write.contents c.run_whole-ran.new.writer)
    c.new-playing.result c.run_whole-ran.new.machine c.new-playing.ensures c.close-played.result.0 (sym c.close-played.ensures.played)
    (g.R.Read.remaining c.run_whole-ran.new.input.reader) c.ended.result c.run_whole-ran.result c.ended.ensures.run c.run_whole-ran.ensures.stopped

pub returns-clause-store : goal.returns-clause-store
returns-clause-store g c =
    kept_off (keeping_of g.S.Kept.Keep.content g.S.Kept.Keep.is_honest g.S.Kept.Keep.refusals) g.S.Keeps.may_refuse c.args.done
    (g.R.Read.remaining c.args.input.now.reader) (g.W.Write.contents c.args.writer.now) (g.W.Write.contents c.run_whole-ran.new.writer)
    c.new-playing.result c.run_whole-ran.new.machine c.new-playing.ensures
    c.close-played.result.1 c.close-played.ensures.stop c.close-played.result.0 (sym c.close-played.ensures.played) c.ended.result c.run_whole-ran.result c.ended.ensures.store c.run_whole-ran.ensures.output

pub returns-clause-failed : goal.returns-clause-failed
returns-clause-failed g c = λ e. c.run_whole-ran.ensures.failed (same_fault c.ended.result c.run_whole-ran.result _ c.ended.ensures.run e)
