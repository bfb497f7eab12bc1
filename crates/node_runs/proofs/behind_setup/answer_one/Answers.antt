use Rattle.std.proofs.Common.{[], string_bytes, List, ℕ, sym, subst}
use Rattle.stored_nodes.specs.Keepers.{keeper_of}
use Rattle.node_runs.specs.Afters.{IsAnswered}
use Rattle.node_runs.proofs.behind_setup.answer_one.Goals as goal

pub returns : goal.returns
returns g c = λ line read.
    let keeper = keeper_of g.K.Keep.content g.K.Keep.is_honest g.K.Keep.refusals g.K.Keep.may_leave in
    let answered = c.answer_event-answered.ensures line read in
    let from = subst (λ (s : List ℕ). IsAnswered keeper c.args.running c.args.number line s (string_bytes c.answer_event-answered.new.text) c.answer_event-answered.result c.answer_event-answered.new.running) c.requires answered in
    let to = subst (λ (s : List ℕ). IsAnswered keeper c.args.running c.args.number line [] s c.answer_event-answered.result c.answer_event-answered.new.running) (sym c.as_str.ensures.value) from in
    c.tell_answered.ensures c.args.running c.args.number line c.is_stored.ensures to
