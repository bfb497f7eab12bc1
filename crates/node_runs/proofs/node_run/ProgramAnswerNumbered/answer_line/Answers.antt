use Rattle.std.proofs.Common.{◌≡◌, ◌∙◌, ◌++◌, List, ℕ, Option, None, Some, string_bytes, sym, subst}
use Rattle.stored_nodes.specs.Keepers.{keeper_of}
use Rattle.node_keepers.specs.Opening.{source_of}
use Rattle.node_runs.specs.NodeAnswers.{NodeTurn}
use Rattle.node_runs.specs.NodeTurns.{Running, Stage}
use Rattle.node_runs.proofs.AfterLemmas.{with_running}
use Rattle.node_runs.proofs.node_run.ProgramAnswerNumbered.answer_line.Goals as goal

pub returns-in-None-clause-ok : goal.returns-in-None-clause-ok
returns-in-None-clause-ok g c =
    let K = g.row.K.Denot in
    let keeper = keeper_of g.K.Keep.content g.K.Keep.is_honest g.K.Keep.refusals g.K.Keep.may_leave in
    let stage : Option (Running K) → Stage K = λ q. record {
      wanted = c.self.inside.wanted;
      opened = g.S.Keeps.opened c.self.inside.keeps;
      running = q;
      spare = c.self.inside.spare;
      stop = c.self.inside.stop;
      number = c.self.inside.number;
      known = c.self.inside.known;
    } in
    let before = string_bytes c.args.output.now in
    let source = source_of g.S.Keeps.may_refuse g.S.Keeps.found in
    let after = string_bytes c.answer_setup.new.output in
    let all : Option (Running K) → Type 0 = λ q. (out : List ℕ) × (after ≡ before ++ out) × NodeTurn keeper source q (stage q) c.args.line.now c.answer_setup.result out c.answer_setup.new.self in
    let bare = subst (λ (q : Option (Running K)). (out : List ℕ) × (after ≡ before ++ out) × NodeTurn keeper source None (stage q) c.args.line.now c.answer_setup.result out c.answer_setup.new.self) c.take.ensures.after c.answer_setup.ensures in
    subst (λ (w : Stage K). (out : List ℕ) × (after ≡ before ++ out) × NodeTurn keeper source w.running w c.args.line.now c.answer_setup.result out c.answer_setup.new.self) c.self.view_is
    (subst all (sym c.in-None.is ∙ c.take.ensures.value) bare)

pub returns-in-Some-clause-ok : goal.returns-in-Some-clause-ok
returns-in-Some-clause-ok g c =
    let K = g.row.K.Denot in
    let keeper = keeper_of g.K.Keep.content g.K.Keep.is_honest g.K.Keep.refusals g.K.Keep.may_leave in
    let stage : Option (Running K) → Stage K = λ q. record {
      wanted = c.self.inside.wanted;
      opened = g.S.Keeps.opened c.self.inside.keeps;
      running = q;
      spare = c.self.inside.spare;
      stop = c.self.inside.stop;
      number = c.self.inside.number;
      known = c.self.inside.known;
    } in
    let before = string_bytes c.args.output.now in
    let source = source_of g.S.Keeps.may_refuse g.S.Keeps.found in
    let now = c.in-Some.running in
    let after = string_bytes c.answer_next.new.output in
    let all : Option (Running K) → Type 0 = λ q. (out : List ℕ) × (after ≡ before ++ out) × NodeTurn keeper source q (stage q) c.args.line.now c.answer_next.result out c.answer_next.new.self in
    let r = c.answer_next.ensures in
    let here : all (Some now) = (r.0, r.1, with_running keeper now (stage c.take.new.self) (Some now) c.args.line.now c.answer_next.result r.0 c.answer_next.new.self r.2) in
    subst (λ (w : Stage K). (out : List ℕ) × (after ≡ before ++ out) × NodeTurn keeper source w.running w c.args.line.now c.answer_next.result out c.answer_next.new.self) c.self.view_is
    (subst all (sym c.in-Some.is ∙ c.take.ensures.value) here)
