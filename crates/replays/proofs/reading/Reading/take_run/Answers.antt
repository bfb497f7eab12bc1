use Rattle.std.proofs.Common.{◌≡◌, ◌∙◌, ◌+◌, Ok, refl, subst, sym, ap}
use Rattle.node_runs.specs.SetupLines.{numbered_setup_in}
use Rattle.replays.proofs.AnswerLemmas.{on_ok}
use Rattle.replays.proofs.ResultLemmas.{on_err}
use Rattle.replays.proofs.SetupRead.{numbers_behind, rest_of_run, some_behind}
use Rattle.replays.specs.CutRuns.{HasNumbers}
use Rattle.replays.specs.Reading.{IsFirstLine, NoSetupThere, RunRefused, RunTaken, SaysElse}
use Rattle.replays.specs.declared.cutting.EchoedLine.{EchoedLine}
use Rattle.replays.specs.Transcripts.{line_of}
use Rattle.replays.proofs.reading.Reading.take_run.Goals as goal

pub take_setup-requires-clause-rest : goal.take_setup-requires-clause-rest
take_setup-requires-clause-rest c =
    let b = c.behind_setup-behind.result in
    rest_of_run c.args.run.bytes.now c.in-Some.first.now c.in-Some.rest.now b.piece.bytes.now b.rest.now b.piece.is_closed c.requires.text c.in-Some.ensures.is c.behind_setup-behind.ensures.is

pub take_setup-requires-clause-numbers : goal.take_setup-requires-clause-numbers
take_setup-requires-clause-numbers c =
    let b = c.behind_setup-behind.result in
    subst (λ (l : EchoedLine). HasNumbers (l.number + 2) b.rest.now) (sym c.behind_setup-behind.ensures.line)
    (numbers_behind c.args.run.number c.args.run.bytes.now c.in-Some.first.now c.in-Some.rest.now b.piece.bytes.now b.rest.now b.piece.is_closed c.requires.text c.in-Some.ensures.is c.behind_setup-behind.ensures.is c.requires.numbers)

pub returns-in-Ok-clause-ok : goal.returns-in-Ok-clause-ok
returns-in-Ok-clause-ok c =
    let b = c.behind_setup-behind.result in
    let e = c.behind_setup-behind.ensures in
    let first = subst (λ (l : EchoedLine). IsFirstLine c.args.run.bytes.now l.bytes.now c.in-Some.rest.now) (sym e.line) (record { is = c.in-Some.ensures.is; plain = c.in-Some.ensures.plain }) in
    let reads = subst (λ (l : EchoedLine). numbered_setup_in l.bytes.now ≡ Ok (c.in-Ok.setup, c.in-Ok.base)) (sym e.line) c.in-Ok.ensures.value in
    on_ok c.take_setup.result (λ taken. subst (RunTaken c.args.self.now c.take_setup.new.self c.args.run.bytes.now) e.ended
    (taken c.args.run.bytes.now c.in-Some.rest.now (record { first = first; reads = reads; plain = e.plain; is = e.is }))) c.take_setup.ensures.ok

pub returns-in-Ok-clause-err : goal.returns-in-Ok-clause-err
returns-in-Ok-clause-err c =
    let b = c.behind_setup-behind.result in
    let e = c.behind_setup-behind.ensures in
    let first = subst (λ (l : EchoedLine). IsFirstLine c.args.run.bytes.now l.bytes.now c.in-Some.rest.now) (sym e.line) (record { is = c.in-Some.ensures.is; plain = c.in-Some.ensures.plain }) in
    let reads = subst (λ (l : EchoedLine). numbered_setup_in l.bytes.now ≡ Ok (c.in-Ok.setup, c.in-Ok.base)) (sym e.line) c.in-Ok.ensures.value in
    on_err c.take_setup.result (λ f refused real. subst (λ (l : EchoedLine). RunRefused c.args.self.now c.args.run.bytes.now l.number (line_of f)) e.line
    (refused real c.args.run.bytes.now c.in-Some.rest.now (record { first = first; reads = reads; plain = e.plain; is = e.is }))) c.take_setup.ensures.err

pub returns-in-Err-clause-ok : goal.returns-in-Err-clause-ok
returns-in-Err-clause-ok c =
    let line = c.in-Some.first.now in
    let behind = c.in-Some.rest.now in
    on_ok c.take_malformed.result (λ said. NoSetupThere line behind (record { is = c.in-Some.ensures.is; plain = c.in-Some.ensures.plain }) c.in-Err.fault c.in-Err.ensures.value said.real said.missing said.is
    (some_behind c.args.run.bytes.now line behind c.requires.text c.in-Some.ensures.is) refl) c.take_malformed.ensures.ok

pub returns-in-Err-clause-err : goal.returns-in-Err-clause-err
returns-in-Err-clause-err c =
    let line = c.in-Some.first.now in
    let behind = c.in-Some.rest.now in
    on_err c.take_malformed.result (λ f not_said real. let x = not_said real in
    SaysElse line behind (record { is = c.in-Some.ensures.is; plain = c.in-Some.ensures.plain }) c.in-Err.fault c.in-Err.ensures.value x.real x.none x.place) c.take_malformed.ensures.err
