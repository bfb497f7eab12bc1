use Rattle.std.proofs.Common.{arith, refl}
use Rattle.weave_runs.proofs.StepLemmas.{first_here, first_later, on_ok}
use Rattle.weave_runs.proofs.written.push_first_setup.Goals as goal

pub returns-then-place-eq0 : goal.returns-then-place-eq0
returns-then-place-eq0 c =
    on_ok c.push_line.result (λ added. first_here c.args.transcript.now.openings c.args.place c.first.result.now c.first.ensures.0 c.args.text.now.items c.push_line.new.text.items (omega arith) c.first.ensures.1 added)
    c.push_line.ensures

pub returns-else-place-eq0 : goal.returns-else-place-eq0
returns-else-place-eq0 c = first_later c.args.transcript.now.openings c.args.place c.args.text.now.items c.args.text.now.items (λ none. omega (arith, none)) refl
