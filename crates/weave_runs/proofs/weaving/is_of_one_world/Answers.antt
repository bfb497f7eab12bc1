use Rattle.std.proofs.Common.{List, ◌∙◌, arith, subst, sym, take_all, true≢false}
use Rattle.std.specs.Prelude.{Contains}
use Rattle.histories.proofs.Lists.{is_in}
use Rattle.replays.specs.Transcripts.{Transcript}
use Rattle.replays.specs.declared.transcript.Opening.{Opening}
use Rattle.tables.proofs.Elements.{in_front}
use Rattle.weave.proofs.Places.{got_by}
use Rattle.weave_runs.proofs.GivenLemmas.{all_up_to}
use Rattle.weave_runs.proofs.OutputLemmas.{IsAlike, alike_by, all_alike}
use Rattle.weave_runs.proofs.weaving.is_of_one_world.Goals as goal

pub returns-then-first-gt0-clause-no : goal.returns-then-first-gt0-clause-no
returns-then-first-gt0-clause-no c = λ no setup one.
    let t = c.transcript-item.result in
    let within = is_in c.args.transcripts.now c.loop-transcript.transcript-index t (got_by c.args.transcripts.now c.loop-transcript.transcript-index t (omega arith) c.transcript-item.is) in
    let none = one.empty t within c.first.result.now c.first.ensures.0 c.first.ensures.1 in
    let some = c.if-first-gt0.true in
    omega (arith, none, some)

pub returns-then-not-has_one_setup-clause-no : goal.returns-then-not-has_one_setup-clause-no
returns-then-not-has_one_setup-clause-no c = λ no setup one.
    let t = c.transcript-item.result in
    let within = is_in c.args.transcripts.now c.loop-transcript.transcript-index t (got_by c.args.transcripts.now c.loop-transcript.transcript-index t (omega arith) c.transcript-item.is) in
    let u = c.index-transcripts-0.result in
    let there = is_in c.args.transcripts.now 0 u (got_by c.args.transcripts.now 0 u c.requires c.index-transcripts-0.is) in
    let first = c.first-first.result.now in
    let inside = subst (λ (os : List Opening). Contains os first) (sym c.first-first.ensures.1) (in_front first c.first-first.ensures.0) in
    true≢false (sym (c.has_one_setup.ensures.1 (λ x opened. one.setups t within x opened ∙ sym (one.setups u there first inside))) ∙ c.if-not-has_one_setup.true)

pub loop-transcript-preserved : goal.loop-transcript-preserved
loop-transcript-preserved c =
    let t = c.transcript-item.result in
    all_up_to c.args.transcripts.now c.loop-transcript.transcript-index t (IsAlike c.first-first.result.now.setup)
    (got_by c.args.transcripts.now c.loop-transcript.transcript-index t (omega arith) c.transcript-item.is) c.loop-transcript.invariant
    (alike_by c.first-first.result.now.setup t c.first.result.now c.first.ensures.0 c.first.ensures.1 c.if-first-gt0.false (c.has_one_setup.ensures.0 c.if-not-has_one_setup.false))

pub returns-clause-yes : goal.returns-clause-yes
returns-clause-yes c = λ yes. (
  c.first-first.result.now.setup,
  all_alike c.first-first.result.now.setup c.args.transcripts.now (λ t within.
      c.loop-transcript.invariant t (subst (λ (ts : List Transcript). Contains ts t) (sym (take_all c.loop-transcript.transcript-index c.args.transcripts.now (omega arith))) within)),
)
