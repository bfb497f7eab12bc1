use Rattle.std.proofs.Common.{◌≡◌, ◌∙◌, ap, sym, subst, arith, take_all, List}
use Rattle.ocpi_text.specs.Text.{key}
use Rattle.histories.proofs.Lists.{is_in}
use Rattle.replays.specs.Transcripts.{Transcript, teller}
use Rattle.weave.proofs.Places.{got_by}
use Rattle.weave_runs.specs.Parties.{HasFile}
use Rattle.weave_runs.proofs.GivenLemmas.{none_up_to, not_true}
use Rattle.weave_runs.proofs.given.has_file.Goals as goal

pub returns-then-is_same-clause-yes : goal.returns-then-is_same-clause-yes
returns-then-is_same-clause-yes c = λ yes.
    let here = got_by c.args.transcripts.now c.loop-transcript.transcript-index c.transcript-item.result (omega arith) c.transcript-item.is in (
      c.transcript-item.result,
      is_in c.args.transcripts.now c.loop-transcript.transcript-index c.transcript-item.result here,
      ap key (sym c.party.ensures) ∙ c.if-is_same.ensures.0 yes,
    )

pub loop-transcript-preserved : goal.loop-transcript-preserved
loop-transcript-preserved c = λ has.
    let here = got_by c.args.transcripts.now c.loop-transcript.transcript-index c.transcript-item.result (omega arith) c.transcript-item.is in
    none_up_to c.args.transcripts.now c.loop-transcript.transcript-index c.transcript-item.result (λ (t : Transcript). key (teller t) ≡ key c.args.party.now) here
    (λ t within same. c.loop-transcript.invariant (t, within, same)) (λ same. not_true (c.if-is_same.ensures.1 (ap key c.party.ensures ∙ same))) has.0 has.1 has.2

pub returns-clause-no : goal.returns-clause-no
returns-clause-no c = λ no has.
    let all = sym (take_all c.loop-transcript.transcript-index c.args.transcripts.now (omega arith)) in
    c.loop-transcript.invariant (subst (λ (ts : List Transcript). HasFile ts c.args.party.now) all has)
