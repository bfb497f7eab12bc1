use Rattle.std.proofs.Common.{List, ◌∙◌, arith, subst, sym, take_all}
use Rattle.std.specs.Prelude.{Contains}
use Rattle.replays.specs.Transcripts.{Transcript}
use Rattle.replays.specs.declared.transcript.Opening.{Opening}
use Rattle.weave.proofs.Places.{got_by}
use Rattle.weave_runs.specs.Parties.{HasNoNode}
use Rattle.weave_runs.proofs.GivenLemmas.{all_up_to, names_none}
use Rattle.weave_runs.proofs.given.party_of_word.Goals as goal

pub loop-transcript-preserved : goal.loop-transcript-preserved
loop-transcript-preserved c =
    all_up_to c.args.transcripts.now c.loop-transcript.transcript-index c.transcript-item.result (λ (t : Transcript). (x : Opening) → Contains t.openings x → HasNoNode x.setup c.in-Ok.party)
    (got_by c.args.transcripts.now c.loop-transcript.transcript-index c.transcript-item.result (omega arith) c.transcript-item.is) c.loop-transcript.invariant
    (subst (λ (os : List Opening). (x : Opening) → Contains os x → HasNoNode x.setup c.in-Ok.party) c.openings.ensures c.in_default-party_opened.ensures.none)

pub returns-clause-none : goal.returns-clause-none
returns-clause-none c =
    names_none c.args.transcripts.now c.args.word.now c.in-Ok.party (sym c.read.ensures ∙ c.in-Ok.is) (λ t within.
    c.loop-transcript.invariant t (subst (λ (ts : List Transcript). Contains ts t) (sym (take_all c.loop-transcript.transcript-index c.args.transcripts.now (omega arith))) within))
