use Rattle.std.proofs.Common.{sym, subst}
use Rattle.weave_runs.specs.Outputs.{Read}
use Rattle.weave_runs.specs.Parties.{AreGiven}
use Rattle.weave_runs.proofs.NetworkLemmas.{given_alone}
use Rattle.weave_runs.proofs.OutputLemmas.{ok_more, read_written}
use Rattle.weave_runs.proofs.weaving.weave_told.Goals as goal

pub weave_given-requires-clause-alone : goal.weave_given-requires-clause-alone
weave_given-requires-clause-alone c =
    let told = c.args.transcripts.now in
    let words = c.args.words.now in
    given_alone told words c.as_slice.result.now (subst (AreGiven told words) (sym c.as_slice.ensures.value) c.in-Ok.ensures.given)

pub returns-in-Ok : goal.returns-in-Ok
returns-in-Ok c =
    let told = c.args.transcripts.now in
    let words = c.args.words.now in
    let read : Read words c.args.files.now = record {
      told = told;
      given = c.as_slice.result.now;
      are_transcripts = c.requires.transcripts;
      are_told = c.requires.told;
      are_given = subst (AreGiven told words) (sym c.as_slice.ensures.value) c.in-Ok.ensures.given;
    } in
    ok_more c.weave_given.result (λ w is. read_written words c.args.files.now read w is) c.weave_given.ensures
