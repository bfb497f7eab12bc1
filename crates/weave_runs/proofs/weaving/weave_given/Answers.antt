use Rattle.std.proofs.Common.{List, ap, map, sym, subst, ◌∙◌, string_bytes}
use Rattle.histories.proofs.Lists.{is_in}
use Rattle.histories.specs.declared.history.NodeHistory.{NodeHistory}
use Rattle.weave.proofs.Places.{got_by}
use Rattle.weave.specs.Turns.{IsOrderWith}
use Rattle.weave_runs.specs.Histories.{lived}
use Rattle.weave_runs.specs.Outputs.{IsTextOf}
use Rattle.weave_runs.proofs.ToldLemmas as told
use Rattle.weave_runs.proofs.SourceLemmas.{all_sourced}
use Rattle.weave_runs.proofs.StepLemmas as step
use Rattle.weave_runs.proofs.OutputLemmas as output
use Rattle.weave_runs.proofs.weaving.weave_given.Goals as goal

pub weave_turns_with-requires-clause-apart : goal.weave_turns_with-requires-clause-apart
weave_turns_with-requires-clause-apart c =
    told.apart c.args.transcripts.now c.deref.result.now (ap (map lived) c.deref.ensures.value ∙ c.in_ok-histories.ensures) c.requires.told

pub weave_turns_with-requires-clause-numbered : goal.weave_turns_with-requires-clause-numbered
weave_turns_with-requires-clause-numbered c =
    told.numbered c.args.transcripts.now c.deref.result.now (ap (map lived) c.deref.ensures.value ∙ c.in_ok-histories.ensures) c.args.files.now c.requires.transcripts

pub text_of-requires-clause-sourced : goal.text_of-requires-clause-sourced
text_of-requires-clause-sourced c = all_sourced c.args.files.now c.args.transcripts.now c.requires.transcripts

pub text_of-requires-clause-named : goal.text_of-requires-clause-named
text_of-requires-clause-named c =
    let order = subst (IsOrderWith c.args.given.now c.deref.result.now) (sym c.as_slice.ensures.value) c.in-Ok.ensures.order in
    step.order_named c.args.transcripts.now c.deref.result.now (ap (map lived) c.deref.ensures.value ∙ c.in_ok-histories.ensures) c.requires.told c.args.given.now c.as_slice.result.now order

pub returns-in-Ok : goal.returns-in-Ok
returns-in-Ok c =
    let told = c.args.transcripts.now in
    let same = ap (map lived) c.deref.ensures.value ∙ c.in_ok-histories.ensures in
    let order = subst (IsOrderWith c.args.given.now c.deref.result.now) (sym c.as_slice.ensures.value) c.in-Ok.ensures.order in
    let within = is_in told 0 c.index-transcripts-0.result (got_by told 0 c.index-transcripts-0.result c.requires.some c.index-transcripts-0.is) in
    output.woven c.args.files.now told c.deref.result.now c.requires.transcripts same c.requires.told c.args.given.now
    (output.one_setup told c.index-transcripts-0.result c.first.result.now c.first.ensures.0 within c.first.ensures.1 c.nodes_of.ensures.is_setup) c.interleavings_are_runs.ensures c.none_given.ensures
    c.own_interleavings_are_network_runs.ensures c.nodes_reopen.ensures c.nodes_stay.ensures c.requires.alone
    c.as_slice.result.now order c.in_ok-text_of-in-Ok.field-0.items
    (subst (λ (hs : List NodeHistory). IsTextOf c.args.given.now hs told c.as_slice.result.now c.in_ok-text_of-in-Ok.field-0.items) (c.deref-in-Ok.ensures.value ∙ sym c.deref.ensures.value)
    c.in_ok-text_of-in-Ok.ensures)

pub weave_refusal-requires-clause-can : goal.weave_refusal-requires-clause-can
weave_refusal-requires-clause-can c =
    let same = ap (map lived) c.deref.ensures.value ∙ c.in_ok-histories.ensures in
    output.can_tell c.args.files.now c.args.transcripts.now c.deref.result.now c.requires.transcripts same c.requires.told c.args.given.now c.in-Err.fault c.in-Err.ensures.cause

pub returns : goal.returns
returns c =
    let same = ap (map lived) c.deref.ensures.value ∙ c.in_ok-histories.ensures in
    output.refusal c.args.files.now c.args.transcripts.now c.deref.result.now c.requires.transcripts same c.requires.told c.args.given.now c.in-Err.fault c.in-Err.ensures.cause
    c.in-Err.ensures.complete (string_bytes c.in_ok-line-in-Err.line) c.in_ok-line-in-Err.ensures
