use Rattle.std.proofs.Common.{◌≡◌, ◌++◌, ◌∷◌, ◌+◌, ◌∙◌, [], List, ℕ, ap, arith, map, rules, subst, sym, take}
use Rattle.replays.specs.Transcripts.{Transcript, teller}
use Rattle.weave.proofs.Places.{got_by}
use Rattle.weave_runs.specs.Histories.{AreTold, AreTranscripts}
use Rattle.weave_runs.proofs.ToldLemmas.{memory_here, parties_more, refuses_here, told_more, transcripts_more}
use Rattle.weave_runs.proofs.told.read_files.Goals as goal

pub returns-in-Err-clause-err : goal.returns-in-Err-clause-err
returns-in-Err-clause-err c =
    refuses_here c.args.files.now c.loop-file.transcripts.items c.as_slice-earlier.result.now c.loop-file.file-index c.file-item.result _ c.in-Err.fault _
    (got_by c.args.files.now c.loop-file.file-index c.file-item.result (omega arith) c.file-item.is) c.loop-file.invariant.1 (sym c.of.ensures.name)
    (c.as_slice-earlier.ensures.value ∙ c.loop-file.invariant.2) (sym c.of.ensures.fault) c.in-Err.ensures.none c.in-Err.ensures.line

pub returns-then-is_err-clause-err : goal.returns-then-is_err-clause-err
returns-then-is_err-clause-err c =
    memory_here c.args.files.now c.loop-file.transcripts.items c.loop-file.file-index c.file-item.result _ _
    (got_by c.args.files.now c.loop-file.file-index c.file-item.result (omega arith) c.file-item.is) c.loop-file.invariant.1 (sym c.of-then-is_err.ensures.name) (sym c.of-then-is_err.ensures.fault)

pub returns-in-Err-push-clause-err : goal.returns-in-Err-push-clause-err
returns-in-Err-push-clause-err c =
    memory_here c.args.files.now c.loop-file.transcripts.items c.loop-file.file-index c.file-item.result _ _
    (got_by c.args.files.now c.loop-file.file-index c.file-item.result (omega arith) c.file-item.is) c.loop-file.invariant.1 (sym c.of-in-Err-push.ensures.name) (sym c.of-in-Err-push.ensures.fault)

pub loop-file-preserved : goal.loop-file-preserved
loop-file-preserved c =
    let before = c.loop-file.transcripts.items in
    let t = c.in-Ok.transcript in
    let items : c.push-in-loop-file.new.self.items ≡ before ++ t ∷ [] = search rules in
    let parties : c.push.new.self.items ≡ c.loop-file.parties.items ++ c.party.result.now ∷ [] = search rules in
    let earlier = c.as_slice-earlier.result.now in
    let same = c.as_slice-earlier.ensures.value ∙ c.loop-file.invariant.2 in
    let at = got_by c.args.files.now c.loop-file.file-index c.file-item.result (omega arith) c.file-item.is in (
      subst AreTold (sym items) (told_more before t earlier c.file-item.result c.loop-file.invariant.0 c.is_transcript.ensures same c.in-Ok.ensures.read),
      subst (AreTranscripts (take (c.loop-file.file-index + 1) c.args.files.now)) (sym items)
          (transcripts_more c.args.files.now before c.loop-file.file-index c.file-item.result t at c.loop-file.invariant.1 earlier same c.in-Ok.ensures.read),
      parties_more c.loop-file.parties.items c.push.new.self.items before t c.loop-file.invariant.2
          (parties ∙ ap (λ (p : List ℕ). c.loop-file.parties.items ++ p ∷ []) c.party.ensures)
          ∙ ap (λ (ts : List Transcript). map teller ts) (sym items),
    )
