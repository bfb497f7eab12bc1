use Rattle.std.proofs.Common.{◌≡◌, ◌++◌, ◌+◌, ◌∙◌, true, drop, sym, subst, arith, string_bytes}
use Rattle.std.proofs.lemmas.Option.{slice_get-get_or}
use Rattle.std.specs.Prelude.{codes}
use Rattle.histories.proofs.Lists.{stands}
use Rattle.weave.proofs.Places.{got_by}
use Rattle.weave_runs.specs.Refusals.{front_places, marked}
use Rattle.weave_runs.proofs.RefusalLemmas.{no_place, place_more}
use Rattle.weave_runs.proofs.refusal.front_refusal.Goals.{in-Some+in_ok-push_place-in-Some, in-None}
use Rattle.weave_runs.proofs.refusal.front_refusal.Goals as goal

pub loop-i-preserved : goal.loop-i-preserved
loop-i-preserved c =
    let files = c.args.files.now in
    let told = c.args.transcripts.now in
    let front = c.args.front.now in
    let i = c.loop-i.i in
    let one_each = c.requires.told in
    let places = c.requires.front in
    let told_at = got_by told i c.index-transcripts-i.result (omega (arith, one_each)) c.index-transcripts-i.is in
    let place_at = slice_get-get_or front i 0 (omega (arith, places)) in
    let whole = codes "refused 3 NoOrder" ++ marked true (front_places files told front) in
    let rest = front_places (drop (i + 1) files) (drop (i + 1) told) (drop (i + 1) front) in
    elim c.match-next_line.branch as (λ _. string_bytes c.match-next_line.output ++ marked c.match-next_line.is_first rest ≡ whole) [
      | in-Some+in_ok-push_place-in-Some w ↦
          subst (λ o. string_bytes o ++ marked c.match-next_line.is_first rest ≡ whole) (sym w.output-is)
          (subst (λ b. string_bytes w.push_place.new.output ++ marked b rest ≡ whole) (sym w.is_first-is)
          (place_more files told front i c.index-files-i.result c.index-transcripts-i.result _ (got_by files i c.index-files-i.result (omega arith) c.index-files-i.is) told_at place_at _ c.loop-i.is_first (string_bytes c.loop-i.output)
          (string_bytes w.push_place.new.output) whole (sym w.in-Some.is ∙ c.next_line.ensures) c.loop-i.invariant w.in_ok-push_place-in-Some.ensures))
      | in-None w ↦
          subst (λ o. string_bytes o ++ marked c.match-next_line.is_first rest ≡ whole) (sym w.output-is)
          (subst (λ b. string_bytes c.loop-i.output ++ marked b rest ≡ whole) (sym w.is_first-is)
          (no_place files told front i (stands files i (omega arith)).0 c.index-transcripts-i.result _ (stands files i (omega arith)).1 told_at place_at c.loop-i.is_first (string_bytes c.loop-i.output) whole
          (sym w.in-None.is ∙ c.next_line.ensures) c.loop-i.invariant))
    ]
