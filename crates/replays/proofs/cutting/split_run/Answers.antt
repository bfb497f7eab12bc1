use Rattle.std.proofs.Common.{◌≡◌, ◌+◌, ◌++◌, ◌∷◌, length, [], refl, sym, ap, ◌∙◌, take, arith, append_assoc}
use Rattle.replays.proofs.CutLemmas.{further, not_far, one_longer}
use Rattle.replays.proofs.cutting.split_run.Goals as goal

pub loop-behind-init : goal.loop-behind-init
loop-behind-init c = (refl, omega arith, not_far c.args.text.now)

pub loop-behind-preserved : goal.loop-behind-preserved
loop-behind-preserved c =
    let text = c.args.text.now in
    let n = c.loop-behind.length in
    let rest = c.loop-behind.rest.now in
    let behind = c.in-Some.behind.now in
    let first = c.in-Some.field-0-0.now in
    let so = c.loop-behind.invariant in
    let cut : rest ≡ first ∷ behind = c.in-Some.ensures.cases.0 in
    let size : length rest ≡ length (first ∷ behind) = ap length cut in
    let whole : text ≡ take n text ++ first ∷ behind = so.0 ∙ ap (λ l. take n text ++ l) cut in
    let one = one_longer text n first behind whole (omega (arith, so.1, size)) in (
      whole ∙ sym (append_assoc (take n text) (first ∷ []) behind) ∙ ap (λ l. l ++ behind) (sym one),
      omega (arith, so.1, size),
      further text n first behind rest so.2 so.0 cut (c.ends_run.ensures.not c.if-ends_run.false) one,
    )
