use Rattle.std.proofs.Common.{List, ◌≡◌, ◌∙◌, ap, arith, length, refl, subst, sym, take_all, true≢false}
use Rattle.std.specs.Prelude.{Contains, slice_get}
use Rattle.histories.proofs.Lists.{is_in}
use Rattle.replays.specs.declared.transcript.Opening.{Opening}
use Rattle.weave.proofs.Places.{got_by}
use Rattle.weave_runs.proofs.GivenLemmas.{all_up_to, not_true}
use Rattle.weave_runs.proofs.weaving.has_one_setup.Goals as goal

pub returns-then-not-are_equal : goal.returns-then-not-are_equal
returns-then-not-are_equal c =
    let items = c.openings-opening-items.result.now in
    let inside = is_in items c.loop-opening.opening-index c.opening-item.result (got_by items c.loop-opening.opening-index c.opening-item.result (omega arith) c.opening-item.is) in
    let within = subst (λ (os : List Opening). Contains os c.opening-item.result) c.openings-opening-items.ensures inside in
    ((λ bad. absurd (not_true bad)), (λ all. absurd (true≢false (sym (c.are_equal.ensures.1 (all c.opening-item.result within)) ∙ c.if-not-are_equal.true))))

pub loop-opening-preserved : goal.loop-opening-preserved
loop-opening-preserved c =
    let items = c.openings-opening-items.result.now in
    all_up_to c.args.transcript.now.openings c.loop-opening.opening-index c.opening-item.result (λ (x : Opening). x.setup ≡ c.args.first.now.setup)
    (ap (λ (os : List Opening). slice_get os c.loop-opening.opening-index) (sym c.openings-opening-items.ensures)
    ∙ got_by items c.loop-opening.opening-index c.opening-item.result (omega arith) c.opening-item.is)
    c.loop-opening.invariant (c.are_equal.ensures.0 c.if-not-are_equal.false)

pub returns : goal.returns
returns c =
    let size = ap (λ (os : List Opening). length os) c.openings-opening-items.ensures in
    let past = c.loop-opening-test.false in (
      (λ yes x within. c.loop-opening.invariant x (subst (λ (os : List Opening). Contains os x)
          (sym (take_all c.loop-opening.opening-index c.args.transcript.now.openings (omega (arith, size, past)))) within)),
      (λ all. refl),
    )
