use Rattle.std.proofs.Common.{◌≡◌, ◌∙◌, ◌++◌, ◌+◌, suc, refl, sym, ap, subst, arith, ℕ, string_bytes}
use Rattle.replays.proofs.AnsweredLines.{fewer_left, line_cut, line_differs, line_read, numbers_left, tail_cut, tail_there}
use Rattle.replays.proofs.FrontLemmas.{begins_with, not_begun}
use Rattle.replays.proofs.LinesRead.{none_read, to_tail}
use Rattle.replays.proofs.ResultLemmas.{on_five_ok, on_four_ok, under_ok}
use Rattle.replays.specs.Answering.{shown}
use Rattle.replays.specs.Fronts.{feeds_of}
use Rattle.replays.specs.Reading.{Reader}
use Rattle.replays.specs.RunParts.{AreRead}
use Rattle.replays.proofs.reading.Reading.take_lines.Goals as goal
use Rattle.replays.proofs.reading.Reading.take_lines.Goals.{then-behind, else-behind}

pub loop-bytes-init : goal.loop-bytes-init
loop-bytes-init c =
    (none_read (shown c.args.running) c.args.behind.rest.now c.args.self.now.story _ c.requires.rest c.requires.doubt, record { parties = refl; earlier = refl }, refl, c.requires.numbers)

pub returns-in_default-clause-ok : goal.returns-in_default-clause-ok
returns-in_default-clause-ok c =
    let l = c.loop-bytes in
    let first = shown c.args.running in
    let s = c.args.self.now.story in
    let number = c.args.behind.line.number + 2 in
    let read = l.invariant.0 in
    let plain = c.in_default.ensures.none in
    let place = ap suc l.invariant.2 ∙ c.requires.place in
    let end = c.end_run in
    elim c.if-behind.branch [
      | then-behind w ↦ on_five_ok end.result (λ left same node certain doubts. record {
        lines = to_tail first c.args.behind.rest.now s number (shown l.running) l.rest.now l.self.story l.number read c.args.behind.is_ended end.new.self.story plain same left
            (tail_there first c.args.behind.rest.now s number l.running l.rest.now l.self.story l.number read place c.args.behind.is_ended w.is_empty.result end.new.self.story.doubt w.if-behind.true plain
            w.is_empty.ensures certain doubts);
        same = record { parties = node.parties ∙ l.invariant.1.parties; earlier = node.earlier ∙ l.invariant.1.earlier };
      }) end.ensures.left end.ensures.same end.ensures.node
          (under_ok _ end.result (λ e. end.ensures.certain (w.is_in_doubt-is ∙ e))) (under_ok _ end.result (λ e. end.ensures.doubts (w.is_in_doubt-is ∙ e)))
      | else-behind w ↦ on_four_ok end.result (λ left same node certain. record {
        lines = to_tail first c.args.behind.rest.now s number (shown l.running) l.rest.now l.self.story l.number read c.args.behind.is_ended end.new.self.story plain same left
            (tail_cut first c.args.behind.rest.now s number l.running l.rest.now l.self.story l.number read place c.args.behind.is_ended end.new.self.story.doubt w.if-behind.false certain);
        same = record { parties = node.parties ∙ l.invariant.1.parties; earlier = node.earlier ∙ l.invariant.1.earlier };
      }) end.ensures.left end.ensures.same end.ensures.node (end.ensures.certain (w.is_in_doubt-is ∙ w.if-behind.false))
    ]

pub overflow_add-number-then-starts_with : goal.overflow_add-number-then-starts_with
overflow_add-number-then-starts_with c = let f = c.loop-bytes.invariant.3 in omega (arith, f)

pub overflow_add-number-then-starts_with-2 : goal.overflow_add-number-then-starts_with-2
overflow_add-number-then-starts_with-2 c =
    let text = c.as_bytes-told.result.now in
    let more = c.in-Some.more.now in
    let left = numbers_left c.loop-bytes.number c.feeds_in.result c.loop-bytes.rest.now c.in-Some.bytes.now more text _ c.loop-bytes.invariant.3 c.in-Some.ensures.is (begins_with more text (sym c.starts_with.ensures.value ∙ c.if-starts_with.true)) c.feeds_in.ensures.few in
    omega (arith, left)

pub loop-bytes-smaller : goal.loop-bytes-smaller
loop-bytes-smaller c =
    let text = c.as_bytes-told.result.now in
    let more = c.in-Some.more.now in
    fewer_left c.loop-bytes.rest.now c.in-Some.bytes.now more text c.text_behind-rest.result.now c.in-Some.ensures.is
    (begins_with more text (sym c.starts_with.ensures.value ∙ c.if-starts_with.true) ∙ ap (λ l. text ++ l) (sym c.text_behind-rest.ensures))

pub loop-bytes-preserved : goal.loop-bytes-preserved
loop-bytes-preserved c =
    let l = c.loop-bytes in
    let told = c.as_bytes-told in
    let more = c.in-Some.more.now in
    let story = ap (λ (r : Reader). r.story) c.self.view_is in
    let read = subst (λ s. AreRead (shown c.args.running) c.args.behind.rest.now c.args.self.now.story (c.args.behind.line.number + 2) (shown l.running) l.rest.now s l.number) (sym story) l.invariant.0 in
    let whole = begins_with more told.result.now (sym c.starts_with.ensures.value ∙ c.if-starts_with.true) ∙ ap (λ t. told.result.now ++ t) (sym c.text_behind-rest.ensures) in (
      line_read (shown c.args.running) c.args.behind.rest.now c.args.self.now.story (c.args.behind.line.number + 2) l.running l.rest.now c.self.inside.history l.number read
          (ap suc l.invariant.2 ∙ c.requires.place) c.answer.new.running c.in-Some.bytes.now more (string_bytes c.answer.new.text) c.answer.new.self c.in-Some.ensures.is c.in-Some.ensures.plain c.in_ok-answer.ensures
          c.text_behind-rest.result.now c.feeds_in.result (whole ∙ ap (λ t. t ++ c.text_behind-rest.result.now) told.ensures.value) (c.feeds_in.ensures.is ∙ ap feeds_of told.ensures.value),
      record { parties = ap (λ (r : Reader). r.parties) c.self.view_is ∙ l.invariant.1.parties; earlier = ap (λ (r : Reader). r.earlier) c.self.view_is ∙ l.invariant.1.earlier },
      c.in_ok-answer.ensures.opening ∙ l.invariant.2,
      numbers_left l.number c.feeds_in.result l.rest.now c.in-Some.bytes.now more told.result.now c.text_behind-rest.result.now l.invariant.3 c.in-Some.ensures.is whole c.feeds_in.ensures.few,
    )

pub returns-then-starts_with-2-clause-ok : goal.returns-then-starts_with-2-clause-ok
returns-then-starts_with-2-clause-ok c =
    let l = c.loop-bytes in
    let told = c.as_bytes-told in
    let more = c.in-Some.more.now in
    let end = c.end_run-then-starts_with-2 in
    let story = ap (λ (r : Reader). r.story) c.self.view_is in
    let read = subst (λ s. AreRead (shown c.args.running) c.args.behind.rest.now c.args.self.now.story (c.args.behind.line.number + 2) (shown l.running) l.rest.now s l.number) (sym story) l.invariant.0 in
    on_four_ok end.result (λ left same certain node. record {
      lines = line_cut (shown c.args.running) c.args.behind.rest.now c.args.self.now.story (c.args.behind.line.number + 2) l.running l.rest.now c.self.inside.history l.number read
          (ap suc l.invariant.2 ∙ c.requires.place) c.answer.new.running c.in-Some.bytes.now more (string_bytes c.answer.new.text) c.answer.new.self c.in-Some.ensures.is c.in-Some.ensures.plain c.in_ok-answer.ensures
          c.args.behind.is_ended end.new.self.story _ (sym told.ensures.value ∙ begins_with told.result.now more (sym c.starts_with-else-starts_with.ensures.value ∙ c.if-starts_with-2.true)) same left certain;
      same = record {
        parties = node.parties ∙ ap (λ (r : Reader). r.parties) c.self.view_is ∙ l.invariant.1.parties;
        earlier = node.earlier ∙ ap (λ (r : Reader). r.earlier) c.self.view_is ∙ l.invariant.1.earlier;
      };
    }) end.ensures.left end.ensures.same (end.ensures.certain refl) end.ensures.node

pub returns-else-starts_with-2-clause-err : goal.returns-else-starts_with-2-clause-err
returns-else-starts_with-2-clause-err c = λ real.
    let l = c.loop-bytes in
    let told = c.as_bytes-told in
    let more = c.in-Some.more.now in
    let story = ap (λ (r : Reader). r.story) c.self.view_is in
    let read = subst (λ s. AreRead (shown c.args.running) c.args.behind.rest.now c.args.self.now.story (c.args.behind.line.number + 2) (shown l.running) l.rest.now s l.number) (sym story) l.invariant.0 in
    let d = line_differs (shown c.args.running) c.args.behind.rest.now c.args.self.now.story (c.args.behind.line.number + 2) l.running l.rest.now c.self.inside.history l.number read
    (ap suc l.invariant.2 ∙ c.requires.place) c.answer.new.running c.in-Some.bytes.now more (string_bytes c.answer.new.text) c.answer.new.self c.in-Some.ensures.is c.in-Some.ensures.plain c.in_ok-answer.ensures
    (λ m is. not_begun told.result.now more m (sym c.starts_with-else-starts_with.ensures.value ∙ c.if-starts_with-2.false) (told.ensures.value ∙ is))
    (λ m is. not_begun more told.result.now m (sym c.starts_with.ensures.value ∙ c.if-starts_with.false) (is ∙ ap (λ t. t ++ m) (sym told.ensures.value))) in
    let at = d.1 in
    (d.0, omega (arith, at))
