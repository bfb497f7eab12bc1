use Rattle.std.proofs.Common.{◌==◌, ◌∙◌, ap, sym}
use Rattle.replays.proofs.OpenLemmas.{doubt_where, known_as}
use Rattle.replays.proofs.PartyLemmas.{none_of, some_of}
use Rattle.replays.specs.Reading.{Reader, taken_in}
use Rattle.replays.specs.RunParts.{Either, OnlyAfter}
use Rattle.replays.proofs.reading.Reading.settle.Goals as goal

pub returns-then-is_empty-3-clause-ok : goal.returns-then-is_empty-3-clause-ok
returns-then-is_empty-3-clause-ok c =
    let r = c.args.self.now in
    let some = some_of c.args.after.items c.is_empty.result (c.is_empty.ensures ∙ ap (λ n. n == 0) c.args.after.ok.0) c.if-is_empty.false in
    let none = none_of c.args.before.items c.is_empty-2.result (c.is_empty-2.ensures ∙ ap (λ n. n == 0) c.args.before.ok.0) c.if-is_empty-3.true in
    let doubt = doubt_where r.story.doubt c.args.after.items c.requires.doubt some in
    OnlyAfter none some doubt.0 doubt.1 (known_as r c.self.inside.earlier.now c.args.after.items c.take_in.new.self (taken_in r.story doubt.0) (ap (λ (x : Reader). x.earlier) c.self.view_is)
    (c.in_ok-take_in.ensures doubt.0 (ap (λ (x : Reader). x.story.doubt) c.self.view_is ∙ doubt.1) ∙ ap (λ (x : Reader). taken_in x.story doubt.0) c.self.view_is))

pub returns-clause-ok : goal.returns-clause-ok
returns-clause-ok c =
    let r = c.args.self.now in
    let some = some_of c.args.after.items c.is_empty.result (c.is_empty.ensures ∙ ap (λ n. n == 0) c.args.after.ok.0) c.if-is_empty.false in
    let any = some_of c.args.before.items c.is_empty-2.result (c.is_empty-2.ensures ∙ ap (λ n. n == 0) c.args.before.ok.0) c.if-is_empty-3.false in
    let doubt = doubt_where r.story.doubt c.args.after.items c.requires.doubt some in
    Either any some doubt.0 doubt.1 (known_as r c.self.inside.earlier.now c.args.before.items c.self.inside.history r.story (ap (λ (x : Reader). x.earlier) c.self.view_is) (ap (λ (x : Reader). x.story) c.self.view_is))
