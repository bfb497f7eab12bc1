use Rattle.std.proofs.Common.{◌∙◌, ◌++◌, subst, sym}
use Rattle.replays.proofs.FitLemmas.{may_not, may_not_closed}
use Rattle.replays.specs.Reading.{Fits}
use Rattle.replays.proofs.opening.Piece.may_fit.Goals as goal

pub returns-then-self : goal.returns-then-self
returns-then-self c = λ is rest long.
    subst (λ b. Fits b c.args.self.now.bytes.now (c.args.front.now ++ rest) → ⊥) (sym c.if-self.true)
    (may_not_closed c.args.self.now.bytes.now c.args.front.now rest (sym c.starts_with.ensures.value ∙ c.if-starts_with.false) long)

pub returns : goal.returns
returns c = λ is rest long.
    may_not c.args.self.now.bytes.now c.args.front.now rest (sym c.starts_with.ensures.value ∙ c.if-starts_with.false) (sym c.starts_with-2.ensures.value ∙ is) c.args.self.now.is_closed
