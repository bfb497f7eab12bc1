use Rattle.std.proofs.Common.{refl, subst}
use Rattle.replays.specs.Ways.{IsFit}
use Rattle.replays.proofs.opening.fit_node.Goals as goal

pub returns-in-No : goal.returns-in-No
returns-in-No c = subst (λ f. IsFit c.args.piece.is_closed c.args.piece.bytes.now c.args.line.now f) c.in-No.is c.fit.ensures

pub returns-in-Begins : goal.returns-in-Begins
returns-in-Begins c = subst (λ f. IsFit c.args.piece.is_closed c.args.piece.bytes.now c.args.line.now f) c.in-Begins.is c.fit.ensures

pub returns-in-Is : goal.returns-in-Is
returns-in-Is c = (refl, subst (λ f. IsFit c.args.piece.is_closed c.args.piece.bytes.now c.args.line.now f) c.in-Is.is c.fit.ensures, refl)
