use Rattle.std.proofs.Common.{refl, sym, ◌∙◌}
use Rattle.std.proofs.lemmas.Bool.{false≢true}
use Rattle.operator_tables.specs.Stop as lines
use Rattle.operator_tables.proofs.stop.decide_stop.Goals as goal

pub returns-in-Some : goal.returns-in-Some
returns-in-Some c = lines.Ended c.in-Some.session.now (rw c.requires at c.in-Some.ensures.found) (c.is_final.ensures.0 c.if-is_final.true) refl

pub returns-in-Some-2 : goal.returns-in-Some-2
returns-in-Some-2 c = lines.Going c.in-Some.session.now (rw c.requires at c.in-Some.ensures.found) (λ ended. false≢true (sym c.if-is_final.false ∙ c.is_final.ensures.1 ended)) refl
