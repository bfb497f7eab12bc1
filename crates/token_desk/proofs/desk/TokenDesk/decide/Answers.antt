use Rattle.token_desk.specs.Swipes.{Known}
use Rattle.token_desk.proofs.desk.TokenDesk.decide.Goals as goal

pub returns-in-Some : goal.returns-in-Some
returns-in-Some c = Known _ c.in-Some.ensures.found c.line_of.ensures
