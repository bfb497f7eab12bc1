use Rattle.replays.specs.Reading.{Beginning, Line}
use Rattle.std.proofs.Common.{refl}
use Rattle.replays.proofs.opening.behind_setup.Goals as goal

pub returns-in-Some-clause-is : goal.returns-in-Some-clause-is
returns-in-Some-clause-is c = Line c.in-Some.rest.now c.in-Some.ensures.is

pub returns-in-None-clause-is : goal.returns-in-None-clause-is
returns-in-None-clause-is c = Beginning refl
