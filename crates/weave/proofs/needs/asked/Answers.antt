use Rattle.weave.proofs.needs.asked.Goals as goal

pub returns-in-None-clause-none : goal.returns-in-None-clause-none
returns-in-None-clause-none c = λ q asks. c.in-None.ensures.none q asks.delivers
