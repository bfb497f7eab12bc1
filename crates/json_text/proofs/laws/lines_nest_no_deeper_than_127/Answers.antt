use Rattle.json_text.proofs.Depths.{deeper, others, found}
use Rattle.json_text.proofs.laws.lines_nest_no_deeper_than_127.Goals as goal

pub returns-clause-deeper : goal.returns-clause-deeper
returns-clause-deeper c = deeper

pub returns-clause-others : goal.returns-clause-others
returns-clause-others c = others

pub returns-clause-found : goal.returns-clause-found
returns-clause-found c = found
