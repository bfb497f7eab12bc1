use Rattle.session_tables.proofs.Following.{are_of_site}
use Rattle.session_tables.proofs.laws.beginnings_are_of_site.Goals as goal

pub returns : goal.returns
returns c = are_of_site
