use Rattle.std.proofs.Common.{sym, subst, ◌∙◌}
use Rattle.std.proofs.lemmas.Map.Keys.{le_from_is_le}
use Rattle.session_tables.specs.Places.{EndsBy}
use Rattle.session_tables.proofs.taking.ends_by.Goals as goal

pub returns-in-Some-clause-yes : goal.returns-in-Some-clause-yes
returns-in-Some-clause-yes c =
    λ within. subst (EndsBy c.args.books.now.state.rows c.args.at) (sym c.in-OpenStart.is)
    (c.in-Some.open.now, sym (rw c.commands.ensures at c.in-Some.ensures), le_from_is_le _ _ (sym c.le.ensures ∙ within))
