use Rattle.std.proofs.Common.{sym, subst, ◌++◌, ◌∷◌, []}
use Rattle.provider_stored.specs.Fitting.{IsFit, Spoils}
use Rattle.provider_stored.specs.Making.{IsMadeOf}
use Rattle.provider_stored.proofs.Looked.{if_none, if_some}
use Rattle.provider_stored.proofs.Made.{made_of_more}
use Rattle.provider_stored.proofs.making.add.Goals as goal

pub returns-in-Some-clause-bad : goal.returns-in-Some-clause-bad
returns-in-Some-clause-bad c = λ peers before rest made order.
    if_some (Spoils c.args.books.now.state c.args.row) c.row_fault.result c.in-Some.reason c.in-Some.is c.row_fault.ensures.spoils peers before rest made order

pub returns-clause-fits : goal.returns-clause-fits
returns-clause-fits c = λ peers before made.
    subst (IsMadeOf peers (before ++ c.args.row ∷ [])) (sym c.in_ok-add_row.ensures.ok)
    (made_of_more peers before c.args.books.now.state c.args.row made (if_none (IsFit c.args.books.now.state c.args.row) c.row_fault.result c.in_default.is c.row_fault.ensures.fits))
