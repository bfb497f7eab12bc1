use Rattle.std.proofs.Common.{◌∷◌, ◌++◌, map, sym, ap, ◌∙◌}
use Rattle.ocpi_types.specs.declared.rows.Row.TheVariants as row
use Rattle.handover.specs.Cdrs.{cdr_row}
use Rattle.tables.proofs.Elements.{one_more, none_left}
use Rattle.handover.proofs.cdr_book.CdrBook.push_rows.Goals as goal

pub loop-cdr-preserved : goal.loop-cdr-preserved
loop-cdr-preserved c = one_more _ _ _ _ _ _ c.in_ok-push.ensures.items (ap (map cdr_row) c.in-Some.ensures.steps ∙ ap (λ x. row.Cdr x ∷ map cdr_row c.next.new.self) (sym c.in_ok-cdr.ensures)) c.loop-cdr.invariant

pub returns : goal.returns
returns c = rw (← c.self.view_is) (none_left _ _ _ (ap (map cdr_row) c.in-None.ensures.steps.0) c.loop-cdr.invariant ∙ ap (λ l. c.args.rows.now.items ++ map cdr_row l) (cc))
