use Rattle.std.proofs.Common.{Contains, subst, sym}
use Rattle.ocpi_types.specs.declared.rows.Row.TheVariants as row
use Rattle.replays.specs.LineTurns.{IsNumbered}
use Rattle.replays.proofs.held.Held.is_numbered.Goals as goal

pub returns : goal.returns
returns c = subst IsNumbered c.self.view_is (record {
  line = c.value-number.ensures.bound;
  requests = λ n x within. c.requests_fit.ensures n x (subst (λ l. Contains l (row.Command n x)) (sym c.as_slice.ensures.value) within);
})
