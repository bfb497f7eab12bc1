use Rattle.std.proofs.Common.{◌*◌, ◌≤◌}
use Rattle.std.specs.Prelude.{take, unsigned_abs}
use Rattle.node_programs.specs.ByProvider.{AreOwedBy, Debt, debt_at, debt_cmp}
use Rattle.ocpi_text.specs.Decimal.{e4_limit}
use Rattle.tables.specs.Tables.{shown_of}
use Rattle.node_programs.proofs.by_provider.debts_by.Given as goal

-- the sums of the records before this one, each far from its type's limits
abbrev pub invariant-loop-cdr : goal.invariant-loop-cdr
invariant-loop-cdr l = AreOwedBy (take l.cdr-index l.cdrs) (shown_of debt_cmp l.debts) × ((d : Debt) → unsigned_abs (debt_at (shown_of debt_cmp l.debts) d) ≤ e4_limit * l.cdr-index)
