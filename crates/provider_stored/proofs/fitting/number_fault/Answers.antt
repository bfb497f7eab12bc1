use Rattle.std.proofs.Common.{rules, sym, ◌∙◌}
use Rattle.std.specs.FinMap.{get}
use Rattle.provider_stored.specs.Fitting.IsTaken.{NotCounted, HasPush, HasCommand}
use Rattle.provider_stored.proofs.Looked.{found_there}
use Rattle.provider_stored.proofs.fitting.number_fault.Goals as goal

pub returns-then-lt-clause-taken : goal.returns-then-lt-clause-taken
returns-then-lt-clause-taken c = NotCounted (search rules)

pub returns-then-is_some-clause-taken : goal.returns-then-is_some-clause-taken
returns-then-is_some-clause-taken c =
    let (x, stands) = found_there c.get.result (get c.args.outbox.now.rows.pushes c.args.number) c.get.ensures (sym c.is_some.ensures ∙ c.if-is_some.true) in
    HasPush x stands

pub returns-then-is_some-2-clause-taken : goal.returns-then-is_some-2-clause-taken
returns-then-is_some-2-clause-taken c =
    let (x, stands) = found_there c.command.result (get c.args.outbox.now.rows.commands c.args.number) c.command.ensures (sym c.is_some-2.ensures ∙ c.if-is_some-2.true) in
    HasCommand x stands
