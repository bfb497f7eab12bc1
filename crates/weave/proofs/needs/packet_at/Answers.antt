use Rattle.std.proofs.Common.{◌-◌, arith}
use Rattle.weave.proofs.Needing.{found_at}
use Rattle.weave.proofs.Places.{got_by}
use Rattle.weave.proofs.needs.packet_at.Goals as goal

pub returns-clause-found : goal.returns-clause-found
returns-clause-found c =
    found_at c.args.row.now c.args.before c.args.serial c.index-row-serial.result (got_by c.args.row.now (c.args.serial - c.args.before - 1) c.index-row-serial.result (omega arith) c.index-row-serial.is) (omega arith)
