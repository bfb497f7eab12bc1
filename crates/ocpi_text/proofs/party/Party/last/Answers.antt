use Rattle.std.proofs.Common.{◌≡◌, Ok}
use Rattle.ocpi_text.specs.Party.{party_at}
use Rattle.ocpi_text.proofs.Numbers.{party_last}
use Rattle.ocpi_text.proofs.party.Party.last.Goals as goal

pub returns-clause-value : goal.returns-clause-value
returns-clause-value c =
    let party : party_at c.args.self.now ≡ Ok c.args.self.now = rw (← c.self.view_is) c.self.invariant in
    party_last c.args.self.now c.cells.result.now party (rw c.self.view_is at c.cells.ensures)
