use Rattle.table_laws.proofs.OpenedStarts as laws
use Rattle.table_laws.proofs.laws.reserved_starts_are_opened.Goals as goal

pub returns : goal.returns
returns c = laws.reserved_starts_are_opened
