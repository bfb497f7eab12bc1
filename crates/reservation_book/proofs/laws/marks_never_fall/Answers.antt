use Rattle.reservation_book.proofs.CallRuns.{marks_never_fall}
use Rattle.reservation_book.proofs.laws.marks_never_fall.Goals as goal

pub returns : goal.returns
returns c = marks_never_fall
