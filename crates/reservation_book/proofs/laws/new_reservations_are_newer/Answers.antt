use Rattle.reservation_book.proofs.CallRuns.{new_reservations_are_newer}
use Rattle.reservation_book.proofs.laws.new_reservations_are_newer.Goals as goal

pub returns : goal.returns
returns c = new_reservations_are_newer
