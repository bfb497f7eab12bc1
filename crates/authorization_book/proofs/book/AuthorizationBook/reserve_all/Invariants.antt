use Rattle.std.proofs.Common.{◌≡◌, take}
use Rattle.authorization_book.specs.Waits.{HaveRoomForAll, KeepsRoom}
use Rattle.authorization_book.proofs.book.AuthorizationBook.reserve_all.Given as goal

abbrev pub invariant-loop-waiting : goal.invariant-loop-waiting
invariant-loop-waiting l = record {
  waits : l.self.waits ≡ l.initial.self.waits;
  made : HaveRoomForAll l.self.rooms (take l.waiting-index l.waitings);
  keeps : KeepsRoom l.initial.self.rooms l.self.rooms;
}
