use Rattle.std.proofs.Common.{◌≡◌, drop}
use Rattle.authorization_book.specs.Waits.{HaveRoomForAll, MayWait, room_left_all, waited_all}
use Rattle.authorization_book.proofs.book.AuthorizationBook.change_all.Given as goal

abbrev pub invariant-loop-waiting : goal.invariant-loop-waiting
invariant-loop-waiting l = record {
  waits : waited_all (drop l.waiting-index l.waitings) l.self.waits ≡ waited_all l.waitings l.initial.self.waits;
  rooms : room_left_all (drop l.waiting-index l.waitings) l.self.waits l.self.rooms ≡ room_left_all l.waitings l.initial.self.waits l.initial.self.rooms;
  room : HaveRoomForAll l.self.rooms (drop l.waiting-index l.waitings);
  may : MayWait l.self.waits (drop l.waiting-index l.waitings);
}
