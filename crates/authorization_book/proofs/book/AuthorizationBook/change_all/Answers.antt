use Rattle.std.proofs.Common.{◌≡◌, ◌+◌, ◌∷◌, drop, suc, ◌∙◌, ap, sym, subst, arith, add-one}
use Rattle.std.proofs.Math.Seq.{drop-cons}
use Rattle.authorization_book.specs.Waits.{HaveRoomForAll, MayWait, room_left, room_left_all, waited, waited_all}
use Rattle.authorization_book.proofs.Roomed.{first_room, later_room}
use Rattle.authorization_book.proofs.book.AuthorizationBook.change_all.Goals as goal

pub change-requires : goal.change-requires
change-requires c =
    let l = c.loop-waiting in
    let less = c.loop-waiting-test.true in
    let w = c.waiting-item.result in
    let rest = drop (l.waiting-index + 1) c.args.waitings.now in
    let cut : drop l.waiting-index c.args.waitings.now ≡ w ∷ rest =
    drop-cons c.args.waitings.now l.waiting-index w (omega arith) ∙ ap (λ k. k ∷ drop (suc l.waiting-index) c.args.waitings.now) (sym c.waiting-item.is) ∙ ap (λ k. w ∷ drop k c.args.waitings.now) (sym (add-one l.waiting-index)) in
    record {
      room = first_room w rest l.self.rooms (subst (λ ws. HaveRoomForAll l.self.rooms ws) cut l.invariant.room);
      may = (subst (λ ws. MayWait l.self.waits ws) cut l.invariant.may).0;
    }

pub loop-waiting-preserved : goal.loop-waiting-preserved
loop-waiting-preserved c =
    let l = c.loop-waiting in
    let less = c.loop-waiting-test.true in
    let w = c.waiting-item.result in
    let rest = drop (l.waiting-index + 1) c.args.waitings.now in
    let cut : drop l.waiting-index c.args.waitings.now ≡ w ∷ rest =
    drop-cons c.args.waitings.now l.waiting-index w (omega arith) ∙ ap (λ k. k ∷ drop (suc l.waiting-index) c.args.waitings.now) (sym c.waiting-item.is) ∙ ap (λ k. w ∷ drop k c.args.waitings.now) (sym (add-one l.waiting-index)) in
    let may = subst (λ ws. MayWait l.self.waits ws) cut l.invariant.may in
    let room = subst (λ ws. HaveRoomForAll l.self.rooms ws) cut l.invariant.room in
    let waits : waited_all rest (waited w l.self.waits) ≡ waited_all c.args.waitings.now c.args.self.now.waits = sym (ap (λ ws. waited_all ws l.self.waits) cut) ∙ l.invariant.waits in
    let rooms : room_left_all rest (waited w l.self.waits) (room_left w l.self.waits l.self.rooms) ≡ room_left_all c.args.waitings.now c.args.self.now.waits c.args.self.now.rooms =
    sym (ap (λ ws. room_left_all ws l.self.waits l.self.rooms) cut) ∙ l.invariant.rooms in
    record {
      waits = ap (waited_all rest) c.change.ensures.waits ∙ waits;
      rooms = (λ i. room_left_all rest (c.change.ensures.waits i) (c.change.ensures.rooms i)) ∙ rooms;
      room = later_room w rest l.self.waits l.self.rooms c.change.new.self.rooms may.1 c.change.ensures.rooms room;
      may = rw c.change.ensures.waits may.2;
    }
