use Rattle.std.proofs.Common.{◌≡◌, sym, ap, subst, ◌∙◌, arith}
use Rattle.histories.specs.declared.history.NodeHistory.{NodeHistory}
use Rattle.histories.proofs.Lists.{got_within, some_same}
use Rattle.weave.specs.Needs.{IsMissing, StandsAt, now_of, sent_in}
use Rattle.weave.specs.TurnFaults.{IsGivenOtherwise}
use Rattle.weave.proofs.Needing.{given_otherwise, row_is, unsent}
use Rattle.weave.proofs.Places.{got_by}
use Rattle.weave.proofs.needs.need_of_sender.Goals as goal

pub returns-in-None-clause-gap : goal.returns-in-None-clause-gap
returns-in-None-clause-gap c =
    let (h, here, same) = c.requires.sender in
    let at = got_by c.args.table.now c.args.sender c.index-table-sender.result (omega arith) c.index-table-sender.is in
    let row = row_is c.args.histories.now c.args.table.now c.requires.table c.args.sender h c.index-table-sender.result here at in
    let own = got_by c.args.histories.now c.args.sender c.index-histories-sender.result (got_within c.args.histories.now c.args.sender h here) c.index-histories-sender.is in
    let before : c.value-before.result ≡ h.before = c.value-before.ensures.value ∙ ap (λ (z : NodeHistory). z.before) (sym c.index-histories-sender.is ∙ some_same c.index-histories-sender.result h (sym own ∙ here)) in
    let is : now_of c.as_slice.result.now ≡ sent_in h = ap now_of c.as_slice.ensures.value ∙ row in
    unsent c.args.histories.now c.requires.apart c.requires.numbered c.args.packet.now c.args.sender h here same
    (subst (λ l. IsMissing l h.before c.args.packet.now.serial) is (subst (λ n. IsMissing (now_of c.as_slice.result.now) h.before n) c.value-serial.ensures.value (subst (λ n. IsMissing (now_of c.as_slice.result.now) n c.value-serial.result) before c.in-None.ensures.none)))

pub returns-then-is_equal_packet-clause-need : goal.returns-then-is_equal_packet-clause-need
returns-then-is_equal_packet-clause-need c =
    let (h, here, same) = c.requires.sender in
    let at = got_by c.args.table.now c.args.sender c.index-table-sender.result (omega arith) c.index-table-sender.is in
    let row = row_is c.args.histories.now c.args.table.now c.requires.table c.args.sender h c.index-table-sender.result here at in
    let own = got_by c.args.histories.now c.args.sender c.index-histories-sender.result (got_within c.args.histories.now c.args.sender h here) c.index-histories-sender.is in
    let before : c.value-before.result ≡ h.before = c.value-before.ensures.value ∙ ap (λ (z : NodeHistory). z.before) (sym c.index-histories-sender.is ∙ some_same c.index-histories-sender.result h (sym own ∙ here)) in
    let is : now_of c.as_slice.result.now ≡ sent_in h = ap now_of c.as_slice.ensures.value ∙ row in
    let found = subst (λ l. StandsAt l h.before c.args.packet.now.serial c.in-Some.given.now) is (subst (λ n. StandsAt (now_of c.as_slice.result.now) h.before n c.in-Some.given.now) c.value-serial.ensures.value
    (subst (λ n. StandsAt (now_of c.as_slice.result.now) n c.value-serial.result c.in-Some.given.now) before c.in-Some.ensures.found)) in
    record {
      sender = h;
      here = here;
      same = same;
      serial_is = c.value-serial.ensures.value;
      stands = subst (StandsAt (sent_in h) h.before c.args.packet.now.serial) (c.is_equal_packet.ensures.0 c.if-is_equal_packet.true) found;
    }

pub returns-else-is_equal_packet-clause-gap : goal.returns-else-is_equal_packet-clause-gap
returns-else-is_equal_packet-clause-gap c =
    let (h, here, same) = c.requires.sender in
    let at = got_by c.args.table.now c.args.sender c.index-table-sender.result (omega arith) c.index-table-sender.is in
    let row = row_is c.args.histories.now c.args.table.now c.requires.table c.args.sender h c.index-table-sender.result here at in
    let own = got_by c.args.histories.now c.args.sender c.index-histories-sender.result (got_within c.args.histories.now c.args.sender h here) c.index-histories-sender.is in
    let before : c.value-before.result ≡ h.before = c.value-before.ensures.value ∙ ap (λ (z : NodeHistory). z.before) (sym c.index-histories-sender.is ∙ some_same c.index-histories-sender.result h (sym own ∙ here)) in
    let is : now_of c.as_slice.result.now ≡ sent_in h = ap now_of c.as_slice.ensures.value ∙ row in
    let found = subst (λ l. StandsAt l h.before c.args.packet.now.serial c.in-Some.given.now) is (subst (λ n. StandsAt (now_of c.as_slice.result.now) h.before n c.in-Some.given.now) c.value-serial.ensures.value
    (subst (λ n. StandsAt (now_of c.as_slice.result.now) n c.value-serial.result c.in-Some.given.now) before c.in-Some.ensures.found)) in
    subst (λ n. IsGivenOtherwise c.args.histories.now (record { sender = c.args.sender; serial = n }) c.args.packet.now) (sym c.value-serial.ensures.value)
    (given_otherwise c.args.histories.now c.requires.apart c.requires.numbered c.args.packet.now c.args.sender h c.in-Some.given.now here same found
    (λ e. let yes = c.is_equal_packet.ensures.1 e in let no = c.if-is_equal_packet.false in cc))
