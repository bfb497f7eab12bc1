use Rattle.std.proofs.Common.{suc, ◌≡◌, ◌∷◌, [], List, length, refl, sym, ap, subst, ◌∙◌, arith}
use Rattle.std.specs.Vec.Iter.{into_iter_items}
use Rattle.operator_rows.specs.State.{State}
use Rattle.operator_rows.specs.Sound.{MayChangeAll, with_rows}
use Rattle.operator_rows.specs.Steps.{KeepsTimeRoom, untimed, untimed_all}
use Rattle.operator_rows.specs.Stored.{AreApart, Each, HasRoom, changed, changed_all}
use Rattle.operator_rows.proofs.KeepingSound.{may_beside}
use Rattle.operator_rows.proofs.TimeRooms.{then_keeps}
use Rattle.operator_rows.proofs.books.Books.change_all.Goals as goal

nothing_left : {X : Type 0} (l : List X) → length l ≡ 0 → l ≡ []
nothing_left [] h = refl
nothing_left (x ∷ xs) h = absurd (omega arith)

pub change-requires-clause-room : goal.change-requires-clause-room
change-requires-clause-room c =
    let at = c.loop-change in
    let steps : into_iter_items at.change-iterator ≡ c.in-Some.change ∷ into_iter_items c.next.new.self = c.in-Some.ensures.steps.0 in
    (subst (λ l. Each (HasRoom at.self.rooms) l) steps at.invariant.rooms) 0 c.in-Some.change refl

pub change-requires-clause-may : goal.change-requires-clause-may
change-requires-clause-may c =
    let at = c.loop-change in
    let steps : into_iter_items at.change-iterator ≡ c.in-Some.change ∷ into_iter_items c.next.new.self = c.in-Some.ensures.steps.0 in
    (subst (λ l. MayChangeAll at.self.state l) steps at.invariant.may).0

pub loop-change-preserved : goal.loop-change-preserved
loop-change-preserved c =
    let at = c.loop-change in
    let one = c.in-Some.change in
    let rest = into_iter_items c.next.new.self in
    let steps : into_iter_items at.change-iterator ≡ one ∷ rest = c.in-Some.ensures.steps.0 in
    let rooms = subst (λ l. Each (HasRoom at.self.rooms) l) steps at.invariant.rooms in
    let apart = subst AreApart steps at.invariant.apart in
    let may = (subst (λ l. MayChangeAll at.self.state l) steps at.invariant.may).1 in
    let is = c.change.ensures.state in
    record {
      waiting = c.change.ensures.waiting ∙ at.invariant.waiting;
      kept = is ∙ ap (λ (s : State). record s { rows = changed one at.self.state.rows; resend = untimed one at.self.state.resend }) at.invariant.kept ∙ sym (ap (λ (s : State). record c.args.self.now.state { rows = s.rows; resend = s.resend }) is);
      rows = ap (λ (s : State). changed_all rest s.rows) is ∙ sym (ap (λ l. changed_all l at.self.state.rows) steps) ∙ at.invariant.rows;
      resend = ap (λ (s : State). untimed_all rest s.resend) is ∙ sym (ap (λ l. untimed_all l at.self.state.resend) steps) ∙ at.invariant.resend;
      sending = λ t keeps. at.invariant.sending t (subst (λ l. KeepsTimeRoom at.self.state.resend l at.self.sending t) (sym steps)
          (then_keeps at.self.state.resend one rest at.self.sending c.change.new.self.sending t c.change.ensures.sending
          (subst (λ (s : State). KeepsTimeRoom s.resend rest c.change.new.self.sending t) is keeps)));
      rooms = λ k d e. c.change.ensures.keeps d (apart.0 k d e) (rooms (suc k) d e);
      apart = apart.1;
      may = subst (λ (s : State). MayChangeAll s rest) (sym is) (may_beside rest (with_rows (changed one at.self.state.rows) at.self.state) (untimed one at.self.state.resend) at.self.state.waits may);
      long =
          let was = at.invariant.long in
          let gone = c.in-Some.ensures.steps.1 in
          let short = ap length steps in
          omega arith;
    }

pub returns-clause-state : goal.returns-clause-state
returns-clause-state c =
    let at = c.loop-change in
    let empty : into_iter_items at.change-iterator ≡ [] = nothing_left _ (sym at.invariant.long ∙ c.in-None.ensures.steps.0) in
    let given = c.into_iter-change-iterator.ensures.into_iter_gives.0 in
    let rows = sym (ap (λ l. changed_all l at.self.state.rows) empty) ∙ at.invariant.rows ∙ ap (λ l. changed_all l c.args.self.now.state.rows) given in
    let resend = sym (ap (λ l. untimed_all l at.self.state.resend) empty) ∙ at.invariant.resend ∙ ap (λ l. untimed_all l c.args.self.now.state.resend) given in
    at.invariant.kept ∙ (λ i. record c.args.self.now.state { rows = rows i; resend = resend i })

pub returns-clause-sending : goal.returns-clause-sending
returns-clause-sending c =
    let at = c.loop-change in
    let given = c.into_iter-change-iterator.ensures.into_iter_gives.0 in
    rw (← given) (at.invariant.sending at.self.sending (λ n moment outlasts had. had))
