-- An order is submitted: the acts may be carried out, and how many numbers they take.
use Rattle.std.proofs.Common.{◌≡◌, ◌≤◌, ◌++◌, ℕ, List, [], ◌∷◌, length, inl, inr, refl, sym, ap, subst, ◌∙◌, arith}
use Rattle.std.specs.Prelude.{Some, None, Contains}
use Rattle.tables.proofs.Elements.{in_none, in_front}
use Rattle.tables.proofs.Options.{none_some}
use Rattle.ocpi_text.specs.OwnIds.{own_id_text}
use Rattle.ocpi_text.specs.declared.own_ids.OwnIdKind.TheVariants.{AuthorizationReference}
use Rattle.ocpi_text.specs.Text.{key}
use Rattle.ocpi_text.specs.Whole.{max_whole}
use Rattle.ocpi_types.specs.Commands.{reference_of}
use Rattle.ocpi_types.specs.declared.events.Order.{Order}
use Rattle.ocpi_types.specs.declared.rows.Change.{Change}
use Rattle.ocpi_types.specs.declared.rows.Change.TheVariants.{Put, Drop}
use Rattle.ocpi_types.specs.declared.rows.Counter.TheVariants.{Reference}
use Rattle.ocpi_types.specs.declared.rows.Row.{Row}
use Rattle.ocpi_types.specs.declared.rows.Row.TheVariants as row
use Rattle.ocpi_types.specs.declared.commands.Command.{Command}
use Rattle.node_steps.specs.declared.plan.Volatile.TheVariants.{Sent}
use Rattle.node_steps.specs.Acts.{Act, all_changes, all_messages, all_requests, commanded, unanswered}
use Rattle.node_steps.specs.Peers.{HasPeer}
use Rattle.provider_rows.specs.State.{State}
use Rattle.provider_rows.specs.Sound.{IsConsistent, IsGiven}
use Rattle.provider_rows.specs.Steps.{IsUndropped}
use Rattle.provider_steps.specs.Acts.{referenced}
use Rattle.provider_steps.specs.Facts.{OrdersMayFollow}
use Rattle.provider_steps.specs.Moves.{AreInRange}
use Rattle.provider_steps.specs.Orders.{Makes, OrderLine, Start, Reserve, Stop, Cancel, Unlock, next_reference, next_request}
use Rattle.provider_steps.proofs.Orderly.{in_later, of_cons, orderly_kinds}
use Rattle.provider_steps.proofs.Sending.{AreSent, NewCommand, new_untimed, sent_one}
use Rattle.provider_steps.proofs.Planning.{ArePlanned, may_follow}
use Rattle.provider_steps.proofs.CommandRows.{may_put_next}
use Rattle.provider_steps.proofs.OwnReferences.{same_reference}

-- changes that put rows alone drop none
abbrev AreAllPut : List Change → Type 0
AreAllPut changes = (c : Change) → Contains changes c → (r : Row) × (Put r ≡ c)

put_undropped : (changes : List Change) (n : ℕ) → AreAllPut changes → IsUndropped changes n
put_undropped changes n h k i same = let is = (h (Drop k) i).1 in absurd (cc)

one_put : (r : Row) → AreAllPut (Put r ∷ [])
one_put r c i = elim (of_cons (Put r) [] c i) [ inl is ↦ (r, is) | inr j ↦ absurd (in_none c j) ]

two_put : (r x : Row) → AreAllPut (Put r ∷ Put x ∷ [])
two_put r x c i = elim (of_cons (Put r) (Put x ∷ []) c i) [ inl is ↦ (r, is) | inr j ↦ one_put x c j ]

module _ (s : State) (fine : IsConsistent s) (at : ℕ) (to : List ℕ) (peer : HasPeer s.operators (key to)) (c : Command) where
  abbrev sending : Act
  sending = commanded at (next_request s) to c

  abbrev sent_row : Change
  sent_row = Put (row.Command (next_request s) (unanswered to c))

  -- the command is sent, among changes that drop nothing
  command_sent : (changes : List Change) → AreAllPut changes → Contains changes sent_row → AreSent s changes (Sent (next_request s) at ∷ [])
  command_sent changes all i = sent_one s changes (Sent (next_request s) at) (NewCommand to c i (record {
    untimed = new_untimed s fine (next_request s) (omega arith);
    undropped = put_undropped changes (next_request s) all;
  }))

  -- a command without a reference
  plain_planned : reference_of c ≡ None → ArePlanned s (sending ∷ [])
  plain_planned none = record {
    orderly = orderly_kinds (sending ∷ []) refl refl;
    fit = ((may_put_next s fine.sound to c peer _ s.rows.desk.references _ (λ r n of bound same. none_some r (sym none ∙ of)) (omega arith), tt), tt);
    sent = command_sent (all_changes (sending ∷ [])) (one_put _) (in_front sent_row []);
  }

  -- a command with the next reference, which no command had yet
  given_planned : IsGiven s.party (next_reference s) c → ArePlanned s (referenced (next_reference s) ∷ (sending ∷ []))
  given_planned given =
      let acts = referenced (next_reference s) ∷ (sending ∷ []) in
      record {
        orderly = orderly_kinds acts refl refl;
        fit = ((record { given = λ zero. omega (arith, zero); rises = omega arith }, tt), ((may_put_next s fine.sound to c peer _ (next_reference s) _ given (omega arith), tt), tt));
        sent = command_sent (all_changes acts) (two_put _ _) (in_later (Put (row.Count Reference (next_reference s))) (sent_row ∷ []) sent_row (in_front sent_row []));
      }

-- a start has the reference that is given by it
next_given : (s : State) → IsConsistent s → (c : Command) (r : List ℕ) → reference_of c ≡ Some r → r ≡ own_id_text AuthorizationReference s.party (next_reference s) → next_reference s ≤ max_whole →
    IsGiven s.party (next_reference s) c
next_given s fine c r is own in_range t n has bound same =
    let some : Some r ≡ Some t = sym is ∙ has in
    let one : r ≡ t = cc in
    let equal = same_reference s.party (next_reference s) n fine.peers.own in_range bound (ap key (sym own ∙ one) ∙ same) in
    omega (arith, equal)

-- the reference that a list of acts gives first
given_in_range : (s : State) (rest acts : List Act) → acts ≡ referenced (next_reference s) ∷ rest → AreInRange s acts → next_reference s ≤ max_whole
given_in_range s rest acts is range =
    range.references (next_reference s) (subst (λ l. Contains (all_changes l) (Put (row.Count Reference (next_reference s)))) (sym is) (in_front _ (all_changes rest)))

order_made : (s : State) → IsConsistent s → (at : ℕ) (to : List ℕ) (order : Order) (c : Command) (before : List Act) → HasPeer s.operators (key to) → Makes s order c before →
    AreInRange s (before ++ (commanded at (next_request s) to c ∷ [])) → ArePlanned s (before ++ (commanded at (next_request s) to c ∷ []))
order_made s fine at to order c before peer (Start uid type location evse connector t own) range =
    given_planned s fine at to peer c (next_given s fine c _ refl refl (given_in_range s (commanded at (next_request s) to c ∷ []) _ refl range))
order_made s fine at to order c before peer (Reserve uid type expiry id location evse t own) range = plain_planned s fine at to peer c refl
order_made s fine at to order c before peer (Stop id) range = plain_planned s fine at to peer c refl
order_made s fine at to order c before peer (Cancel id) range = plain_planned s fine at to peer c refl
order_made s fine at to order c before peer (Unlock location evse connector) range = plain_planned s fine at to peer c refl

-- an order takes one packet and one request
made_sends : (s : State) (at : ℕ) (to : List ℕ) (order : Order) (c : Command) (before : List Act) → Makes s order c before → length (all_messages (before ++ (commanded at (next_request s) to c ∷ []))) ≡ 1
made_sends s at to order c before (Start uid type location evse connector t own) = refl
made_sends s at to order c before (Reserve uid type expiry id location evse t own) = refl
made_sends s at to order c before (Stop id) = refl
made_sends s at to order c before (Cancel id) = refl
made_sends s at to order c before (Unlock location evse connector) = refl

made_asks : (s : State) (at : ℕ) (to : List ℕ) (order : Order) (c : Command) (before : List Act) → Makes s order c before → all_requests (before ++ (commanded at (next_request s) to c ∷ [])) ≡ 1
made_asks s at to order c before (Start uid type location evse connector t own) = refl
made_asks s at to order c before (Reserve uid type expiry id location evse t own) = refl
made_asks s at to order c before (Stop id) = refl
made_asks s at to order c before (Cancel id) = refl
made_asks s at to order c before (Unlock location evse connector) = refl

pub order_sends : (s : State) (at : ℕ) (operator : List ℕ) (order : Order) (acts : List Act) → OrderLine s at operator order acts → length (all_messages acts) ≡ 1
order_sends s at operator order acts line = ap (λ l. length (all_messages l)) line.acts_are ∙ made_sends s at line.to order line.command line.before line.makes

pub order_asks : (s : State) (at : ℕ) (operator : List ℕ) (order : Order) (acts : List Act) → OrderLine s at operator order acts → all_requests acts ≡ 1
order_asks s at operator order acts line = ap all_requests line.acts_are ∙ made_asks s at line.to order line.command line.before line.makes

pub order_planned : (s : State) → IsConsistent s → (at : ℕ) (operator : List ℕ) (order : Order) (acts : List Act) → OrderLine s at operator order acts → AreInRange s acts → ArePlanned s acts
order_planned s fine at operator order acts line range =
    subst (ArePlanned s) (sym line.acts_are)
    (order_made s fine at line.to order line.command line.before (line.to, line.peer.listed, refl) line.makes (subst (AreInRange s) line.acts_are range))

pub orders : OrdersMayFollow
orders at operator order s acts h line range = may_follow s acts h (order_planned s h at operator order acts line range)
