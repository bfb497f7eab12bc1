-- What becomes of the order to take the bill of a session back.
use Rattle.std.proofs.Common.{◌≡◌, ℕ, List, [], refl, ap, subst}
use Rattle.ocpi_types.specs.declared.cdrs.Cdr.{Cdr}
use Rattle.node_steps.specs.Acts.{Act}
use Rattle.node_steps.specs.Drafts.{Step}
use Rattle.node_steps.specs.declared.fault.NodeFault.{NodeFault}
use Rattle.node_steps.specs.declared.fault.NodeFault.TheVariants.{NotForMe, UnknownOperator, UnknownToken, StampEnd, NumbersUsedUp, Memory}
use Rattle.operator_rows.specs.State.{State}
use Rattle.operator_steps.specs.Credits.{CreditLine, Credited, NothingToCredit, CreditsTo, IsToCredit, next_credit}
use Rattle.operator_steps.specs.Faults.{IsCreditFault}
use Rattle.operator_steps.specs.Moves.{PlannedBy, Quietly, quiet}
use Rattle.operator_planning.specs.Credits.{IsUncredited, MayGoTo, StopsCredit, TakesBack, credit_acts}
use Rattle.operator_planning.specs.Planned.{PlansActs, quiet_step}

module _ (s : State) (session : List ℕ) where
  -- of a bill that is to be taken back, what is asked first holds,
  uncredited_of : (bill : Cdr) → IsToCredit s.rows session bill → IsUncredited s.rows session bill
  uncredited_of bill h = record {
    of_completed = record { version = h.version; stands = h.stands; completed = h.completed };
    billed = h.billed;
    uncredited = h.uncredited;
    fits = h.fits;
  }

  -- and it is to be taken back, where its credit may go to a party
  pub credits_to : (bill : Cdr) (to : List ℕ) → IsUncredited s.rows session bill → MayGoTo s bill to → CreditsTo s session bill to
  credits_to bill to h goes = record {
    bill = record {
      version = h.of_completed.version;
      stands = h.of_completed.stands;
      completed = h.of_completed.completed;
      billed = h.billed;
      uncredited = h.uncredited;
      fits = h.fits;
      new = goes.new;
    };
    of_provider = goes.of_provider;
  }

  module _ (at : ℕ) where
    -- without such a bill, and where its credit may go to none, nothing happens
    pub none_uncredited : ((bill : Cdr) → IsUncredited s.rows session bill → ⊥) → Quietly (CreditLine s at session) (quiet [])
    none_uncredited none = ([], NothingToCredit (λ bill to takes. none bill (uncredited_of bill takes.bill)) refl, refl)

    pub goes_nowhere : (bill : Cdr) → IsUncredited s.rows session bill → ((to : List ℕ) → MayGoTo s bill to → ⊥) → Quietly (CreditLine s at session) (quiet [])
    goes_nowhere bill h none =
        let no_other : (x : Cdr) (to : List ℕ) → CreditsTo s session x to → ⊥ = λ x to takes.
        let same : x ≡ bill = h.billed.sole x takes.bill.billed.billed takes.bill.billed.is_bill in
        none to (subst (λ (y : Cdr). MayGoTo s y to) same (record { new = takes.bill.new; of_provider = takes.of_provider }))
        in
        ([], NothingToCredit no_other refl, refl)

    module _ (bill : Cdr) (to : List ℕ) (takes : CreditsTo s session bill to) where
      -- the acts that take it back are those that the order asks for,
      pub taken_back : (x : Step) → PlansActs (TakesBack s at bill to) s x → PlannedBy (Quietly (CreditLine s at session)) s (quiet_step x)
      taken_back x h = record {
        work = quiet h.acts;
        line = (h.acts, Credited bill to takes h.line.later h.line.acts_are, refl);
        in_range = h.in_range;
        step_is = ap quiet_step h.step_is;
      }

      -- and why they are not done is why the order is refused
      pub credit_fault : (f : NodeFault) → StopsCredit s at bill to f → IsCreditFault s at session f
      credit_fault NotForMe h = h
      credit_fault UnknownOperator h = h
      credit_fault UnknownToken h = h
      credit_fault StampEnd h = record { bill = bill; to = to; credits = takes; last = h }
      credit_fault NumbersUsedUp h =
          let acts : List Act = credit_acts at s.rows.request to (next_credit at bill) in
          record { work = quiet acts; line = (acts, Credited bill to takes h.0 refl, refl); past = h.1 }
      credit_fault Memory h = tt
