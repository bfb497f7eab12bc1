-- Credits, as an operator makes and sends them (OCPI 2.2.1, CDRs: CDR object, members credit and credit_reference_id;
-- Sender interface).
use Rattle.std.specs.Prelude.{◌≡◌, ◌<◌, ◌≤◌, ℕ, ◌+◌, List, [], ◌∷◌, length, Some, None, ⊤}
use Rattle.std.specs.FinMap.{get}
use Rattle.ocpi_text.specs.Moment.{last_moment}
use Rattle.ocpi_text.specs.Text.{key}
use Rattle.ocpi_types.specs.Credits.{credit_id}
use Rattle.ocpi_types.specs.declared.cdrs.Cdr.{Cdr}
use Rattle.ocpi_types.specs.declared.rows.Change.TheVariants.{Put}
use Rattle.ocpi_types.specs.declared.rows.Row.TheVariants as row
use Rattle.ocpi_types.specs.declared.sessions.Session.{Session}
use Rattle.ocpi_types.specs.declared.stored.Push.TheVariants as push
use Rattle.ocpi_types.specs.declared.words.SessionStatus.TheVariants.{Completed}
use Rattle.session_book.specs.Records.{HasCredit, IsSoleBill}
use Rattle.node_steps.specs.Acts.{Act, changed, pushed}
use Rattle.node_steps.specs.Peers.{IsPeer}
use Rattle.node_steps.specs.declared.fault.NodeFault.{NodeFault}
use Rattle.node_steps.specs.declared.fault.NodeFault.TheVariants.{NotForMe, UnknownOperator, UnknownToken, StampEnd, NumbersUsedUp, Memory}
use Rattle.operator_rows.specs.State.{Rows, State}
use Rattle.operator_steps.specs.Credits.{next_credit}
use Rattle.operator_steps.specs.Moves.{AreInRange}

-- the session of that id is COMPLETED
pub record IsCompleted (s : Rows) (session : List ℕ) : Type 0 where
  pub version : Session
  pub stands : get s.charged.sessions session ≡ Some version
  pub completed : version.status ≡ Completed

-- the bill is the only one of that session, which is COMPLETED and has no credit; its id leaves room for the mark of one
pub record IsUncredited (s : Rows) (session : List ℕ) (bill : Cdr) : Type 0 where
  pub of_completed : IsCompleted s session
  pub billed : IsSoleBill s.charged session bill
  pub uncredited : ¬ HasCredit s.charged session
  pub fits : length bill.id ≤ 37

-- the credit of the bill may go to that party: no record has its id, and the party is the provider of the bill's token,
-- as the site spells it
pub record MayGoTo (s : State) (bill : Cdr) (to : List ℕ) : Type 0 where
  pub new : get s.rows.charged.cdrs (key (credit_id bill.id)) ≡ None
  pub of_provider : IsPeer s.providers bill.cdr_token.party to

-- the credit is pushed to the party `to` as the request after `last`, and stored
abbrev pub credit_acts : ℕ → ℕ → List ℕ → Cdr → List Act
credit_acts at last to x = pushed at (last + 1) to (push.PostCdr x) ∷ (changed (Put (row.Cdr x)) ∷ [])

-- the bill, which has a later credit, is taken back by these acts
pub record TakesBack (s : State) (at : ℕ) (bill : Cdr) (to : List ℕ) (acts : List Act) : Type 0 where
  pub later : bill.last_updated < last_moment
  pub acts_are : acts ≡ credit_acts at s.rows.request to (next_credit at bill)

-- why the bill is not taken back: no credit can be later than it, or its acts would take a counter past its last
-- number. Memory may run out at any time
abbrev pub StopsCredit : State → ℕ → Cdr → List ℕ → NodeFault → Type 0
StopsCredit s at bill to NotForMe = ⊥
StopsCredit s at bill to UnknownOperator = ⊥
StopsCredit s at bill to UnknownToken = ⊥
StopsCredit s at bill to StampEnd = bill.last_updated ≡ last_moment
StopsCredit s at bill to NumbersUsedUp = (bill.last_updated < last_moment) × ¬ AreInRange s (credit_acts at s.rows.request to (next_credit at bill))
StopsCredit s at bill to Memory = ⊤
