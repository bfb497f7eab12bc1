-- Which rows may be put beside those that stand, one after the other.
use Rattle.std.specs.Prelude.{◌≡◌, ◌≢◌, ◌<◌, ◌≤◌, ℕ, List, ◌∷◌, ◌++◌, Option, Some, None}
use Rattle.std.specs.List.Sorted.{IsNonDecreasingBy}
use Rattle.std.specs.FinMap.{get}
use Rattle.ocpi_text.specs.declared.own_ids.OwnIdKind.TheVariants.{AuthorizationReference}
use Rattle.ocpi_types.specs.Commands.{reference_of}
use Rattle.ocpi_types.specs.Credits.{IsBill, IsCredit}
use Rattle.ocpi_types.specs.Rows.{key_of}
use Rattle.ocpi_types.specs.declared.cdrs.Cdr.{Cdr}
use Rattle.ocpi_types.specs.declared.rows.Change.TheVariants.{Put}
use Rattle.ocpi_types.specs.declared.rows.Counter.{Counter}
use Rattle.ocpi_types.specs.declared.rows.Counter.TheVariants as counter
use Rattle.ocpi_types.specs.declared.rows.Row.{Row}
use Rattle.ocpi_types.specs.declared.commands.Command.{Command}
use Rattle.ocpi_types.specs.declared.stored.SentCommand.{SentCommand}
use Rattle.outbox.specs.Outbox.{OutboxRows}
use Rattle.outbox.specs.declared.push_book.Outgoing.{Outgoing}
use Rattle.provider_rows.specs.Rows.{HasRow}
use Rattle.provider_rows.specs.Sound.{MayPut}
use Rattle.provider_rows.specs.State.{Peering, Rows, State}
use Rattle.provider_rows.specs.Steps.{after_change}
use Rattle.provider_stored.specs.Bad.{IsBad}
use Rattle.provider_stored.specs.Making.{IsMadeOf}
use Rattle.provider_stored.specs.Whole.{IsWhole}
use Rattle.stored_rows.specs.Given.{IsOwnId}
use Rattle.stored_rows.specs.Turns.{turn_of}
use Rattle.stored_rows.specs.declared.fault.BadReason.{BadReason}
use Rattle.stored_rows.specs.declared.fault.BadReason.TheVariants as reason

-- no row that stands is of a later turn
abbrev pub IsNext : State → Row → Type 0
IsNext s r = (x : Row) → HasRow s.rows x → turn_of x ≤ turn_of r

-- the row may be put, none stands under its key, and a provider that is whole is so with it
pub record IsFit (s : State) (r : Row) : Type 0 where
  pub may : MayPut s r
  pub new : (x : Row) → HasRow s.rows x → key_of x ≢ key_of r
  pub whole : IsWhole s → IsWhole (after_change (Put r) s)

-- no provider has the row beside those that stand, whatever comes after it in turn: the row shows it, for that reason
abbrev pub Spoils : State → Row → BadReason → Type 0
Spoils s r why = (peers : Peering) (before rest : List Row) → IsMadeOf peers before s → IsNonDecreasingBy turn_of (before ++ r ∷ rest) →
    IsBad peers (before ++ r ∷ rest) (key_of r) why

-- the number that a counter gave last, 0 where it gave none; a provider has no other counters
abbrev pub given_last : Rows → Counter → Option ℕ
given_last s counter.Serial = Some s.serial
given_last s counter.Request = Some s.outbox.last
given_last s counter.Reference = Some s.desk.references
given_last s counter.Session = None
given_last s counter.Cdr = None

-- the number was given to a request, and no push and no command stands under it
pub record IsFree (r : OutboxRows) (n : ℕ) : Type 0 where
  pub counted : n ≤ r.last
  pub no_push : get r.pushes n ≡ None
  pub no_command : get r.commands n ≡ None

-- it was not given, or a push or a command stands under it, and this is said of the one, of the other
pub data IsTaken (r : OutboxRows) (n : ℕ) (of_push of_command : BadReason) : BadReason → Type 0 where
  NotCounted : r.last < n → IsTaken r n of_push of_command reason.NotGiven
  HasPush : (x : Outgoing) → get r.pushes n ≡ Some x → IsTaken r n of_push of_command of_push
  HasCommand : (c : SentCommand) → get r.commands n ≡ Some c → IsTaken r n of_push of_command of_command

-- of two bills of one session one is told as a bill, of two credits as a credit
pub data IsSaidTwice (x : Cdr) : BadReason → Type 0 where
  Bill : IsBill x → IsSaidTwice x reason.BilledTwice
  Credit : IsCredit x → IsSaidTwice x reason.CreditedTwice

-- the reference of the command, if it has one, is the party's own by a number that was given
pub record IsOwnGiven (party : List ℕ) (last : ℕ) (r : List ℕ) : Type 0 where
  pub number : ℕ
  pub own : IsOwnId AuthorizationReference party r number
  pub given : number ≤ last

abbrev pub HasOwnReference : List ℕ → ℕ → Command → Type 0
HasOwnReference party last c = (r : List ℕ) → reference_of c ≡ Some r → IsOwnGiven party last r

-- the command has a reference that is not the party's own, or whose number was not given
pub data HasStrangeReference (party : List ℕ) (last : ℕ) (c : Command) : BadReason → Type 0 where
  OfOther : (r : List ℕ) → reference_of c ≡ Some r → ((n : ℕ) → IsOwnId AuthorizationReference party r n → ⊥) →
      HasStrangeReference party last c reason.NotOwnReference
  NotGivenYet : (r : List ℕ) (n : ℕ) → reference_of c ≡ Some r → IsOwnId AuthorizationReference party r n → last < n →
      HasStrangeReference party last c reason.NotGiven
