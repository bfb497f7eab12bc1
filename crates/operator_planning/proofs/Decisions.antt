-- How many numbers the acts of a decision take, and that they store no counter past its last number.
use Rattle.std.proofs.Common.{◌≡◌, ◌+◌, ◌++◌, ℕ, List, [], ◌∷◌, length, refl}
use Rattle.std.specs.Prelude.{Option, Some, None}
use Rattle.ocpi_types.specs.Commands.{reference_of}
use Rattle.ocpi_types.specs.declared.rows.Place.{Place}
use Rattle.ocpi_types.specs.declared.commands.Command.{Command}
use Rattle.ocpi_types.specs.declared.words.CommandResponseType.TheVariants as word
use Rattle.command_book.specs.Stored as book
use Rattle.node_steps.specs.Acts.{Act, all_messages, all_requests, answered}
use Rattle.operator_tables.specs.declared.decision.Decision.{Decision}
use Rattle.operator_tables.specs.declared.decision.Decision.TheVariants.{Refused, Answered, Opened, Started, Resulted, Noted, Reserved, Cancelled}
use Rattle.operator_steps.specs.Acts.{deadline, decided_acts, opened, responded, result_of, spent, used}
use Rattle.operator_planning.specs.Requests.{result_count}
use Rattle.operator_planning.proofs.CountedDrafts.{CountWithin}

module _ (at last : ℕ) (to p : List ℕ) (n : ℕ) (c : Command) where
  abbrev started_acts : Place → Option (List ℕ) → Option (List ℕ) → List Act
  started_acts place reservation reference =
      answered p to n (responded at word.Accepted) ∷ ((used p reservation ++ (opened p n (book.open_command c (Some place) (deadline at)) ∷ spent p reference)) ++ [])

  started_sends : (place : Place) (a b : Option (List ℕ)) → 1 ≡ length (all_messages (started_acts place a b))
  started_sends place None None = refl
  started_sends place None (Some y) = refl
  started_sends place (Some x) None = refl
  started_sends place (Some x) (Some y) = refl

  started_asks : (place : Place) (a b : Option (List ℕ)) → 0 ≡ all_requests (started_acts place a b)
  started_asks place None None = refl
  started_asks place None (Some y) = refl
  started_asks place (Some x) None = refl
  started_asks place (Some x) (Some y) = refl

  started_within : (place : Place) (a b : Option (List ℕ)) → CountWithin (started_acts place a b)
  started_within place None None = (tt, (tt, tt))
  started_within place None (Some y) = (tt, (tt, (tt, tt)))
  started_within place (Some x) None = (tt, (tt, (tt, tt)))
  started_within place (Some x) (Some y) = (tt, (tt, (tt, (tt, tt))))

  pub decided_sends : (d : Decision) → 1 + result_count (result_of d) ≡ length (all_messages (decided_acts at last to p n c d))
  decided_sends (Refused status) = refl
  decided_sends (Answered w) = refl
  decided_sends Opened = refl
  decided_sends (Started place used) = started_sends place used (reference_of c)
  decided_sends (Resulted x) = refl
  decided_sends (Noted id x) = refl
  decided_sends (Reserved id r) = refl
  decided_sends (Cancelled id) = refl

  pub decided_asks : (d : Decision) → result_count (result_of d) ≡ all_requests (decided_acts at last to p n c d)
  decided_asks (Refused status) = refl
  decided_asks (Answered w) = refl
  decided_asks Opened = refl
  decided_asks (Started place used) = started_asks place used (reference_of c)
  decided_asks (Resulted x) = refl
  decided_asks (Noted id x) = refl
  decided_asks (Reserved id r) = refl
  decided_asks (Cancelled id) = refl

  pub decided_within : (d : Decision) → CountWithin (decided_acts at last to p n c d)
  decided_within (Refused status) = (tt, tt)
  decided_within (Answered w) = (tt, tt)
  decided_within Opened = (tt, (tt, tt))
  decided_within (Started place used) = started_within place used (reference_of c)
  decided_within (Resulted x) = (tt, (tt, (tt, tt)))
  decided_within (Noted id x) = (tt, (tt, (tt, (tt, tt))))
  decided_within (Reserved id r) = (tt, (tt, (tt, (tt, (tt, tt)))))
  decided_within (Cancelled id) = (tt, (tt, (tt, (tt, (tt, tt)))))
