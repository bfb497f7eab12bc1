-- Requests that are sent again: how many packets that takes.
use Rattle.std.proofs.Common.{◌≡◌, ◌⊎◌, ◌++◌, ℕ, suc, List, [], ◌∷◌, length, inl, inr, true, false, refl, ap, sym, subst, ◌∙◌, arith}
use Rattle.std.specs.Prelude.{Option, Some, None, Contains, IsTrue, is_some}
use Rattle.std.specs.FinMap.{contains_key, get}
use Rattle.std.proofs.lemmas.List.Elements.{Contains-append_right}
use Rattle.tables.proofs.Elements.{in_front}
use Rattle.tables.proofs.Options.{none_some}
use Rattle.ocpi_types.specs.declared.stored.SentCommand.{SentCommand}
use Rattle.outbox.specs.Due.{AreExactly, IsDue}
use Rattle.outbox.specs.Outbox.{OutboxRows, Waits}
use Rattle.outbox.specs.declared.push_book.Outgoing.{Outgoing}
use Rattle.node_steps.specs.Acts.{Act, all_messages, all_requests}
use Rattle.node_steps.proofs.Gathering.{requests_append}
use Rattle.provider_rows.specs.State.{State}
use Rattle.provider_steps.specs.Tick.{TickLine, all_resent, resent_acts}
use Rattle.provider_core.specs.Planned.{ReferWithin}
use Rattle.provider_core.proofs.Within.{refer_each}

module _ (operators : List (List ℕ)) (at n : ℕ) where
  -- a push that stands, or a command that does
  abbrev Stands : Option Outgoing → Option SentCommand → Type 0
  Stands o c = IsTrue (is_some o) ⊎ ((x : SentCommand) × (c ≡ Some x))

  one_sends : (o : Option Outgoing) (c : Option SentCommand) (rest : List Act) → Stands o c → length (all_messages (resent_acts operators at n o c ++ rest)) ≡ suc (length (all_messages rest))
  one_sends (Some o) c rest h = refl
  one_sends None (Some c) rest h = refl
  one_sends None None rest (inl h) = absurd (let f : false ≡ true = h in cc)
  one_sends None None rest (inr h) = none_some h.0 h.1

  one_asks : (o : Option Outgoing) (c : Option SentCommand) → all_requests (resent_acts operators at n o c) ≡ 0
  one_asks (Some o) c = refl
  one_asks None (Some c) = refl
  one_asks None None = refl

  one_within : (o : Option Outgoing) (c : Option SentCommand) → ReferWithin (resent_acts operators at n o c)
  one_within (Some o) c = tt
  one_within None (Some c) = tt
  one_within None None = tt

module _ (operators : List (List ℕ)) (at : ℕ) (r : OutboxRows) where
  stands : (n : ℕ) → Waits r n → Stands operators at n (get r.pushes n) (get r.commands n)
  stands n (inl h) = inl h
  stands n (inr h) = inr (h.0, h.1)

  sends : (numbers : List ℕ) → ((n : ℕ) → Contains numbers n → Waits r n) → length (all_messages (all_resent operators at r numbers)) ≡ length numbers
  sends [] wait = refl
  sends (n ∷ ns) wait =
      one_sends operators at n (get r.pushes n) (get r.commands n) (all_resent operators at r ns) (stands n (wait n (in_front n ns)))
      ∙ ap suc (sends ns (λ k i. wait k (Contains-append_right (n ∷ []) ns k i)))

  asks : (numbers : List ℕ) → all_requests (all_resent operators at r numbers) ≡ 0
  asks [] = refl
  asks (n ∷ ns) =
      let all = requests_append (resent_acts operators at n (get r.pushes n) (get r.commands n)) (all_resent operators at r ns) in
      let here = one_asks operators at n (get r.pushes n) (get r.commands n) in
      let rest = asks ns in
      omega (arith, all, here, rest)

  pub resent_within : (numbers : List ℕ) → ReferWithin (all_resent operators at r numbers)
  resent_within numbers = refer_each (λ n. resent_acts operators at n (get r.pushes n) (get r.commands n)) (λ n. one_within operators at n (get r.pushes n) (get r.commands n)) numbers

module _ (s : State) (at : ℕ) (due : List ℕ) where
  pub resent_sends : AreExactly (IsDue s.rows.outbox s.resend at) due → length due ≡ length (all_messages (all_resent s.operators at s.rows.outbox due))
  resent_sends h = sym (sends s.operators at s.rows.outbox due (λ n i. ((h.exact n).0 i).waits))

  pub resent_asks : 0 ≡ all_requests (all_resent s.operators at s.rows.outbox due)
  resent_asks = sym (asks s.operators at s.rows.outbox due)

  pub tick_line : AreExactly (IsDue s.rows.outbox s.resend at) due → TickLine s at (all_resent s.operators at s.rows.outbox due)
  tick_line h = record { due = due; are_due = h; acts_are = refl }
