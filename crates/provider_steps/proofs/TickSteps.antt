-- Requests that are due are sent again: the acts may be carried out, and how many numbers they take.
use Rattle.std.proofs.Common.{◌≡◌, ◌≢◌, ◌<◌, ◌++◌, ℕ, suc, List, [], ◌∷◌, length, inl, inr, refl, sym, ap, subst, ◌∙◌, arith}
use Rattle.std.specs.Prelude.{Option, Some, None, Contains, IsTrue, is_some, true, false}
use Rattle.std.specs.List.{AllPairs}
use Rattle.std.specs.FinMap.{get}
use Rattle.std.proofs.lemmas.List.Elements.{All-contains, Contains-append_cases}
use Rattle.tables.proofs.Elements.{in_none, in_front, in_single, first_pairs, later_pairs}
use Rattle.tables.proofs.Options.{not_both}
use Rattle.ocpi_types.specs.declared.rows.Change.{Change}
use Rattle.ocpi_types.specs.declared.stored.SentCommand.{SentCommand}
use Rattle.outbox.specs.Outbox.{OutboxRows, Waits, request_of}
use Rattle.outbox.specs.declared.push_book.Outgoing.{Outgoing}
use Rattle.node_steps.specs.declared.plan.Volatile.{Volatile}
use Rattle.node_steps.specs.Acts.{Act, all_changes, all_messages, all_volatile, all_requests}
use Rattle.node_steps.proofs.Gathering.{changes_append, volatile_append, requests_append}
use Rattle.provider_rows.specs.State.{State}
use Rattle.provider_rows.specs.Stored.{AreApart, change_key}
use Rattle.provider_rows.specs.Steps.{number_of}
use Rattle.provider_steps.specs.Facts.{TicksMayFollow}
use Rattle.provider_steps.specs.Tick.{TickLine, all_resent, resent_acts}
use Rattle.provider_steps.proofs.Orderly.{AreOrderly, in_later, is_uncounted}
use Rattle.provider_steps.proofs.Fitting.{AreFit, fit_append, left_by, numbered_for}
use Rattle.provider_steps.proofs.Sending.{ActsAreSent, Again, sent_append, sent_none}
use Rattle.provider_steps.proofs.Planning.{ArePlanned, may_follow}

module _ (operators : List (List ℕ)) (at : ℕ) (r : OutboxRows) where
  abbrev of_request : ℕ → List Act
  of_request n = resent_acts operators at n (get r.pushes n) (get r.commands n)

  -- no row changes
  one_changes : (n : ℕ) (o : Option Outgoing) (c : Option SentCommand) → all_changes (resent_acts operators at n o c) ≡ []
  one_changes n None None = refl
  one_changes n None (Some c) = refl
  one_changes n (Some o) c = refl

  pub resent_changes : (numbers : List ℕ) → all_changes (all_resent operators at r numbers) ≡ []
  resent_changes [] = refl
  resent_changes (n ∷ ns) = changes_append (of_request n) (all_resent operators at r ns) ∙ (λ i. one_changes n (get r.pushes n) (get r.commands n) i ++ resent_changes ns i)

  pub resent_leave : (numbers : List ℕ) (A : Change → Type 0) (c : Change) → Contains (all_changes (all_resent operators at r numbers)) c → A c
  resent_leave numbers A c h = absurd (in_none c (subst (λ l. Contains l c) (resent_changes numbers) h))

  -- no request is made, and a packet is sent for each that waits
  one_asks : (n : ℕ) (o : Option Outgoing) (c : Option SentCommand) → all_requests (resent_acts operators at n o c) ≡ 0
  one_asks n None None = refl
  one_asks n None (Some c) = refl
  one_asks n (Some o) c = refl

  pub resent_ask : (numbers : List ℕ) → all_requests (all_resent operators at r numbers) ≡ 0
  resent_ask [] = refl
  resent_ask (n ∷ ns) =
      let all = requests_append (of_request n) (all_resent operators at r ns) in
      let one = one_asks n (get r.pushes n) (get r.commands n) in
      let more = resent_ask ns in
      omega (arith, all, one, more)

  one_sends : (n : ℕ) (o : Option Outgoing) (c : Option SentCommand) (rest : List Act) → (o ≡ None → c ≡ None → ⊥) → length (all_messages (resent_acts operators at n o c ++ rest)) ≡ suc (length (all_messages rest))
  one_sends n None None rest stands = absurd (stands refl refl)
  one_sends n None (Some c) rest stands = refl
  one_sends n (Some o) c rest stands = refl

  -- what waits is a push or a command
  stands : (n : ℕ) → Waits r n → get r.pushes n ≡ None → get r.commands n ≡ None → ⊥
  stands n waits no_push no_command = elim waits [
    | inl push ↦ let never : false ≡ true = sym (ap is_some no_push) ∙ push in absurd (cc)
    | inr is ↦ not_both is.0 (get r.commands n) no_command is.1
  ]

  pub resent_send : (numbers : List ℕ) → ((n : ℕ) → Contains numbers n → Waits r n) → length (all_messages (all_resent operators at r numbers)) ≡ length numbers
  resent_send [] wait = refl
  resent_send (n ∷ ns) wait = one_sends n (get r.pushes n) (get r.commands n) (all_resent operators at r ns) (stands n (wait n (in_front n ns))) ∙ ap suc (resent_send ns (λ k i. wait k (in_later n ns k i)))

  -- what is noted as sent are requests of the list
  of_one : (n : ℕ) (o : Option Outgoing) (c : Option SentCommand) (v : Volatile) → Contains (all_volatile (resent_acts operators at n o c)) v → number_of v ≡ n
  of_one n None None v h = absurd (in_none v h)
  of_one n None (Some c) v h = ap number_of (sym (in_single _ v h))
  of_one n (Some o) c v h = ap number_of (sym (in_single _ v h))

  pub of_resent : (numbers : List ℕ) (v : Volatile) → Contains (all_volatile (all_resent operators at r numbers)) v → Contains numbers (number_of v)
  of_resent [] v h = absurd (in_none v h)
  of_resent (n ∷ ns) v h = elim (Contains-append_cases (all_volatile (of_request n)) (all_volatile (all_resent operators at r ns)) v (subst (λ l. Contains l v) (volatile_append (of_request n) (all_resent operators at r ns)) h)) [
    | inl i ↦ subst (Contains (n ∷ ns)) (sym (of_one n (get r.pushes n) (get r.commands n) v i)) (in_front n ns)
    | inr i ↦ in_later n ns (number_of v) (of_resent ns v i)
  ]

  pub resent_orderly : (numbers : List ℕ) → AreOrderly (all_resent operators at r numbers)
  resent_orderly numbers = record {
    apart = subst AreApart (sym (resent_changes numbers)) tt;
    uncounted = λ c i. resent_leave numbers (λ d. IsTrue (is_uncounted (change_key d))) c i;
  }

  -- the rows allow what changes none
  one_fits : (n : ℕ) (o : Option Outgoing) (c : Option SentCommand) (s : State) → AreFit s (resent_acts operators at n o c)
  one_fits n None None s = tt
  one_fits n None (Some c) s = (tt, tt)
  one_fits n (Some o) c s = (tt, tt)

  pub resent_fit : (numbers : List ℕ) (s : State) → AreFit s (all_resent operators at r numbers)
  resent_fit [] s = tt
  resent_fit (n ∷ ns) s = fit_append (of_request n) (all_resent operators at r ns) s (one_fits n (get r.pushes n) (get r.commands n) s) (resent_fit ns (left_by (of_request n) s))

module _ (at : ℕ) (s : State) where
  abbrev of_number : ℕ → List Act
  of_number n = resent_acts s.operators at n (get s.rows.outbox.pushes n) (get s.rows.outbox.commands n)

  -- a request that waits is sent again, and no row of it changes
  one_sent : (n : ℕ) → Waits s.rows.outbox n → ActsAreSent s (of_number n)
  one_sent n waits = record {
    each = λ v i.
        let same = of_one s.operators at s.rows.outbox n (get s.rows.outbox.pushes n) (get s.rows.outbox.commands n) v i in
        Again (subst (Waits s.rows.outbox) (sym same) waits) (λ c j. absurd (in_none c (subst (λ l. Contains l c) (one_changes s.operators at s.rows.outbox n (get s.rows.outbox.pushes n) (get s.rows.outbox.commands n)) j)));
    once = one_once n (get s.rows.outbox.pushes n) (get s.rows.outbox.commands n);
  }
    where
      one_once : (n : ℕ) (o : Option Outgoing) (c : Option SentCommand) → AllPairs (λ (v w : Volatile). number_of v ≢ number_of w) (all_volatile (resent_acts s.operators at n o c))
      one_once n None None = λ i j d below bound. absurd (omega (arith, below, bound))
      one_once n None (Some c) = λ i j d below bound. absurd (omega (arith, below, bound))
      one_once n (Some o) c = λ i j d below bound. absurd (omega (arith, below, bound))

  -- the requests that wait may be sent again, each once
  pub resent_sent : (numbers : List ℕ) → AllPairs (λ a b. a < b) numbers → ((n : ℕ) → Contains numbers n → Waits s.rows.outbox n) → ActsAreSent s (all_resent s.operators at s.rows.outbox numbers)
  resent_sent [] ascending wait = sent_none s []
  resent_sent (n ∷ ns) ascending wait = sent_append (of_number n) (all_resent s.operators at s.rows.outbox ns) s (one_sent n (wait n (in_front n ns)))
      (resent_sent ns (later_pairs (λ a b. a < b) n ns ascending) (λ k i. wait k (in_later n ns k i)))
      (λ v i c j. resent_leave s.operators at s.rows.outbox ns (λ d. request_of (change_key d) ≢ Some (number_of v)) c j)
      (λ v i c j. absurd (in_none c (subst (λ l. Contains l c) (one_changes s.operators at s.rows.outbox n (get s.rows.outbox.pushes n) (get s.rows.outbox.commands n)) j)))
      (λ v w i j same.
      let first = of_one s.operators at s.rows.outbox n (get s.rows.outbox.pushes n) (get s.rows.outbox.commands n) v i in
      let later = of_resent s.operators at s.rows.outbox ns w j in
      let below : n < number_of w = All-contains (λ x. n < x) ns (number_of w) (first_pairs (λ a b. a < b) n ns ascending) later in
      omega (arith, first, same, below))

-- a moment takes one packet for each request that is due, and no request
pub tick_sends : (s : State) (at : ℕ) (acts : List Act) (line : TickLine s at acts) → length (all_messages acts) ≡ length line.due
tick_sends s at acts line = ap (λ l. length (all_messages l)) line.acts_are ∙ resent_send s.operators at s.rows.outbox line.due (λ n i. ((line.are_due.exact n).0 i).waits)

pub tick_asks : (s : State) (at : ℕ) (acts : List Act) → TickLine s at acts → all_requests acts ≡ 0
tick_asks s at acts line = ap all_requests line.acts_are ∙ resent_ask s.operators at s.rows.outbox line.due

pub tick_planned : (s : State) (at : ℕ) (acts : List Act) → TickLine s at acts → ArePlanned s acts
tick_planned s at acts line =
    let again = all_resent s.operators at s.rows.outbox line.due in
    let planned : ArePlanned s again = record {
      orderly = resent_orderly s.operators at s.rows.outbox line.due;
      fit = resent_fit s.operators at s.rows.outbox line.due (numbered_for again s);
      sent = resent_sent at s line.due line.are_due.in_order (λ n i. ((line.are_due.exact n).0 i).waits);
    } in
    subst (ArePlanned s) (sym line.acts_are) planned

pub ticks : TicksMayFollow
ticks at s acts h line range = may_follow s acts h (tick_planned s at acts line)
