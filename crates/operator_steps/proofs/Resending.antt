-- Pushes that are sent again, one after the other.
use Rattle.std.proofs.Common.{◌≡◌, ◌≢◌, ◌<◌, ◌++◌, ℕ, suc, List, [], ◌∷◌, length, inl, inr, refl, sym, ap, subst, ◌∙◌, arith}
use Rattle.std.specs.Prelude.{Option, Some, None, Contains, IsTrue, is_some, true, false}
use Rattle.std.specs.List.{AllPairs}
use Rattle.std.specs.FinMap.{get, contains_key}
use Rattle.std.proofs.lemmas.List.Elements.{All-contains, Contains-append_cases}
use Rattle.tables.proofs.Elements.{in_none, in_front, in_single, first_pairs, later_pairs}
use Rattle.ocpi_types.specs.declared.rows.Change.{Change}
use Rattle.ocpi_types.specs.declared.rows.RowKey.TheVariants as keys
use Rattle.ocpi_types.specs.declared.rows.Counter.{Counter}
use Rattle.outbox.specs.Pushes.{Pushes}
use Rattle.outbox.specs.declared.push_book.Outgoing.{Outgoing}
use Rattle.node_steps.specs.declared.plan.Volatile.{Volatile}
use Rattle.node_steps.specs.Acts.{Act, all_changes, all_messages, all_volatile, all_requests}
use Rattle.node_steps.proofs.Gathering.{changes_append, volatile_append, requests_append}
use Rattle.operator_rows.specs.State.{State}
use Rattle.operator_rows.specs.Stored.{AreApart, change_key}
use Rattle.operator_rows.specs.Steps.{number_of}
use Rattle.operator_steps.specs.Ends.{all_resent, resent_acts}
use Rattle.operator_steps.proofs.Orderly.{AreOrderly, IsOfStep, in_later}
use Rattle.operator_steps.proofs.Fitting.{AreFit, fit_append, left_by}
use Rattle.operator_steps.proofs.Sending.{ActsAreSent, Again, sent_append, sent_none}

module _ (providers : List (List ℕ)) (at : ℕ) (m : Pushes) where
  -- no row changes
  one_changes : (n : ℕ) (o : Option Outgoing) → all_changes (resent_acts providers at n o) ≡ []
  one_changes n None = refl
  one_changes n (Some o) = refl

  pub resent_changes : (numbers : List ℕ) → all_changes (all_resent providers at m numbers) ≡ []
  resent_changes [] = refl
  resent_changes (n ∷ ns) = changes_append (resent_acts providers at n (get m n)) (all_resent providers at m ns) ∙ (λ i. one_changes n (get m n) i ++ resent_changes ns i)

  pub resent_leave : (numbers : List ℕ) (A : Change → Type 0) (c : Change) → Contains (all_changes (all_resent providers at m numbers)) c → A c
  resent_leave numbers A c h = absurd (in_none c (subst (λ l. Contains l c) (resent_changes numbers) h))

  -- no request is made, and a packet is sent for each push that stands
  one_asks : (n : ℕ) (o : Option Outgoing) → all_requests (resent_acts providers at n o) ≡ 0
  one_asks n None = refl
  one_asks n (Some o) = refl

  pub resent_ask : (numbers : List ℕ) → all_requests (all_resent providers at m numbers) ≡ 0
  resent_ask [] = refl
  resent_ask (n ∷ ns) =
      let all = requests_append (resent_acts providers at n (get m n)) (all_resent providers at m ns) in
      let one = one_asks n (get m n) in
      let more = resent_ask ns in
      omega (arith, all, one, more)

  one_sends : (n : ℕ) (o : Option Outgoing) (rest : List Act) → is_some o ≡ true → length (all_messages (resent_acts providers at n o ++ rest)) ≡ suc (length (all_messages rest))
  one_sends n None rest stands = absurd (let f : false ≡ true = stands in cc)
  one_sends n (Some o) rest stands = refl

  pub resent_send : (numbers : List ℕ) → ((n : ℕ) → Contains numbers n → IsTrue (contains_key m n)) → length (all_messages (all_resent providers at m numbers)) ≡ length numbers
  resent_send [] stand = refl
  resent_send (n ∷ ns) stand = one_sends n (get m n) (all_resent providers at m ns) (stand n (in_front n ns)) ∙ ap suc (resent_send ns (λ k i. stand k (in_later n ns k i)))

  -- what is noted as sent are pushes of the list, as they stand
  of_one : (n : ℕ) (o : Option Outgoing) (v : Volatile) → Contains (all_volatile (resent_acts providers at n o)) v → (number_of v ≡ n) × (is_some o ≡ true)
  of_one n None v h = absurd (in_none v h)
  of_one n (Some o) v h = (ap number_of (sym (in_single _ v h)), refl)

  pub of_resent : (numbers : List ℕ) (v : Volatile) → Contains (all_volatile (all_resent providers at m numbers)) v → Contains numbers (number_of v) × IsTrue (contains_key m (number_of v))
  of_resent [] v h = absurd (in_none v h)
  of_resent (n ∷ ns) v h = elim (Contains-append_cases (all_volatile (resent_acts providers at n (get m n))) (all_volatile (all_resent providers at m ns)) v
      (subst (λ l. Contains l v) (volatile_append (resent_acts providers at n (get m n)) (all_resent providers at m ns)) h)) [
        | inl i ↦ let one = of_one n (get m n) v i in (
          subst (Contains (n ∷ ns)) (sym one.0) (in_front n ns),
          subst (λ k. IsTrue (contains_key m k)) (sym one.0) one.1,
        )
        | inr i ↦ let more = of_resent ns v i in (in_later n ns (number_of v) more.0, more.1)
      ]

  pub resent_orderly : (numbers : List ℕ) → AreOrderly (all_resent providers at m numbers)
  resent_orderly numbers = record {
    apart = subst AreApart (sym (resent_changes numbers)) tt;
    uncounted = λ c i. resent_leave numbers (λ d. (counter : Counter) → IsOfStep counter → change_key d ≢ keys.Count counter) c i;
  }

  -- the rows allow what changes none
  one_fits : (n : ℕ) (o : Option Outgoing) (s : State) → AreFit s (resent_acts providers at n o)
  one_fits n None s = tt
  one_fits n (Some o) s = (tt, tt)

  pub resent_fit : (numbers : List ℕ) (s : State) → AreFit s (all_resent providers at m numbers)
  resent_fit [] s = tt
  resent_fit (n ∷ ns) s = fit_append (resent_acts providers at n (get m n)) (all_resent providers at m ns) s (one_fits n (get m n) s) (resent_fit ns (left_by (resent_acts providers at n (get m n)) s))

module _ (at : ℕ) (s : State) where
  one_sent : (n : ℕ) (o : Option Outgoing) → get s.rows.pushes n ≡ o → ActsAreSent s (resent_acts s.providers at n o)
  one_sent n None is = sent_none s []
  one_sent n (Some o) is = record {
    each = λ v i.
        let same : n ≡ number_of v = ap number_of (in_single _ v i) in
        Again (subst (λ k. IsTrue (contains_key s.rows.pushes k)) same (ap is_some is)) (λ c j. absurd (in_none c j));
    once = λ i j d below bound. absurd (omega (arith, below, bound));
  }

  -- the pushes that stand may be sent again, each once
  pub resent_sent : (numbers : List ℕ) → AllPairs (λ a b. a < b) numbers → ActsAreSent s (all_resent s.providers at s.rows.pushes numbers)
  resent_sent [] ascending = sent_none s []
  resent_sent (n ∷ ns) ascending = sent_append (resent_acts s.providers at n (get s.rows.pushes n)) (all_resent s.providers at s.rows.pushes ns) s (one_sent n (get s.rows.pushes n) refl)
      (resent_sent ns (later_pairs (λ a b. a < b) n ns ascending))
      (λ v i c j. resent_leave s.providers at s.rows.pushes ns (λ d. change_key d ≢ keys.Push (number_of v)) c j)
      (λ v i c j. absurd (in_none c (subst (λ l. Contains l c) (one_changes s.providers at s.rows.pushes n (get s.rows.pushes n)) j)))
      (λ v w i j same.
      let first = (of_one s.providers at s.rows.pushes n (get s.rows.pushes n) v i).0 in
      let later = (of_resent s.providers at s.rows.pushes ns w j).0 in
      let below : n < number_of w = All-contains (λ x. n < x) ns (number_of w) (first_pairs (λ a b. a < b) n ns ascending) later in
      omega (arith, first, same, below))
