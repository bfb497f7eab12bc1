-- Only requests that wait have resend times, and that stays so.
use Rattle.std.proofs.Common.{◌≡◌, ◌≢◌, ◌⊎◌, inl, inr, ℕ, List, [], ◌∷◌, map, refl, sym, ap, subst, ◌∙◌}
use Rattle.std.specs.Prelude.{Option, Some, None, IsTrue, Contains, is_some}
use Rattle.std.specs.Ordering.{nat_cmp}
use Rattle.std.specs.Cmp.{nat_cmp_total}
use Rattle.std.specs.FinMap.{nat_cmp-IsAntisymmetric, get, contains_key}
use Rattle.tables.proofs.Elements.{in_none, in_front}
use Rattle.ocpi_types.specs.declared.rows.Change.{Change}
use Rattle.ocpi_types.specs.declared.rows.Row.TheVariants as row
use Rattle.ocpi_types.specs.declared.rows.RowKey.{RowKey}
use Rattle.ocpi_types.specs.declared.rows.RowKey.TheVariants as keys
use Rattle.outbox.specs.Outbox.{Waits, request_of, without}
use Rattle.outbox.specs.Resend.{Resend, due_again}
use Rattle.outbox.specs.declared.push_book.Outgoing.{Outgoing}
use Rattle.outbox.proofs.Timing.{put_or, stood, has_some, has_none}
use Rattle.node_steps.specs.Drafts.{Step}
use Rattle.node_steps.specs.declared.plan.Volatile.{Volatile}
use Rattle.node_steps.specs.declared.plan.Volatile.TheVariants.{Sent}
use Rattle.provider_rows.specs.State.{ArePeers, Peering, State, opening}
use Rattle.provider_rows.specs.Stored.{change_key, changed_all}
use Rattle.provider_rows.specs.Sound.{IsConsistent}
use Rattle.provider_rows.specs.Steps.{MayFollow, MayReopen, after, reopened, restarted, number_of, untimed, untimed_all, timed, timed_all}
use Rattle.provider_rows.proofs.KeepingSound.{follow_sound, opening_sound, sound_resent}
use Rattle.provider_rows.proofs.RowChanges.{row_changes, of_cons, in_later}

-- what has a resend time once requests are sent was sent, or had one
timed_or : (vs : List Volatile) (m : Resend) (n : ℕ) → IsTrue (contains_key (timed_all vs m) n) → ((v : Volatile) × Contains vs v × (number_of v ≡ n)) ⊎ IsTrue (contains_key m n)
timed_or [] m n has = inr has
timed_or (Sent k at ∷ vs) m n has = elim (timed_or vs (timed (Sent k at) m) n has) [
  | inl found ↦ inl (found.0, in_later (Sent k at) vs found.0 found.1, found.2)
  | inr had ↦ elim (put_or nat_cmp_total nat_cmp-IsAntisymmetric m k (due_again at) n had) [
    | inl same ↦ inl (Sent k at, in_front (Sent k at) vs, sym same)
    | inr was ↦ inr was.1
  ]
]

without_has : (o : Option ℕ) (m : Resend) (n : ℕ) → IsTrue (contains_key (without o m) n) → (o ≢ Some n) × IsTrue (contains_key m n)
without_has None m n has = (λ e. (let bad : None ≡ Some n = e in cc), has)
without_has (Some k) m n has =
    let was = stood nat_cmp_total nat_cmp-IsAntisymmetric m k n has in
    (λ e. was.0 (let same : k ≡ n = cc in sym same), was.1)

-- what has a resend time once rows change had one, and no change was of it
untimed_has : (cs : List Change) (m : Resend) (n : ℕ) → IsTrue (contains_key (untimed_all cs m) n) → ((k : RowKey) → request_of k ≡ Some n → ¬ Contains (map change_key cs) k) × IsTrue (contains_key m n)
untimed_has [] m n has = (λ k is i. in_none k i, has)
untimed_has (c ∷ cs) m n has =
    let later = untimed_has cs (untimed c m) n has in
    let first = without_has (request_of (change_key c)) m n later.1 in (
      λ k is i. elim (of_cons (change_key c) (map change_key cs) k i) [ inl same ↦ first.0 (ap request_of same ∙ is) | inr more ↦ later.0 k is more ],
      first.1,
    )

-- a request that waits, and that no change is of, still waits
still_waits : (s : State) (x : Step) → MayFollow s x → (n : ℕ) → Waits s.rows.outbox n → ((k : RowKey) → request_of k ≡ Some n → ¬ Contains (map change_key x.changes) k) → Waits (changed_all x.changes s.rows).outbox n
still_waits s x may n (inl has) none =
    let stands : (o : Outgoing) × (get s.rows.outbox.pushes n ≡ Some o) = has_some (get s.rows.outbox.pushes n) has in
    inl (ap is_some ((row_changes x.changes s may.apart may.may (row.Push n stands.0.to stands.0.push)).1 (inr (stands.1, none (keys.Push n) refl))))
still_waits s x may n (inr sent) none = inr (sent.0, (row_changes x.changes s may.apart may.may (row.Command n sent.0)).1 (inr (sent.1, none (keys.Command n) refl)), sent.2)

pub follow_consistent : (s : State) (x : Step) → MayFollow s x → IsConsistent s → IsConsistent (after x s)
follow_consistent s x may h = record {
  peers = h.peers;
  sound = follow_sound s x may h.sound;
  resend = λ n has. elim (timed_or x.volatile (untimed_all x.changes s.resend) n has) [
    | inl found ↦ subst (Waits (changed_all x.changes s.rows).outbox) found.2 (may.sends.waits found.0 found.1)
    | inr had ↦ (let was = untimed_has x.changes s.resend n had in still_waits s x may n (h.resend n was.1) was.0)
  ];
}

pub restarted_consistent : (s : State) → IsConsistent s → IsConsistent (restarted s)
restarted_consistent s h = record { peers = h.peers; sound = sound_resent s (restarted s).resend h.sound; resend = λ n has. absurd (has_none ℕ nat_cmp n has) }

pub reopened_consistent : (p : Peering) (s : State) → MayReopen s p → IsConsistent (reopened p s)
reopened_consistent p s may = record { peers = may.peers; sound = may.sound; resend = λ n has. absurd (has_none ℕ nat_cmp n has) }

pub opening_consistent : (p : Peering) → ArePeers p → IsConsistent (opening p)
opening_consistent p are = record { peers = are; sound = opening_sound p; resend = λ n has. absurd (has_none ℕ nat_cmp n has) }
