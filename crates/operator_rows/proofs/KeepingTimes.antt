-- Only pushes that stand have resend times, and that stays so.
use Rattle.std.proofs.Common.{◌≡◌, ◌≢◌, ◌⊎◌, inl, inr, ℕ, List, [], ◌∷◌, map, sym, ap, subst, ◌∙◌}
use Rattle.std.specs.Prelude.{Option, Some, None, Ok, IsTrue, Contains, is_some}
use Rattle.std.specs.Ordering.{nat_cmp}
use Rattle.std.specs.Cmp.{nat_cmp_total}
use Rattle.std.specs.FinMap.{nat_cmp-IsAntisymmetric, get, contains_key, empty, get-empty}
use Rattle.tables.proofs.Elements.{in_none, in_front}
use Rattle.tables.proofs.Options.{none_some, not_both}
use Rattle.authorization_book.specs.Waits.{OneEach}
use Rattle.authorization_book.specs.declared.awaited.Awaited.{Awaited}
use Rattle.authorization_book.specs.declared.waiting.Waiting.{Waiting}
use Rattle.ocpi_text.specs.Party.{party_at}
use Rattle.authorization_book.proofs.Changes.{one_each_stays, waits_change}
use Rattle.ocpi_types.specs.declared.rows.Change.{Change}
use Rattle.ocpi_types.specs.declared.rows.Row.TheVariants as row
use Rattle.ocpi_types.specs.declared.rows.RowKey.TheVariants as keys
use Rattle.ocpi_types.specs.declared.site.SiteLine.{SiteLine}
use Rattle.outbox.specs.Outbox.{AreResent, request_of, without}
use Rattle.outbox.specs.Resend.{Resend, due_again}
use Rattle.outbox.specs.declared.push_book.Outgoing.{Outgoing}
use Rattle.outbox.proofs.Timing.{put_or, stood, has_some, has_none}
use Rattle.node_steps.specs.Drafts.{Step}
use Rattle.node_steps.specs.declared.plan.Volatile.{Volatile}
use Rattle.node_steps.specs.declared.plan.Volatile.TheVariants.{Sent}
use Rattle.operator_rows.specs.State.{State, as_outbox, opening}
use Rattle.operator_rows.specs.Stored.{change_key, changed_all}
use Rattle.operator_rows.specs.Sound.{IsConsistent, IsSound}
use Rattle.operator_rows.specs.Steps.{AreAwaitable, FullStep, MayFollow, MayFollowFull, after, after_full, reopened, restarted, number_of, untimed, untimed_all, timed, timed_all}
use Rattle.operator_rows.proofs.KeepingSound.{follow_sound, opening_sound, sound_beside}
use Rattle.operator_rows.proofs.KeepingCharged.{awaits_still}
use Rattle.operator_rows.proofs.RowChanges.{row_changes, of_cons, in_later}

-- what has a resend time once requests are sent was sent, or had one
timed_or : (vs : List Volatile) (m : Resend) (n : ℕ) → IsTrue (contains_key (timed_all vs m) n) → ((v : Volatile) × Contains vs v × (number_of v ≡ n)) ⊎ IsTrue (contains_key m n)
timed_or [] m n has = inr has
timed_or (Sent k at ∷ vs) m n has = elim (timed_or vs (timed (Sent k at) m) n has) [
  | inl found ↦ inl (found.0, in_later (Sent k at) vs found.0 found.1, found.2)
  | inr had ↦ elim (put_or nat_cmp_total nat_cmp-IsAntisymmetric m k (due_again at) n had) [
    | inl same ↦ inl (Sent k at, in_front (Sent k at) vs, sym same)
    | inr was ↦ inr was.1
  ]
]

without_has : (o : Option ℕ) (m : Resend) (n : ℕ) → IsTrue (contains_key (without o m) n) → (o ≢ Some n) × IsTrue (contains_key m n)
without_has None m n has = (λ e. (let bad : None ≡ Some n = e in cc), has)
without_has (Some k) m n has =
    let was = stood nat_cmp_total nat_cmp-IsAntisymmetric m k n has in
    (λ e. was.0 (let same : k ≡ n = cc in sym same), was.1)

-- what has a resend time once rows change had one, and no change was of it
untimed_has : (cs : List Change) (m : Resend) (n : ℕ) → IsTrue (contains_key (untimed_all cs m) n) → ¬ Contains (map change_key cs) (keys.Push n) × IsTrue (contains_key m n)
untimed_has [] m n has = (λ i. in_none (keys.Push n) i, has)
untimed_has (c ∷ cs) m n has =
    let later = untimed_has cs (untimed c m) n has in
    let first = without_has (request_of (change_key c)) m n later.1 in (
      λ i. elim (of_cons (change_key c) (map change_key cs) (keys.Push n) i) [ inl same ↦ first.0 (ap request_of same) | inr more ↦ later.0 more ],
      first.1,
    )

-- of an operator only pushes wait
pub push_waits : (s : State) (h : IsConsistent s) (n : ℕ) → IsTrue (contains_key s.resend n) → IsTrue (contains_key s.rows.pushes n)
push_waits s h n has = elim (h.resend n has) [
  | inl push ↦ push
  | inr sent ↦ not_both sent.0 (get (as_outbox s.rows).commands n) (get-empty nat_cmp n) sent.1
]

-- a push that no change is of still stands
still_pushed : (s : State) (x : Step) → IsSound s → MayFollow s x → (n : ℕ) → IsTrue (contains_key s.rows.pushes n) → ¬ Contains (map change_key x.changes) (keys.Push n) → IsTrue (contains_key (changed_all x.changes s.rows).pushes n)
still_pushed s x h may n has none =
    let stands : (o : Outgoing) × (get s.rows.pushes n ≡ Some o) = has_some (get s.rows.pushes n) has in
    ap is_some ((row_changes x.changes s h may.apart may.may (row.Push n stands.0.to stands.0.push)).1 (inr (stands.1, none)))

-- only pushes that stand have resend times once a step is carried out
follow_resent : (s : State) (x : Step) → MayFollow s x → IsConsistent s → AreResent (as_outbox (after x s).rows) (after x s).resend
follow_resent s x may h n has = elim (timed_or x.volatile (untimed_all x.changes s.resend) n has) [
  | inl found ↦ inl (subst (λ k. IsTrue (contains_key (changed_all x.changes s.rows).pushes k)) found.2 (may.sends.stands found.0 found.1))
  | inr had ↦ (let was = untimed_has x.changes s.resend n had in inl (still_pushed s x h.sound may n (push_waits s h n was.1) was.0))
]

-- what may be awaited before a step may be after it
pub awaitable_after : (s : State) (x : Step) (ws : List Waiting) → AreAwaitable s ws → AreAwaitable (after x s) ws
awaitable_after s x ws h n a i = awaits_still s (after x s).rows (after x s).resend s.waits a (h n a i)

-- a step with what it awaits
pub follow_full_consistent : (s : State) (x : FullStep) → MayFollowFull s x → IsConsistent s → IsConsistent (after_full x s)
follow_full_consistent s x may h =
    let t = after_full x s in
    record {
      sound = sound_beside (after x.step s) t.resend t.waits (follow_sound s x.step may.step h.sound);
      resend = follow_resent s x.step may.step h;
      waits = one_each_stays s.waits x.waits may.waits h.waits;
      awaited = λ n a has. awaits_still s t.rows t.resend t.waits a (elim ((waits_change s.waits x.waits may.waits n a).0 has).1 [ inl was ↦ h.awaited n a was | inr begun ↦ may.awaited n a begun ]);
      asked = may.asked;
      own = h.own;
    }

none_awaited : OneEach empty
none_awaited evse n q x y = none_some x.awaited (sym (get-empty nat_cmp n) ∙ x.stands)

pub restarted_consistent : (s : State) → IsConsistent s → IsConsistent (restarted s)
restarted_consistent s h = record {
  sound = sound_beside s (restarted s).resend empty h.sound;
  resend = λ n has. absurd (has_none ℕ nat_cmp n has);
  waits = none_awaited;
  awaited = λ n a has. none_some a (sym (get-empty nat_cmp n) ∙ has);
  asked = λ n has. absurd (has_none Awaited nat_cmp n has);
  own = h.own;
}

-- and where the operator starts again under another setup, under which no row is bad
pub reopened_consistent : (line : SiteLine) (s : State) → IsSound (reopened line s) → IsConsistent s → IsConsistent (reopened line s)
reopened_consistent line s sound h = record {
  sound = sound;
  resend = λ n has. absurd (has_none ℕ nat_cmp n has);
  waits = none_awaited;
  awaited = λ n a has. none_some a (sym (get-empty nat_cmp n) ∙ has);
  asked = λ n has. absurd (has_none Awaited nat_cmp n has);
  own = h.own;
}

pub opening_consistent : (line : SiteLine) → party_at line.parties.operator ≡ Ok line.parties.operator → IsConsistent (opening line)
opening_consistent line own = record {
  sound = opening_sound line;
  resend = λ n has. absurd (has_none ℕ nat_cmp n has);
  waits = none_awaited;
  awaited = λ n a has. none_some a (sym (get-empty nat_cmp n) ∙ has);
  asked = λ n has. absurd (has_none Awaited nat_cmp n has);
  own = own;
}
