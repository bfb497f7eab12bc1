-- Sessions that are held: each came from its operator, and only a later version replaces one that is not final.
use Rattle.std.proofs.Common.{◌≡◌, ◌⊎◌, ◌≤◌, ◌<◌, ℕ, List, [], ◌∷◌, inl, inr, refl, sym, ap, subst, ◌∙◌, arith}
use Rattle.std.specs.Prelude.{Option, Some, None}
use Rattle.std.specs.FinMap.{get, insert}
use Rattle.tables.specs.Keys.{text_pair_total, text_pair_exact}
use Rattle.tables.proofs.Elements.{in_front}
use Rattle.tables.proofs.Maps.{get-insert_same, get-insert_other, of_insert, told}
pub use Rattle.tables.proofs.Elements.{in_later}
use Rattle.ocpi_types.specs.declared.packet.Packet.{Packet}
use Rattle.ocpi_types.specs.declared.packet.Body.{Body}
use Rattle.ocpi_types.specs.declared.packet.Body.TheVariants as body
use Rattle.ocpi_types.specs.declared.sessions.Session.{Session}
use Rattle.ocpi_types.specs.declared.stored.Reply.{Reply}
use Rattle.ocpi_types.specs.declared.stored.Reply.TheVariants as reply
use Rattle.ocpi_types.specs.declared.words.SessionStatus.{SessionStatus}
use Rattle.ocpi_types.specs.declared.words.SessionStatus.TheVariants as status
use Rattle.ocpi_text.specs.Text.{key}
use Rattle.handover.specs.Inbox.{IsFinal, IsNews, IsOfParties, session_key}
use Rattle.node_laws.proofs.Runs.{kept_runs}
use Rattle.node_steps.specs.Acts.{Act, answered}
use Rattle.provider_rows.specs.State.{Rows, State}
use Rattle.provider_steps.specs.Acts.{acknowledgement, held}
use Rattle.provider_steps.specs.Events.{Event, Happens}
use Rattle.provider_steps.specs.Packets.{Answers}
use Rattle.provider_steps.specs.Packets as lines
use Rattle.provider_laws.specs.Laws.{AnswersIt, Brings}
use Rattle.provider_laws.specs.Held.{AcknowledgedSessionsAreHeld, HeldSessionsCame, HeldSessionsRise, HoldsAtLeast, IsAfter, IsTaken}
use Rattle.provider_laws.proofs.events.Parts.{SessionsMove, SameSessions, SessionTaken}
use Rattle.provider_laws.proofs.events.Doing.{does, same_party}
use Rattle.provider_laws.proofs.events.Through.{one_act, through}
use Rattle.provider_laws.proofs.replies.Answering.{Answering, answering}

-- the event brings the session, from its operator and for a token of that party
abbrev BringsSession : List ℕ → Event → Session → Type 0
BringsSession party e x = (q : Packet) × Brings e q × (q.body ≡ body.PutSession x) × IsOfParties party q.from x.cdr_token.party x.party

module _ (s t : State) (e : Event) (happens : Happens s e t) where
  from_event : (k : List ℕ × List ℕ) (x : Session) → get t.rows.inbox.sessions k ≡ Some x → (get s.rows.inbox.sessions k ≡ Some x) ⊎ ((k ≡ session_key x) × BringsSession s.party e x)
  from_event k x has = by (does s t e happens).sessions
    where
      by : SessionsMove s e.input t.rows.inbox.sessions → (get s.rows.inbox.sessions k ≡ Some x) ⊎ ((k ≡ session_key x) × BringsSession s.party e x)
      by (SameSessions is) = inl (sym (ap (λ m. get m k) is) ∙ has)
      by (SessionTaken at q arrives y carries right news is) =
          elim (of_insert text_pair_total text_pair_exact s.rows.inbox.sessions (session_key y) y k x (sym (ap (λ m. get m k) is) ∙ has)) [
            | inl (same, equal) ↦ inr (subst (λ z. (k ≡ session_key z) × BringsSession s.party e z) equal (same, (q, (at, arrives), carries, right)))
            | inr old ↦ inl old
          ]

  -- what replaces a version is news to it
  news_to : (k : List ℕ × List ℕ) (x y : Session) → get s.rows.inbox.sessions k ≡ Some x → k ≡ session_key y → IsNews (get s.rows.inbox.sessions (session_key y)) y → IsAfter x y
  news_to k x y has same news = inr (subst (λ o. IsNews o y) (ap (get s.rows.inbox.sessions) (sym same) ∙ has) news)

  rises : (k : List ℕ × List ℕ) (x : Session) → get s.rows.inbox.sessions k ≡ Some x → (y : Session) × (get t.rows.inbox.sessions k ≡ Some y) × IsAfter x y
  rises k x has = by (does s t e happens).sessions
    where
      by : SessionsMove s e.input t.rows.inbox.sessions → (y : Session) × (get t.rows.inbox.sessions k ≡ Some y) × IsAfter x y
      by (SameSessions is) = (x, ap (λ m. get m k) is ∙ has, inl refl)
      by (SessionTaken at q arrives y carries right news is) = elim (told text_pair_total text_pair_exact k (session_key y)) [
        | inl same ↦ (
          y,
          ap (λ m. get m k) is ∙ ap (get (insert s.rows.inbox.sessions (session_key y) y)) same ∙ get-insert_same text_pair_total text_pair_exact s.rows.inbox.sessions (session_key y) y,
          news_to k x y has same news,
        )
        | inr apart ↦ (x, ap (λ m. get m k) is ∙ get-insert_other text_pair_total text_pair_exact s.rows.inbox.sessions (session_key y) y k apart ∙ has, inl refl)
      ]

pub held_sessions_came : HeldSessionsCame
held_sessions_came s t [] run k x has = inl (subst (λ (z : State). get z.rows.inbox.sessions k ≡ Some x) run has)
held_sessions_came s t (e ∷ es) (u, first, rest) k x has = elim (held_sessions_came u t es rest k x has) [
  | inl before ↦ elim (from_event s u e first k x before) [
    | inl old ↦ inl old
    | inr (same, (q, brings, carries, right)) ↦ inr (same, (q, (e, in_front e es, brings), carries, right))
  ]
  | inr (same, (q, (f, i, brings), carries, right)) ↦
      inr (same, (q, (f, in_later e es f i, brings), carries, subst (λ p. IsOfParties p q.from x.cdr_token.party x.party) (same_party s u e first) right))
]

after_twice : (x y z : Session) → IsAfter x y → IsAfter y z → IsAfter x z
after_twice x y z (inl same) h = subst (λ v. IsAfter v z) (sym same) h
after_twice x y z (inr a) (inl same) = subst (λ v. IsAfter x v) same (inr a)
after_twice x y z (inr a) (inr b) = inr (a.0, let one = a.1 in let two = b.1 in omega (arith, one, two))

pub held_sessions_rise : HeldSessionsRise
held_sessions_rise s t es run k x has = kept_runs Happens (λ z. (y : Session) × (get z.rows.inbox.sessions k ≡ Some y) × IsAfter x y)
    (λ a b e h before. let now = rises a b e h k before.0 before.1 in (now.0, now.1, after_twice x before.0 now.0 before.2 now.2))
    s t es run (x, has, inl refl)

-- the status of an acknowledgement
abbrev status_of : Reply → ℕ
status_of (reply.Ack a) = a.status_code
status_of (reply.CommandResponse r) = 0
status_of (reply.Authorization r) = 0

pub not_taken : (r : Reply) (at : ℕ) → IsTaken r → r ≡ acknowledgement at 2001 → ⊥
not_taken r at (a, is, done) other =
    let status : 2001 ≡ a.status_code = ap status_of (sym other ∙ is) in
    omega (arith, status, done)

final_or_not : (w : SessionStatus) → IsFinal w ⊎ (¬ IsFinal w)
final_or_not status.Active = inr not_final
  where
    not_final : IsFinal status.Active → ⊥
    not_final (inl e) = cc
    not_final (inr e) = cc
final_or_not status.Completed = inl (inl refl)
final_or_not status.Invalid = inl (inr refl)
final_or_not status.Pending = inr not_final
  where
    not_final : IsFinal status.Pending → ⊥
    not_final (inl e) = cc
    not_final (inr e) = cc
final_or_not status.Reservation = inr not_final
  where
    not_final : IsFinal status.Reservation → ⊥
    not_final (inl e) = cc
    not_final (inr e) = cc

-- the version is final, or at least as new as the other
abbrev IsAtLeast : Session → Session → Type 0
IsAtLeast y x = IsFinal y.status ⊎ (x.last_updated ≤ y.last_updated)

-- where a version is no news, one is held that is final, or at least as new
not_news : (o : Option Session) (x : Session) → ¬ IsNews o x → (y : Session) × (o ≡ Some y) × IsAtLeast y x
not_news None x h = absurd (h tt)
not_news (Some y) x h = (
  y,
  refl,
  elim (final_or_not y.status) [
    | inl final ↦ inl final
    | inr not_final ↦ inr (let not_below : ¬ (y.last_updated < x.last_updated) = λ below. h (not_final, below) in omega (arith, not_below))
  ],
)

at_least_after : (x y z : Session) → IsAtLeast y x → IsAfter y z → IsAtLeast z x
at_least_after x y z h (inl same) = subst (λ v. IsAtLeast v x) same h
at_least_after x y z (inl final) (inr a) = absurd (a.0 final)
at_least_after x y z (inr below) (inr a) = inr (let later = a.1 in omega (arith, below, later))

module _ (s u : State) (e : Event) (happens : Happens s e u) (q : Packet) (x : Session) (r : Reply) (taken : IsTaken r) (carries : q.body ≡ body.PutSession x) where
  other_body : {b : Body} → q.body ≡ b → body.PutSession x ≡ b
  other_body is = sym carries ∙ is

  same_session : (y : Session) → q.body ≡ body.PutSession y → y ≡ x
  same_session y is = let both : body.PutSession x ≡ body.PutSession y = other_body is in let same : x ≡ y = cc in sym same

  held_now : AnswersIt s e u q r → HoldsAtLeast u x
  held_now a = by (answering s u e happens q r a)
    where
      -- it is held from now on
      put_now : (own : List Act) (to : List ℕ) (y : Session) → q.body ≡ body.PutSession y → own ≡ held y ∷ [] → u.rows ≡ through own (one_act (answered (key q.from) to q.request r) s.rows) → HoldsAtLeast u x
      put_now own to y is puts whole =
          let now : u.rows.inbox.sessions ≡ insert s.rows.inbox.sessions (session_key y) y =
          ap (λ (z : Rows). z.inbox.sessions) (whole ∙ ap (λ l. through l (one_act (answered (key q.from) to q.request r) s.rows)) puts) in
          let stands : get u.rows.inbox.sessions (session_key y) ≡ Some y = ap (λ m. get m (session_key y)) now ∙ get-insert_same text_pair_total text_pair_exact s.rows.inbox.sessions (session_key y) y in
          subst (HoldsAtLeast u) (same_session y is) (y, stands, inr (omega arith))

      -- what was held before is no older
      kept_before : (y : Session) → q.body ≡ body.PutSession y → ¬ IsNews (get s.rows.inbox.sessions (session_key y)) y → HoldsAtLeast u x
      kept_before y is old =
          let had = not_news (get s.rows.inbox.sessions (session_key y)) y old in
          let now = rises s u e happens (session_key y) had.0 had.1 in
          subst (HoldsAtLeast u) (same_session y is) (now.0, now.1, at_least_after y had.0 now.0 had.2 now.2)

      by_answer : (at : ℕ) (own : List Act) (to : List ℕ) → Answers s at q r own → u.rows ≡ through own (one_act (answered (key q.from) to q.request r) s.rows) → HoldsAtLeast u x
      by_answer at own to (lines.ResultTaken w is n c fits none r_is own_is) whole = let bad = other_body is in absurd (cc)
      by_answer at own to (lines.ResultKnown w is n c fits y had r_is own_is) whole = let bad = other_body is in absurd (cc)
      by_answer at own to (lines.ResultOfNone w is none r_is own_is) whole = let bad = other_body is in absurd (cc)
      by_answer at own to (lines.SessionRefused y is wrong r_is own_is) whole = absurd (not_taken r at taken r_is)
      by_answer at own to (lines.SessionTaken y is right news r_is own_is) whole = put_now own to y is own_is whole
      by_answer at own to (lines.SessionKept y is right old r_is own_is) whole = kept_before y is old
      by_answer at own to (lines.CdrRefused y is wrong r_is own_is) whole = let bad = other_body is in absurd (cc)
      by_answer at own to (lines.CdrInConflict y is right conflict r_is own_is) whole = let bad = other_body is in absurd (cc)
      by_answer at own to (lines.CdrKept y is right fine had r_is own_is) whole = let bad = other_body is in absurd (cc)
      by_answer at own to (lines.CdrTaken y is right fine new_one r_is own_is) whole = let bad = other_body is in absurd (cc)
      by_answer at own to (lines.Unknown b is none r_is own_is) whole = let bad = other_body is in absurd (cc)
      by_answer at own to (lines.Allowed b is t has valid r_is own_is) whole = let bad = other_body is in absurd (cc)
      by_answer at own to (lines.Blocked b is t has invalid r_is own_is) whole = let bad = other_body is in absurd (cc)

      by : Answering s u e happens q r → HoldsAtLeast u x
      by h = by_answer h.at h.own h.to h.answers h.whole

pub acknowledged_sessions_are_held : AcknowledgedSessionsAreHeld
acknowledged_sessions_are_held s u t e es q x r happens a taken carries run =
    let (y, has, at_least) = held_now s u e happens q x r taken carries a in
    let (z, later, after) = held_sessions_rise u t es run (session_key x) y has in
    (z, later, at_least_after x y z at_least after)
