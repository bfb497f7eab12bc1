-- An accepted command is open or has its result.
use Rattle.std.proofs.Common.{◌≡◌, ◌⊎◌, ◌++◌, ℕ, List, [], ◌∷◌, inl, inr, refl, sym, ap, subst, ◌∙◌, arith}
use Rattle.std.specs.Prelude.{Option, Some, None, Contains}
use Rattle.std.specs.FinMap.{get, get-empty}
use Rattle.tables.specs.Keys.{text_number_cmp}
use Rattle.tables.proofs.Options.{not_both}
use Rattle.ocpi_text.specs.Text.{key}
use Rattle.ocpi_types.specs.Commands.{reference_of}
use Rattle.ocpi_types.specs.declared.packet.Packet.{Packet}
use Rattle.ocpi_types.specs.declared.rows.Row.TheVariants as row
use Rattle.ocpi_types.specs.declared.rows.Change.{Change}
use Rattle.ocpi_types.specs.declared.rows.Change.TheVariants.{Put}
use Rattle.ocpi_types.specs.declared.stored.OpenCommand.{OpenCommand}
use Rattle.ocpi_types.specs.declared.stored.Reply.{Reply}
use Rattle.ocpi_types.specs.declared.words.CommandResponseType.TheVariants.{Accepted}
use Rattle.ocpi_types.specs.declared.words.CommandResultType.{CommandResultType}
use Rattle.command_book.specs.Stored as book
use Rattle.node_steps.specs.Acts.{Act, all_changes, answered}
use Rattle.operator_rows.specs.State.{State, opening}
use Rattle.operator_rows.specs.Sound.{IsConsistent}
use Rattle.operator_tables.specs.declared.decision.Decision.{Decision}
use Rattle.operator_tables.specs.declared.decision.Decision.TheVariants as decision
use Rattle.operator_tables.specs.Outcomes.{Tells}
use Rattle.operator_steps.specs.Acts.{deadline, decided_acts, opened, reply_of, responded, spent, used}
use Rattle.operator_steps.specs.Events.{Event}
use Rattle.operator_laws.specs.Laws.{IsReplyTo}
use Rattle.operator_laws.specs.Replied.{AcceptedIsOpenOrSettled, IsOpenNow, IsSettled}
use Rattle.operator_laws.proofs.events.Causes.{DecidesIt}
use Rattle.operator_laws.proofs.events.Doing.{Does, does, put_stands}
use Rattle.operator_laws.proofs.events.Keeping.{orderly_of, pending_stays, result_stays}
use Rattle.operator_laws.proofs.events.Standing.{consistent_stays}
use Rattle.operator_laws.proofs.replies.Answering.{kept_or_answered, no_word, same_word, told_of}
use Rattle.operator_laws.proofs.standing.AtAllTimes.{always_consistent, kept}

-- a start opens its command, whatever it uses up
start_opens : (to p : List ℕ) (n : ℕ) (r : Reply) (o : OpenCommand) (reservation reference : Option (List ℕ)) →
    Contains (all_changes (answered p to n r ∷ ((used p reservation ++ (opened p n o ∷ spent p reference)) ++ []))) (Put (row.Pending p n o))
start_opens to p n r o None None = (1, omega arith, refl)
start_opens to p n r o None (Some x) = (1, omega arith, refl)
start_opens to p n r o (Some id) None = (2, omega arith, refl)
start_opens to p n r o (Some id) (Some x) = (2, omega arith, refl)

-- each command that was answered by ACCEPTED is open or has its result
abbrev CarriedOut : State → List ℕ → ℕ → Type 0
CarriedOut t p n = IsOpenNow t p n ⊎ IsSettled t p n

abbrev AreCarriedOut : State → Type 0
AreCarriedOut t = (p : List ℕ) (n at : ℕ) → get t.rows.commands.replies (p, n) ≡ Some (responded at Accepted) → CarriedOut t p n

module _ (s t : State) (e : Event) (d : Does s e t) (h : DecidesIt s e.input d.acts) where
  abbrev p : List ℕ
  p = key h.packet.from

  abbrev n : ℕ
  n = h.packet.request

  abbrev acts_of : Decision → List Act
  acts_of z = decided_acts h.at s.rows.request h.to p n h.command z

  within : (z : Decision) → h.decision ≡ z → (c : Change) → Contains (all_changes (acts_of z)) c → Contains (all_changes d.acts) c
  within z is c j = subst (λ l. Contains (all_changes l) c) (sym (h.acts_are ∙ ap acts_of is)) j

  opens_it : (z : Decision) → h.decision ≡ z → (o : OpenCommand) → Contains (all_changes (acts_of z)) (Put (row.Pending p n o)) → CarriedOut t p n
  opens_it z is o j = inl (o, put_stands s t e d (row.Pending p n o) tt (orderly_of s e.input d.acts h) (within z is (Put (row.Pending p n o)) j))

  settles_it : (z : Decision) → h.decision ≡ z → (x : CommandResultType) → Contains (all_changes (acts_of z)) (Put (row.Result p n x)) → CarriedOut t p n
  settles_it z is x j = inr (x, put_stands s t e d (row.Result p n x) tt (orderly_of s e.input d.acts h) (within z is (Put (row.Result p n x)) j))

  -- what a decision accepts is open, or has its result at once
  accepted_now : (when : ℕ) (z : Decision) → h.decision ≡ z → Tells s h.at h.packet.from n h.command z → reply_of h.at z ≡ responded when Accepted → CarriedOut t p n
  accepted_now when (decision.Refused status) is tells reply = absurd (no_word h.at status when Accepted reply)
  accepted_now when (decision.Answered w) is tells reply = absurd (tells.not_accepted (same_word h.at when w Accepted reply))
  accepted_now when decision.Opened is tells reply = opens_it decision.Opened is (book.open_command h.command None (deadline h.at)) (1, omega arith, refl)
  accepted_now when (decision.Started place reservation) is tells reply =
      let o = book.open_command h.command (Some place) (deadline h.at) in
      opens_it (decision.Started place reservation) is o (start_opens h.to p n (reply_of h.at (decision.Started place reservation)) o reservation (reference_of h.command))
  accepted_now when (decision.Resulted x) is tells reply = settles_it (decision.Resulted x) is _ (2, omega arith, refl)
  accepted_now when (decision.Noted id x) is tells reply = settles_it (decision.Noted id x) is _ (3, omega arith, refl)
  accepted_now when (decision.Reserved id r) is tells reply = settles_it (decision.Reserved id r) is _ (4, omega arith, refl)
  accepted_now when (decision.Cancelled id) is tells reply = settles_it (decision.Cancelled id) is _ (4, omega arith, refl)

carried_stays : (s t : State) (e : Event) → Does s e t → IsConsistent s → AreCarriedOut s → AreCarriedOut t
carried_stays s t e d fine before p n when has = elim (kept_or_answered s t e d p n (responded when Accepted) has) [
  | inl old ↦ elim (before p n when old) [
    | inl (o, stands) ↦ elim (pending_stays s t e d fine p n (responded when Accepted) old o stands) [ inl still ↦ inl (o, still) | inr settled ↦ inr settled ]
    | inr (x, stands) ↦ inr (x, result_stays s t e d fine.sound p n x stands)
  ]
  | inr a ↦
      let (c, is) = subst (λ z. IsReplyTo z a.replies.packet.body) a.reply_is a.replies.answers in
      let (it, same, reply) = a.replies.decided c is in
      let by : key it.packet.from ≡ p = ap (λ (q : Packet). key q.from) same ∙ a.by in
      let number : it.packet.request ≡ n = ap (λ (q : Packet). q.request) same ∙ a.number in
      subst (λ (k : List ℕ × ℕ). CarriedOut t k.0 k.1) (λ i. (by i, number i))
      (accepted_now s t e d it when it.decision refl (told_of s e.input d.acts it) (reply ∙ a.reply_is))
]

pub accepted_is_open_or_settled : AcceptedIsOpenOrSettled
accepted_is_open_or_settled line es t own run p n at accepted = (
  (kept (λ z. IsConsistent z × AreCarriedOut z) (λ a b e happens held. (consistent_stays a b e happens held.0, carried_stays a b e (does a b e happens) held.0 held.1)) (opening line) t es run
      ((always_consistent line [] (opening line) own refl).consistent, λ q m when none. absurd (not_both (responded when Accepted) _ (get-empty text_number_cmp (q, m)) none))).1 p n at accepted,
  λ opened_one settled. not_both settled.0 _ ((always_consistent line es t own run).consistent.sound.pending p n opened_one.0 opened_one.1).unsettled settled.1,
)
