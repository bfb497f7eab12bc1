-- Commands that were sent: each stands for good, and what is stored of it came from its addressee.
use Rattle.std.proofs.Common.{◌≡◌, ◌⊎◌, ◌≤◌, ℕ, List, inl, inr, refl, sym, ap, subst, ◌∙◌, arith}
use Rattle.std.specs.Prelude.{Some, is_some}
use Rattle.std.specs.Cmp.{nat_cmp_total}
use Rattle.std.specs.FinMap.{get, insert, nat_cmp-IsAntisymmetric}
use Rattle.tables.proofs.Maps.{get-insert_same, get-insert_other, of_insert, told}
use Rattle.tables.proofs.Options.{none_some, not_both}
use Rattle.ocpi_text.specs.Text.{key}
use Rattle.ocpi_types.specs.Commands.{url_of}
use Rattle.ocpi_types.specs.declared.packet.Packet.{Packet}
use Rattle.ocpi_types.specs.declared.packet.Body.TheVariants as body
use Rattle.ocpi_types.specs.declared.replies.CommandResponse.{CommandResponse}
use Rattle.ocpi_types.specs.declared.replies.CommandResult.{CommandResult}
use Rattle.ocpi_types.specs.declared.stored.SentCommand.{SentCommand}
use Rattle.ocpi_types.specs.declared.words.CommandResultType.{CommandResultType}
use Rattle.node_laws.proofs.Runs.{kept_runs, made_runs}
use Rattle.node_steps.specs.Acts.{unanswered}
use Rattle.provider_rows.specs.State.{State}
use Rattle.provider_rows.specs.Sound.{IsConsistent}
use Rattle.provider_steps.specs.Acts.{with_answer, with_result}
use Rattle.provider_steps.specs.Events.{Event, Happens}
use Rattle.provider_steps.specs.Orders.{next_request}
use Rattle.provider_laws.specs.Laws.{Brings, Run}
use Rattle.provider_laws.specs.Commands.{AnswersCame, CommandsStay, IsLater, ResultsCame}
use Rattle.provider_laws.proofs.events.Parts.{CommandsMove, Made, Responded, Resulted, SameCommands}
use Rattle.provider_laws.proofs.events.Doing.{does}

-- no command has a number above that of the last request
abbrev pub AreCounted : State → Type 0
AreCounted s = (n : ℕ) (c : SentCommand) → get s.rows.outbox.commands n ≡ Some c → n ≤ s.rows.outbox.last

pub counted_of : (s : State) → IsConsistent s → AreCounted s
counted_of s fine n c has = fine.sound.outbox.commands_counted n (ap is_some has)

same_command : (c : SentCommand) → IsLater c c
same_command c = record { to = refl; command = refl; answer = λ r h. h; result = λ x h. h }

later_twice : (c d e : SentCommand) → IsLater c d → IsLater d e → IsLater c e
later_twice c d e h g = record { to = g.to ∙ h.to; command = g.command ∙ h.command; answer = λ r is. g.answer r (h.answer r is); result = λ x is. g.result x (h.result x is) }

one_command : (c d : SentCommand) → Some c ≡ Some d → c ≡ d
one_command c d e = cc

module _ (s t : State) (e : Event) (happens : Happens s e t) where
  pub counted_stays : AreCounted s → AreCounted t
  counted_stays counted n c has = by (does s t e happens).commands
    where
      old : (z : SentCommand) → get s.rows.outbox.commands n ≡ Some z → n ≤ t.rows.outbox.last
      old z stands = let at_first = counted n z stands in let rises = (does s t e happens).last in omega (arith, at_first, rises)

      by : CommandsMove s e.input t.rows.outbox → n ≤ t.rows.outbox.last
      by (SameCommands is) = old c (sym (ap (λ m. get m n) is) ∙ has)
      by (Made at operator order arrives to d before makes is last most) =
          elim (of_insert nat_cmp_total nat_cmp-IsAntisymmetric s.rows.outbox.commands (next_request s) (unanswered to d) n c (sym (ap (λ m. get m n) is) ∙ has)) [
            | inl (same, equal) ↦ omega (arith, same, last)
            | inr stood ↦ old c stood
          ]
      by (Responded at q arrives w carries d awaited is) =
          elim (of_insert nat_cmp_total nat_cmp-IsAntisymmetric s.rows.outbox.commands q.request (with_answer w d) n c (sym (ap (λ m. get m n) is) ∙ has)) [
            | inl (same, equal) ↦ old d (ap (get s.rows.outbox.commands) same ∙ awaited.stands)
            | inr stood ↦ old c stood
          ]
      by (Resulted at q arrives w carries k d fits none is) =
          elim (of_insert nat_cmp_total nat_cmp-IsAntisymmetric s.rows.outbox.commands k (with_result w.result d) n c (sym (ap (λ m. get m n) is) ∙ has)) [
            | inl (same, equal) ↦ old d (ap (get s.rows.outbox.commands) same ∙ fits.command)
            | inr stood ↦ old c stood
          ]

  abbrev StandsLater : ℕ → SentCommand → Type 0
  StandsLater n c = (d : SentCommand) × (get t.rows.outbox.commands n ≡ Some d) × IsLater c d

  pub stands_later : AreCounted s → (n : ℕ) (c : SentCommand) → get s.rows.outbox.commands n ≡ Some c → StandsLater n c
  stands_later counted n c has = by (does s t e happens).commands
    where
      -- another command is put, or this one anew
      put : (k : ℕ) (x : SentCommand) → t.rows.outbox.commands ≡ insert s.rows.outbox.commands k x → (n ≡ k → IsLater c x) → StandsLater n c
      put k x is later = elim (told nat_cmp_total nat_cmp-IsAntisymmetric n k) [
        | inl same ↦ (x, ap (λ m. get m n) is ∙ ap (get (insert s.rows.outbox.commands k x)) same ∙ get-insert_same nat_cmp_total nat_cmp-IsAntisymmetric s.rows.outbox.commands k x, later same)
        | inr apart ↦ (c, ap (λ m. get m n) is ∙ get-insert_other nat_cmp_total nat_cmp-IsAntisymmetric s.rows.outbox.commands k x n apart ∙ has, same_command c)
      ]

      by : CommandsMove s e.input t.rows.outbox → StandsLater n c
      by (SameCommands is) = (c, ap (λ m. get m n) is ∙ has, same_command c)
      by (Made at operator order arrives to d before makes is last most) = put (next_request s) (unanswered to d) is (λ same. let below = counted n c has in absurd (omega (arith, below, same)))
      by (Responded at q arrives w carries d awaited is) = put q.request (with_answer w d) is (λ same.
          let equal : d ≡ c = one_command d c (sym awaited.stands ∙ ap (get s.rows.outbox.commands) (sym same) ∙ has) in
          subst (λ z. IsLater z (with_answer w d)) equal (record { to = refl; command = refl; answer = λ r had. not_both r d.answer awaited.unanswered had; result = λ x h. h }))
      by (Resulted at q arrives w carries k d fits none is) = put k (with_result w.result d) is (λ same.
          let equal : d ≡ c = one_command d c (sym fits.command ∙ ap (get s.rows.outbox.commands) (sym same) ∙ has) in
          subst (λ z. IsLater z (with_result w.result d)) equal (record { to = refl; command = refl; answer = λ r h. h; result = λ x had. not_both x d.result none had }))

-- the command of a number, of a party, with a response
module _ (n : ℕ) (to : List ℕ) (r : CommandResponse) where
  abbrev HasAnswer : State → Type 0
  HasAnswer z = (c : SentCommand) × (get z.rows.outbox.commands n ≡ Some c) × (c.answer ≡ Some r) × (c.to ≡ to)

  abbrev BringsAnswer : Event → Type 0
  BringsAnswer e = (q : Packet) × Brings e q × (q.body ≡ body.CommandResponse r) × (key q.from ≡ key to) × (q.request ≡ n)

  answer_from : (s t : State) (e : Event) → Happens s e t → HasAnswer t → HasAnswer s ⊎ BringsAnswer e
  answer_from s t e happens (c, has, answer, addressee) = by (does s t e happens).commands
    where
      by : CommandsMove s e.input t.rows.outbox → HasAnswer s ⊎ BringsAnswer e
      by (SameCommands is) = inl (c, sym (ap (λ m. get m n) is) ∙ has, answer, addressee)
      by (Made at operator order arrives p d before makes is last most) =
          elim (of_insert nat_cmp_total nat_cmp-IsAntisymmetric s.rows.outbox.commands (next_request s) (unanswered p d) n c (sym (ap (λ m. get m n) is) ∙ has)) [
            | inl (same, equal) ↦ none_some r (ap (λ (z : SentCommand). z.answer) equal ∙ answer)
            | inr stood ↦ inl (c, stood, answer, addressee)
          ]
      by (Responded at q arrives w carries d awaited is) =
          elim (of_insert nat_cmp_total nat_cmp-IsAntisymmetric s.rows.outbox.commands q.request (with_answer w d) n c (sym (ap (λ m. get m n) is) ∙ has)) [
            | inl (same, equal) ↦
                let both : Some w ≡ Some r = ap (λ (z : SentCommand). z.answer) equal ∙ answer in
                let same_answer : w ≡ r = cc in
                inr (q, (at, arrives), carries ∙ ap body.CommandResponse same_answer, sym awaited.to_sender ∙ ap (λ (z : SentCommand). key z.to) equal ∙ ap key addressee, sym same)
            | inr stood ↦ inl (c, stood, answer, addressee)
          ]
      by (Resulted at q arrives w carries k d fits none is) =
          elim (of_insert nat_cmp_total nat_cmp-IsAntisymmetric s.rows.outbox.commands k (with_result w.result d) n c (sym (ap (λ m. get m n) is) ∙ has)) [
            | inl (same, equal) ↦
                inl (d, ap (get s.rows.outbox.commands) same ∙ fits.command, ap (λ (z : SentCommand). z.answer) equal ∙ answer, ap (λ (z : SentCommand). z.to) equal ∙ addressee)
            | inr stood ↦ inl (c, stood, answer, addressee)
          ]

-- with a result, posted to a url
module _ (n : ℕ) (to url : List ℕ) (x : CommandResultType) where
  abbrev HasResult : State → Type 0
  HasResult z = (c : SentCommand) × (get z.rows.outbox.commands n ≡ Some c) × (c.result ≡ Some x) × (c.to ≡ to) × (url_of c.command ≡ url)

  abbrev BringsResult : Event → Type 0
  BringsResult e = (q : Packet) × (r : CommandResult) × Brings e q × (q.body ≡ body.CommandResult r) × (r.result ≡ x) × (r.response_url ≡ url) × (key q.from ≡ key to)

  result_from : (s t : State) (e : Event) → Happens s e t → HasResult t → HasResult s ⊎ BringsResult e
  result_from s t e happens (c, has, result, addressee, posted) = by (does s t e happens).commands
    where
      by : CommandsMove s e.input t.rows.outbox → HasResult s ⊎ BringsResult e
      by (SameCommands is) = inl (c, sym (ap (λ m. get m n) is) ∙ has, result, addressee, posted)
      by (Made at operator order arrives p d before makes is last most) =
          elim (of_insert nat_cmp_total nat_cmp-IsAntisymmetric s.rows.outbox.commands (next_request s) (unanswered p d) n c (sym (ap (λ m. get m n) is) ∙ has)) [
            | inl (same, equal) ↦ none_some x (ap (λ (z : SentCommand). z.result) equal ∙ result)
            | inr stood ↦ inl (c, stood, result, addressee, posted)
          ]
      by (Responded at q arrives w carries d awaited is) =
          elim (of_insert nat_cmp_total nat_cmp-IsAntisymmetric s.rows.outbox.commands q.request (with_answer w d) n c (sym (ap (λ m. get m n) is) ∙ has)) [
            | inl (same, equal) ↦ inl (
              d,
              ap (get s.rows.outbox.commands) same ∙ awaited.stands,
              ap (λ (z : SentCommand). z.result) equal ∙ result,
              ap (λ (z : SentCommand). z.to) equal ∙ addressee,
              ap (λ (z : SentCommand). url_of z.command) equal ∙ posted,
            )
            | inr stood ↦ inl (c, stood, result, addressee, posted)
          ]
      by (Resulted at q arrives w carries k d fits none is) =
          elim (of_insert nat_cmp_total nat_cmp-IsAntisymmetric s.rows.outbox.commands k (with_result w.result d) n c (sym (ap (λ m. get m n) is) ∙ has)) [
            | inl (same, equal) ↦
                let both : Some w.result ≡ Some x = ap (λ (z : SentCommand). z.result) equal ∙ result in
                let same_result : w.result ≡ x = cc in
                let it : fits.fits.command ≡ d = one_command fits.fits.command d (sym fits.fits.stands ∙ fits.command) in
                inr (
                  q,
                  w,
                  (at, arrives),
                  carries,
                  same_result,
                  sym fits.fits.posted ∙ ap (λ (z : SentCommand). url_of z.command) it ∙ ap (λ (z : SentCommand). url_of z.command) equal ∙ posted,
                  sym fits.fits.sender ∙ ap (λ (z : SentCommand). key z.to) it ∙ ap (λ (z : SentCommand). key z.to) equal ∙ ap key addressee,
                )
            | inr stood ↦ inl (c, stood, result, addressee, posted)
          ]

pub commands_stay_from : (s t : State) (es : List Event) → AreCounted s → Run s es t → (n : ℕ) (c : SentCommand) → get s.rows.outbox.commands n ≡ Some c →
    AreCounted t × ((d : SentCommand) × (get t.rows.outbox.commands n ≡ Some d) × IsLater c d)
commands_stay_from s t es counted run n c has = kept_runs Happens (λ z. AreCounted z × ((d : SentCommand) × (get z.rows.outbox.commands n ≡ Some d) × IsLater c d))
    (λ a b e h before. let now = stands_later a b e h before.0 n before.1.0 before.1.1 in (counted_stays a b e h before.0, (now.0, now.1, later_twice c before.1.0 now.0 before.1.2 now.2)))
    s t es run (counted, (c, has, same_command c))

pub commands_stay : CommandsStay
commands_stay s t es fine run n c has = (commands_stay_from s t es (counted_of s fine) run n c has).1

pub answers_came : AnswersCame
answers_came s t es run n d r has answer = elim (made_runs Happens (HasAnswer n d.to r) (BringsAnswer n d.to r) (answer_from n d.to r) s t es run (d, has, answer, refl)) [
  | inl (c, stood, had, to) ↦ inl (c, stood, had)
  | inr (e, i, (q, brings, carries, from, number)) ↦ inr (q, (e, i, brings), carries, from, number)
]

pub results_came : ResultsCame
results_came s t es run n d x has result = elim (made_runs Happens (HasResult n d.to (url_of d.command) x) (BringsResult n d.to (url_of d.command) x) (result_from n d.to (url_of d.command) x) s t es run (d, has, result, refl, refl)) [
  | inl (c, stood, had, to, url) ↦ inl (c, stood, had)
  | inr (e, i, (q, r, brings, carries, is, posted, from)) ↦ inr (q, r, (e, i, brings), carries, is, posted, from)
]
