-- An operator has one step by an input that leaves it one EVSE at most to take.
use Rattle.std.proofs.Common.{◌≡◌, ◌<◌, ◌+◌, ℕ, Bool, true, false, List, [], ◌∷◌, inl, inr, sym, ap, subst, ◌∙◌, arith}
use Rattle.ocpi_text.specs.Moment.{last_moment}
use Rattle.ocpi_types.specs.declared.cdrs.Cdr.{Cdr}
use Rattle.ocpi_types.specs.declared.rows.Change.TheVariants.{Put, Drop}
use Rattle.ocpi_types.specs.declared.rows.Row.TheVariants as row
use Rattle.ocpi_types.specs.declared.rows.RowKey.TheVariants as keys
use Rattle.ocpi_types.specs.declared.stored.Push.TheVariants as push
use Rattle.site_book.specs.Sites.{IsEvse, works}
use Rattle.node_steps.specs.Acts.{Act, changed, pushed}
use Rattle.operator_rows.specs.Sound.{IsConsistent}
use Rattle.operator_rows.specs.State.{State}
use Rattle.operator_steps.specs.Credits as credits
use Rattle.operator_steps.specs.Credits.{CreditLine, CreditsTo, HasNoCreditStamp, next_credit}
use Rattle.operator_steps.specs.Events.{Arrives, Asks, Credits, Event, Input, Reopens, Reports, Restarts, Serves, Ticks, event_out}
use Rattle.operator_steps.specs.Moves.{Quietly, Work, acted, quiet}
use Rattle.operator_steps.specs.Service as service
use Rattle.operator_steps.specs.Service.{ServiceLine}
use Rattle.world_steps.specs.Steps as steps
use Rattle.world_steps.specs.Steps.{OperatorDoes}
use Rattle.world_steps.specs.World.{Operates, Provides}
use Rattle.answer_laws.specs.Answers.{OperatorsHaveOneStep}
use Rattle.answer_laws.specs.Nodes.{SiteDiffers}
use Rattle.answer_laws.proofs.Branching.{AtMostOne, Branch, one_branch, one_is}
use Rattle.answer_laws.proofs.OperatorPackets.{one_packet}
use Rattle.answer_laws.proofs.OperatorPlaces.{one_provider}
use Rattle.answer_laws.proofs.OperatorReports.{one_report}
use Rattle.answer_laws.proofs.OperatorTicks.{one_moment}

one_quiet : (Line : List Act → Type 0) → AtMostOne Line → AtMostOne (Quietly Line)
one_quiet Line one v w h g = h.2 ∙ ap quiet (one h.0 g.0 h.1 g.1) ∙ sym g.2

-- ---- service

-- an EVSE comes back, or goes out of service
abbrev service_acts : List ℕ → Bool → List Act
service_acts evse true = changed (Drop (keys.Service evse)) ∷ []
service_acts evse false = changed (Put (row.Service evse)) ∷ []

module _ (s : State) (evse : List ℕ) (in_service : Bool) where
  abbrev ServiceIs : List Act → Type 0
  ServiceIs acts = Branch (IsEvse s.site.locations evse) (Branch (works s.rows.out_of_service evse ≡ in_service) (λ (x : List Act). x ≡ []) (λ x. x ≡ service_acts evse in_service)) (λ x. x ≡ []) acts

  other_than : (a b : Bool) → a ≡ b → b ≡ true → a ≡ false → ⊥
  other_than a b same on off = let bad : true ≡ false = sym on ∙ sym same ∙ off in cc

  service_is : (acts : List Act) → ServiceLine s evse in_service acts → ServiceIs acts
  service_is acts (service.Unknown none is) = inr (none, is)
  service_is acts (service.Unchanged known same is) = inl (known, inl (same, is))
  service_is acts (service.Withdrawn known out stood is) =
      inl (known, inr (λ same. other_than in_service (works s.rows.out_of_service evse) (sym same) stood out, is ∙ ap (service_acts evse) (sym out)))
  service_is acts (service.Restored known back out is) =
      inl (known, inr (λ same. other_than (works s.rows.out_of_service evse) in_service same back out, is ∙ ap (service_acts evse) (sym back)))

  pub one_service : AtMostOne (ServiceLine s evse in_service)
  one_service xs ys h g = one_branch (one_branch (one_is []) (one_is (service_acts evse in_service))) (one_is []) xs ys (service_is xs h) (service_is ys g)

-- ---- bills that are taken back

module _ (s : State) (apart : SiteDiffers s) (at : ℕ) (session : List ℕ) where
  abbrev Bills : Type 0
  Bills = (bill : Cdr) × (to : List ℕ) × CreditsTo s session bill to

  abbrev credit_acts : Cdr → List ℕ → List Act
  credit_acts bill to = pushed at (s.rows.request + 1) to (push.PostCdr (next_credit at bill)) ∷ (changed (Put (row.Cdr (next_credit at bill))) ∷ [])

  abbrev Credited : List Act → Type 0
  Credited acts = (f : Bills) × (acts ≡ credit_acts f.0 f.1)

  credit_is : (acts : List Act) → CreditLine s at session acts → Branch Bills Credited (λ x. x ≡ []) acts
  credit_is acts (credits.Credited bill to h later is) = inl ((bill, to, h), ((bill, to, h), is))
  credit_is acts (credits.NothingToCredit none is) = inr (λ f. none f.0 f.1 f.2, is)

  one_credited : AtMostOne Credited
  one_credited xs ys h g =
      let a = h.0 in
      let b = g.0 in
      let bill : a.0 ≡ b.0 = b.2.bill.billed.sole a.0 a.2.bill.billed.billed a.2.bill.billed.is_bill in
      let mine : CreditsTo s session b.0 a.1 = subst (λ (x : Cdr). CreditsTo s session x a.1) bill a.2 in
      let to : a.1 ≡ b.1 = one_provider s apart b.0.cdr_token.party a.1 b.1 mine.of_provider b.2.of_provider in
      h.1 ∙ (λ i. credit_acts (bill i) (to i)) ∙ sym g.1

  pub one_credit : AtMostOne (CreditLine s at session)
  one_credit xs ys h g = one_branch one_credited (one_is []) xs ys (credit_is xs h) (credit_is ys g)

  -- a bill that was updated at the last moment is not taken back
  pub no_credit_after : HasNoCreditStamp s session → (acts : List Act) → CreditLine s at session acts → ⊥
  no_credit_after h acts (credits.Credited bill to g later is) =
      let same : bill ≡ h.bill = h.credits.bill.billed.sole bill g.bill.billed.billed g.bill.billed.is_bill in
      let last = h.last in
      let before : h.bill.last_updated < last_moment = subst (λ (z : Cdr). z.last_updated < last_moment) same later in
      omega (arith, last, before)
  no_credit_after h acts (credits.NothingToCredit none is) = none h.bill h.to h.credits

-- ---- any input

module _ (s : State) (fine : IsConsistent s) (apart : SiteDiffers s) where
  pub one_asked : (i : Input) → AtMostOne (Asks s i)
  one_asked (Arrives at q) v w h g = one_packet s fine apart at q v w h g
  one_asked (Serves evse in_service) v w h g = one_quiet (ServiceLine s evse in_service) (one_service s evse in_service) v w h g
  one_asked (Reports at report) v w h g = one_report s fine apart at report v w h g
  one_asked (Credits at session) v w h g = one_quiet (CreditLine s at session) (one_credit s apart at session) v w h g
  one_asked (Ticks at) v w h g = one_moment s fine apart at v w h g
  one_asked Restarts v w h g = absurd h
  one_asked (Reopens line) v w h g = absurd h

  one_event : (x y : Event) (t u : State) → x.input ≡ y.input → event_out x t ≡ event_out y u → (x ≡ y) × (t ≡ u)
  one_event x y t u same out = (λ i. record { input = same i; changes = (out i).changes; packets = (out i).packets }, λ i. (out i).state)

  no_work : (x y : Event) (work : Work) → x.input ≡ y.input → Asks s x.input work → y.input ≡ Restarts → ⊥
  no_work x y work same asks is = subst (λ (i : Input). Asks s i work) (same ∙ is) asks

  pub one_done : (x y : Event) (t u : State) → x.input ≡ y.input → OperatorDoes s x t → OperatorDoes s y u → (x ≡ y) × (t ≡ u)
  one_done x y t u same h g = one_event x y t u same (by h g)
    where
      by : OperatorDoes s x t → OperatorDoes s y u → event_out x t ≡ event_out y u
      by (steps.Done a) (steps.Done b) =
          let there : Asks s y.input a.work = subst (λ (i : Input). Asks s i a.work) same a.line in
          a.out_is ∙ ap (acted s) (one_asked y.input a.work b.work there b.line) ∙ sym b.out_is
      by (steps.Done a) (steps.Restarted is out) = absurd (no_work x y a.work same a.line is)
      by (steps.Restarted is out) (steps.Done b) = absurd (no_work y x b.work (sym same) b.line is)
      by (steps.Restarted is out) (steps.Restarted also left) = out ∙ sym left

pub operators_have_one_step : OperatorsHaveOneStep
operators_have_one_step s (Operates t) (Operates u) x y sound apart same h g =
    let one = one_done s sound apart x y t u same h g in
    (one.0, ap Operates one.1)
operators_have_one_step s (Provides t) n x y sound apart same h g = absurd h
operators_have_one_step s (Operates t) (Provides u) x y sound apart same h g = absurd g
