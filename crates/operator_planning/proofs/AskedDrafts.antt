-- The step in which the provider of a token is asked.
use Rattle.std.proofs.Common.{◌≡◌, ◌+◌, ℕ, List, [], ◌∷◌, refl, ap, ◌∙◌}
use Rattle.std.specs.Prelude.{Result, Ok, Err, IfErr}
use Rattle.std.specs.Result.{IsErrAnd}
use Rattle.ocpi_types.specs.declared.packet.Body.{Body}
use Rattle.ocpi_types.specs.declared.packet.Body.TheVariants as body
use Rattle.ocpi_types.specs.declared.rows.Place.{Place}
use Rattle.ocpi_types.specs.declared.token.Token.{Token}
use Rattle.authorization_book.specs.declared.waiting.Waiting.{Waiting}
use Rattle.authorization_book.specs.declared.waiting.Waiting.TheVariants.{Begins}
use Rattle.node_steps.specs.Acts.{Act, asked}
use Rattle.node_steps.specs.Drafts.{Gathered, IsInRange, StopsBy, later, opened, with_acts}
use Rattle.node_steps.specs.Peers.{IsPeer}
use Rattle.node_steps.specs.declared.fault.NodeFault.{NodeFault}
use Rattle.node_steps.specs.declared.fault.NodeFault.TheVariants.{Memory}
use Rattle.node_steps.proofs.Gathering.{step_is}
use Rattle.operator_rows.specs.State.{State}
use Rattle.operator_rows.specs.Steps.{FullStep}
use Rattle.operator_steps.specs.Asking.{IsAsked, answer_deadline, question}
use Rattle.operator_steps.specs.Moves.{PlannedBy, Work, counters_of, step_of_work}
use Rattle.operator_planning.specs.Planned.{StopsActs, StopsWork}
use Rattle.operator_planning.proofs.CountedDrafts.{counted_in_range, counted_refused, counted_starved}

work_stops : {T : Type 0} → (Line : Work → Type 0) (s : State) (work : Work) → Line work → (r : Result T NodeFault) → IfErr r (StopsActs s work.acts) → IfErr r (StopsWork Line s)
work_stops Line s work line (Ok x) h = tt
work_stops Line s work line (Err f) h = record { work = work; line = line; stops = h }

module _ (s : State) (at : ℕ) (t : Token) (location_id : List ℕ) (place : Place) (to : List ℕ) (found : IsPeer s.providers t.party to) where
  abbrev Asks : Body
  Asks = body.Authorize (question t location_id place)

  abbrev Acts : ℕ → List Act
  Acts last = asked (last + 1) to Asks ∷ []

  abbrev Waits : ℕ → ℕ → List Waiting
  Waits n deadline = Begins n (record { token = t; place = place; deadline = deadline }) ∷ []

  abbrev its_work : Work
  its_work = record { acts = Acts s.rows.request; waits = Waits (s.rows.request + 1) (answer_deadline at) }

  line : IsAsked s at t location_id place its_work
  line = record { to = to; of_provider = found; work_is = refl }

  pub ask_refused : {T : Type 0} → (r : Result T NodeFault) (f : NodeFault) → IsErrAnd r (λ e. e ≡ f) → StopsBy (later (counters_of s) 1 1) f → IfErr r (StopsWork (IsAsked s at t location_id place) s)
  ask_refused r f is h = work_stops (IsAsked s at t location_id place) s its_work line r (counted_refused s Acts 1 1 refl refl tt r f is h)

  pub ask_starved : {T : Type 0} → (r : Result T NodeFault) → IsErrAnd r (λ e. e ≡ Memory) → IsInRange (later (counters_of s) 1 1) → IfErr r (StopsWork (IsAsked s at t location_id place) s)
  ask_starved r is h = work_stops (IsAsked s at t location_id place) s its_work line r (counted_starved s Acts 1 1 refl refl tt r is h)

  pub ask_planned : (d e : Gathered) (n deadline : ℕ) (x : FullStep) → d ≡ opened s.party (counters_of s) 1 1 → IsInRange (later (counters_of s) 1 1) → n ≡ d.counters.request + 1 →
      e ≡ with_acts (asked n to Asks ∷ []) d → deadline ≡ answer_deadline at → x.step ≡ e.step → x.waits ≡ Waits n deadline → PlannedBy (IsAsked s at t location_id place) s x
  ask_planned d e n deadline x start range number gathered by step waits =
      let last : d.counters.request ≡ s.rows.request = ap (λ (g : Gathered). g.counters.request) start in
      let is : e ≡ with_acts (Acts d.counters.request) d = gathered ∙ ap (λ k. with_acts (asked k to Asks ∷ []) d) number in
      let same : n ≡ s.rows.request + 1 = number ∙ ap (λ k. k + 1) last in
      let steps : x.step ≡ (step_of_work s its_work).step = step ∙ step_is s.party (counters_of s) Acts 1 1 refl refl d e start is in
      let awaits : x.waits ≡ its_work.waits = waits ∙ (λ i. Waits (same i) (by i)) in
      record { work = its_work; line = line; in_range = counted_in_range s Acts 1 1 refl refl tt range; step_is = λ i. record { step = steps i; waits = awaits i } }
