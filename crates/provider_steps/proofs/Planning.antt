-- What the acts of a step must be, for it to be carried out.
use Rattle.std.proofs.Common.{◌≡◌, ◌≢◌, ℕ, List, [], ◌++◌, inl, inr, refl, sym, ap, subst, ◌∙◌}
use Rattle.std.specs.Prelude.{Some, Contains}
use Rattle.std.proofs.lemmas.List.Elements.{Contains-append_cases, Contains-append_right}
use Rattle.tables.proofs.Options.{none_some}
use Rattle.ocpi_types.specs.declared.rows.Change.{Change}
use Rattle.outbox.specs.Outbox.{request_of}
use Rattle.node_steps.specs.Acts.{Act, all_changes, all_volatile}
use Rattle.node_steps.specs.Drafts.{Step, count_changes, counted}
use Rattle.provider_rows.specs.State.{State}
use Rattle.provider_rows.specs.Sound.{IsConsistent}
use Rattle.provider_rows.specs.Stored.{change_key}
use Rattle.provider_rows.specs.Steps.{MayFollow, after, number_of}
use Rattle.provider_steps.specs.Moves.{AreInRange, PlannedBy, StepBy, carried, counters_of, step_of_acts}
use Rattle.provider_steps.proofs.Orderly.{AreOrderly, of_counters, orderly_apart, orderly_none}
use Rattle.provider_steps.proofs.Fitting.{AreFit, fit_step, numbered_for}
use Rattle.provider_steps.proofs.Counts.{counters_after}
use Rattle.provider_steps.proofs.Sending.{ActsAreSent, may_send, sent_none, sent_with}

-- the acts change different rows and no counter of packets or of requests; the rows allow them, one after the other,
-- once these counters are stored; and what they send waits then
pub record ArePlanned (s : State) (acts : List Act) : Type 0 where
  pub orderly : AreOrderly acts
  pub fit : AreFit (numbered_for acts s) acts
  pub sent : ActsAreSent s acts

pub planned_none : (s : State) → ArePlanned s []
planned_none s = record { orderly = orderly_none; fit = tt; sent = sent_none s [] }

pub may_follow : (s : State) (acts : List Act) → IsConsistent s → ArePlanned s acts → MayFollow s (step_of_acts s acts)
may_follow s acts h plan =
    let counts = count_changes (counters_of s) (counted (counters_of s) acts) in
    let apart = orderly_apart s.party (counters_of s) acts plan.orderly in
    let uncounted : (c : Change) → Contains counts c → (n : ℕ) → request_of (change_key c) ≢ Some n = λ c i n same.
    let of = of_counters (counters_of s) (counted (counters_of s) acts) c i in
    none_some n (sym (ap request_of of.1) ∙ same)
    in
    record {
      apart = apart;
      may = fit_step acts s h.sound plan.fit;
      sends = may_send s (step_of_acts s acts).changes (all_volatile acts) apart (record {
        each = λ v i. sent_with s (all_changes acts) (counts ++ all_changes acts) v
            (λ c j. elim (Contains-append_cases counts (all_changes acts) c j) [ inl a ↦ inr (uncounted c a (number_of v)) | inr b ↦ inl b ])
            (λ c j. Contains-append_right counts (all_changes acts) c j) (plan.sent.each v i);
        once = plan.sent.once;
      });
    }

-- and then the counters are those that the acts come to
pub counters_follow : (s : State) (acts : List Act) → ArePlanned s acts → counters_of (after (step_of_acts s acts) s) ≡ counted (counters_of s) acts
counters_follow s acts plan = counters_after acts s plan.orderly

-- a plan that a line asks for is a step that it asks for, once it is carried out
pub planned_step : (Line : List Act → Type 0) (s : State) (x : Step) → PlannedBy Line s x → StepBy Line s (carried s x)
planned_step Line s x h = record { acts = h.acts; line = h.line; in_range = h.in_range; out_is = subst (λ z. carried s x ≡ carried s z) h.step_is refl }

-- and it may be carried out, where its acts may
pub planned_may : (Line : List Act → Type 0) (s : State) (x : Step) → ((acts : List Act) → Line acts → AreInRange s acts → MayFollow s (step_of_acts s acts)) → PlannedBy Line s x → MayFollow s x
planned_may Line s x may h = subst (MayFollow s) (sym h.step_is) (may h.acts h.line h.in_range)
