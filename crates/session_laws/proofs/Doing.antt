-- What an event does: the acts that it comes to, and what its changes make of the rows.
use Rattle.std.proofs.Common.{◌≡◌, ◌⊎◌, List, [], refl, inl, inr, sym, ap, subst, ◌∙◌}
use Rattle.std.specs.Prelude.{None, Contains}
use Rattle.std.specs.FinMap.{get}
use Rattle.std.proofs.lemmas.List.Elements.{Contains-append_cases, Contains-append_right}
use Rattle.tables.proofs.Elements.{in_none}
use Rattle.ocpi_text.specs.Text.{key}
use Rattle.ocpi_types.specs.declared.cdrs.Cdr.{Cdr}
use Rattle.ocpi_types.specs.declared.rows.Row.TheVariants as row
use Rattle.ocpi_types.specs.declared.rows.RowKey.TheVariants as keys
use Rattle.ocpi_types.specs.declared.rows.Change.{Change}
use Rattle.ocpi_types.specs.declared.rows.Change.TheVariants.{Put}
use Rattle.ocpi_types.specs.declared.rows.Counter.{Counter}
use Rattle.ocpi_types.specs.declared.sessions.Session.{Session}
use Rattle.node_steps.specs.Acts.{Act, all_changes, all_messages}
use Rattle.node_steps.specs.Messages.{numbered}
use Rattle.node_steps.specs.Drafts.{count_changes, counted}
use Rattle.operator_rows.specs.State.{State}
use Rattle.operator_rows.specs.Stored.{AreApart, change_key}
use Rattle.operator_rows.specs.Rows.{AreChanges}
use Rattle.operator_rows.specs.Sound.{IsConsistent, MayChangeAll}
use Rattle.operator_rows.specs.Steps.{IsNext, MayFollowFull, after_full, reopened, restarted}
use Rattle.operator_rows.proofs.KeepingTimes.{follow_full_consistent, reopened_consistent, restarted_consistent}
use Rattle.operator_rows.proofs.RowChanges.{row_changes}
use Rattle.operator_steps.specs.Events.{Event, Happens, Done, Restarted, Reopened, Refused, Input, Arrives, Serves, Reports, Credits, Ticks, Restarts, Reopens, Asks, event_out}
use Rattle.operator_laws.proofs.events.Doing.{IsUnder, Same, Other}
use Rattle.operator_steps.specs.Moves.{AreInRange, Out, StepBy, Work, counters_of, idle, step_of_acts, step_of_work}
use Rattle.operator_steps.proofs.PacketSteps.{packets}
use Rattle.operator_steps.proofs.ServiceSteps.{services}
use Rattle.operator_steps.proofs.ReportSteps.{reports}
use Rattle.operator_steps.proofs.CreditSteps.{credits}
use Rattle.operator_steps.proofs.Orderly.{IsOfStep, of_counters}
use Rattle.operator_steps.proofs.TickSteps.{ticks}

-- the change is of a counter that a step stores by itself
abbrev pub IsCount : Change → Type 0
IsCount c = (counter : Counter) × IsOfStep counter × (change_key c ≡ keys.Count counter)

-- what an event that is carried out, or that does nothing, asked for
pub data IsAsked (s : State) (i : Input) (acts : List Act) : Type 0 where
  Nothing : acts ≡ [] → IsAsked s i acts
  Asked : (work : Work) → Asks s i work → AreInRange s work.acts → acts ≡ work.acts → IsAsked s i acts

-- what an event does, where what holds at all times holds
pub record Does (s : State) (e : Event) (t : State) : Type 0 where
  pub acts : List Act
  pub asked : IsAsked s e.input acts
  -- the counters are stored, and what the acts change
  pub of_acts : (c : Change) → Contains e.changes c → IsCount c ⊎ Contains (all_changes acts) c
  pub to_acts : (c : Change) → Contains (all_changes acts) c → Contains e.changes c
  pub packets : e.packets ≡ numbered s.party s.rows.serial (all_messages acts)
  pub apart : AreApart e.changes
  pub rows : AreChanges s.rows e.changes t.rows
  pub may : MayChangeAll s e.changes
  pub sessions : (v : Session) → Contains e.changes (Put (row.Session v)) → IsNext s v
  pub cdrs : (x : Cdr) → Contains e.changes (Put (row.Cdr x)) → get s.rows.charged.cdrs (key x.id) ≡ None
  pub consistent : IsConsistent t
  pub under : IsUnder s e.input t
  pub party : t.party ≡ s.party

asked_may : (s : State) (i : Input) (work : Work) → IsConsistent s → Asks s i work → AreInRange s work.acts → MayFollowFull s (step_of_work s work)
asked_may s (Arrives at q) work fine line range = packets at q s work fine line range
asked_may s (Serves evse in_service) work fine line range = services evse in_service s work fine line range
asked_may s (Reports at report) work fine line range = reports at report s work fine line range
asked_may s (Credits at session) work fine line range = credits at session s work fine line range
asked_may s (Ticks at) work fine line range = ticks at s work fine line range
asked_may s Restarts work fine line range = absurd line
asked_may s (Reopens other) work fine line range = absurd line

does_step : (s : State) (e : Event) (t : State) → IsConsistent s → StepBy (Asks s e.input) s (event_out e t) → Does s e t
does_step s e t fine by =
    let acts = by.work.acts in
    let x = step_of_acts s acts in
    let counts = count_changes (counters_of s) (counted (counters_of s) acts) in
    let is : e.changes ≡ x.changes = ap (λ (o : Out). o.changes) by.out_is in
    let now : t ≡ after_full (step_of_work s by.work) s = ap (λ (o : Out). o.state) by.out_is in
    let may = asked_may s e.input by.work fine by.line by.in_range in
    record {
      acts = acts;
      asked = Asked by.work by.line by.in_range refl;
      of_acts = λ c i. elim (Contains-append_cases counts (all_changes acts) c (subst (λ l. Contains l c) is i)) [
        | inl j ↦ inl (of_counters (counters_of s) (counted (counters_of s) acts) c j)
        | inr j ↦ inr j
      ];
      to_acts = λ c i. subst (λ l. Contains l c) (sym is) (Contains-append_right counts (all_changes acts) c i);
      packets = ap (λ (o : Out). o.packets) by.out_is;
      apart = subst AreApart (sym is) may.step.apart;
      rows = subst (λ l. AreChanges s.rows l t.rows) (sym is) (subst (λ (z : State). AreChanges s.rows x.changes z.rows) (sym now) (row_changes x.changes s fine.sound may.step.apart may.step.may));
      may = subst (MayChangeAll s) (sym is) may.step.may;
      sessions = λ v i. may.step.sessions v (subst (λ l. Contains l (Put (row.Session v))) is i);
      cdrs = λ y i. may.step.cdrs y (subst (λ l. Contains l (Put (row.Cdr y))) is i);
      consistent = subst IsConsistent (sym now) (follow_full_consistent s (step_of_work s by.work) may fine);
      under = Same (ap (λ (z : State). z.site) now) (ap (λ (z : State). z.providers) now);
      party = ap (λ (z : State). z.party) now;
    }

does_nothing : (s : State) (e : Event) (t u : State) → IsConsistent s → IsConsistent u → u.rows ≡ s.rows → u.party ≡ s.party → event_out e t ≡ idle u → IsUnder s e.input t → Does s e t
does_nothing s e t u fine still same party out under =
    let is : e.changes ≡ [] = ap (λ (o : Out). o.changes) out in
    let now : t ≡ u = ap (λ (o : Out). o.state) out in
    let rows : t.rows ≡ s.rows = ap (λ (z : State). z.rows) now ∙ same in
    record {
      acts = [];
      asked = Nothing refl;
      of_acts = λ c i. absurd (in_none c (subst (λ l. Contains l c) is i));
      to_acts = λ c i. absurd (in_none c i);
      packets = ap (λ (o : Out). o.packets) out;
      apart = subst AreApart (sym is) tt;
      rows = subst (λ l. AreChanges s.rows l t.rows) (sym is) (subst (AreChanges s.rows []) (sym rows) (row_changes [] s fine.sound tt tt));
      may = subst (MayChangeAll s) (sym is) tt;
      sessions = λ v i. absurd (in_none (Put (row.Session v)) (subst (λ l. Contains l (Put (row.Session v))) is i));
      cdrs = λ x i. absurd (in_none (Put (row.Cdr x)) (subst (λ l. Contains l (Put (row.Cdr x))) is i));
      consistent = subst IsConsistent (sym now) still;
      under = under;
      party = ap (λ (z : State). z.party) now ∙ party;
    }

pub does : (s t : State) (e : Event) → IsConsistent s → Happens s e t → Does s e t
does s t e fine (Done by) = does_step s e t fine by
does s t e fine (Restarted now is) = does_nothing s e t (restarted s) fine (restarted_consistent s fine) refl refl is (Same (ap (λ (o : Out). o.state.site) is) (ap (λ (o : Out). o.state.providers) is))
does s t e fine (Reopened line now may is) =
    does_nothing s e t (reopened line s) fine (reopened_consistent line s may.sound fine) refl refl is (Other line now (ap (λ (o : Out). o.state.site) is) (ap (λ (o : Out). o.state.providers) is))
does s t e fine (Refused same_setup is) = does_nothing s e t s fine fine refl refl is (Same (ap (λ (o : Out). o.state.site) is) (ap (λ (o : Out). o.state.providers) is))
