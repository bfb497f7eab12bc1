-- What an event does: the acts that it comes to, the causes of what they change, and what its changes make of the rows.
use Rattle.std.proofs.Common.{◌≡◌, ◌≢◌, ◌⊎◌, ◌+◌, ◌≤◌, ℕ, List, [], length, refl, inl, inr, sym, ap, subst, ◌∙◌, arith}
use Rattle.std.specs.Prelude.{None, Contains}
use Rattle.std.specs.FinMap.{get}
use Rattle.std.proofs.lemmas.List.Elements.{Contains-append_cases, Contains-append_right}
use Rattle.tables.proofs.Elements.{in_none}
use Rattle.ocpi_text.specs.Text.{key}
use Rattle.ocpi_text.specs.Whole.{max_whole}
use Rattle.ocpi_types.specs.Rows.{key_of}
use Rattle.ocpi_types.specs.declared.cdrs.Cdr.{Cdr}
use Rattle.ocpi_types.specs.declared.rows.Row.{Row}
use Rattle.ocpi_types.specs.declared.rows.Row.TheVariants as row
use Rattle.ocpi_types.specs.declared.rows.RowKey.TheVariants as keys
use Rattle.ocpi_types.specs.declared.rows.Change.{Change}
use Rattle.ocpi_types.specs.declared.rows.Change.TheVariants.{Put, Drop}
use Rattle.ocpi_types.specs.declared.rows.Counter.{Counter}
use Rattle.ocpi_types.specs.declared.rows.Counter.TheVariants as counter
use Rattle.ocpi_types.specs.declared.sessions.Session.{Session}
use Rattle.ocpi_types.specs.declared.site.SiteLine.{SiteLine}
use Rattle.node_steps.specs.Acts.{Act, all_changes, all_messages, all_requests}
use Rattle.node_steps.specs.Drafts.{Counters, Step, count_changes, counted}
use Rattle.node_steps.specs.Messages.{Message, numbered}
use Rattle.operator_rows.specs.State.{Rows, State}
use Rattle.operator_rows.specs.Stored.{AreApart, changed_all, change_key}
use Rattle.operator_rows.specs.Rows.{AreChanges, HasRow}
use Rattle.operator_rows.specs.Sound.{IsConsistent, MayChangeAll}
use Rattle.operator_rows.specs.Steps.{IsNext, MayFollow, MayFollowFull, reopened, restarted}
use Rattle.operator_rows.proofs.RowChanges.{row_changes}
use Rattle.operator_steps.specs.Events.{Event, Happens, Done, Restarted, Reopened, Refused, Input, Arrives, Serves, Reports, Credits, Ticks, Restarts, Reopens, Asks, event_out}
use Rattle.operator_steps.specs.Moves.{AreInRange, Out, StepBy, Work, counters_of, idle, step_of_acts, step_of_work}
use Rattle.operator_steps.proofs.Counts.{counters_in, counters_stay}
use Rattle.operator_steps.proofs.Fitting.{numbered_for, rows_after}
use Rattle.operator_steps.proofs.Orderly.{AreOrderly, AreUncounted, IsOfStep, of_counters, orderly_apart}
use Rattle.operator_laws.proofs.events.Causes.{Cause}
use Rattle.operator_laws.proofs.events.Caused.{asked_caused}
use Rattle.operator_laws.proofs.events.Facts.{credits, packets, reports, services, ticks}
use Rattle.operator_laws.proofs.events.LineReasons.{asked_reason}
use Rattle.operator_laws.proofs.events.Reasons.{Reason, Saying}
use Rattle.operator_laws.proofs.events.Sayings.{asked_said}
use Rattle.operator_laws.proofs.events.RowFates.{IsOwn, changed_or_not, row_from, row_put, row_stays}

-- the change is of a counter that a step stores by itself
abbrev pub IsCount : Change → Type 0
IsCount c = (counter : Counter) × IsOfStep counter × (change_key c ≡ keys.Count counter)

-- what a step that may be carried out makes of the rows: what is put stands, and nothing replaces a charge detail
-- record
pub record Follows (s : State) (changes : List Change) (t : State) : Type 0 where
  pub apart : AreApart changes
  pub rows : AreChanges s.rows changes t.rows
  pub may : MayChangeAll s changes
  pub sessions : (v : Session) → Contains changes (Put (row.Session v)) → IsNext s v
  pub cdrs : (x : Cdr) → Contains changes (Put (row.Cdr x)) → get s.rows.charged.cdrs (key x.id) ≡ None

-- the setup is as it was, or that under which the operator starts again
pub data IsUnder (s : State) (i : Input) (t : State) : Type 0 where
  Same : t.site ≡ s.site → t.providers ≡ s.providers → IsUnder s i t
  Other : (line : SiteLine) → i ≡ Reopens line → t.site ≡ line.site → t.providers ≡ line.parties.providers → IsUnder s i t

pub record Does (s : State) (e : Event) (t : State) : Type 0 where
  pub acts : List Act
  pub caused : (c : Change) → Contains (all_changes acts) c → Cause s e.input acts c
  pub rows : t.rows ≡ changed_all e.changes s.rows
  -- where what holds at all times holds, each change has a reason, and so has each message
  pub reasons : IsConsistent s → (c : Change) → Contains (all_changes acts) c → Reason s e.input acts c
  pub sayings : IsConsistent s → (m : Message) → Contains (all_messages acts) m → Saying s e.input acts m
  -- the packets, and the counters of packets and of requests
  pub packets : e.packets ≡ numbered s.party s.rows.serial (all_messages acts)
  pub serial : t.rows.serial ≡ s.rows.serial + length (all_messages acts)
  pub request : t.rows.request ≡ s.rows.request + all_requests acts
  -- no counter passes its last number
  pub range : (c : Counter) (n : ℕ) → Contains (all_changes acts) (Put (row.Count c n)) → n ≤ max_whole
  -- the counters are stored, and what the acts change
  pub of_acts : (c : Change) → Contains e.changes c → IsCount c ⊎ Contains (all_changes acts) c
  pub to_acts : (c : Change) → Contains (all_changes acts) c → Contains e.changes c
  -- the changes are of different rows, where the acts are orderly
  pub apart : AreOrderly acts → AreApart e.changes
  -- and where what holds at all times holds, the step may be carried out
  pub follows : IsConsistent s → Follows s e.changes t
  pub party : t.party ≡ s.party
  pub under : IsUnder s e.input t

-- where what holds at all times holds, what an input asks for may be carried out
pub asked_may : (s : State) (i : Input) (work : Work) → IsConsistent s → Asks s i work → AreInRange s work.acts → MayFollowFull s (step_of_work s work)
asked_may s (Arrives at q) work fine line range = packets at q s work fine line range
asked_may s (Serves evse in_service) work fine line range = services evse in_service s work fine line range
asked_may s (Reports at report) work fine line range = reports at report s work fine line range
asked_may s (Credits at session) work fine line range = credits at session s work fine line range
asked_may s (Ticks at) work fine line range = ticks at s work fine line range
asked_may s Restarts work fine line range = absurd line
asked_may s (Reopens other) work fine line range = absurd line

-- a step that may be carried out, and the rows that it leaves
step_follows : (s t : State) (changes : List Change) (x : Step) → IsConsistent s → MayFollow s x → changes ≡ x.changes → t.rows ≡ changed_all x.changes s.rows → Follows s changes t
step_follows s t changes x fine may is rows = record {
  apart = subst AreApart (sym is) may.apart;
  rows = subst (λ l. AreChanges s.rows l t.rows) (sym is) (subst (AreChanges s.rows x.changes) (sym rows) (row_changes x.changes s fine.sound may.apart may.may));
  may = subst (MayChangeAll s) (sym is) may.may;
  sessions = λ v i. may.sessions v (subst (λ l. Contains l (Put (row.Session v))) is i);
  cdrs = λ y i. may.cdrs y (subst (λ l. Contains l (Put (row.Cdr y))) is i);
}

-- no act changes a counter that the step stores
uncounted : (s : State) (i : Input) (acts : List Act) → ((c : Change) → Contains (all_changes acts) c → Cause s i acts c) → AreUncounted (all_changes acts)
uncounted s i acts caused c j = by c (caused c j)
  where
    by : (c : Change) → Cause s i acts c → (k : Counter) → IsOfStep k → change_key c ≢ keys.Count k
    by (Put (row.Count counter.Session n)) cause k of same = let is : counter.Session ≡ k = cc in subst IsOfStep (sym is) of
    by (Put (row.Count counter.Cdr n)) cause k of same = let is : counter.Cdr ≡ k = cc in subst IsOfStep (sym is) of
    by (Put (row.Count counter.Serial n)) cause k of same = absurd cause
    by (Put (row.Count counter.Request n)) cause k of same = absurd cause
    by (Put (row.Count counter.Reference n)) cause k of same = absurd cause
    by (Put x) cause k of same = absurd (cc)
    by (Drop x) cause k of same = subst (λ z. Cause s i acts (Drop z)) same cause

does_step : (s : State) (e : Event) (t : State) (by : StepBy (Asks s e.input) s (event_out e t)) → Does s e t
does_step s e t by =
    let acts = by.work.acts in
    let counts = count_changes (counters_of s) (counted (counters_of s) acts) in
    let is : e.changes ≡ (step_of_acts s acts).changes = ap (λ (o : Out). o.changes) by.out_is in
    let rows : t.rows ≡ changed_all (step_of_acts s acts).changes s.rows = ap (λ (o : Out). o.state.rows) by.out_is in
    let counters : counters_in (changed_all (step_of_acts s acts).changes s.rows) ≡ counted (counters_of s) acts =
    ap counters_in (rows_after acts s) ∙ counters_stay (all_changes acts) (numbered_for acts s).rows (uncounted s e.input acts (asked_caused s e.input by.work by.line)) in
    record {
      acts = acts;
      caused = asked_caused s e.input by.work by.line;
      reasons = λ fine. asked_reason s e.input by.work fine by.line;
      sayings = λ fine. asked_said s e.input by.work fine by.line;
      range = by.in_range.numbers;
      packets = ap (λ (o : Out). o.packets) by.out_is;
      serial = ap (λ (o : Out). o.state.rows.serial) by.out_is ∙ ap (λ (c : Counters). c.serial) counters;
      request = ap (λ (o : Out). o.state.rows.request) by.out_is ∙ ap (λ (c : Counters). c.request) counters;
      rows = rows ∙ ap (λ l. changed_all l s.rows) (sym is);
      of_acts = λ c i. elim (Contains-append_cases counts (all_changes acts) c (subst (λ l. Contains l c) is i)) [
        | inl j ↦ inl (of_counters (counters_of s) (counted (counters_of s) acts) c j)
        | inr j ↦ inr j
      ];
      to_acts = λ c i. subst (λ l. Contains l c) (sym is) (Contains-append_right counts (all_changes acts) c i);
      apart = λ orderly. subst AreApart (sym is) (orderly_apart s.party (counters_of s) acts orderly);
      follows = λ fine. step_follows s t e.changes (step_of_acts s acts) fine (asked_may s e.input by.work fine by.line by.in_range).step is rows;
      party = ap (λ (o : Out). o.state.party) by.out_is;
      under = Same (ap (λ (o : Out). o.state.site) by.out_is) (ap (λ (o : Out). o.state.providers) by.out_is);
    }

does_nothing : (s : State) (e : Event) (t u : State) → u.rows ≡ s.rows → u.party ≡ s.party → event_out e t ≡ idle u → IsUnder s e.input t → Does s e t
does_nothing s e t u same party out under =
    let is : e.changes ≡ [] = ap (λ (o : Out). o.changes) out in
    let rows : t.rows ≡ s.rows = ap (λ (o : Out). o.state.rows) out ∙ same in
    record {
      acts = [];
      caused = λ c i. absurd (in_none c i);
      reasons = λ fine c i. absurd (in_none c i);
      sayings = λ fine m i. absurd (in_none m i);
      range = λ c n i. absurd (in_none (Put (row.Count c n)) i);
      packets = ap (λ (o : Out). o.packets) out;
      serial = let is = ap (λ (r : Rows). r.serial) rows in omega (arith, is);
      request = let is = ap (λ (r : Rows). r.request) rows in omega (arith, is);
      rows = rows ∙ ap (λ l. changed_all l s.rows) (sym is);
      of_acts = λ c i. absurd (in_none c (subst (λ l. Contains l c) is i));
      to_acts = λ c i. absurd (in_none c i);
      apart = λ orderly. subst AreApart (sym is) tt;
      follows = λ fine. subst (λ l. Follows s l t) (sym is) (record {
        apart = tt;
        rows = subst (AreChanges s.rows []) (sym rows) (row_changes [] s fine.sound tt tt);
        may = tt;
        sessions = λ v i. absurd (in_none (Put (row.Session v)) i);
        cdrs = λ x i. absurd (in_none (Put (row.Cdr x)) i);
      });
      party = ap (λ (o : Out). o.state.party) out ∙ party;
      under = under;
    }

pub does : (s t : State) (e : Event) → Happens s e t → Does s e t
does s t e (Done by) = does_step s e t by
does s t e (Restarted now is) = does_nothing s e t (restarted s) refl refl is (Same (ap (λ (o : Out). o.state.site) is) (ap (λ (o : Out). o.state.providers) is))
does s t e (Reopened line now may is) = does_nothing s e t (reopened line s) refl refl is (Other line now (ap (λ (o : Out). o.state.site) is) (ap (λ (o : Out). o.state.providers) is))
does s t e (Refused same_setup is) = does_nothing s e t s refl refl is (Same (ap (λ (o : Out). o.state.site) is) (ap (λ (o : Out). o.state.providers) is))

-- the key of a row of its own is no counter's
no_count : (r : Row) (c : Counter) → IsOwn r → key_of r ≢ keys.Count c
no_count (row.Count k n) c own = absurd own
no_count (row.Reply p n reply) c own = λ e. absurd (cc)
no_count (row.Token t) c own = absurd own
no_count (row.Push n to push) c own = λ e. absurd (cc)
no_count (row.Service evse) c own = λ e. absurd (cc)
no_count (row.Spent p reference) c own = λ e. absurd (cc)
no_count (row.Mark p id n) c own = λ e. absurd (cc)
no_count (row.Reservation p id r) c own = λ e. absurd (cc)
no_count (row.Pending p n o) c own = λ e. absurd (cc)
no_count (row.Result p n x) c own = λ e. absurd (cc)
no_count (row.Session x) c own = absurd own
no_count (row.Cdr x) c own = absurd own
no_count (row.Command n x) c own = absurd own

module _ (s t : State) (e : Event) (d : Does s e t) (r : Row) (own : IsOwn r) where
  -- a row that an event puts is put by one of its acts
  pub put_by : Contains e.changes (Put r) → Contains (all_changes d.acts) (Put r)
  put_by i = elim (d.of_acts (Put r) i) [ inl count ↦ absurd (no_count r count.0 own count.2) | inr j ↦ j ]

  -- what stands after an event was put by one of its acts, or stood before
  pub stood_or_put : HasRow t.rows r → Contains (all_changes d.acts) (Put r) ⊎ HasRow s.rows r
  stood_or_put h = elim (row_from e.changes s.rows r own (subst (λ z. HasRow z r) d.rows h)) [ inl i ↦ inl (put_by i) | inr old ↦ inr old ]

  other_than : ((c : Change) → Contains (all_changes d.acts) c → key_of r ≢ change_key c) → (c : Change) → Contains e.changes c → key_of r ≢ change_key c
  other_than apart c i = elim (d.of_acts c i) [ inl count ↦ (λ same. no_count r count.0 own (same ∙ count.2)) | inr j ↦ apart c j ]

  -- what no act is of stays
  pub stays : HasRow s.rows r → ((c : Change) → Contains (all_changes d.acts) c → key_of r ≢ change_key c) → HasRow t.rows r
  stays h apart = subst (λ z. HasRow z r) (sym d.rows) (row_stays e.changes s.rows r own h (other_than apart))

  -- what stood stands, or an act is of its row
  pub stays_or : HasRow s.rows r → HasRow t.rows r ⊎ ((c : Change) × Contains (all_changes d.acts) c × (key_of r ≡ change_key c))
  stays_or h = elim (changed_or_not (all_changes d.acts) r own) [ inl found ↦ inr found | inr apart ↦ inl (stays h apart) ]

  -- what orderly acts put stands
  pub put_stands : AreOrderly d.acts → Contains (all_changes d.acts) (Put r) → HasRow t.rows r
  put_stands orderly i = subst (λ z. HasRow z r) (sym d.rows) (row_put e.changes s.rows r own (d.apart orderly) (d.to_acts (Put r) i))

-- where what holds at all times holds, whatever the acts put stands
pub put_now : (s t : State) (e : Event) (d : Does s e t) → IsConsistent s → (r : Row) → Contains (all_changes d.acts) (Put r) → HasRow t.rows r
put_now s t e d fine r i = ((d.follows fine).rows r).1 (inl (d.to_acts (Put r) i))
