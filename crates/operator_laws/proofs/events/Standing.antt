-- What holds of an operator at all times is kept by each event.
use Rattle.std.proofs.Common.{◌≡◌, ◌⊎◌, ℕ, List, inl, inr, sym, ap, subst, ◌∙◌}
use Rattle.std.specs.Prelude.{Some}
use Rattle.std.specs.FinMap.{get, get-empty}
use Rattle.tables.specs.Keys.{text_number_cmp}
use Rattle.tables.proofs.Options.{not_both}
use Rattle.ocpi_types.specs.declared.packet.Packet.{Packet}
use Rattle.ocpi_types.specs.declared.rows.Row.TheVariants as row
use Rattle.ocpi_types.specs.declared.rows.Change.TheVariants.{Put}
use Rattle.ocpi_types.specs.declared.site.SiteLine.{SiteLine}
use Rattle.ocpi_types.specs.declared.stored.OpenCommand.{OpenCommand}
use Rattle.node_steps.specs.Acts.{Act}
use Rattle.operator_rows.specs.State.{State, opening}
use Rattle.operator_rows.specs.Sound.{IsConsistent}
use Rattle.operator_rows.proofs.KeepingTimes.{follow_full_consistent, opening_consistent, reopened_consistent, restarted_consistent}
use Rattle.operator_steps.specs.Events.{Arrives, Event, Happens, Done, Restarted, Reopened, Refused, Input}
use Rattle.operator_steps.specs.Moves.{Out, step_of_work}
use Rattle.operator_laws.specs.Laws.{HoldsAlways, IsOfParty}
use Rattle.operator_laws.specs.References.{AreSpent, Carries, HaveOneCarrier, Uses}
use Rattle.operator_laws.proofs.events.Causes.{DecidesIt, Opening}
use Rattle.operator_laws.proofs.events.Doing.{Does, asked_may, does, put_stands, stood_or_put}
use Rattle.operator_laws.proofs.events.Keeping.{orderly_of, spent_stays}

pub consistent_stays : (s t : State) (e : Event) → Happens s e t → IsConsistent s → IsConsistent t
consistent_stays s t e (Done by) fine =
    subst (λ (o : Out). IsConsistent o.state) (sym by.out_is) (follow_full_consistent s (step_of_work s by.work) (asked_may s e.input by.work fine by.line by.in_range) fine)
consistent_stays s t e (Restarted now is) fine = subst (λ (o : Out). IsConsistent o.state) (sym is) (restarted_consistent s fine)
consistent_stays s t e (Reopened line now may is) fine = subst (λ (o : Out). IsConsistent o.state) (sym is) (reopened_consistent line s may.sound fine)
consistent_stays s t e (Refused same_setup is) fine = subst (λ (o : Out). IsConsistent o.state) (sym is) fine

-- two decisions of one event are on one packet
pub one_packet : (s : State) (i : Input) (acts : List Act) (g h : DecidesIt s i acts) → g.packet ≡ h.packet
one_packet s i acts g h = let both : Arrives g.at g.packet ≡ Arrives h.at h.packet = sym g.arrives ∙ h.arrives in cc

module _ (s t : State) (e : Event) (d : Does s e t) (p : List ℕ) (n : ℕ) (reference : List ℕ) where
  -- the event opens a start with that reference
  abbrev OpensWith : Type 0
  OpensWith = (o : OpenCommand) × Opening s e.input d.acts p n o × Uses o reference

  pub carried_by : Carries t.rows p n reference → OpensWith ⊎ Carries s.rows p n reference
  carried_by (o, has, uses) = elim (stood_or_put s t e d (row.Pending p n o) tt has) [
    | inl put ↦ inl (o, d.caused (Put (row.Pending p n o)) put, uses)
    | inr old ↦ inr (o, old, uses)
  ]

  -- which is spent then
  opened_spent : OpensWith → get t.rows.spent (p, reference) ≡ Some tt
  opened_spent (o, h, uses) = put_stands s t e d (row.Spent p reference) tt (orderly_of s e.input d.acts h.decides) (h.spends reference uses)

module _ (s t : State) (e : Event) (d : Does s e t) (spent : AreSpent s.rows) where
  pub carried_stay_spent : AreSpent t.rows
  carried_stay_spent p n reference h = elim (carried_by s t e d p n reference h) [
    | inl new ↦ opened_spent s t e d p n reference new
    | inr old ↦ spent_stays s t e d p reference (spent p n reference old)
  ]

  pub one_carrier_stays : HaveOneCarrier s.rows → HaveOneCarrier t.rows
  one_carrier_stays one p m n reference g h = elim (carried_by s t e d p m reference g) [
    | inl (x, first, x_uses) ↦ elim (carried_by s t e d p n reference h) [
      | inl (y, second, y_uses) ↦ sym first.number ∙ ap (λ (q : Packet). q.request) (one_packet s e.input d.acts first.decides second.decides) ∙ second.number
      | inr old ↦ absurd (first.unspent reference x_uses (spent p n reference old))
    ]
    | inr before ↦ elim (carried_by s t e d p n reference h) [
      | inl (y, second, y_uses) ↦ absurd (second.unspent reference y_uses (spent p m reference before))
      | inr old ↦ one p m n reference before old
    ]
  ]

-- the references of open starts, at any time
pub record AreCarried (t : State) : Type 0 where
  pub one_carrier : HaveOneCarrier t.rows
  pub carried_spent : AreSpent t.rows

pub carried_stay : (s t : State) (e : Event) → Happens s e t → AreCarried s → AreCarried t
carried_stay s t e happens h =
    let d = does s t e happens in
    record { one_carrier = one_carrier_stays s t e d h.carried_spent h.one_carrier; carried_spent = carried_stay_spent s t e d h.carried_spent }

pub carried_first : (line : SiteLine) → AreCarried (opening line)
carried_first line = record {
  one_carrier = λ p m n reference g h. absurd (none p m reference g);
  carried_spent = λ p n reference g. absurd (none p n reference g);
}
  where
    none : (p : List ℕ) (n : ℕ) (reference : List ℕ) → Carries (opening line).rows p n reference → ⊥
    none p n reference (o, has, uses) = not_both o _ (get-empty text_number_cmp (p, n)) has

pub holds_stays : (s t : State) (e : Event) → Happens s e t → HoldsAlways s → HoldsAlways t
holds_stays s t e happens h =
    let carried = carried_stay s t e happens (record { one_carrier = h.one_carrier; carried_spent = h.carried_spent }) in
    record { consistent = consistent_stays s t e happens h.consistent; one_carrier = carried.one_carrier; carried_spent = carried.carried_spent }

pub holds_first : (line : SiteLine) → IsOfParty line → HoldsAlways (opening line)
holds_first line own =
    let carried = carried_first line in
    record { consistent = opening_consistent line own; one_carrier = carried.one_carrier; carried_spent = carried.carried_spent }
