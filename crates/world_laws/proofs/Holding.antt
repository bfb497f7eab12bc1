-- The pasts of sessions in a traced world are those of the operators' own runs; and what is held of a session is a
-- version of its past.
use Rattle.std.proofs.Common.{◌≡◌, ℕ, List, [], ◌∷◌, ◌++◌, inl, inr, refl, sym, ap, subst, ◌∙◌}
use Rattle.std.specs.Prelude.{Some, None, Contains}
use Rattle.std.specs.FinMap.{get, get-empty}
use Rattle.std.specs.Str.{bytes_eq}
use Rattle.std.specs.List.{last_or}
use Rattle.std.proofs.lemmas.List.Elements.{filter-append}
use Rattle.tables.specs.Keys.{text_pair_cmp}
use Rattle.tables.proofs.Options.{not_both}
use Rattle.ocpi_text.specs.Text.{key}
use Rattle.ocpi_types.specs.Prices.{price_at}
use Rattle.ocpi_types.specs.declared.rows.Change.{Change}
use Rattle.ocpi_types.specs.declared.rows.Change.TheVariants.{Put, Drop}
use Rattle.ocpi_types.specs.declared.rows.Row.TheVariants as row
use Rattle.ocpi_types.specs.declared.sessions.Session.{Session}
use Rattle.ocpi_types.specs.declared.setup.Node.{Node}
use Rattle.ocpi_types.specs.declared.site.Site.{Site}
use Rattle.session_state.specs.Pasts.{IsFinal, IsOrderly}
use Rattle.handover.specs.Inbox.{session_key}
use Rattle.operator_rows.specs.State as operator
use Rattle.operator_steps.specs.Events as operator_events
use Rattle.operator_laws.proofs.standing.AtAllTimes.{always_consistent}
use Rattle.session_laws.specs.Pasts as pasts
use Rattle.world_laws.proofs.Steady.{pasts_are_orderly, setup_kept}
use Rattle.session_laws.proofs.Sending.{sent_versions_are_past}
use Rattle.provider_rows.specs.State as provider
use Rattle.provider_laws.specs.Held.{SessionCame}
use Rattle.provider_laws.proofs.held.Sessions.{held_sessions_came}
use Rattle.world_steps.specs.Steps.{NodeEvent, all_put, version_put}
use Rattle.world_steps.specs.Traces.{Histories, Traces}
use Rattle.world_steps.specs.World.{Place, World, past_of}
use Rattle.world_laws.specs.Laws.{IsSetup}
use Rattle.world_laws.specs.Nodes.{Holds, OperatorOf}
use Rattle.world_laws.specs.Safe.{GoesInOrder, IsOfPast}
use Rattle.world_laws.proofs.NodeRuns.{OperatorAt, OperatorTrace, ProviderAt, came_to_provider, line_of, operator_at, peering_of, provider_at, versions_in}
use Rattle.world_laws.proofs.PastOrder.{final_is_newest}

-- of the versions that changes put, those of one session
one_put : (id : List ℕ) (c : Change) → past_of id (version_put c) ≡ pasts.version_put id c
one_put id (Put (row.Session v)) = refl
one_put id (Put r) = refl
one_put id (Drop k) = refl

changes_put : (id : List ℕ) (cs : List Change) → past_of id (all_put cs) ≡ pasts.versions_put id cs
changes_put id [] = refl
changes_put id (c ∷ cs) =
    filter-append (λ (v : Session). bytes_eq (key v.id) id) (version_put c) (all_put cs) ∙ (λ i. one_put id c i ++ changes_put id cs i)

-- the past of a session among all versions that events put
pub past_in : (id : List ℕ) (es : List operator_events.Event) → past_of id (versions_in es) ≡ pasts.past id es
past_in id [] = refl
past_in id (e ∷ es) =
    filter-append (λ (v : Session). bytes_eq (key v.id) id) (all_put e.changes) (versions_in es) ∙ (λ i. changes_put id e.changes i ++ past_in id es i)

pub trace_past : (setup : List Node) (i : ℕ) (p : Place) (es : List NodeEvent) (t : OperatorTrace setup i p es) (id : List ℕ) → past_of id p.versions ≡ pasts.past id t.events
trace_past setup i p es t id = ap (past_of id) t.versions_is ∙ past_in id t.events

-- the operator's site is that of its setup
pub trace_site : (setup : List Node) (i : ℕ) (p : Place) (es : List NodeEvent) (t : OperatorTrace setup i p es) → t.state.site ≡ t.site
trace_site setup i p es t = (setup_kept t.events (operator.opening (line_of setup t.party t.site)) t.state t.run t.steady).0

module _ (setup : List Node) (is_setup : IsSetup setup) (w : World) (hs : Histories) (traces : Traces setup w hs) where
  -- the past of a session of an operator is that of its run
  pub past_is : (o : List ℕ) (p : Place) (s : operator.State) (at : OperatorAt setup is_setup w hs traces o p s) (id : List ℕ) →
      past_of id p.versions ≡ pasts.past id at.trace.events
  past_is o p s at id = trace_past setup at.number p (hs at.number) at.trace id

  pub site_is : (o : List ℕ) (p : Place) (s : operator.State) (at : OperatorAt setup is_setup w hs traces o p s) → s.site ≡ at.trace.site
  site_is o p s at = ap (λ (z : operator.State). z.site) (sym at.state_is) ∙ trace_site setup at.number p (hs at.number) at.trace

  -- no EVSE has two claims
  pub claims : (o : List ℕ) (p : Place) (s : operator.State) → OperatorOf w o p s → operator.OneClaimEach s.rows
  claims o p s of =
      let at = operator_at setup is_setup w hs traces o p s of in
      subst (λ (z : operator.State). operator.OneClaimEach z.rows) at.state_is
      (always_consistent (line_of setup at.trace.party at.trace.site) at.trace.events at.trace.state at.trace.by_form at.trace.run).consistent.sound.one_claim

  -- each session goes on in order
  pub orderly : (o : List ℕ) (p : Place) (s : operator.State) → OperatorOf w o p s → (id : List ℕ) → GoesInOrder p s id
  orderly o p s of id =
      let at = operator_at setup is_setup w hs traces o p s of in
      let law = pasts_are_orderly (line_of setup at.trace.party at.trace.site) at.trace.events at.trace.state at.trace.by_form at.trace.run at.trace.steady id in
      let same = past_is o p s at id in
      record {
        orderly = subst (λ l. IsOrderly (price_at s.site) l) (sym same)
            (subst (λ (z : Site). IsOrderly (price_at z) (pasts.past id at.trace.events)) (sym (site_is o p s at)) law.0);
        newest = ap (λ (z : operator.State). get z.rows.charged.sessions id) (sym at.state_is) ∙ law.1 ∙ ap (last_or None) (sym same);
      }

  of_past : (o id : List ℕ) (v : Session) (p : Place) (s : operator.State) → OperatorOf w o p s → Contains (past_of id p.versions) v → IsOfPast w o id v
  of_past o id v p s of i = record {
    versions = past_of id p.versions;
    is_past = record { place = p; state = s; at = of; past_is = refl };
    member = i;
    last = λ final. final_is_newest (price_at s.site) (past_of id p.versions) v (orderly o p s of id).orderly i (subst IsFinal (sym final) tt);
  }

  -- a version that came to a provider is of its session's past
  came_is_past : (p : List ℕ) (place : Place) (s : provider.State) (at : ProviderAt setup is_setup w hs traces p place s) (o id : List ℕ) (v : Session) →
      ◌≡◌ {A = List ℕ × List ℕ} (o, id) (session_key v) → SessionCame at.trace.party at.trace.events v → IsOfPast w o id v
  came_is_past p place s at o id v is (q, came, body_is, parties) =
      let (to, f) = came_to_provider setup is_setup w hs traces p place s at q came in
      let law = sent_versions_are_past (line_of setup f.at.trace.party f.at.trace.site) f.at.trace.events f.at.trace.state f.at.trace.by_form f.at.trace.run in
      let member = subst (λ l. Contains l v) (sym (past_is (key q.from) f.place f.state f.at (key v.id))) (law.versions q v f.within body_is) in
      let o_is : key q.from ≡ o = sym (ap (λ (k : List ℕ × List ℕ). k.0) is ∙ parties.1) in
      let id_is : key v.id ≡ id = sym (ap (λ (k : List ℕ × List ℕ). k.1) is) in
      subst (λ z. IsOfPast w z id v) o_is
      (subst (λ z. IsOfPast w (key q.from) z v) id_is (of_past (key q.from) (key v.id) v f.place f.state f.of member))

  -- each version that a provider holds is one that the operator had, and nothing follows one that is COMPLETED
  pub held : (p o id : List ℕ) (v : Session) → Holds w p o id v → IsOfPast w o id v
  held p o id v h = by (provider_at setup is_setup w hs traces p h.place h.state h.at)
    where
      by : ProviderAt setup is_setup w hs traces p h.place h.state → IsOfPast w o id v
      by at =
          let has : get at.trace.state.rows.inbox.sessions (o, id) ≡ Some v = ap (λ (z : provider.State). get z.rows.inbox.sessions (o, id)) at.state_is ∙ h.held in
          elim (held_sessions_came (provider.opening (peering_of setup at.trace.party)) at.trace.state at.trace.events at.trace.run (o, id) v has) [
            | inl old ↦ not_both v _ (get-empty text_pair_cmp (o, id)) old
            | inr (is, came) ↦ came_is_past p h.place h.state at o id v is came
          ]
