-- What an operator bills, and what charge detail records a provider holds, in a traced world.
use Rattle.std.proofs.Common.{◌≡◌, ◌⊎◌, ℕ, List, inl, inr, sym, ap, subst, ◌∙◌}
use Rattle.std.specs.Prelude.{Some, None, Contains}
use Rattle.std.specs.List.{last_or}
use Rattle.std.specs.FinMap.{get, get-empty}
use Rattle.tables.specs.Keys.{text_pair_cmp}
use Rattle.tables.proofs.Options.{not_both}
use Rattle.ocpi_text.specs.Text.{key}
use Rattle.ocpi_types.specs.Credits.{AreAlike}
use Rattle.ocpi_types.specs.declared.cdrs.Cdr.{Cdr}
use Rattle.ocpi_types.specs.declared.packet.Body.TheVariants as body
use Rattle.ocpi_types.specs.declared.packet.Packet.{Packet}
use Rattle.ocpi_types.specs.declared.sessions.Session.{Session}
use Rattle.ocpi_types.specs.declared.setup.Node.{Node}
use Rattle.ocpi_types.specs.declared.stored.Push.TheVariants as push
use Rattle.handover.specs.Cdrs.{cdr_key}
use Rattle.operator_laws.proofs.sessions.Bodies.{session_bodies_are_past}
use Rattle.operator_rows.specs.State as operator
use Rattle.provider_laws.specs.Held.{CdrCame}
use Rattle.provider_laws.proofs.held.Cdrs.{held_cdrs_came, one_cdr_per_session}
use Rattle.provider_rows.specs.State as provider
use Rattle.session_laws.specs.Bills as bills
use Rattle.session_laws.proofs.Billing.{sessions_are_billed_once}
use Rattle.session_laws.proofs.Currencies.{currencies_are_of_site}
use Rattle.world_laws.proofs.Steady.{pasts_are_orderly}
use Rattle.tables.proofs.Elements.{in_none}
use Rattle.world_laws.specs.Laws.{IsSetup}
use Rattle.world_laws.specs.Nodes.{HasCdr, HoldsCdr, OperatorOf}
use Rattle.world_laws.specs.Safe.{Bills, BillsOnce}
use Rattle.world_laws.proofs.Holding.{past_is}
use Rattle.world_laws.proofs.NodeRuns.{FromOperator, OperatorAt, ProviderAt, came_to_provider, line_of, one_provider, operator_at, peering_of, provider_at}
use Rattle.world_steps.specs.Traces.{Histories, Traces}
use Rattle.world_steps.specs.World.{Place, World, past_of}

-- a record that bills a version, without the token
told_bills : (v : Session) (x : Cdr) → bills.Bills v x → Bills v x
told_bills v x b = record { bill = b.bill; completed = b.completed; session = b.session; energy = b.energy; cost = b.cost }

module _ (setup : List Node) (is_setup : IsSetup setup) (w : World) (hs : Histories) (traces : Traces setup w hs) where
  module _ (o : List ℕ) (p : Place) (s : operator.State) (at : OperatorAt setup is_setup w hs traces o p s) where
    -- what is stored of a session is the last version of its past
    stored_last : (id : List ℕ) → last_or None (past_of id p.versions) ≡ get s.rows.charged.sessions id
    stored_last id =
        ap (last_or None) (past_is setup is_setup w hs traces o p s at id)
        ∙ sym (pasts_are_orderly (line_of setup at.trace.party at.trace.site) at.trace.events at.trace.state at.trace.by_form at.trace.run at.trace.steady id).1
        ∙ ap (λ (z : operator.State). get z.rows.charged.sessions id) at.state_is

    billed_state : bills.AreBilledOnce s
    billed_state = subst bills.AreBilledOnce at.state_is (sessions_are_billed_once (line_of setup at.trace.party at.trace.site) at.trace.events at.trace.state at.trace.by_form at.trace.run)

    in_currency : (id : List ℕ) (x : Cdr) → get s.rows.charged.cdrs id ≡ Some x → x.currency ≡ s.site.currency
    in_currency = (subst bills.AreInCurrency at.state_is (currencies_are_of_site (line_of setup at.trace.party at.trace.site) at.trace.events at.trace.state at.trace.by_form at.trace.run
        (λ other i. absurd (in_none other (subst (λ l. Contains l other) at.trace.steady i))))).cdrs

    bills_once : BillsOnce p s
    bills_once = record {
      each = λ id v ends completed.
          let (x, stands, b) = billed_state.each id v (sym (stored_last id) ∙ ends) completed in
          (x, stands, told_bills v x b);
      only = λ id x stands bill.
          let (v, newest, b) = billed_state.only id x stands bill in
          (v, ap (λ (k : List ℕ). last_or None (past_of k p.versions)) (ap key b.session) ∙ stored_last (key v.id) ∙ newest, told_bills v x b);
      credits = billed_state.credits;
      once = billed_state.once;
    }

  -- each completed session is billed once, and no other; each is taken back at most once
  pub billed : (o : List ℕ) (p : Place) (s : operator.State) → OperatorOf w o p s → BillsOnce p s
  billed o p s of = bills_once o p s (operator_at setup is_setup w hs traces o p s of)

  -- a packet with the record came from the operator, which has it
  from_operator : (q : Packet) (x : Cdr) → FromOperator setup is_setup w hs traces q → q.body ≡ body.PostCdr x → HasCdr w (key q.from) (key x.id) x
  from_operator q x h is = record {
    place = h.place;
    state = h.state;
    at = h.of;
    stands = ap (λ (z : operator.State). get z.rows.charged.cdrs (key x.id)) (sym h.at.state_is)
        ∙ ((session_bodies_are_past (line_of setup h.at.trace.party h.at.trace.site) h.at.trace.events h.at.trace.state h.at.trace.by_form h.at.trace.run).were_sent q (push.PostCdr x) h.within is).0;
  }

  -- a record that is held came, with the operator's id and its own
  record HeldCame (p o id : List ℕ) (x : Cdr) : Type 0 where
    own : ◌≡◌ {A = List ℕ × List ℕ} (o, id) (cdr_key x)
    packet : Packet
    from : FromOperator setup is_setup w hs traces packet
    carries : packet.body ≡ body.PostCdr x
    sender : key x.party ≡ key packet.from

  held_came : (p o id : List ℕ) (x : Cdr) → HoldsCdr w p o id x → HeldCame p o id x
  held_came p o id x h = by_run (provider_at setup is_setup w hs traces p h.place h.state h.at)
    where
      by_run : ProviderAt setup is_setup w hs traces p h.place h.state → HeldCame p o id x
      by_run at = by (held_cdrs_came (provider.opening (peering_of setup at.trace.party)) at.trace.state at.trace.events at.trace.run (o, id) x
          (ap (λ (z : provider.State). get z.rows.inbox.cdrs (o, id)) at.state_is ∙ h.held))
        where
          by : (get (provider.opening (peering_of setup at.trace.party)).rows.inbox.cdrs (o, id) ≡ Some x) ⊎ ((◌≡◌ {A = List ℕ × List ℕ} (o, id) (cdr_key x)) × CdrCame at.trace.party at.trace.events x) →
              HeldCame p o id x
          by (inl old) = not_both x _ (get-empty text_pair_cmp (o, id)) old
          by (inr (k, (q, arrived, carries, right))) = record {
            own = k;
            packet = q;
            from = (came_to_provider setup is_setup w hs traces p h.place h.state at q arrived).1;
            carries = carries;
            sender = right.1;
          }

  -- so each record stands under the keys of its operator and of its own id
  pub own_keys : (p o id : List ℕ) (x : Cdr) → HoldsCdr w p o id x → ◌≡◌ {A = List ℕ × List ℕ} (o, id) (cdr_key x)
  own_keys p o id x h = (held_came p o id x h).own

  -- each charge detail record that a provider holds is the operator's
  pub records : (p o id : List ℕ) (x : Cdr) → HoldsCdr w p o id x → HasCdr w o id x
  records p o id x h =
      let c = held_came p o id x h in
      subst (λ (k : List ℕ × List ℕ). HasCdr w k.0 k.1 x) (sym c.own)
      (subst (λ (z : List ℕ). HasCdr w z (key x.id) x) (sym c.sender) (from_operator c.packet x c.from c.carries))

  -- and it holds no two bills of one session, nor two credits
  pub records_once : (p o i j : List ℕ) (x y : Cdr) → HoldsCdr w p o i x → HoldsCdr w p o j y → key x.session_id ≡ key y.session_id → AreAlike x y → i ≡ j
  records_once p o i j x y h g same alike =
      let at = provider_at setup is_setup w hs traces p h.place h.state h.at in
      let one = one_provider setup is_setup w hs traces p h.place g.place h.state g.state h.at g.at in
      one_cdr_per_session (peering_of setup at.trace.party) at.trace.events at.trace.state at.trace.run o i j x y
      (ap (λ (z : provider.State). get z.rows.inbox.cdrs (o, i)) at.state_is ∙ h.held)
      (ap (λ (z : provider.State). get z.rows.inbox.cdrs (o, j)) (at.state_is ∙ one.1) ∙ g.held)
      same
      alike

  -- an operator's records have the currency of its site
  pub own_currency : (o : List ℕ) (p : Place) (s : operator.State) → OperatorOf w o p s → (id : List ℕ) (x : Cdr) → get s.rows.charged.cdrs id ≡ Some x → x.currency ≡ s.site.currency
  own_currency o p s of id x stands = in_currency o p s (operator_at setup is_setup w hs traces o p s of) id x stands
