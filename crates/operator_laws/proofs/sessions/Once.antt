-- Each reference of a provider is carried by one of its open starts or of its sessions at most, is spent, and came
-- from it.
use Rattle.std.proofs.Common.{◌≡◌, ◌≢◌, ◌+◌, ℕ, List, [], ◌∷◌, inl, inr, refl, sym, ap, subst, ◌∙◌}
use Rattle.std.specs.Prelude.{Option, Some, Contains}
use Rattle.std.specs.FinMap.{get, get-empty}
use Rattle.tables.specs.Keys.{text_cmp, text_number_cmp}
use Rattle.tables.proofs.Elements.{in_front, in_map}
use Rattle.tables.proofs.Options.{none_some, not_both}
use Rattle.ocpi_text.specs.OwnIds.{own_id_text}
use Rattle.ocpi_text.specs.Text.{key}
use Rattle.ocpi_text.specs.declared.own_ids.OwnIdKind.TheVariants as own
use Rattle.ocpi_types.specs.Commands.{reference_of}
use Rattle.ocpi_types.specs.declared.authorizations.Authorization.TheVariants.{Done}
use Rattle.ocpi_types.specs.declared.authorizations.AuthorizationInfo.{AuthorizationInfo}
use Rattle.ocpi_types.specs.declared.commands.StartSession.{StartSession}
use Rattle.ocpi_types.specs.declared.packet.Body.TheVariants as body
use Rattle.ocpi_types.specs.declared.packet.Packet.{Packet}
use Rattle.ocpi_types.specs.declared.rows.Change.TheVariants.{Put, Drop}
use Rattle.ocpi_types.specs.declared.rows.Row.TheVariants as row
use Rattle.ocpi_types.specs.declared.rows.RowKey.TheVariants as keys
use Rattle.ocpi_types.specs.declared.sessions.Session.{Session}
use Rattle.ocpi_types.specs.declared.site.SiteLine.{SiteLine}
use Rattle.ocpi_types.specs.declared.commands.Command.{Command}
use Rattle.ocpi_types.specs.declared.commands.Command.TheVariants as command
use Rattle.ocpi_types.specs.declared.stored.OpenCommand.{OpenCommand}
use Rattle.node_steps.specs.Acts.{all_changes}
use Rattle.operator_rows.specs.State.{State, IsSpent, Spent, opening}
use Rattle.operator_rows.specs.Stored.{change_key}
use Rattle.operator_rows.specs.Sound.{IsConsistent}
use Rattle.operator_rows.proofs.KeepingTimes.{opening_consistent}
use Rattle.operator_rows.proofs.RowChanges.{in_later}
use Rattle.operator_steps.specs.Events.{Arrives, Event, Happens}
use Rattle.operator_laws.specs.Laws.{Came, Run}
use Rattle.operator_laws.specs.References.{Uses}
use Rattle.operator_laws.specs.Sessions.{Carrier, InStart, InSession, GivesReference, HasReference, IsCarriedBy, ReferencesAreSpentOnce}
use Rattle.operator_laws.proofs.events.Causes.{DecidesIt, Opening}
use Rattle.operator_laws.proofs.events.Doing.{Does, does, put_now}
use Rattle.operator_laws.proofs.events.Keeping.{spent_stays}
use Rattle.operator_laws.proofs.events.Reasons as reasons
use Rattle.operator_laws.proofs.events.Reasons.{Begun, BegunBy, Versioning}
use Rattle.operator_laws.proofs.events.Standing.{carried_by, consistent_stays, one_packet}
use Rattle.operator_laws.proofs.sessions.Going.{followed, session_from}
use Rattle.operator_laws.proofs.sessions.RowSearch.{one_change}

-- only a start has a reference
start_of : (c : Command) (spelled : List ℕ) → reference_of c ≡ Some spelled → (a : StartSession) × (c ≡ command.StartSession a) × (a.authorization_reference ≡ Some spelled)
start_of (command.StartSession a) spelled is = (a, refl, is)
start_of (command.StopSession a) spelled is = none_some spelled is
start_of (command.ReserveNow a) spelled is = none_some spelled is
start_of (command.CancelReservation a) spelled is = none_some spelled is
start_of (command.UnlockConnector a) spelled is = none_some spelled is

-- an answer is no command
answer_no_command : (c : Command) (at : ℕ) (info : AuthorizationInfo) → body.Command c ≡ body.Authorization (Done at info) → ⊥
answer_no_command c at info e = cc

-- there is a reference, which was not used before
not_spent : (spent : Spent) (p reference spelled : List ℕ) (o : Option (List ℕ)) → o ≡ Some spelled → key spelled ≡ reference → ¬ IsSpent spent p o → get spent (p, reference) ≢ Some tt
not_spent spent p reference spelled o named same unspent has = unspent (subst (IsSpent spent p) (sym named) (ap (λ z. get spent (p, z)) same ∙ has))

module _ (W : Packet → Type 0) where
  -- the reference came from that provider, in one of these packets
  record IsGiven (p reference : List ℕ) : Type 0 where
    packet : Packet
    came : W packet
    by : key packet.from ≡ p
    spelled : List ℕ
    gives : GivesReference packet.body spelled
    same : key spelled ≡ reference

  record Keeps (s : State) : Type 0 where
    fine : IsConsistent s
    one : (p : List ℕ) (a b : Carrier) (reference : List ℕ) → IsCarriedBy s.rows p a reference → IsCarriedBy s.rows p b reference → a ≡ b
    spent : (p : List ℕ) (a : Carrier) (reference : List ℕ) → IsCarriedBy s.rows p a reference → get s.rows.spent (p, reference) ≡ Some tt
    given : (p : List ℕ) (a : Carrier) (reference : List ℕ) → IsCarriedBy s.rows p a reference → IsGiven p reference

  abbrev Brings : Event → Type 0
  Brings e = (at : ℕ) (q : Packet) → e.input ≡ Arrives at q → W q

  module _ (s t : State) (e : Event) (d : Does s e t) (before : Keeps s) (after : IsConsistent t) (brings : Brings e) (p reference : List ℕ) where
    abbrev Carried : Carrier → Type 0
    Carried a = IsCarriedBy s.rows p a reference

    -- the reference was not used before, and is now: it came now
    record IsFresh : Type 0 where
      unspent : get s.rows.spent (p, reference) ≢ Some tt
      spent : get t.rows.spent (p, reference) ≡ Some tt
      given : IsGiven p reference

    -- why a start or a session carries the reference: it did so before; it is new, by a command or by an answer; or
    -- the session was begun by an open start, which ends
    data From (a : Carrier) : Type 0 where
      Old : Carried a → From a
      ByCommand : (h : DecidesIt s e.input d.acts) → a ≡ InStart h.packet.request → IsFresh → From a
      ByAnswer : (at : ℕ) (q : Packet) (timestamp : ℕ) (info : AuthorizationInfo) → e.input ≡ Arrives at q → q.body ≡ body.Authorization (Done timestamp info) →
          a ≡ InSession (key (own_id_text own.Session s.party (s.rows.charged.last_session + 1))) → IsFresh → From a
      ByStart : (n : ℕ) → Carried (InStart n) → Contains (all_changes d.acts) (Drop (keys.Pending p n)) → a ≡ InSession (key (own_id_text own.Session s.party (s.rows.charged.last_session + 1))) → From a

    opened_from : (n : ℕ) (o : OpenCommand) → Opening s e.input d.acts p n o → Uses o reference → From (InStart n)
    opened_from n o h uses = ByCommand h.decides (ap InStart (sym h.number)) (record {
      unspent = h.unspent reference uses;
      spent = put_now s t e d before.fine (row.Spent p reference) (h.spends reference uses);
      given = record {
        packet = h.decides.packet;
        came = brings h.decides.at h.decides.packet h.decides.arrives;
        by = h.by;
        spelled = uses.0;
        gives = (let (a, is, named) = start_of h.decides.command uses.0 (ap reference_of (sym h.command_is) ∙ uses.1) in inl (a, h.decides.it.carries ∙ ap body.Command is, named));
        same = uses.2;
      };
    })

    begun_from : (v : Session) → HasReference v p reference → BegunBy s e.input d.acts v → From (InSession (key v.id))
    begun_from v h (reasons.Other none) = none_some h.spelled (sym none ∙ h.named)
    begun_from v h (reasons.Start q n o has party is drops next) =
        let same : q ≡ p = sym party ∙ h.of_provider in
        ByStart n (o, ap (λ z. get s.rows.commands.pending (z, n)) (sym same) ∙ has, (h.spelled, sym is ∙ h.named, h.same))
        (subst (λ z. Contains (all_changes d.acts) (Drop (keys.Pending z n))) same drops) (ap (λ z. InSession (key z)) next)
    begun_from v h (reasons.Answer at q timestamp info arrives carries from is unspent spends next) =
        ByAnswer at q timestamp info arrives carries (ap (λ z. InSession (key z)) next) (record {
          unspent = not_spent s.rows.spent p reference h.spelled v.authorization_reference h.named h.same (subst (λ z. ¬ IsSpent s.rows.spent z v.authorization_reference) h.of_provider unspent);
          spent = put_now s t e d before.fine (row.Spent p reference)
              (subst (λ z. Contains (all_changes d.acts) (Put (row.Spent p z))) h.same (subst (λ z. Contains (all_changes d.acts) (Put (row.Spent z (key h.spelled)))) h.of_provider (spends h.spelled h.named)));
          given = record { packet = q; came = brings at q arrives; by = from ∙ h.of_provider; spelled = h.spelled; gives = inr (timestamp, info, carries, sym is ∙ h.named); same = h.same };
        })

    put_from : (v : Session) → HasReference v p reference → Contains (all_changes d.acts) (Put (row.Session v)) → Versioning s e.input d.acts v → From (InSession (key v.id))
    put_from v h puts (reasons.Begins b) = begun_from v h b.by
    put_from v h puts (reasons.Goes w has bill) =
        let same = (followed s t e d before.fine w v has puts).same in
        Old (w, has, record { of_provider = ap (λ z. key z.party) same.cdr_token ∙ h.of_provider; spelled = h.spelled; named = same.authorization_reference ∙ h.named; same = h.same })

    from : (a : Carrier) → IsCarriedBy t.rows p a reference → From a
    from (InStart n) h = elim (carried_by s t e d p n reference h) [ inl (o, opening_it, uses) ↦ opened_from n o opening_it uses | inr old ↦ Old old ]
    from (InSession id) (v, has, h) =
        let own_key : id ≡ key v.id = after.sound.charged_keyed.sessions id v has in
        subst (λ z. From (InSession z)) (sym own_key)
        (elim (session_from s t e d before.fine v (ap (get t.rows.charged.sessions) (sym own_key) ∙ has)) [
          | inl puts ↦ put_from v h puts (d.reasons before.fine (Put (row.Session v)) puts).how
          | inr old ↦ Old (v, old, h)
        ])

    -- a start that ended is open no more
    gone : (n : ℕ) → Contains (all_changes d.acts) (Drop (keys.Pending p n)) → (o : OpenCommand) → get t.rows.commands.pending (p, n) ≡ Some o → ⊥
    gone n drops o has = elim (((d.follows before.fine).rows (row.Pending p n o)).0 has) [
      | inl puts ↦ (let both : Put (row.Pending p n o) ≡ Drop (keys.Pending p n) = one_change e.changes (d.follows before.fine).apart (Put (row.Pending p n o)) (Drop (keys.Pending p n)) puts (d.to_acts (Drop (keys.Pending p n)) drops) refl in cc)
      | inr old ↦ old.1 (in_map change_key e.changes (Drop (keys.Pending p n)) (d.to_acts (Drop (keys.Pending p n)) drops))
    ]

    fresh_is_new : (a : Carrier) → Carried a → IsFresh → ⊥
    fresh_is_new a h fresh = fresh.unspent (before.spent p a reference h)

    -- a start that is carried out carries it no more
    not_gone : (a : Carrier) (n : ℕ) → IsCarriedBy t.rows p a reference → Carried a → Carried (InStart n) → Contains (all_changes d.acts) (Drop (keys.Pending p n)) → ⊥
    not_gone a n now old start drops =
        let same = before.one p a (InStart n) reference old start in
        let (o, has, uses) = subst (λ z. IsCarriedBy t.rows p z reference) same now in
        gone n drops o has

    one_request : (g h : DecidesIt s e.input d.acts) → g.packet.request ≡ h.packet.request
    one_request g h = ap (λ (q : Packet). q.request) (one_packet s e.input d.acts g h)

    both_kinds : (h : DecidesIt s e.input d.acts) (at : ℕ) (q : Packet) (timestamp : ℕ) (info : AuthorizationInfo) → e.input ≡ Arrives at q → q.body ≡ body.Authorization (Done timestamp info) → ⊥
    both_kinds h at q timestamp info arrives carries =
        let both : Arrives h.at h.packet ≡ Arrives at q = sym h.arrives ∙ arrives in
        let same : h.packet ≡ q = cc in
        answer_no_command h.command timestamp info (sym h.it.carries ∙ ap (λ (z : Packet). z.body) same ∙ carries)

    one_now : (a b : Carrier) → IsCarriedBy t.rows p a reference → IsCarriedBy t.rows p b reference → From a → From b → a ≡ b
    one_now a b x y (Old g) (Old h) = before.one p a b reference g h
    one_now a b x y (Old g) (ByCommand h is fresh) = absurd (fresh_is_new a g fresh)
    one_now a b x y (Old g) (ByAnswer at q timestamp info arrives carries is fresh) = absurd (fresh_is_new a g fresh)
    one_now a b x y (Old g) (ByStart n start drops is) = absurd (not_gone a n x g start drops)
    one_now a b x y (ByCommand g is fresh) (Old h) = absurd (fresh_is_new b h fresh)
    one_now a b x y (ByCommand g is fresh) (ByCommand h same other) = is ∙ ap InStart (one_request g h) ∙ sym same
    one_now a b x y (ByCommand g is fresh) (ByAnswer at q timestamp info arrives carries same other) = absurd (both_kinds g at q timestamp info arrives carries)
    one_now a b x y (ByCommand g is fresh) (ByStart n start drops same) = absurd (fresh_is_new (InStart n) start fresh)
    one_now a b x y (ByAnswer at q timestamp info arrives carries is fresh) (Old h) = absurd (fresh_is_new b h fresh)
    one_now a b x y (ByAnswer at q timestamp info arrives carries is fresh) (ByCommand h same other) = absurd (both_kinds h at q timestamp info arrives carries)
    one_now a b x y (ByAnswer at q timestamp info arrives carries is fresh) (ByAnswer when r moment more comes brought same other) = is ∙ sym same
    one_now a b x y (ByAnswer at q timestamp info arrives carries is fresh) (ByStart n start drops same) = absurd (fresh_is_new (InStart n) start fresh)
    one_now a b x y (ByStart n start drops is) (Old h) = absurd (not_gone b n y h start drops)
    one_now a b x y (ByStart n start drops is) (ByCommand h same other) = absurd (fresh_is_new (InStart n) start other)
    one_now a b x y (ByStart n start drops is) (ByAnswer at q timestamp info arrives carries same other) = absurd (fresh_is_new (InStart n) start other)
    one_now a b x y (ByStart n start drops is) (ByStart m begin ends same) = is ∙ sym same

    spent_now : (a : Carrier) → From a → get t.rows.spent (p, reference) ≡ Some tt
    spent_now a (Old h) = spent_stays s t e d p reference (before.spent p a reference h)
    spent_now a (ByCommand h is fresh) = fresh.spent
    spent_now a (ByAnswer at q timestamp info arrives carries is fresh) = fresh.spent
    spent_now a (ByStart n start drops is) = spent_stays s t e d p reference (before.spent p (InStart n) reference start)

    given_now : (a : Carrier) → From a → IsGiven p reference
    given_now a (Old h) = before.given p a reference h
    given_now a (ByCommand h is fresh) = fresh.given
    given_now a (ByAnswer at q timestamp info arrives carries is fresh) = fresh.given
    given_now a (ByStart n start drops is) = before.given p (InStart n) reference start

  keeps : (s t : State) (e : Event) → Brings e → Happens s e t → Keeps s → Keeps t
  keeps s t e brings happens before =
      let d = does s t e happens in
      let after = consistent_stays s t e happens before.fine in
      record {
        fine = after;
        one = λ p a b reference g h. one_now s t e d before after brings p reference a b g h (from s t e d before after brings p reference a g) (from s t e d before after brings p reference b h);
        spent = λ p a reference h. spent_now s t e d before after brings p reference a (from s t e d before after brings p reference a h);
        given = λ p a reference h. given_now s t e d before after brings p reference a (from s t e d before after brings p reference a h);
      }

  run_keeps : (es : List Event) (s t : State) → Run s es t → ((e : Event) → Contains es e → Brings e) → Keeps s → Keeps t
  run_keeps [] s t run brings before = subst Keeps (sym run) before
  run_keeps (e ∷ es) s t (u, first, rest) brings before = run_keeps es u t rest (λ f j. brings f (in_later e es f j)) (keeps s u e (brings e (in_front e es)) first before)

none_first : (line : SiteLine) (p : List ℕ) (a : Carrier) (reference : List ℕ) → IsCarriedBy (opening line).rows p a reference → ⊥
none_first line p (InStart n) reference (o, has, uses) = not_both o _ (get-empty text_number_cmp (p, n)) has
none_first line p (InSession id) reference (v, has, h) = not_both v _ (get-empty text_cmp id) has

pub references_are_spent_once : ReferencesAreSpentOnce
references_are_spent_once line es t own_party run =
    let all = run_keeps (Came es) es (opening line) t run (λ e i at q arrives. (e, i, (at, arrives))) (record {
      fine = opening_consistent line own_party;
      one = λ p a b reference g h. absurd (none_first line p a reference g);
      spent = λ p a reference h. absurd (none_first line p a reference h);
      given = λ p a reference h. absurd (none_first line p a reference h);
    }) in
    record {
      one = all.one;
      spent = all.spent;
      came = λ p a reference h. let g = all.given p a reference h in record { packet = g.packet; came = g.came; by = g.by; spelled = g.spelled; gives = g.gives; same = g.same };
    }
