-- What is pushed of sessions is what was stored.
use Rattle.std.proofs.Common.{◌≡◌, ℕ, List, [], ◌∷◌, inl, inr, sym, ap, subst, ◌∙◌}
use Rattle.std.specs.Prelude.{Some, Contains, ⊤}
use Rattle.std.specs.FinMap.{get, get-empty}
use Rattle.std.specs.Ordering.{nat_cmp}
use Rattle.std.proofs.lemmas.List.Elements.{Contains-append_cases}
use Rattle.tables.proofs.Elements.{in_front, in_none}
use Rattle.tables.proofs.Options.{not_both}
use Rattle.ocpi_text.specs.Text.{key}
use Rattle.ocpi_types.specs.Stored.{body_of_push}
use Rattle.ocpi_types.specs.declared.cdrs.Cdr.{Cdr}
use Rattle.ocpi_types.specs.declared.packet.Packet.{Packet}
use Rattle.ocpi_types.specs.declared.rows.Change.TheVariants.{Put}
use Rattle.ocpi_types.specs.declared.rows.Row.{Row}
use Rattle.ocpi_types.specs.declared.rows.Row.TheVariants as row
use Rattle.ocpi_types.specs.declared.stored.Push.{Push}
use Rattle.ocpi_types.specs.declared.stored.Push.TheVariants as push
use Rattle.outbox.specs.declared.push_book.Outgoing.{Outgoing}
use Rattle.node_steps.proofs.Spelling.{spelled_same}
use Rattle.node_laws.proofs.BodyKinds.{asked_once, no_push}
use Rattle.operator_rows.specs.State.{State, opening}
use Rattle.operator_rows.specs.Sound.{IsConsistent}
use Rattle.operator_rows.proofs.KeepingTimes.{opening_consistent}
use Rattle.operator_rows.proofs.RowChanges.{in_later}
use Rattle.operator_steps.specs.Events.{Event, Happens}
use Rattle.operator_laws.specs.Laws.{Run, sent}
use Rattle.operator_laws.specs.Sessions.{IsOfRun, Puts, PutIn, SessionBodiesArePast}
use Rattle.operator_laws.proofs.events.Doing.{Does, does, stood_or_put}
use Rattle.operator_laws.proofs.events.Reasons as reasons
use Rattle.operator_laws.proofs.events.Reasons.{Carrying, Saying}
use Rattle.operator_laws.proofs.events.Standing.{consistent_stays}
use Rattle.operator_laws.proofs.nodes.Messages.{message_of}
use Rattle.operator_laws.proofs.nodes.NodeSteps.{saying}
use Rattle.operator_laws.proofs.sessions.Going.{cdr_put, cdr_stays, cdrs_stay}

-- a body is that of one push
pub one_push : (p q : Push) → body_of_push p ≡ body_of_push q → p ≡ q
one_push (push.CommandResult x) (push.CommandResult y) e = let same : x ≡ y = cc in ap (λ z. push.CommandResult z) same
one_push (push.PutToken x) (push.PutToken y) e = let same : x ≡ y = cc in ap (λ z. push.PutToken z) same
one_push (push.PutSession x) (push.PutSession y) e = let same : x ≡ y = cc in ap (λ z. push.PutSession z) same
one_push (push.PostCdr x) (push.PostCdr y) e = let same : x ≡ y = cc in ap (λ z. push.PostCdr z) same
one_push (push.CommandResult x) (push.PutToken y) e = cc
one_push (push.CommandResult x) (push.PutSession y) e = cc
one_push (push.CommandResult x) (push.PostCdr y) e = cc
one_push (push.PutToken x) (push.CommandResult y) e = cc
one_push (push.PutToken x) (push.PutSession y) e = cc
one_push (push.PutToken x) (push.PostCdr y) e = cc
one_push (push.PutSession x) (push.CommandResult y) e = cc
one_push (push.PutSession x) (push.PutToken y) e = cc
one_push (push.PutSession x) (push.PostCdr y) e = cc
one_push (push.PostCdr x) (push.CommandResult y) e = cc
one_push (push.PostCdr x) (push.PutToken y) e = cc
one_push (push.PostCdr x) (push.PutSession y) e = cc

-- what a push carries, where these rows are those that the run puts
module _ (V : Row → Type 0) where
  abbrev IsOf : State → List ℕ → Push → Type 0
  IsOf t to (push.PutSession v) = V (row.Session v) × (key to ≡ key v.cdr_token.party)
  IsOf t to (push.PostCdr x) = (get t.rows.charged.cdrs (key x.id) ≡ Some x) × (key to ≡ key x.cdr_token.party)
  IsOf t to (push.CommandResult r) = ⊤
  IsOf t to (push.PutToken x) = ⊥

  abbrev AreOf : State → Type 0
  AreOf t = (n : ℕ) (o : Outgoing) → get t.rows.pushes n ≡ Some o → IsOf t o.to o.push

  abbrev AllPut : Event → Type 0
  AllPut e = (r : Row) → Puts e r → V r

  record Keeps (s : State) : Type 0 where
    fine : IsConsistent s
    of : AreOf s

  -- once it is so, for good
  stays_of : (s t : State) (to : List ℕ) (p : Push) → ((id : List ℕ) (x : Cdr) → get s.rows.charged.cdrs id ≡ Some x → get t.rows.charged.cdrs id ≡ Some x) → IsOf s to p → IsOf t to p
  stays_of s t to (push.PutSession v) stay h = h
  stays_of s t to (push.PostCdr x) stay h = (stay (key x.id) x h.0, h.1)
  stays_of s t to (push.CommandResult r) stay h = tt
  stays_of s t to (push.PutToken x) stay h = h

  -- and to its party however that is spelled
  respelled_of : (t : State) (to other : List ℕ) (p : Push) → key other ≡ key to → IsOf t to p → IsOf t other p
  respelled_of t to other (push.PutSession v) same h = (h.0, same ∙ h.1)
  respelled_of t to other (push.PostCdr x) same h = (h.0, same ∙ h.1)
  respelled_of t to other (push.CommandResult r) same h = tt
  respelled_of t to other (push.PutToken x) same h = h

  module _ (s t : State) (e : Event) (d : Does s e t) (fine : IsConsistent s) (all : AllPut e) where
    carried_of : (to : List ℕ) (p : Push) → Carrying s e.input d.acts to p → IsOf t to p
    carried_of to p (reasons.OfResult h) = subst (IsOf t to) (sym h.push_is) tt
    carried_of to p (reasons.OfVersion v is same puts) = subst (IsOf t to) (sym is) (all (row.Session v) (d.to_acts (Put (row.Session v)) puts), same)
    carried_of to p (reasons.OfRecord x is same puts) = subst (IsOf t to) (sym is) (cdr_put s t e d fine x puts, same)

    all_of : AreOf s → AreOf t
    all_of before n o has = elim (stood_or_put s t e d (row.Push n o.to o.push) tt has) [
      | inl puts ↦ carried_of o.to o.push (d.reasons fine (Put (row.Push n o.to o.push)) puts).carries
      | inr old ↦ stays_of s t o.to o.push (cdr_stays s t e d fine) (before n o old)
    ]

  keeps : (s t : State) (e : Event) → AllPut e → Happens s e t → Keeps s → Keeps t
  keeps s t e all happens before =
      let d = does s t e happens in
      record { fine = consistent_stays s t e happens before.fine; of = all_of s t e d before.fine all before.of }

  sent_now : (s t : State) (e : Event) → AllPut e → Happens s e t → Keeps s → (x : Packet) (p : Push) → Contains e.packets x → x.body ≡ body_of_push p → IsOf t x.to p
  sent_now s t e all happens before x p i is = by (saying s t e d before.fine (consistent_stays s t e happens before.fine) x i)
    where
      d : Does s e t
      d = does s t e happens

      by : Saying s e.input d.acts (message_of x) → IsOf t x.to p
      by (reasons.Replies q body_is listed how) = absurd (no_push q p (sym body_is ∙ is))
      by (reasons.Pushes q body_is puts) = subst (IsOf t x.to) (one_push q p (sym body_is ∙ is)) (carried_of s t e d before.fine all x.to q (d.reasons before.fine (Put (row.Push x.request x.to q)) puts).carries)
      by (reasons.Again to q body_is to_is stood) =
          subst (IsOf t x.to) (one_push q p (sym body_is ∙ is)) (respelled_of t to x.to q (ap key to_is ∙ spelled_same s.providers to)
          (stays_of s t to q (cdr_stays s t e d before.fine) (before.of x.request (record { to = to; push = q }) stood)))
      by (reasons.Asks a body_is listed number acts_are) = absurd ((asked_once x.body a body_is).1 (inr (p, is)))

  sent_of : (es : List Event) (s t : State) → Run s es t → ((e : Event) → Contains es e → AllPut e) → Keeps s → (x : Packet) (p : Push) → Contains (sent es) x → x.body ≡ body_of_push p → IsOf t x.to p
  sent_of [] s t run all before x p i is = absurd (in_none x i)
  sent_of (e ∷ es) s t (u, first, rest) all before x p i is =
      let here = all e (in_front e es) in
      let after = keeps s u e here first before in
      elim (Contains-append_cases e.packets (sent es) x i) [
        | inl now ↦ stays_of u t x.to p (cdrs_stay u t es after.fine rest) (sent_now s u e here first before x p now is)
        | inr later ↦ sent_of es u t rest (λ f j. all f (in_later e es f j)) after x p later is
      ]

  run_keeps : (es : List Event) (s t : State) → Run s es t → ((e : Event) → Contains es e → AllPut e) → Keeps s → Keeps t
  run_keeps [] s t run all before = subst Keeps (sym run) before
  run_keeps (e ∷ es) s t (u, first, rest) all before = run_keeps es u t rest (λ f j. all f (in_later e es f j)) (keeps s u e (all e (in_front e es)) first before)

-- the same of the events of a run
of_run : (es : List Event) (t : State) (to : List ℕ) (p : Push) → IsOf (PutIn es) t to p → IsOfRun es t to p
of_run es t to (push.PutSession v) h = h
of_run es t to (push.PostCdr x) h = h
of_run es t to (push.CommandResult r) h = h
of_run es t to (push.PutToken x) h = h

pub session_bodies_are_past : SessionBodiesArePast
session_bodies_are_past line es t own run =
    let first : Keeps (PutIn es) (opening line) = record { fine = opening_consistent line own; of = λ n o has. absurd (not_both o _ (get-empty nat_cmp n) has) } in
    let all : (e : Event) → Contains es e → AllPut (PutIn es) e = λ e i r puts. (e, i, puts) in
    record {
      were_sent = λ x p i is. of_run es t x.to p (sent_of (PutIn es) es (opening line) t run all first x p i is);
      stand = λ n o has. of_run es t o.to o.push ((run_keeps (PutIn es) es (opening line) t run all first).of n o has);
    }
