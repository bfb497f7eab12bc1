-- Charge detail records, and the versions of sessions that are completed: what is gathered of them, and the acts that
-- a line asks for.
use Rattle.std.proofs.Common.{◌≡◌, ◌≢◌, ◌≤◌, ◌+◌, ◌++◌, ℕ, List, [], ◌∷◌, refl, sym, ap, subst, ◌∙◌, arith}
use Rattle.std.specs.Prelude.{Contains}
use Rattle.std.proofs.lemmas.List.{append-nil}
use Rattle.tables.proofs.Elements.{in_front}
use Rattle.std.proofs.lemmas.List.Elements.{Contains-append_right}
use Rattle.ocpi_text.specs.Text.{key}
use Rattle.ocpi_text.specs.Whole.{max_whole}
use Rattle.ocpi_types.specs.declared.cdrs.Cdr.{Cdr}
use Rattle.ocpi_types.specs.declared.rows.Change.TheVariants.{Put}
use Rattle.ocpi_types.specs.declared.rows.Counter.TheVariants as counter
use Rattle.ocpi_types.specs.declared.rows.Row.TheVariants as row
use Rattle.ocpi_types.specs.declared.sessions.Session.{Session}
use Rattle.ocpi_types.specs.declared.site.Connector.{Connector}
use Rattle.ocpi_types.specs.declared.site.Evse.{Evse}
use Rattle.ocpi_types.specs.declared.site.Location.{Location}
use Rattle.ocpi_types.specs.declared.stored.Push.TheVariants as push
use Rattle.ocpi_types.specs.declared.words.SessionStatus.TheVariants.{Completed}
use Rattle.node_steps.specs.Acts.{Act, all_changes, all_requests, changed, pushed}
use Rattle.node_steps.specs.Drafts.{Gathered, with_acts}
use Rattle.node_steps.specs.Peers.{HasPeer}
use Rattle.node_steps.specs.declared.fault.NodeFault.{NodeFault}
use Rattle.node_steps.specs.declared.fault.NodeFault.TheVariants.{NotForMe, UnknownOperator, UnknownToken, StampEnd, NumbersUsedUp, Memory}
use Rattle.node_steps.proofs.Gathering.{changes_append}
use Rattle.site_book.specs.Sites.{IsConnectorOf}
use Rattle.operator_rows.specs.State.{State}
use Rattle.operator_steps.specs.Sessions.{Billed, Unbilled, next_cdr, numbered_cdrs}
use Rattle.operator_planning.specs.Bills.{CannotBill, IsBillOf, IsRecorded, PassesEnd, StopsEarly, bill_acts, completed_acts}
use Rattle.operator_planning.specs.Planned.{IsNewVersion, version_acts}
use Rattle.operator_planning.specs.declared.reports.bills.Bill.{Bill}
use Rattle.operator_planning.specs.declared.sessions.Versioned.{Versioned}
use Rattle.operator_planning.proofs.Parts.{three_parts}
use Rattle.operator_planning.proofs.NewVersions.{some_version}
use Rattle.operator_planning.proofs.Versions.{version_is}
use Rattle.session_tables.specs.Places.{IsConnectorAt}

-- a record that is numbered, pushed and stored in turn
pub bill_is : (at : ℕ) (to : List ℕ) (b : Bill) (d x y z : Gathered) → x ≡ with_acts (numbered_cdrs b.number ∷ []) d →
    y ≡ with_acts (pushed at (x.counters.request + 1) to (push.PostCdr b.cdr) ∷ []) x → z ≡ with_acts (changed (Put (row.Cdr b.cdr)) ∷ []) y → z ≡ with_acts (bill_acts at d.counters.request to b) d
bill_is at to b d x y z one two three =
    let same : d.counters.request + all_requests (numbered_cdrs b.number ∷ []) ≡ d.counters.request = omega arith in
    let last : x.counters.request ≡ d.counters.request = ap (λ (g : Gathered). g.counters.request) one ∙ same in
    three_parts (numbered_cdrs b.number ∷ []) (pushed at (d.counters.request + 1) to (push.PostCdr b.cdr) ∷ []) (changed (Put (row.Cdr b.cdr)) ∷ []) d x y z one
    (two ∙ ap (λ n. with_acts (pushed at (n + 1) to (push.PostCdr b.cdr) ∷ []) x) last) three

-- a version that is not completed is recorded by itself,
pub recorded_going : (s : State) (at : ℕ) (v : Session) (x : Versioned) → IsNewVersion s v x → v.status ≢ Completed → IsRecorded s at v (version_acts at s.rows.request x)
recorded_going s at v x h going = record {
  version_part = version_acts at s.rows.request x;
  bill_part = [];
  versioned = version_is s at s.rows.request v x h;
  billed = Unbilled going refl;
  acts_are = sym (append-nil (version_acts at s.rows.request x));
}

-- and a completed one with its record
pub recorded_with : (s : State) (at : ℕ) (v : Session) (x : Versioned) (b : Bill) → IsNewVersion s v x → v.status ≡ Completed → b.number ≡ s.rows.charged.last_cdr + 1 → (l : Location) (e : Evse) (k : Connector) →
    IsConnectorAt s.site.locations (key v.evse_uid) (key v.connector_id) l e k → b.cdr ≡ next_cdr s v l e k → IsRecorded s at v (completed_acts at s.rows.request x b)
recorded_with s at v x b h completed number l e k place cdr = record {
  version_part = version_acts at s.rows.request x;
  bill_part = bill_acts at (s.rows.request + 1) x.to b;
  versioned = version_is s at s.rows.request v x h;
  billed = Billed completed x.to h.of_provider l e k place
      (λ i. numbered_cdrs (number i) ∷ (pushed at ((s.rows.request + 1) + 1) x.to (push.PostCdr (cdr i)) ∷ (changed (Put (row.Cdr (cdr i))) ∷ [])));
  acts_are = refl;
}

pub recorded_completed : (s : State) (at : ℕ) (v : Session) (x : Versioned) (b : Bill) → IsNewVersion s v x → IsBillOf s v b → v.status ≡ Completed → IsRecorded s at v (completed_acts at s.rows.request x b)
recorded_completed s at v x b h bill completed = recorded_with s at v x b h completed bill.number_is bill.location bill.of_evse bill.of_connector bill.place bill.cdr_is

-- without a next number of a record, one would pass the last
module _ (s : State) (at : ℕ) (v : Session) (peer : HasPeer s.providers (key v.cdr_token.party)) (place : IsConnectorOf s.site.locations (key v.evse_uid) (key v.connector_id)) (completed : v.status ≡ Completed) where
  passes : max_whole ≤ s.rows.charged.last_cdr → PassesEnd (IsRecorded s at v) s
  passes last =
      let x = some_version s v peer in
      let n = s.rows.charged.last_cdr + 1 in
      let cdr : Cdr = next_cdr s v place.of_location place.of_evse place.its_connector in
      let b : Bill = record { number = n; cdr = cdr } in
      let first : List Act = version_acts at s.rows.request x.0 in
      let rest : List Act = bill_acts at (s.rows.request + 1) x.0.to b in
      let others : List Act = pushed at ((s.rows.request + 1) + 1) x.0.to (push.PostCdr cdr) ∷ (changed (Put (row.Cdr cdr)) ∷ []) in
      let there : Contains (all_changes rest) (Put (row.Count counter.Cdr n)) = in_front (Put (row.Count counter.Cdr n)) (all_changes others) in
      let stored : Contains (all_changes (first ++ rest)) (Put (row.Count counter.Cdr n)) =
      subst (λ l. Contains l (Put (row.Count counter.Cdr n))) (sym (changes_append first rest)) (Contains-append_right (all_changes first) (all_changes rest) (Put (row.Count counter.Cdr n)) there) in
      record {
        acts = completed_acts at s.rows.request x.0 b;
        line = recorded_with s at v x.0 b x.1 completed refl place.of_location place.of_evse place.its_connector (record { of_site = place.of_site; listed = place.listed; same = place.same }) refl;
        past = λ r. let within = r.numbers counter.Cdr n stored in omega (arith, within, last);
      }

  pub unbilled : (f : NodeFault) → CannotBill s f → StopsEarly (IsRecorded s at v) s f
  unbilled NotForMe h = h
  unbilled UnknownOperator h = h
  unbilled UnknownToken h = h
  unbilled StampEnd h = h
  unbilled NumbersUsedUp h = passes h
  unbilled Memory h = tt
