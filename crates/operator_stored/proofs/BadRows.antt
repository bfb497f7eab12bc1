-- Rows that are bad are those of no operator of the site, and those of an operator make the very same.
use Rattle.std.proofs.Common.{◌≡◌, ◌≢◌, ◌≤◌, ℕ, zero, suc, Bool, true, false, List, ◌⊎◌, inl, inr, refl, sym, ap, subst, ◌∙◌, arith}
use Rattle.std.specs.Prelude.{Some, Contains, IsTrue, is_some, slice_get}
use Rattle.std.specs.FinMap.{get, contains_key}
use Rattle.std.proofs.lemmas.Option.{slice_get_within, get_or_from_slice_get}
use Rattle.ocpi_text.specs.OwnIds.{own_id_text}
use Rattle.ocpi_text.specs.Text.{key}
use Rattle.ocpi_text.specs.declared.own_ids.OwnIdKind.TheVariants as own
use Rattle.ocpi_types.specs.Prices.{price_at}
use Rattle.ocpi_types.specs.Credits.{IsBill, IsCredit, is_credit}
use Rattle.ocpi_types.specs.declared.cdrs.Cdr.{Cdr}
use Rattle.ocpi_types.specs.declared.sessions.Session.{Session}
use Rattle.ocpi_types.specs.declared.site.Evse.{Evse}
use Rattle.ocpi_types.specs.declared.site.Location.{Location}
use Rattle.ocpi_types.specs.declared.site.SiteLine.{SiteLine}
use Rattle.ocpi_types.specs.declared.rows.Counter.{Counter}
use Rattle.ocpi_types.specs.declared.rows.Counter.TheVariants as counter
use Rattle.ocpi_types.specs.declared.rows.Row.{Row}
use Rattle.ocpi_types.specs.declared.rows.Row.TheVariants as row
use Rattle.ocpi_types.specs.declared.rows.RowKey.{RowKey}
use Rattle.ocpi_types.specs.declared.rows.RowKey.TheVariants as keys
use Rattle.ocpi_types.specs.declared.stored.OpenCommand.{OpenCommand}
use Rattle.ocpi_types.specs.declared.stored.Reply.{Reply}
use Rattle.ocpi_types.specs.declared.words.CommandResultType.{CommandResultType}
use Rattle.ocpi_types.specs.declared.words.SessionStatus.TheVariants.{Completed}
use Rattle.session_state.specs.Costs.{price_of}
use Rattle.site_book.specs.Sites.{IsConnectorOf, IsEvse, IsEvseOf, IsSiteOf}
use Rattle.site_book.specs.declared.claim.Claim.{Claim}
use Rattle.tables.proofs.Options.{known, none_contained, not_both}
use Rattle.token_desk.specs.Tokens.{token_key}
use Rattle.stored_rows.specs.Given.{IsNotGiven, IsOwnId}
use Rattle.stored_rows.specs.Records.{IsRecordId}
use Rattle.stored_rows.specs.declared.fault.BadReason.{BadReason}
use Rattle.stored_rows.proofs.RecordNumbers.{bill_made, credit_made, same_bill}
use Rattle.stored_rows.proofs.Repeated.{none_repeated}
use Rattle.operator_rows.specs.Rows.{AreRowsOf, HasRow}
use Rattle.operator_rows.specs.Sound.{HasPlace, IsSound, with_rows}
use Rattle.operator_rows.specs.State.{HasClaim, IsStart, Rows, State, opening}
use Rattle.operator_rows.specs.Steps.{restarted}
use Rattle.operator_rows.proofs.KeepingTimes.{restarted_consistent}
use Rattle.operator_stored.specs.Bad.{IsBad, IsForeign, MakesClaim}
use Rattle.operator_stored.specs.Bad.{Repeated, Foreign, NothingCounted, PushNotGiven, SessionNotGiven, CdrNotGiven, SessionOfOther, CdrOfOther, SessionIdNotOwn, CdrIdNotOwn}
use Rattle.operator_stored.specs.Bad.{PushToStranger, TokenOfStranger, CommandOfStranger, SessionOfStranger, StartOfOtherToken, ServiceNowhere, ReservationNowhere, StartNowhere, SessionNowhere}
use Rattle.operator_stored.specs.Bad.{StartAtNoConnector, SessionAtNoConnector, ReservationElsewhere, StartWithoutEvse, StartWithoutConnector}
use Rattle.operator_stored.specs.Bad.{ClaimedTwice, OpenUnanswered, ResultUnanswered, OpenWithResult, ResultOfOpen, PushedTwice, OfReservation, ChargedEarly, CostMissing, OtherMoney, OtherPrice}
use Rattle.operator_stored.specs.Bad.{BilledTwice, CreditedTwice, BilledEarly, CreditWithoutBill, Unbilled}
use Rattle.operator_stored.specs.Bills.{BillsTwice}
use Rattle.operator_stored.specs.Making.{BadRowsAreOfNone, IsMadeOf, RowsMakeAgain, StartsAgain}
use Rattle.operator_stored.specs.Whole.{IsWhole}
use Rattle.operator_stored.proofs.RowsTell.{rows_tell}

-- an EVSE that is at a location of the site, or that has a connector, is of the site
evse_of : {locations : List Location} {evse : List ℕ} {l : Location} {e : Evse} → IsEvseOf locations evse l e → IsEvse locations evse
evse_of {l = l} {e = e} h = record { location = l; evse = e; listed = h.listed; within = h.within; same = h.same }

evse_at : {locations : List Location} {evse location : List ℕ} → IsSiteOf locations evse location → IsEvse locations evse
evse_at h = evse_of h.of_site

evse_with : {locations : List Location} {evse connector : List ℕ} → IsConnectorOf locations evse connector → IsEvse locations evse
evse_with h = evse_of h.of_site

same_some : (x y : List ℕ) → Some x ≡ Some y → x ≡ y
same_some x y e = cc

-- an operator stores no such row
pub not_foreign : (s : Rows) (r : Row) → HasRow s r → IsForeign r → ⊥
not_foreign s (row.Count counter.Reference n) h f = h
not_foreign s (row.Count counter.Serial n) h f = f
not_foreign s (row.Count counter.Request n) h f = f
not_foreign s (row.Count counter.Session n) h f = f
not_foreign s (row.Count counter.Cdr n) h f = f
not_foreign s (row.Command n x) h f = h
not_foreign s other h f = f

-- a counter that gave no number has no row
pub not_zero : (s : Rows) (c : Counter) → HasRow s (row.Count c 0) → ⊥
not_zero s counter.Serial h = h.1 refl
not_zero s counter.Request h = h.1 refl
not_zero s counter.Session h = h.1 refl
not_zero s counter.Cdr h = h.1 refl
not_zero s counter.Reference h = h

-- a number up to the last of its counter was given
pub was_given : (list : List Row) (c : Counter) (n last : ℕ) → ((m : ℕ) → (last ≡ m) × (m ≢ 0) → Contains list (row.Count c m)) → n ≤ last → IsNotGiven list c n → ⊥
was_given list c n zero listed up_to not = not.some_number (omega arith)
was_given list c n (suc last) listed up_to not =
    let above = not.above (suc last) (listed (suc last) (refl, λ e. omega arith)) in
    omega arith

-- the claim that a row makes stands
pub makes_claim : (s : Rows) (r : Row) (evse : List ℕ) (c : Claim) → HasRow s r → MakesClaim r evse c → HasClaim s evse c
makes_claim s (row.Pending p n o) evse c h m = subst (HasClaim s evse) (sym m.1) (o, h, m.0)
makes_claim s (row.Reservation p id r) evse c h m = subst (HasClaim s evse) (sym m.1) (r, h, m.0)
makes_claim s (row.Session v) evse c h m = subst (HasClaim s evse) (sym m.2) (v, h, m.1)
makes_claim s other evse c h m = absurd m

-- a charge detail record is a bill or a credit
pub bill_or_credit : (x : Cdr) → IsBill x ⊎ IsCredit x
bill_or_credit x = either (is_credit x)
  where
    either : (b : Bool) → (b ≡ false) ⊎ (b ≡ true)
    either false = inl refl
    either true = inr refl

-- an element at a place is one of the list
pub at_place : {X : Type 0} (xs : List X) (k : ℕ) (x : X) → slice_get xs k ≡ Some x → Contains xs x
at_place xs k x is = (k, slice_get_within xs k x is, get_or_from_slice_get xs k x x is)

-- rows of an operator of the site, each reason in turn
module _ (line : SiteLine) (list : List Row) (rows : Rows) (all : AreRowsOf list rows) where
  abbrev state : State
  state = with_rows rows (opening line)

  stands : (r : Row) → Contains list r → HasRow rows r
  stands r = (all.exact r).0

  -- a request that was answered has its reply among the rows
  has_reply : (p : List ℕ) (n : ℕ) → IsTrue (contains_key rows.commands.replies (p, n)) → ((reply : Reply) → ¬ Contains list (row.Reply p n reply)) → ⊥
  has_reply p n answered none = elim (known (get rows.commands.replies (p, n))) [
    | inl no_reply ↦ none_contained (get rows.commands.replies (p, n)) answered no_reply
    | inr found ↦ none found.0 ((all.exact (row.Reply p n found.0)).1 found.1)
  ]

  module _ (sound : IsSound state) (whole : IsWhole state) where
    -- the completed session of a charge detail record is among the rows
    has_session : (x : Cdr) → get rows.charged.cdrs (key x.id) ≡ Some x →
        (v : Session) × Contains list (row.Session v) × (key v.id ≡ key x.session_id) × (v.status ≡ Completed)
    has_session x has =
        let found = whole.billed.only (key x.id) x has in
        let same : key x.session_id ≡ key found.0.id = sound.charged_keyed.sessions (key x.session_id) found.0 found.1 in
        (found.0, (all.exact (row.Session found.0)).1 (subst (λ k. get rows.charged.sessions k ≡ Some found.0) same found.1), sym same, found.2)

    session_given : (v : Session) (n : ℕ) → get rows.charged.sessions (key v.id) ≡ Some v → IsOwnId own.Session line.parties.operator v.id n → n ≤ rows.charged.last_session
    session_given v n has own_id =
        sound.numbered.sessions n own_id.is_number (subst (λ id. IsTrue (contains_key rows.charged.sessions (key id))) own_id.made (ap is_some has))

    -- a bill has a number that was given, and so has a credit, by its bill
    cdr_given : (x : Cdr) (n : ℕ) → get rows.charged.cdrs (key x.id) ≡ Some x → IsRecordId line.parties.operator x n → n ≤ rows.charged.last_cdr
    cdr_given x n has made = sound.numbered.cdrs n made.is_number (elim (bill_or_credit x) [
      | inl bill ↦ stored x.id (bill_made line.parties.operator x n made bill).made (ap is_some has)
      | inr credit ↦
          let y = whole.billed.credited (key x.id) x has credit in
          stored y.0.id (same_bill y.0.id (own_id_text own.Cdr line.parties.operator n) (sym y.2.id ∙ credit_made line.parties.operator x n made credit)) (ap is_some y.1)
    ])
      where
        stored : (id : List ℕ) → id ≡ own_id_text own.Cdr line.parties.operator n → IsTrue (contains_key rows.charged.cdrs (key id)) →
            IsTrue (contains_key rows.charged.cdrs (key (own_id_text own.Cdr line.parties.operator n)))
        stored id is there = subst (λ k. IsTrue (contains_key rows.charged.cdrs (key k))) is there

    -- two rows at different places of the list have different keys, so they are not two bills or credits of one session
    not_twice : BillsTwice list → ⊥
    not_twice t =
        let one = stands (row.Cdr t.one) (at_place list t.first (row.Cdr t.one) t.one_is) in
        let other = stands (row.Cdr t.other) (at_place list t.second (row.Cdr t.other) t.other_is) in
        let id : key t.one.id ≡ key t.other.id = whole.billed.once (key t.one.id) (key t.other.id) t.one t.other one other t.alike t.same in
        let party : key t.one.party ≡ key t.other.party = sound.cdrs (key t.one.id) t.one one ∙ sym (sound.cdrs (key t.other.id) t.other other) in
        none_repeated list all.apart (record {
          first = t.first;
          second = t.second;
          one = row.Cdr t.one;
          other = row.Cdr t.other;
          apart = t.apart;
          one_is = t.one_is;
          other_is = t.other_is;
          same = λ i. keys.Cdr (party i) (id i);
        })

    not_open_with_result : (p : List ℕ) (n : ℕ) (o : OpenCommand) (x : CommandResultType) → Contains list (row.Pending p n o) → Contains list (row.Result p n x) → ⊥
    not_open_with_result p n o x h k =
        not_both x (get rows.commands.results (p, n)) (sound.pending p n o (stands (row.Pending p n o) h)).unsettled (stands (row.Result p n x) k)

    start_place : (p : List ℕ) (n : ℕ) (o : OpenCommand) → Contains list (row.Pending p n o) → IsStart o.command → HasPlace line.site o
    start_place p n o h start = (sound.pending p n o (stands (row.Pending p n o) h)).place start

    pub not_bad : (k : RowKey) (reason : BadReason) → IsBad line list k reason → ⊥
    not_bad _ _ (Repeated r) = none_repeated list all.apart r
    not_bad _ _ (Foreign r h f) = not_foreign rows r (stands r h) f
    not_bad _ _ (NothingCounted c h) = not_zero rows c (stands (row.Count c 0) h)
    not_bad _ _ (PushNotGiven n to push h not) =
        was_given list counter.Request n rows.request (λ m. (all.exact (row.Count counter.Request m)).1)
        (sound.outbox.pushes_counted n (ap is_some (stands (row.Push n to push) h))) not
    not_bad _ _ (SessionNotGiven v n h own_id not) =
        was_given list counter.Session n rows.charged.last_session (λ m. (all.exact (row.Count counter.Session m)).1) (session_given v n (stands (row.Session v) h) own_id) not
    not_bad _ _ (CdrNotGiven x n h own_id not) =
        was_given list counter.Cdr n rows.charged.last_cdr (λ m. (all.exact (row.Count counter.Cdr m)).1) (cdr_given x n (stands (row.Cdr x) h) own_id) not
    not_bad _ _ (SessionOfOther v h other) = other (sound.sessions (key v.id) v (stands (row.Session v) h)).own
    not_bad _ _ (CdrOfOther x h other) = other (sound.cdrs (key x.id) x (stands (row.Cdr x) h))
    not_bad _ _ (SessionIdNotOwn v h none) = let made = whole.sessions (key v.id) v (stands (row.Session v) h) in none made.0 made.1
    not_bad _ _ (CdrIdNotOwn x h none) = let made = whole.cdrs (key x.id) x (stands (row.Cdr x) h) in none made.0 made.1
    not_bad _ _ (PushToStranger n to push h stranger) = stranger (sound.pushes n (record { to = to; push = push }) (stands (row.Push n to push) h))
    not_bad _ _ (TokenOfStranger t h stranger) = stranger (sound.tokens (token_key t) t (stands (row.Token t) h))
    not_bad _ _ (CommandOfStranger p n o h stranger) = stranger (sound.pending p n o (stands (row.Pending p n o) h)).provider
    not_bad _ _ (SessionOfStranger v h live stranger) = stranger ((sound.sessions (key v.id) v (stands (row.Session v) h)).going live).provider
    not_bad _ _ (StartOfOtherToken p n o h other) = other (sound.pending p n o (stands (row.Pending p n o) h)).own
    not_bad _ _ (ServiceNowhere evse h nowhere) = nowhere (sound.service evse (ap is_some (stands (row.Service evse) h)))
    not_bad _ _ (ReservationNowhere p id r h nowhere) = nowhere (evse_at (sound.reservations p id r (stands (row.Reservation p id r) h)))
    not_bad _ _ (ReservationElsewhere p id r h evse not) = not (sound.reservations p id r (stands (row.Reservation p id r) h))
    not_bad _ _ (StartNowhere p n o uid h start named nowhere) =
        let place = start_place p n o h start in
        nowhere (subst (λ (u : List ℕ). IsEvse line.site.locations (key u)) (same_some place.uid uid (sym place.evse_is ∙ named)) (evse_with place.of_site))
    not_bad _ _ (StartAtNoConnector p n o uid connector h start named chosen evse not) =
        let place = start_place p n o h start in
        not (subst (λ (u : List ℕ). IsConnectorOf line.site.locations (key u) (key connector)) (same_some place.uid uid (sym place.evse_is ∙ named))
        (subst (λ (c : List ℕ). IsConnectorOf line.site.locations (key place.uid) (key c)) (same_some place.connector connector (sym place.connector_is ∙ chosen)) place.of_site))
    not_bad _ _ (StartWithoutEvse p n o h start none) = let place = start_place p n o h start in not_both place.uid o.evse_uid none place.evse_is
    not_bad _ _ (StartWithoutConnector p n o h start none) = let place = start_place p n o h start in not_both place.connector o.connector_id none place.connector_is
    not_bad _ _ (SessionNowhere v h live nowhere) = nowhere (evse_with ((sound.sessions (key v.id) v (stands (row.Session v) h)).going live).place)
    not_bad _ _ (SessionAtNoConnector v h live evse not) = not ((sound.sessions (key v.id) v (stands (row.Session v) h)).going live).place
    not_bad _ _ (ClaimedTwice a b evse c d h k m n other) =
        other (sound.one_claim evse c d (makes_claim rows a evse c (stands a h) m) (makes_claim rows b evse d (stands b k) n))
    not_bad _ _ (OpenUnanswered p n o h none) = has_reply p n (sound.pending p n o (stands (row.Pending p n o) h)).answered none
    not_bad _ _ (ResultUnanswered p n x h none) = has_reply p n (sound.results (p, n) x (stands (row.Result p n x) h)) none
    not_bad _ _ (OpenWithResult p n o x h k) = not_open_with_result p n o x h k
    not_bad _ _ (ResultOfOpen p n o x h k) = not_open_with_result p n o x h k
    not_bad _ _ (PushedTwice m n to at a b u other h k is also) =
        other (sound.outbox.one_each u m n (record { to = to; push = a }, stands (row.Push m to a) h, is) (record { to = at; push = b }, stands (row.Push n at b) k, also))
    not_bad _ _ (OfReservation v h is) = whole.resumable (key v.id) v (stands (row.Session v) h) (inl is)
    not_bad _ _ (CostMissing v h none) =
        whole.resumable (key v.id) v (stands (row.Session v) h) (inr (inl (λ priced. not_both (price_of v.kwh (price_at line.site v.start_date_time)) v.total_cost none priced)))
    not_bad _ _ (ChargedEarly v h charged) = whole.resumable (key v.id) v (stands (row.Session v) h) (inr (inr charged))
    not_bad _ _ (OtherPrice v cost h is not) = whole.resumable (key v.id) v (stands (row.Session v) h) (inr (inl not))
    not_bad _ _ (OtherMoney v h live other) = other ((sound.sessions (key v.id) v (stands (row.Session v) h)).going live).currency
    not_bad _ _ (BilledTwice t bill) = not_twice t
    not_bad _ _ (CreditedTwice t credit) = not_twice t
    not_bad _ _ (BilledEarly x h none) = let found = has_session x (stands (row.Cdr x) h) in none found
    not_bad _ _ (Unbilled v h done none) =
        let found = whole.billed.each (key v.id) v (stands (row.Session v) h) done in
        none (found.0, (all.exact (row.Cdr found.0)).1 found.1, found.2, found.3)
    not_bad _ _ (CreditWithoutBill x h credit none) =
        let bill = whole.billed.credited (key x.id) x (stands (row.Cdr x) h) credit in
        none (bill.0, (all.exact (row.Cdr bill.0)).1 bill.1, bill.2)

pub bad_of_none : BadRowsAreOfNone
bad_of_none line list k reason is s sound made =
    not_bad line list s.rows made.has_rows (subst IsSound made.of_site sound) (subst IsWhole made.of_site made.whole) k reason is

-- what an operator starts again as is made of its rows
pub made_again : (line : SiteLine) (list : List Row) (s : State) → StartsAgain line list s → IsMadeOf line list (restarted s)
made_again line list s again = record {
  of_site = again.of_site;
  has_rows = again.has_rows;
  whole = record { sessions = again.whole.sessions; resumable = again.whole.resumable; cdrs = again.whole.cdrs; billed = again.whole.billed };
}

-- and all that is made of these rows is the same
pub made_same : (line : SiteLine) (list : List Row) (s t : State) → IsSound s → IsSound t → IsMadeOf line list s → IsMadeOf line list t → s ≡ t
made_same line list s t sound also a b =
    a.of_site ∙ ap (λ (r : Rows). with_rows r (opening line)) (rows_tell list s t sound also a.has_rows b.has_rows) ∙ sym b.of_site

pub make_again : RowsMakeAgain
make_again line list s consistent again =
    let sound = (restarted_consistent s consistent).sound in
    let made = made_again line list s again in
    record {
      good = λ k reason is. bad_of_none line list k reason is (restarted s) sound made;
      same = λ t also of_t. made_same line list t (restarted s) also sound of_t made;
    }
