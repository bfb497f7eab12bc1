-- Rows that are those of no operator of the site are bad: of rows that are not bad one is made.
use Rattle.std.proofs.Common.{◌≡◌, ◌≢◌, ◌<◌, ◌≤◌, ℕ, List, [], ◌∷◌, ◌⊎◌, inl, inr, refl, sym, ap, subst, ◌∙◌, arith}
use Rattle.std.specs.Prelude.{Some, Ok, Contains, IsTrue, is_some, slice_get}
use Rattle.std.specs.Cmp.{nat_cmp_total}
use Rattle.std.specs.Ordering.{nat_cmp}
use Rattle.std.specs.FinMap.{nat_cmp-IsAntisymmetric, get, contains_key}
use Rattle.std.proofs.lemmas.Bool.{cases_lt}
use Rattle.std.proofs.lemmas.Option.{slice_get-get_or}
use Rattle.ocpi_text.specs.Party.{party_at}
use Rattle.ocpi_text.specs.Text.{key}
use Rattle.ocpi_text.specs.Whole.{max_whole}
use Rattle.ocpi_text.specs.declared.own_ids.OwnIdKind.{OwnIdKind}
use Rattle.ocpi_text.specs.declared.own_ids.OwnIdKind.TheVariants as own
use Rattle.tables.specs.Keys.{text_total, text_exact, text_number_total, text_number_exact, text_pair_total, text_pair_exact}
use Rattle.tables.proofs.Elements.{in_none, in_front}
use Rattle.tables.proofs.Maps.{told}
use Rattle.tables.proofs.Options.{known, none_else}
use Rattle.ocpi_types.specs.Prices.{price_at}
use Rattle.ocpi_types.specs.Credits.{AreAlike, IsCredit}
use Rattle.ocpi_types.specs.declared.cdrs.Cdr.{Cdr}
use Rattle.ocpi_types.specs.declared.sessions.Session.{Session}
use Rattle.ocpi_types.specs.declared.site.SiteLine.{SiteLine}
use Rattle.ocpi_types.specs.declared.token.Token.{Token}
use Rattle.ocpi_types.specs.declared.rows.Counter.{Counter}
use Rattle.ocpi_types.specs.declared.rows.Counter.TheVariants as counter
use Rattle.ocpi_types.specs.declared.rows.Row.{Row}
use Rattle.ocpi_types.specs.declared.rows.Row.TheVariants as row
use Rattle.ocpi_types.specs.declared.rows.RowKey.{RowKey}
use Rattle.ocpi_types.specs.declared.stored.OpenCommand.{OpenCommand}
use Rattle.ocpi_types.specs.declared.stored.Reply.{Reply}
use Rattle.ocpi_types.specs.declared.stored.SentCommand.{SentCommand}
use Rattle.ocpi_types.specs.declared.words.SessionStatus.TheVariants.{Completed}
use Rattle.site_book.specs.Sites.{IsConnectorOf, IsEvse, IsSiteOf}
use Rattle.site_book.specs.declared.claim.Claim.{Claim}
use Rattle.site_book.specs.declared.claim.Claim.TheVariants.{OpenStart, Live, Reserved}
use Rattle.outbox.specs.Outbox.{AreConsistent}
use Rattle.outbox.proofs.Timing.{has_none, has_some, has_unit}
use Rattle.session_state.specs.Versions.{IsPriced, IsUncharged}
use Rattle.session_book.specs.Numbers.{id_key}
use Rattle.session_book.proofs.OwnIds.{ids_differ}
use Rattle.token_desk.specs.Tokens.{TokenKey, token_key}
use Rattle.token_desk.specs.TypeOrder.{tokens_total, tokens_exact}
use Rattle.node_steps.specs.Peers.{HasPeer}
use Rattle.stored_rows.specs.Given.{IsNotGiven, IsOwnId}
use Rattle.stored_rows.specs.Records.{IsRecordId}
use Rattle.stored_rows.specs.declared.fault.BadReason.{BadReason}
use Rattle.operator_rows.specs.Rows.{HasRow}
use Rattle.operator_rows.specs.Sound.{HasPlace, IsOwnStart, IsSound, MayBeOpen, MayStand, with_rows}
use Rattle.operator_rows.specs.State.{HasClaim, IsLive, IsStart, Rows, State, as_outbox, opening}
use Rattle.operator_rows.proofs.RowChanges.{of_cons, in_later}
use Rattle.operator_stored.specs.Bad.{IsBad, MakesClaim, PushNotGiven, SessionNotGiven, CdrNotGiven, SessionIdNotOwn, CdrIdNotOwn, PushToStranger, TokenOfStranger}
use Rattle.operator_stored.specs.Bad.{CommandOfStranger, SessionOfStranger, StartOfOtherToken, ServiceNowhere, ReservationNowhere, StartNowhere, SessionNowhere}
use Rattle.operator_stored.specs.Bad.{ReservationElsewhere, SessionAtNoConnector, StartAtNoConnector, StartWithoutConnector, StartWithoutEvse}
use Rattle.operator_stored.specs.Bad.{ClaimedTwice, OpenUnanswered, ResultUnanswered, OpenWithResult, PushedTwice, OfReservation, ChargedEarly, CostMissing, OtherMoney, OtherPrice}
use Rattle.operator_stored.specs.Bad.{BilledTwice, CreditedTwice, BilledEarly, CreditWithoutBill, Unbilled}
use Rattle.operator_stored.specs.Bills.{BillsTwice, HasBill, HasItsBill}
use Rattle.operator_stored.specs.Making.{OtherRowsAreBad}
use Rattle.operator_stored.specs.Whole.{AreBilled, IsWhole}
use Rattle.stored_rows.proofs.RecordNumbers.{bill_made, credit_made, no_credit}
use Rattle.operator_stored.proofs.BadRows.{bill_or_credit}
use Rattle.operator_stored.proofs.Gathered.{gathered_rows, gathered_exact, gathered_are, comes_of, own_session, own_cdr}
use Rattle.operator_stored.proofs.Gathered.{token_of, token_keyed, session_of, session_keyed, cdr_of, cdr_keyed}

-- it cannot be refuted
abbrev NotNot : Type 0 → Type 0
NotNot A = (A → ⊥) → ⊥

given : {A B : Type 0} → (A → NotNot B) → NotNot (A → B)
given f refuted = refuted (λ a. absurd (f a (λ b. refuted (λ c. b))))

-- what is asked of a row for itself, and of what stands beside it
record FitsOpen (line : SiteLine) (rows : List Row) (p : List ℕ) (n : ℕ) (o : OpenCommand) : Type 0 where
  provider : HasPeer line.parties.providers p
  answered : (reply : Reply) × Contains rows (row.Reply p n reply)
  own_token : IsOwnStart p o.command
  place : IsStart o.command → HasPlace line.site o

record FitsSession (line : SiteLine) (rows : List Row) (v : Session) : Type 0 where
  made : (n : ℕ) × IsOwnId own.Session line.parties.operator v.id n
  priced : IsPriced (price_at line.site) v
  uncharged : IsUncharged v
  currency : IsLive v.status → v.currency ≡ line.site.currency
  provider : IsLive v.status → HasPeer line.parties.providers (key v.cdr_token.party)
  place : IsLive v.status → IsConnectorOf line.site.locations (key v.evse_uid) (key v.connector_id)
  billed : v.status ≡ Completed → HasBill rows (key v.id)

record FitsCdr (line : SiteLine) (rows : List Row) (x : Cdr) : Type 0 where
  made : (n : ℕ) × IsRecordId line.parties.operator x n
  ended : (v : Session) × Contains rows (row.Session v) × (key v.id ≡ key x.session_id) × (v.status ≡ Completed)
  credited : IsCredit x → HasItsBill rows x

abbrev Fits : SiteLine → List Row → Row → Type 0
Fits line rows (row.Token t) = HasPeer line.parties.providers (key t.party)
Fits line rows (row.Push n to push) = HasPeer line.parties.providers (key to)
Fits line rows (row.Service evse) = IsEvse line.site.locations evse
Fits line rows (row.Reservation p id r) = IsSiteOf line.site.locations (key r.evse_uid) (key r.location_id)
Fits line rows (row.Pending p n o) = FitsOpen line rows p n o
Fits line rows (row.Result p n x) = (reply : Reply) × Contains rows (row.Reply p n reply)
Fits line rows (row.Session v) = FitsSession line rows v
Fits line rows (row.Cdr x) = FitsCdr line rows x
Fits line rows r = Unit {0}

-- claims are the same or differ
same_claim : (c d : Claim) → (c ≡ d) ⊎ (c ≢ d)
same_claim (OpenStart p n) (OpenStart q m) = elim (told text_number_total text_number_exact (p, n) (q, m)) [
  | inl e ↦ inl (λ i. OpenStart (e i).0 (e i).1)
  | inr apart ↦ inr (λ e. let a : p ≡ q = cc in let b : n ≡ m = cc in apart (λ i. (a i, b i)))
]
same_claim (OpenStart p n) d = inr (λ e. cc)
same_claim (Live p n) (Live q m) = elim (told text_pair_total text_pair_exact (p, n) (q, m)) [
  | inl e ↦ inl (λ i. Live (e i).0 (e i).1)
  | inr apart ↦ inr (λ e. let a : p ≡ q = cc in let b : n ≡ m = cc in apart (λ i. (a i, b i)))
]
same_claim (Live p n) d = inr (λ e. cc)
same_claim (Reserved p n) (Reserved q m) = elim (told text_pair_total text_pair_exact (p, n) (q, m)) [
  | inl e ↦ inl (λ i. Reserved (e i).0 (e i).1)
  | inr apart ↦ inr (λ e. let a : p ≡ q = cc in let b : n ≡ m = cc in apart (λ i. (a i, b i)))
]
same_claim (Reserved p n) d = inr (λ e. cc)

-- rows that are not bad
module _ (line : SiteLine) (rows : List Row) (good : (k : RowKey) (reason : BadReason) → IsBad line rows k reason → ⊥) where
  -- a start has its place
  starts_at : (p : List ℕ) (n : ℕ) (o : OpenCommand) → Contains rows (row.Pending p n o) → IsStart o.command → NotNot (HasPlace line.site o)
  starts_at p n o h start refuted = elim (known o.evse_uid) [
    | inl none ↦ good _ _ (StartWithoutEvse p n o h start none)
    | inr named ↦ elim (known o.connector_id) [
      | inl none ↦ good _ _ (StartWithoutConnector p n o h start none)
      | inr chosen ↦ good _ _ (StartNowhere p n o named.0 h start named.1 (λ evse.
          good _ _ (StartAtNoConnector p n o named.0 chosen.0 h start named.1 chosen.1 evse (λ at.
          refuted (record { uid = named.0; evse_is = named.1; connector = chosen.0; connector_is = chosen.1; of_site = at })))))
    ]
  ]

  -- a session has the cost of its energy
  costs : (v : Session) → Contains rows (row.Session v) → NotNot (IsPriced (price_at line.site) v)
  costs v h refuted = elim (known v.total_cost) [
    | inl none ↦ good _ _ (CostMissing v h none)
    | inr some ↦ good _ _ (OtherPrice v some.0 h some.1 refuted)
  ]

  fits_open : (p : List ℕ) (n : ℕ) (o : OpenCommand) → Contains rows (row.Pending p n o) → NotNot (FitsOpen line rows p n o)
  fits_open p n o h refuted =
      good _ _ (CommandOfStranger p n o h (λ provider.
      good _ _ (OpenUnanswered p n o h (λ reply i.
      good _ _ (StartOfOtherToken p n o h (λ own_token.
      given (starts_at p n o h) (λ place.
      refuted (record { provider = provider; answered = (reply, i); own_token = own_token; place = place }))))))))

  fits_session : (v : Session) → Contains rows (row.Session v) → NotNot (FitsSession line rows v)
  fits_session v h refuted =
      good _ _ (SessionIdNotOwn v h (λ n made.
      costs v h (λ priced.
      good _ _ (ChargedEarly v h (λ uncharged.
      given (λ (live : IsLive v.status). λ (other : v.currency ≢ line.site.currency). good _ _ (OtherMoney v h live other)) (λ currency.
      given (λ (live : IsLive v.status). λ (stranger : HasPeer line.parties.providers (key v.cdr_token.party) → ⊥). good _ _ (SessionOfStranger v h live stranger)) (λ provider.
      given (λ (live : IsLive v.status). λ (nowhere : IsConnectorOf line.site.locations (key v.evse_uid) (key v.connector_id) → ⊥).
      good _ _ (SessionNowhere v h live (λ evse. good _ _ (SessionAtNoConnector v h live evse nowhere)))) (λ place.
      given (λ (done : v.status ≡ Completed). λ (none : HasBill rows (key v.id) → ⊥).
      good _ _ (Unbilled v h done none)) (λ billed.
      refuted (record { made = (n, made); priced = priced; uncharged = uncharged; currency = currency; provider = provider; place = place; billed = billed }))))))))))

  fits_cdr : (x : Cdr) → Contains rows (row.Cdr x) → NotNot (FitsCdr line rows x)
  fits_cdr x h refuted =
      good _ _ (CdrIdNotOwn x h (λ n made.
      good _ _ (BilledEarly x h (λ ended.
      given (λ (credit : IsCredit x). λ (none : HasItsBill rows x → ⊥). good _ _ (CreditWithoutBill x h credit none)) (λ credited.
      refuted (record { made = (n, made); ended = ended; credited = credited }))))))

  fits : (r : Row) → Contains rows r → NotNot (Fits line rows r)
  fits (row.Token t) h refuted = good _ _ (TokenOfStranger t h refuted)
  fits (row.Push n to push) h refuted = good _ _ (PushToStranger n to push h refuted)
  fits (row.Service evse) h refuted = good _ _ (ServiceNowhere evse h refuted)
  fits (row.Reservation p id r) h refuted = good _ _ (ReservationNowhere p id r h (λ evse. good _ _ (ReservationElsewhere p id r h evse refuted)))
  fits (row.Pending p n o) h refuted = fits_open p n o h refuted
  fits (row.Result p n x) h refuted = good _ _ (ResultUnanswered p n x h (λ reply i. refuted (reply, i)))
  fits (row.Session v) h refuted = fits_session v h refuted
  fits (row.Cdr x) h refuted = fits_cdr x h refuted
  fits r h refuted = refuted tt

  all_fit : (xs : List Row) → ((r : Row) → Contains xs r → NotNot (Fits line rows r)) → NotNot ((r : Row) → Contains xs r → Fits line rows r)
  all_fit [] each refuted = refuted (λ r i. absurd (in_none r i))
  all_fit (x ∷ xs) each refuted =
      each x (in_front x xs) (λ first. all_fit xs (λ r i. each r (in_later x xs r i)) (λ rest.
      refuted (λ r i. elim (of_cons x xs r i) [ inl same ↦ subst (Fits line rows) same first | inr later ↦ rest r later ])))

  abbrev stored : Rows
  stored = gathered_rows rows

  abbrev made_state : State
  made_state = with_rows stored (opening line)

  listed : (r : Row) → HasRow stored r → Contains rows r
  listed r = (gathered_exact line rows good r).1

  stands : (r : Row) → Contains rows r → HasRow stored r
  stands r = (gathered_exact line rows good r).0

  key_of_session : (id : List ℕ) (v : Session) → get stored.charged.sessions id ≡ Some v → id ≡ key v.id
  key_of_session id v has = let found = comes_of text_total text_exact session_of rows id v has in session_keyed found.0 id v found.2

  key_of_cdr : (id : List ℕ) (x : Cdr) → get stored.charged.cdrs id ≡ Some x → id ≡ key x.id
  key_of_cdr id x has = let found = comes_of text_total text_exact cdr_of rows id x has in cdr_keyed found.0 id x found.2

  key_of_token : (k : TokenKey) (t : Token) → get stored.tokens k ≡ Some t → k ≡ token_key t
  key_of_token k t has = let found = comes_of tokens_total tokens_exact token_of rows k t has in token_keyed found.0 k t found.2

  session_in : (id : List ℕ) (v : Session) → get stored.charged.sessions id ≡ Some v → Contains rows (row.Session v)
  session_in id v has = listed (row.Session v) (subst (λ k. get stored.charged.sessions k ≡ Some v) (key_of_session id v has) has)

  cdr_in : (id : List ℕ) (x : Cdr) → get stored.charged.cdrs id ≡ Some x → Contains rows (row.Cdr x)
  cdr_in id x has = listed (row.Cdr x) (subst (λ k. get stored.charged.cdrs k ≡ Some x) (key_of_cdr id x has) has)

  token_in : (k : TokenKey) (t : Token) → get stored.tokens k ≡ Some t → Contains rows (row.Token t)
  token_in k t has = listed (row.Token t) (subst (λ q. get stored.tokens q ≡ Some t) (key_of_token k t has) has)

  claim_in : (evse : List ℕ) (c : Claim) → HasClaim stored evse c → (r : Row) × Contains rows r × MakesClaim r evse c
  claim_in evse (OpenStart p n) h = (row.Pending p n h.0, listed (row.Pending p n h.0) h.1, (h.2, refl))
  claim_in evse (Reserved p id) h = (row.Reservation p id h.0, listed (row.Reservation p id h.0) h.1, (h.2, refl))
  claim_in evse (Live p id) h = (row.Session h.0, session_in id h.0 h.1, (p, h.2, ap (λ k. Live p k) (key_of_session id h.0 h.1)))

  one_claim : (evse : List ℕ) (c d : Claim) → HasClaim stored evse c → HasClaim stored evse d → c ≡ d
  one_claim evse c d h k =
      let a = claim_in evse c h in
      let b = claim_in evse d k in
      elim (same_claim c d) [ inl same ↦ same | inr apart ↦ absurd (good _ _ (ClaimedTwice a.0 b.0 evse c d a.1 b.1 a.2 b.2 apart)) ]

  not_given : (c : Counter) (n last : ℕ) → ((m : ℕ) → Contains rows (row.Count c m) → last ≡ m) → last < n → IsNotGiven rows c n
  not_given c n last is below = record { some_number = λ e. omega arith; above = λ m h. let e : last ≡ m = is m h in omega arith }

  pushes_counted : (n : ℕ) → IsTrue (contains_key stored.pushes n) → n ≤ stored.request
  pushes_counted n h =
      let o = has_some (get stored.pushes n) h in
      elim (cases_lt stored.request n) [
        | inl below ↦ absurd (good _ _ (PushNotGiven n o.0.to o.0.push (listed (row.Push n o.0.to o.0.push) o.1)
            (not_given counter.Request n stored.request (λ m i. (stands (row.Count counter.Request m) i).0) below)))
        | inr up_to ↦ omega arith
      ]

  outbox_consistent : AreConsistent (as_outbox stored)
  outbox_consistent = record {
    pushes_counted = pushes_counted;
    commands_counted = λ n h. absurd (has_none SentCommand nat_cmp n h);
    apart = λ n h k. has_none SentCommand nat_cmp n k;
    one_each = λ u n q x y. elim (told nat_cmp_total nat_cmp-IsAntisymmetric n q) [
      | inl same ↦ same
      | inr apart ↦ absurd (good _ _ (PushedTwice n q x.0.to y.0.to x.0.push y.0.push u apart
          (listed (row.Push n x.0.to x.0.push) x.1) (listed (row.Push q y.0.to y.0.push) y.1) x.2 y.2))
    ];
  }

  module _ (all : (r : Row) → Contains rows r → Fits line rows r) where
    has_reply : (p : List ℕ) (n : ℕ) → (reply : Reply) × Contains rows (row.Reply p n reply) → IsTrue (contains_key stored.commands.replies (p, n))
    has_reply p n h = ap is_some (stands (row.Reply p n h.0) h.1)

    may_be_open : (p : List ℕ) (n : ℕ) (o : OpenCommand) → get stored.commands.pending (p, n) ≡ Some o → MayBeOpen made_state p n o
    may_be_open p n o has =
        let h = listed (row.Pending p n o) has in
        let f = all (row.Pending p n o) h in
        record {
          provider = f.provider;
          answered = has_reply p n f.answered;
          unsettled = none_else (get stored.commands.results (p, n)) (λ x e. good _ _ (OpenWithResult p n o x h (listed (row.Result p n x) e)));
          own = f.own_token;
          place = f.place;
        }

    may_stand : (id : List ℕ) (v : Session) → get stored.charged.sessions id ≡ Some v → MayStand made_state v
    may_stand id v has =
        let h = session_in id v has in
        let f = all (row.Session v) h in
        record { own = own_session line rows good v h; going = λ live. record { provider = f.provider live; place = f.place live; currency = f.currency live; priced = f.priced; uncharged = f.uncharged } }

    module _ (own_party : party_at line.parties.operator ≡ Ok line.parties.operator) where
      same_number : (k : OwnIdKind) (id : List ℕ) (n m : ℕ) → n ≤ max_whole → IsOwnId k line.parties.operator id m → id_key k line.parties.operator n ≡ key id → n ≡ m
      same_number k id n m below made same = elim (told nat_cmp_total nat_cmp-IsAntisymmetric n m) [
        | inl is ↦ is
        | inr apart ↦ absurd (ids_differ k line.parties.operator n m own_party below made.is_number apart (same ∙ ap key made.made))
      ]

      same_record_number : (x : Cdr) (n m : ℕ) → n ≤ max_whole → IsRecordId line.parties.operator x m → id_key own.Cdr line.parties.operator n ≡ key x.id → n ≡ m
      same_record_number x n m below made same = elim (bill_or_credit x) [
        | inl bill ↦ same_number own.Cdr x.id n m below (bill_made line.parties.operator x m made bill) same
        | inr credit ↦ absurd (no_credit own.Cdr own.Cdr line.parties.operator line.parties.operator n m (same ∙ ap key (credit_made line.parties.operator x m made credit)))
      ]

      session_counted : (n : ℕ) → n ≤ max_whole → IsTrue (contains_key stored.charged.sessions (id_key own.Session line.parties.operator n)) → n ≤ stored.charged.last_session
      session_counted n below h =
          let id = id_key own.Session line.parties.operator n in
          let v = has_some (get stored.charged.sessions id) h in
          let i = session_in id v.0 v.1 in
          let m = (all (row.Session v.0) i).made in
          let is : n ≡ m.0 = same_number own.Session v.0.id n m.0 below m.1 (key_of_session id v.0 v.1) in
          elim (cases_lt stored.charged.last_session n) [
            | inl over ↦ absurd (good _ _ (SessionNotGiven v.0 n i (subst (IsOwnId own.Session line.parties.operator v.0.id) (sym is) m.1)
                (not_given counter.Session n stored.charged.last_session (λ q j. (stands (row.Count counter.Session q) j).0) over)))
            | inr up_to ↦ omega arith
          ]

      cdr_counted : (n : ℕ) → n ≤ max_whole → IsTrue (contains_key stored.charged.cdrs (id_key own.Cdr line.parties.operator n)) → n ≤ stored.charged.last_cdr
      cdr_counted n below h =
          let id = id_key own.Cdr line.parties.operator n in
          let x = has_some (get stored.charged.cdrs id) h in
          let i = cdr_in id x.0 x.1 in
          let m = (all (row.Cdr x.0) i).made in
          let is : n ≡ m.0 = same_record_number x.0 n m.0 below m.1 (key_of_cdr id x.0 x.1) in
          elim (cases_lt stored.charged.last_cdr n) [
            | inl over ↦ absurd (good _ _ (CdrNotGiven x.0 n i (subst (IsRecordId line.parties.operator x.0) (sym is) m.1)
                (not_given counter.Cdr n stored.charged.last_cdr (λ q j. (stands (row.Count counter.Cdr q) j).0) over)))
            | inr up_to ↦ omega arith
          ]

      made_sound : IsSound made_state
      made_sound = record {
        one_claim = one_claim;
        pending = may_be_open;
        results = λ k x has. has_reply k.0 k.1 (all (row.Result k.0 k.1 x) (listed (row.Result k.0 k.1 x) has));
        reservations = λ p id r has. all (row.Reservation p id r) (listed (row.Reservation p id r) has);
        service = λ evse h. all (row.Service evse) (listed (row.Service evse) (has_unit (get stored.out_of_service evse) h));
        pushes = λ n o has. all (row.Push n o.to o.push) (listed (row.Push n o.to o.push) has);
        outbox = outbox_consistent;
        tokens_keyed = key_of_token;
        charged_keyed = record { sessions = key_of_session; cdrs = key_of_cdr };
        tokens = λ k t has. all (row.Token t) (token_in k t has);
        sessions = may_stand;
        cdrs = λ id x has. own_cdr line rows good x (cdr_in id x has);
        numbered = record { sessions = session_counted; cdrs = cdr_counted };
      }

    -- two charge detail records of different ids stand at different places
    two_bills : (x y : Cdr) → Contains rows (row.Cdr x) → Contains rows (row.Cdr y) → key x.id ≢ key y.id → AreAlike x y → key x.session_id ≡ key y.session_id →
        BillsTwice rows
    two_bills x y h k apart alike same =
        let here = slice_get-get_or rows h.0 (row.Cdr x) h.1 ∙ ap (λ (r : Row). Some r) h.2 in
        let there = slice_get-get_or rows k.0 (row.Cdr y) k.1 ∙ ap (λ (r : Row). Some r) k.2 in
        record {
          first = h.0;
          second = k.0;
          one = x;
          other = y;
          apart = λ at.
              let e : Some (row.Cdr x) ≡ Some (row.Cdr y) = sym here ∙ ap (slice_get rows) at ∙ there in
              let is : x ≡ y = cc in
              apart (ap (λ (z : Cdr). key z.id) is);
          one_is = here;
          other_is = there;
          alike = alike;
          same = same;
        }

    not_twice : (x y : Cdr) → Contains rows (row.Cdr x) → Contains rows (row.Cdr y) → key x.id ≢ key y.id → AreAlike x y → key x.session_id ≡ key y.session_id → ⊥
    unfolding two_bills
    not_twice x y h k apart alike same = elim (bill_or_credit y) [
      | inl bill ↦ good _ _ (BilledTwice (two_bills x y h k apart alike same) bill)
      | inr credit ↦ good _ _ (CreditedTwice (two_bills x y h k apart alike same) credit)
    ]

    made_billed : AreBilled stored
    made_billed = record {
      each = λ id v has done.
          let bill = (all (row.Session v) (session_in id v has)).billed done in
          (bill.0, stands (row.Cdr bill.0) bill.1, bill.2, bill.3);
      only = λ id x has.
          let ended = (all (row.Cdr x) (cdr_in id x has)).ended in
          (ended.0, subst (λ k. get stored.charged.sessions k ≡ Some ended.0) ended.2 (stands (row.Session ended.0) ended.1), ended.3);
      once = λ i j x y hx hy alike same. elim (told text_total text_exact (key x.id) (key y.id)) [
        | inl is ↦ key_of_cdr i x hx ∙ is ∙ sym (key_of_cdr j y hy)
        | inr apart ↦ absurd (not_twice x y (cdr_in i x hx) (cdr_in j y hy) apart alike same)
      ];
      credited = λ id x has credit.
          let bill = (all (row.Cdr x) (cdr_in id x has)).credited credit in
          (bill.0, stands (row.Cdr bill.0) bill.1, bill.2);
    }

    made_whole : IsWhole made_state
    made_whole = record {
      sessions = λ id v has. (all (row.Session v) (session_in id v has)).made;
      resumable = λ id v has stuck. elim stuck [
        | inl reservation ↦ good _ _ (OfReservation v (session_in id v has) reservation)
        | inr (inl not_priced) ↦ costs v (session_in id v has) not_priced
        | inr (inr charged) ↦ good _ _ (ChargedEarly v (session_in id v has) charged)
      ];
      cdrs = λ id x has. (all (row.Cdr x) (cdr_in id x has)).made;
      billed = made_billed;
    }

pub others_bad : OtherRowsAreBad
others_bad line rows own_party none good = all_fit line rows good rows (fits line rows good) (λ all.
    none (with_rows (gathered_rows rows) (opening line)) (made_sound line rows good all own_party)
    (record { of_site = refl; has_rows = gathered_are line rows good; whole = made_whole line rows good all }))
