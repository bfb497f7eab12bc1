-- A command is decided: the acts may be carried out.
use Rattle.std.proofs.Common.{◌≡◌, ◌≤◌, ◌+◌, ℕ, List, [], ◌∷◌, ◌++◌, inl, inr, refl, sym, ap, subst, ◌∙◌, arith}
use Rattle.std.specs.Prelude.{Option, Some, None, IsTrue, is_some}
use Rattle.std.specs.FinMap.{get, insert, remove, contains_key}
use Rattle.tables.specs.Keys.{text_number_total, text_number_exact, text_pair_total, text_pair_exact}
use Rattle.tables.proofs.Options.{known, none_contained}
use Rattle.tables.proofs.Maps.{get-insert_same, of_remove}
use Rattle.ocpi_text.specs.Text.{key}
use Rattle.ocpi_types.specs.Commands.{reference_of, url_of}
use Rattle.ocpi_types.specs.declared.rows.Place.{Place}
use Rattle.ocpi_types.specs.declared.commands.Command.{Command}
use Rattle.ocpi_types.specs.declared.commands.Command.TheVariants as command
use Rattle.ocpi_types.specs.declared.stored.OpenCommand.{OpenCommand}
use Rattle.ocpi_types.specs.declared.stored.Reply.{Reply}
use Rattle.ocpi_types.specs.declared.stored.Reservation.{Reservation}
use Rattle.ocpi_types.specs.declared.words.CommandResultType.{CommandResultType}
use Rattle.ocpi_types.specs.declared.words.CommandResultType.TheVariants.{Accepted}
use Rattle.site_book.specs.Sites.{IsSiteOf}
use Rattle.site_book.specs.declared.claim.Claim.{Claim}
use Rattle.site_book.specs.declared.claim.Claim.TheVariants.{OpenStart, Live, Reserved}
use Rattle.command_book.specs.Stored as book
use Rattle.node_steps.specs.Acts.{Act, all_changes, answered}
use Rattle.node_steps.specs.Peers.{HasPeer, IsPeer}
use Rattle.operator_rows.specs.State.{State, Rows, HasClaim, IsStart, Takes}
use Rattle.operator_rows.specs.Sound.{HasPlace, IsConsistent, IsOwnStart, IsSound, MayBeOpen, MayClaim, MayPutReservation}
use Rattle.operator_tables.specs.declared.decision.Decision.{Decision}
use Rattle.operator_tables.specs.declared.decision.Decision.TheVariants as decision
use Rattle.operator_tables.specs.Outcomes.{HoldsFor, Opens, Reserves, Starts, Tells}
use Rattle.operator_steps.specs.Acts.{deadline, decided_acts, freed, marked, opened, own_acts, reply_of, settled, spent, used}
use Rattle.operator_steps.proofs.Orderly.{AreOrderly, orderly_kinds}
use Rattle.operator_steps.proofs.Fitting.{AreFit, fit_none, left_by_act, numbered_for}
use Rattle.operator_steps.proofs.Sending.{ActsAreSent, sent_none}
use Rattle.operator_steps.proofs.Charging.{AreNext, next_kinds}
use Rattle.operator_steps.proofs.Planning.{ArePlanned}
use Rattle.operator_steps.proofs.Results.{result_sent, settled_fit}

-- the claims on an EVSE are read from three maps alone
pub claim_of_same : (s t : Rows) (evse : List ℕ) (d : Claim) → s.commands.pending ≡ t.commands.pending → s.charged.sessions ≡ t.charged.sessions →
    s.booked.reservations ≡ t.booked.reservations → HasClaim s evse d → HasClaim t evse d
claim_of_same s t evse (OpenStart p n) e g f (o, stands, takes) = (o, ap (λ m. get m (p, n)) (sym e) ∙ stands, takes)
claim_of_same s t evse (Live p id) e g f (v, stands, here) = (v, ap (λ m. get m id) (sym g) ∙ stands, here)
claim_of_same s t evse (Reserved p id) e g f (r, stands, here) = (r, ap (λ m. get m (p, id)) (sym f) ∙ stands, here)

-- once the only claim on an EVSE, a reservation, has ended, nothing claims it
pub freed_unclaimed : (s t : Rows) (p id evse : List ℕ) (d : Claim) → s.commands.pending ≡ t.commands.pending → s.charged.sessions ≡ t.charged.sessions → remove s.booked.reservations (p, id) ≡ t.booked.reservations →
    ((c : Claim) → HasClaim s evse c → c ≡ Reserved p id) → HasClaim t evse d → ⊥
freed_unclaimed s t p id evse (OpenStart q n) e g f only (o, stands, takes) =
    let never : OpenStart q n ≡ Reserved p id = only (OpenStart q n) (o, ap (λ m. get m (q, n)) e ∙ stands, takes) in cc
freed_unclaimed s t p id evse (Live q session) e g f only (v, stands, here) =
    let never : Live q session ≡ Reserved p id = only (Live q session) (v, ap (λ m. get m session) g ∙ stands, here) in cc
freed_unclaimed s t p id evse (Reserved q other) e g f only (r, stands, here) =
    let (apart, stood) = of_remove text_pair_total text_pair_exact s.booked.reservations (p, id) (q, other) r (ap (λ m. get m (q, other)) f ∙ stands) in
    let same : Reserved q other ≡ Reserved p id = only (Reserved q other) (r, stood, here) in
    let a : q ≡ p = cc in
    let b : other ≡ id = cc in
    apart (λ i. (a i, b i))

-- which acts change which rows
start_orderly : (p to : List ℕ) (n : ℕ) (r : Reply) (o : OpenCommand) (reservation reference : Option (List ℕ)) → AreOrderly (answered p to n r ∷ ((used p reservation ++ (opened p n o ∷ spent p reference)) ++ []))
start_orderly p to n r o None None = orderly_kinds _ refl refl
start_orderly p to n r o None (Some x) = orderly_kinds _ refl refl
start_orderly p to n r o (Some id) None = orderly_kinds _ refl refl
start_orderly p to n r o (Some id) (Some x) = orderly_kinds _ refl refl

pub decided_orderly : (at last : ℕ) (to p : List ℕ) (n : ℕ) (c : Command) (d : Decision) → AreOrderly (decided_acts at last to p n c d)
decided_orderly at last to p n c (decision.Refused status) = orderly_kinds (decided_acts at last to p n c (decision.Refused status)) refl refl
decided_orderly at last to p n c (decision.Answered w) = orderly_kinds (decided_acts at last to p n c (decision.Answered w)) refl refl
decided_orderly at last to p n c decision.Opened = orderly_kinds (decided_acts at last to p n c decision.Opened) refl refl
decided_orderly at last to p n c (decision.Started place reservation) =
    start_orderly p to n (reply_of at (decision.Started place reservation)) (book.open_command c (Some place) (deadline at)) reservation (reference_of c)
decided_orderly at last to p n c (decision.Resulted x) = orderly_kinds (decided_acts at last to p n c (decision.Resulted x)) refl refl
decided_orderly at last to p n c (decision.Noted id x) = orderly_kinds (decided_acts at last to p n c (decision.Noted id x)) refl refl
decided_orderly at last to p n c (decision.Reserved id r) = orderly_kinds (decided_acts at last to p n c (decision.Reserved id r)) refl refl
decided_orderly at last to p n c (decision.Cancelled id) = orderly_kinds (decided_acts at last to p n c (decision.Cancelled id)) refl refl

-- what is known where a command comes that has no reply
module _ (s : State) (h : IsSound s) (p : List ℕ) (n : ℕ) (new : get s.rows.commands.replies (p, n) ≡ None) where
  pub unopened : get s.rows.commands.pending (p, n) ≡ None
  unopened = elim (known (get s.rows.commands.pending (p, n))) [
    | inl none ↦ none
    | inr (o, some) ↦ absurd (none_contained (get s.rows.commands.replies (p, n)) (h.pending p n o some).answered new)
  ]

  pub unended : get s.rows.commands.results (p, n) ≡ None
  unended = elim (known (get s.rows.commands.results (p, n))) [
    | inl none ↦ none
    | inr (x, some) ↦ absurd (none_contained (get s.rows.commands.replies (p, n)) (h.results (p, n) x some) new)
  ]

replied : (m : book.Replies) (p : List ℕ) (n : ℕ) (r : Reply) → IsTrue (contains_key (insert m (p, n) r) (p, n))
replied m p n r = ap is_some (get-insert_same text_number_total text_number_exact m (p, n) r)

spent_fits : (s : State) (p : List ℕ) (reference : Option (List ℕ)) → AreFit s (spent p reference)
spent_fits s p None = tt
spent_fits s p (Some x) = ((tt, tt), tt)

-- the EVSE that a start takes is the one of its place
taken : (c : Command) (place : Place) (until : ℕ) (evse : List ℕ) → Takes (book.open_command c (Some place) until) evse → key place.evse_uid ≡ evse
taken c place until evse t = let e : Some place.evse_uid ≡ Some t.uid = t.named in let same : place.evse_uid ≡ t.uid = cc in ap key same ∙ t.same

module _ (s : State) (h : IsConsistent s) (at : ℕ) (to sender : List ℕ) (n : ℕ) (c : Command) (new : get s.rows.commands.replies (key sender, n) ≡ None) (peer : IsPeer s.providers sender to) where
  abbrev p : List ℕ
  p = key sender

  abbrev acts_of : Decision → List Act
  acts_of d = decided_acts at s.rows.request to p n c d

  of_peers : HasPeer s.providers p
  of_peers = (to, peer.listed, peer.same)

  to_peer : HasPeer s.providers (key to)
  to_peer = (to, peer.listed, refl)

  -- once the counters are stored, and the reply
  abbrev first : Decision → State
  first d = left_by_act (answered p to n (reply_of at d)) (numbered_for (acts_of d) s)

  -- the command may be open then
  may_open : (t : State) (o : OpenCommand) → t.providers ≡ s.providers → t.site ≡ s.site → IsTrue (contains_key t.rows.commands.replies (p, n)) → t.rows.commands.results ≡ s.rows.commands.results →
      IsOwnStart p o.command → (IsStart o.command → HasPlace s.site o) → MayBeOpen t p n o
  may_open t o providers site answers results own place = record {
    provider = subst (λ l. HasPeer l p) (sym providers) of_peers;
    answered = answers;
    unsettled = ap (λ m. get m (p, n)) results ∙ unended s h.sound p n new;
    own = own;
    place = λ start. subst (λ x. HasPlace x o) (sym site) (place start);
  }

  -- what is no start has no token of a start
  no_own_start : (x : Command) → ¬ IsStart x → IsOwnStart p x
  no_own_start (command.StartSession x) none = absurd (none tt)
  no_own_start (command.StopSession x) none = tt
  no_own_start (command.ReserveNow x) none = tt
  no_own_start (command.CancelReservation x) none = tt
  no_own_start (command.UnlockConnector x) none = tt

  -- an unlock or a stop opens no start
  unlock_fits : Opens s sender c → AreFit (first decision.Opened) (own_acts at p n c decision.Opened)
  unlock_fits opens = (
    (
      record {
        may = may_open (first decision.Opened) (book.open_command c None (deadline at)) refl refl (replied s.rows.commands.replies p n (reply_of at decision.Opened)) refl (no_own_start c opens.no_start) (λ start. absurd (opens.no_start start));
        alone = λ evse takes. absurd (opens.no_start takes.start);
      },
      tt,
    ),
    tt,
  )

  module _ (place : Place) where
    abbrev o : OpenCommand
    o = book.open_command c (Some place) (deadline at)

    -- the place of a start is of the site
    start_place : (reservation : Option (List ℕ)) → Starts s sender c place reservation → HasPlace s.site o
    start_place reservation starts = record { uid = place.evse_uid; evse_is = refl; connector = place.connector_id; connector_is = refl; of_site = starts.of_site }

    -- its token is the sender's
    own_start : (reservation : Option (List ℕ)) → Starts s sender c place reservation → IsOwnStart p c
    own_start reservation starts = subst (IsOwnStart p) (sym starts.command_is) starts.own

    -- a start that takes an EVSE which nothing claims
    start_alone : (t : Rows) → ((d : Claim) → HasClaim t (key place.evse_uid) d → ⊥) → (evse : List ℕ) → Takes o evse → MayClaim t evse (OpenStart p n)
    start_alone t unclaimed evse takes d claim = absurd (unclaimed d (subst (λ e. HasClaim t e d) (sym (taken c place (deadline at) evse takes)) claim))

    -- an EVSE that is free, or the only claim on which is the reservation that is used
    start_fits : (reservation : Option (List ℕ)) → Starts s sender c place reservation → AreFit (first (decision.Started place reservation)) (used p reservation ++ (opened p n o ∷ spent p (reference_of c)))
    start_fits None starts =
        let t = first (decision.Started place None) in (
          (
            record {
              may = may_open t o refl refl (replied s.rows.commands.replies p n (reply_of at (decision.Started place None))) refl (own_start None starts) (λ start. start_place None starts);
              alone = start_alone t.rows (λ d claim. starts.available d (claim_of_same t.rows s.rows (key place.evse_uid) d refl refl refl claim));
            },
            tt,
          ),
          spent_fits _ p (reference_of c),
        )
    start_fits (Some id) starts =
        let holds : HoldsFor s.rows p id (key place.evse_uid) starts.start = starts.available in
        let t = left_by_act (freed p id) (first (decision.Started place (Some id))) in (
          (tt, tt),
          (
            (
              record {
                may = may_open t o refl refl (replied s.rows.commands.replies p n (reply_of at (decision.Started place (Some id)))) refl (own_start (Some id) starts) (λ start. start_place (Some id) starts);
                alone = start_alone t.rows (λ d claim. freed_unclaimed s.rows t.rows p id (key place.evse_uid) d refl refl refl
                    (λ x had. h.sound.one_claim (key place.evse_uid) x (Reserved p id) had (holds.reservation, holds.stands, holds.here)) claim);
              },
              tt,
            ),
            spent_fits _ p (reference_of c),
          ),
        )

  -- the result of a command that was just answered
  result_fits : (t : State) (x : CommandResultType) → t.providers ≡ s.providers → s.rows.request + 1 ≤ t.rows.request → IsTrue (contains_key t.rows.commands.replies (p, n)) →
      t.rows.commands.pending ≡ s.rows.commands.pending → AreFit t (settled at s.rows.request to p n (url_of c) x)
  result_fits t x providers counted answers pending =
      settled_fit t at s.rows.request to p n (url_of c) x (subst (λ l. HasPeer l (key to)) (sym providers) to_peer) counted answers (ap (λ m. get m (p, n)) pending ∙ unopened s h.sound p n new)

  -- nothing but a reservation of that id claims the EVSE of one that is made
  made_fits : (id : List ℕ) (r : Reservation) → Reserves s at sender n c id r → (t : State) → t.site ≡ s.site → t.rows.commands.pending ≡ s.rows.commands.pending →
      t.rows.charged.sessions ≡ s.rows.charged.sessions → t.rows.booked.reservations ≡ s.rows.booked.reservations → MayPutReservation t p id r
  made_fits id r tells t site pending sessions reservations = record {
    place = subst (λ x. IsSiteOf x.locations (key r.evse_uid) (key r.location_id)) (sym site) tells.of_site;
    alone = λ d claim. tells.may d (claim_of_same t.rows s.rows (key r.evse_uid) d pending sessions reservations claim);
  }

  -- each decision fits
  decided_fits : (d : Decision) → Tells s at sender n c d → AreFit (numbered_for (acts_of d) s) (acts_of d)
  decided_fits (decision.Refused status) tells = ((tt, tt), tt)
  decided_fits (decision.Answered w) tells = ((tt, tt), tt)
  decided_fits decision.Opened tells = ((tt, tt), unlock_fits tells)
  decided_fits (decision.Started place reservation) tells =
      ((tt, tt), fit_none (first (decision.Started place reservation)) (used p reservation ++ (opened p n (book.open_command c (Some place) (deadline at)) ∷ spent p (reference_of c))) (start_fits place reservation tells))
  decided_fits (decision.Resulted x) tells =
      ((tt, tt), result_fits (first (decision.Resulted x)) x refl (omega arith) (replied s.rows.commands.replies p n (reply_of at (decision.Resulted x))) refl)
  decided_fits (decision.Noted id x) tells =
      ((tt, tt), ((tt, tt), result_fits _ x refl (omega arith) (replied s.rows.commands.replies p n (reply_of at (decision.Noted id x))) refl))
  decided_fits (decision.Reserved id r) tells = (
    (tt, tt),
    (
      (tt, tt),
      (
        (made_fits id r tells (left_by_act (marked p id n) (first (decision.Reserved id r))) refl refl refl refl, tt),
        result_fits _ Accepted refl (omega arith) (replied s.rows.commands.replies p n (reply_of at (decision.Reserved id r))) refl,
      ),
    ),
  )
  decided_fits (decision.Cancelled id) tells =
      ((tt, tt), ((tt, tt), ((tt, tt), result_fits _ Accepted refl (omega arith) (replied s.rows.commands.replies p n (reply_of at (decision.Cancelled id))) refl)))

  start_sent : (r : Reply) (o : OpenCommand) (reservation reference : Option (List ℕ)) → ActsAreSent s (answered p to n r ∷ ((used p reservation ++ (opened p n o ∷ spent p reference)) ++ []))
  start_sent r o None None = sent_none s _
  start_sent r o None (Some x) = sent_none s _
  start_sent r o (Some id) None = sent_none s _
  start_sent r o (Some id) (Some x) = sent_none s _

  decided_sent : (d : Decision) → ActsAreSent s (acts_of d)
  decided_sent (decision.Refused status) = sent_none s (all_changes (acts_of (decision.Refused status)))
  decided_sent (decision.Answered w) = sent_none s (all_changes (acts_of (decision.Answered w)))
  decided_sent decision.Opened = sent_none s (all_changes (acts_of decision.Opened))
  decided_sent (decision.Started place reservation) = start_sent (reply_of at (decision.Started place reservation)) (book.open_command c (Some place) (deadline at)) reservation (reference_of c)
  decided_sent (decision.Resulted x) = result_sent s h at to (url_of c) x (all_changes (acts_of (decision.Resulted x))) (1, omega arith, refl)
  decided_sent (decision.Noted id x) = result_sent s h at to (url_of c) x (all_changes (acts_of (decision.Noted id x))) (2, omega arith, refl)
  decided_sent (decision.Reserved id r) = result_sent s h at to (url_of c) Accepted (all_changes (acts_of (decision.Reserved id r))) (3, omega arith, refl)
  decided_sent (decision.Cancelled id) = result_sent s h at to (url_of c) Accepted (all_changes (acts_of (decision.Cancelled id))) (3, omega arith, refl)

  -- no session changes
  start_next : (r : Reply) (o : OpenCommand) (reservation reference : Option (List ℕ)) → AreNext s (all_changes (answered p to n r ∷ ((used p reservation ++ (opened p n o ∷ spent p reference)) ++ [])))
  start_next r o None None = next_kinds s _ refl refl
  start_next r o None (Some x) = next_kinds s _ refl refl
  start_next r o (Some id) None = next_kinds s _ refl refl
  start_next r o (Some id) (Some x) = next_kinds s _ refl refl

  decided_next : (d : Decision) → AreNext s (all_changes (acts_of d))
  decided_next (decision.Refused status) = next_kinds s _ refl refl
  decided_next (decision.Answered w) = next_kinds s _ refl refl
  decided_next decision.Opened = next_kinds s _ refl refl
  decided_next (decision.Started place reservation) = start_next (reply_of at (decision.Started place reservation)) (book.open_command c (Some place) (deadline at)) reservation (reference_of c)
  decided_next (decision.Resulted x) = next_kinds s _ refl refl
  decided_next (decision.Noted id x) = next_kinds s _ refl refl
  decided_next (decision.Reserved id r) = next_kinds s _ refl refl
  decided_next (decision.Cancelled id) = next_kinds s _ refl refl

  pub decided_planned : (d : Decision) → Tells s at sender n c d → ArePlanned s (acts_of d)
  decided_planned d tells = record { orderly = decided_orderly at s.rows.request to p n c d; fit = decided_fits d tells; sent = decided_sent d; next = decided_next d }
