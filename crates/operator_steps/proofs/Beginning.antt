-- A version of a session is pushed and stored: the rows allow it, and it may come next.
use Rattle.std.proofs.Common.{◌≡◌, ◌≤◌, ◌<◌, ◌+◌, ℕ, Bool, true, false, nat_eq, List, inl, inr, refl, sym, ap, subst, arith}
use Rattle.std.specs.Prelude.{Option, Some, None, Ok, is_some}
use Rattle.std.proofs.lemmas.Bool.{eqb-true, eqb-false}
use Rattle.std.specs.Cmp.{nat_cmp_total}
use Rattle.std.specs.Ordering.{nat_cmp}
use Rattle.std.specs.FinMap.{get, get-empty, nat_cmp-IsAntisymmetric}
use Rattle.tables.proofs.Maps.{of_remove}
use Rattle.tables.proofs.Options.{known, none_some}
use Rattle.ocpi_text.specs.Party.{party_at}
use Rattle.ocpi_text.specs.OwnIds.{own_id_text}
use Rattle.ocpi_text.specs.Text.{key}
use Rattle.ocpi_text.specs.Whole.{max_whole}
use Rattle.ocpi_text.specs.declared.own_ids.OwnIdKind.{OwnIdKind}
use Rattle.ocpi_text.specs.declared.own_ids.OwnIdKind.TheVariants as kind
use Rattle.ocpi_types.specs.Prices.{price_at}
use Rattle.ocpi_types.specs.declared.sessions.Session.{Session}
use Rattle.ocpi_types.specs.declared.stored.Push.TheVariants as push
use Rattle.site_book.specs.Sites.{IsConnectorOf}
use Rattle.site_book.specs.declared.claim.Claim.{Claim}
use Rattle.outbox.specs.Pushes.{IsAbout, IsReplaced, OneEach, Pushes, subject}
use Rattle.outbox.specs.declared.push_book.Subject.{Subject}
use Rattle.node_steps.specs.Peers.{HasPeer}
use Rattle.operator_rows.specs.State.{State, Rows, HasClaim}
use Rattle.operator_rows.specs.Steps.{IsNext, IsNextOf}
use Rattle.session_book.specs.Numbers.{AreNumbered}
use Rattle.session_book.proofs.OwnIds.{ids_differ}
use Rattle.session_state.proofs.PastLemmas.{first_cost}
use Rattle.session_tables.specs.declared.beginning.Beginning.{Beginning}
use Rattle.session_tables.specs.Beginnings.{opening_of}
use Rattle.operator_rows.specs.Sound.{MayPutSession, with_rows}
use Rattle.operator_steps.specs.Sessions.{first_of, versioned}
use Rattle.operator_steps.proofs.DecidedSteps.{claim_of_same}
use Rattle.operator_steps.proofs.Fitting.{AreFit}

-- the push that a newer one replaces is the only one about the same
pub replaced_only : (m : Pushes) (u : Subject) (old : Option ℕ) (q : ℕ) → OneEach m → IsReplaced m (Some u) old → IsAbout m u q → old ≡ Some q
replaced_only m u None q one h about = absurd (h q about)
replaced_only m u (Some n) q one h about = ap (λ z. Some z) (one u n q h about)

-- a version that may be put may be once pushes have changed
pub put_with : (t : State) (r : Rows) (v : Session) → MayPutSession t v → r.commands.pending ≡ t.rows.commands.pending → r.charged.sessions ≡ t.rows.charged.sessions →
    r.booked.reservations ≡ t.rows.booked.reservations → r.charged.last_session ≡ t.rows.charged.last_session → MayPutSession (with_rows r t) v
put_with t r v h pending sessions reservations last = record {
  stands = record {
    own = h.stands.own;
    going = λ live. let g = h.stands.going live in record { provider = g.provider; place = g.place; currency = g.currency; priced = g.priced; uncharged = g.uncharged };
  };
  alone = λ live d claim. h.alone live d (claim_of_same r t.rows (key v.evse_uid) d pending sessions reservations claim);
  number = λ n below same. subst (λ l. n ≤ l) (sym last) (h.number n below same);
}

-- the rows allow a version where its push replaces the only one about its session
pub version_fits : (t : State) (at last : ℕ) (to : List ℕ) (old : Option ℕ) (v : Session) → HasPeer t.providers (key to) → last + 1 ≤ t.rows.request →
    ((u : Subject) (q : ℕ) → subject to (push.PutSession v) ≡ Some u → IsAbout t.rows.pushes u q → old ≡ Some q) → MayPutSession t v → AreFit t (versioned at last to old v)
version_fits t at last to None v peer counted only may = (
  (record { peer = peer; outbox = record { counted = counted; apart = get-empty nat_cmp (last + 1); alone = λ u q is about. absurd (none_some q (only u q is about)) } }, tt),
  ((put_with t _ v may refl refl refl refl, tt), tt),
)
version_fits t at last to (Some k) v peer counted only may = (
  (tt, tt),
  (
    (
      record {
        peer = peer;
        outbox = record {
          counted = counted;
          apart = get-empty nat_cmp (last + 1);
          alone = λ u q is about.
              let (apart, stood) = of_remove nat_cmp_total nat_cmp-IsAntisymmetric t.rows.pushes k q about.0 about.1 in
              let same : Some k ≡ Some q = only u q is (about.0, stood, about.2) in
              let one : q ≡ k = cc in
              absurd (apart one);
        };
      },
      tt,
    ),
    ((put_with t _ v may refl refl refl refl, tt), tt),
  ),
)

-- ids of one kind that are the same are of one number
pub same_number : (own_kind : OwnIdKind) (party : List ℕ) (m n : ℕ) → party_at party ≡ Ok party → m ≤ max_whole → n ≤ max_whole → key (own_id_text own_kind party m) ≡ key (own_id_text own_kind party n) → m ≡ n
same_number own_kind party m n own below range same = decided (nat_eq m n) refl
  where
    decided : (t : Bool) → nat_eq m n ≡ t → m ≡ n
    decided true is = eqb-true m n is
    decided false is = absurd (ids_differ own_kind party m n own below range (eqb-false m n is) same)

-- the session of the next number
module _ (s : State) (n : ℕ) (b : Beginning) (at : ℕ) (range : n ≤ max_whole) (own : party_at s.party ≡ Ok s.party) where
  abbrev v : Session
  v = first_of s at n b

  -- its id is that of no other number
  of_number : (m : ℕ) → m ≤ max_whole → key (own_id_text kind.Session s.party m) ≡ key v.id → m ≡ n
  of_number m below same = same_number kind.Session s.party m n own below range same

  -- it may be put where its EVSE is free, and its number was given
  pub first_may : (r : Rows) → HasPeer s.providers (key b.token.party) → IsConnectorOf s.site.locations (key b.place.evse_uid) (key b.place.connector_id) →
      ((d : Claim) → HasClaim r (key b.place.evse_uid) d → ⊥) → n ≤ r.charged.last_session → MayPutSession (with_rows r s) v
  first_may r peer place free given = record {
    stands = record { own = refl; going = λ live. record { provider = peer; place = place; currency = refl; priced = first_cost (opening_of s.party s.site n b) at (price_at s.site at); uncharged = λ pending. refl } };
    alone = λ live d claim. absurd (free d claim);
    number = λ m below same. let one = of_number m below same in omega (arith, one, given);
  }

  -- and it is the first of its session
  pub first_next : AreNumbered s.party s.rows.charged → s.rows.charged.last_session < n → IsNext s v
  first_next numbered above =
      let none : get s.rows.charged.sessions (key v.id) ≡ None = elim (known (get s.rows.charged.sessions (key v.id))) [
        | inl none ↦ none
        | inr (w, some) ↦ absurd (let given = numbered.sessions n range (ap is_some some) in omega (arith, given, above))
      ] in
      subst (λ o. IsNextOf (price_at s.site) o v) (sym none) (refl, first_cost (opening_of s.party s.site n b) at (price_at s.site at), λ pending. refl)
