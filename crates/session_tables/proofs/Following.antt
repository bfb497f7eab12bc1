-- What a report makes of a version may follow it, and is one.
use Rattle.std.proofs.Common.{◌≡◌, ℕ, ℤ, refl, sym, subst, ◌∙◌, inl, inr, arith}
use Rattle.std.proofs.lemmas.Int.{ints}
use Rattle.std.specs.Prelude.{Option}
use Rattle.ocpi_types.specs.Prices.{price_at}
use Rattle.ocpi_types.specs.declared.events.ChargerEvent.{ChargerEvent}
use Rattle.ocpi_types.specs.declared.events.ChargerEvent.TheVariants as event
use Rattle.ocpi_types.specs.declared.sessions.Price.{Price}
use Rattle.ocpi_types.specs.declared.sessions.Session.{Session}
use Rattle.ocpi_types.specs.declared.site.Site.{Site}
use Rattle.ocpi_types.specs.declared.words.SessionStatus.{SessionStatus}
use Rattle.ocpi_types.specs.declared.words.SessionStatus.TheVariants.{Active, Completed, Invalid, Pending}
use Rattle.session_state.proofs.PastLemmas.{costs_nothing}
use Rattle.session_state.specs.Versions.{IsPriced, IsUncharged, ended}
use Rattle.session_state.specs.Pasts.{IsSame, IsTurn, MayFollow}
use Rattle.session_tables.specs.Laws.{BeginningsAreOfSite, MovesAreOne, MovesMayFollow}
use Rattle.session_tables.specs.Moves.{Ends, Makes}
use Rattle.session_tables.proofs.Inverting.{accepted_for, answered_for, unanswered_for}

same_kept : (v : Session) (start : ℕ) (end : Option ℕ) (kwh : ℤ) (total : Option Price) (status : SessionStatus) (stamp : ℕ)
    → IsSame v (record v { start_date_time = start; end_date_time = end; kwh = kwh; total_cost = total; status = status; last_updated = stamp })
same_kept v start end kwh total status stamp = record {
  party = refl;
  id = refl;
  cdr_token = refl;
  auth_method = refl;
  authorization_reference = refl;
  location_id = refl;
  evse_uid = refl;
  connector_id = refl;
  currency = refl;
}

module _ (site : Site) (at : ℕ) (v w : Session) (cost : IsPriced (price_at site) v) where
  abbrev Follows : Session → Type 0
  Follows x = MayFollow (price_at site) v x

  -- the end of a session may follow it
  ends_follow : (status : SessionStatus) → IsTurn v.status status → w ≡ ended status at v → Follows w
  ends_follow status turn is =
      subst Follows (sym is) (record { later = omega arith; no_less = omega (arith, ints); turn = turn; same = same_kept v _ _ _ _ _ _; priced = cost })

  ending_follows : Ends at v w → Follows w
  ending_follows (inl (s, is)) = ends_follow Completed (let T : SessionStatus → Type 0 = λ x. IsTurn x Completed in subst T (sym s) tt) is
  ending_follows (inr (s, is)) = ends_follow Invalid (let T : SessionStatus → Type 0 = λ x. IsTurn x Invalid in subst T (sym s) tt) is

  makes_follow : (report : ChargerEvent) → IsUncharged v → Makes (price_at site v.start_date_time) at report v w → Follows w
  makes_follow (event.Starts e) uncharged (s, is) = subst Follows (sym is) (record {
    later = omega arith;
    no_less = omega (arith, ints);
    turn = let T : SessionStatus → Type 0 = λ x. IsTurn x Active in subst T (sym s) tt;
    same = same_kept v _ _ _ _ _ _;
    priced = costs_nothing (price_at site v.start_date_time) (price_at site at) v (uncharged s) cost;
  })
  makes_follow (event.Meter e kwh) uncharged (s, can, is) = subst Follows (sym is) (record {
    later = omega arith;
    no_less = can.no_less;
    turn = let T : SessionStatus → Type 0 = λ x. IsTurn x x in subst T (sym s) tt;
    same = same_kept v _ _ _ _ _ _;
    priced = refl;
  })
  makes_follow (event.Stops e) uncharged ends = ending_follows ends
  makes_follow (event.Fault e) uncharged ends = ending_follows ends
  makes_follow (event.Accepts p n) uncharged none = absurd none
  makes_follow (event.Refuses p n) uncharged none = absurd none
  makes_follow (event.Unlocked p n) uncharged none = absurd none
  makes_follow (event.Swipe e k u t) uncharged none = absurd none

pub may_follow : MovesMayFollow
may_follow site s at report v w moves cost uncharged later = makes_follow site at v w cost report uncharged moves.makes

one_end : (at : ℕ) (v w x : Session) → Ends at v w → Ends at v x → w ≡ x
one_end at v w x (inl (s, is)) (inl (_, other)) = is ∙ sym other
one_end at v w x (inr (s, is)) (inr (_, other)) = is ∙ sym other
one_end at v w x (inl (s, is)) (inr (t, other)) = let never : Active ≡ Pending = sym s ∙ t in absurd (cc)
one_end at v w x (inr (s, is)) (inl (t, other)) = let never : Active ≡ Pending = sym t ∙ s in absurd (cc)

one_made : (price : ℤ) (at : ℕ) (report : ChargerEvent) (v w x : Session) → Makes price at report v w → Makes price at report v x → w ≡ x
one_made price at (event.Starts e) v w x (_, is) (_, other) = is ∙ sym other
one_made price at (event.Meter e kwh) v w x (_, _, is) (_, _, other) = is ∙ sym other
one_made price at (event.Stops e) v w x a b = one_end at v w x a b
one_made price at (event.Fault e) v w x a b = one_end at v w x a b
one_made price at (event.Accepts p n) v w x a b = absurd a
one_made price at (event.Refuses p n) v w x a b = absurd a
one_made price at (event.Unlocked p n) v w x a b = absurd a
one_made price at (event.Swipe e k u t) v w x a b = absurd a

pub are_one : MovesAreOne
are_one site s at report v w x a b = one_made (price_at site v.start_date_time) at report v w x a.makes b.makes

pub are_of_site : BeginningsAreOfSite
are_of_site = record {
  answered = λ site s w a b by. (answered_for site s w a b by).2.of_site;
  unanswered = λ site s at w b x. (unanswered_for site _ w b x).of_site;
  accepted = λ site o b x. (accepted_for site o b x).of_site;
}
