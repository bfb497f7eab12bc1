-- How a node that was opened is begun with, and how ways that are cut are settled.
use Rattle.std.proofs.Common.{◌≡◌, ◌≢◌, ◌⊎◌, ℕ, suc, ◌+◌, List, [], ◌∷◌, ◌++◌, Bool, Option, None, Some, get_or, length, slice_get, refl, sym, ap, ap₂, subst, ◌∙◌, arith, length-append}
use Rattle.std.proofs.lemmas.Option.{same_Some, slice_get_read, slice_get_within}
use Rattle.node_runs.specs.NodeTurns.{number_from}
use Rattle.ocpi_types.specs.Setups.{party_of}
use Rattle.ocpi_types.specs.declared.rows.Row.{Row}
use Rattle.ocpi_types.specs.declared.setup.Node.{Node}
use Rattle.world_steps.specs.World.{NodeState}
use Rattle.replays.specs.LineTurns.{Held, Lists, Running, Store, held_in}
use Rattle.replays.specs.Reading.{Doubt, IsAmong, IsOpenedIn, IsOther, MayBe, Reader, Story, run_over, with_parties}
use Rattle.replays.specs.RunParts.{Begins}
use Rattle.replays.specs.Ways.{IsWay}
use Rattle.replays.specs.declared.opening.Opened.{Opened}

-- ---- a line in doubt

pub some_doubt : (o : Option Doubt) → (o ≡ None → ⊥) → (d : Doubt) × (o ≡ Some d)
some_doubt None none = absurd (none refl)
some_doubt (Some d) none = (d, refl)

pub doubt_where : {A : Type 0} (o : Option Doubt) (xs : List A) → (o ≡ None → xs ≡ []) → xs ≢ [] → (d : Doubt) × (o ≡ Some d)
doubt_where o xs nothing some = some_doubt o (λ none. some (nothing none))

-- ---- who may be it

-- what is told beside that is nothing to it
pub may_so : (r t : Reader) → r.earlier ≡ t.earlier → r.parties ≡ t.parties → (w : List ℕ) → MayBe r w → MayBe t w
may_so r t earlier parties w (other, one) = (subst (λ l. IsOther l w) earlier other, subst (λ l. (l ≡ []) ⊎ IsAmong l w) parties one)

pub way_so : (r t : Reader) (setup : List Node) (piece : List ℕ) (held also : Held) (place : ℕ) (o : Opened) → r.earlier ≡ t.earlier → r.parties ≡ t.parties → held ≡ also
    → IsWay r setup piece held place o → IsWay t setup piece also place o
way_so r t setup piece held also place o earlier parties same w = subst (λ h. IsWay t setup piece h place o) same (record {
  way = record { member = w.way.member; within = w.way.within; may = may_so r t earlier parties (party_of w.way.member) w.way.may; state = w.way.state; opens = w.way.opens; tells = w.way.tells };
  there = w.there;
  state = w.state;
  serial = w.serial;
})

pub begins_so : (r t u : Reader) (line : List ℕ) (setup : List Node) (base : Option ℕ) (piece : List ℕ) (s also : Story) (now : Running) (place : ℕ) → r.earlier ≡ t.earlier → r.parties ≡ t.parties → s ≡ also
    → Begins r u line setup base piece s now place → Begins t u line setup base piece also now place
begins_so r t u line setup base piece s also now place earlier parties same b = subst (λ x. Begins t u line setup base piece x now place) same (record {
  way = record { member = b.way.member; within = b.way.within; may = may_so r t earlier parties (party_of b.way.member) b.way.may; state = b.way.state; opens = b.way.opens; tells = b.way.tells };
  is = b.is;
  shows = b.shows;
  place_is = b.place_is;
  doubt = b.doubt;
  parties = b.parties;
  earlier = b.earlier ∙ earlier;
})

-- ---- a node that begins

pub rows_counted : (h : Store) (held : Held) (rows : List Row) → held_in h ≡ held → Lists held.kept rows → length rows ≡ length h.rows
rows_counted h held rows is lists = ap length (subst (λ (x : Held). Lists x.kept rows) (sym is) lists)

pub number_so : (base : Option ℕ) (known : ℕ) (at : ℕ) → base ≡ Some at → number_from base known ≡ at
number_so base known at is = ap (λ b. number_from b known) is

pub number_known : (base : Option ℕ) (known : ℕ) → base ≡ None → number_from base known ≡ known
number_known base known is = ap (λ b. number_from b known) is

pub begun : (r t : Reader) (line : List ℕ) (setup : List Node) (base : Option ℕ) (piece : List ℕ) (place : ℕ) (o : Opened) (w : IsWay r setup piece r.story.held place o)
    → IsOpenedIn r.story t.story (run_over line setup w.way.opens.rows w.way.member w.way.state) → t.story.doubt ≡ None → (party : List ℕ) → party ≡ party_of w.way.member → t.parties ≡ party ∷ [] → t.earlier ≡ r.earlier
    → (opening : ℕ) → opening ≡ length r.story.openings → (known number : ℕ) → known ≡ r.story.held.line → number ≡ number_from base known
    → Begins r t line setup base piece r.story (record { party = party; state = o.node; known = known; last = known; number = number }) opening
begun r t line setup base piece place o w is doubt party party_is parties earlier opening at known number known_is number_is = record {
  way = w.way;
  is = is;
  shows = ap₂ (λ (p : List ℕ) (n : NodeState). record { party = p; state = n; known = known; last = known; number = number }) party_is w.state
      ∙ ap₂ (λ (k m : ℕ). record { party = party_of w.way.member; state = w.way.state; known = k; last = k; number = m }) known_is (number_is ∙ ap (number_from base) known_is);
  place_is = let size = ap length is.openings in let joined = length-append r.story.openings (is.opening ∷ []) in omega (arith, at, size, joined);
  doubt = doubt;
  parties = parties ∙ ap (λ p. p ∷ []) party_is;
  earlier = earlier;
}

-- ---- what is known then

pub known_as : (r : Reader) (earlier parties : List (List ℕ)) (s also : Story) → earlier ≡ r.earlier → s ≡ also → record { earlier = earlier; parties = parties; story = s } ≡ with_parties r parties also
known_as r earlier parties s also e same = ap₂ (λ (x : List (List ℕ)) (y : Story). record { earlier = x; parties = parties; story = y }) e same

-- the member at a place
pub member_is : (setup : List Node) (place : ℕ) (x m : Node) → x ≡ get_or setup place x → slice_get setup place ≡ Some m → x ≡ m
member_is setup place x m is there = same_Some x m (sym (slice_get_read setup (length setup) place x refl (slice_get_within setup place m there) is) ∙ there)
