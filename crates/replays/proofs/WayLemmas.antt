-- In which ways a node may have been opened, member by member.
use Rattle.std.proofs.Common.{◌≡◌, ◌≢◌, ◌<◌, ◌⊎◌, ℕ, suc, ◌+◌, arith, List, [], ◌∷◌, ◌++◌, Bool, Some, Contains, length, take, get_or, slice_get, inl, inr, refl, sym, ap, subst, ◌∙◌}
use Rattle.std.proofs.lemmas.List.{take_more}
use Rattle.std.proofs.lemmas.List.Elements.{Contains-append_left, Contains-push, Contains-push_cases}
use Rattle.std.proofs.lemmas.Option.{same_Some, slice_get-get_or, slice_get_within}
use Rattle.ocpi_types.specs.Setups.{party_of}
use Rattle.ocpi_types.specs.declared.setup.Node.{Node}
use Rattle.world_steps.specs.World.{NodeState}
use Rattle.replays.proofs.OnlyRuns.{none_within}
use Rattle.replays.specs.LineTurns.{Held}
use Rattle.replays.specs.Reading.{AreCut, Fits, MayBe, MayBeOpened, OpensOver, Reader, told_line}
use Rattle.replays.specs.Ways.{IsOpened, IsPassed, IsWay, May, Not, NotThere}
use Rattle.replays.specs.declared.opening.Opened.{Opened}

module _ (r : Reader) (setup : List Node) (closed : Bool) (piece : List ℕ) (held : Held) where
  -- of these members of the setup the parties have such a one, and no other has; the line of none stands there whole
  pub record ArePassed (seen : List Node) (parties : List (List ℕ)) : Type 0 where
    pub have : (p : List ℕ) → Contains parties p → MayBeOpened r setup closed piece held p
    pub all : (member : Node) → Contains seen member → MayBe r (party_of member) → (state : NodeState) (over : OpensOver setup member held state)
        → Fits closed piece (told_line held over.rows member state) → Contains parties (party_of member) × (told_line held over.rows member state ≢ piece ++ 10 ∷ [])

  pub none_passed : ArePassed [] []
  none_passed = record { have = λ p within. none_within p within; all = λ member within. none_within member within }

  pub all_passed : (parties : List (List ℕ)) → ArePassed setup parties → AreCut r setup closed piece held parties
  all_passed parties are = record { have = are.have; all = are.all }

  member_at : (place : ℕ) (member : Node) → slice_get setup place ≡ Some member → take (suc place) setup ≡ take place setup ++ member ∷ []
  member_at place member there =
      let within = slice_get_within setup place member there in
      let next : suc place ≡ place + 1 = omega arith in
      ap (λ n. take n setup) next ∙ take_more setup place member within ∙ ap (λ m. take place setup ++ m ∷ []) (same_Some _ _ (sym (slice_get-get_or setup place member within) ∙ there))

  pub member_within : (place : ℕ) (member : Node) → slice_get setup place ≡ Some member → Contains setup member
  member_within place member there =
      let within = slice_get_within setup place member there in (place, within, same_Some _ _ (sym (slice_get-get_or setup place member within) ∙ there))

  -- where one more is no way, nothing else is
  pass_none : (place : ℕ) (member : Node) (parties after : List (List ℕ)) → slice_get setup place ≡ Some member → after ≡ parties → ArePassed (take place setup) parties
      → (MayBe r (party_of member) → (state : NodeState) (over : OpensOver setup member held state) → Fits closed piece (told_line held over.rows member state) → ⊥)
      → ArePassed (take (suc place) setup) after
  pass_none place member parties after there same are none = subst (ArePassed (take (suc place) setup)) (sym same) (record {
    have = are.have;
    all = λ other within may state over fits. of other may state over fits (Contains-push_cases (take place setup) member other (subst (λ l. Contains l other) (member_at place member there) within));
  })
    where
      of : (other : Node) → MayBe r (party_of other) → (state : NodeState) (over : OpensOver setup other held state) → Fits closed piece (told_line held over.rows other state)
          → Contains (take place setup) other ⊎ (member ≡ other) → Contains parties (party_of other) × (told_line held over.rows other state ≢ piece ++ 10 ∷ [])
      of other may state over fits (inl within) = are.all other within may state over fits
      of other may state over fits (inr is) = absurd (at_member is may state over fits)
        where
          at_member : member ≡ other → MayBe r (party_of other) → (state : NodeState) (over : OpensOver setup other held state) → Fits closed piece (told_line held over.rows other state) → ⊥
          at_member is = subst (λ m. MayBe r (party_of m) → (state : NodeState) (over : OpensOver setup m held state) → Fits closed piece (told_line held over.rows m state) → ⊥) is none

  pub one_passed : (place : ℕ) (parties after : List (List ℕ)) → ArePassed (take place setup) parties → IsPassed r setup closed piece held place parties after → ArePassed (take (suc place) setup) after
  one_passed place parties after are (NotThere member there not same) = pass_none place member parties after there same are (λ may. absurd (not may))
  one_passed place parties after are (Not member there none same) = pass_none place member parties after there same are (λ may. none)
  one_passed place parties after are (May member there may one same) = subst (ArePassed (take (suc place) setup)) (sym same) (record {
    have = λ p within. has p (Contains-push_cases parties (party_of member) p within);
    all = λ other within allowed state over fits. of other allowed state over fits (Contains-push_cases (take place setup) member other (subst (λ l. Contains l other) (member_at place member there) within));
  })
    where
      here : MayBeOpened r setup closed piece held (party_of member)
      here = record {
        member = member;
        within = member_within place member there;
        is = refl;
        may = may;
        state = one.0.0;
        opens = one.0.1.0;
        cut = one.0.1.1.0;
        missing = one.0.1.1.1.0;
        tells = one.0.1.1.1.1;
        long = one.0.1.1.1.2;
      }

      has : (p : List ℕ) → Contains parties p ⊎ (party_of member ≡ p) → MayBeOpened r setup closed piece held p
      has p (inl within) = are.have p within
      has p (inr is) = subst (MayBeOpened r setup closed piece held) is here

      of : (other : Node) → MayBe r (party_of other) → (state : NodeState) (over : OpensOver setup other held state) → Fits closed piece (told_line held over.rows other state)
          → Contains (take place setup) other ⊎ (member ≡ other) → Contains (parties ++ party_of member ∷ []) (party_of other) × (told_line held over.rows other state ≢ piece ++ 10 ∷ [])
      of other allowed state over fits (inl within) =
          let x = are.all other within allowed state over fits in (Contains-append_left parties (party_of member ∷ []) (party_of other) x.0, x.1)
      of other allowed state over fits (inr is) = at_member is state over
        where
          at_member : member ≡ other → (state : NodeState) (over : OpensOver setup other held state)
              → Contains (parties ++ party_of member ∷ []) (party_of other) × (told_line held over.rows other state ≢ piece ++ 10 ∷ [])
          at_member is = subst (λ m. (state : NodeState) (over : OpensOver setup m held state) → Contains (parties ++ party_of member ∷ []) (party_of m) × (told_line held over.rows m state ≢ piece ++ 10 ∷ [])) is
              (λ state over. (Contains-push parties (party_of member), one.1 state over))

  -- a member that was opened
  pub way_of : (place : ℕ) (member : Node) (o : Opened) → slice_get setup place ≡ Some member → MayBe r (party_of member) → IsOpened setup member held piece o → IsWay r setup piece held place o
  way_of place member o there may opened = record {
    way = record { member = member; within = member_within place member there; may = may; state = o.node; opens = opened.opens; tells = opened.tells };
    there = there;
    state = refl;
    serial = opened.serial;
  }
