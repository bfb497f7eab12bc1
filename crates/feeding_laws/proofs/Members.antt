-- A setup has one node of a party.
use Rattle.std.proofs.Common.{◌≡◌, ◌++◌, ◌∙◌, ℕ, List, [], ◌∷◌, Option, Ok, inl, inr, map, sym, ap, subst}
use Rattle.std.specs.Prelude.{Contains}
use Rattle.std.proofs.lemmas.List.Elements.{Contains-append_left, Contains-append_right}
use Rattle.tables.proofs.Elements.{in_front, in_map, in_none, of_cons}
use Rattle.json_text.proofs.Exact.{bind_ok}
use Rattle.json_text.specs.Fault.{◌>>=◌}
use Rattle.ocpi_json.proofs.SetupLemmas.{setup_found}
use Rattle.ocpi_json.specs.SetupForms.{setup_in}
use Rattle.ocpi_text.specs.Text.{key}
use Rattle.ocpi_types.specs.Apart.{DifferFrom}
use Rattle.ocpi_types.specs.Setups.{AreNodes, node_key}
use Rattle.ocpi_types.specs.declared.setup.Node.{Node}
use Rattle.node_runs.specs.NodeTurns.{IsMember}
use Rattle.node_runs.specs.SetupLines.{base_in, numbered_setup_in}

-- what stands among those before stands among no more
not_again : (earlier xs : List (List ℕ)) (k : List ℕ) → DifferFrom earlier xs → Contains earlier k → Contains xs k → ⊥
not_again earlier [] k apart before c = in_none k c
not_again earlier (x ∷ xs) k apart before c =
    elim (of_cons x xs k c) [
      | inl is ↦ apart.0 (subst (Contains earlier) (sym is) before)
      | inr later ↦ not_again (earlier ++ x ∷ []) xs k apart.1 (Contains-append_left earlier (x ∷ []) k before) later
    ]

-- of nodes whose keys differ, two of one key are one
one_of_key : (earlier : List (List ℕ)) (ns : List Node) (x y : Node) → DifferFrom earlier (map node_key ns) → Contains ns x → Contains ns y → node_key x ≡ node_key y → x ≡ y
one_of_key earlier [] x y apart i j same = absurd (in_none x i)
one_of_key earlier (n ∷ ns) x y apart i j same =
    elim (of_cons n ns x i) [
      | inl a ↦ elim (of_cons n ns y j) [
        | inl b ↦ sym a ∙ b
        | inr b ↦ absurd (later y b (sym same ∙ ap node_key (sym a)))
      ]
      | inr a ↦ elim (of_cons n ns y j) [
        | inl b ↦ absurd (later x a (same ∙ ap node_key (sym b)))
        | inr b ↦ one_of_key (earlier ++ node_key n ∷ []) ns x y apart.1 a b same
      ]
    ]
  where
    later : (z : Node) → Contains ns z → node_key z ≡ node_key n → ⊥
    later z within is =
        not_again (earlier ++ node_key n ∷ []) (map node_key ns) (node_key n) apart.1 (Contains-append_right earlier (node_key n ∷ []) (node_key n) (in_front (node_key n) []))
        (subst (Contains (map node_key ns)) is (in_map node_key ns z within))

are_nodes : (line : List ℕ) (setup : List Node) (base : Option ℕ) → numbered_setup_in line ≡ Ok (setup, base) → AreNodes setup
unfolding numbered_setup_in
are_nodes line setup base reads =
    let a = bind_ok (setup_in line) (λ (s : List Node). base_in line >>= (λ (b : Option ℕ). Ok (s, b))) (setup, base) reads in
    let b = bind_ok (base_in line) (λ (b : Option ℕ). Ok (a.0, b)) (setup, base) a.2 in
    let told = b.2 in
    let pair : ◌≡◌ {A = List Node × Option ℕ} (a.0, b.0) (setup, base) = cc told in
    let is : a.0 ≡ setup = ap (λ (p : List Node × Option ℕ). p.0) pair in
    subst AreNodes is (setup_found line a.0 a.1).form.form.are

pub one_member : (line : List ℕ) (setup : List Node) (base : Option ℕ) (wanted : Option (List ℕ)) (x y : Node) → numbered_setup_in line ≡ Ok (setup, base)
    → IsMember setup wanted x → IsMember setup wanted y → x ≡ y
one_member line setup base wanted x y reads one other =
    let asked = sym one.asked ∙ other.asked in
    let party : one.party ≡ other.party = cc asked in
    one_of_key [] setup x y (are_nodes line setup base reads).apart one.within other.within (one.same ∙ ap key party ∙ sym other.same)
