-- What is so of a setup that was read.
use Rattle.std.proofs.Common.{◌≡◌, ℕ, List, [], ◌∷◌, Option, Some, Ok, Bool, true, false, cond, inl, inr, refl, sym, ap, subst, ◌∙◌}
use Rattle.std.specs.Prelude.{Contains, Err, slice_get}
use Rattle.json_text.proofs.Exact.{bind_ok, ok_is}
use Rattle.json_text.specs.Form.{AreItems, IsRecord}
use Rattle.node_core.proofs.Lists.{placed}
use Rattle.node_runs.specs.SetupLines.{base_in, numbered_setup_in}
use Rattle.ocpi_json.proofs.SetupLemmas.{setup_found}
use Rattle.ocpi_json.specs.SetupForms.{IsNode, SpellsSetup, setup_in}
use Rattle.ocpi_text.proofs.Parties.{ci_text_is, party_by_shape}
use Rattle.ocpi_text.specs.Party.{is_party_shape, party_at}
use Rattle.ocpi_text.specs.Text.{key}
use Rattle.ocpi_text.specs.declared.fault.TextFault.TheVariants.{TooLong}
use Rattle.ocpi_types.specs.Setups.{party_of}
use Rattle.ocpi_types.specs.declared.setup.Node.{Node}
use Rattle.replay_laws.proofs.ReadPlaces.{setups_have_places}
use Rattle.replay_laws.specs.Answers.{HasPlaces}
use Rattle.serde_json.specs.Data.{Data, Items, item, no_items}
use Rattle.tables.proofs.Elements.{in_none, of_cons}
use Rattle.tables.proofs.Options.{some_same}
use Rattle.world_laws.proofs.Setups.{one_node}
use Rattle.world_laws.specs.Laws.{IsSetup}

-- the setup that a line spells, beside the number that it tells
setup_read : (line : List ℕ) (setup : List Node) (base : Option ℕ) → numbered_setup_in line ≡ Ok (setup, base) → setup_in line ≡ Ok setup
unfolding numbered_setup_in
setup_read line setup base reads =
    let a = bind_ok (setup_in line) _ (setup, base) reads in
    let b = bind_ok (base_in line) _ (setup, base) a.2 in
    let same = ok_is (a.0, b.0) (setup, base) b.2 in
    a.1 ∙ ap (λ (x : List Node × Option ℕ). Ok x.0) same

-- ---- each node is a party by its form

-- a party is read as it is spelled
spelled_so : (s t : List ℕ) → party_at s ≡ Ok t → t ≡ s
unfolding party_at
spelled_so s t is = of (is_party_shape s) refl
  where
    shaped : is_party_shape s ≡ true → t ≡ s
    shaped shape = ci_text_is 6 s t (sym (party_by_shape s shape) ∙ is)

    other : is_party_shape s ≡ false → party_at s ≡ Err TooLong
    other shape = rw shape refl

    of : (b : Bool) → is_party_shape s ≡ b → t ≡ s
    of true shape = shaped shape
    of false shape = absurd (let bad : Err TooLong ≡ Ok t = sym (other shape) ∙ is in cc)

module _ {X : Type 0} (P : Data → X → Type 0) where
  item_form : (ds : Items) (xs : List X) → AreItems P ds xs → (x : X) → Contains xs x → (d : Data) × P d x
  item_form no_items [] h x i = absurd (in_none x i)
  item_form no_items (y ∷ ys) h x i = absurd h
  item_form (item d ds) [] h x i = absurd h
  item_form (item d ds) (y ∷ ys) h x i = elim (of_cons y ys x i) [
    | inl here ↦ (d, subst (P d) here h.0)
    | inr later ↦ item_form ds ys h.1 x later
  ]

node_party : (line : List ℕ) (setup : List Node) → SpellsSetup line setup → (n : Node) → Contains setup n → party_at (party_of n) ≡ Ok (party_of n)
node_party line setup spelled n within =
    let nodes = spelled.form.form.nodes in
    let found = item_form (IsRecord IsNode) nodes.2.0 setup nodes.2.2 n within in
    let text = found.1.form.party.2 in
    subst (λ s. party_at s ≡ Ok (party_of n)) (sym (spelled_so text.0 (party_of n) text.2)) text.2

-- ---- the setup

module _ (line : List ℕ) (setup : List Node) (base : Option ℕ) (reads : numbered_setup_in line ≡ Ok (setup, base)) where
  spelled : SpellsSetup line setup
  spelled = setup_found line setup (setup_read line setup base reads)

  pub is_setup : IsSetup setup
  is_setup = record { are_nodes = spelled.form.form.are; parties = node_party line setup spelled }

  -- the places of each node differ
  pub has_places : (n : Node) → Contains setup n → HasPlaces n
  has_places n within = setups_have_places line setup (setup_read line setup base reads) n within

  -- no two nodes are of one party
  pub one_of_party : (m n : Node) → Contains setup m → Contains setup n → key (party_of m) ≡ key (party_of n) → m ≡ n
  one_of_party m n within within_too same =
      let a = placed setup m within in
      let b = placed setup n within_too in
      let here = one_node setup is_setup a.0 b.0 m n a.1 b.1 same in
      some_same m n (sym a.1 ∙ ap (slice_get setup) here ∙ b.1)
