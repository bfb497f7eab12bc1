-- From the lives of nodes to a run of their network.
use Rattle.std.proofs.Common.{◌≡◌, ℕ, List, [], ◌∷◌, ◌++◌, length, map, option_map, inl, inr, refl, sym, ap, subst, ◌∙◌, arith, append_assoc, append-nil, length-set}
use Rattle.std.proofs.lemmas.List.{length-map}
use Rattle.std.proofs.lemmas.Option.{slice_get-map}
use Rattle.std.specs.Prelude.{Some, Contains, slice_get, slice_set}
use Rattle.std.proofs.lemmas.Bool.{cases_eq}
use Rattle.std.proofs.lemmas.List.Elements.{Contains-append_right}
use Rattle.network_laws.specs.Setups.{AreSetups, IsSetup as IsOwnSetup, Setup, opened, party_of as name_of, place_of}
use Rattle.network_laws.specs.Setups as networks
use Rattle.network_laws.specs.Steps.{Happening, MayCome, NetworkRun, NetworkStep, NodeHappens, history}
use Rattle.network_laws.proofs.Right.{networks_are_right}
use Rattle.network_laws.proofs.Tracing.{history_elsewhere, history_here, history_joined}
use Rattle.node_laws.specs.Runs.{Run}
use Rattle.reopening_laws.specs.Nodes.{setup_of}
use Rattle.ocpi_text.specs.Text.{key}
use Rattle.ocpi_types.specs.Setups.{party_of}
use Rattle.ocpi_types.specs.declared.packet.Packet.{Packet}
use Rattle.ocpi_types.specs.declared.setup.Node.{Node}
use Rattle.stored_laws.specs.Nodes.{NodesCanStartAgain, OpeningsCanStartAgain}
use Rattle.tables.proofs.Elements.{in_front}
use Rattle.histories.proofs.Lists.{place_in}
use Rattle.world_networks.proofs.Networks.{own_form, own_name, own_opening}
use Rattle.world_steps.specs.Steps.{NodeEvent, packets_of, versions_of}
use Rattle.world_steps.specs.Traces.{Brings, sent}
use Rattle.world_steps.specs.World.{NodeState, Place, World, opening_of}
use Rattle.world_steps.proofs.Histories.{sent_join}
use Rattle.world_steps.proofs.Places.{is_in, of_mapped, set_other, set_same, some_same, stands}
use Rattle.fed_networks.proofs.Living.{life_runs}
use Rattle.fed_networks.specs.Laws.{AreLives, Happened, InventNothing, IsNetworkOf, NodesFormNetworks, setups_of}
use Rattle.fed_networks.specs.Lives.{History, Life, history_of}

mapped_at : {X Y : Type 0} (f : X → Y) (xs : List X) (i : ℕ) (x : X) → slice_get xs i ≡ Some x → slice_get (map f xs) i ≡ Some (f x)
mapped_at f xs i x at = slice_get-map f xs i ∙ ap (option_map f) at

-- each history is a run of its node
abbrev pub Running : List History → Type 0
Running lives = (i : ℕ) (l : History) → slice_get lives i ≡ Some l → Run NodeHappens (opening_of l.of.setup l.of.member) l.events l.now

module _ (lives : List History) (all : List Happening) (runs : Running lives) (are : AreLives lives) (happened : Happened lives all) (invent : InventNothing lives all) where
  -- where a node stands between two parts of what happened
  record Stands (i : ℕ) (p : Place) (before xs : List Happening) : Type 0 where
    life : History
    of : slice_get lives i ≡ Some life
    party : p.party ≡ party_of life.of.member
    run : Run NodeHappens p.node (history xs i) life.now
    sent_is : p.sent ≡ sent (history before i)

  abbrev Standing : World → List Happening → List Happening → Type 0
  Standing w before xs = (i : ℕ) (p : Place) → slice_get w i ≡ Some p → Stands i p before xs

  stands_past : (i : ℕ) (p : Place) (before : List Happening) (x : Happening) (xs : List Happening) → (x.node ≡ i → ⊥) → Stands i p before (x ∷ xs) → Stands i p (before ++ x ∷ []) xs
  stands_past i p before x xs other h = record {
    life = h.life;
    of = h.of;
    party = h.party;
    run = subst (λ (l : List NodeEvent). Run NodeHappens p.node l h.life.now) (history_elsewhere x xs i other) h.run;
    sent_is = h.sent_is ∙ ap sent (sym (history_joined before (x ∷ []) i ∙ ap (λ (l : List NodeEvent). history before i ++ l) (history_elsewhere x [] i other) ∙ append-nil (history before i)));
  }

  record Next (w : World) (before : List Happening) (x : Happening) (xs : List Happening) : Type 0 where
    after : World
    step : NetworkStep w x after
    size : length after ≡ length w
    standing : Standing after (before ++ x ∷ []) xs

  module _ (w : World) (before : List Happening) (x : Happening) (xs : List Happening) (whole : before ++ x ∷ xs ≡ all) (standing : Standing w before (x ∷ xs)) (p : Place) (at : slice_get w x.node ≡ Some p) where
    own : Stands x.node p before (x ∷ xs)
    own = standing x.node p at

    comes : (q : Packet) → Brings x.event q → MayCome w p q
    comes q brings j from there claims =
        let b = standing j from there in
        let r = invent before xs x (sym whole) own.life own.of q brings j b.life b.of (ap key (sym b.party) ∙ claims) in
        (r.0 ∙ ap key (sym own.party), subst (λ (l : List Packet). Contains l q) (sym b.sent_is) r.1)

    next : Next w before x xs
    next = by (subst (λ (l : List NodeEvent). Run NodeHappens p.node l own.life.now) (history_here x xs x.node refl) own.run)
      where
        by : Run NodeHappens p.node (x.event ∷ history xs x.node) own.life.now → Next w before x xs
        by (t, step, rest) = record {
          after = slice_set w x.node place;
          step = record { before = p; after = place; here = at; comes = comes; goes = record { step = step; party = refl; sent = refl; versions = refl }; left = refl };
          size = length-set w x.node place;
          standing = λ j r there. elim (cases_eq j x.node) [
            | inl same ↦
                let is_r : place ≡ r = some_same place r (sym (set_same w x.node p place at) ∙ ap (slice_get (slice_set w x.node place)) (sym same) ∙ there) in
                subst (λ (k : ℕ). Stands k r (before ++ x ∷ []) xs) (sym same) (subst (λ (z : Place). Stands x.node z (before ++ x ∷ []) xs) is_r on)
            | inr elsewhere ↦
                let old = sym (set_other w x.node j place elsewhere) ∙ there in
                stands_past j r before x xs (λ is. elsewhere (sym is)) (standing j r old)
          ];
        }
          where
            place : Place
            place = record { party = p.party; node = t; sent = p.sent ++ packets_of x.event; versions = p.versions ++ versions_of x.event }

            on : Stands x.node place (before ++ x ∷ []) xs
            on = record {
              life = own.life;
              of = own.of;
              party = own.party;
              run = rest;
              sent_is = ap (λ (l : List Packet). l ++ packets_of x.event) own.sent_is
                  ∙ ap (λ (l : List Packet). sent (history before x.node) ++ l) (sym (append-nil (packets_of x.event)))
                  ∙ sym (sent_join (history before x.node) (x.event ∷ []))
                  ∙ ap sent (ap (λ (l : List NodeEvent). history before x.node ++ l) (sym (history_here x [] x.node refl)) ∙ sym (history_joined before (x ∷ []) x.node));
            }

  record Went (w : World) (xs : List Happening) : Type 0 where
    after : World
    run : NetworkRun w xs after
    standing : Standing after all []

  go : (xs before : List Happening) (w : World) → before ++ xs ≡ all → length w ≡ length lives → Standing w before xs → Went w xs
  go [] before w is size standing = record { after = w; run = refl; standing = subst (λ (l : List Happening). Standing w l []) (sym (append-nil before) ∙ is) standing }
  go (x ∷ xs) before w is size standing =
      let within = happened.within x (subst (λ (l : List Happening). Contains l x) is (Contains-append_right before (x ∷ xs) x (in_front x xs))) in
      let (p, at) = stands w x.node (omega (arith, size, within)) in
      let n = next w before x xs is standing p at in
      let r = go xs (before ++ x ∷ []) n.after (append_assoc before (x ∷ []) xs ∙ is) (n.size ∙ size) n.standing in
      record { after = r.after; run = (n.after, n.step, r.run); standing = r.standing }

  one_of : (i : ℕ) (l : History) → slice_get lives i ≡ Some l → Contains (map (λ (x : History). x.of) lives) l.of
  one_of i l at = is_in (map (λ (x : History). x.of) lives) i l.of (mapped_at (λ (x : History). x.of) lives i l at)

  setup_at : (i : ℕ) (s : Setup) → slice_get (setups_of lives) i ≡ Some s → (l : History) × (slice_get lives i ≡ Some l) × (setup_of l.of.setup l.of.member ≡ s)
  setup_at i s at = of_mapped (λ (l : History). setup_of l.of.setup l.of.member) lives i s at

  standing_first : Standing (opened (setups_of lives)) [] all
  standing_first i p at =
      let (s, there, is) = of_mapped place_of (setups_of lives) i p at in
      let (l, of, is_s) = setup_at i s there in
      let run = runs i l of in
      subst (λ (z : Place). Stands i z [] all) is (record {
        life = l;
        of = of;
        party = ap name_of (sym is_s) ∙ own_name l.of.setup l.of.member;
        run = subst (λ (n : NodeState). Run NodeHappens n (history all i) l.now) (sym (own_opening l.of.setup l.of.member) ∙ ap networks.opening_of is_s)
            (subst (λ (es : List NodeEvent). Run NodeHappens (opening_of l.of.setup l.of.member) es l.now) (sym (happened.each i l of)) run);
        sent_is = refl;
      })

  are_setups : AreSetups (setups_of lives)
  are_setups = record { each = each; apart = apart }
    where
      each : (s : Setup) → Contains (setups_of lives) s → IsOwnSetup s
      each s within =
          let (i, at) = place_in (setups_of lives) s within in
          let (l, of, is) = setup_at i s at in
          let here = one_of i l of in
          let (k, there) = place_in l.of.setup l.of.member (are.members l.of here) in
          subst IsOwnSetup is (own_form l.of.setup (are.setups l.of here) k l.of.member there)

      apart : (i j : ℕ) (n m : Setup) → slice_get (setups_of lives) i ≡ Some n → slice_get (setups_of lives) j ≡ Some m → key (name_of n) ≡ key (name_of m) → i ≡ j
      apart i j n m at there same =
          let (l, of, is) = setup_at i n at in
          let (k, of_k, is_k) = setup_at j m there in
          are.apart i j l.of k.of (mapped_at (λ (x : History). x.of) lives i l of) (mapped_at (λ (x : History). x.of) lives j k of_k) (ap key (sym (own_name l.of.setup l.of.member) ∙ ap name_of is) ∙ same ∙ ap key (sym (ap name_of is_k) ∙ own_name k.of.setup k.of.member))

  whole : Went (opened (setups_of lives)) all
  whole = go all [] (opened (setups_of lives)) refl (length-map (setups_of lives) place_of ∙ length-map lives (λ (l : History). setup_of l.of.setup l.of.member)) standing_first

  pub is_network : IsNetworkOf lives all
  is_network = record {
    network = whole.after;
    run = whole.run;
    ends = λ i l p of at. let s = whole.standing i p at in sym s.run ∙ ap (λ (k : History). k.now) (some_same s.life l (sym s.of ∙ of));
    right = networks_are_right (setups_of lives) all whole.after are_setups whole.run;
  }

pub histories_form_networks : (hs : List History) (xs : List Happening) → Running hs → AreLives hs → Happened hs xs → InventNothing hs xs → IsNetworkOf hs xs
histories_form_networks hs xs runs are happened invent = is_network hs xs runs are happened invent

lives_run : NodesCanStartAgain → OpeningsCanStartAgain → (lives : List Life) → AreLives (map history_of lives) → Running (map history_of lives)
lives_run again openings lives are i h at =
    let (l, of, is) = of_mapped history_of lives i h at in
    let here : Contains (map (λ (l : History). l.of) (map history_of lives)) l.of =
    subst (λ (k : History). Contains (map (λ (l : History). l.of) (map history_of lives)) k.of) (sym is)
    (is_in (map (λ (x : History). x.of) (map history_of lives)) i h.of (mapped_at (λ (x : History). x.of) (map history_of lives) i h at)) in
    subst (λ (k : History). Run NodeHappens (opening_of k.of.setup k.of.member) k.events k.now) is
    (life_runs again openings l (are.setups l.of here) (are.members l.of here) (are.alike l.of here))

pub nodes_form_networks : NodesCanStartAgain → OpeningsCanStartAgain → NodesFormNetworks
nodes_form_networks again openings lives xs are happened invent = is_network (map history_of lives) xs (lives_run again openings lives are) are happened invent
