-- From an interleaving of replayed histories to a legal run of the world.
use Rattle.std.proofs.Common.{zero, suc, ◌≡◌, ◌≢◌, ◌⊎◌, ℕ, ◌+◌, List, [], ◌∷◌, ◌++◌, length, map, inl, inr, refl, sym, ap, subst, ◌∙◌, arith, append_assoc, append-nil}
use Rattle.std.specs.Prelude.{Some, Contains, slice_get, option_map}
use Rattle.std.proofs.lemmas.List.Elements.{Contains-append_left, Contains-append_right}
use Rattle.std.proofs.lemmas.List.{length-map}
use Rattle.std.proofs.lemmas.Option.{slice_get-map}
use Rattle.ocpi_text.specs.Text.{key}
use Rattle.ocpi_types.specs.Setups.{node_key, party_of}
use Rattle.ocpi_types.specs.declared.packet.Packet.{Packet}
use Rattle.ocpi_types.specs.declared.setup.Node.{Node}
use Rattle.tables.proofs.Elements.{in_front, in_none}
use Rattle.histories.specs.declared.history.NodeHistory.{NodeHistory}
use Rattle.histories.specs.Entries.{sent}
use Rattle.histories.specs.Weaving.{Interleaves, IsWoven, Woven, event_of, history}
use Rattle.histories.proofs.Lists.{got_within, is_in, place_in, some_same, stands}
use Rattle.histories.proofs.WovenLists.{got_given, has_entry, no_entry, same_key, sender_of}
use Rattle.operator_rows.proofs.RowChanges.{of_cons}
use Rattle.world_laws.proofs.Right.{worlds_are_right}
use Rattle.world_laws.proofs.Setups.{one_node}
use Rattle.world_steps.specs.Steps.{WorldRun}
use Rattle.world_steps.specs.World.{NodeState, Place, World, opened, opening_of, place_of}
use Rattle.world_steps.proofs.Places.{of_mapped}
use Rattle.history_laws.specs.Laws as laws
use Rattle.history_laws.specs.Laws.{AreReplayed, HasNoHistory, IsRunOf, StandsAs}
use Rattle.history_laws.specs.Replays.{Replays}
use Rattle.history_laws.proofs.Replaying.{opens_as, replays_are_numbered}
use Rattle.history_laws.proofs.Standing.{Standing, Stands, next}

-- the history of a party, or none
of_party : (hs : List NodeHistory) (k : List ℕ) → ((i : ℕ) × (h : NodeHistory) × (slice_get hs i ≡ Some h) × (key h.party ≡ k)) ⊎ ((h : NodeHistory) → Contains hs h → key h.party ≢ k)
of_party [] k = inr (λ h within. absurd (in_none h within))
of_party (g ∷ hs) k = elim (same_key (key g.party) k) [
  | inl same ↦ inl (zero, g, refl, same)
  | inr other ↦ elim (of_party hs k) [
    | inl (i, h, at, same) ↦ inl (suc i, h, at, same)
    | inr none ↦ inr (λ h within. elim (of_cons g hs h within) [ inl is ↦ subst (λ (z : NodeHistory). key z.party ≢ k) is other | inr later ↦ none h later ])
  ]
]

module _ (setup : List Node) (hs : List NodeHistory) (states : List NodeState) (replayed : AreReplayed setup hs states) (ws : List Woven) (woven : Interleaves hs ws) where
  abbrev first : World
  first = opened setup

  -- the end of the party's history, where it has one
  Ends : List ℕ → NodeState → Type 0
  Ends k t = (i : ℕ) (h : NodeHistory) → slice_get hs i ≡ Some h → key h.party ≡ k → slice_get states i ≡ Some t

  -- the node of a history
  node_of : (i : ℕ) (h : NodeHistory) → slice_get hs i ≡ Some h → (j : ℕ) × (n : Node) × (slice_get setup j ≡ Some n) × (h.party ≡ party_of n)
  node_of i h at =
      let (t, there, is) = replayed.each i h at in
      let (j, here) = place_in setup is.node is.in_setup in
      (j, is.node, here, is.party)

  -- the serials of what was sent
  serials : (k : List ℕ) (n : ℕ) (q : Packet) → slice_get (sent (history k ws)) n ≡ Some q → q.serial ≡ n + 1
  serials k n q at =
      let (g, within, same, has) = sender_of hs ws woven k q (is_in (sent (history k ws)) n q at) in
      let (i, here) = place_in hs g within in
      let (t, there, is) = replayed.each i g here in
      let own : sent (history k ws) ≡ sent g.entries.now = ap (λ z. sent (history z ws)) (sym same) ∙ ap sent (woven.order g within) in
      let serial = (replays_are_numbered setup replayed.is_setup g t is n q (ap (λ l. slice_get l n) (sym own) ∙ at)).1 in
      omega (arith, serial)

  module _ (w : World) (size : length w ≡ length setup) (before xs : List Woven) (is : before ++ xs ≡ ws) (standing : Standing setup replayed.is_setup Ends first w before xs) where
    -- the place of an entry's party
    place_for : (x : Woven) → Contains ws x → (j : ℕ) × (s : Place) × (slice_get w j ≡ Some s) × (s.party ≡ x.party)
    place_for x within =
        let (h, in_hs, same) = woven.nodes x within in
        let (i, at) = place_in hs h in_hs in
        let (j, n, here, party) = node_of i h at in
        let inside = got_within setup j n here in
        let (s, there) = stands w j (omega (arith, size, inside)) in
        let h_s = standing j s there in
        let is_n : h_s.node ≡ n = some_same h_s.node n (sym h_s.in_setup ∙ here) in
        (j, s, there, h_s.party ∙ ap party_of is_n ∙ sym party ∙ same)

    senders : (k : List ℕ) (q : Packet) → Contains (sent (history k before)) q → (j : ℕ) × (s : Place) × (slice_get w j ≡ Some s) × (key s.party ≡ k)
    senders k q given =
        let (x, within, same) = has_entry k before q given in
        let (j, s, there, party) = place_for x (subst (λ l. Contains l x) is (Contains-append_left before xs x within)) in
        (j, s, there, ap key party ∙ same)

    serials_before : (k : List ℕ) (n : ℕ) (q : Packet) → slice_get (sent (history k before)) n ≡ Some q → q.serial ≡ n + 1
    serials_before k n q at = serials k n q (subst (λ l. slice_get (sent (history k l)) n ≡ Some q) is (got_given k before xs n q at))

  record Ran (w : World) (before xs : List Woven) : Type 0 where
    after : World
    run : WorldRun w (map event_of xs) after
    size : length after ≡ length setup
    standing : Standing setup replayed.is_setup Ends first after ws []

  run : (xs before : List Woven) (w : World) → before ++ xs ≡ ws → length w ≡ length setup → Standing setup replayed.is_setup Ends first w before xs → IsWoven before xs → Ran w before xs
  run [] before w is size standing rest =
      record { after = w; run = refl; size = size; standing = subst (λ l. Standing setup replayed.is_setup Ends first w l []) (sym (append-nil before) ∙ is) standing }
  run (x ∷ xs) before w is size standing (names, rest) =
      let within = subst (λ l. Contains l x) is (Contains-append_right before (x ∷ xs) x (in_front x xs)) in
      let (i, p, at, own) = place_for w size before (x ∷ xs) is standing x within in
      let n = next setup replayed.is_setup Ends first w before x xs standing i p at own names (senders w size before (x ∷ xs) is standing) (serials_before w size before (x ∷ xs) is standing) in
      let r = run xs (before ++ x ∷ []) n.after (append_assoc before (x ∷ []) xs ∙ is) (n.size ∙ size) n.standing' rest in
      record { after = r.after; run = (n.after, n.step, r.run); size = r.size; standing = r.standing }

  -- a node whose party has no history has no entry
  nothing_of : (k : List ℕ) → ((h : NodeHistory) → Contains hs h → key h.party ≢ k) → history k ws ≡ []
  nothing_of k none = no_entry k ws (λ x within same. let (h, in_hs, party) = woven.nodes x within in none h in_hs (ap key party ∙ same))

  opening_stands : (i : ℕ) (n : Node) → slice_get setup i ≡ Some n → Stands setup replayed.is_setup Ends first i (place_of setup n) [] ws
  unfolding Ends
  opening_stands i n at = by (of_party hs (node_key n))
    where
      here : slice_get first i ≡ Some (place_of setup n)
      here = slice_get-map (place_of setup) setup i ∙ ap (option_map (place_of setup)) at

      stand : (t : NodeState) → Replays (opening_of setup n) (history (node_key n) ws) t → Ends (node_key n) t → Stands setup replayed.is_setup Ends first i (place_of setup n) [] ws
      stand t replays ends = record {
        node = n;
        in_setup = at;
        party = refl;
        own = opens_as setup n;
        last = t;
        replays = replays;
        ends = ends;
        sent_is = refl;
        untouched = λ none. here;
      }

      by : ((j : ℕ) × (h : NodeHistory) × (slice_get hs j ≡ Some h) × (key h.party ≡ node_key n)) ⊎ ((h : NodeHistory) → Contains hs h → key h.party ≢ node_key n) →
          Stands setup replayed.is_setup Ends first i (place_of setup n) [] ws
      by (inl (j, h, there, same)) =
          let (t, at_t, is) = replayed.each j h there in
          let (m, of_m) = place_in setup is.node is.in_setup in
          let places : m ≡ i = one_node setup replayed.is_setup m i is.node n of_m at (ap key (sym is.party) ∙ same) in
          let is_n : is.node ≡ n = some_same is.node n (sym of_m ∙ ap (slice_get setup) places ∙ at) in
          let entries : h.entries.now ≡ history (node_key n) ws = sym (woven.order h (is_in hs j h there)) ∙ ap (λ k. history k ws) same in
          stand t (subst (λ l. Replays (opening_of setup n) l t) entries (subst (λ (z : Node). Replays (opening_of setup z) h.entries.now t) is_n is.replays))
          (λ l g at_g of_g. ap (slice_get states) (replayed.apart l j g h at_g there (of_g ∙ sym same)) ∙ at_t)
      by (inr none) =
          stand (opening_of setup n) (subst (λ l. Replays (opening_of setup n) l (opening_of setup n)) (sym (nothing_of (node_key n) none)) refl)
          (λ l g at_g of_g. absurd (none g (is_in hs l g at_g) of_g))

  standing_first : Standing setup replayed.is_setup Ends first first [] ws
  standing_first i p at =
      let (n, there, is) = of_mapped (place_of setup) setup i p at in
      subst (λ (z : Place). Stands setup replayed.is_setup Ends first i z [] ws) is (opening_stands i n there)

  whole : Ran first [] ws
  whole = run ws [] first refl (length-map setup (place_of setup)) standing_first woven.names

  ends_as : (i : ℕ) (h : NodeHistory) (t : NodeState) → slice_get hs i ≡ Some h → slice_get states i ≡ Some t → StandsAs whole.after h t
  unfolding Ends
  ends_as i h t at at_t =
      let (j, n, here, party) = node_of i h at in
      let inside = got_within setup j n here in
      let size = whole.size in
      let (p, there) = stands whole.after j (omega (arith, size, inside)) in
      let s = whole.standing j p there in
      let is_n : s.node ≡ n = some_same s.node n (sym s.in_setup ∙ here) in
      let own : p.party ≡ h.party = s.party ∙ ap party_of is_n ∙ sym party in
      let last_is : s.last ≡ t = some_same s.last t (sym (s.ends i h at (ap key (sym own))) ∙ at_t) in
      record {
        number = j;
        place = p;
        here = there;
        party = own;
        node = sym s.replays ∙ last_is;
        sent_is = s.sent_is ∙ ap (λ z. sent (history (key z) ws)) own ∙ ap sent (woven.order h (is_in hs i h at));
      }

  others_as : (i : ℕ) (n : Node) → slice_get setup i ≡ Some n → HasNoHistory hs n → slice_get whole.after i ≡ Some (place_of setup n)
  others_as i n at none =
      let inside = got_within setup i n at in
      let size = whole.size in
      let (p, there) = stands whole.after i (omega (arith, size, inside)) in
      let s = whole.standing i p there in
      let is_n : s.node ≡ n = some_same s.node n (sym s.in_setup ∙ at) in
      let empty : history (key p.party) ws ≡ [] = ap (λ z. history (key z) ws) (s.party ∙ ap party_of is_n) ∙ nothing_of (node_key n) none in
      there ∙ sym (s.untouched empty) ∙ slice_get-map (place_of setup) setup i ∙ ap (option_map (place_of setup)) at

  pub is_run : IsRunOf setup hs states (map event_of ws)
  is_run = record {
    world = whole.after;
    run = whole.run;
    ends = ends_as;
    others = others_as;
    right = worlds_are_right whole.after (record { setup = setup; is_setup = replayed.is_setup; events = map event_of ws; run = whole.run });
  }

pub interleavings_are_runs : laws.InterleavingsAreRuns
interleavings_are_runs setup hs states events replayed (ws, woven, is) = subst (IsRunOf setup hs states) (sym is) (is_run setup hs states replayed ws woven)
