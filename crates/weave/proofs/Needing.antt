-- The packets of each history by their serials, what an entry waits for, and what is told of it.
use Rattle.std.proofs.Common.{◌≡◌, ◌≢◌, ◌⊎◌, ℕ, ◌+◌, ◌-◌, ◌<◌, ◌≤◌, List, [], ◌∷◌, ◌++◌, length, take, drop, inl, inr, refl, sym, ap, subst, ◌∙◌, arith, append_assoc, length-append}
use Rattle.std.specs.Prelude.{None, Some, Vec, Contains, slice_get, option_map}
use Rattle.std.specs.Borrow.{Bor}
use Rattle.std.proofs.lemmas.List.{length-map, take-append-drop}
use Rattle.std.proofs.lemmas.Option.{slice_get-map, slice_get_past}
use Rattle.ocpi_text.specs.Text.{key}
use Rattle.ocpi_types.specs.declared.packet.Packet.{Packet}
use Rattle.histories.specs.declared.entry.Entry.{Entry}
use Rattle.histories.specs.declared.history.NodeHistory.{NodeHistory}
use Rattle.histories.specs.Causes.{IsGiven, IsUnsent}
use Rattle.histories.specs.Entries.{Delivers, packets_of, sent}
use Rattle.histories.specs.Weaving.{AreApart, AreNumberedBehind}
use Rattle.histories.proofs.Lists.{got_after, got_left, got_pushed, got_taken, got_within, is_in, place_in, some_same, stands, take_one}
use Rattle.histories.proofs.WovenLists.{sent_join, sent_one}
use Rattle.weave.specs.declared.needs.Gap.{Gap}
use Rattle.weave.specs.declared.needs.Need.{Need}
use Rattle.weave.specs.declared.turn.Turn.{Turn}
use Rattle.weave.specs.declared.turn_fault.TurnFault.{TurnFault}
use Rattle.weave.specs.declared.turn_fault.TurnFault.TheVariants.{Differs, Memory, NeverSent, NoOrder}
use Rattle.weave.specs.Faults.{EntryAt}
use Rattle.weave.specs.Given.{AreAllGivenWith, Asks}
use Rattle.weave.specs.TurnFaults.{Blames, BlamesIn, BlamesPacket, BlamesTurn, CameFirst, CameFirstIn, ExplainsTurns, IsEarlier, IsGivenOtherwise}
use Rattle.weave.specs.Needs.{AreAllNeeds, AreNeeds, AreNeedsAt, IsGivenBy, IsMissing, IsNeed, IsTable, OfNothing, OfPacket, StandsAt, now_of, row_of, sent_in}

module _ {A : Type 0} (hs : List NodeHistory) (rows : List (Vec (Bor Packet) A)) (table : IsTable hs rows) where
  pub same_size : length rows ≡ length hs
  same_size = sym (length-map rows row_of) ∙ ap length table ∙ length-map hs sent_in

  -- the row of a history has all that it sent
  pub row_is : (j : ℕ) (h : NodeHistory) (v : Vec (Bor Packet) A) → slice_get hs j ≡ Some h → slice_get rows j ≡ Some v → row_of v ≡ sent_in h
  row_is j h v here at = some_same (row_of v) (sent_in h) (
      ap (option_map row_of) (sym at) ∙ sym (slice_get-map row_of rows j) ∙ ap (λ l. slice_get l j) table ∙ slice_get-map sent_in hs j ∙ ap (option_map sent_in) here)

-- a packet that a row has at a place
pub found_at : (row : List (Bor Packet)) (before serial : ℕ) (r : Bor Packet) → slice_get row (serial - before - 1) ≡ Some r → before < serial → StandsAt (now_of row) before serial r.now
found_at row before serial r at above = record {
  position = serial - before - 1;
  serial_is = omega (arith, above);
  stands = slice_get-map (λ (z : Bor Packet). z.now) row (serial - before - 1) ∙ ap (option_map (λ (z : Bor Packet). z.now)) at;
}

pub missing_none : (packets : List Packet) (before serial : ℕ) → serial ≤ before → IsMissing packets before serial
missing_none packets before serial is k at = absurd (omega (arith, is, at))

pub missing_past : (row : List (Bor Packet)) (before serial : ℕ) → length row < serial - before → IsMissing (now_of row) before serial
missing_past row before serial past k at = slice_get_past (now_of row) k (let size = length-map row (λ (z : Bor Packet). z.now) in omega (arith, past, at, size))

-- ---- what is told of a packet

module _ (hs : List NodeHistory) (apart : AreApart hs) (numbered : AreNumberedBehind hs) where
  one_sender : (j : ℕ) (h g : NodeHistory) → slice_get hs j ≡ Some h → Contains hs g → key g.party ≡ key h.party → g ≡ h
  one_sender j h g here within same =
      let (i, at) = place_in hs g within in
      let places : i ≡ j = apart i j g h at here same in
      some_same g h (sym at ∙ ap (slice_get hs) places ∙ here)

  pub unsent : (q : Packet) (j : ℕ) (h : NodeHistory) → slice_get hs j ≡ Some h → key h.party ≡ key q.from → IsMissing (sent_in h) h.before q.serial → IsUnsent hs q
  unsent q j h here same missing g (within, of_g) r given equal =
      let is_h : g ≡ h = one_sender j h g here within (of_g ∙ sym same) in
      let (k, at) = place_in (sent_in g) r given in
      let serial = (numbered g within k r at).1 in
      let there : slice_get (sent_in h) k ≡ Some r = ap (λ (z : NodeHistory). slice_get (sent_in z) k) (sym is_h) ∙ at in
      let before = ap (λ (z : NodeHistory). z.before) is_h in
      let bad : None ≡ Some r = sym (missing k (omega (arith, serial, equal, before))) ∙ there in
      cc

  pub given_otherwise : (q : Packet) (j : ℕ) (h : NodeHistory) (packet : Packet) → slice_get hs j ≡ Some h → key h.party ≡ key q.from → StandsAt (sent_in h) h.before q.serial packet → packet ≢ q →
      IsGivenOtherwise hs (record { sender = j; serial = q.serial }) q
  given_otherwise q j h packet here same at other =
      let serial = (numbered h (is_in hs j h here) at.position packet at.stands).1 in
      let position = at.serial_is in
      record {
        sender = h;
        here = here;
        same = same;
        packet = packet;
        serial_is = refl;
        stands = at;
        serial = omega (arith, serial, position);
        apart = other;
      }

-- ---- what is told of an entry and a history

-- ---- what entries wait for

pub one_packet : (e : Entry) (q r : Packet) → Delivers e q → Delivers e r → q ≡ r
one_packet e q r (at, is) (later, other) = let both = sym is ∙ other in cc

module _ (given : List (List ℕ)) (hs : List NodeHistory) where
  pub given_by : (e : Entry) (n : Need) (q : Packet) → IsNeed given hs e n → Asks given hs e q → IsGivenBy hs n q
  given_by e n q (OfPacket r asks by) is = subst (IsGivenBy hs n) (one_packet e r q asks.delivers is.delivers) by
  given_by e n q (OfNothing none h here nothing) is = absurd (none q is)

  is_given : (n : Need) (q : Packet) → IsGivenBy hs n q → IsGiven hs q
  is_given n q g = record { sender = g.sender; is_sender = (is_in hs n.sender g.sender g.here, g.same); was_given = is_in (sent_in g.sender) g.stands.position q g.stands.stands }

  module _ (es : List Entry) (k : ℕ) (ns : List Need) (before : AreNeeds given hs (take k es) ns) where
    -- one entry more
    pub needs_push : (e : Entry) (n : Need) → slice_get es k ≡ Some e → IsNeed given hs e n → AreNeeds given hs (take (k + 1) es) (ns ++ n ∷ [])
    needs_push e n at is = subst (λ l. AreNeeds given hs l (ns ++ n ∷ [])) (sym (take_one es k e at)) (record {
      size = let size = before.size in omega (arith, size, length-append ns (n ∷ []), length-append (take k es) (e ∷ []));
      each = each;
    })
      where
        each : (i : ℕ) (x : Entry) (m : Need) → slice_get (take k es ++ e ∷ []) i ≡ Some x → slice_get (ns ++ n ∷ []) i ≡ Some m → IsNeed given hs x m
        each i x m at_x at_m = by (got_pushed (take k es) e i x at_x) (got_pushed ns n i m at_m)
          where
            by : (slice_get (take k es) i ≡ Some x) ⊎ ((i ≡ length (take k es)) × (e ≡ x)) → (slice_get ns i ≡ Some m) ⊎ ((i ≡ length ns) × (n ≡ m)) → IsNeed given hs x m
            by (inl old_x) (inl old_m) = before.each i x m old_x old_m
            by (inl old_x) (inr (end, is_m)) = let size = before.size in let inside = got_within (take k es) i x old_x in absurd (omega (arith, size, inside, end))
            by (inr (end, is_x)) (inl old_m) = let size = before.size in let inside = got_within ns i m old_m in absurd (omega (arith, size, inside, end))
            by (inr (end, is_x)) (inr (end_m, is_m)) = subst (IsNeed given hs x) is_m (subst (λ z. IsNeed given hs z n) is_x is)

    -- what an entry before delivers was given
    given_before : (l : ℕ) (e : Entry) → l < k → slice_get es l ≡ Some e → (r : Packet) → Asks given hs e r → IsGiven hs r
    given_before l e below at r asks =
        let there = got_taken es k l e at below in
        let inside = got_within (take k es) l e there in
        let size = before.size in
        let (n, here) = stands ns l (omega (arith, inside, size)) in
        is_given n r (given_by e n r (before.each l e n there here) asks)

    -- what is told of the next entry is told of the history
    pub blamed_in : (i : ℕ) (h : NodeHistory) (e : Entry) (g : Gap) (f : TurnFault) → slice_get hs i ≡ Some h → h.entries.now ≡ es → slice_get es k ≡ Some e → Blames given hs e g →
        ((q : Packet) → BlamesPacket hs q g → BlamesTurn hs (record { history = i; entry = k }) q f) → BlamesIn given hs i f
    blamed_in i h e g f here is at (q, asks, gap_is) told = by f (told q gap_is)
      where
        came : Turn
        came = record { history = i; entry = k }

        first : (t : Turn) → t ≡ came → CameFirstIn given hs i t q
        first t same = subst (λ z. CameFirstIn given hs i z q) (sym same) (record {
          inside = refl;
          entry = e;
          at = record { history = h; here = here; stands = ap (λ l. slice_get l k) is ∙ at };
          asks = asks;
          before = λ j l x (is_j, below) there r comes.
              let of_i : slice_get hs i ≡ Some there.history = ap (slice_get hs) (sym is_j) ∙ there.here in
              let is_h : there.history ≡ h = some_same there.history h (sym of_i ∙ here) in
              given_before l x below (ap (λ (z : List Entry). slice_get z l) (sym (ap (λ (z : NodeHistory). z.entries.now) is_h ∙ is)) ∙ there.stands) r comes;
        })

        by : (f : TurnFault) → BlamesTurn hs came q f → BlamesIn given hs i f
        by (NeverSent t) (same, none) = (q, first t same, none)
        by (Differs t other) (same, differs) = (q, first t same, differs)
        by (NoOrder places) h = absurd h
        by Memory h = absurd h

  module _ {A : Type 0} (count : ℕ) (rows : List (Vec Need A)) (needs : AreAllNeeds given hs count rows) where
    pub given_at : (j l : ℕ) (e : Entry) → j < count → EntryAt hs j l e → (r : Packet) → Asks given hs e r → IsGiven hs r
    given_at j l e below at r asks =
        let size = needs.size in
        let (v, here) = stands rows j (omega (arith, size, below)) in
        let row = needs.each j v here at.history at.here in
        let inside = got_within at.history.entries.now l e at.stands in
        let long = row.size in
        let (n, there) = stands v.items l (omega (arith, inside, long)) in
        is_given n r (given_by e n r (row.each l e n at.stands there) asks)

    -- one history more
    pub rows_push : (v : Vec Need A) → AreNeedsAt given hs count v → AreAllNeeds given hs (count + 1) (rows ++ v ∷ [])
    rows_push v row = record {
      size = let size = needs.size in omega (arith, size, length-append rows (v ∷ []));
      each = λ i w at. by i w (got_pushed rows v i w at);
    }
      where
        by : (i : ℕ) (w : Vec Need A) → (slice_get rows i ≡ Some w) ⊎ ((i ≡ length rows) × (v ≡ w)) → AreNeedsAt given hs i w
        by i w (inl old) = needs.each i w old
        by i w (inr (end, same)) = subst (AreNeedsAt given hs i) same (subst (λ j. AreNeedsAt given hs j v) (let size = needs.size in omega (arith, size, end)) row)

    came_first : (t : Turn) (q : Packet) → CameFirstIn given hs count t q → CameFirst given hs t q
    came_first t q first = record {
      entry = first.entry;
      at = first.at;
      asks = first.asks;
      before = λ j l e earlier at r asks. by j l e at r asks earlier;
    }
      where
        by : (j l : ℕ) (e : Entry) → EntryAt hs j l e → (r : Packet) → Asks given hs e r → IsEarlier j l t → IsGiven hs r
        by j l e at r asks (inl less) = given_at j l e (let is = first.inside in omega (arith, is, less)) at r asks
        by j l e at r asks (inr here) = first.before j l e here at r asks

    -- what is told of the next history is told of all
    pub explained : (f : TurnFault) → BlamesIn given hs count f → ExplainsTurns given hs f
    explained (NeverSent t) (q, first, none) = (q, came_first t q first, none)
    explained (Differs t other) (q, first, differs) = (q, came_first t q first, differs)
    explained (NoOrder places) h = absurd h
    explained Memory h = tt

  pub all_given : {A : Type 0} (rows : List (Vec Need A)) → AreAllNeeds given hs (length hs) rows → AreAllGivenWith given hs
  all_given rows needs q came none new =
      let (i, here) = place_in hs came.history came.within in
      let (k, at) = place_in came.history.entries.now came.entry came.stands in
      given_at (length hs) rows needs i k came.entry (got_within hs i came.history here) (record { history = came.history; here = here; stands = at }) q (record { delivers = came.delivers; not_given = none; not_before = new })

-- ---- the entry that sent what differs

-- what stands behind the packets of the entries before stands among those of the next
pub sent_there : (es : List Entry) (k left position : ℕ) (e : Entry) → slice_get es k ≡ Some e → position ≡ left + length (sent (take k es)) → left < length (packets_of e) →
    (q : Packet) × Contains (packets_of e) q × (slice_get (sent es) position ≡ Some q)
sent_there es k left position e at is less =
    let (q, there) = stands (packets_of e) left less in
    let cut : sent es ≡ sent (take k es) ++ (packets_of e ++ sent (drop (k + 1) es)) =
    ap sent (sym (take-append-drop (k + 1) es)) ∙ sent_join (take (k + 1) es) (drop (k + 1) es) ∙ ap (λ l. l ++ sent (drop (k + 1) es)) (ap sent (take_one es k e at) ∙ sent_join (take k es) (e ∷ []) ∙ ap (λ l. sent (take k es) ++ l) (sent_one e))
    ∙ append_assoc (sent (take k es)) (packets_of e) (sent (drop (k + 1) es)) in (
      q,
      is_in (packets_of e) left q there,
      ap (slice_get (sent es)) (let p : position ≡ length (sent (take k es)) + left = omega (arith, is) in p) ∙ ap (λ l. slice_get l (length (sent (take k es)) + left)) cut
          ∙ got_after (sent (take k es)) (packets_of e ++ sent (drop (k + 1) es)) left q (got_left (packets_of e) (sent (drop (k + 1) es)) left q there),
    )
