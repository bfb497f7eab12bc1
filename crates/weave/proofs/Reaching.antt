-- How a weaving goes on, and what its end says.
use Rattle.std.proofs.Common.{zero, suc, ◌≡◌, ◌≢◌, ℕ, ◌+◌, ◌-◌, ◌<◌, ◌≤◌, List, [], ◌∷◌, ◌++◌, length, take, drop, replicate, inl, inr, refl, sym, ap, subst, ◌∙◌, arith, append_assoc, append-nil, add-zero, length-append, length-set, take_all}
use Rattle.std.specs.Prelude.{Some, Contains, map, option_map, slice_get, slice_index, slice_set, sum}
use Rattle.std.proofs.lemmas.List.{get_or-set_other, get_or-set_same, length-map, take-append-drop}
use Rattle.std.proofs.lemmas.Option.{get_or_from_slice_get, slice_get-map}
use Rattle.std.proofs.lemmas.List.Elements.{Contains-push_cases}
use Rattle.std.proofs.lemmas.List.Sums.{sum_by-cons, sum_by-set}
use Rattle.ocpi_text.specs.Text.{key}
use Rattle.ocpi_types.specs.declared.packet.Packet.{Packet}
use Rattle.tables.proofs.Elements.{in_none}
use Rattle.histories.specs.declared.entry.Entry.{Entry}
use Rattle.histories.specs.declared.history.NodeHistory.{NodeHistory}
use Rattle.histories.specs.Causes.{HasMore}
use Rattle.histories.specs.Entries.{IsNumbered, packets_of, sent}
use Rattle.histories.specs.Weaving.{AreApart, AreNumberedBehind, Woven, history}
use Rattle.histories.proofs.Lists.{got_after, got_front, got_left, got_within, is_in, place_in, some_same, stands, take_one}
use Rattle.histories.proofs.WovenLists.{history_elsewhere, history_here, same_key, sent_join, sent_one}
use Rattle.weave.specs.declared.needs.Need.{Need}
use Rattle.weave.specs.declared.turn.Turn.{Turn}
use Rattle.weave.specs.Given.{IsWovenWith, NamesWith, WaitsWith}
use Rattle.weave.specs.Needs.{IsNeed, OfNothing, OfPacket}
use Rattle.weave.specs.Reached.{IsEarly, IsStuck, IsWovenTo, Reached, entries_in, serial_in, total}
use Rattle.weave.specs.TurnFaults.{IsEnd}
use Rattle.weave.specs.Turns.{IsOrderWith}
use Rattle.weave.proofs.Needing.{given_by}
use Rattle.weave.proofs.Places.{index_replicate, length_replicate, sum_replicate}
use Rattle.weave.proofs.Turning.{turns_push}

pub start_reached : (given : List (List ℕ)) (hs : List NodeHistory) → Reached given hs (replicate (length hs) 0) (map (λ (h : NodeHistory). h.before) hs) []
start_reached given hs = record {
  xs = [];
  nodes = λ x h. absurd (in_none x h);
  names = tt;
  turns_are = tt;
  place_each = length_replicate (length hs) 0;
  newest_each = length-map hs (λ (h : NodeHistory). h.before);
  each = λ i h at. record {
    before = sym (ap (λ n. take n h.entries.now) (index_replicate (length hs) i));
    within = let zero_is = index_replicate (length hs) i in omega (arith, zero_is);
    newest_is = get_or_from_slice_get (map (λ (g : NodeHistory). g.before) hs) i h.before 0 (slice_get-map (λ (g : NodeHistory). g.before) hs i ∙ ap (option_map (λ (g : NodeHistory). g.before)) at) ∙ sym (add-zero h.before);
  };
  count = sym (sum_replicate (length hs));
}

woven_push : (given : List (List ℕ)) (hs : List NodeHistory) (before xs : List Woven) (x : Woven) → IsWovenWith given hs before xs → NamesWith given hs (before ++ xs) x → IsWovenWith given hs before (xs ++ x ∷ [])
woven_push given hs before [] x woven names = (subst (λ l. NamesWith given hs l x) (append-nil before) names, tt)
woven_push given hs before (y ∷ xs) x (first, woven) names = (first, woven_push given hs (before ++ y ∷ []) xs x woven (subst (λ l. NamesWith given hs l x) (sym (append_assoc before (y ∷ []) xs)) names))

-- the serial of the last of some packets of a node counts those so far
last_serial : (party : List ℕ) (first : ℕ) (before ps after : List Packet) → IsNumbered party first ((before ++ ps) ++ after)
    → serial_in (first + length before) (slice_get ps (length ps - 1)) ≡ first + (length before + length ps)
last_serial party first before [] after numbered = ap (λ n. first + n) (sym (add-zero (length before)))
last_serial party first before (p ∷ ps) after numbered =
    let (q, at) = stands (p ∷ ps) (length (p ∷ ps) - 1) (omega arith) in
    let there = got_left (before ++ p ∷ ps) after (length before + (length (p ∷ ps) - 1)) q (got_after before (p ∷ ps) (length (p ∷ ps) - 1) q at) in
    let serial = (numbered (length before + (length (p ∷ ps) - 1)) q there).1 in
    let number : q.serial ≡ first + (length before + length (p ∷ ps)) = omega (arith, serial) in
    ap (serial_in (first + length before)) at ∙ number

sums : (hs : List NodeHistory) (ps : List ℕ) → length ps ≡ length hs → ((i : ℕ) (h : NodeHistory) → slice_get hs i ≡ Some h → slice_index ps i ≤ length h.entries.now) → sum ps ≤ total hs
sums [] [] each within = omega arith
sums [] (p ∷ ps) each within = absurd (omega (arith, each))
sums (h ∷ hs) [] each within = absurd (omega (arith, each))
sums (h ∷ hs) (p ∷ ps) each within =
    let first : p ≤ length h.entries.now = within zero h refl in
    let rest = sums hs ps (omega (arith, each)) (λ i g at. within (suc i) g at) in
    omega (arith, first, rest, sum_by-cons (λ n. n) p ps, sum_by-cons entries_in h hs)

module _ (given : List (List ℕ)) (hs : List NodeHistory) (places newest : List ℕ) (turns : List Turn) (r : Reached given hs places newest turns) where
  pub bound : length turns ≤ total hs
  bound = let count = r.count in let g = sums hs places r.place_each (λ i h at. (r.each i h at).within) in omega (arith, count, g)

  -- what a history sent, in front of its place and behind
  all_sent : (i : ℕ) (h : NodeHistory) → slice_get hs i ≡ Some h → sent h.entries.now ≡ sent (history (key h.party) r.xs) ++ sent (drop (slice_index places i) h.entries.now)
  all_sent i h at =
      ap sent (sym (take-append-drop (slice_index places i) h.entries.now)) ∙ sent_join (take (slice_index places i) h.entries.now) (drop (slice_index places i) h.entries.now)
      ∙ ap (λ l. sent l ++ sent (drop (slice_index places i) h.entries.now)) (sym (r.each i h at).before)

  module _ (apart : AreApart hs) (numbered : AreNumberedBehind hs) (c : ℕ) (h : NodeHistory) (here : slice_get hs c ≡ Some h) (e : Entry) (at : slice_get h.entries.now (slice_index places c) ≡ Some e)
      (n : Need) (need : IsNeed given hs e n) (ready : n.serial ≤ slice_index newest n.sender) where
    abbrev x : Woven
    x = record { party = h.party; entry = e }

    abbrev k : List ℕ
    k = key h.party

    abbrev last : ℕ
    last = serial_in (slice_index newest c) (slice_get (packets_of e) (length (packets_of e) - 1))

    abbrev places' : List ℕ
    places' = slice_set places c (slice_index places c + 1)

    abbrev newest' : List ℕ
    newest' = slice_set newest c last

    below : c < length hs
    below = got_within hs c h here

    names_x : NamesWith given hs r.xs x
    names_x q is =
        let g = given_by given hs e n q need is in
        let woven = r.each n.sender g.sender g.here in
        let count = woven.newest_is in
        let serial = g.serial_is in
        let position = g.stands.serial_is in
        let there = got_front (sent (history (key g.sender.party) r.xs)) (sent (drop (slice_index places n.sender) g.sender.entries.now)) g.stands.position q
        (ap (λ l. slice_get l g.stands.position) (sym (all_sent n.sender g.sender g.here)) ∙ g.stands.stands) (omega (arith, count, ready, serial, position)) in
        subst (λ l. Contains (sent (history l r.xs)) q) g.same (is_in (sent (history (key g.sender.party) r.xs)) g.stands.position q there)

    place_same : slice_index places' c ≡ slice_index places c + 1
    place_same = let each = r.place_each in let inside = below in get_or-set_same places c (slice_index places c + 1) 0 (omega (arith, each, inside))

    place_other : (i : ℕ) → i ≢ c → slice_index places' i ≡ slice_index places i
    place_other i other = get_or-set_other places c i (slice_index places c + 1) 0 other

    newest_same : slice_index newest' c ≡ last
    newest_same = let each = r.newest_each in let inside = below in get_or-set_same newest c last 0 (omega (arith, each, inside))

    newest_other : (i : ℕ) → i ≢ c → slice_index newest' i ≡ slice_index newest i
    newest_other i other = get_or-set_other newest c i last 0 other

    one_more : take (slice_index places c + 1) h.entries.now ≡ history k r.xs ++ e ∷ []
    one_more = take_one h.entries.now (slice_index places c) e at ∙ ap (λ l. l ++ e ∷ []) (sym (r.each c h here).before)

    longer : history k (r.xs ++ x ∷ []) ≡ take (slice_index places c + 1) h.entries.now
    longer = history_here k r.xs x refl ∙ sym one_more

    sent_then : sent (history k (r.xs ++ x ∷ [])) ≡ sent (history k r.xs) ++ packets_of e
    sent_then = ap sent (history_here k r.xs x refl) ∙ sent_join (history k r.xs) (e ∷ []) ∙ ap (λ l. sent (history k r.xs) ++ l) (sent_one e)

    last_is : last ≡ h.before + length (sent (history k (r.xs ++ x ∷ [])))
    last_is =
        let after : List Entry = drop (slice_index places c + 1) h.entries.now in
        let split : (sent (history k r.xs) ++ packets_of e) ++ sent after ≡ sent h.entries.now =
        ap (λ l. l ++ sent after) (sym sent_then) ∙ sym (sent_join (history k (r.xs ++ x ∷ [])) after) ∙ ap (λ l. sent (l ++ after)) longer ∙ ap sent (take-append-drop (slice_index places c + 1) h.entries.now) in
        let counts = last_serial h.party h.before (sent (history k r.xs)) (packets_of e) (sent after) (subst (IsNumbered h.party h.before) (sym split) (numbered h (is_in hs c h here))) in
        ap (λ m. serial_in m (slice_get (packets_of e) (length (packets_of e) - 1))) (r.each c h here).newest_is ∙ counts
        ∙ sym (ap (λ l. h.before + length l) sent_then ∙ ap (λ n. h.before + n) (length-append (sent (history k r.xs)) (packets_of e)))

    woven_here : IsWovenTo h (slice_index places' c) (slice_index newest' c) (r.xs ++ x ∷ [])
    woven_here = record {
      before = longer ∙ ap (λ m. take m h.entries.now) (sym place_same);
      within = let inside = got_within h.entries.now (slice_index places c) e at in let now = place_same in omega (arith, inside, now);
      newest_is = newest_same ∙ last_is;
    }

    woven_then : (i : ℕ) (g : NodeHistory) → slice_get hs i ≡ Some g → IsWovenTo g (slice_index places' i) (slice_index newest' i) (r.xs ++ x ∷ [])
    woven_then i g there = elim (same_key k (key g.party)) [
      | inl same ↦
          let is_c : c ≡ i = apart c i h g here there same in
          let is_g : h ≡ g = some_same h g (sym here ∙ ap (slice_get hs) is_c ∙ there) in
          subst (λ j. IsWovenTo g (slice_index places' j) (slice_index newest' j) (r.xs ++ x ∷ [])) is_c (subst (λ (z : NodeHistory). IsWovenTo z (slice_index places' c) (slice_index newest' c) (r.xs ++ x ∷ [])) is_g woven_here)
      | inr other ↦
          let not_c : i ≢ c = λ is. other (ap (λ (z : NodeHistory). key z.party) (some_same h g (sym here ∙ ap (slice_get hs) (sym is) ∙ there))) in
          let old = r.each i g there in
          record {
            before = history_elsewhere (key g.party) r.xs x other ∙ old.before ∙ ap (λ m. take m g.entries.now) (sym (place_other i not_c));
            within = let inside = old.within in let now = place_other i not_c in omega (arith, inside, now);
            newest_is = newest_other i not_c ∙ old.newest_is ∙ ap (λ l. g.before + length (sent l)) (sym (history_elsewhere (key g.party) r.xs x other));
          }
    ]

    pub taken : Reached given hs (slice_set places c (slice_index places c + 1)) (slice_set newest c (serial_in (slice_index newest c) (slice_get (packets_of e) (length (packets_of e) - 1))))
        (turns ++ record { history = c; entry = slice_index places c } ∷ [])
    taken = record {
      xs = r.xs ++ x ∷ [];
      nodes = λ y within. elim (Contains-push_cases r.xs x y within) [
        | inl i ↦ r.nodes y i
        | inr same ↦ subst (λ (z : Woven). (g : NodeHistory) × Contains hs g × (g.party ≡ z.party)) same (h, is_in hs c h here, refl)
      ];
      names = woven_push given hs [] r.xs x r.names names_x;
      turns_are = turns_push hs turns r.xs (record { history = c; entry = slice_index places c }) x r.turns_are (record { history = h; here = here; party = refl; entry = at });
      place_each = length-set places c (slice_index places c + 1) ∙ r.place_each;
      newest_each = length-set newest c last ∙ r.newest_each;
      each = woven_then;
      count =
          let each = r.place_each in
          let old = r.count in
          let inside = below in
          let sums = sum_by-set (λ m. m) places c (slice_index places c + 1) 0 (omega (arith, each, inside)) in
          let more = length-append turns (record { history = c; entry = slice_index places c } ∷ []) in
          omega (arith, old, sums, more);
    }

  -- where no history has an entry that can be taken, and one has an entry, they are at a block
  module _ (apart : AreApart hs) (numbered : AreNumberedBehind hs) where
    early_waits : (e : Entry) → IsEarly given hs newest e → WaitsWith given hs places e
    early_waits e early = (
      early.packet,
      early.asks,
      λ g.
          let is_sender : early.number ≡ g.number = apart early.number g.number early.sender g.sender early.here g.here (early.same ∙ sym g.same) in
          let woven = r.each g.number g.sender g.here in
          let given = subst (λ l. Contains (sent l) early.packet) (sym woven.before) g.was_given in
          let (j, at) = place_in (sent (history (key g.sender.party) r.xs)) early.packet given in
          let there = got_left (sent (history (key g.sender.party) r.xs)) (sent (drop (slice_index places g.number) g.sender.entries.now)) j early.packet at in
          let serial = (numbered g.sender (is_in hs g.number g.sender g.here) j early.packet (ap (λ l. slice_get l j) (all_sent g.number g.sender g.here) ∙ there)).1 in
          let inside = got_within (sent (history (key g.sender.party) r.xs)) j early.packet at in
          let count = ap (slice_index newest) is_sender ∙ woven.newest_is in
          let later = early.later in
          omega (arith, serial, inside, count, later),
    )

    pub block : ((i : ℕ) → i < length hs → IsStuck given hs places newest i) → HasMore hs places → IsEnd given hs places
    block stuck more = record {
      placed = (r.xs, record { nodes = r.nodes; within = λ i h here. (r.each i h here).within; order = λ i h here. (r.each i h here).before; names = r.names });
      block = record { size = r.place_each; some = more; each = λ i h e here at. early_waits e (stuck i (got_within hs i h here) h e here at) };
    }

  -- and where each is at its end, all is woven
  pub finished : ((i : ℕ) (h : NodeHistory) → slice_get hs i ≡ Some h → length h.entries.now ≤ slice_index places i) → IsOrderWith given hs turns
  finished done = (r.xs, record { nodes = r.nodes; order = order; names = r.names }, r.turns_are)
    where
      order : (h : NodeHistory) → Contains hs h → history (key h.party) r.xs ≡ h.entries.now
      order h within =
          let (i, here) = place_in hs h within in
          (r.each i h here).before ∙ take_all (slice_index places i) h.entries.now (done i h here)

-- an entry that cannot be taken
pub early_one : (given : List (List ℕ)) (hs : List NodeHistory) (newest : List ℕ) (e : Entry) (n : Need) → IsNeed given hs e n → slice_index newest n.sender < n.serial → IsEarly given hs newest e
early_one given hs newest e n (OfPacket q asks g) less = record {
  packet = q;
  asks = asks;
  number = n.sender;
  sender = g.sender;
  here = g.here;
  same = g.same;
  later = let serial = g.serial_is in omega (arith, less, serial);
}
early_one given hs newest e n (OfNothing none h here nothing) less = absurd (omega (arith, less, nothing))

-- so its history is stuck
pub stuck_one : (given : List (List ℕ)) (hs : List NodeHistory) (places newest : List ℕ) (i : ℕ) (h : NodeHistory) (e : Entry) (n : Need) → slice_get hs i ≡ Some h → slice_get h.entries.now (slice_index places i) ≡ Some e → IsNeed given hs e n →
    slice_index newest n.sender < n.serial → IsStuck given hs places newest i
stuck_one given hs places newest i h e n here at need less g f there is =
    let is_h : h ≡ g = some_same h g (sym here ∙ there) in
    let is_e : e ≡ f = some_same e f (sym at ∙ ap (λ (z : NodeHistory). slice_get z.entries.now (slice_index places i)) is_h ∙ is) in
    subst (IsEarly given hs newest) is_e (early_one given hs newest e n need less)

-- and so is one at its end
pub end_stuck : (given : List (List ℕ)) (hs : List NodeHistory) (places newest : List ℕ) (i : ℕ) (h : NodeHistory) → slice_get hs i ≡ Some h → length h.entries.now ≤ slice_index places i → IsStuck given hs places newest i
end_stuck given hs places newest i h here past g f there is =
    let is_h : h ≡ g = some_same h g (sym here ∙ there) in
    let size = ap (λ (z : NodeHistory). length z.entries.now) is_h in
    let inside = got_within g.entries.now (slice_index places i) f is in
    absurd (omega (arith, past, inside, size))

-- who sends what an entry waits for is one of the histories
pub sender_within : (given : List (List ℕ)) (hs : List NodeHistory) (e : Entry) (n : Need) → IsNeed given hs e n → n.sender < length hs
sender_within given hs e n (OfPacket q asks g) = got_within hs n.sender g.sender g.here
sender_within given hs e n (OfNothing none h here nothing) = got_within hs n.sender h here

module _ (given : List (List ℕ)) (hs : List NodeHistory) (places newest : List ℕ) (turns : List Turn) (r : Reached given hs places newest turns) (apart : AreApart hs) (numbered : AreNumberedBehind hs) (c : ℕ) (h : NodeHistory)
    (here : slice_get hs c ≡ Some h) (e : Entry) (at : slice_get h.entries.now (slice_index places c) ≡ Some e) (n : Need) (need : IsNeed given hs e n) (ready : n.serial ≤ slice_index newest n.sender) where
  -- as it was read and written
  pub taken_as : (place before serial : ℕ) (after : List Turn) → slice_index places c ≡ place → slice_index newest c ≡ before → serial ≡ serial_in before (slice_get (packets_of e) (length (packets_of e) - 1)) →
      after ≡ turns ++ record { history = c; entry = place } ∷ [] → Reached given hs (slice_set places c (place + 1)) (slice_set newest c serial) after
  taken_as place before serial after place_is before_is serial_is after_is =
      let number : serial_in (slice_index newest c) (slice_get (packets_of e) (length (packets_of e) - 1)) ≡ serial =
      ap (λ m. serial_in m (slice_get (packets_of e) (length (packets_of e) - 1))) before_is ∙ sym serial_is in
      subst (λ l. Reached given hs (slice_set places c (place + 1)) (slice_set newest c serial) l) (sym after_is)
      (subst (λ m. Reached given hs (slice_set places c (m + 1)) (slice_set newest c serial) (turns ++ record { history = c; entry = m } ∷ [])) place_is
      (subst (λ m. Reached given hs (slice_set places c (slice_index places c + 1)) (slice_set newest c m) (turns ++ record { history = c; entry = slice_index places c } ∷ [])) number
      (taken given hs places newest turns r apart numbered c h here e at n need ready)))
