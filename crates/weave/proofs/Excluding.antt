-- Where there is a cause there is no interleaving, whoever is given; and what it is where nobody is.
use Rattle.std.proofs.Common.{◌≡◌, ◌⊎◌, ℕ, ◌+◌, ◌<◌, ◌≤◌, List, [], ◌∷◌, ◌++◌, length, take, drop, inl, inr, refl, sym, ap, subst, ◌∙◌, arith, append_assoc, append-nil, length-append}
use Rattle.std.specs.Prelude.{Some, Contains, slice_get, slice_index}
use Rattle.std.proofs.lemmas.Bool.{cases_lt}
use Rattle.std.proofs.lemmas.List.{take-append-drop}
use Rattle.std.proofs.lemmas.List.Elements.{Contains-append_cases, Contains-append_right}
use Rattle.ocpi_text.specs.Text.{key}
use Rattle.ocpi_types.specs.declared.packet.Packet.{Packet}
use Rattle.tables.proofs.Elements.{in_front, in_none, in_single}
use Rattle.histories.specs.declared.entry.Entry.{Entry}
use Rattle.histories.specs.declared.history.NodeHistory.{NodeHistory}
use Rattle.histories.specs.Causes.{CameTo, IsGiven, IsGivenBefore, IsSentOtherwise, IsUnsent}
use Rattle.histories.specs.Entries.{Delivers, packets_of, sent}
use Rattle.histories.specs.Weaving.{AreApart, AreNumberedBehind, IsWoven, Woven, history}
use Rattle.histories.proofs.Lists.{got_between, in_later, is_in, place_in, some_same, take_one, take_past}
use Rattle.histories.proofs.WovenLists.{given_later, has_entry, history_elsewhere, history_here, history_join, history_next, history_past, same_key, sent_join, sent_later, sent_one}
use Rattle.weave.specs.declared.turn.Turn.{Turn}
use Rattle.weave.specs.Given as laws
use Rattle.weave.specs.Given.{Asks, CanInterleaveWith, InterleavesWith, IsBlockWith, IsFrom, IsWovenWith, WasBefore}
use Rattle.weave.specs.TurnFaults.{CameFirst, IsSentOtherwiseBy}

-- what was delivered was sent
named : (given : List (List ℕ)) (hs : List NodeHistory) (before xs : List Woven) → IsWovenWith given hs before xs → (k : List ℕ) (e : Entry) → Contains (history k xs) e → (q : Packet) → Asks given hs e q → Contains (sent (history (key q.from) (before ++ xs))) q
named given hs before [] woven k e h q asks = absurd (in_none e h)
named given hs before (x ∷ xs) (names, woven) k e h q asks = elim (same_key (key x.party) k) [
  | inl same ↦ elim (Contains-append_cases (x.entry ∷ []) (history k xs) e (subst (λ l. Contains l e) (history_next k x xs same) h)) [
    | inl here ↦ given_later (key q.from) before (x ∷ xs) q (names q (subst (λ z. Asks given hs z q) (sym (in_single x.entry e here)) asks))
    | inr later ↦ subst (λ l. Contains (sent (history (key q.from) l)) q) (append_assoc before (x ∷ []) xs) (named given hs (before ++ x ∷ []) xs woven k e later q asks)
  ]
  | inr apart ↦ subst (λ l. Contains (sent (history (key q.from) l)) q) (append_assoc before (x ∷ []) xs) (named given hs (before ++ x ∷ []) xs woven k e (subst (λ l. Contains l e) (history_past k x xs apart) h) q asks)
]

module _ (given : List (List ℕ)) (hs : List NodeHistory) (xs : List Woven) (h : InterleavesWith given hs xs) where
  -- what a party sent is in its history
  sender_of : (k : List ℕ) (q : Packet) → Contains (sent (history k xs)) q → (g : NodeHistory) × Contains hs g × (key g.party ≡ k) × Contains (sent g.entries.now) q
  sender_of k q was_given =
      let (x, within, of_k) = has_entry k xs q was_given in
      let (g, in_hs, same) = h.nodes x within in
      let g_is : key g.party ≡ k = ap key same ∙ of_k in
      (g, in_hs, g_is, subst (λ l. Contains (sent l) q) (ap (λ z. history z xs) (sym g_is) ∙ h.order g in_hs) was_given)

  came_was_given : (t : Turn) (q : Packet) → CameFirst given hs t q → IsGiven hs q
  came_was_given t q came =
      let own = came.at.history in
      let within = is_in hs t.history own came.at.here in
      let stands = subst (λ l. Contains l came.entry) (sym (h.order own within)) (is_in own.entries.now t.entry came.entry came.at.stands) in
      let (g, in_hs, same, has) = sender_of (key q.from) q (named given hs [] xs h.names (key own.party) came.entry stands q came.asks) in
      record { sender = g; is_sender = (in_hs, same); was_given = has }

module _ (given : List (List ℕ)) (hs : List NodeHistory) (front : List ℕ) (apart : AreApart hs) where
  -- no entry that is placed stands at the front, or past it
  Behind : List Woven → Type 0
  Behind before = (i : ℕ) (h : NodeHistory) → slice_get hs i ≡ Some h → length (history (key h.party) before) ≤ slice_index front i

  behind_more : (before : List Woven) (x : Woven) → Behind before → (j : ℕ) (g : NodeHistory) → slice_get hs j ≡ Some g → g.party ≡ x.party → length (history (key g.party) before) < slice_index front j →
      Behind (before ++ x ∷ [])
  unfolding Behind
  behind_more before x behind j g there of_g lt i h at = elim (same_key (key x.party) (key h.party)) [
    | inl same ↦
        let keys : key g.party ≡ key h.party = ap key of_g ∙ same in
        let places : j ≡ i = apart j i g h there at keys in
        let longer = ap length (history_here (key h.party) before x same) in
        let less : length (history (key h.party) before) < slice_index front i = subst (λ k. length (history k before) < slice_index front i) keys (subst (λ n. length (history (key g.party) before) < slice_index front n) places lt) in
        omega (arith, less, longer, length-append {A = Entry})
    | inr other ↦ let e = ap length (history_elsewhere (key h.party) before x other) in let old = behind i h at in omega (arith, e, old)
  ]

  module _ (ws : List Woven) (woven : InterleavesWith given hs ws) (block : IsBlockWith given hs front) where
    -- what was sent by entries that are placed was sent before the front
    given_behind : (before xs : List Woven) → before ++ xs ≡ ws → Behind before → (q : Packet) → Contains (sent (history (key q.from) before)) q → IsGivenBefore hs front q
    unfolding Behind
    given_behind before xs is behind q was_given =
        let later = subst (λ l. Contains (sent (history (key q.from) l)) q) is (given_later (key q.from) before xs q was_given) in
        let (h, within, same, has) = sender_of given hs ws woven (key q.from) q later in
        let (i, at) = place_in hs h within in
        let (zs, cut) = take_past (history (key h.party) before) (history (key h.party) xs) (slice_index front i) (behind i h at) in
        let all : history (key h.party) before ++ history (key h.party) xs ≡ h.entries.now = sym (history_join (key h.party) before xs) ∙ ap (history (key h.party)) is ∙ woven.order h within in
        let e : take (slice_index front i) h.entries.now ≡ history (key h.party) before ++ zs = ap (take (slice_index front i)) (sym all) ∙ cut in
        let here : Contains (sent (history (key h.party) before)) q = subst (λ k. Contains (sent (history k before)) q) (sym same) was_given in
        record {
          number = i;
          sender = h;
          here = at;
          same = same;
          was_given = subst (λ l. Contains (sent l) q) (sym e) (sent_later (history (key h.party) before) zs q here);
        }

    none_left : (before xs : List Woven) → before ++ xs ≡ ws → Behind before → IsWovenWith given hs before xs → ⊥
    unfolding Behind
    none_left before [] is behind rest =
        let more = block.some in
        let whole = ap (history (key more.history.party)) (sym (append-nil before) ∙ is) ∙ woven.order more.history (is_in hs more.number more.history more.here) in
        let e = ap length whole in
        let h = behind more.number more.history more.here in
        let left = more.more in
        omega (arith, e, left, h)
    none_left before (x ∷ xs) is behind (names, rest) =
        let (h, within, of_h) = woven.nodes x (subst (λ l. Contains l x) is (Contains-append_right before (x ∷ xs) x (in_front x xs))) in
        let (i, at) = place_in hs h within in
        let is_h : key x.party ≡ key h.party = ap key (sym of_h) in
        elim (cases_lt (length (history (key h.party) before)) (slice_index front i)) [
          | inl lt ↦ none_left (before ++ x ∷ []) xs (append_assoc before (x ∷ []) xs ∙ is) (behind_more before x behind i h at of_h lt) rest
          | inr ge ↦
              let old = behind i h at in
              let there = got_between (history (key h.party) before) x.entry (history (key h.party) xs) (slice_index front i) (omega (arith, ge, old)) in
              let all : history (key h.party) before ++ x.entry ∷ history (key h.party) xs ≡ h.entries.now =
              ap (λ l. history (key h.party) before ++ l) (sym (history_next (key h.party) x xs is_h)) ∙ sym (history_join (key h.party) before (x ∷ xs)) ∙ ap (history (key h.party)) is ∙ woven.order h within in
              let (q, asks, waits) = block.each i h x.entry at (ap (λ l. slice_get l (slice_index front i)) (sym all) ∙ there) in
              waits (given_behind before (x ∷ xs) is behind q (names q asks))
        ]

pub blocks_exclude : (given : List (List ℕ)) (hs : List NodeHistory) (front : List ℕ) → AreApart hs → IsBlockWith given hs front → CanInterleaveWith given hs → ⊥
unfolding Behind
blocks_exclude given hs front apart block (ws, woven) = none_left given hs front apart ws woven block [] ws refl (λ i h at. omega arith) woven.names

pub never_sent_excludes : (given : List (List ℕ)) (hs : List NodeHistory) (t : Turn) (q : Packet) → CameFirst given hs t q → IsUnsent hs q → CanInterleaveWith given hs → ⊥
never_sent_excludes given hs t q came none (xs, woven) = let g = came_was_given given hs xs woven t q came in none g.sender g.is_sender q g.was_given refl

-- what an entry sent is among all that its history has
pub entry_sent : (es : List Entry) (k : ℕ) (e : Entry) (q : Packet) → slice_get es k ≡ Some e → Contains (packets_of e) q → Contains (sent es) q
entry_sent es k e q at has =
    let first : Contains (sent (take (k + 1) es)) q =
    subst (λ l. Contains (sent l) q) (sym (take_one es k e at)) (subst (λ l. Contains l q) (sym (sent_join (take k es) (e ∷ []) ∙ ap (λ l. sent (take k es) ++ l) (sent_one e))) (Contains-append_right (sent (take k es)) (packets_of e) q has)) in
    subst (λ l. Contains (sent l) q) (take-append-drop (k + 1) es) (sent_later (take (k + 1) es) (drop (k + 1) es) q first)

pub sent_otherwise : (hs : List NodeHistory) (t : Turn) (q : Packet) → IsSentOtherwiseBy hs t q → IsSentOtherwise hs q
sent_otherwise hs t q h = record {
  sender = h.sender;
  is_sender = (is_in hs t.history h.sender h.here, h.same);
  given = h.packet;
  was_given = entry_sent h.sender.entries.now t.entry h.entry h.packet h.stands h.was_given;
  serial = h.serial;
  apart = h.apart;
}

pub different_excludes : (given : List (List ℕ)) (hs : List NodeHistory) (t : Turn) (q : Packet) → AreNumberedBehind hs → CameFirst given hs t q → IsSentOtherwise hs q → CanInterleaveWith given hs → ⊥
different_excludes given hs t q numbered came h (xs, woven) =
    let g = came_was_given given hs xs woven t q came in
    let own : g.sender.entries.now ≡ h.sender.entries.now =
    sym (woven.order g.sender g.is_sender.0) ∙ ap (λ k. history k xs) (g.is_sender.1 ∙ sym h.is_sender.1) ∙ woven.order h.sender h.is_sender.0 in
    let (k, at) = place_in (sent h.sender.entries.now) q (subst (λ l. Contains (sent l) q) own g.was_given) in
    let (j, there) = place_in (sent h.sender.entries.now) h.given h.was_given in
    let first = (numbered h.sender h.is_sender.0 k q at).1 in
    let second = (numbered h.sender h.is_sender.0 j h.given there).1 in
    let serials = h.serial in
    let same : j ≡ k = omega (arith, first, second, serials) in
    h.apart (some_same h.given q (sym there ∙ ap (slice_get (sent h.sender.entries.now)) same ∙ at))

-- ---- where nobody is given

-- an entry of a list is in the history of its party
in_history : (xs : List Woven) (x : Woven) → Contains xs x → Contains (history (key x.party) xs) x.entry
in_history [] x h = absurd (in_none x h)
in_history (y ∷ xs) x h = elim (Contains-append_cases (y ∷ []) xs x h) [
  | inl here ↦
      let is : y ≡ x = in_single y x here in
      subst (λ (z : Woven). Contains (history (key z.party) (y ∷ xs)) z.entry) is (subst (λ l. Contains l y.entry) (sym (history_next (key y.party) y xs refl)) (in_front y.entry (history (key y.party) xs)))
  | inr later ↦
      subst (λ l. Contains l x.entry) (sym (history_join (key x.party) (y ∷ []) xs)) (Contains-append_right (history (key x.party) (y ∷ [])) (history (key x.party) xs) x.entry (in_history xs x later))
]

came_in : (given : List (List ℕ)) (hs : List NodeHistory) (xs : List Woven) → InterleavesWith given hs xs → (x : Woven) → Contains xs x → (q : Packet) → Delivers x.entry q → CameTo hs q
came_in given hs xs woven x within q delivers =
    let (h, in_hs, same) = woven.nodes x within in record {
      history = h;
      within = in_hs;
      entry = x.entry;
      stands = subst (λ l. Contains l x.entry) (ap (λ p. history (key p) xs) (sym same) ∙ woven.order h in_hs) (in_history xs x within);
      delivers = delivers;
    }

-- where no entry delivers a packet from a given party each delivery follows its sending
names_all : (given : List (List ℕ)) (hs : List NodeHistory) (before xs : List Woven) → ((x : Woven) → Contains xs x → (q : Packet) → Delivers x.entry q → IsFrom given q ⊎ WasBefore hs q → ⊥)
    → IsWovenWith given hs before xs → IsWoven before xs
names_all given hs before [] none woven = tt
names_all given hs before (x ∷ xs) none (first, woven) = (
  λ q delivers. first q (record {
    delivers = delivers;
    not_given = λ from. none x (in_front x xs) q delivers (inl from);
    not_before = λ was. none x (in_front x xs) q delivers (inr was);
  }),
  names_all given hs (before ++ x ∷ []) xs (λ y within. none y (in_later x xs y within)) woven,
)

names_any : (given : List (List ℕ)) (hs : List NodeHistory) (before xs : List Woven) → IsWoven before xs → IsWovenWith given hs before xs
names_any given hs before [] woven = tt
names_any given hs before (x ∷ xs) (first, woven) = (λ q asks. first q asks.delivers, names_any given hs (before ++ x ∷ []) xs woven)

pub none_given : laws.NoneGiven
none_given given hs xs none woven = record {
  nodes = woven.nodes;
  order = woven.order;
  names = names_all given hs [] xs (λ x within q delivers from. none q (came_in given hs xs woven x within q delivers) from) woven.names;
}

pub any_given : laws.AnyGiven
any_given given hs (xs, woven) = (xs, record { nodes = woven.nodes; order = woven.order; names = names_any given hs [] xs woven.names })
