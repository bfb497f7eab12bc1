-- How many numbers the acts of a session that begins take, and that they are gathered in turn.
use Rattle.std.proofs.Common.{◌≡◌, ◌≤◌, ◌+◌, ◌++◌, ℕ, List, [], ◌∷◌, length, refl, sym, ap, ◌∙◌, arith}
use Rattle.std.specs.Prelude.{Option, Some, None}
use Rattle.ocpi_text.specs.Whole.{max_whole}
use Rattle.command_book.specs.Stored as book
use Rattle.node_steps.specs.Acts.{Act, all_messages, all_requests}
use Rattle.node_steps.specs.Drafts.{Gathered, HasNumbers, HasNumbersOf, with_acts}
use Rattle.node_steps.proofs.Gathering.{messages_count, one_more, requests_append}
use Rattle.operator_rows.specs.State.{State}
use Rattle.operator_steps.specs.declared.ending.Ending.{Ending}
use Rattle.operator_steps.specs.Acts.{spent, used}
use Rattle.operator_steps.specs.Ends.{ends_acts}
use Rattle.operator_steps.specs.Sessions.{numbered_sessions}
use Rattle.operator_steps.proofs.Ends.{ends_ask, ends_send}
use Rattle.operator_planning.specs.Planned.{BeginsWith, IsNewSession, begins_acts, begun_acts, version_acts}
use Rattle.operator_planning.specs.declared.sessions.Begun.{Begun}
use Rattle.operator_planning.proofs.CountedDrafts.{CountWithin, left_after, within_both}
use Rattle.operator_planning.proofs.Parts.{three_parts}
use Rattle.operator_planning.proofs.VersionCounts.{version_asks, version_sends, version_within}
use Rattle.operator_planning.proofs.Versions.{begun_is}
use Rattle.session_tables.specs.declared.beginning.Beginning.{Beginning}

-- a reservation that is used, and a reference that is spent, take no number
used_sends : (p : List ℕ) (id : Option (List ℕ)) → length (all_messages (used p id)) ≡ 0
used_sends p None = refl
used_sends p (Some id) = refl

used_asks : (p : List ℕ) (id : Option (List ℕ)) → all_requests (used p id) ≡ 0
used_asks p None = refl
used_asks p (Some id) = refl

used_within : (p : List ℕ) (id : Option (List ℕ)) → CountWithin (used p id)
used_within p None = tt
used_within p (Some id) = (tt, tt)

spent_sends : (p : List ℕ) (r : Option (List ℕ)) → length (all_messages (spent p r)) ≡ 0
spent_sends p None = refl
spent_sends p (Some r) = refl

spent_asks : (p : List ℕ) (r : Option (List ℕ)) → all_requests (spent p r) ≡ 0
spent_asks p None = refl
spent_asks p (Some r) = refl

spent_within : (p : List ℕ) (r : Option (List ℕ)) → CountWithin (spent p r)
spent_within p None = tt
spent_within p (Some r) = (tt, tt)

pub ends_within : (at : ℕ) (m : book.OpenCommands) (last : ℕ) (ends : List Ending) → CountWithin (ends_acts at m last ends)
ends_within at m last [] = tt
ends_within at m last (e ∷ es) = (tt, (tt, (tt, ends_within at m (last + 1) es)))

-- a session that begins: one packet and one request
pub begun_sends : (at last : ℕ) (x : Begun) → 1 ≡ length (all_messages (begun_acts at last x))
begun_sends at last x =
    let all = messages_count (used x.provider x.reservation_id) (version_acts at last x.first) in
    let none = used_sends x.provider x.reservation_id in
    let one = version_sends at last x.first in
    omega (arith, all, none, one)

pub begun_asks : (at last : ℕ) (x : Begun) → 1 ≡ all_requests (begun_acts at last x)
begun_asks at last x =
    let all = requests_append (used x.provider x.reservation_id) (version_acts at last x.first) in
    let none = used_asks x.provider x.reservation_id in
    let one = version_asks at last x.first in
    omega (arith, all, none, one)

pub begun_within : (at last : ℕ) (x : Begun) → CountWithin (begun_acts at last x)
begun_within at last x = within_both (used x.provider x.reservation_id) (version_acts at last x.first) (used_within x.provider x.reservation_id) (version_within at last x.first)

module _ (at : ℕ) (m : book.OpenCommands) (n : ℕ) (ends : List Ending) (r : Option (List ℕ)) (x : Begun) where
  abbrev Middle : ℕ → List Act
  Middle last = ends_acts at m last ends ++ spent x.provider r

  middle_sends : (last : ℕ) → length (all_messages (Middle last)) ≡ length ends
  middle_sends last = omega (arith, messages_count (ends_acts at m last ends) (spent x.provider r), ends_send at m last ends, spent_sends x.provider r)

  middle_asks : (last : ℕ) → all_requests (Middle last) ≡ length ends
  middle_asks last = omega (arith, requests_append (ends_acts at m last ends) (spent x.provider r), ends_ask at m last ends, spent_asks x.provider r)

  abbrev Rest : ℕ → List Act
  Rest last = Middle last ++ begun_acts at (last + length ends) x

  rest_sends : (last : ℕ) → length (all_messages (Rest last)) ≡ length ends + 1
  rest_sends last = omega (arith, messages_count (Middle last) (begun_acts at (last + length ends) x), middle_sends last, begun_sends at (last + length ends) x)

  rest_asks : (last : ℕ) → all_requests (Rest last) ≡ length ends + 1
  rest_asks last = omega (arith, requests_append (Middle last) (begun_acts at (last + length ends) x), middle_asks last, begun_asks at (last + length ends) x)

  pub begins_send : (last : ℕ) → length ends + 1 ≡ length (all_messages (begins_acts at m last n ends r x))
  begins_send last = sym (rest_sends last)

  pub begins_ask : (last : ℕ) → length ends + 1 ≡ all_requests (begins_acts at m last n ends r x)
  begins_ask last = let rest = rest_asks last in omega (arith, rest)

  pub begins_within : (last : ℕ) → n ≤ max_whole → CountWithin (begins_acts at m last n ends r x)
  begins_within last h =
      (h, within_both (Middle last) (begun_acts at (last + length ends) x) (within_both (ends_acts at m last ends) (spent x.provider r) (ends_within at m last ends) (spent_within x.provider r)) (begun_within at (last + length ends) x))

  -- what is gathered in turn
  module _ (d y : Gathered) (one : y ≡ with_acts (numbered_sessions n ∷ []) d) where
    pub same_request : y.counters.request ≡ d.counters.request
    same_request =
        let same : d.counters.request + all_requests (numbered_sessions n ∷ []) ≡ d.counters.request = omega arith in
        ap (λ (g : Gathered). g.counters.request) one ∙ same

    numbered_left : HasNumbers (length ends + 1) (length ends + 1) d → HasNumbers (length ends + 1) (length ends + 1) y
    numbered_left h = left_after (numbered_sessions n ∷ []) (length ends + 1) (length ends + 1) (length ends + 1) (length ends + 1) d y h one (omega arith) (omega arith)

    pub ends_have : HasNumbers (length ends + 1) (length ends + 1) d → HasNumbersOf (ends_acts at m y.counters.request ends) y
    ends_have h =
        let left = numbered_left h in
        let sends = ends_send at m y.counters.request ends in
        let asks = ends_ask at m y.counters.request ends in
        record { serials = omega (arith, left.serials, sends); requests = omega (arith, left.requests, asks) }

    module _ (z : Gathered) (two : z ≡ with_acts (ends_acts at m y.counters.request ends) y) (w : Gathered) (three : w ≡ with_acts (spent x.provider r) z) where
      pub begun_has : HasNumbers (length ends + 1) (length ends + 1) d → HasNumbers 1 1 w
      begun_has h =
          let left = numbered_left h in
          let sends = ends_send at m y.counters.request ends in
          let asks = ends_ask at m y.counters.request ends in
          let none = spent_sends x.provider r in
          let nothing = spent_asks x.provider r in
          let ended : HasNumbers 1 1 z = left_after (ends_acts at m y.counters.request ends) (length ends + 1) (length ends + 1) 1 1 y z left two (omega (arith, sends)) (omega (arith, asks)) in
          left_after (spent x.provider r) 1 1 1 1 z w ended three (omega (arith, none)) (omega (arith, nothing))

      pub begins_is : (v : Gathered) → v ≡ with_acts (begun_acts at w.counters.request x) w → v ≡ with_acts (begins_acts at m d.counters.request n ends r x) d
      begins_is v four =
          let here : y.counters.request ≡ d.counters.request = same_request in
          let ended : z.counters.request ≡ y.counters.request + all_requests (ends_acts at m y.counters.request ends) = ap (λ (g : Gathered). g.counters.request) two in
          let used_up : w.counters.request ≡ z.counters.request + all_requests (spent x.provider r) = ap (λ (g : Gathered). g.counters.request) three in
          let asks = ends_ask at m y.counters.request ends in
          let nothing = spent_asks x.provider r in
          let last : w.counters.request ≡ d.counters.request + length ends = omega (arith, here, ended, used_up, asks, nothing) in
          three_parts (ends_acts at m d.counters.request ends) (spent x.provider r) (begun_acts at (d.counters.request + length ends) x) y z w v
          (two ∙ ap (λ k. with_acts (ends_acts at m k ends) y) here) three (four ∙ ap (λ k. with_acts (begun_acts at k x) w) last)
          ∙ ap (λ (g : Gathered). with_acts (Rest d.counters.request) g) one
          ∙ one_more (numbered_sessions n) (Rest d.counters.request) d

-- they are what a line asks for
pub begins_line : (s : State) (at : ℕ) (ends : List Ending) (r : Option (List ℕ)) (b : Beginning) (x : Begun) → IsNewSession s at (s.rows.charged.last_session + 1) b x →
    BeginsWith s at ends r b (begins_acts at s.rows.commands.pending s.rows.request (s.rows.charged.last_session + 1) ends r x)
begins_line s at ends r b x h = record {
  begun = begun_acts at (s.rows.request + length ends) x;
  is_begun = begun_is s at (s.rows.request + length ends) (s.rows.charged.last_session + 1) b x h;
  acts_are = λ i. numbered_sessions (s.rows.charged.last_session + 1) ∷ ((ends_acts at s.rows.commands.pending s.rows.request ends ++ spent (h.provider_is i) r) ++ begun_acts at (s.rows.request + length ends) x);
}
