-- The sessions that begin where authorizations get no answer in time.
use Rattle.std.proofs.Common.{◌≡◌, ◌<◌, ◌≤◌, ◌+◌, ◌++◌, ℕ, List, [], ◌∷◌, length, get_or, drop, refl, sym, ap, subst, ◌∙◌, arith}
use Rattle.std.specs.Prelude.{Some, None, Contains}
use Rattle.std.proofs.lemmas.List.{append_assoc, append-nil, drop_all, drop_more}
use Rattle.tables.proofs.Elements.{in_front}
use Rattle.ocpi_text.specs.Text.{key}
use Rattle.node_steps.specs.Acts.{all_messages, all_requests}
use Rattle.node_steps.specs.Peers.{HasPeer}
use Rattle.node_steps.proofs.Gathering.{messages_count, requests_append}
use Rattle.operator_rows.specs.State.{State}
use Rattle.operator_steps.specs.TickFacts.{AreLeftUnanswered, IsLeftUnanswered}
use Rattle.operator_steps.specs.TickFacts as before
use Rattle.operator_planning.specs.Planned.{AreBeginnings, AreNewSessions, IsNewSession, Late, Late_begins, Next_session, No_session, None_late, all_begun, begun_acts}
use Rattle.operator_planning.specs.declared.sessions.Begun.{Begun}
use Rattle.operator_planning.proofs.BeginningCounts.{begun_asks, begun_sends, begun_within}
use Rattle.operator_planning.proofs.CountedDrafts.{CountWithin, within_both}
use Rattle.operator_planning.proofs.NewVersions.{some_session}
use Rattle.operator_planning.proofs.Versions.{begun_is}
use Rattle.operator_steps.proofs.Orderly.{in_later}
use Rattle.session_tables.specs.declared.beginning.Beginning.{Beginning}

-- a loop over late authorizations: with those of the rest, what began so far is what begins of all
abbrev pub BegunSoFar : State → ℕ → List ℕ → ℕ → List Beginning → Type 0
BegunSoFar s at late i items = (bs : List Beginning) → AreBeginnings s at (drop i late) bs → AreBeginnings s at late (items ++ bs)

module _ (s : State) (at : ℕ) (late : List ℕ) where
  pub one_begins : (i k : ℕ) (b : Beginning) (items : List Beginning) → i < length late → k ≡ get_or late i k → IsLeftUnanswered s at k (Some b) → BegunSoFar s at late i items → BegunSoFar s at late (i + 1) (items ++ b ∷ [])
  one_begins i k b items within is one so bs rest =
      let front : drop i late ≡ k ∷ drop (i + 1) late = drop_more late i k within ∙ ap (λ j. j ∷ drop (i + 1) late) (sym is) in
      let all : AreBeginnings s at (drop i late) (b ∷ bs) = subst (λ l. AreBeginnings s at l (b ∷ bs)) (sym front) (Late_begins k (drop (i + 1) late) b bs one rest) in
      subst (AreBeginnings s at late) (sym (append_assoc items (b ∷ []) bs)) (so (b ∷ bs) all)

  pub none_begins : (i k : ℕ) (items : List Beginning) → i < length late → k ≡ get_or late i k → IsLeftUnanswered s at k None → BegunSoFar s at late i items → BegunSoFar s at late (i + 1) items
  none_begins i k items within is one so bs rest =
      let front : drop i late ≡ k ∷ drop (i + 1) late = drop_more late i k within ∙ ap (λ j. j ∷ drop (i + 1) late) (sym is) in
      so bs (subst (λ l. AreBeginnings s at l bs) (sym front) (Late k (drop (i + 1) late) bs one rest))

  pub all_have_begun : (i : ℕ) (items : List Beginning) → length late ≤ i → BegunSoFar s at late i items → AreBeginnings s at late items
  all_have_begun i items past so =
      subst (AreBeginnings s at late) (append-nil items) (so [] (subst (λ l. AreBeginnings s at l []) (sym (drop_all i late past)) None_late))

-- a loop that numbers them
abbrev pub NumberedSoFar : State → ℕ → ℕ → List Beginning → ℕ → ℕ → List Begun → Type 0
NumberedSoFar s at n bs i now items = (xs : List Begun) → AreNewSessions s at now (drop i bs) xs → AreNewSessions s at n bs (items ++ xs)

module _ (s : State) (at n : ℕ) (bs : List Beginning) where
  pub one_numbered : (i now next : ℕ) (b : Beginning) (x : Begun) (items : List Begun) → i < length bs → b ≡ get_or bs i b → next ≡ now + 1 → IsNewSession s at next b x → NumberedSoFar s at n bs i now items →
      NumberedSoFar s at n bs (i + 1) next (items ++ x ∷ [])
  one_numbered i now next b x items within is number new so xs rest =
      let front : drop i bs ≡ b ∷ drop (i + 1) bs = drop_more bs i b within ∙ ap (λ c. c ∷ drop (i + 1) bs) (sym is) in
      let first : IsNewSession s at (now + 1) b x = subst (λ k. IsNewSession s at k b x) number new in
      let others : AreNewSessions s at (now + 1) (drop (i + 1) bs) xs = subst (λ k. AreNewSessions s at k (drop (i + 1) bs) xs) number rest in
      let all : AreNewSessions s at now (drop i bs) (x ∷ xs) = subst (λ l. AreNewSessions s at now l (x ∷ xs)) (sym front) (Next_session now b (drop (i + 1) bs) x xs first others) in
      subst (AreNewSessions s at n bs) (sym (append_assoc items (x ∷ []) xs)) (so (x ∷ xs) all)

  pub all_numbered : (i now : ℕ) (items : List Begun) → length bs ≤ i → NumberedSoFar s at n bs i now items → AreNewSessions s at n bs items
  all_numbered i now items past so =
      subst (AreNewSessions s at n bs) (append-nil items) (so [] (subst (λ l. AreNewSessions s at now l []) (sym (drop_all i bs past)) (No_session now)))

-- of each list of beginnings there are first versions, whatever their numbers
pub some_sessions : (s : State) (at n : ℕ) (bs : List Beginning) → ((b : Beginning) → Contains bs b → HasPeer s.providers (key b.token.party)) → (xs : List Begun) × AreNewSessions s at n bs xs
some_sessions s at n [] peers = ([], No_session n)
some_sessions s at n (b ∷ bs) peers =
    let first = some_session s at (n + 1) b (peers b (in_front b bs)) in
    let rest = some_sessions s at (n + 1) bs (λ c i. peers c (in_later b bs c i)) in
    (first.0 ∷ rest.0, Next_session n b bs first.0 rest.0 first.1 rest.1)

-- they take one packet and one request each
pub all_begun_send : (at last : ℕ) (xs : List Begun) → length (all_messages (all_begun at last xs)) ≡ length xs
all_begun_send at last [] = refl
all_begun_send at last (x ∷ xs) =
    let first = begun_acts at last x in
    let next = last + all_requests first in
    omega (arith, messages_count first (all_begun at next xs), begun_sends at last x, all_begun_send at next xs)

pub all_begun_ask : (at last : ℕ) (xs : List Begun) → all_requests (all_begun at last xs) ≡ length xs
all_begun_ask at last [] = refl
all_begun_ask at last (x ∷ xs) =
    let first = begun_acts at last x in
    let next = last + all_requests first in
    omega (arith, requests_append first (all_begun at next xs), begun_asks at last x, all_begun_ask at next xs)

pub all_begun_within : (at last : ℕ) (xs : List Begun) → CountWithin (all_begun at last xs)
all_begun_within at last [] = tt
all_begun_within at last (x ∷ xs) =
    let first = begun_acts at last x in
    let next = last + all_requests first in
    within_both first (all_begun at next xs) (begun_within at last x) (all_begun_within at next xs)

-- and are what is left unanswered
pub left_unanswered : (s : State) (at last n : ℕ) (late : List ℕ) (bs : List Beginning) (xs : List Begun) → AreBeginnings s at late bs → AreNewSessions s at n bs xs →
    AreLeftUnanswered s at last n late (all_begun at last xs) (n + length bs)
left_unanswered s at last n late bs xs None_late (No_session m) =
    let same : m ≡ m + 0 = omega arith in subst (λ k. AreLeftUnanswered s at last m [] [] k) same (before.None_left last m)
left_unanswered s at last n late bs xs (Late k ks cs one rest) new = before.Nothing_begins last n k ks (all_begun at last xs) (n + length bs) one (left_unanswered s at last n ks cs xs rest new)
left_unanswered s at last n late bs xs (Late_begins k ks b cs one rest) (Next_session m c ds x ys first others) =
    let acts = begun_acts at last x in
    let asks : 1 ≡ all_requests acts = begun_asks at last x in
    let more = left_unanswered s at (last + 1) (m + 1) ks cs ys rest others in
    let count : (m + 1) + length cs ≡ m + length (b ∷ cs) = omega arith in
    let tail : AreLeftUnanswered s at (last + 1) (m + 1) ks (all_begun at (last + all_requests acts) ys) (m + length (b ∷ cs)) =
    subst (λ j. AreLeftUnanswered s at (last + 1) (m + 1) ks (all_begun at (last + all_requests acts) ys) j) count
    (subst (λ j. AreLeftUnanswered s at (last + 1) (m + 1) ks (all_begun at (last + j) ys) ((m + 1) + length cs)) asks more) in
    before.Begins_session last m k ks b acts (all_begun at (last + all_requests acts) ys) (m + length (b ∷ cs)) one (begun_is s at last (m + 1) b x first) tail
