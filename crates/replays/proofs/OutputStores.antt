-- What a line makes of a node and of its store, as a transcript tells it, and what a stop leaves at one.
use Rattle.std.proofs.Common.{◌≡◌, ◌≢◌, ◌⊎◌, ◌<◌, ◌≤◌, ℕ, suc, List, [], ◌∷◌, ◌++◌, Option, Some, All, length, inl, inr, refl, sym, ap, subst, ◌∙◌, append-nil, zero-lt-suc, arith}
use Rattle.std.proofs.lemmas.Bool.{cases_lt}
use Rattle.std.proofs.lemmas.List.Elements.{All-nil}
use Rattle.line_runs.specs.declared.run.Turn.{Turn}
use Rattle.line_runs.specs.declared.run.Turn.TheVariants.{Ended}
use Rattle.node_laws.specs.Runs.{Run}
use Rattle.node_rows.specs.Holds.{HoldsRows}
use Rattle.node_rows.specs.Laws.{ChangesAreHeld}
use Rattle.node_runs.proofs.HistoryLemmas.{line_run}
use Rattle.node_runs.specs.LineAnswers.{Answers}
use Rattle.node_runs.specs.NodeAnswers as answers
use Rattle.node_runs.specs.NodeAnswers.{BehindTurn, LineTurn, LosesLine, lost_stage, next_stage}
use Rattle.node_runs.specs.NodeHistories.{IsLeftBy as Leaves}
use Rattle.node_runs.specs.NodeTurns.{Running as Node, Stage}
use Rattle.node_runs.specs.declared.fault.NodeStop.{NodeStop}
use Rattle.node_store.proofs.Numbered.{numbers_are_no_rows}
use Rattle.node_store.specs.Contents.{Content, IsReadAgain, changed_all, line_of, marked}
use Rattle.ocpi_text.specs.Whole.{max_whole}
use Rattle.ocpi_types.specs.declared.rows.Change.{Change}
use Rattle.stored_laws.specs.Nodes.{CanStartAgain, NodesCanStartAgain}
use Rattle.stored_nodes.proofs.Staying.{marked_holds}
use Rattle.stored_nodes.proofs.Together.{held_by_events, starts_by_events}
use Rattle.stored_nodes.specs.Keepers.{Commits, IsLine as IsLineNumber, IsSettled, Keeper, KeepsOn, Nothing, Taken}
use Rattle.stored_nodes.specs.Stored.{Stored}
use Rattle.stored_nodes.specs.Transactions.{changes_of_each}
use Rattle.world_steps.specs.Steps.{NodeEvent as Deed, NodeStep}
use Rattle.world_steps.specs.World.{NodeState}
use Rattle.replays.proofs.Lists.{some_is_none}
use Rattle.replays.specs.Happenings.{Happening, Placed, came_by, entries_of_line}
use Rattle.replays.specs.LineTurns.{Held, IsLine, LineGives, OfNode, Running, WasBeyond, WasKnown, WasRead, behind, echo_of, last_behind}
use Rattle.replays.specs.Outputs.{Has}
use Rattle.replays.specs.Printed.{Cut, GoesOn, Stopped, TookHold}

-- ---- the number of the last line that took hold

last_quiet : (cs : List Change) (last number : ℕ) → cs ≡ [] → last_behind cs last number ≡ last
last_quiet [] last number none = refl
last_quiet (c ∷ cs) last number none = some_is_none c cs none

last_changed : (cs : List Change) (last number : ℕ) → cs ≢ [] → last_behind cs last number ≡ number
last_changed [] last number some = absurd (some refl)
last_changed (c ∷ cs) last number some = refl

-- ---- keepers

module _ {K : Type 0} (keeper : Keeper K) where
  pub settled_on : (before after : K) → KeepsOn keeper before after → IsSettled keeper before → IsSettled keeper after
  settled_on before after on settled honest c may = settled (on.earlier honest) c (on.stops honest c may) ∙ sym (on.same honest)

  settled_by : (line : Option ℕ) (changes : List Change) (before after : K) → Commits keeper line changes before after → IsSettled keeper before → IsSettled keeper after
  settled_by line changes before after (Nothing none same) settled = subst (IsSettled keeper) (sym same) settled
  settled_by line changes before after (Taken some takes) settled = takes.settled

  earlier_by : (line : Option ℕ) (changes : List Change) (before after : K) → Commits keeper line changes before after → keeper.is_honest after → keeper.is_honest before
  earlier_by line changes before after (Nothing none same) honest = subst keeper.is_honest same honest
  earlier_by line changes before after (Taken some takes) honest = takes.earlier honest

  quiet_by : (line : Option ℕ) (changes : List Change) (before after : K) → Commits keeper line changes before after → changes ≡ [] → after ≡ before
  quiet_by line changes before after (Nothing none same) quiet = same
  quiet_by line changes before after (Taken some takes) quiet = absurd (some quiet)

  pub left_is : (k : K) (c : Content) → keeper.is_honest k → IsSettled keeper k → Leaves keeper k c → c ≡ keeper.content k
  left_is k c honest settled (inl is) = is
  left_is k c honest settled (inr may) = settled honest c may

  -- a keeper that is honest where a line was lost was so before it
  pub loses_earlier : (now : Node K) (number : ℕ) (line : List ℕ) (stop : NodeStop) (keep : K) → LosesLine keeper now number line stop keep → keeper.is_honest keep → keeper.is_honest now.node.keep
  loses_earlier now number line stop keep (answers.WasStarved want same) honest = subst keeper.is_honest same honest
  loses_earlier now number line stop keep (answers.WasUntold turn out after is stored want same) honest =
      earlier_by (Some number) (changes_of_each is.did) now.node.keep after.node.keep is.commits (subst keeper.is_honest same honest)
  loses_earlier now number line stop keep (answers.WasDeclined turn out did after is some fault of_commit d told) honest = d.earlier honest

  -- the store of a node that runs, and the number of the last line that took hold
  pub record IsHeld (now : Stored K) (last : ℕ) : Type 0 where
    pub starts : CanStartAgain now.state
    pub holds : HoldsRows (keeper.content now.keep) now.state
    pub line : line_of (keeper.content now.keep) ≡ Some last

-- ---- what is left

abbrev pub of_node : NodeState → ℕ → Held
of_node n last = record { kept = OfNode n; line = last }

pub has_rows : (c : Content) (n : NodeState) (last : ℕ) → HoldsRows c n → line_of c ≡ Some last → Has c (of_node n last)
has_rows c n last (rows, are, of) line = record { rows = rows; read = are; lists = of; line = line }

-- what is printed from there on, where that is left
abbrev pub Goes : Running → List ℕ → Content → Type 0
Goes now text next = (told : List Happening) × ((left : Held) × (GoesOn now text told left × Has next left))

-- a beginning of the echo of a line, which was not carried out
pub stays : (now : Running) (line front more : List ℕ) (next : Content) → IsLine line → echo_of line ≡ front ++ more → HoldsRows next now.state → line_of next ≡ Some now.last → Goes now front next
stays now line front more next fed cut holds last =
    ([], (of_node now.state now.last, (Stopped line fed front more cut (of_node now.state now.last) (record { rows = refl; line = refl }), has_rows next now.state now.last holds last)))

-- the whole echo of one that was, and took hold
took : (now : Running) (line : List ℕ) (next : Content) → IsLine line → (out : List ℕ) (entered : List Placed) (did : List Deed) (after : Running) → LineGives now line out entered did after
    → changes_of_each did ≢ [] → HoldsRows next after.state → line_of next ≡ Some after.last → Goes now (echo_of line) next
took now line next fed out entered did after gives changed holds last =
    (came_by line entered, (of_node after.state after.last, (TookHold line fed out entered did after gives changed (of_node after.state after.last) (record { rows = refl; line = refl }), has_rows next after.state after.last holds last)))

-- the echo, and a part of what the line gives
cut_there : (now : Running) (line : List ℕ) (next : Content) → IsLine line → (out : List ℕ) (entered : List Placed) (did : List Deed) (after : Running) → LineGives now line out entered did after
    → (front more : List ℕ) → out ≡ front ++ more → 0 < length front → HoldsRows next after.state → line_of next ≡ Some after.last → Goes now (echo_of line ++ front) next
cut_there now line next fed out entered did after gives front more cut some holds last =
    (came_by line entered, (of_node after.state after.last, (Cut line fed out entered did after gives front more cut some (of_node after.state after.last) (record { rows = refl; line = refl }), has_rows next after.state after.last holds last)))

-- ---- a node that runs

-- as a transcript tells it
abbrev pub seen : {K : Type 0} → Stage K → Node K → ℕ → Running
seen s now last = record { party = now.party; state = now.node.state; known = s.known; last = last; number = s.number }

module _ (changes : ChangesAreHeld) (start : NodesCanStartAgain) {K : Type 0} (keeper : Keeper K) where
  -- what was committed are the rows of the node behind the line, with its number
  made_rows : (c : Content) (n m : NodeState) (did : List Deed) (number : ℕ) → CanStartAgain n → HoldsRows c n → Run NodeStep n did m → All IsReadAgain (changes_of_each did)
      → HoldsRows (marked (Some number) (changed_all c (changes_of_each did))) m
  made_rows c n m did number can holds run again =
      marked_holds (Some number) (changed_all c (changes_of_each did)) m (held_by_events changes start c n m did can holds run again)

  made_line : (c : Content) (did : List Deed) (number last : ℕ) → changes_of_each did ≢ [] → IsLineNumber (Some number)
      → line_of (marked (Some number) (changed_all c (changes_of_each did))) ≡ Some (last_behind (changes_of_each did) last number)
  made_line c did number last some is_line =
      numbers_are_no_rows.is (changed_all c (changes_of_each did)) number is_line.0 is_line.1 ∙ ap Some (sym (last_changed (changes_of_each did) last number some))

  held_on : (number : ℕ) (line out : List ℕ) (turn : Turn) (now next : Node K) (is : LineTurn keeper now number line turn out next) (last : ℕ) → keeper.is_honest next.node.keep
      → IsHeld keeper now.node last → IsHeld keeper next.node (last_behind (changes_of_each is.did) last number)
  held_on number line out turn now next is last honest h = of is.commits
    where
      run : Run NodeStep now.node.state is.did next.node.state
      run = line_run is.answers

      can : CanStartAgain next.node.state
      can = starts_by_events start now.node.state next.node.state is.did run h.starts

      of : Commits keeper (Some number) (changes_of_each is.did) now.node.keep next.node.keep → IsHeld keeper next.node (last_behind (changes_of_each is.did) last number)
      of (Nothing none same) =
          let c = keeper.content now.node.keep in
          let again = subst (All IsReadAgain) (sym none) (All-nil IsReadAgain) in
          let holds = subst (λ (cs : List Change). HoldsRows (changed_all c cs) next.node.state) none (held_by_events changes start c now.node.state next.node.state is.did h.starts h.holds run again) in
          record {
            starts = can;
            holds = subst (λ (k : K). HoldsRows (keeper.content k) next.node.state) (sym same) holds;
            line = ap (λ (k : K). line_of (keeper.content k)) same ∙ h.line ∙ ap Some (sym (last_quiet (changes_of_each is.did) last number none));
          }
      of (Taken some takes) =
          let c = keeper.content now.node.keep in
          record {
            starts = can;
            holds = subst (λ (d : Content). HoldsRows d next.node.state) (sym (takes.makes honest)) (made_rows c now.node.state next.node.state is.did number h.starts h.holds run takes.again);
            line = ap line_of (takes.makes honest) ∙ made_line c is.did number last some takes.is_line;
          }

  -- ---- a line behind which the node runs on

  pub record Step (s t : Stage K) (now : Node K) (last : ℕ) (line out : List ℕ) : Type 0 where
    pub next : Node K
    pub running : t.running ≡ Some next
    pub after : ℕ
    pub entered : List Placed
    pub did : List Deed
    pub gives : LineGives (seen s now last) line out entered did (seen t next after)
    pub known : t.known ≡ s.known
    pub settled : IsSettled keeper now.node.keep → IsSettled keeper next.node.keep
    pub earlier : keeper.is_honest next.node.keep → keeper.is_honest now.node.keep
    pub held : keeper.is_honest next.node.keep → IsHeld keeper now.node last → IsHeld keeper next.node after
    pub quiet : changes_of_each did ≡ [] → next.node.keep ≡ now.node.keep

  -- one at which it ended
  pub record Loss (s t : Stage K) (now : Node K) (line : List ℕ) (turn : Turn) (out : List ℕ) : Type 0 where
    pub stop : NodeStop
    pub keep : K
    pub number : ℕ
    pub loses : LosesLine keeper now (suc s.number) line stop keep
    pub ended : turn ≡ Ended
    pub none : out ≡ []
    pub is : t ≡ lost_stage s keep stop number

  read_on : (s : Stage K) (now next : Node K) (last : ℕ) (line out : List ℕ) (turn : Turn) → s.known ≤ s.number → suc s.number ≤ max_whole
      → LineTurn keeper now (suc s.number) line turn out next → Step s (next_stage s next (suc s.number)) now last line out
  read_on s now next last line out turn new few is =
      let cs = changes_of_each is.did in
      let after = last_behind cs last (suc s.number) in
      record {
        next = next;
        running = refl;
        after = after;
        entered = entries_of_line is.answers;
        did = is.did;
        gives = WasRead new few turn next.node.state is.answers refl
            (ap (λ (p : List ℕ). record { party = p; state = next.node.state; known = s.known; last = after; number = suc s.number }) is.party);
        known = refl;
        settled = settled_by keeper (Some (suc s.number)) cs now.node.keep next.node.keep is.commits;
        earlier = earlier_by keeper (Some (suc s.number)) cs now.node.keep next.node.keep is.commits;
        held = λ honest h. held_on (suc s.number) line out turn now next is last honest h;
        quiet = quiet_by keeper (Some (suc s.number)) cs now.node.keep next.node.keep is.commits;
      }

  -- one of which nothing is carried out
  passed_on : (s : Stage K) (now : Node K) (last number : ℕ) (line out : List ℕ) → LineGives (seen s now last) line out [] [] (seen (next_stage s now number) now last)
      → Step s (next_stage s now number) now last line out
  passed_on s now last number line out gives = record {
    next = now;
    running = refl;
    after = last;
    entered = [];
    did = [];
    gives = gives;
    known = refl;
    settled = λ settled. settled;
    earlier = λ honest. honest;
    held = λ honest h. h;
    quiet = λ none. refl;
  }

  pub one_turn : (s t : Stage K) (now : Node K) (last : ℕ) (line : List ℕ) (turn : Turn) (out : List ℕ) → s.known ≤ max_whole → BehindTurn keeper now s line turn out t
      → Step s t now last line out ⊎ Loss s t now line turn out
  one_turn s t now last line turn out most (answers.WasKnown known taken written left) =
      inl (subst (λ (u : Stage K). Step s u now last line out) (sym left) (passed_on s now last (suc s.number) line out (WasKnown known written refl refl refl)))
  one_turn s t now last line turn out most (answers.WasBeyond at refused written left) =
      let same : seen (next_stage s now max_whole) now last ≡ seen s now last =
      ap (λ (n : ℕ). record { party = now.party; state = now.node.state; known = s.known; last = last; number = n }) (sym at) in
      inl (subst (λ (u : Stage K). Step s u now last line out) (sym left)
      (passed_on s now last max_whole line out (WasBeyond (omega (arith, most, at)) at written refl refl same)))
  one_turn s t now last line turn out most (answers.GoesOn new few next is left) =
      inl (subst (λ (u : Stage K). Step s u now last line out) (sym left) (read_on s now next last line out turn (omega (arith, new)) few is))
  one_turn s t now last line turn out most (answers.Ends stop keep loses known stored number ended written left) =
      inr (record { stop = stop; keep = keep; number = number; loses = loses; ended = ended; none = written; is = left })

  -- ---- a stop at a line

  -- some of what it gives was written, or none
  pub answered : (s t : Stage K) (now : Node K) (last : ℕ) (line out front more : List ℕ) (next : Content) → IsLine line → (is : Step s t now last line out) → out ≡ front ++ more
      → keeper.is_honest is.next.node.keep → IsHeld keeper now.node last → next ≡ keeper.content is.next.node.keep → Goes (seen s now last) (echo_of line ++ front) next
  answered s t now last line out [] more next fed is cut honest h left = subst (λ l. Goes (seen s now last) l next) (sym (append-nil (echo_of line))) (of (changes_of_each is.did) refl)
    where
      after : IsHeld keeper is.next.node is.after
      after = is.held honest h

      of : (cs : List Change) → changes_of_each is.did ≡ cs → Goes (seen s now last) (echo_of line) next
      of [] none =
          let same : next ≡ keeper.content now.node.keep = left ∙ ap keeper.content (is.quiet none) in
          stays (seen s now last) line (echo_of line) [] next fed (sym (append-nil (echo_of line))) (subst (λ (c : Content). HoldsRows c now.node.state) (sym same) h.holds) (ap line_of same ∙ h.line)
      of (c ∷ cs) some =
          took (seen s now last) line next fed out is.entered is.did (seen t is.next is.after) is.gives (λ none. some_is_none c cs (sym some ∙ none))
          (subst (λ (d : Content). HoldsRows d is.next.node.state) (sym left) after.holds) (ap line_of left ∙ after.line)
  answered s t now last line out (c ∷ front) more next fed is cut honest h left =
      let after = is.held honest h in
      cut_there (seen s now last) line next fed out is.entered is.did (seen t is.next is.after) is.gives (c ∷ front) more cut (zero-lt-suc (length front))
      (subst (λ (d : Content). HoldsRows d is.next.node.state) (sym left) after.holds) (ap line_of left ∙ after.line)

  -- the node ended at it: it was carried out, or it was not
  module _ (s : Stage K) (now : Node K) (last : ℕ) (line : List ℕ) (fed : IsLine line) (settled : IsSettled keeper now.node.keep) where
    abbrev Behind : Content → Type 0
    Behind next = Goes (seen s now last) (echo_of line) next

    before : (next : Content) → IsHeld keeper now.node last → next ≡ keeper.content now.node.keep → Behind next
    before next h same =
        stays (seen s now last) line (echo_of line) [] next fed (sym (append-nil (echo_of line))) (subst (λ (c : Content). HoldsRows c now.node.state) (sym same) h.holds) (ap line_of same ∙ h.line)

    carried : (next : Content) → IsHeld keeper now.node last → s.known ≤ s.number → (turn : Turn) (out : List ℕ) (did : List Deed) (after : NodeState)
        → (is : Answers now.party now.node.state (suc s.number) line turn out did after) → changes_of_each did ≢ [] → All IsReadAgain (changes_of_each did) → IsLineNumber (Some (suc s.number))
        → next ≡ marked (Some (suc s.number)) (changed_all (keeper.content now.node.keep) (changes_of_each did)) → Behind next
    carried next h new turn out did after is some again is_line made =
        let c = keeper.content now.node.keep in
        took (seen s now last) line next fed out (entries_of_line is) did (behind (seen s now last) (suc s.number) did after) (WasRead new is_line.1 turn after is refl refl) some
        (subst (λ (d : Content). HoldsRows d after) (sym made) (made_rows c now.node.state after did (suc s.number) h.starts h.holds (line_run is) again))
        (ap line_of made ∙ made_line c did (suc s.number) last some is_line)

    -- a line that is read
    lost_new : s.known ≤ s.number → (stop : NodeStop) (keep : K) → LosesLine keeper now (suc s.number) line stop keep → keeper.is_honest keep
        → (keeper.is_honest now.node.keep → IsHeld keeper now.node last) → (next : Content) → Leaves keeper keep next → Behind next
    lost_new new stop keep (answers.WasStarved want same) honest h next leaves =
        let here = subst keeper.is_honest same honest in
        before next (h here) (left_is keeper now.node.keep next here settled (subst (λ (k : K). Leaves keeper k next) same leaves))
    lost_new new stop keep (answers.WasUntold turn out after is stored want same) honest h next leaves =
        let there = subst keeper.is_honest same honest in
        of is.commits there
        (left_is keeper after.node.keep next there (settled_by keeper (Some (suc s.number)) (changes_of_each is.did) now.node.keep after.node.keep is.commits settled) (subst (λ (k : K). Leaves keeper k next) same leaves))
      where
        of : Commits keeper (Some (suc s.number)) (changes_of_each is.did) now.node.keep after.node.keep → keeper.is_honest after.node.keep → next ≡ keeper.content after.node.keep → Behind next
        of (Nothing none kept) there left = before next (h (subst keeper.is_honest kept there)) (left ∙ ap keeper.content kept)
        of (Taken some takes) there left =
            carried next (h (takes.earlier there)) new turn out is.did after.node.state is.answers some takes.again takes.is_line (left ∙ takes.makes there)
    lost_new new stop keep (answers.WasDeclined turn out did after is some fault of_commit d told) honest h next leaves =
        let here = d.earlier honest in
        elim leaves [
          | inl same ↦ before next (h here) (same ∙ d.same honest)
          | inr may ↦ elim (d.stops honest next may) [
            | inl earlier ↦ before next (h here) (settled here next earlier)
            | inr made ↦ carried next (h here) new turn out did after is some made.1 d.is_line made.0
          ]
        ]

    pub lost : (stop : NodeStop) (keep : K) → LosesLine keeper now (suc s.number) line stop keep → (suc s.number ≤ s.known → keep ≡ now.node.keep) → keeper.is_honest keep
        → (keeper.is_honest now.node.keep → IsHeld keeper now.node last) → (next : Content) → Leaves keeper keep next → Behind next
    lost stop keep loses known honest h next leaves = elim (cases_lt s.number s.known) [
      | inl low ↦ (
          let same = known (omega (arith, low)) in
          let here = subst keeper.is_honest same honest in
          before next (h here) (left_is keeper now.node.keep next here settled (subst (λ (k : K). Leaves keeper k next) same leaves)))
      | inr new ↦ lost_new new stop keep loses honest h next leaves
    ]
