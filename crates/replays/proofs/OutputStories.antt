-- The lines of a run, from its first: which node was opened, and what a transcript tells of it so far.
use Rattle.std.proofs.Common.{◌≡◌, ◌<◌, ◌≤◌, ℕ, List, [], ◌∷◌, ◌++◌, true, Option, None, Some, length, inl, inr, refl, sym, ap, ap₂, ◌+◌, subst, ◌∙◌, append-nil, append_assoc, arith}
use Rattle.line_runs.specs.Numbered as numbered
use Rattle.line_runs.specs.Numbered.{AreNumbered}
use Rattle.line_runs.specs.declared.outcome.Ran.{Ran}
use Rattle.line_runs.specs.declared.run.Turn.{Turn}
use Rattle.line_runs.specs.declared.run.Turn.TheVariants.{Ended, Refused, Taken}
use Rattle.node_core.specs.Members.{IsMadeOfRows}
use Rattle.node_keepers.specs.Opening.{Source}
use Rattle.node_rows.specs.Laws.{ChangesAreHeld}
use Rattle.node_runs.specs.DoneLines.{opened_line}
use Rattle.node_runs.specs.NodeAnswers.{NodeLineGives, NodeTurn}
use Rattle.node_runs.specs.NodeTurns as turns
use Rattle.node_runs.specs.NodeTurns.{OpensNode, Running as Node, SetupTurn, Stage, number_from, opened_stage, opening}
use Rattle.node_runs.specs.declared.fault.NodeStop.{NodeStop}
use Rattle.node_store.specs.Contents.{Content, line_of, rows_of}
use Rattle.ocpi_text.specs.Text.{key}
use Rattle.ocpi_text.specs.Whole.{max_whole}
use Rattle.ocpi_types.specs.Setups.{party_of}
use Rattle.ocpi_types.specs.declared.rows.Row.{Row}
use Rattle.ocpi_types.specs.declared.setup.Node.{Node as Member}
use Rattle.ocpi_types.specs.declared.setup.Node.TheVariants as member
use Rattle.stored_laws.specs.Nodes.{AreNodeRows, CanStartAgain, NodesCanStartAgain, last_serial}
use Rattle.stored_nodes.specs.Keepers.{IsSettled, Keeper}
use Rattle.world_steps.specs.World.{NodeState, Operates, Provides}
use Rattle.replays.proofs.InputLines.{ArePlain, plain_parts}
use Rattle.replays.proofs.OutputGives.{Gives, gives_so}
use Rattle.replays.proofs.OutputStores.{IsHeld, Step, one_turn, seen, settled_on}
use Rattle.replays.specs.Happenings.{Happening, Opened, came_by}
use Rattle.replays.specs.LineTurns.{Held, IsLine, Lists, Running, echo_of}
use Rattle.replays.specs.Openings.{Opens, begun, opened_by, opening_of}
use Rattle.replays.specs.Outputs.{Has}
use Rattle.replays.specs.Printed.{GoesOn, Prints}
use Rattle.replays.specs.Printed as printed
use Rattle.replays.specs.Walks.{Walks, no_line, one_line}

-- a line that holds something is echoed with its line feed
pub echo_is : (line : List ℕ) → 0 < length line → numbered.echo_of true line ≡ echo_of line
echo_is [] some = absurd (omega (arith, some))
echo_is (c ∷ line) some = refl

made_has : (setup : List Member) (m : Member) (rows : List Row) (n : NodeState) → IsMadeOfRows setup m rows n → AreNodeRows rows n
made_has setup (member.Operator party site) rows (Operates s) made = made.has_rows
made_has setup (member.Operator party site) rows (Provides s) made = absurd made
made_has setup (member.Provider party) rows (Operates s) made = absurd made
made_has setup (member.Provider party) rows (Provides s) made = made.has_rows

same_Some : {X : Type 0} (x y : X) → Some x ≡ Some y → x ≡ y
same_Some x y is = cc is

-- out ++ more, where out is cut so
regroup : (a b c d : List ℕ) → (a ++ (b ++ c)) ++ d ≡ a ++ (b ++ (c ++ d))
regroup a b c d = append_assoc a (b ++ c) d ∙ ap (λ l. a ++ l) (append_assoc b c d)

-- ---- the node that was opened

module _ {K : Type 0} {keeper : Keeper K} {source : Source K} {wanted : Option (List ℕ)} {line : List ℕ} (o : OpensNode keeper source wanted line) where
  abbrev pub first_seen : Running
  first_seen = record { party = party_of o.member; state = o.node.state; known = o.last; last = o.last; number = number_from o.base o.last }

  abbrev pub told_line : List ℕ
  told_line = opened_line o.last (party_of o.member) o.rows (last_serial o.node.state)

  abbrev pub first_node : Node K
  first_node = record { party = party_of o.member; node = o.node }

  pub held_first : keeper.is_honest o.node.keep → CanStartAgain o.node.state → IsHeld keeper o.node o.last
  held_first honest can =
      let r = o.begins.starts.reopens in
      let same = r.keeps.same honest in
      record {
        starts = can;
        holds = (r.list, ap rows_of same ∙ r.reads honest, made_has o.setup o.member r.list o.node.state r.made);
        line = ap line_of same ∙ r.told honest;
      }

  -- over what its keeper had
  module _ (party : List ℕ) (asked : (p : List ℕ) → wanted ≡ Some p → p ≡ party) (honest : keeper.is_honest o.node.keep) (can : CanStartAgain o.node.state)
      (c : Content) (had : keeper.content o.begins.starts.fresh ≡ c) (held : Held) (has : Has c held) where
    pub same_number : o.last ≡ held.line
    same_number = same_Some o.last held.line (sym (o.begins.starts.reopens.told honest) ∙ ap line_of had ∙ has.line)

    pub same_rows : has.rows ≡ o.begins.starts.reopens.list
    same_rows = same_Some has.rows o.begins.starts.reopens.list (sym has.read ∙ sym (ap rows_of had) ∙ o.begins.starts.reopens.reads honest)

    abbrev pub opens_so : Opens party held line
    opens_so = record {
      setup = o.setup;
      base = o.base;
      reads = o.reads;
      member = o.member;
      asked = record { party = party; asked = refl; within = o.asked.within; same = o.asked.same ∙ ap key (asked o.asked.party o.asked.asked) };
      state = o.node.state;
      rows = o.begins.starts.reopens.list;
      lists = subst (Lists held.kept) same_rows has.lists;
      made = o.begins.starts.reopens.made;
      starts = can;
    }

    pub same_line : opening_of opens_so ≡ told_line
    same_line =
        ap₂ (λ (n rows : ℕ). opened_line n (party_of o.member) rows (last_serial o.node.state)) (sym same_number) (sym o.begins.starts.reopens.counts)

    pub same_begun : first_seen ≡ begun opens_so
    same_begun = ap (λ (n : ℕ). record { party = party_of o.member; state = o.node.state; known = n; last = n; number = number_from o.base n }) same_number

    -- what is printed behind the opening
    pub begins_so : (text : List ℕ) (told : List Happening) (left : Held) → IsLine line → GoesOn first_seen text told left
        → Prints party held (echo_of line ++ (told_line ++ text)) (Opened (opened_by opens_so) ∷ told) left
    begins_so text told left fed on =
        subst (λ l. Prints party held (echo_of line ++ (l ++ text)) (Opened (opened_by opens_so) ∷ told) left) same_line
        (printed.Begun line fed opens_so text told left (subst (λ r. GoesOn r text told left) same_begun on))

module _ {K : Type 0} (keeper : Keeper K) (source : Source K) (wanted : Option (List ℕ)) where
  -- ---- a run so far

  pub record Story (s : Stage K) (now : Node K) (out : List ℕ) : Type 0 where
    pub line : List ℕ
    pub fed : IsLine line
    pub opens : OpensNode keeper source wanted line
    pub text : List ℕ
    pub told : List Happening
    pub last : ℕ
    pub is : out ≡ echo_of line ++ (told_line opens ++ text)
    pub walks : Walks (first_seen opens) text told (seen s now last)
    pub most : s.known ≤ max_whole
    pub settled : IsSettled keeper now.node.keep
    pub earlier : keeper.is_honest now.node.keep → keeper.is_honest opens.node.keep
    pub can : keeper.is_honest opens.node.keep → CanStartAgain opens.node.state
    pub held : keeper.is_honest now.node.keep → IsHeld keeper now.node last

module _ {K : Type 0} (keeper : Keeper K) (source : Source K) (wanted : Option (List ℕ)) (places : List ℕ) where
  -- before its first line, or with a node that runs
  pub data So (s : Stage K) (out : List ℕ) : Type 0 where
    Before : out ≡ [] → s ≡ opening wanted places → So s out
    Runs : (now : Node K) → s.running ≡ Some now → Story keeper source wanted s now out → So s out

  pub first_story : (line : List ℕ) → IsLine line → (o : OpensNode keeper source wanted line) → (keeper.is_honest o.node.keep → CanStartAgain o.node.state) → (t : Stage K) (stop : Option NodeStop)
      → t ≡ opened_stage (opening wanted places) o stop → Story keeper source wanted t (first_node o) (echo_of line ++ told_line o)
  first_story line fed o can t stop is = record {
    line = line;
    fed = fed;
    opens = o;
    text = [];
    told = [];
    last = o.last;
    is = ap (λ l. echo_of line ++ l) (sym (append-nil (told_line o)));
    walks = subst (λ (u : Stage K). Walks (first_seen o) [] [] (seen u (first_node o) o.last)) (sym is) no_line;
    most = subst (λ (u : Stage K). u.known ≤ max_whole) (sym is) o.begins.starts.reopens.most;
    settled = settled_on keeper o.begins.starts.fresh o.node.keep o.begins.starts.reopens.keeps o.begins.starts.settled;
    earlier = λ honest. honest;
    can = can;
    held = λ honest. held_first o honest (can honest);
  }

  first_line : (t : Stage K) (place : ℕ) (line : List ℕ) (turn : Turn) (out : List ℕ) → IsLine line → (turn ≡ Ended → ⊥)
      → Gives keeper source (opening wanted places) place line turn out t → So t (echo_of line ++ out)
  first_line t place line turn out fed on g = of g.gives
    where
      of : SetupTurn keeper source (opening wanted places) line turn out t → So t (echo_of line ++ out)
      of (turns.Opened o taken written left) =
          let running : t.running ≡ Some (first_node o) = ap (λ (u : Stage K). u.running) left in
          Runs (first_node o) running
          (subst (λ l. Story keeper source wanted t (first_node o) (echo_of line ++ l)) (sym written)
          (first_story line fed o (λ honest. g.starts refl (first_node o) running honest) t None left))
      of (turns.Untold o ended written left) = absurd (on ended)
      of (turns.Unbegun setup base read asked spare stop unbegun ended written left) = absurd (on ended)
      of (turns.NoSetup fault fails other ended written left) = absurd (on ended)
      of (turns.Unread ended written left) = absurd (on ended)

  -- a line more of a node that runs
  module _ (changes : ChangesAreHeld) (start : NodesCanStartAgain) where
    pub story_on : (s t : Stage K) (now : Node K) (out line more : List ℕ) → IsLine line → (story : Story keeper source wanted s now out) → (is : Step changes start keeper s t now story.last line more)
        → Story keeper source wanted t is.next (out ++ (echo_of line ++ more))
    story_on s t now out line more fed story is = record {
      line = story.line;
      fed = story.fed;
      opens = story.opens;
      text = story.text ++ (echo_of line ++ more);
      told = story.told ++ came_by line is.entered;
      last = is.after;
      is = ap (λ l. l ++ (echo_of line ++ more)) story.is ∙ regroup (echo_of story.line) (told_line story.opens) story.text (echo_of line ++ more);
      walks = one_line story.walks line fed more is.entered is.did (seen t is.next is.after) is.gives;
      most = subst (λ (n : ℕ). n ≤ max_whole) (sym is.known) story.most;
      settled = is.settled story.settled;
      earlier = λ honest. story.earlier (is.earlier honest);
      can = story.can;
      held = λ honest. is.held honest (story.held (is.earlier honest));
    }

    one_more : (s t : Stage K) (place : ℕ) (line : List ℕ) (turn : Turn) (out more : List ℕ) → IsLine line → (turn ≡ Ended → ⊥) → Gives keeper source s place line turn more t → So s out
        → So t (out ++ (echo_of line ++ more))
    one_more s t place line turn out more fed on g (Before none is) =
        subst (λ l. So t (l ++ (echo_of line ++ more))) (sym none) (first_line t place line turn more fed on (subst (λ (u : Stage K). Gives keeper source u place line turn more t) is g))
    one_more s t place line turn out more fed on g (Runs now running story) =
        elim (one_turn changes start keeper s t now story.last line turn more story.most (subst (λ (q : Option (Node K)). NodeTurn keeper source q s line turn more t) running g.gives)) [
          | inl is ↦ Runs is.next is.running (story_on s t now out line more fed story is)
          | inr loss ↦ absurd (on loss.ended)
        ]

    line_fed : (before : List (List ℕ)) (line : List ℕ) → 0 < length line → ArePlain (before ++ line ∷ []) → IsLine line
    line_fed before line some plain = record { some = some; plain = (plain_parts before (line ∷ []) plain).1.0 }

    pub so_far : {all : List (List ℕ)} {ran : Ran} {out : List ℕ} {s : Stage K} → ArePlain all → AreNumbered (NodeLineGives keeper source) true (opening wanted places) all ran out s → So s out
    so_far plain numbered.none_numbered = Before refl refl
    so_far plain (numbered.empty_line {before = before} earlier) = so_far (plain_parts before ([] ∷ []) plain).0 earlier
    so_far plain (numbered.taken_line {s = s} {t = t} {line = line} {before = before} {out = out} {more = more} earlier some g) =
        subst (λ l. So t (out ++ (l ++ more))) (sym (echo_is line some))
        (one_more s t (length before + 1) line Taken out more (line_fed before line some plain) (λ e. absurd (cc e)) (gives_so keeper source s t line _ more (length before + 1) g) (so_far (plain_parts before (line ∷ []) plain).0 earlier))
    so_far plain (numbered.refused_line {s = s} {t = t} {line = line} {before = before} {out = out} {more = more} earlier some g) =
        subst (λ l. So t (out ++ (l ++ more))) (sym (echo_is line some))
        (one_more s t (length before + 1) line Refused out more (line_fed before line some plain) (λ e. absurd (cc e)) (gives_so keeper source s t line _ more (length before + 1) g) (so_far (plain_parts before (line ∷ []) plain).0 earlier))
