-- However a run ended, what it wrote is what a run prints over what its keeper had.
use Rattle.std.proofs.Common.{◌≡◌, ◌≢◌, ◌<◌, ◌≤◌, ℕ, zero, suc, List, [], ◌∷◌, ◌++◌, true, Option, None, Some, IfSome, length, take, drop, inl, inr, refl, sym, ap, subst, ◌+◌, ◌∙◌, append-nil, append_assoc, take-append-drop, zero-lt-suc, suc-le-suc, arith}
use Rattle.std.proofs.lemmas.List.Elements.{All-cons, All-nil}
use Rattle.json_text.specs.Fault.{Fails as FailsToRead}
use Rattle.json_text.specs.declared.fault.JsonFault.{JsonFault}
use Rattle.json_text.specs.declared.fault.JsonFault.TheVariants.{Memory, Syntax}
use Rattle.line_runs.specs.Numbered as numbered
use Rattle.line_runs.specs.Numbered.{IsNumberedBegun, IsNumberedRun}
use Rattle.line_runs.specs.declared.outcome.Ran.{Ran}
use Rattle.line_runs.specs.declared.run.Turn.{Turn}
use Rattle.node_keepers.specs.Opening.{Source}
use Rattle.node_rows.specs.Holds.{HoldsRows}
use Rattle.node_rows.specs.Laws.{ChangesAreHeld}
use Rattle.node_runs.specs.DoneLines.{malformed_line}
use Rattle.node_runs.specs.NodeAnswers.{BehindTurn, NodeEnd, NodeEndGives, NodeLineGives, NodeTurn}
use Rattle.node_runs.specs.NodeHistories.{IsLeftBy as Leaves}
use Rattle.node_runs.specs.NodeTurns as turns
use Rattle.node_runs.specs.NodeTurns.{IsUnbegun, OpensNode, Running as Node, SetupTurn, Stage, ended_stage, keep_in, opened_stage, opening, starved_stage}
use Rattle.node_runs.specs.SetupLines.{numbered_setup_in}
use Rattle.node_runs.specs.declared.fault.NodeStop.{NodeStop}
use Rattle.node_runs.specs.declared.fault.NodeStop.TheVariants.{Memory as NodeMemory}
use Rattle.node_store.specs.Contents.{Content, line_of}
use Rattle.ocpi_types.specs.Setups.{party_of}
use Rattle.ocpi_types.specs.declared.setup.Node.{Node as Member}
use Rattle.stored_laws.specs.Nodes.{CanStartAgain, NodesCanStartAgain, last_serial}
use Rattle.stored_nodes.specs.Keepers.{IsSettled, Keeper, KeepsOn}
use Rattle.replays.proofs.Going.{on_from}
use Rattle.replays.proofs.InputLines.{ArePlain, plain_parts}
use Rattle.replays.proofs.Lists.{last_one, some_is_none}
use Rattle.replays.proofs.OutputGives.{Gives, gives_so}
use Rattle.replays.proofs.OutputStores.{Goes, Loss, Step, answered, has_rows, left_is, loses_earlier, lost, of_node, one_turn, seen, settled_on, stays}
use Rattle.replays.proofs.OutputStories.{Before, Runs, So, Story, begins_so, echo_is, first_node, first_seen, first_story, held_first, opens_so, same_line, same_number, so_far, told_line}
use Rattle.replays.proofs.OutputTexts.{IsEnded, malformed_ended, opened_ended}
use Rattle.replays.specs.Happenings.{Happening, Opened, OpenedRun}
use Rattle.replays.specs.LineTurns.{Held, IsLine, echo_of}
use Rattle.replays.specs.Openings.{opened_by}
use Rattle.replays.specs.Outputs.{HadContent, Has, MayLeave}
use Rattle.replays.specs.Printed as printed
use Rattle.replays.specs.Printed.{Prints}

-- a line, where nothing is printed of it
abbrev letter : List ℕ
letter = 65 ∷ []

letter_fed : IsLine letter
letter_fed = record { some = zero-lt-suc zero; plain = All-cons (λ b. b ≢ 10) 65 [] (λ e. omega (arith, e)) (All-nil (λ b. b ≢ 10)) }

-- what is printed over that content, where the other is left
abbrev pub Printed : List ℕ → Content → List ℕ → Content → Type 0
Printed party c text next = (held : Held) → Has c held → (told : List Happening) × ((left : Held) × (Prints party held text told left × Has next left))

front_none : (xs ys : List ℕ) → xs ++ ys ≡ [] → xs ≡ []
front_none [] ys none = refl
front_none (x ∷ xs) ys none = some_is_none x (xs ++ ys) none

module _ {K : Type 0} (keeper : Keeper K) (source : Source K) (party : List ℕ) where
  abbrev pub Shown : List ℕ → Option K → Type 0
  Shown text kept = (opened : Option K) × (IfSome opened (source.found 1)
      × ((c next : Content) → HadContent keeper opened c → MayLeave keeper c kept next → Printed party c text next))

  -- ---- nothing changed

  -- no keeper was opened
  unopened : (text : List ℕ) → ((held : Held) → Prints party held text [] held) → Shown text None
  unopened text prints = (None, (tt, λ c next had left held has. ([], (held, (prints held, subst (λ (d : Content). Has d held) (sym left) has)))))

  -- one was, and was left as it was
  kept_on : (text : List ℕ) (fresh k : K) → source.found 1 fresh → IsSettled keeper fresh → KeepsOn keeper fresh k → keeper.is_honest k
      → ((c : Content) → keeper.content fresh ≡ c → (held : Held) → Has c held → Prints party held text [] held) → Shown text (Some k)
  kept_on text fresh k found settled on honest prints = (Some fresh, (found, each))
    where
      each : (c next : Content) → HadContent keeper (Some fresh) c → MayLeave keeper c (Some k) next → Printed party c text next
      each c next had leaves held has = ([], (held, (prints c (had here) held has, subst (λ (d : Content). Has d held) (sym (same leaves)) has)))
        where
          here : keeper.is_honest fresh
          here = on.earlier honest

          same : Leaves keeper k next → next ≡ c
          same (inl is) = is ∙ on.same honest ∙ had here
          same (inr may) = settled here next (on.stops honest next may) ∙ had here

  no_more : (line front more : List ℕ) → IsLine line → echo_of line ≡ front ++ more → (held : Held) → Prints party held front [] held
  no_more line front more fed cut held = printed.NotBegun line fed front more cut

  -- the whole echo of the first line, and no more
  first_echo : (line : List ℕ) → IsLine line → (held : Held) → Prints party held (echo_of line ++ []) [] held
  first_echo line fed held =
      subst (λ l. Prints party held l [] held) (sym (append-nil (echo_of line))) (no_more line (echo_of line) [] fed (sym (append-nil (echo_of line))) held)

  module _ (wanted : Option (List ℕ)) (places : List ℕ) (asked : (p : List ℕ) → wanted ≡ Some p → p ≡ party) (changes : ChangesAreHeld) (start : NodesCanStartAgain) where
    -- ---- a node that runs

    -- what it prints on, behind what was written
    runs_on : (s : Stage K) (now : Node K) (out rest : List ℕ) (k : K) → (story : Story keeper source wanted s now out) → keeper.is_honest now.node.keep
        → ((next : Content) → Leaves keeper k next → Goes (seen s now story.last) rest next) → Shown (out ++ rest) (Some k)
    runs_on s now out rest k story honest goes = (Some o.begins.starts.fresh, (o.begins.found, each))
      where
        o : OpensNode keeper source wanted story.line
        o = story.opens

        here : keeper.is_honest story.opens.node.keep
        here = story.earlier honest

        same_text : echo_of story.line ++ (told_line story.opens ++ (story.text ++ rest)) ≡ out ++ rest
        same_text =
            sym (ap (λ l. l ++ rest) story.is ∙ append_assoc (echo_of story.line) (told_line story.opens ++ story.text) rest
            ∙ ap (λ l. echo_of story.line ++ l) (append_assoc (told_line story.opens) story.text rest))

        each : (c next : Content) → HadContent keeper (Some story.opens.begins.starts.fresh) c → MayLeave keeper c (Some k) next → Printed party c (out ++ rest) next
        each c next had leaves held has = of (goes next leaves)
          where
            content_is : keeper.content story.opens.begins.starts.fresh ≡ c
            content_is = had (story.opens.begins.starts.reopens.keeps.earlier here)

            run : OpenedRun
            run = opened_by (opens_so story.opens party asked here (story.can here) c content_is held has)

            of : Goes (seen s now story.last) rest next → (told : List Happening) × ((left : Held) × (Prints party held (out ++ rest) told left × Has next left))
            of (later, (left, (on, left_so))) = (
              Opened run ∷ (story.told ++ later),
              (
                left,
                (
                  subst (λ l. Prints party held l (Opened run ∷ (story.told ++ later)) left) same_text
                      (begins_so story.opens party asked here (story.can here) c content_is held has (story.text ++ rest) (story.told ++ later) left story.fed
                      (on_from (first_seen story.opens) (seen s now story.last) story.text story.told story.walks rest later left on)),
                  left_so,
                ),
              ),
            )

    -- of the next line no more was written than a part of its echo
    next_cut : (s : Stage K) (now : Node K) (out line front more : List ℕ) → IsLine line → echo_of line ≡ front ++ more → Story keeper source wanted s now out
        → keeper.is_honest now.node.keep → Shown (out ++ front) (Some now.node.keep)
    next_cut s now out line front more fed cut story honest = runs_on s now out front now.node.keep story honest goes
      where
        goes : (next : Content) → Leaves keeper now.node.keep next → Goes (seen s now story.last) front next
        goes next leaves =
            let same = left_is keeper now.node.keep next honest story.settled leaves in
            let h = story.held honest in
            stays (seen s now story.last) line front more next fed cut (subst (λ (d : Content). HoldsRows d now.node.state) (sym same) h.holds) (ap line_of same ∙ h.line)

    -- it was carried out, or ended the run
    next_given : (s t : Stage K) (now : Node K) (out line front more : List ℕ) (turn : Turn) (given : List ℕ) (kept : Option K) → IsLine line → given ≡ front ++ more
        → Story keeper source wanted s now out → BehindTurn keeper now s line turn given t → (suc s.number ≤ s.known → (j : K) → keep_in t.running t.spare ≡ Some j → j ≡ now.node.keep)
        → keep_in t.running t.spare ≡ kept → IfSome kept keeper.is_honest → Shown (out ++ (echo_of line ++ front)) kept
    next_given s t now out line front more turn given kept fed cut story gives known kept_is honest =
        elim (one_turn changes start keeper s t now story.last line turn given story.most gives) [ inl is ↦ went is | inr loss ↦ ended loss ]
      where
        went : Step changes start keeper s t now story.last line given → Shown (out ++ (echo_of line ++ front)) kept
        went is = subst (λ (q : Option K). Shown (out ++ (echo_of line ++ front)) q) same (runs_on s now out (echo_of line ++ front) is.next.node.keep story (is.earlier there) goes)
          where
            same : Some is.next.node.keep ≡ kept
            same = sym (ap (λ (q : Option (Node K)). keep_in q t.spare) is.running) ∙ kept_is

            there : keeper.is_honest is.next.node.keep
            there = subst (λ (q : Option K). IfSome q keeper.is_honest) (sym same) honest

            goes : (next : Content) → Leaves keeper is.next.node.keep next → Goes (seen s now story.last) (echo_of line ++ front) next
            goes next leaves =
                answered changes start keeper s t now story.last line given front more next fed is cut there (story.held (is.earlier there))
                (left_is keeper is.next.node.keep next there (is.settled story.settled) leaves)

        ended : Loss changes start keeper s t now line turn given → Shown (out ++ (echo_of line ++ front)) kept
        ended loss =
            subst (λ l. Shown (out ++ (echo_of line ++ l)) kept) (sym (front_none front more (sym cut ∙ loss.none)))
            (subst (λ l. Shown (out ++ l) kept) (sym (append-nil (echo_of line)))
            (subst (λ (q : Option K). Shown (out ++ echo_of line) q) same
            (runs_on s now out (echo_of line) loss.keep story (loses_earlier keeper now (suc s.number) line loss.stop loss.keep loss.loses there) goes)))
          where
            left : keep_in t.running t.spare ≡ Some loss.keep
            left = ap (λ (u : Stage K). keep_in u.running u.spare) loss.is

            same : Some loss.keep ≡ kept
            same = sym left ∙ kept_is

            there : keeper.is_honest loss.keep
            there = subst (λ (q : Option K). IfSome q keeper.is_honest) (sym same) honest

            goes : (next : Content) → Leaves keeper loss.keep next → Goes (seen s now story.last) (echo_of line) next
            goes next leaves = lost changes start keeper s now story.last line fed story.settled loss.stop loss.keep loss.loses (λ low. known low loss.keep left) there story.held next leaves

    -- the line that says that the node was opened, or a part of it
    opened_cut : (t : Stage K) (line : List ℕ) (o : OpensNode keeper source wanted line) (front more : List ℕ) → IsLine line → told_line o ≡ front ++ more → keeper.is_honest o.node.keep
        → CanStartAgain o.node.state → t ≡ opened_stage (opening wanted places) o None → Shown (echo_of line ++ front) (Some o.node.keep)
    opened_cut t line o [] more fed cut here can left =
        kept_on (echo_of line ++ []) o.begins.starts.fresh o.node.keep o.begins.found o.begins.starts.settled o.begins.starts.reopens.keeps here (λ c had held has. first_echo line fed held)
    opened_cut t line o (x ∷ f) [] fed cut here can left =
        subst (λ l. Shown l (Some o.node.keep)) (append-nil (echo_of line ++ told_line o) ∙ ap (λ l. echo_of line ++ l) (cut ∙ append-nil (x ∷ f)))
        (next_cut t (first_node o) (echo_of line ++ told_line o) letter [] (echo_of letter) letter_fed refl (first_story keeper source wanted places line fed o (λ honest. can) t None left) here)
    opened_cut t line o (x ∷ f) (d ∷ []) fed cut here can left = (Some o.begins.starts.fresh, (o.begins.found, each))
      where
        end : IsEnded (told_line o)
        end = opened_ended o.last (party_of o.member) o.rows (last_serial o.node.state)

        feed : d ≡ 10
        feed = last_one (x ∷ f) end.line d 10 (sym cut ∙ end.is)

        each : (c next : Content) → HadContent keeper (Some o.begins.starts.fresh) c → MayLeave keeper c (Some o.node.keep) next → Printed party c (echo_of line ++ (x ∷ f)) next
        each c next had leaves held has =
            let content_is = had (o.begins.starts.reopens.keeps.earlier here) in
            let settled = settled_on keeper o.begins.starts.fresh o.node.keep o.begins.starts.reopens.keeps o.begins.starts.settled in
            let same = left_is keeper o.node.keep next here settled leaves in
            let h = held_first o here can in
            let opens = opens_so o party asked here can c content_is held has in
            let left_so : Held = of_node o.node.state o.last in (
              Opened (opened_by opens) ∷ [],
              (
                left_so,
                (
                  printed.BareOpening line fed opens (x ∷ f) (same_line o party asked here can c content_is held has ∙ cut ∙ ap (λ b. (x ∷ f) ++ b ∷ []) feed) left_so
                      (record { rows = refl; line = same_number o party asked here can c content_is held has }),
                  has_rows next o.node.state o.last (subst (λ (e : Content). HoldsRows e o.node.state) (sym same) h.holds) (ap line_of same ∙ h.line),
                ),
              ),
            )
    opened_cut t line o (x ∷ f) (d ∷ e ∷ r) fed cut here can left =
        kept_on (echo_of line ++ (x ∷ f)) o.begins.starts.fresh o.node.keep o.begins.found o.begins.starts.settled o.begins.starts.reopens.keeps here prints
      where
        prints : (c : Content) → keeper.content o.begins.starts.fresh ≡ c → (held : Held) → Has c held → Prints party held (echo_of line ++ (x ∷ f)) [] held
        prints c had held has =
            printed.CutOpening line fed (opens_so o party asked here can c had held has) (x ∷ f) (d ∷ e ∷ r) (same_line o party asked here can c had held has ∙ cut)
            (zero-lt-suc (length f)) (suc-le-suc (zero-lt-suc (length r)))

    -- ---- the first line

    first_given : (t : Stage K) (place : ℕ) (line front more : List ℕ) (turn : Turn) (given : List ℕ) (kept : Option K) → IsLine line → given ≡ front ++ more
        → Gives keeper source (opening wanted places) place line turn given t → keep_in t.running t.spare ≡ kept → IfSome kept keeper.is_honest → Shown (echo_of line ++ front) kept
    first_given t place line front more turn given kept fed cut g kept_is honest = of g.gives
      where
        -- what is kept is that of this stage
        at : (u : Stage K) → t ≡ u → keep_in u.running u.spare ≡ kept
        at u is = sym (ap (λ (v : Stage K). keep_in v.running v.spare) is) ∙ kept_is

        shown_as : (q : Option K) → q ≡ kept → (IfSome q keeper.is_honest → Shown (echo_of line ++ front) q) → Shown (echo_of line ++ front) kept
        shown_as q is shown = subst (λ (x : Option K). Shown (echo_of line ++ front) x) is (shown (subst (λ (x : Option K). IfSome x keeper.is_honest) (sym is) honest))

        nothing : (q : Option K) → given ≡ [] → (IfSome q keeper.is_honest → Shown (echo_of line ++ []) q) → IfSome q keeper.is_honest → Shown (echo_of line ++ front) q
        nothing q none shown so = subst (λ l. Shown (echo_of line ++ l) q) (sym (front_none front more (sym cut ∙ none))) (shown so)

        unchanged : (fresh k : K) → source.found 1 fresh → IsSettled keeper fresh → KeepsOn keeper fresh k → keeper.is_honest k → Shown (echo_of line ++ []) (Some k)
        unchanged fresh k found settled on here = kept_on (echo_of line ++ []) fresh k found settled on here (λ c had held has. first_echo line fed held)

        unbegun_so : (setup : List Member) (asked_of : List ℕ) (spare : Option K) (stop : NodeStop) → IsUnbegun keeper source setup wanted asked_of spare stop → IfSome spare keeper.is_honest
            → Shown (echo_of line ++ []) spare
        unbegun_so setup asked_of spare stop (turns.Unknown none there same told) so =
            subst (λ (x : Option K). Shown (echo_of line ++ []) x) (sym same) (unopened (echo_of line ++ []) (λ held. first_echo line fed held))
        unbegun_so setup asked_of spare stop (turns.Unkept m is fault may there same told) so =
            subst (λ (x : Option K). Shown (echo_of line ++ []) x) (sym same) (unopened (echo_of line ++ []) (λ held. first_echo line fed held))
        unbegun_so setup asked_of spare stop (turns.NotMade m is fault k unmade found there same told) so =
            subst (λ (x : Option K). Shown (echo_of line ++ []) x) (sym same)
            (unchanged unmade.fresh k found unmade.settled unmade.keeps (subst (λ (x : Option K). IfSome x keeper.is_honest) same so))

        no_setup : (fault : JsonFault) → FailsToRead fault (numbered_setup_in line) → fault ≢ Memory → given ≡ malformed_line 1 None fault → (f : List ℕ) → front ≡ f → Shown (echo_of line ++ f) None
        no_setup fault fails other written [] is = unopened (echo_of line ++ []) (λ held. first_echo line fed held)
        no_setup fault fails other written (x ∷ f) is =
            unopened (echo_of line ++ (x ∷ f)) (λ held. printed.NoSetup line fed fault fails other (x ∷ f) more (sym written ∙ cut ∙ ap (λ l. l ++ more) is) (zero-lt-suc (length f)))

        of : SetupTurn keeper source (opening wanted places) line turn given t → Shown (echo_of line ++ front) kept
        of (turns.Opened o taken written left) =
            shown_as (Some o.node.keep) (at (opened_stage (opening wanted places) o None) left)
            (λ here. opened_cut t line o front more fed (sym written ∙ cut) here (g.starts refl (first_node o) (ap (λ (u : Stage K). u.running) left) here) left)
        of (turns.Untold o ended written left) =
            shown_as (Some o.node.keep) (at (opened_stage (opening wanted places) o (Some NodeMemory)) left)
            (nothing (Some o.node.keep) written (λ here. unchanged o.begins.starts.fresh o.node.keep o.begins.found o.begins.starts.settled o.begins.starts.reopens.keeps here))
        of (turns.Unbegun setup base read asked_of spare stop unbegun ended written left) =
            shown_as spare (at (ended_stage (opening wanted places) asked_of spare (Some stop)) left) (nothing spare written (unbegun_so setup asked_of spare stop unbegun))
        of (turns.NoSetup fault fails other ended written left) =
            shown_as None (at (opening wanted places) left) (λ so. no_setup fault fails other written front refl)
        of (turns.Unread ended written left) =
            shown_as None (at (starved_stage (opening wanted places)) left) (nothing None written (λ so. unopened (echo_of line ++ []) (λ held. first_echo line fed held)))

    -- ---- any line

    next_line : (s t : Stage K) (out : List ℕ) (place : ℕ) (line front more : List ℕ) (turn : Turn) (given : List ℕ) (kept : Option K) → IsLine line → given ≡ front ++ more
        → So keeper source wanted places s out → Gives keeper source s place line turn given t → keep_in t.running t.spare ≡ kept → IfSome kept keeper.is_honest
        → Shown (out ++ (echo_of line ++ front)) kept
    next_line s t out place line front more turn given kept fed cut (Before none is) g kept_is honest =
        subst (λ l. Shown (l ++ (echo_of line ++ front)) kept) (sym none)
        (first_given t place line front more turn given kept fed cut (subst (λ (u : Stage K). Gives keeper source u place line turn given t) is g) kept_is honest)
    next_line s t out place line front more turn given kept fed cut (Runs now running story) g kept_is honest =
        next_given s t now out line front more turn given kept fed cut story
        (subst (λ (q : Option (Node K)). NodeTurn keeper source q s line turn given t) running g.gives) (g.known now running) kept_is honest

    -- a part of its echo, and nothing was carried out
    next_echo : (s : Stage K) (out line front more : List ℕ) (kept : Option K) → IsLine line → echo_of line ≡ front ++ more → So keeper source wanted places s out
        → keep_in s.running s.spare ≡ kept → IfSome kept keeper.is_honest → Shown (out ++ front) kept
    next_echo s out line front more kept fed cut (Before none is) kept_is honest =
        subst (λ (q : Option K). Shown (out ++ front) q) (sym (ap (λ (u : Stage K). keep_in u.running u.spare) is) ∙ kept_is)
        (subst (λ l. Shown (l ++ front) None) (sym none) (unopened front (λ held. no_more line front more fed cut held)))
    next_echo s out line front more kept fed cut (Runs now running story) kept_is honest =
        let same : Some now.node.keep ≡ kept = sym (ap (λ (q : Option (Node K)). keep_in q s.spare) running) ∙ kept_is in
        subst (λ (q : Option K). Shown (out ++ front) q) same
        (next_cut s now out line front more fed cut story (subst (λ (q : Option K). IfSome q keeper.is_honest) (sym same) honest))

    between : (s : Stage K) (out : List ℕ) (kept : Option K) → So keeper source wanted places s out → keep_in s.running s.spare ≡ kept → IfSome kept keeper.is_honest → Shown out kept
    between s out kept so kept_is honest = subst (λ l. Shown l kept) (append-nil out) (next_echo s out letter [] (echo_of letter) kept letter_fed refl so kept_is honest)

    -- the end of the input
    at_end : (s : Stage K) (out front more given : List ℕ) (ran : Ran) (kept : Option K) → given ≡ front ++ more → So keeper source wanted places s out → NodeEnd s.running ran given
        → keep_in s.running s.spare ≡ kept → IfSome kept keeper.is_honest → Shown (out ++ front) kept
    at_end s out front more given ran kept cut (Before none is) end kept_is honest =
        let none_ran : NodeEnd {K = K} None ran given = subst (λ (q : Option (Node K)). NodeEnd q ran given) (ap (λ (u : Stage K). u.running) is) end in
        let line = malformed_ended 0 None Syntax in
        next_echo s out line.line front more kept line.fed (sym line.is ∙ sym none_ran.1 ∙ cut) (Before none is) kept_is honest
    at_end s out front more given ran kept cut (Runs now running story) end kept_is honest =
        let still : NodeEnd (Some now) ran given = subst (λ (q : Option (Node K)). NodeEnd q ran given) running end in
        subst (λ l. Shown (out ++ l) kept) (sym (front_none front more (sym cut ∙ still.1)))
        (subst (λ l. Shown l kept) (sym (append-nil out)) (between s out kept (Runs now running story) kept_is honest))

    -- ---- a run

    there_fed : (before later : List (List ℕ)) (line : List ℕ) → 0 < length line → ArePlain (before ++ line ∷ later) → IsLine line
    there_fed before later line some plain = record { some = some; plain = (plain_parts before (line ∷ later) plain).1.0 }

    pub went : {all : List (List ℕ)} {ran : Ran} {out : List ℕ} {s : Stage K} → ArePlain all → IsNumberedRun (NodeLineGives keeper source) NodeEndGives true (opening wanted places) all ran out s
        → (kept : Option K) → keep_in s.running s.spare ≡ kept → IfSome kept keeper.is_honest → Shown out kept
    went plain (numbered.numbered_end {s = s} {last = last} {out = out} {more = more} before end) kept kept_is honest =
        at_end s out more [] more last kept (sym (append-nil more)) (so_far keeper source wanted places changes start plain before) end kept_is honest
    went plain (numbered.numbered_stop {s = s} {t = t} {line = line} {before = before} {out = out} {more = more} earlier some g later) kept kept_is honest =
        subst (λ l. Shown (out ++ (l ++ more)) kept) (sym (echo_is line some))
        (next_line s t out (length before + 1) line more [] _ more kept (there_fed before later line some plain) (sym (append-nil more))
        (so_far keeper source wanted places changes start (plain_parts before (line ∷ later) plain).0 earlier) (gives_so keeper source s t line _ more (length before + 1) g) kept_is honest)

    pub stopped : {all : List (List ℕ)} {out : List ℕ} {s : Stage K} → ArePlain all → IsNumberedBegun (NodeLineGives keeper source) NodeEndGives true (opening wanted places) all out s
        → (kept : Option K) → keep_in s.running s.spare ≡ kept → IfSome kept keeper.is_honest → Shown out kept
    stopped plain (numbered.begun_between {s = s} {before = before} {out = out} earlier later) kept kept_is honest =
        between s out kept (so_far keeper source wanted places changes start (plain_parts before later plain).0 earlier) kept_is honest
    stopped plain (numbered.begun_echo {s = s} {before = before} {out = out} earlier [] front more cut later) kept kept_is honest =
        subst (λ l. Shown (out ++ l) kept) (sym (front_none front more (sym cut)))
        (subst (λ l. Shown l kept) (sym (append-nil out)) (between s out kept (so_far keeper source wanted places changes start (plain_parts before ([] ∷ later) plain).0 earlier) kept_is honest))
    stopped plain (numbered.begun_echo {s = s} {before = before} {out = out} earlier (c ∷ line) front more cut later) kept kept_is honest =
        next_echo s out (c ∷ line) front more kept (there_fed before later (c ∷ line) (zero-lt-suc (length line)) plain) cut
        (so_far keeper source wanted places changes start (plain_parts before ((c ∷ line) ∷ later) plain).0 earlier) kept_is honest
    stopped plain (numbered.begun_answer {s = s} {t = t} {line = line} {before = before} {turn = turn} {out = out} {more = more} earlier some g later n) kept kept_is honest =
        subst (λ l. Shown (out ++ (l ++ take n more)) kept) (sym (echo_is line some))
        (next_line s t out (length before + 1) line (take n more) (drop n more) turn more kept (there_fed before later line some plain) (sym (take-append-drop n more))
        (so_far keeper source wanted places changes start (plain_parts before (line ∷ later) plain).0 earlier) (gives_so keeper source s t line _ more (length before + 1) g) kept_is honest)
    stopped plain (numbered.begun_end {s = s} {last = last} {out = out} {more = more} before end n) kept kept_is honest =
        at_end s out (take n more) (drop n more) more last kept (sym (take-append-drop n more)) (so_far keeper source wanted places changes start plain before) end kept_is honest
