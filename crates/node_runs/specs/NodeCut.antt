-- A line of `node` that is too long is refused whatever comes after its first bytes.
use Rattle.std.specs.Prelude.{ℕ, suc, ◌≡◌, List, Option, None, Some, Ok, take}
use Rattle.std.proofs.Common.{sym, ap, subst, ◌∙◌}
use Rattle.json_text.specs.Fault.{◌>>=◌, Fails}
use Rattle.node_lines.specs.NodeLines.{node_line_in, node_line_of}
use Rattle.ocpi_json.specs.SetupForms.{setup_in, setup_of_line}
use Rattle.line_runs.specs.declared.run.Turn.{Turn}
use Rattle.line_runs.specs.declared.lines.TheConstants.{KEPT_BYTES}
use Rattle.node_keepers.specs.Opening.{Source}
use Rattle.stored_nodes.specs.Keepers.{Keeper}
use Rattle.program_lines.specs.Cut.{tree-cut}
use Rattle.node_runs.specs.LineAnswers.{Answers}
use Rattle.node_runs.specs.LineAnswers as answer
use Rattle.node_runs.specs.NodeAnswers.{BehindTurn, LineTurn, LosesLine, NodeLineGives, NodeTurn}
use Rattle.node_runs.specs.NodeAnswers as answers
use Rattle.node_runs.specs.NodeTurns.{OpensNode, Running, SetupTurn, Stage}
use Rattle.node_runs.specs.NodeTurns as turns
use Rattle.node_runs.specs.SetupLines.{base_in, base_of_line, numbered_setup_in}
use Rattle.node_runs.specs.declared.fault.NodeStop.{NodeStop}
use Rattle.world_steps.specs.Steps.{NodeEvent as Deed}
use Rattle.world_steps.specs.World.{NodeState}

setup-cut : (line : List ℕ) → numbered_setup_in (take KEPT_BYTES line) ≡ numbered_setup_in line
unfolding numbered_setup_in setup_in base_in
setup-cut line = ap (λ t. (t >>= setup_of_line) >>= (λ setup. (t >>= base_of_line) >>= (λ base. Ok (setup, base)))) (tree-cut line)

line-cut : (line : List ℕ) → node_line_in (take KEPT_BYTES line) ≡ node_line_in line
unfolding node_line_in
line-cut line = ap (λ t. t >>= node_line_of) (tree-cut line)

answers-cut : (party : List ℕ) (now next : NodeState) (number : ℕ) (line : List ℕ) (turn : Turn) (out : List ℕ) (did : List Deed)
    → Answers party now number (take KEPT_BYTES line) turn out did next → Answers party now number line turn out did next
answers-cut party now next number line turn out did (answer.OneEvent read is turns) = answer.OneEvent read (sym (line-cut line) ∙ is) turns
answers-cut party now next number line turn out did (answer.SeveralEvents events is carries) = answer.SeveralEvents events (sym (line-cut line) ∙ is) carries

module _ {K : Type 0} (keeper : Keeper K) (source : Source K) where
  abbrev opens-cut : (wanted : Option (List ℕ)) (line : List ℕ) → OpensNode keeper source wanted (take KEPT_BYTES line) → OpensNode keeper source wanted line
  opens-cut wanted line o = record {
    setup = o.setup;
    base = o.base;
    reads = sym (setup-cut line) ∙ o.reads;
    member = o.member;
    asked = o.asked;
    rows = o.rows;
    last = o.last;
    node = o.node;
    begins = o.begins;
  }

  setup-turn-cut : (s t : Stage K) (line : List ℕ) (turn : Turn) (out : List ℕ)
      → SetupTurn keeper source s (take KEPT_BYTES line) turn out t → SetupTurn keeper source s line turn out t
  setup-turn-cut s t line turn out (turns.Opened o taken written next) = turns.Opened (opens-cut s.wanted line o) taken written next
  setup-turn-cut s t line turn out (turns.Untold o ended written next) = turns.Untold (opens-cut s.wanted line o) ended written next
  setup-turn-cut s t line turn out (turns.Unbegun setup base read asked spare stop unbegun ended written next) =
      turns.Unbegun setup base (sym (setup-cut line) ∙ read) asked spare stop unbegun ended written next
  setup-turn-cut s t line turn out (turns.NoSetup fault fails other ended written next) =
      turns.NoSetup fault (subst (Fails fault) (setup-cut line) fails) other ended written next
  setup-turn-cut s t line turn out (turns.Unread ended written next) = turns.Unread ended written next

  line-turn-cut : (now next : Running K) (number : ℕ) (line : List ℕ) (turn : Turn) (out : List ℕ)
      → LineTurn keeper now number (take KEPT_BYTES line) turn out next → LineTurn keeper now number line turn out next
  line-turn-cut now next number line turn out is = record {
    did = is.did;
    answers = answers-cut now.party now.node.state next.node.state number line turn out is.did is.answers;
    commits = is.commits;
    party = is.party;
  }

  loses-cut : (now : Running K) (number : ℕ) (line : List ℕ) (stop : NodeStop) (keep : K)
      → LosesLine keeper now number (take KEPT_BYTES line) stop keep → LosesLine keeper now number line stop keep
  loses-cut now number line stop keep (answers.WasStarved want same) = answers.WasStarved want same
  loses-cut now number line stop keep (answers.WasUntold turn out next is stored want left) =
      answers.WasUntold turn out next (line-turn-cut now next number line turn out is) stored want left
  loses-cut now number line stop keep (answers.WasDeclined turn out did after is some fault of_commit declines told) =
      answers.WasDeclined turn out did after (answers-cut now.party now.node.state after number line turn out did is) some fault of_commit declines told

  behind-cut : (now : Running K) (s t : Stage K) (line : List ℕ) (turn : Turn) (out : List ℕ)
      → BehindTurn keeper now s (take KEPT_BYTES line) turn out t → BehindTurn keeper now s line turn out t
  behind-cut now s t line turn out (answers.WasKnown is taken written left) = answers.WasKnown is taken written left
  behind-cut now s t line turn out (answers.WasBeyond is refused written left) = answers.WasBeyond is refused written left
  behind-cut now s t line turn out (answers.GoesOn new few next is left) = answers.GoesOn new few next (line-turn-cut now next (suc s.number) line turn out is) left
  behind-cut now s t line turn out (answers.Ends stop keep loses known stored number ended written left) =
      answers.Ends stop keep (loses-cut now (suc s.number) line stop keep loses) known stored number ended written left

  turn-cut : (now : Option (Running K)) (s t : Stage K) (line : List ℕ) (turn : Turn) (out : List ℕ)
      → NodeTurn keeper source now s (take KEPT_BYTES line) turn out t → NodeTurn keeper source now s line turn out t
  turn-cut None s t line turn out gives = setup-turn-cut s t line turn out gives
  turn-cut (Some now) s t line turn out gives = behind-cut now s t line turn out gives

  pub node_cut_alike : (s t : Stage K) (place : ℕ) (line : List ℕ) (turn : Turn) (out : List ℕ)
      → NodeLineGives keeper source s place (take KEPT_BYTES line) turn out t → NodeLineGives keeper source s place line turn out t
  node_cut_alike s t place line turn out gives = turn-cut s.running s t line turn out gives
