-- What the contract says of a line of a run beside what it gives.
use Rattle.std.proofs.Common.{◌≡◌, ◌≢◌, ◌≤◌, ℕ, suc, List, Option, None, Some, refl, sym, ap, subst, ◌∙◌, arith}
use Rattle.line_runs.specs.declared.run.Turn.{Turn}
use Rattle.node_keepers.specs.Opening.{Source}
use Rattle.node_runs.specs.NodeAnswers as answers
use Rattle.node_runs.specs.NodeAnswers.{BehindTurn, NodeLineGives, NodeTurn}
use Rattle.node_runs.specs.NodeTurns as turns
use Rattle.node_runs.specs.NodeTurns.{OpensNode, Running, SetupTurn, Stage, keep_in}
use Rattle.ocpi_types.specs.Setups.{party_of}
use Rattle.stored_laws.specs.Nodes.{CanStartAgain}
use Rattle.stored_nodes.specs.Keepers.{Keeper}

-- The node that the first line opened can start again. A line that had taken hold before the run leaves the keeper as it
-- was, also where memory ran out at it.
pub record Gives {K : Type 0} (keeper : Keeper K) (source : Source K) (s : Stage K) (place : ℕ) (line : List ℕ) (turn : Turn) (out : List ℕ) (t : Stage K) : Type 0 where
  pub gives : NodeLineGives keeper source s place line turn out t
  pub starts : s.running ≡ None → (now : Running K) → t.running ≡ Some now → keeper.is_honest now.node.keep → CanStartAgain now.node.state
  pub known : (now : Running K) → s.running ≡ Some now → suc s.number ≤ s.known → (k : K) → keep_in t.running t.spare ≡ Some k → k ≡ now.node.keep

no_Some : {A X : Type 0} (x : A) → None ≡ Some x → X
no_Some x is = absurd cc

same_Some : {A : Type 0} (x y : A) → Some x ≡ Some y → x ≡ y
same_Some x y is = cc is

module _ {K : Type 0} (keeper : Keeper K) (source : Source K) (s t : Stage K) (line : List ℕ) (turn : Turn) (out : List ℕ) where
  opened_can : (o : OpensNode keeper source s.wanted line) → t.running ≡ Some (record { party = party_of o.member; node = o.node }) → (now : Running K) → t.running ≡ Some now → CanStartAgain now.node.state
  opened_can o left now running =
      let same = same_Some (record { party = party_of o.member; node = o.node }) now (sym left ∙ running) in
      subst (λ (n : Running K). CanStartAgain n.node.state) same o.begins.starts.stored.starts

  starts_so : SetupTurn keeper source s line turn out t → s.running ≡ None → (now : Running K) → t.running ≡ Some now → CanStartAgain now.node.state
  starts_so (turns.Opened o taken written left) first now running = opened_can o (ap (λ (u : Stage K). u.running) left) now running
  starts_so (turns.Untold o ended written left) first now running = opened_can o (ap (λ (u : Stage K). u.running) left) now running
  starts_so (turns.Unbegun setup base read asked spare stop unbegun ended written left) first now running = no_Some now (sym (ap (λ (u : Stage K). u.running) left) ∙ running)
  starts_so (turns.NoSetup fault fails other ended written left) first now running = no_Some now (sym first ∙ sym (ap (λ (u : Stage K). u.running) left) ∙ running)
  starts_so (turns.Unread ended written left) first now running = no_Some now (sym (ap (λ (u : Stage K). u.running) left) ∙ running)

  known_so : (now : Running K) → BehindTurn keeper now s line turn out t → suc s.number ≤ s.known → (k : K) → keep_in t.running t.spare ≡ Some k → k ≡ now.node.keep
  known_so now (answers.WasKnown known taken written left) low k kept = same_Some k now.node.keep (sym kept ∙ ap (λ (u : Stage K). keep_in u.running u.spare) left)
  known_so now (answers.WasBeyond at refused written left) low k kept = same_Some k now.node.keep (sym kept ∙ ap (λ (u : Stage K). keep_in u.running u.spare) left)
  known_so now (answers.GoesOn new few next is left) low k kept = absurd (omega (arith, new, low))
  known_so now (answers.Ends stop keep loses known stored number ended written left) low k kept =
      same_Some k keep (sym kept ∙ ap (λ (u : Stage K). keep_in u.running u.spare) left) ∙ (known low).1

  pub gives_so : (place : ℕ) → NodeLineGives keeper source s place line turn out t → Gives keeper source s place line turn out t
  gives_so place gives = record {
    gives = gives;
    starts = λ first now running honest. starts_so (subst (λ (q : Option (Running K)). NodeTurn keeper source q s line turn out t) first gives) first now running;
    known = λ now running low k kept. known_so now (subst (λ (q : Option (Running K)). NodeTurn keeper source q s line turn out t) running gives) low k kept;
  }
