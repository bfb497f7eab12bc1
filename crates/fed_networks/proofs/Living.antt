-- The life of a node is a run of it.
use Rattle.std.proofs.Common.{ℕ, List, [], ◌∷◌, ◌++◌, Option, refl, sym, subst, append_assoc, append-nil}
use Rattle.std.specs.Prelude.{Contains}
use Rattle.feeding_laws.specs.Feeding.{CameOnce, next_came, none_came, starts}
use Rattle.network_laws.specs.Steps.{NodeHappens}
use Rattle.node_laws.proofs.Runs.{run_join}
use Rattle.node_laws.specs.Runs.{Run}
use Rattle.node_runs.proofs.HistoryLemmas.{line_run}
use Rattle.ocpi_types.specs.declared.setup.Node.{Node}
use Rattle.reopening_laws.proofs.Nodes.{nodes_reopen, nodes_stay}
use Rattle.reopening_laws.specs.Nodes.{IsAlike, IsNodeOf, start_of}
use Rattle.stored_laws.specs.Nodes.{CanStartAgain, NodesCanStartAgain, OpeningsCanStartAgain}
use Rattle.world_laws.specs.Laws.{IsSetup}
use Rattle.world_networks.proofs.Networks.{happens}
use Rattle.world_steps.specs.Steps.{NodeEvent, NodeStep}
use Rattle.world_steps.specs.World.{NodeState, opening_of}
use Rattle.fed_networks.specs.Lives.{Life, events_of}

-- what is so behind events
pub record Lived (member : Node) (first : NodeState) (es : List NodeEvent) (now : NodeState) : Type 0 where
  pub run : Run NodeHappens first es now
  pub can : CanStartAgain now
  pub own : IsNodeOf member now

module _ (again : NodesCanStartAgain) (member : Node) where
  pub lived_on : (first now next : NodeState) (es xs : List NodeEvent) → Lived member first es now → Run NodeStep now xs next → Lived member first (es ++ xs) next
  lived_on first now next es [] h run =
      subst (λ (l : List NodeEvent). Lived member first l next) (sym (append-nil es)) (subst (Lived member first es) (sym run) h)
  lived_on first now next es (x ∷ xs) h (then, step, rest) =
      let on : Lived member first (es ++ x ∷ []) then = record {
        run = run_join NodeHappens first now then es (x ∷ []) h.run (then, happens now x then step, refl);
        can = again now then x h.can step;
        own = nodes_stay.by_steps member now x then step h.own;
      } in
      subst (λ (l : List NodeEvent). Lived member first l next) (append_assoc es (x ∷ []) xs) (lived_on first then next (es ++ x ∷ []) xs on rest)

  lived : {setups : List (List Node × Node)} {lines : ℕ → List ℕ} {first : NodeState} {last : Option Node} {number : ℕ} {now : NodeState} (came : CameOnce setups lines first last number now)
      → CanStartAgain first → IsNodeOf member first → ((setup : List Node) (other : Node) → Contains setups (setup, other) → IsAlike member other) → Lived member first (events_of came) now
  lived none_came can own alike = record { run = refl; can = can; own = own }
  lived {first = first} (next_came {now = before} {next = next} {did = did} came answers) can own alike =
      lived_on first before next (events_of came) did (lived came can own alike) (line_run answers)
  lived {first = first} (starts {now = before} {next = next} setup other of_them came a) can own alike =
      let h = lived came can own alike in
      let s = nodes_reopen setup member other before next a.rows (alike setup other of_them) a.are a.made h.can a.again h.own in
      record { run = run_join NodeHappens first before next (events_of came) (start_of setup other ∷ []) h.run (next, s.0, refl); can = a.again; own = s.1 }

pub life_runs : NodesCanStartAgain → OpeningsCanStartAgain → (l : Life) → IsSetup l.of.setup → Contains l.of.setup l.of.member
    → ((setup : List Node) (other : Node) → Contains l.of.setups (setup, other) → IsAlike l.of.member other) → Run NodeHappens (opening_of l.of.setup l.of.member) (events_of l.came) l.now
life_runs again openings l is_setup within alike = (lived again l.of.member l.came (openings l.of.setup is_setup l.of.member within) (nodes_stay.at_first l.of.setup l.of.member) alike).run
