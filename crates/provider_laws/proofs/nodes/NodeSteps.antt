-- Each event of a provider is a step of a node.
use Rattle.std.proofs.Common.{◌≡◌, ◌⊎◌, ◌≤◌, ℕ, List, inl, inr, sym, ap, subst, ◌∙◌, arith}
use Rattle.std.specs.Prelude.{Some}
use Rattle.std.specs.Cmp.{nat_cmp_total}
use Rattle.std.specs.FinMap.{get, nat_cmp-IsAntisymmetric}
use Rattle.tables.proofs.Maps.{of_insert}
use Rattle.tables.proofs.Options.{none_else, not_both}
use Rattle.ocpi_types.specs.declared.stored.SentCommand.{SentCommand}
use Rattle.node_steps.specs.Acts.{Act, unanswered}
use Rattle.node_laws.specs.Nodes.{NodeStep}
use Rattle.node_laws.proofs.Joining.{idle_step}
use Rattle.provider_rows.specs.State.{State}
use Rattle.provider_rows.specs.Sound.{with_rows}
use Rattle.provider_steps.specs.Acts.{with_answer, with_result}
use Rattle.provider_steps.specs.Events.{Asks, Done, Event, Happens, Input, Refused, Reopened, Restarted}
use Rattle.provider_steps.specs.Moves.{Out, acted}
use Rattle.provider_steps.specs.Orders.{next_request}
use Rattle.provider_laws.specs.AsNode.{AreAmong, StepsAreNodeSteps, came_in, exchange, node, wide}
use Rattle.provider_laws.proofs.events.Doing.{asked_plain, does}
use Rattle.provider_laws.proofs.events.Parts.{CommandsMove, Made, Responded, Resulted, SameCommands}
use Rattle.provider_laws.proofs.events.Through.{acted_through}
use Rattle.provider_laws.proofs.nodes.LineSteps.{AreWell, asked_steps, well_of}

module _ (ps : List (List ℕ)) (s : State) (peers : AreAmong s.operators ps) (i : Input) where
  abbrev StepTo : Out → Type 0
  StepTo o = NodeStep (node (wide ps s)) (record { came = came_in i; packets = o.packets }) (node (wide ps o.state))

  acted_step : (acts : List Act) → AreWell s.rows.outbox → Asks s i acts → StepTo (acted s acts)
  acted_step acts well line =
      subst (λ r. NodeStep (node (wide ps s)) (record { came = came_in i; packets = (acted s acts).packets }) (node (with_rows r (wide ps s)))) (sym (acted_through s acts (asked_plain s i acts line)))
      (asked_steps ps s peers i acts well line)

pub step_from : (ps : List (List ℕ)) (s t : State) (e : Event) → AreAmong s.operators ps → AreWell s.rows.outbox → Happens s e t → NodeStep (node (wide ps s)) (exchange e) (node (wide ps t))
step_from ps s t e peers well (Done by) = subst (StepTo ps s peers e.input) (sym by.out_is) (acted_step ps s peers e.input by.acts well by.line)
step_from ps s t e peers well (Restarted now is) = subst (StepTo ps s peers e.input) (sym is) (idle_step (node (wide ps s)) (came_in e.input))
step_from ps s t e peers well (Reopened p now may is) = subst (StepTo ps s peers e.input) (sym is) (idle_step (node (wide ps s)) (came_in e.input))
step_from ps s t e peers well (Refused same_setup is) = subst (StepTo ps s peers e.input) (sym is) (idle_step (node (wide ps s)) (came_in e.input))

pub steps_are_node_steps : StepsAreNodeSteps
steps_are_node_steps ps s t e peers fine happens = step_from ps s t e peers (well_of s fine) happens

-- what an event does to commands: each stood under its number, or is the next
module _ (s t : State) (e : Event) (happens : Happens s e t) (well : AreWell s.rows.outbox) where
  command_from : (n : ℕ) (c : SentCommand) → get t.rows.outbox.commands n ≡ Some c →
      ((d : SentCommand) × (get s.rows.outbox.commands n ≡ Some d)) ⊎ ((n ≡ next_request s) × (n ≤ t.rows.outbox.last))
  command_from n c has = by (does s t e happens).commands
    where
      by : CommandsMove s e.input t.rows.outbox → ((d : SentCommand) × (get s.rows.outbox.commands n ≡ Some d)) ⊎ ((n ≡ next_request s) × (n ≤ t.rows.outbox.last))
      by (SameCommands is) = inl (c, sym (ap (λ m. get m n) is) ∙ has)
      by (Made at operator order arrives to d before makes is last most) =
          elim (of_insert nat_cmp_total nat_cmp-IsAntisymmetric s.rows.outbox.commands (next_request s) (unanswered to d) n c (sym (ap (λ m. get m n) is) ∙ has)) [
            | inl (same, equal) ↦ inr (same, omega (arith, same, last))
            | inr stood ↦ inl (c, stood)
          ]
      by (Responded at q arrives w carries d awaited is) =
          elim (of_insert nat_cmp_total nat_cmp-IsAntisymmetric s.rows.outbox.commands q.request (with_answer w d) n c (sym (ap (λ m. get m n) is) ∙ has)) [
            | inl (same, equal) ↦ inl (d, ap (get s.rows.outbox.commands) same ∙ awaited.stands)
            | inr stood ↦ inl (c, stood)
          ]
      by (Resulted at q arrives w carries k d fits none is) =
          elim (of_insert nat_cmp_total nat_cmp-IsAntisymmetric s.rows.outbox.commands k (with_result w.result d) n c (sym (ap (λ m. get m n) is) ∙ has)) [
            | inl (same, equal) ↦ inl (d, ap (get s.rows.outbox.commands) same ∙ fits.command)
            | inr stood ↦ inl (c, stood)
          ]

  pub well_stays : AreWell t.rows.outbox
  well_stays = let rises = (does s t e happens).last in record {
    commands = λ n c has. elim (command_from n c has) [
      | inl (d, stood) ↦ let given = well.commands n d stood in omega (arith, given, rises)
      | inr (same, below) ↦ below
    ];
    pushes = λ n o has. elim ((does s t e happens).pushes n o has) [
      | inl stood ↦ let given = well.pushes n o stood in omega (arith, given, rises)
      | inr (above, below, same) ↦ below
    ];
    apart = λ n o has. none_else (get t.rows.outbox.commands n) (λ c stands. elim ((does s t e happens).pushes n o has) [
      | inl stood ↦ elim (command_from n c stands) [
        | inl (d, before) ↦ not_both d (get s.rows.outbox.commands n) (well.apart n o stood) before
        | inr (same, below) ↦ (let given = well.pushes n o stood in omega (arith, given, same))
      ]
      | inr (above, below, same) ↦ (let given = well.commands n c (sym (ap (λ m. get m n) same) ∙ stands) in omega (arith, given, above))
    ]);
  }
