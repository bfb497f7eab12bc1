use Rattle.std.proofs.Common.{◌≡◌, ◌++◌, ◌∷◌, [], sym}
use Rattle.command_book.specs.Due.{AreDue}
use Rattle.operator_steps.proofs.TimingOut.{one_more_request, one_more_timeout, due_have_providers}
use Rattle.operator_planning.proofs.planner.Planner.timed_out.Goals as goal
use Rattle.operator_planning.proofs.planner.Planner.timed_out.Goals.{in-Some+in_ok-push, in_default}

pub loop-provider-preserved : goal.loop-provider-preserved
loop-provider-preserved c =
    let s = c.args.self.now.state in
    let at = c.loop-provider in
    let request = c.loop-provider-item.result in
    elim c.match-ending.branch [
      | in-Some+in_ok-push w ↦
          let e = w.in-Some.ending in
          let items : c.match-ending.ends.items ≡ at.ends.items ++ e ∷ [] = rw w.ends-is w.in_ok-push.ensures.items in
          rw items (record {
            requests = one_more_request at.ends.items e _ at.provider-index request c.loop-provider-test.true c.loop-provider-item.is at.invariant.requests
                (λ i. (w.in-Some.ensures.is.0 i, w.in-Some.ensures.is.1 i));
            each = one_more_timeout s.providers at.ends.items e at.invariant.each (record { result_is = w.in-Some.ensures.is.2; of_site = w.in-Some.ensures.of_site });
          })
      | in_default w ↦
          let due : AreDue s.rows.commands.pending c.args.at c.as_slice-provider-items.result.now = rw (c.as_slice-provider-items.ensures.value, ← c.self.view_is, ← c.commands.ensures) c.in_ok-due.ensures.list in
          let peer = due_have_providers s c.args.at c.as_slice-provider-items.result.now c.consistency.ensures due request.0 request.1 (at.provider-index, c.loop-provider-test.true, sym c.loop-provider-item.is) in
          absurd (w.in_default.ensures.none peer.0 peer.1 peer.2)
    ]
