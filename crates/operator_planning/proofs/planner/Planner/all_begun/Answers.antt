use Rattle.std.proofs.Common.{◌≡◌, ◌≤◌, ◌+◌, ◌++◌, ◌∷◌, [], arith}
use Rattle.ocpi_text.specs.Whole.{max_whole}
use Rattle.operator_planning.proofs.LateBeginnings.{all_numbered, one_numbered}
use Rattle.operator_planning.proofs.planner.Planner.all_begun.Goals as goal

pub loop-beginning-preserved : goal.loop-beginning-preserved
loop-beginning-preserved c =
    let s = c.args.self.now.state in
    let at = c.loop-beginning in
    let next : c.in-Some.number ≡ at.last + 1 = omega (arith, c.in-Some.ensures) in
    let within : c.in-Some.number ≤ max_whole = omega (arith, c.in-Some.ensures) in
    let items : c.push.new.self.items ≡ at.sessions.items ++ c.in_ok-begun.begun ∷ [] = c.in_ok-push.ensures.items in
    record {
      numbered = omega (arith, next, at.invariant.numbered);
      in_range = within;
      sessions = rw items
          (one_numbered s c.args.at s.rows.charged.last_session c.args.beginnings.now at.beginning-index at.last c.in-Some.number c.beginning-item.result c.in_ok-begun.begun at.sessions.items
          c.loop-beginning-test.true c.beginning-item.is next c.in_ok-begun.ensures at.invariant.sessions);
    }

pub returns-clause-sessions : goal.returns-clause-sessions
returns-clause-sessions c =
    let s = c.args.self.now.state in
    let at = c.loop-beginning in
    all_numbered s c.args.at s.rows.charged.last_session c.args.beginnings.now at.beginning-index at.last at.sessions.items (omega (arith, c.loop-beginning-test.false)) at.invariant.sessions
