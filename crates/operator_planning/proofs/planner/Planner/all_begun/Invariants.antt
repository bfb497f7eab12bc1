use Rattle.std.proofs.Common.{◌≡◌, ◌+◌, ◌≤◌}
use Rattle.ocpi_text.specs.Whole.{max_whole}
use Rattle.operator_planning.proofs.LateBeginnings.{NumberedSoFar}
use Rattle.operator_planning.proofs.planner.Planner.all_begun.Given as goal

abbrev pub invariant-loop-beginning : goal.invariant-loop-beginning
invariant-loop-beginning l = record {
  numbered : l.last ≡ l.self.state.rows.charged.last_session + l.beginning-index;
  in_range : l.last ≤ max_whole;
  sessions : NumberedSoFar l.self.state l.at l.self.state.rows.charged.last_session l.beginnings l.beginning-index l.last l.sessions.items;
}
