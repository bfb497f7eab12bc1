use Rattle.std.proofs.Common.{◌≡◌, ◌++◌, [], map}
use Rattle.token_desk.proofs.Listed.{token_row}
use Rattle.token_desk.proofs.desk.TokenDesk.rows.Given as goal

abbrev pub invariant-loop-token : goal.invariant-loop-token
invariant-loop-token l =
    (l.rows.items ++ map token_row l.token-iterator ≡ l.initial.rows.items ++ map token_row l.initial.token-iterator)
    × (l.initial.token-iterator ≡ [] → l.token-iterator ≡ [])
