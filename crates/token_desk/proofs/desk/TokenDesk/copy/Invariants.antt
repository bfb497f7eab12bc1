use Rattle.std.proofs.Common.{◌≡◌, []}
use Rattle.token_desk.proofs.Listed.{Copied}
use Rattle.token_desk.proofs.desk.TokenDesk.copy.Given as goal

abbrev pub invariant-loop-token : goal.invariant-loop-token
invariant-loop-token l =
    (Copied l.self.rows.tokens l.desk.rows.tokens l.token-iterator × (l.desk.rows.references ≡ l.self.rows.references))
    × (l.initial.token-iterator ≡ [] → l.token-iterator ≡ [])
