-- What an operator does with the answer whether a token may be used, without the end of the waiting (OCPI 2.2.1,
-- Tokens: Real-time authorization).
use Rattle.std.specs.Prelude.{ℕ, List, Option}
use Rattle.ocpi_types.specs.declared.authorizations.Authorization.{Authorization}
use Rattle.authorization_book.specs.declared.awaited.Awaited.{Awaited}
use Rattle.node_steps.specs.Acts.{Act}
use Rattle.operator_rows.specs.State.{State}
use Rattle.operator_steps.specs.Asking.{AnswerActs}
use Rattle.session_tables.specs.declared.beginning.Beginning.{Beginning}
use Rattle.session_tables.specs.Answers.{BeginsByAnswer, Decided}

-- the acts of an answer to what is awaited: a session begins by it, or none does
pub record ByAnswer (s : State) (at : ℕ) (w : Awaited) (a : Authorization) (acts : List Act) : Type 0 where
  pub begins : Option Beginning
  pub decided : Decided (BeginsByAnswer s.site s.rows w a) begins
  pub acts_are : AnswerActs s at begins acts
