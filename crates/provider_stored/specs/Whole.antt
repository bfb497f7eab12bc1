-- What stored rows of a provider are tested for beside what its type keeps. It holds of each provider that ran from
-- its opening.
use Rattle.std.specs.Prelude.{◌≡◌, ℕ, List, Some}
use Rattle.std.specs.FinMap.{get}
use Rattle.ocpi_text.specs.Text.{key}
use Rattle.ocpi_text.specs.declared.own_ids.OwnIdKind.TheVariants.{AuthorizationReference}
use Rattle.ocpi_types.specs.Commands.{reference_of}
use Rattle.ocpi_types.specs.declared.cdrs.Cdr.{Cdr}
use Rattle.ocpi_types.specs.declared.rows.Row.TheVariants as row
use Rattle.ocpi_types.specs.declared.sessions.Session.{Session}
use Rattle.ocpi_types.specs.declared.stored.SentCommand.{SentCommand}
use Rattle.ocpi_types.specs.declared.token.Token.{Token}
use Rattle.handover.specs.Cdrs.{HasOnePerSession}
use Rattle.stored_rows.specs.Given.{IsOwnId}
use Rattle.provider_rows.specs.Rows.{HasRow}
use Rattle.provider_rows.specs.State.{State}

pub record IsWhole (s : State) : Type 0 where
  -- each authorization reference in a command is of the provider's own
  pub references : (n : ℕ) (c : SentCommand) → get s.rows.outbox.commands n ≡ Some c → (r : List ℕ) → reference_of c.command ≡ Some r →
      (number : ℕ) × IsOwnId AuthorizationReference s.party r number
  -- each token is of its own drivers, and so is that of each session and of each charge detail record (OCPI 2.2.1, Tokens, Sessions, CDRs)
  pub tokens : (t : Token) → HasRow s.rows (row.Token t) → key t.party ≡ key s.party
  pub sessions : (x : Session) → HasRow s.rows (row.Session x) → key x.cdr_token.party ≡ key s.party
  pub cdrs : (x : Cdr) → HasRow s.rows (row.Cdr x) → key x.cdr_token.party ≡ key s.party
  -- no two charge detail records of an operator are of one session, but a bill and a credit of it may be
  pub once : HasOnePerSession s.rows.inbox.cdrs
