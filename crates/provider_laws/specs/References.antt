-- The authorization references that a provider gives: to a start that it sends, or to an authorization that it answers
-- (OCPI 2.2.1, Commands: StartSession; Tokens: AuthorizationInfo).
use Rattle.std.specs.Prelude.{◌≡◌, ◌≤◌, ℕ, List, Option, Some, None}
use Rattle.std.specs.FinMap.{get}
use Rattle.ocpi_text.specs.OwnIds.{own_id_text}
use Rattle.ocpi_text.specs.Text.{key}
use Rattle.ocpi_text.specs.Whole.{max_whole}
use Rattle.ocpi_text.specs.declared.own_ids.OwnIdKind.TheVariants.{AuthorizationReference}
use Rattle.ocpi_types.specs.Commands.{reference_of}
use Rattle.ocpi_types.specs.declared.authorizations.Authorization.TheVariants as authorization
use Rattle.ocpi_types.specs.declared.stored.Reply.{Reply}
use Rattle.ocpi_types.specs.declared.stored.Reply.TheVariants as reply
use Rattle.ocpi_types.specs.declared.stored.SentCommand.{SentCommand}
use Rattle.provider_rows.specs.State.{ArePeers, Peering, Rows, State, opening}
use Rattle.provider_steps.specs.Events.{Event}
use Rattle.provider_laws.specs.Laws.{Run}

-- the counter of references never falls, over restarts too
abbrev pub ReferencesNeverFall : Type 0
ReferencesNeverFall = (s t : State) (es : List Event) → Run s es t → s.rows.desk.references ≤ t.rows.desk.references

-- what may carry a reference: the command of a number, or the reply to the request of a number of a party, in key form
pub data Carrier : Type 0 where
  InCommand : ℕ → Carrier
  InReply : List ℕ → ℕ → Carrier

-- the reference that a reply gives, if it gives one
abbrev pub given_in : Reply → Option (List ℕ)
given_in (reply.Authorization (authorization.Done at info)) = info.authorization_reference
given_in (reply.Authorization (authorization.Refused at status)) = None
given_in (reply.CommandResponse r) = None
given_in (reply.Ack a) = None

abbrev pub Carries : Rows → Carrier → List ℕ → Type 0
Carries r (InCommand n) reference = (c : SentCommand) × (get r.outbox.commands n ≡ Some c) × (reference_of c.command ≡ Some reference)
Carries r (InReply p n) reference = (w : Reply) × (get r.replies (p, n) ≡ Some w) × (given_in w ≡ Some reference)

-- each reference, in key form, belongs to one command or to one kept authorization, and so to one operator
abbrev pub ReferencesHaveOneCarrier : Type 0
ReferencesHaveOneCarrier = (p : Peering) (es : List Event) (t : State) → ArePeers p → Run (opening p) es t → (a b : Carrier) (reference other : List ℕ) →
    Carries t.rows a reference → Carries t.rows b other → key reference ≡ key other → a ≡ b

-- the reference is the text of a number of the party, which its counter gave
pub record IsOfNumber (party : List ℕ) (last : ℕ) (reference : List ℕ) : Type 0 where
  pub number : ℕ
  pub first : 1 ≤ number
  pub given : number ≤ last
  pub within : number ≤ max_whole
  pub text_is : reference ≡ own_id_text AuthorizationReference party number

-- each reference that a command or a kept authorization carries is that of a number of this provider
abbrev pub ReferencesAreOwn : Type 0
ReferencesAreOwn = (p : Peering) (es : List Event) (t : State) → ArePeers p → Run (opening p) es t → (a : Carrier) (reference : List ℕ) →
    Carries t.rows a reference → IsOfNumber p.provider t.rows.desk.references reference
