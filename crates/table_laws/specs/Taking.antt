-- What a provider takes of what its operators hand over (OCPI 2.2.1, Sessions: Receiver interface, PUT; CDRs: Receiver
-- interface, POST; Commands: Sender interface, POST).
use Rattle.std.specs.Prelude.{◌≡◌, ◌≢◌, ◌⊎◌, ◌<◌, ℕ, List, Some, None, is_some}
use Rattle.std.specs.FinMap.{get}
use Rattle.ocpi_text.specs.Text.{key}
use Rattle.ocpi_types.specs.Commands.{url_of}
use Rattle.ocpi_types.specs.declared.cdrs.Cdr.{Cdr}
use Rattle.ocpi_types.specs.declared.packet.Body.{Body}
use Rattle.ocpi_types.specs.declared.packet.Body.TheVariants as body
use Rattle.ocpi_types.specs.declared.packet.Packet.{Packet}
use Rattle.ocpi_types.specs.declared.replies.CommandResult.{CommandResult}
use Rattle.ocpi_types.specs.declared.sessions.Session.{Session}
use Rattle.ocpi_types.specs.declared.stored.Reply.TheVariants as reply
use Rattle.ocpi_types.specs.declared.stored.SentCommand.{SentCommand}
use Rattle.ocpi_types.specs.declared.words.SessionStatus.TheVariants.{Completed, Invalid}
use Rattle.provider_rows.specs.State.{State}
use Rattle.provider_steps.specs.Events.{Arrives, Asks, Event, event_out}
use Rattle.provider_steps.specs.Moves.{StepBy}

-- the event is carried out, and not refused: the provider does what its input asks for
abbrev pub IsCarriedOut : State → Event → State → Type 0
IsCarriedOut s e t = StepBy (Asks s e.input) s (event_out e t)

-- the packet comes at a moment, its sender's request of its number was not answered before, and the event is carried
-- out
pub record IsNew (s : State) (e : Event) (t : State) (at : ℕ) (q : Packet) (b : Body) : Type 0 where
  pub carried_out : IsCarriedOut s e t
  pub comes : e.input ≡ Arrives at q
  pub carries : q.body ≡ b
  pub new : get s.rows.replies (key q.from, q.request) ≡ None

-- the request is answered by that status, and the answer is kept
abbrev pub IsAcknowledged : State → ℕ → Packet → ℕ → Type 0
IsAcknowledged t at q status = get t.rows.replies (key q.from, q.request) ≡ Some (reply.Ack (record { status_code = status; timestamp = at }))

-- the record is its sender's own, about a token of the provider's
pub record IsRecordOf (s : State) (q : Packet) (x : Cdr) : Type 0 where
  pub own : key x.cdr_token.party ≡ key s.party
  pub of_sender : key x.party ≡ key q.from

-- y has the id of x, or bills or takes back the same session as x does
abbrev pub Shares : List ℕ → Cdr → Cdr → Type 0
Shares id y x = (id ≡ key x.id) ⊎ ((key y.session_id ≡ key x.session_id) × (is_some y.credit_reference_id ≡ is_some x.credit_reference_id))

-- the record is stored, where each record of its operator that shares an id or a session with it is that very record
abbrev pub RecordsAreTaken : Type 0
RecordsAreTaken = (s t : State) (e : Event) (at : ℕ) (q : Packet) (x : Cdr) → IsNew s e t at q (body.PostCdr x) → IsRecordOf s q x →
    ((id : List ℕ) (y : Cdr) → get s.rows.inbox.cdrs (key x.party, id) ≡ Some y → Shares id y x → y ≡ x) →
    (get t.rows.inbox.cdrs (key x.party, key x.id) ≡ Some x) × IsAcknowledged t at q 1000

-- and none is, where one that differs does
abbrev pub ConflictsAreRefused : Type 0
ConflictsAreRefused = (s t : State) (e : Event) (at : ℕ) (q : Packet) (x y : Cdr) (id : List ℕ) → IsNew s e t at q (body.PostCdr x) → IsRecordOf s q x →
    get s.rows.inbox.cdrs (key x.party, id) ≡ Some y → Shares id y x → y ≢ x → (t.rows.inbox ≡ s.rows.inbox) × IsAcknowledged t at q 2001

-- the version is its sender's own, about a token of the provider's
pub record IsVersionOf (s : State) (q : Packet) (x : Session) : Type 0 where
  pub own : key x.cdr_token.party ≡ key s.party
  pub of_sender : key x.party ≡ key q.from

-- a version is stored that is the first, or later than the one that is held and that is not final
abbrev pub VersionsAreTaken : Type 0
VersionsAreTaken = (s t : State) (e : Event) (at : ℕ) (q : Packet) (x : Session) → IsNew s e t at q (body.PutSession x) → IsVersionOf s q x →
    ((v : Session) → get s.rows.inbox.sessions (key x.party, key x.id) ≡ Some v → (v.status ≢ Completed) × (v.status ≢ Invalid) × (v.last_updated < x.last_updated)) →
    (get t.rows.inbox.sessions (key x.party, key x.id) ≡ Some x) × IsAcknowledged t at q 1000

-- a result is stored that is posted to where a command of its sender's says, which has none yet, and where no other
-- says
abbrev pub ResultsAreTaken : Type 0
ResultsAreTaken = (s t : State) (e : Event) (at : ℕ) (q : Packet) (r : CommandResult) → IsNew s e t at q (body.CommandResult r) →
    (n : ℕ) (c : SentCommand) → get s.rows.outbox.commands n ≡ Some c → url_of c.command ≡ r.response_url → key c.to ≡ key q.from → c.result ≡ None →
    ((m : ℕ) (d : SentCommand) → get s.rows.outbox.commands m ≡ Some d → url_of d.command ≡ r.response_url → m ≡ n) →
    (get t.rows.outbox.commands n ≡ Some (record c { result = Some r.result })) × IsAcknowledged t at q 1000
