-- Why an event changes a push, a session, a charge detail record, a counter or a result, and why it says what it says,
-- where what holds at all times holds. Each law of sessions asks for the reason of a row, and need not know which acts
-- there are.
use Rattle.std.specs.Prelude.{◌≡◌, ◌⊎◌, ◌≤◌, ◌<◌, ◌+◌, ℕ, List, [], ◌∷◌, Some, None, Contains, ⊤}
use Rattle.std.specs.FinMap.{get}
use Rattle.ocpi_text.specs.OwnIds.{own_id_text}
use Rattle.ocpi_text.specs.Text.{key}
use Rattle.ocpi_text.specs.declared.own_ids.OwnIdKind.TheVariants as own
use Rattle.ocpi_types.specs.Commands.{reference_of, url_of}
use Rattle.ocpi_types.specs.Stored.{body_of_push, body_of_reply}
use Rattle.ocpi_types.specs.declared.authorizations.Authorization.TheVariants.{Done}
use Rattle.ocpi_types.specs.declared.authorizations.AuthorizationInfo.{AuthorizationInfo}
use Rattle.ocpi_types.specs.declared.authorizations.Authorize.{Authorize}
use Rattle.ocpi_types.specs.declared.cdrs.Cdr.{Cdr}
use Rattle.ocpi_types.specs.declared.cdrs.CdrLocation.{CdrLocation}
use Rattle.ocpi_types.specs.declared.commands.StartSession.{StartSession}
use Rattle.ocpi_types.specs.declared.packet.Body.TheVariants as body
use Rattle.ocpi_types.specs.declared.packet.Packet.{Packet}
use Rattle.ocpi_types.specs.declared.replies.Ack.{Ack}
use Rattle.ocpi_types.specs.declared.rows.Counter.TheVariants as counter
use Rattle.ocpi_types.specs.declared.rows.Row.TheVariants as row
use Rattle.ocpi_types.specs.declared.rows.RowKey.TheVariants as keys
use Rattle.ocpi_types.specs.declared.rows.Change.{Change}
use Rattle.ocpi_types.specs.declared.rows.Change.TheVariants.{Put, Drop}
use Rattle.ocpi_types.specs.declared.sessions.Session.{Session}
use Rattle.ocpi_types.specs.declared.commands.Command.{Command}
use Rattle.ocpi_types.specs.declared.commands.Command.TheVariants as command
use Rattle.ocpi_types.specs.declared.stored.OpenCommand.{OpenCommand}
use Rattle.ocpi_types.specs.declared.stored.Push.{Push}
use Rattle.ocpi_types.specs.declared.stored.Push.TheVariants as push
use Rattle.ocpi_types.specs.declared.stored.Reply.{Reply}
use Rattle.ocpi_types.specs.declared.words.AuthMethod.TheVariants as how
use Rattle.ocpi_types.specs.declared.words.CommandResultType.{CommandResultType}
use Rattle.ocpi_types.specs.declared.words.CommandResultType.TheVariants.{Accepted}
use Rattle.ocpi_types.specs.declared.words.SessionStatus.TheVariants.{Completed, Pending}
use Rattle.session_state.specs.Records.{cdr_of}
use Rattle.session_tables.specs.Beginnings.{cdr_token_of}
use Rattle.outbox.specs.Outbox.{IsTo}
use Rattle.outbox.specs.Pushes.{subject, subject_of}
use Rattle.outbox.specs.declared.push_book.Outgoing.{Outgoing}
use Rattle.node_steps.specs.Acts.{Act, all_changes, all_messages, asked, push_message}
use Rattle.node_steps.specs.Messages.{Message}
use Rattle.node_steps.specs.Peers.{spelled}
use Rattle.operator_rows.specs.State.{State, IsSpent}
use Rattle.operator_steps.specs.Acts.{told}
use Rattle.operator_steps.specs.Events.{Input, Arrives}
use Rattle.operator_laws.proofs.events.Causes.{Crediting, DecidesIt}

module _ (s : State) (i : Input) (acts : List Act) where
  -- the acts put the row, or drop that of the key
  abbrev pub Makes : Change → Type 0
  Makes c = Contains (all_changes acts) c

  -- the id is that of the next number of a session
  abbrev pub IsNextId : Session → Type 0
  IsNextId v = v.id ≡ own_id_text own.Session s.party (s.rows.charged.last_session + 1)

  -- by what a session begins, and whose reference it has
  pub data BegunBy (v : Session) : Type 0 where
    Start : (p : List ℕ) (n : ℕ) (o : OpenCommand) → get s.rows.commands.pending (p, n) ≡ Some o → key v.cdr_token.party ≡ p → v.authorization_reference ≡ reference_of o.command →
        Makes (Drop (keys.Pending p n)) → IsNextId v → BegunBy v
    Answer : (at : ℕ) (q : Packet) (timestamp : ℕ) (info : AuthorizationInfo) → i ≡ Arrives at q → q.body ≡ body.Authorization (Done timestamp info) → key q.from ≡ key v.cdr_token.party →
        v.authorization_reference ≡ info.authorization_reference → ¬ IsSpent s.rows.spent (key v.cdr_token.party) v.authorization_reference →
        ((r : List ℕ) → v.authorization_reference ≡ Some r → Makes (Put (row.Spent (key v.cdr_token.party) (key r)))) → IsNextId v → BegunBy v
    Other : v.authorization_reference ≡ None → BegunBy v

  -- a session begins: under a number above those that were given, which is counted
  pub record Begun (v : Session) : Type 0 where
    pub number : ℕ
    pub above : s.rows.charged.last_session < number
    pub id_is : v.id ≡ own_id_text own.Session s.party number
    pub last : ℕ
    pub counted : number ≤ last
    pub counts : Makes (Put (row.Count counter.Session last))
    pub status_is : v.status ≡ Pending
    pub by : BegunBy v

  -- the charge detail record is that of the version, under the next number, which is counted
  pub record IsBillOf (v : Session) (x : Cdr) : Type 0 where
    pub place : CdrLocation
    pub record_is : x ≡ cdr_of v (own_id_text own.Cdr s.party (s.rows.charged.last_cdr + 1)) place
    pub counts : Makes (Put (row.Count counter.Cdr (s.rows.charged.last_cdr + 1)))

  -- the version is stored: a session begins, or the version goes in place of the one that stands, and has its charge
  -- detail record if it is complete
  pub data Versioning (v : Session) : Type 0 where
    Begins : Begun v → Versioning v
    Goes : (w : Session) → get s.rows.charged.sessions (key v.id) ≡ Some w → (v.status ≡ Completed → (x : Cdr) × Makes (Put (row.Cdr x)) × IsBillOf v x) → Versioning v

  -- a push is made to the provider of that key
  pub record IsPushedNow (provider : List ℕ) (p : Push) : Type 0 where
    pub number : ℕ
    pub to : List ℕ
    pub of_provider : key to ≡ provider
    pub makes : Makes (Put (row.Push number to p))

  -- a version is stored, and pushed
  pub record Storing (v : Session) : Type 0 where
    pub how : Versioning v
    pub pushed : IsPushedNow (key v.cdr_token.party) (push.PutSession v)

  -- a bill is stored: that of a COMPLETED version, which is stored too
  pub record Billing (x : Cdr) : Type 0 where
    pub version : Session
    pub puts : Makes (Put (row.Session version))
    pub completed : version.status ≡ Completed
    pub bill : IsBillOf version x

  -- a charge detail record is stored: the bill of a version, or the credit of a bill
  pub data Recorded (x : Cdr) : Type 0 where
    Billed : Billing x → Recorded x
    Credited : Crediting s i x → Recorded x

  -- and it is pushed
  pub record Recording (x : Cdr) : Type 0 where
    pub how : Recorded x
    pub pushed : IsPushedNow (key x.cdr_token.party) (push.PostCdr x)

  -- the command of that number of a party was open, or comes now
  abbrev pub Stems : List ℕ → ℕ → Command → Type 0
  Stems p m c = ((o : OpenCommand) × (get s.rows.commands.pending (p, m) ≡ Some o) × (o.command ≡ c)) ⊎ ((h : DecidesIt s i acts) × (key h.packet.from ≡ p) × (h.packet.request ≡ m) × (h.command ≡ c))

  -- a session of that provider begins, with that start's reference
  pub record BeginsFor (p : List ℕ) (c : StartSession) : Type 0 where
    pub session : Session
    pub puts : Makes (Put (row.Session session))
    pub of_provider : key session.cdr_token.party ≡ p
    pub token_is : session.cdr_token ≡ cdr_token_of c.token
    pub method_is : session.auth_method ≡ how.Command
    pub reference_is : session.authorization_reference ≡ c.authorization_reference
    pub first : session.status ≡ Pending

  -- a result is that of a command that was open, or comes now. ACCEPTED, as that of a start, comes with its session
  pub record Resulting (p : List ℕ) (n : ℕ) (x : CommandResultType) : Type 0 where
    pub carried : Command
    pub stems : Stems p n carried
    pub session : x ≡ Accepted → (c : StartSession) → carried ≡ command.StartSession c → BeginsFor p c

  -- a push tells of the result of a command of its addressee, which is kept, and goes to where that command says
  pub record Posting (to : List ℕ) (p : Push) : Type 0 where
    pub number : ℕ
    pub carried : Command
    pub result : CommandResultType
    pub stems : Stems (key to) number carried
    pub push_is : p ≡ push.CommandResult (told (url_of carried) result)
    pub puts : Makes (Put (row.Result (key to) number result))

  -- what is pushed: a result, a version that is stored now, or a charge detail record that is
  pub data Carrying (to : List ℕ) (p : Push) : Type 0 where
    OfResult : Posting to p → Carrying to p
    OfVersion : (v : Session) → p ≡ push.PutSession v → key to ≡ key v.cdr_token.party → Makes (Put (row.Session v)) → Carrying to p
    OfRecord : (x : Cdr) → p ≡ push.PostCdr x → key to ≡ key x.cdr_token.party → Makes (Put (row.Cdr x)) → Carrying to p

  -- a push is made under a number above those that were given, to a provider of the site, and is sent
  pub record Pushing (n : ℕ) (to : List ℕ) (p : Push) : Type 0 where
    pub above : s.rows.request < n
    pub listed : Contains s.providers to
    pub says : Contains (all_messages acts) (push_message n to p)
    pub carries : Carrying to p

  -- a push is sent no more: it is acknowledged, or a newer version of its session is pushed
  pub data Ending (n : ℕ) : Type 0 where
    Acknowledged : (at : ℕ) (q : Packet) (a : Ack) → i ≡ Arrives at q → q.body ≡ body.Ack a → a.status_code ≡ 1000 → IsTo s.rows.pushes q.from n → q.request ≡ n → Ending n
    Replaced : (v : Session) (to : List ℕ) (x : Outgoing) (m : ℕ) → get s.rows.pushes n ≡ Some x → subject_of x ≡ subject to (push.PutSession v) → s.rows.request < m →
        Contains (all_messages acts) (push_message m to (push.PutSession v)) → Makes (Put (row.Session v)) → Ending n

  -- the reason of each change, where there is more to say than its cause
  abbrev pub Reason : Change → Type 0
  Reason (Put (row.Count counter.Session n)) = s.rows.charged.last_session ≤ n
  Reason (Put (row.Count counter.Cdr n)) = s.rows.charged.last_cdr ≤ n
  Reason (Put (row.Count counter.Serial n)) = ⊤
  Reason (Put (row.Count counter.Request n)) = ⊤
  Reason (Put (row.Count counter.Reference n)) = ⊤
  Reason (Put (row.Reply p n r)) = ⊤
  Reason (Put (row.Token t)) = ⊤
  Reason (Put (row.Push n to p)) = Pushing n to p
  Reason (Put (row.Service evse)) = ⊤
  Reason (Put (row.Spent p reference)) = ⊤
  Reason (Put (row.Mark p id n)) = ⊤
  Reason (Put (row.Reservation p id r)) = ⊤
  Reason (Put (row.Pending p n o)) = ⊤
  Reason (Put (row.Result p n x)) = Resulting p n x
  Reason (Put (row.Session v)) = Storing v
  Reason (Put (row.Cdr x)) = Recording x
  Reason (Put (row.Command n x)) = ⊤
  Reason (Drop (keys.Push n)) = Ending n
  Reason (Drop k) = ⊤

  -- why a message is said: a reply is kept, or is one that was; a push is made, or stood; or a provider is asked, and
  -- nothing else is done
  pub data Saying (m : Message) : Type 0 where
    Replies : (r : Reply) → m.body ≡ body_of_reply r → Contains s.providers m.to →
        Makes (Put (row.Reply (key m.to) m.request r)) ⊎ (get s.rows.commands.replies (key m.to, m.request) ≡ Some r) → Saying m
    Pushes : (p : Push) → m.body ≡ body_of_push p → Makes (Put (row.Push m.request m.to p)) → Saying m
    Again : (to : List ℕ) (p : Push) → m.body ≡ body_of_push p → m.to ≡ spelled s.providers to → get s.rows.pushes m.request ≡ Some (record { to = to; push = p }) → Saying m
    Asks : (a : Authorize) → m.body ≡ body.Authorize a → Contains s.providers m.to → m.request ≡ s.rows.request + 1 →
        acts ≡ asked (s.rows.request + 1) m.to (body.Authorize a) ∷ [] → Saying m
