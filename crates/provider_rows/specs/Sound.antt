-- What holds of a provider at all times, which is exactly what stored rows are to be tested for when a provider is
-- made of them; and which changes of rows keep it.
use Rattle.std.specs.Prelude.{◌≡◌, ◌≢◌, ◌≤◌, ℕ, List, [], ◌∷◌, Some, None, ⊤}
use Rattle.std.specs.FinMap.{get}
use Rattle.ocpi_text.specs.Text.{key}
use Rattle.ocpi_text.specs.Whole.{max_whole}
use Rattle.ocpi_text.specs.OwnIds.{own_id_text}
use Rattle.ocpi_text.specs.declared.own_ids.OwnIdKind.TheVariants.{AuthorizationReference}
use Rattle.ocpi_types.specs.Commands.{reference_of, url_of}
use Rattle.ocpi_types.specs.declared.rows.Row.{Row}
use Rattle.ocpi_types.specs.declared.rows.Row.TheVariants as row
use Rattle.ocpi_types.specs.declared.rows.RowKey.{RowKey}
use Rattle.ocpi_types.specs.declared.rows.RowKey.TheVariants as keys
use Rattle.ocpi_types.specs.declared.rows.Change.{Change}
use Rattle.ocpi_types.specs.declared.rows.Change.TheVariants.{Put, Drop}
use Rattle.ocpi_types.specs.declared.rows.Counter.{Counter}
use Rattle.ocpi_types.specs.declared.rows.Counter.TheVariants.{Serial, Request, Session, Cdr, Reference}
use Rattle.ocpi_types.specs.declared.commands.Command.{Command}
use Rattle.ocpi_types.specs.declared.stored.Push.{Push}
use Rattle.ocpi_types.specs.declared.stored.SentCommand.{SentCommand}
use Rattle.outbox.specs.Outbox as outbox
use Rattle.outbox.specs.Pushes.{subject}
use Rattle.outbox.specs.declared.push_book.Outgoing.{Outgoing}
use Rattle.node_steps.specs.Peers.{HasPeer}
use Rattle.provider_rows.specs.State.{ArePeers, State, Rows}
use Rattle.provider_rows.specs.Stored.{changed}

-- the reference of a command, where it has one and it is this party's own by a number, has a number that was given
abbrev pub IsGiven : List ℕ → ℕ → Command → Type 0
IsGiven party last c = (r : List ℕ) (n : ℕ) → reference_of c ≡ Some r → n ≤ max_whole → key r ≡ key (own_id_text AuthorizationReference party n) → n ≤ last

pub record IsSound (s : State) : Type 0 where
  -- each push is to an operator that the provider deals with
  pub pushes : (n : ℕ) (o : Outgoing) → get s.rows.outbox.pushes n ≡ Some o → HasPeer s.operators (key o.to)
  -- and so is each command
  pub commands : (n : ℕ) (c : SentCommand) → get s.rows.outbox.commands n ≡ Some c → HasPeer s.operators (key c.to)
  -- no command has a reference that was not given yet
  pub references : (n : ℕ) (c : SentCommand) → get s.rows.outbox.commands n ≡ Some c → IsGiven s.party s.rows.desk.references c.command
  -- each push and each command has a number that was given, of its own, and no two pushes are about the same
  pub outbox : outbox.AreConsistent s.rows.outbox

pub record IsConsistent (s : State) : Type 0 where
  pub peers : ArePeers (record { provider = s.party; operators = s.operators })
  pub sound : IsSound s
  -- only a request that waits has a resend time
  pub resend : outbox.AreResent s.rows.outbox s.resend

pub record MayPutPush (s : State) (n : ℕ) (to : List ℕ) (push : Push) : Type 0 where
  pub peer : HasPeer s.operators (key to)
  pub outbox : outbox.MayPutPush s.rows.outbox n (subject to push)

-- the command of a number may be put: it is posted to where the one was that stands under it
pub record MayPutCommand (s : State) (n : ℕ) (c : SentCommand) : Type 0 where
  pub peer : HasPeer s.operators (key c.to)
  pub given : IsGiven s.party s.rows.desk.references c.command
  pub outbox : outbox.MayPutCommand s.rows.outbox n
  pub same_url : (d : SentCommand) → get s.rows.outbox.commands n ≡ Some d → url_of d.command ≡ url_of c.command

-- no request that stands has a number above that one, which was given
pub record MayPutRequest (s : State) (last : ℕ) : Type 0 where
  pub given : last ≢ 0
  pub up_to : outbox.AreUpTo s.rows.outbox last

-- no reference that was given is taken back
pub record MayPutReference (s : State) (last : ℕ) : Type 0 where
  pub given : last ≢ 0
  pub rises : s.rows.desk.references ≤ last

-- a counter that gave no number has no row, and a provider has no others
abbrev pub MayPutCount : State → Counter → ℕ → Type 0
MayPutCount s Serial last = last ≢ 0
MayPutCount s Request last = MayPutRequest s last
MayPutCount s Reference last = MayPutReference s last
MayPutCount s Session last = ⊥
MayPutCount s Cdr last = ⊥

-- what holds at all times holds after the row is put. Of some kinds a provider stores no rows
abbrev pub MayPut : State → Row → Type 0
MayPut s (row.Count c last) = MayPutCount s c last
MayPut s (row.Reply sender number reply) = ⊤
MayPut s (row.Token t) = ⊤
MayPut s (row.Push n to push) = MayPutPush s n to push
MayPut s (row.Command n c) = MayPutCommand s n c
MayPut s (row.Session x) = ⊤
MayPut s (row.Cdr x) = ⊤
MayPut s (row.Service evse) = ⊥
MayPut s (row.Spent provider reference) = ⊥
MayPut s (row.Mark provider id number) = ⊥
MayPut s (row.Reservation provider id r) = ⊥
MayPut s (row.Pending provider number o) = ⊥
MayPut s (row.Result provider number x) = ⊥

-- and after it is dropped: a push that no command shares its number with. All else is kept for good
abbrev pub MayDrop : State → RowKey → Type 0
MayDrop s (keys.Push n) = get s.rows.outbox.commands n ≡ None
MayDrop s (keys.Count c) = ⊥
MayDrop s (keys.Reply sender number) = ⊥
MayDrop s (keys.Token party token_type uid) = ⊥
MayDrop s (keys.Service evse) = ⊥
MayDrop s (keys.Spent provider reference) = ⊥
MayDrop s (keys.Mark provider id) = ⊥
MayDrop s (keys.Reservation provider id) = ⊥
MayDrop s (keys.Pending provider number) = ⊥
MayDrop s (keys.Result provider number) = ⊥
MayDrop s (keys.Session operator id) = ⊥
MayDrop s (keys.Cdr operator id) = ⊥
MayDrop s (keys.Command n) = ⊥

abbrev pub MayChange : State → Change → Type 0
MayChange s (Put r) = MayPut s r
MayChange s (Drop k) = MayDrop s k

-- the state with other rows
abbrev pub with_rows : Rows → State → State
with_rows rows s = record s { rows = rows }

-- changes may be made one after the other
abbrev pub MayChangeAll : State → List Change → Type 0
MayChangeAll s [] = ⊤
MayChangeAll s (c ∷ cs) = MayChange s c × MayChangeAll (with_rows (changed c s.rows) s) cs
