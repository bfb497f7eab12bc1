-- Which values own memory, so that a copy of them may want some.
use Rattle.std.specs.Prelude.{ℕ, List, Option, Some, None}
use Rattle.ocpi_types.specs.declared.authorizations.Authorize.{Authorize}
use Rattle.ocpi_types.specs.declared.authorizations.LocationReferences.{LocationReferences}
use Rattle.ocpi_types.specs.declared.packet.Body.{Body}
use Rattle.ocpi_types.specs.declared.packet.Body.TheVariants as body
use Rattle.ocpi_types.specs.declared.setup.Node.{Node}
use Rattle.ocpi_types.specs.declared.setup.Node.TheVariants as node
use Rattle.ocpi_types.specs.declared.stored.Reply.{Reply}
use Rattle.ocpi_types.specs.declared.stored.Reply.TheVariants as reply
use Rattle.ocpi_types.specs.declared.rows.Change.{Change}
use Rattle.ocpi_types.specs.declared.rows.Change.TheVariants as change
use Rattle.ocpi_types.specs.declared.rows.Row.{Row}
use Rattle.ocpi_types.specs.declared.rows.Row.TheVariants as row

-- a list of uids, which may be empty
abbrev pub ListOwnsMemory : Option (List (List ℕ)) → Type 0
ListOwnsMemory None = ⊥
ListOwnsMemory (Some uids) = Unit {0}

abbrev pub PlaceOwnsMemory : Option LocationReferences → Type 0
PlaceOwnsMemory None = ⊥
PlaceOwnsMemory (Some r) = ListOwnsMemory r.evse_uids

abbrev pub AuthorizeOwnsMemory : Authorize → Type 0
AuthorizeOwnsMemory a = PlaceOwnsMemory a.location

abbrev pub NodeOwnsMemory : Node → Type 0
NodeOwnsMemory (node.Operator party site) = Unit {0}
NodeOwnsMemory (node.Provider party) = ⊥

abbrev pub BodyOwnsMemory : Body → Type 0
BodyOwnsMemory (body.Command c) = Unit {0}
BodyOwnsMemory (body.CommandResponse b) = ⊥
BodyOwnsMemory (body.CommandResult b) = Unit {0}
BodyOwnsMemory (body.PutToken b) = Unit {0}
BodyOwnsMemory (body.Authorize b) = AuthorizeOwnsMemory b
BodyOwnsMemory (body.Authorization b) = Unit {0}
BodyOwnsMemory (body.PutSession b) = Unit {0}
BodyOwnsMemory (body.PostCdr b) = Unit {0}
BodyOwnsMemory (body.Ack b) = ⊥

abbrev pub ReplyOwnsMemory : Reply → Type 0
ReplyOwnsMemory (reply.CommandResponse r) = ⊥
ReplyOwnsMemory (reply.Authorization r) = Unit {0}
ReplyOwnsMemory (reply.Ack r) = ⊥

abbrev pub RowOwnsMemory : Row → Type 0
RowOwnsMemory (row.Count counter last) = ⊥
RowOwnsMemory (row.Reply sender number reply) = ReplyOwnsMemory reply
RowOwnsMemory (row.Token token) = Unit {0}
RowOwnsMemory (row.Push number to push) = Unit {0}
RowOwnsMemory (row.Service evse_uid) = ⊥
RowOwnsMemory (row.Spent provider reference) = ⊥
RowOwnsMemory (row.Mark provider reservation_id number) = ⊥
RowOwnsMemory (row.Reservation provider reservation_id reservation) = Unit {0}
RowOwnsMemory (row.Pending provider number open_command) = Unit {0}
RowOwnsMemory (row.Result provider number result) = ⊥
RowOwnsMemory (row.Session session) = Unit {0}
RowOwnsMemory (row.Cdr cdr) = Unit {0}
RowOwnsMemory (row.Command number command) = Unit {0}

abbrev pub ChangeOwnsMemory : Change → Type 0
ChangeOwnsMemory (change.Put r) = RowOwnsMemory r
ChangeOwnsMemory (change.Drop k) = ⊥
