-- The bodies that carry replies and pushes.
use Rattle.ocpi_types.specs.declared.packet.Body.{Body}
use Rattle.ocpi_types.specs.declared.packet.Body.TheVariants as body
use Rattle.ocpi_types.specs.declared.stored.Reply.{Reply}
use Rattle.ocpi_types.specs.declared.stored.Reply.TheVariants as reply
use Rattle.ocpi_types.specs.declared.stored.Push.{Push}
use Rattle.ocpi_types.specs.declared.stored.Push.TheVariants as push

abbrev pub body_of_reply : Reply → Body
body_of_reply (reply.CommandResponse r) = body.CommandResponse r
body_of_reply (reply.Authorization r) = body.Authorization r
body_of_reply (reply.Ack r) = body.Ack r

abbrev pub body_of_push : Push → Body
body_of_push (push.CommandResult p) = body.CommandResult p
body_of_push (push.PutToken p) = body.PutToken p
body_of_push (push.PutSession p) = body.PutSession p
body_of_push (push.PostCdr p) = body.PostCdr p
