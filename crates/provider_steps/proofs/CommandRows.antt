-- Commands of a provider: when one may be put anew, and when the next request may be one.
use Rattle.std.proofs.Common.{◌≡◌, ◌≤◌, ◌+◌, ℕ, List, Option, Some, None, is_some, sym, ap, ◌∙◌, arith}
use Rattle.std.specs.FinMap.{get}
use Rattle.tables.proofs.Options.{none_of}
use Rattle.ocpi_text.specs.Text.{key}
use Rattle.ocpi_types.specs.Commands.{url_of}
use Rattle.ocpi_types.specs.declared.replies.CommandResponse.{CommandResponse}
use Rattle.ocpi_types.specs.declared.commands.Command.{Command}
use Rattle.ocpi_types.specs.declared.stored.SentCommand.{SentCommand}
use Rattle.ocpi_types.specs.declared.words.CommandResultType.{CommandResultType}
use Rattle.command_book.specs.Stored.{Replies}
use Rattle.node_steps.specs.Acts.{unanswered}
use Rattle.node_steps.specs.Peers.{HasPeer}
use Rattle.provider_rows.specs.State.{State}
use Rattle.provider_rows.specs.Sound.{IsGiven, IsSound, MayPutCommand, with_rows}

-- no push has the number of a command that stands
pub push_apart : (s : State) → IsSound s → (n : ℕ) (c : SentCommand) → get s.rows.outbox.commands n ≡ Some c → get s.rows.outbox.pushes n ≡ None
push_apart s sound n c stands = none_of (get s.rows.outbox.pushes n) (λ has. sound.outbox.apart n has (ap is_some stands))

-- the command as it was sent, with another answer or result
abbrev pub told_of : SentCommand → Option CommandResponse → Option CommandResultType → SentCommand
told_of c answer result = record { to = c.to; command = c.command; answer = answer; result = result }

-- a command that stands may be put again so, whatever reply was kept before it and however many requests were counted
pub may_put_again : (s : State) → IsSound s → (n : ℕ) (c : SentCommand) → get s.rows.outbox.commands n ≡ Some c → (answer : Option CommandResponse) (outcome : Option CommandResultType)
    (serial last : ℕ) (replies : Replies) → s.rows.outbox.last ≤ last →
    MayPutCommand (with_rows (record s.rows { serial = serial; replies = replies; outbox = record s.rows.outbox { last = last } }) s) n (told_of c answer outcome)
may_put_again s sound n c stands answer outcome serial last replies below = record {
  peer = sound.commands n c stands;
  given = sound.references n c stands;
  outbox = record { counted = let counted = sound.outbox.commands_counted n (ap is_some stands) in omega (arith, counted, below); apart = push_apart s sound n c stands };
  same_url = λ d there. let some : Some d ≡ Some c = sym there ∙ stands in let same : d ≡ c = cc in ap (λ (x : SentCommand). url_of x.command) same;
}

-- the next request may be a command to an operator that the provider deals with, once its reference is given
pub may_put_next : (s : State) → IsSound s → (to : List ℕ) (c : Command) → HasPeer s.operators (key to) → (serial references last : ℕ) → IsGiven s.party references c → s.rows.outbox.last + 1 ≤ last →
    MayPutCommand (with_rows (record s.rows { serial = serial; desk = record s.rows.desk { references = references }; outbox = record s.rows.outbox { last = last } }) s) (s.rows.outbox.last + 1) (unanswered to c)
may_put_next s sound to c peer serial references last given below = record {
  peer = peer;
  given = given;
  outbox = record {
    counted = below;
    apart = none_of (get s.rows.outbox.pushes (s.rows.outbox.last + 1)) (λ has. let counted = sound.outbox.pushes_counted (s.rows.outbox.last + 1) has in omega (arith, counted));
  };
  same_url = λ d there. let counted = sound.outbox.commands_counted (s.rows.outbox.last + 1) (ap is_some there) in absurd (omega (arith, counted));
}
