-- What a provider stores. Keys are in the form by which texts are compared.
use Rattle.std.specs.Prelude.{◌≡◌, ◌≤◌, ℕ, List, [], ◌∷◌, Ok, length, map}
use Rattle.std.specs.FinMap.{empty}
use Rattle.ocpi_text.specs.Text.{key}
use Rattle.ocpi_text.specs.Party.{party_at}
use Rattle.ocpi_types.specs.Apart.{DifferFrom}
use Rattle.command_book.specs.Stored.{Replies}
use Rattle.token_desk.specs.Stored as desk
use Rattle.outbox.specs.Outbox as outbox
use Rattle.outbox.specs.Resend.{Resend}
use Rattle.handover.specs.Inbox as inbox

-- a provider, and the operators that it deals with, as they are spelled and in their order
pub record Peering : Type 0 where
  pub provider : List ℕ
  pub operators : List (List ℕ)

-- a party by its form, and at most 63 operators, no two of all these the same party
pub record ArePeers (p : Peering) : Type 0 where
  pub own : party_at p.provider ≡ Ok p.provider
  pub few : length p.operators ≤ 63
  pub apart : DifferFrom (key p.provider ∷ []) (map key p.operators)

-- what a provider stores, part by part
pub record Rows : Type 0 where
  -- the number of the last packet that was sent
  pub serial : ℕ
  -- the reply to each request of an operator
  pub replies : Replies
  -- its own tokens, and the number of the last authorization reference that it gave
  pub desk : desk.Rows
  -- the number of its last request, the commands that it sent, and the tokens that it pushes
  pub outbox : outbox.OutboxRows
  -- the sessions and the charge detail records that it holds
  pub inbox : inbox.InboxRows

pub record State : Type 0 where
  pub party : List ℕ
  pub operators : List (List ℕ)
  pub rows : Rows
  -- the moment from which on each request that waits is due again; one that has none is due at once. A restart empties
  -- it
  pub resend : Resend

abbrev pub no_rows : Rows
no_rows = record { serial = 0; replies = empty; desk = desk.no_rows; outbox = outbox.no_rows; inbox = inbox.no_rows }

-- before the first event
abbrev pub opening : Peering → State
opening p = record { party = p.provider; operators = p.operators; rows = no_rows; resend = empty }
