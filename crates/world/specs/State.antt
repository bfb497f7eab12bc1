-- What is seen of a world, and what is asked of it.
use Rattle.std.specs.Prelude.{ℕ, ℤ, pos, List, [], ◌∷◌, cond, bytes_eq, map}
use Rattle.handover.specs.Owed.{Account}
use Rattle.node_core.specs.States.{owed_of}
use Rattle.ocpi_text.specs.Text.{key}
use Rattle.ocpi_types.specs.declared.packet.Packet.{Packet}
use Rattle.ocpi_types.specs.declared.rows.Change.{Change}
use Rattle.ocpi_types.specs.declared.sessions.Session.{Session}
use Rattle.world_steps.specs.World.{Place, World, past_of}

-- the world, and of the last step the rows that it changed and the packets that it sent
pub record WorldState : Type 0 where
  pub places : World
  pub changes : List Change
  pub packets : List Packet

-- the keys of the parties of a world, in the order of its places
abbrev pub names_of : World → List (List ℕ)
names_of w = map (λ (p : Place). key p.party) w

-- what the node of a party owes by an account, where there is one
abbrev pub owed_by : World → List ℕ → Account → ℤ
owed_by [] party a = pos 0
owed_by (p ∷ w) party a = cond (bytes_eq (key p.party) (key party)) (owed_of p.node a) (owed_by w party a)

-- the past of a session of the operator of that party
abbrev pub past_by : World → List ℕ → List ℕ → List Session
past_by [] party id = []
past_by (p ∷ w) party id = cond (bytes_eq (key p.party) (key party)) (past_of id p.versions) (past_by w party id)
