use Rattle.std.proofs.Common.{◌≡◌, take}
use Rattle.std.specs.Prelude.{Contains, Ok}
use Rattle.ocpi_text.specs.Party.{party_at}
use Rattle.ocpi_types.specs.Setups.{party_of}
use Rattle.ocpi_types.specs.declared.setup.Node.{Node}
use Rattle.node_core.proofs.opening.parties_are.Given as goal

abbrev pub invariant-loop-member : goal.invariant-loop-member
invariant-loop-member l = (n : Node) → Contains (take l.member-index l.nodes) n → party_at (party_of n) ≡ Ok (party_of n)
