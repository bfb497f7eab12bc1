use Rattle.std.proofs.Common.{◌≡◌, ℕ, List, take}
use Rattle.std.specs.Prelude.{Contains}
use Rattle.ocpi_text.specs.Text.{key}
use Rattle.replays.proofs.members.is_among.Given as goal

-- none before this one is the party
abbrev pub invariant-loop-other : goal.invariant-loop-other
invariant-loop-other l = (p : List ℕ) → Contains (take l.other-index l.parties) p → key p ≡ key l.party → ⊥
