-- Where histories cannot be interleaved.
use Rattle.std.specs.Prelude.{ℕ, List}
use Rattle.ocpi_types.specs.declared.packet.Packet.{Packet}
use Rattle.histories.specs.Causes.{IsBlock, IsDifferent, IsNeverSent}
use Rattle.histories.specs.declared.history.NodeHistory.{NodeHistory}
use Rattle.histories.specs.Weaving.{AreApart, AreNumberedBehind, CanInterleave}

-- where a front is a block
abbrev pub BlocksExclude : Type 0
BlocksExclude = (hs : List NodeHistory) (front : List ℕ) → AreApart hs → IsBlock hs front → CanInterleave hs → ⊥

-- where a packet came that was never sent
abbrev pub NeverSentExcludes : Type 0
NeverSentExcludes = (hs : List NodeHistory) (q : Packet) → IsNeverSent hs q → CanInterleave hs → ⊥

-- and where one came that differs from the one that was sent
abbrev pub DifferentExcludes : Type 0
DifferentExcludes = (hs : List NodeHistory) (q : Packet) → AreNumberedBehind hs → IsDifferent hs q → CanInterleave hs → ⊥
