-- In which ways a node may have been opened, by what stands behind its setup line.
use Rattle.std.specs.Prelude.{◌≡◌, ◌≢◌, ◌<◌, ℕ, List, [], ◌∷◌, ◌++◌, Some, Bool, IsFalse, length, slice_get}
use Rattle.ocpi_types.specs.declared.rows.Row.{Row}
use Rattle.ocpi_types.specs.declared.setup.Node.{Node}
use Rattle.ocpi_types.specs.Setups.{party_of}
use Rattle.stored_laws.specs.Nodes.{last_serial}
use Rattle.world_steps.specs.World.{NodeState}
use Rattle.replays.specs.LineTurns.{Held}
use Rattle.replays.specs.Reading.{AreCut, Fits, MayBe, OpensOver, Reader, WasOpened, told_line}
use Rattle.replays.specs.declared.opening.Fit.{Fit}
use Rattle.replays.specs.declared.opening.Fit.TheVariants as fit
use Rattle.replays.specs.declared.opening.Opened.{Opened}
use Rattle.replays.specs.declared.opening.Piece.{Piece}
use Rattle.replays.specs.declared.opening.Tried.{Tried}
use Rattle.replays.specs.declared.opening.Tried.TheVariants as tried
use Rattle.replays.specs.declared.opening.Ways.{Ways}
use Rattle.replays.specs.declared.opening.Ways.TheVariants as ways

-- it ends with its line feed
abbrev pub IsClosed : List ℕ → Type 0
IsClosed line = (body : List ℕ) × (line ≡ body ++ 10 ∷ [])

-- a beginning of a line stands there, behind which nothing does
abbrev pub IsBegun : Bool → List ℕ → List ℕ → Type 0
IsBegun closed piece line = IsFalse closed × ((missing : List ℕ) × (line ≡ piece ++ missing) × (1 < length missing))

-- how what stands behind a setup line fits a line
abbrev pub IsFit : Bool → List ℕ → List ℕ → Fit → Type 0
IsFit closed piece line fit.No = Fits closed piece line → ⊥
IsFit closed piece line fit.Begins = IsBegun closed piece line
IsFit closed piece line fit.Is = line ≡ piece ++ 10 ∷ []

-- a node that was opened over what a store has
pub record IsOpened (setup : List Node) (member : Node) (held : Held) (piece : List ℕ) (o : Opened) : Type 0 where
  pub opens : OpensOver setup member held o.node
  pub tells : told_line held opens.rows member o.node ≡ piece ++ 10 ∷ []
  pub serial : o.serial ≡ last_serial o.node

-- whether the node of a member was
abbrev pub IsTried : List Node → Node → Held → Bool → List ℕ → Tried → Type 0
IsTried setup member held closed piece tried.No = (state : NodeState) (over : OpensOver setup member held state) → Fits closed piece (told_line held over.rows member state) → ⊥
IsTried setup member held closed piece tried.May =
    ((state : NodeState) × ((over : OpensOver setup member held state) × IsBegun closed piece (told_line held over.rows member state)))
    × ((state : NodeState) (over : OpensOver setup member held state) → told_line held over.rows member state ≢ piece ++ 10 ∷ [])
IsTried setup member held closed piece (tried.Was o) = IsOpened setup member held piece o

-- one that was is at its place in the setup
pub record IsWay (r : Reader) (setup : List Node) (piece : List ℕ) (held : Held) (place : ℕ) (o : Opened) : Type 0 where
  pub way : WasOpened r setup piece held
  pub there : slice_get setup place ≡ Some way.member
  pub state : o.node ≡ way.state
  pub serial : o.serial ≡ last_serial way.state

-- the ways over what a store has
abbrev pub AreWays : Reader → List Node → Bool → List ℕ → Held → Ways → Type 0
AreWays r setup closed piece held (ways.Was place o) = IsWay r setup piece held place o
AreWays r setup closed piece held (ways.May parties) = AreCut r setup closed piece held parties.items

-- whether the node that was made was opened
abbrev pub IsNodeTried : Node → Held → List Row → NodeState → Bool → List ℕ → Tried → Type 0
IsNodeTried member held rows state closed piece tried.No = Fits closed piece (told_line held rows member state) → ⊥
IsNodeTried member held rows state closed piece tried.May = IsBegun closed piece (told_line held rows member state)
IsNodeTried member held rows state closed piece (tried.Was o) = (o.node ≡ state) × (told_line held rows member state ≡ piece ++ 10 ∷ []) × (o.serial ≡ last_serial state)

-- by the line that says so
abbrev pub IsLineTried : List ℕ → NodeState → ℕ → Bool → List ℕ → Tried → Type 0
IsLineTried line state serial closed piece tried.No = Fits closed piece line → ⊥
IsLineTried line state serial closed piece tried.May = IsBegun closed piece line
IsLineTried line state serial closed piece (tried.Was o) = (o.node ≡ state) × (line ≡ piece ++ 10 ∷ []) × (o.serial ≡ serial)

-- there are none
abbrev pub AreNoWays : Ways → Type 0
AreNoWays (ways.Was place o) = ⊥
AreNoWays (ways.May parties) = parties.items ≡ []

-- the member at a place was not opened; where it may have been, its party is added
pub data IsPassed (r : Reader) (setup : List Node) (closed : Bool) (piece : List ℕ) (held : Held) (place : ℕ) (before after : List (List ℕ)) : Type 0 where
  NotThere : (member : Node) → slice_get setup place ≡ Some member → (MayBe r (party_of member) → ⊥) → after ≡ before → IsPassed r setup closed piece held place before after
  Not : (member : Node) → slice_get setup place ≡ Some member → IsTried setup member held closed piece tried.No → after ≡ before → IsPassed r setup closed piece held place before after
  May : (member : Node) → slice_get setup place ≡ Some member → MayBe r (party_of member) → IsTried setup member held closed piece tried.May → after ≡ before ++ party_of member ∷ []
      → IsPassed r setup closed piece held place before after

abbrev pub IsPassedBy : Reader → List Node → Piece → Held → ℕ → List (List ℕ) → List (List ℕ) → Type 0
IsPassedBy r setup p held place before after = IsPassed r setup p.is_closed p.bytes.now held place before after
