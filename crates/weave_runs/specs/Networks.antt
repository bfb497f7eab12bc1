-- What files tell of the network of their nodes.
use Rattle.std.specs.Prelude.{◌≡◌, ℕ, List, ◌∷◌, Some, Contains, slice_get}
use Rattle.ocpi_types.specs.declared.setup.Node.{Node}
use Rattle.given_laws.specs.Laws.{AreReplayedBy, IsNetworkRunOf}
use Rattle.given_laws.specs.Lives.{IsStart, NodeLife}
use Rattle.histories.specs.declared.history.NodeHistory.{NodeHistory}
use Rattle.histories.specs.Weaving.{Woven}
use Rattle.reopening_laws.specs.Nodes.{IsAlike, setup_of, start_of}
use Rattle.replays.specs.Transcripts.{Transcript}
use Rattle.replays.specs.declared.transcript.Opening.{Opening}
use Rattle.replays.specs.declared.transcript.Source.{Source}
use Rattle.replays.specs.declared.transcript.Source.TheVariants.{Echoed, Restarted}
use Rattle.world_steps.specs.Steps.{NodeEvent}

-- ---- what is seen in the files

-- the first run of each file was opened without rows
abbrev pub BeginWithoutRows : List Transcript → Type 0
BeginWithoutRows told = (t : Transcript) → Contains told t → (x : Opening) (xs : List Opening) → t.openings ≡ x ∷ xs → x.rows ≡ 0

-- each later run of a transcript spells the party of its node as the first does, in the same role
abbrev pub IsSpelledAlike : Transcript → Type 0
IsSpelledAlike t =
    (x : Opening) (xs : List Opening) → t.openings ≡ x ∷ xs → (y : Opening) → Contains xs y
    → (m n : Node) → slice_get x.setup x.member ≡ Some m → slice_get y.setup y.member ≡ Some n → IsAlike m n

abbrev pub AreSpelledAlike : List Transcript → Type 0
AreSpelledAlike told = (t : Transcript) → Contains told t → IsSpelledAlike t

-- ---- the lives of the nodes

-- the event is a start as the member of the setup that this run was opened with
abbrev pub IsStartOf : Opening → NodeEvent → Type 0
IsStartOf x e = (m : Node) × (slice_get x.setup x.member ≡ Some m) × (e ≡ start_of x.setup m)

-- where an entry is the opening of a later run, its event is a start as that says; and no other event is a start
abbrev pub IsEventFrom : List Opening → Source → NodeEvent → Type 0
IsEventFrom openings (Restarted at) e = (x : Opening) × (slice_get openings at ≡ Some x) × IsStartOf x e
IsEventFrom openings (Echoed at line) e = IsStart e → ⊥

-- the life has the setup of the first run, and its starts are those of the later runs
pub record IsLifeTold (t : Transcript) (l : NodeLife) : Type 0 where
  pub first : Opening
  pub later : List Opening
  pub openings_are : t.openings ≡ first ∷ later
  pub member : Node
  pub is_member : slice_get first.setup first.member ≡ Some member
  pub setup : l.setup ≡ setup_of first.setup member
  pub starts : (k : ℕ) (s : Source) (e : NodeEvent) → slice_get t.sources k ≡ Some s → slice_get l.events k ≡ Some e → IsEventFrom t.openings s e

abbrev pub AreLivesTold : List Transcript → List NodeLife → Type 0
AreLivesTold told lives = (i : ℕ) (t : Transcript) (l : NodeLife) → slice_get told i ≡ Some t → slice_get lives i ≡ Some l → IsLifeTold t l

-- The entries are a run of the network of the nodes that the transcripts are of. Each history is the life of its node, by
-- the setups of its runs, and the happenings are the events of these lives, one for each entry, in this order. So each
-- operator of a transcript keeps its own part of what is promised, and each operator and provider keep the promise
-- between them, whatever came from other parties.
pub record AreOfNetwork (told : List Transcript) (hs : List NodeHistory) (xs : List Woven) : Type 0 where
  pub lives : List NodeLife
  pub are_told : AreLivesTold told lives
  pub replayed : AreReplayedBy lives hs
  pub is_run : IsNetworkRunOf lives hs xs
