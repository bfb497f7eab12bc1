-- Runs of any step relation: of a node over its events, of a replay over its history.
use Rattle.std.specs.Prelude.{◌≡◌, List, [], ◌∷◌}

-- a run from one state to another, event by event
module _ {State Event : Type 0} (Step : State → Event → State → Type 0) where
  abbrev pub Run : State → List Event → State → Type 0
  Run s [] t = t ≡ s
  Run s (e ∷ es) t = (u : State) × Step s e u × Run u es t

-- the same steps, of which only a part is seen
module _ {State Event Part : Type 0} (part : Event → Part) (Step : State → Event → State → Type 0) where
  abbrev pub Seen : State → Part → State → Type 0
  Seen s y t = (e : Event) × (part e ≡ y) × Step s e t

  -- the state is a replay of the history: steps of which just these parts are seen lead to it
  abbrev pub Replay : State → List Part → State → Type 0
  Replay s history t = Run Seen s history t
