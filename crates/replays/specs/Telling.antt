-- How lists of runs, entries and sources tell a history.
use Rattle.std.specs.Prelude.{◌≡◌, ℕ, zero, suc, List, [], ◌∷◌, Some, slice_get}
use Rattle.histories.specs.declared.entry.Entry.{Entry}
use Rattle.replays.specs.Happenings.{IsTextAt, Came, Happening, Opened, OpenedRun, entries_in, openings_in}
use Rattle.replays.specs.declared.transcript.Opening.{Opening}
use Rattle.replays.specs.declared.transcript.Source.TheVariants.{Echoed, Restarted}
use Rattle.replays.specs.declared.transcript.Source.{Source}

-- the member at a place of a setup
abbrev pub IsRunOf : OpenedRun → Opening → Type 0
IsRunOf o x = (o.line ≡ x.line.bytes.now) × (o.setup ≡ x.setup) × (slice_get x.setup x.member ≡ Some o.member) × (o.rows ≡ x.rows) × (o.serial ≡ x.serial)

abbrev pub AreRunsOf : List OpenedRun → List Opening → Type 0
AreRunsOf [] [] = Unit {0}
AreRunsOf [] (x ∷ xs) = ⊥
AreRunsOf (o ∷ os) [] = ⊥
AreRunsOf (o ∷ os) (x ∷ xs) = IsRunOf o x × AreRunsOf os xs

-- the entries of a history, each with where it comes from: its text, and the place of its run among those that were
-- opened, of which there were so many before
abbrev pub AreSourcesOf : ℕ → List Happening → List Source → Type 0
AreSourcesOf before [] [] = Unit {0}
AreSourcesOf before [] (x ∷ xs) = ⊥
AreSourcesOf zero (Opened o ∷ hs) xs = AreSourcesOf 1 hs xs
AreSourcesOf (suc n) (Opened o ∷ hs) [] = ⊥
AreSourcesOf (suc n) (Opened o ∷ hs) (Echoed at line ∷ xs) = ⊥
AreSourcesOf (suc n) (Opened o ∷ hs) (Restarted at ∷ xs) = (at ≡ suc n) × AreSourcesOf (suc (suc n)) hs xs
AreSourcesOf before (Came line e ∷ hs) [] = ⊥
AreSourcesOf before (Came line e ∷ hs) (Echoed at text ∷ xs) = (suc at ≡ before) × IsTextAt line e.place text.bytes.now × AreSourcesOf before hs xs
AreSourcesOf before (Came line e ∷ hs) (Restarted at ∷ xs) = ⊥

-- the lists tell that history
pub record Tells (told : List Happening) (openings : List Opening) (entries : List Entry) (sources : List Source) : Type 0 where
  pub opened : AreRunsOf (openings_in told) openings
  pub entered : entries ≡ entries_in told
  pub from : AreSourcesOf 0 told sources
