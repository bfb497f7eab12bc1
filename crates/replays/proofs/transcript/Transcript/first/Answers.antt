use Rattle.std.proofs.Common.{◌≡◌, List, ◌∷◌, subst}
use Rattle.replays.proofs.FirstLemmas.{first_of}
use Rattle.replays.proofs.transcript.Transcript.first.Goals as goal
use Rattle.replays.specs.Transcripts.{Transcript}
use Rattle.replays.specs.declared.transcript.Opening.{Opening}

pub returns : goal.returns
returns c =
    subst (λ (t : Transcript). (later : List Opening) × (t.openings ≡ c.index.result.now ∷ later)) c.self.view_is
    (first_of c.self.inside.openings.items c.index.result.now c.self.invariant.some c.index.ensures)
