use Rattle.std.proofs.Common.{List, subst, sym}
use Rattle.std.specs.Prelude.{Contains}
use Rattle.tables.proofs.Elements.{in_front}
use Rattle.replays.proofs.transcript.Transcript.party.Goals as goal
use Rattle.replays.specs.declared.transcript.Opening.{Opening}

pub party-requires : goal.party-requires
party-requires c =
    let first = c.first.result.now in
    c.is_transcript.ensures.members first (subst (λ (os : List Opening). Contains os first) (sym c.first.ensures.1) (in_front first c.first.ensures.0))
