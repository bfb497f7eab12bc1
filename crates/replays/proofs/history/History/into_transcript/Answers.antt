use Rattle.std.proofs.Common.{◌==◌, ◌∙◌, List, ap, subst, sym}
use Rattle.replays.proofs.PartyLemmas.{some_of}
use Rattle.replays.proofs.TranscriptLemmas.{is_transcript}
use Rattle.replays.specs.Happenings.{Happening}
use Rattle.replays.specs.Reading.{Story}
use Rattle.replays.specs.Telling.{Tells}
use Rattle.replays.proofs.history.History.into_transcript.Goals as goal

pub invariant_of-result : goal.invariant_of-result
invariant_of-result c =
    let h = c.self.inside in
    let told = subst (λ (s : Story). (told : List Happening) × Tells told s.openings s.entries s.sources) (sym c.self.view_is) c.requires in
    is_transcript told.0 h.openings.items h.happened.entries.items h.happened.sources.items told.1 (some_of h.openings.items c.is_empty.result (c.is_empty.ensures ∙ ap (λ n. n == 0) h.openings.ok.0) c.if-is_empty.false)
