-- What a line in doubt made.
use Rattle.std.proofs.Common.{◌≡◌, ◌≢◌, ℕ, suc, List, [], ◌∷◌, ◌++◌, Option, None, Some, IfNone, IfSome, refl, sym, ap, subst, ◌∙◌}
use Rattle.replays.specs.Answering.{IsDoubtOf, LineDone, shown}
use Rattle.replays.specs.Happenings.{came_by, entries_behind}
use Rattle.replays.specs.Reading.{Doubt, Doubtful, Doubts, Idle}
use Rattle.replays.specs.Telling.{AreSourcesOf}
use Rattle.replays.specs.declared.answering.Happened.{Happened}
use Rattle.replays.specs.declared.answering.Running.{Running}

pub doubts_of : (before after : Running) (line text : List ℕ) (first last : Happened) → first.entries.items ≡ [] → first.sources.items ≡ [] → LineDone before after line text first last
    → (number : ℕ) → number ≡ before.last → (o : Option Doubt) → IfNone o (after.last ≡ number) → IfSome o (IsDoubtOf after number last) → Doubts (shown before) line (suc before.opening) o
doubts_of before after line text first last no_entries no_sources done number at None none some =
    Idle text done.entered done.did (shown after) done.gives (none ∙ at)
doubts_of before after line text first last no_entries no_sources done number at (Some d) none some =
    Doubtful text done.entered done.did (shown after) done.gives (λ same. some.moved (same ∙ sym at)) d some.left
    (some.entries ∙ done.enters.entries ∙ ap (λ l. l ++ entries_behind (came_by line done.entered)) no_entries)
    (subst (λ l. AreSourcesOf (suc before.opening) (came_by line done.entered) l) (sym (some.sources ∙ done.enters.sources ∙ ap (λ l. l ++ done.enters.added) no_sources)) done.enters.from)
