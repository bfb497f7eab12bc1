-- What was read with a line that was answered.
use Rattle.std.proofs.Common.{◌≡◌, ◌≢◌, ◌≤◌, ℕ, zero, suc, ◌+◌, List, [], ◌∷◌, ◌++◌, Bool, true, false, not, Option, None, length, refl, sym, ap, subst, ◌∙◌, arith, length-append, ◌==◌, zero-lt-suc}
use Rattle.replays.proofs.LineFacts.{line_closed}
use Rattle.replays.proofs.LinesRead.{differs, one_read, to_gift}
use Rattle.replays.proofs.Lists.{IsPlain}
use Rattle.replays.proofs.PartyLemmas.{none_of, some_of}
use Rattle.replays.specs.Answering.{IsEntered, IsOtherwise, shown}
use Rattle.replays.specs.CutRuns.{HasNumbers}
use Rattle.replays.specs.Fronts.{feeds_of}
use Rattle.replays.specs.Happenings.{came_by}
use Rattle.replays.specs.LineTurns.{IsLeftBy, IsLine, Running}
use Rattle.replays.specs.Reading as read
use Rattle.replays.specs.Reading.{Doubt, Doubts, LinesTaken, Story, Tail}
use Rattle.replays.specs.RunParts.{AreRead, DiffersAt}
use Rattle.replays.specs.Telling.{AreSourcesOf}
use Rattle.replays.specs.declared.answering.Running.{Running as RunningOf}

-- the numbers of what is left can be told
pub numbers_left : (at feeds : ℕ) (rest line more text left : List ℕ) → HasNumbers at rest → rest ≡ line ++ 10 ∷ more → more ≡ text ++ left → feeds ≤ length text
    → HasNumbers (at + 1 + feeds) left
numbers_left at feeds rest line more text left fits is whole few =
    let a = ap length is in let b = length-append line (10 ∷ more) in let c = ap length whole in let d = length-append text left in omega (arith, fits, a, b, c, d, few)

-- and there are fewer
pub fewer_left : (rest line more text left : List ℕ) → rest ≡ line ++ 10 ∷ more → more ≡ text ++ left → suc (length left) ≤ length rest
fewer_left rest line more text left is whole =
    let a = ap length is in let b = length-append line (10 ∷ more) in let c = ap length whole in let d = length-append text left in omega (arith, a, b, c, d)

some_line : (tail : List ℕ) → tail ≢ [] → IsPlain tail → IsLine tail
some_line [] some plain = absurd (some refl)
some_line (c ∷ tail) some plain = record { some = zero-lt-suc (length tail); plain = plain }

module _ (first : Running) (all : List ℕ) (s : Story) (number : ℕ) (before : RunningOf) (rest : List ℕ) (t : Story) (at : ℕ) (r : AreRead first all s number (shown before) rest t at)
    (place : suc before.opening ≡ length s.openings) where
  -- ---- at what is no whole line

  -- a line without its line feed, which may be cut
  pub tail_cut : (ended : Bool) (u : Option Doubt) → ended ≡ false → u ≡ t.doubt → Tail (shown before) rest ended (length s.openings) u
  tail_cut ended u cut kept = read.Cut cut (kept ∙ r.doubt)

  -- one that is in doubt, or nothing
  pub tail_there : (ended empty : Bool) (u : Option Doubt) → ended ≡ true → IsPlain rest → empty ≡ (length rest == 0) → (not empty ≡ false → u ≡ t.doubt)
      → (not empty ≡ true → Doubts (shown before) rest (suc before.opening) u) → Tail (shown before) rest ended (length s.openings) u
  tail_there ended true u closed plain is kept doubts = read.Nothing (none_of rest true is refl) (kept refl ∙ r.doubt)
  tail_there ended false u closed plain is kept doubts =
      read.Echo closed (some_line rest (some_of rest false is refl) plain) (subst (λ n. Doubts (shown before) rest n u) place (doubts refl))

  -- ---- at a line

  module _ (after : RunningOf) (line more text : List ℕ) (u : Story) (is : rest ≡ line ++ 10 ∷ more) (plain : IsPlain line) (e : IsEntered before after line text t u) where
    from : AreSourcesOf (length s.openings) (came_by line e.entered) e.added
    from = subst (λ n. AreSourcesOf n (came_by line e.entered) e.added) place e.from

    pub line_read : (left : List ℕ) (feeds : ℕ) → more ≡ text ++ left → feeds ≡ feeds_of text → AreRead first all s number (shown after) left u (at + 1 + feeds)
    line_read left feeds whole count =
        subst (λ n. AreRead first all s number (shown after) left u (at + 1 + n)) (sym count)
        (one_read first all s number (shown before) rest t at r line more is plain text e.entered e.did (shown after) e.gives u e.openings e.doubt e.entries e.added e.sources from
        left (line_closed (shown before) line text e.entered e.did (shown after) e.gives) whole)

    pub line_cut : (ended : Bool) (v : Story) (missing : List ℕ) → text ≡ more ++ missing → IsOtherwise u v → IsLeftBy (shown after) v.held → v.doubt ≡ u.doubt → LinesTaken first all ended s v
    line_cut ended v missing cut same left certain =
        to_gift first all s number (shown before) rest t at r line more is plain text e.entered e.did (shown after) e.gives u e.openings e.doubt e.entries e.added e.sources from
        ended v missing cut same left certain

    pub line_differs : ((m : List ℕ) → text ≢ more ++ m) → ((m : List ℕ) → more ≢ text ++ m) → DiffersAt first all number at
    line_differs not_cut not_whole =
        differs first all s number (shown before) rest t at r line more is plain text e.entered e.did (shown after) e.gives u e.openings e.doubt e.entries e.added e.sources from not_cut not_whole
