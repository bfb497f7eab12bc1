-- What is read behind a setup line.
use Rattle.std.proofs.Common.{◌≡◌, ◌⊎◌, ℕ, suc, ◌+◌, List, [], ◌∷◌, ◌++◌, Bool, Option, sym, ap, subst, ◌∙◌, append_assoc, ◌≢◌, refl, length, length-append, arith}
use Rattle.ocpi_types.specs.declared.setup.Node.{Node}
use Rattle.replays.proofs.Lists.{heads, joined_is_none, some_is_none, tails}
use Rattle.replays.specs.CutRuns.{HasNumbers}
use Rattle.replays.specs.Fronts.{feeds_of}
use Rattle.replays.specs.LineTurns.{Running}
use Rattle.replays.specs.Reading as read
use Rattle.replays.specs.Reading.{AreCut, IsBehind, LinesDiffer, LinesTaken, Reader, begun_over}
use Rattle.replays.specs.RunParts as parts
use Rattle.replays.specs.RunParts.{AreCutBehind, AreLinesTaken, DiffersAt, IsBegun, IsRestOfRun, IsRunText, IsSettled, SetupRefused, SetupTaken}

-- what stands behind the line of an opening is the rest of a run
pub rest_of_run : (bytes line behind piece rest : List ℕ) (closed : Bool) → IsRunText bytes → bytes ≡ line ++ 10 ∷ behind → IsBehind behind piece closed rest → IsRestOfRun rest
rest_of_run bytes line behind piece rest closed t is (read.Line more whole) = record {
  plain = λ before after e. t.plain ((line ++ 10 ∷ piece) ++ before) after (behind_it before (10 ∷ 10 ∷ after) e);
  ends = λ before e. t.ends ((line ++ 10 ∷ piece) ++ 10 ∷ before) (behind_it (10 ∷ before) (10 ∷ []) (ap (λ l. 10 ∷ l) e));
}
  where
    behind_it : (before tail : List ℕ) → 10 ∷ rest ≡ before ++ tail → bytes ≡ ((line ++ 10 ∷ piece) ++ before) ++ tail
    behind_it before tail e =
        is ∙ ap (λ l. line ++ 10 ∷ l) whole ∙ sym (append_assoc line (10 ∷ piece) (10 ∷ rest)) ∙ ap (λ l. (line ++ 10 ∷ piece) ++ l) e ∙ sym (append_assoc (line ++ 10 ∷ piece) before tail)
rest_of_run bytes line behind piece rest closed t is (read.Beginning whole) = record {
  plain = none;
  ends = λ before e. joined_is_none before 10 [] (sym e);
}
  where
    none : (before after : List ℕ) → 10 ∷ [] ≡ before ++ 10 ∷ 10 ∷ after → ⊥
    none [] after e = some_is_none 10 after (sym (tails 10 10 [] (10 ∷ after) e))
    none (c ∷ before) after e = joined_is_none before 10 (10 ∷ after) (sym (tails 10 c [] (before ++ 10 ∷ 10 ∷ after) e))

module _ (r t : Reader) (line : List ℕ) (setup : List Node) (base : Option ℕ) (piece : List ℕ) (closed : Bool) (rest : List ℕ) where
  -- a node was opened, and its lines were read
  pub begun_taken : (now : Running) (place : ℕ) (ended : Bool) (u : Reader) → IsBegun r t line setup base piece now place → AreLinesTaken now rest ended t u
      → SetupTaken r u line setup base piece closed rest ended
  begun_taken now place ended u (parts.Before b) lines = λ bytes behind h. read.OpenedBefore h b.way (record {
    opened = t.story;
    is = b.is;
    lines = subst (λ (x : Running). LinesTaken x rest ended t.story u.story) b.shows lines.lines;
    parties = lines.same.parties ∙ b.parties;
    earlier = lines.same.earlier ∙ b.earlier;
  })
  begun_taken now place ended u (parts.After d is b) lines = λ bytes behind h. read.OpenedAfter h d is b.way (record {
    opened = t.story;
    is = b.is;
    lines = subst (λ (x : Running). LinesTaken x rest ended t.story u.story) b.shows lines.lines;
    parties = lines.same.parties ∙ b.parties;
    earlier = lines.same.earlier ∙ b.earlier;
  })

  -- or one of them differs
  pub begun_differs : (now : Running) (place number at : ℕ) → IsBegun r t line setup base piece now place → DiffersAt now rest (suc (suc number)) at
      → SetupRefused r line setup base piece closed rest number at
  begun_differs now place number at begun (d, is) = of begun
    where
      -- the same, of that node
      moved : (x : Running) → now ≡ x → (e : LinesDiffer x rest) × (at ≡ suc (suc number) + feeds_of e.text)
      moved x same = subst (λ (y : Running). (e : LinesDiffer y rest) × (at ≡ suc (suc number) + feeds_of e.text)) same (d, is)

      of : IsBegun r t line setup base piece now place → SetupRefused r line setup base piece closed rest number at
      of (parts.Before b) = λ bytes behind h. let m = moved (begun_over r.story.held b.way.member b.way.state base) b.shows in read.DiffersBefore h b.way m.0 m.1
      of (parts.After doubt there b) = λ bytes behind h. let m = moved (begun_over doubt.held b.way.member b.way.state base) b.shows in read.DiffersAfter h doubt there b.way m.0 m.1

  -- the line of an opening is cut
  pub settled_taken : (before after : List (List ℕ)) (ended : Bool) → AreCut r setup closed piece r.story.held before → AreCutBehind r setup closed piece after → IsSettled r t before after
      → SetupTaken r t line setup base piece closed rest ended
  settled_taken before after ended cut (cut_too, none_too) (parts.OnlyBefore some none same) = λ bytes behind h.
      read.CutBefore h before some cut (λ d is. subst (λ l. AreCut r setup closed piece d.held l) none (cut_too d is)) same
  settled_taken before after ended cut (cut_too, none_too) (parts.OnlyAfter none some d is same) = λ bytes behind h.
      read.CutAfter h (subst (λ l. AreCut r setup closed piece r.story.held l) none cut) d is after some (cut_too d is) same
  settled_taken before after ended cut (cut_too, none_too) (parts.Either some any d is same) = λ bytes behind h.
      read.CutEither h before some cut d is after any (cut_too d is) same

  -- none was opened
  pub none_refused : (before after : List (List ℕ)) (number at : ℕ) → AreCut r setup closed piece r.story.held before → AreCutBehind r setup closed piece after → before ≡ [] → after ≡ []
      → (at ≡ number) ⊎ (at ≡ suc number) → SetupRefused r line setup base piece closed rest number at
  none_refused before after number at cut (cut_too, none_too) none nothing place = λ bytes behind h.
      read.NotOpened h (subst (λ l. AreCut r setup closed piece r.story.held l) none cut) (λ d is. subst (λ l. AreCut r setup closed piece d.held l) nothing (cut_too d is)) place

-- the numbers of what stands there can be told
pub numbers_behind : (number : ℕ) (bytes line behind piece rest : List ℕ) (closed : Bool) → IsRunText bytes → bytes ≡ line ++ 10 ∷ behind → IsBehind behind piece closed rest → HasNumbers number bytes
    → HasNumbers (number + 2) rest
numbers_behind number bytes line behind piece rest closed t is (read.Line more whole) fits = of line refl
  where
    of : (l : List ℕ) → line ≡ l → HasNumbers (number + 2) rest
    of [] none = absurd (t.begins (heads t.first 10 t.others behind (sym t.some ∙ is ∙ ap (λ l. l ++ 10 ∷ behind) none)))
    of (e ∷ l) some =
        let a = ap length is in let b = length-append line (10 ∷ behind) in let c = ap length whole in let d = length-append piece (10 ∷ rest) in let f = ap length some in
        omega (arith, a, b, c, d, f, fits)
numbers_behind number bytes line behind piece rest closed t is (read.Beginning whole) fits = of line refl
  where
    of : (l : List ℕ) → line ≡ l → HasNumbers (number + 2) []
    of [] none = absurd (t.begins (heads t.first 10 t.others behind (sym t.some ∙ is ∙ ap (λ l. l ++ 10 ∷ behind) none)))
    of (e ∷ l) some = let a = ap length is in let b = length-append line (10 ∷ behind) in let f = ap length some in omega (arith, a, b, f, fits)

-- something stands behind its first line
pub some_behind : (bytes line behind : List ℕ) → IsRunText bytes → bytes ≡ line ++ 10 ∷ behind → behind ≢ []
some_behind bytes line behind t is none = t.ends line (is ∙ ap (λ l. line ++ 10 ∷ l) none)
