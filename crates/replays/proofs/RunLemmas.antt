-- The next run of a file.
use Rattle.std.proofs.Common.{◌≡◌, ◌≢◌, ℕ, ◌+◌, List, [], ◌∷◌, ◌++◌, Bool, true, false, refl, sym, ap, subst, ◌∙◌, leb, leb-true, le-leb, true≢false, ◌==◌, length}
use Rattle.replays.proofs.Lists.{heads, some_is_none}
use Rattle.replays.specs.Cutting.{AtEmptyLine, AtEnd, AtFeed, BeginsAnew, Empty, EndsRun, GoesFurther, Other, feeds}
use Rattle.replays.specs.Fronts.{feeds_of}
use Rattle.replays.specs.CutRuns.{IsNextRun}
use Rattle.replays.specs.declared.cutting.RunText.{RunText}
use Rattle.replays.specs.declared.cutting.Runs.{Runs}

not_there : (c : ℕ) (more left : List ℕ) → EndsRun left → left ≡ c ∷ more → c ≢ 10 → ⊥
not_there c more left AtEnd is other = some_is_none c more (sym is)
not_there c more left AtFeed is other = other (sym (heads 10 c [] more is))
not_there c more left (AtEmptyLine rest) is other = other (sym (heads 10 c (10 ∷ rest) more is))

pub next_run : (all : Runs) (r : RunText) (left : Runs) (front after : ℕ) (text more : List ℕ) → all.rest.now ≡ feeds front ++ text → BeginsAnew text → text ≢ [] → text ≡ r.bytes.now ++ left.rest.now
    → GoesFurther r.bytes.now left.rest.now → EndsRun left.rest.now → left.rest.now ≡ feeds after ++ more → BeginsAnew more → r.is_ended ≡ leb 3 after
    → r.number ≡ all.number + front → left.number ≡ r.number + feeds_of r.bytes.now → IsNextRun all r left
next_run all r left front after text more is anew some cut g ends rest_is also closed number next = of r.bytes.now refl
  where
    of : (bytes : List ℕ) → r.bytes.now ≡ bytes → IsNextRun all r left
    of [] none = absurd (none_left left.rest.now ends (cut ∙ ap (λ l. l ++ left.rest.now) none))
      where
        first_there : (l : List ℕ) → BeginsAnew l → EndsRun l → l ≡ []
        first_there l Empty e = refl
        first_there l (Other c t other) e = absurd (not_there c t (c ∷ t) e refl other)

        none_left : (l : List ℕ) → EndsRun l → text ≡ l → ⊥
        none_left l e same = some (first_there text anew (subst EndsRun (sym same) e))
    of (c ∷ others) bytes_are = record {
      count = front;
      is = is ∙ ap (λ l. feeds front ++ l) cut;
      first = c;
      others = others;
      some = bytes_are;
      begins = λ feed. begins_so text anew (c) (others ++ left.rest.now) (cut ∙ ap (λ l. l ++ left.rest.now) bytes_are) feed;
      ends = λ before e. let o = g.open_line before e in not_there o.0 o.1.0 left.rest.now ends o.1.1 o.1.2;
      plain = g.plain;
      behind_is = ends;
      after = after;
      more = more;
      rest_is = rest_is;
      anew = also;
      closed = ((λ yes. leb-true 3 after (sym closed ∙ yes)), (λ far. closed ∙ le-leb 3 after far));
      number = number;
      next = next;
    }
      where
        begins_so : (l : List ℕ) → BeginsAnew l → (d : ℕ) (t : List ℕ) → l ≡ d ∷ t → d ≢ 10
        begins_so l Empty d t same = some_is_none d t (sym same)
        begins_so l (Other e u other) d t same = λ feed. other (heads e d u t same ∙ feed)

pub not_empty : (text : List ℕ) (b : Bool) → b ≡ (length text == 0) → b ≡ false → text ≢ []
not_empty text b is not none = true≢false (sym (is ∙ ap (λ l. length l == 0) none) ∙ not)
