-- A run that counts its lines and may echo them, as far as it has come.
use Rattle.std.proofs.Common.{◌≡◌, ◌≢◌, ℕ, ◌+◌, ◌<◌, inl, inr, Bool, true, false, List, [], ◌∷◌, ◌++◌, Option, None, Some, IfSome, Result, Ok, Err, IfOk, IfErr, length, take, drop, cond, refl, sym, ap, subst, ◌∙◌, arith, append_assoc, take_all}
use Rattle.std.proofs.lemmas.List.{append-nil, length-take, take-append-drop}
use Rattle.std.proofs.lemmas.List.Elements.{All-nil}
use Rattle.std.proofs.KnownBytes.{Appends-kept, Appends-nil, Appends-trans, Consumes-kept, Consumes-nil}
use Rattle.std.specs.Str.Lines.{lines}
use Rattle.std.specs.Io.KnownBytes.{Appends, Keeps}
use Rattle.std.specs.Io.BufRead.{drop_through, first_line, strip_last}
use Rattle.line_runs.specs.Lines.{ReadsLineOf}
use Rattle.line_runs.specs.Echo.{EchoesFront, EchoesLine, BeginsLine, CutsLine}
use Rattle.line_runs.specs.Outcome.{both_ran}
use Rattle.line_runs.specs.Run.{gives_beginning, gives_front, most_reads}
use Rattle.line_runs.specs.Numbered.{GivesNumbered, echo_of, AreNumbered, none_numbered, empty_line, taken_line, refused_line, IsNumberedRun, numbered_end, numbered_stop, IsNumberedBegun, begun_between, begun_echo, begun_answer, begun_end, NumberedOutputs, NumberedBegins, NumberedStops}
use Rattle.line_runs.specs.declared.outcome.Ran.{Ran}
use Rattle.line_runs.specs.declared.outcome.Ran.TheVariants.{Whole, WithRefusals}
use Rattle.line_runs.specs.declared.outcome.RunFault.{RunFault}
use Rattle.line_runs.specs.declared.outcome.RunFault.TheVariants.{WriteFailed, TooManyReads}
use Rattle.line_runs.specs.declared.run.Turn.{Turn}
use Rattle.line_runs.specs.declared.run.Turn.TheVariants.{Taken, Refused, Ended}
use Rattle.line_runs.proofs.ProgressLemmas.{none_read, one_more, all_lines, nil_front}
use Rattle.line_runs.proofs.RunLemmas.{kept}
use Rattle.line_runs.proofs.ChainLemmas.{ChainProgress, chain_begins, chain_steps, chain_concludes, chain_stops}

if_some_by : {A : Type 0} (o : Option A) (P Q : A → Type 0) → IfSome o P → ((a : A) → P a → Q a) → IfSome o Q
if_some_by None P Q p f = tt
if_some_by (Some a) P Q p f = f a p

nil_of : (xs : List ℕ) → length xs ≡ 0 → xs ≡ []
nil_of [] e = refl
nil_of (x ∷ xs) e = absurd (omega arith)

appends_none : (old new : Option (List ℕ)) → Keeps old new → Appends old new []
appends_none old new k = Appends-kept old old new [] (Appends-nil old) k

-- the echo of a line: its bytes, then a line feed
abbrev pub feed : Bool → List ℕ
feed echo = cond echo (10 ∷ []) []

echo_parts : (echo : Bool) (line : List ℕ) → 0 < length line → echo_of echo line ≡ cond echo line [] ++ feed echo
echo_parts false line some = refl
echo_parts true [] some = absurd (omega arith)
echo_parts true (x ∷ xs) some = refl

line_bytes : (echo : Bool) (l : List ℕ) (old new : Option (List ℕ)) → EchoesLine echo (Some l) old new → Appends old new (cond echo (first_line l) [])
line_bytes false l old new e = appends_none old new e
line_bytes true l old new e = e

echo_nil : (echo : Bool) (line : List ℕ) → line ≡ [] → cond echo line [] ≡ []
echo_nil true line e = e
echo_nil false line e = refl

-- a beginning of a line's bytes is one of its echo
echo_front : (line front more : List ℕ) → line ≡ front ++ more → (rest : List ℕ) × (echo_of true line ≡ front ++ rest)
echo_front [] front more e = (more, e)
echo_front (x ∷ xs) front more e = (more ++ 10 ∷ [], ap (λ l. l ++ 10 ∷ []) e ∙ append_assoc front more (10 ∷ []))

-- the line that was read is the next one
read_next : (most : ℕ) (left rest : Option (List ℕ)) (line : List ℕ) → ReadsLineOf most left true line rest
    → IfSome left (λ l. (later : List (List ℕ)) × (lines l ≡ first_line l ∷ later) × (line ≡ take most (first_line l)))
read_next most None rest line r = tt
read_next most (Some l) None line r = absurd r
read_next most (Some l) (Some rest) line r =
    let read = one_more l l rest 0 [] (none_read l) r.0 r.2 in
    (lines rest, all_lines l rest 1 (first_line l ∷ []) read, r.1)

-- and it was echoed, and more was written after it
abbrev pub NextWritten : Bool → ℕ → List ℕ → Option (List ℕ) → Option (List ℕ) → List ℕ → List ℕ → Type 0
NextWritten echo most line old new out l = (later : List (List ℕ)) × (lines l ≡ first_line l ∷ later) × (line ≡ take most (first_line l)) × (0 < length (first_line l))
    × Appends old new (echo_of echo (first_line l) ++ out)

next_written : (echo : Bool) (most : ℕ) (left rest written same ended more : Option (List ℕ)) (line out : List ℕ) → ReadsLineOf most left true line rest → EchoesLine echo left written same
    → 0 < length line → Appends same ended (feed echo) → Appends ended more out → IfSome left (NextWritten echo most line written more out)
next_written echo most None rest written same ended more line out r e some f w = tt
next_written echo most (Some l) rest written same ended more line out r e some f w =
    let n = read_next most (Some l) rest line r in
    let holds : 0 < length (first_line l) = omega (arith, some, ap length n.2, length-take most (first_line l)) in
    let echoed = Appends-trans written same ended (cond echo (first_line l) []) (feed echo) (line_bytes echo l written same e) f in (
      n.0,
      n.1,
      n.2,
      holds,
      subst (λ x. Appends written more (x ++ out)) (sym (echo_parts echo (first_line l) holds))
          (Appends-trans written ended more (cond echo (first_line l) [] ++ feed echo) out echoed w),
    )

-- the input ended, and nothing was written
abbrev pub IsOver : Option (List ℕ) → Option (List ℕ) → Option (List ℕ) → Type 0
IsOver left old new = IfSome left (λ l. (l ≡ []) × Appends old new [])

pub over_read : (echo : Bool) (most : ℕ) (left rest old new : Option (List ℕ)) (line : List ℕ) → ReadsLineOf most left false line rest → EchoesLine echo left old new → IsOver left old new × Keeps left rest
over_read echo most None rest old new line r e = (tt, tt)
over_read echo most (Some l) None old new line r e = absurd r
over_read echo most (Some l) (Some rest) old new line r e =
    let none : first_line l ≡ [] = ap first_line r.0 in
    ((r.0, subst (Appends old new) (echo_nil echo (first_line l) none) (line_bytes echo l old new e)), r.1 ∙ sym r.0)

pub over_seen : (left old new : Option (List ℕ)) → IfSome left (λ l. l ≡ []) → Keeps old new → IsOver left old new
over_seen left old new none k = if_some_by left (λ l. l ≡ []) (λ l. (l ≡ []) × Appends old new []) none (λ l e. (e, appends_none old new k))

-- what is echoed of a part of a line, where reading stopped
abbrev pub part_tail : Bool → List ℕ → List ℕ
part_tail echo part = cond echo (strip_last 13 part) []

tail_written : (echo : Bool) (part : List ℕ) (old new : Option (List ℕ)) → EchoesFront echo part old new → Appends old new (part_tail echo part)
tail_written false part old new e = appends_none old new e
tail_written true part old new e = e

no_tail : (echo : Bool) → [] ≡ part_tail echo []
no_tail true = refl
no_tail false = refl

module _ {S : Type 0} (line_gives : GivesNumbered S) (end_gives : S → Ran → List ℕ → Type 0) (echo : Bool) (first : S) where
  abbrev pub Done : List (List ℕ) → Ran → List ℕ → S → Type 0
  Done = AreNumbered line_gives echo first

  -- how far a run has come, where the reader tells its bytes
  abbrev pub NumberedProgress : Option (List ℕ) → Option (List ℕ) → ℕ → Ran → S → Option (List ℕ) → Option (List ℕ) → Type 0
  NumberedProgress = ChainProgress Done

  pub begins : (text before : Option (List ℕ)) → NumberedProgress text before 0 Whole first text before
  begins text before = chain_begins Done Whole first none_numbered text before

  -- an empty line is counted and passed over
  pub passes : (text before : Option (List ℕ)) (reads : ℕ) (ran : Ran) (now : S) (left rest written more : Option (List ℕ)) (most : ℕ) (line : List ℕ)
      → NumberedProgress text before reads ran now left written → ReadsLineOf most left true line rest → EchoesLine echo left written more → 0 < most → length line ≡ 0
      → NumberedProgress text before (reads + 1) ran now rest more
  passes text before reads ran now left rest written more most line h r e room empty = chain_steps Done text before reads ran ran now now left rest written more most line h r (at left (read_next most left rest line r) e)
    where
      at : (o : Option (List ℕ)) → IfSome o (λ l. (later : List (List ℕ)) × (lines l ≡ first_line l ∷ later) × (line ≡ take most (first_line l))) → EchoesLine echo o written more
          → IfSome o (λ l. (out : List ℕ) × Appends written more out
          × ((done : List (List ℕ)) (sofar : List ℕ) → length done ≡ reads → Done done ran sofar now → Done (done ++ first_line l ∷ []) ran (sofar ++ out) now))
      at None n w = tt
      at (Some l) n w =
          let none : first_line l ≡ [] = nil_of (first_line l) (omega (arith, ap length n.2, length-take most (first_line l), empty, room)) in (
            [],
            subst (Appends written more) (echo_nil echo (first_line l) none) (line_bytes echo l written more w),
            λ done sofar count a. subst (λ out. Done (done ++ first_line l ∷ []) ran out now) (sym (append-nil sofar))
                (subst (λ line. Done (done ++ line ∷ []) ran sofar now) (sym none) (empty_line a)),
          )

  pub concludes : (all : Ran) (last : S) (text before : Option (List ℕ)) (reads : ℕ) (ran : Ran) (now : S) (left written more : Option (List ℕ)) → NumberedProgress text before reads ran now left written
      → IfSome left (λ l. (out : List ℕ) × Appends written more out
      × ((done : List (List ℕ)) (sofar : List ℕ) → length done ≡ reads → Done done ran sofar now → IsNumberedRun line_gives end_gives echo first (done ++ lines l) all (sofar ++ out) last))
      → NumberedOutputs line_gives end_gives echo first text all before more last
  concludes all last = chain_concludes Done (λ ls out. IsNumberedRun line_gives end_gives echo first ls all out last)

  breaks_off : (last : S) (text before : Option (List ℕ)) (reads : ℕ) (ran : Ran) (now : S) (left written more : Option (List ℕ)) → NumberedProgress text before reads ran now left written
      → IfSome left (λ l. (out : List ℕ) × Appends written more out
      × ((done : List (List ℕ)) (sofar : List ℕ) → length done ≡ reads → Done done ran sofar now → IsNumberedBegun line_gives end_gives echo first (done ++ lines l) (sofar ++ out) last))
      → NumberedBegins line_gives end_gives echo first text before more last
  breaks_off last = chain_concludes Done (λ ls out. IsNumberedBegun line_gives end_gives echo first ls out last)

  -- what is written at the end of the input
  pub ends_of : (result : Result Ran RunFault) (text before : Option (List ℕ)) (reads : ℕ) (ran : Ran) (now : S) (left written same more : Option (List ℕ))
      → NumberedProgress text before reads ran now left written → IsOver left written same
      → IfOk result (λ all. (last : Ran) × (out : List ℕ) × (all ≡ both_ran ran last) × Appends same more out × end_gives now last out)
      → IfOk result (λ all. NumberedOutputs line_gives end_gives echo first text all before more now)
  ends_of (Err fault) text before reads ran now left written same more h over w = tt
  ends_of (Ok all) text before reads ran now left written same more h over w =
      concludes all now text before reads ran now left written more h
      (if_some_by left (λ l. (l ≡ []) × Appends written same []) (λ l. (out : List ℕ) × Appends written more out
      × ((done : List (List ℕ)) (sofar : List ℕ) → length done ≡ reads → Done done ran sofar now → IsNumberedRun line_gives end_gives echo first (done ++ lines l) all (sofar ++ out) now))
      over
      (λ l o. (
        w.1,
        Appends-trans written same more [] w.1 o.1 w.3,
        λ done sofar count a.
            subst (λ ls. IsNumberedRun line_gives end_gives echo first ls all (sofar ++ w.1) now) (sym (ap (λ t. done ++ lines t) o.0 ∙ append-nil done))
            (subst (λ r. IsNumberedRun line_gives end_gives echo first done r (sofar ++ w.1) now) (sym w.2) (numbered_end a w.4)),
      )))

  -- nothing more was written
  still_begun : (done : List (List ℕ)) (ran : Ran) (now : S) (sofar : List ℕ) (later : List (List ℕ)) → Done done ran sofar now
      → IsNumberedBegun line_gives end_gives echo first (done ++ later) (sofar ++ []) now
  still_begun done ran now sofar later a = subst (λ out. IsNumberedBegun line_gives end_gives echo first (done ++ later) out now) (sym (append-nil sofar)) (begun_between a later)

  pub begun_kept : (text before : Option (List ℕ)) (reads : ℕ) (ran : Ran) (now : S) (left written more : Option (List ℕ)) → NumberedProgress text before reads ran now left written
      → Keeps written more → NumberedBegins line_gives end_gives echo first text before more now
  begun_kept text before reads ran now left written more h k = breaks_off now text before reads ran now left written more h (at left)
    where
      at : (o : Option (List ℕ)) → IfSome o (λ l. (out : List ℕ) × Appends written more out
          × ((done : List (List ℕ)) (sofar : List ℕ) → length done ≡ reads → Done done ran sofar now → IsNumberedBegun line_gives end_gives echo first (done ++ lines l) (sofar ++ out) now))
      at None = tt
      at (Some l) = ([], appends_none written more k, λ done sofar count a. still_begun done ran now sofar (lines l) a)

  begun_over : (text before : Option (List ℕ)) (reads : ℕ) (ran : Ran) (now : S) (left written same more : Option (List ℕ)) → NumberedProgress text before reads ran now left written
      → IsOver left written same → gives_beginning (λ out. (last : Ran) × end_gives now last out) same more → NumberedBegins line_gives end_gives echo first text before more now
  begun_over text before reads ran now left written same more h over g = breaks_off now text before reads ran now left written more h (at left over g)
    where
      at : (o : Option (List ℕ)) → IsOver o written same → gives_beginning (λ out. (last : Ran) × end_gives now last out) same more → IfSome o (λ l. (out : List ℕ) × Appends written more out
          × ((done : List (List ℕ)) (sofar : List ℕ) → length done ≡ reads → Done done ran sofar now → IsNumberedBegun line_gives end_gives echo first (done ++ lines l) (sofar ++ out) now))
      at None o g = tt
      at (Some l) o (inl k) = ([], Appends-kept written same more [] o.1 k, λ done sofar count a. still_begun done ran now sofar (lines l) a)
      at (Some l) o (inr g) = (
        take g.2 g.0,
        Appends-trans written same more [] (take g.2 g.0) o.1 g.3,
        λ done sofar count a.
            subst (λ ls. IsNumberedBegun line_gives end_gives echo first ls (sofar ++ take g.2 g.0) now) (sym (ap (λ t. done ++ lines t) o.0 ∙ append-nil done)) (begun_end a g.1.1 g.2),
      )

  pub end_begun_of : (result : Result Ran RunFault) (text before : Option (List ℕ)) (reads : ℕ) (ran : Ran) (now : S) (left written same more : Option (List ℕ))
      → NumberedProgress text before reads ran now left written → IsOver left written same
      → IfErr result (λ fault. (fault ≡ WriteFailed) × gives_beginning (λ out. (last : Ran) × end_gives now last out) same more)
      → IfErr result (λ fault. NumberedBegins line_gives end_gives echo first text before more now)
  end_begun_of (Ok all) text before reads ran now left written same more h over w = tt
  end_begun_of (Err fault) text before reads ran now left written same more h over w = begun_over text before reads ran now left written same more h over w.1

  -- a beginning of the next line's echo was written
  begun_front : (now : S) (ran : Ran) (l front more : List ℕ) (done : List (List ℕ)) (sofar : List ℕ) → echo_of echo (first_line l) ≡ front ++ more → (later : List (List ℕ)) → lines l ≡ first_line l ∷ later
      → Done done ran sofar now → IsNumberedBegun line_gives end_gives echo first (done ++ lines l) (sofar ++ front) now
  begun_front now ran l front more done sofar e later next a =
      subst (λ ls. IsNumberedBegun line_gives end_gives echo first (done ++ ls) (sofar ++ front) now) (sym next) (begun_echo a (first_line l) front more e later)

  -- what was written so far, and then more, is a beginning
  abbrev pub NextBegun : ℕ → Ran → S → Option (List ℕ) → Option (List ℕ) → List ℕ → Type 0
  NextBegun reads ran now written more l = (out : List ℕ) × Appends written more out
      × ((done : List (List ℕ)) (sofar : List ℕ) → length done ≡ reads → Done done ran sofar now → IsNumberedBegun line_gives end_gives echo first (done ++ lines l) (sofar ++ out) now)

  next_begun : (reads : ℕ) (ran : Ran) (now : S) (written more : Option (List ℕ)) (on : Bool) → echo ≡ on → (l : List ℕ) → BeginsLine on (Some l) written more → NextBegun reads ran now written more l
  next_begun reads ran now written more false is l b = ([], appends_none written more b, λ done sofar count a. still_begun done ran now sofar (lines l) a)
  next_begun reads ran now written more true is [] b =
      ([], subst (Appends written more) (nil_front b.0 b.1 b.2) b.3, λ done sofar count a. still_begun done ran now sofar (lines []) a)
  next_begun reads ran now written more true is (x ∷ xs) b =
      let l = x ∷ xs in
      let read = one_more l l (drop_through 10 l) 0 [] (none_read l) (omega arith) refl in
      let next = all_lines l (drop_through 10 l) 1 (first_line l ∷ []) read in
      let f = echo_front (first_line l) b.0 b.1 b.2 in
      (b.0, b.3, λ done sofar count a. begun_front now ran l b.0 f.0 done sofar (ap (λ o. echo_of o (first_line l)) is ∙ f.1) (lines (drop_through 10 l)) next a)

  -- the next line was not read whole
  pub begun_cut : (text before : Option (List ℕ)) (reads : ℕ) (ran : Ran) (now : S) (left written more : Option (List ℕ)) → NumberedProgress text before reads ran now left written
      → BeginsLine echo left written more → NumberedBegins line_gives end_gives echo first text before more now
  begun_cut text before reads ran now left written more h b = breaks_off now text before reads ran now left written more h (at left b)
    where
      at : (o : Option (List ℕ)) → BeginsLine echo o written more → IfSome o (NextBegun reads ran now written more)
      at None b = tt
      at (Some l) b = next_begun reads ran now written more echo refl l b

  -- the line feed of an echo was not written or not flushed
  pub begun_feed : (text before : Option (List ℕ)) (reads : ℕ) (ran : Ran) (now : S) (left rest written same more : Option (List ℕ)) (most : ℕ) (line : List ℕ)
      → NumberedProgress text before reads ran now left written → ReadsLineOf most left true line rest → EchoesLine echo left written same → 0 < length line
      → (n : ℕ) × Appends same more (take n (feed echo)) → NumberedBegins line_gives end_gives echo first text before more now
  begun_feed text before reads ran now left rest written same more most line h r e some w = breaks_off now text before reads ran now left written more h (at left (read_next most left rest line r) e)
    where
      at : (o : Option (List ℕ)) → IfSome o (λ l. (later : List (List ℕ)) × (lines l ≡ first_line l ∷ later) × (line ≡ take most (first_line l))) → EchoesLine echo o written same
          → IfSome o (λ l. (out : List ℕ) × Appends written more out
          × ((done : List (List ℕ)) (sofar : List ℕ) → length done ≡ reads → Done done ran sofar now → IsNumberedBegun line_gives end_gives echo first (done ++ lines l) (sofar ++ out) now))
      at None n e = tt
      at (Some l) n e =
          let holds : 0 < length (first_line l) = omega (arith, some, ap length n.2, length-take most (first_line l)) in
          let bytes = cond echo (first_line l) [] in
          let front = bytes ++ take w.0 (feed echo) in
          let is : echo_of echo (first_line l) ≡ front ++ drop w.0 (feed echo) =
          echo_parts echo (first_line l) holds ∙ ap (λ x. bytes ++ x) (sym (take-append-drop w.0 (feed echo))) ∙ sym (append_assoc bytes (take w.0 (feed echo)) (drop w.0 (feed echo))) in (
            front,
            Appends-trans written same more bytes (take w.0 (feed echo)) (line_bytes echo l written same e) w.1,
            λ done sofar count a. begun_front now ran l front (drop w.0 (feed echo)) done sofar is n.0 n.1 a,
          )

  -- what stopped the reading
  pub read_stops : (fault : RunFault) (text before : Option (List ℕ)) (reads : ℕ) (ran : Ran) (now : S) (left rest written more : Option (List ℕ)) → NumberedProgress text before reads ran now left written
      → CutsLine echo fault left rest written more → fault ≢ TooManyReads → fault ≢ WriteFailed → NumberedStops line_gives echo first fault text rest before more now
  read_stops fault text before reads ran now left rest written more h c other read =
      chain_stops Done (part_tail echo) fault text before reads ran now left rest written more c.0 h c.1 c.2 (tail_written echo c.0 written more (c.3 read)) (λ e. absurd (other e))

  nothing_tail : (written more : Option (List ℕ)) → Keeps written more → Appends written more (part_tail echo [])
  nothing_tail written more k = subst (Appends written more) (no_tail echo) (appends_none written more k)

  pub look_stops : (fault : RunFault) (text before : Option (List ℕ)) (reads : ℕ) (ran : Ran) (now : S) (left rest written more : Option (List ℕ)) → NumberedProgress text before reads ran now left written
      → Keeps left rest → Keeps written more → fault ≢ TooManyReads → NumberedStops line_gives echo first fault text rest before more now
  look_stops fault text before reads ran now left rest written more h k w other =
      chain_stops Done (part_tail echo) fault text before reads ran now left rest written more [] h (Consumes-kept left left rest [] (Consumes-nil left) k) (All-nil (λ b. b ≢ 10)) (nothing_tail written more w) (λ e. absurd (other e))

  pub too_many : (text before : Option (List ℕ)) (reads : ℕ) (ran : Ran) (now : S) (left rest written more : Option (List ℕ)) → NumberedProgress text before reads ran now left written
      → Keeps left rest → IfSome left (λ l. l ≢ []) → Keeps written more → reads ≡ most_reads → NumberedStops line_gives echo first TooManyReads text rest before more now
  too_many None before reads ran now left rest written more h k some w all = tt
  too_many (Some text) before reads ran now None rest written more h k some w all = absurd h
  too_many (Some text) before reads ran now (Some left) None written more h k some w all = absurd k
  too_many (Some text) before reads ran now (Some left) (Some rest) written more h k some w all =
      chain_stops Done (part_tail echo) TooManyReads (Some text) before reads ran now (Some left) (Some rest) written more [] h (sym k) (All-nil (λ b. b ≢ 10)) (nothing_tail written more w)
      (λ _. (all, refl, λ e. some (sym k ∙ e)))

  -- a run that was not stopped has a beginning too
  run_begun : {all : List (List ℕ)} {ran : Ran} {out : List ℕ} {next : S} → IsNumberedRun line_gives end_gives echo first all ran out next → IsNumberedBegun line_gives end_gives echo first all out next
  run_begun (numbered_end a gives) = whole_end _ _ _ _ _ _ a gives
    where
      whole_end : (s : S) (all : List (List ℕ)) (ran last : Ran) (out more : List ℕ) → Done all ran out s → end_gives s last more → IsNumberedBegun line_gives end_gives echo first all (out ++ more) s
      whole_end s all ran last out more a gives = subst (λ l. IsNumberedBegun line_gives end_gives echo first all (out ++ l) s) (take_all (length more) more (omega arith)) (begun_end a gives (length more))
  run_begun (numbered_stop a some gives later) = whole_line _ _ _ _ later _ _ _ a some gives
    where
      whole_line : (s t : S) (line : List ℕ) (before later : List (List ℕ)) (ran : Ran) (out more : List ℕ) → Done before ran out s → 0 < length line → line_gives s (length before + 1) line Ended more t
          → IsNumberedBegun line_gives end_gives echo first (before ++ line ∷ later) (out ++ (echo_of echo line ++ more)) t
      whole_line s t line before later ran out more a some gives =
          subst (λ l. IsNumberedBegun line_gives end_gives echo first (before ++ line ∷ later) (out ++ (echo_of echo line ++ l)) t) (take_all (length more) more (omega arith)) (begun_answer a some gives later (length more))

  -- what a run wrote is a beginning, also after a flush that failed
  pub begun_either : (result : Result Ran RunFault) (text before written more : Option (List ℕ)) (next : S) → IfOk result (λ ran. NumberedOutputs line_gives end_gives echo first text ran before written next)
      → IfErr result (λ fault. NumberedBegins line_gives end_gives echo first text before written next) → Keeps written more → NumberedBegins line_gives end_gives echo first text before more next
  begun_either result None before written more next h b k = tt
  begun_either result (Some text) None written more next h b k = tt
  begun_either (Ok ran) (Some text) (Some start) written more next h b k = (h.0, run_begun h.1, kept written more (start ++ h.0) h.2 k)
  begun_either (Err fault) (Some text) (Some start) written more next h b k = (b.0, b.1, kept written more (start ++ b.0) b.2 k)

  module _ (most : ℕ) (cut_alike : (s t : S) (number : ℕ) (line : List ℕ) (turn : Turn) (out : List ℕ) → line_gives s number (take most line) turn out t → line_gives s number line turn out t) where
    -- the whole of a line is answered as its front, with the number of the line
    whole_gives : (now next : S) (reads : ℕ) (turn : Turn) (whole line out : List ℕ) (done : List (List ℕ)) → line ≡ take most whole → length done ≡ reads → line_gives now (reads + 1) line turn out next
        → line_gives now (length done + 1) whole turn out next
    whole_gives now next reads turn whole line out done is count gives =
        cut_alike now next (length done + 1) whole turn out
        (subst (λ k. line_gives now (k + 1) (take most whole) turn out next) (sym count) (subst (λ l. line_gives now (reads + 1) l turn out next) is gives))

    -- a line was taken
    pub takes : (text before : Option (List ℕ)) (reads : ℕ) (ran : Ran) (now next : S) (left rest written same ended more : Option (List ℕ)) (line out : List ℕ)
        → NumberedProgress text before reads ran now left written → ReadsLineOf most left true line rest → EchoesLine echo left written same → 0 < length line → Appends same ended (feed echo)
        → Appends ended more out → line_gives now (reads + 1) line Taken out next → NumberedProgress text before (reads + 1) ran next rest more
    takes text before reads ran now next left rest written same ended more line out h r e some f w gives =
        chain_steps Done text before reads ran ran now next left rest written more most line h r
        (if_some_by left (NextWritten echo most line written more out) (λ l. (out : List ℕ) × Appends written more out
        × ((done : List (List ℕ)) (sofar : List ℕ) → length done ≡ reads → Done done ran sofar now → Done (done ++ first_line l ∷ []) ran (sofar ++ out) next))
        (next_written echo most left rest written same ended more line out r e some f w)
        (λ l n. (echo_of echo (first_line l) ++ out, n.4, λ done sofar count a. taken_line a n.3 (whole_gives now next reads Taken (first_line l) line out done n.2 count gives))))

    -- a line was refused, and the next follows
    pub refuses : (text before : Option (List ℕ)) (reads : ℕ) (ran : Ran) (now next : S) (left rest written same ended more : Option (List ℕ)) (line out : List ℕ)
        → NumberedProgress text before reads ran now left written → ReadsLineOf most left true line rest → EchoesLine echo left written same → 0 < length line → Appends same ended (feed echo)
        → Appends ended more out → line_gives now (reads + 1) line Refused out next → NumberedProgress text before (reads + 1) WithRefusals next rest more
    refuses text before reads ran now next left rest written same ended more line out h r e some f w gives =
        chain_steps Done text before reads ran WithRefusals now next left rest written more most line h r
        (if_some_by left (NextWritten echo most line written more out) (λ l. (out : List ℕ) × Appends written more out
        × ((done : List (List ℕ)) (sofar : List ℕ) → length done ≡ reads → Done done ran sofar now → Done (done ++ first_line l ∷ []) WithRefusals (sofar ++ out) next))
        (next_written echo most left rest written same ended more line out r e some f w)
        (λ l n. (echo_of echo (first_line l) ++ out, n.4, λ done sofar count a. refused_line a n.3 (whole_gives now next reads Refused (first_line l) line out done n.2 count gives))))

    -- a line was refused, and the run ends
    pub stops : (text before : Option (List ℕ)) (reads : ℕ) (ran : Ran) (now next : S) (left rest written same ended more : Option (List ℕ)) (line out : List ℕ)
        → NumberedProgress text before reads ran now left written → ReadsLineOf most left true line rest → EchoesLine echo left written same → 0 < length line → Appends same ended (feed echo)
        → Appends ended more out → line_gives now (reads + 1) line Ended out next → NumberedOutputs line_gives end_gives echo first text WithRefusals before more next
    stops text before reads ran now next left rest written same ended more line out h r e some f w gives =
        concludes WithRefusals next text before reads ran now left written more h
        (if_some_by left (NextWritten echo most line written more out) (λ l. (out : List ℕ) × Appends written more out
        × ((done : List (List ℕ)) (sofar : List ℕ) → length done ≡ reads → Done done ran sofar now
        → IsNumberedRun line_gives end_gives echo first (done ++ lines l) WithRefusals (sofar ++ out) next))
        (next_written echo most left rest written same ended more line out r e some f w)
        (λ l n. (
          echo_of echo (first_line l) ++ out,
          n.4,
          λ done sofar count a.
              subst (λ ls. IsNumberedRun line_gives end_gives echo first (done ++ ls) WithRefusals (sofar ++ (echo_of echo (first_line l) ++ out)) next) (sym n.1)
              (numbered_stop a n.3 (whole_gives now next reads Ended (first_line l) line out done n.2 count gives) n.0),
        )))

    -- its answer was not written whole
    pub begun_in_line : (text before : Option (List ℕ)) (reads : ℕ) (ran : Ran) (now next : S) (left rest written same ended more : Option (List ℕ)) (line : List ℕ)
        → NumberedProgress text before reads ran now left written → ReadsLineOf most left true line rest → EchoesLine echo left written same → 0 < length line → Appends same ended (feed echo)
        → gives_front (λ out. (turn : Turn) × line_gives now (reads + 1) line turn out next) ended more → NumberedBegins line_gives end_gives echo first text before more next
    begun_in_line text before reads ran now next left rest written same ended more line h r e some f g =
        breaks_off next text before reads ran now left written more h
        (if_some_by left (NextWritten echo most line written more (take g.2 g.0)) (λ l. (out : List ℕ) × Appends written more out
        × ((done : List (List ℕ)) (sofar : List ℕ) → length done ≡ reads → Done done ran sofar now
        → IsNumberedBegun line_gives end_gives echo first (done ++ lines l) (sofar ++ out) next))
        (next_written echo most left rest written same ended more line (take g.2 g.0) r e some f g.3)
        (λ l n. (
          echo_of echo (first_line l) ++ take g.2 g.0,
          n.4,
          λ done sofar count a.
              subst (λ ls. IsNumberedBegun line_gives end_gives echo first (done ++ ls) (sofar ++ (echo_of echo (first_line l) ++ take g.2 g.0)) next) (sym n.1)
              (begun_answer a n.3 (whole_gives now next reads g.1.0 (first_line l) line g.0 done n.2 count g.1.1) n.0 g.2),
        )))
