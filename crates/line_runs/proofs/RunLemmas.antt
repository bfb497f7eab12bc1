-- A run as far as it has come.
use Rattle.std.proofs.Common.{◌≡◌, ◌≢◌, ℕ, ◌+◌, ◌<◌, ◌≤◌, ◌⊎◌, inl, inr, true, false, List, [], ◌∷◌, ◌++◌, Option, None, Some, IfSome, Result, Ok, Err, IfOk, IfErr, length, take, filter, nat_lt, cond, lt-ltb, refl, sym, ap, subst, ◌∙◌, arith, append_assoc, take_all}
use Rattle.std.specs.Prelude.{⊤}
use Rattle.std.proofs.lemmas.List.{append-nil, length-take}
use Rattle.std.proofs.lemmas.List.Elements.{All-nil, filter-append}
use Rattle.std.specs.Str.Lines.{lines}
use Rattle.std.specs.Io.{IsEmptyOrEndsWith}
use Rattle.std.specs.Io.KnownBytes.{Appends, Keeps}
use Rattle.std.specs.Io.BufRead.{first_line, drop_through}
use Rattle.line_runs.specs.Lines.{lines_of, IsInLine, ReadsLineOf}
use Rattle.line_runs.specs.Outcome.{both_ran}
use Rattle.line_runs.specs.Run.{AreAnswered, none_yet, taken, refused, IsRun, at_end, stopped, IsBegun, between, in_line, in_end, StopsAfter, Outputs, Begins, StopsReading, ReadsFewLines, gives_beginning, gives_front, most_reads}
use Rattle.line_runs.specs.declared.outcome.Ran.{Ran}
use Rattle.line_runs.specs.declared.outcome.Ran.TheVariants.{Whole, WithRefusals}
use Rattle.line_runs.specs.declared.outcome.RunFault.{RunFault}
use Rattle.line_runs.specs.declared.outcome.RunFault.TheVariants.{WriteFailed, TooManyReads}
use Rattle.line_runs.specs.declared.run.Turn.{Turn}
use Rattle.line_runs.specs.declared.run.Turn.TheVariants.{Taken, Refused, Ended}
use Rattle.line_runs.proofs.ProgressLemmas.{ReadSoFar, none_read, one_more, all_lines, front_lines, front_and_part}

-- those of the lines that hold something
abbrev pub held : List (List ℕ) → List (List ℕ)
held ls = filter (λ line. nat_lt 0 (length line)) ls

held_one : (line : List ℕ) → 0 < length line → held (line ∷ []) ≡ line ∷ []
held_one line some = ap (λ b. cond b (line ∷ []) []) (lt-ltb 0 (length line) some)

held_none : (line : List ℕ) → length line ≡ 0 → held (line ∷ []) ≡ []
held_none line empty = ap (λ n. cond (nat_lt 0 n) (line ∷ []) []) empty

held_more : (done : List (List ℕ)) (line : List ℕ) → 0 < length line → held (done ++ line ∷ []) ≡ held done ++ line ∷ []
held_more done line some = filter-append (λ l. nat_lt 0 (length l)) done (line ∷ []) ∙ ap (λ ls. held done ++ ls) (held_one line some)

held_same : (done : List (List ℕ)) (line : List ℕ) → length line ≡ 0 → held (done ++ line ∷ []) ≡ held done
held_same done line empty = filter-append (λ l. nat_lt 0 (length l)) done (line ∷ []) ∙ ap (λ ls. held done ++ ls) (held_none line empty) ∙ append-nil (held done)

-- the lines that hold something, read and left
held_all : (text left : List ℕ) (reads : ℕ) (done : List (List ℕ)) → ReadSoFar text left reads done → lines_of text ≡ held done ++ lines_of left
held_all text left reads done h = ap held (all_lines text left reads done h) ∙ filter-append (λ l. nat_lt 0 (length l)) done (lines left)

-- a line that was read holds something where its front does
front_holds : (most : ℕ) (whole line : List ℕ) → line ≡ take most whole → 0 < length line → 0 < length whole
front_holds most whole line is some = omega (arith, ap length is, length-take most whole)

front_empty : (most : ℕ) (whole line : List ℕ) → line ≡ take most whole → 0 < most → length line ≡ 0 → length whole ≡ 0
front_empty most whole line is room empty = omega (arith, ap length is, length-take most whole)

-- what is written where a writer tells it
pub kept : (old new : Option (List ℕ)) (x : List ℕ) → old ≡ Some x → Keeps old new → new ≡ Some x
kept None new x e k = absurd (nothing e)
  where
    nothing : None ≡ Some x → ⊥
    nothing e = subst (λ (o : Option (List ℕ)). IfSome o (λ _. ⊥)) e tt
kept (Some y) None x e k = absurd k
kept (Some y) (Some z) x e k = ap Some k ∙ e

-- nothing is a part of a line
pub kept_in_line : (old new : Option (List ℕ)) → Keeps old new → IsInLine old new
kept_in_line None new k = ([], tt, All-nil (λ b. b ≢ 10))
kept_in_line (Some x) None k = absurd k
kept_in_line (Some x) (Some y) k = ([], sym k, All-nil (λ b. b ≢ 10))

-- the end of the input
pub none_left : (left rest : Option (List ℕ)) (most : ℕ) (line : List ℕ) → ReadsLineOf most left false line rest → IfSome left (λ l. l ≡ []) × Keeps left rest
none_left None rest most line r = (tt, tt)
none_left (Some left) None most line r = absurd r
none_left (Some left) (Some rest) most line r = (r.0, r.1 ∙ sym r.0)

module _ {S : Type 0} (line_gives : S → List ℕ → Turn → List ℕ → S → Type 0) (end_gives : S → Ran → List ℕ → Type 0) (first : S) where
  -- what was written for the lines that are read
  pub record Written (before : List ℕ) (done : List (List ℕ)) (ran : Ran) (now : S) (written : List ℕ) : Type 0 where
    pub out : List ℕ
    pub is : written ≡ before ++ out
    pub answered : AreAnswered line_gives first (held done) ran out now

  abbrev pub WrittenOf : Option (List ℕ) → List (List ℕ) → Ran → S → Option (List ℕ) → Type 0
  WrittenOf None done ran now written = ⊤
  WrittenOf (Some before) done ran now None = ⊥
  WrittenOf (Some before) done ran now (Some written) = Written before done ran now written

  -- how far a run has come, where the reader tells its bytes
  abbrev pub Progress : Option (List ℕ) → Option (List ℕ) → ℕ → Ran → S → Option (List ℕ) → Option (List ℕ) → Type 0
  Progress None before reads ran now left written = ⊤
  Progress (Some text) before reads ran now None written = ⊥
  Progress (Some text) before reads ran now (Some left) written = (done : List (List ℕ)) × ReadSoFar text left reads done × WrittenOf before done ran now written

  begins_written : (before : Option (List ℕ)) → WrittenOf before [] Whole first before
  begins_written None = tt
  begins_written (Some b) = record { out = []; is = sym (append-nil b); answered = none_yet }

  pub begins : (text before : Option (List ℕ)) → Progress text before 0 Whole first text before
  begins None before = tt
  begins (Some text) before = ([], none_read text, begins_written before)

  still_written : (before : Option (List ℕ)) (done : List (List ℕ)) (ran : Ran) (now : S) (written more : Option (List ℕ)) → WrittenOf before done ran now written → Keeps written more → WrittenOf before done ran now more
  still_written None done ran now written more h k = tt
  still_written (Some b) done ran now None more h k = absurd h
  still_written (Some b) done ran now (Some w) None h k = absurd k
  still_written (Some b) done ran now (Some w) (Some v) h k = record { out = h.out; is = k ∙ h.is; answered = h.answered }

  same_written : (before : Option (List ℕ)) (done other : List (List ℕ)) (ran : Ran) (now : S) (written : Option (List ℕ)) → WrittenOf before done ran now written → held other ≡ held done → WrittenOf before other ran now written
  same_written None done other ran now written h e = tt
  same_written (Some b) done other ran now None h e = absurd h
  same_written (Some b) done other ran now (Some w) h e = record { out = h.out; is = h.is; answered = subst (λ ls. AreAnswered line_gives first ls ran h.out now) (sym e) h.answered }

  -- an empty line is passed over
  pub passes : (text before : Option (List ℕ)) (reads : ℕ) (ran : Ran) (now : S) (left rest written more : Option (List ℕ)) (most : ℕ) (line : List ℕ)
      → Progress text before reads ran now left written → ReadsLineOf most left true line rest → Keeps written more → 0 < most → length line ≡ 0
      → Progress text before (reads + 1) ran now rest more
  passes None before reads ran now left rest written more most line h r k room empty = tt
  passes (Some text) before reads ran now None rest written more most line h r k room empty = absurd h
  passes (Some text) before reads ran now (Some left) None written more most line h r k room empty = absurd r
  passes (Some text) before reads ran now (Some left) (Some rest) written more most line h r k room empty =
      let whole = first_line left in (
        h.0 ++ whole ∷ [],
        one_more text left rest reads h.0 h.1 r.0 r.2,
        same_written before h.0 (h.0 ++ whole ∷ []) ran now more (still_written before h.0 ran now written more h.2 k) (held_same h.0 whole (front_empty most whole line r.1 room empty)),
      )

  -- a line that is answered, and does not end the run
  abbrev pub Follows : Ran → S → Ran → S → List ℕ → List ℕ → Type 0
  Follows ran now later next whole out = (before : List (List ℕ)) (sofar : List ℕ) → AreAnswered line_gives first before ran sofar now → AreAnswered line_gives first (before ++ whole ∷ []) later (sofar ++ out) next

  more_written : (before : Option (List ℕ)) (done : List (List ℕ)) (ran later : Ran) (now next : S) (written more : Option (List ℕ)) (whole out : List ℕ) → WrittenOf before done ran now written
      → Appends written more out → 0 < length whole → Follows ran now later next whole out → WrittenOf before (done ++ whole ∷ []) later next more
  more_written None done ran later now next written more whole out h w some f = tt
  more_written (Some b) done ran later now next None more whole out h w some f = absurd h
  more_written (Some b) done ran later now next (Some v) None whole out h w some f = absurd w
  more_written (Some b) done ran later now next (Some v) (Some u) whole out h w some f = record {
    out = h.out ++ out;
    is = w ∙ ap (λ l. l ++ out) h.is ∙ append_assoc b h.out out;
    answered = subst (λ ls. AreAnswered line_gives first ls later (h.out ++ out) next) (sym (held_more done whole some)) (f (held done) h.out h.answered);
  }

  steps : (text before : Option (List ℕ)) (reads : ℕ) (ran later : Ran) (now next : S) (left rest written same more : Option (List ℕ)) (most : ℕ) (line out : List ℕ)
      → Progress text before reads ran now left written → ReadsLineOf most left true line rest → Keeps written same → 0 < length line → Appends same more out
      → ((whole : List ℕ) → line ≡ take most whole → Follows ran now later next whole out) → Progress text before (reads + 1) later next rest more
  steps None before reads ran later now next left rest written same more most line out h r k some w f = tt
  steps (Some text) before reads ran later now next None rest written same more most line out h r k some w f = absurd h
  steps (Some text) before reads ran later now next (Some left) None written same more most line out h r k some w f = absurd r
  steps (Some text) before reads ran later now next (Some left) (Some rest) written same more most line out h r k some w f =
      let whole = first_line left in (
        h.0 ++ whole ∷ [],
        one_more text left rest reads h.0 h.1 r.0 r.2,
        more_written before h.0 ran later now next same more whole out (still_written before h.0 ran now written same h.2 k) w (front_holds most whole line r.1 some) (f whole r.1),
      )

  -- what was written so far, and then more, where a line ends the run or the input ends
  abbrev pub Closes : Ran → S → Ran → S → List ℕ → List (List ℕ) → Type 0
  Closes ran now all next out later = (before : List (List ℕ)) (sofar : List ℕ) → AreAnswered line_gives first before ran sofar now
      → IsRun line_gives end_gives first (before ++ later) all (sofar ++ out) next

  closes_written : (text : List ℕ) (before : Option (List ℕ)) (done later : List (List ℕ)) (ran all : Ran) (now next : S) (written more : Option (List ℕ)) (out : List ℕ)
      → WrittenOf before done ran now written → Appends written more out → lines_of text ≡ held done ++ later → Closes ran now all next out later
      → Outputs line_gives end_gives first (Some text) all before more next
  closes_written text None done later ran all now next written more out h w e f = tt
  closes_written text (Some b) done later ran all now next None more out h w e f = absurd h
  closes_written text (Some b) done later ran all now next (Some v) None out h w e f = absurd w
  closes_written text (Some b) done later ran all now next (Some v) (Some u) out h w e f = (
    h.out ++ out,
    subst (λ ls. IsRun line_gives end_gives first ls all (h.out ++ out) next) (sym e) (f (held done) h.out h.answered),
    ap Some (w ∙ ap (λ l. l ++ out) h.is ∙ append_assoc b h.out out),
  )

  -- what is written at the end of the input
  pub ends : (text before : Option (List ℕ)) (reads : ℕ) (ran last all : Ran) (now : S) (left written same more : Option (List ℕ)) (out : List ℕ)
      → Progress text before reads ran now left written → IfSome left (λ l. l ≡ []) → Keeps written same → Appends same more out → end_gives now last out → all ≡ both_ran ran last
      → Outputs line_gives end_gives first text all before more now
  ends None before reads ran last all now left written same more out h none k w gives is = tt
  ends (Some text) before reads ran last all now None written same more out h none k w gives is = absurd h
  ends (Some text) before reads ran last all now (Some left) written same more out h none k w gives is =
      closes_written text before h.0 [] ran all now now same more out (still_written before h.0 ran now written same h.2 k) w
      (held_all text left reads h.0 h.1 ∙ ap (λ l. held h.0 ++ lines_of l) none)
      (λ lines sofar a. subst (λ ls. IsRun line_gives end_gives first ls all (sofar ++ out) now) (sym (append-nil lines))
      (subst (λ r. IsRun line_gives end_gives first lines r (sofar ++ out) now) (sym is) (at_end a gives)))

  -- the same of what was answered at the end, or of a refusal
  pub ends_of : (result : Result Ran RunFault) (text before : Option (List ℕ)) (reads : ℕ) (ran : Ran) (now : S) (left written same more : Option (List ℕ))
      → Progress text before reads ran now left written → IfSome left (λ l. l ≡ []) → Keeps written same
      → IfOk result (λ all. (last : Ran) × (out : List ℕ) × (all ≡ both_ran ran last) × Appends same more out × end_gives now last out)
      → IfOk result (λ all. Outputs line_gives end_gives first text all before more now)
  ends_of (Ok all) text before reads ran now left written same more h none k w = ends text before reads ran w.0 all now left written same more w.1 h none k w.3 w.4 w.2
  ends_of (Err fault) text before reads ran now left written same more h none k w = tt

  -- the lines from the next one on
  next_held : (left rest : List ℕ) → 0 < length left → rest ≡ drop_through 10 left → 0 < length (first_line left) → lines_of left ≡ first_line left ∷ lines_of rest
  next_held left rest some is holds =
      let read = one_more left left rest 0 [] (none_read left) some is in
      held_all left rest 1 (first_line left ∷ []) read ∙ ap (λ ls. ls ++ lines_of rest) (held_one (first_line left) holds)

  -- what was written so far is a beginning
  abbrev pub Starts : Ran → S → S → List ℕ → List (List ℕ) → Type 0
  Starts ran now next out later = (before : List (List ℕ)) (sofar : List ℕ) → AreAnswered line_gives first before ran sofar now → IsBegun line_gives end_gives first (before ++ later) (sofar ++ out) next

  starts_written : (text : List ℕ) (before : Option (List ℕ)) (done later : List (List ℕ)) (ran : Ran) (now next : S) (written more : Option (List ℕ)) (out : List ℕ) → WrittenOf before done ran now written
      → Appends written more out → lines_of text ≡ held done ++ later → Starts ran now next out later → Begins line_gives end_gives first (Some text) before more next
  starts_written text None done later ran now next written more out h w e f = tt
  starts_written text (Some b) done later ran now next None more out h w e f = absurd h
  starts_written text (Some b) done later ran now next (Some v) None out h w e f = absurd w
  starts_written text (Some b) done later ran now next (Some v) (Some u) out h w e f = (
    h.out ++ out,
    subst (λ ls. IsBegun line_gives end_gives first ls (h.out ++ out) next) (sym e) (f (held done) h.out h.answered),
    ap Some (w ∙ ap (λ l. l ++ out) h.is ∙ append_assoc b h.out out),
  )

  nothing_more : (a b : Option (List ℕ)) → Keeps a b → Appends a b []
  nothing_more None b k = tt
  nothing_more (Some x) None k = absurd k
  nothing_more (Some x) (Some y) k = k ∙ sym (append-nil x)

  begun_between : (ran : Ran) (now : S) (later : List (List ℕ)) → Starts ran now now [] later
  begun_between ran now later before sofar a = subst (λ out. IsBegun line_gives end_gives first (before ++ later) out now) (sym (append-nil sofar)) (between a later)

  pub begun : (text before : Option (List ℕ)) (reads : ℕ) (ran : Ran) (now : S) (left written more : Option (List ℕ)) → Progress text before reads ran now left written → Keeps written more
      → Begins line_gives end_gives first text before more now
  begun None before reads ran now left written more h k = tt
  begun (Some text) before reads ran now None written more h k = absurd h
  begun (Some text) before reads ran now (Some left) written more h k =
      starts_written text before h.0 (lines_of left) ran now now written more [] h.2 (nothing_more written more k) (held_all text left reads h.0 h.1) (begun_between ran now (lines_of left))

  pub begun_in_end : (text before : Option (List ℕ)) (reads : ℕ) (ran : Ran) (now : S) (left written same more : Option (List ℕ)) → Progress text before reads ran now left written
      → IfSome left (λ l. l ≡ []) → Keeps written same → gives_beginning (λ out. (last : Ran) × end_gives now last out) same more → Begins line_gives end_gives first text before more now
  begun_in_end None before reads ran now left written same more h none k g = tt
  begun_in_end (Some text) before reads ran now None written same more h none k g = absurd h
  begun_in_end (Some text) before reads ran now (Some left) written same more h none k (inl kept) =
      let still = still_written before h.0 ran now written same h.2 k in
      starts_written text before h.0 (lines_of left) ran now now same more [] still (nothing_more same more kept) (held_all text left reads h.0 h.1) (begun_between ran now (lines_of left))
  begun_in_end (Some text) before reads ran now (Some left) written same more h none k (inr g) =
      let still = still_written before h.0 ran now written same h.2 k in
      starts_written text before h.0 [] ran now now same more (take g.2 g.0) still g.3
      (held_all text left reads h.0 h.1 ∙ ap (λ l. held h.0 ++ lines_of l) none)
      (λ lines sofar a. subst (λ ls. IsBegun line_gives end_gives first ls (sofar ++ take g.2 g.0) now) (sym (append-nil lines)) (in_end a g.1.1 g.2))

  pub end_begun_of : (result : Result Ran RunFault) (text before : Option (List ℕ)) (reads : ℕ) (ran : Ran) (now : S) (left written same more : Option (List ℕ))
      → Progress text before reads ran now left written → IfSome left (λ l. l ≡ []) → Keeps written same
      → IfErr result (λ fault. (fault ≡ WriteFailed) × gives_beginning (λ out. (last : Ran) × end_gives now last out) same more)
      → IfErr result (λ fault. Begins line_gives end_gives first text before more now)
  end_begun_of (Ok all) text before reads ran now left written same more h none k w = tt
  end_begun_of (Err fault) text before reads ran now left written same more h none k w = begun_in_end text before reads ran now left written same more h none k w.1

  -- what stopped the reading
  stops_written : (fault : RunFault) (text : List ℕ) (before : Option (List ℕ)) (done : List (List ℕ)) (ran : Ran) (now : S) (written : Option (List ℕ)) (whole part left : List ℕ) → WrittenOf before done ran now written
      → StopsAfter fault text whole part left → lines whole ≡ done → StopsReading line_gives first fault (Some text) (Some left) before written now
  stops_written fault text None done ran now written whole part left h s e = tt
  stops_written fault text (Some b) done ran now None whole part left h s e = absurd h
  stops_written fault text (Some b) done ran now (Some w) whole part left h s e =
      (whole, part, left, h.out, ran, s, refl, subst (λ ls. AreAnswered line_gives first ls ran h.out now) (sym (ap held e)) h.answered, ap Some h.is)

  pub read_stops : (fault : RunFault) (text before : Option (List ℕ)) (reads : ℕ) (ran : Ran) (now : S) (left rest written more : Option (List ℕ)) → Progress text before reads ran now left written
      → IsInLine left rest → Keeps written more → fault ≢ TooManyReads → StopsReading line_gives first fault text rest before more now
  read_stops fault None before reads ran now left rest written more h r k other = tt
  read_stops fault (Some text) before reads ran now None rest written more h r k other = absurd h
  read_stops fault (Some text) before reads ran now (Some left) None written more h r k other = absurd r.1
  read_stops fault (Some text) before reads ran now (Some left) (Some rest) written more h r k other =
      let read = h.1 in
      let still = still_written before h.0 ran now written more h.2 k in
      stops_written fault text before h.0 ran now more read.front r.0 rest still
      (record { is = read.cut ∙ ap (λ l. read.front ++ l) r.1 ∙ sym (append_assoc read.front r.0 rest); ended = subst (λ l. (l ≡ []) ⊎ IsEmptyOrEndsWith read.front 10) r.1 read.ended; within = r.2; limit = λ e. absurd (other e) })
      (front_lines text left reads h.0 read)

  pub too_many : (text before : Option (List ℕ)) (reads : ℕ) (ran : Ran) (now : S) (left rest written more : Option (List ℕ)) → Progress text before reads ran now left written
      → Keeps left rest → IfSome left (λ l. l ≢ []) → Keeps written more → reads ≡ most_reads → StopsReading line_gives first TooManyReads text rest before more now
  too_many None before reads ran now left rest written more h r some k all = tt
  too_many (Some text) before reads ran now None rest written more h r some k all = absurd h
  too_many (Some text) before reads ran now (Some left) None written more h r some k all = absurd r
  too_many (Some text) before reads ran now (Some left) (Some rest) written more h r some k all =
      let read = h.1 in
      let still = still_written before h.0 ran now written more h.2 k in
      let same : left ≡ rest = sym r in
      let count : length (lines read.front) ≡ most_reads = ap length (front_lines text left reads h.0 read) ∙ read.count ∙ all in
      stops_written TooManyReads text before h.0 ran now more read.front [] rest still
      (record {
        is = read.cut ∙ ap (λ l. read.front ++ l) same ∙ ap (λ l. l ++ rest) (sym (append-nil read.front));
        ended = subst (λ l. (l ≡ []) ⊎ IsEmptyOrEndsWith read.front 10) same read.ended;
        within = All-nil (λ b. b ≢ 10);
        limit = λ _. (count, refl, λ e. some (same ∙ e));
      })
      (front_lines text left reads h.0 read)

  -- how much is read
  pub few : (text before : Option (List ℕ)) (reads : ℕ) (ran : Ran) (now : S) (left rest written : Option (List ℕ)) → Progress text before reads ran now left written
      → Keeps left rest → reads ≤ most_reads → ReadsFewLines text rest
  few None before reads ran now left rest written h k within = ([], tt, omega arith)
  few (Some text) before reads ran now None rest written h k within = absurd h
  few (Some text) before reads ran now (Some left) None written h k within = absurd k
  few (Some text) before reads ran now (Some left) (Some rest) written h k within =
      let read = h.1 in (read.front, read.cut ∙ ap (λ l. read.front ++ l) (sym k), omega (arith, within, read.count, ap length (front_lines text left reads h.0 read)))

  pub few_in_line : (text before : Option (List ℕ)) (reads : ℕ) (ran : Ran) (now : S) (left rest written : Option (List ℕ)) → Progress text before reads ran now left written
      → IsInLine left rest → reads < most_reads → ReadsFewLines text rest
  few_in_line None before reads ran now left rest written h r within = ([], tt, omega arith)
  few_in_line (Some text) before reads ran now None rest written h r within = absurd h
  few_in_line (Some text) before reads ran now (Some left) None written h r within = absurd r.1
  few_in_line (Some text) before reads ran now (Some left) (Some rest) written h r within =
      let read = h.1 in (
        read.front ++ r.0,
        read.cut ∙ ap (λ l. read.front ++ l) r.1 ∙ sym (append_assoc read.front r.0 rest),
        omega (arith, within, front_and_part text left reads h.0 read r.0 rest r.1 r.2),
      )

  pub few_line : (text before : Option (List ℕ)) (reads : ℕ) (ran : Ran) (now : S) (left rest written : Option (List ℕ)) (most : ℕ) (line : List ℕ) → Progress text before reads ran now left written
      → ReadsLineOf most left true line rest → reads < most_reads → ReadsFewLines text rest
  few_line None before reads ran now left rest written most line h r within = ([], tt, omega arith)
  few_line (Some text) before reads ran now None rest written most line h r within = absurd h
  few_line (Some text) before reads ran now (Some left) None written most line h r within = absurd r
  few_line (Some text) before reads ran now (Some left) (Some rest) written most line h r within =
      let read = one_more text left rest reads h.0 h.1 r.0 r.2 in
      (read.front, read.cut, omega (arith, within, read.count, ap length (front_lines text rest (reads + 1) (h.0 ++ first_line left ∷ []) read)))

  -- a run that was not stopped has a beginning too
  whole_end : (s : S) (all : List (List ℕ)) (ran last : Ran) (out more : List ℕ) → AreAnswered line_gives first all ran out s → end_gives s last more → IsBegun line_gives end_gives first all (out ++ more) s
  whole_end s all ran last out more a gives = subst (λ l. IsBegun line_gives end_gives first all (out ++ l) s) (take_all (length more) more (omega arith)) (in_end a gives (length more))

  whole_line : (s t : S) (line : List ℕ) (before later : List (List ℕ)) (turn : Turn) (ran : Ran) (out more : List ℕ) → AreAnswered line_gives first before ran out s → line_gives s line turn more t
      → IsBegun line_gives end_gives first (before ++ line ∷ later) (out ++ more) t
  whole_line s t line before later turn ran out more a gives =
      subst (λ l. IsBegun line_gives end_gives first (before ++ line ∷ later) (out ++ l) t) (take_all (length more) more (omega arith)) (in_line a gives later (length more))

  run_begun : {all : List (List ℕ)} {ran : Ran} {out : List ℕ} {next : S} → IsRun line_gives end_gives first all ran out next → IsBegun line_gives end_gives first all out next
  run_begun (at_end a gives) = whole_end _ _ _ _ _ _ a gives
  run_begun (stopped a gives later) = whole_line _ _ _ _ later Ended _ _ _ a gives

  -- what a run wrote is a beginning, also after a flush that failed
  pub begun_either : (result : Result Ran RunFault) (text before written more : Option (List ℕ)) (next : S) → IfOk result (λ ran. Outputs line_gives end_gives first text ran before written next)
      → IfErr result (λ fault. Begins line_gives end_gives first text before written next) → Keeps written more → Begins line_gives end_gives first text before more next
  begun_either result None before written more next h b k = tt
  begun_either result (Some text) None written more next h b k = tt
  begun_either (Ok ran) (Some text) (Some start) written more next h b k = (h.0, run_begun h.1, kept written more (start ++ h.0) h.2 k)
  begun_either (Err fault) (Some text) (Some start) written more next h b k = (b.0, b.1, kept written more (start ++ b.0) b.2 k)

  module _ (most : ℕ) (cut_alike : (s t : S) (line : List ℕ) (turn : Turn) (out : List ℕ) → line_gives s (take most line) turn out t → line_gives s line turn out t) where
    -- the whole of a line is answered as its front
    whole_gives : (now next : S) (turn : Turn) (whole line out : List ℕ) → line ≡ take most whole → line_gives now line turn out next → line_gives now whole turn out next
    whole_gives now next turn whole line out is gives = cut_alike now next whole turn out (subst (λ l. line_gives now l turn out next) is gives)

    -- a line was taken
    pub takes : (text before : Option (List ℕ)) (reads : ℕ) (ran : Ran) (now next : S) (left rest written same more : Option (List ℕ)) (line out : List ℕ)
        → Progress text before reads ran now left written → ReadsLineOf most left true line rest → Keeps written same → 0 < length line → Appends same more out
        → line_gives now line Taken out next → Progress text before (reads + 1) ran next rest more
    takes text before reads ran now next left rest written same more line out h r k some w gives =
        steps text before reads ran ran now next left rest written same more most line out h r k some w
        (λ whole is lines sofar a. taken a (whole_gives now next Taken whole line out is gives))

    -- a line was refused, and the next follows
    pub refuses : (text before : Option (List ℕ)) (reads : ℕ) (ran : Ran) (now next : S) (left rest written same more : Option (List ℕ)) (line out : List ℕ)
        → Progress text before reads ran now left written → ReadsLineOf most left true line rest → Keeps written same → 0 < length line → Appends same more out
        → line_gives now line Refused out next → Progress text before (reads + 1) WithRefusals next rest more
    refuses text before reads ran now next left rest written same more line out h r k some w gives =
        steps text before reads ran WithRefusals now next left rest written same more most line out h r k some w
        (λ whole is lines sofar a. refused a (whole_gives now next Refused whole line out is gives))

    -- a line was refused, and the run ends
    pub stops : (text before : Option (List ℕ)) (reads : ℕ) (ran : Ran) (now next : S) (left rest written same more : Option (List ℕ)) (line out : List ℕ)
        → Progress text before reads ran now left written → ReadsLineOf most left true line rest → Keeps written same → 0 < length line → Appends same more out
        → line_gives now line Ended out next → Outputs line_gives end_gives first text WithRefusals before more next
    stops None before reads ran now next left rest written same more line out h r k some w gives = tt
    stops (Some text) before reads ran now next None rest written same more line out h r k some w gives = absurd h
    stops (Some text) before reads ran now next (Some left) None written same more line out h r k some w gives = absurd r
    stops (Some text) before reads ran now next (Some left) (Some rest) written same more line out h r k some w gives =
        let whole = first_line left in
        closes_written text before h.0 (whole ∷ lines_of rest) ran WithRefusals now next same more out (still_written before h.0 ran now written same h.2 k) w
        (held_all text left reads h.0 h.1 ∙ ap (λ ls. held h.0 ++ ls) (next_held left rest r.0 r.2 (front_holds most whole line r.1 some)))
        (λ lines sofar a. stopped a (whole_gives now next Ended whole line out r.1 gives) (lines_of rest))

    pub begun_in_line : (text before : Option (List ℕ)) (reads : ℕ) (ran : Ran) (now next : S) (left rest written same more : Option (List ℕ)) (line : List ℕ)
        → Progress text before reads ran now left written → ReadsLineOf most left true line rest → Keeps written same → 0 < length line
        → gives_front (λ out. (turn : Turn) × line_gives now line turn out next) same more → Begins line_gives end_gives first text before more next
    begun_in_line None before reads ran now next left rest written same more line h r k some g = tt
    begun_in_line (Some text) before reads ran now next None rest written same more line h r k some g = absurd h
    begun_in_line (Some text) before reads ran now next (Some left) None written same more line h r k some g = absurd r
    begun_in_line (Some text) before reads ran now next (Some left) (Some rest) written same more line h r k some g =
        let still = still_written before h.0 ran now written same h.2 k in
        let whole = first_line left in
        starts_written text before h.0 (whole ∷ lines_of rest) ran now next same more (take g.2 g.0) still g.3
        (held_all text left reads h.0 h.1 ∙ ap (λ ls. held h.0 ++ ls) (next_held left rest r.0 r.2 (front_holds most whole line r.1 some)))
        (λ lines sofar a. in_line a (whole_gives now next g.1.0 whole line g.0 r.1 g.1.1) (lines_of rest) g.2)
