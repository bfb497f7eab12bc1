-- How far a run has come, whatever is said of the lines that are read.
use Rattle.std.proofs.Common.{◌≡◌, ◌≢◌, ℕ, ◌+◌, ◌<◌, ◌≤◌, ◌⊎◌, true, List, [], ◌∷◌, ◌++◌, All, Option, None, Some, IfSome, length, refl, sym, ap, subst, ◌∙◌, arith, append_assoc}
use Rattle.std.specs.Prelude.{⊤}
use Rattle.std.proofs.lemmas.List.{append-nil}
use Rattle.std.specs.Str.Lines.{lines}
use Rattle.std.specs.Io.{IsEmptyOrEndsWith}
use Rattle.std.specs.Io.KnownBytes.{Appends, Consumes, Keeps}
use Rattle.std.specs.Io.BufRead.{first_line}
use Rattle.line_runs.specs.Lines.{ReadsLineOf}
use Rattle.line_runs.specs.Run.{StopsAfter, ReadsFewLines, most_reads}
use Rattle.line_runs.specs.declared.outcome.Ran.{Ran}
use Rattle.line_runs.specs.declared.outcome.RunFault.{RunFault}
use Rattle.line_runs.specs.declared.outcome.RunFault.TheVariants.{TooManyReads}
use Rattle.line_runs.proofs.ProgressLemmas.{ReadSoFar, none_read, one_more, all_lines, front_lines, front_and_part}

-- `Done done ran out now`: these lines were carried out by these bytes, and the state is `now`
module _ {S : Type 0} (Done : List (List ℕ) → Ran → List ℕ → S → Type 0) where
  -- what was written for the lines that are read
  pub record Written (before : List ℕ) (done : List (List ℕ)) (ran : Ran) (now : S) (written : List ℕ) : Type 0 where
    pub out : List ℕ
    pub is : written ≡ before ++ out
    pub carried : Done done ran out now

  abbrev pub WrittenOf : Option (List ℕ) → List (List ℕ) → Ran → S → Option (List ℕ) → Type 0
  WrittenOf None done ran now written = ⊤
  WrittenOf (Some before) done ran now None = ⊥
  WrittenOf (Some before) done ran now (Some written) = Written before done ran now written

  -- how far a run has come, where the reader tells its bytes
  abbrev pub ChainProgress : Option (List ℕ) → Option (List ℕ) → ℕ → Ran → S → Option (List ℕ) → Option (List ℕ) → Type 0
  ChainProgress None before reads ran now left written = ⊤
  ChainProgress (Some text) before reads ran now None written = ⊥
  ChainProgress (Some text) before reads ran now (Some left) written = (done : List (List ℕ)) × ReadSoFar text left reads done × WrittenOf before done ran now written

  begins_written : (ran : Ran) (first : S) → Done [] ran [] first → (before : Option (List ℕ)) → WrittenOf before [] ran first before
  begins_written ran first none None = tt
  begins_written ran first none (Some b) = record { out = []; is = sym (append-nil b); carried = none }

  pub chain_begins : (ran : Ran) (first : S) → Done [] ran [] first → (text before : Option (List ℕ)) → ChainProgress text before 0 ran first text before
  chain_begins ran first none None before = tt
  chain_begins ran first none (Some text) before = ([], none_read text, begins_written ran first none before)

  more_written : (before : Option (List ℕ)) (done other : List (List ℕ)) (ran later : Ran) (now next : S) (written more : Option (List ℕ)) (out : List ℕ) → WrittenOf before done ran now written
      → Appends written more out → ((sofar : List ℕ) → Done done ran sofar now → Done other later (sofar ++ out) next) → WrittenOf before other later next more
  more_written None done other ran later now next written more out h w f = tt
  more_written (Some b) done other ran later now next None more out h w f = absurd h
  more_written (Some b) done other ran later now next (Some v) None out h w f = absurd w
  more_written (Some b) done other ran later now next (Some v) (Some u) out h w f = record {
    out = h.out ++ out;
    is = w ∙ ap (λ l. l ++ out) h.is ∙ append_assoc b h.out out;
    carried = f h.out h.carried;
  }

  -- one more line is carried out
  pub chain_steps : (text before : Option (List ℕ)) (reads : ℕ) (ran later : Ran) (now next : S) (left rest written more : Option (List ℕ)) (most : ℕ) (line : List ℕ)
      → ChainProgress text before reads ran now left written → ReadsLineOf most left true line rest
      → IfSome left (λ l. (out : List ℕ) × Appends written more out
      × ((done : List (List ℕ)) (sofar : List ℕ) → length done ≡ reads → Done done ran sofar now → Done (done ++ first_line l ∷ []) later (sofar ++ out) next))
      → ChainProgress text before (reads + 1) later next rest more
  chain_steps None before reads ran later now next left rest written more most line h r s = tt
  chain_steps (Some text) before reads ran later now next None rest written more most line h r s = absurd h
  chain_steps (Some text) before reads ran later now next (Some left) None written more most line h r s = absurd r
  chain_steps (Some text) before reads ran later now next (Some left) (Some rest) written more most line h r s = (
    h.0 ++ first_line left ∷ [],
    one_more text left rest reads h.0 h.1 r.0 r.2,
    more_written before h.0 (h.0 ++ first_line left ∷ []) ran later now next written more s.0 h.2 s.1 (λ sofar a. s.2 h.0 sofar h.1.count a),
  )

  concludes_written : (P : List (List ℕ) → List ℕ → Type 0) (all : List (List ℕ)) (before : Option (List ℕ)) (done : List (List ℕ)) (ran : Ran) (now : S) (written more : Option (List ℕ)) (out : List ℕ)
      → WrittenOf before done ran now written → Appends written more out → ((sofar : List ℕ) → Done done ran sofar now → P all (sofar ++ out))
      → IfSome before (λ b. (whole : List ℕ) × P all whole × (more ≡ Some (b ++ whole)))
  concludes_written P all None done ran now written more out h w f = tt
  concludes_written P all (Some b) done ran now None more out h w f = absurd h
  concludes_written P all (Some b) done ran now (Some v) None out h w f = absurd w
  concludes_written P all (Some b) done ran now (Some v) (Some u) out h w f = (h.out ++ out, f h.out h.carried, ap Some (w ∙ ap (λ l. l ++ out) h.is ∙ append_assoc b h.out out))

  -- what holds of all lines and of all that is written, at an end of the run
  pub chain_concludes : (P : List (List ℕ) → List ℕ → Type 0) (text before : Option (List ℕ)) (reads : ℕ) (ran : Ran) (now : S) (left written more : Option (List ℕ))
      → ChainProgress text before reads ran now left written
      → IfSome left (λ l. (out : List ℕ) × Appends written more out
      × ((done : List (List ℕ)) (sofar : List ℕ) → length done ≡ reads → Done done ran sofar now → P (done ++ lines l) (sofar ++ out)))
      → IfSome text (λ t. IfSome before (λ b. (whole : List ℕ) × P (lines t) whole × (more ≡ Some (b ++ whole))))
  chain_concludes P None before reads ran now left written more h s = tt
  chain_concludes P (Some text) before reads ran now None written more h s = absurd h
  chain_concludes P (Some text) before reads ran now (Some left) written more h s =
      concludes_written P (lines text) before h.0 ran now written more s.0 h.2 s.1
      (λ sofar a. subst (λ ls. P ls (sofar ++ s.0)) (sym (all_lines text left reads h.0 h.1)) (s.2 h.0 sofar h.1.count a))

  stops_written : (tail : List ℕ → List ℕ) (fault : RunFault) (text : List ℕ) (before : Option (List ℕ)) (done : List (List ℕ)) (ran : Ran) (now : S) (written more : Option (List ℕ)) (whole part left : List ℕ)
      → WrittenOf before done ran now written → StopsAfter fault text whole part left → lines whole ≡ done → Appends written more (tail part)
      → IfSome before (λ b. (whole part rest out : List ℕ) × (ran : Ran) × StopsAfter fault text whole part rest × (Some left ≡ Some rest)
      × Done (lines whole) ran out now × (more ≡ Some (b ++ (out ++ tail part))))
  stops_written tail fault text None done ran now written more whole part left h s e w = tt
  stops_written tail fault text (Some b) done ran now None more whole part left h s e w = absurd h
  stops_written tail fault text (Some b) done ran now (Some v) None whole part left h s e w = absurd w
  stops_written tail fault text (Some b) done ran now (Some v) (Some u) whole part left h s e w = (
    whole,
    part,
    left,
    h.out,
    ran,
    s,
    refl,
    subst (λ ls. Done ls ran h.out now) (sym e) h.carried,
    ap Some (w ∙ ap (λ l. l ++ tail part) h.is ∙ append_assoc b h.out (tail part)),
  )

  -- what stopped the reading
  pub chain_stops : (tail : List ℕ → List ℕ) (fault : RunFault) (text before : Option (List ℕ)) (reads : ℕ) (ran : Ran) (now : S) (left rest written more : Option (List ℕ)) (part : List ℕ)
      → ChainProgress text before reads ran now left written → Consumes left rest part → All (λ b. b ≢ 10) part → Appends written more (tail part)
      → (fault ≡ TooManyReads → (reads ≡ most_reads) × (part ≡ []) × IfSome rest (λ l. l ≢ []))
      → IfSome text (λ t. IfSome before (λ b. (whole part left out : List ℕ) × (ran : Ran) × StopsAfter fault t whole part left × (rest ≡ Some left)
      × Done (lines whole) ran out now × (more ≡ Some (b ++ (out ++ tail part)))))
  chain_stops tail fault None before reads ran now left rest written more part h c plain w limit = tt
  chain_stops tail fault (Some text) before reads ran now None rest written more part h c plain w limit = absurd h
  chain_stops tail fault (Some text) before reads ran now (Some left) None written more part h c plain w limit = absurd c
  chain_stops tail fault (Some text) before reads ran now (Some left) (Some rest) written more part h c plain w limit =
      let read = h.1 in
      let whole : lines read.front ≡ h.0 = front_lines text left reads h.0 read in
      stops_written tail fault text before h.0 ran now written more read.front part rest h.2
      (record {
        is = read.cut ∙ ap (λ l. read.front ++ l) c ∙ sym (append_assoc read.front part rest);
        ended = subst (λ l. (l ≡ []) ⊎ IsEmptyOrEndsWith read.front 10) c read.ended;
        within = plain;
        limit = λ e. let l = limit e in (ap length whole ∙ read.count ∙ l.0, l.1, l.2);
      })
      whole w

  -- how much is read
  pub chain_few : (text before : Option (List ℕ)) (reads : ℕ) (ran : Ran) (now : S) (left rest written : Option (List ℕ)) → ChainProgress text before reads ran now left written
      → Keeps left rest → reads ≤ most_reads → ReadsFewLines text rest
  chain_few None before reads ran now left rest written h k within = ([], tt, omega arith)
  chain_few (Some text) before reads ran now None rest written h k within = absurd h
  chain_few (Some text) before reads ran now (Some left) None written h k within = absurd k
  chain_few (Some text) before reads ran now (Some left) (Some rest) written h k within =
      let read = h.1 in (read.front, read.cut ∙ ap (λ l. read.front ++ l) (sym k), omega (arith, within, read.count, ap length (front_lines text left reads h.0 read)))

  pub chain_few_part : (text before : Option (List ℕ)) (reads : ℕ) (ran : Ran) (now : S) (left rest written : Option (List ℕ)) (part : List ℕ) → ChainProgress text before reads ran now left written
      → Consumes left rest part → All (λ b. b ≢ 10) part → reads < most_reads → ReadsFewLines text rest
  chain_few_part None before reads ran now left rest written part h c plain within = ([], tt, omega arith)
  chain_few_part (Some text) before reads ran now None rest written part h c plain within = absurd h
  chain_few_part (Some text) before reads ran now (Some left) None written part h c plain within = absurd c
  chain_few_part (Some text) before reads ran now (Some left) (Some rest) written part h c plain within =
      let read = h.1 in (
        read.front ++ part,
        read.cut ∙ ap (λ l. read.front ++ l) c ∙ sym (append_assoc read.front part rest),
        omega (arith, within, front_and_part text left reads h.0 read part rest c plain),
      )

  pub chain_few_line : (text before : Option (List ℕ)) (reads : ℕ) (ran : Ran) (now : S) (left rest written : Option (List ℕ)) (most : ℕ) (line : List ℕ) → ChainProgress text before reads ran now left written
      → ReadsLineOf most left true line rest → reads < most_reads → ReadsFewLines text rest
  chain_few_line None before reads ran now left rest written most line h r within = ([], tt, omega arith)
  chain_few_line (Some text) before reads ran now None rest written most line h r within = absurd h
  chain_few_line (Some text) before reads ran now (Some left) None written most line h r within = absurd r
  chain_few_line (Some text) before reads ran now (Some left) (Some rest) written most line h r within =
      let read = one_more text left rest reads h.0 h.1 r.0 r.2 in
      (read.front, read.cut, omega (arith, within, read.count, ap length (front_lines text rest (reads + 1) (h.0 ++ first_line left ∷ []) read)))
