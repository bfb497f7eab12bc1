-- Some runs print all in front of the line at fault.
use Rattle.std.proofs.Common.{◌≡◌, ◌≢◌, ◌⊎◌, ◌<◌, ◌≤◌, ℕ, zero, suc, ◌+◌, List, [], ◌∷◌, ◌++◌, Bool, Option, None, length, inl, inr, refl, sym, ap, ap₂, subst, ◌∙◌, append-nil, append_assoc, zero-lt-suc, arith, get_or, cond, ne_eqb, suc-le-suc}
use Rattle.json_text.specs.Fault.{Fails as FailsToRead}
use Rattle.json_text.specs.declared.fault.JsonFault.TheVariants.{Memory}
use Rattle.json_text.specs.declared.fault.JsonFault.{JsonFault}
use Rattle.node_runs.specs.DoneLines.{malformed_line}
use Rattle.node_runs.specs.SetupLines.{numbered_setup_in}
use Rattle.ocpi_text.specs.Text.{key}
use Rattle.ocpi_types.specs.Setups.{party_of}
use Rattle.ocpi_types.specs.declared.setup.Node.{Node}
use Rattle.replays.proofs.Blame.{AtFeed, EndsLine, end_behind, Front, NoLine, feeds_join, front_is, front_of}
use Rattle.replays.proofs.Known.{IsKnown, front_of as run_front}
use Rattle.replays.proofs.Led.{Before, Reached, printed_to}
use Rattle.replays.proofs.Lines.{Counting, left_by, one_letter, printed_before}
use Rattle.replays.proofs.Lists.{joined_is_none}
use Rattle.replays.proofs.Sound.{IsText, first_is_line, has_text, opens_so}
use Rattle.replays.specs.Cutting.{ArePrintedBy, HasNoEmptyLine, feeds}
use Rattle.replays.specs.Fronts.{feeds_of, lines_front}
use Rattle.replays.specs.Happenings.{Happening, Opened}
use Rattle.replays.specs.LineTurns.{Held, IsLine, Running, echo_of}
use Rattle.replays.specs.Openings.{Opens, begun, opened_by, opening_of}
use Rattle.replays.specs.Printed as printed
use Rattle.replays.specs.Printed.{GoesOn, Prints}
use Rattle.replays.specs.Reading as read
use Rattle.replays.specs.Reading.{HasSetup, IsBehind, IsFirstLine, IsOther, LinesDiffer, MayBe, Reader, RunRefused, WasOpened, begun_over}
use Rattle.replays.specs.Walks.{Walks, no_line, one_line}

-- a text that is the front of a run has no empty line
prefix_plain : (bytes p q : List ℕ) → bytes ≡ p ++ q → HasNoEmptyLine bytes → HasNoEmptyLine p
prefix_plain bytes p q is plain before after e =
    plain before (after ++ q) (is ∙ ap (λ l. l ++ q) e ∙ append_assoc before (10 ∷ 10 ∷ after) q)

-- what a walk went through ends with a line feed
walk_ends : (Counted : Running → Type 0) (counting : Counting Counted) (first now : Running) (text : List ℕ) (told : List Happening) → Walks first text told now → EndsLine text
walk_ends Counted counting first now text told no_line = NoLine
walk_ends Counted counting first now text told (one_line {text = before} {now = there} walks line fed out entered did next gives) =
    let c = counting.fed there line out entered did next gives in
    subst EndsLine (append_assoc (before ++ echo_of line) c.0 (10 ∷ []) ∙ append_assoc before (echo_of line) (c.0 ++ 10 ∷ []) ∙ ap (λ l. before ++ (echo_of line ++ l)) (sym c.1)) (AtFeed ((before ++ echo_of line) ++ c.0))

-- joined behind a line feed it ends so too
ends_behind : (xs ys : List ℕ) → EndsLine ys → EndsLine (xs ++ 10 ∷ ys)
ends_behind xs ys NoLine = AtFeed xs
ends_behind xs ys (AtFeed before) = subst EndsLine (append_assoc xs (10 ∷ before) (10 ∷ [])) (AtFeed (xs ++ 10 ∷ before))

pub no_feed_in : (text : List ℕ) → ((k d : ℕ) → k < length text → get_or text k d ≢ 10) → feeds_of text ≡ 0
unfolding feeds_of
no_feed_in [] plain = refl
no_feed_in (c ∷ text) plain =
    ap (λ b. cond b (suc (feeds_of text)) (feeds_of text)) (ne_eqb c 10 (plain 0 0 (zero-lt-suc (length text)))) ∙ no_feed_in text (λ k d lt. plain (suc k) d (suc-le-suc lt))

-- The front of a run that a run prints.
record Shown (start : Held) (told : List Happening) (held : Held) (bytes : List ℕ) (w : List ℕ) (lines : ℕ) : Type 0 where
  front : List ℕ
  rest : List ℕ
  is : bytes ≡ front ++ rest
  ends : EndsLine front
  count : feeds_of front ≡ lines
  said : List Happening
  left : Held
  prints : Prints w held front said left

module _ (start : Held) (text bytes more : List ℕ) (count : ℕ) (t : IsText bytes) (enough : (more ≡ []) ⊎ (2 ≤ count)) (consumed : List ℕ) (parts : text ≡ consumed ++ (bytes ++ (feeds count ++ more)))
    (w : List ℕ) where
  shown : (told : List Happening) (held : Held) → Reached (Prints w) start (10 ∷ 10 ∷ text) (bytes ++ (feeds count ++ more)) told held
      → (lines : ℕ) → Shown start told held bytes w lines → (all : List Happening) × ArePrintedBy (Prints w) start (10 ∷ 10 ∷ lines_front (feeds_of consumed + lines) text) all
  shown told held reached lines s = (told ++ s.said, subst (λ l. ArePrintedBy (Prints w) start l (told ++ s.said)) (sym whole_is) printed)
    where
      tail : List ℕ
      tail = s.rest ++ (feeds count ++ more)

      b : Before (Prints w) start (10 ∷ 10 ∷ text) (s.front ++ tail) told held
      b = subst (λ l. Before (Prints w) start (10 ∷ 10 ∷ text) l told held) (ap (λ l. l ++ (feeds count ++ more)) s.is ∙ append_assoc s.front s.rest (feeds count ++ more))
          (run_front start (10 ∷ 10 ∷ text) bytes more count t enough told held w reached)

      printed : ArePrintedBy (Prints w) start (b.text ++ 10 ∷ 10 ∷ s.front) (told ++ s.said)
      printed = printed_to (Prints w) start (10 ∷ 10 ∷ text) s.front tail told s.said held s.left b s.prints (prefix_plain bytes s.front s.rest s.is t.plain)

      f : Front text (b.text ++ 10 ∷ 10 ∷ s.front) tail
      f = front_of text b.text s.front tail (b.is ∙ sym (append_assoc b.text (10 ∷ 10 ∷ s.front) tail))

      ends : EndsLine f.before
      ends = end_behind 10 f.before (end_behind 10 (10 ∷ f.before) (subst EndsLine (append_assoc b.text (10 ∷ []) (10 ∷ s.front) ∙ sym f.whole) (ends_behind (b.text ++ 10 ∷ []) s.front s.ends)))

      number : feeds_of f.before ≡ feeds_of consumed + lines
      number =
          let one = ap feeds_of (sym f.is ∙ parts ∙ ap (λ l. consumed ++ l) (ap (λ l. l ++ (feeds count ++ more)) s.is ∙ append_assoc s.front s.rest (feeds count ++ more))) in
          let a = feeds_join f.before tail in
          let c = feeds_join consumed (s.front ++ tail) in
          let d = feeds_join s.front tail in
          let e = s.count in
          omega (arith, one, a, c, d, e)

      whole_is : 10 ∷ 10 ∷ lines_front (feeds_of consumed + lines) text ≡ b.text ++ 10 ∷ 10 ∷ s.front
      whole_is = ap (λ l. 10 ∷ 10 ∷ l) (ap₂ lines_front (sym number) f.is ∙ front_is f.before tail ends) ∙ f.whole

  module _ (Counted : Running → Type 0) (counting : Counting Counted) (r : Reader) (k : IsKnown start (10 ∷ 10 ∷ text) (bytes ++ (feeds count ++ more)) r) (may : MayBe r w)
      (malformed_ends : (fault : JsonFault) → (body : List ℕ) × (malformed_line 1 None fault ≡ body ++ 10 ∷ []) × (feeds_of body ≡ 0)) where
    one_feed : (line : List ℕ) → feeds_of line ≡ 0 → feeds_of (line ++ 10 ∷ []) ≡ 1
    unfolding feeds_of
    one_feed line none = let a = feeds_join line (10 ∷ []) in omega (arith, none, a)

    nothing_shown : (told : List Happening) (held : Held) → Shown start told held bytes w 0
    unfolding feeds_of
    nothing_shown told held = record {
      front = [];
      rest = bytes;
      is = refl;
      ends = NoLine;
      count = refl;
      said = [];
      left = held;
      prints = printed.NotBegun (65 ∷ []) one_letter [] (65 ∷ 10 ∷ []) refl;
    }

    first_shown : (told : List Happening) (held : Held) (line behind : List ℕ) → IsFirstLine bytes line behind → Shown start told held bytes w 1
    first_shown told held line behind f = record {
      front = line ++ 10 ∷ [];
      rest = behind;
      is = f.is ∙ sym (append_assoc line (10 ∷ []) behind);
      ends = AtFeed line;
      count = one_feed line (no_feed_in line f.plain);
      said = [];
      left = held;
      prints = printed.NotBegun line (first_is_line bytes line behind t f) (line ++ 10 ∷ []) [] (sym (append-nil (line ++ 10 ∷ [])));
    }

    fault_shown : (told : List Happening) (held : Held) (line behind : List ℕ) → IsFirstLine bytes line behind → (fault : JsonFault) → FailsToRead fault (numbered_setup_in line) → fault ≢ Memory
        → (after : List ℕ) → behind ≡ malformed_line 1 None fault ++ after → Shown start told held bytes w 2
    fault_shown told held line behind f fault fails real after is =
        let m = malformed_ends fault in
        record {
          front = (line ++ 10 ∷ []) ++ malformed_line 1 None fault;
          rest = after;
          is = f.is ∙ ap (λ l. line ++ 10 ∷ l) is ∙ sym (append_assoc line (10 ∷ []) (malformed_line 1 None fault ++ after)) ∙ sym (append_assoc (line ++ 10 ∷ []) (malformed_line 1 None fault) after);
          ends = subst EndsLine (append_assoc (line ++ 10 ∷ []) m.0 (10 ∷ []) ∙ ap (λ l. (line ++ 10 ∷ []) ++ l) (sym m.1)) (AtFeed ((line ++ 10 ∷ []) ++ m.0));
          count =
              let a = feeds_join (line ++ 10 ∷ []) (malformed_line 1 None fault) in
              let b = one_feed line (no_feed_in line f.plain) in
              let c = ap feeds_of m.1 in
              let d = one_feed m.0 m.2 in
              omega (arith, a, b, c, d);
          said = [];
          left = held;
          prints = printed.NoSetup line (first_is_line bytes line behind t f) fault fails real (malformed_line 1 None fault) [] (sym (append-nil (malformed_line 1 None fault)))
              (subst (λ l. 0 < length l) (sym m.1) (has_text (m.0 ++ 10 ∷ []) (λ none. joined_is_none m.0 10 [] none)));
        }

    lines_shown : (told : List Happening) (held : Held) (line behind piece rest : List ℕ) (setup : List Node) (base : Option ℕ) (closed : Bool) → HasSetup bytes line behind setup base piece closed rest
        → (way : WasOpened r setup piece held) → key (party_of way.member) ≡ key w → (d : LinesDiffer (begun_over held way.member way.state base) rest)
        → Shown start told held bytes w (2 + feeds_of d.text)
    lines_shown told held line behind piece rest setup base closed h way same d = of closed rest h.is refl
      where
        fed : IsLine line
        fed = first_is_line bytes line behind t h.first

        o : Opens w held line
        o = opens_so w setup base line h.reads held way.member way.within same way.state way.opens

        opening_is : opening_of o ≡ piece ++ 10 ∷ []
        opening_is = way.tells

        goes : GoesOn (begun o) d.text d.told (left_by d.now)
        goes = printed_before (begun_over held way.member way.state base) rest d

        after : List ℕ
        after = echo_of d.line ++ d.more

        front : List ℕ
        front = echo_of line ++ (opening_of o ++ d.text)

        ends_so : EndsLine front
        ends_so =
            subst EndsLine (append_assoc (echo_of line) piece (10 ∷ d.text) ∙ ap (λ l. echo_of line ++ l) (sym (append_assoc piece (10 ∷ []) d.text) ∙ ap (λ l. l ++ d.text) (sym opening_is)))
            (ends_behind (echo_of line ++ piece) d.text (walk_ends Counted counting (begun_over held way.member way.state base) d.now d.text d.told d.walks))

        count_so : feeds_of front ≡ 2 + feeds_of d.text
        count_so =
            let a = feeds_join (echo_of line) (opening_of o ++ d.text) in
            let b = one_feed line (no_feed_in line h.first.plain) in
            let c = feeds_join (opening_of o) d.text in
            let e = ap feeds_of opening_is in
            let f = one_feed piece (no_feed_in piece h.plain) in
            omega (arith, a, b, c, e, f)

        of : (c : Bool) (tail : List ℕ) → IsBehind behind piece c tail → rest ≡ tail → Shown start told held bytes w (2 + feeds_of d.text)
        of c tail (read.Line x is) e = record {
          front = front;
          rest = after;
          is = h.first.is ∙ ap (λ l. line ++ 10 ∷ l) (is ∙ ap (λ l. piece ++ 10 ∷ l) (sym e ∙ d.is) ∙ sym (append_assoc piece (10 ∷ []) (d.text ++ after)) ∙ sym (append_assoc (piece ++ 10 ∷ []) d.text after) ∙ ap (λ l. (l ++ d.text) ++ after) (sym opening_is))
              ∙ sym (append_assoc line (10 ∷ []) ((opening_of o ++ d.text) ++ after)) ∙ sym (append_assoc (echo_of line) (opening_of o ++ d.text) after);
          ends = ends_so;
          count = count_so;
          said = Opened (opened_by o) ∷ d.told;
          left = left_by d.now;
          prints = printed.Begun line fed o d.text d.told (left_by d.now) goes;
        }
        of c tail (read.Beginning is) e =
            joined_is_none (d.text ++ d.line) 10 d.more
            (append_assoc d.text d.line (10 ∷ d.more) ∙ ap (λ l. d.text ++ l) (sym (append_assoc d.line (10 ∷ []) d.more)) ∙ sym d.is ∙ e)

module _ (start : Held) (text bytes more : List ℕ) (count : ℕ) (t : IsText bytes) (enough : (more ≡ []) ⊎ (2 ≤ count)) (consumed : List ℕ) (parts : text ≡ consumed ++ (bytes ++ (feeds count ++ more)))
    (Counted : Running → Type 0) (counting : Counting Counted) (r : Reader) (k : IsKnown start (10 ∷ 10 ∷ text) (bytes ++ (feeds count ++ more)) r)
    (malformed_ends : (fault : JsonFault) → (body : List ℕ) × (malformed_line 1 None fault ≡ body ++ 10 ∷ []) × (feeds_of body ≡ 0)) (someone : (w : List ℕ) × MayBe r w) where
  -- of some runs, all in front of that line
  pub record IsShown (n : ℕ) : Type 0 where
    pub w : List ℕ
    pub other : IsOther r.earlier w
    pub told : List Happening
    pub printed_so : ArePrintedBy (Prints w) start (10 ∷ 10 ∷ lines_front n text) told

  by_lines : (w : List ℕ) → MayBe r w → (lines n : ℕ) → feeds_of consumed + lines ≡ n
      → ((all : List Happening) × ArePrintedBy (Prints w) start (10 ∷ 10 ∷ lines_front (feeds_of consumed + lines) text) all) → IsShown n
  by_lines w may lines n is x = record {
    w = w;
    other = may.0;
    told = x.0;
    printed_so = subst (λ m. ArePrintedBy (Prints w) start (10 ∷ 10 ∷ lines_front m text) x.0) is x.1;
  }

  in_front : (w : List ℕ) → (may : MayBe r w) → (lines n : ℕ) → feeds_of consumed + lines ≡ n → Shown start k.told r.story.held bytes w lines → IsShown n
  in_front w may lines n is s = by_lines w may lines n is (shown start text bytes more count t enough consumed parts w k.told r.story.held (k.reached w may) lines s)

  pub blamed : (number at n : ℕ) → number ≡ suc (feeds_of consumed) → RunRefused r bytes number at → at ≡ suc n → IsShown n
  blamed number at n first (read.SaysElse line behind f fault fails real none place) is = of place
    where
      w : List ℕ
      w = someone.0

      of : (at ≡ number) ⊎ (at ≡ suc number) ⊎ ((at ≡ suc (suc number)) × ((after : List ℕ) × (behind ≡ malformed_line 1 None fault ++ after))) → IsShown n
      of (inl e) =
          in_front w someone.1 0 n (omega (arith, e, is, first)) (nothing_shown start text bytes more count t enough consumed parts w Counted counting r k someone.1 malformed_ends k.told r.story.held)
      of (inr (inl e)) =
          in_front w someone.1 1 n (omega (arith, e, is, first)) (first_shown start text bytes more count t enough consumed parts w Counted counting r k someone.1 malformed_ends k.told r.story.held line behind f)
      of (inr (inr (e, (after, behind_is)))) =
          in_front w someone.1 2 n (omega (arith, e, is, first)) (fault_shown start text bytes more count t enough consumed parts w Counted counting r k someone.1 malformed_ends k.told r.story.held line behind f fault fails real after behind_is)
  blamed number at n first (read.NotOpened {line = line} {behind = behind} h none none_too place) is = of place
    where
      w : List ℕ
      w = someone.0

      of : (at ≡ number) ⊎ (at ≡ suc number) → IsShown n
      of (inl e) =
          in_front w someone.1 0 n (omega (arith, e, is, first)) (nothing_shown start text bytes more count t enough consumed parts w Counted counting r k someone.1 malformed_ends k.told r.story.held)
      of (inr e) =
          in_front w someone.1 1 n (omega (arith, e, is, first)) (first_shown start text bytes more count t enough consumed parts w Counted counting r k someone.1 malformed_ends k.told r.story.held line behind h.first)
  blamed number at n first (read.DiffersBefore {line = line} {behind = behind} {piece = piece} {rest = rest} {setup = setup} {base = base} {closed = closed} h way d place) is =
      let w = party_of way.member in
      in_front w way.may (2 + feeds_of d.text) n (omega (arith, place, is, first))
      (lines_shown start text bytes more count t enough consumed parts w Counted counting r k way.may malformed_ends k.told r.story.held line behind piece rest setup base closed h way refl d)
  blamed number at n first (read.DiffersAfter {line = line} {behind = behind} {piece = piece} {rest = rest} {setup = setup} {base = base} {closed = closed} h doubt there way d place) is =
      let w = party_of way.member in
      let x = k.doubted doubt there in
      by_lines w way.may (2 + feeds_of d.text) n (omega (arith, place, is, first))
      (shown start text bytes more count t enough consumed parts w (k.told ++ x.later) doubt.held (x.reached w way.may) (2 + feeds_of d.text)
      (lines_shown start text bytes more count t enough consumed parts w Counted counting r k way.may malformed_ends (k.told ++ x.later) doubt.held line behind piece rest setup base closed h way refl d))
