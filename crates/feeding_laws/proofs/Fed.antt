-- What runs of `node` leave, and what they write, that are fed lines by their numbers.
use Rattle.std.proofs.Common.{◌≡◌, ◌≢◌, ◌++◌, ◌∙◌, ◌+◌, ◌<◌, ◌≤◌, ℕ, suc, Bool, false, true, List, [], ◌∷◌, Option, Some, Ok, refl, sym, ap, subst, arith, length, length-append, append_assoc, append-nil, take, take_all}
use Rattle.std.specs.Prelude.{Contains}
use Rattle.std.proofs.lemmas.List.Concat.{flat_map-append}
use Rattle.std.proofs.lemmas.List.Elements.{Contains-append_left, Contains-append_right}
use Rattle.tables.proofs.Elements.{in_none}
use Rattle.line_runs.specs.Numbered.{AreNumbered, echo_of, empty_line, none_numbered, refused_line, taken_line}
use Rattle.line_runs.specs.declared.outcome.Ran.{Ran as How}
use Rattle.line_runs.specs.declared.run.Turn.{Turn}
use Rattle.line_runs.specs.declared.run.Turn.TheVariants.{Ended, Refused, Taken}
use Rattle.node_keepers.specs.Opening.{Source}
use Rattle.node_runs.specs.NodeAnswers as answers
use Rattle.node_runs.specs.NodeAnswers.{BehindTurn, LineTurn, NodeLineGives, NodeTurn, next_stage}
use Rattle.node_runs.specs.NodeHistories.{kept_line, some_lines}
use Rattle.node_runs.specs.NodeTurns as turns
use Rattle.node_runs.specs.NodeTurns.{Begins, IsMember, OpensNode, Running, SetupTurn, Stage, number_from, opening}
use Rattle.node_runs.specs.NumberedRuns.{Carries, Changed, IsKnown, IsRead, Numbered, Takes, all_done, none_carried, none_changed, one_carried, one_changed, one_quiet}
use Rattle.node_runs.specs.SetupLines.{numbered_setup_in}
use Rattle.node_store.specs.Contents.{line_of}
use Rattle.node_store.proofs.Numbered.{numbers_are_no_rows}
use Rattle.ocpi_text.specs.Whole.{max_whole}
use Rattle.ocpi_types.specs.Setups.{party_of}
use Rattle.ocpi_types.specs.declared.setup.Node.{Node}
use Rattle.stored_nodes.specs.Keepers.{Commits, IsSettled, Keeper, Nothing, Taken as TakenBy}
use Rattle.stored_nodes.specs.Stored.{Stored}
use Rattle.stored_nodes.specs.Transactions.{changes_of_each}
use Rattle.world_steps.specs.Steps.{NodeEvent as Deed}
use Rattle.feeding_laws.specs.Fed.{Answer, Beginning, Beyond, Echo, IsPiece, NoSetup, Opening, TellsTo, nothing_told, piece_told}

-- ---- what was done

-- all that is among these is among those
abbrev pub Under : List Deed → List Deed → Type 0
Under xs ys = (x : Deed) → Contains xs x → Contains ys x

pub done_on : (xs : List Numbered) (number : ℕ) (did : List Deed) → all_done (xs ++ (number, did) ∷ []) ≡ all_done xs ++ did
done_on xs number did = flat_map-append (λ (y : Numbered). y.1) xs ((number, did) ∷ []) ∙ ap (λ (l : List Deed). all_done xs ++ l) (append-nil did)

done_before : (xs : List Numbered) (number : ℕ) (did : List Deed) → Under (all_done xs) (all_done (xs ++ (number, did) ∷ []))
done_before xs number did x within = subst (λ (l : List Deed). Contains l x) (sym (done_on xs number did)) (Contains-append_left (all_done xs) did x within)

done_last : (xs : List Numbered) (number : ℕ) (did : List Deed) → Under did (all_done (xs ++ (number, did) ∷ []))
done_last xs number did x within = subst (λ (l : List Deed). Contains l x) (sym (done_on xs number did)) (Contains-append_right (all_done xs) did x within)

-- ---- what is written

silent : (echo : Bool) → echo_of echo [] ≡ []
silent false = refl
silent true = refl

module _ {most : ℕ} {echo : Bool} where
  pub piece_more : {d e : List Deed} {a b : ℕ} {piece : List ℕ} → Under d e → a ≤ b → IsPiece echo d a most piece → IsPiece echo e b most piece
  piece_more on up Beginning = Beginning
  piece_more on up (Echo line) = Echo line
  piece_more on up (NoSetup number low fault) = NoSetup number low fault
  piece_more on up (Opening number party rows serial) = Opening number party rows serial
  piece_more on up (Answer party known number line now next out did low of takes) = Answer party known number line now next out did (λ fed. let l = low fed in omega (arith, up, l)) (λ x within. on x (of x within)) takes
  piece_more on up (Beyond low) = Beyond (λ fed. let l = low fed in omega (arith, up, l))

  pub tells_more : {d e : List Deed} {a b : ℕ} {text : List ℕ} → Under d e → a ≤ b → TellsTo echo d a most text → TellsTo echo e b most text
  tells_more on up nothing_told = nothing_told
  tells_more on up (piece_told before is n) = piece_told (tells_more on up before) (piece_more on up is) n

  -- no line behind those was fed to its end
  piece_within : {d e : List Deed} {a b : ℕ} {piece : List ℕ} → Under d e → most ≤ b → IsPiece echo d a most piece → IsPiece echo e b most piece
  piece_within on all Beginning = Beginning
  piece_within on all (Echo line) = Echo line
  piece_within on all (NoSetup number low fault) = NoSetup number low fault
  piece_within on all (Opening number party rows serial) = Opening number party rows serial
  piece_within on all (Answer party known number line now next out did low of takes) = Answer party known number line now next out did (λ fed. omega (arith, all, fed)) (λ x within. on x (of x within)) takes
  piece_within on all (Beyond low) = Beyond (λ fed. omega (arith, all, fed))

  pub tells_within : {d e : List Deed} {a b : ℕ} {text : List ℕ} → Under d e → most ≤ b → TellsTo echo d a most text → TellsTo echo e b most text
  tells_within on all nothing_told = nothing_told
  tells_within on all (piece_told before is n) = piece_told (tells_within on all before) (piece_within on all is) n

  -- a whole piece more
  pub tells_on : {done : List Deed} {last : ℕ} {text piece : List ℕ} → TellsTo echo done last most text → IsPiece echo done last most piece → TellsTo echo done last most (text ++ piece)
  tells_on {done = done} {last = last} {text = text} {piece = piece} before is =
      subst (λ (l : List ℕ). TellsTo echo done last most (text ++ l)) (take_all (length piece) piece (omega arith)) (piece_told before is (length piece))

  pub tells_join : {done : List Deed} {last : ℕ} {xs ys : List ℕ} → TellsTo echo done last most xs → TellsTo echo done last most ys → TellsTo echo done last most (xs ++ ys)
  tells_join {done = done} {last = last} {xs = xs} one nothing_told = subst (TellsTo echo done last most) (sym (append-nil xs)) one
  tells_join {done = done} {last = last} {xs = xs} one (piece_told {text = text} {piece = piece} before is n) =
      subst (TellsTo echo done last most) (append_assoc xs text (take n piece)) (piece_told (tells_join one before) is n)

  -- nothing is written
  pub no_piece : {done : List Deed} {last : ℕ} → IsPiece echo done last most []
  no_piece {done = done} {last = last} = subst (λ (l : List ℕ). IsPiece echo done last most l) (silent echo) (Echo [])

  -- the echo of a line, and some of what became of it
  pub line_tells : {done : List Deed} {last : ℕ} {text more : List ℕ} (line : List ℕ) (n : ℕ) → TellsTo echo done last most text → IsPiece echo done last most more
      → TellsTo echo done last most (text ++ (echo_of echo line ++ take n more))
  line_tells {done = done} {last = last} {text = text} {more = more} line n before is =
      subst (TellsTo echo done last most) (append_assoc text (echo_of echo line) (take n more)) (piece_told (tells_on before (Echo line)) is n)

-- ---- lines that hold something

pub lines_on : (all : List (List ℕ)) (line : List ℕ) → some_lines (all ++ line ∷ []) ≡ some_lines all ++ kept_line line
lines_on all line = flat_map-append kept_line all (line ∷ []) ∙ ap (λ (l : List (List ℕ)). some_lines all ++ l) (append-nil (kept_line line))

pub one_kept : (line : List ℕ) → 0 < length line → kept_line line ≡ line ∷ []
one_kept [] some = absurd (omega (arith, some))
one_kept (c ∷ cs) some = refl

-- as long as there are numbers, each line has one
pub no_others : (number : ℕ) (others : List (List ℕ)) → (others ≢ [] → number ≡ max_whole) → suc number ≤ max_whole → others ≡ []
no_others number [] beyond few = refl
no_others number (o ∷ os) beyond few = let is = beyond (λ e. absurd (cc e)) in absurd (omega (arith, is, few))

-- ---- the lines of a run so far

module _ {K : Type 0} (keeper : Keeper K) (source : Source K) (wanted : Option (List ℕ)) (opened : List ℕ) (echo : Bool) (most : ℕ) where
  -- the node runs, which was made of what its keeper had; the lines behind the setup came to it by their numbers
  pub record Going (setup : List Node) (base : Option ℕ) (first : List ℕ) (all : List (List ℕ)) (number known : ℕ) (now : Running K) : Type 0 where
    pub reads : numbered_setup_in first ≡ Ok (setup, base)
    pub member : Node
    pub asked : IsMember setup wanted member
    pub rows : ℕ
    pub last : ℕ
    pub begun : Stored K
    pub begins : Begins keeper source setup member rows last begun
    pub party : now.party ≡ party_of member
    pub settled : IsSettled keeper now.node.keep
    pub earlier : keeper.is_honest now.node.keep → keeper.is_honest begun.keep
    pub numbered : List (List ℕ)
    pub others : List (List ℕ)
    pub did : List Numbered
    pub carries : Carries (party_of member) last (number_from base last) begun.state numbered did now.node.state
    pub are : some_lines all ≡ first ∷ (numbered ++ others)
    pub counted : number ≡ number_from base last + length numbered
    pub beyond : others ≢ [] → number ≡ max_whole
    pub knows : known ≡ last
    pub changed : List ℕ
    pub last_change : ℕ
    pub changes : Changed last did changed last_change
    pub marked : keeper.is_honest now.node.keep → line_of (keeper.content now.node.keep) ≡ Some last_change

  pub data Comes (all : List (List ℕ)) (out : List ℕ) (s : Stage K) : Type 0 where
    Before : s ≡ opening wanted opened → some_lines all ≡ [] → out ≡ [] → Comes all out s
    Runs : (now : Running K) → s.running ≡ Some now → (setup : List Node) (base : Option ℕ) (first : List ℕ)
        → (g : Going setup base first all s.number s.known now) → TellsTo echo (all_done g.did) s.number most out → Comes all out s

  -- so it is behind a line more, for which this was done
  pub record Goes (setup : List Node) (base : Option ℕ) (first : List ℕ) (all : List (List ℕ)) (number known : ℕ) (now : Running K) (done did : List Deed) : Type 0 where
    pub going : Going setup base first all number known now
    pub before : Under done (all_done going.did)
    pub last_is : Under did (all_done going.did)

  pub settled_by : (line : Option ℕ) (did : List Deed) (before after : K) → Commits keeper line (changes_of_each did) before after → IsSettled keeper before → IsSettled keeper after
  settled_by line did before after (Nothing none same) settled = subst (IsSettled keeper) (sym same) settled
  settled_by line did before after (TakenBy some takes) settled = takes.settled

  honest_by : (line : Option ℕ) (did : List Deed) (before after : K) → Commits keeper line (changes_of_each did) before after → keeper.is_honest after → keeper.is_honest before
  honest_by line did before after (Nothing none same) honest = subst keeper.is_honest same honest
  honest_by line did before after (TakenBy some takes) honest = takes.earlier honest

  -- the node runs on behind the line, and this was written of it
  abbrev GoesTo : List Node → Option ℕ → List ℕ → List (List ℕ) → List Deed → ℕ → List ℕ → Stage K → Type 0
  GoesTo setup base first all done number more t =
      (next : Running K) × (t.running ≡ Some next) × (g : Going setup base first all t.number t.known next) × IsPiece echo (all_done g.did) t.number most more × (number ≤ t.number) × Under done (all_done g.did)

  module _ {setup : List Node} {base : Option ℕ} {first : List ℕ} where
    -- a line more, by the next number
    one_more : (all : List (List ℕ)) (line out : List ℕ) (did : List Deed) (number known : ℕ) (now next : Running K) → 0 < length line → suc number ≤ max_whole
        → Takes now.party known (suc number) line now.node.state out did next.node.state → next.party ≡ now.party
        → Commits keeper (Some (suc number)) (changes_of_each did) now.node.keep next.node.keep → (h : Going setup base first all number known now)
        → Goes setup base first (all ++ line ∷ []) (suc number) known next (all_done h.did) did
    one_more all line out did number known now next some few takes party commits h =
        let none : h.others ≡ [] = no_others number h.others h.beyond few in
        let at = number_from base h.last + length h.numbered in
        let m = mark commits in
        let takes_so : Takes (party_of h.member) h.last (suc at) line now.node.state out did next.node.state =
        subst (λ (n : ℕ). Takes (party_of h.member) h.last (suc n) line now.node.state out did next.node.state) h.counted
        (subst (λ (k : ℕ). Takes (party_of h.member) k (suc number) line now.node.state out did next.node.state) h.knows
        (subst (λ (p : List ℕ). Takes p known (suc number) line now.node.state out did next.node.state) h.party takes)) in
        record {
          before = done_before h.did (suc at) did;
          last_is = done_last h.did (suc at) did;
          going = record {
            reads = h.reads;
            member = h.member;
            asked = h.asked;
            rows = h.rows;
            last = h.last;
            begun = h.begun;
            begins = h.begins;
            party = party ∙ h.party;
            settled = settled_by (Some (suc number)) did now.node.keep next.node.keep commits h.settled;
            earlier = λ honest. h.earlier (honest_by (Some (suc number)) did now.node.keep next.node.keep commits honest);
            numbered = h.numbered ++ line ∷ [];
            others = [];
            did = h.did ++ (suc at, did) ∷ [];
            carries = one_carried h.carries takes_so;
            are = lines_on all line ∙ ap (λ (l : List (List ℕ)). some_lines all ++ l) (one_kept line some)
                ∙ ap (λ (l : List (List ℕ)). l ++ line ∷ []) (h.are ∙ ap (λ (l : List (List ℕ)). first ∷ (h.numbered ++ l)) none ∙ ap (λ (l : List (List ℕ)). first ∷ l) (append-nil h.numbered))
                ∙ ap (λ (l : List (List ℕ)). first ∷ l) (sym (append-nil (h.numbered ++ line ∷ [])));
            counted = omega (arith, h.counted, length-append h.numbered (line ∷ []));
            beyond = λ more. absurd (more refl);
            knows = h.knows;
            changed = m.0;
            last_change = m.1;
            changes = m.2;
            marked = m.3;
          };
        }
      where
        mark : Commits keeper (Some (suc number)) (changes_of_each did) now.node.keep next.node.keep
            → (changed : List ℕ) × (last : ℕ) × Changed h.last (h.did ++ (suc (number_from base h.last + length h.numbered), did) ∷ []) changed last
            × (keeper.is_honest next.node.keep → line_of (keeper.content next.node.keep) ≡ Some last)
        mark (Nothing none same) = (
          h.changed,
          h.last_change,
          one_quiet (suc (number_from base h.last + length h.numbered)) did h.changes none,
          λ honest. ap (λ (k : K). line_of (keeper.content k)) same ∙ h.marked (subst keeper.is_honest same honest),
        )
        mark (TakenBy some takes) =
            let at = suc (number_from base h.last + length h.numbered) in (
              h.changed ++ at ∷ [],
              at,
              one_changed at did h.changes some,
              λ honest.
                  ap line_of (takes.makes honest) ∙ numbers_are_no_rows.is _ (suc number) takes.is_line.0 takes.is_line.1
                  ∙ ap Some (ap suc h.counted),
            )

    -- a line for which there is no number
    one_beyond : (all : List (List ℕ)) (line : List ℕ) (number known : ℕ) (now : Running K) → 0 < length line → number ≡ max_whole
        → (h : Going setup base first all number known now) → Goes setup base first (all ++ line ∷ []) max_whole known now (all_done h.did) []
    one_beyond all line number known now some is h = record {
      before = λ x within. within;
      last_is = λ x within. absurd (in_none x within);
      going = record {
        reads = h.reads;
        member = h.member;
        asked = h.asked;
        rows = h.rows;
        last = h.last;
        begun = h.begun;
        begins = h.begins;
        party = h.party;
        settled = h.settled;
        earlier = h.earlier;
        numbered = h.numbered;
        others = h.others ++ line ∷ [];
        did = h.did;
        carries = h.carries;
        are = lines_on all line ∙ ap (λ (l : List (List ℕ)). some_lines all ++ l) (one_kept line some) ∙ ap (λ (l : List (List ℕ)). l ++ line ∷ []) h.are
            ∙ ap (λ (l : List (List ℕ)). first ∷ l) (append_assoc h.numbered h.others (line ∷ []));
        counted = sym is ∙ h.counted;
        beyond = λ more. refl;
        knows = h.knows;
        changed = h.changed;
        last_change = h.last_change;
        changes = h.changes;
        marked = h.marked;
      };
    }

    -- an empty line
    one_empty : (all : List (List ℕ)) (number known : ℕ) (now : Running K) → (h : Going setup base first all number known now) → Goes setup base first (all ++ [] ∷ []) number known now (all_done h.did) []
    one_empty all number known now h = record {
      before = λ x within. within;
      last_is = λ x within. absurd (in_none x within);
      going = record {
        reads = h.reads;
        member = h.member;
        asked = h.asked;
        rows = h.rows;
        last = h.last;
        begun = h.begun;
        begins = h.begins;
        party = h.party;
        settled = h.settled;
        earlier = h.earlier;
        numbered = h.numbered;
        others = h.others;
        did = h.did;
        carries = h.carries;
        are = lines_on all [] ∙ append-nil (some_lines all) ∙ h.are;
        counted = h.counted;
        beyond = h.beyond;
        knows = h.knows;
        changed = h.changed;
        last_change = h.last_change;
        changes = h.changes;
        marked = h.marked;
      };
    }

    -- a line that was read
    pub read_on : (all : List (List ℕ)) (s t : Stage K) (now next : Running K) (line : List ℕ) (turn : Turn) (more : List ℕ) → 0 < length line → suc s.known ≤ suc s.number → suc s.number ≤ max_whole
        → LineTurn keeper now (suc s.number) line turn more next → t ≡ next_stage s next (suc s.number) → (h : Going setup base first all s.number s.known now)
        → GoesTo setup base first (all ++ line ∷ []) (all_done h.did) s.number more t
    read_on all s t now next line turn more some new few is left h =
        let takes : Takes now.party s.known (suc s.number) line now.node.state more is.did next.node.state = IsRead new turn is.answers in
        let g = one_more all line more is.did s.number s.known now next some few takes is.party is.commits h in
        subst (GoesTo setup base first (all ++ line ∷ []) (all_done h.did) s.number more) (sym left) (
          next,
          refl,
          g.going,
          Answer now.party s.known (suc s.number) line now.node.state next.node.state more is.did (λ fed. omega arith) g.last_is takes,
          omega arith,
          g.before,
        )

    pub behind : (all : List (List ℕ)) (s t : Stage K) (now : Running K) (line : List ℕ) (turn : Turn) (more : List ℕ) → 0 < length line → (turn ≡ Ended → ⊥)
        → BehindTurn keeper now s line turn more t → (h : Going setup base first all s.number s.known now) → GoesTo setup base first (all ++ line ∷ []) (all_done h.did) s.number more t
    behind all s t now line turn more some on (answers.WasKnown is taken written left) h =
        let takes : Takes now.party s.known (suc s.number) line now.node.state more [] now.node.state = IsKnown is written refl refl in
        let g = one_more all line more [] s.number s.known now now some (omega (arith, is, h.knows, h.begins.starts.reopens.most)) takes refl (Nothing refl refl) h in
        subst (GoesTo setup base first (all ++ line ∷ []) (all_done h.did) s.number more) (sym left) (
          now,
          refl,
          g.going,
          Answer now.party s.known (suc s.number) line now.node.state now.node.state more [] (λ fed. omega arith) g.last_is takes,
          omega arith,
          g.before,
        )
    behind all s t now line turn more some on (answers.WasBeyond is refused written left) h =
        let g = one_beyond all line s.number s.known now some is h in
        subst (GoesTo setup base first (all ++ line ∷ []) (all_done h.did) s.number more) (sym left) (
          now,
          refl,
          g.going,
          subst (IsPiece echo (all_done g.going.did) max_whole most) (sym written) (Beyond (λ fed. omega arith)),
          omega (arith, is),
          g.before,
        )
    behind all s t now line turn more some on (answers.GoesOn new few next is left) h = read_on all s t now next line turn more some new few is left h
    behind all s t now line turn more some on (answers.Ends stop keep loses known stored number ended written left) h = absurd (on ended)

  -- the setup, which is the first line
  pub opened_so : (all : List (List ℕ)) (line : List ℕ) (s : Stage K) (o : OpensNode keeper source s.wanted line) → 0 < length line → some_lines all ≡ [] → s.wanted ≡ wanted
      → Going o.setup o.base line (all ++ line ∷ []) (number_from o.base o.last) o.last (record { party = party_of o.member; node = o.node })
  opened_so all line s o some none is = record {
    reads = o.reads;
    member = o.member;
    asked = subst (λ (w : Option (List ℕ)). IsMember o.setup w o.member) is o.asked;
    rows = o.rows;
    last = o.last;
    begun = o.node;
    begins = o.begins;
    party = refl;
    settled = λ honest c may.
        let k = o.begins.starts.reopens.keeps in
        o.begins.starts.settled (k.earlier honest) c (k.stops honest c may) ∙ sym (k.same honest);
    earlier = λ honest. honest;
    numbered = [];
    others = [];
    did = [];
    carries = none_carried;
    are = lines_on all line ∙ ap (λ (l : List (List ℕ)). l ++ kept_line line) none ∙ one_kept line some;
    counted = omega arith;
    beyond = λ more. absurd (more refl);
    knows = refl;
    changed = [];
    last_change = o.last;
    changes = none_changed;
    marked = λ honest. ap line_of (o.begins.starts.reopens.keeps.same honest) ∙ o.begins.starts.reopens.told honest;
  }

  -- a line behind which the run goes on, and some of what was written of it
  first_line : (all : List (List ℕ)) (out : List ℕ) (s t : Stage K) (line : List ℕ) (turn : Turn) (more : List ℕ) (n : ℕ) → 0 < length line → (turn ≡ Ended → ⊥)
      → s ≡ opening wanted opened → some_lines all ≡ [] → out ≡ [] → SetupTurn keeper source s line turn more t → Comes (all ++ line ∷ []) (out ++ (echo_of echo line ++ take n more)) t
  first_line all out s t line turn more n some on is none nothing (turns.Opened o taken written left) =
      subst (Comes (all ++ line ∷ []) (out ++ (echo_of echo line ++ take n more))) (sym left) (
      let g = opened_so all line s o some none (ap (λ (s : Stage K). s.wanted) is) in
      Runs (record { party = party_of o.member; node = o.node }) refl o.setup o.base line g
      (line_tells line n (subst (TellsTo echo (all_done g.did) (number_from o.base o.last) most) (sym nothing) nothing_told) (subst (IsPiece echo (all_done g.did) (number_from o.base o.last) most) (sym written) (Opening o.last _ o.rows _)))
      )
  first_line all out s t line turn more n some on is none nothing (turns.Untold o ended written left) = absurd (on ended)
  first_line all out s t line turn more n some on is none nothing (turns.Unbegun setup base read asked spare stop unbegun ended written left) = absurd (on ended)
  first_line all out s t line turn more n some on is none nothing (turns.NoSetup fault fails other ended written left) = absurd (on ended)
  first_line all out s t line turn more n some on is none nothing (turns.Unread ended written left) = absurd (on ended)

  pub one_line : (all : List (List ℕ)) (out : List ℕ) (s t : Stage K) (place : ℕ) (line : List ℕ) (turn : Turn) (more : List ℕ) (n : ℕ) → 0 < length line → (turn ≡ Ended → ⊥)
      → NodeLineGives keeper source s place line turn more t → Comes all out s → Comes (all ++ line ∷ []) (out ++ (echo_of echo line ++ take n more)) t
  one_line all out s t place line turn more n some on gives (Before is none nothing) =
      first_line all out s t line turn more n some on is none nothing
      (subst (λ (q : Option (Running K)). NodeTurn keeper source q s line turn more t) (ap (λ (s : Stage K). s.running) is) gives)
  one_line all out s t place line turn more n some on gives (Runs now is setup base first h tells) =
      let b = behind all s t now line turn more some on (subst (λ (q : Option (Running K)). NodeTurn keeper source q s line turn more t) is gives) h in
      Runs b.0 b.1 setup base first b.2 (line_tells line n (tells_more b.5 b.4 tells) b.3)

  whole_line : (all : List (List ℕ)) (out : List ℕ) (s t : Stage K) (place : ℕ) (line : List ℕ) (turn : Turn) (more : List ℕ) → 0 < length line → (turn ≡ Ended → ⊥)
      → NodeLineGives keeper source s place line turn more t → Comes all out s → Comes (all ++ line ∷ []) (out ++ (echo_of echo line ++ more)) t
  whole_line all out s t place line turn more some on gives h =
      subst (λ (l : List ℕ). Comes (all ++ line ∷ []) (out ++ (echo_of echo line ++ l)) t) (take_all (length more) more (omega arith))
      (one_line all out s t place line turn more (length more) some on gives h)

  empty_so : (all : List (List ℕ)) (out : List ℕ) (s : Stage K) → Comes all out s → Comes (all ++ [] ∷ []) out s
  empty_so all out s (Before is none nothing) = Before is (lines_on all [] ∙ append-nil (some_lines all) ∙ none) nothing
  empty_so all out s (Runs now is setup base first h tells) = let g = one_empty all s.number s.known now h in Runs now is setup base first g.going (tells_more g.before (omega arith) tells)

  pub all_come : {all : List (List ℕ)} {ran : How} {out : List ℕ} {s : Stage K} → AreNumbered (NodeLineGives keeper source) echo (opening wanted opened) all ran out s → Comes all out s
  all_come none_numbered = Before refl refl refl
  all_come (empty_line {s = s} {before = before} {out = out} earlier) = empty_so before out s (all_come earlier)
  all_come (taken_line {s = s} {t = t} {line = line} {before = before} {out = out} {more = more} earlier some gives) =
      whole_line before out s t (length before + 1) line Taken more some (λ e. absurd (cc e)) gives (all_come earlier)
  all_come (refused_line {s = s} {t = t} {line = line} {before = before} {out = out} {more = more} earlier some gives) =
      whole_line before out s t (length before + 1) line Refused more some (λ e. absurd (cc e)) gives (all_come earlier)
