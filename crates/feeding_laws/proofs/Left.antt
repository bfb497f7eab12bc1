-- What a run of `node` leaves that is fed lines by their numbers, wherever it ends.
use Rattle.std.proofs.Common.{◌≡◌, ◌≢◌, ◌⊎◌, ◌++◌, ◌∙◌, ◌+◌, ◌<◌, ◌≤◌, ℕ, zero, suc, Bool, List, [], ◌∷◌, Option, Some, Ok, Err, refl, sym, ap, subst, inl, inr, arith, length, length-append, append_assoc, append-nil}
use Rattle.std.specs.Prelude.{All, Contains, slice_get}
use Rattle.std.proofs.lemmas.List.Concat.{flat_map-append}
use Rattle.line_runs.specs.declared.run.Turn.{Turn}
use Rattle.json_text.specs.declared.fault.JsonFault.{JsonFault}
use Rattle.node_keepers.specs.Opening.{Source}
use Rattle.node_rows.specs.Holds.{HoldsRows}
use Rattle.node_rows.specs.Laws.{ChangesAreHeld}
use Rattle.node_runs.proofs.HistoryLemmas.{line_run}
use Rattle.node_runs.specs.LineAnswers.{Answers}
use Rattle.node_runs.specs.NodeAnswers as answers
use Rattle.node_runs.specs.NodeAnswers.{LosesLine}
use Rattle.node_runs.specs.NodeHistories.{IsLeftBy, kept_line, some_lines}
use Rattle.node_runs.specs.NodeOutputs.{IsKept}
use Rattle.node_runs.specs.NodeTurns as turns
use Rattle.node_runs.specs.NodeTurns.{IsMember, IsUnbegun, Running, Stage, keep_in}
use Rattle.node_runs.specs.NumberedRuns.{Carries, Changed, Numbered, all_done, one_carried}
use Rattle.node_runs.specs.SetupLines.{numbered_setup_in}
use Rattle.node_runs.specs.declared.fault.NodeStop.{NodeStop}
use Rattle.node_runs.specs.declared.fault.NodeStop.TheVariants.{Memory}
use Rattle.node_store.specs.Contents.{Content, IsReadAgain, changed_all, line_of, marked}
use Rattle.node_store.proofs.Numbered.{numbers_are_no_rows}
use Rattle.ocpi_types.specs.Setups.{party_of}
use Rattle.ocpi_types.specs.declared.rows.Row.{Row}
use Rattle.ocpi_types.specs.declared.setup.Node.{Node}
use Rattle.stored_laws.specs.Nodes.{AreNodeRows, NodesCanStartAgain}
use Rattle.stored_nodes.proofs.Staying.{marked_holds}
use Rattle.stored_nodes.proofs.Together.{held_by_events, starts_by_events}
use Rattle.stored_nodes.specs.Keepers.{Commits, IsLine, IsSettled, Keeper, Nothing, Taken as TakenBy}
use Rattle.stored_nodes.specs.Stored.{IsStored}
use Rattle.stored_nodes.specs.Transactions.{changes_of_each}
use Rattle.world_steps.specs.Steps.{NodeEvent as Deed}
use Rattle.world_steps.specs.World.{NodeState}
use Rattle.feeding_laws.proofs.Fed.{Before, Comes, Going, Runs, Under, done_on, no_others, one_kept, tells_within}
use Rattle.feeding_laws.proofs.Parts.{At_end, Front, In_front, at_place, behind_front, behind_more, fronts, last_one, not_empty, nothing_of, nothing_taken, part_of, same_answers, same_takes, short_cut, without}
use Rattle.feeding_laws.specs.Fed.{By_number, FedRun, Holds, IsCut, IsFed, IsLeft, IsPart, No_line, No_setup, Nothing as NoLines, Same, Opened, TellsTo, Unopened, WasFed, nothing_told}
use Rattle.feeding_laws.specs.Feeding.{AreBehind, Began, Behind, Held, NotBegun, One_more, StartsAgain}

-- ---- numbers and lists

below : (a b : ℕ) → (suc a ≤ b) ⊎ (b ≤ a)
below a zero = inr (omega arith)
below zero (suc b) = inl (omega arith)
below (suc a) (suc b) =
    elim (below a b) [
      | inl low ↦ inl (omega (arith, low))
      | inr high ↦ inr (omega (arith, high))
    ]

-- the first of lines, and those behind it
pub of_first : {X : Type 0} (x y : X) (xs ys : List X) → x ∷ xs ≡ y ∷ ys → (x ≡ y) × (xs ≡ ys)
of_first x y xs ys same = (cc same, cc same)

pub none_empty : {X : Type 0} (xs : List X) (x : X) → x ∷ xs ≡ [] → ⊥
none_empty xs x same = cc same

-- lines that begin in two ways
pub of_two : {X : Type 0} {all xs ys : List X} {x y : X} → all ≡ x ∷ xs → all ≡ y ∷ ys → (x ≡ y) × (xs ≡ ys)
of_two {xs = xs} {ys = ys} {x = x} {y = y} one other = of_first x y xs ys (sym one ∙ other)

-- one line is no setup and a setup
pub no_setup : (line : List ℕ) (xs : List Node) (m : Option ℕ) (fault : JsonFault) → numbered_setup_in line ≡ Ok (xs, m) → numbered_setup_in line ≡ Err fault → ⊥
no_setup line xs m fault one other = cc (one, other)

-- the setup of one line is one
pub one_setup : (a b : List ℕ) (xs ys : List Node) (m n : Option ℕ) → a ≡ b → numbered_setup_in a ≡ Ok (xs, m) → numbered_setup_in b ≡ Ok (ys, n) → ◌≡◌ {A = List Node × Option ℕ} (xs, m) (ys, n)
one_setup a b xs ys m n same one other = cc (same, one, other)

left_is : {K : Type 0} (keeper : Keeper K) (k : K) (c : Content) → keeper.is_honest k → IsSettled keeper k → IsLeftBy keeper k c → c ≡ keeper.content k
left_is keeper k c honest settled (inl is) = is
left_is keeper k c honest settled (inr may) = settled honest c may

-- ---- a line at which a run ended

module _ {K : Type 0} (keeper : Keeper K) where
  -- the content is what the line of the next number made of what the keeper had, with that number
  pub record IsMade (line : List ℕ) (number known : ℕ) (now : Running K) (c : Content) : Type 0 where
    new : known ≤ number
    turn : Turn
    out : List ℕ
    did : List Deed
    after : NodeState
    is : Answers now.party now.node.state (suc number) line turn out did after
    some : changes_of_each did ≢ []
    again : All IsReadAgain (changes_of_each did)
    is_line : IsLine (Some (suc number))
    made : c ≡ marked (Some (suc number)) (changed_all (keeper.content now.node.keep) (changes_of_each did))

  abbrev pub Loses : List ℕ → ℕ → ℕ → Running K → K → Type 0
  Loses line number known now k = keeper.is_honest now.node.keep × ((c : Content) → IsLeftBy keeper k c → (c ≡ keeper.content now.node.keep) ⊎ IsMade line number known now c)

  -- the keeper keeps what it kept
  stayed : (line : List ℕ) (number known : ℕ) (now : Running K) (k : K) → k ≡ now.node.keep → IsSettled keeper now.node.keep → keeper.is_honest k → Loses line number known now k
  stayed line number known now k same settled honest =
      let here = subst keeper.is_honest same honest in
      (here, λ c over. inl (left_is keeper now.node.keep c here settled (subst (λ (q : K). IsLeftBy keeper q c) same over)))

  untold : (line : List ℕ) (number known : ℕ) (now next : Running K) (turn : Turn) (out : List ℕ) → known ≤ number → IsSettled keeper now.node.keep → keeper.is_honest next.node.keep
      → (did : List Deed) → Answers now.party now.node.state (suc number) line turn out did next.node.state
      → Commits keeper (Some (suc number)) (changes_of_each did) now.node.keep next.node.keep → Loses line number known now next.node.keep
  untold line number known now next turn out new settled honest did is (Nothing none same) = stayed line number known now next.node.keep same settled honest
  untold line number known now next turn out new settled honest did is (TakenBy some takes) = (
    takes.earlier honest,
    λ c over. inr (record {
      new = new;
      turn = turn;
      out = out;
      did = did;
      after = next.node.state;
      is = is;
      some = some;
      again = takes.again;
      is_line = takes.is_line;
      made = left_is keeper next.node.keep c honest takes.settled over ∙ takes.makes honest;
    }),
  )

  lost_new : (line : List ℕ) (number known : ℕ) (now : Running K) (stop : NodeStop) (k : K) → LosesLine keeper now (suc number) line stop k → known ≤ number → IsSettled keeper now.node.keep
      → keeper.is_honest k → Loses line number known now k
  lost_new line number known now stop k (answers.WasStarved want same) new settled honest = stayed line number known now k same settled honest
  lost_new line number known now stop k (answers.WasUntold turn out next is after want same) new settled honest =
      subst (Loses line number known now) (sym same) (untold line number known now next turn out new settled (subst keeper.is_honest same honest) is.did is.answers is.commits)
  lost_new line number known now stop k (answers.WasDeclined turn out did after is some fault of_commit d told) new settled honest = (
    d.earlier honest,
    λ c over.
        elim over [
          | inl same ↦ inl (same ∙ d.same honest)
          | inr may ↦ elim (d.stops honest c may) [
            | inl before ↦ inl (settled (d.earlier honest) c before)
            | inr made ↦ inr (record { new = new; turn = turn; out = out; did = did; after = after; is = is; some = some; again = made.1; is_line = d.is_line; made = made.0 })
          ]
        ],
  )

  -- of a line that had taken hold before the run nothing was carried out
  pub lost : (line : List ℕ) (number known : ℕ) (now : Running K) (stop : NodeStop) (k : K) → LosesLine keeper now (suc number) line stop k
      → (suc number ≤ known → (stop ≡ Memory) × (k ≡ now.node.keep)) → IsSettled keeper now.node.keep → keeper.is_honest k → Loses line number known now k
  lost line number known now stop k loses was settled honest =
      elim (below number known) [
        | inl low ↦ stayed line number known now k (was low).1 settled honest
        | inr high ↦ lost_new line number known now stop k loses high settled honest
      ]

-- ---- what is left

module _ (held : ChangesAreHeld) (start : NodesCanStartAgain) {K : Type 0} (keeper : Keeper K) (source : Source K)
    (wanted : Option (List ℕ)) (opened : List ℕ) (echo : Bool) (most : ℕ) (setup : List Node) (lines : ℕ → List ℕ) (base : ℕ)
    (member : Node) (only : (first : List ℕ) (m : Node) → numbered_setup_in first ≡ Ok (setup, Some base) → IsMember setup wanted m → m ≡ member) where
  -- the lines that were answered, as they stand behind the number
  pub record Answered {first : List ℕ} {all : List (List ℕ)} {number known : ℕ} {now : Running K} (h : Going keeper source wanted opened echo most setup (Some base) first all number known now)
      : Type 0 where
    pub read : List (List ℕ)
    pub did : List Numbered
    pub are : AreBehind lines base read
    pub carries : Carries (party_of h.member) h.last base h.begun.state read did now.node.state
    pub changes : Changed h.last did h.changed h.last_change
    pub tells : (text : List ℕ) → TellsTo echo (all_done h.did) number most text → TellsTo echo (all_done did) (base + length read) most text

  module _ {first : List ℕ} {all : List (List ℕ)} {number known : ℕ} {now : Running K} (h : Going keeper source wanted opened echo most setup (Some base) first all number known now)
      (r : Answered h) (stored : IsStored keeper now.node) where
    -- the next line made it
    abbrev pub MadeNext : Content → Type 0
    MadeNext c = (number ≡ base + length r.read) × IsMade keeper (lines (suc (base + length r.read))) number known now c

    module _ (honest : keeper.is_honest now.node.keep) (found : Held) (holds : Holds (keeper.content h.begins.starts.fresh) found) where
      opens : StartsAgain setup h.member found.state h.begun.state
      opens =
          let reopens = h.begins.starts.reopens in
          let (rows, are, of_found) = holds.rows in
          let same = sym are ∙ reopens.reads (h.earlier honest) in
          let is : rows ≡ reopens.list = cc same in
          record { rows = reopens.list; are = subst (λ (l : List Row). AreNodeRows l found.state) is of_found; made = reopens.made; again = h.begins.starts.stored.starts }

      last_is : h.last ≡ found.line
      last_is = let same = sym (h.begins.starts.reopens.told (h.earlier honest)) ∙ holds.line in cc same

      carried : Carries (party_of h.member) found.line base h.begun.state r.read r.did now.node.state
      carried = subst (λ (k : ℕ). Carries (party_of h.member) k base h.begun.state r.read r.did now.node.state) last_is r.carries

      changed_so : Changed found.line r.did h.changed h.last_change
      changed_so = subst (λ (k : ℕ). Changed k r.did h.changed h.last_change) last_is r.changes

      kept_so : (c : Content) → c ≡ keeper.content now.node.keep → IsLeft setup h.member lines found base r.read (all_done r.did) c
      kept_so c same =
          let line_is = ap line_of same ∙ h.marked honest in
          record {
            changed = h.changed;
            left = record { state = now.node.state; line = h.last_change };
            holds = record { starts = stored.starts; rows = subst (λ (b : Content). HoldsRows b now.node.state) (sym same) (stored.holds honest); line = line_is };
            ran = Began h.begun.state opens r.are r.did now.node.state carried (Behind h.changed changed_so refl);
            did = refl;
          }

      made_so : (c : Content) → MadeNext c → IsLeft setup h.member lines found base r.read (all_done r.did) c
      made_so c (counted, m) =
          let at = suc (base + length r.read) in
          let run = line_run m.is in
          let rows = keeper.content now.node.keep in
          let line_is = ap line_of m.made ∙ numbers_are_no_rows.is (changed_all rows (changes_of_each m.did)) (suc number) m.is_line.0 m.is_line.1 in
          let rows_of = subst (λ (b : Content). HoldsRows b m.after) (sym m.made) (marked_holds (Some (suc number)) (changed_all rows (changes_of_each m.did)) m.after
          (held_by_events held start rows now.node.state m.after m.did stored.starts (stored.holds honest) run m.again)) in
          let is : Answers (party_of h.member) now.node.state at (lines at) m.turn m.out m.did m.after =
          subst (λ (p : List ℕ). Answers p now.node.state at (lines at) m.turn m.out m.did m.after) h.party
          (subst (λ (n : ℕ). Answers now.party now.node.state n (lines at) m.turn m.out m.did m.after) (ap suc counted) m.is) in
          record {
            changed = h.changed ++ at ∷ [];
            left = record { state = m.after; line = suc number };
            holds = record { starts = starts_by_events start now.node.state m.after m.did run stored.starts; rows = rows_of; line = line_is };
            ran = Began h.begun.state opens r.are r.did now.node.state carried
                (One_more h.changed h.last_change changed_so (omega (arith, m.new, counted, h.knows, last_is)) m.turn m.out m.did m.after is m.some refl (ap suc counted));
            did = refl;
          }

      left_so : {Made : Content → Type 0} → ((c : Content) → Made c → MadeNext c) → (c : Content) → (c ≡ keeper.content now.node.keep) ⊎ Made c → IsLeft setup h.member lines found base r.read (all_done r.did) c
      left_so next c (inl same) = kept_so c same
      left_so next c (inr made) = made_so c (next c made)

    -- of a run that ended behind these lines, or at the next
    pub ran_so : (Made : Content → Type 0) → ((c : Content) → Made c → MadeNext c) → (k : K)
        → (keeper.is_honest k → keeper.is_honest now.node.keep × ((c : Content) → IsLeftBy keeper k c → (c ≡ keeper.content now.node.keep) ⊎ Made c))
        → (text : List ℕ) → TellsTo echo (all_done h.did) number most text → WasFed keeper source setup member lines base most echo text (Some k)
    ran_so Made next k loses text tells = Opened k (subst (λ (m : Node). FedRun keeper source setup m lines base most echo text k) (only first h.member h.reads h.asked) (record {
      fresh = h.begins.starts.fresh;
      found = h.begins.found;
      earlier = λ honest. h.begins.starts.reopens.keeps.earlier (h.earlier (loses honest).0);
      read = r.read;
      done = all_done r.did;
      tells = r.tells text tells;
      leaves = λ honest found holds c over. let l = loses honest in left_so l.0 found holds {Made = Made} next c (l.1 c over);
    }))

  -- ---- the lines of the run stand among those that are fed

  all_are : {xs : List Node} {m : Option ℕ} {first : List ℕ} {before : List (List ℕ)} {number known : ℕ} {now : Running K}
      → (h : Going keeper source wanted opened echo most xs m first before number known now) (later : List (List ℕ)) → some_lines (before ++ later) ≡ first ∷ ((h.numbered ++ h.others) ++ some_lines later)
  all_are {before = before} h later = flat_map-append kept_line before later ∙ ap (λ (l : List (List ℕ)). l ++ some_lines later) h.are

  pub record Fits (done : List Deed) (before later : List (List ℕ)) (number known : ℕ) (now : Running K) : Type 0 where
    pub first : List ℕ
    pub going : Going keeper source wanted opened echo most setup (Some base) first before number known now
    pub does : all_done going.did ≡ done
    pub fed : List (List ℕ)
    pub cut : List (List ℕ)
    pub same : (going.numbered ++ going.others) ++ some_lines later ≡ fed ++ cut
    pub behind : AreBehind lines base fed
    pub most_is : most ≡ base + length fed
    pub is_cut : IsCut (lines (suc most)) cut

  -- what was done before a line for which nothing was done
  without_last : (xs : List Numbered) (number : ℕ) (more : List Deed) (all : List Numbered) → all ≡ xs ++ (number, more) ∷ [] → more ≡ [] → Under (all_done all) (all_done xs)
  without_last xs number more all is none x within =
      subst (λ (l : List Deed). Contains l x) (ap all_done is ∙ done_on xs number more ∙ ap (λ (l : List Deed). all_done xs ++ l) none ∙ append-nil (all_done xs)) within

  same_going : (xs : List Node) (m : Option ℕ) (first : List ℕ) (before : List (List ℕ)) (number known : ℕ) (now : Running K) (h : Going keeper source wanted opened echo most xs m first before number known now)
      (p : List Node × Option ℕ) → ◌≡◌ {A = List Node × Option ℕ} (xs, m) p → (g : Going keeper source wanted opened echo most p.0 p.1 first before number known now) × (all_done g.did ≡ all_done h.did)
  same_going xs m first before number known now h p same =
      subst (λ (p : List Node × Option ℕ). (g : Going keeper source wanted opened echo most p.0 p.1 first before number known now) × (all_done g.did ≡ all_done h.did)) same (h, refl)

  pub fits : (xs : List Node) (m : Option ℕ) (first : List ℕ) (before later : List (List ℕ)) (number known : ℕ) (now : Running K)
      → (h : Going keeper source wanted opened echo most xs m first before number known now) → IsFed setup lines base most (before ++ later) → Fits (all_done h.did) before later number known now
  fits xs m first before later number known now h (NoLines none) = absurd (none_empty ((h.numbered ++ h.others) ++ some_lines later) first (sym (all_are h later) ∙ none))
  fits xs m first before later number known now h (No_setup part fault are none) =
      let one = of_two (all_are h later) are in
      absurd (no_setup part xs m fault (subst (λ (l : List ℕ). numbered_setup_in l ≡ Ok (xs, m)) one.0 h.reads) none)
  fits xs m first before later number known now h (By_number line fed cut are reads behind most_is is_cut) =
      let one = of_two (all_are h later) are in
      let of = same_going xs m first before number known now h (setup, Some base) (one_setup first line xs setup m (Some base) one.0 h.reads reads) in
      let g = of.0 in
      let same = of_two (all_are g later) are in
      record { first = first; going = g; does = of.1; fed = fed; cut = cut; same = same.1; behind = behind; most_is = most_is; is_cut = is_cut }

  -- those that were read stand in front of those that were fed, but for the beginning of a line
  pub front_of : {done : List Deed} {before later : List (List ℕ)} {number known : ℕ} {now : Running K} (f : Fits done before later number known now) → Front f.going.numbered (f.going.others ++ some_lines later) f.fed f.cut
  front_of {later = later} f = fronts f.going.numbered (f.going.others ++ some_lines later) f.fed f.cut (short_cut (lines (suc most)) f.cut f.is_cut)
      (sym (append_assoc f.going.numbered f.going.others (some_lines later)) ∙ f.same)

  module _ {done : List Deed} {before later : List (List ℕ)} {number known : ℕ} {now : Running K} (f : Fits done before later number known now) where
    abbrev g : Going keeper source wanted opened echo most setup (Some base) f.first before number known now
    g = f.going

    in_front_read : (zs : List (List ℕ)) → f.fed ≡ g.numbered ++ zs → Answered g
    in_front_read zs is = record {
      read = g.numbered;
      did = g.did;
      are = behind_front lines base g.numbered zs (subst (AreBehind lines base) is f.behind);
      carries = g.carries;
      changes = g.changes;
      tells = λ text. subst (λ (n : ℕ). TellsTo echo (all_done g.did) n most text) g.counted;
    }

    -- the last is a beginning of its line
    abbrev at : ℕ
    at = suc (base + length f.fed)

    part_read : (part : List ℕ) → g.numbered ≡ f.fed ++ part ∷ [] → IsPart (lines at) part → Answered g
    part_read part is (Same same) =
        let l = last_one (party_of g.member) g.last base g.begun.state f.fed part g.did now.node.state (subst (λ (xs : List (List ℕ)). Carries (party_of g.member) g.last base g.begun.state xs g.did now.node.state) is g.carries) in
        record {
          read = f.fed ++ lines at ∷ [];
          did = g.did;
          are = behind_more lines base f.fed f.behind;
          carries = subst (λ (d : List Numbered). Carries (party_of g.member) g.last base g.begun.state (f.fed ++ lines at ∷ []) d now.node.state) (sym l.is)
              (one_carried l.earlier (same_takes same l.takes));
          changes = g.changes;
          tells = λ text. subst (λ (n : ℕ). TellsTo echo (all_done g.did) n most text) (omega (arith, g.counted, ap length is, length-append f.fed (part ∷ []), length-append f.fed (lines at ∷ [])));
        }
    part_read part is (No_line fault none) =
        let l = last_one (party_of g.member) g.last base g.begun.state f.fed part g.did now.node.state (subst (λ (xs : List (List ℕ)). Carries (party_of g.member) g.last base g.begun.state xs g.did now.node.state) is g.carries) in
        let q = nothing_taken l.takes fault none in
        record {
          read = f.fed;
          did = l.xs;
          are = f.behind;
          carries = subst (λ (s : NodeState). Carries (party_of g.member) g.last base g.begun.state f.fed l.xs s) (sym q.1) l.earlier;
          changes = without g.last l.xs at l.more g.changed g.last_change (subst (λ (d : List Numbered). Changed g.last d g.changed g.last_change) l.is g.changes) (ap changes_of_each q.0);
          tells = λ text. tells_within (without_last l.xs at l.more g.did l.is q.0) (omega (arith, f.most_is));
        }

    part_so : (part : List ℕ) (rest : List (List ℕ)) → f.cut ≡ part ∷ rest → IsPart (lines at) part
    part_so part rest one = subst (λ (n : ℕ). IsPart (lines (suc n)) part) f.most_is (part_of (lines (suc most)) part f.cut rest f.is_cut one)

    pub answered_by : Front g.numbered (g.others ++ some_lines later) f.fed f.cut → Answered g
    answered_by (In_front zs is rest) = in_front_read zs is
    answered_by (At_end part one is rest) = part_read part is (part_so part [] one)

  -- the line at which the run ended is the next, or a beginning of it
  module _ {done : List Deed} {before later : List (List ℕ)} {line : List ℕ} {number known : ℕ} {now : Running K} (f : Fits done before (line ∷ later) number known now) (some : 0 < length line) where
    abbrev NextOf : Answered f.going → Type 0
    NextOf r = (c : Content) → IsMade keeper line number known now c → (number ≡ base + length r.read) × IsMade keeper (lines (suc (base + length r.read))) number known now c

    line_is : f.going.others ≡ [] → f.going.others ++ some_lines (line ∷ later) ≡ line ∷ some_lines later
    line_is none = ap (λ (l : List (List ℕ)). l ++ some_lines (line ∷ later)) none ∙ ap (λ (l : List (List ℕ)). l ++ some_lines later) (one_kept line some)

    made_by : (other : List ℕ) (c : Content) (m : IsMade keeper line number known now c) → Answers now.party now.node.state (suc number) other m.turn m.out m.did m.after → IsMade keeper other number known now c
    made_by other c m is =
        record { new = m.new; turn = m.turn; out = m.out; did = m.did; after = m.after; is = is; some = m.some; again = m.again; is_line = m.is_line; made = m.made }

    next_by : (zs : List (List ℕ)) (is : f.fed ≡ f.going.numbered ++ zs) → f.going.others ++ some_lines (line ∷ later) ≡ zs ++ f.cut → NextOf (in_front_read f zs is)
    unfolding in_front_read
    next_by [] is rest c m =
        let none = no_others number f.going.others f.going.beyond m.is_line.1 in
        let fed_is : f.fed ≡ f.going.numbered = is ∙ append-nil f.going.numbered in
        let part = subst (λ (l : List (List ℕ)). IsPart (lines (suc (base + length l))) line) fed_is (part_so f line (some_lines later) (sym rest ∙ line_is none)) in
        (f.going.counted, made_by (lines (suc (base + length f.going.numbered))) c m (of_part part m))
      where
        of_part : {c : Content} → IsPart (lines (suc (base + length f.going.numbered))) line → (m : IsMade keeper line number known now c)
            → Answers now.party now.node.state (suc number) (lines (suc (base + length f.going.numbered))) m.turn m.out m.did m.after
        of_part (Same same) m = same_answers same m.is
        of_part (No_line fault none) m = absurd (m.some (ap changes_of_each (nothing_of m.is fault none).0))
    next_by (z ∷ zs) is rest c m =
        let none = no_others number f.going.others f.going.beyond m.is_line.1 in
        let first = of_first line z (some_lines later) (zs ++ f.cut) (sym (line_is none) ∙ rest) in
        let z_is = f.behind (length f.going.numbered) z (subst (λ (l : List (List ℕ)). slice_get l (length f.going.numbered) ≡ Some z) (sym is) (at_place f.going.numbered zs z)) in
        let same : line ≡ lines (suc (base + length f.going.numbered)) = first.0 ∙ z_is in
        (f.going.counted, subst (λ (l : List ℕ). IsMade keeper l number known now c) same m)

    pub next_at : (r : Front f.going.numbered (f.going.others ++ some_lines (line ∷ later)) f.fed f.cut) → NextOf (answered_by f r)
    unfolding answered_by in_front_read
    next_at (In_front zs is rest) = next_by zs is rest
    next_at (At_end part one is rest) =
        absurd (not_empty f.going.others (some_lines later) line (ap (λ (l : List (List ℕ)). f.going.others ++ (l ++ some_lines later)) (sym (one_kept line some)) ∙ rest))

  -- ---- behind a line

  abbrev pub Left : List ℕ → Option K → Type 0
  Left text kept = WasFed keeper source setup member lines base most echo text kept

  -- what tells of no line above some number goes on so
  abbrev pub Tell : List ℕ → List ℕ → Type 0
  Tell out text = (d : List Deed) (n : ℕ) → TellsTo echo d n most out → TellsTo echo d n most text

  pub at_stage : (before later : List (List ℕ)) (out text : List ℕ) (s : Stage K) (kept : Option K) → IsFed setup lines base most (before ++ later) → Comes keeper source wanted opened echo most before out s
      → keep_in s.running s.spare ≡ kept → IsKept keeper s.running → Tell out text → Left text kept
  at_stage before later out text s kept fed (Before is none nothing) left stored tell =
      subst (Left text) (sym (ap (λ (s : Stage K). keep_in s.running s.spare) is) ∙ left) (Unopened (tell [] base (subst (TellsTo echo [] base most) (sym nothing) nothing_told)))
  at_stage before later out text s kept fed (Runs now is xs m first h tells) left stored tell =
      let f = fits xs m first before later s.number s.known now h fed in
      let g = f.going in
      let r = answered_by f (front_of f) in
      subst (Left text) (sym (ap (λ (q : Option (Running K)). keep_in q s.spare) is) ∙ left)
      (ran_so g r (subst (IsKept keeper) is stored) (λ c. ⊥) (λ c no. absurd no) now.node.keep
      (λ honest. (honest, λ c over. inl (left_is keeper now.node.keep c honest g.settled over))) text (subst (λ (d : List Deed). TellsTo echo d s.number most text) (sym f.does) (tell (all_done h.did) s.number tells)))

  -- ---- at a line

  -- the setup had no such node, or none was made of what the store had
  pub unbegun : (line : List ℕ) (xs : List Node) (base_told : Option ℕ) (places : List ℕ) (spare : Option K) (stop : NodeStop) (text : List ℕ) → numbered_setup_in line ≡ Ok (xs, base_told) → ◌≡◌ {A = List Node × Option ℕ} (xs, base_told) (setup, Some base)
      → IsUnbegun keeper source xs wanted places spare stop → ((d : List Deed) (n : ℕ) → TellsTo echo d n most text) → Left text spare
  unbegun line xs base_told places spare stop text read same (turns.Unknown none asked is told) tells = subst (Left text) (sym is) (Unopened (tells [] base))
  unbegun line xs base_told places spare stop text read same (turns.Unkept m of fault may asked is told) tells = subst (Left text) (sym is) (Unopened (tells [] base))
  unbegun line xs base_told places spare stop text read same (turns.NotMade m of fault k unmade found asked is told) tells =
      let setup_is : xs ≡ setup = ap (λ (p : List Node × Option ℕ). p.0) same in
      let reads = subst (λ (p : List Node × Option ℕ). numbered_setup_in line ≡ Ok p) same read in
      let member_is = only line m reads (subst (λ (l : List Node). IsMember l wanted m) setup_is of) in
      subst (Left text) (sym is) (Opened k (subst (λ (m : Node). FedRun keeper source setup m lines base most echo text k) member_is (record {
        fresh = unmade.fresh;
        found = found;
        earlier = unmade.keeps.earlier;
        read = [];
        done = [];
        tells = tells [] (base + length {A = List ℕ} []);
        leaves = λ honest was holds c over.
            let at : c ≡ keeper.content unmade.fresh = found_is honest c over in
            record {
              changed = [];
              left = was;
              holds = subst (λ (b : Content). Holds b was) (sym at) holds;
              ran = NotBegun;
              did = refl;
            };
      })))
    where
      found_is : keeper.is_honest k → (c : Content) → IsLeftBy keeper k c → c ≡ keeper.content unmade.fresh
      found_is honest c (inl same) = same ∙ unmade.keeps.same honest
      found_is honest c (inr may) = unmade.settled (unmade.keeps.earlier honest) c (unmade.keeps.stops honest c may)
