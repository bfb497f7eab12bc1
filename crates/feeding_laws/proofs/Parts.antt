-- A beginning of a line, where its feeder stopped within it.
use Rattle.std.proofs.Common.{◌≡◌, ◌⊎◌, ◌++◌, ◌∙◌, ◌+◌, ℕ, zero, suc, List, [], ◌∷◌, Option, Some, Err, refl, sym, ap, subst, inl, inr, length}
use Rattle.std.specs.Prelude.{slice_get}
use Rattle.json_text.specs.Fault.{Read}
use Rattle.json_text.specs.declared.fault.JsonFault.{JsonFault}
use Rattle.line_runs.specs.declared.run.Turn.{Turn}
use Rattle.node_lines.specs.NodeLines.{node_line_in, one_of}
use Rattle.node_runs.specs.LineAnswers as answer
use Rattle.node_runs.specs.LineAnswers.{Answers, PlacedTurn}
use Rattle.node_runs.specs.NumberedRuns.{Carries, Changed, IsKnown, IsRead, Numbered, Takes, none_carried, none_changed, one_carried, one_changed, one_quiet}
use Rattle.ocpi_types.specs.declared.node_events.NodeEvent.{NodeEvent}
use Rattle.stored_nodes.specs.Transactions.{changes_of_each}
use Rattle.world_steps.specs.Steps.{NodeEvent as Deed}
use Rattle.world_steps.specs.World.{NodeState}
use Rattle.feeding_laws.proofs.Exactly.{ends_alike, in_front, no_end}
use Rattle.feeding_laws.specs.Fed.{Between, IsCut, IsPart, Within}
use Rattle.feeding_laws.specs.Feeding.{AreBehind}

-- ---- lists

pub at_place : {X : Type 0} (xs ys : List X) (x : X) → slice_get (xs ++ x ∷ ys) (length xs) ≡ Some x
at_place [] ys x = refl
at_place (a ∷ xs) ys x = at_place xs ys x

both_empty : {X : Type 0} (xs ys : List X) → xs ++ ys ≡ [] → (xs ≡ []) × (ys ≡ [])
both_empty [] ys is = (refl, is)
both_empty (x ∷ xs) ys is = absurd (cc is)

pub not_empty : {X : Type 0} (xs ys : List X) (x : X) → xs ++ x ∷ ys ≡ [] → ⊥
not_empty [] ys x is = cc is
not_empty (a ∷ xs) ys x is = cc is

-- one list is a front of two joined, of which the second has at most one element
pub data Front {X : Type 0} (xs ys fed cut : List X) : Type 0 where
  In_front : (zs : List X) → fed ≡ xs ++ zs → ys ≡ zs ++ cut → Front xs ys fed cut
  At_end : (part : X) → cut ≡ part ∷ [] → xs ≡ fed ++ part ∷ [] → ys ≡ [] → Front xs ys fed cut

pub fronts : {X : Type 0} (xs ys fed cut : List X) → (cut ≡ []) ⊎ ((part : X) × (cut ≡ part ∷ [])) → xs ++ ys ≡ fed ++ cut → Front xs ys fed cut
fronts [] ys fed cut short same = In_front fed refl same
fronts (x ∷ xs) ys [] cut (inl none) same = absurd (cc (same, none))
fronts (x ∷ xs) ys [] cut (inr (part, one)) same =
    let all = same ∙ one in
    let none = both_empty xs ys (cc all) in
    let first : x ≡ part = cc all in
    At_end part one (cc (first, none.0)) none.1
fronts (x ∷ xs) ys (f ∷ fed) cut short same = of (fronts xs ys fed cut short (cc same))
  where
    first : x ≡ f
    first = cc same

    of : Front xs ys fed cut → Front (x ∷ xs) ys (f ∷ fed) cut
    of (In_front zs is rest) = In_front zs (cc (first, is)) rest
    of (At_end part one is rest) = At_end part one (cc (first, is)) rest

at_or_end : {X : Type 0} (xs : List X) (x y : X) (i : ℕ) → slice_get (xs ++ x ∷ []) i ≡ Some y → (slice_get xs i ≡ Some y) ⊎ ((i ≡ length xs) × (y ≡ x))
at_or_end [] x y zero is = inr (refl, cc is)
at_or_end [] x y (suc i) is = absurd (cc is)
at_or_end (a ∷ xs) x y zero is = inl is
at_or_end (a ∷ xs) x y (suc i) is =
    elim (at_or_end xs x y i is) [
      | inl found ↦ inl found
      | inr last ↦ inr (ap suc last.0, last.1)
    ]

pub behind_front : (lines : ℕ → List ℕ) (base : ℕ) (xs ys : List (List ℕ)) → AreBehind lines base (xs ++ ys) → AreBehind lines base xs
behind_front lines base xs ys are i line is = are i line (in_front xs ys i line is)

pub behind_more : (lines : ℕ → List ℕ) (base : ℕ) (xs : List (List ℕ)) → AreBehind lines base xs → AreBehind lines base (xs ++ lines (suc (base + length xs)) ∷ [])
behind_more lines base xs are i line is =
    elim (at_or_end xs (lines (suc (base + length xs))) line i is) [
      | inl found ↦ are i line found
      | inr last ↦ last.1 ∙ ap (λ (n : ℕ). lines (suc (base + n))) (sym last.0)
    ]

-- ---- what is read as another line is, or as none

pub short_cut : (line : List ℕ) (cut : List (List ℕ)) → IsCut line cut → (cut ≡ []) ⊎ ((part : List ℕ) × (cut ≡ part ∷ []))
short_cut line cut Between = inl refl
short_cut line cut (Within part is) = inr (part, refl)

pub part_of : (line part : List ℕ) (cut rest : List (List ℕ)) → IsCut line cut → cut ≡ part ∷ rest → IsPart line part
part_of line part cut rest Between one = absurd (cc one)
part_of line part cut rest (Within other is) one = subst (IsPart line) (cc one) is

pub same_answers : {party : List ℕ} {now : NodeState} {number : ℕ} {part line : List ℕ} {turn : Turn} {out : List ℕ} {did : List Deed} {next : NodeState}
    → node_line_in part ≡ node_line_in line → Answers party now number part turn out did next → Answers party now number line turn out did next
same_answers same (answer.OneEvent read is turns) = answer.OneEvent read (sym same ∙ is) turns
same_answers same (answer.SeveralEvents events is carries) = answer.SeveralEvents events (sym same ∙ is) carries

abbrev DidNothing : List Deed → NodeState → NodeState → Type 0
DidNothing did now next = (did ≡ []) × (next ≡ now)

placed_nothing : {party : List ℕ} {now : NodeState} {number : ℕ} {place : Option ℕ} {read : Read NodeEvent} {turn : Turn} {out : List ℕ} {did : List Deed} {next : NodeState}
    → PlacedTurn party now number place read turn out did next → (fault : JsonFault) → one_of read ≡ Err fault → DidNothing did now next
placed_nothing (answer.WasDone x own deed brings step changed tells taken written one) fault none = let is = sym (ap one_of own.is) ∙ none in absurd (cc is)
placed_nothing (answer.WasUnstored x own refused taken written none same) fault bad = (none, same)
placed_nothing (answer.IsElsewhere x is other taken written none same) fault bad = (none, same)
placed_nothing (answer.IsOfOtherRole x own stored nothing taken written none same) fault bad = (none, same)
placed_nothing (answer.IsMalformed f is other refused written none same) fault bad = (none, same)
placed_nothing (answer.IsRefused x own input brings f refuses other refused written none same) fault bad = (none, same)

pub nothing_of : {party : List ℕ} {now : NodeState} {number : ℕ} {part : List ℕ} {turn : Turn} {out : List ℕ} {did : List Deed} {next : NodeState}
    → Answers party now number part turn out did next → (fault : JsonFault) → node_line_in part ≡ Err fault → DidNothing did now next
nothing_of (answer.OneEvent read is turns) fault none = placed_nothing turns fault (sym is ∙ none)
nothing_of (answer.SeveralEvents events is carries) fault none = let bad = sym is ∙ none in absurd (cc bad)

pub same_takes : {party : List ℕ} {known number : ℕ} {part line : List ℕ} {now : NodeState} {out : List ℕ} {did : List Deed} {next : NodeState}
    → node_line_in part ≡ node_line_in line → Takes party known number part now out did next → Takes party known number line now out did next
same_takes same (IsKnown is written none stays) = IsKnown is written none stays
same_takes same (IsRead new turn answers) = IsRead new turn (same_answers same answers)

pub nothing_taken : {party : List ℕ} {known number : ℕ} {part : List ℕ} {now : NodeState} {out : List ℕ} {did : List Deed} {next : NodeState}
    → Takes party known number part now out did next → (fault : JsonFault) → node_line_in part ≡ Err fault → DidNothing did now next
nothing_taken (IsKnown is written none stays) fault bad = (none, stays)
nothing_taken (IsRead new turn answers) fault bad = nothing_of answers fault bad

-- ---- the last line of those that were carried out

pub record LastOne (party : List ℕ) (known base : ℕ) (first : NodeState) (before : List (List ℕ)) (line : List ℕ) (did : List Numbered) (now : NodeState) : Type 0 where
  pub xs : List Numbered
  pub mid : NodeState
  pub out : List ℕ
  pub more : List Deed
  pub earlier : Carries party known base first before xs mid
  pub takes : Takes party known (suc (base + length before)) line mid out more now
  pub is : did ≡ xs ++ (suc (base + length before), more) ∷ []

pub last_one : (party : List ℕ) (known base : ℕ) (first : NodeState) (before : List (List ℕ)) (line : List ℕ) (did : List Numbered) (now : NodeState)
    → Carries party known base first (before ++ line ∷ []) did now → LastOne party known base first before line did now
last_one party known base first before line did now carried = inverted (before ++ line ∷ []) did now refl carried
  where
    inverted : (zs : List (List ℕ)) (did : List Numbered) (now : NodeState) → zs ≡ before ++ line ∷ [] → Carries party known base first zs did now → LastOne party known base first before line did now
    inverted zs did now same none_carried = absurd (no_end before line (sym same))
    inverted zs did now same (one_carried {before = b} {xs = xs} {now = mid} {next = next} {line = l} {out = out} {did = more} carried takes) =
        let e = ends_alike b before l line same in
        record {
          xs = xs;
          mid = mid;
          out = out;
          more = more;
          earlier = subst (λ (l : List (List ℕ)). Carries party known base first l xs mid) e.0 carried;
          takes = subst (λ (k : List ℕ). Takes party known (suc (base + length before)) k mid out more next) e.1
              (subst (λ (k : List (List ℕ)). Takes party known (suc (base + length k)) l mid out more next) e.0 takes);
          is = ap (λ (k : List (List ℕ)). xs ++ (suc (base + length k), more) ∷ []) e.0;
        }

-- that of which nothing was done changes nothing
pub without : (known : ℕ) (xs : List Numbered) (number : ℕ) (did : List Deed) (changed : List ℕ) (last : ℕ) → Changed known (xs ++ (number, did) ∷ []) changed last → changes_of_each did ≡ []
    → Changed known xs changed last
without known xs number did changed last is none = inverted (xs ++ (number, did) ∷ []) changed last refl is
  where
    inverted : (zs : List Numbered) (changed : List ℕ) (last : ℕ) → zs ≡ xs ++ (number, did) ∷ [] → Changed known zs changed last → Changed known xs changed last
    inverted zs changed last same none_changed = absurd (no_end xs (number, did) (sym same))
    inverted zs changed last same (one_quiet {xs = ys} n d before quiet) =
        let e = ends_alike ys xs (n, d) (number, did) same in
        subst (λ (l : List Numbered). Changed known l changed last) e.0 before
    inverted zs changed last same (one_changed {xs = ys} n d before some) =
        let e = ends_alike ys xs (n, d) (number, did) same in
        absurd (some (ap (λ (x : Numbered). changes_of_each x.1) e.1 ∙ none))
