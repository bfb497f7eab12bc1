-- What a line gives is one value.
use Rattle.std.proofs.Common.{◌≡◌, ◌≢◌, ◌↔◌, ◌≤◌, ℕ, suc, List, [], ◌∷◌, ◌++◌, Option, None, Some, Ok, Err, length, refl, sym, ap, ap₂, subst, ◌∙◌, arith}
use Rattle.std.proofs.lemmas.List.Concat.{flat_map-append}
use Rattle.json_text.specs.Fault.{Read}
use Rattle.line_runs.specs.declared.run.Turn.{Turn}
use Rattle.line_runs.specs.declared.run.Turn.TheVariants.{Refused, Taken}
use Rattle.node_lines.specs.NodeLines.{node_line_in, one_of}
use Rattle.node_lines.specs.declared.node_line.NodeLine.{NodeLine}
use Rattle.node_lines.specs.declared.node_line.NodeLine.TheVariants.{Several}
use Rattle.node_runs.specs.DoneLines.{all_line}
use Rattle.node_runs.specs.LineAnswers as answer
use Rattle.node_runs.specs.LineAnswers.{Answers, AreDone, PlacedTurn, none_done, one_refused, one_taken}
use Rattle.ocpi_types.specs.declared.node_events.NodeEvent.{NodeEvent}
use Rattle.ocpi_types.specs.declared.rows.Change.{Change}
use Rattle.stored_laws.proofs.Starting.{nodes_can_start_again}
use Rattle.stored_laws.specs.Nodes.{CanStartAgain}
use Rattle.stored_nodes.specs.Transactions.{changes_of_each}
use Rattle.world_steps.specs.Steps.{NodeEvent as Deed, NodeStep, changes_of}
use Rattle.world_steps.specs.World.{NodeState}
use Rattle.replays.proofs.Going.{OneGift}
use Rattle.replays.proofs.Lists.{joined_is_none, last_is, last_one, some_is_none}
use Rattle.replays.proofs.OneValue.{events_give_one_value}
use Rattle.replays.proofs.OwnUrls.{HasOwn, are_apart, own_stays}
use Rattle.replays.specs.Happenings.{Placed}
use Rattle.replays.specs.Laws.{IsOne}
use Rattle.replays.specs.LineTurns.{LineGives, Running, WasBeyond, WasKnown, WasRead, last_behind}

-- ---- a node that could have run

pub record IsFit (n : NodeState) : Type 0 where
  pub starts : CanStartAgain n
  pub own : HasOwn n

fit_stays : (n m : NodeState) (x : Deed) → NodeStep n x m → IsFit n → IsFit m
fit_stays n m x step fit = record { starts = nodes_can_start_again n m x fit.starts step; own = own_stays n m x step fit.own }

placed_fit : {party : List ℕ} {now : NodeState} {number : ℕ} {place : Option ℕ} {read : Read NodeEvent} {turn : Turn} {out : List ℕ} {did : List Deed} {next : NodeState}
    → PlacedTurn party now number place read turn out did next → IsFit now → IsFit next
placed_fit {now = now} {next = next} (answer.WasDone x own deed brings step changed tells taken written did) fit = fit_stays now next deed step fit
placed_fit (answer.WasUnstored x own unstored taken written none same) fit = subst IsFit (sym same) fit
placed_fit (answer.IsElsewhere x is other taken written none same) fit = subst IsFit (sym same) fit
placed_fit (answer.IsOfOtherRole x own stored nothing taken written none same) fit = subst IsFit (sym same) fit
placed_fit (answer.IsMalformed fault is other refused written none same) fit = subst IsFit (sym same) fit
placed_fit (answer.IsRefused x own input brings fault refuses other refused written none same) fit = subst IsFit (sym same) fit

done_fit : {party : List ℕ} {first : NodeState} {number : ℕ} {events : List (Read NodeEvent)} {turn : Turn} {out : List ℕ} {did : List Deed} {next : NodeState}
    → AreDone party first number events turn out did next → IsFit first → IsFit next
done_fit none_done fit = fit
done_fit (one_taken before turns) fit = placed_fit turns (done_fit before fit)
done_fit (one_refused before turns) fit = placed_fit turns (done_fit before fit)

pub answers_fit : {party : List ℕ} {now : NodeState} {number : ℕ} {line : List ℕ} {turn : Turn} {out : List ℕ} {did : List Deed} {next : NodeState}
    → Answers party now number line turn out did next → IsFit now → IsFit next
answers_fit (answer.OneEvent read is turns) fit = placed_fit turns fit
answers_fit (answer.SeveralEvents events is carries) fit = done_fit carries.done fit

-- ---- whether rows changed

front_none : {A : Type 0} (xs ys : List A) → xs ++ ys ≡ [] → xs ≡ []
front_none [] ys none = refl
front_none (x ∷ xs) ys none = some_is_none x (xs ++ ys) none

behind_none : {A : Type 0} (xs ys : List A) → xs ++ ys ≡ [] → ys ≡ []
behind_none [] ys none = none
behind_none (x ∷ xs) ys none = some_is_none x (xs ++ ys) none

some_of_both : {A : Type 0} (xs ys zs ws : List A) → (xs ≢ [] → zs ≢ []) → (ys ≢ [] → ws ≢ []) → xs ++ ys ≢ [] → zs ++ ws ≢ []
some_of_both [] ys zs ws first second some = λ none. second some (behind_none zs ws none)
some_of_both (x ∷ xs) ys zs ws first second some = λ none. first (λ nothing. some_is_none x xs nothing) (front_none zs ws none)

both_change : (did also done more : List Deed) → ((changes_of_each did ≢ []) ↔ (changes_of_each done ≢ [])) → ((changes_of_each also ≢ []) ↔ (changes_of_each more ≢ []))
    → (changes_of_each (did ++ also) ≢ []) ↔ (changes_of_each (done ++ more) ≢ [])
both_change did also done more first second = (
  (λ some. back done more (some_of_both (changes_of_each did) (changes_of_each also) (changes_of_each done) (changes_of_each more) first.0 second.0 (parts did also some))),
  (λ some. back did also (some_of_both (changes_of_each done) (changes_of_each more) (changes_of_each did) (changes_of_each also) first.1 second.1 (parts done more some))),
)
  where
    parts : (a b : List Deed) → changes_of_each (a ++ b) ≢ [] → changes_of_each a ++ changes_of_each b ≢ []
    parts a b some none = some (flat_map-append changes_of a b ∙ none)

    back : (a b : List Deed) → changes_of_each a ++ changes_of_each b ≢ [] → changes_of_each (a ++ b) ≢ []
    back a b some none = some (sym (flat_map-append changes_of a b) ∙ none)

none_change : (did done : List Deed) → did ≡ [] → done ≡ [] → (changes_of_each did ≢ []) ↔ (changes_of_each done ≢ [])
none_change did done none nothing = ((λ some. absurd (some (ap changes_of_each none))), (λ some. absurd (some (ap changes_of_each nothing))))

last_same : (xs ys : List Change) (last number : ℕ) → ((xs ≢ []) ↔ (ys ≢ [])) → last_behind xs last number ≡ last_behind ys last number
last_same [] [] last number effect = refl
last_same [] (y ∷ ys) last number effect = absurd (effect.1 (λ none. some_is_none y ys none) refl)
last_same (x ∷ xs) [] last number effect = absurd (effect.0 (λ none. some_is_none x xs none) refl)
last_same (x ∷ xs) (y ∷ ys) last number effect = refl

-- ---- the events of a line

module _ (party : List ℕ) (number : ℕ) where
  at_place : (before others : List (Read NodeEvent)) (read other : Read NodeEvent) (now there : NodeState) (turn again : Turn) (out also : List ℕ) (did done : List Deed) (next last : NodeState)
      → IsFit now → before ≡ others → read ≡ other → now ≡ there → PlacedTurn party now number (Some (length before)) read turn out did next
      → PlacedTurn party there number (Some (length others)) other again also done last → IsOne turn again out also did done next last
  at_place before others read other now there turn again out also did done next last fit befores reads nows p q =
      events_give_one_value party now number (Some (length before)) read turn again out also did done next last fit.starts.sound (are_apart now fit.own) p
      (subst (λ n. PlacedTurn party n number (Some (length before)) read again also done last) (sym nows)
      (subst (λ r. PlacedTurn party there number (Some (length before)) r again also done last) (sym reads)
      (subst (λ (l : List (Read NodeEvent)). PlacedTurn party there number (Some (length l)) other again also done last) (sym befores) q)))

  joined : (turn other said again : Turn) (out also more further : List ℕ) (did done added left : List Deed) (now there next last : NodeState)
      → IsOne turn other out also did done now there → IsOne said again more further added left next last → (first second : Turn) → first ≡ second
      → IsOne first second (out ++ more) (also ++ further) (did ++ added) (done ++ left) next last
  joined turn other said again out also more further did done added left now there next last a b first second same = record {
    turns = same;
    outs = ap₂ (λ x y. x ++ y) a.outs b.outs;
    nexts = b.nexts;
    effect = both_change did added done left a.effect b.effect;
  }

  module _ (first : NodeState) (fit : IsFit first) where
    pub done_once : (events others : List (Read NodeEvent)) (turn other : Turn) (out also : List ℕ) (did done : List Deed) (next last : NodeState)
        → AreDone party first number events turn out did next → AreDone party first number others other also done last → events ≡ others → IsOne turn other out also did done next last
    done_once events others turn other out also did done next last none_done none_done same =
        record { turns = refl; outs = refl; nexts = refl; effect = ((λ some. some), (λ some. some)) }
    done_once events others turn other out also did done next last none_done (one_taken {before = b} {read = r} c q) same = joined_is_none b r [] (sym same)
    done_once events others turn other out also did done next last none_done (one_refused {before = b} {read = r} c q) same = joined_is_none b r [] (sym same)
    done_once events others turn other out also did done next last (one_taken {before = b} {read = r} c p) none_done same = joined_is_none b r [] same
    done_once events others turn other out also did done next last (one_refused {before = b} {read = r} c p) none_done same = joined_is_none b r [] same
    done_once events others turn other out also did done next last
        (one_taken {before = b} {turn = t} {out = o} {more = m} {did = d} {also = a} {now = n} {next = x} {read = r} c p)
        (one_taken {before = b2} {turn = t2} {out = o2} {more = m2} {did = d2} {also = a2} {now = n2} {next = x2} {read = r2} e q) same =
        let befores = last_is b b2 r r2 same in
        let one = done_once b b2 t t2 o o2 d d2 n n2 c e befores in
        let two = at_place b b2 r r2 n n2 Taken Taken m m2 a a2 x x2 (done_fit c fit) befores (last_one b b2 r r2 same) one.nexts p q in
        joined t t2 Taken Taken o o2 m m2 d d2 a a2 n n2 x x2 one two t t2 one.turns
    done_once events others turn other out also did done next last
        (one_taken {before = b} {turn = t} {out = o} {more = m} {did = d} {also = a} {now = n} {next = x} {read = r} c p)
        (one_refused {before = b2} {turn = t2} {out = o2} {more = m2} {did = d2} {also = a2} {now = n2} {next = x2} {read = r2} e q) same =
        let befores = last_is b b2 r r2 same in
        let one = done_once b b2 t t2 o o2 d d2 n n2 c e befores in
        let two = at_place b b2 r r2 n n2 Taken Refused m m2 a a2 x x2 (done_fit c fit) befores (last_one b b2 r r2 same) one.nexts p q in
        absurd (let bad : Taken ≡ Refused = two.turns in cc)
    done_once events others turn other out also did done next last
        (one_refused {before = b} {turn = t} {out = o} {more = m} {did = d} {also = a} {now = n} {next = x} {read = r} c p)
        (one_taken {before = b2} {turn = t2} {out = o2} {more = m2} {did = d2} {also = a2} {now = n2} {next = x2} {read = r2} e q) same =
        let befores = last_is b b2 r r2 same in
        let one = done_once b b2 t t2 o o2 d d2 n n2 c e befores in
        let two = at_place b b2 r r2 n n2 Refused Taken m m2 a a2 x x2 (done_fit c fit) befores (last_one b b2 r r2 same) one.nexts p q in
        absurd (let bad : Refused ≡ Taken = two.turns in cc)
    done_once events others turn other out also did done next last
        (one_refused {before = b} {turn = t} {out = o} {more = m} {did = d} {also = a} {now = n} {next = x} {read = r} c p)
        (one_refused {before = b2} {turn = t2} {out = o2} {more = m2} {did = d2} {also = a2} {now = n2} {next = x2} {read = r2} e q) same =
        let befores = last_is b b2 r r2 same in
        let one = done_once b b2 t t2 o o2 d d2 n n2 c e befores in
        let two = at_place b b2 r r2 n n2 Refused Refused m m2 a a2 x x2 (done_fit c fit) befores (last_one b b2 r r2 same) one.nexts p q in
        joined t t2 Refused Refused o o2 m m2 d d2 a a2 n n2 x x2 one two Refused Refused refl

-- ---- a line

one_reading : (a b : Read NodeEvent) → one_of a ≡ one_of b → a ≡ b
one_reading (Ok x) (Ok y) is = let same : x ≡ y = cc in ap Ok same
one_reading (Ok x) (Err f) is = absurd cc
one_reading (Err e) (Ok y) is = absurd cc
one_reading (Err e) (Err f) is = let same : e ≡ f = cc in ap Err same

not_several : {X : Type 0} (a : Read NodeEvent) (events : List (Read NodeEvent)) → one_of a ≡ Ok (Several events) → X
not_several (Ok x) events is = absurd cc
not_several (Err e) events is = absurd cc

same_events : (line : Read NodeLine) (events others : List (Read NodeEvent)) → line ≡ Ok (Several events) → line ≡ Ok (Several others) → events ≡ others
same_events line events others is so = let both = sym is ∙ so in cc

module _ (party : List ℕ) (now : NodeState) (number : ℕ) (line : List ℕ) (fit : IsFit now) where
  pub answers_once : (turn other : Turn) (out also : List ℕ) (did done : List Deed) (next last : NodeState)
      → Answers party now number line turn out did next → Answers party now number line other also done last → IsOne turn other out also did done next last
  answers_once turn other out also did done next last (answer.OneEvent read is p) (answer.OneEvent read_too is_too q) =
      events_give_one_value party now number None read turn other out also did done next last fit.starts.sound (are_apart now fit.own) p
      (subst (λ r. PlacedTurn party now number None r other also done last) (one_reading read_too read (sym is_too ∙ is)) q)
  answers_once turn other out also did done next last (answer.OneEvent read is p) (answer.SeveralEvents events is_too q) = not_several read events (sym is ∙ is_too)
  answers_once turn other out also did done next last (answer.SeveralEvents events is p) (answer.OneEvent read is_too q) = not_several read events (sym is_too ∙ is)
  answers_once turn other out also did done next last (answer.SeveralEvents events is p) (answer.SeveralEvents others is_too q) =
      let same = same_events (node_line_in line) events others is is_too in
      let one = done_once party number now fit events others turn other p.lines q.lines did done next last p.done q.done same in
      record {
        turns = one.turns;
        outs = p.written ∙ ap₂ (λ (l : List ℕ) (es : List (Read NodeEvent)). l ++ all_line number (length es)) one.outs same ∙ sym q.written;
        nexts = one.nexts;
        effect = one.effect;
      }

pub line_once : (now : Running) (line out also : List ℕ) (entered came : List Placed) (did done : List Deed) (next last : Running) → IsFit now.state
    → LineGives now line out entered did next → LineGives now line also came done last → OneGift out also did done next last
line_once now line out also entered came did done next last fit (WasKnown known written none nothing is) (WasKnown old wrote empty idle so) =
    record { outs = written ∙ sym wrote; nexts = is ∙ sym so; effect = none_change did done nothing idle }
line_once now line out also entered came did done next last fit (WasKnown known written none nothing is) (WasBeyond new at wrote empty idle so) = absurd (omega (arith, known, new))
line_once now line out also entered came did done next last fit (WasKnown known written none nothing is) (WasRead new within turn after answers held so) = absurd (omega (arith, known, new))
line_once now line out also entered came did done next last fit (WasBeyond new at written none nothing is) (WasKnown known wrote empty idle so) = absurd (omega (arith, known, new))
line_once now line out also entered came did done next last fit (WasBeyond new at written none nothing is) (WasBeyond old there wrote empty idle so) =
    record { outs = written ∙ sym wrote; nexts = is ∙ sym so; effect = none_change did done nothing idle }
line_once now line out also entered came did done next last fit (WasBeyond new at written none nothing is) (WasRead old within turn after answers held so) = absurd (omega (arith, at, within))
line_once now line out also entered came did done next last fit (WasRead new within turn after answers held is) (WasKnown known wrote empty idle so) = absurd (omega (arith, known, new))
line_once now line out also entered came did done next last fit (WasRead new within turn after answers held is) (WasBeyond old at wrote empty idle so) = absurd (omega (arith, at, within))
line_once now line out also entered came did done next last fit (WasRead new within turn after answers held is) (WasRead old low other behind answers_too held_too so) =
    let one = answers_once now.party now.state (suc now.number) line fit turn other out also did done after behind answers answers_too in
    record {
      outs = one.outs;
      nexts = is ∙ ap₂ (λ (n : NodeState) (l : ℕ). record { party = now.party; state = n; known = now.known; last = l; number = suc now.number }) one.nexts
          (last_same (changes_of_each did) (changes_of_each done) now.last (suc now.number) one.effect) ∙ sym so;
      effect = one.effect;
    }
