-- What a node prints for an event is one value.
use Rattle.std.proofs.Common.{◌≡◌, ℕ, List, [], ◌∷◌, ◌++◌, Bool, IsTrue, true, false, inl, refl, sym, ap, subst, ◌∙◌, ◌↔◌, append-nil}
use Rattle.std.specs.Prelude.{◌≢◌, Option, Ok, Err}
use Rattle.ocpi_text.specs.Text.{key}
use Rattle.ocpi_types.specs.declared.node_events.NodeEvent.{NodeEvent}
use Rattle.ocpi_types.specs.declared.rows.Change.{Change}
use Rattle.json_text.specs.declared.fault.JsonFault.{JsonFault}
use Rattle.json_text.specs.Fault.{Read}
use Rattle.answer_laws.specs.Nodes.{IsApart}
use Rattle.history_laws.specs.Replays as entries
use Rattle.line_runs.specs.declared.run.Turn.{Turn}
use Rattle.line_runs.specs.declared.run.Turn.TheVariants.{Taken, Refused}
use Rattle.node_replay.specs.Answers.{Declined, MayAnswer, NodeAnswer, PassedOver, Stepped}
use Rattle.node_runs.specs.DoneLines.{malformed_line, refused_line, skipped_line}
use Rattle.node_runs.specs.LineAnswers as answer
use Rattle.node_runs.specs.LineAnswers.{IsOwn, PlacedTurn, step_line}
use Rattle.program_lines.specs.Writing.{packet_lines}
use Rattle.replay_laws.proofs.Answering.{nodes_have_one_answer}
use Rattle.stored_laws.specs.Nodes.{IsSound}
use Rattle.stored_nodes.specs.Transactions.{changes_of_each}
use Rattle.world_steps.specs.Steps.{NodeEvent as Deed, changes_of, input_of, packets_of}
use Rattle.world_steps.specs.World.{NodeState}
use Rattle.replays.specs.Laws as laws
use Rattle.replays.specs.Laws.{IsOne}

-- what is written by what the node answers, and whether rows change
abbrev IsSaid : NodeState → ℕ → Option ℕ → NodeAnswer → Turn → List ℕ → List Deed → NodeState → Type 0
IsSaid now number place (Stepped packets changed t) turn out did next =
    (turn ≡ Taken) × (out ≡ packet_lines packets ++ step_line number place packets changed) × (next ≡ t) × (IsTrue changed ↔ (changes_of_each did ≢ []))
IsSaid now number place PassedOver turn out did next = (turn ≡ Taken) × (out ≡ skipped_line number place) × (next ≡ now) × (did ≡ [])
IsSaid now number place (Declined why) turn out did next = (turn ≡ Refused) × (out ≡ refused_line number place why) × (next ≡ now) × (did ≡ [])

-- what was read: an event of the node, which answers it; another's; or none
data Comes (party : List ℕ) (now : NodeState) (number : ℕ) (place : Option ℕ) (read : Read NodeEvent) (turn : Turn) (out : List ℕ) (did : List Deed) (next : NodeState) : Type 0 where
  Own : (x : NodeEvent) → IsOwn party read x → (a : NodeAnswer) → MayAnswer now x.kind a → IsSaid now number place a turn out did next → Comes party now number place read turn out did next
  Other : (x : NodeEvent) → read ≡ Ok x → key x.node ≢ key party → turn ≡ Taken → out ≡ skipped_line number place → next ≡ now → did ≡ [] → Comes party now number place read turn out did next
  Bad : (fault : JsonFault) → read ≡ Err fault → turn ≡ Refused → out ≡ malformed_line number place fault → next ≡ now → did ≡ [] → Comes party now number place read turn out did next

no_truth : IsTrue false → ⊥
no_truth is = let bad : false ≡ true = is in cc

-- nothing was done
none_changed : (did : List Deed) → did ≡ [] → changes_of_each did ≡ []
none_changed did none = ap changes_of_each none

-- one step
one_changed : (did : List Deed) (deed : Deed) → did ≡ deed ∷ [] → changes_of_each did ≡ changes_of deed
one_changed did deed is = ap changes_of_each is ∙ append-nil (changes_of deed)

module _ (party : List ℕ) (now : NodeState) (number : ℕ) (place : Option ℕ) (read : Read NodeEvent) where
  comes : (turn : Turn) (out : List ℕ) (did : List Deed) (next : NodeState) → PlacedTurn party now number place read turn out did next → Comes party now number place read turn out did next
  comes turn out did next (answer.WasDone x own deed brings step changed tells taken written done) =
      Own x own (Stepped (packets_of deed) changed next)
      (record {
        own = λ passes. passes.nothing (input_of deed) brings;
        step = entries.EntryStep.Does deed (record { brings = brings; step = step; sends = refl });
        tells = tells;
      })
      (taken, written, refl, subst (λ (l : List Change). IsTrue changed ↔ (l ≢ [])) (sym (one_changed did deed done)) tells)
  comes turn out did next (answer.WasUnstored x own unstored taken written none same) =
      Own x own (Stepped [] false now)
      (record {
        own = λ passes. passes.taken unstored;
        step = entries.EntryStep.Idle (record { why = inl unstored; sends = refl; same = refl });
        tells = ((λ changed. absurd (no_truth changed)), (λ x. absurd x));
      })
      (taken, written, same, ((λ changed. absurd (no_truth changed)), (λ some. absurd (some (none_changed did none)))))
  comes turn out did next (answer.IsElsewhere x is other taken written none same) = Other x is other taken written same none
  comes turn out did next (answer.IsOfOtherRole x own stored nothing taken written none same) =
      Own x own PassedOver (record { taken = stored; nothing = nothing }) (taken, written, same, none)
  comes turn out did next (answer.IsMalformed fault is other refused written none same) = Bad fault is refused written same none
  comes turn out did next (answer.IsRefused x own input brings fault refuses other refused written none same) =
      Own x own (Declined fault) (record { input = input; brings = brings; refuses = refuses; other = other }) (refused, written, same, none)

  module _ (turn other : Turn) (out also : List ℕ) (did done : List Deed) (next last : NodeState) where
    both_none : did ≡ [] → done ≡ [] → (changes_of_each did ≢ []) ↔ (changes_of_each done ≢ [])
    both_none none nothing = ((λ some. absurd (some (none_changed did none))), (λ some. absurd (some (none_changed done nothing))))

    one_said : (a : NodeAnswer) → IsSaid now number place a turn out did next → IsSaid now number place a other also done last → IsOne turn other out also did done next last
    one_said (Stepped packets changed t) (taken, written, left, tells) (took, wrote, leaves, told) = record {
      turns = taken ∙ sym took;
      outs = written ∙ sym wrote;
      nexts = left ∙ sym leaves;
      effect = ((λ some. told.0 (tells.1 some)), (λ some. tells.0 (told.1 some)));
    }
    one_said PassedOver (taken, written, left, none) (took, wrote, leaves, nothing) = record {
      turns = taken ∙ sym took;
      outs = written ∙ sym wrote;
      nexts = left ∙ sym leaves;
      effect = both_none none nothing;
    }
    one_said (Declined why) (taken, written, left, none) (took, wrote, leaves, nothing) = record {
      turns = taken ∙ sym took;
      outs = written ∙ sym wrote;
      nexts = left ∙ sym leaves;
      effect = both_none none nothing;
    }

    same_event : (x y : NodeEvent) → read ≡ Ok x → read ≡ Ok y → x ≡ y
    same_event x y is also_is = let both = sym is ∙ also_is in cc

    no_event : {X : Type 0} (x : NodeEvent) (f : JsonFault) → read ≡ Ok x → read ≡ Err f → X
    no_event x f is bad = absurd (let both = sym is ∙ bad in cc)

    not_both : {X : Type 0} (x y : NodeEvent) → IsOwn party read x → read ≡ Ok y → key y.node ≢ key party → X
    not_both x y own is apart = absurd (apart (ap (λ (z : NodeEvent). key z.node) (sym (same_event x y own.is is)) ∙ own.same))

    one_comes : IsSound now → IsApart now → Comes party now number place read turn out did next → Comes party now number place read other also done last → IsOne turn other out also did done next last
    one_comes sound apart (Own x own a may said) (Own y mine b can told) =
        let same : x ≡ y = same_event x y own.is mine.is in
        let one : a ≡ b = nodes_have_one_answer now y.kind sound apart a b (subst (λ (z : NodeEvent). MayAnswer now z.kind a) same may) can in
        one_said b (subst (λ z. IsSaid now number place z turn out did next) one said) told
    one_comes sound apart (Own x own a may said) (Other y is foreign took wrote leaves nothing) = not_both x y own is foreign
    one_comes sound apart (Own x own a may said) (Bad f is took wrote leaves nothing) = no_event x f own.is is
    one_comes sound apart (Other x is foreign taken written left none) (Own y mine b can told) = not_both y x mine is foreign
    one_comes sound apart (Other x is foreign taken written left none) (Other y stands distant took wrote leaves nothing) = record {
      turns = taken ∙ sym took;
      outs = written ∙ sym wrote;
      nexts = left ∙ sym leaves;
      effect = both_none none nothing;
    }
    one_comes sound apart (Other x is foreign taken written left none) (Bad f stands took wrote leaves nothing) = no_event x f is stands
    one_comes sound apart (Bad f is taken written left none) (Own y mine b can told) = no_event y f mine.is is
    one_comes sound apart (Bad f is taken written left none) (Other y stands distant took wrote leaves nothing) = no_event y f stands is
    one_comes sound apart (Bad f is taken written left none) (Bad g stands took wrote leaves nothing) =
        let same : f ≡ g = let both = sym is ∙ stands in cc in
        record {
          turns = taken ∙ sym took;
          outs = written ∙ ap (malformed_line number place) same ∙ sym wrote;
          nexts = left ∙ sym leaves;
          effect = both_none none nothing;
        }

pub events_give_one_value : laws.EventsGiveOneValue
events_give_one_value party now number place read turn other out also did done next last sound apart one two =
    one_comes party now number place read turn other out also did done next last sound apart (comes party now number place read turn out did next one) (comes party now number place read other also done last two)
