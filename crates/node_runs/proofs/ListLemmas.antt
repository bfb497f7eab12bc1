-- What a line of several events gives, from what each of them gives.
use Rattle.std.proofs.Common.{◌≡◌, ◌≢◌, ◌++◌, ◌∙◌, ◌+◌, ◌<◌, ℕ, Bool, true, false, List, [], ◌∷◌, Some, Ok, Err, refl, sym, ap, subst, inl, inr, arith, length, take, get_or, take_all}
use Rattle.std.proofs.lemmas.Grind.{flat_map-append}
use Rattle.std.proofs.lemmas.List.{append-nil, append_assoc, length-take-le, take_more}
use Rattle.ocpi_text.specs.Text.{key}
use Rattle.ocpi_types.specs.declared.node_events.NodeEvent.{NodeEvent}
use Rattle.ocpi_types.specs.declared.packet.Packet.{Packet}
use Rattle.ocpi_types.specs.declared.rows.Change.{Change}
use Rattle.json_text.specs.Fault.{Fails, Read}
use Rattle.json_text.specs.declared.fault.JsonFault.{JsonFault}
use Rattle.json_text.specs.declared.fault.JsonFault.TheVariants.{Memory as LineMemory}
use Rattle.json_text.specs.declared.fault.JsonFault.TheVariants as line
use Rattle.line_runs.specs.declared.run.Turn.{Turn}
use Rattle.line_runs.specs.declared.run.Turn.TheVariants.{Taken, Refused}
use Rattle.node_steps.specs.declared.fault.NodeFault.{NodeFault}
use Rattle.world_steps.specs.Steps.{NodeEvent as Deed, changes_of}
use Rattle.stored_nodes.specs.Transactions.{AppliesInMemory, FailsInMemory, Pending, RefusesInMemory, changes_of_each}
use Rattle.stored_nodes.specs.declared.fault.StepFault.{StepFault}
use Rattle.stored_nodes.specs.declared.fault.StepFault.TheVariants as step
use Rattle.stored_nodes.specs.declared.stored_node.Applied.{Applied}
use Rattle.stored_nodes.specs.declared.stored_node.Applied.TheVariants.{Skipped, Stepped}
use Rattle.program_lines.specs.Writing.{packet_lines}
use Rattle.node_runs.specs.Afters.{DoesAll, DoesPlaced, TellsRefusal, turn_behind, turn_of}
use Rattle.node_runs.specs.DoneLines.{all_line, idle_line, malformed_line, refused_line, skipped_line}
use Rattle.node_runs.specs.LineAnswers.{AreDone, IsOwn, PlacedTurn, applied_lines, none_done, one_refused, one_taken, step_line}
use Rattle.node_runs.specs.LineAnswers as lists

-- ---- one event

module _ {K : Type 0} (party : List ℕ) (old new : Pending K) (number place : ℕ) (read : Read NodeEvent) (before after : List ℕ) where
  -- nothing was done
  idly : (taken : Bool) (out : List ℕ) → new ≡ old → after ≡ before ++ out → PlacedTurn party old.state number (Some place) read (turn_of taken) out [] new.state
      → DoesPlaced party old number place read taken before after new
  idly taken out same wrote is = record {
    did = [];
    out = out;
    is = is;
    gathers = ap (λ (p : Pending K). p.changes) same ∙ sym (append-nil old.changes);
    written = wrote;
  }

  -- it is another node's
  pub elsewhere : (x : NodeEvent) → read ≡ Ok x → key x.node ≢ key party → new ≡ old → after ≡ before ++ skipped_line number (Some place)
      → DoesPlaced party old number place read true before after new
  elsewhere x is other same wrote =
      idly true (skipped_line number (Some place)) same wrote (lists.IsElsewhere x is other refl refl refl (ap (λ (p : Pending K). p.state) same))

  -- it is none
  pub malformed : (fault : JsonFault) → read ≡ Err fault → fault ≢ LineMemory → new ≡ old → after ≡ before ++ malformed_line number (Some place) fault
      → DoesPlaced party old number place read false before after new
  malformed fault is other same wrote =
      idly false (malformed_line number (Some place) fault) same wrote (lists.IsMalformed fault is other refl refl refl (ap (λ (p : Pending K). p.state) same))

  module _ (x : NodeEvent) (own : IsOwn party read x) where
    -- the node refuses it
    refused : (fault : NodeFault) → RefusesInMemory old x.kind fault new → after ≡ before ++ refused_line number (Some place) fault
        → DoesPlaced party old number place read false before after new
    refused fault r wrote =
        idly false (refused_line number (Some place) fault) r.same wrote
        (lists.IsRefused x own r.input r.brings fault r.refuses r.other refl refl refl (ap (λ (p : Pending K). p.state) r.same))

    -- for this reason
    pub step_refused : (f : StepFault) → FailsInMemory old x.kind f new → TellsRefusal number place f before after
        → DoesPlaced party old number place read false before after new
    step_refused (step.Core fault) r told = refused fault r told
    step_refused step.Memory r told = absurd told

    -- it does it, or passes it over
    pub applied : (a : Applied) → AppliesInMemory old x.kind a new → after ≡ before ++ applied_lines number (Some place) a
        → DoesPlaced party old number place read true before after new
    applied Skipped passes wrote =
        idly true (skipped_line number (Some place)) passes.same wrote
        (lists.IsOfOtherRole x own passes.taken passes.nothing refl refl refl (ap (λ (p : Pending K). p.state) passes.same))
    applied (Stepped packets changed) (inl d) wrote = record {
      did = d.event ∷ [];
      out = packet_lines packets.items ++ step_line number (Some place) packets.items changed;
      is = lists.WasDone x own d.event d.brings d.step changed d.tells refl
          (ap (λ (ps : List Packet). packet_lines ps ++ step_line number (Some place) ps changed) d.sends) refl;
      gathers = d.gathers ∙ ap (λ (cs : List Change). old.changes ++ cs) (sym (append-nil (changes_of d.event)));
      written = wrote;
    }
    applied (Stepped packets changed) (inr none) wrote =
        let out : packet_lines packets.items ++ step_line number (Some place) packets.items changed ≡ idle_line number (Some place) =
        ap (λ (ps : List Packet). packet_lines ps ++ step_line number (Some place) ps changed) none.1
        ∙ ap (λ (b : Bool). packet_lines [] ++ step_line number (Some place) [] b) none.2 in
        idly true (idle_line number (Some place)) none.3 (wrote ∙ ap (λ (s : List ℕ). before ++ s) out)
        (lists.WasUnstored x own none.0 refl refl refl (ap (λ (p : Pending K). p.state) none.3))

-- ---- one after another

-- so far
pub record DoneSoFar {K : Type 0} (party : List ℕ) (first : Pending K) (number : ℕ) (events : List (Read NodeEvent)) (place : ℕ) (turn : Turn)
    (before after : List ℕ) (p : Pending K) : Type 0 where
  pub did : List Deed
  pub out : List ℕ
  pub done : AreDone party first.state number (take place events) turn out did p.state
  pub gathers : p.changes ≡ first.changes ++ changes_of_each did
  pub written : after ≡ before ++ out

pub none_yet : {K : Type 0} (party : List ℕ) (p : Pending K) (number : ℕ) (events : List (Read NodeEvent)) (before : List ℕ)
    → DoneSoFar party p number events 0 Taken before before p
none_yet party p number events before = record {
  did = [];
  out = [];
  done = none_done;
  gathers = sym (append-nil p.changes);
  written = sym (append-nil before);
}

module _ {K : Type 0} (party : List ℕ) (first old new : Pending K) (number : ℕ) (events : List (Read NodeEvent)) (place : ℕ) (d : Read NodeEvent)
    (before between after : List ℕ) (within : place < length events) where
  at_place : (turn : Turn) (out : List ℕ) (did : List Deed) → PlacedTurn party old.state number (Some place) (get_or events place d) turn out did new.state
      → PlacedTurn party old.state number (Some (length (take place events))) (get_or events place d) turn out did new.state
  at_place turn out did is =
      subst (λ (n : ℕ). PlacedTurn party old.state number (Some n) (get_or events place d) turn out did new.state) (sym (length-take-le place events (omega (arith, within)))) is

  more : (turn later : Turn) (taken : Bool) (so : DoneSoFar party first number events place turn before between old)
      (one : DoesPlaced party old number place (get_or events place d) taken between after new)
      → AreDone party first.state number (take place events ++ get_or events place d ∷ []) later (so.out ++ one.out) (so.did ++ one.did) new.state
      → DoneSoFar party first number events (place + 1) later before after new
  more turn later taken so one done = record {
    did = so.did ++ one.did;
    out = so.out ++ one.out;
    done = subst (λ (es : List (Read NodeEvent)). AreDone party first.state number es later (so.out ++ one.out) (so.did ++ one.did) new.state) (sym (take_more events place d within)) done;
    gathers = one.gathers ∙ ap (λ (cs : List Change). cs ++ changes_of_each one.did) so.gathers
        ∙ append_assoc first.changes (changes_of_each so.did) (changes_of_each one.did)
        ∙ ap (λ (cs : List Change). first.changes ++ cs) (sym (flat_map-append changes_of so.did one.did));
    written = one.written ∙ ap (λ (s : List ℕ). s ++ one.out) so.written ∙ append_assoc before so.out one.out;
  }

  -- one more was taken
  taken_too : (turn : Turn) → DoneSoFar party first number events place turn before between old
      → DoesPlaced party old number place (get_or events place d) true between after new → DoneSoFar party first number events (place + 1) turn before after new
  taken_too turn so one = more turn turn true so one (one_taken so.done (at_place Taken one.out one.did one.is))

  -- one more was malformed or refused
  refused_too : (turn : Turn) → DoneSoFar party first number events place turn before between old
      → DoesPlaced party old number place (get_or events place d) false between after new → DoneSoFar party first number events (place + 1) Refused before after new
  refused_too turn so one = more turn Refused false so one (one_refused so.done (at_place Refused one.out one.did one.is))

  -- one more was answered
  pub one_more : (turn : Turn) (taken : Bool) → DoneSoFar party first number events place turn before between old
      → DoesPlaced party old number place (get_or events place d) taken between after new
      → DoneSoFar party first number events (place + 1) (turn_behind turn taken) before after new
  one_more turn true so one = taken_too turn so one
  one_more turn false so one = refused_too turn so one

-- a refusal that is not want of memory was due
pub refusal_due : {X : Type 0} (fault : JsonFault) (read : Read X) → fault ≢ LineMemory → Fails fault read → read ≡ Err fault
refusal_due line.Memory read other fails = absurd (other refl)
refusal_due line.Syntax read other fails = fails
refusal_due line.BadNumberToken read other fails = fails
refusal_due line.TaggedText read other fails = fails
refusal_due (line.Missing field) read other fails = fails
refusal_due (line.WrongForm field) read other fails = fails
refusal_due (line.UnknownWord field) read other fails = fails
refusal_due line.UnknownKind read other fails = fails

-- and all
pub all_done : {K : Type 0} (party : List ℕ) (first p : Pending K) (number : ℕ) (events : List (Read NodeEvent)) (place : ℕ) (turn : Turn) (before between after : List ℕ)
    → place ≡ length events → DoneSoFar party first number events place turn before between p → after ≡ between ++ all_line number (length events)
    → DoesAll party first number events turn before after p
all_done party first p number events place turn before between after last so wrote = record {
  did = so.did;
  out = so.out ++ all_line number (length events);
  carries = record {
    lines = so.out;
    done = subst (λ (es : List (Read NodeEvent)). AreDone party first.state number es turn so.out so.did p.state) (take_all place events (omega (arith, last))) so.done;
    written = refl;
  };
  gathers = so.gathers;
  written = wrote ∙ ap (λ (s : List ℕ). s ++ all_line number (length events)) so.written ∙ append_assoc before so.out (all_line number (length events));
}
