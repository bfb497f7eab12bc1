-- What a line of `node` gives, from what its parts give.
use Rattle.std.proofs.Common.{◌≡◌, ◌≢◌, ◌++◌, ◌∙◌, ℕ, List, [], ◌∷◌, Bool, true, Option, Some, None, Ok, Err, refl, sym, ap, subst, inl, inr}
use Rattle.std.proofs.lemmas.List.{append-nil}
use Rattle.ocpi_text.specs.Text.{key}
use Rattle.ocpi_types.specs.declared.node_events.NodeEvent.{NodeEvent}
use Rattle.ocpi_types.specs.declared.packet.Packet.{Packet}
use Rattle.ocpi_types.specs.declared.rows.Change.{Change}
use Rattle.json_text.specs.Fault.{Fails, Read}
use Rattle.json_text.specs.declared.fault.JsonFault.{JsonFault}
use Rattle.json_text.specs.declared.fault.JsonFault.TheVariants.{Memory as LineMemory}
use Rattle.json_text.specs.declared.fault.JsonFault.TheVariants as line
use Rattle.node_lines.specs.NodeLines.{node_line_in, one_of}
use Rattle.node_lines.specs.declared.node_line.NodeLine.{NodeLine}
use Rattle.node_lines.specs.declared.node_line.NodeLine.TheVariants.{One}
use Rattle.line_runs.specs.declared.run.Turn.{Turn}
use Rattle.line_runs.specs.declared.run.Turn.TheVariants.{Refused, Taken}
use Rattle.node_steps.specs.declared.fault.NodeFault.{NodeFault}
use Rattle.node_store.specs.Faults.{counted_fault}
use Rattle.node_store.specs.declared.fault.StoreFault.{StoreFault}
use Rattle.stored_nodes.specs.Keepers.{Commits, Declines, Keeper, Nothing}
use Rattle.stored_nodes.specs.Stored.{Applies, Fails as FailsToApply, Refuses, Stored}
use Rattle.stored_nodes.specs.Transactions.{changes_of_each}
use Rattle.stored_nodes.specs.declared.fault.ApplyFault.TheVariants as apply
use Rattle.stored_nodes.specs.declared.stored_node.Applied.{Applied}
use Rattle.stored_nodes.specs.declared.stored_node.Applied.TheVariants.{Skipped, Stepped}
use Rattle.world_steps.specs.Steps.{NodeEvent as Deed, changes_of, packets_of}
use Rattle.program_lines.specs.Writing.{packet_lines}
use Rattle.node_runs.specs.Afters.{IsAnswered, IsFaultTold, IsToldAs}
use Rattle.node_runs.specs.declared.event_lines.Answered.{Answered}
use Rattle.stored_nodes.specs.declared.fault.ApplyFault.{ApplyFault}
use Rattle.node_runs.specs.DoneLines.{idle_line, malformed_line, opened_line, refused_line, skipped_line}
use Rattle.node_runs.specs.LineAnswers.{IsOwn, OneEvent, PlacedTurn, applied_lines, step_line}
use Rattle.node_runs.specs.LineAnswers as lines
use Rattle.node_runs.specs.NodeAnswers.{LineTurn, LosesLine, WasDeclined}
use Rattle.node_runs.specs.NodeTurns.{Begins, IsMember, Opened, OpensNode, Running, SetupTurn, Stage, Untold, first_place, number_from, opened_stage}
use Rattle.node_runs.specs.SetupLines.{IsBase, numbered_setup_in}
use Rattle.node_runs.specs.Stages.{IsOpenedWith, begun_stage}
use Rattle.node_runs.specs.Stages as stages
use Rattle.node_runs.specs.declared.beginning.Begun.{Begun}
use Rattle.node_runs.specs.declared.fault.NodeStop.{NodeStop}
use Rattle.node_runs.specs.declared.fault.NodeStop.TheVariants.{Memory}
use Rattle.node_keepers.specs.Opening.{Source}
use Rattle.ocpi_types.specs.Setups.{party_of}
use Rattle.ocpi_types.specs.declared.setup.Node.{Node}
use Rattle.stored_laws.specs.Nodes.{last_serial}
use Rattle.std.specs.Prelude.{◌≤◌}
use Rattle.node_runs.specs.declared.fault.NodeStop.TheVariants.{Store}

-- the changes of one deed alone
changes_of_one : (x : Deed) → changes_of_each (x ∷ []) ≡ changes_of x
changes_of_one x = append-nil (changes_of x)

module _ {K : Type 0} (keeper : Keeper K) (now : Running K) (number : ℕ) (text : List ℕ) where
  -- nothing was done
  idly : (read : Read NodeEvent) → node_line_in text ≡ one_of read → (turn : Turn) (out : List ℕ) (next : Running K) → next.party ≡ now.party → next.node ≡ now.node
      → PlacedTurn now.party now.node.state number None read turn out [] next.node.state → LineTurn keeper now number text turn out next
  idly read is turn out next party same turns = record {
    did = [];
    answers = OneEvent read is turns;
    commits = Nothing refl (ap (λ (n : Stored K). n.keep) same);
    party = party;
  }

  -- the line is no event
  pub malformed : (fault : JsonFault) → Fails fault (node_line_in text) → fault ≢ LineMemory → LineTurn keeper now number text Refused (malformed_line number None fault) now
  malformed fault fails other =
      let is = fails_so fault (node_line_in text) fails other in
      idly (Err fault) is Refused (malformed_line number None fault) now refl refl (lines.IsMalformed fault refl other refl refl refl refl)
    where
      fails_so : (fault : JsonFault) (read : Read NodeLine) → Fails fault read → fault ≢ LineMemory → read ≡ Err fault
      fails_so line.Memory read fails other = absurd (other refl)
      fails_so line.Syntax read fails other = fails
      fails_so line.BadNumberToken read fails other = fails
      fails_so line.TaggedText read fails other = fails
      fails_so (line.Missing f) read fails other = fails
      fails_so (line.WrongForm f) read fails other = fails
      fails_so (line.UnknownWord f) read fails other = fails
      fails_so line.UnknownKind read fails other = fails

  module _ (x : NodeEvent) (read : node_line_in text ≡ Ok (One x)) where
    -- it is another node's
    pub elsewhere : key x.node ≢ key now.party → LineTurn keeper now number text Taken (skipped_line number None) now
    elsewhere other = idly (Ok x) read Taken (skipped_line number None) now refl refl (lines.IsElsewhere x refl other refl refl refl refl)

    module _ (same : key x.node ≡ key now.party) (node : Stored K) where
      own : IsOwn now.party (Ok x) x
      own = record { is = refl; same = same }

      abbrev next : Running K
      next = record { party = now.party; node = node }

      -- what comes of an event that was not refused
      pub applied : (a : Applied) → Applies keeper (Some number) now.node x.kind a node → LineTurn keeper now number text Taken (applied_lines number None a) next
      applied Skipped passes =
          idly (Ok x) read Taken (skipped_line number None) next refl passes.same
          (lines.IsOfOtherRole x own passes.taken passes.nothing refl refl refl (ap (λ (n : Stored K). n.state) passes.same))
      applied (Stepped packets changed) (inl d) = record {
        did = d.event ∷ [];
        answers = OneEvent (Ok x) read (lines.WasDone x own d.event d.brings d.step changed d.tells refl
            (ap (λ (ps : List Packet). packet_lines ps ++ step_line number None ps changed) d.sends) refl);
        commits = subst (λ (cs : List Change). Commits keeper (Some number) cs now.node.keep node.keep) (sym (changes_of_one d.event)) d.commits;
        party = refl;
      }
      applied (Stepped packets changed) (inr none) =
          let out : packet_lines packets.items ++ step_line number None packets.items changed ≡ idle_line number None =
          ap (λ (ps : List Packet). packet_lines ps ++ step_line number None ps changed) none.1 ∙ ap (λ (b : Bool). packet_lines [] ++ step_line number None [] b) none.2 in
          idly (Ok x) read Taken (applied_lines number None (Stepped packets changed)) next refl none.3
          (lines.WasUnstored x own none.0 refl out refl (ap (λ (n : Stored K). n.state) none.3))

      -- what comes of one that the node refuses
      pub refused : (fault : NodeFault) → Refuses now.node x.kind fault node → LineTurn keeper now number text Refused (refused_line number None fault) next
      refused fault r =
          idly (Ok x) read Refused (refused_line number None fault) next refl r.same
          (lines.IsRefused x own r.input r.brings fault r.refuses r.other refl refl refl (ap (λ (n : Stored K). n.state) r.same))

      -- and of one whose changes the keeper did not take
      pub declined : (fault : StoreFault) → FailsToApply keeper (Some number) now.node x.kind (apply.Store fault) node → LosesLine keeper now number text (Store fault) node.keep
      declined fault fails =
          let l = fails.1 in
          let some : changes_of_each (l.event ∷ []) ≢ [] = λ none. l.some (sym (changes_of_one l.event) ∙ none) in
          let out : List ℕ = packet_lines (packets_of l.event) ++ step_line number None (packets_of l.event) true in
          let turns : PlacedTurn now.party now.node.state number None (Ok x) Taken out (l.event ∷ []) l.after =
          lines.WasDone x own l.event l.brings l.step true (λ is. l.some, λ is. refl) refl refl refl in
          WasDeclined Taken out (l.event ∷ []) l.after (OneEvent (Ok x) read turns) some fault fails.0
          (subst (λ (cs : List Change). Declines keeper (Some number) cs (counted_fault fault) now.node.keep node.keep) (sym (changes_of_one l.event)) l.declines) refl

-- ---- what is answered of an event

told_line : {K : Type 0} (keeper : Keeper K) (now next : Running K) (number : ℕ) (text : List ℕ) (turn : Turn) (out before after : List ℕ) (a : Answered) → IsToldAs turn out before after a
    → LineTurn keeper now number text turn out next → IsAnswered keeper now number text before after a next
told_line keeper now next number text turn out before after a (inl untold) is =
    subst (λ (b : Answered). IsAnswered keeper now number text before after b next) (sym untold) (turn, out, is)
told_line keeper now next number text turn out before after a (inr told) is =
    subst (λ (b : Answered). IsAnswered keeper now number text before after b next) (sym told.0) (out, told.1, is)

module _ {K : Type 0} (keeper : Keeper K) (now : Running K) (number : ℕ) (text : List ℕ) (x : NodeEvent) (read : node_line_in text ≡ Ok (One x)) (before after : List ℕ) (a : Answered) where
  pub answered_elsewhere : key x.node ≢ key now.party → IsToldAs Taken (skipped_line number None) before after a → IsAnswered keeper now number text before after a now
  answered_elsewhere other told = told_line keeper now now number text Taken (skipped_line number None) before after a told (elsewhere keeper now number text x read other)

  module _ (same : key x.node ≡ key now.party) (node : Stored K) where
    abbrev Behind : Running K
    Behind = record { party = now.party; node = node }

    pub answered_applied : (did : Applied) → Applies keeper (Some number) now.node x.kind did node → IsToldAs Taken (applied_lines number None did) before after a
        → IsAnswered keeper now number text before after a Behind
    answered_applied did applies told =
        told_line keeper now Behind number text Taken (applied_lines number None did) before after a told (applied keeper now number text x read same node did applies)

    pub answered_fault : (fault : ApplyFault) → FailsToApply keeper (Some number) now.node x.kind fault node → IsFaultTold number fault before after a
        → IsAnswered keeper now number text before after a Behind
    answered_fault (apply.Store fault) fails told =
        subst (λ (b : Answered). IsAnswered keeper now number text before after b Behind) (sym told) (declined keeper now number text x read same node fault fails)
    answered_fault (apply.Core fault) fails told =
        told_line keeper now Behind number text Refused (refused_line number None fault) before after a told (refused keeper now number text x read same node fault fails)
    answered_fault apply.Memory fails told =
        subst (λ (b : Answered). IsAnswered keeper now number text before after b Behind) (sym told) (ap (λ (n : Stored K). record { party = now.party; node = n }) fails)

-- ---- the setup

-- the number from which lines are counted on is 1 or more
pub counted_from : (base : Option ℕ) (last : ℕ) → IsBase base → 1 ≤ last → 1 ≤ number_from base last
counted_from None last is least = least
counted_from (Some n) last is least = is

module _ {K : Type 0} (keeper : Keeper K) (source : Source K) (s : Stage K) (line : List ℕ) (setup : List Node) (base : Option ℕ) (reads : numbered_setup_in line ≡ Ok (setup, base))
    (member : Node) (asked : IsMember setup s.wanted member) (b : Begun K) (party : b.running.party ≡ party_of member) (begins : Begins keeper source setup member b.rows b.line b.running.node)
    (opened : List ℕ) (places : opened ≡ s.opened ++ first_place) where
  abbrev Opening : OpensNode keeper source s.wanted line
  Opening = record { setup = setup; base = base; reads = reads; member = member; asked = asked; rows = b.rows; last = b.line; node = b.running.node; begins = begins }

  abbrev Left : Stage K
  Left = record { wanted = s.wanted; opened = opened; running = s.running; spare = s.spare; stop = s.stop; number = s.number; known = s.known }

  stage_is : (stop : Option NodeStop) → begun_stage Left b base stop ≡ opened_stage s Opening stop
  stage_is stop = λ i. record {
    wanted = s.wanted;
    opened = places i;
    running = Some (record { party = party i; node = b.running.node });
    spare = s.spare;
    stop = stop;
    number = number_from base b.line;
    known = b.line;
  }

  pub opened_turn : (before after : List ℕ) (turn : Turn) (t : Stage K) → IsOpenedWith Left b base before after turn t
      → (out : List ℕ) × (after ≡ before ++ out) × SetupTurn keeper source s line turn out t
  opened_turn before after turn t (stages.IsTold taken wrote left) = (
    opened_line b.line (party_of member) b.rows (last_serial b.running.node.state),
    wrote ∙ ap (λ (p : List ℕ). before ++ opened_line b.line p b.rows (last_serial b.running.node.state)) party,
    Opened Opening taken refl (left ∙ stage_is s.stop),
  )
  opened_turn before after turn t (stages.IsUntold ended same left) = ([], same ∙ sym (append-nil before), Untold Opening ended refl (left ∙ stage_is (Some Memory)))
