-- What comes of a line.
use Rattle.std.proofs.Common.{◌≡◌, ◌≢◌, ◌≤◌, ◌<◌, ℕ, suc, ◌+◌, List, [], ◌∷◌, ◌++◌, Option, None, Ok, Err, SomeIff, length, refl, sym, ap, ap₂, subst, ◌∙◌, append-nil, arith}
use Rattle.json_text.specs.Fault.{Read}
use Rattle.json_text.specs.declared.fault.JsonFault.{JsonFault}
use Rattle.node_lines.specs.NodeLines.{node_line_in, one_of}
use Rattle.node_lines.specs.declared.node_line.NodeLine.TheVariants.{Several}
use Rattle.node_runs.specs.DoneLines.{all_line, known_line, refused_line}
use Rattle.node_runs.specs.LineAnswers.{OneEvent, SeveralEvents}
use Rattle.node_steps.specs.declared.fault.NodeFault.TheVariants.{NumbersUsedUp}
use Rattle.ocpi_text.specs.Whole.{max_whole}
use Rattle.ocpi_types.specs.declared.node_events.NodeEvent.{NodeEvent}
use Rattle.stored_nodes.specs.Transactions.{changes_of_each}
use Rattle.world_steps.specs.Steps.{NodeEvent as Deed}
use Rattle.replays.proofs.AnswerLemmas.{enters_nothing}
use Rattle.replays.specs.Answering.{AreAllDone, EventDone, IsLineRead, LineDone, shown, turn_of}
use Rattle.replays.specs.Happenings.{entries_of_line}
use Rattle.replays.specs.LineTurns.{LineGives, WasBeyond, WasKnown, WasRead, behind, counted, last_behind}
use Rattle.replays.specs.declared.answering.Happened.{Happened}
use Rattle.replays.specs.declared.answering.Running.{Running}

pub one_of_fault : (fault : JsonFault) (line : List ℕ) → node_line_in line ≡ Err fault → node_line_in line ≡ one_of (Err fault)
one_of_fault fault line is = is

module _ (before after : Running) (number : ℕ) (line text : List ℕ) (first last : Happened) where
  -- it is one event, or none
  pub one_event : (read : Read NodeEvent) → node_line_in line ≡ one_of read → EventDone before after number None read line [] text first last
      → IsLineRead before after number line text first last
  one_event read is one = record {
    turn = turn_of one.taken;
    out = one.out;
    did = one.did;
    answers = OneEvent read is (one.turns before.party refl);
    written = one.written;
    last = one.last;
    same = one.same;
    enters = one.enters before.party refl line refl;
  }

  -- it is several
  pub several_events : (reads : List (Read NodeEvent)) → node_line_in line ≡ Ok (Several reads) → AreAllDone before after number line reads text first last
      → IsLineRead before after number line text first last
  several_events reads is all = record {
    turn = all.done.turn;
    out = text;
    did = all.done.did;
    answers = SeveralEvents reads is (record { lines = all.done.out; done = all.done.done; written = all.written ∙ ap (λ l. l ++ all_line number (length reads)) all.done.written });
    written = refl;
    last = all.done.last;
    same = all.done.same;
    enters = all.done.enters;
  }

-- a node at a line of that number
abbrev pub at_number : Running → ℕ → Running
at_number r n = record { alloc = r.alloc; node = r.node; party = r.party; opening = r.opening; known = r.known; last = r.last; number = n }

module _ (before after : Running) (line text : List ℕ) (first last : Happened) where
  shown_is : (did : List Deed) (number : ℕ) → (party : after.party ≡ before.party) → after.known ≡ before.known → after.last ≡ last_behind (changes_of_each did) before.last number → after.number ≡ number
      → shown after ≡ behind (shown before) number did after.node
  shown_is did number party known kept at =
      ap₂ (λ (p : List ℕ) (k : ℕ). record { party = p; state = after.node; known = k; last = after.last; number = after.number }) party known
      ∙ ap₂ (λ (l n : ℕ). record { party = before.party; state = after.node; known = before.known; last = l; number = n }) kept at

  pub line_read : before.known ≤ before.number → suc before.number ≤ max_whole → (number : ℕ) → number ≡ suc before.number → IsLineRead (at_number before number) after number line text first last
      → LineDone before after line text first last
  line_read known within number is = λ r. subst (λ n. IsLineRead (at_number before n) after n line text first last → LineDone before after line text first last) (sym is) of r
    where
      of : IsLineRead (at_number before (suc before.number)) after (suc before.number) line text first last → LineDone before after line text first last
      of r = record {
        entered = entries_of_line r.answers;
        did = r.did;
        gives = subst (λ l. LineGives (shown before) line l (entries_of_line r.answers) r.did (shown after)) (sym r.written)
            (WasRead known within r.turn after.node r.answers refl (shown_is r.did (suc before.number) r.same.party r.same.known r.last r.same.number));
        enters = r.enters;
        opening = r.same.opening;
      }

  -- one that had taken hold before the run
  pub line_known : (number : ℕ) → number ≡ suc before.number → number ≤ before.known → text ≡ known_line number → after ≡ at_number before number → last ≡ first → LineDone before after line text first last
  line_known number is known written same entered = record {
    entered = [];
    did = [];
    gives = WasKnown (subst (λ n. n ≤ before.known) is known) (written ∙ ap known_line is) refl refl (ap shown same ∙ ap (λ n. counted (shown before) n) is);
    enters = enters_nothing (suc before.opening) first last (ap (λ (h : Happened). h.entries.items) entered) (ap (λ (h : Happened). h.sources.items) entered);
    opening = ap (λ (r : Running). r.opening) same;
  }

  -- one behind the last number
  pub line_beyond : before.known ≤ before.number → before.number ≡ max_whole → text ≡ refused_line max_whole None NumbersUsedUp → after ≡ before → last ≡ first → LineDone before after line text first last
  line_beyond known at written same entered = record {
    entered = [];
    did = [];
    gives = WasBeyond known at written refl refl (ap shown same);
    enters = enters_nothing (suc before.opening) first last (ap (λ (h : Happened). h.entries.items) entered) (ap (λ (h : Happened). h.sources.items) entered);
    opening = ap (λ (r : Running). r.opening) same;
  }

-- there is no next number
pub no_next : (r : Option ℕ) (within : Type 0) (next : ℕ) → SomeIff r within next → r ≡ None → within → ⊥
no_next r within next only is = subst (λ o. SomeIff o within next) is only
