-- All that happened at nodes in runs, and what these wrote of it.
use Rattle.std.specs.FinMap.{empty, get-empty}
use Rattle.std.proofs.Common.{◌≡◌, ◌∙◌, ◌+◌, ℕ, zero, suc, List, [], ◌∷◌, ◌++◌, inl, inr, length, map, refl, sym, ap, subst, append_assoc, append-nil}
use Rattle.std.specs.Prelude.{Contains}
use Rattle.std.proofs.lemmas.List.Elements.{Contains-append_cases, Contains-append_left, Contains-append_right}
use Rattle.feeding_laws.proofs.Exactly.{alike_rows}
use Rattle.feeding_laws.proofs.Fed.{done_on}
use Rattle.feeding_laws.specs.Fed.{FedRunsAreTold}
use Rattle.feeding_laws.specs.Feeding.{AreRuns, Began, Behind, Held, Leaves, NotBegun, One_more, Ran, all_did, did_in, none_ran, one_ran}
use Rattle.network_laws.specs.Steps.{NodeHappens}
use Rattle.node_keepers.specs.Opening.{Source}
use Rattle.node_laws.proofs.Runs.{run_join}
use Rattle.node_laws.specs.Runs.{Run}
use Rattle.node_rows.specs.Laws.{EmptyIsHeld}
use Rattle.node_runs.proofs.HistoryLemmas.{line_run}
use Rattle.node_runs.specs.NumberedRuns.{Carries, IsKnown, IsRead, Numbered, Takes, all_done, none_carried, one_carried}
use Rattle.node_store.specs.Contents.{line_place, number_kept}
use Rattle.ocpi_types.specs.declared.setup.Node.{Node}
use Rattle.reopening_laws.proofs.Nodes.{nodes_reopen, nodes_stay}
use Rattle.reopening_laws.specs.Nodes.{IsAlike, start_of}
use Rattle.stored_laws.specs.Nodes.{NodesCanStartAgain, OpeningsCanStartAgain, restarted}
use Rattle.stored_nodes.specs.Keepers.{Keeper}
use Rattle.tables.proofs.Elements.{in_front, in_later}
use Rattle.tables.specs.Keys.{text_pair_cmp}
use Rattle.world_laws.specs.Laws.{IsSetup}
use Rattle.world_steps.specs.Steps.{NodeEvent, NodeStep}
use Rattle.world_steps.specs.World.{NodeState, opening_of}
use Rattle.fed_networks.proofs.Living.{Lived, lived_on}
use Rattle.fed_networks.proofs.Merging.{Running, histories_form_networks}
use Rattle.fed_networks.specs.Fed.{AreAllTold, FedNode, FedNodesAreTold, IsTold}
use Rattle.fed_networks.specs.Laws.{AreNodes}
use Rattle.fed_networks.specs.Lives.{History, NodeSetups, events_behind, events_in, events_of_runs}

-- ---- one run

takes_run : {party : List ℕ} {known number : ℕ} {line : List ℕ} {now : NodeState} {out : List ℕ} {did : List NodeEvent} {next : NodeState}
    → Takes party known number line now out did next → Run NodeStep now did next
takes_run {now = now} {next = next} (IsKnown is written none same) = subst (λ (did : List NodeEvent). Run NodeStep now did next) (sym none) same
takes_run (IsRead new turn answers) = line_run answers

carries_run : {party : List ℕ} {known base : ℕ} {first : NodeState} {read : List (List ℕ)} {xs : List Numbered} {now : NodeState}
    → Carries party known base first read xs now → Run NodeStep first (all_done xs) now
carries_run none_carried = refl
carries_run {base = base} {first = first} (one_carried {before = before} {xs = xs} {now = now} {next = next} {did = did} earlier takes) =
    subst (λ (l : List NodeEvent). Run NodeStep first l next) (sym (done_on xs (suc (base + length before)) did))
    (run_join NodeStep first now next (all_done xs) did (carries_run earlier) (takes_run takes))

module _ (again : NodesCanStartAgain) (member : Node) where
  -- where the node has the rows that the store has
  record Stays (first : NodeState) (es : List NodeEvent) (left : Held) : Type 0 where
    now : NodeState
    lived : Lived member first es now
    same : restarted left.state ≡ restarted now

  behind : {party : List ℕ} {lines : ℕ → List ℕ} {known last : ℕ} {did : List Numbered} {now : NodeState} {left : Held} {changed : List ℕ} (leaves : Leaves party lines known last did now left changed)
      → (first : NodeState) (es : List NodeEvent) → Lived member first es now → Stays first (es ++ events_behind leaves) left
  behind {now = now} (Behind changed are same) first es h =
      record { now = now; lived = subst (λ (l : List NodeEvent). Lived member first l now) (sym (append-nil es)) h; same = same }
  behind {now = now} (One_more changed before are new turn out more after answers some same is) first es h =
      record { now = after; lived = lived_on again member first now after es more h (line_run answers); same = same }

  ran_on : {setup : List Node} {other : Node} {lines : ℕ → List ℕ} {found left : Held} {base : ℕ} {read : List (List ℕ)} {changed : List ℕ} (ran : Ran setup other lines found base read changed left)
      → IsAlike member other → (first : NodeState) (es : List NodeEvent) → Stays first es found → Stays first (es ++ events_in ran) left
  ran_on {found = found} NotBegun alike first es h = subst (λ (l : List NodeEvent). Stays first l found) (sym (append-nil es)) h
  ran_on {setup = setup} {other = other} {found = found} {left = left} (Began start opens are did now carries leaves) alike first es h =
      let s = nodes_reopen setup member other h.now start opens.rows alike (alike_rows opens.rows found.state h.now h.same opens.are) opens.made h.lived.can opens.again h.lived.own in
      let begun : Lived member first (es ++ start_of setup other ∷ []) start = record {
        run = run_join NodeHappens first h.now start es (start_of setup other ∷ []) h.lived.run (start, s.0, refl);
        can = opens.again;
        own = s.1;
      } in
      let gone = lived_on again member first start now (es ++ start_of setup other ∷ []) (all_done did) begun (carries_run carries) in
      subst (λ (l : List NodeEvent). Stays first l left)
      (append_assoc (es ++ start_of setup other ∷ []) (all_done did) (events_behind leaves) ∙ append_assoc es (start_of setup other ∷ []) (all_done did ++ events_behind leaves))
      (behind leaves first ((es ++ start_of setup other ∷ []) ++ all_done did) gone)

  all_ran : {setups : List (List Node × Node)} {lines : ℕ → List ℕ} {first left : Held} {seen : ℕ} {changed : List ℕ} (runs : AreRuns setups lines first seen changed left)
      → ((setup : List Node) (other : Node) → Contains setups (setup, other) → IsAlike member other) → Stays first.state [] first → Stays first.state (events_of_runs runs) left
  all_ran none_ran alike h = h
  all_ran {first = first} (one_ran setup other of_them runs some within ran) alike h = ran_on ran (alike setup other of_them) first.state (events_of_runs runs) (all_ran runs alike h)

-- ---- what was done is among what happened

told_one : {setup : List Node} {member : Node} {lines : ℕ → List ℕ} {found left : Held} {base : ℕ} {read : List (List ℕ)} {changed : List ℕ} (ran : Ran setup member lines found base read changed left)
    → (x : NodeEvent) → Contains (did_in ran) x → Contains (events_in ran) x
told_one NotBegun x within = within
told_one {setup = setup} {member = member} (Began start opens are did now carries leaves) x within =
    in_later (start_of setup member) (all_done did ++ events_behind leaves) x (Contains-append_left (all_done did) (events_behind leaves) x within)

told_all : {setups : List (List Node × Node)} {lines : ℕ → List ℕ} {first left : Held} {seen : ℕ} {changed : List ℕ} (runs : AreRuns setups lines first seen changed left)
    → (x : NodeEvent) → Contains (all_did runs) x → Contains (events_of_runs runs) x
told_all none_ran x within = within
told_all (one_ran setup member of_them runs some low ran) x within =
    elim (Contains-append_cases (all_did runs) (did_in ran) x within) [
      | inl earlier ↦ Contains-append_left (events_of_runs runs) (events_in ran) x (told_all runs x earlier)
      | inr now ↦ Contains-append_right (events_of_runs runs) (events_in ran) x (told_one ran x now)
    ]

-- ---- nodes

module _ {K : Type 0} (keeper : Keeper K) (source : Source K) (told : FedRunsAreTold keeper source) (held : EmptyIsHeld) (again : NodesCanStartAgain) (openings : OpeningsCanStartAgain) where
  record Told (n : FedNode keeper source) : Type 0 where
    history : History
    is : IsTold n history
    run : Run NodeHappens (opening_of history.of.setup history.of.member) history.events history.now

  told_of : (n : FedNode keeper source) → IsSetup n.of.setup → Contains n.of.setup n.of.member
      → ((setup : List Node) (other : Node) → Contains n.of.setups (setup, other) → IsAlike n.of.member other) → Told n
  told_of n is_setup within alike =
      let first = opening_of n.of.setup n.of.member in
      let can = openings n.of.setup is_setup n.of.member within in
      let t = told n.of.setups n.lines empty n.last (record { state = first; line = 1 }) n.seen
      (record { starts = can; rows = held.openings n.of.setup n.of.member; line = ap number_kept (get-empty text_pair_cmp line_place) }) n.runs in
      let s = all_ran again n.of.member t.runs alike
      (record { now = first; lived = record { run = refl; can = can; own = nodes_stay.at_first n.of.setup n.of.member }; same = refl }) in
      record {
        history = record { of = n.of; events = events_of_runs t.runs; now = s.now };
        is = record {
          are = t;
          of = refl;
          events = refl;
          kept = s.same;
          told = λ x of_them. told_all t.runs x (subst (λ (l : List NodeEvent). Contains l x) (sym t.told) of_them);
        };
        run = s.lived.run;
      }

  record AllTold (ns : List (FedNode keeper source)) : Type 0 where
    histories : List History
    are : AreAllTold ns histories
    of : map (λ (n : FedNode keeper source). n.of) ns ≡ map (λ (h : History). h.of) histories
    runs : Running histories

  record IsNode (n : NodeSetups) : Type 0 where
    is_setup : IsSetup n.setup
    within : Contains n.setup n.member
    alike : (setup : List Node) (other : Node) → Contains n.setups (setup, other) → IsAlike n.member other

  runs_on : (h : History) (hs : List History) → Run NodeHappens (opening_of h.of.setup h.of.member) h.events h.now → Running hs → Running (h ∷ hs)
  runs_on h hs run runs zero k at =
      let same : h ≡ k = cc at in
      subst (λ (k : History). Run NodeHappens (opening_of k.of.setup k.of.member) k.events k.now) same run
  runs_on h hs run runs (suc i) k at = runs i k at

  all_told : (ns : List (FedNode keeper source)) → ((n : NodeSetups) → Contains (map (λ (n : FedNode keeper source). n.of) ns) n → IsNode n) → AllTold ns
  all_told [] each = record { histories = []; are = tt; of = refl; runs = λ i k at. absurd (cc at) }
  all_told (n ∷ ns) each =
      let of_ns : List NodeSetups = map (λ (n : FedNode keeper source). n.of) ns in
      let here = each n.of (in_front n.of of_ns) in
      let t = told_of n here.is_setup here.within here.alike in
      let ts = all_told ns (λ m within. each m (in_later n.of of_ns m within)) in
      record {
        histories = t.history ∷ ts.histories;
        are = (t.is, ts.are);
        of = λ i. sym t.is.of i ∷ ts.of i;
        runs = runs_on t.history ts.histories t.run ts.runs;
      }

pub fed_nodes_are_told : NodesCanStartAgain → OpeningsCanStartAgain → EmptyIsHeld → {K : Type 0} (keeper : Keeper K) (source : Source K) → FedRunsAreTold keeper source → FedNodesAreTold keeper source
fed_nodes_are_told again openings held keeper source told nodes are =
    let t = all_told keeper source told held again openings nodes (λ n within. record { is_setup = are.setups n within; within = are.members n within; alike = are.alike n within }) in
    (t.histories, t.are, λ xs happened invent. histories_form_networks t.histories xs t.runs (subst AreNodes t.of are) happened invent)
