-- Whatever came, and whatever the setups are: what files tell is a run of the network of their nodes, where each began
-- without rows and is spelled alike in all its runs.
use Rattle.std.proofs.Common.{◌≡◌, ◌∙◌, zero, suc, ℕ, List, [], ◌∷◌, length, sym, ap, subst, arith, refl, inl, inr}
use Rattle.std.proofs.lemmas.List.Elements.{Contains-append_cases}
use Rattle.std.specs.Borrow.{Bor}
use Rattle.std.specs.Prelude.{Contains, Some, slice_get}
use Rattle.ocpi_text.specs.Text.{key}
use Rattle.ocpi_types.specs.Setups.{party_of}
use Rattle.ocpi_types.specs.declared.rows.Row.{Row}
use Rattle.ocpi_types.specs.declared.setup.Node.{Node}
use Rattle.ocpi_types.specs.declared.setup.Node.TheVariants as node
use Rattle.given_laws.specs.Laws.{AreNotGiven, AreReplayedBy, HadSentNothing, OwnInterleavingsAreNetworkRuns}
use Rattle.given_laws.specs.Lives.{IsDone, IsIdle, IsStart, IsStarted, Lives, NodeLife, first_setup, nothing_at, setups_of}
use Rattle.given_laws.proofs.Gathering.{Gives, gather, gathered, gathered_size}
use Rattle.histories.specs.declared.entry.Entry.{Entry}
use Rattle.histories.specs.declared.history.NodeHistory.{NodeHistory}
use Rattle.histories.specs.Weaving.{Woven}
use Rattle.histories.proofs.Lists.{in_later, is_in, place_in, some_same}
use Rattle.history_laws.specs.Replays.{Does, EntryStep, Idle}
use Rattle.network_laws.specs.Setups as networks
use Rattle.node_core.specs.Members.{IsMadeOfRows}
use Rattle.operator_steps.specs.Events as operator
use Rattle.provider_steps.specs.Events as provider
use Rattle.reopening_laws.specs.Nodes.{IsAlike, IsNodeOf, NodesReopen, NodesStay, setup_of, start_of}
use Rattle.replays.specs.Happenings.{Came, Happening, Opened, OpenedRun, Placed, entries_behind, openings_in}
use Rattle.replays.specs.LineTurns.{Held}
use Rattle.replays.specs.Telling.{AreRunsOf, AreSourcesOf, IsRunOf}
use Rattle.replays.specs.Transcripts.{Transcript, teller}
use Rattle.replays.specs.declared.transcript.Opening.{Opening}
use Rattle.replays.specs.declared.transcript.Source.{Source}
use Rattle.replays.specs.declared.transcript.Source.TheVariants.{Echoed, Restarted}
use Rattle.stored_laws.specs.Nodes.{CanStartAgain, last_serial}
use Rattle.tables.proofs.Elements.{in_front, in_none, in_single}
use Rattle.weave.specs.Given.{InterleavesWith}
use Rattle.world_laws.specs.Laws.{IsSetup}
use Rattle.world_networks.proofs.Networks.{own_form, own_name, own_opening}
use Rattle.world_steps.proofs.Places.{of_mapped}
use Rattle.world_steps.specs.Steps as steps
use Rattle.world_steps.specs.Steps.{AtOperator, AtProvider, NodeEvent, NodeStep}
use Rattle.world_steps.specs.World.{NodeState, Operates, Provides, opening_of}
use Rattle.weave_runs.specs.Histories.{AreHistories, AreTold, AreTranscripts, Lived, serial_before}
use Rattle.weave_runs.specs.Networks.{AreLivesTold, AreOfNetwork, AreSpelledAlike, BeginWithoutRows, IsEventFrom, IsLifeTold, IsStartOf}
use Rattle.weave_runs.specs.Parties.{AreGiven, HasFile, HaveNoFile}
use Rattle.weave_runs.specs.declared.told.TranscriptFile.{TranscriptFile}
use Rattle.weave_runs.proofs.LifeLemmas.{Leads}
use Rattle.weave_runs.proofs.NumberLemmas.{entry_can}
use Rattle.weave_runs.proofs.SourceLemmas.{IsLifeOf, StandsBehind, life_at, next_behind, stands_there, teller_is}
use Rattle.weave_runs.proofs.ToldLemmas.{sizes, told_at}
use Rattle.weave_runs.proofs.WorldLemmas.{opened_first}

-- ---- given parties

-- none of them has a file
pub given_alone : (told : List Transcript) (words : List (Bor (List ℕ))) (given : List (List ℕ)) → AreGiven told words given → HaveNoFile told given
given_alone told [] [] are party within has = in_none party within
given_alone told [] (p ∷ ps) are party within has = are
given_alone told (w ∷ ws) [] are party within has = are
given_alone told (w ∷ ws) (p ∷ ps) (is, are) party within has = elim (Contains-append_cases (p ∷ []) ps party within) [
  | inl here ↦ is.alone (subst (HasFile told) (sym (in_single p party here)) has)
  | inr later ↦ given_alone told ws ps are party later has
]

-- ---- a member of a setup, in a network

start_is : (setup : List Node) (m : Node) → IsStart (start_of setup m)
start_is setup (node.Operator party site) = (_, refl)
start_is setup (node.Provider party) = (_, refl)

sent_nothing : (setup : List Node) (m : Node) → last_serial (opening_of setup m) ≡ 0
sent_nothing setup (node.Operator party site) = refl
sent_nothing setup (node.Provider party) = refl

-- what a node does by an event of its history is no start under a setup
no_start : (s u : NodeState) (x : NodeEvent) → NodeStep s x u → IsStart x → ⊥
no_start (Operates s) (Operates u) (AtOperator e) (steps.Done by) (line, is) = subst (λ i. operator.Asks s i by.work) (ap (λ (f : operator.Event). f.input) is) by.line
no_start (Operates s) (Operates u) (AtOperator e) (steps.Restarted now out) (line, is) =
    let bad : operator.Restarts ≡ operator.Reopens line = sym now ∙ ap (λ (f : operator.Event). f.input) is in cc
no_start (Provides s) (Provides u) (AtProvider e) (steps.Done by) (p, is) = subst (λ i. provider.Asks s i by.acts) (ap (λ (f : provider.Event). f.input) is) by.line
no_start (Provides s) (Provides u) (AtProvider e) (steps.Restarted now out) (p, is) =
    let bad : provider.Restarts ≡ provider.Reopens p = sym now ∙ ap (λ (f : provider.Event). f.input) is in cc
no_start (Operates s) (Provides u) (AtOperator e) step start = absurd step
no_start (Operates s) u (AtProvider e) step start = absurd step
no_start (Provides s) (Operates u) (AtProvider e) step start = absurd step
no_start (Provides s) u (AtOperator e) step start = absurd step

nothing_starts : (s : NodeState) → IsStart (nothing_at s) → ⊥
nothing_starts (Operates s) (line, is) = let bad : operator.Ticks 0 ≡ operator.Reopens line = ap (λ (f : operator.Event). f.input) is in cc
nothing_starts (Provides s) (p, is) = let bad : provider.Ticks 0 ≡ provider.Reopens p = ap (λ (f : provider.Event). f.input) is in cc

-- ---- a life

-- each later opening is a start under its setup, and nothing else is one
abbrev StartsBy : List Happening → List NodeEvent → Type 0
StartsBy [] events = Unit {0}
StartsBy (Came text x ∷ hs) [] = ⊥
StartsBy (Came text x ∷ hs) (e ∷ es) = (IsStart e → ⊥) × StartsBy hs es
StartsBy (Opened o ∷ hs) [] = ⊥
StartsBy (Opened o ∷ hs) (e ∷ es) = (e ≡ start_of o.setup o.member) × StartsBy hs es

record IsLived (s : NodeState) (hs : List Happening) (t : NodeState) : Type 0 where
  events : List NodeEvent
  lives : Lives s (entries_behind hs) events t
  starts : StartsBy hs events

-- each of these runs is of a node that is spelled as the member, in its role
abbrev AreAlike : Node → List OpenedRun → Type 0
AreAlike m os = (o : OpenedRun) → Contains os o → IsAlike m o.member

module _ (reopen : NodesReopen) (stay : NodesStay) (w : List ℕ) (m : Node) where
  entry_stays : (s u : NodeState) (e : Entry) → EntryStep s e u → IsNodeOf m s → IsNodeOf m u
  entry_stays s u e (Does x did) own = stay.by_steps m s x u did.step own
  entry_stays s u e (Idle idle) own = subst (IsNodeOf m) (sym idle.same) own

  came_so : (s u t : NodeState) (text : List ℕ) (x : Placed) (hs : List Happening) → EntryStep s x.entry u → IsLived u hs t → IsLived s (Came text x ∷ hs) t
  came_so s u t text x hs (Does y did) later = record { events = y ∷ later.events; lives = (u, IsDone did, later.lives); starts = (no_start s u y did.step, later.starts) }
  came_so s u t text x hs (Idle idle) later = record { events = nothing_at s ∷ later.events; lives = (u, IsIdle idle refl, later.lives); starts = (nothing_starts s, later.starts) }

  life_behind : (p : List ℕ) (s t : NodeState) (hs : List Happening) → CanStartAgain s → IsNodeOf m s → AreAlike m (openings_in hs) → Leads w p s hs t → IsLived s hs t
  life_behind p s t [] can own alike leads = record { events = []; lives = leads; starts = tt }
  life_behind p s t (Came text x ∷ hs) can own alike (u, step, reads, rest) =
      came_so s u t text x hs step (life_behind p u t hs (entry_can s u x.entry can step) (entry_stays s u x.entry step own) alike rest)
  life_behind p s t (Opened o ∷ hs) can own alike (u, opens, rest) =
      let again = reopen o.setup m o.member s u opens.rows (alike o (in_front o (openings_in hs))) opens.had opens.made can opens.starts own in
      let later = life_behind (party_of o.member) u t hs opens.starts again.1 (λ x inside. alike x (in_later o (openings_in hs) x inside)) rest in
      record {
        events = start_of o.setup o.member ∷ later.events;
        lives = (u, IsStarted refl (start_is o.setup o.member) again.0, later.lives);
        starts = (refl, later.starts);
      }

-- ---- the starts, by the openings

start_told : (o : OpenedRun) (x : Opening) → IsRunOf o x → (e : NodeEvent) → e ≡ start_of o.setup o.member → IsStartOf x e
start_told o x is e starts = (o.member, is.2, starts ∙ ap (λ (ns : List Node). start_of ns o.member) is.1)

module _ (openings : List Opening) where
  each_start : (hs : List Happening) (n : ℕ) (x : Opening) (later : List Opening) (sources : List Source) (events : List NodeEvent) → StandsBehind openings n x later
      → AreRunsOf (openings_in hs) later → AreSourcesOf (suc n) hs sources → StartsBy hs events
      → (k : ℕ) (s : Source) (e : NodeEvent) → slice_get sources k ≡ Some s → slice_get events k ≡ Some e → IsEventFrom openings s e
  each_start [] n x later [] events stand runs are starts k s e here there = cc
  each_start [] n x later (o ∷ sources) events stand runs are starts k s e here there = absurd are
  each_start (Came text z ∷ hs) n x later [] events stand runs are starts k s e here there = absurd are
  each_start (Came text z ∷ hs) n x later (Restarted place ∷ sources) events stand runs are starts k s e here there = absurd are
  each_start (Came text z ∷ hs) n x later (Echoed place line ∷ sources) [] stand runs are starts k s e here there = absurd starts
  each_start (Came text z ∷ hs) n x later (Echoed place line ∷ sources) (f ∷ events) stand runs are starts zero s e here there =
      let none : IsEventFrom openings (Echoed place line) e = λ start. starts.0 (subst IsStart (sym (some_same f e there)) start) in
      subst (λ (o : Source). IsEventFrom openings o e) (some_same (Echoed place line) s here) none
  each_start (Came text z ∷ hs) n x later (Echoed place line ∷ sources) (f ∷ events) stand runs (number, text_at, are) starts (suc k) s e here there =
      each_start hs n x later sources events stand runs are starts.1 k s e here there
  each_start (Opened o ∷ hs) n x later [] events stand runs are starts k s e here there = absurd are
  each_start (Opened o ∷ hs) n x later (Echoed place line ∷ sources) events stand runs are starts k s e here there = absurd are
  each_start (Opened o ∷ hs) n x [] (Restarted place ∷ sources) events stand runs are starts k s e here there = absurd runs
  each_start (Opened o ∷ hs) n x (v ∷ later) (Restarted place ∷ sources) [] stand runs are starts k s e here there = absurd starts
  each_start (Opened o ∷ hs) n x (v ∷ later) (Restarted place ∷ sources) (f ∷ events) stand runs (number, are) starts zero s e here there =
      let start : IsEventFrom openings (Restarted place) e =
      (v, ap (slice_get openings) number ∙ stands_there openings (suc n) v later (next_behind openings n x v later stand), start_told o v runs.0 e (sym (some_same f e there) ∙ starts.0)) in
      subst (λ (from : Source). IsEventFrom openings from e) (some_same (Restarted place) s here) start
  each_start (Opened o ∷ hs) n x (v ∷ later) (Restarted place ∷ sources) (f ∷ events) stand runs (number, are) starts (suc k) s e here there =
      each_start hs (suc n) v later sources events (next_behind openings n x v later stand) runs.1 are starts.1 k s e here there

-- ---- a transcript

-- the opening of a run
run_opened : (os : List OpenedRun) (xs : List Opening) → AreRunsOf os xs → (o : OpenedRun) → Contains os o → (x : Opening) × Contains xs x × IsRunOf o x
run_opened [] xs runs o within = absurd (in_none o within)
run_opened (p ∷ os) [] runs o within = absurd runs
run_opened (p ∷ os) (x ∷ xs) (is, runs) o within = elim (Contains-append_cases (p ∷ []) os o within) [
  | inl here ↦ (x, in_front x xs, subst (λ (q : OpenedRun). IsRunOf q x) (in_single p o here) is)
  | inr later ↦ let (y, inside, of) = run_opened os xs runs o later in (y, in_later x xs y inside, of)
]

no_rows : (rows : List Row) → length rows ≡ 0 → rows ≡ []
no_rows [] none = refl
no_rows (r ∷ rows) none = absurd (omega (arith, none))

-- its node lived so
record LivedSo (t : Transcript) (l : NodeLife) : Type 0 where
  is_told : IsLifeTold t l
  form : networks.IsSetup l.setup
  party : teller t ≡ networks.party_of l.setup
  lives : Lives (networks.opening_of l.setup) t.entries l.events l.last
  before : serial_before t.openings ≡ 0

module _ (reopen : NodesReopen) (stay : NodesStay) (told : List Transcript) (empty : BeginWithoutRows told) (alike : AreSpelledAlike told) where
  module _ (t : Transcript) (within : Contains told t) (w : List ℕ) (held : Held) (l : IsLifeOf w held t) where
    opened : l.first ≡ opening_of l.run.setup l.run.member
    opened =
        let rows : l.opens.rows ≡ [] = no_rows l.opens.rows (sym l.opens.count ∙ l.is.3 ∙ empty t within l.opening l.later l.openings) in
        opened_first l.run.setup l.opens.is_setup l.run.member l.opens.within l.first
        (subst (λ (rs : List Row). IsMadeOfRows l.run.setup l.run.member rs l.first) rows l.opens.made) l.opens.starts

    all_alike : AreAlike l.run.member (openings_in l.told)
    all_alike o inside =
        let (y, of_later, is) = run_opened (openings_in l.told) l.later l.are o inside in
        alike t within l.opening l.later l.openings y of_later l.run.member o.member l.is.2 is.2

    life : IsLived l.first l.told l.last
    life = life_behind reopen stay w l.run.member (party_of l.run.member) l.first l.last l.told l.opens.starts
        (subst (IsNodeOf l.run.member) (sym opened) (stay.at_first l.run.setup l.run.member)) all_alike l.leads

    lived_so : (n : NodeLife) × LivedSo t n
    lived_so =
        let place = place_in l.run.setup l.run.member l.opens.within in
        let of = life in (
          record { setup = setup_of l.run.setup l.run.member; events = of.events; last = l.last },
          record {
            is_told = record {
              first = l.opening;
              later = l.later;
              openings_are = l.openings;
              member = l.run.member;
              is_member = l.is.2;
              setup = ap (λ (ns : List Node). setup_of ns l.run.member) l.is.1;
              starts = all_starts of.events of.starts;
            };
            form = own_form l.run.setup l.opens.is_setup place.0 l.run.member place.1;
            party = teller_is w held t l ∙ sym (own_name l.run.setup l.run.member);
            lives = subst (λ (s : NodeState). Lives s t.entries of.events l.last) (opened ∙ sym (own_opening l.run.setup l.run.member))
                (subst (λ (es : List Entry). Lives l.first es of.events l.last) (sym l.entries) of.lives);
            before = ap serial_before l.openings ∙ sym l.is.4 ∙ l.opens.serial ∙ ap last_serial opened ∙ sent_nothing l.run.setup l.run.member;
          },
        )
      where
        all_starts : (events : List NodeEvent) → StartsBy l.told events → (k : ℕ) (s : Source) (e : NodeEvent) → slice_get t.sources k ≡ Some s → slice_get events k ≡ Some e
            → IsEventFrom t.openings s e
        all_starts events starts = each_start t.openings l.told 0 l.opening l.later t.sources events (record { before = []; size = refl; are = l.openings }) l.are l.sources starts

  -- ---- all of them

  module _ (files : List TranscriptFile) (of : AreTranscripts files told) (hs : List NodeHistory) (same : AreHistories hs told) (are : AreTold told) where
    gives : Gives LivedSo told
    gives i t here = let f = life_at files told of i t here in lived_so t (is_in told i t here) f.wanted f.held f.life

    lives : List NodeLife
    lives = gather LivedSo told gives

    -- the life of a history
    life_is : (i : ℕ) (h : NodeHistory) (l : NodeLife) → slice_get hs i ≡ Some h → slice_get lives i ≡ Some l → (h.party ≡ networks.party_of l.setup) × Lives (networks.opening_of l.setup) h.entries.now l.events l.last
    unfolding lives
    life_is i h l here there =
        let (t, at, is) = told_at told hs same i h here in
        let (u, at_u, so) = gathered LivedSo told gives i l there in
        let one : u ≡ t = some_same u t (sym at_u ∙ at) in (
          ap (λ (x : Lived). x.party) is ∙ ap teller (sym one) ∙ so.party,
          subst (λ (es : List Entry). Lives (networks.opening_of l.setup) es l.events l.last) (ap (λ (x : Transcript). x.entries) one ∙ sym (ap (λ (x : Lived). x.entries) is)) so.lives,
        )

    are_replayed : AreReplayedBy lives hs
    unfolding lives
    are_replayed = record {
      are = record {
        each = λ n inside.
            let (k, at) = place_in (setups_of (gather LivedSo told gives)) n inside in
            let (l, there, is) = of_mapped first_setup (gather LivedSo told gives) k n at in
            subst networks.IsSetup is (gathered LivedSo told gives k l there).2.form;
        apart = λ i j n m here there alike_parties.
            let (l, of_l, is_n) = of_mapped first_setup (gather LivedSo told gives) i n here in
            let (r, of_r, is_m) = of_mapped first_setup (gather LivedSo told gives) j m there in
            let a = gathered LivedSo told gives i l of_l in
            let b = gathered LivedSo told gives j r of_r in
            are.apart i j a.0 b.0 a.1 b.1
            (ap key a.2.party ∙ ap (λ z. key (networks.party_of z)) is_n ∙ alike_parties ∙ ap (λ z. key (networks.party_of z)) (sym is_m) ∙ sym (ap key b.2.party));
      };
      size = gathered_size LivedSo told gives ∙ sym (sizes told hs same);
      each = life_is;
    }

    are_told : AreLivesTold told lives
    unfolding lives
    are_told i t l here there =
        let (u, at_u, so) = gathered LivedSo told gives i l there in
        subst (λ (v : Transcript). IsLifeTold v l) (some_same u t (sym at_u ∙ here)) so.is_told

    had_sent_nothing : HadSentNothing hs
    had_sent_nothing h inside =
        let (i, here) = place_in hs h inside in
        let (t, at, is) = told_at told hs same i h here in
        ap (λ (x : Lived). x.before) is ∙ (gives i t at).1.before

    are_not_given : (given : List (List ℕ)) → HaveNoFile told given → AreNotGiven given hs
    are_not_given given none h inside party among alike_parties =
        let (i, here) = place_in hs h inside in
        let (t, at, is) = told_at told hs same i h here in
        none party among (t, is_in told i t at, sym (ap (λ (x : Lived). key x.party) is) ∙ sym alike_parties)

    pub of_network : OwnInterleavingsAreNetworkRuns → (given : List (List ℕ)) → HaveNoFile told given → (xs : List Woven) → InterleavesWith given hs xs → AreOfNetwork told hs xs
    of_network law given none xs interleaves = record {
      lives = lives;
      are_told = are_told;
      replayed = are_replayed;
      is_run = law lives hs given xs are_replayed (are_not_given given none) had_sent_nothing interleaves;
    }
