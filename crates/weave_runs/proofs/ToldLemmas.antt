-- The histories of transcripts are of different parties, and numbered; in one world they are replayed from its opening.
use Rattle.std.proofs.Common.{◌≡◌, ◌≢◌, ◌⊎◌, ◌∙◌, zero, suc, ℕ, ◌+◌, List, [], ◌∷◌, ◌++◌, length, take, drop, take-append-drop, map, sym, ap, subst, option_map, arith, refl, inl, inr}
use Rattle.std.proofs.lemmas.List.{length-append, length-map, map-append, take-append-le, take_at}
use Rattle.std.proofs.lemmas.List.Elements.{Contains-append_cases}
use Rattle.std.specs.Prelude.{Contains, Some, slice_get}
use Rattle.std.proofs.lemmas.Option.{slice_get-map, slice_get_within}
use Rattle.ocpi_text.specs.Text.{key}
use Rattle.ocpi_types.specs.Setups.{party_of}
use Rattle.ocpi_types.specs.declared.rows.Row.{Row}
use Rattle.ocpi_types.specs.declared.setup.Node.{Node}
use Rattle.histories.specs.Entries.{IsNumbered, sent}
use Rattle.histories.specs.declared.entry.Entry.{Entry}
use Rattle.histories.specs.declared.history.NodeHistory.{NodeHistory}
use Rattle.histories.specs.Weaving.{AreApart, AreNumberedBehind}
use Rattle.histories.proofs.Lists.{got_pushed, got_within, in_later, is_in, place_in, some_same, stands, take_one}
use Rattle.history_laws.specs.Laws.{AreReplayed, IsReplayed}
use Rattle.history_laws.specs.Replays.{Replays}
use Rattle.node_core.specs.Members.{IsMadeOfRows}
use Rattle.replays.specs.Happenings.{OpenedRun, entries_behind, openings_in}
use Rattle.replays.specs.Telling.{AreRunsOf}
use Rattle.replays.specs.Transcripts.{AccusesRightly, BlamesNoLineBefore, IsTranscript, IsTranscriptOf, Transcript, teller}
use Rattle.replays.specs.declared.fault.ReplayFault.{ReplayFault}
use Rattle.replays.specs.declared.fault.ReplayFault.TheVariants.{Memory}
use Rattle.replays.specs.declared.transcript.Opening.{Opening}
use Rattle.stored_laws.specs.Nodes.{IsOfOpening, last_serial}
use Rattle.stored_laws.proofs.Openings.{nodes_keep_openings}
use Rattle.tables.proofs.Elements.{in_front, in_map, in_none, in_single}
use Rattle.world_laws.specs.Laws.{IsSetup}
use Rattle.world_steps.specs.World.{NodeState, opening_of}
use Rattle.weave_runs.specs.Accusations.{RefusesFile}
use Rattle.weave_runs.specs.Histories.{AreHistories, AreTold, AreTranscripts, Lived, lived, lived_told, serial_before, start_of}
use Rattle.weave_runs.specs.Outputs.{IsOfOneWorld}
use Rattle.weave_runs.specs.declared.told.TranscriptFile.{TranscriptFile}
use Rattle.weave_runs.proofs.NumberLemmas as number
use Rattle.weave_runs.proofs.RefusalLemmas.{drop_one}
use Rattle.weave_runs.proofs.SourceLemmas.{OfFile, life_at, life_told, teller_is, teller_wanted}
use Rattle.weave_runs.proofs.WorldLemmas.{opened_first, replays_on}

-- ---- one more

-- one transcript more, and its history
pub history_more : (hs longer : List NodeHistory) (told : List Transcript) (i : ℕ) (h : NodeHistory) (t : Transcript) → slice_get told i ≡ Some t → AreHistories hs (take i told) → lived h ≡ lived_told t
    → longer ≡ hs ++ h ∷ [] → AreHistories longer (take (i + 1) told)
history_more hs longer told i h t at are same is =
    ap (map lived) is ∙ map-append lived hs (h ∷ []) ∙ ap (λ l. l ++ lived h ∷ []) are ∙ ap (λ (x : Lived). map lived_told (take i told) ++ x ∷ []) same
    ∙ sym (map-append lived_told (take i told) (t ∷ [])) ∙ ap (map lived_told) (sym (take_one told i t at))

-- and its party
pub parties_more : (parties longer : List (List ℕ)) (told : List Transcript) (t : Transcript) → parties ≡ map teller told → longer ≡ parties ++ teller t ∷ [] → longer ≡ map teller (told ++ t ∷ [])
parties_more parties longer told t are is = is ∙ ap (λ l. l ++ teller t ∷ []) are ∙ sym (map-append teller told (t ∷ []))

pub none_told : AreTold []
none_told = record { each = λ t within. absurd (in_none t within); apart = λ i j t u here there same. cc }

-- it is of a node that none before has
is_new : (told : List Transcript) (earlier : List (List ℕ)) (f : TranscriptFile) (t : Transcript) → earlier ≡ map teller told → IsTranscriptOf earlier (start_of f.store) f.text.now t
    → (x : Transcript) → Contains told x → key (teller x) ≢ key (teller t)
is_new told earlier f t are read x within same =
    let (w, other, life) = life_told earlier (start_of f.store) f.text.now t read in
    other (teller x) (subst (λ (ps : List (List ℕ)). Contains ps (teller x)) (sym are) (in_map teller told x within)) (same ∙ teller_wanted w _ t life)

pub told_more : (told : List Transcript) (t : Transcript) (earlier : List (List ℕ)) (f : TranscriptFile) → AreTold told → IsTranscript t → earlier ≡ map teller told
    → IsTranscriptOf earlier (start_of f.store) f.text.now t → AreTold (told ++ t ∷ [])
told_more told t earlier f are is of read = record { each = each; apart = apart }
  where
    new : (x : Transcript) → Contains told x → key (teller x) ≢ key (teller t)
    new = is_new told earlier f t of read

    each : (x : Transcript) → Contains (told ++ t ∷ []) x → IsTranscript x
    each x within = elim (Contains-append_cases told (t ∷ []) x within) [
      | inl before ↦ are.each x before
      | inr last ↦ subst IsTranscript (in_single t x last) is
    ]

    both : (i j : ℕ) (x y : Transcript) → key (teller x) ≡ key (teller y) → (slice_get told i ≡ Some x) ⊎ ((i ≡ length told) × (t ≡ x)) → (slice_get told j ≡ Some y) ⊎ ((j ≡ length told) × (t ≡ y)) → i ≡ j
    both i j x y same (inl a) (inl b) = are.apart i j x y a b same
    both i j x y same (inl a) (inr b) = absurd (new x (is_in told i x a) (same ∙ ap (λ (z : Transcript). key (teller z)) (sym b.1)))
    both i j x y same (inr a) (inl b) = absurd (new y (is_in told j y b) (sym same ∙ ap (λ (z : Transcript). key (teller z)) (sym a.1)))
    both i j x y same (inr a) (inr b) = a.0 ∙ sym b.0

    apart : (i j : ℕ) (x y : Transcript) → slice_get (told ++ t ∷ []) i ≡ Some x → slice_get (told ++ t ∷ []) j ≡ Some y → key (teller x) ≡ key (teller y) → i ≡ j
    apart i j x y here there same = both i j x y same (got_pushed told t i x here) (got_pushed told t j y there)

pub no_transcripts : (files : List TranscriptFile) → AreTranscripts (take 0 files) []
no_transcripts files = record { size = refl; each = λ i f t here there. cc }

-- one file more
pub transcripts_more : (files : List TranscriptFile) (told : List Transcript) (i : ℕ) (f : TranscriptFile) (t : Transcript) → slice_get files i ≡ Some f → AreTranscripts (take i files) told
    → (earlier : List (List ℕ)) → earlier ≡ map teller told → IsTranscriptOf earlier (start_of f.store) f.text.now t → AreTranscripts (take (i + 1) files) (told ++ t ∷ [])
transcripts_more files told i f t at are earlier same read = record { size = size; each = each }
  where
    of : IsTranscriptOf (map teller told) (start_of f.store) f.text.now t
    of = subst (λ ps. IsTranscriptOf ps (start_of f.store) f.text.now t) same read

    size : length (told ++ t ∷ []) ≡ length (take (i + 1) files)
    size = length-append told (t ∷ []) ∙ ap (λ n. n + 1) are.size ∙ sym (length-append (take i files) (f ∷ [])) ∙ ap length (sym (take_one files i f at))

    both : (j : ℕ) (g : TranscriptFile) (u : Transcript) → (slice_get (take i files) j ≡ Some g) ⊎ ((j ≡ length (take i files)) × (f ≡ g)) → (slice_get told j ≡ Some u) ⊎ ((j ≡ length told) × (t ≡ u))
        → IsTranscriptOf (map teller (take j (told ++ t ∷ []))) (start_of g.store) g.text.now u
    both j g u (inl a) (inl b) =
        let within = got_within told j u b in
        subst (λ ts. IsTranscriptOf (map teller ts) (start_of g.store) g.text.now u) (sym (take-append-le j told (t ∷ []) (omega (arith, within)))) (are.each j g u a b)
    both j g u (inl a) (inr b) = let within = got_within (take i files) j g a in let size = are.size in let last = b.0 in absurd (omega (arith, within, size, last))
    both j g u (inr a) (inl b) = let within = got_within told j u b in let size = are.size in let last = a.0 in absurd (omega (arith, within, size, last))
    both j g u (inr a) (inr b) =
        subst (λ ts. IsTranscriptOf (map teller ts) (start_of g.store) g.text.now u) (sym (take_at told (t ∷ []) j (sym b.0)))
        (subst (λ (h : TranscriptFile). IsTranscriptOf (map teller told) (start_of h.store) h.text.now u) a.1 (subst (IsTranscriptOf (map teller told) (start_of f.store) f.text.now) b.1 of))

    each : (j : ℕ) (g : TranscriptFile) (u : Transcript) → slice_get (take (i + 1) files) j ≡ Some g → slice_get (told ++ t ∷ []) j ≡ Some u
        → IsTranscriptOf (map teller (take j (told ++ t ∷ []))) (start_of g.store) g.text.now u
    each j g u here there =
        both j g u (got_pushed (take i files) f j g (sym (ap (λ fs. slice_get fs j) (take_one files i f at)) ∙ here)) (got_pushed told t j u there)

-- the one behind them is refused, by a fault that accuses rightly
pub refuses_here : (files : List TranscriptFile) (told : List Transcript) (earlier : List (List ℕ)) (i : ℕ) (f : TranscriptFile) (name : List ℕ) (fault of : ReplayFault) → slice_get files i ≡ Some f
    → AreTranscripts (take i files) told → f.name.now ≡ name → earlier ≡ map teller told → fault ≡ of → AccusesRightly earlier (start_of f.store) f.text.now fault
    → BlamesNoLineBefore earlier (start_of f.store) f.text.now fault → RefusesFile files name of
refuses_here files told earlier i f name fault of at are is same fault_is rightly first = record {
  front = take i files;
  file = f;
  behind = drop (i + 1) files;
  files_are = sym (take-append-drop i files) ∙ ap (λ l. take i files ++ l) (drop_one files i f at);
  name_is = is;
  told = told;
  are_transcripts = are;
  rightly = subst (AccusesRightly (map teller told) (start_of f.store) f.text.now) fault_is (subst (λ (ps : List (List ℕ)). AccusesRightly ps (start_of f.store) f.text.now fault) same rightly);
  first = subst (BlamesNoLineBefore (map teller told) (start_of f.store) f.text.now) fault_is (subst (λ (ps : List (List ℕ)). BlamesNoLineBefore ps (start_of f.store) f.text.now fault) same first);
}

-- or for want of memory
pub memory_here : (files : List TranscriptFile) (told : List Transcript) (i : ℕ) (f : TranscriptFile) (name : List ℕ) (of : ReplayFault) → slice_get files i ≡ Some f → AreTranscripts (take i files) told
    → f.name.now ≡ name → Memory ≡ of → RefusesFile files name of
memory_here files told i f name of at are is fault_is =
    refuses_here files told (map teller told) i f name Memory of at are is refl fault_is (λ other own happened printed. absurd (other refl)) (λ n bad. absurd (omega (arith, bad)))

-- ---- all of them

module _ (told : List Transcript) (hs : List NodeHistory) (same : AreHistories hs told) where
  pub sizes : length hs ≡ length told
  sizes = sym (length-map hs lived) ∙ ap length same ∙ length-map told lived_told

  -- the transcript of a history
  pub told_at : (i : ℕ) (h : NodeHistory) → slice_get hs i ≡ Some h → (t : Transcript) × (slice_get told i ≡ Some t) × (lived h ≡ lived_told t)
  told_at i h here =
      let within = slice_get_within hs i h here in
      let found = stands told i (omega (arith, within, sizes)) in (
        found.0,
        found.1,
        some_same (lived h) (lived_told found.0) (
            ap (option_map lived) (sym here) ∙ sym (slice_get-map lived hs i) ∙ ap (λ l. slice_get l i) same ∙ slice_get-map lived_told told i
            ∙ ap (option_map lived_told) found.1),
      )

  pub apart : AreTold told → AreApart hs
  apart are i j h g here there alike =
      let t = told_at i h here in
      let u = told_at j g there in
      are.apart i j t.0 u.0 t.1 u.1 (ap (λ (x : Lived). key x.party) (sym t.2) ∙ alike ∙ ap (λ (x : Lived). key x.party) u.2)

  module _ (files : List TranscriptFile) (of : AreTranscripts files told) where
    numbered_by : (h : NodeHistory) (t : Transcript) → lived h ≡ lived_told t → OfFile t → IsNumbered h.party h.before (sent h.entries.now)
    numbered_by h t is f k q at =
        let l = f.life in
        let entries : h.entries.now ≡ entries_behind l.told = ap (λ (x : Lived). x.entries) is ∙ l.entries in
        let before : h.before ≡ last_serial l.first = ap (λ (x : Lived). x.before) is ∙ ap serial_before l.openings ∙ sym l.is.4 ∙ l.opens.serial in
        let party : key h.party ≡ key f.wanted = ap (λ (x : Lived). key x.party) is ∙ teller_wanted f.wanted f.held t l in
        let one = number.numbered f.wanted (party_of l.run.member) l.first l.last l.told l.opens.starts (number.opens_party f.wanted _ l.run l.first l.opens) l.leads k q
        (ap (λ (es : List Entry). slice_get (sent es) k) (sym entries) ∙ at) in
        (one.0 ∙ sym party, one.1 ∙ ap (λ (n : ℕ). n + (k + 1)) (sym before))

    pub numbered : AreNumberedBehind hs
    numbered h within =
        let at = place_in hs h within in
        let t = told_at at.0 h at.1 in
        numbered_by h t.0 t.2 (life_at files told of at.0 t.0 t.1)

    -- ---- in one world

    module _ (setup : List Node) (is_setup : IsSetup setup) (one : IsOfOneWorld setup told) where
      runs_have : (os : List OpenedRun) (xs : List Opening) → AreRunsOf os xs → ((x : Opening) → Contains xs x → x.setup ≡ setup) → (o : OpenedRun) → Contains os o → o.setup ≡ setup
      runs_have [] xs runs all o within = absurd (in_none o within)
      runs_have (p ∷ os) [] runs all o within = absurd runs
      runs_have (p ∷ os) (x ∷ xs) (is, runs) all o within = elim (Contains-append_cases (p ∷ []) os o within) [
        | inl here ↦ ap (λ (z : OpenedRun). z.setup) (sym (in_single p o here)) ∙ is.1 ∙ all x (in_front x xs)
        | inr later ↦ runs_have os xs runs (λ y inside. all y (in_later x xs y inside)) o later
      ]

      no_rows : (rows : List Row) → length rows ≡ 0 → rows ≡ []
      no_rows [] none = refl
      no_rows (r ∷ rows) none = absurd (omega (arith, none))

      replayed_by : (h : NodeHistory) (t : Transcript) → Contains told t → lived h ≡ lived_told t → OfFile t → (u : NodeState) × IsReplayed setup h u
      replayed_by h t within is f =
          let l = f.life in
          let setups : (x : Opening) → Contains (l.opening ∷ l.later) x → x.setup ≡ setup =
          λ x inside. one.setups t within x (subst (λ (os : List Opening). Contains os x) (sym l.openings) inside) in
          let run_setup : l.run.setup ≡ setup = l.is.1 ∙ setups l.opening (in_front l.opening l.later) in
          let member : Contains setup l.run.member = subst (λ (ns : List Node). Contains ns l.run.member) run_setup l.opens.within in
          let rows : l.opens.rows ≡ [] = no_rows l.opens.rows (sym l.opens.count ∙ l.is.3 ∙ one.empty t within l.opening l.later l.openings) in
          let made : IsMadeOfRows setup l.run.member [] l.first =
          subst (λ (rs : List Row). IsMadeOfRows setup l.run.member rs l.first) rows (subst (λ (ns : List Node). IsMadeOfRows ns l.run.member l.opens.rows l.first) run_setup l.opens.made) in
          let first : l.first ≡ opening_of setup l.run.member = opened_first setup is_setup l.run.member member l.first made l.opens.starts in
          let replays = replays_on setup is_setup f.wanted l.run.member member l.opens.same (party_of l.run.member) l.first l.last l.told l.opens.starts
          (subst (λ (s : NodeState). IsOfOpening (opening_of setup l.run.member) s) (sym first) (nodes_keep_openings.at_first setup l.run.member))
          (runs_have (openings_in l.told) l.later l.are (λ x inside. setups x (in_later l.opening l.later x inside))) l.leads in (
            l.last,
            record {
              node = l.run.member;
              in_setup = member;
              party = ap (λ (x : Lived). x.party) is ∙ teller_is f.wanted f.held t l;
              replays = subst (λ (s : NodeState). Replays s h.entries.now l.last) first
                  (subst (λ (es : List Entry). Replays l.first es l.last) (sym (ap (λ (x : Lived). x.entries) is ∙ l.entries)) replays);
            },
          )

      -- a state for each of them
      states_of : (gs : List NodeHistory) → ((h : NodeHistory) → Contains gs h → (u : NodeState) × IsReplayed setup h u)
          → (states : List NodeState) × ((i : ℕ) (h : NodeHistory) → slice_get gs i ≡ Some h → (u : NodeState) × (slice_get states i ≡ Some u) × IsReplayed setup h u)
      states_of [] each = ([], λ i h here. cc)
      states_of (g ∷ gs) each =
          let first = each g (in_front g gs) in
          let others = states_of gs (λ h within. each h (in_later g gs h within)) in
          (first.0 ∷ others.0, at first others)
        where
          at : (first : (u : NodeState) × IsReplayed setup g u)
              → (others : (states : List NodeState) × ((i : ℕ) (h : NodeHistory) → slice_get gs i ≡ Some h → (u : NodeState) × (slice_get states i ≡ Some u) × IsReplayed setup h u))
              → (i : ℕ) (h : NodeHistory) → slice_get (g ∷ gs) i ≡ Some h → (u : NodeState) × (slice_get (first.0 ∷ others.0) i ≡ Some u) × IsReplayed setup h u
          at first others zero h here = (first.0, refl, subst (λ (k : NodeHistory). IsReplayed setup k first.0) (some_same g h here) first.1)
          at first others (suc i) h here = others.1 i h here

      pub replayed : AreTold told → (states : List NodeState) × AreReplayed setup hs states
      replayed are =
          let all = states_of hs (λ h within. let at = place_in hs h within in let t = told_at at.0 h at.1 in
          replayed_by h t.0 (is_in told at.0 t.0 t.1) t.2 (life_at files told of at.0 t.0 t.1)) in
          (all.0, record { is_setup = is_setup; apart = apart are; each = all.1 })
