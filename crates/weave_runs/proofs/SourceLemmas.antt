-- Where the entries of a transcript come from, and whose they are.
use Rattle.std.proofs.Common.{◌≡◌, ◌≢◌, ◌∙◌, ℕ, zero, suc, ◌<◌, List, [], ◌∷◌, ◌++◌, append_assoc, length, length-append, map, take, sym, ap, subst, arith, refl, inl, inr}
use Rattle.std.proofs.lemmas.List.Elements.{Contains-append_cases}
use Rattle.std.proofs.lemmas.Option.{slice_get_within}
use Rattle.std.specs.Prelude.{Contains, Some, slice_get}
use Rattle.ocpi_text.specs.Text.{key}
use Rattle.ocpi_types.specs.Setups.{party_of}
use Rattle.histories.specs.declared.entry.Entry.{Entry}
use Rattle.histories.proofs.Lists.{got_between, place_in, some_same, stands}
use Rattle.node_replay.specs.Replayed.{restart_entry}
use Rattle.replays.specs.Happenings.{Came, Happening, Opened, OpenedRun, entries_behind, entries_in, openings_in}
use Rattle.replays.specs.LineTurns.{Held, Lists, Store, held_in}
use Rattle.replays.specs.Reading.{IsOther}
use Rattle.replays.specs.Telling.{AreRunsOf, AreSourcesOf, IsRunOf}
use Rattle.replays.specs.Transcripts.{IsTranscriptOf, Transcript, TellsOf, first_party, opening_of, party_at, party_opened, teller}
use Rattle.replays.specs.declared.transcript.Opening.{Opening}
use Rattle.replays.specs.declared.transcript.Source.{Source}
use Rattle.replays.specs.declared.transcript.Source.TheVariants.{Echoed, Restarted}
use Rattle.tables.proofs.Elements.{in_none, in_single}
use Rattle.world_steps.specs.World.{NodeState}
use Rattle.weave_runs.specs.Histories.{AreTranscripts, start_of}
use Rattle.weave_runs.specs.Steps.{AreSourced, HasSources, IsEventLine, IsSourceIn}
use Rattle.weave_runs.specs.declared.told.TranscriptFile.{TranscriptFile}
use Rattle.weave_runs.proofs.LifeLemmas.{Leads, Life, Living, NoLife, OpensSo, life_of}

-- ---- a transcript, by the life of its node

pub record IsLifeOf (w : List ℕ) (held : Held) (t : Transcript) : Type 0 where
  pub run : OpenedRun
  pub told : List Happening
  pub first : NodeState
  pub last : NodeState
  pub opens : OpensSo w (Lists held.kept) run first
  pub leads : Leads w (party_of run.member) first told last
  pub opening : Opening
  pub later : List Opening
  pub openings : t.openings ≡ opening ∷ later
  pub is : IsRunOf run opening
  pub are : AreRunsOf (openings_in told) later
  pub entries : t.entries ≡ entries_behind told
  pub sources : AreSourcesOf 1 told t.sources

record Split (o : OpenedRun) (os : List OpenedRun) (xs : List Opening) : Type 0 where
  opening : Opening
  later : List Opening
  are : xs ≡ opening ∷ later
  is : IsRunOf o opening
  others : AreRunsOf os later

split : (o : OpenedRun) (os : List OpenedRun) (xs : List Opening) → AreRunsOf (o ∷ os) xs → Split o os xs
split o os [] runs = absurd runs
split o os (x ∷ xs) (is, others) = record { opening = x; later = xs; are = refl; is = is; others = others }

by_life : (w : List ℕ) (held : Held) (t : Transcript) (told : List Happening) → TellsOf t told → Life w held told → IsLifeOf w held t
by_life w held t told tells (NoLife none) = absurd (tells.some (ap openings_in none))
by_life w held t told tells (Living o hs s u is opens leads) =
    let runs = split o (openings_in hs) t.openings (subst (λ (l : List Happening). AreRunsOf (openings_in l) t.openings) is tells.tells.opened) in
    record {
      run = o;
      told = hs;
      first = s;
      last = u;
      opens = opens;
      leads = leads;
      opening = runs.opening;
      later = runs.later;
      openings = runs.are;
      is = runs.is;
      are = runs.others;
      entries = tells.tells.entered ∙ ap entries_in is;
      sources = subst (λ (l : List Happening). AreSourcesOf 0 l t.sources) is tells.tells.from;
    }

-- ---- whose it is

party_is : (o : OpenedRun) (x : Opening) → IsRunOf o x → party_opened x ≡ party_of o.member
party_is o x is = ap party_at is.2

pub teller_is : (w : List ℕ) (held : Held) (t : Transcript) (l : IsLifeOf w held t) → teller t ≡ party_of l.run.member
teller_is w held t l = ap first_party l.openings ∙ party_is l.run l.opening l.is

pub teller_wanted : (w : List ℕ) (held : Held) (t : Transcript) → IsLifeOf w held t → key (teller t) ≡ key w
teller_wanted w held t l = ap key (teller_is w held t l) ∙ l.opens.same

parties_wanted : (w : List ℕ) (hs : List Happening) (p : List ℕ) (s t : NodeState) (xs : List Opening) → AreRunsOf (openings_in hs) xs → Leads w p s hs t
    → (x : Opening) → Contains xs x → key (party_opened x) ≡ key w
parties_wanted w [] p s t [] runs leads x within = absurd (in_none x within)
parties_wanted w [] p s t (y ∷ ys) runs leads x within = absurd runs
parties_wanted w (Came text e ∷ hs) p s t xs runs (u, step, reads, rest) x within = parties_wanted w hs p u t xs runs rest x within
parties_wanted w (Opened o ∷ hs) p s t [] runs leads x within = absurd runs
parties_wanted w (Opened o ∷ hs) p s t (y ∷ ys) (is, runs) (u, opens, rest) x within = elim (Contains-append_cases (y ∷ []) ys x within) [
  | inl here ↦ ap (λ (z : Opening). key (party_opened z)) (sym (in_single y x here)) ∙ ap key (party_is o y is) ∙ opens.same
  | inr later ↦ parties_wanted w hs (party_of o.member) u t ys runs rest x later
]

-- ---- where the entries come from

-- an opening that stands behind so many
pub record StandsBehind (openings : List Opening) (n : ℕ) (x : Opening) (later : List Opening) : Type 0 where
  pub before : List Opening
  pub size : length before ≡ n
  pub are : openings ≡ before ++ x ∷ later

pub stands_there : (openings : List Opening) (n : ℕ) (x : Opening) (later : List Opening) → StandsBehind openings n x later → slice_get openings n ≡ Some x
stands_there openings n x later at = ap (λ (l : List Opening). slice_get l n) at.are ∙ got_between at.before x later n (sym at.size)

pub next_behind : (openings : List Opening) (n : ℕ) (x y : Opening) (later : List Opening) → StandsBehind openings n x (y ∷ later) → StandsBehind openings (suc n) y later
next_behind openings n x y later at = record {
  before = at.before ++ x ∷ [];
  size = let one = length-append at.before (x ∷ []) in let size = at.size in omega (arith, one, size);
  are = at.are ∙ sym (append_assoc at.before (x ∷ []) (y ∷ later));
}

module _ (w : List ℕ) (openings : List Opening) where
  each_source : (hs : List Happening) (n : ℕ) (x : Opening) (later : List Opening) (p : List ℕ) (s t : NodeState) (sources : List Source) → StandsBehind openings n x later → party_opened x ≡ p
      → AreRunsOf (openings_in hs) later → AreSourcesOf (suc n) hs sources → Leads w p s hs t
      → (i : ℕ) (e : Entry) (from : Source) (y : Opening) → slice_get (entries_behind hs) i ≡ Some e → slice_get sources i ≡ Some from → slice_get openings (opening_of from) ≡ Some y
      → IsSourceIn y e from
  each_source [] n x later p s t sources at party runs are leads i e from y here there of_run = cc
  each_source (Came text z ∷ hs) n x later p s t [] at party runs are leads i e from y here there of_run = absurd are
  each_source (Came text z ∷ hs) n x later p s t (Restarted place ∷ sources) at party runs are leads i e from y here there of_run = absurd are
  each_source (Came text z ∷ hs) n x later p s t (Echoed place line ∷ sources) at party runs (number, text_at, are) (u, step, reads, rest) zero e from y here there of_run =
      let one : place ≡ n = omega (arith, number) in
      let run : slice_get openings place ≡ Some y = ap (λ (o : Source). slice_get openings (opening_of o)) (some_same (Echoed place line) from there) ∙ of_run in
      let same : y ≡ x = some_same y x (sym run ∙ ap (slice_get openings) one ∙ stands_there openings n x later at) in
      let is : IsSourceIn y z.entry (Echoed place line) =
      subst (λ (q : List ℕ). IsEventLine q z.entry line.bytes.now) (sym (ap party_opened same ∙ party)) (reads line.bytes.now text_at) in
      subst (λ (f : Entry). IsSourceIn y f from) (some_same z.entry e here) (subst (IsSourceIn y z.entry) (some_same (Echoed place line) from there) is)
  each_source (Came text z ∷ hs) n x later p s t (Echoed place line ∷ sources) at party runs (number, text_at, are) (u, step, reads, rest) (suc i) e from y here there of_run =
      each_source hs n x later p u t sources at party runs are rest i e from y here there of_run
  each_source (Opened o ∷ hs) n x later p s t [] at party runs are leads i e from y here there of_run = absurd are
  each_source (Opened o ∷ hs) n x later p s t (Echoed place line ∷ sources) at party runs are leads i e from y here there of_run = absurd are
  each_source (Opened o ∷ hs) n x later p s t (Restarted place ∷ sources) at party runs are leads zero e from y here there of_run =
      subst (IsSourceIn y e) (some_same (Restarted place) from there) (sym (some_same restart_entry e here))
  each_source (Opened o ∷ hs) n x [] p s t (Restarted place ∷ sources) at party runs are leads (suc i) e from y here there of_run = absurd runs
  each_source (Opened o ∷ hs) n x (v ∷ later) p s t (Restarted place ∷ sources) at party runs (number, are) (u, opens, rest) (suc i) e from y here there of_run =
      each_source hs (suc n) v later (party_of o.member) u t sources (next_behind openings n x v later at) (party_is o v runs.0) runs.1 are rest i e from y here there of_run

-- no restart is the first run
later_runs : (hs : List Happening) (n : ℕ) (sources : List Source) → AreSourcesOf (suc n) hs sources → (at : ℕ) → Contains sources (Restarted at) → at ≢ 0
later_runs [] n [] are at within = absurd (in_none (Restarted at) within)
later_runs [] n (x ∷ xs) are at within = absurd are
later_runs (Came text z ∷ hs) n [] are at within = absurd are
later_runs (Came text z ∷ hs) n (Restarted place ∷ sources) are at within = absurd are
later_runs (Came text z ∷ hs) n (Echoed place line ∷ sources) (number, text_at, are) at within = elim (Contains-append_cases (Echoed place line ∷ []) sources (Restarted at) within) [
  | inl here ↦ absurd (other (in_single (Echoed place line) (Restarted at) here))
  | inr behind ↦ later_runs hs n sources are at behind
]
  where
    other : Echoed place line ≡ Restarted at → ⊥
    other e = cc
later_runs (Opened o ∷ hs) n [] are at within = absurd are
later_runs (Opened o ∷ hs) n (Echoed place line ∷ sources) are at within = absurd are
later_runs (Opened o ∷ hs) n (Restarted place ∷ sources) (number, are) at within = elim (Contains-append_cases (Restarted place ∷ []) sources (Restarted at) within) [
  | inl here ↦ λ none. let same : place ≡ at = ap opening_of (in_single (Restarted place) (Restarted at) here) in absurd (omega (arith, same, number, none))
  | inr behind ↦ later_runs hs (suc n) sources are at behind
]

pub sourced : (w : List ℕ) (held : Held) (t : Transcript) → IsLifeOf w held t → HasSources t
sourced w held t l = record {
  each = λ i e from y here there of_run.
      each_source w t.openings l.told 0 l.opening l.later (party_of l.run.member) l.first l.last t.sources (record { before = []; size = refl; are = l.openings }) (party_is l.run l.opening l.is)
      l.are l.sources l.leads i e from y (ap (λ (es : List Entry). slice_get es i) (sym l.entries) ∙ here) there of_run;
  later = later_runs l.told 0 t.sources l.sources;
  parties = λ x within. all x (subst (λ (os : List Opening). Contains os x) l.openings within);
}
  where
    all : (x : Opening) → Contains (l.opening ∷ l.later) x → key (party_opened x) ≡ key (teller t)
    all x within = elim (Contains-append_cases (l.opening ∷ []) l.later x within) [
      | inl here ↦ ap (λ (z : Opening). key (party_opened z)) (sym (in_single l.opening x here)) ∙ ap (λ (os : List Opening). key (first_party os)) (sym l.openings)
      | inr behind ↦ parties_wanted w l.told (party_of l.run.member) l.first l.last l.later l.are l.leads x behind ∙ sym (teller_wanted w held t l)
    ]

-- ---- of files

-- whose node a transcript is of, and what the store had before
pub record OfFile (t : Transcript) : Type 0 where
  pub wanted : List ℕ
  pub held : Held
  pub life : IsLifeOf wanted held t

pub life_told : (earlier : List (List ℕ)) (start : Store) (text : List ℕ) (t : Transcript) → IsTranscriptOf earlier start text t
    → (w : List ℕ) × IsOther earlier w × IsLifeOf w (held_in start) t
life_told earlier start text t (told, (w, other, prints), tells) = (w, other, by_life w (held_in start) t told tells (life_of w (held_in start) (10 ∷ 10 ∷ text) told prints))

module _ (files : List TranscriptFile) (told : List Transcript) (of : AreTranscripts files told) where
  pub life_at : (i : ℕ) (t : Transcript) → slice_get told i ≡ Some t → OfFile t
  life_at i t here =
      let within = slice_get_within told i t here in
      let size = of.size in
      let file = stands files i (omega (arith, within, size)) in
      let (w, other, life) = life_told (map teller (take i told)) (start_of file.0.store) file.0.text.now t (of.each i file.0 t file.1 here) in
      record { wanted = w; held = held_in (start_of file.0.store); life = life }

  pub each_life : (t : Transcript) → Contains told t → OfFile t
  each_life t within = let at = place_in told t within in life_at at.0 t at.1

  pub all_sourced : AreSourced told
  all_sourced t within = let of = each_life t within in sourced of.wanted of.held t of.life
