-- The lines of refusals, as they are made.
use Rattle.std.proofs.Common.{zero, suc, ◌≡◌, ◌∙◌, ℕ, ◌+◌, List, [], ◌∷◌, ◌++◌, Bool, true, false, Option, None, bytes_eq, cond, drop, sym, subst, ap, add-one, refl}
use Rattle.std.proofs.lemmas.List.{append_assoc}
use Rattle.std.specs.Prelude.{IfNone, IfSome, Some, slice_get}
use Rattle.ocpi_text.specs.Text.{key}
use Rattle.ocpi_types.specs.Setups.{node_key, party_of}
use Rattle.ocpi_types.specs.declared.setup.Node.{Node}
use Rattle.histories.proofs.Lists.{some_same}
use Rattle.ocpi_types.specs.declared.packet.Packet.{Packet}
use Rattle.histories.specs.declared.entry.Entry.{Entry}
use Rattle.histories.specs.Entries.{Delivers}
use Rattle.replays.specs.Transcripts.{Transcript}
use Rattle.weave.specs.declared.turn.Turn.{Turn}
use Rattle.weave_runs.specs.declared.told.TranscriptFile.{TranscriptFile}
use Rattle.weave_runs.specs.Refusals.{DeliversAt, IsLineOf, front_places, mark_of, marked, next_number, place_list, place_text, spelled}

pub drop_one : {X : Type 0} (xs : List X) (k : ℕ) (x : X) → slice_get xs k ≡ Some x → drop k xs ≡ x ∷ drop (k + 1) xs
drop_one [] k x at = cc
drop_one (y ∷ xs) zero x at = ap (λ z. z ∷ xs) (some_same y x at)
drop_one (y ∷ xs) (suc k) x at = drop_one xs k x at ∙ ap (λ n. x ∷ drop n xs) (add-one k) ∙ sym (ap (λ n. x ∷ drop n (y ∷ xs)) (add-one (suc k)))

-- ---- how a setup spells a party

module _ (nodes : List Node) (party : List ℕ) (i : ℕ) (n : Node) (at : slice_get nodes i ≡ Some n) (so_far : spelled nodes party ≡ spelled (drop i nodes) party) where
  here : (b : Bool) → b ≡ bytes_eq (node_key n) (key party) → spelled nodes party ≡ cond b (party_of n) (spelled (drop (i + 1) nodes) party)
  here b is = so_far ∙ ap (λ ns. spelled ns party) (drop_one nodes i n at) ∙ ap (λ c. cond c (party_of n) (spelled (drop (i + 1) nodes) party)) (sym is)

  pub spelled_here : true ≡ bytes_eq (node_key n) (key party) → spelled nodes party ≡ party_of n
  spelled_here is = here true is

  pub spelled_later : false ≡ bytes_eq (node_key n) (key party) → spelled nodes party ≡ spelled (drop (i + 1) nodes) party
  spelled_later is = here false is

-- ---- the next lines of files

module _ (files : List TranscriptFile) (told : List Transcript) (front : List ℕ) (i : ℕ) (f : TranscriptFile) (t : Transcript) (place : ℕ)
    (file_at : slice_get files i ≡ Some f) (told_at : slice_get told i ≡ Some t) (place_at : slice_get front i ≡ Some place) where
  places_on : front_places (drop i files) (drop i told) (drop i front)
      ≡ place_list f.name.now (next_number t place) ++ front_places (drop (i + 1) files) (drop (i + 1) told) (drop (i + 1) front)
  places_on =
      ap (λ fs. front_places fs (drop i told) (drop i front)) (drop_one files i f file_at)
      ∙ ap (λ ts. front_places (f ∷ drop (i + 1) files) ts (drop i front)) (drop_one told i t told_at)
      ∙ ap (λ ns. front_places (f ∷ drop (i + 1) files) (t ∷ drop (i + 1) told) ns) (drop_one front i place place_at)

  -- one place more
  pub place_more : (line : ℕ) (first : Bool) (out longer whole : List ℕ) → Some line ≡ next_number t place → out ++ marked first (front_places (drop i files) (drop i told) (drop i front)) ≡ whole
      → longer ≡ out ++ (mark_of first ++ place_text f.name.now line) → longer ++ marked false (front_places (drop (i + 1) files) (drop (i + 1) told) (drop (i + 1) front)) ≡ whole
  place_more line first out longer whole is so_far added =
      let later = marked false (front_places (drop (i + 1) files) (drop (i + 1) told) (drop (i + 1) front)) in
      ap (λ l. l ++ later) added ∙ append_assoc out (mark_of first ++ place_text f.name.now line) later
      ∙ ap (λ (o : Option ℕ). out ++ marked first (place_list f.name.now o ++ front_places (drop (i + 1) files) (drop (i + 1) told) (drop (i + 1) front))) is
      ∙ ap (λ ps. out ++ marked first ps) (sym places_on) ∙ so_far

  -- or none
  pub no_place : (first : Bool) (out whole : List ℕ) → None ≡ next_number t place → out ++ marked first (front_places (drop i files) (drop i told) (drop i front)) ≡ whole
      → out ++ marked first (front_places (drop (i + 1) files) (drop (i + 1) told) (drop (i + 1) front)) ≡ whole
  no_place first out whole is so_far =
      ap (λ (o : Option ℕ). out ++ marked first (place_list f.name.now o ++ front_places (drop (i + 1) files) (drop (i + 1) told) (drop (i + 1) front))) is
      ∙ ap (λ ps. out ++ marked first ps) (sym places_on) ∙ so_far

pub some_more : {T : Type 0} {P Q : T → Type 0} (o : Option T) → ((x : T) → P x → Q x) → IfSome o P → IfSome o Q
some_more None more h = h
some_more (Some x) more h = more x h

pub none_more : {T P Q : Type 0} (o : Option T) → (P → Q) → IfNone o P → IfNone o Q
none_more None more h = more h
none_more (Some x) more h = h

-- ---- the entry that a turn names

nothing_there : {X : Type 0} (o : Option X) (x : X) → o ≡ None → o ≡ Some x → ⊥
nothing_there o x none some = none_some (sym none ∙ some)
  where
    none_some : None ≡ Some x → ⊥
    none_some e = cc

module _ (told : List Transcript) (t : Turn) where
  pub no_teller : slice_get told t.history ≡ None → (q : Packet) → DeliversAt told t q → ⊥
  no_teller none q d = nothing_there (slice_get told t.history) d.teller_of none d.here

  module _ (u : Transcript) (here : slice_get told t.history ≡ Some u) where
    entry_of : (q : Packet) (d : DeliversAt told t q) → slice_get u.entries t.entry ≡ Some d.entry
    entry_of q d = ap (λ (v : Transcript). slice_get v.entries t.entry) (some_same u d.teller_of (sym here ∙ d.here)) ∙ d.stands

    pub no_entry : slice_get u.entries t.entry ≡ None → (q : Packet) → DeliversAt told t q → ⊥
    no_entry none q d = nothing_there (slice_get u.entries t.entry) d.entry none (entry_of q d)

    module _ (e : Entry) (stands : slice_get u.entries t.entry ≡ Some e) where
      pub delivers_at : (q : Packet) → Delivers e q → DeliversAt told t q
      delivers_at q delivers = record { teller_of = u; here = here; entry = e; stands = stands; delivers = delivers }

      pub no_packet : ((q : Packet) → Delivers e q → ⊥) → (q : Packet) → DeliversAt told t q → ⊥
      no_packet none q d = none q (subst (λ (f : Entry). Delivers f q) (some_same d.entry e (sym (entry_of q d) ∙ stands)) d.delivers)

    module _ (files : List TranscriptFile) where
      pub no_line : next_number u t.entry ≡ None → (name : List ℕ) (line : ℕ) → IsLineOf files told t name line → ⊥
      no_line none name line is =
          nothing_there (next_number u t.entry) line none (ap (λ (v : Transcript). next_number v t.entry) (some_same u is.teller_of (sym here ∙ is.here)) ∙ is.line_is)

      pub line_of : (f : TranscriptFile) (line : ℕ) → slice_get files t.history ≡ Some f → next_number u t.entry ≡ Some line → IsLineOf files told t f.name.now line
      line_of f line at is = record { file = f; of_file = at; name_is = refl; teller_of = u; here = here; line_is = is }

  module _ (files : List TranscriptFile) (name : List ℕ) (line : ℕ) where
    pub no_file : slice_get files t.history ≡ None → IsLineOf files told t name line → ⊥
    no_file none is = nothing_there (slice_get files t.history) is.file none is.of_file

    pub no_teller_of_line : slice_get told t.history ≡ None → IsLineOf files told t name line → ⊥
    no_teller_of_line none is = nothing_there (slice_get told t.history) is.teller_of none is.here
