-- The parties that words name.
use Rattle.std.proofs.Common.{◌≡◌, ◌∙◌, ℕ, ◌+◌, List, [], ◌∷◌, ◌++◌, take, sym, ap, subst, Ok, Result, IsTrue, false, inl, inr}
use Rattle.std.specs.Borrow.{Bor}
use Rattle.std.proofs.lemmas.List.Elements.{Contains-append_cases}
use Rattle.std.specs.Prelude.{Contains, Some, slice_get}
use Rattle.ocpi_text.specs.Party.{party_at}
use Rattle.ocpi_text.specs.Text.{key}
use Rattle.ocpi_types.specs.Setups.{party_of}
use Rattle.ocpi_types.specs.declared.setup.Node.{Node}
use Rattle.histories.proofs.Lists.{take_one}
use Rattle.replays.specs.Transcripts.{Transcript}
use Rattle.replays.specs.declared.transcript.Opening.{Opening}
use Rattle.tables.proofs.Elements.{in_single}
use Rattle.weave_runs.specs.Parties.{AreGiven, HasNoNode, HasNode, IsGiven, IsSpelledBy, NamesNode}

-- none of the first elements is so, where none before the last of them is, and that one is not
pub none_up_to : {X : Type 0} (xs : List X) (i : ℕ) (x : X) (P : X → Type 0) → slice_get xs i ≡ Some x → ((y : X) → Contains (take i xs) y → P y → ⊥) → (P x → ⊥)
    → (y : X) → Contains (take (i + 1) xs) y → P y → ⊥
none_up_to xs i x P at before here y within so = elim (Contains-append_cases (take i xs) (x ∷ []) y (subst (λ ys. Contains ys y) (take_one xs i x at) within)) [
  | inl earlier ↦ before y earlier so
  | inr last ↦ here (subst P (sym (in_single x y last)) so)
]

-- all of them are, where all before the last are, and that one is
pub all_up_to : {X : Type 0} (xs : List X) (i : ℕ) (x : X) (P : X → Type 0) → slice_get xs i ≡ Some x → ((y : X) → Contains (take i xs) y → P y) → P x
    → (y : X) → Contains (take (i + 1) xs) y → P y
all_up_to xs i x P at before here y within = elim (Contains-append_cases (take i xs) (x ∷ []) y (subst (λ ys. Contains ys y) (take_one xs i x at) within)) [
  | inl earlier ↦ before y earlier
  | inr last ↦ subst P (in_single x y last) here
]

pub ok_same : {T E : Type 0} (r : Result T E) (x y : T) → r ≡ Ok x → r ≡ Ok y → x ≡ y
ok_same r x y a b = cc

pub not_true : IsTrue false → ⊥
not_true e = cc

-- a node that the word names, by a run of a transcript
pub names_node : (told : List Transcript) (t : Transcript) → Contains told t → (x : Opening) → Contains t.openings x → (word party spelling : List ℕ)
    → party_at word ≡ Ok party → IsSpelledBy x.setup party spelling → (n : Node) × HasNode told n × NamesNode word n × (spelling ≡ party_of n)
names_node told t among x opened word party spelling is spelled = (
  spelled.node,
  record { of = t; among = among; opening = x; opened = opened; within = spelled.within },
  record { party = party; is_party = is; same = spelled.same },
  spelled.is,
)

-- no run has one
pub names_none : (told : List Transcript) (word party : List ℕ) → party_at word ≡ Ok party
    → ((t : Transcript) → Contains told t → (x : Opening) → Contains t.openings x → HasNoNode x.setup party) → (n : Node) → HasNode told n → NamesNode word n → ⊥
names_none told word party is none n has names =
    none has.of has.among has.opening has.opened n has.within
    (names.same ∙ ap key (ok_same (party_at word) names.party party names.is_party is))

module _ (told : List Transcript) where
  given_push : (ws : List (Bor (List ℕ))) (ps : List (List ℕ)) (w : Bor (List ℕ)) (p : List ℕ) → AreGiven told ws ps → IsGiven told w.now p → AreGiven told (ws ++ w ∷ []) (ps ++ p ∷ [])
  given_push [] [] w p h is = (is, tt)
  given_push [] (q ∷ ps) w p h is = absurd h
  given_push (v ∷ ws) [] w p h is = absurd h
  given_push (v ∷ ws) (q ∷ ps) w p (first, rest) is = (first, given_push ws ps w p rest is)

  -- one word more
  pub given_more : (words : List (Bor (List ℕ))) (i : ℕ) (w : Bor (List ℕ)) (ps longer : List (List ℕ)) (p : List ℕ) → slice_get words i ≡ Some w → AreGiven told (take i words) ps
      → IsGiven told w.now p → longer ≡ ps ++ p ∷ [] → AreGiven told (take (i + 1) words) longer
  given_more words i w ps longer p at are is added =
      subst (AreGiven told (take (i + 1) words)) (sym added) (subst (λ ws. AreGiven told ws (ps ++ p ∷ [])) (sym (take_one words i w at)) (given_push (take i words) ps w p are is))
