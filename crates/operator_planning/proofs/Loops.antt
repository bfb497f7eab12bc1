-- Acts that each element of a list brings about, whatever the number of the last request, gathered in turn.
use Rattle.std.proofs.Common.{◌≡◌, ◌≤◌, ◌++◌, ℕ, ◌+◌, List, [], ◌∷◌, length, drop, refl, sym, ap, ◌∙◌}
use Rattle.std.specs.List.{flat_map}
use Rattle.std.specs.Prelude.{map}
use Rattle.std.proofs.lemmas.List.{drop_all}
use Rattle.node_steps.specs.Acts.{Act, all_requests, in_turn}
use Rattle.node_steps.specs.Drafts.{Gathered, with_acts}
use Rattle.node_steps.proofs.Gathering.{all_turns, no_turns}

pub flat_in_turn : {X : Type 0} → (f : X → List Act) (last : ℕ) (xs : List X) → in_turn (λ n x. f x) last xs ≡ flat_map f xs
flat_in_turn f last [] = refl
flat_in_turn f last (x ∷ xs) = ap (λ l. f x ++ l) (flat_in_turn f (last + all_requests (f x)) xs)

pub single_in_turn : {X : Type 0} → (f : X → Act) (last : ℕ) (xs : List X) → in_turn (λ n x. f x ∷ []) last xs ≡ map f xs
single_in_turn f last [] = refl
single_in_turn f last (x ∷ xs) = ap (λ l. f x ∷ l) (single_in_turn f (last + all_requests (f x ∷ [])) xs)

-- once none is left, all are gathered
pub turns_done : {X : Type 0} → (f : ℕ → X → List Act) (xs : List X) (i : ℕ) (d e : Gathered) → length xs ≤ i → all_turns f (drop i xs) d ≡ all_turns f xs e → d ≡ all_turns f xs e
turns_done f xs i d e past is = sym (no_turns f d) ∙ sym (ap (λ l. all_turns f l d) (drop_all i xs past)) ∙ is

pub flat_done : {X : Type 0} → (f : X → List Act) (xs : List X) (i : ℕ) (d e : Gathered) → length xs ≤ i → all_turns (λ n x. f x) (drop i xs) d ≡ all_turns (λ n x. f x) xs e → d ≡ with_acts (flat_map f xs) e
flat_done f xs i d e past is = turns_done (λ n x. f x) xs i d e past is ∙ ap (λ l. with_acts l e) (flat_in_turn f e.counters.request xs)

pub single_done : {X : Type 0} → (f : X → Act) (xs : List X) (i : ℕ) (d e : Gathered) → length xs ≤ i → all_turns (λ n x. f x ∷ []) (drop i xs) d ≡ all_turns (λ n x. f x ∷ []) xs e → d ≡ with_acts (map f xs) e
single_done f xs i d e past is = turns_done (λ n x. f x ∷ []) xs i d e past is ∙ ap (λ l. with_acts l e) (single_in_turn f e.counters.request xs)
