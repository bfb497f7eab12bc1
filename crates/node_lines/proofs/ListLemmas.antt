-- Whether a text begins as a JSON array does, byte by byte.
use Rattle.std.proofs.Common.{◌≡◌, ◌<◌, ◌≤◌, ◌↔◌, ◌+◌, ℕ, suc, List, [], ◌∷◌, ◌++◌, All, length, drop, get_or, refl, sym, ap, subst, ◌∙◌, rules, arith}
use Rattle.std.proofs.Math.Seq.{drop-cons}
use Rattle.std.proofs.lemmas.List.{drop_all}
use Rattle.std.proofs.lemmas.List.Elements.{All-cons, All-head, All-nil, All-tail}
use Rattle.node_lines.specs.ListLines.{BeginsList, IsSpace}

pub begins_here : (rest : List ℕ) → BeginsList (91 ∷ rest)
begins_here rest = record { spaces = []; rest = rest; all = All-nil IsSpace; is = refl }

pub begins_on : (c : ℕ) (s : List ℕ) → IsSpace c → BeginsList s → BeginsList (c ∷ s)
begins_on c s p b = record { spaces = c ∷ b.spaces; rest = b.rest; all = All-cons IsSpace c b.spaces p b.all; is = ap (λ (t : List ℕ). c ∷ t) b.is }

not_space : (c : ℕ) → c ≡ 91 → IsSpace c → ⊥
not_space c e p = search (rules, arith)

back_by : (c : ℕ) (s spaces rest : List ℕ) → All IsSpace spaces → c ∷ s ≡ spaces ++ 91 ∷ rest → IsSpace c → BeginsList s
back_by c s [] rest a e p = let first : c ≡ 91 = cc in absurd (not_space c first p)
back_by c s (d ∷ ds) rest a e p = let same : s ≡ ds ++ 91 ∷ rest = cc in record { spaces = ds; rest = rest; all = All-tail IsSpace d ds a; is = same }

begins_back : (c : ℕ) (s : List ℕ) → IsSpace c → BeginsList (c ∷ s) → BeginsList s
begins_back c s p b = back_by c s b.spaces b.rest b.all b.is p

here_by : (c : ℕ) (s spaces rest : List ℕ) → All IsSpace spaces → c ∷ s ≡ spaces ++ 91 ∷ rest → (IsSpace c → ⊥) → c ≡ 91
here_by c s [] rest a e p = cc
here_by c s (d ∷ ds) rest a e p =
    let first : c ≡ d = cc in
    absurd (p (subst IsSpace (sym first) (All-head IsSpace d ds a)))

none_by : (spaces rest : List ℕ) → [] ≡ spaces ++ 91 ∷ rest → ⊥
none_by [] rest e = cc
none_by (d ∷ ds) rest e = cc

-- ---- in a loop over the bytes

-- nothing but JSON spaces stands before that place
abbrev pub IsSoFar : List ℕ → ℕ → Type 0
IsSoFar text i = BeginsList (drop i text) ↔ BeginsList text

pub so_far : (text : List ℕ) → IsSoFar text 0
so_far text = (λ b. b, λ b. b)

pub one_more : (text : List ℕ) (i : ℕ) → i < length text → IsSpace (get_or text i 0) → IsSoFar text i → IsSoFar text (i + 1)
one_more text i lt p h =
    let c = get_or text i 0 in
    let on : suc i ≡ i + 1 = omega arith in
    let at : drop i text ≡ c ∷ drop (i + 1) text = drop-cons text i 0 lt ∙ ap (λ (n : ℕ). c ∷ drop n text) on in (
      λ b. h.0 (subst BeginsList (sym at) (begins_on c (drop (i + 1) text) p b)),
      λ b. begins_back c (drop (i + 1) text) p (subst BeginsList at (h.1 b)),
    )

pub found : (text : List ℕ) (i : ℕ) → i < length text → (IsSpace (get_or text i 0) → ⊥) → IsSoFar text i → (get_or text i 0 ≡ 91) ↔ BeginsList text
found text i lt p h =
    let c = get_or text i 0 in
    let rest = drop (suc i) text in
    let at : drop i text ≡ c ∷ rest = drop-cons text i 0 lt in (
      λ e. h.0 (subst BeginsList (sym at) (subst (λ (x : ℕ). BeginsList (x ∷ rest)) (sym e) (begins_here rest))),
      λ b. let g = subst BeginsList at (h.1 b) in here_by c rest g.spaces g.rest g.all g.is p,
    )

pub not_found : (text : List ℕ) (i : ℕ) → length text ≤ i → IsSoFar text i → BeginsList text → ⊥
not_found text i le h b =
    let none : drop i text ≡ [] = drop_all i text le in
    let g = subst BeginsList none (h.1 b) in
    none_by g.spaces g.rest g.is
