-- Whose runs they may be.
use Rattle.std.proofs.Common.{◌≡◌, ◌≢◌, ◌⊎◌, ◌↔◌, ◌==◌, ℕ, List, [], ◌∷◌, Bool, true, false, IsTrue, length, ne_eqb, inl, inr, refl, sym, ap, subst, ◌∙◌, true≢false, arith}
use Rattle.replays.specs.Reading.{IsAmong, IsOther, MayBe, Reader}

pub nobody : (parties : List (List ℕ)) (w : List ℕ) (b : Bool) → (IsTrue b ↔ IsAmong parties w) → b ≡ false → IsOther parties w
nobody parties w b tells not = λ p within same. true≢false (sym (tells.1 (p, within, same)) ∙ not)

pub none_of : {A : Type 0} (xs : List A) (b : Bool) → b ≡ (length xs == 0) → b ≡ true → xs ≡ []
none_of [] b is so = refl
none_of (x ∷ xs) b is so = absurd (true≢false (sym so ∙ is ∙ ne_eqb (length (x ∷ xs)) 0 (omega arith)))

pub some_of : {A : Type 0} (xs : List A) (b : Bool) → b ≡ (length xs == 0) → b ≡ false → xs ≢ []
some_of xs b is not none = true≢false (sym (is ∙ ap (λ l. length l == 0) none) ∙ not)

pub may_be_any : (r : Reader) (w : List ℕ) → IsOther r.earlier w → r.parties ≡ [] → (IsTrue true ↔ MayBe r w)
may_be_any r w other none = ((λ so. (other, inl none)), (λ may. refl))

pub may_be_some : (r : Reader) (w : List ℕ) (b : Bool) → IsOther r.earlier w → r.parties ≢ [] → (IsTrue b ↔ IsAmong r.parties w) → (IsTrue b ↔ MayBe r w)
may_be_some r w b other some tells = ((λ so. (other, inr (tells.0 so))), (λ may. of may.1))
  where
    of : (r.parties ≡ []) ⊎ IsAmong r.parties w → IsTrue b
    of (inl none) = absurd (some none)
    of (inr among) = tells.1 among

pub may_not_be : (r : Reader) (w : List ℕ) (b : Bool) → (IsTrue b ↔ IsAmong r.earlier w) → b ≡ true → (IsTrue false ↔ MayBe r w)
may_not_be r w b tells so = ((λ bad. absurd (true≢false (sym bad))), (λ may. let a = tells.0 so in absurd (may.0 a.0 a.1 a.2)))
