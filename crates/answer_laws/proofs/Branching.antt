-- What follows where something holds, and what where it does not.
use Rattle.std.proofs.Common.{◌≡◌, inl, inr, sym, ◌∙◌}
use Rattle.std.specs.Prelude.{◌⊎◌}

-- one follows where that holds, and the other where it does not
abbrev pub Branch : {X : Type 0} → Type 0 → (X → Type 0) → (X → Type 0) → X → Type 0
Branch P Then Else x = (P × Then x) ⊎ ((P → ⊥) × Else x)

-- at most one of all follows
abbrev pub AtMostOne : {X : Type 0} → (X → Type 0) → Type 0
AtMostOne {X = X} P = (x y : X) → P x → P y → x ≡ y

pub one_branch : {X P : Type 0} {Then Else : X → Type 0} → AtMostOne Then → AtMostOne Else → (x y : X) → Branch P Then Else x → Branch P Then Else y → x ≡ y
one_branch then other x y (inl h) (inl g) = then x y h.1 g.1
one_branch then other x y (inl h) (inr g) = absurd (g.0 h.0)
one_branch then other x y (inr h) (inl g) = absurd (h.0 g.0)
one_branch then other x y (inr h) (inr g) = other x y h.1 g.1

-- what is that very thing
pub one_is : {X : Type 0} (z x y : X) → x ≡ z → y ≡ z → x ≡ y
one_is z x y h g = h ∙ sym g
