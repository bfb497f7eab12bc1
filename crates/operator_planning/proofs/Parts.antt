-- Parts of a step that are gathered one after the other.
use Rattle.std.proofs.Common.{◌≡◌, ◌++◌, List, sym, ap, subst, ◌∙◌}
use Rattle.std.specs.Prelude.{Result, Ok, Err, Option, Some, None, OnOk, IfOk, IfErr, IfNone}
use Rattle.std.specs.Result.{IsErrAnd}
use Rattle.std.proofs.lemmas.Result.{err_from_is_err_and}
use Rattle.node_steps.specs.Acts.{Act}
use Rattle.node_steps.specs.Drafts.{Gathered, HasNumbersOf, with_acts}
use Rattle.node_steps.proofs.Gathering.{both, has_first, has_rest}

pub on_more : {T E P Q : Type 0} → (r : Result T E) → (P → Q) → OnOk r P → OnOk r Q
on_more (Ok x) f h = f h
on_more (Err e) f h = tt

pub none_more : {T P Q : Type 0} → (o : Option T) → (P → Q) → IfNone o P → IfNone o Q
none_more None f h = f h
none_more (Some x) f h = tt

module _ (first second third : List Act) (d : Gathered) (h : HasNumbersOf ((first ++ second) ++ third) d) where
  pub first_has : HasNumbersOf first d
  first_has = has_first first second d (has_first (first ++ second) third d h)

  pub third_has : (x y : Gathered) → x ≡ with_acts first d → y ≡ with_acts second x → HasNumbersOf third y
  third_has x y one two =
      let all : y ≡ with_acts (first ++ second) d = two ∙ ap (λ (g : Gathered). with_acts second g) one ∙ both first second d in
      subst (HasNumbersOf third) (sym all) (has_rest (first ++ second) third d h)

pub three_parts : (first second third : List Act) (d x y z : Gathered) → x ≡ with_acts first d → y ≡ with_acts second x → z ≡ with_acts third y → z ≡ with_acts ((first ++ second) ++ third) d
three_parts first second third d x y z one two three =
    three ∙ ap (λ (g : Gathered). with_acts third g) (two ∙ ap (λ (g : Gathered). with_acts second g) one ∙ both first second d) ∙ both (first ++ second) third d

-- what a `?` returns is the fault that it passes on
pub err_one : {T E : Type 0} (P : E → Type 0) (r : Result T E) (f : E) → IsErrAnd r (λ e. e ≡ f) → P f → IfErr r P
err_one P r f is h = let p = err_from_is_err_and r is in rw (p.1, p.2) h

pub err_none : {T E : Type 0} (P : T → Type 0) (r : Result T E) (f : E) → IsErrAnd r (λ e. e ≡ f) → IfOk r P
err_none P r f is = let p = err_from_is_err_and r is in rw (p.1) tt
