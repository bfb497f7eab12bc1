-- What clauses say of a result, together.
use Rattle.std.proofs.Common.{◌≡◌, IfErr, IfOk, OnOk, Result, Ok, Err, false, is_err, true≢false}

pub on_four_ok : {A E P Q R S T : Type 0} (r : Result A E) → (P → Q → R → S → T) → OnOk r P → OnOk r Q → OnOk r R → OnOk r S → OnOk r T
on_four_ok (Ok x) f p q r s = f p q r s
on_four_ok (Err e) f p q r s = tt

pub on_five_ok : {A E P Q R S T U : Type 0} (r : Result A E) → (P → Q → R → S → T → U) → OnOk r P → OnOk r Q → OnOk r R → OnOk r S → OnOk r T → OnOk r U
on_five_ok (Ok x) f p q r s t = f p q r s t
on_five_ok (Err e) f p q r s t = tt

-- a clause under a premise
pub under_ok : {A E P : Type 0} (Q : Type 0) (r : Result A E) → (P → OnOk r Q) → OnOk r (P → Q)
under_ok Q (Ok x) f = f
under_ok Q (Err e) f = tt

pub on_err : {A E : Type 0} {P Q : E → Type 0} (r : Result A E) → ((e : E) → P e → Q e) → IfErr r P → IfErr r Q
on_err (Ok x) f p = tt
on_err (Err e) f p = f e p

pub ok_so : {A E P : Type 0} (r : Result A E) → OnOk r P → is_err r ≡ false → P
ok_so (Ok x) p no_error = p
ok_so (Err e) p no_error = absurd (true≢false no_error)

pub if_ok : {A E : Type 0} {P Q : A → Type 0} (r : Result A E) → ((x : A) → P x → Q x) → IfOk r P → IfOk r Q
if_ok (Ok x) f p = f x p
if_ok (Err e) f p = tt
