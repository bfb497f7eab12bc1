-- What is known of a fault.
use Rattle.std.proofs.Common.{Result, Ok, Err, IfErr}

-- what is known in any case is known of each fault
pub of_each : {X E P : Type 0} (r : Result X E) → P → IfErr r (λ e. P)
of_each (Ok x) p = tt
of_each (Err e) p = p

-- what is known of a fault, and what follows from it
pub if_err_then : {X E : Type 0} (P Q : E → Type 0) (r : Result X E) → ((e : E) → P e → Q e) → IfErr r P → IfErr r Q
if_err_then P Q (Ok x) law h = tt
if_err_then P Q (Err e) law h = law e h
