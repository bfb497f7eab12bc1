-- Which bytes are a line.
use Rattle.std.proofs.Common.{◌≡◌, ℕ, ◌≤◌, Bool, true, false, cond, List, length, Ok, Err, inl, inr, refl, sym, ap, ◌∙◌}
use Rattle.std.proofs.Common.{arith, nat_lt}
use Rattle.std.specs.Str.{IsUtf8, is_utf8}
use Rattle.std.proofs.lemmas.Bool.Decides.{nat_tests}
use Rattle.std.proofs.lemmas.Str.{is_utf8-from_IsUtf8, IsUtf8-from_is_utf8}
use Rattle.json_text.specs.declared.fault.JsonFault.{JsonFault}
use Rattle.json_text.specs.declared.fault.JsonFault.TheVariants.{Syntax}
use Rattle.json_text.specs.Fault.{Read}
use Rattle.json_text.proofs.Steps.{done}
use Rattle.json_text.specs.Line.{IsNoText, text_of}

pub is_text : (line : List ℕ) → length line ≤ 1048576 → IsUtf8 line → text_of line ≡ Ok line
unfolding text_of
is_text line le u = let short : nat_lt 1048576 (length line) ≡ false = grind (arith, nat_tests) in rw (short, is_utf8-from_IsUtf8 line u) refl

not_utf8 : (line : List ℕ) (b : Bool) → is_utf8 line ≡ b → ¬ (IsUtf8 line) → b ≡ false
not_utf8 line true e never = absurd (never (IsUtf8-from_is_utf8 line e))
not_utf8 line false e never = refl

pub is_no_text : (line : List ℕ) → length line ≤ 1048576 → ¬ (IsUtf8 line) → text_of line ≡ Err Syntax
unfolding text_of
is_no_text line le never = let short : nat_lt 1048576 (length line) ≡ false = grind (arith, nat_tests) in rw (short, not_utf8 line (is_utf8 line) refl never) refl

no_utf8 : (line : List ℕ) (long utf8 : Bool) → utf8 ≡ false → cond long (Err Syntax) (cond utf8 (done line) (Err Syntax)) ≡ Err Syntax
no_utf8 line true utf8 e = refl
no_utf8 line false true e = absurd cc
no_utf8 line false false e = refl

-- what is no text is refused
pub no_text : (line : List ℕ) → IsNoText line → text_of line ≡ Err Syntax
unfolding text_of
no_text line (inl long) = let test : nat_lt 1048576 (length line) ≡ true = grind (arith, nat_tests) in rw test refl
no_text line (inr never) = no_utf8 line (nat_lt 1048576 (length line)) (is_utf8 line) (not_utf8 line (is_utf8 line) refl never)

pub no_text_is_read : (line text : List ℕ) → text_of line ≡ Ok text → ¬ (IsNoText line)
no_text_is_read line text e never = absurd (cc (e, no_text line never))

abbrev refused : {X : Type 0} → JsonFault → Read X
refused e = Err e

same_fault : (e f : JsonFault) → refused {X = List ℕ} e ≡ refused f → e ≡ f
same_fault e f h = cc

-- how it is refused, whatever was to be read
pub told : {X : Type 0} (line : List ℕ) (e : JsonFault) → text_of line ≡ Err e → IsNoText line → refused {X = X} e ≡ refused Syntax
told line e is never = ap refused (same_fault e Syntax (sym is ∙ no_text line never))
