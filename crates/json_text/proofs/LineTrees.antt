-- A line is read just where it has a tree, and the tree the form.
use Rattle.std.proofs.Common.{◌≡◌, ℕ, ◌≤◌, Bool, true, false, cond, List, length, Option, Some, None, Ok, Err, IfOk}
use Rattle.std.proofs.Common.{refl, sym, subst, ◌∙◌, arith, nat_lt}
use Rattle.std.specs.Str.{IsUtf8, is_utf8}
use Rattle.std.proofs.lemmas.Bool.Decides.{nat_tests}
use Rattle.std.proofs.lemmas.Str.{is_utf8-from_IsUtf8, IsUtf8-from_is_utf8}
use Rattle.serde_json.specs.Data.{Data}
use Rattle.serde_json.specs.Read.{read}
use Rattle.json_text.specs.declared.fault.JsonFault.TheVariants.{Syntax}
use Rattle.json_text.specs.Fault.{Read, Gives, Fails, ◌>>=◌}
use Rattle.json_text.specs.Line.{max_line, text_of, tree_or, tree_of, tree_at, HasTree}
use Rattle.json_text.specs.Names.{has_number_name}
use Rattle.json_text.specs.Quote.{quote}
use Rattle.json_text.proofs.Exact.{Exact, bind_ok, done}

record IsTextLine (line text : List ℕ) : Type 0 where
  same : text ≡ line
  short : length line ≤ max_line
  utf8 : IsUtf8 line

text_by : (line text : List ℕ) (long valid : Bool) → nat_lt max_line (length line) ≡ long → is_utf8 line ≡ valid
    → cond long (Err Syntax) (cond valid (done line) (Err Syntax)) ≡ Ok text → IsTextLine line text
text_by line text true valid l v e = absurd cc
text_by line text false false l v e = absurd cc
text_by line text false true l v e = record { same = cc; short = grind (arith, nat_tests); utf8 = IsUtf8-from_is_utf8 line v }

text_sound : (line text : List ℕ) → text_of line ≡ Ok text → IsTextLine line text
unfolding text_of
text_sound line text e = text_by line text (nat_lt max_line (length line)) (is_utf8 line) refl refl e

text_complete : (line : List ℕ) → length line ≤ max_line → IsUtf8 line → text_of line ≡ Ok line
unfolding text_of
text_complete line le u = let short : nat_lt max_line (length line) ≡ false = grind (arith, nat_tests) in rw (short, is_utf8-from_IsUtf8 line u) refl

or_some : (o : Option Data) (d : Data) → tree_or o ≡ Ok d → o ≡ Some d
or_some (Some x) d e = cc
or_some None d e = absurd cc

pub record IsNamed (quoted : List ℕ) (d : Data) : Type 0 where
  pub names : has_number_name quoted ≡ false
  pub json : read quoted ≡ Some d

named_by : (quoted : List ℕ) (d : Data) (b : Bool) → has_number_name quoted ≡ b → cond b (Err Syntax) (tree_or (read quoted)) ≡ Ok d → IsNamed quoted d
named_by quoted d true n e = absurd cc
named_by quoted d false n e = record { names = n; json = or_some (read quoted) d e }

pub named_sound : (quoted : List ℕ) (d : Data) → tree_of quoted ≡ Ok d → IsNamed quoted d
unfolding tree_of
named_sound quoted d e = named_by quoted d (has_number_name quoted) refl e

pub named_complete : (quoted : List ℕ) (d : Data) → has_number_name quoted ≡ false → read quoted ≡ Some d → tree_of quoted ≡ Ok d
unfolding tree_of
named_complete quoted d n j = rw (n, j) refl

pub tree_sound : (line : List ℕ) (d : Data) → tree_at line ≡ Ok d → HasTree line d
unfolding tree_at
tree_sound line d e =
    let a = bind_ok (text_of line) _ d e in
    let text = text_sound line a.0 a.1 in
    let b = bind_ok (quote a.0) tree_of d a.2 in
    let tree = named_sound b.0 d b.2 in
    record { short = text.short; utf8 = text.utf8; quoted = b.0; numbers = subst (λ (t : List ℕ). quote t ≡ Ok b.0) text.same b.1; names = tree.names; json = tree.json }

pub tree_complete : (line : List ℕ) (d : Data) → HasTree line d → tree_at line ≡ Ok d
unfolding tree_at
tree_complete line d h = rw (text_complete line h.short h.utf8, h.numbers) (named_complete h.quoted d h.names h.json)

-- what a line is read as, where its tree is read as it
pub line_sound : {X : Type 0} (reader : Data → Read X) (P : Data → X → Type 0) → Exact reader P → (line : List ℕ) (x : X)
    → (tree_at line >>= reader) ≡ Ok x → (d : Data) × HasTree line d × P d x
line_sound reader P exact line x e =
    let a = bind_ok (tree_at line) reader x e in
    (a.0, tree_sound line a.0 a.1, exact.sound a.0 x a.2)

pub line_complete : {X : Type 0} (reader : Data → Read X) (P : Data → X → Type 0) → Exact reader P → (line : List ℕ) (x : X) (d : Data)
    → HasTree line d → P d x → (tree_at line >>= reader) ≡ Ok x
line_complete reader P exact line x d h p = rw (tree_complete line d h) (exact.complete d x p)

-- what an answer says, where reading succeeds just where P holds
pub found_in : {X : Type 0} {read : Read X} {P : X → Type 0} → ((x : X) → read ≡ Ok x → P x) → (r : Read X) → Gives r read → IfOk r P
found_in sound (Ok x) g = sound x g
found_in sound (Err e) g = tt

pub only_in : {X : Type 0} {read : Read X} {P : X → Type 0} → ((x : X) → P x → read ≡ Ok x) → (r : Read X) → Gives r read → (x : X) → P x → Gives r (Ok x)
only_in complete (Ok y) g x p = sym (complete x p) ∙ g
only_in complete (Err e) g x p = subst (λ (read : Read _). Fails e read) (complete x p) g
