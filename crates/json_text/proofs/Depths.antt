-- A line is read just where it is JSON that nests no deeper than the limit.
use Rattle.std.proofs.Common.{◌≡◌, ℕ, suc, max, ◌≤◌, ◌<◌, Bool, true, false, cond, List, [], ◌∷◌, ◌++◌, Option, Some, None, option_and_then, Ok, Err, refl, sym, ap, subst, ◌∙◌, append-nil, arith}
use Rattle.json.specs.Token.{Token}
use Rattle.json.specs.Lex.{tokens}
use Rattle.json.specs.Json.{Json, null, boolean, number, string, array, object, Items, no_items, item, Members, no_members, member, value, if_last}
use Rattle.json.specs.Tree.{json_tokens, depth, items_depth, members_depth}
use Rattle.json.proofs.Nesting.{value-depth}
use Rattle.json.proofs.Printed.Trees.{value-json_tokens}
use Rattle.json.proofs.Unique.Spelling.{value-json_tokens_back}
use Rattle.serde_json.specs.Data.{Data}
use Rattle.serde_json.specs.Read.{of_json, read}
use Rattle.json_text.specs.declared.fault.JsonFault.TheVariants.{Syntax}
use Rattle.json_text.specs.Line.{text_of, tree_or, tree_of, tree_at}
use Rattle.json_text.specs.Names.{has_number_name}
use Rattle.json_text.specs.Nesting.{HasJson, nesting, items_nesting, members_nesting, max_nesting}
use Rattle.json_text.specs.Quote.{quote}
use Rattle.json_text.proofs.Steps.{done, ok_is, bind_ok}

mutual
  nesting_is : (j : Json) → nesting j ≡ depth j
  nesting_is null = refl
  nesting_is (boolean b) = refl
  nesting_is (number s) = refl
  nesting_is (string s) = refl
  nesting_is (array js) = ap suc (items_nesting_is js)
  nesting_is (object ms) = ap suc (members_nesting_is ms)

  items_nesting_is : (js : Items) → items_nesting js ≡ items_depth js
  items_nesting_is no_items = refl
  items_nesting_is (item j js) = rw (nesting_is j, items_nesting_is js) refl

  members_nesting_is : (ms : Members) → members_nesting ms ≡ members_depth ms
  members_nesting_is no_members = refl
  members_nesting_is (member k j ms) = rw (nesting_is j, members_nesting_is ms) refl

-- ---- the tree of a text is one

first_or : Json → Option (Json × List Token) → Json
first_or d None = d
first_or d (Some p) = p.0

alike : (i j : Json) → json_tokens i ≡ json_tokens j → i ≡ j
unfolding first_or
alike i j e =
    let d = max (depth i) (depth j) in
    let one : value d (json_tokens i ++ []) ≡ Some (i, []) = value-json_tokens i d [] (omega arith) in
    let two : value d (json_tokens j ++ []) ≡ Some (j, []) = value-json_tokens j d [] (omega arith) in
    ap (first_or i) (sym one ∙ ap (λ (ts : List Token). value d (ts ++ [])) e ∙ two)

-- ---- deeper texts

too_deep : (j : Json) (o : Option (Json × List Token)) → value 127 (json_tokens j) ≡ o → 127 < depth j → option_and_then of_json (option_and_then (λ p. if_last p.0 p.1) o) ≡ None
too_deep j None e h = refl
too_deep j (Some (i, t ∷ r)) e h = refl
too_deep j (Some (i, [])) e h =
    let same : i ≡ j = alike i j (sym (value-json_tokens_back 127 (json_tokens j) [] i e ∙ append-nil (json_tokens i))) in
    let le : depth i ≤ 127 = value-depth 127 (json_tokens j) [] i e in
    let never : depth j ≤ 127 = subst (λ (k : Json). depth k ≤ 127) same le in
    absurd (omega arith)

unread : (quoted : List ℕ) (j : Json) → HasJson quoted j → max_nesting < nesting j → read quoted ≡ None
unread quoted j has h =
    let deep : 127 < depth j = omega (arith, nesting_is j) in
    ap (λ (ts : List Token). option_and_then of_json (option_and_then (λ p. if_last p.0 p.1) (value 127 ts))) has
    ∙ too_deep j (value 127 (json_tokens j)) refl deep

either_way : (b : Bool) (o : Option Data) → o ≡ None → cond b (Err Syntax) (tree_or o) ≡ Err Syntax
either_way true o e = refl
either_way false o e = ap tree_or e

pub deeper : (line quoted : List ℕ) (j : Json) → text_of line ≡ Ok line → quote line ≡ Ok quoted → HasJson quoted j → max_nesting < nesting j → tree_at line ≡ Err Syntax
unfolding tree_at tree_of
deeper line quoted j text numbers has h = rw (text, numbers) (either_way (has_number_name quoted) (read quoted) (unread quoted j has h))

-- ---- the others

pub others : (line quoted : List ℕ) (j : Json) (d : Data) → text_of line ≡ Ok line → quote line ≡ Ok quoted → has_number_name quoted ≡ false → HasJson quoted j → nesting j ≤ max_nesting → of_json j ≡ Some d → tree_at line ≡ Ok d
unfolding tree_at tree_of
others line quoted j d text numbers names has h is =
    let shallow : depth j ≤ 127 = omega (arith, nesting_is j) in
    let there : read quoted ≡ Some d =
    ap (λ (ts : List Token). option_and_then of_json (option_and_then (λ p. if_last p.0 p.1) (value 127 ts))) (has ∙ sym (append-nil (json_tokens j)))
    ∙ ap (λ o. option_and_then of_json (option_and_then (λ p. if_last p.0 p.1) o)) (value-json_tokens j 127 [] shallow)
    ∙ is in
    rw (text, numbers, names) (ap tree_or there)

-- ---- what is read

record Found (quoted : List ℕ) (d : Data) : Type 0 where
  found : Json
  has : HasJson quoted found
  shallow : nesting found ≤ max_nesting
  is : of_json found ≡ Some d

found_by : (quoted : List ℕ) (o : Option (Json × List Token)) (d : Data) → value 127 (tokens quoted) ≡ o → option_and_then of_json (option_and_then (λ p. if_last p.0 p.1) o) ≡ Some d → Found quoted d
found_by quoted None d e h = absurd cc
found_by quoted (Some (i, t ∷ r)) d e h = absurd cc
found_by quoted (Some (i, [])) d e h = record {
  found = i;
  has = value-json_tokens_back 127 (tokens quoted) [] i e ∙ append-nil (json_tokens i);
  shallow = omega (arith, nesting_is i, value-depth 127 (tokens quoted) [] i e);
  is = h;
}

tree_some : (o : Option Data) (d : Data) → tree_or o ≡ Ok d → o ≡ Some d
tree_some None d e = absurd cc
tree_some (Some c) d e = ap (λ (x : Data). Some x) (ok_is c d e)

named_or : (b : Bool) (o : Option Data) (d : Data) → cond b (Err Syntax) (tree_or o) ≡ Ok d → o ≡ Some d
named_or true o d e = absurd cc
named_or false o d e = tree_some o d e

text_is : (b c : Bool) (line text : List ℕ) → cond b (Err Syntax) (cond c (done line) (Err Syntax)) ≡ Ok text → text ≡ line
text_is true c line text e = absurd cc
text_is false true line text e = sym (ok_is line text e)
text_is false false line text e = absurd cc

pub found : (line : List ℕ) (d : Data) → tree_at line ≡ Ok d → (quoted : List ℕ) × (j : Json) × (quote line ≡ Ok quoted) × HasJson quoted j × (nesting j ≤ max_nesting) × (of_json j ≡ Some d)
unfolding tree_at tree_of text_of
found line d e =
    let a = bind_ok (text_of line) _ d e in
    let b = bind_ok (quote a.0) _ d a.2 in
    let same : a.0 ≡ line = text_is _ _ line a.0 a.1 in
    let f = found_by b.0 (value 127 (tokens b.0)) d refl (named_or (has_number_name b.0) (read b.0) d b.2) in
    (b.0, f.found, ap quote (sym same) ∙ b.1, f.has, f.shallow, f.is)
