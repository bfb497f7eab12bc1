use Rattle.std.proofs.Common.{◌≡◌, ◌-◌, ◌<◌, [], ◌∷◌, List, length, Some, None, true, false, sym, ap, ap₂, ◌∙◌, arith, rules}
use Rattle.json.specs.Token.{Token}
use Rattle.json.specs.Json.{parse_map, after_end_array, read_key, items, members, value}
use Rattle.json.specs.Reads.{token_of}
use Rattle.json.proofs.Grammar.{value_is, value-begin_array, value-begin_object, read_key-shorter}
use Rattle.serde_json.specs.Data.{null, boolean, string, array, object, put}
use Rattle.serde_json.specs.Read.{converted}
use Rattle.json_text.specs.Trees.{view, members_view}
use Rattle.json_text.specs.declared.trees.Tree.{Tree, Text, Truth, Null, Number, the_lemmas}
use Rattle.json_text.specs.Tagged.{tagged, tagged_items, tagged_members}
use Rattle.json_text.specs.Tag.{is_tagged}
use Rattle.json_text.proofs.TreeViews.{view-Array, view-Object, members_view-push}
use Rattle.json_text.proofs.TaggedTrees.{tagged_array, tagged_object, item_read, items_over, member_read, members_over, item_refused, member_refused, key_refused, name_refused, items_before, items_before_none, one_more_item, none_before}
use Rattle.json_text.proofs.one_pass.+read.Goals as goal

pub read-returns-in_err-token-clause-declined : goal.read-returns-in_err-token-clause-declined
read-returns-in_err-token-clause-declined t c refused =
    let empty : c.args.reader.now ≡ [] = grind arith in
    ap (converted tagged) (ap (value c.args.depth) empty ∙ value_is c.args.depth [])

pub read-returns-then-depth-eq0-clause-declined : goal.read-returns-then-depth-eq0-clause-declined
unfolding value
read-returns-then-depth-eq0-clause-declined t c never =
    let first : c.args.reader.now ≡ token_of c.in_ok-token.token ∷ c.next.new.self = grind arith in
    let none : c.args.depth ≡ 0 = omega arith in
    ap (converted tagged) (ap₂ value none (first ∙ ap (λ k. token_of k ∷ c.next.new.self) c.in-BeginArray.is))

pub read-returns-then-depth-eq0-2-clause-declined : goal.read-returns-then-depth-eq0-2-clause-declined
unfolding value
read-returns-then-depth-eq0-2-clause-declined t c never =
    let first : c.args.reader.now ≡ token_of c.in_ok-token.token ∷ c.next.new.self = grind arith in
    let none : c.args.depth ≡ 0 = omega arith in
    ap (converted tagged) (ap₂ value none (first ∙ ap (λ k. token_of k ∷ c.next.new.self) c.in-BeginObject.is))

pub read-returns-in_err-read_items-in-BeginArray-clause-declined : goal.read-returns-in_err-read_items-in-BeginArray-clause-declined
read-returns-in_err-read_items-in-BeginArray-clause-declined t c refused =
    let first : c.args.reader.now ≡ token_of c.in_ok-token.token ∷ c.next.new.self = grind arith in
    let opened = ap (converted tagged) (ap (value c.args.depth) (first ∙ ap (λ k. token_of k ∷ c.next.new.self) c.in-BeginArray.is) ∙ value-begin_array c.args.depth c.next.new.self (omega arith)) ∙ tagged_array (items (value (c.args.depth - 1)) (length c.next.new.self) c.next.new.self) in
    opened ∙ ap (parse_map array) (c.read_items.ensures.declined (grind arith))

pub read-returns-in_err-read_members-in-BeginObject-clause-declined : goal.read-returns-in_err-read_members-in-BeginObject-clause-declined
read-returns-in_err-read_members-in-BeginObject-clause-declined t c refused =
    let first : c.args.reader.now ≡ token_of c.in_ok-token.token ∷ c.next.new.self = grind arith in
    let opened = ap (converted tagged) (ap (value c.args.depth) (first ∙ ap (λ k. token_of k ∷ c.next.new.self) c.in-BeginObject.is) ∙ value-begin_object c.args.depth c.next.new.self (omega arith)) ∙ tagged_object (members (value (c.args.depth - 1)) (length c.next.new.self) c.next.new.self) in
    opened ∙ ap (parse_map object) (c.read_members.ensures.declined (grind arith))

pub read-returns-then-is_tagged-clause-declined : goal.read-returns-then-is_tagged-clause-declined
read-returns-then-is_tagged-clause-declined t c refused =
    let first : c.args.reader.now ≡ token_of c.in_ok-token.token ∷ c.next.new.self = grind arith in
    let is : c.args.reader.now ≡ Token.string c.in-String.text.now ∷ c.next.new.self = grind (arith, first) in
    let tag : is_tagged c.in-String.text.now ≡ true = grind arith in
    ap (converted tagged) (ap (value c.args.depth) is ∙ value_is c.args.depth _) ∙ rw tag

pub read-returns-in-EndObject-clause-declined : goal.read-returns-in-EndObject-clause-declined
read-returns-in-EndObject-clause-declined t c refused =
    let first : c.args.reader.now ≡ token_of c.in_ok-token.token ∷ c.next.new.self = grind arith in
    let none : value c.args.depth c.args.reader.now ≡ None = rw (value_is c.args.depth c.args.reader.now, first) (grind arith) in
    ap (converted tagged) none

pub read-returns-else-is_tagged-clause-ok : goal.read-returns-else-is_tagged-clause-ok
read-returns-else-is_tagged-clause-ok t c =
    let first : c.args.reader.now ≡ token_of c.in_ok-token.token ∷ c.next.new.self = grind arith in
    let is : c.args.reader.now ≡ Token.string c.in-String.text.now ∷ c.next.new.self = grind (arith, first) in
    let seen : view (Text c.in-String.text) ≡ string c.in-String.text.now = search (rules, the_lemmas) in
    let untagged : is_tagged c.in-String.text.now ≡ false = grind arith in
    ap (converted tagged) (ap (value c.args.depth) is ∙ value_is c.args.depth _) ∙ rw (untagged, seen)

pub read-returns-in-Number-clause-ok : goal.read-returns-in-Number-clause-ok
read-returns-in-Number-clause-ok t c =
    let first : c.args.reader.now ≡ token_of c.in_ok-token.token ∷ c.next.new.self = grind arith in
    let is : c.args.reader.now ≡ Token.number c.in-Number.text.now ∷ c.next.new.self = grind (arith, first) in
    let seen : view (Number c.in-Number.text) ≡ string (1 ∷ c.in-Number.text.now) = search (rules, the_lemmas) in
    ap (converted tagged) (ap (value c.args.depth) is ∙ value_is c.args.depth _) ∙ ap (λ d. Some (d, c.next.new.self)) (sym seen)

pub read-returns-in-Bool-clause-ok : goal.read-returns-in-Bool-clause-ok
read-returns-in-Bool-clause-ok t c =
    let first : c.args.reader.now ≡ token_of c.in_ok-token.token ∷ c.next.new.self = grind arith in
    let is : c.args.reader.now ≡ Token.boolean c.in-Bool.b ∷ c.next.new.self = grind (arith, first) in
    let seen : view (Truth c.in-Bool.b) ≡ boolean c.in-Bool.b = search (rules, the_lemmas) in
    ap (converted tagged) (ap (value c.args.depth) is ∙ value_is c.args.depth _) ∙ ap (λ d. Some (d, c.next.new.self)) (sym seen)

pub read-returns-in-Null-clause-ok : goal.read-returns-in-Null-clause-ok
read-returns-in-Null-clause-ok t c =
    let first : c.args.reader.now ≡ token_of c.in_ok-token.token ∷ c.next.new.self = grind arith in
    let is : c.args.reader.now ≡ Token.null ∷ c.next.new.self = grind (arith, first) in
    let seen : view (Null) ≡ null = search (rules, the_lemmas) in
    ap (converted tagged) (ap (value c.args.depth) is ∙ value_is c.args.depth _) ∙ ap (λ d. Some (d, c.next.new.self)) (sym seen)

pub read-returns-in_ok-read_items-in-BeginArray-clause-ok : goal.read-returns-in_ok-read_items-in-BeginArray-clause-ok
read-returns-in_ok-read_items-in-BeginArray-clause-ok t c =
    let first : c.args.reader.now ≡ token_of c.in_ok-token.token ∷ c.next.new.self = grind arith in
    let opened = ap (converted tagged) (ap (value c.args.depth) (first ∙ ap (λ k. token_of k ∷ c.next.new.self) c.in-BeginArray.is) ∙ value-begin_array c.args.depth c.next.new.self (omega arith)) ∙ tagged_array (items (value (c.args.depth - 1)) (length c.next.new.self) c.next.new.self) in
    let found = c.in_ok-read_items-in-BeginArray in
    opened ∙ ap (parse_map array) found.ensures.ok ∙ ap (λ d. Some (d, c.read_items.new.reader)) (sym (view-Array found.field-0))

pub read-returns-in_ok-read_members-in-BeginObject-clause-ok : goal.read-returns-in_ok-read_members-in-BeginObject-clause-ok
read-returns-in_ok-read_members-in-BeginObject-clause-ok t c =
    let first : c.args.reader.now ≡ token_of c.in_ok-token.token ∷ c.next.new.self = grind arith in
    let opened = ap (converted tagged) (ap (value c.args.depth) (first ∙ ap (λ k. token_of k ∷ c.next.new.self) c.in-BeginObject.is) ∙ value-begin_object c.args.depth c.next.new.self (omega arith)) ∙ tagged_object (members (value (c.args.depth - 1)) (length c.next.new.self) c.next.new.self) in
    let found = c.in_ok-read_members-in-BeginObject in
    opened ∙ ap (parse_map object) found.ensures.ok ∙ ap (λ d. Some (d, c.read_members.new.reader)) (sym (view-Object found.field-0))

pub read_items-items-init : goal.read_items-items-init
read_items-items-init t c =
    let all = converted tagged_items (items (value c.args.depth) (length c.args.reader.now) c.args.reader.now) in
    (length c.args.reader.now, omega arith, none_before all ∙ ap (λ vs. parse_map (items_before vs) all) (sym c.new-found.ensures.items), omega arith)

pub read_items-returns-in_err-item-clause-declined : goal.read_items-returns-in_err-item-clause-declined
read_items-returns-in_err-item-clause-declined t c refused =
    let p = value c.args.depth in
    let l = c.items in
    let n = l.invariant.0 in
    let going : (after_end_array l.reader ≡ None) × (c.take_end_array.new.self ≡ l.reader) = grind arith in
    l.invariant.2 ∙ ap (parse_map (items_before l.found.items)) (item_refused p n l.reader going.0 (rw (← going.1) (c.read.ensures.declined (grind arith))))

pub read_items-items-preserved : goal.read_items-items-preserved
read_items-items-preserved t c =
    let p = value c.args.depth in
    let l = c.items in
    let n = l.invariant.0 in
    let going : (after_end_array l.reader ≡ None) × (c.take_end_array.new.self ≡ l.reader) = grind arith in
    let done = c.in_ok-item.ensures in
    let v = c.in_ok-item.item in
    let r = c.read.new.reader in
    let less : length r < length l.reader = rw (← going.1) done.shorter in
    let turn = item_read p n l.reader r (view v) (omega (arith, l.invariant.1)) going.0 (rw (← going.1) done.ok) in (
      n - 1,
      omega (arith, l.invariant.1),
      l.invariant.2 ∙ ap (parse_map (items_before l.found.items)) turn ∙ one_more_item l.found.items v _
          ∙ ap (λ vs. parse_map (items_before vs) (converted tagged_items (items p (n - 1) r))) (sym {A = List Tree} c.in_ok-push.ensures.items),
      omega (arith, l.invariant.3),
    )

pub read_items-returns-clause-ok : goal.read_items-returns-clause-ok
read_items-returns-clause-ok t c =
    let p = value c.args.depth in
    let l = c.items in
    let n = l.invariant.0 in
    let r = c.take_end_array.new.self in
    l.invariant.2 ∙ ap (parse_map (items_before l.found.items)) (items_over p n l.reader r l.invariant.1 (grind arith)) ∙ ap (λ ds. Some (ds, r)) (items_before_none l.found.items)

pub read_members-members-init : goal.read_members-members-init
read_members-members-init t c =
    let all = members (value c.args.depth) (length c.args.reader.now) c.args.reader.now in
    (length c.args.reader.now, omega arith, ap (λ es. converted (λ ms. tagged_members ms (members_view es)) all) (sym c.new-found.ensures.items), omega arith)

pub read_members-returns-in_err-name-clause-declined : goal.read_members-returns-in_err-name-clause-declined
read_members-returns-in_err-name-clause-declined t c refused =
    let p = value c.args.depth in
    let l = c.members in
    let n = l.invariant.0 in
    let old = members_view l.found.items in
    l.invariant.2 ∙ key_refused p old n l.reader c.in_err-name.ensures.value

pub read_members-returns-then-is_tagged-clause-declined : goal.read_members-returns-then-is_tagged-clause-declined
read_members-returns-then-is_tagged-clause-declined t c refused =
    let p = value c.args.depth in
    let l = c.members in
    let n = l.invariant.0 in
    let old = members_view l.found.items in
    let k = c.in-Some.name.now in
    let s = c.next_key.new.self in
    let named : read_key l.reader ≡ Some (Some k, s) = grind arith in
    let tag : is_tagged k ≡ true = grind arith in
    l.invariant.2 ∙ name_refused p old n k l.reader s tag named

pub read_members-returns-in_err-member-clause-declined : goal.read_members-returns-in_err-member-clause-declined
read_members-returns-in_err-member-clause-declined t c refused =
    let p = value c.args.depth in
    let l = c.members in
    let n = l.invariant.0 in
    let old = members_view l.found.items in
    let k = c.in-Some.name.now in
    let s = c.next_key.new.self in
    let named : read_key l.reader ≡ Some (Some k, s) = grind arith in
    let untagged : is_tagged k ≡ false = grind arith in
    l.invariant.2 ∙ member_refused p old n k l.reader s untagged named (c.read.ensures.declined (grind arith))

pub read_members-members-preserved : goal.read_members-members-preserved
read_members-members-preserved t c =
    let p = value c.args.depth in
    let l = c.members in
    let n = l.invariant.0 in
    let old = members_view l.found.items in
    let k = c.in-Some.name.now in
    let s = c.next_key.new.self in
    let named : read_key l.reader ≡ Some (Some k, s) = grind arith in
    let untagged : is_tagged k ≡ false = grind arith in
    let done = c.in_ok-member.ensures in
    let v = c.in_ok-member.member in
    let r = c.read.new.reader in
    let less = read_key-shorter l.reader (Some k) s named in
    let lesser = done.shorter in
    let pushed : members_view c.push_member.new.members.items ≡ put k (view v) old =
    ap members_view c.in_ok-push_member.ensures ∙ members_view-push l.found.items (c.in-Some.name, v) in (
      n - 1,
      omega (arith, l.invariant.1),
      l.invariant.2 ∙ member_read p old n k l.reader s r (view v) (omega (arith, l.invariant.1)) untagged named done.ok
          ∙ ap (λ found. converted (λ ms. tagged_members ms found) (members p (n - 1) r)) (sym pushed),
      omega (arith, l.invariant.3),
    )

pub read_members-returns-clause-ok : goal.read_members-returns-clause-ok
read_members-returns-clause-ok t c =
    let p = value c.args.depth in
    let l = c.members in
    let n = l.invariant.0 in
    let old = members_view l.found.items in
    l.invariant.2 ∙ members_over p old n l.reader c.next_key.new.self l.invariant.1 (grind arith)
