-- Reading the items and the members of a value one by one, where its numbers become texts behind U+0001.
use Rattle.std.proofs.Common.{◌≡◌, ℕ, zero, suc, ◌-◌, ◌<◌, ◌≤◌, true, false, List, [], ◌∷◌, ◌++◌, length, Option, Some, None, option_map, option_and_then, refl, ap, ◌∙◌}
use Rattle.json.specs.Token.{Token}
use Rattle.json.specs.Json as json
use Rattle.json.specs.Json.{Parse, parse_map, after_end_array, read_key, items_step, items, members, if_last}
use Rattle.json.proofs.Grammar.{items_end, items_more, members_end, members_no_key, members_more}
use Rattle.serde_json.specs.Data.{Data, array, object, Items, no_items, item, Members, no_members, put}
use Rattle.serde_json.specs.Read.{converted}
use Rattle.json_text.specs.Trees.{view, items_view}
use Rattle.json_text.specs.declared.trees.Tree.{Tree}
use Rattle.json_text.specs.Tagged.{tagged, tagged_items, tagged_members}
use Rattle.json_text.specs.Tag.{is_tagged}

-- ---- what was read, and what it is made

abbrev or_that : {A : Type 0} → A → Option A → A
or_that d None = d
or_that d (Some a) = a

made : {B : Type 0} (r s : List Token) (x : Option B) (b : B) → option_map {U = B × List Token} (λ y. (y, r)) x ≡ Some (b, s) → (r ≡ s) × (x ≡ Some b)
made r s None b e = absurd (cc)
made r s (Some y) b e = let same = ap (or_that (y, r)) e in (ap (λ p. p.1) same, ap (λ p. Some p.0) same)

pub converted_some : {A B : Type 0} (f : A → Option B) (o : Option (A × List Token)) (b : B) (s : List Token) → converted f o ≡ Some (b, s) → (a : A) × (o ≡ Some (a, s)) × (f a ≡ Some b)
converted_some f None b s e = absurd (cc)
converted_some f (Some p) b s e = let both = made p.1 s (f p.0) b e in (p.0, ap (λ r. Some (p.0, r)) both.0, both.1)

twice : {A B : Type 0} (g : A → B) (r : List Token) (x : Option A) → option_map (λ b. (b, r)) (option_map g x) ≡ parse_map g (option_map (λ a. (a, r)) x)
twice g r None = refl
twice g r (Some a) = refl

pub tagged_array : (o : Option (json.Items × List Token)) → converted tagged (parse_map json.array o) ≡ parse_map array (converted tagged_items o)
tagged_array None = refl
tagged_array (Some p) = twice array p.1 (tagged_items p.0)

pub tagged_object : (o : Option (json.Members × List Token)) → converted tagged (parse_map json.object o) ≡ parse_map object (converted (λ ms. tagged_members ms no_members) o)
tagged_object None = refl
tagged_object (Some p) = twice object p.1 (tagged_members p.0 no_members)

with_item : (j : json.Json) (d : Data) → tagged j ≡ Some d → (o : Option (json.Items × List Token)) → converted tagged_items (parse_map (json.item j) o) ≡ parse_map (item d) (converted tagged_items o)
with_item j d e None = refl
with_item j d e (Some p) = rw e (twice (item d) p.1 (tagged_items p.0))

with_member : (k : List ℕ) (j : json.Json) (d : Data) (old : Members) → is_tagged k ≡ false → tagged j ≡ Some d → (o : Option (json.Members × List Token))
    → converted (λ ms. tagged_members ms old) (parse_map (json.member k j) o) ≡ converted (λ ms. tagged_members ms (put k d old)) o
with_member k j d old b e None = refl
with_member k j d old b e (Some p) = rw (b, e) refl

refused : {B : Type 0} (r : List Token) (x : Option B) → option_map {U = B × List Token} (λ y. (y, r)) x ≡ None → x ≡ None
refused r None e = refl
refused r (Some y) e = absurd (cc)

without_item : (j : json.Json) → tagged j ≡ None → (o : Option (json.Items × List Token)) → converted tagged_items (parse_map (json.item j) o) ≡ None
without_item j e None = refl
without_item j e (Some p) = rw e

without_member : (k : List ℕ) (j : json.Json) (old : Members) → is_tagged k ≡ false → tagged j ≡ None → (o : Option (json.Members × List Token)) → converted (λ ms. tagged_members ms old) (parse_map (json.member k j) o) ≡ None
without_member k j old b e None = refl
without_member k j old b e (Some p) = rw (b, e)

with_tagged_name : (k : List ℕ) (j : json.Json) (old : Members) → is_tagged k ≡ true → (o : Option (json.Members × List Token)) → converted (λ ms. tagged_members ms old) (parse_map (json.member k j) o) ≡ None
with_tagged_name k j old b None = refl
with_tagged_name k j old b (Some p) = rw b

module _ (p : Parse json.Json) where
  pub item_read : (n : ℕ) (ts r : List Token) (d : Data) → 0 < n → after_end_array ts ≡ None → converted tagged (p ts) ≡ Some (d, r)
      → converted tagged_items (items p n ts) ≡ parse_map (item d) (converted tagged_items (items p (n - 1) r))
  item_read n ts r d some going e = let j = converted_some tagged (p ts) d r e in ap (converted tagged_items) (items_more p n ts r j.0 some going j.1) ∙ with_item j.0 d j.2 _

  pub items_over : (n : ℕ) (ts r : List Token) → length ts ≤ n → after_end_array ts ≡ Some r → converted tagged_items (items p n ts) ≡ Some (no_items, r)
  items_over n ts r enough e = ap (converted tagged_items) (items_end p n ts r enough e)

  no_item : (more : Parse json.Items) (o : Option (json.Json × List Token)) → converted tagged o ≡ None → converted tagged_items (option_and_then (λ q. parse_map (json.item q.0) (more q.1)) o) ≡ None
  no_item more None e = refl
  no_item more (Some q) e = without_item q.0 (refused q.1 (tagged q.0) e) (more q.1)

  pub item_refused : (n : ℕ) (ts : List Token) → after_end_array ts ≡ None → converted tagged (p ts) ≡ None → converted tagged_items (items p n ts) ≡ None
  unfolding items
  item_refused zero ts going e = refl
  item_refused (suc n) ts going e = ap (λ o. converted tagged_items (items_step p (items p n) ts o)) going ∙ no_item (items p n) (p ts) e

  module _ (old : Members) where
    no_member : (k : List ℕ) (more : Parse json.Members) (o : Option (json.Json × List Token)) → is_tagged k ≡ false → converted tagged o ≡ None
        → converted (λ ms. tagged_members ms old) (option_and_then (λ q. parse_map (json.member k q.0) (more q.1)) o) ≡ None
    no_member k more None b e = refl
    no_member k more (Some q) b e = without_member k q.0 old b (refused q.1 (tagged q.0) e) (more q.1)

    pub member_refused : (n : ℕ) (k : List ℕ) (ts s : List Token) → is_tagged k ≡ false → read_key ts ≡ Some (Some k, s) → converted tagged (p s) ≡ None → converted (λ ms. tagged_members ms old) (members p n ts) ≡ None
    unfolding members
    member_refused zero k ts s b key e = refl
    member_refused (suc n) k ts s b key e = rw key (no_member k (members p n) (p s) b e)

    pub key_refused : (n : ℕ) (ts : List Token) → read_key ts ≡ None → converted (λ ms. tagged_members ms old) (members p n ts) ≡ None
    key_refused n ts e = ap (converted (λ ms. tagged_members ms old)) (members_no_key p n ts e)

    no_name : (k : List ℕ) (more : Parse json.Members) (o : Option (json.Json × List Token)) → is_tagged k ≡ true
        → converted (λ ms. tagged_members ms old) (option_and_then (λ q. parse_map (json.member k q.0) (more q.1)) o) ≡ None
    no_name k more None b = refl
    no_name k more (Some q) b = with_tagged_name k q.0 old b (more q.1)

    pub name_refused : (n : ℕ) (k : List ℕ) (ts s : List Token) → is_tagged k ≡ true → read_key ts ≡ Some (Some k, s) → converted (λ ms. tagged_members ms old) (members p n ts) ≡ None
    unfolding members
    name_refused zero k ts s b key = refl
    name_refused (suc n) k ts s b key = rw key (no_name k (members p n) (p s) b)

    pub member_read : (n : ℕ) (k : List ℕ) (ts s r : List Token) (d : Data) → 0 < n → is_tagged k ≡ false → read_key ts ≡ Some (Some k, s) → converted tagged (p s) ≡ Some (d, r)
        → converted (λ ms. tagged_members ms old) (members p n ts) ≡ converted (λ ms. tagged_members ms (put k d old)) (members p (n - 1) r)
    member_read n k ts s r d some untagged key e =
        let j = converted_some tagged (p s) d r e in
        ap (converted (λ ms. tagged_members ms old)) (members_more p n k ts s r j.0 some key j.1) ∙ with_member k j.0 d old untagged j.2 _

    pub members_over : (n : ℕ) (ts r : List Token) → length ts ≤ n → read_key ts ≡ Some (None, r) → converted (λ ms. tagged_members ms old) (members p n ts) ≡ Some (old, r)
    members_over n ts r enough e = ap (converted (λ ms. tagged_members ms old)) (members_end p n ts r enough e)

-- ---- a list that grows at its end

abbrev pub items_before : List Tree → Items → Items
items_before [] rest = rest
items_before (v ∷ vs) rest = item (view v) (items_before vs rest)

pub items_before_none : (vs : List Tree) → items_before vs no_items ≡ items_view vs
items_before_none [] = refl
items_before_none (v ∷ vs) = ap (item (view v)) (items_before_none vs)

before_pushed : (vs : List Tree) (v : Tree) (rest : Items) → items_before vs (item (view v) rest) ≡ items_before (vs ++ v ∷ []) rest
before_pushed [] v rest = refl
before_pushed (w ∷ vs) v rest = ap (item (view w)) (before_pushed vs v rest)

pub one_more_item : (vs : List Tree) (v : Tree) (r : Option (Items × List Token)) → parse_map (items_before vs) (parse_map (item (view v)) r) ≡ parse_map (items_before (vs ++ v ∷ [])) r
one_more_item vs v None = refl
one_more_item vs v (Some p) = ap (λ ds. Some (ds, p.1)) (before_pushed vs v p.0)

pub none_before : (r : Option (Items × List Token)) → r ≡ parse_map (λ a. a) r
none_before None = refl
none_before (Some p) = refl

-- ---- the whole text

abbrev whole : Option (json.Json × List Token) → Option Data
whole o = option_and_then tagged (option_and_then (λ p. if_last p.0 p.1) o)

pub whole_read : (o : Option (json.Json × List Token)) (d : Data) → converted tagged o ≡ Some (d, []) → whole o ≡ Some d
whole_read o d e = let j = converted_some tagged o d [] e in ap whole j.1 ∙ j.2
