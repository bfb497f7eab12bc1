-- Of several members of one name the last counts.
use Rattle.std.proofs.Common.{◌≡◌, Bool, true, false, cond, List, ℕ, Option, Some, None, option_map, option_and_then, Ordering, Less, Equal, Greater, refl, sym, ap, subst, ◌∙◌}
use Rattle.std.specs.Ordering.{nat_cmp, match_ordering, is_eq}
use Rattle.std.specs.Cmp.Lexicographic.{slice_cmp, nat_list_cmp_total}
use Rattle.std.specs.Str.{bytes_eq}
use Rattle.std.specs.FinSet.{slice_cmp-IsAntisymmetric, nat_cmp-IsAntisymmetric}
use Rattle.std.proofs.lemmas.Cmp.{tied_itself}
use Rattle.std.proofs.lemmas.Map.Text.{is_eq-slice_cmp}
use Rattle.std.proofs.lemmas.Slice.Eq.{bytes_eq-Decides}
use Rattle.json.specs.Json as json
use Rattle.serde_json.specs.Data.{Data, object, Members, no_members, member, put}
use Rattle.serde_json.specs.Find.{get, get_member}
use Rattle.serde_json.specs.Read.{of_json, of_members}
use Rattle.json_text.specs.Nesting.{or_earlier, last_of}

-- ---- looking up what was put

at_order : (o : Ordering) (e : Data) (rest : Option Data) → match_ordering o rest (Some e) rest ≡ cond (is_eq o) (Some e) rest
at_order Less e rest = refl
at_order Equal e rest = refl
at_order Greater e rest = refl

look : (q l : List ℕ) (e : Data) (ms : Members) → get_member q (member l e ms) ≡ cond (bytes_eq q l) (Some e) (get_member q ms)
look q l e ms = at_order (slice_cmp nat_cmp q l) e (get_member q ms) ∙ ap (λ (b : Bool). cond b (Some e) (get_member q ms)) (is_eq-slice_cmp q l)

same_name : (b : Bool) (x y z : Option Data) → cond b x z ≡ cond b x (cond b y z)
same_name true x y z = refl
same_name false x y z = refl

two_names : (b c : Bool) (x y z : Option Data) → (b ≡ true → c ≡ true → ⊥) → cond c y (cond b x z) ≡ cond b x (cond c y z)
two_names true true x y z never = absurd (never refl refl)
two_names true false x y z never = refl
two_names false true x y z never = refl
two_names false false x y z never = refl

not_above : (k l : List ℕ) → slice_cmp nat_cmp k l ≡ Greater → k ≡ l → ⊥
not_above k l above same =
    let tied : slice_cmp nat_cmp k l ≡ Equal = subst (λ (x : List ℕ). slice_cmp nat_cmp k x ≡ Equal) same (tied_itself nat_list_cmp_total k) in
    let both : Greater ≡ Equal = sym above ∙ tied in
    cc

put_by : (q k l : List ℕ) (d e : Data) (ms : Members) (o : Ordering) → slice_cmp nat_cmp k l ≡ o → get_member q (put k d ms) ≡ cond (bytes_eq q k) (Some d) (get_member q ms)
    → get_member q (match_ordering o (member k d (member l e ms)) (member l d ms) (member l e (put k d ms))) ≡ cond (bytes_eq q k) (Some d) (get_member q (member l e ms))
put_by q k l d e ms Less is within = look q k d (member l e ms)
put_by q k l d e ms Equal is within =
    let same : k ≡ l = slice_cmp-IsAntisymmetric nat_cmp-IsAntisymmetric k l is in
    look q l d ms ∙ same_name (bytes_eq q l) (Some d) (Some e) (get_member q ms)
    ∙ ap (λ (b : Bool). cond b (Some d) (cond (bytes_eq q l) (Some e) (get_member q ms))) (ap (bytes_eq q) (sym same))
    ∙ ap (λ (o : Option Data). cond (bytes_eq q k) (Some d) o) (sym (look q l e ms))
put_by q k l d e ms Greater is within =
    look q l e (put k d ms)
    ∙ ap (λ (o : Option Data). cond (bytes_eq q l) (Some e) o) within
    ∙ two_names (bytes_eq q k) (bytes_eq q l) (Some d) (Some e) (get_member q ms) (λ x y. not_above k l is (sym ((bytes_eq-Decides q k).0 x) ∙ (bytes_eq-Decides q l).0 y))
    ∙ ap (λ (o : Option Data). cond (bytes_eq q k) (Some d) o) (sym (look q l e ms))

pub get_put : (q k : List ℕ) (d : Data) (ms : Members) → get_member q (put k d ms) ≡ cond (bytes_eq q k) (Some d) (get_member q ms)
get_put q k d no_members = look q k d no_members
get_put q k d (member l e ms) = put_by q k l d e ms (slice_cmp nat_cmp k l) refl (get_put q k d ms)

-- ---- members that go in one after another

-- what stands at the name: the member, or what stood there
abbrev chosen : Option json.Json → Option Data → Option Data
chosen None here = here
chosen (Some j) here = of_json j

last_by : (later : Option json.Json) (b : Bool) (j : json.Json) (d : Data) (here : Option Data) → of_json j ≡ Some d
    → chosen later (cond b (Some d) here) ≡ chosen (or_earlier later (cond b (Some j) None)) here
last_by (Some i) b j d here is = refl
last_by None true j d here is = sym is
last_by None false j d here is = refl

-- the members of the rest, put beside any found before
abbrev Rest : List ℕ → json.Members → Type 0
Rest name ms = (found out : Members) → of_members ms found ≡ Some out → get_member name out ≡ chosen (last_of name ms) (get_member name found)

member_last : (name k : List ℕ) (j : json.Json) (ms : json.Members) → Rest name ms → (found out : Members) (o : Option Data) → of_json j ≡ o → option_and_then (λ d. of_members ms (put k d found)) o ≡ Some out
    → get_member name out ≡ chosen (or_earlier (last_of name ms) (cond (bytes_eq name k) (Some j) None)) (get_member name found)
member_last name k j ms rest found out None is e = absurd cc
member_last name k j ms rest found out (Some d) is e =
    rest (put k d found) out e
    ∙ ap (chosen (last_of name ms)) (get_put name k d found)
    ∙ last_by (last_of name ms) (bytes_eq name k) j d (get_member name found) is

members_last : (name : List ℕ) (ms : json.Members) → Rest name ms
members_last name json.no_members = λ found out e. let same : found ≡ out = cc in ap (get_member name) (sym same)
members_last name (json.member k j ms) = λ found out e. member_last name k j ms (members_last name ms) found out (of_json j) refl e

chosen_alone : (o : Option json.Json) → chosen o None ≡ option_and_then of_json o
chosen_alone None = refl
chosen_alone (Some j) = refl

object_by : (name : List ℕ) (ms : json.Members) (d : Data) (o : Option Members) → of_members ms no_members ≡ o → option_map object o ≡ Some d → get name d ≡ option_and_then of_json (last_of name ms)
object_by name ms d None is e = absurd cc
object_by name ms d (Some out) is e =
    let same : object out ≡ d = cc in
    ap (get name) (sym same) ∙ members_last name ms no_members out is ∙ chosen_alone (last_of name ms)

pub last_counts : (ms : json.Members) (d : Data) (name : List ℕ) → of_json (json.object ms) ≡ Some d → get name d ≡ option_and_then of_json (last_of name ms)
last_counts ms d name e = object_by name ms d (of_members ms no_members) refl e
