-- The number of the last line that took hold stands at a place of its own.
use Rattle.std.proofs.Common.{◌≡◌, ◌≢◌, ℕ, ◌+◌, ◌<◌, ◌≤◌, Bool, true, false, cond, T, List, [], ◌∷◌, drop, get_or, length, Option, Some, None, Ok, Err, refl, sym, ap, subst, ◌∙◌, arith}
use Rattle.std.specs.Prelude.{codes, nat_le, if◌then◌else◌}
use Rattle.std.specs.FinMap.{empty, entries, entries_sorted, entries-from_sorted, find, from_sorted, get, get-empty, get-entries, get-from_sorted, get-insert, get-remove, is_sorted, remove, same_map}
use Rattle.std.specs.FinMap.Entries.{below_all}
use Rattle.std.specs.Ordering.{eq_by_cmp, is_lt}
use Rattle.std.specs.Cmp.{eq_by_cmp_equiv}
use Rattle.std.specs.Str.{bytes_eq}
use Rattle.std.proofs.lemmas.Bool.{and_parts, le-leb, leb-true}
use Rattle.std.proofs.lemmas.List.{drop_more}
use Rattle.std.proofs.lemmas.Option.{same_Some}
use Rattle.std.proofs.lemmas.Slice.Eq.{bytes_eq-Decides}
use Rattle.tables.specs.Keys.{text_pair_cmp, text_pair_total, text_pair_exact}
use Rattle.tables.proofs.Maps.{equal_of_is_eq}
use Rattle.tables.proofs.Ordered.{both, former, latter}
use Rattle.ocpi_text.specs.Whole.{max_whole}
use Rattle.json_text.specs.Fault.{Read}
use Rattle.ocpi_types.specs.Rows.{key_of}
use Rattle.ocpi_types.specs.declared.rows.Change.{Change}
use Rattle.ocpi_types.specs.declared.rows.Change.TheVariants as change
use Rattle.ocpi_types.specs.declared.rows.Counter.TheVariants as counter
use Rattle.ocpi_types.specs.declared.rows.Row.{Row}
use Rattle.ocpi_types.specs.declared.rows.Row.TheVariants as row
use Rattle.ocpi_types.specs.declared.rows.RowKey.{RowKey}
use Rattle.ocpi_types.specs.declared.rows.RowKey.TheVariants as keys
use Rattle.ocpi_json.specs.RowForms.{row_in}
use Rattle.ocpi_json.specs.RowKeys.{key_text}
use Rattle.row_texts.proofs.Again.{row_again}
use Rattle.node_store.specs.Contents.{Content, RowPlace, after_row, changed, changed_all, line_of, line_place, line_text, marked, number_in, number_kept, number_of_text, place_of, rows_after, rows_of}
use Rattle.node_store.specs.Numbers.{NumbersAreNoRows, is_line_place, others}
use Rattle.node_store.specs.Placing.{placed_of, set_text}
use Rattle.node_store.proofs.Placed.{one_placed}

abbrev Entry : Type 0
Entry = RowPlace × List ℕ

-- ---- places

differ : (s t : List ℕ) → bytes_eq s t ≡ false → s ≡ t → ⊥
differ s t apart same = let tied : bytes_eq s t ≡ true = (bytes_eq-Decides s t).1 same in absurd (let e : true ≡ false = sym tied ∙ apart in cc)

-- no key of a row has the place of the number
pub no_row_place : (k : RowKey) → place_of k ≢ line_place
unfolding key_text
no_row_place (keys.Count counter.Serial) is = differ (codes "serial") (codes "line") refl (ap (λ (p : RowPlace). p.1) is)
no_row_place (keys.Count counter.Request) is = differ (codes "request") (codes "line") refl (ap (λ (p : RowPlace). p.1) is)
no_row_place (keys.Count counter.Session) is = differ (codes "session") (codes "line") refl (ap (λ (p : RowPlace). p.1) is)
no_row_place (keys.Count counter.Cdr) is = differ (codes "cdr") (codes "line") refl (ap (λ (p : RowPlace). p.1) is)
no_row_place (keys.Count counter.Reference) is = differ (codes "reference") (codes "line") refl (ap (λ (p : RowPlace). p.1) is)
no_row_place (keys.Reply sender number) is = differ (codes "reply") (codes "count") refl (ap (λ (p : RowPlace). p.0) is)
no_row_place (keys.Token party token_type uid) is = differ (codes "token") (codes "count") refl (ap (λ (p : RowPlace). p.0) is)
no_row_place (keys.Push number) is = differ (codes "push") (codes "count") refl (ap (λ (p : RowPlace). p.0) is)
no_row_place (keys.Service evse_uid) is = differ (codes "service") (codes "count") refl (ap (λ (p : RowPlace). p.0) is)
no_row_place (keys.Spent provider reference) is = differ (codes "spent") (codes "count") refl (ap (λ (p : RowPlace). p.0) is)
no_row_place (keys.Mark provider reservation_id) is = differ (codes "mark") (codes "count") refl (ap (λ (p : RowPlace). p.0) is)
no_row_place (keys.Reservation provider reservation_id) is = differ (codes "reservation") (codes "count") refl (ap (λ (p : RowPlace). p.0) is)
no_row_place (keys.Pending provider number) is = differ (codes "pending") (codes "count") refl (ap (λ (p : RowPlace). p.0) is)
no_row_place (keys.Result provider number) is = differ (codes "result") (codes "count") refl (ap (λ (p : RowPlace). p.0) is)
no_row_place (keys.Session operator id) is = differ (codes "session") (codes "count") refl (ap (λ (p : RowPlace). p.0) is)
no_row_place (keys.Cdr operator id) is = differ (codes "cdr") (codes "count") refl (ap (λ (p : RowPlace). p.0) is)
no_row_place (keys.Command number) is = differ (codes "command") (codes "count") refl (ap (λ (p : RowPlace). p.0) is)

pub change_apart : (x : Change) → (placed_of x).place ≢ line_place
change_apart (change.Put r) = no_row_place (key_of r)
change_apart (change.Drop k) = no_row_place k

pub same_place : (p : RowPlace) → eq_by_cmp text_pair_cmp p p ≡ true
same_place p = (eq_by_cmp_equiv text_pair_total).refl p

pub one_place : (p q : RowPlace) → eq_by_cmp text_pair_cmp p q ≡ true → p ≡ q
one_place p q tied = text_pair_exact p q (equal_of_is_eq (text_pair_cmp p q) tied)

-- places that differ do not tie
pub untied : (p q : RowPlace) → p ≢ q → eq_by_cmp text_pair_cmp p q ≡ false
untied p q apart = by_test (eq_by_cmp text_pair_cmp p q) refl
  where
    by_test : (b : Bool) → eq_by_cmp text_pair_cmp p q ≡ b → b ≡ false
    by_test true tied = absurd (apart (one_place p q tied))
    by_test false tied = refl

pub at_line : (p : RowPlace) → is_line_place p ≡ true → p ≡ line_place
at_line p is =
    let parts = and_parts (bytes_eq p.0 (codes "count")) (bytes_eq p.1 (codes "line")) is in
    let kind = (bytes_eq-Decides p.0 (codes "count")).0 parts.0 in
    let name = (bytes_eq-Decides p.1 (codes "line")).0 parts.1 in
    λ i. (kind i, name i)

pub not_line : (p : RowPlace) → is_line_place p ≡ false → p ≢ line_place
not_line p is at = absurd (let f = sym is ∙ ap is_line_place at in cc)

pub line_test : (p : RowPlace) → eq_by_cmp text_pair_cmp p line_place ≡ is_line_place p
line_test p = by_test (is_line_place p) refl
  where
    by_test : (b : Bool) → is_line_place p ≡ b → eq_by_cmp text_pair_cmp p line_place ≡ b
    by_test true is = subst (λ (q : RowPlace). eq_by_cmp text_pair_cmp q line_place ≡ true) (sym (at_line p is)) (same_place line_place)
    by_test false is = untied p line_place (not_line p is)

-- ---- what stands after a text is set

pub get_set : (c : Content) (p : RowPlace) (o : Option (List ℕ)) (q : RowPlace) → get (set_text c p o) q ≡ cond (eq_by_cmp text_pair_cmp q p) o (get c q)
get_set c p (Some t) q = get-insert text_pair_total c p t q
get_set c p None q = get-remove text_pair_total c p q

pub get_set_same : (c : Content) (p : RowPlace) (o : Option (List ℕ)) → get (set_text c p o) p ≡ o
get_set_same c p o = get_set c p o p ∙ ap (λ (b : Bool). cond b o (get c p)) (same_place p)

pub get_set_other : (c : Content) (p : RowPlace) (o : Option (List ℕ)) (q : RowPlace) → q ≢ p → get (set_text c p o) q ≡ get c q
get_set_other c p o q apart = get_set c p o q ∙ ap (λ (b : Bool). cond b o (get c q)) (untied q p apart)

turned : (s t : Bool) (x y rest : Option (List ℕ)) → (s ≡ true → t ≡ true → ⊥) → cond t y (cond s x rest) ≡ cond s x (cond t y rest)
turned true true x y rest apart = absurd (apart refl refl)
turned true false x y rest apart = refl
turned false true x y rest apart = refl
turned false false x y rest apart = refl

-- texts at places that differ are set in either order
pub sets_apart : (c : Content) (a b : RowPlace) (x y : Option (List ℕ)) → a ≢ b → set_text (set_text c a x) b y ≡ set_text (set_text c b y) a x
sets_apart c a b x y apart = same_map text_pair_total text_pair_exact _ _ (λ q.
    get_set (set_text c a x) b y q ∙ ap (cond (eq_by_cmp text_pair_cmp q b) y) (get_set c a x q)
    ∙ turned (eq_by_cmp text_pair_cmp q a) (eq_by_cmp text_pair_cmp q b) x y (get c q) (λ s t. apart (sym (one_place q a s) ∙ one_place q b t))
    ∙ sym (get_set (set_text c b y) a x q ∙ ap (cond (eq_by_cmp text_pair_cmp q a) x) (get_set c b y q)))

last_wins : (b : Bool) (x y rest : Option (List ℕ)) → cond b y (cond b x rest) ≡ cond b y rest
last_wins true x y rest = refl
last_wins false x y rest = refl

-- of two texts at one place the later stands
pub set_over : (c : Content) (p : RowPlace) (x y : Option (List ℕ)) → set_text (set_text c p x) p y ≡ set_text c p y
set_over c p x y = same_map text_pair_total text_pair_exact _ _ (λ q.
    get_set (set_text c p x) p y q ∙ ap (cond (eq_by_cmp text_pair_cmp q p) y) (get_set c p x q) ∙ last_wins (eq_by_cmp text_pair_cmp q p) x y (get c q) ∙ sym (get_set c p y q))

-- ---- changes of rows beside the number

pub changed_apart : (c : Content) (o : Option (List ℕ)) (x : Change) → changed (set_text c line_place o) x ≡ set_text (changed c x) line_place o
changed_apart c o x =
    let p = placed_of x in
    sym (one_placed (set_text c line_place o) x) ∙ sets_apart c line_place p.place o p.row (λ is. change_apart x (sym is)) ∙ ap (λ (d : Content). set_text d line_place o) (one_placed c x)

pub all_apart : (c : Content) (o : Option (List ℕ)) (xs : List Change) → changed_all (set_text c line_place o) xs ≡ set_text (changed_all c xs) line_place o
all_apart c o [] = refl
all_apart c o (x ∷ xs) = ap (λ (d : Content). changed_all d xs) (changed_apart c o x) ∙ all_apart (changed c x) o xs

pub marked_apart : (c : Content) (m : Option ℕ) (xs : List Change) → changed_all (marked m c) xs ≡ marked m (changed_all c xs)
marked_apart c None xs = refl
marked_apart c (Some n) xs = all_apart c (Some (line_text n)) xs

pub line_stays : (c : Content) (xs : List Change) → get (changed_all c xs) line_place ≡ get c line_place
line_stays c [] = refl
line_stays c (x ∷ xs) =
    let p = placed_of x in
    line_stays (changed c x) xs ∙ ap (λ (d : Content). get d line_place) (sym (one_placed c x)) ∙ get_set_other c p.place p.row line_place (λ is. change_apart x (sym is))

-- ---- the law

pub rows_marked : (c : Content) (m : Option ℕ) → rows_of (marked m c) ≡ rows_of c
rows_marked c None = refl
rows_marked c (Some n) = ap (λ (d : Content). rows_after [] (entries d)) (set_over c line_place (Some (line_text n)) None)

from_two : (b : Bool) (n : ℕ) → b ≡ true → (if b then Some n else None) ≡ Some n
from_two true n is = refl
from_two false n is = absurd (let e = is in cc)

serial_again : (n : ℕ) → n ≤ max_whole → row_in (codes "count") (codes "serial") (line_text n) ≡ Ok (row.Count counter.Serial n)
unfolding key_text
serial_again n most = row_again (row.Count counter.Serial n) tt most tt

pub number_again : (n : ℕ) → 2 ≤ n → n ≤ max_whole → number_of_text (line_text n) ≡ Some n
number_again n least most = ap (λ (read : Read Row). after_row read number_in) (serial_again n most) ∙ from_two _ n (le-leb 2 n least)

pub line_marked : (c : Content) (n : ℕ) → 2 ≤ n → n ≤ max_whole → line_of (marked (Some n) c) ≡ Some n
line_marked c n least most = ap number_kept (get_set_same c line_place (Some (line_text n))) ∙ number_again n least most

-- no text is read as a number below 2
two_or_more : (b : Bool) (m n : ℕ) → nat_le 2 m ≡ b → (if b then Some m else None) ≡ Some n → 2 ≤ n
two_or_more true m n least is = let le = leb-true 2 m least in let same : m ≡ n = same_Some m n is in omega (arith, le, same)
two_or_more false m n least is = absurd (let e = is in cc)

in_row : (r : Row) (n : ℕ) → number_in r ≡ Some n → 2 ≤ n
in_row (row.Count counter last) n is = two_or_more (nat_le 2 last) last n refl is
in_row (row.Reply sender number reply) n is = absurd (let e = is in cc)
in_row (row.Token t) n is = absurd (let e = is in cc)
in_row (row.Push number to push) n is = absurd (let e = is in cc)
in_row (row.Service evse_uid) n is = absurd (let e = is in cc)
in_row (row.Spent provider reference) n is = absurd (let e = is in cc)
in_row (row.Mark provider reservation_id number) n is = absurd (let e = is in cc)
in_row (row.Reservation provider reservation_id r) n is = absurd (let e = is in cc)
in_row (row.Pending provider number open_command) n is = absurd (let e = is in cc)
in_row (row.Result provider number result) n is = absurd (let e = is in cc)
in_row (row.Session s) n is = absurd (let e = is in cc)
in_row (row.Cdr c) n is = absurd (let e = is in cc)
in_row (row.Command number command) n is = absurd (let e = is in cc)

in_read : (read : Read Row) (n : ℕ) → after_row read number_in ≡ Some n → 2 ≤ n
in_read (Ok r) n is = in_row r n is
in_read (Err e) n is = absurd (let f = is in cc)

-- the number is 1 only where nothing is kept, and else above it
pub no_first_number : (o : Option (List ℕ)) → number_kept o ≡ Some 1 → o ≡ None
no_first_number None is = refl
no_first_number (Some t) is = let two = in_read (row_in (codes "count") (codes "serial") t) 1 is in absurd (omega (arith, two))

pub kept_least : (o : Option (List ℕ)) (n : ℕ) → number_kept o ≡ Some n → 1 ≤ n
kept_least None n is = let same : 1 ≡ n = same_Some 1 n is in omega (arith, same)
kept_least (Some t) n is = let two = in_read (row_in (codes "count") (codes "serial") t) n is in omega (arith, two)

pub line_of_empty : line_of empty ≡ Some 1
line_of_empty = ap number_kept (get-empty text_pair_cmp line_place)

pub numbers_are_no_rows : NumbersAreNoRows
numbers_are_no_rows = record {
  rows = rows_marked;
  apart = λ c m xs. ap rows_of (marked_apart c m xs) ∙ rows_marked (changed_all c xs) m;
  stays = λ c xs. ap number_kept (line_stays c xs);
  is = line_marked;
  none = λ c. refl;
  first = line_of_empty;
}

-- ---- the entries at the other places

below_others : (x : RowPlace) (es : List Entry) → T (below_all text_pair_cmp x es) → T (below_all text_pair_cmp x (others es))
below_others x [] h = tt
below_others x (e ∷ es) h = by_place (is_line_place e.0) (below_others x es (latter _ _ h))
  where
    by_place : (b : Bool) → T (below_all text_pair_cmp x (others es)) → T (below_all text_pair_cmp x (cond b (others es) (e ∷ others es)))
    by_place true rest = rest
    by_place false rest = both (is_lt (text_pair_cmp x e.0)) (below_all text_pair_cmp x (others es)) (former _ _ h) rest

sorted_others : (es : List Entry) → T (is_sorted text_pair_cmp es) → T (is_sorted text_pair_cmp (others es))
sorted_others [] h = tt
sorted_others (e ∷ es) h = by_place (is_line_place e.0) (sorted_others es (latter _ _ h))
  where
    by_place : (b : Bool) → T (is_sorted text_pair_cmp (others es)) → T (is_sorted text_pair_cmp (cond b (others es) (e ∷ others es)))
    by_place true rest = rest
    by_place false rest = both (below_all text_pair_cmp e.0 (others es)) (is_sorted text_pair_cmp (others es)) (below_others e.0 es (former _ _ h)) rest

find_others : (q : RowPlace) (es : List Entry) → find text_pair_cmp q (others es) ≡ cond (is_line_place q) None (find text_pair_cmp q es)
find_others q [] = by_test (is_line_place q)
  where
    by_test : (b : Bool) → ◌≡◌ {A = Option (List ℕ)} None (cond b None None)
    by_test true = refl
    by_test false = refl
find_others q (e ∷ es) = by_place (is_line_place e.0) (is_line_place q) (eq_by_cmp text_pair_cmp q e.0) refl refl refl (find_others q es)
  where
    by_place : (b d s : Bool) → is_line_place e.0 ≡ b → is_line_place q ≡ d → eq_by_cmp text_pair_cmp q e.0 ≡ s → find text_pair_cmp q (others es) ≡ cond d None (find text_pair_cmp q es)
        → find text_pair_cmp q (cond b (others es) (e ∷ others es)) ≡ cond d None (cond s (Some e.1) (find text_pair_cmp q es))
    by_place true true s here at tied rest = rest
    by_place true false true here at tied rest = absurd (let f = sym at ∙ ap is_line_place (one_place q e.0 tied) ∙ here in cc)
    by_place true false false here at tied rest = rest
    by_place false true true here at tied rest = absurd (let f = sym at ∙ ap is_line_place (one_place q e.0 tied) ∙ here in cc)
    by_place false true false here at tied rest = ap (λ (b : Bool). cond b (Some e.1) (find text_pair_cmp q (others es))) tied ∙ rest
    by_place false false true here at tied rest = ap (λ (b : Bool). cond b (Some e.1) (find text_pair_cmp q (others es))) tied
    by_place false false false here at tied rest = ap (λ (b : Bool). cond b (Some e.1) (find text_pair_cmp q (others es))) tied ∙ rest

pub entries_without : (c : Content) → entries (remove c line_place) ≡ others (entries c)
entries_without c =
    let es = others (entries c) in
    let sorted = sorted_others (entries c) (entries_sorted c) in
    ap entries (same_map text_pair_total text_pair_exact (remove c line_place) (from_sorted es) (λ q.
    get-remove text_pair_total c line_place q ∙ ap (λ (b : Bool). cond b None (get c q)) (line_test q) ∙ ap (cond (is_line_place q) None) (get-entries c q)
    ∙ sym (find_others q (entries c)) ∙ sym (get-from_sorted text_pair_cmp es q sorted)))
    ∙ entries-from_sorted text_pair_cmp es sorted

-- what is read of entries is what is kept
pub loaded_rows : (c : Content) (es : List Entry) → entries c ≡ es → rows_of c ≡ rows_after [] (others es)
loaded_rows c es same = ap (rows_after []) (entries_without c ∙ ap others same)

pub loaded_line : (c : Content) (es : List Entry) → entries c ≡ es → line_of c ≡ number_kept (find text_pair_cmp line_place es)
loaded_line c es same = ap number_kept (get-entries c line_place ∙ ap (find text_pair_cmp line_place) same)

-- the text at the place of the number is found among texts in turn
module _ (es : List Entry) (i : ℕ) (e : Entry) (kind name : List ℕ) (within : i < length es) (is : e ≡ get_or es i e) (k : kind ≡ e.0.0) (n : name ≡ e.0.1)
    (so_far : find text_pair_cmp line_place (drop i es) ≡ find text_pair_cmp line_place es) where
  looked : find text_pair_cmp line_place es ≡ cond (eq_by_cmp text_pair_cmp line_place e.0) (Some e.1) (find text_pair_cmp line_place (drop (i + 1) es))
  looked = sym so_far ∙ ap (find text_pair_cmp line_place) (drop_more es i e within ∙ ap (λ (d : Entry). d ∷ drop (i + 1) es) (sym is))

  place_is : (kind, name) ≡ e.0
  place_is j = (k j, n j)

  pub number_found : is_line_place (kind, name) ≡ true → find text_pair_cmp line_place es ≡ Some e.1
  number_found here =
      let at : e.0 ≡ line_place = sym place_is ∙ at_line (kind, name) here in
      looked ∙ ap (λ (b : Bool). cond b (Some e.1) (find text_pair_cmp line_place (drop (i + 1) es))) (ap (eq_by_cmp text_pair_cmp line_place) at ∙ same_place line_place)

  pub number_later : is_line_place (kind, name) ≡ false → find text_pair_cmp line_place (drop (i + 1) es) ≡ find text_pair_cmp line_place es
  number_later other =
      let apart : eq_by_cmp text_pair_cmp line_place e.0 ≡ false = untied line_place e.0 (λ at. not_line (kind, name) other (place_is ∙ sym at)) in
      sym (looked ∙ ap (λ (b : Bool). cond b (Some e.1) (find text_pair_cmp line_place (drop (i + 1) es))) apart)
