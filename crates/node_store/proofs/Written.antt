-- Of the changes of one counter the last alone is seen.
use Rattle.std.proofs.Common.{◌≡◌, ◌≢◌, ℕ, ◌+◌, ◌-◌, ◌<◌, ◌≤◌, Bool, true, false, cond, List, [], ◌∷◌, ◌++◌, arith, drop, get_or, length, map, take, take_all, Option, Some, None, refl, sym, ap, ◌∙◌}
use Rattle.std.specs.Prelude.{codes, ◌||◌}
use Rattle.std.specs.Ordering.{eq_by_cmp}
use Rattle.std.specs.Str.{bytes_eq}
use Rattle.std.proofs.lemmas.List.{append_assoc, append-nil, drop_all, drop_more, length-drop}
use Rattle.std.proofs.lemmas.Slice.Eq.{bytes_eq-Decides}
use Rattle.tables.specs.Keys.{text_pair_cmp}
use Rattle.ocpi_types.specs.Rows.{counter_name, key_of}
use Rattle.ocpi_types.specs.declared.rows.Change.{Change}
use Rattle.ocpi_types.specs.declared.rows.Change.TheVariants as change
use Rattle.ocpi_types.specs.declared.rows.Counter.{Counter}
use Rattle.ocpi_types.specs.declared.rows.Row.{Row}
use Rattle.ocpi_types.specs.declared.rows.Row.TheVariants as row
use Rattle.ocpi_json.specs.RowKeys.{key_text}
use Rattle.row_table.specs.Effects.{Edit}
use Rattle.node_store.specs.Contents.{Content, RowPlace, changed, changed_all, place_of}
use Rattle.node_store.specs.Editing.{CountersAreWrittenOnce, PutOnce, counter_put, counter_of, edit_of, is_among, is_of, is_put, is_put_later, puts, written}
use Rattle.node_store.specs.Placing.{placed_of, set_text}
use Rattle.node_store.proofs.Numbered.{one_place, same_place, sets_apart, set_over}
use Rattle.node_store.proofs.Placed.{one_placed}

-- where the row of a counter is kept
abbrev count_place : Counter → RowPlace
count_place counter = (codes "count", counter_name counter)

-- ---- a text that a later change sets anew is not seen

same_name : (k j : Counter) → bytes_eq (counter_name k) (counter_name j) ≡ true → count_place j ≡ count_place k
same_name k j is = let names = (bytes_eq-Decides (counter_name k) (counter_name j)).0 is in sym (ap (λ (n : List ℕ). (codes "count", n)) names)

row_place : (k : Counter) (r : Row) → is_of k (counter_of r) ≡ true → place_of (key_of r) ≡ count_place k
unfolding key_text
row_place k (row.Count counter last) is = same_name k counter is
row_place k (row.Reply sender number reply) is = absurd (let e = is in cc)
row_place k (row.Token t) is = absurd (let e = is in cc)
row_place k (row.Push number to push) is = absurd (let e = is in cc)
row_place k (row.Service evse_uid) is = absurd (let e = is in cc)
row_place k (row.Spent provider reference) is = absurd (let e = is in cc)
row_place k (row.Mark provider reservation_id number) is = absurd (let e = is in cc)
row_place k (row.Reservation provider reservation_id r) is = absurd (let e = is in cc)
row_place k (row.Pending provider number open_command) is = absurd (let e = is in cc)
row_place k (row.Result provider number result) is = absurd (let e = is in cc)
row_place k (row.Session s) is = absurd (let e = is in cc)
row_place k (row.Cdr c) is = absurd (let e = is in cc)
row_place k (row.Command number command) is = absurd (let e = is in cc)

-- a change that puts a counter stands at that counter's place
put_place : (k : Counter) (x : Change) → is_put k x ≡ true → (placed_of x).place ≡ count_place k
put_place k (change.Put r) is = row_place k r is
put_place k (change.Drop d) is = absurd (let e = is in cc)

one_of : (a b : Bool) → (a || b) ≡ true → a ≡ false → b ≡ true
one_of true b is not = absurd (let e : true ≡ false = not in cc)
one_of false b is not = is

refuted : (b : Bool) → (b ≡ true → ⊥) → b ≡ false
refuted true never = absurd (never refl)
refuted false never = refl

-- a change at the counter's place sets its text anew
module _ (c : Content) (k : Counter) (o : Option (List ℕ)) (x : Change) where
  over_here : (placed_of x).place ≡ count_place k → changed (set_text c (count_place k) o) x ≡ changed c x
  over_here same =
      let t = (placed_of x).row in
      sym (one_placed (set_text c (count_place k) o) x) ∙ ap (λ (r : RowPlace). set_text (set_text c (count_place k) o) r t) same
      ∙ set_over c (count_place k) o t ∙ ap (λ (r : RowPlace). set_text c r t) (sym same) ∙ one_placed c x

  -- and one elsewhere leaves it
  elsewhere : (placed_of x).place ≢ count_place k → changed (set_text c (count_place k) o) x ≡ set_text (changed c x) (count_place k) o
  elsewhere apart =
      let p = placed_of x in
      sym (one_placed (set_text c (count_place k) o) x) ∙ sets_apart c (count_place k) p.place o p.row (λ is. apart (sym is))
      ∙ ap (λ (d : Content). set_text d (count_place k) o) (one_placed c x)

covered : (c : Content) (k : Counter) (o : Option (List ℕ)) (xs : List Change) → puts k xs ≡ true → changed_all (set_text c (count_place k) o) xs ≡ changed_all c xs
covered c k o [] is = absurd (let e : false ≡ true = is in cc)
covered c k o (x ∷ xs) is = by_place (eq_by_cmp text_pair_cmp (placed_of x).place (count_place k)) refl (λ d later. covered d k o xs later)
  where
    by_place : (b : Bool) → eq_by_cmp text_pair_cmp (placed_of x).place (count_place k) ≡ b → ((d : Content) → puts k xs ≡ true → changed_all (set_text d (count_place k) o) xs ≡ changed_all d xs)
        → changed_all (changed (set_text c (count_place k) o) x) xs ≡ changed_all (changed c x) xs
    by_place true tied rest = ap (λ (d : Content). changed_all d xs) (over_here c k o x (one_place (placed_of x).place (count_place k) tied))
    by_place false untied rest =
        let apart : (placed_of x).place ≢ count_place k = λ same. absurd (let e : true ≡ false = sym (same_place (count_place k)) ∙ ap (λ (r : RowPlace). eq_by_cmp text_pair_cmp r (count_place k)) (sym same) ∙ untied in cc) in
        let later = one_of (is_put k x) (puts k xs) is (refuted (is_put k x) (λ put. apart (put_place k x put))) in
        ap (λ (d : Content). changed_all d xs) (elsewhere c k o x apart) ∙ rest (changed c x) later

-- ---- what is written makes the changes

own_name : (k : Counter) → is_of k (Some k) ≡ true
own_name k = (bytes_eq-Decides (counter_name k) (counter_name k)).1 refl

hidden : (c : Content) (x : Change) (xs : List Change) → is_put_later x xs ≡ true → changed_all (changed c x) xs ≡ changed_all c xs
hidden c x xs later = by_counter (counter_put x) refl
  where
    by_counter : (o : Option Counter) → counter_put x ≡ o → changed_all (changed c x) xs ≡ changed_all c xs
    by_counter None is = absurd (let e : false ≡ true = sym (ap (λ (o : Option Counter). is_among o xs) is) ∙ later in cc)
    by_counter (Some k) is =
        let own : is_put k x ≡ true = ap (is_of k) is ∙ own_name k in
        let p = placed_of x in
        ap (λ (d : Content). changed_all d xs) (sym (one_placed c x) ∙ ap (λ (r : RowPlace). set_text c r p.row) (put_place k x own))
        ∙ covered c k p.row xs (sym (ap (λ (o : Option Counter). is_among o xs) is) ∙ later)

pub all_written : (c : Content) (xs : List Change) → changed_all c (written xs) ≡ changed_all c xs
all_written c [] = refl
all_written c (x ∷ xs) = by_later (is_put_later x xs) refl (λ d. all_written d xs)
  where
    by_later : (b : Bool) → is_put_later x xs ≡ b → ((d : Content) → changed_all d (written xs) ≡ changed_all d xs) → changed_all c (cond b (written xs) (x ∷ written xs)) ≡ changed_all c (x ∷ xs)
    by_later true later rest = rest c ∙ sym (hidden c x xs later)
    by_later false last rest = rest (changed c x)

none_later : (o : Option Counter) → is_among o [] ≡ false
none_later None = refl
none_later (Some k) = refl

-- of some changes some are written
pub some_written : (xs : List Change) → xs ≢ [] → written xs ≢ []
some_written [] some none = some refl
some_written (x ∷ xs) some none = by_later xs (is_put_later x xs) refl (λ more. some_written xs more) none
  where
    by_later : (ys : List Change) (b : Bool) → is_put_later x ys ≡ b → (ys ≢ [] → written ys ≢ []) → cond b (written ys) (x ∷ written ys) ≡ [] → ⊥
    by_later [] true later rest none = absurd (let e : true ≡ false = sym later ∙ none_later (counter_put x) in cc)
    by_later (y ∷ ys) true later rest none = rest (λ empty. absurd (let e = empty in cc)) none
    by_later ys false last rest none = absurd (let e = none in cc)

-- ---- each counter is written once

or_false : (a b : Bool) → (a || b) ≡ false → (a ≡ false) × (b ≡ false)
or_false true b is = absurd (let e : true ≡ false = is in cc)
or_false false b is = (refl, is)

either_false : (a b : Bool) → a ≡ false → b ≡ false → (a || b) ≡ false
either_false true b no_a no_b = no_a
either_false false b no_a no_b = no_b

never_written : (k : Counter) (xs : List Change) → puts k xs ≡ false → puts k (written xs) ≡ false
never_written k [] is = refl
never_written k (x ∷ xs) is =
    let parts = or_false (is_put k x) (puts k xs) is in
    by_later (is_put_later x xs) parts.0 (never_written k xs parts.1)
  where
    by_later : (b : Bool) → is_put k x ≡ false → puts k (written xs) ≡ false → puts k (cond b (written xs) (x ∷ written xs)) ≡ false
    by_later true this rest = rest
    by_later false this rest = either_false (is_put k x) (puts k (written xs)) this rest

last_written : (o : Option Counter) (xs : List Change) → is_among o xs ≡ false → is_among o (written xs) ≡ false
last_written None xs is = refl
last_written (Some k) xs is = never_written k xs is

put_once : (xs : List Change) → PutOnce (written xs)
put_once [] = tt
put_once (x ∷ xs) = by_later (is_put_later x xs) refl (put_once xs)
  where
    by_later : (b : Bool) → is_put_later x xs ≡ b → PutOnce (written xs) → PutOnce (cond b (written xs) (x ∷ written xs))
    by_later true later rest = rest
    by_later false last rest = (last_written (counter_put x) xs last, rest)

pub counters_are_written_once : CountersAreWrittenOnce
counters_are_written_once = record { same = all_written; once = put_once }

-- ---- the loops

-- a loop that looks for a change that puts the counter
module _ (k : Counter) (xs : List Change) (i : ℕ) (x : Change) (within : i < length xs) (is : x ≡ get_or xs i x) where
  front : puts k (drop i xs) ≡ (is_put k x || puts k (drop (i + 1) xs))
  front = ap (puts k) (drop_more xs i x within ∙ ap (λ (y : Change). y ∷ drop (i + 1) xs) (sym is))

  pub put_here : is_put k x ≡ true → puts k (drop i xs) ≡ puts k xs → true ≡ puts k xs
  put_here here so = sym (front ∙ ap (λ (b : Bool). b || puts k (drop (i + 1) xs)) here) ∙ so

  pub put_further : is_put k x ≡ false → puts k (drop i xs) ≡ puts k xs → puts k (drop (i + 1) xs) ≡ puts k xs
  put_further other so = sym (front ∙ ap (λ (b : Bool). b || puts k (drop (i + 1) xs)) other) ∙ so

pub never_put : (k : Counter) (xs : List Change) (i : ℕ) → length xs ≤ i → puts k (drop i xs) ≡ puts k xs → false ≡ puts k xs
never_put k xs i past so = sym (ap (puts k) (drop_all i xs past)) ∙ so

-- those behind a change, as a slice has them
pub later_is : (xs : List Change) (k : ℕ) (x : Change) (b : Bool) → is_put_later x (take (length xs - k) (drop k xs)) ≡ b → is_put_later x (drop k xs) ≡ b
later_is xs k x b is = sym (ap (is_put_later x) (take_all (length xs - k) (drop k xs) (omega (arith, length-drop k xs)))) ∙ is

-- a loop that leaves out what is put later
module _ (xs : List Change) (es : List Edit) (i : ℕ) (x : Change) (within : i < length xs) (is : x ≡ get_or xs i x) (so : es ++ map edit_of (written (drop i xs)) ≡ map edit_of (written xs)) where
  rest : written (drop i xs) ≡ cond (is_put_later x (drop (i + 1) xs)) (written (drop (i + 1) xs)) (x ∷ written (drop (i + 1) xs))
  rest = ap written (drop_more xs i x within ∙ ap (λ (y : Change). y ∷ drop (i + 1) xs) (sym is))

  by_test : (b : Bool) → is_put_later x (drop (i + 1) xs) ≡ b → written (drop i xs) ≡ cond b (written (drop (i + 1) xs)) (x ∷ written (drop (i + 1) xs))
  by_test b is_so = rest ∙ ap (λ (t : Bool). cond t (written (drop (i + 1) xs)) (x ∷ written (drop (i + 1) xs))) is_so

  pub left_out : is_put_later x (drop (i + 1) xs) ≡ true → es ++ map edit_of (written (drop (i + 1) xs)) ≡ map edit_of (written xs)
  left_out later = ap (λ (ys : List Change). es ++ map edit_of ys) (sym (by_test true later)) ∙ so

  pub one_more : (e : Edit) → e ≡ edit_of x → is_put_later x (drop (i + 1) xs) ≡ false → (es ++ e ∷ []) ++ map edit_of (written (drop (i + 1) xs)) ≡ map edit_of (written xs)
  one_more e placed last =
      append_assoc es (e ∷ []) (map edit_of (written (drop (i + 1) xs))) ∙ ap (λ (q : Edit). es ++ q ∷ map edit_of (written (drop (i + 1) xs))) placed
      ∙ ap (λ (ys : List Change). es ++ map edit_of ys) (sym (by_test false last)) ∙ so

pub all_made : (xs : List Change) (es : List Edit) (i : ℕ) → length xs ≤ i → es ++ map edit_of (written (drop i xs)) ≡ map edit_of (written xs) → es ≡ map edit_of (written xs)
all_made xs es i past so = sym (append-nil es) ∙ sym (ap (λ (ys : List Change). es ++ map edit_of (written ys)) (drop_all i xs past)) ∙ so
