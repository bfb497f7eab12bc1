-- The rows of an operator, listed part by part.
use Rattle.std.proofs.Common.{append_assoc, ◌≡◌, ◌≢◌, ◌↔◌, ℕ, ◌+◌, ◌<◌, List, [], ◌∷◌, ◌++◌, map, ◌⊎◌, inl, inr, Bool, true, false, cond, eqb-true, refl, sym, ap, subst, ◌∙◌, arith}
use Rattle.std.specs.Prelude.{Some, Contains, nat_eq}
use Rattle.std.specs.List.{AllPairs}
use Rattle.std.specs.Ordering.{nat_cmp}
use Rattle.std.specs.declared.cmp.Ordering.{Ordering}
use Rattle.std.specs.FinMap.{FinMap, get, entries, get-empty}
use Rattle.std.proofs.lemmas.List.Elements.{Contains-append_left, Contains-append_right, Contains-append_cases}
use Rattle.tables.specs.Keys.{text_total, text_exact}
use Rattle.tables.specs.Lookups.{IsListing}
use Rattle.ocpi_types.specs.Rows.{key_of}
use Rattle.ocpi_types.specs.declared.rows.Row.{Row}
use Rattle.ocpi_types.specs.declared.rows.Row.TheVariants as row
use Rattle.ocpi_types.specs.declared.rows.RowKey.{RowKey}
use Rattle.ocpi_types.specs.declared.rows.RowKey.TheVariants as keys
use Rattle.ocpi_types.specs.declared.rows.Counter.TheVariants as counter
use Rattle.command_book.specs.Stored as commands
use Rattle.command_book.specs.Listing as command_lists
use Rattle.reservation_book.specs.Rows as booked
use Rattle.outbox.specs.Outbox as outbox
use Rattle.outbox.specs.OutboxListing as outbox_lists
use Rattle.tables.proofs.Elements.{in_none, in_single, in_front, no_pairs, joined}
use Rattle.tables.proofs.Listings.{each_there, found_there, listed_apart, entries_listed}
use Rattle.tables.proofs.Options.{none_some}
use Rattle.operator_rows.specs.State.{Rows, as_outbox}
use Rattle.operator_rows.specs.Rows.{HasRow}
use Rattle.operator_rows.specs.Listing.{SpentEntry, serial_rows, spent_row, service_row, other_rows}

abbrev pub Apart : Row → Row → Type 0
Apart a b = key_of a ≢ key_of b

-- the part that a key is of
abbrev pub part : RowKey → ℕ
part (keys.Reply p n) = 0
part (keys.Pending p n) = 0
part (keys.Result p n) = 0
part (keys.Mark p id) = 1
part (keys.Reservation p id) = 1
part (keys.Count counter.Serial) = 2
part (keys.Count counter.Session) = 7
part (keys.Count counter.Cdr) = 7
part (keys.Count counter.Reference) = 6
part (keys.Spent p reference) = 3
part (keys.Service evse) = 4
part (keys.Count counter.Request) = 5
part (keys.Push n) = 5
part (keys.Command n) = 5
part (keys.Token p t u) = 6
part (keys.Session p id) = 7
part (keys.Cdr p id) = 7

-- the list has exactly the rows of which P holds, each once, and they are of the first k parts
pub record AreExactly (k : ℕ) (P : Row → Type 0) (list : List Row) : Type 0 where
  pub exact : (r : Row) → Contains list r ↔ P r
  pub apart : AllPairs Apart list
  pub parts : (r : Row) → P r → part (key_of r) < k

-- one more part
pub and_part : (k : ℕ) (P Q : Row → Type 0) (xs ys : List Row) → AreExactly k P xs → AreExactly (k + 1) Q ys → ((r : Row) → Q r → part (key_of r) ≡ k) → AreExactly (k + 1) (λ r. P r ⊎ Q r) (xs ++ ys)
and_part k P Q xs ys a b last = record { exact = λ r. (there r, back r); apart = joined Apart xs ys a.apart b.apart cross; parts = parts }
  where
    there : (r : Row) → Contains (xs ++ ys) r → P r ⊎ Q r
    there r h = elim (Contains-append_cases xs ys r h) [ inl i ↦ inl ((a.exact r).0 i) | inr i ↦ inr ((b.exact r).0 i) ]

    back : (r : Row) → P r ⊎ Q r → Contains (xs ++ ys) r
    back r (inl p) = Contains-append_left xs ys r ((a.exact r).1 p)
    back r (inr q) = Contains-append_right xs ys r ((b.exact r).1 q)

    cross : (x y : Row) → Contains xs x → Contains ys y → Apart x y
    cross x y i j e =
        let low : part (key_of x) < k = a.parts x ((a.exact x).0 i) in
        let high : part (key_of y) ≡ k = last y ((b.exact y).0 j) in
        let same : part (key_of x) ≡ part (key_of y) = ap part e in
        omega arith

    parts : (r : Row) → P r ⊎ Q r → part (key_of r) < k + 1
    parts r (inl p) = let low : part (key_of r) < k = a.parts r p in omega arith
    parts r (inr q) = b.parts r q

-- the rows made of the entries of a map, in whatever order
module _ {K X : Type 0} {R : K → K → Ordering} (m : FinMap R X) (es : List (K × X)) (h : IsListing m es) (f : K × X → Row) (P : Row → Type 0) where
  of_entries : (k : ℕ) → ((q : K) (x : X) → get m q ≡ Some x → P (f (q, x))) → ((r : Row) → P r → (q : K) × (x : X) × (get m q ≡ Some x) × (f (q, x) ≡ r)) →
      ((a b : K × X) → a.0 ≢ b.0 → Apart (f a) (f b)) → ((r : Row) → P r → part (key_of r) < k) → AreExactly k P (map f es)
  of_entries k makes made differ parts = record {
    exact = λ r. (
      each_there f m es h P makes r,
      λ p. let (q, x, has, is) = made r p in subst (λ z. Contains (map f es) z) is (found_there f m es h q x has),
    );
    apart = listed_apart f m es h Apart (λ a b p q. differ a b);
    parts = parts;
  }

-- the rows of one kind
abbrev IsSerial : ℕ → Row → Type 0
IsSerial last r = (n : ℕ) × (r ≡ row.Count counter.Serial n) × (last ≡ n) × (n ≢ 0)

abbrev IsSpentRow : Rows → Row → Type 0
IsSpentRow s (row.Spent p reference) = get s.spent (p, reference) ≡ Some tt
IsSpentRow s (row.Count c q) = ⊥
IsSpentRow s (row.Reply p q x) = ⊥
IsSpentRow s (row.Token x) = ⊥
IsSpentRow s (row.Push q to x) = ⊥
IsSpentRow s (row.Service evse) = ⊥
IsSpentRow s (row.Mark p id q) = ⊥
IsSpentRow s (row.Reservation p id x) = ⊥
IsSpentRow s (row.Pending p q x) = ⊥
IsSpentRow s (row.Result p q x) = ⊥
IsSpentRow s (row.Session x) = ⊥
IsSpentRow s (row.Cdr x) = ⊥
IsSpentRow s (row.Command q x) = ⊥

abbrev IsServiceRow : Rows → Row → Type 0
IsServiceRow s (row.Service evse) = get s.out_of_service evse ≡ Some tt
IsServiceRow s (row.Count c q) = ⊥
IsServiceRow s (row.Reply p q x) = ⊥
IsServiceRow s (row.Token x) = ⊥
IsServiceRow s (row.Push q to x) = ⊥
IsServiceRow s (row.Spent p reference) = ⊥
IsServiceRow s (row.Mark p id q) = ⊥
IsServiceRow s (row.Reservation p id x) = ⊥
IsServiceRow s (row.Pending p q x) = ⊥
IsServiceRow s (row.Result p q x) = ⊥
IsServiceRow s (row.Session x) = ⊥
IsServiceRow s (row.Cdr x) = ⊥
IsServiceRow s (row.Command q x) = ⊥

of_serial : (last : ℕ) → AreExactly 3 (IsSerial last) (serial_rows last)
of_serial last = go (nat_eq last 0) refl
  where
    parts : (r : Row) → IsSerial last r → part (key_of r) < 3
    parts r (n, is, same, some) = subst (λ x. part (key_of x) < 3) (sym is) (omega arith)

    go : (b : Bool) → nat_eq last 0 ≡ b → AreExactly 3 (IsSerial last) (cond b [] (row.Count counter.Serial last ∷ []))
    go true e =
        let zero : last ≡ 0 = eqb-true last 0 e in
        record { exact = λ r. (λ h. absurd (in_none r h), λ h. absurd (h.3 (sym h.2 ∙ zero))); apart = no_pairs Apart; parts = parts }
    go false e = record {
      exact = λ r. (
        λ h. (last, sym (in_single (row.Count counter.Serial last) r h), refl, λ zero. let t : nat_eq last 0 ≡ true = subst (λ z. nat_eq z 0 ≡ true) (sym zero) refl in cc),
        λ h. subst (λ z. Contains (row.Count counter.Serial last ∷ []) z) (ap (row.Count counter.Serial) h.2 ∙ sym h.1) (in_front (row.Count counter.Serial last) []),
      );
      apart = joined Apart (row.Count counter.Serial last ∷ []) [] (λ i j d a b. absurd (omega arith)) (no_pairs Apart) (λ x y i j. absurd (in_none y j));
      parts = parts;
    }

module _ (s : Rows) where
  of_commands : (list : List Row) → command_lists.AreRowsOf list s.commands → AreExactly 1 (commands.HasRow s.commands) list
  of_commands list h = record { exact = h.exact; apart = h.apart; parts = parts }
    where
      parts : (r : Row) → commands.HasRow s.commands r → part (key_of r) < 1
      parts (row.Reply p n x) has = omega arith
      parts (row.Pending p n x) has = omega arith
      parts (row.Result p n x) has = omega arith
      parts (row.Count c q) has = absurd has
      parts (row.Token x) has = absurd has
      parts (row.Push q to x) has = absurd has
      parts (row.Service evse) has = absurd has
      parts (row.Spent p reference) has = absurd has
      parts (row.Mark p id q) has = absurd has
      parts (row.Reservation p id x) has = absurd has
      parts (row.Session x) has = absurd has
      parts (row.Cdr x) has = absurd has
      parts (row.Command q x) has = absurd has

  booked_part : (r : Row) → booked.HasRow s.booked r → part (key_of r) ≡ 1
  booked_part (row.Mark p id n) has = refl
  booked_part (row.Reservation p id x) has = refl
  booked_part (row.Count c q) has = absurd has
  booked_part (row.Reply p q x) has = absurd has
  booked_part (row.Token x) has = absurd has
  booked_part (row.Push q to x) has = absurd has
  booked_part (row.Service evse) has = absurd has
  booked_part (row.Spent p reference) has = absurd has
  booked_part (row.Pending p q x) has = absurd has
  booked_part (row.Result p q x) has = absurd has
  booked_part (row.Session x) has = absurd has
  booked_part (row.Cdr x) has = absurd has
  booked_part (row.Command q x) has = absurd has

  of_booked : (list : List Row) → booked.AreRowsOf list s.booked → AreExactly 2 (booked.HasRow s.booked) list
  of_booked list h = record { exact = h.exact; apart = h.apart; parts = λ r has. let is = booked_part r has in omega arith }

  pushed_part : (r : Row) → outbox.HasRow (as_outbox s) r → part (key_of r) ≡ 5
  pushed_part (row.Count counter.Request n) has = refl
  pushed_part (row.Count counter.Serial n) has = absurd has
  pushed_part (row.Count counter.Session n) has = absurd has
  pushed_part (row.Count counter.Cdr n) has = absurd has
  pushed_part (row.Count counter.Reference n) has = absurd has
  pushed_part (row.Push n to x) has = refl
  pushed_part (row.Command n x) has = refl
  pushed_part (row.Reply p q x) has = absurd has
  pushed_part (row.Token x) has = absurd has
  pushed_part (row.Service evse) has = absurd has
  pushed_part (row.Spent p reference) has = absurd has
  pushed_part (row.Mark p id q) has = absurd has
  pushed_part (row.Reservation p id x) has = absurd has
  pushed_part (row.Pending p q x) has = absurd has
  pushed_part (row.Result p q x) has = absurd has
  pushed_part (row.Session x) has = absurd has
  pushed_part (row.Cdr x) has = absurd has

  of_pushed : (list : List Row) → outbox_lists.AreRowsOf list (as_outbox s) → AreExactly 6 (outbox.HasRow (as_outbox s)) list
  of_pushed list h = record { exact = h.exact; apart = h.apart; parts = λ r has. let is = pushed_part r has in omega arith }

  serial_part : (r : Row) → IsSerial s.serial r → part (key_of r) ≡ 2
  serial_part r h = ap (λ z. part (key_of z)) h.1

  spent_part : (r : Row) → IsSpentRow s r → part (key_of r) ≡ 3
  spent_part (row.Spent p reference) has = refl
  spent_part (row.Count c q) has = absurd has
  spent_part (row.Reply p q x) has = absurd has
  spent_part (row.Token x) has = absurd has
  spent_part (row.Push q to x) has = absurd has
  spent_part (row.Service evse) has = absurd has
  spent_part (row.Mark p id q) has = absurd has
  spent_part (row.Reservation p id x) has = absurd has
  spent_part (row.Pending p q x) has = absurd has
  spent_part (row.Result p q x) has = absurd has
  spent_part (row.Session x) has = absurd has
  spent_part (row.Cdr x) has = absurd has
  spent_part (row.Command q x) has = absurd has

  of_spent : (es : List SpentEntry) → IsListing s.spent es → AreExactly 4 (IsSpentRow s) (map spent_row es)
  of_spent es listed =
      of_entries s.spent es listed spent_row (IsSpentRow s) 4 (λ q x e. e) made
      (λ a b apart e. apart (let p : a.0.0 ≡ b.0.0 = cc in let n : a.0.1 ≡ b.0.1 = cc in λ i. (p i, n i))) (λ r has. let is = spent_part r has in omega arith)
    where
      made : (r : Row) → IsSpentRow s r → (q : List ℕ × List ℕ) × (x : Unit {0}) × (get s.spent q ≡ Some x) × (spent_row (q, x) ≡ r)
      made (row.Spent p reference) h = ((p, reference), tt, h, refl)
      made (row.Count c q) h = absurd h
      made (row.Reply p q x) h = absurd h
      made (row.Token x) h = absurd h
      made (row.Push q to x) h = absurd h
      made (row.Service evse) h = absurd h
      made (row.Mark p id q) h = absurd h
      made (row.Reservation p id x) h = absurd h
      made (row.Pending p q x) h = absurd h
      made (row.Result p q x) h = absurd h
      made (row.Session x) h = absurd h
      made (row.Cdr x) h = absurd h
      made (row.Command q x) h = absurd h

  service_part : (r : Row) → IsServiceRow s r → part (key_of r) ≡ 4
  service_part (row.Service evse) has = refl
  service_part (row.Count c q) has = absurd has
  service_part (row.Reply p q x) has = absurd has
  service_part (row.Token x) has = absurd has
  service_part (row.Push q to x) has = absurd has
  service_part (row.Spent p reference) has = absurd has
  service_part (row.Mark p id q) has = absurd has
  service_part (row.Reservation p id x) has = absurd has
  service_part (row.Pending p q x) has = absurd has
  service_part (row.Result p q x) has = absurd has
  service_part (row.Session x) has = absurd has
  service_part (row.Cdr x) has = absurd has
  service_part (row.Command q x) has = absurd has

  of_service : AreExactly 5 (IsServiceRow s) (map service_row (entries s.out_of_service))
  of_service =
      of_entries s.out_of_service (entries s.out_of_service) (entries_listed text_total text_exact s.out_of_service) service_row (IsServiceRow s) 5 (λ q x e. e) made
      (λ a b apart e. apart (let p : a.0 ≡ b.0 = cc in p)) (λ r has. let is = service_part r has in omega arith)
    where
      made : (r : Row) → IsServiceRow s r → (q : List ℕ) × (x : Unit {0}) × (get s.out_of_service q ≡ Some x) × (service_row (q, x) ≡ r)
      made (row.Service evse) h = (evse, tt, h, refl)
      made (row.Count c q) h = absurd h
      made (row.Reply p q x) h = absurd h
      made (row.Token x) h = absurd h
      made (row.Push q to x) h = absurd h
      made (row.Spent p reference) h = absurd h
      made (row.Mark p id q) h = absurd h
      made (row.Reservation p id x) h = absurd h
      made (row.Pending p q x) h = absurd h
      made (row.Result p q x) h = absurd h
      made (row.Session x) h = absurd h
      made (row.Cdr x) h = absurd h
      made (row.Command q x) h = absurd h

  -- a row of one of the parts
  abbrev OfBooks : Row → Type 0
  OfBooks r = commands.HasRow s.commands r ⊎ booked.HasRow s.booked r

  abbrev WithSerial : Row → Type 0
  WithSerial r = OfBooks r ⊎ IsSerial s.serial r

  abbrev WithSpent : Row → Type 0
  WithSpent r = WithSerial r ⊎ IsSpentRow s r

  abbrev WithService : Row → Type 0
  WithService r = WithSpent r ⊎ IsServiceRow s r

  abbrev pub OfAny : Row → Type 0
  OfAny r = WithService r ⊎ outbox.HasRow (as_outbox s) r

  -- the rows of each part stand
  command : (r : Row) → commands.HasRow s.commands r → HasRow s r
  command (row.Reply p n x) h = h
  command (row.Pending p n x) h = h
  command (row.Result p n x) h = h
  command (row.Count c q) h = absurd h
  command (row.Token x) h = absurd h
  command (row.Push q to x) h = absurd h
  command (row.Service evse) h = absurd h
  command (row.Spent p reference) h = absurd h
  command (row.Mark p id q) h = absurd h
  command (row.Reservation p id x) h = absurd h
  command (row.Session x) h = absurd h
  command (row.Cdr x) h = absurd h
  command (row.Command q x) h = absurd h

  of_book : (r : Row) → booked.HasRow s.booked r → HasRow s r
  of_book (row.Mark p id n) h = h
  of_book (row.Reservation p id x) h = h
  of_book (row.Count c q) h = absurd h
  of_book (row.Reply p q x) h = absurd h
  of_book (row.Token x) h = absurd h
  of_book (row.Push q to x) h = absurd h
  of_book (row.Service evse) h = absurd h
  of_book (row.Spent p reference) h = absurd h
  of_book (row.Pending p q x) h = absurd h
  of_book (row.Result p q x) h = absurd h
  of_book (row.Session x) h = absurd h
  of_book (row.Cdr x) h = absurd h
  of_book (row.Command q x) h = absurd h

  pushed : (r : Row) → outbox.HasRow (as_outbox s) r → HasRow s r
  pushed (row.Count counter.Request n) h = h
  pushed (row.Count counter.Serial n) h = absurd h
  pushed (row.Count counter.Session n) h = absurd h
  pushed (row.Count counter.Cdr n) h = absurd h
  pushed (row.Count counter.Reference n) h = absurd h
  pushed (row.Push n to x) h = h
  pushed (row.Command n x) h = none_some x (sym (get-empty nat_cmp n) ∙ h)
  pushed (row.Reply p q x) h = absurd h
  pushed (row.Token x) h = absurd h
  pushed (row.Service evse) h = absurd h
  pushed (row.Spent p reference) h = absurd h
  pushed (row.Mark p id q) h = absurd h
  pushed (row.Reservation p id x) h = absurd h
  pushed (row.Pending p q x) h = absurd h
  pushed (row.Result p q x) h = absurd h
  pushed (row.Session x) h = absurd h
  pushed (row.Cdr x) h = absurd h

  spent : (r : Row) → IsSpentRow s r → HasRow s r
  spent (row.Spent p reference) h = h
  spent (row.Count c q) h = absurd h
  spent (row.Reply p q x) h = absurd h
  spent (row.Token x) h = absurd h
  spent (row.Push q to x) h = absurd h
  spent (row.Service evse) h = absurd h
  spent (row.Mark p id q) h = absurd h
  spent (row.Reservation p id x) h = absurd h
  spent (row.Pending p q x) h = absurd h
  spent (row.Result p q x) h = absurd h
  spent (row.Session x) h = absurd h
  spent (row.Cdr x) h = absurd h
  spent (row.Command q x) h = absurd h

  service : (r : Row) → IsServiceRow s r → HasRow s r
  service (row.Service evse) h = h
  service (row.Count c q) h = absurd h
  service (row.Reply p q x) h = absurd h
  service (row.Token x) h = absurd h
  service (row.Push q to x) h = absurd h
  service (row.Spent p reference) h = absurd h
  service (row.Mark p id q) h = absurd h
  service (row.Reservation p id x) h = absurd h
  service (row.Pending p q x) h = absurd h
  service (row.Result p q x) h = absurd h
  service (row.Session x) h = absurd h
  service (row.Cdr x) h = absurd h
  service (row.Command q x) h = absurd h

  pub stands : (r : Row) → OfAny r → HasRow s r
  stands r (inr h) = pushed r h
  stands r (inl (inr h)) = service r h
  stands r (inl (inl (inr h))) = spent r h
  stands r (inl (inl (inl (inr (n, is, same, some))))) = subst (HasRow s) (sym is) (same, some)
  stands r (inl (inl (inl (inl (inr h))))) = of_book r h
  stands r (inl (inl (inl (inl (inl h))))) = command r h

  module _ (xs ys zs : List Row) (spent_there : List SpentEntry) where
    -- the rows of the books, and of the parts after them
    abbrev with_serial : List Row
    with_serial = (xs ++ ys) ++ serial_rows s.serial

    abbrev with_spent : List Row
    with_spent = with_serial ++ map spent_row spent_there

    abbrev with_service : List Row
    with_service = with_spent ++ map service_row (entries s.out_of_service)

    -- the rows of these parts, one after the other
    pub six_parts : command_lists.AreRowsOf xs s.commands → booked.AreRowsOf ys s.booked → outbox_lists.AreRowsOf zs (as_outbox s) → IsListing s.spent spent_there →
        AreExactly 6 OfAny (((xs ++ ys) ++ other_rows s spent_there) ++ zs)
    six_parts a b c d = subst (λ l. AreExactly 6 OfAny (l ++ zs)) regrouped all
      where
        two : AreExactly 2 OfBooks (xs ++ ys)
        two = and_part 1 (commands.HasRow s.commands) (booked.HasRow s.booked) xs ys (of_commands xs a) (of_booked ys b) booked_part

        three : AreExactly 3 WithSerial with_serial
        three = and_part 2 OfBooks (IsSerial s.serial) (xs ++ ys) (serial_rows s.serial) two (of_serial s.serial) serial_part

        four : AreExactly 4 WithSpent with_spent
        four = and_part 3 WithSerial (IsSpentRow s) with_serial (map spent_row spent_there) three (of_spent spent_there d) spent_part

        five : AreExactly 5 WithService with_service
        five = and_part 4 WithSpent (IsServiceRow s) with_spent (map service_row (entries s.out_of_service)) four of_service service_part

        all : AreExactly 6 OfAny (with_service ++ zs)
        all = and_part 5 WithService (outbox.HasRow (as_outbox s)) with_service zs five (of_pushed zs c) pushed_part

        regrouped : with_service ≡ (xs ++ ys) ++ other_rows s spent_there
        regrouped = simp append_assoc
