-- Changes of different rows lead from the rows before them to those after them.
use Rattle.std.proofs.Common.{suc, ◌≡◌, ◌≢◌, ◌↔◌, ℕ, List, [], ◌∷◌, map, ◌⊎◌, inl, inr, refl, sym, ap, subst, ◌∙◌}
use Rattle.std.specs.Prelude.{Some, Contains, ⊤}
use Rattle.std.specs.declared.cmp.Ordering.{Ordering}
use Rattle.std.specs.Cmp.{IsTotalOrder, nat_cmp_total}
use Rattle.std.specs.FinMap.{FinMap, IsAntisymmetric, nat_cmp-IsAntisymmetric, get, insert, remove}
use Rattle.tables.specs.Keys.{text_total, text_exact, text_number_total, text_number_exact, text_pair_total, text_pair_exact}
use Rattle.tables.proofs.Maps.{get-insert_same, get-insert_other, of_remove, get-remove_other, told}
use Rattle.ocpi_text.specs.Text.{key}
use Rattle.ocpi_types.specs.Rows.{key_of}
use Rattle.ocpi_types.specs.declared.cdrs.Cdr.{Cdr}
use Rattle.ocpi_types.specs.declared.sessions.Session.{Session}
use Rattle.token_desk.specs.Tokens.{token_key}
use Rattle.token_desk.specs.TypeOrder.{tokens_total, tokens_exact}
use Rattle.ocpi_types.specs.declared.rows.Row.{Row}
use Rattle.ocpi_types.specs.declared.rows.Row.TheVariants as row
use Rattle.ocpi_types.specs.declared.rows.RowKey.{RowKey}
use Rattle.ocpi_types.specs.declared.rows.RowKey.TheVariants as keys
use Rattle.ocpi_types.specs.declared.rows.Change.{Change}
use Rattle.ocpi_types.specs.declared.rows.Change.TheVariants.{Put, Drop}
use Rattle.ocpi_types.specs.declared.rows.Counter.TheVariants as counter
use Rattle.tables.proofs.Elements.{in_none, in_front, of_map}
pub use Rattle.tables.proofs.Elements.{in_later, of_cons}
use Rattle.operator_rows.specs.State.{Rows, State}
use Rattle.operator_rows.specs.Stored.{put_row, drop_row, changed, changed_all, change_key, Each, AreApart}
use Rattle.operator_rows.specs.Rows.{HasRow, AreChanges}
use Rattle.operator_rows.specs.Sound.{IsSound, MayPut, MayDrop, MayChangeAll, with_rows}
use Rattle.operator_rows.proofs.KeepingSound.{change_keeps_sound}

-- rows that an operator keeps: a counter has one once it gave a number, and a session and a charge detail record are
-- its own
abbrev pub IsStored : List ℕ → Row → Type 0
IsStored own (row.Count counter.Serial n) = n ≢ 0
IsStored own (row.Count counter.Request n) = n ≢ 0
IsStored own (row.Count counter.Session n) = n ≢ 0
IsStored own (row.Count counter.Cdr n) = n ≢ 0
IsStored own (row.Count counter.Reference n) = ⊥
IsStored own (row.Reply p n reply) = ⊤
IsStored own (row.Token t) = ⊤
IsStored own (row.Push n to push) = ⊤
IsStored own (row.Service evse) = ⊤
IsStored own (row.Spent p reference) = ⊤
IsStored own (row.Mark p id n) = ⊤
IsStored own (row.Reservation p id r) = ⊤
IsStored own (row.Pending p n o) = ⊤
IsStored own (row.Result p n x) = ⊤
IsStored own (row.Session x) = key x.party ≡ own
IsStored own (row.Cdr x) = key x.party ≡ own
IsStored own (row.Command n x) = ⊥

-- all sessions and charge detail records are the operator's own
pub record AreOwn (own : List ℕ) (s : Rows) : Type 0 where
  pub sessions : (id : List ℕ) (v : Session) → get s.charged.sessions id ≡ Some v → key v.party ≡ own
  pub cdrs : (id : List ℕ) (x : Cdr) → get s.charged.cdrs id ≡ Some x → key x.party ≡ own

pub own_of : (s : State) → IsSound s → AreOwn (key s.party) s.rows
own_of s h = record { sessions = λ id v has. (h.sessions id v has).own; cdrs = h.cdrs }

-- a row that may be put is kept
pub stored_of : (s : State) (r : Row) → MayPut s r → IsStored (key s.party) r
stored_of s (row.Count counter.Serial n) may = may
stored_of s (row.Count counter.Request n) may = may.given
stored_of s (row.Count counter.Session n) may = may.given
stored_of s (row.Count counter.Cdr n) may = may.given
stored_of s (row.Count counter.Reference n) may = may
stored_of s (row.Reply p n reply) may = tt
stored_of s (row.Token t) may = tt
stored_of s (row.Push n to push) may = tt
stored_of s (row.Service evse) may = tt
stored_of s (row.Spent p reference) may = tt
stored_of s (row.Mark p id n) may = tt
stored_of s (row.Reservation p id r) may = tt
stored_of s (row.Pending p n o) may = tt
stored_of s (row.Result p n x) may = tt
stored_of s (row.Session x) may = may.stands.own
stored_of s (row.Cdr x) may = may.own
stored_of s (row.Command n x) may = may

-- one row is put: it stands, and all that stood under other keys
abbrev Puts : Row → Rows → Row → Type 0
Puts x s r = HasRow (put_row x s) r ↔ ((r ≡ x) ⊎ (HasRow s r × (key_of r ≢ key_of x)))

-- the row of a key is dropped: all that stood under other keys stand
abbrev Drops : RowKey → Rows → Row → Type 0
Drops k s r = HasRow (drop_row k s) r ↔ (HasRow s r × (key_of r ≢ k))

module _ {K X : Type 0} {R : K → K → Ordering} (o : IsTotalOrder R) (exact : IsAntisymmetric R) (m : FinMap R X) (k : K) where
  put_one : (v : X) (q : K) (x : X) → (get (insert m k v) q ≡ Some x) ↔ (((q ≡ k) × (x ≡ v)) ⊎ ((get m q ≡ Some x) × (q ≢ k)))
  put_one v q x = (
    λ h. elim (told o exact q k) [
      | inl same ↦
          let is : Some v ≡ Some x = sym (get-insert_same o exact m k v) ∙ ap (get (insert m k v)) (sym same) ∙ h in
          let e : x ≡ v = cc in
          inl (same, e)
      | inr apart ↦ inr (sym (get-insert_other o exact m k v q apart) ∙ h, apart)
    ],
    λ y. elim y [
      | inl z ↦ ap (get (insert m k v)) z.0 ∙ get-insert_same o exact m k v ∙ ap (λ (w : X). Some w) (sym z.1)
      | inr z ↦ get-insert_other o exact m k v q z.1 ∙ z.0
    ],
  )

  drop_one : (q : K) (x : X) → (get (remove m k) q ≡ Some x) ↔ ((get m q ≡ Some x) × (q ≢ k))
  drop_one q x = (λ h. let was = of_remove o exact m k q x h in (was.1, was.0), λ h. get-remove_other o exact m k q h.1 ∙ h.0)

-- the same of rows of a kind, whose keys and values are those of a map
of_put : {A B C D P Q : Type 0} → P ↔ (A ⊎ (B × C)) → (A → D) → (D → A) → (C → Q) → (Q → C) → P ↔ (D ⊎ (B × Q))
of_put h f g i j = (
  λ p. elim (h.0 p) [ inl a ↦ inl (f a) | inr b ↦ inr (b.0, i b.1) ],
  λ y. elim y [ inl d ↦ h.1 (inl (g d)) | inr b ↦ h.1 (inr (b.0, j b.1)) ],
)

of_drop : {B C P Q : Type 0} → P ↔ (B × C) → (C → Q) → (Q → C) → P ↔ (B × Q)
of_drop h i j = (λ p. let b = h.0 p in (b.0, i b.1), λ b. h.1 (b.0, j b.1))

-- a row of another kind stands as it stood
module _ (A : Type 0) where
  other_put : (x r : Row) → (key_of r ≢ key_of x) → A ↔ ((r ≡ x) ⊎ (A × (key_of r ≢ key_of x)))
  other_put x r apart = (λ h. inr (h, apart), λ y. elim y [ inl e ↦ absurd (apart (ap key_of e)) | inr h ↦ h.0 ])

  other_drop : (k : RowKey) (r : Row) → (key_of r ≢ k) → A ↔ (A × (key_of r ≢ k))
  other_drop k r apart = (λ h. (h, apart), λ h. h.0)

module _ (own : List ℕ) where
  puts : (x : Row) (s : Rows) → IsStored own x → AreOwn own s → (r : Row) → Puts x s r
  puts (row.Count counter.Serial n) s some all (row.Count counter.Serial m) = (
    λ h. inl (ap (row.Count counter.Serial) (sym h.0)),
    λ y. elim y [
      | inl e ↦ let is : m ≡ n = cc in (sym is, λ zero. some (sym is ∙ zero))
      | inr h ↦ absurd (h.1 refl)
    ],
  )
  puts (row.Count counter.Serial n) s some all (row.Count c m) = other_put (HasRow s (row.Count c m)) (row.Count counter.Serial n) (row.Count c m) (λ e. cc)
  puts (row.Count counter.Serial n) s some all r = other_put (HasRow s r) (row.Count counter.Serial n) r (λ e. cc)
  puts (row.Count counter.Request n) s some all (row.Count counter.Request m) = (
    λ h. inl (ap (row.Count counter.Request) (sym h.0)),
    λ y. elim y [
      | inl e ↦ let is : m ≡ n = cc in (sym is, λ zero. some (sym is ∙ zero))
      | inr h ↦ absurd (h.1 refl)
    ],
  )
  puts (row.Count counter.Request n) s some all (row.Count c m) = other_put (HasRow s (row.Count c m)) (row.Count counter.Request n) (row.Count c m) (λ e. cc)
  puts (row.Count counter.Request n) s some all r = other_put (HasRow s r) (row.Count counter.Request n) r (λ e. cc)
  puts (row.Count counter.Session n) s some all (row.Count counter.Session m) = (
    λ h. inl (ap (row.Count counter.Session) (sym h.0)),
    λ y. elim y [
      | inl e ↦ let is : m ≡ n = cc in (sym is, λ zero. some (sym is ∙ zero))
      | inr h ↦ absurd (h.1 refl)
    ],
  )
  puts (row.Count counter.Session n) s some all (row.Count c m) = other_put (HasRow s (row.Count c m)) (row.Count counter.Session n) (row.Count c m) (λ e. cc)
  puts (row.Count counter.Session n) s some all r = other_put (HasRow s r) (row.Count counter.Session n) r (λ e. cc)
  puts (row.Count counter.Cdr n) s some all (row.Count counter.Cdr m) = (
    λ h. inl (ap (row.Count counter.Cdr) (sym h.0)),
    λ y. elim y [
      | inl e ↦ let is : m ≡ n = cc in (sym is, λ zero. some (sym is ∙ zero))
      | inr h ↦ absurd (h.1 refl)
    ],
  )
  puts (row.Count counter.Cdr n) s some all (row.Count c m) = other_put (HasRow s (row.Count c m)) (row.Count counter.Cdr n) (row.Count c m) (λ e. cc)
  puts (row.Count counter.Cdr n) s some all r = other_put (HasRow s r) (row.Count counter.Cdr n) r (λ e. cc)
  puts (row.Count counter.Reference n) s some all r = absurd some
  puts (row.Reply p n v) s some all (row.Reply q m b) =
      of_put (put_one text_number_total text_number_exact s.commands.replies (p, n) v (q, m) b)
      (λ h. λ i. row.Reply (h.0 i).0 (h.0 i).1 (h.1 i))
      (λ e. let a : q ≡ p = cc in let d : m ≡ n = cc in let f : b ≡ v = cc in (λ i. (a i, d i), f))
      (λ apart e. let a : q ≡ p = cc in let d : m ≡ n = cc in apart (λ i. (a i, d i)))
      (λ apart e. apart (λ i. keys.Reply (e i).0 (e i).1))
  puts (row.Reply p n v) s some all r = other_put (HasRow s r) (row.Reply p n v) r (λ e. cc)
  puts (row.Pending p n v) s some all (row.Pending q m b) =
      of_put (put_one text_number_total text_number_exact s.commands.pending (p, n) v (q, m) b)
      (λ h. λ i. row.Pending (h.0 i).0 (h.0 i).1 (h.1 i))
      (λ e. let a : q ≡ p = cc in let d : m ≡ n = cc in let f : b ≡ v = cc in (λ i. (a i, d i), f))
      (λ apart e. let a : q ≡ p = cc in let d : m ≡ n = cc in apart (λ i. (a i, d i)))
      (λ apart e. apart (λ i. keys.Pending (e i).0 (e i).1))
  puts (row.Pending p n v) s some all r = other_put (HasRow s r) (row.Pending p n v) r (λ e. cc)
  puts (row.Result p n v) s some all (row.Result q m b) =
      of_put (put_one text_number_total text_number_exact s.commands.results (p, n) v (q, m) b)
      (λ h. λ i. row.Result (h.0 i).0 (h.0 i).1 (h.1 i))
      (λ e. let a : q ≡ p = cc in let d : m ≡ n = cc in let f : b ≡ v = cc in (λ i. (a i, d i), f))
      (λ apart e. let a : q ≡ p = cc in let d : m ≡ n = cc in apart (λ i. (a i, d i)))
      (λ apart e. apart (λ i. keys.Result (e i).0 (e i).1))
  puts (row.Result p n v) s some all r = other_put (HasRow s r) (row.Result p n v) r (λ e. cc)
  puts (row.Mark p id v) s some all (row.Mark q j b) =
      of_put (put_one text_pair_total text_pair_exact s.booked.marks (p, id) v (q, j) b)
      (λ h. λ i. row.Mark (h.0 i).0 (h.0 i).1 (h.1 i))
      (λ e. let a : q ≡ p = cc in let d : j ≡ id = cc in let f : b ≡ v = cc in (λ i. (a i, d i), f))
      (λ apart e. let a : q ≡ p = cc in let d : j ≡ id = cc in apart (λ i. (a i, d i)))
      (λ apart e. apart (λ i. keys.Mark (e i).0 (e i).1))
  puts (row.Mark p id v) s some all r = other_put (HasRow s r) (row.Mark p id v) r (λ e. cc)
  puts (row.Reservation p id v) s some all (row.Reservation q j b) =
      of_put (put_one text_pair_total text_pair_exact s.booked.reservations (p, id) v (q, j) b)
      (λ h. λ i. row.Reservation (h.0 i).0 (h.0 i).1 (h.1 i))
      (λ e. let a : q ≡ p = cc in let d : j ≡ id = cc in let f : b ≡ v = cc in (λ i. (a i, d i), f))
      (λ apart e. let a : q ≡ p = cc in let d : j ≡ id = cc in apart (λ i. (a i, d i)))
      (λ apart e. apart (λ i. keys.Reservation (e i).0 (e i).1))
  puts (row.Reservation p id v) s some all r = other_put (HasRow s r) (row.Reservation p id v) r (λ e. cc)
  puts (row.Push n to v) s some all (row.Push m at b) =
      of_put (put_one nat_cmp_total nat_cmp-IsAntisymmetric s.pushes n (record { to = to; push = v }) m (record { to = at; push = b }))
      (λ h. λ i. row.Push (h.0 i) (h.1 i).to (h.1 i).push)
      (λ e. let a : m ≡ n = cc in let d : at ≡ to = cc in let f : b ≡ v = cc in (a, λ i. record { to = d i; push = f i }))
      (λ apart e. let a : m ≡ n = cc in apart a)
      (λ apart e. apart (ap keys.Push e))
  puts (row.Push n to v) s some all r = other_put (HasRow s r) (row.Push n to v) r (λ e. cc)
  puts (row.Spent p id) s some all (row.Spent q j) =
      of_put (put_one text_pair_total text_pair_exact s.spent (p, id) tt (q, j) tt)
      (λ h. λ i. row.Spent (h.0 i).0 (h.0 i).1)
      (λ e. let a : q ≡ p = cc in let d : j ≡ id = cc in (λ i. (a i, d i), refl))
      (λ apart e. let a : q ≡ p = cc in let d : j ≡ id = cc in apart (λ i. (a i, d i)))
      (λ apart e. apart (λ i. keys.Spent (e i).0 (e i).1))
  puts (row.Spent p id) s some all r = other_put (HasRow s r) (row.Spent p id) r (λ e. cc)
  puts (row.Service evse) s some all (row.Service at) =
      of_put (put_one text_total text_exact s.out_of_service evse tt at tt)
      (λ h. ap row.Service h.0)
      (λ e. let a : at ≡ evse = cc in (a, refl))
      (λ apart e. let a : at ≡ evse = cc in apart a)
      (λ apart e. apart (ap keys.Service e))
  puts (row.Service evse) s some all r = other_put (HasRow s r) (row.Service evse) r (λ e. cc)
  puts (row.Token t) s some all (row.Token u) =
      of_put (put_one tokens_total tokens_exact s.tokens (token_key t) t (token_key u) u)
      (λ h. ap row.Token h.1)
      (λ e. let is : u ≡ t = cc in (ap token_key is, is))
      (λ apart e. let a : key u.party ≡ key t.party = cc in let b : u.token_type ≡ t.token_type = cc in let d : key u.uid ≡ key t.uid = cc in apart (λ i. ((b i, d i), a i)))
      (λ apart e. apart (λ i. keys.Token (e i).1 (e i).0.0 (e i).0.1))
  puts (row.Token t) s some all r = other_put (HasRow s r) (row.Token t) r (λ e. cc)
  puts (row.Session v) s some all (row.Session x) = (
    λ h. elim ((put_one text_total text_exact s.charged.sessions (key v.id) v (key x.id) x).0 h) [
      | inl new ↦ inl (ap row.Session new.1)
      | inr was ↦ inr (was.0, λ e. let a : key x.id ≡ key v.id = cc in was.1 a)
    ],
    λ y. elim y [
      | inl e ↦ (put_one text_total text_exact s.charged.sessions (key v.id) v (key x.id) x).1 (inl (let is : x ≡ v = cc in (ap (λ (z : Session). key z.id) is, is)))
      | inr h ↦ (put_one text_total text_exact s.charged.sessions (key v.id) v (key x.id) x).1 (inr (h.0, λ same. h.1 (λ i. keys.Session ((all.sessions (key x.id) x h.0 ∙ sym some) i) (same i))))
    ],
  )
  puts (row.Session v) s some all r = other_put (HasRow s r) (row.Session v) r (λ e. cc)
  puts (row.Cdr v) s some all (row.Cdr x) = (
    λ h. elim ((put_one text_total text_exact s.charged.cdrs (key v.id) v (key x.id) x).0 h) [
      | inl new ↦ inl (ap row.Cdr new.1)
      | inr was ↦ inr (was.0, λ e. let a : key x.id ≡ key v.id = cc in was.1 a)
    ],
    λ y. elim y [
      | inl e ↦ (put_one text_total text_exact s.charged.cdrs (key v.id) v (key x.id) x).1 (inl (let is : x ≡ v = cc in (ap (λ (z : Cdr). key z.id) is, is)))
      | inr h ↦ (put_one text_total text_exact s.charged.cdrs (key v.id) v (key x.id) x).1 (inr (h.0, λ same. h.1 (λ i. keys.Cdr ((all.cdrs (key x.id) x h.0 ∙ sym some) i) (same i))))
    ],
  )
  puts (row.Cdr v) s some all r = other_put (HasRow s r) (row.Cdr v) r (λ e. cc)
  puts (row.Command n x) s some all r = absurd some

drops : (t : State) (k : RowKey) → MayDrop t k → (s : Rows) (r : Row) → Drops k s r
drops t (keys.Pending p n) may s (row.Pending q m b) =
    of_drop (drop_one text_number_total text_number_exact s.commands.pending (p, n) (q, m) b)
    (λ apart e. let a : q ≡ p = cc in let d : m ≡ n = cc in apart (λ i. (a i, d i)))
    (λ apart e. apart (λ i. keys.Pending (e i).0 (e i).1))
drops t (keys.Pending p n) may s r = other_drop (HasRow s r) (keys.Pending p n) r (λ e. cc)
drops t (keys.Reservation p id) may s (row.Reservation q j b) =
    of_drop (drop_one text_pair_total text_pair_exact s.booked.reservations (p, id) (q, j) b)
    (λ apart e. let a : q ≡ p = cc in let d : j ≡ id = cc in apart (λ i. (a i, d i)))
    (λ apart e. apart (λ i. keys.Reservation (e i).0 (e i).1))
drops t (keys.Reservation p id) may s r = other_drop (HasRow s r) (keys.Reservation p id) r (λ e. cc)
drops t (keys.Push n) may s (row.Push m at b) =
    of_drop (drop_one nat_cmp_total nat_cmp-IsAntisymmetric s.pushes n m (record { to = at; push = b }))
    (λ apart e. let a : m ≡ n = cc in apart a)
    (λ apart e. apart (ap keys.Push e))
drops t (keys.Push n) may s r = other_drop (HasRow s r) (keys.Push n) r (λ e. cc)
drops t (keys.Service evse) may s (row.Service at) =
    of_drop (drop_one text_total text_exact s.out_of_service evse at tt)
    (λ apart e. let a : at ≡ evse = cc in apart a)
    (λ apart e. apart (ap keys.Service e))
drops t (keys.Service evse) may s r = other_drop (HasRow s r) (keys.Service evse) r (λ e. cc)
drops t (keys.Count c) may s r = absurd may
drops t (keys.Reply p n) may s r = absurd may
drops t (keys.Token p k u) may s r = absurd may
drops t (keys.Spent p reference) may s r = absurd may
drops t (keys.Mark p id) may s r = absurd may
drops t (keys.Result p n) may s r = absurd may
drops t (keys.Session p id) may s r = absurd may
drops t (keys.Cdr p id) may s r = absurd may
drops t (keys.Command n) may s r = absurd may

-- one change: what stands is what was put, and what stood under other keys
abbrev pub One : Change → Rows → Type 0
One c s = (r : Row) → HasRow (changed c s) r ↔ ((c ≡ Put r) ⊎ (HasRow s r × (key_of r ≢ change_key c)))

pub one_put : (x : Row) (s : State) → IsSound s → MayPut s x → One (Put x) s.rows
one_put x s sound may r = of_put (puts (key s.party) x s.rows (stored_of s x may) (own_of s sound) r) (λ e. ap Put (sym e)) (λ e. let is : r ≡ x = cc in is) (λ a. a) (λ a. a)

pub one_drop : (k : RowKey) (s : State) → MayDrop s k → One (Drop k) s.rows
one_drop k s may r = (λ h. inr ((drops s k may s.rows r).0 h), λ y. elim y [ inl e ↦ absurd (cc) | inr h ↦ (drops s k may s.rows r).1 h ])

pub each_of : (P : Change → Type 0) (cs : List Change) → Each P cs → (d : Change) → Contains cs d → P d
each_of P [] h d i = absurd (in_none d i)
each_of P (c ∷ cs) h d i = elim (of_cons c cs d i) [ inl same ↦ subst P same (h 0 c refl) | inr later ↦ each_of P cs (λ k e at. h (suc k) e at) d later ]

no_change : (s : Rows) → AreChanges s [] s
no_change s r = (λ h. inr (h, λ i. in_none _ i), λ y. elim y [ inl i ↦ absurd (in_none _ i) | inr i ↦ i.0 ])

-- one change before others, of other rows
then_changes : (c : Change) (cs : List Change) (s t : Rows) → One c s → Each (λ d. change_key d ≢ change_key c) cs → AreChanges (changed c s) cs t → AreChanges s (c ∷ cs) t
then_changes c cs s t one apart rest r = (there, back)
  where
    untouched : c ≡ Put r → ¬ Contains (map change_key cs) (key_of r)
    untouched is i = let (d, listed, same) = of_map change_key cs (key_of r) i in each_of (λ d. change_key d ≢ change_key c) cs apart d listed (same ∙ sym (ap change_key is))

    there : HasRow t r → Contains (c ∷ cs) (Put r) ⊎ (HasRow s r × ¬ Contains (map change_key (c ∷ cs)) (key_of r))
    there h = elim ((rest r).0 h) [
      | inl i ↦ inl (in_later c cs (Put r) i)
      | inr (stood, kept) ↦ elim ((one r).0 stood) [
        | inl is ↦ inl (subst (λ d. Contains (c ∷ cs) d) is (in_front c cs))
        | inr (first, other) ↦ inr (first, λ i. elim (of_cons (change_key c) (map change_key cs) (key_of r) i) [ inl same ↦ other (sym same) | inr later ↦ kept later ])
      ]
    ]

    back : Contains (c ∷ cs) (Put r) ⊎ (HasRow s r × ¬ Contains (map change_key (c ∷ cs)) (key_of r)) → HasRow t r
    back (inl i) = elim (of_cons c cs (Put r) i) [
      | inl is ↦ (rest r).1 (inr ((one r).1 (inl is), untouched is))
      | inr later ↦ (rest r).1 (inl later)
    ]
    back (inr (first, kept)) = (rest r).1 (inr (
      (one r).1 (inr (first, λ same. kept (subst (λ k. Contains (change_key c ∷ map change_key cs) k) (sym same) (in_front (change_key c) (map change_key cs))))),
      λ i. kept (in_later (change_key c) (map change_key cs) (key_of r) i),
    ))

-- changes of different rows that may be made, carried out in order
pub row_changes : (cs : List Change) (s : State) → IsSound s → AreApart cs → MayChangeAll s cs → AreChanges s.rows cs (changed_all cs s.rows)
row_changes [] s sound apart may = no_change s.rows
row_changes (Put x ∷ cs) s sound apart may =
    then_changes (Put x) cs s.rows (changed_all cs (put_row x s.rows)) (one_put x s sound may.0) apart.0
    (row_changes cs (with_rows (put_row x s.rows) s) (change_keeps_sound s sound (Put x) may.0) apart.1 may.1)
row_changes (Drop k ∷ cs) s sound apart may =
    then_changes (Drop k) cs s.rows (changed_all cs (drop_row k s.rows)) (one_drop k s may.0) apart.0
    (row_changes cs (with_rows (drop_row k s.rows) s) (change_keeps_sound s sound (Drop k) may.0) apart.1 may.1)
