-- Changes of different rows lead from the rows before them to those after them.
use Rattle.std.proofs.Common.{suc, ◌≡◌, ◌≢◌, ◌↔◌, List, [], ◌∷◌, map, ◌⊎◌, inl, inr, refl, sym, ap, subst, ◌∙◌}
use Rattle.std.specs.Prelude.{Some, Contains, ⊤}
use Rattle.std.specs.declared.cmp.Ordering.{Ordering}
use Rattle.std.specs.Cmp.{IsTotalOrder, nat_cmp_total}
use Rattle.std.specs.FinMap.{FinMap, IsAntisymmetric, nat_cmp-IsAntisymmetric, get, insert, remove}
use Rattle.ocpi_text.specs.Text.{key}
use Rattle.tables.specs.Keys.{text_number_total, text_number_exact, text_pair_total, text_pair_exact}
use Rattle.tables.proofs.Maps.{get-insert_same, get-insert_other, of_remove, get-remove_other, told}
use Rattle.ocpi_types.specs.Rows.{key_of}
use Rattle.ocpi_types.specs.declared.rows.Row.{Row}
use Rattle.ocpi_types.specs.declared.rows.Row.TheVariants as row
use Rattle.ocpi_types.specs.declared.rows.RowKey.{RowKey}
use Rattle.ocpi_types.specs.declared.rows.RowKey.TheVariants as keys
use Rattle.ocpi_types.specs.declared.rows.Change.{Change}
use Rattle.ocpi_types.specs.declared.rows.Change.TheVariants.{Put, Drop}
use Rattle.ocpi_types.specs.declared.rows.Counter.TheVariants as counter
use Rattle.token_desk.specs.Tokens.{token_key}
use Rattle.token_desk.specs.TypeOrder.{tokens_total, tokens_exact}
use Rattle.handover.specs.Inbox.{session_key}
use Rattle.handover.specs.Cdrs.{cdr_key}
use Rattle.tables.proofs.Elements.{in_none, in_front, of_map}
pub use Rattle.tables.proofs.Elements.{in_later, of_cons}
use Rattle.provider_rows.specs.State.{Rows, State}
use Rattle.provider_rows.specs.Stored.{put_row, drop_row, changed, changed_all, change_key, Each, AreApart}
use Rattle.provider_rows.specs.Rows.{HasRow, AreChanges}
use Rattle.provider_rows.specs.Sound.{MayPut, MayChangeAll, with_rows}

-- rows that a provider keeps: a counter has one once it gave a number
abbrev pub IsStored : Row → Type 0
IsStored (row.Count counter.Serial n) = n ≢ 0
IsStored (row.Count counter.Request n) = n ≢ 0
IsStored (row.Count counter.Reference n) = n ≢ 0
IsStored (row.Count counter.Session n) = ⊥
IsStored (row.Count counter.Cdr n) = ⊥
IsStored (row.Reply p n reply) = ⊤
IsStored (row.Token t) = ⊤
IsStored (row.Push n to push) = ⊤
IsStored (row.Command n command) = ⊤
IsStored (row.Session x) = ⊤
IsStored (row.Cdr x) = ⊤
IsStored (row.Service evse) = ⊥
IsStored (row.Spent p reference) = ⊥
IsStored (row.Mark p id n) = ⊥
IsStored (row.Reservation p id r) = ⊥
IsStored (row.Pending p n o) = ⊥
IsStored (row.Result p n x) = ⊥

-- a row that may be put is kept
stored_of : (s : State) (r : Row) → MayPut s r → IsStored r
stored_of s (row.Count counter.Serial n) may = may
stored_of s (row.Count counter.Request n) may = may.given
stored_of s (row.Count counter.Reference n) may = may.given
stored_of s (row.Count counter.Session n) may = may
stored_of s (row.Count counter.Cdr n) may = may
stored_of s (row.Reply p n reply) may = tt
stored_of s (row.Token t) may = tt
stored_of s (row.Push n to push) may = tt
stored_of s (row.Command n command) may = tt
stored_of s (row.Session x) may = tt
stored_of s (row.Cdr x) may = tt
stored_of s (row.Service evse) may = may
stored_of s (row.Spent p reference) may = may
stored_of s (row.Mark p id n) may = may
stored_of s (row.Reservation p id r) may = may
stored_of s (row.Pending p n o) may = may
stored_of s (row.Result p n x) may = may

-- one row is put: it stands, and all that stood under other keys
abbrev Puts : Row → Rows → Row → Type 0
Puts x s r = HasRow (put_row x s) r ↔ ((r ≡ x) ⊎ (HasRow s r × (key_of r ≢ key_of x)))

-- the row of a key is dropped: all that stood under other keys stand
abbrev Drops : RowKey → Rows → Row → Type 0
Drops k s r = HasRow (drop_row k s) r ↔ (HasRow s r × (key_of r ≢ k))

module _ {K X : Type 0} {R : K → K → Ordering} (o : IsTotalOrder R) (exact : IsAntisymmetric R) (m : FinMap R X) (k : K) where
  put_one : (v : X) (q : K) (x : X) → (get (insert m k v) q ≡ Some x) ↔ (((q ≡ k) × (x ≡ v)) ⊎ ((get m q ≡ Some x) × (q ≢ k)))
  put_one v q x = (
    λ h. elim (told o exact q k) [
      | inl same ↦
          let is : Some v ≡ Some x = sym (get-insert_same o exact m k v) ∙ ap (get (insert m k v)) (sym same) ∙ h in
          let e : x ≡ v = cc in
          inl (same, e)
      | inr apart ↦ inr (sym (get-insert_other o exact m k v q apart) ∙ h, apart)
    ],
    λ y. elim y [
      | inl z ↦ ap (get (insert m k v)) z.0 ∙ get-insert_same o exact m k v ∙ ap (λ (w : X). Some w) (sym z.1)
      | inr z ↦ get-insert_other o exact m k v q z.1 ∙ z.0
    ],
  )

  drop_one : (q : K) (x : X) → (get (remove m k) q ≡ Some x) ↔ ((get m q ≡ Some x) × (q ≢ k))
  drop_one q x = (λ h. let was = of_remove o exact m k q x h in (was.1, was.0), λ h. get-remove_other o exact m k q h.1 ∙ h.0)

-- the same of rows of a kind, whose keys and values are those of a map
of_put : {A B C D P Q : Type 0} → P ↔ (A ⊎ (B × C)) → (A → D) → (D → A) → (C → Q) → (Q → C) → P ↔ (D ⊎ (B × Q))
of_put h f g i j = (
  λ p. elim (h.0 p) [ inl a ↦ inl (f a) | inr b ↦ inr (b.0, i b.1) ],
  λ y. elim y [ inl d ↦ h.1 (inl (g d)) | inr b ↦ h.1 (inr (b.0, j b.1)) ],
)

of_drop : {B C P Q : Type 0} → P ↔ (B × C) → (C → Q) → (Q → C) → P ↔ (B × Q)
of_drop h i j = (λ p. let b = h.0 p in (b.0, i b.1), λ b. h.1 (b.0, j b.1))

-- a row of another kind stands as it stood
module _ (A : Type 0) where
  other_put : (x r : Row) → (key_of r ≢ key_of x) → A ↔ ((r ≡ x) ⊎ (A × (key_of r ≢ key_of x)))
  other_put x r apart = (λ h. inr (h, apart), λ y. elim y [ inl e ↦ absurd (apart (ap key_of e)) | inr h ↦ h.0 ])

  other_drop : (k : RowKey) (r : Row) → (key_of r ≢ k) → A ↔ (A × (key_of r ≢ k))
  other_drop k r apart = (λ h. (h, apart), λ h. h.0)

puts : (x : Row) (s : Rows) → IsStored x → (r : Row) → Puts x s r
puts (row.Count counter.Serial n) s some (row.Count counter.Serial m) = (
  λ h. inl (ap (row.Count counter.Serial) (sym h.0)),
  λ y. elim y [
    | inl e ↦ let is : m ≡ n = cc in (sym is, λ zero. some (sym is ∙ zero))
    | inr h ↦ absurd (h.1 refl)
  ],
)
puts (row.Count counter.Serial n) s some (row.Count c m) = other_put (HasRow s (row.Count c m)) (row.Count counter.Serial n) (row.Count c m) (λ e. cc)
puts (row.Count counter.Serial n) s some r = other_put (HasRow s r) (row.Count counter.Serial n) r (λ e. cc)
puts (row.Count counter.Request n) s some (row.Count counter.Request m) = (
  λ h. inl (ap (row.Count counter.Request) (sym h.0)),
  λ y. elim y [
    | inl e ↦ let is : m ≡ n = cc in (sym is, λ zero. some (sym is ∙ zero))
    | inr h ↦ absurd (h.1 refl)
  ],
)
puts (row.Count counter.Request n) s some (row.Count c m) = other_put (HasRow s (row.Count c m)) (row.Count counter.Request n) (row.Count c m) (λ e. cc)
puts (row.Count counter.Request n) s some r = other_put (HasRow s r) (row.Count counter.Request n) r (λ e. cc)
puts (row.Count counter.Reference n) s some (row.Count counter.Reference m) = (
  λ h. inl (ap (row.Count counter.Reference) (sym h.0)),
  λ y. elim y [
    | inl e ↦ let is : m ≡ n = cc in (sym is, λ zero. some (sym is ∙ zero))
    | inr h ↦ absurd (h.1 refl)
  ],
)
puts (row.Count counter.Reference n) s some (row.Count c m) = other_put (HasRow s (row.Count c m)) (row.Count counter.Reference n) (row.Count c m) (λ e. cc)
puts (row.Count counter.Reference n) s some r = other_put (HasRow s r) (row.Count counter.Reference n) r (λ e. cc)
puts (row.Count counter.Session n) s some r = absurd some
puts (row.Count counter.Cdr n) s some r = absurd some
puts (row.Reply p n v) s some (row.Reply q m b) =
    of_put (put_one text_number_total text_number_exact s.replies (p, n) v (q, m) b)
    (λ h. λ i. row.Reply (h.0 i).0 (h.0 i).1 (h.1 i))
    (λ e. let a : q ≡ p = cc in let d : m ≡ n = cc in let f : b ≡ v = cc in (λ i. (a i, d i), f))
    (λ apart e. let a : q ≡ p = cc in let d : m ≡ n = cc in apart (λ i. (a i, d i)))
    (λ apart e. apart (λ i. keys.Reply (e i).0 (e i).1))
puts (row.Reply p n v) s some r = other_put (HasRow s r) (row.Reply p n v) r (λ e. cc)
puts (row.Token t) s some (row.Token u) =
    of_put (put_one tokens_total tokens_exact s.desk.tokens (token_key t) t (token_key u) u)
    (λ h. ap row.Token h.1)
    (λ e. let a : u ≡ t = cc in (ap token_key a, a))
    (λ apart e. let a : key u.party ≡ key t.party = cc in let b : u.token_type ≡ t.token_type = cc in let d : key u.uid ≡ key t.uid = cc in apart (λ i. ((b i, d i), a i)))
    (λ apart e. apart (λ i. keys.Token (e i).1 (e i).0.0 (e i).0.1))
puts (row.Token t) s some r = other_put (HasRow s r) (row.Token t) r (λ e. cc)
puts (row.Push n to v) s some (row.Push m at b) =
    of_put (put_one nat_cmp_total nat_cmp-IsAntisymmetric s.outbox.pushes n (record { to = to; push = v }) m (record { to = at; push = b }))
    (λ h. λ i. row.Push (h.0 i) (h.1 i).to (h.1 i).push)
    (λ e. let a : m ≡ n = cc in let d : at ≡ to = cc in let f : b ≡ v = cc in (a, λ i. record { to = d i; push = f i }))
    (λ apart e. let a : m ≡ n = cc in apart a)
    (λ apart e. apart (ap keys.Push e))
puts (row.Push n to v) s some r = other_put (HasRow s r) (row.Push n to v) r (λ e. cc)
puts (row.Command n v) s some (row.Command m b) =
    of_put (put_one nat_cmp_total nat_cmp-IsAntisymmetric s.outbox.commands n v m b)
    (λ h. λ i. row.Command (h.0 i) (h.1 i))
    (λ e. let a : m ≡ n = cc in let f : b ≡ v = cc in (a, f))
    (λ apart e. let a : m ≡ n = cc in apart a)
    (λ apart e. apart (ap keys.Command e))
puts (row.Command n v) s some r = other_put (HasRow s r) (row.Command n v) r (λ e. cc)
puts (row.Session x) s some (row.Session y) =
    of_put (put_one text_pair_total text_pair_exact s.inbox.sessions (session_key x) x (session_key y) y)
    (λ h. ap row.Session h.1)
    (λ e. let a : y ≡ x = cc in (ap session_key a, a))
    (λ apart e. let a : key y.party ≡ key x.party = cc in let d : key y.id ≡ key x.id = cc in apart (λ i. (a i, d i)))
    (λ apart e. apart (λ i. keys.Session (e i).0 (e i).1))
puts (row.Session x) s some r = other_put (HasRow s r) (row.Session x) r (λ e. cc)
puts (row.Cdr x) s some (row.Cdr y) =
    of_put (put_one text_pair_total text_pair_exact s.inbox.cdrs (cdr_key x) x (cdr_key y) y)
    (λ h. ap row.Cdr h.1)
    (λ e. let a : y ≡ x = cc in (ap cdr_key a, a))
    (λ apart e. let a : key y.party ≡ key x.party = cc in let d : key y.id ≡ key x.id = cc in apart (λ i. (a i, d i)))
    (λ apart e. apart (λ i. keys.Cdr (e i).0 (e i).1))
puts (row.Cdr x) s some r = other_put (HasRow s r) (row.Cdr x) r (λ e. cc)
puts (row.Service evse) s some r = absurd some
puts (row.Spent p reference) s some r = absurd some
puts (row.Mark p id n) s some r = absurd some
puts (row.Reservation p id v) s some r = absurd some
puts (row.Pending p n v) s some r = absurd some
puts (row.Result p n v) s some r = absurd some

drops : (k : RowKey) (s : Rows) (r : Row) → Drops k s r
drops (keys.Count counter.Serial) s (row.Count counter.Serial m) = (λ h. absurd (h.1 (sym h.0)), λ h. absurd (h.1 refl))
drops (keys.Count counter.Serial) s (row.Count c m) = other_drop (HasRow s (row.Count c m)) (keys.Count counter.Serial) (row.Count c m) (λ e. cc)
drops (keys.Count counter.Serial) s r = other_drop (HasRow s r) (keys.Count counter.Serial) r (λ e. cc)
drops (keys.Count counter.Request) s (row.Count counter.Request m) = (λ h. absurd (h.1 (sym h.0)), λ h. absurd (h.1 refl))
drops (keys.Count counter.Request) s (row.Count c m) = other_drop (HasRow s (row.Count c m)) (keys.Count counter.Request) (row.Count c m) (λ e. cc)
drops (keys.Count counter.Request) s r = other_drop (HasRow s r) (keys.Count counter.Request) r (λ e. cc)
drops (keys.Count counter.Reference) s (row.Count counter.Reference m) = (λ h. absurd (h.1 (sym h.0)), λ h. absurd (h.1 refl))
drops (keys.Count counter.Reference) s (row.Count c m) = other_drop (HasRow s (row.Count c m)) (keys.Count counter.Reference) (row.Count c m) (λ e. cc)
drops (keys.Count counter.Reference) s r = other_drop (HasRow s r) (keys.Count counter.Reference) r (λ e. cc)
drops (keys.Count counter.Session) s (row.Count counter.Session m) = (λ h. absurd h, λ h. h.0)
drops (keys.Count counter.Session) s (row.Count c m) = other_drop (HasRow s (row.Count c m)) (keys.Count counter.Session) (row.Count c m) (λ e. cc)
drops (keys.Count counter.Session) s r = other_drop (HasRow s r) (keys.Count counter.Session) r (λ e. cc)
drops (keys.Count counter.Cdr) s (row.Count counter.Cdr m) = (λ h. absurd h, λ h. h.0)
drops (keys.Count counter.Cdr) s (row.Count c m) = other_drop (HasRow s (row.Count c m)) (keys.Count counter.Cdr) (row.Count c m) (λ e. cc)
drops (keys.Count counter.Cdr) s r = other_drop (HasRow s r) (keys.Count counter.Cdr) r (λ e. cc)
drops (keys.Reply p n) s (row.Reply q m b) =
    of_drop (drop_one text_number_total text_number_exact s.replies (p, n) (q, m) b)
    (λ apart e. let a : q ≡ p = cc in let d : m ≡ n = cc in apart (λ i. (a i, d i)))
    (λ apart e. apart (λ i. keys.Reply (e i).0 (e i).1))
drops (keys.Reply p n) s r = other_drop (HasRow s r) (keys.Reply p n) r (λ e. cc)
drops (keys.Token p type uid) s (row.Token u) =
    of_drop (drop_one tokens_total tokens_exact s.desk.tokens ((type, uid), p) (token_key u) u)
    (λ apart e. let a : key u.party ≡ p = cc in let b : u.token_type ≡ type = cc in let d : key u.uid ≡ uid = cc in apart (λ i. ((b i, d i), a i)))
    (λ apart e. apart (λ i. keys.Token (e i).1 (e i).0.0 (e i).0.1))
drops (keys.Token p type uid) s r = other_drop (HasRow s r) (keys.Token p type uid) r (λ e. cc)
drops (keys.Push n) s (row.Push m at b) =
    of_drop (drop_one nat_cmp_total nat_cmp-IsAntisymmetric s.outbox.pushes n m (record { to = at; push = b }))
    (λ apart e. let a : m ≡ n = cc in apart a)
    (λ apart e. apart (ap keys.Push e))
drops (keys.Push n) s r = other_drop (HasRow s r) (keys.Push n) r (λ e. cc)
drops (keys.Command n) s (row.Command m b) =
    of_drop (drop_one nat_cmp_total nat_cmp-IsAntisymmetric s.outbox.commands n m b)
    (λ apart e. let a : m ≡ n = cc in apart a)
    (λ apart e. apart (ap keys.Command e))
drops (keys.Command n) s r = other_drop (HasRow s r) (keys.Command n) r (λ e. cc)
drops (keys.Session p id) s (row.Session y) =
    of_drop (drop_one text_pair_total text_pair_exact s.inbox.sessions (p, id) (session_key y) y)
    (λ apart e. let a : key y.party ≡ p = cc in let d : key y.id ≡ id = cc in apart (λ i. (a i, d i)))
    (λ apart e. apart (λ i. keys.Session (e i).0 (e i).1))
drops (keys.Session p id) s r = other_drop (HasRow s r) (keys.Session p id) r (λ e. cc)
drops (keys.Cdr p id) s (row.Cdr y) =
    of_drop (drop_one text_pair_total text_pair_exact s.inbox.cdrs (p, id) (cdr_key y) y)
    (λ apart e. let a : key y.party ≡ p = cc in let d : key y.id ≡ id = cc in apart (λ i. (a i, d i)))
    (λ apart e. apart (λ i. keys.Cdr (e i).0 (e i).1))
drops (keys.Cdr p id) s r = other_drop (HasRow s r) (keys.Cdr p id) r (λ e. cc)
drops (keys.Service evse) s (row.Service at) = (λ h. absurd h, λ h. h.0)
drops (keys.Service evse) s r = other_drop (HasRow s r) (keys.Service evse) r (λ e. cc)
drops (keys.Spent p reference) s (row.Spent q j) = (λ h. absurd h, λ h. h.0)
drops (keys.Spent p reference) s r = other_drop (HasRow s r) (keys.Spent p reference) r (λ e. cc)
drops (keys.Mark p id) s (row.Mark q j m) = (λ h. absurd h, λ h. h.0)
drops (keys.Mark p id) s r = other_drop (HasRow s r) (keys.Mark p id) r (λ e. cc)
drops (keys.Reservation p id) s (row.Reservation q j v) = (λ h. absurd h, λ h. h.0)
drops (keys.Reservation p id) s r = other_drop (HasRow s r) (keys.Reservation p id) r (λ e. cc)
drops (keys.Pending p n) s (row.Pending q m v) = (λ h. absurd h, λ h. h.0)
drops (keys.Pending p n) s r = other_drop (HasRow s r) (keys.Pending p n) r (λ e. cc)
drops (keys.Result p n) s (row.Result q m v) = (λ h. absurd h, λ h. h.0)
drops (keys.Result p n) s r = other_drop (HasRow s r) (keys.Result p n) r (λ e. cc)

-- one change: what stands is what was put, and what stood under other keys
abbrev pub One : Change → Rows → Type 0
One c s = (r : Row) → HasRow (changed c s) r ↔ ((c ≡ Put r) ⊎ (HasRow s r × (key_of r ≢ change_key c)))

pub one_put : (x : Row) (s : Rows) → IsStored x → One (Put x) s
one_put x s stored r = of_put (puts x s stored r) (λ e. ap Put (sym e)) (λ e. let is : r ≡ x = cc in is) (λ a. a) (λ a. a)

pub one_drop : (k : RowKey) (s : Rows) → One (Drop k) s
one_drop k s r = (λ h. inr ((drops k s r).0 h), λ y. elim y [ inl e ↦ absurd (cc) | inr h ↦ (drops k s r).1 h ])

pub each_of : (P : Change → Type 0) (cs : List Change) → Each P cs → (d : Change) → Contains cs d → P d
each_of P [] h d i = absurd (in_none d i)
each_of P (c ∷ cs) h d i = elim (of_cons c cs d i) [ inl same ↦ subst P same (h 0 c refl) | inr later ↦ each_of P cs (λ k e at. h (suc k) e at) d later ]

no_change : (s : Rows) → AreChanges s [] s
no_change s r = (λ h. inr (h, λ i. in_none _ i), λ y. elim y [ inl i ↦ absurd (in_none _ i) | inr i ↦ i.0 ])

-- one change before others, of other rows
then_changes : (c : Change) (cs : List Change) (s t : Rows) → One c s → Each (λ d. change_key d ≢ change_key c) cs → AreChanges (changed c s) cs t → AreChanges s (c ∷ cs) t
then_changes c cs s t one apart rest r = (there, back)
  where
    untouched : c ≡ Put r → ¬ Contains (map change_key cs) (key_of r)
    untouched is i = let (d, listed, same) = of_map change_key cs (key_of r) i in each_of (λ d. change_key d ≢ change_key c) cs apart d listed (same ∙ sym (ap change_key is))

    there : HasRow t r → Contains (c ∷ cs) (Put r) ⊎ (HasRow s r × ¬ Contains (map change_key (c ∷ cs)) (key_of r))
    there h = elim ((rest r).0 h) [
      | inl i ↦ inl (in_later c cs (Put r) i)
      | inr (stood, kept) ↦ elim ((one r).0 stood) [
        | inl is ↦ inl (subst (λ d. Contains (c ∷ cs) d) is (in_front c cs))
        | inr (first, other) ↦ inr (first, λ i. elim (of_cons (change_key c) (map change_key cs) (key_of r) i) [ inl same ↦ other (sym same) | inr later ↦ kept later ])
      ]
    ]

    back : Contains (c ∷ cs) (Put r) ⊎ (HasRow s r × ¬ Contains (map change_key (c ∷ cs)) (key_of r)) → HasRow t r
    back (inl i) = elim (of_cons c cs (Put r) i) [
      | inl is ↦ (rest r).1 (inr ((one r).1 (inl is), untouched is))
      | inr later ↦ (rest r).1 (inl later)
    ]
    back (inr (first, kept)) = (rest r).1 (inr (
      (one r).1 (inr (first, λ same. kept (subst (λ k. Contains (change_key c ∷ map change_key cs) k) (sym same) (in_front (change_key c) (map change_key cs))))),
      λ i. kept (in_later (change_key c) (map change_key cs) (key_of r) i),
    ))

-- changes of different rows that may be made, carried out in order
pub row_changes : (cs : List Change) (s : State) → AreApart cs → MayChangeAll s cs → AreChanges s.rows cs (changed_all cs s.rows)
row_changes [] s apart may = no_change s.rows
row_changes (Put x ∷ cs) s apart may =
    then_changes (Put x) cs s.rows (changed_all cs (put_row x s.rows)) (one_put x s.rows (stored_of s x may.0)) apart.0 (row_changes cs (with_rows (put_row x s.rows) s) apart.1 may.1)
row_changes (Drop k ∷ cs) s apart may =
    then_changes (Drop k) cs s.rows (changed_all cs (drop_row k s.rows)) (one_drop k s.rows) apart.0 (row_changes cs (with_rows (drop_row k s.rows) s) apart.1 may.1)
