-- Whether a row of a kind and key stands, as it is told by what stands under the key.
use Rattle.std.proofs.Common.{◌≡◌, ◌≢◌, ℕ, zero, suc, List, nat_eq, Bool, true, false, not, true≢false, MatchBool, ◌⊎◌, inl, inr, refl, sym, ap, subst, ◌∙◌, arith}
use Rattle.std.specs.Prelude.{Option, Some, None, is_some, option_copied}
use Rattle.std.specs.FinMap.{get}
use denote.Ref.{Bor}
use Rattle.ocpi_text.specs.Text.{key}
use Rattle.ocpi_types.specs.Rows.{key_of}
use Rattle.ocpi_types.specs.declared.cdrs.Cdr.{Cdr}
use Rattle.ocpi_types.specs.declared.sessions.Session.{Session}
use Rattle.ocpi_types.specs.declared.token.Token.{Token}
use Rattle.ocpi_types.specs.declared.stored.OpenCommand.{OpenCommand}
use Rattle.ocpi_types.specs.declared.stored.Reply.{Reply}
use Rattle.ocpi_types.specs.declared.stored.Reservation.{Reservation}
use Rattle.ocpi_types.specs.declared.words.CommandResultType.{CommandResultType}
use Rattle.ocpi_types.specs.declared.rows.Counter.{Counter}
use Rattle.ocpi_types.specs.declared.rows.Row.{Row}
use Rattle.ocpi_types.specs.declared.rows.Row.TheVariants as row
use Rattle.ocpi_types.specs.declared.rows.RowKey.{RowKey}
use Rattle.ocpi_types.specs.declared.rows.RowKey.TheVariants as keys
use Rattle.site_book.specs.Sites.{OutOfService, works}
use Rattle.outbox.specs.declared.push_book.Outgoing.{Outgoing}
use Rattle.token_desk.specs.Tokens.{token_key}
use Rattle.std.proofs.lemmas.Bool.Decides.{nat_tests}
use Rattle.tables.proofs.Options.{some_same}
use Rattle.operator_rows.specs.Rows.{HasCount, HasRow}
use Rattle.operator_rows.specs.Sound.{IsSound}
use Rattle.operator_rows.specs.State.{State, Rows}
use Rattle.operator_stored.specs.Placing.{IsNew, Stands}

-- something stands under the key
abbrev pub Under : Rows → RowKey → Type 0
Under s (keys.Count c) = (n : ℕ) × HasCount s c n
Under s (keys.Reply p n) = (x : Reply) × (get s.commands.replies (p, n) ≡ Some x)
Under s (keys.Token p t u) = (x : Token) × (get s.tokens ((t, u), p) ≡ Some x)
Under s (keys.Push n) = (x : Outgoing) × (get s.pushes n ≡ Some x)
Under s (keys.Service evse) = get s.out_of_service evse ≡ Some tt
Under s (keys.Spent p r) = get s.spent (p, r) ≡ Some tt
Under s (keys.Mark p id) = (n : ℕ) × (get s.booked.marks (p, id) ≡ Some n)
Under s (keys.Reservation p id) = (r : Reservation) × (get s.booked.reservations (p, id) ≡ Some r)
Under s (keys.Pending p n) = (o : OpenCommand) × (get s.commands.pending (p, n) ≡ Some o)
Under s (keys.Result p n) = (x : CommandResultType) × (get s.commands.results (p, n) ≡ Some x)
Under s (keys.Session p id) = (v : Session) × (get s.charged.sessions id ≡ Some v) × (key v.party ≡ p)
Under s (keys.Cdr p id) = (x : Cdr) × (get s.charged.cdrs id ≡ Some x) × (key x.party ≡ p)
Under s (keys.Command n) = ⊥

-- what stands does so under its key
pub under : (s : Rows) (q : Row) → HasRow s q → Under s (key_of q)
under s (row.Count c n) h = (n, h)
under s (row.Reply p n x) h = (x, h)
under s (row.Token t) h = (t, h)
under s (row.Push n to push) h = (record { to = to; push = push }, h)
under s (row.Service evse) h = h
under s (row.Spent p r) h = h
under s (row.Mark p id n) h = (n, h)
under s (row.Reservation p id r) h = (r, h)
under s (row.Pending p n o) h = (o, h)
under s (row.Result p n x) h = (x, h)
under s (row.Session v) h = (v, h, refl)
under s (row.Cdr x) h = (x, h, refl)
under s (row.Command n x) h = absurd h

-- and where something stands under the key of a row, a row of that key stands
pub stands_under : (s : State) (r : Row) → IsSound s → Under s.rows (key_of r) → Stands s r
stands_under s (row.Count c n) sound h = (row.Count c h.0, h.1, refl)
stands_under s (row.Reply p n x) sound h = (row.Reply p n h.0, h.1, refl)
stands_under s (row.Token t) sound h =
    let same : token_key t ≡ token_key h.0 = sound.tokens_keyed (token_key t) h.0 h.1 in
    (row.Token h.0, subst (λ k. get s.rows.tokens k ≡ Some h.0) same h.1, ap (λ k. keys.Token k.1 k.0.0 k.0.1) (sym same))
stands_under s (row.Push n to push) sound h = (row.Push n h.0.to h.0.push, h.1, refl)
stands_under s (row.Service evse) sound h = (row.Service evse, h, refl)
stands_under s (row.Spent p r) sound h = (row.Spent p r, h, refl)
stands_under s (row.Mark p id n) sound h = (row.Mark p id h.0, h.1, refl)
stands_under s (row.Reservation p id r) sound h = (row.Reservation p id h.0, h.1, refl)
stands_under s (row.Pending p n o) sound h = (row.Pending p n h.0, h.1, refl)
stands_under s (row.Result p n x) sound h = (row.Result p n h.0, h.1, refl)
stands_under s (row.Session v) sound h =
    let same : key v.id ≡ key h.0.id = sound.charged_keyed.sessions (key v.id) h.0 h.1 in (
      row.Session h.0,
      subst (λ k. get s.rows.charged.sessions k ≡ Some h.0) same h.1,
      ap (λ k. keys.Session k (key h.0.id)) h.2 ∙ ap (λ k. keys.Session (key v.party) k) (sym same),
    )
stands_under s (row.Cdr x) sound h =
    let same : key x.id ≡ key h.0.id = sound.charged_keyed.cdrs (key x.id) h.0 h.1 in (
      row.Cdr h.0,
      subst (λ k. get s.rows.charged.cdrs k ≡ Some h.0) same h.1,
      ap (λ k. keys.Cdr k (key h.0.id)) h.2 ∙ ap (λ k. keys.Cdr (key x.party) k) (sym same),
    )
stands_under s (row.Command n x) sound h = absurd h

-- the answer to whether it does
pub told_under : (b : Bool) (s : State) (r : Row) → IsSound s → (b ≡ true → Under s.rows (key_of r)) → (b ≡ false → Under s.rows (key_of r) → ⊥) →
    MatchBool b (Stands s r) (IsNew s r)
told_under true s r sound may not = stands_under s r sound (may refl)
told_under false s r sound may not = λ q h same. not refl (subst (Under s.rows) same (under s.rows q h))

-- the same by an option that is looked up
pub some_of : {X : Type 0} (o : Option X) → is_some o ≡ true → (x : X) × (o ≡ Some x)
some_of None h = absurd (true≢false (sym h))
some_of (Some x) h = (x, refl)

pub is_some_copied : {X : Type 0} (r : Option (Bor X)) → is_some (option_copied r) ≡ is_some r
is_some_copied None = refl
is_some_copied (Some x) = refl

pub told_by : {X : Type 0} (b : Bool) (o : Option X) (s : State) (r : Row) → IsSound s → b ≡ is_some o → ((x : X) → o ≡ Some x → Under s.rows (key_of r)) →
    (Under s.rows (key_of r) → (x : X) × (o ≡ Some x)) → MatchBool b (Stands s r) (IsNew s r)
told_by b o s r sound is there found =
    told_under b s r sound (λ h. let x = some_of o (sym is ∙ h) in there x.0 x.1)
    (λ h u. let x = found u in true≢false (sym (ap is_some x.1) ∙ sym is ∙ h))

pub told_by_copied : {X : Type 0} (b : Bool) (c : Option (Bor X)) (o : Option X) (s : State) (r : Row) → IsSound s → b ≡ is_some c → option_copied c ≡ o →
    ((x : X) → o ≡ Some x → Under s.rows (key_of r)) → (Under s.rows (key_of r) → (x : X) × (o ≡ Some x)) → MatchBool b (Stands s r) (IsNew s r)
told_by_copied b c o s r sound is copied there found = told_by b o s r sound (is ∙ sym (is_some_copied c) ∙ ap is_some copied) there found

-- a number that is 0, or not
pub zero_or_not : (n : ℕ) → (n ≡ 0) ⊎ (n ≢ 0)
zero_or_not zero = inl refl
zero_or_not (suc n) = inr (λ e. absurd (omega arith))

-- the same of a row that is known to be another
pub by_row : (b : Bool) (s : State) (r q : Row) → r ≡ q → MatchBool b (Stands s q) (IsNew s q) → MatchBool b (Stands s r) (IsNew s r)
by_row b s r q same h = subst (λ x. MatchBool b (Stands s x) (IsNew s x)) (sym same) h

turned_twice : (w b : Bool) → w ≡ not b → not w ≡ b
turned_twice w true h = ap not h
turned_twice w false h = ap not h

pub told_service : (w : Bool) (out : OutOfService) (s : State) (evse : List ℕ) → IsSound s → w ≡ works out evse → out ≡ s.rows.out_of_service →
    MatchBool (not w) (Stands s (row.Service evse)) (IsNew s (row.Service evse))
told_service w out s evse sound is same =
    told_by (not w) (get s.rows.out_of_service evse) s (row.Service evse) sound
    (turned_twice w (is_some (get s.rows.out_of_service evse)) (is ∙ ap (λ (m : OutOfService). works m evse) same))
    (λ x h. h) (λ u. (tt, u))

pub told_spent : (b : Bool) (s : State) (p text reference : List ℕ) → IsSound s → text ≡ reference → key reference ≡ reference →
    (b ≡ true → get s.rows.spent (p, key text) ≡ Some tt) → (get s.rows.spent (p, key text) ≡ Some tt → b ≡ true) →
    MatchBool b (Stands s (row.Spent p reference)) (IsNew s (row.Spent p reference))
told_spent b s p text reference sound same own may also =
    let e : key text ≡ reference = ap key same ∙ own in
    told_under b s (row.Spent p reference) sound (λ h. subst (λ k. get s.rows.spent (p, k) ≡ Some tt) e (may h))
    (λ h u. true≢false (sym (also (subst (λ k. get s.rows.spent (p, k) ≡ Some tt) (sym e) u)) ∙ h))

-- a session of the party and id of another, as it is found
pub told_session : (b : Bool) (s : State) (v w : Session) → IsSound s → get s.rows.charged.sessions (key v.id) ≡ Some w → (b ≡ true → key w.party ≡ key v.party) →
    (key w.party ≡ key v.party → b ≡ true) → MatchBool b (Stands s (row.Session v)) (IsNew s (row.Session v))
told_session b s v w sound has may also =
    told_under b s (row.Session v) sound (λ h. (w, has, may h))
    (λ h u. let same : u.0 ≡ w = some_same u.0 w (sym u.1 ∙ has) in
    true≢false (sym (also (ap (λ (x : Session). key x.party) (sym same) ∙ u.2)) ∙ h))

pub told_cdr : (b : Bool) (s : State) (v w : Cdr) → IsSound s → get s.rows.charged.cdrs (key v.id) ≡ Some w → (b ≡ true → key w.party ≡ key v.party) →
    (key w.party ≡ key v.party → b ≡ true) → MatchBool b (Stands s (row.Cdr v)) (IsNew s (row.Cdr v))
told_cdr b s v w sound has may also =
    told_under b s (row.Cdr v) sound (λ h. (w, has, may h))
    (λ h u. let same : u.0 ≡ w = some_same u.0 w (sym u.1 ∙ has) in
    true≢false (sym (also (ap (λ (x : Cdr). key x.party) (sym same) ∙ u.2)) ∙ h))

-- a number is 0 where the test says so
pub is_other : (n : ℕ) → not (nat_eq n 0) ≡ true → n ≢ 0
is_other zero h = absurd (true≢false (sym h))
is_other (suc n) h = λ e. absurd (omega arith)

pub is_zero : (n : ℕ) → not (nat_eq n 0) ≡ false → n ≡ 0
is_zero zero h = refl
is_zero (suc n) h = grind (arith, nat_tests)

-- the count of a counter, tested
pub told_number : (s : State) (c : Counter) (last now value : ℕ) → value ≡ now → (now ≢ 0 → HasCount s.rows c now) → ((n : ℕ) → HasCount s.rows c n → now ≢ 0) →
    MatchBool (not (nat_eq value 0)) (Stands s (row.Count c last)) (IsNew s (row.Count c last))
told_number s c last now value same there found =
    counted (not (nat_eq value 0)) (λ h. subst (λ (n : ℕ). n ≢ 0) same (is_other value h)) (λ h. sym same ∙ is_zero value h)
  where
    counted : (b : Bool) → (b ≡ true → now ≢ 0) → (b ≡ false → now ≡ 0) → MatchBool b (Stands s (row.Count c last)) (IsNew s (row.Count c last))
    counted true may none = (row.Count c now, there (may refl), refl)
    counted false may none = λ q h same. let u : Under s.rows (keys.Count c) = subst (Under s.rows) same (under s.rows q h) in found u.0 u.1 (none refl)
