-- The words of the kinds and the texts of keys fit the places of a table.
use Rattle.std.proofs.Common.{◌≡◌, ℕ, ◌≤◌, true, List, [], ◌+◌, ◌∷◌, ◌++◌, length, decimal, Ok, refl, sym, ◌∙◌, arith, length-append}
use Rattle.std.specs.Prelude.{codes}
use Rattle.std.specs.Char.{is_ascii_digit}
use Rattle.std.specs.List.{list_all}
use Rattle.std.proofs.lemmas.Bool.{and_from, and_parts}
use Rattle.std.proofs.lemmas.Bool.Decides.{nat_tests}
use Rattle.std.proofs.lemmas.Fmt.{digits_decimal, length-decimal-le}
use Rattle.std.proofs.lemmas.List.Folds.{list_all-append}
use Rattle.ocpi_text.specs.Text.{ci_text, is_ascii_text, is_printable}
use Rattle.ocpi_text.specs.Whole.{max_whole}
use Rattle.ocpi_text.proofs.Again.{ci_again}
use Rattle.ocpi_text.proofs.Digits.{own, digits_same}
use Rattle.ocpi_text.proofs.Parties.{party_parts}
use Rattle.ocpi_types.specs.Rows.{counter_name}
use Rattle.ocpi_types.specs.Words.{token_type_word}
use Rattle.ocpi_types.specs.declared.rows.Counter.{Counter}
use Rattle.ocpi_types.specs.declared.rows.Counter.TheVariants as counter
use Rattle.ocpi_types.specs.declared.rows.RowKey.{RowKey}
use Rattle.ocpi_types.specs.declared.rows.RowKey.TheVariants as keys
use Rattle.ocpi_types.specs.declared.words.TokenType.{TokenType}
use Rattle.ocpi_types.specs.declared.words.TokenType.TheVariants as type
use Rattle.ocpi_json.specs.RowKeys.{KeyFits, IsPartyKey, IsCiKey, key_text, row_kind_word}
use Rattle.ocpi_json.specs.declared.row_kinds.RowKind.{RowKind}
use Rattle.ocpi_json.specs.declared.row_kinds.RowKind.TheVariants as kind

-- the text of printable ASCII, of at most that many characters
abbrev Fits : ℕ → List ℕ → Type 0
Fits max s = (is_ascii_text s ≡ true) × (length s ≤ max)

kind_fits_so : (k : RowKind) → Fits 16 (row_kind_word k)
unfolding is_ascii_text
kind_fits_so kind.Count = (refl, omega arith)
kind_fits_so kind.Reply = (refl, omega arith)
kind_fits_so kind.Token = (refl, omega arith)
kind_fits_so kind.Push = (refl, omega arith)
kind_fits_so kind.Service = (refl, omega arith)
kind_fits_so kind.Spent = (refl, omega arith)
kind_fits_so kind.Mark = (refl, omega arith)
kind_fits_so kind.Reservation = (refl, omega arith)
kind_fits_so kind.Pending = (refl, omega arith)
kind_fits_so kind.Result = (refl, omega arith)
kind_fits_so kind.Session = (refl, omega arith)
kind_fits_so kind.Cdr = (refl, omega arith)
kind_fits_so kind.Command = (refl, omega arith)

pub kind_fits : (k : RowKind) → ci_text 16 (row_kind_word k) ≡ Ok (row_kind_word k)
kind_fits k = let h = kind_fits_so k in ci_again 16 (row_kind_word k) h.0 h.1

pub count_fits : ci_text 16 (codes "count") ≡ Ok (codes "count")
count_fits = kind_fits kind.Count

pub line_fits : ci_text 64 (codes "line") ≡ Ok (codes "line")
unfolding is_ascii_text
line_fits = ci_again 64 (codes "line") refl (omega arith)

counter_fits : (c : Counter) → Fits 64 (counter_name c)
unfolding is_ascii_text
counter_fits counter.Serial = (refl, omega arith)
counter_fits counter.Request = (refl, omega arith)
counter_fits counter.Session = (refl, omega arith)
counter_fits counter.Cdr = (refl, omega arith)
counter_fits counter.Reference = (refl, omega arith)

type_fits : (t : TokenType) → Fits 11 (token_type_word t)
unfolding is_ascii_text
type_fits type.AdHocUser = (refl, omega arith)
type_fits type.AppUser = (refl, omega arith)
type_fits type.Other = (refl, omega arith)
type_fits type.Rfid = (refl, omega arith)

digit_prints : (x : ℕ) → is_ascii_digit x ≡ true → is_printable x ≡ true
digit_prints x h = grind (arith, nat_tests)

digits_print : (s : List ℕ) → list_all is_ascii_digit s ≡ true → is_ascii_text s ≡ true
unfolding is_ascii_text
digits_print [] h = refl
digits_print (x ∷ s) h = let parts = and_parts (is_ascii_digit x) (list_all is_ascii_digit s) h in and_from _ _ (digit_prints x parts.0) (digits_print s parts.1)

number_fits : (n : ℕ) → n ≤ max_whole → Fits 18 (decimal n)
number_fits n le = (
  digits_print (decimal n) (sym (digits_same (decimal n)) ∙ digits_decimal own n (omega arith)),
  length-decimal-le 18 n (omega arith) (omega arith) (omega arith),
)

joined_prints : (s t : List ℕ) → is_ascii_text s ≡ true → is_ascii_text t ≡ true → is_ascii_text (s ++ 47 ∷ t) ≡ true
unfolding is_ascii_text
joined_prints s t hs ht = list_all-append is_printable s (47 ∷ t) ∙ and_from _ _ hs ht

joined : (a b : ℕ) (s t : List ℕ) → Fits a s → Fits b t → Fits (a + 1 + b) (s ++ 47 ∷ t)
joined a b s t hs ht = (joined_prints s t hs.0 ht.0, let l = length-append s (47 ∷ t) in let p = hs.1 in let q = ht.1 in omega (arith, l))

party_fits : (p : List ℕ) → IsPartyKey p → Fits 6 p
party_fits p h = let parts = party_parts p h.party in (parts.printable, let l = parts.characters in omega arith)

id_fits : (max : ℕ) (s : List ℕ) → IsCiKey max s → Fits max s
id_fits max s h = (h.fits.printable, h.fits.short)

wider : (a b : ℕ) (s : List ℕ) → a ≤ b → Fits a s → Fits b s
wider a b s le h = (h.0, let l = h.1 in omega arith)

with_number : (p : List ℕ) (n : ℕ) → IsPartyKey p → n ≤ max_whole → Fits 64 (p ++ 47 ∷ decimal n)
with_number p n h le = wider 25 64 _ (omega arith) (joined 6 18 p (decimal n) (party_fits p h) (number_fits n le))

with_id : (max : ℕ) (p s : List ℕ) → max ≤ 39 → IsPartyKey p → IsCiKey max s → Fits 64 (p ++ 47 ∷ s)
with_id max p s le h k = wider (6 + 1 + max) 64 _ (omega arith) (joined 6 max p s (party_fits p h) (id_fits max s k))

with_type : (p s : List ℕ) (t : TokenType) → IsPartyKey p → IsCiKey 36 s → Fits 64 (p ++ 47 ∷ (token_type_word t ++ 47 ∷ s))
with_type p s t h k = wider 55 64 _ (omega arith) (joined 6 48 p _ (party_fits p h) (joined 11 36 (token_type_word t) s (type_fits t) (id_fits 36 s k)))

key_fits_so : (k : RowKey) → KeyFits k → Fits 64 (key_text k)
unfolding key_text
key_fits_so (keys.Count c) f = counter_fits c
key_fits_so (keys.Reply sender number) f = with_number sender number f.0 f.1
key_fits_so (keys.Token party token_type uid) f = with_type party uid token_type f.0 f.1
key_fits_so (keys.Push number) f = wider 18 64 _ (omega arith) (number_fits number f)
key_fits_so (keys.Service evse_uid) f = wider 36 64 _ (omega arith) (id_fits 36 evse_uid f)
key_fits_so (keys.Spent provider reference) f = with_id 36 provider reference (omega arith) f.0 f.1
key_fits_so (keys.Mark provider reservation_id) f = with_id 36 provider reservation_id (omega arith) f.0 f.1
key_fits_so (keys.Reservation provider reservation_id) f = with_id 36 provider reservation_id (omega arith) f.0 f.1
key_fits_so (keys.Pending provider number) f = with_number provider number f.0 f.1
key_fits_so (keys.Result provider number) f = with_number provider number f.0 f.1
key_fits_so (keys.Session operator id) f = with_id 36 operator id (omega arith) f.0 f.1
key_fits_so (keys.Cdr operator id) f = with_id 39 operator id (omega arith) f.0 f.1
key_fits_so (keys.Command number) f = wider 18 64 _ (omega arith) (number_fits number f)

-- the text of a key has at most 64 characters of printable ASCII
pub key_fits : (k : RowKey) → KeyFits k → ci_text 64 (key_text k) ≡ Ok (key_text k)
key_fits k f = let h = key_fits_so k f in ci_again 64 (key_text k) h.0 h.1
