-- What a keeper keeps: under each kind and key, the text of the row.
use Rattle.std.specs.Prelude.{◌≡◌, ◌≢◌, ◌≤◌, ℕ, codes, nat_le, Bool, true, false, if◌then◌else◌, List, [], ◌∷◌, ◌++◌, Option, Some, None, Result, Ok, Err}
use Rattle.std.specs.FinMap.{FinMap, entries, get, insert, remove}
use Rattle.tables.specs.Keys.{text_pair_cmp}
use Rattle.ocpi_text.specs.Whole.{max_whole}
use Rattle.json_text.specs.Fault.{Read}
use Rattle.ocpi_types.specs.Rows.{key_of}
use Rattle.ocpi_types.specs.declared.rows.Counter.TheVariants.{Serial}
use Rattle.ocpi_types.specs.declared.rows.Row.{Row}
use Rattle.ocpi_types.specs.declared.rows.Row.TheVariants as row
use Rattle.ocpi_types.specs.declared.rows.RowKey.{RowKey}
use Rattle.ocpi_types.specs.declared.rows.Change.{Change}
use Rattle.ocpi_types.specs.declared.rows.Change.TheVariants as change
use Rattle.ocpi_json.specs.RowForms.{row_in, row_text}
use Rattle.ocpi_json.specs.RowKeys.{KeyFits, key_text, kind_of_key, row_kind_word}
use Rattle.node_store.specs.declared.fault.StoreFault.{StoreFault}
use Rattle.node_store.specs.declared.fault.StoreFault.TheVariants.{Refused, BadRow, OldLayout, Memory}

-- the word of a kind, and the text of a key
abbrev pub RowPlace : Type 0
RowPlace = List ℕ × List ℕ

-- a finite map from kinds and keys to texts, ordered by kind, then key, both by their bytes
abbrev pub Content : Type 0
Content = FinMap text_pair_cmp (List ℕ)

-- where the row of a key is kept
abbrev pub place_of : RowKey → RowPlace
place_of k = (row_kind_word (kind_of_key k), key_text k)

-- where the number of the last line that took hold is kept; no key of a row has this place
abbrev pub line_place : RowPlace
line_place = (codes "count", codes "line")

-- ---- changes

abbrev pub changed : Content → Change → Content
changed c (change.Put r) = insert c (place_of (key_of r)) (row_text r)
changed c (change.Drop k) = remove c (place_of k)

-- the changes in turn
abbrev pub changed_all : Content → List Change → Content
changed_all c [] = c
changed_all c (x ∷ xs) = changed_all (changed c x) xs

-- What a change puts is read again as that very row. Its key, and that of what it takes away, is one that the types can
-- hold, so that no other key has its place.
abbrev pub IsReadAgain : Change → Type 0
IsReadAgain (change.Put r) = (row_in (row_kind_word (kind_of_key (key_of r))) (key_text (key_of r)) (row_text r) ≡ Ok r) × KeyFits (key_of r)
IsReadAgain (change.Drop k) = KeyFits k

-- ---- the rows that are kept

abbrev pub after_row : {X : Type 0} → Read Row → (Row → Option X) → Option X
after_row (Ok r) f = f r
after_row (Err e) f = None

abbrev pub is_row : Read Row → Bool
is_row (Ok r) = true
is_row (Err e) = false

-- each text is a row of its kind and key, but that at the place of the number
abbrev pub AreRows : Content → Type 0
AreRows c = (p : RowPlace) (t : List ℕ) → p ≢ line_place → get c p ≡ Some t → is_row (row_in p.0 p.1 t) ≡ true

-- the rows of entries in turn behind those before, or none where a text is read as no row of its kind and key
abbrev pub rows_read : (List ℕ → List ℕ → List ℕ → Read Row) → List Row → List (RowPlace × List ℕ) → Option (List Row)
rows_read reader before [] = Some before
rows_read reader before (e ∷ es) = after_row (reader e.0.0 e.0.1 e.1) (λ r. rows_read reader (before ++ r ∷ []) es)

-- by layout 2, which is today's
abbrev pub rows_after : List Row → List (RowPlace × List ℕ) → Option (List Row)
rows_after = rows_read row_in

-- the rows of a content, ordered by kind and key: what is kept at the place of the number is none of them
abbrev pub rows_of : Content → Option (List Row)
rows_of c = rows_after [] (entries (remove c line_place))

-- ---- the number of the last line that took hold

-- the number of a line that can take hold
abbrev pub IsLineNumber : ℕ → Type 0
IsLineNumber n = (2 ≤ n) × (n ≤ max_whole)

-- its text is that of the row of a counter
abbrev pub line_text : ℕ → List ℕ
line_text n = row_text (row.Count Serial n)

-- the number of a counter's row, where it is one of a line that can take hold
abbrev pub number_in : Row → Option ℕ
number_in (row.Count counter last) = if nat_le 2 last then Some last else None
number_in (row.Reply sender number reply) = None
number_in (row.Token t) = None
number_in (row.Push number to push) = None
number_in (row.Service evse_uid) = None
number_in (row.Spent provider reference) = None
number_in (row.Mark provider reservation_id number) = None
number_in (row.Reservation provider reservation_id r) = None
number_in (row.Pending provider number open_command) = None
number_in (row.Result provider number result) = None
number_in (row.Session s) = None
number_in (row.Cdr c) = None
number_in (row.Command number command) = None

-- the number that a text is read as, or none where it is read as no number from 2
abbrev pub number_of_text : List ℕ → Option ℕ
number_of_text t = after_row (row_in (codes "count") (codes "serial") t) number_in

-- where nothing is kept no line took hold, and the number is 1
abbrev pub number_kept : Option (List ℕ) → Option ℕ
number_kept None = Some 1
number_kept (Some t) = number_of_text t

-- the number of the last line that took hold, or none where its text is no such number
abbrev pub line_of : Content → Option ℕ
line_of c = number_kept (get c line_place)

-- the content with the number of a line that took hold, where there is one
abbrev pub marked : Option ℕ → Content → Content
marked None c = c
marked (Some n) c = insert c line_place (line_text n)

-- ---- answers

-- the answer is the row that was read, or BadRow where none was, or memory ran out
abbrev pub AnswersRow : Result Row StoreFault → Read Row → Type 0
AnswersRow (Ok r) read = read ≡ Ok r
AnswersRow (Err (Refused cause)) read = ⊥
AnswersRow (Err BadRow) read = after_row read Some ≡ None
AnswersRow (Err OldLayout) read = ⊥
AnswersRow (Err Memory) read = Unit {0}

-- the answer is the number that was read, or BadRow where none was, or memory ran out
abbrev pub AnswersNumber : Result ℕ StoreFault → Option ℕ → Type 0
AnswersNumber (Ok n) number = number ≡ Some n
AnswersNumber (Err (Refused cause)) number = ⊥
AnswersNumber (Err BadRow) number = number ≡ None
AnswersNumber (Err OldLayout) number = ⊥
AnswersNumber (Err Memory) number = Unit {0}

-- the answer is these rows, or BadRow where a text is no row, or another fault
abbrev pub AnswersRows : Result (List Row) StoreFault → Option (List Row) → Type 0
AnswersRows (Ok rs) rows = rows ≡ Some rs
AnswersRows (Err (Refused cause)) rows = Unit {0}
AnswersRows (Err BadRow) rows = rows ≡ None
AnswersRows (Err OldLayout) rows = ⊥
AnswersRows (Err Memory) rows = Unit {0}
