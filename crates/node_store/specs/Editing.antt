-- Changes of rows as edits of texts.
use Rattle.std.specs.Prelude.{◌≡◌, Bool, false, cond, ◌||◌, List, [], ◌∷◌, Option, Some, None}
use Rattle.std.specs.Str.{bytes_eq}
use Rattle.ocpi_types.specs.Rows.{counter_name, key_of}
use Rattle.ocpi_types.specs.declared.rows.Change.{Change}
use Rattle.ocpi_types.specs.declared.rows.Change.TheVariants as change
use Rattle.ocpi_types.specs.declared.rows.Counter.{Counter}
use Rattle.ocpi_types.specs.declared.rows.Row.{Row}
use Rattle.ocpi_types.specs.declared.rows.Row.TheVariants as row
use Rattle.ocpi_json.specs.RowForms.{row_text}
use Rattle.row_table.specs.Effects.{Edit}
use Rattle.node_store.specs.Contents.{Content, changed_all, place_of}

abbrev pub edit_of : Change → Edit
edit_of (change.Put r) = (place_of (key_of r), Some (row_text r))
edit_of (change.Drop k) = (place_of k, None)

-- ---- counters that are put several times

abbrev pub counter_of : Row → Option Counter
counter_of (row.Count counter last) = Some counter
counter_of (row.Reply sender number reply) = None
counter_of (row.Token t) = None
counter_of (row.Push number to push) = None
counter_of (row.Service evse_uid) = None
counter_of (row.Spent provider reference) = None
counter_of (row.Mark provider reservation_id number) = None
counter_of (row.Reservation provider reservation_id r) = None
counter_of (row.Pending provider number open_command) = None
counter_of (row.Result provider number result) = None
counter_of (row.Session s) = None
counter_of (row.Cdr c) = None
counter_of (row.Command number command) = None

-- the counter that a change puts
abbrev pub counter_put : Change → Option Counter
counter_put (change.Put r) = counter_of r
counter_put (change.Drop k) = None

abbrev pub is_of : Counter → Option Counter → Bool
is_of counter None = false
is_of counter (Some other) = bytes_eq (counter_name counter) (counter_name other)

-- whether a change puts the counter
abbrev pub is_put : Counter → Change → Bool
is_put counter x = is_of counter (counter_put x)

-- whether one of the changes puts it
abbrev pub puts : Counter → List Change → Bool
puts counter [] = false
puts counter (x ∷ xs) = is_put counter x || puts counter xs

abbrev pub is_among : Option Counter → List Change → Bool
is_among None xs = false
is_among (Some counter) xs = puts counter xs

-- whether a change puts a counter that one of the later ones puts again
abbrev pub is_put_later : Change → List Change → Bool
is_put_later x later = is_among (counter_put x) later

-- the changes that are written: of those of one counter the last alone
abbrev pub written : List Change → List Change
written [] = []
written (x ∷ xs) = cond (is_put_later x xs) (written xs) (x ∷ written xs)

-- no change puts a counter that a later one puts
abbrev pub PutOnce : List Change → Type 0
PutOnce [] = Unit {0}
PutOnce (x ∷ xs) = (is_put_later x xs ≡ false) × PutOnce xs

-- What is written makes of a content what all changes make of it, and has each counter once.
pub record CountersAreWrittenOnce : Type 0 where
  pub same : (c : Content) (changes : List Change) → changed_all c (written changes) ≡ changed_all c changes
  pub once : (changes : List Change) → PutOnce (written changes)
