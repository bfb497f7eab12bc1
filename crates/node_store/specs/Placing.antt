-- Changes of a table of rows, which are seen as their texts.
use Rattle.std.specs.Prelude.{ℕ, List, [], ◌∷◌, map, Option, Some, None, IsSome, IsTrue}
use Rattle.std.specs.FinMap.{FinMap, contains_key, entries, get, insert, remove}
use Rattle.tables.specs.Keys.{text_pair_cmp}
use Rattle.tables.specs.Tables.{shown_of, rooms_of}
use Rattle.ocpi_types.specs.Rows.{key_of}
use Rattle.ocpi_types.specs.declared.rows.Change.{Change}
use Rattle.ocpi_types.specs.declared.rows.Change.TheVariants as change
use Rattle.ocpi_json.specs.RowForms.{row_text}
use Rattle.node_store.specs.Contents.{Content, RowPlace, place_of}
use Rattle.node_store.specs.declared.stored.Placed.{Placed}

-- the slots of a table, or of a lookup
abbrev pub Slots : Type 0
Slots = List (RowPlace × Option (List ℕ))

abbrev pub kept : Slots → Content
kept slots = shown_of text_pair_cmp slots

abbrev pub room : Slots → FinMap text_pair_cmp (Unit {0})
room slots = rooms_of text_pair_cmp slots

abbrev pub placed_of : Change → Placed
placed_of (change.Put r) = record { place = place_of (key_of r); row = Some (row_text r) }
placed_of (change.Drop k) = record { place = place_of k; row = None }

abbrev pub set_text : Content → RowPlace → Option (List ℕ) → Content
set_text c p (Some t) = insert c p t
set_text c p None = remove c p

abbrev pub placed_all : Content → List Placed → Content
placed_all c [] = c
placed_all c (x ∷ xs) = placed_all (set_text c x.place x.row) xs

-- the table has room for the row that is to stand there, where one is
abbrev pub HasRoom : Slots → Placed → Type 0
HasRoom slots x = IsSome x.row → IsTrue (contains_key (room slots) x.place)

-- the places of a content, in order
abbrev pub places_of : Content → List RowPlace
places_of c = map (λ e. e.0) (entries c)

-- the entry at a place, where there is one, before others
abbrev pub entry_before : RowPlace → Option (List ℕ) → List (RowPlace × List ℕ) → List (RowPlace × List ℕ)
entry_before p None es = es
entry_before p (Some t) es = (p, t) ∷ es

-- the entries at places, in turn
abbrev pub entries_at : Content → List RowPlace → List (RowPlace × List ℕ)
entries_at c [] = []
entries_at c (p ∷ ps) = entry_before p (get c p) (entries_at c ps)
