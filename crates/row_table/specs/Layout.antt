-- The two tables.
use Rattle.std.specs.Prelude.{◌≡◌, ℕ, true, false, None, List, [], ◌∷◌, codes}
use Rattle.sqlite.specs.Collation.TheVariants.{Binary}
use Rattle.sqlite.specs.declared.types.Value.TheVariants.{Null}
use Rattle.sqlite.specs.Table.{Table}
use Rattle.sqlite.specs.Schema.{Schema}
use Rattle.sqlite_schema.specs.declared.schema.Kind.{Kind}
use Rattle.sqlite.specs.Kind.TheVariants.{Integer, Text}
use Rattle.sqlite_schema.specs.declared.schema.Index.{Index}
use Rattle.sqlite_schema.specs.declared.schema.Column.{Column}
use Rattle.sqlite_value.specs.Keys.{plain}

abbrev pub layout_text : List ℕ
layout_text = codes "CREATE TABLE layout(version INTEGER NOT NULL) STRICT"

abbrev pub row_text : List ℕ
row_text = codes "CREATE TABLE row_text(kind TEXT NOT NULL, name TEXT NOT NULL, body TEXT NOT NULL, PRIMARY KEY(kind, name)) STRICT"

abbrev pub strict_column : List ℕ → Kind → Column
strict_column name kind = record { name = name; kind = kind; is_strict = true; not_null = true; default = Null; collation = Binary }

abbrev pub layout_table : Table
layout_table = record {
  name = codes "layout";
  tree = 0;
  columns = strict_column (codes "version") Integer ∷ [];
  key = None;
  primary = [];
  uniques = [];
  orders = [];
  checks = [];
  references = [];
  computed = [];
  stamps = record { places = []; terms = []; formats = [] };
  is_counted = false;
}

abbrev pub text_column : List ℕ → Column
text_column name = strict_column name Text

abbrev pub row_table : Table
row_table = record {
  name = codes "row_text";
  tree = 1;
  columns = text_column (codes "kind") ∷ text_column (codes "name") ∷ text_column (codes "body") ∷ [];
  key = None;
  primary = 1 ∷ 2 ∷ [];
  uniques = (1 ∷ 2 ∷ []) ∷ [];
  orders = plain ∷ [];
  checks = [];
  references = [];
  computed = [];
  stamps = record { places = []; terms = []; formats = [] };
  is_counted = false;
}

-- the index that SQLite makes for the key
abbrev pub row_index : Index
row_index = record { name = codes "sqlite_autoindex_row_text_1"; tree = 2; table = 1; columns = 1 ∷ 2 ∷ []; order = plain; is_unique = true }

abbrev pub no_schema : Schema
no_schema = record { tables = []; indexes = []; views = [] }

abbrev pub layout_alone : Schema
layout_alone = record { tables = layout_table ∷ []; indexes = []; views = [] }

abbrev pub both_tables : Schema
both_tables = record { tables = layout_table ∷ row_table ∷ []; indexes = row_index ∷ []; views = [] }

-- no rule beside the columns and the keys
pub record IsPlainTable (t : Table) : Type 0 where
  pub key : t.key ≡ None
  pub checks : t.checks ≡ []
  pub references : t.references ≡ []
  pub computed : t.computed ≡ []
  pub stamps : t.stamps ≡ record { places = []; terms = []; formats = [] }
  pub is_counted : t.is_counted ≡ false
