-- What the program `settle --by-provider` writes for the rows of a store.
use Rattle.std.specs.Prelude.{◌≡◌, ℕ, ℤ, pos, Bool, List, Some, None, cond, filter, flat_map, unwrap_or}
use Rattle.std.specs.Ordering.{eq_by_cmp}
use Rattle.std.specs.FinMap.{FinMap, entries, get}
use Rattle.std.specs.declared.cmp.Ordering.{Ordering}
use Rattle.handover.specs.Owed.{Account, account_of, is_among, owed}
use Rattle.node_programs.specs.Play.{debt_line}
use Rattle.node_programs.specs.Settle.{cdrs_of}
use Rattle.ocpi_text.specs.Text.{key}
use Rattle.ocpi_types.specs.declared.cdrs.Cdr.{Cdr}
use Rattle.ocpi_types.specs.declared.rows.Row.{Row}
use Rattle.tables.specs.Keys.{pair_cmp, text_cmp, text_pair_cmp}

-- a provider, in key form, with an operator, in key form, and a currency
abbrev pub Debt : Type 0
Debt = List ℕ × Account

-- by provider, then by operator, and then by currency
abbrev pub debt_cmp : Debt → Debt → Ordering
debt_cmp = pair_cmp text_cmp text_pair_cmp

-- the provider of a record's token, and the record's operator and currency
abbrev pub debt_of : Cdr → Debt
debt_of cdr = (key cdr.cdr_token.party, account_of cdr)

-- the records of a provider's tokens
abbrev pub is_of : List ℕ → Cdr → Bool
is_of provider cdr = eq_by_cmp text_cmp provider (key cdr.cdr_token.party)

abbrev pub records_of : List ℕ → List Cdr → List Cdr
records_of provider cdrs = filter (is_of provider) cdrs

-- the sum of a debt that is there, and else nothing
abbrev pub debt_at : FinMap debt_cmp ℤ → Debt → ℤ
debt_at debts d = unwrap_or (get debts d) (pos 0)

-- what each provider owes is what is owed by its records alone: the sum of each operator and currency that one of them
-- is of, and no other
abbrev pub AreOwedBy : List Cdr → FinMap debt_cmp ℤ → Type 0
AreOwedBy cdrs debts = (d : Debt) → get debts d ≡ cond (is_among d.1 (records_of d.0 cdrs)) (Some (owed d.1 (records_of d.0 cdrs))) None

-- what a provider owes an operator in a currency, as `play` writes it
abbrev pub owing_line : Debt × ℤ → List ℕ
owing_line e = debt_line e.0.0 e.0.1.0 e.0.1.1 e.1

-- a line for each provider, operator and currency, by provider, then by operator, and then by currency
abbrev pub owing_lines : FinMap debt_cmp ℤ → List ℕ
owing_lines debts = flat_map owing_line (entries debts)

-- the lines of what each provider owes by its charge detail records among the rows, and no other
pub record SettlesByProvider (rows : List Row) (out : List ℕ) : Type 0 where
  pub debts : FinMap debt_cmp ℤ
  pub are_owed : AreOwedBy (cdrs_of rows) debts
  pub lines : out ≡ owing_lines debts
