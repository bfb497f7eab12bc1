-- Bills and credits among charge detail records (OCPI 2.2.1, CDRs: CDR object, members credit and credit_reference_id).
use Rattle.std.specs.Prelude.{◌≡◌, ◌++◌, ℕ, List, Bool, false, Some, is_some, IsTrue, codes, neg_ℤ}
use Rattle.ocpi_types.specs.declared.cdrs.Cdr.{Cdr}

-- a credit names the record that it takes back
abbrev pub is_credit : Cdr → Bool
is_credit x = is_some x.credit_reference_id

abbrev pub IsCredit : Cdr → Type 0
IsCredit x = IsTrue (is_credit x)

-- a record that is no credit bills its session
abbrev pub IsBill : Cdr → Type 0
IsBill x = is_credit x ≡ false

-- both bill their session, or both take a bill back
abbrev pub AreAlike : Cdr → Cdr → Type 0
AreAlike x y = is_credit x ≡ is_credit y

-- the id of the credit of a bill (profile): that of the bill, followed by -C
abbrev pub credit_id : List ℕ → List ℕ
credit_id id = id ++ codes "-C"

-- the credit of a bill that is updated at that moment: it names the bill, its cost is that of the bill negated, and all
-- else is as in the bill
abbrev pub credit_at : ℕ → Cdr → Cdr
credit_at last_updated bill = record bill {
  id = credit_id bill.id;
  total_cost = record { excl_vat = neg_ℤ bill.total_cost.excl_vat };
  last_updated = last_updated;
  credit_reference_id = Some bill.id;
}

-- the record takes that bill back
abbrev pub IsCreditOf : Cdr → Cdr → Type 0
IsCreditOf bill x = x ≡ credit_at x.last_updated bill
