-- The rows of an operator, with those of its tokens, sessions and charge detail records.
use Rattle.std.proofs.Common.{◌≡◌, List, ◌++◌, ◌⊎◌, inl, inr, refl, sym, arith}
use Rattle.ocpi_types.specs.Rows.{key_of}
use Rattle.ocpi_types.specs.declared.rows.Row.{Row}
use Rattle.ocpi_types.specs.declared.rows.Row.TheVariants as row
use Rattle.ocpi_types.specs.declared.rows.Counter.TheVariants as counter
use Rattle.command_book.specs.Listing as command_lists
use Rattle.outbox.specs.OutboxListing as outbox_lists
use Rattle.reservation_book.specs.Rows as booked
use Rattle.session_book.specs.Stored as charged
use Rattle.token_desk.specs.Stored as desk
use Rattle.operator_rows.specs.State.{Rows, as_outbox}
use Rattle.operator_rows.specs.Rows.{HasRow, AreRowsOf}
use Rattle.tables.specs.Lookups.{IsListing}
use Rattle.operator_rows.specs.Listing.{SpentEntry, other_rows}
use Rattle.operator_rows.proofs.Listings.{AreExactly, OfAny, and_part, part, six_parts, stands}

-- without references that were given, a desk has its tokens alone
pub all_of_desk : (r : desk.Rows) → r.references ≡ 0 → r ≡ record { tokens = r.tokens; references = 0 }
all_of_desk r none i = record { tokens = r.tokens; references = none i }

module _ (s : Rows) where
  abbrev own_desk : desk.Rows
  own_desk = record { tokens = s.tokens; references = 0 }

  token_part : (r : Row) → desk.HasRow own_desk r → part (key_of r) ≡ 6
  token_part (row.Token x) h = refl
  token_part (row.Count counter.Reference n) h = refl
  token_part (row.Count counter.Serial n) h = absurd h
  token_part (row.Count counter.Request n) h = absurd h
  token_part (row.Count counter.Session n) h = absurd h
  token_part (row.Count counter.Cdr n) h = absurd h
  token_part (row.Reply p q x) h = absurd h
  token_part (row.Pending p q x) h = absurd h
  token_part (row.Result p q x) h = absurd h
  token_part (row.Mark p id q) h = absurd h
  token_part (row.Reservation p id x) h = absurd h
  token_part (row.Push q to x) h = absurd h
  token_part (row.Command q x) h = absurd h
  token_part (row.Service evse) h = absurd h
  token_part (row.Spent p reference) h = absurd h
  token_part (row.Session x) h = absurd h
  token_part (row.Cdr x) h = absurd h

  charged_part : (r : Row) → charged.HasRow s.charged r → part (key_of r) ≡ 7
  charged_part (row.Session x) h = refl
  charged_part (row.Cdr x) h = refl
  charged_part (row.Count counter.Session n) h = refl
  charged_part (row.Count counter.Cdr n) h = refl
  charged_part (row.Count counter.Serial n) h = absurd h
  charged_part (row.Count counter.Request n) h = absurd h
  charged_part (row.Count counter.Reference n) h = absurd h
  charged_part (row.Token x) h = absurd h
  charged_part (row.Reply p q x) h = absurd h
  charged_part (row.Pending p q x) h = absurd h
  charged_part (row.Result p q x) h = absurd h
  charged_part (row.Mark p id q) h = absurd h
  charged_part (row.Reservation p id x) h = absurd h
  charged_part (row.Push q to x) h = absurd h
  charged_part (row.Command q x) h = absurd h
  charged_part (row.Service evse) h = absurd h
  charged_part (row.Spent p reference) h = absurd h

  of_tokens : (list : List Row) → desk.AreRowsOf own_desk list → AreExactly 7 (desk.HasRow own_desk) list
  of_tokens list h = record { exact = h.exact; apart = h.once; parts = λ r has. let is = token_part r has in omega arith }

  of_charged : (list : List Row) → charged.AreRowsOf s.charged list → AreExactly 8 (charged.HasRow s.charged) list
  of_charged list h = record { exact = h.exact; apart = h.once; parts = λ r has. let is = charged_part r has in omega arith }

  -- the rows of these parts stand
  token_stands : (r : Row) → desk.HasRow own_desk r → HasRow s r
  token_stands (row.Token x) h = h
  token_stands (row.Count counter.Reference n) h = h.1 (sym h.0)
  token_stands (row.Count counter.Serial n) h = absurd h
  token_stands (row.Count counter.Request n) h = absurd h
  token_stands (row.Count counter.Session n) h = absurd h
  token_stands (row.Count counter.Cdr n) h = absurd h
  token_stands (row.Reply p q x) h = absurd h
  token_stands (row.Pending p q x) h = absurd h
  token_stands (row.Result p q x) h = absurd h
  token_stands (row.Mark p id q) h = absurd h
  token_stands (row.Reservation p id x) h = absurd h
  token_stands (row.Push q to x) h = absurd h
  token_stands (row.Command q x) h = absurd h
  token_stands (row.Service evse) h = absurd h
  token_stands (row.Spent p reference) h = absurd h
  token_stands (row.Session x) h = absurd h
  token_stands (row.Cdr x) h = absurd h

  charged_stands : (r : Row) → charged.HasRow s.charged r → HasRow s r
  charged_stands (row.Session x) h = h
  charged_stands (row.Cdr x) h = h
  charged_stands (row.Count counter.Session n) h = h
  charged_stands (row.Count counter.Cdr n) h = h
  charged_stands (row.Count counter.Serial n) h = absurd h
  charged_stands (row.Count counter.Request n) h = absurd h
  charged_stands (row.Count counter.Reference n) h = absurd h
  charged_stands (row.Token x) h = absurd h
  charged_stands (row.Reply p q x) h = absurd h
  charged_stands (row.Pending p q x) h = absurd h
  charged_stands (row.Result p q x) h = absurd h
  charged_stands (row.Mark p id q) h = absurd h
  charged_stands (row.Reservation p id x) h = absurd h
  charged_stands (row.Push q to x) h = absurd h
  charged_stands (row.Command q x) h = absurd h
  charged_stands (row.Service evse) h = absurd h
  charged_stands (row.Spent p reference) h = absurd h

  abbrev WithTokens : Row → Type 0
  WithTokens r = OfAny s r ⊎ desk.HasRow own_desk r

  abbrev OfAll : Row → Type 0
  OfAll r = WithTokens r ⊎ charged.HasRow s.charged r

  all_stand : (r : Row) → OfAll r → HasRow s r
  all_stand r (inr h) = charged_stands r h
  all_stand r (inl (inr h)) = token_stands r h
  all_stand r (inl (inl h)) = stands s r h

  -- and each row that stands is of a part
  of_part : (r : Row) → HasRow s r → OfAll r
  of_part (row.Count counter.Serial n) h = inl (inl (inl (inl (inl (inr (n, refl, h.0, h.1))))))
  of_part (row.Count counter.Request n) h = inl (inl (inr h))
  of_part (row.Count counter.Session n) h = inr h
  of_part (row.Count counter.Cdr n) h = inr h
  of_part (row.Count counter.Reference n) h = absurd h
  of_part (row.Reply p n x) h = inl (inl (inl (inl (inl (inl (inl h))))))
  of_part (row.Token x) h = inl (inr h)
  of_part (row.Push n to x) h = inl (inl (inr h))
  of_part (row.Service evse) h = inl (inl (inl (inr h)))
  of_part (row.Spent p reference) h = inl (inl (inl (inl (inr h))))
  of_part (row.Mark p id n) h = inl (inl (inl (inl (inl (inl (inr h))))))
  of_part (row.Reservation p id x) h = inl (inl (inl (inl (inl (inl (inr h))))))
  of_part (row.Pending p n x) h = inl (inl (inl (inl (inl (inl (inl h))))))
  of_part (row.Result p n x) h = inl (inl (inl (inl (inl (inl (inl h))))))
  of_part (row.Session x) h = inr h
  of_part (row.Cdr x) h = inr h
  of_part (row.Command n x) h = absurd h

  module _ (xs ys zs ts cs : List Row) (spent_there : List SpentEntry) where
    abbrev six : List Row
    six = ((xs ++ ys) ++ other_rows s spent_there) ++ zs

    -- the rows of all parts, one after the other
    pub all_rows : command_lists.AreRowsOf xs s.commands → booked.AreRowsOf ys s.booked → outbox_lists.AreRowsOf zs (as_outbox s) → desk.AreRowsOf own_desk ts → charged.AreRowsOf s.charged cs →
        IsListing s.spent spent_there → AreRowsOf ((six ++ ts) ++ cs) s
    all_rows a b c d e f = record { exact = λ r. (λ h. all_stand r ((all.exact r).0 h), λ h. (all.exact r).1 (of_part r h)); apart = all.apart }
      where
        seven : AreExactly 7 WithTokens (six ++ ts)
        seven = and_part 6 (OfAny s) (desk.HasRow own_desk) six ts (six_parts s xs ys zs spent_there a b c f) (of_tokens ts d) token_part

        all : AreExactly 8 OfAll ((six ++ ts) ++ cs)
        all = and_part 7 WithTokens (charged.HasRow s.charged) (six ++ ts) cs seven (of_charged cs e) charged_part
