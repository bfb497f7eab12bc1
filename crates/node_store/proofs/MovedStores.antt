-- What an opening leaves of a store that it moves.
use Rattle.std.proofs.Common.{◌≡◌, ◌≢◌, ◌⊎◌, inl, inr, ℕ, sym, ap, subst, ◌∙◌}
use Rattle.sqlite.specs.Tree.{Trees}
use Rattle.sqlite.specs.Effect.{Database}
use Rattle.sqlite.specs.State.{State}
use Rattle.row_table.specs.Layout.{no_schema}
use Rattle.row_table.specs.Texts.{texts_of}
use Rattle.row_table.specs.Contents.{IsWhole, content_of}
use Rattle.row_table.specs.Contents as table
use Rattle.row_table.specs.Opening.{Finds, IsSpared, IsUntouched, ShowsTheSame}
use Rattle.node_store.specs.Contents.{Content}
use Rattle.node_store.specs.Moved.{HasBadText, HasLayoutOne, IsMovedTo, OpensAs, SparesStore, WasBad}
use Rattle.node_store.proofs.Opening.{differ}

-- of a new store, or of one that was of layout 2
pub opens_now : (found : ℕ) (db : Database) (c : table.Content) → found ≡ 2 → Finds 2 found db c → OpensAs db c
opens_now found db c two finds = inl (subst (λ (n : ℕ). Finds 2 n db c) two finds)

older : (found : ℕ) → (found ≡ 2) ⊎ (found ≡ 1) → found ≢ 2 → found ≡ 1
older found (inl two) other = absurd (other two)
older found (inr one) other = one

-- a store that is moved held these texts, of layout 1
pub found_one : (found : ℕ) (db : Database) (c : table.Content) → (found ≡ 2) ⊎ (found ≡ 1) → found ≢ 2 → Finds 2 found db c → HasLayoutOne db × (c.texts ≡ texts_of db.trees)
found_one found db c either other (inl h) =
    let one = subst (λ (n : ℕ). Finds 2 n db c) (older found either other) (inl h) in
    of_one one
  where
    of_one : Finds 2 1 db c → HasLayoutOne db × (c.texts ≡ texts_of db.trees)
    of_one (inl k) = ((k.0, k.1), ap (λ (d : table.Content). d.texts) k.2)
    of_one (inr k) = absurd (let e = k.1 in cc)
found_one found db c either other (inr h) = absurd (other h.1)

pub some_schema : (db : Database) → HasLayoutOne db → db.schema ≢ no_schema
some_schema db one none = differ (sym one.0 ∙ none)

pub opens_moved : (db : Database) (texts : Content) (c : table.Content) → HasLayoutOne db → texts ≡ texts_of db.trees → IsMovedTo texts c → OpensAs db c
opens_moved db texts c one same moved = inr (one, subst (λ (t : Content). IsMovedTo t c) same moved)

pub was_bad : (db : Database) (texts : Content) → HasLayoutOne db → texts ≡ texts_of db.trees → HasBadText texts → WasBad db
was_bad db texts one same bad = (one, subst HasBadText same bad)

pub spared : (old new : State) → IsSpared 2 old new → SparesStore old new
spared old new h = record {
  shown = h.shown;
  stops = λ trees may. elim (h.stops trees may) [ inl before ↦ inl before | inr made ↦ inr (inl made) ];
}

still_shown : (old mid new : State) → ShowsTheSame old mid → ShowsTheSame mid new → ShowsTheSame old new
still_shown old mid new first second = record {
  was_open = λ still. first.was_open (second.was_open still);
  same = λ still.
      let a = second.same still in
      let b = first.same (second.was_open still) in
      (a.0 ∙ b.0, a.1 ∙ b.1);
}

-- the move was refused
pub not_moved : (old mid new : State) (texts : Content) → HasLayoutOne old.now → texts ≡ texts_of old.now.trees → IsUntouched old mid → ShowsTheSame mid new
    → ((trees : Trees) → new.may_leave trees → mid.may_leave trees ⊎ (IsWhole trees × IsMovedTo texts (content_of trees))) → SparesStore old new
not_moved old mid new texts one same untouched shown stops = record {
  shown = still_shown old mid new untouched.shown shown;
  stops = λ trees may. elim (stops trees may) [
    | inl before ↦ inl (untouched.stops trees before)
    | inr made ↦ inr (inr (one, made.0, subst (λ (t : Content). IsMovedTo t (content_of trees)) same made.1))
  ];
}
