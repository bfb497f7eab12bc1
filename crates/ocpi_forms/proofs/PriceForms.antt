-- The prices of a site are read just where the tree has their form.
use Rattle.std.proofs.Common.{◌≡◌, ℕ, suc, ℤ, ◌-◌, ◌<◌, arith, Bool, true, false, cond, Option, Some, None, List, [], ◌∷◌, ◌++◌, length, All, AllPairs, ltb-true, lt-ltb, Ok, Err, refl, sym, subst, ap, ◌∙◌}
use Rattle.std.specs.Prelude.{unwrap_or, slice_get}
use Rattle.std.specs.List.{last_or}
use Rattle.std.proofs.lemmas.Bool.{and_parts}
use Rattle.std.proofs.lemmas.List.Elements.{All-nil, All-cons}
use Rattle.std.proofs.lemmas.List.Kept.{AllPairs-cons}
use Rattle.serde_json.specs.Data.{Data, Items}
use Rattle.ocpi_types.specs.Limits.{IsPrice}
use Rattle.ocpi_types.specs.PriceLists.{ArePrices, IsEarlier}
use Rattle.ocpi_types.specs.declared.field.Field.{Field}
use Rattle.ocpi_types.specs.declared.field.Field.TheVariants as field
use Rattle.ocpi_types.specs.declared.price_lists.PriceFrom.{PriceFrom}
use Rattle.json_text.specs.declared.fault.JsonFault.TheVariants.{WrongForm}
use Rattle.json_text.specs.Fields.{moment_in, e4_in, optional, each_after}
use Rattle.json_text.specs.Form.{Required, Optional, IsMoment, IsE4, IsRecord, IsList}
use Rattle.json_text.specs.Lists.{counted_in}
use Rattle.ocpi_forms.specs.SitePrices.{price_in, is_later, start_in, price_from_at, price_element, listed_prices_in, prices_in}
use Rattle.ocpi_forms.specs.SiteForm.{IsPriceFrom, HasPrices}
use Rattle.json_text.proofs.Exact.{Exact, done, ok_is, bind_ok, both_steps, passed, at_most, moment_exact, e4_exact, optional_exact}
use Rattle.json_text.proofs.Elements.{record_beside, AllNew, IsListing, listing_exact}

-- ---- a price

pub record HasPrice (d : Data) (z : ℤ) : Type 0 where
  pub form : Required IsE4 field.Price d z
  pub bound : IsPrice z

price_cond : (z y : ℤ) (b : Bool) → cond b (done z) (Err (WrongForm field.Price)) ≡ Ok y → (b ≡ true) × (z ≡ y)
price_cond z y true e = (refl, ok_is z y e)
price_cond z y false e = absurd cc

pub price_exact : Exact price_in HasPrice
unfolding price_in
price_exact = record {
  sound = λ d z e.
      let a = bind_ok (e4_in field.Price d) _ z e in
      let c = price_cond a.0 z _ a.2 in
      let both = and_parts _ _ c.0 in
      subst (HasPrice d) c.1 (record {
        form = (e4_exact field.Price).sound d a.0 a.1;
        bound = record { low = at_most _ _ both.0; high = at_most _ _ both.1 };
      });
  complete = λ d z p. rw (
    (e4_exact field.Price).complete d z p.form,
    passed _ p.bound.low.le,
    passed _ p.bound.high.le,
  ) refl;
}

-- ---- an entry

-- what a slice's `last` gives
last_behind : {X : Type 0} (x : X) (xs : List X) → slice_get (x ∷ xs) (length xs) ≡ last_or (Some x) xs
last_behind x [] = refl
last_behind x (y ∷ ys) = last_behind y ys

pub last_is : {X : Type 0} (xs : List X) → slice_get xs (length xs - 1) ≡ last_or None xs
last_is [] = refl
last_is (x ∷ xs) = let place : suc (length xs) - 1 ≡ length xs = omega arith in ap (slice_get (x ∷ xs)) place ∙ last_behind x xs

-- so an entry is compared with the one before
pub later_than : (before : List PriceFrom) (o : Option PriceFrom) (at : ℕ) → o ≡ slice_get before (length before - 1) → is_later o at ≡ is_later (last_or None before) at
later_than before o at e = ap (λ p. is_later p at) (e ∙ last_is before)

start_cond : (z y : ℕ) (b : Bool) → cond b (done z) (Err (WrongForm field.StartDateTime)) ≡ Ok y → (b ≡ true) × (z ≡ y)
start_cond z y true e = (refl, ok_is z y e)
start_cond z y false e = absurd cc

-- it begins later than the one before
abbrev NewPrice : List PriceFrom → PriceFrom → Type 0
NewPrice before p = is_later (last_or None before) p.start_date_time ≡ true

record IsStart (before : List PriceFrom) (d : Data) (at : ℕ) : Type 0 where
  form : Required IsMoment field.StartDateTime d at
  later : is_later (last_or None before) at ≡ true

start_exact : (before : List PriceFrom) → Exact (start_in before) (IsStart before)
unfolding start_in
start_exact before = record {
  sound = λ d at e.
      let a = bind_ok (moment_in field.StartDateTime d) _ at e in
      let c = start_cond a.0 at _ a.2 in
      subst (IsStart before d) c.1 (record { form = (moment_exact field.StartDateTime).sound d a.0 a.1; later = c.0 });
  complete = λ d at p. rw ((moment_exact field.StartDateTime).complete d at p.form, p.later) refl;
}

entry_exact : (before : List PriceFrom) → Exact (price_from_at before) (λ d p. IsPriceFrom d p × NewPrice before p)
unfolding price_from_at
entry_exact before = record {
  sound = λ d x e.
      let a = bind_ok (start_in before d) _ x e in
      let b = bind_ok (price_in d) _ x a.2 in
      let start = (start_exact before).sound d a.0 a.1 in
      let price = price_exact.sound d b.0 b.1 in
      subst (λ p. IsPriceFrom d p × NewPrice before p) (ok_is _ x b.2) (record { start_date_time = start.form; price = price.form; bound = price.bound }, start.later);
  complete = λ d x p. rw (
    (start_exact before).complete d x.start_date_time (record { form = p.0.start_date_time; later = p.1 }),
    price_exact.complete d x.price (record { form = p.0.price; bound = p.0.bound }),
  ) refl;
}

-- ---- entries in the order of their moments

last_more : (o : Option PriceFrom) (ps : List PriceFrom) (p : PriceFrom) → last_or o (ps ++ p ∷ []) ≡ Some p
last_more o [] p = refl
last_more o (q ∷ qs) p = last_more (Some q) qs p

-- each begins later than the one before, and the first than another
abbrev Rising : Option PriceFrom → List PriceFrom → Type 0
Rising o [] = Unit {0}
Rising o (p ∷ ps) = (is_later o p.start_date_time ≡ true) × Rising (Some p) ps

rising_from_new : (before ps : List PriceFrom) → AllNew NewPrice before ps → Rising (last_or None before) ps
rising_from_new before [] h = tt
rising_from_new before (p ∷ ps) h = (h.0, subst (λ o. Rising o ps) (last_more None before p) (rising_from_new (before ++ p ∷ []) ps h.1))

new_from_rising : (before ps : List PriceFrom) → Rising (last_or None before) ps → AllNew NewPrice before ps
new_from_rising before [] h = tt
new_from_rising before (p ∷ ps) h = (h.0, new_from_rising (before ++ p ∷ []) ps (subst (λ o. Rising o ps) (sym (last_more None before p)) h.1))

-- so each begins later than all before it
all_later : (p : PriceFrom) (ps : List PriceFrom) → Rising (Some p) ps → All (IsEarlier p) ps
all_later p [] h = All-nil (IsEarlier p)
all_later p (q ∷ qs) h =
    let less : p.start_date_time < q.start_date_time = ltb-true _ _ h.0 in
    let behind : All (IsEarlier q) qs = all_later q qs h.1 in
    All-cons (IsEarlier p) q qs less (λ k d within. let more = behind k d within in omega arith)

all_pairs : (o : Option PriceFrom) (ps : List PriceFrom) → Rising o ps → AllPairs IsEarlier ps
all_pairs o [] h = λ i j d less within. absurd (omega arith)
all_pairs o (p ∷ ps) h = AllPairs-cons IsEarlier p ps (all_later p ps h.1) (all_pairs (Some p) ps h.1)

-- and where each does, they are so entry by entry
behind_first : (p : PriceFrom) (ps : List PriceFrom) → AllPairs IsEarlier (p ∷ ps) → Rising (Some p) ps
behind_first p [] all = tt
behind_first p (q ∷ qs) all = (lt-ltb _ _ (all 0 1 q (omega arith) (omega arith)), behind_first q qs (λ i j d less within. all (suc i) (suc j) d (omega arith) (omega arith)))

rising_from_pairs : (ps : List PriceFrom) → AllPairs IsEarlier ps → Rising None ps
rising_from_pairs [] all = tt
rising_from_pairs (p ∷ ps) all = (refl, behind_first p ps all)

-- ---- the list

prices_listing : (f : Field) → Exact (listed_prices_in f) (IsListing (IsRecord IsPriceFrom) NewPrice 0 1000 f)
unfolding listed_prices_in
prices_listing f = listing_exact (record_beside field.Prices entry_exact) 0 1000 f

listed_are : (f : Field) (d : Data) (ps : List PriceFrom) → IsListing (IsRecord IsPriceFrom) NewPrice 0 1000 f d ps → ArePrices ps
listed_are f d ps l = record { few = l.high; rising = all_pairs None ps (rising_from_new [] ps l.apart) }

pub prices_are : (f : Field) (d : Data) (items : Items) (ps : List PriceFrom) → counted_in 0 1000 f d ≡ Ok items → each_after price_element [] items ≡ Ok ps → ArePrices ps
unfolding listed_prices_in
prices_are f d items ps c e = listed_are f d ps ((prices_listing f).sound d ps (both_steps (counted_in 0 1000 f d) (each_after price_element []) items ps c e))

-- a list of them
record IsPriceList (v : Data) (ps : List PriceFrom) : Type 0 where
  list : IsList (IsRecord IsPriceFrom) v ps
  are : ArePrices ps

listed_exact : (f : Field) → Exact (listed_prices_in f) (Required IsPriceList f)
listed_exact f = record {
  sound = λ d ps e.
      let l = (prices_listing f).sound d ps e in
      let v = l.elements in
      (v.0, v.1, record { list = v.2; are = listed_are f d ps l });
  complete = λ d ps p. (prices_listing f).complete d ps (record {
    elements = (p.0, p.1, p.2.list);
    low = omega arith;
    high = p.2.are.few;
    apart = new_from_rising [] ps (rising_from_pairs ps p.2.are.rising);
  });
}

no_prices : ArePrices []
no_prices = record { few = omega arith; rising = λ i j d less within. absurd (omega arith) }

has_prices : (d : Data) (o : Option (List PriceFrom)) → Optional IsPriceList field.Prices d o → HasPrices d (unwrap_or o [])
has_prices d None p = record { listed = None; form = p; all = refl; are = no_prices }
has_prices d (Some ps) p = record { listed = Some ps; form = (p.0, p.1, p.2.list); all = refl; are = p.2.are }

as_listed : (d : Data) (o : Option (List PriceFrom)) → ArePrices (unwrap_or o []) → Optional (IsList (IsRecord IsPriceFrom)) field.Prices d o → Optional IsPriceList field.Prices d o
as_listed d None are p = p
as_listed d (Some ps) are p = (p.0, p.1, record { list = p.2; are = are })

pub prices_exact : Exact prices_in HasPrices
unfolding prices_in
prices_exact =
    let optional_list : Exact (optional listed_prices_in field.Prices) (Optional IsPriceList field.Prices) = optional_exact listed_prices_in field.Prices IsPriceList (listed_exact field.Prices) in
    record {
      sound = λ d ps e.
          let a = bind_ok (optional listed_prices_in field.Prices d) _ ps e in
          subst (HasPrices d) (ok_is _ ps a.2) (has_prices d a.0 (optional_list.sound d a.0 a.1));
      complete = λ d ps p. rw (optional_list.complete d p.listed (as_listed d p.listed (subst ArePrices p.all p.are) p.form)) (ap (λ zs. done zs) (sym p.all));
    }
