-- What the statements that make the tables do.
use Rattle.std.proofs.Common.{◌≡◌, ◌⊎◌, inl, inr, ℕ, pos, List, [], ◌∷◌, map, false, IsTrue, None, Ok, Err, Result, OnOk, refl, sym, ap, subst, ◌∙◌}
use Rattle.std.proofs.lemmas.Bool.{cases_Bool}
use Rattle.std.specs.Fmt.{digits}
use Rattle.sqlite.specs.declared.types.Value.{Value}
use Rattle.sqlite.specs.declared.types.Value.TheVariants.{Int}
use Rattle.sqlite.specs.declared.error.Error.{Error}
use Rattle.sqlite.specs.Order.{Row, column}
use Rattle.sqlite.specs.Schema.{Schema}
use Rattle.sqlite.specs.Command.TheVariants.{CreateTable}
use Rattle.sqlite.specs.Change.{created, next_tree, KeepsRows}
use Rattle.sqlite.specs.Does.{Tally, lacks_sequence}
use Rattle.sqlite.specs.Effect.{Database}
use Rattle.sqlite.specs.State.{State, Writes, Executes, ExecutesInside}
use Rattle.sqlite.proofs.Callers.{runs_as}
use Rattle.row_table.specs.Layout.{layout_text, row_text, layout_table, row_table, both_tables, no_schema, layout_alone}
use Rattle.row_table.specs.Texts.{AreTexts, texts_in, texts_of}
use Rattle.row_table.specs.Effects.{HasNumbered}
use Rattle.row_table.specs.Opening.{HasLayout, HasBoth, HasNothing, HasFirst}
use Rattle.row_table.proofs.EffectLemmas.{content}
use Rattle.row_table.proofs.Meanings.{layout_is, layout_plain, rows_are, rows_plain}

went : {B E R : Type 0} {b : B} {Stops : E → Type 0} → ((stop : E) × Stops stop × (Ok b ≡ Err stop)) ⊎ R → R
went (inl stopped) = absurd (let e = stopped.2 in cc)
went (inr on) = on

same_value : {B E : Type 0} {a b : B} → ◌≡◌ {A = Result B E} (Ok a) (Ok b) → a ≡ b
same_value e = cc

layout_made : (old new : State) (count : ℕ) → old.now.schema ≡ no_schema → Executes layout_text [] old new (Ok count) → (new.now.schema ≡ layout_alone) × (new.now.trees 0 ≡ [])
layout_made old new count has h =
    let w = subst (λ t. Writes old new None CreateTable t [] count) layout_is.1 (runs_as layout_text [] old new no_schema has CreateTable layout_is.0 layout_plain count h) in
    let all = went w.changed in
    let first = went all.1 in
    let made = first.1 in
    let both : Ok made.table ≡ Ok layout_table = sym made.defined ∙ layout_is.2 in
    let same : made.table ≡ layout_table = cc in
    let schema : first.0.schema ≡ layout_alone = made.is ∙ ap (λ s. created s made.table) has ∙ ap (created no_schema) same in
    let plain : lacks_sequence first.0.schema ≡ false = ap lacks_sequence schema in
    let now : new.now ≡ first.0 = ap (λ (p : Tally × Database). p.1) (same_value all.2) ∙ same_value (rw plain at first.2) in
    (ap (λ (d : Database). d.schema) now ∙ schema, ap (λ (d : Database). d.trees 0) now ∙ subst (λ s. first.0.trees (next_tree s) ≡ []) has made.empty)

both_are : created layout_alone (record row_table { tree = 0 }) ≡ both_tables
unfolding digits
both_are = refl

rows_made : (old new : State) (count : ℕ) → old.now.schema ≡ layout_alone → old.now.trees 0 ≡ [] → Executes row_text [] old new (Ok count) → HasNothing new
rows_made old new count has none h =
    let w = subst (λ t. Writes old new None CreateTable t [] count) rows_are.1 (runs_as row_text [] old new layout_alone has CreateTable rows_are.0 rows_plain count h) in
    let all = went w.changed in
    let first = went all.1 in
    let made = first.1 in
    let both : Ok made.table ≡ Ok (record row_table { tree = 0 }) = sym made.defined ∙ rows_are.2 in
    let same : made.table ≡ record row_table { tree = 0 } = cc in
    let schema : first.0.schema ≡ both_tables = made.is ∙ ap (λ s. created s made.table) has ∙ ap (created layout_alone) same ∙ both_are in
    let plain : lacks_sequence first.0.schema ≡ false = ap lacks_sequence schema in
    let now : new.now ≡ first.0 = ap (λ (p : Tally × Database). p.1) (same_value all.2) ∙ same_value (rw plain at first.2) in
    let kept : KeepsRows (layout_table ∷ []) old.now.trees first.0.trees = subst (λ (s : Schema). KeepsRows s.tables old.now.trees first.0.trees) has made.others in
    record {
      schema = ap (λ (d : Database). d.schema) now ∙ schema;
      no_version = ap (λ (d : Database). d.trees 0) now ∙ kept.0 ∙ none;
      no_text = ap (λ (d : Database). d.trees 1) now ∙ subst (λ s. first.0.trees (next_tree s) ≡ []) has made.empty;
    }

module _ (old new : State) (r : Result ℕ Error) (ended : old.in_transaction ≡ false → (e : Error) × (r ≡ Err e)) where
  pub makes_layout : old.now.schema ≡ no_schema → (IsTrue old.in_transaction → ExecutesInside 0 layout_text [] old new r) → OnOk r (HasLayout old new)
  makes_layout has runs = go r refl
    where
      go : (x : Result ℕ Error) → r ≡ x → OnOk x (HasLayout old new)
      go (Err e) is = tt
      go (Ok count) is = elim (cases_Bool old.in_transaction) [
        | inl within ↦
            let ran = subst (λ x. ExecutesInside 0 layout_text [] old new x) is (runs within) in
            let made = layout_made old new count has ran.0 in
            record { shown = ran.1; schema = made.0; none = made.1 }
        | inr outside ↦ absurd (let e = sym is ∙ (ended outside).1 in cc)
      ]

  pub makes_rows : old.now.schema ≡ layout_alone → old.now.trees 0 ≡ [] → (IsTrue old.in_transaction → ExecutesInside 0 row_text [] old new r) → OnOk r (HasBoth old new)
  makes_rows has none runs = go r refl
    where
      go : (x : Result ℕ Error) → r ≡ x → OnOk x (HasBoth old new)
      go (Err e) is = tt
      go (Ok count) is = elim (cases_Bool old.in_transaction) [
        | inl within ↦
            let ran = subst (λ x. ExecutesInside 0 row_text [] old new x) is (runs within) in
            (ran.1, rows_made old new count has none ran.0)
        | inr outside ↦ absurd (let e = sym is ∙ (ended outside).1 in cc)
      ]

no_texts : AreTexts []
no_texts = record { each = λ r h. absurd h; keyed = λ a b h i e. absurd h }

-- with its version the store is a new one
pub first_version : (old new : State) (version : ℕ) → HasNothing old → HasNumbered version old new → HasFirst version old new
first_version old new version none made =
    let empty_rows : new.now.trees 1 ≡ [] = made.texts ∙ none.no_text in
    let v = made.has_version in
    record {
      shown = made.shown;
      schema = made.schema;
      one = record {
        whole = record { listed = made.listed; version = version; has_version = v; are_texts = subst AreTexts (sym empty_rows) no_texts };
        holds = ap (λ (rows : List Row). content (map (λ (r : Row). column r 1) rows) (texts_of new.now.trees)) v.only
            ∙ ap (λ (x : Value). content (x ∷ []) (texts_of new.now.trees)) v.has_version ∙ ap (λ (rows : List Row). content (Int (pos version) ∷ []) (texts_in rows)) empty_rows;
      };
    }
