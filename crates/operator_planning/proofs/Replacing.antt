-- Whether a push that a newer one would replace stands can be told.
use Rattle.std.proofs.Common.{◌≡◌, ◌≢◌, ◌⊎◌, inl, inr, true, false, ℕ, List, [], ◌∷◌, refl, sym, ap, subst, ◌∙◌}
use Rattle.std.specs.Prelude.{Option, Some, None, Contains}
use Rattle.std.specs.Cmp.{eq_by_cmp_equiv, nat_cmp_total}
use Rattle.std.specs.FinMap.{entries, nat_cmp-IsAntisymmetric}
use Rattle.std.specs.Ordering.{is_eq}
use Rattle.std.specs.declared.cmp.Ordering.{Ordering}
use Rattle.std.specs.declared.cmp.Ordering.TheVariants.{Less, Equal, Greater}
use Rattle.std.proofs.lemmas.List.Elements.{Contains-append_cases, Contains-append_right}
use Rattle.tables.proofs.Elements.{in_front, in_none, in_single}
use Rattle.tables.proofs.Entries.{listed, listed_only}
use Rattle.outbox.specs.Pushes.{IsReplaced, Pushes, subject_cmp, subject_exact, subject_of, subject_total}
use Rattle.outbox.specs.declared.push_book.Outgoing.{Outgoing}
use Rattle.outbox.specs.declared.push_book.Subject.{Subject}

by_order : (a b : Subject) (r : Ordering) → subject_cmp a b ≡ r → (a ≡ b) ⊎ (a ≢ b)
by_order a b Equal e = inl (subject_exact a b e)
by_order a b Less e = inr (λ same.
    let tied : is_eq (subject_cmp a b) ≡ true = subst (λ z. is_eq (subject_cmp a z) ≡ true) same ((eq_by_cmp_equiv subject_total).refl a) in
    let f : true ≡ false = sym tied ∙ ap is_eq e in cc)
by_order a b Greater e = inr (λ same.
    let tied : is_eq (subject_cmp a b) ≡ true = subst (λ z. is_eq (subject_cmp a z) ≡ true) same ((eq_by_cmp_equiv subject_total).refl a) in
    let f : true ≡ false = sym tied ∙ ap is_eq e in cc)

is_about : (o : Option Subject) (u : Subject) → (o ≡ Some u) ⊎ (o ≢ Some u)
is_about None u = inr (λ h. cc)
is_about (Some a) u = elim (by_order a u (subject_cmp a u) refl) [
  | inl e ↦ inl (ap Some e)
  | inr differ ↦ inr (λ h. let e : a ≡ u = cc in differ e)
]

abbrev AboutIn : Subject → List (ℕ × Outgoing) → Type 0
AboutIn u es = (e : ℕ × Outgoing) × Contains es e × (subject_of e.1 ≡ Some u)

search : (u : Subject) (es : List (ℕ × Outgoing)) → AboutIn u es ⊎ ((e : ℕ × Outgoing) → Contains es e → subject_of e.1 ≢ Some u)
search u [] = inr (λ e i. absurd (in_none e i))
search u (x ∷ xs) = elim (is_about (subject_of x.1) u) [
  | inl h ↦ inl (x, in_front x xs, h)
  | inr differ ↦ elim (search u xs) [
    | inl f ↦ inl (f.0, Contains-append_right (x ∷ []) xs f.0 f.1, f.2)
    | inr none ↦ inr (λ e i h. elim (Contains-append_cases (x ∷ []) xs e i) [
      | inl j ↦ differ (subst (λ z. subject_of z.1 ≡ Some u) (sym (in_single x e j)) h)
      | inr j ↦ none e j h
    ])
  ]
]

pub replaced_is : (m : Pushes) (u : Option Subject) → (r : Option ℕ) × IsReplaced m u r
replaced_is m None = (None, refl)
replaced_is m (Some u) = elim (search u (entries m)) [
  | inl f ↦ (Some f.0.0, (f.0.1, listed_only nat_cmp_total nat_cmp-IsAntisymmetric m f.0.0 f.0.1 f.1, f.2))
  | inr none ↦ (None, λ n about. none (n, about.0) (listed nat_cmp_total nat_cmp-IsAntisymmetric m n about.0 about.1) about.2)
]
