-- Runs of any step relation.
use Rattle.std.proofs.Common.{◌≡◌, ◌⊎◌, List, [], ◌∷◌, ◌++◌, map, inl, inr, refl, sym, ap, ◌∙◌, subst, append_assoc, append-nil}
use Rattle.std.specs.Prelude.{Contains}
use Rattle.std.proofs.lemmas.List.Elements.{Contains-append_right, Contains-append_cases}
use Rattle.tables.proofs.Elements.{in_none, in_single, in_front}
use Rattle.node_laws.specs.Runs.{Run, Seen}

module _ {S X : Type 0} (Step : S → X → S → Type 0) where
  pub run_join : (s u t : S) (xs ys : List X) → Run Step s xs u → Run Step u ys t → Run Step s (xs ++ ys) t
  run_join s u t [] ys run next = subst (λ z. Run Step z ys t) run next
  run_join s u t (x ∷ xs) ys (m, first, rest) next = (m, first, run_join m u t xs ys rest next)

  pub run_split : (s t : S) (xs ys : List X) → Run Step s (xs ++ ys) t → (u : S) × Run Step s xs u × Run Step u ys t
  run_split s t [] ys run = (s, refl, run)
  run_split s t (x ∷ xs) ys (m, first, rest) = let r = run_split m t xs ys rest in (r.0, (m, first, r.1), r.2)

  -- the step by which the event of a place happened, and the runs before and after it
  pub record IsAt (s : S) (xs : List X) (t : S) (x : X) : Type 0 where
    pub before : S
    pub after : S
    pub events_before : List X
    pub events_after : List X
    pub reached : Run Step s events_before before
    pub step : Step before x after
    pub left : Run Step after events_after t
    pub all : xs ≡ events_before ++ x ∷ events_after

  pub run_at : (s t : S) (xs : List X) → Run Step s xs t → (x : X) → Contains xs x → IsAt s xs t x
  run_at s t [] run x h = absurd (in_none x h)
  run_at s t (y ∷ xs) (u, first, rest) x h = elim (Contains-append_cases (y ∷ []) xs x h) [
    | inl here ↦
        let same : y ≡ x = in_single y x here in
        record { before = s; after = u; events_before = []; events_after = xs; reached = refl; step = subst (λ z. Step s z u) same first; left = rest; all = ap (λ z. z ∷ xs) same }
    | inr later ↦
        let r = run_at u t xs rest x later in
        record { before = r.before; after = r.after; events_before = y ∷ r.events_before; events_after = r.events_after; reached = (u, first, r.reached); step = r.step; left = r.left; all = ap (λ l. y ∷ l) r.all }
  ]

  -- what each step keeps, a run keeps
  pub kept_runs : (P : S → Type 0) → ((s t : S) (x : X) → Step s x t → P s → P t) → (s t : S) (xs : List X) → Run Step s xs t → P s → P t
  kept_runs P keeps s t [] run h = subst P (sym run) h
  kept_runs P keeps s t (x ∷ xs) (u, first, rest) h = kept_runs P keeps u t xs rest (keeps s u x first h)

  -- what holds at the end held at the start, or an event made it so
  pub made_runs : (P : S → Type 0) (Q : X → Type 0) → ((s t : S) (x : X) → Step s x t → P t → P s ⊎ Q x) → (s t : S) (xs : List X) → Run Step s xs t → P t → P s ⊎ ((x : X) × Contains xs x × Q x)
  made_runs P Q makes s t [] run h = inl (subst P run h)
  made_runs P Q makes s t (x ∷ xs) (u, first, rest) h = elim (made_runs P Q makes u t xs rest h) [
    | inl before ↦ elim (makes s u x first before) [ inl old ↦ inl old | inr made ↦ inr (x, in_front x xs, made) ]
    | inr (y, i, made) ↦ inr (y, Contains-append_right (x ∷ []) xs y i, made)
  ]

  -- what holds of no events, and is kept by one more, holds of each run
  module _ (P : List X → S → Type 0) (keeps : (xs : List X) (s t : S) (x : X) → P xs s → Step s x t → P (xs ++ x ∷ []) t) where
    induction_from : (before : List X) (s : S) → P before s → (xs : List X) (t : S) → Run Step s xs t → P (before ++ xs) t
    induction_from before s h [] t run = subst (λ l. P l t) (sym (append-nil before)) (subst (P before) (sym run) h)
    induction_from before s h (x ∷ xs) t (u, first, rest) =
        subst (λ l. P l t) (append_assoc before (x ∷ []) xs) (induction_from (before ++ x ∷ []) u (keeps before s u x h first) xs t rest)

    pub induction : (s : S) → P [] s → (xs : List X) (t : S) → Run Step s xs t → P xs t
    induction s h xs t run = induction_from [] s h xs t run

-- the runs of one step relation are runs of another, where its steps are, event for event
module _ {S X T Y : Type 0} (Step : S → X → S → Type 0) (Next : T → Y → T → Type 0) (state : S → T) (part : X → Y) (steps : (s t : S) (x : X) → Step s x t → Next (state s) (part x) (state t)) where
  pub run_of_part : (s t : S) (xs : List X) → Run Step s xs t → Run Next (state s) (map part xs) (state t)
  run_of_part s t [] run = ap state run
  run_of_part s t (x ∷ xs) (u, first, rest) = (state u, steps s u x first, run_of_part u t xs rest)

-- a run of which a part is seen, and the run itself
module _ {S X Y : Type 0} (part : X → Y) (Step : S → X → S → Type 0) where
  pub run_of_seen : (s t : S) (ys : List Y) → Run (Seen part Step) s ys t → (xs : List X) × Run Step s xs t × (map part xs ≡ ys)
  run_of_seen s t [] run = ([], run, refl)
  run_of_seen s t (y ∷ ys) (u, (x, is, step), rest) =
      let r = run_of_seen u t ys rest in
      (x ∷ r.0, (u, step, r.1), ap (λ z. z ∷ map part r.0) is ∙ ap (λ l. y ∷ l) r.2)

  pub seen_of_run : (s t : S) (xs : List X) → Run Step s xs t → Run (Seen part Step) s (map part xs) t
  seen_of_run s t [] run = run
  seen_of_run s t (x ∷ xs) (u, first, rest) = (u, (x, refl, first), seen_of_run u t xs rest)
