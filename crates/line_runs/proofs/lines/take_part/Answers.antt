use Rattle.std.proofs.Common.{◌≡◌, ◌≢◌, ◌<◌, ◌≤◌, ◌-◌, ◌++◌, ◌⊎◌, inl, inr, ℕ, Bool, true, List, [], Option, None, Some, OnSome, All, length, take, drop, refl, sym, ap, subst, ◌∙◌, rules, arith, eqb, eq-eqb, eqb-true, true≢false, get_or, get_or-take, length-take-le}
use Rattle.std.proofs.lemmas.List.Elements.{All-nil, All-more}
use Rattle.std.specs.Io.KnownBytes.{Consumes, IsAtEnd}
use Rattle.std.specs.Io.BufRead.{DropsConsumable, FillKeeps}
use Rattle.std.proofs.KnownBytes.{Consumes-nil, Consumes-kept, Keeps-refl}
use Rattle.std.proofs.BufReadLemmas.{Consumes_shown, zero_unless_positive}
use Rattle.std.proofs.Transfers.{StopsAt-take}
use Rattle.line_runs.specs.Lines.{TakesPart}
use Rattle.line_runs.specs.declared.lines.TheConstants.{ROOM}
use Rattle.line_runs.specs.declared.outcome.RunFault.TheVariants.{ReadFailed}
use Rattle.line_runs.proofs.LineLemmas.{take_within, nothing_more}
use Rattle.line_runs.proofs.EchoLemmas.{cuts_nothing, nothing_passed}
use Rattle.line_runs.proofs.lines.take_part.Goals.{then-end-eq0, else-end-eq0}
use Rattle.line_runs.proofs.lines.take_part.Goals as goal

-- why a line is done
abbrev IsDone : List ℕ → ℕ → Bool → Type 0
IsDone shown end done = ((end ≡ 0) × (done ≡ true)) ⊎ ((0 < end) × (done ≡ eqb (get_or shown (end - 1) 0) 10))

-- what is taken of the bytes that a reader shows
taken : (old new : Option (List ℕ)) (shown : List ℕ) (end : ℕ) (done : Bool) → end ≤ length shown → All (λ b. b ≢ 10) (take (end - 1) shown) → IsDone shown end done
    → Consumes old new (take end shown) → (length (take end shown) ≡ 0 → OnSome old (IsAtEnd new)) → TakesPart old done (take end shown) new
taken old new shown end done bound before is consumed last = record {
  consumed = consumed;
  stops = StopsAt-take shown 10 end bound before;
  plain = λ more. by is more;
  ended = λ d some. ends is d some;
  at_end = λ _ none. last none;
}
  where
    long : length (take end shown) ≡ end
    long = length-take-le end shown bound

    by : IsDone shown end done → done ≢ true → All (λ b. b ≢ 10) (take end shown)
    by (inl h) more = absurd (more h.1)
    by (inr h) more = subst (λ k. All (λ x. x ≢ 10) (take k shown)) (omega (arith, h.0))
        (All-more (λ x. x ≢ 10) shown (end - 1) 0 (omega (arith, h.0, bound)) before (λ e. more (h.1 ∙ eq-eqb _ _ e)))

    ends : IsDone shown end done → done ≡ true → 0 < length (take end shown) → get_or (take end shown) (length (take end shown) - 1) 0 ≡ 10
    ends (inl h) d some = absurd (omega (arith, h.0, long, some))
    ends (inr h) d some = ap (λ n. get_or (take end shown) (n - 1) 0) long ∙ get_or-take end shown (end - 1) 0 (omega (arith, h.0)) ∙ eqb-true _ _ (sym h.1 ∙ d)

-- what would be left
left_by : (old : Option (List ℕ)) (limit : Option ℕ) (n : ℕ) → (new : Option (List ℕ)) × DropsConsumable old new limit n
left_by None limit n = (None, tt)
left_by (Some xs) limit n = (Some (drop n xs), λ _. refl)

pub returns-then-eq-clause-ok : goal.returns-then-eq-clause-ok
returns-then-eq-clause-ok g c = (
  [],
  record {
    consumed = Consumes-kept _ _ _ [] (Consumes-nil _) c.fill_buf.follows.holds-at-none.0;
    stops = All-nil (λ x. x ≢ 10);
    plain = λ _. All-nil (λ x. x ≢ 10);
    ended = λ done. absurd (true≢false (sym done));
    at_end = λ done. absurd (true≢false (sym done));
  },
  nothing_more _ _,
  nothing_passed _ _ _,
)

pub returns-else-eq-clause-err : goal.returns-else-eq-clause-err
returns-else-eq-clause-err g c = (search rules, c.fill_buf.follows.holds-at-none.0, cuts_nothing c.args.echo ReadFailed c.args.held.now _ _ _ (Keeps-refl _))

pub returns-in-Err-extend_from_slice-clause-err : goal.returns-in-Err-extend_from_slice-clause-err
returns-in-Err-extend_from_slice-clause-err g c = (search rules, c.fill_buf.follows.holds-at-none.0, cuts_nothing c.args.echo ReadFailed c.args.held.now _ _ _ (Keeps-refl _))

pub returns-in-Err-echo_part-clause-err : goal.returns-in-Err-echo_part-clause-err
returns-in-Err-echo_part-clause-err g c =
    let shown = c.in-Ok.shown.now in
    let end = c.len_through-end in
    let long = length-take-le end.result shown end.ensures.bound in
    let rested = c.fill_buf.follows.lender-at-none in
    let filled = subst (FillKeeps _ (g.R.Read.remaining rested) (g.R.BufRead.consumable_len rested)) c.in-Ok.is c.fill_buf.follows.holds-at-none in
    let would = left_by (g.R.Read.remaining rested) (g.R.BufRead.consumable_len rested) end.result in
    let moved = Consumes_shown _ _ would.0 _ shown end.result end.ensures.bound c.in-Ok.ensures.front c.in-Ok.ensures.end filled.0 filled.1 would.1 in
    let is : IsDone shown end.result c.if-end-eq0.done = elim c.if-end-eq0.branch [
      | then-end-eq0 w ↦ inl (omega (arith, w.if-end-eq0.true), search rules)
      | else-end-eq0 w ↦ inr (omega (arith, w.if-end-eq0.false), w.done-is)
    ] in
    let failed = c.in-Err-echo_part.ensures.err in
    let whole = taken _ would.0 shown end.result c.if-end-eq0.done end.ensures.bound end.ensures.before is moved.0 (λ none. moved.1 (zero_unless_positive _ _ end.ensures.some (sym long ∙ none))) in
    (search rules, filled.0, ((λ other. absurd (other failed.0)), (c.if-end-eq0.done, take end.result shown, would.0, whole, failed.1)))

pub returns-clause-ok : goal.returns-clause-ok
returns-clause-ok g c =
    let shown = c.in-Ok.shown.now in
    let end = c.len_through-end in
    let long = length-take-le end.result shown end.ensures.bound in
    let rested = c.fill_buf.follows.lender-at-none in
    let filled = subst (FillKeeps _ (g.R.Read.remaining rested) (g.R.BufRead.consumable_len rested)) c.in-Ok.is c.fill_buf.follows.holds-at-none in
    let moved = Consumes_shown _ _ _ _ shown end.result end.ensures.bound c.in-Ok.ensures.front c.in-Ok.ensures.end filled.0 filled.1 c.consume.ensures.bytes in
    let room = ROOM - length c.args.line.now.items in
    let is : IsDone shown end.result c.if-end-eq0.done = elim c.if-end-eq0.branch [
      | then-end-eq0 w ↦ inl (omega (arith, w.if-end-eq0.true), search rules)
      | else-end-eq0 w ↦ inr (omega (arith, w.if-end-eq0.false), w.done-is)
    ] in (
      take end.result shown,
      taken _ _ shown end.result c.if-end-eq0.done end.ensures.bound end.ensures.before is moved.0 (λ none. moved.1 (zero_unless_positive _ _ end.ensures.some (sym long ∙ none))),
      c.in-Ok-extend_from_slice.ensures.items ∙ ap (λ l. c.args.line.now.items ++ l) (take_within shown end.result room c.min-kept.result (search rules)),
      c.in-Ok-echo_part.ensures.ok,
    )
