use Rattle.std.proofs.Common.{◌≡◌, ◌∙◌, ◌+◌, ◌++◌, ℕ, None, suc, arith, inl, inr, ap, refl, sym, string_bytes}
use Rattle.node_runs.specs.DoneLines.{malformed_line}
use Rattle.replays.proofs.FrontLemmas.{front_of, not_begun}
use Rattle.replays.proofs.ResultLemmas.{ok_so}
use Rattle.replays.proofs.reading.Reading.take_malformed.Goals as goal
use Rattle.replays.proofs.reading.Reading.take_malformed.Goals.{then-starts_with-2, else-starts_with-2}

pub returns-then-starts_with-clause-ok : goal.returns-then-starts_with-clause-ok
returns-then-starts_with-clause-ok c =
    let told = c.as_bytes-told.result.now in
    let told_is = c.as_bytes-told.ensures.value ∙ ok_so c.write_malformed.result c.write_malformed.ensures (sym c.is_err.ensures.value ∙ c.if-is_err.false) ∙ ap (λ l. l ++ malformed_line 1 None c.args.fault) c.clear.ensures.bytes in
    let x = front_of told c.args.rest.now (sym c.starts_with.ensures.value ∙ c.if-starts_with.true) in
    record { real = c.in_default.not-Memory; missing = x.0; is = sym told_is ∙ x.1 }

pub returns-then-is_empty-clause-err : goal.returns-then-is_empty-clause-err
returns-then-is_empty-clause-err c = λ real.
    let told = c.as_bytes-told.result.now in
    let told_is = c.as_bytes-told.ensures.value ∙ ok_so c.write_malformed.result c.write_malformed.ensures (sym c.is_err.ensures.value ∙ c.if-is_err.false) ∙ ap (λ l. l ++ malformed_line 1 None c.args.fault) c.clear.ensures.bytes in
    record {
      real = c.in_default.not-Memory;
      none = λ missing is. not_begun told c.args.rest.now missing (sym c.starts_with.ensures.value ∙ c.if-starts_with.false) (told_is ∙ is);
      place = elim c.if-starts_with-2.branch [
        | then-starts_with-2 w ↦ let passed = w.passed-is in
            let x = front_of c.args.rest.now told (sym c.starts_with-then-is_empty.ensures.value ∙ w.if-starts_with-2.true) in
            inr (inr (omega (arith, passed), (x.0, x.1 ∙ ap (λ l. l ++ x.0) told_is)))
        | else-starts_with-2 w ↦ let passed = w.passed-is in inr (inl (omega (arith, passed)))
      ];
    }

pub returns-clause-err : goal.returns-clause-err
returns-clause-err c = λ real.
    let told = c.as_bytes-told.result.now in
    let told_is = c.as_bytes-told.ensures.value ∙ ok_so c.write_malformed.result c.write_malformed.ensures (sym c.is_err.ensures.value ∙ c.if-is_err.false) ∙ ap (λ l. l ++ malformed_line 1 None c.args.fault) c.clear.ensures.bytes in
    record {
      real = c.in_default.not-Memory;
      none = λ missing is. not_begun told c.args.rest.now missing (sym c.starts_with.ensures.value ∙ c.if-starts_with.false) (told_is ∙ is);
      place = inl refl;
    }
