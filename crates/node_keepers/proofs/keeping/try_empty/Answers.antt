use Rattle.std.proofs.Common.{◌≡◌, ◌⊎◌, inl, inr, refl, ap, ◌∙◌}
use Rattle.node_store.specs.Contents.{line_of, rows_of}
use Rattle.node_store.specs.declared.fault.Cause.TheVariants.{NotEmpty}
use Rattle.node_store.specs.declared.fault.StoreFault.TheVariants.{Refused}
use Rattle.node_keepers.specs.Keeping.{CannotLoad, KeepsSomething, keeping_of}
use Rattle.node_keepers.proofs.KeeperLemmas.{err_one, keeps_nothing}
use Rattle.node_keepers.proofs.keeping.try_empty.Goals as goal

pub returns-then-is_new-clause-ok : goal.returns-then-is_new-clause-ok
returns-then-is_new-clause-ok g c = λ honest.
    let kept = c.in_ok-kept.kept in
    let new = c.is_new.ensures.new c.if-is_new.true in
    c.in_ok-kept.ensures.kept honest ∙ keeps_nothing _ kept.rows.items kept.line (c.in_ok-kept.ensures.rows honest) (c.in_ok-kept.ensures.line honest) new.0 new.1

pub returns-in_err-kept-clause-err : goal.returns-in_err-kept-clause-err
returns-in_err-kept-clause-err g c =
    let keeping = keeping_of g.K.Keep.content g.K.Keep.is_honest g.K.Keep.refusals in
    let before = c.args.keep.now in
    let after = c.load.new.self in
    err_one (λ fault. CannotLoad keeping fault before after ⊎ (KeepsSomething keeping after × (fault ≡ Refused NotEmpty))) c.from_residual.result _ c.from_residual.ensures.1
    (inl (record { counted = c.in_err-kept.ensures.counted; bad = c.in_err-kept.ensures.bad; layout = c.in_err-kept.ensures.layout }))

pub returns-clause-err : goal.returns-clause-err
returns-clause-err g c =
    let kept = c.in_ok-kept.kept in
    let are = λ (honest : g.K.Keep.is_honest c.load.new.self). ap rows_of (c.in_ok-kept.ensures.kept honest) ∙ c.in_ok-kept.ensures.rows honest in
    let number = λ (honest : g.K.Keep.is_honest c.load.new.self). ap line_of (c.in_ok-kept.ensures.kept honest) ∙ c.in_ok-kept.ensures.line honest in
    inr (record { rows = kept.rows.items; line = kept.line; are = are; number = number; some = c.is_new.ensures.used c.if-is_new.false }, refl)
