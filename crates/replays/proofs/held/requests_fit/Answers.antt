use Rattle.std.proofs.Common.{Contains, inl, inr, subst, sym, arith, take_all}
use Rattle.std.proofs.lemmas.List.Elements.{Contains-push_cases}
use Rattle.node_core.proofs.Lists.{front_more}
use Rattle.ocpi_types.specs.declared.rows.Row.TheVariants.{Command}
use Rattle.replays.proofs.held.requests_fit.Goals as goal

pub loop-row-preserved : goal.loop-row-preserved
loop-row-preserved c n command within =
    let so_far = front_more c.args.rows.now c.loop-row.row-index c.row-item.result c.loop-row-test.true c.row-item.is in
    elim (Contains-push_cases _ c.row-item.result (Command n command) (subst (λ l. Contains l (Command n command)) so_far within)) [
      | inl before ↦ c.loop-row.invariant n command before
      | inr is ↦ c.request_fits.ensures n command is
    ]

pub returns : goal.returns
returns c n command within =
    c.loop-row.invariant n command (subst (λ l. Contains l (Command n command)) (sym (take_all c.loop-row.row-index c.args.rows.now (omega (arith, c.loop-row-test.false)))) within)
