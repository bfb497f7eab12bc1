use Rattle.std.proofs.Common.{◌≡◌, ◌∙◌, ℕ, List, sym}
use Rattle.std.specs.Prelude.{Some, None, Contains}
use Rattle.std.specs.FinMap.{get}
use Rattle.ocpi_text.specs.Text.{key}
use Rattle.session_tables.specs.Accepts.{Accepts}
use Rattle.session_tables.specs.Answers.{Decided}
use Rattle.operator_planning.proofs.StartedLines.{started_is, starts_unbegun, starts_unlisted, starts_unopened}
use Rattle.operator_planning.proofs.planner.Planner.started_by.Goals as goal

-- the report is not that a command is carried out
pub returns-in_err-provider-clause-none : goal.returns-in_err-provider-clause-none
returns-in_err-provider-clause-none c = rw (c.from_residual.ensures) (λ e b h. c.in_err-provider.ensures.none h.provider e.number h.report_is)

-- the command is not open
pub returns-in_err-open-clause-none : goal.returns-in_err-open-clause-none
returns-in_err-open-clause-none c =
    let s = c.args.self.now.state in
    let p = c.in_ok-provider.provider in
    let n = c.in_ok-provider.number in
    let none : get s.rows.commands.pending (key p, n) ≡ None = rw (← c.self.view_is, ← c.commands.ensures, ← c.key.ensures) (sym c.in_err-open.ensures) in
    rw (c.from_residual-in_err-open.ensures) (starts_unopened s c.args.report.now p n c.in_ok-provider.ensures.some none)

-- no session begins with it
pub returns-in_err-beginning-clause-none : goal.returns-in_err-beginning-clause-none
returns-in_err-beginning-clause-none c =
    let s = c.args.self.now.state in
    let p = c.in_ok-provider.provider in
    let n = c.in_ok-provider.number in
    let o = c.in_ok-open.open.now in
    let stands : get s.rows.commands.pending (key p, n) ≡ Some o = rw (← c.self.view_is, ← c.commands.ensures, ← c.key.ensures) (sym c.in_ok-open.ensures) in
    let never : Decided (Accepts s.site o) None = rw (← c.self.view_is) c.in_err-beginning.ensures in
    rw (c.from_residual-in_err-beginning.ensures) (starts_unbegun s c.args.report.now p n c.in_ok-provider.ensures.some o stands never)

-- its provider is none of the site
pub returns-in_err-ending-clause-none : goal.returns-in_err-ending-clause-none
returns-in_err-ending-clause-none c =
    let s = c.args.self.now.state in
    let p = c.in_ok-provider.provider in
    let none : (q : List ℕ) → Contains s.providers q → key q ≡ key p → ⊥ = λ q listed same. c.in_err-ending.ensures.none q listed (same ∙ sym c.key-2.ensures) in
    rw (c.from_residual-in_err-ending.ensures) (starts_unlisted s c.args.report.now p c.in_ok-provider.number c.in_ok-provider.ensures.some none)

pub returns-clause-some : goal.returns-clause-some
returns-clause-some c =
    let s = c.args.self.now.state in
    let p = c.in_ok-provider.provider in
    let n = c.in_ok-provider.number in
    let o = c.in_ok-open.open.now in
    let b = c.in_ok-beginning.beginning in
    let stands : get s.rows.commands.pending (key p, n) ≡ Some o = rw (← c.self.view_is, ← c.commands.ensures, ← c.key.ensures) (sym c.in_ok-open.ensures) in
    let begins : Accepts s.site o b = rw (← c.self.view_is) c.in_ok-beginning.ensures in
    let is = c.in_ok-ending.ensures.is in
    started_is s c.args.report.now p n c.in_ok-provider.ensures.some o stands b begins c.in_ok-ending.ending (is.0 ∙ c.key-2.ensures) is.1 is.2 c.in_ok-ending.ensures.of_site
