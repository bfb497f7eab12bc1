use Rattle.std.proofs.Common.{◌∙◌, sym}
use Rattle.replays.proofs.FitLemmas.{fit_begins, fit_is, fit_no}
use Rattle.replays.proofs.opening.Piece.fit.Goals as goal

pub returns-then-not-starts_with : goal.returns-then-not-starts_with
returns-then-not-starts_with c =
    fit_no c.args.self.now.is_closed c.args.self.now.bytes.now c.args.line.now (sym c.starts_with.ensures.value ∙ c.if-not-starts_with.true)

pub returns-then-line-self : goal.returns-then-line-self
returns-then-line-self c =
    fit_is c.args.self.now.bytes.now c.args.line.now c.requires.line (sym c.if-not-starts_with.ensures.value) c.if-line-self.true

pub returns-else-self : goal.returns-else-self
returns-else-self c =
    let found = fit_begins c.args.self.now.bytes.now c.args.line.now c.requires.line c.requires.piece (sym c.if-not-starts_with.ensures.value) c.if-line-self.false in
    (c.if-self.false, found)
