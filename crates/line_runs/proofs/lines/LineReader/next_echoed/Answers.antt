use Rattle.std.proofs.Common.{rules, ◌≡◌, ◌<◌, Bool, cond, length, take, sym, ap, ◌∙◌, arith}
use Rattle.std.proofs.lemmas.Bool.{eqb-false}
use Rattle.std.specs.Io.BufRead.{strip_last}
use Rattle.line_runs.specs.declared.lines.TheConstants.{KEPT_BYTES}
use Rattle.line_runs.proofs.LineLemmas.{none_left, one_read, without_end}
use Rattle.line_runs.proofs.lines.LineReader.next_echoed.Goals.{then-drop_last, else-drop_last}
use Rattle.line_runs.proofs.lines.LineReader.next_echoed.Goals as goal

pub returns-then-is_empty-clause-ok : goal.returns-then-is_empty-clause-ok
returns-then-is_empty-clause-ok g c =
    let read = c.in-Ok.ensures in
    let none : length c.read_piece.new.line.items ≡ 0 = search rules in
    none_left KEPT_BYTES _ _ c.read_piece.new.line.items read.kept read.rest none

pub returns-clause-ok : goal.returns-clause-ok
returns-clause-ok g c =
    let read = c.in-Ok.ensures in
    let piece = c.read_piece.new.line.items in
    let first = c.drop_last.ensures in
    let by = λ (b : Bool). cond b (strip_last 13 (strip_last 10 piece)) (strip_last 10 piece) in
    let held = eqb-false _ _ (sym c.is_empty.ensures ∙ c.if-is_empty.false) in
    let long = c.read_piece.new.line.ok.0 in
    let some : 0 < length piece = omega (arith, held, long) in
    let cut : c.if-drop_last.line.items ≡ without_end piece = elim c.if-drop_last.branch [
      | then-drop_last w ↦ ap (λ v. v.items) w.line-is ∙ w.drop_last-then-drop_last.ensures.left ∙ ap (strip_last 13) first.left
          ∙ ap by (sym w.if-drop_last.true ∙ first.was)
      | else-drop_last w ↦ ap (λ v. v.items) w.line-is ∙ first.left ∙ ap by (sym w.if-drop_last.false ∙ first.was)
    ] in
    one_read KEPT_BYTES _ _ piece c.truncate.new.self.items read.kept read.rest some (c.truncate.ensures.items ∙ ap (take KEPT_BYTES) cut)
