use Rattle.std.proofs.lemmas.Result.{err_from_is_err_and}
use Rattle.json_text.proofs.TextBytes.{no_text_is_read, told}
use Rattle.json_text.proofs.lines.line_tree.Goals as goal

pub returns-in_err-text-clause-unread : goal.returns-in_err-text-clause-unread
returns-in_err-text-clause-unread c = λ never.
    let p = err_from_is_err_and c.from_residual.result c.from_residual.ensures.1 in
    rw (p.1, p.2) (told _ _ c.in_err-text.ensures never)

pub returns-clause-unread : goal.returns-clause-unread
returns-clause-unread c = λ never. absurd (no_text_is_read _ _ c.in_ok-text.ensures never)
