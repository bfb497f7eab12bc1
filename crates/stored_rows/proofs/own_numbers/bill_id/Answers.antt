use Rattle.std.proofs.Common.{arith, Some, None}
use Rattle.std.proofs.lemmas.Str.Pattern.{strip_suffix_char}
use Rattle.stored_rows.proofs.RecordNumbers.{dashed, undashed}
use Rattle.stored_rows.proofs.own_numbers.bill_id.Goals as goal

pub returns-in_err-dashed : goal.returns-in_err-dashed
returns-in_err-dashed c = rw c.from_residual.ensures
    (undashed c.args.credit.now (strip_suffix_char 67 c.args.credit.now None c.in_err-dashed.ensures.cases (omega arith)))

pub returns : goal.returns
returns c =
    dashed c.args.credit.now c.in_ok-dashed.dashed.now c.strip_suffix-2.result
    (strip_suffix_char 67 c.args.credit.now (Some c.in_ok-dashed.dashed) c.in_ok-dashed.ensures.cases (omega arith))
    (strip_suffix_char 45 c.in_ok-dashed.dashed.now c.strip_suffix-2.result c.strip_suffix-2.ensures.cases (omega arith))
