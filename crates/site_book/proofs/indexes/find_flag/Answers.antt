use Rattle.std.proofs.Common.{◌≡◌, length, refl, arith}
use Rattle.std.specs.Prelude.{Some, slice_get}
use Rattle.std.proofs.lemmas.Option.{IfSome_then, slice_get_read}
use Rattle.site_book.proofs.Marking.{none_set_before}
use Rattle.site_book.proofs.indexes.find_flag.Goals as goal

pub returns-in-Some-clause-first : goal.returns-in-Some-clause-first
returns-in-Some-clause-first c =
    let there = c.in-Some.ensures.lookup in
    let stands : slice_get c.args.flags.now c.args.at ≡ Some c.in-Some.of_location.now = slice_get_read c.args.flags.now (length c.args.flags.now) c.args.at c.in-Some.of_location.now refl (omega arith) there.1 in
    IfSome_then c.find.result c.find.ensures.first (λ j first. none_set_before c.args.flags.now c.args.at j c.in-Some.of_location.now stands first)
