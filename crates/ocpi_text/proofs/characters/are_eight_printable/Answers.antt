use Rattle.std.proofs.Common.{drop, take}
use Rattle.std.proofs.lemmas.Simd.{length-chunk}
use Rattle.ocpi_text.proofs.EightBytes.{eight_tests}
use Rattle.ocpi_text.proofs.characters.are_eight_printable.Goals as goal

pub returns : goal.returns
returns c = eight_tests (take 8 (drop c.args.at c.args.bytes.now)) (length-chunk c.args.at 8 c.args.bytes.now c.requires)
