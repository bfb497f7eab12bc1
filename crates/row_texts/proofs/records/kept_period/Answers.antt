use Rattle.std.proofs.Common.{All, subst}
use Rattle.row_texts.specs.Utf8.{CdrDimensionIsUtf8}
use Rattle.row_texts.proofs.records.kept_period.Goals as goal

pub returns-clause-utf8 : goal.returns-clause-utf8
returns-clause-utf8 c = record { dimensions = subst (All CdrDimensionIsUtf8) c.as_slice.ensures.value c.kept_dimensions.ensures.utf8 }
