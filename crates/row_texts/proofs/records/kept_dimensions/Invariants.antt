use Rattle.std.proofs.Common.{All, take}
use Rattle.ocpi_forms.specs.ChargingPeriodForms.{CdrDimensionFits}
use Rattle.row_texts.specs.Utf8.{CdrDimensionIsUtf8}
use Rattle.row_texts.proofs.records.kept_dimensions.Given as goal

abbrev pub invariant-loop-dimension : goal.invariant-loop-dimension
invariant-loop-dimension l = All CdrDimensionFits (take l.dimension-index l.dimensions) × All CdrDimensionIsUtf8 (take l.dimension-index l.dimensions)
