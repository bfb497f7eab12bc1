use Rattle.std.proofs.Common.{All, subst}
use Rattle.row_texts.specs.Utf8.{ChargingPeriodIsUtf8}
use Rattle.row_texts.proofs.records.kept_cdr.Goals as goal

pub returns-clause-utf8 : goal.returns-clause-utf8
returns-clause-utf8 c = record {
  cdr_location = c.kept_cdr_location.ensures.utf8;
  currency = c.kept_short.ensures.utf8;
  charging_periods = subst (All ChargingPeriodIsUtf8) c.as_slice.ensures.value c.kept_periods.ensures.utf8;
}
