use Rattle.std.proofs.Common.{All, take}
use Rattle.ocpi_forms.specs.ChargingPeriodForms.{ChargingPeriodFits}
use Rattle.row_texts.specs.Utf8.{ChargingPeriodIsUtf8}
use Rattle.row_texts.proofs.records.kept_periods.Given as goal

abbrev pub invariant-loop-period : goal.invariant-loop-period
invariant-loop-period l = All ChargingPeriodFits (take l.period-index l.periods) × All ChargingPeriodIsUtf8 (take l.period-index l.periods)
