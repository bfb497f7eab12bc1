-- How a refusal is written: its number and its name.
use Rattle.std.specs.Prelude.{ℕ, List, codes}
use Rattle.reservation_book.specs.declared.fault.ReservationFault.{ReservationFault}
use Rattle.reservation_book.specs.declared.fault.ReservationFault.TheVariants.{Stale, OtherLocation, Memory}

abbrev pub fault_text : ReservationFault → List ℕ
fault_text (Stale mark) = codes "1 Stale"
fault_text OtherLocation = codes "2 OtherLocation"
fault_text Memory = codes "3 Memory"
