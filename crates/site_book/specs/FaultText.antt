-- How a refusal is written: its number and its name.
use Rattle.std.specs.Prelude.{ℕ, List, codes}
use Rattle.site_book.specs.declared.claim.SiteFault.{SiteFault}
use Rattle.site_book.specs.declared.claim.SiteFault.TheVariants.{UnknownLocation, UnknownEvse, Claimed, OutOfService}

abbrev pub fault_text : SiteFault → List ℕ
fault_text UnknownLocation = codes "1 UnknownLocation"
fault_text UnknownEvse = codes "2 UnknownEvse"
fault_text Claimed = codes "3 Claimed"
fault_text OutOfService = codes "4 OutOfService"
