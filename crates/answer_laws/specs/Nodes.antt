-- What of a node is told apart, so that its answer is one.
use Rattle.std.specs.Prelude.{◌≡◌, ℕ, Some, Contains}
use Rattle.std.specs.FinMap.{get}
use Rattle.ocpi_types.specs.Commands.{url_of}
use Rattle.ocpi_types.specs.Connectors.{AreConnectors}
use Rattle.ocpi_types.specs.Locations.{AreLocations}
use Rattle.ocpi_types.specs.Parties.{AreParties}
use Rattle.ocpi_types.specs.declared.site.Evse.{Evse}
use Rattle.ocpi_types.specs.declared.site.Location.{Location}
use Rattle.ocpi_types.specs.declared.site.Site.{Site}
use Rattle.ocpi_types.specs.declared.stored.SentCommand.{SentCommand}
use Rattle.operator_rows.specs.State as operator
use Rattle.provider_rows.specs.State as provider
use Rattle.world_steps.specs.World.{NodeState, Operates, Provides}

-- no two commands of a provider have their results posted to one url. So it is of each that ran from its opening
-- (OCPI 2.2.1, Commands: response_url)
abbrev pub UrlsDiffer : provider.State → Type 0
UrlsDiffer s = (m n : ℕ) (c d : SentCommand) → get s.rows.outbox.commands m ≡ Some c → get s.rows.outbox.commands n ≡ Some d → url_of c.command ≡ url_of d.command → m ≡ n

-- no two locations of a site, no two of its EVSEs, and no two connectors of an EVSE have one id. The types of a site keep
-- it
pub record PlacesDiffer (site : Site) : Type 0 where
  pub locations : AreLocations site.locations
  pub connectors : (l : Location) (e : Evse) → Contains site.locations l → Contains l.evses e → AreConnectors e.connectors

-- so it is of an operator's site, and no two of its providers are one party
pub record SiteDiffers (s : operator.State) : Type 0 where
  pub parties : AreParties (record { operator = s.party; providers = s.providers })
  pub places : PlacesDiffer s.site

-- what a node is told apart by
abbrev pub IsApart : NodeState → Type 0
IsApart (Operates s) = SiteDiffers s
IsApart (Provides s) = UrlsDiffer s
