-- How long the line of a packet is at most.
use Rattle.std.specs.Prelude.{◌≤◌, ◌+◌, ◌*◌, ℕ, suc, List, [], ◌∷◌, length, Option, None, Some}
use Rattle.ocpi_types.specs.declared.authorizations.LocationReferences.{LocationReferences}
use Rattle.ocpi_types.specs.declared.cdrs.ChargingPeriod.{ChargingPeriod}
use Rattle.ocpi_types.specs.declared.packet.Body.{Body}
use Rattle.ocpi_types.specs.declared.packet.Body.TheVariants as body
use Rattle.ocpi_types.specs.declared.packet.Packet.{Packet}
use Rattle.ocpi_json.specs.Packets.{packet_text, PacketFits}

-- ---- what is listed

abbrev pub texts_listed : Option (List (List ℕ)) → ℕ
texts_listed None = 0
texts_listed (Some texts) = length texts

-- the EVSEs of a location
abbrev pub evses_listed : Option LocationReferences → ℕ
evses_listed None = 0
evses_listed (Some l) = texts_listed l.evse_uids

-- charging periods, and the dimensions of each
abbrev pub periods_listed : List ChargingPeriod → ℕ
periods_listed [] = 0
periods_listed (p ∷ ps) = suc (length p.dimensions) + periods_listed ps

-- How much a packet lists: the EVSEs of an authorization request, or the periods of a charge detail record with their
-- dimensions. All else in a packet has a greatest length.
abbrev pub listed : Body → ℕ
listed (body.Command c) = 0
listed (body.CommandResponse b) = 0
listed (body.CommandResult b) = 0
listed (body.PutToken b) = 0
listed (body.Authorize b) = evses_listed b.location
listed (body.Authorization b) = 0
listed (body.PutSession b) = 0
listed (body.PostCdr b) = periods_listed b.charging_periods
listed (body.Ack b) = 0

-- ---- the law

-- Of each packet, whose parts are what their types keep. So one that lists at most 500 is no longer than a line may be.
abbrev pub PacketsHaveShortLines : Type 0
PacketsHaveShortLines = (p : Packet) → PacketFits p → length (packet_text p) ≤ 40000 + 2000 * listed p.body
