-- How a START_SESSION is decided (OCPI 2.2.1, Commands: StartSession; Status codes: 2001 and 2003).
use Rattle.std.specs.Prelude.{◌≡◌, ◌≢◌, ℕ, false, List, Some, None, IsSome, IsNone, ◌⊎◌}
use Rattle.ocpi_text.specs.Text.{key}
use Rattle.ocpi_types.specs.declared.site.Site.{Site}
use Rattle.ocpi_types.specs.declared.site.Location.{Location}
use Rattle.ocpi_types.specs.declared.site.Evse.{Evse}
use Rattle.ocpi_types.specs.declared.site.Connector.{Connector}
use Rattle.ocpi_types.specs.declared.commands.StartSession.{StartSession}
use Rattle.ocpi_types.specs.declared.words.CommandResponseType.TheVariants as response
use Rattle.ocpi_types.specs.declared.words.CommandResultType.TheVariants as result
use Rattle.std.specs.BTreeMap.Range.{IsLeBy}
use Rattle.tables.specs.Keys.{text_cmp}
use Rattle.reservation_book.specs.declared.standing.Standing.{Standing}
use Rattle.site_book.specs.Sites.{IsFirst, IsLocation, IsNamed, Fits}
use Rattle.operator_rows.specs.State.{Rows, Spent, IsFree, IsSpent}
use Rattle.operator_tables.specs.declared.decision.Decision.{Decision}
use Rattle.operator_tables.specs.declared.decision.Decision.TheVariants.{Refused, Answered, Resulted, Started}
use Rattle.operator_tables.specs.Places.{HasNoLocation, HasService, IsHeldFor, Works, place_of}

-- the token is another provider's, or a connector is named without its EVSE
abbrev pub IsMismatched : List ℕ → StartSession → Type 0
IsMismatched sender c = (key c.token.party ≢ key sender) ⊎ (IsSome c.connector_id × IsNone c.evse_uid)

-- the token is not valid, or the provider of that key used the command's reference before
abbrev pub IsBarred : Spent → List ℕ → StartSession → Type 0
IsBarred spent provider c = (c.token.valid ≡ false) ⊎ IsSpent spent provider c.authorization_reference

-- the EVSE and connector that a start at this location may be about
abbrev pub IsPlace : Location → StartSession → Evse → Connector → Type 0
IsPlace l c e k = Fits l.evses c.evse_uid c.connector_id e k

abbrev pub HasNoPlace : Location → StartSession → Type 0
HasNoPlace l c = (e : Evse) (k : Connector) → IsPlace l c e k → ⊥

-- the command got as far as its location
pub record IsPlaced (site : Site) (sender : List ℕ) (c : StartSession) (l : Location) : Type 0 where
  pub matched : ¬ IsMismatched sender c
  pub location : IsLocation site.locations c.location_id l

-- the command got as far as an EVSE and connector of its location
pub record IsAtPlace (site : Site) (sender : List ℕ) (c : StartSession) (l : Location) (e : Evse) (k : Connector) : Type 0 where
  pub placed : IsPlaced site sender c l
  pub place : IsPlace l c e k

-- the command got as far as the EVSEs at its place, of which this is one
pub record MayTake (site : Site) (s : Rows) (sender : List ℕ) (c : StartSession) (l : Location) (e : Evse) (k : Connector) : Type 0 where
  pub reached : IsAtPlace site sender c l e k
  pub allowed : ¬ IsBarred s.spent (key sender) c

-- no EVSE in service that the command may be about is held by a reservation of the sender for the token
abbrev pub NoneHeld : Rows → List ℕ → StartSession → Location → Type 0
NoneHeld s sender c l = (f : Evse) (j : Connector) (x : Standing) → IsPlace l c f j → Works s f → IsHeldFor s sender c.token l f x → ⊥

-- of the EVSEs in service that reservations of the sender hold for the token, this one's key is the least
abbrev pub IsLeastHeld : Rows → List ℕ → StartSession → Location → Evse → Type 0
IsLeastHeld s sender c l e = (f : Evse) (j : Connector) (x : Standing) → IsPlace l c f j → Works s f → IsHeldFor s sender c.token l f x → IsLeBy text_cmp (key e.uid) (key f.uid)

-- an EVSE of the uid that the command names, or any where it names none, is in service, and nothing claims it
pub record MayStart (s : Rows) (c : StartSession) (e : Evse) : Type 0 where
  pub named : IsNamed c.evse_uid e.uid
  pub works : Works s e
  pub free : IsFree s (key e.uid)

-- an EVSE that the command may be about is in service, but none of those in service is held for the token or free
pub record IsOccupied (s : Rows) (sender : List ℕ) (c : StartSession) (l : Location) : Type 0 where
  pub service : HasService s l c.evse_uid
  pub none_held : NoneHeld s sender c l
  pub none_free : (f : Evse) (j : Connector) → IsPlace l c f j → Works s f → ¬ IsFree s (key f.uid)

-- the lines of the table: the first that applies decides. An EVSE that is held for the token goes before one that is
-- free. Of several that are held the one with the least key is taken, and of several that are free the first in the
-- order of the site line
pub data StartLine (site : Site) (s : Rows) (sender : List ℕ) (c : StartSession) (d : Decision) : Type 0 where
  Mismatched : IsMismatched sender c → d ≡ Refused 2001 → StartLine site s sender c d
  UnknownLocation : ¬ IsMismatched sender c → HasNoLocation site c.location_id → d ≡ Refused 2003 → StartLine site s sender c d
  NoPlace : (l : Location) → IsPlaced site sender c l → HasNoPlace l c → d ≡ Answered response.Rejected → StartLine site s sender c d
  Barred : (l : Location) (e : Evse) (k : Connector) → IsAtPlace site sender c l e k → IsBarred s.spent (key sender) c → d ≡ Answered response.Rejected → StartLine site s sender c d
  Inoperative : (l : Location) (e : Evse) (k : Connector) → MayTake site s sender c l e k → ¬ HasService s l c.evse_uid → d ≡ Resulted result.EvseInoperative →
      StartLine site s sender c d
  Occupied : (l : Location) (e : Evse) (k : Connector) → MayTake site s sender c l e k → IsOccupied s sender c l → d ≡ Resulted result.EvseOccupied →
      StartLine site s sender c d
  Held : (l : Location) (e : Evse) (k : Connector) → MayTake site s sender c l e k → Works s e → (x : Standing) → IsHeldFor s sender c.token l e x →
      IsLeastHeld s sender c l e → d ≡ Started (place_of e k) (Some x.id) → StartLine site s sender c d
  Free : (l : Location) (e : Evse) (k : Connector) → MayTake site s sender c l e k → Works s e → NoneHeld s sender c l → IsFree s (key e.uid) →
      IsFirst l (MayStart s c) e → d ≡ Started (place_of e k) None → StartLine site s sender c d
