-- The currencies of an operator's records, where its setup may have another one at each start (OCPI 2.2.1, CDRs: CDR
-- object; Sessions: Session object).
use Rattle.std.specs.Prelude.{◌≡◌, ℕ, List, [], ◌∷◌, Some}
use Rattle.std.specs.FinMap.{get}
use Rattle.ocpi_text.specs.Text.{key}
use Rattle.ocpi_types.specs.declared.cdrs.Cdr.{Cdr}
use Rattle.ocpi_types.specs.declared.rows.Row.{Row}
use Rattle.ocpi_types.specs.declared.sessions.Session.{Session}
use Rattle.ocpi_types.specs.declared.site.SiteLine.{SiteLine}
use Rattle.operator_rows.specs.Rows.{AreRowsOf}
use Rattle.operator_rows.specs.Sound.{IsConsistent}
use Rattle.operator_rows.specs.State.{State, opening}
use Rattle.operator_steps.specs.Events.{Event}
use Rattle.operator_laws.specs.Laws.{IsOfParty, Run}
use Rattle.operator_stored.specs.Making.{IsMadeOf}
use Rattle.session_laws.specs.Bills.{AreBilledOnce}
use Rattle.session_laws.specs.Pasts.{stored}

-- each COMPLETED session has one bill, as at any time, and each record is in the currency of its session
pub record AreInOwnCurrency (t : State) : Type 0 where
  pub billed : AreBilledOnce t
  pub own : (id : List ℕ) (x : Cdr) → get t.rows.charged.cdrs id ≡ Some x → (v : Session) → stored t (key x.session_id) ≡ Some v → x.currency ≡ v.currency

-- an operator is started under a setup: it has just the rows that were stored
pub record StartsUnder (line : SiteLine) (s t : State) : Type 0 where
  pub rows : List Row
  pub left : AreRowsOf rows s.rows
  pub made : IsMadeOf line rows t
  pub consistent : IsConsistent t

-- a setup, and the events under it
pub record Service : Type 0 where
  pub line : SiteLine
  pub events : List Event

-- one service after another: a start, and a run
abbrev pub Serves : State → List Service → State → Type 0
Serves s [] t = t ≡ s
Serves s (x ∷ xs) t = (u : State) × (v : State) × StartsUnder x.line s u × Run u x.events v × Serves v xs t

-- from the opening on, whatever setups the operator was started under
abbrev pub CurrenciesStay : Type 0
CurrenciesStay = (line : SiteLine) (es : List Event) (s : State) (xs : List Service) (t : State) → IsOfParty line → Run (opening line) es s → Serves s xs t → AreInOwnCurrency t
