-- What a line of `play` gives, from what its parts give.
use Rattle.std.proofs.Common.{◌≡◌, ◌≢◌, ◌∙◌, ℕ, List, [], Option, Some, Result, Ok, IfErr, refl, ap, subst}
use Rattle.std.proofs.lemmas.Result.{err_from_is_err_and}
use Rattle.std.specs.Result.{IsErrAnd}
use Rattle.ocpi_json.specs.SetupForms.{setup_in}
use Rattle.ocpi_types.specs.declared.packet.Packet.{Packet}
use Rattle.ocpi_types.specs.declared.rows.Change.{Change}
use Rattle.ocpi_types.specs.declared.setup.Node.{Node}
use Rattle.node_store.specs.declared.fault.StoreFault.{StoreFault}
use Rattle.line_runs.specs.declared.run.Turn.TheVariants.{Taken}
use Rattle.world.specs.Seen.{told}
use Rattle.world.specs.declared.planned.Outcome.{Outcome}
use Rattle.world.specs.declared.planned.Outcome.TheVariants.{Stepped, Skipped, Refused}
use Rattle.world_steps.specs.World.{World, opened}
use Rattle.node_keepers.specs.Keeping.{AreOpened, AreUnopened, Keeping}
use Rattle.node_programs.specs.Play.{Opened, Playing, SetupTurn, changes_told, played_from}

-- a world was opened, and its keepers
pub opens : {K : Type 0} (keeping : Keeping K) (may_refuse : ℕ → StoreFault → Type 0) (stop : Option StoreFault) (line : List ℕ) (setup : List Node) (w : World) (p : Playing K) →
    setup_in line ≡ Ok setup → w ≡ opened setup → p.setup ≡ setup → p.world ≡ w → AreOpened keeping setup p.kept →
    SetupTurn keeping may_refuse stop line Taken [] (record { playing = Some p; stop = stop })
opens {K} keeping may_refuse stop line setup w p read is same world are =
    let from : p ≡ played_from setup p.kept = λ i. record { setup = same i; world = (world ∙ is) i; kept = p.kept } in
    Opened setup read p.kept are refl refl (ap (λ (q : Playing K). record { playing = Some q; stop = stop }) from)

-- an event that was not stepped has changed no row
pub told_changes : (o : Outcome) (packets : List Packet) (changes : List Change) → (o ≢ Stepped → changes ≡ []) → changes ≡ changes_told (told o packets changes)
told_changes Stepped packets changes idle = refl
told_changes Skipped packets changes idle = idle (λ e. absurd cc)
told_changes (Refused fault) packets changes idle = idle (λ e. absurd cc)

-- what a `?` returns is the fault that it passes on
pub err_one : {T E : Type 0} (P : E → Type 0) (r : Result T E) (f : E) → IsErrAnd r (λ e. e ≡ f) → P f → IfErr r P
err_one P r f is h = let p = err_from_is_err_and r is in rw (p.1, p.2) h

-- the nodes of a setup that is this one got no keepers
pub unopened_in : {K : Type 0} (keeping : Keeping K) (may_refuse : ℕ → StoreFault → Type 0) (setup shown : List Node) (fault : StoreFault) →
    shown ≡ setup → AreUnopened keeping may_refuse shown fault → AreUnopened keeping may_refuse setup fault
unopened_in keeping may_refuse setup shown fault is = subst (λ (nodes : List Node). AreUnopened keeping may_refuse nodes fault) is
