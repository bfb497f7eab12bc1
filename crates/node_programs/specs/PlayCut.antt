-- A line of `play` that is too long is refused whatever comes after its first bytes.
use Rattle.std.specs.Prelude.{ℕ, ◌≡◌, List, Option, None, Some, take}
use Rattle.std.proofs.Common.{sym, ap, subst, ◌∙◌}
use Rattle.json_text.specs.Fault.{◌>>=◌, Fails}
use Rattle.ocpi_json.specs.EventForms.{event_in, event_of_line}
use Rattle.ocpi_json.specs.SetupForms.{setup_in, setup_of_line}
use Rattle.line_runs.specs.declared.run.Turn.{Turn}
use Rattle.line_runs.specs.declared.lines.TheConstants.{KEPT_BYTES}
use Rattle.node_store.specs.declared.fault.StoreFault.{StoreFault}
use Rattle.program_lines.specs.Cut.{tree-cut}
use Rattle.node_keepers.specs.Keeping.{Keeping}
use Rattle.node_programs.specs.Play.{Counted, Playing, Stage, next_line, PlayLineGives, PlayTurn, Opened, Unkept, NoSetup, Happened, Lost, Starved, Unread}

setup-cut : (line : List ℕ) → setup_in (take KEPT_BYTES line) ≡ setup_in line
unfolding setup_in
setup-cut line = ap (λ t. t >>= setup_of_line) (tree-cut line)

event-cut : (line : List ℕ) → event_in (take KEPT_BYTES line) ≡ event_in line
unfolding event_in
event-cut line = ap (λ t. t >>= event_of_line) (tree-cut line)

turn-cut : {K : Type 0} (keeping : Keeping K) (may_refuse : ℕ → StoreFault → Type 0) (now : Option (Playing K)) (number : Option ℕ) (stop : Option StoreFault) (t : Stage K)
    (line : List ℕ) (turn : Turn) (out : List ℕ) → PlayTurn keeping may_refuse now number stop (take KEPT_BYTES line) turn out t → PlayTurn keeping may_refuse now number stop line turn out t
turn-cut k m None number stop t line turn out (Opened setup read kept are taken none next) =
    Opened setup (sym (setup-cut line) ∙ read) kept are taken none next
turn-cut k m None number stop t line turn out (Unkept setup read fault unopened ended none next) =
    Unkept setup (sym (setup-cut line) ∙ read) fault unopened ended none next
turn-cut k m None number stop t line turn out (NoSetup fault fails ended refused next) =
    NoSetup fault (subst (Fails fault) (setup-cut line) fails) ended refused next
turn-cut k m (Some now) number stop t line turn out (Happened event read o v gives kept takes taken lines next) =
    Happened event (sym (event-cut line) ∙ read) o v gives kept takes taken lines next
turn-cut k m (Some now) number stop t line turn out (Lost event read o v gives some fault kept refuses ended none next) =
    Lost event (sym (event-cut line) ∙ read) o v gives some fault kept refuses ended none next
turn-cut k m (Some now) number stop t line turn out (Starved event read refused written next) =
    Starved event (sym (event-cut line) ∙ read) refused written next
turn-cut k m (Some now) number stop t line turn out (Unread fault fails refused written next) =
    Unread fault (subst (Fails fault) (event-cut line) fails) refused written next

pub play_cut_alike : {K : Type 0} (keeping : Keeping K) (may_refuse : ℕ → StoreFault → Type 0) (s t : Counted K) (line : List ℕ) (turn : Turn) (out : List ℕ)
    → PlayLineGives keeping may_refuse s (take KEPT_BYTES line) turn out t → PlayLineGives keeping may_refuse s line turn out t
play_cut_alike keeping may_refuse s t line turn out gives =
    (turn-cut keeping may_refuse s.stage.playing (next_line s.line) s.stage.stop t.stage line turn out gives.0, gives.1)
