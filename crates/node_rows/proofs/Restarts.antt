-- Nodes that store alike.
use Rattle.std.proofs.Common.{◌≡◌, ℕ, List, [], refl, sym, ap, subst, ◌∙◌}
use Rattle.std.specs.Prelude.{Some}
use Rattle.node_store.specs.Contents.{Content}
use Rattle.operator_rows.specs.Rows as operator_rows
use Rattle.operator_rows.specs.State as operator
use Rattle.operator_rows.specs.Steps as operator_steps
use Rattle.operator_rows.specs.Stored as operator_stored
use Rattle.provider_rows.specs.Rows as provider_rows
use Rattle.provider_rows.specs.State as provider
use Rattle.provider_rows.specs.Steps as provider_steps
use Rattle.provider_rows.specs.Stored as provider_stored
use Rattle.stored_laws.specs.Nodes.{restarted}
use Rattle.stored_laws.proofs.Openings.{operator_left, operator_with, provider_left, provider_with}
use Rattle.world_steps.specs.Steps.{AtOperator, AtProvider, NodeEvent, NodeStep, changes_of}
use Rattle.world_steps.specs.World.{NodeState, Operates, Provides}
use Rattle.node_rows.specs.Holds.{HoldsRows, StoresAlike}
use Rattle.node_rows.specs.Laws.{AreClasses, RestartsAreHeld}

-- ---- what is held

same_operators : (s t : operator.State) → Operates s ≡ Operates t → s ≡ t
same_operators s t is = cc

same_providers : (s t : provider.State) → Provides s ≡ Provides t → s ≡ t
same_providers s t is = cc

alike : (c : Content) (n m : NodeState) → StoresAlike n m → HoldsRows c n → HoldsRows c m
alike c (Operates s) (Operates t) same (rows, is, all) =
    (rows, is, subst (operator_rows.AreRowsOf rows) (ap (λ (u : operator.State). u.rows) (same_operators (operator_steps.restarted s) (operator_steps.restarted t) same)) all)
alike c (Provides s) (Provides t) same (rows, is, all) =
    (rows, is, subst (provider_rows.AreRowsOf rows) (ap (λ (u : provider.State). u.rows) (same_providers (provider_steps.restarted s) (provider_steps.restarted t) same)) all)
alike c (Operates s) (Provides t) same held = absurd (cc)
alike c (Provides s) (Operates t) same held = absurd (cc)

-- ---- a step that changes no row

unchanged : (n m : NodeState) (x : NodeEvent) → NodeStep n x m → changes_of x ≡ [] → StoresAlike n m
unchanged (Operates s) (Operates t) (AtOperator e) does none =
    ap Operates (sym (operator_left s t e does ∙ ap (λ l. operator_with s (operator_stored.changed_all l s.rows)) none))
unchanged (Provides s) (Provides t) (AtProvider e) does none =
    ap Provides (sym (provider_left s t e does ∙ ap (λ l. provider_with s (provider_stored.changed_all l s.rows)) none))
unchanged (Operates s) (Provides t) (AtOperator e) does none = absurd does
unchanged (Operates s) m (AtProvider e) does none = absurd does
unchanged (Provides s) (Operates t) (AtProvider e) does none = absurd does
unchanged (Provides s) m (AtOperator e) does none = absurd does

-- a restart empties nothing more the second time
twice : (n : NodeState) → StoresAlike n (restarted n)
twice (Operates s) = refl
twice (Provides s) = refl

pub restarts_are_held : RestartsAreHeld
restarts_are_held = record { alike = alike; by_steps = unchanged; by_restarts = twice }

pub alike_are_classes : AreClasses
alike_are_classes = record { same = λ n. refl; back = λ n m h. sym h; through = λ n m k h g. h ∙ g }
