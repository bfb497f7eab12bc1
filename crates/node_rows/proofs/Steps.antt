-- What a step of a node makes of a content that holds its rows.
use Rattle.std.proofs.Common.{◌≡◌, List, [], All, sym, ap, subst}
use Rattle.ocpi_types.specs.declared.rows.Change.{Change}
use Rattle.ocpi_types.specs.declared.rows.Row.{Row}
use Rattle.node_steps.specs.Acts.{Act}
use Rattle.node_steps.specs.Changes.{AreApart}
use Rattle.node_steps.specs.Drafts.{Step}
use Rattle.node_store.specs.Contents.{Content, IsReadAgain, changed_all}
use Rattle.operator_laws.proofs.events.Doing.{asked_may as operator_asked}
use Rattle.operator_rows.proofs.RowChanges as operator_changes
use Rattle.operator_rows.specs.Rows as operator_rows
use Rattle.operator_rows.specs.Sound as operator_sound
use Rattle.operator_rows.specs.State as operator
use Rattle.operator_rows.specs.Steps as operator_steps
use Rattle.operator_steps.specs.Events as operator_events
use Rattle.operator_steps.specs.Moves as operator_moves
use Rattle.provider_rows.proofs.RowChanges as provider_changes
use Rattle.provider_rows.specs.Rows as provider_rows
use Rattle.provider_rows.specs.Sound as provider_sound
use Rattle.provider_rows.specs.State as provider
use Rattle.provider_rows.specs.Steps as provider_steps
use Rattle.provider_steps.specs.Events as provider_events
use Rattle.provider_steps.specs.Moves as provider_moves
use Rattle.provider_steps.proofs.OrderSteps.{orders}
use Rattle.provider_steps.proofs.PacketSteps.{packets}
use Rattle.provider_steps.proofs.TickSteps.{ticks}
use Rattle.provider_steps.proofs.TokenSteps.{tokens}
use Rattle.world_steps.specs.Steps as steps
use Rattle.world_steps.specs.Steps.{AtOperator, AtProvider, OperatorDoes, ProviderDoes}
use Rattle.world_steps.specs.World.{Operates, Provides}
use Rattle.node_rows.specs.Holds.{HoldsRows}
use Rattle.node_rows.specs.Laws.{ChangesAreHeld, PlansAreHeld}
use Rattle.node_rows.proofs.Held.{HoldsAll, changes_hold}

-- ---- an operator

abbrev OperatorHas : operator.State → Row → Type 0
OperatorHas s r = operator_rows.HasRow s.rows r

of_operator : (c : Content) (s : operator.State) → HoldsRows c (Operates s) → HoldsAll c (OperatorHas s)
of_operator c s (rows, is, all) = (rows, is, record { exact = all.exact; apart = all.apart })

to_operator : (c : Content) (s : operator.State) → HoldsAll c (OperatorHas s) → HoldsRows c (Operates s)
to_operator c s (rows, is, all) = (rows, is, record { exact = all.exact; apart = all.apart })

operator_held : (c : Content) (s t : operator.State) (xs : List Change) → HoldsRows c (Operates s) → AreApart xs → operator_rows.AreChanges s.rows xs t.rows → All IsReadAgain xs →
    HoldsRows (changed_all c xs) (Operates t)
operator_held c s t xs held apart changes again = to_operator (changed_all c xs) t (changes_hold c (OperatorHas s) (OperatorHas t) xs (of_operator c s held) apart again changes)

-- ---- a provider

abbrev ProviderHas : provider.State → Row → Type 0
ProviderHas s r = provider_rows.HasRow s.rows r

of_provider : (c : Content) (s : provider.State) → HoldsRows c (Provides s) → HoldsAll c (ProviderHas s)
of_provider c s (rows, is, all) = (rows, is, record { exact = all.exact; apart = all.apart })

to_provider : (c : Content) (s : provider.State) → HoldsAll c (ProviderHas s) → HoldsRows c (Provides s)
to_provider c s (rows, is, all) = (rows, is, record { exact = all.exact; apart = all.apart })

provider_held : (c : Content) (s t : provider.State) (xs : List Change) → HoldsRows c (Provides s) → AreApart xs → provider_rows.AreChanges s.rows xs t.rows → All IsReadAgain xs →
    HoldsRows (changed_all c xs) (Provides t)
provider_held c s t xs held apart changes again = to_provider (changed_all c xs) t (changes_hold c (ProviderHas s) (ProviderHas t) xs (of_provider c s held) apart again changes)

-- where what holds at all times holds, what an input asks for may be carried out
provider_asked : (s : provider.State) (i : provider_events.Input) (acts : List Act) → provider_sound.IsConsistent s → provider_events.Asks s i acts →
    provider_moves.AreInRange s acts → provider_steps.MayFollow s (provider_moves.step_of_acts s acts)
provider_asked s (provider_events.Arrives at q) acts fine line range = packets at q s acts fine line range
provider_asked s (provider_events.Submits at to order) acts fine line range = orders at to order s acts fine line range
provider_asked s (provider_events.Gives at t) acts fine line range = tokens at t s acts fine line range
provider_asked s (provider_events.Ticks at) acts fine line range = ticks at s acts fine line range
provider_asked s provider_events.Restarts acts fine line range = absurd line
provider_asked s (provider_events.Reopens p) acts fine line range = absurd line

-- ---- steps that are planned

operator_plan : (c : Content) (s : operator.State) (x : Step) → operator_sound.IsSound s → HoldsRows c (Operates s) → operator_steps.MayFollow s x → All IsReadAgain x.changes →
    HoldsRows (changed_all c x.changes) (Operates (operator_steps.after x s))
operator_plan c s x sound held may again = operator_held c s (operator_steps.after x s) x.changes held may.apart (operator_changes.row_changes x.changes s sound may.apart may.may) again

provider_plan : (c : Content) (s : provider.State) (x : Step) → HoldsRows c (Provides s) → provider_steps.MayFollow s x → All IsReadAgain x.changes →
    HoldsRows (changed_all c x.changes) (Provides (provider_steps.after x s))
provider_plan c s x held may again = provider_held c s (provider_steps.after x s) x.changes held may.apart (provider_changes.row_changes x.changes s may.apart may.may) again

pub plans_are_held : PlansAreHeld
plans_are_held = record { operators = operator_plan; providers = provider_plan }

-- ---- steps of a node

operator_does : (c : Content) (s t : operator.State) (e : operator_events.Event) → operator_sound.IsConsistent s → HoldsRows c (Operates s) → OperatorDoes s e t → All IsReadAgain e.changes →
    HoldsRows (changed_all c e.changes) (Operates t)
operator_does c s t e fine held (steps.Done by) again =
    let x = operator_moves.step_of_work s by.work in
    let is : e.changes ≡ x.step.changes = ap (λ (o : operator_moves.Out). o.changes) by.out_is in
    let state : t ≡ operator_steps.after_full x s = ap (λ (o : operator_moves.Out). o.state) by.out_is in
    subst (λ l. HoldsRows (changed_all c l) (Operates t)) (sym is)
    (subst (λ (u : operator.State). HoldsRows (changed_all c x.step.changes) (Operates u)) (sym state)
    (operator_plan c s x.step fine.sound held (operator_asked s e.input by.work fine by.line by.in_range).step (subst (All IsReadAgain) is again)))
operator_does c s t e fine held (steps.Restarted now is) again =
    let none : e.changes ≡ [] = ap (λ (o : operator_moves.Out). o.changes) is in
    let state : t ≡ operator_steps.restarted s = ap (λ (o : operator_moves.Out). o.state) is in
    subst (λ l. HoldsRows (changed_all c l) (Operates t)) (sym none) (subst (λ (u : operator.State). HoldsRows c (Operates u)) (sym state) held)

provider_does : (c : Content) (s t : provider.State) (e : provider_events.Event) → provider_sound.IsConsistent s → HoldsRows c (Provides s) → ProviderDoes s e t → All IsReadAgain e.changes →
    HoldsRows (changed_all c e.changes) (Provides t)
provider_does c s t e fine held (steps.Done by) again =
    let x = provider_moves.step_of_acts s by.acts in
    let is : e.changes ≡ x.changes = ap (λ (o : provider_moves.Out). o.changes) by.out_is in
    let state : t ≡ provider_steps.after x s = ap (λ (o : provider_moves.Out). o.state) by.out_is in
    subst (λ l. HoldsRows (changed_all c l) (Provides t)) (sym is)
    (subst (λ (u : provider.State). HoldsRows (changed_all c x.changes) (Provides u)) (sym state)
    (provider_plan c s x held (provider_asked s e.input by.acts fine by.line by.in_range) (subst (All IsReadAgain) is again)))
provider_does c s t e fine held (steps.Restarted now is) again =
    let none : e.changes ≡ [] = ap (λ (o : provider_moves.Out). o.changes) is in
    let state : t ≡ provider_steps.restarted s = ap (λ (o : provider_moves.Out). o.state) is in
    subst (λ l. HoldsRows (changed_all c l) (Provides t)) (sym none) (subst (λ (u : provider.State). HoldsRows c (Provides u)) (sym state) held)

pub changes_are_held : ChangesAreHeld
changes_are_held c (Operates s) (Operates t) (AtOperator e) sound held step again = operator_does c s t e sound held step again
changes_are_held c (Provides s) (Provides t) (AtProvider e) sound held step again = provider_does c s t e sound.0 held step again
changes_are_held c (Operates s) (Provides t) (AtOperator e) sound held step again = absurd step
changes_are_held c (Operates s) m (AtProvider e) sound held step again = absurd step
changes_are_held c (Provides s) (Operates t) (AtProvider e) sound held step again = absurd step
changes_are_held c (Provides s) m (AtOperator e) sound held step again = absurd step
