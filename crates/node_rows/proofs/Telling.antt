-- What the rows that are held tell of their node.
use Rattle.std.proofs.Common.{◌≡◌, List, [], ◌∷◌, refl, sym, ap, subst, ◌∙◌}
use Rattle.std.specs.Prelude.{Contains, Some}
use Rattle.std.specs.FinMap.{empty, get-empty}
use Rattle.std.proofs.lemmas.Option.{same_Some}
use Rattle.tables.specs.Keys.{text_pair_cmp}
use Rattle.tables.proofs.Elements.{in_front}
use Rattle.tables.proofs.Options.{not_both}
use Rattle.ocpi_types.specs.declared.rows.Row.{Row}
use Rattle.ocpi_types.specs.declared.setup.Node.{Node}
use Rattle.ocpi_types.specs.declared.setup.Node.TheVariants as node
use Rattle.ocpi_types.specs.declared.site.SiteLine.{SiteLine}
use Rattle.node_store.specs.Contents.{Content, rows_of}
use Rattle.node_store.proofs.KeptRows.{no_rows, rows_are}
use Rattle.operator_laws.proofs.nodes.NodeSteps as operator_nodes
use Rattle.operator_rows.specs.Rows as operator_rows
use Rattle.operator_rows.specs.Sound as operator_sound
use Rattle.operator_rows.specs.State as operator
use Rattle.operator_steps.specs.Events as operator_events
use Rattle.operator_stored.specs.Making as operator_making
use Rattle.operator_stored.proofs.Putting.{none_put}
use Rattle.operator_stored.proofs.RowsTell.{rows_tell}
use Rattle.provider_laws.proofs.nodes.NodeSteps as provider_nodes
use Rattle.provider_rows.specs.Rows as provider_rows
use Rattle.provider_rows.specs.Sound as provider_sound
use Rattle.provider_rows.specs.State as provider
use Rattle.provider_steps.specs.Events as provider_events
use Rattle.provider_stored.specs.Making as provider_making
use Rattle.provider_stored.proofs.Made.{made_of_none}
use Rattle.provider_stored.proofs.Told.{tell_all}
use Rattle.stored_laws.specs.Nodes.{CanStartAgain, IsOfOpening, IsSound}
use Rattle.world_steps.specs.Steps as steps
use Rattle.world_steps.specs.Steps.{AtOperator, AtProvider}
use Rattle.world_steps.specs.World.{NodeState, Operates, Provides, opening_of, operators_of, providers_of}
use Rattle.node_rows.specs.Holds.{HasRow, HoldsRows, StoresAlike}
use Rattle.node_rows.specs.Laws.{EmptyIsHeld, HeldRowsStartAgain, RowsAreOfOne, SerialsAreInOrder, SerialsFollow}
use Rattle.node_rows.proofs.Held.{some_of}
use Rattle.node_rows.proofs.Readings.{IsKept, rows_kept}

-- ---- the empty content

abbrev bare : Content
bare = empty

nothing_kept : (r : Row) → IsKept bare r → ⊥
nothing_kept r h = not_both h.text _ (get-empty text_pair_cmp _) h.stands

no_row_in : (rows : List Row) → rows_of bare ≡ Some rows → rows ≡ []
no_row_in [] is = refl
no_row_in (r ∷ rows) is = absurd (nothing_kept r ((rows_kept bare (r ∷ rows) is r).0 (in_front r rows)))

bare_rows : rows_of bare ≡ Some []
bare_rows = let (rows, is) = some_of (rows_of bare) (rows_are bare no_rows) in is ∙ ap (λ z. Some z) (no_row_in rows is)

openings : (setup : List Node) (n : Node) → HoldsRows bare (opening_of setup n)
openings setup (node.Operator party site) =
    let line : SiteLine = record { at = 0; parties = record { operator = party; providers = providers_of setup }; site = site } in
    ([], bare_rows, (none_put line (operator.opening line) refl).has_rows)
openings setup (node.Provider party) =
    let peers : provider.Peering = record { provider = party; operators = operators_of setup } in
    ([], bare_rows, (made_of_none peers (provider.opening peers) refl).has_rows)

none_stands : (n : NodeState) → HoldsRows bare n → (r : Row) → HasRow n r → ⊥
none_stands (Operates s) (rows, is, all) r has = nothing_kept r ((rows_kept bare rows is r).0 ((all.exact r).1 has))
none_stands (Provides s) (rows, is, all) r has = nothing_kept r ((rows_kept bare rows is r).0 ((all.exact r).1 has))

pub empty_is_held : EmptyIsHeld
empty_is_held = record { openings = openings; only = none_stands }

-- ---- rows of one opening

-- a content is read in one way
one_reading : (c : Content) (rows others : List Row) → rows_of c ≡ Some rows → rows_of c ≡ Some others → others ≡ rows
one_reading c rows others is also = same_Some others rows (sym also ∙ is)

pub rows_are_of_one : RowsAreOfOne
rows_are_of_one (Operates first) (Operates s) (Operates t) c of_first also sound other (rows, is, all) (others, are, too) =
    let same : s.rows ≡ t.rows = rows_tell rows s t sound.sound other.sound all (subst (λ l. operator_rows.AreRowsOf l t.rows) (one_reading c rows others is are) too) in
    ap Operates (of_first ∙ ap (λ (r : operator.Rows). operator_sound.with_rows r first) same ∙ sym also)
rows_are_of_one (Provides first) (Provides s) (Provides t) c of_first also sound other (rows, is, all) (others, are, too) =
    let same : s.rows ≡ t.rows = tell_all rows s t sound.1 other.1 all (subst (λ l. provider_rows.AreRowsOf l t.rows) (one_reading c rows others is are) too) in
    ap Provides (of_first ∙ ap (λ (r : provider.Rows). provider_sound.with_rows r first) same ∙ sym also)
rows_are_of_one (Operates first) (Provides s) m c of_first also sound other held too = absurd of_first
rows_are_of_one (Provides first) (Operates s) m c of_first also sound other held too = absurd of_first
rows_are_of_one (Operates first) (Operates s) (Provides t) c of_first also sound other held too = absurd also
rows_are_of_one (Provides first) (Provides s) (Operates t) c of_first also sound other held too = absurd also

-- ---- a node that is made again of what is held

operators : (line : SiteLine) (c : Content) (rows : List Row) (s : operator.State) → CanStartAgain (Operates s) → IsOfOpening (Operates (operator.opening line)) (Operates s) →
    HoldsRows c (Operates s) → rows_of c ≡ Some rows → operator_making.StartsAgain line rows s
operators line c rows s can of_first (others, are, all) is = record {
  of_site = of_first;
  has_rows = subst (λ l. operator_rows.AreRowsOf l s.rows) (one_reading c rows others is are) all;
  whole = can.whole;
}

providers : (peers : provider.Peering) (c : Content) (rows : List Row) (s : provider.State) → CanStartAgain (Provides s) → IsOfOpening (Provides (provider.opening peers)) (Provides s) →
    HoldsRows c (Provides s) → rows_of c ≡ Some rows → provider_making.StartsAgain peers rows s
providers peers c rows s can of_first (others, are, all) is = record {
  with_peers = of_first;
  has_rows = subst (λ l. provider_rows.AreRowsOf l s.rows) (one_reading c rows others is are) all;
  whole = can.whole;
}

pub held_rows_start_again : HeldRowsStartAgain
held_rows_start_again = record { operators = operators; providers = providers }

-- ---- serials

operator_counts : (s t : operator.State) (e : operator_events.Event) → operator_sound.IsConsistent s → operator_events.Happens s e t → SerialsFollow (Operates s) (AtOperator e) (Operates t)
operator_counts s t e fine happens =
    let counts = (operator_nodes.steps_are_node_steps s.providers s t e (λ x i. i) fine happens).counts in
    record { last = counts.serial; each = λ k q at. (counts.each k q at).serial }

provider_counts : (s t : provider.State) (e : provider_events.Event) → provider_sound.IsConsistent s → provider_events.Happens s e t → SerialsFollow (Provides s) (AtProvider e) (Provides t)
provider_counts s t e fine happens =
    let counts = (provider_nodes.steps_are_node_steps s.operators s t e (λ x i. i) fine happens).counts in
    record { last = counts.serial; each = λ k q at. (counts.each k q at).serial }

pub serials_are_in_order : SerialsAreInOrder
serials_are_in_order (Operates s) (Operates t) (AtOperator e) sound (steps.Done by) = operator_counts s t e sound (operator_events.Done by)
serials_are_in_order (Operates s) (Operates t) (AtOperator e) sound (steps.Restarted now is) = operator_counts s t e sound (operator_events.Restarted now is)
serials_are_in_order (Provides s) (Provides t) (AtProvider e) sound (steps.Done by) = provider_counts s t e sound.0 (provider_events.Done by)
serials_are_in_order (Provides s) (Provides t) (AtProvider e) sound (steps.Restarted now is) = provider_counts s t e sound.0 (provider_events.Restarted now is)
serials_are_in_order (Operates s) (Provides t) (AtOperator e) sound does = absurd does
serials_are_in_order (Operates s) m (AtProvider e) sound does = absurd does
serials_are_in_order (Provides s) (Operates t) (AtProvider e) sound does = absurd does
serials_are_in_order (Provides s) m (AtOperator e) sound does = absurd does
