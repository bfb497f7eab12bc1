-- What comes of a plan, and one event of a world.
use Rattle.std.proofs.Common.{◌≡◌, ◌≢◌, ℕ, List, [], ◌∷◌, ◌++◌, drop, get_or, length, refl, sym, ap, subst, ◌∙◌}
use Rattle.std.specs.Prelude.{Result, Ok, Err, None, Some, OnErr, Option, option_map, slice_get, slice_set}
use Rattle.std.proofs.Math.Seq.{map-set_same}
use Rattle.std.proofs.lemmas.List.{drop_at, map-set}
use Rattle.std.proofs.lemmas.Option.{same_Some, slice_get-get_or, slice_get-map, slice_get_read, slice_get_within}
use Rattle.node_core.proofs.Doing as doing
use Rattle.node_core.specs.Inputs.{Gets}
use Rattle.node_core.specs.States.{state_of}
use Rattle.node_core.specs.Works as nodes
use Rattle.node_core.specs.Works.{IsWork, MayDo, changes_by, packets_by, versions_by}
use Rattle.node_core.specs.declared.input.NodeInput.{NodeInput}
use Rattle.node_core.specs.declared.work.NodeWork.{NodeWork}
use Rattle.node_laws.proofs.Runs.{run_join}
use Rattle.node_steps.specs.declared.fault.NodeFault.{NodeFault}
use Rattle.ocpi_text.specs.Text.{key}
use Rattle.ocpi_types.specs.declared.events.Event.{Event}
use Rattle.ocpi_types.specs.declared.events.EventKind.{EventKind}
use Rattle.ocpi_types.specs.declared.events.EventKind.TheVariants as kind
use Rattle.ocpi_types.specs.declared.rows.Change.{Change}
use Rattle.stored_laws.specs.Laws.{OperatorsAreWhole, ProvidersAreWhole}
use Rattle.stored_laws.specs.Nodes.{IsWhole}
use Rattle.world.specs.Deliveries.{IsPlaceOf}
use Rattle.world.specs.Seen.{packets_sent, place_seen, places_seen, sent_from, told, told_in}
use Rattle.world.specs.State.{names_of}
use Rattle.world.specs.Works.{AsksFor, Brings, IsIdle, IsPlanned, place_after}
use Rattle.world.specs.declared.place.Place as declared
use Rattle.world.specs.declared.planned.Outcome as outcomes
use Rattle.world.specs.declared.planned.Outcome.TheVariants as outcome
use Rattle.world.specs.declared.planned.EventPlan.TheVariants.{Acts, Idle}
use Rattle.world.specs.declared.planned.Sending.{Sending}
use Rattle.world.specs.declared.planned.Told.{Told}
use Rattle.world_laws.specs.Later.{IsLater}
use Rattle.world_laws.specs.Laws.{IsReached, IsRight, WorldsGoOn}
use Rattle.world_steps.specs.Network.{Input}
use Rattle.world_steps.specs.Steps as steps
use Rattle.world_steps.specs.Steps.{Does, Gives, IsForNone, Loses, NoNode, NothingReaches, Passes, PlaceStep, Refuses, WorldRun, WorldStep, changes_of, input_of}
use Rattle.world_steps.specs.World.{IsAt, NodeState, Operates, Place, Provides, World, opened}
use Rattle.world_steps.proofs.Places.{of_mapped, set_same}
use Rattle.world.proofs.Names.{name_of}

-- what the node is asked for by what an event brings
pub asks_for : (w : World) (party : List ℕ) (n : NodeState) (k : EventKind) (i : NodeInput) (x : NodeWork) → Brings w party k i → IsWork n i x → IsPlanned w party n k (Acts x)
asks_for w party n k i x brings h = record { input = i; brings = brings; is_work = h }

pub passes : (w : World) (party : List ℕ) (n : NodeState) (k : EventKind) (i : NodeInput) → k ≢ kind.Refused → Brings w party k i → ((x : Input) → Gets n i x → ⊥) →
    IsPlanned w party n k (Idle outcome.Skipped)
passes w party n k i taken brings none = record { taken = taken; nothing = brings.nothing n none }

pub refuses : (w : World) (party : List ℕ) (n : NodeState) (k : EventKind) (i : NodeInput) (fault : NodeFault) → Brings w party k i → nodes.Refuses n i fault →
    IsPlanned w party n k (Idle (outcome.Refused fault))
refuses w party n k i fault brings h = record { input = h.input; reaches = brings.reaches n h.input h.gets; refuses = h.refuses; other = h.other }

-- the place of a party, as it is seen
seen_at : (ps : List declared.Place) (party : List ℕ) (i : ℕ) (x : declared.Place) → IsPlaceOf ps party i x → IsAt (places_seen ps) party i (place_seen x)
seen_at ps party i x at = record { here = slice_get-map place_seen ps i ∙ ap (option_map place_seen) at.here; same = at.same }

-- each node of a world that is reached is whole
pub is_whole : OperatorsAreWhole → ProvidersAreWhole → (ps : List declared.Place) (party : List ℕ) (i : ℕ) (x : declared.Place) → IsReached (places_seen ps) → IsPlaceOf ps party i x →
    IsWhole (state_of x.node)
is_whole operators providers ps party i x reached at = by (state_of x.node) refl
  where
    by : (n : NodeState) → state_of x.node ≡ n → IsWhole n
    by (Operates s) is = operators (places_seen ps) reached (key x.party) (place_seen x) s (record { number = i; here = (seen_at ps party i x at).here; party = refl; node = is })
    by (Provides s) is = providers (places_seen ps) reached (key x.party) (place_seen x) s (record { number = i; here = (seen_at ps party i x at).here; party = refl; node = is })

-- there is no node of the party
pub none_gives : (ps : List declared.Place) (e : Event) → ((i : ℕ) (x : declared.Place) → IsPlaceOf ps e.node i x → ⊥) → Gives (places_seen ps) e steps.Skipped (places_seen ps)
none_gives ps e none = Passes (NoNode (λ i p at.
    let (x, here, is) = of_mapped place_seen ps i p at.here in
    none i x (record { here = here; same = subst (λ (z : Place). key z.party ≡ key e.node) (sym is) at.same }))) refl refl

-- the event leads to no work
pub idle_gives : (ps : List declared.Place) (e : Event) (i : ℕ) (x : declared.Place) (o : outcomes.Outcome) → IsPlaceOf ps e.node i x → IsIdle (places_seen ps) x.party (state_of x.node) e.kind o →
    Gives (places_seen ps) e (told o [] []) (places_seen ps)
idle_gives ps e i x outcome.Stepped at h = Loses i (place_seen x) (seen_at ps e.node i x at) h refl refl
idle_gives ps e i x outcome.Skipped at h = Passes (NothingReaches i (place_seen x) (seen_at ps e.node i x at) h.taken h.nothing) refl refl
idle_gives ps e i x (outcome.Refused fault) at h = Refuses i (place_seen x) h.input fault (seen_at ps e.node i x at) h.reaches h.refuses h.other refl refl

-- the node may do what it is asked for
pub may_do : (w : World) (party : List ℕ) (n : NodeState) (k : EventKind) (x : NodeWork) → AsksFor w party n k x → MayDo n x
may_do w party n k x h = doing.may_do n h.input x h.is_work

-- the event leads to work
pub work_gives : (ps : List declared.Place) (e : Event) (i : ℕ) (x y : declared.Place) (d : NodeWork) → IsPlaceOf ps e.node i x → AsksFor (places_seen ps) x.party (state_of x.node) e.kind d →
    place_seen y ≡ place_after d (place_seen x) → Gives (places_seen ps) e (steps.Stepped (packets_by d) (changes_by d)) (places_seen (slice_set ps i y))
work_gives ps e i x y d at h is =
    let does = doing.does (state_of x.node) h.input d h.is_work in
    let p = place_seen x in
    Does i p (place_seen y) does.event (seen_at ps e.node i x at) (h.brings.reaches (state_of x.node) (input_of does.event) does.gets)
    (subst (PlaceStep p does.event) (sym is) (record { step = does.step; party = refl; sent = ap (λ (l : List _). p.sent ++ l) (sym does.packets); versions = ap (λ (l : List _). p.versions ++ l) (sym does.versions) }))
    (sym (ap (λ l. steps.Stepped l (changes_of does.event)) does.packets ∙ ap (steps.Stepped (packets_by d)) does.changes))
    (map-set place_seen ps i y)

-- the place that was read is the party's
pub place_here : (ps : List declared.Place) (party : List ℕ) (i : ℕ) (p x : declared.Place) → IsPlaceOf ps party i p → x ≡ get_or ps i x → IsPlaceOf ps party i x
place_here ps party i p x at is =
    let here = slice_get_read ps (length ps) i x refl (slice_get_within ps i p at.here) is in
    record { here = here; same = ap (λ (z : declared.Place). key z.party) (same_Some x p (sym here ∙ at.here)) ∙ at.same }

-- what is told where there is no work
pub told_idle : (w : World) (t : Told) (o : outcomes.Outcome) → t.outcome ≡ o → t.sending ≡ None → t.changes.items ≡ [] → told_in w t ≡ told o [] []
told_idle w t o is no_packets no_changes =
    ap (λ (z : outcomes.Outcome). told z (packets_sent w t.sending) t.changes.items) is
    ∙ (ap (λ (z : Option Sending). told o (packets_sent w z) t.changes.items) no_packets ∙ ap (λ (z : List Change). told o [] z) no_changes)

-- and where there is
pub told_work : (ps : List declared.Place) (i from : ℕ) (y z : declared.Place) (d : NodeWork) → slice_get ps i ≡ Some y → from ≡ length y.sent.items → place_seen z ≡ place_after d (place_seen y) →
    sent_from from (slice_get (places_seen (slice_set ps i z)) i) ≡ packets_by d
told_work ps i from y z d here len is =
    ap (sent_from from) (slice_get-map place_seen (slice_set ps i z) i ∙ ap (option_map place_seen) (set_same ps i y z here))
    ∙ (ap (λ (p : Place). drop from p.sent) is ∙ drop_at y.sent.items (packets_by d) from (sym len))

pub unchanged : (ps : List declared.Place) (i : ℕ) (y z : declared.Place) → y ≡ get_or ps i y → place_seen z ≡ place_seen y → places_seen (slice_set ps i z) ≡ places_seen ps
unchanged ps i y z is same = map-set_same place_seen ps i z y (same ∙ ap place_seen is)

pub on_err_always : {T E P : Type 0} (r : Result T E) → P → OnErr r P
on_err_always (Ok x) h = tt
on_err_always (Err e) h = h

-- no event changes whose nodes there are
pub names_kept : (u v : World) (e : Event) (o : steps.Outcome) → Gives u e o v → names_of v ≡ names_of u
names_kept u v e o (Passes none is same) = ap names_of same
names_kept u v e o (Refuses i p x fault at reaches declines other is same) = ap names_of same
names_kept u v e o (Loses i p at refused is same) = ap names_of same
names_kept u v e o (Does i p q x at reaches step is same) =
    let there : p ≡ get_or u i p = same_Some p (get_or u i p) (sym at.here ∙ slice_get-get_or u i p (slice_get_within u i p at.here)) in
    ap names_of same ∙ map-set_same name_of u i q p (ap key step.party ∙ ap name_of there)

-- a run goes on by one event
pub run_more : (w u v : World) (es : List Event) (e : Event) (o : steps.Outcome) → WorldRun w es u → Gives u e o v → WorldRun w (es ++ e ∷ []) v
run_more w u v es e o run gives = run_join WorldStep w u v es (e ∷ []) run (v, (o, gives), refl)

pub reached_more : (u v : World) (e : Event) (o : steps.Outcome) → IsReached u → Gives u e o v → IsReached v
reached_more u v e o reached gives = record {
  setup = reached.setup;
  is_setup = reached.is_setup;
  events = reached.events ++ e ∷ [];
  run = run_more (opened reached.setup) u v reached.events e o reached.run gives;
}

-- what holds after one event, by what holds after many
pub one_event : WorldsGoOn → (u v : World) (e : Event) (o : steps.Outcome) → IsReached u → Gives u e o v → IsRight v × IsLater u v
one_event go_on u v e o reached gives = let on = go_on u v (e ∷ []) reached (v, (o, gives), refl) in (on.1, on.2)
