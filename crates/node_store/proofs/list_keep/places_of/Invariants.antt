use Rattle.std.proofs.Common.{◌≡◌, ◌++◌, map}
use Rattle.node_store.proofs.list_keep.places_of.Given as goal

abbrev pub invariant-loop-place : goal.invariant-loop-place
invariant-loop-place l = l.places.items ++ map (λ e. e.0) l.place-iterator ≡ map (λ e. e.0) l.initial.place-iterator
