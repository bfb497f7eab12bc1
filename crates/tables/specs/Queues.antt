-- Queues: tables of moments and keys, in which what is due first stands first.
use Rattle.std.specs.Prelude.{ℕ, nat_le, List, map, take_while}

-- the keys at the front of a queue, up to the first whose moment is behind the one that is given
abbrev pub due_front : {K : Type 0} → ℕ → List ((ℕ × K) × Unit {0}) → List K
due_front at queue = map (λ e. e.0.1) (take_while (λ e. nat_le e.0.0 at) queue)
