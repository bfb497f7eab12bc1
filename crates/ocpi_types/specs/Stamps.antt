-- When a record was last updated (OCPI 2.2.1, Sessions: Session object, last_updated; Tokens: Token object,
-- last_updated).
use Rattle.std.specs.Prelude.{ℕ, ◌+◌, max}

-- when a version is updated that is made at a moment, behind one that was updated at `before`: at that moment, or a
-- millisecond after that one where this is later
abbrev pub next_stamp : ℕ → ℕ → ℕ
next_stamp at before = max at (before + 1)
