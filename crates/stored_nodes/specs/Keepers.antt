-- What is said of a keeper of any type: what it keeps, which is said where it is honest; how many calls it has refused;
-- and what is kept where a stop comes.
use Rattle.std.specs.Prelude.{◌≡◌, ◌≢◌, ◌⊎◌, ℕ, List, [], Option, IfSome, All}
use Rattle.ocpi_types.specs.declared.rows.Change.{Change}
use Rattle.node_store.specs.Contents.{Content, IsLineNumber, IsReadAgain, changed_all, marked}

pub record Keeper (K : Type 0) : Type 1 where
  pub content : K → Content
  pub is_honest : K → Type 0
  pub refusals : K → ℕ
  pub may_leave : K → Content → Type 0

abbrev pub keeper_of : {K : Type 0} → (K → Content) → (K → Type 0) → (K → ℕ) → (K → Content → Type 0) → Keeper K
keeper_of content is_honest refusals may_leave = record { content = content; is_honest = is_honest; refusals = refusals; may_leave = may_leave }

-- a stop leaves just what it keeps, as of one that was just opened
abbrev pub IsSettled : {K : Type 0} → Keeper K → K → Type 0
IsSettled keeper k = keeper.is_honest k → (c : Content) → keeper.may_leave k c → c ≡ keeper.content k

-- Another keeper took its place, which keeps the same and has refused no further call; a stop leaves no more than
-- before. It is the same one, or that one after it was read.
pub record KeepsOn {K : Type 0} (keeper : Keeper K) (before after : K) : Type 0 where
  pub earlier : keeper.is_honest after → keeper.is_honest before
  pub same : keeper.is_honest after → keeper.content after ≡ keeper.content before
  pub stops : keeper.is_honest after → (c : Content) → keeper.may_leave after c → keeper.may_leave before c

-- the number of a line that can take hold, where one is told
abbrev pub IsLine : Option ℕ → Type 0
IsLine line = IfSome line IsLineNumber

-- It took these changes, which can be read again, with the number of their line, where one is told; and a stop leaves
-- just them.
pub record Takes {K : Type 0} (keeper : Keeper K) (line : Option ℕ) (changes : List Change) (before after : K) : Type 0 where
  pub earlier : keeper.is_honest after → keeper.is_honest before
  pub makes : keeper.is_honest after → keeper.content after ≡ marked line (changed_all (keeper.content before) changes)
  pub again : All IsReadAgain changes
  pub is_line : IsLine line
  pub counted : keeper.refusals after ≡ keeper.refusals before
  pub settled : IsSettled keeper after

-- An event's changes were committed, with the number of its line: where there are none, the keeper was not asked.
pub data Commits {K : Type 0} (keeper : Keeper K) (line : Option ℕ) (changes : List Change) (before after : K) : Type 0 where
  Nothing : changes ≡ [] → after ≡ before → Commits keeper line changes before after
  Taken : changes ≢ [] → Takes keeper line changes before after → Commits keeper line changes before after

-- It was asked to take changes and did not: it keeps what it kept, and a stop leaves what it left before, or what the
-- changes make of that with the number of their line, and then they can be read again. `rise` is by how much its count
-- of refusals rose: by 1 where it refused, and not at all where memory ran out for it.
pub record Declines {K : Type 0} (keeper : Keeper K) (line : Option ℕ) (changes : List Change) (rise : ℕ → ℕ) (before after : K) : Type 0 where
  pub earlier : keeper.is_honest after → keeper.is_honest before
  pub same : keeper.is_honest after → keeper.content after ≡ keeper.content before
  pub is_line : IsLine line
  pub counted : keeper.refusals after ≡ rise (keeper.refusals before)
  pub stops : keeper.is_honest after → (c : Content) → keeper.may_leave after c →
      keeper.may_leave before c ⊎ ((c ≡ marked line (changed_all (keeper.content before) changes)) × All IsReadAgain changes)
