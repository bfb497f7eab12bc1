-- The keepers of a world's nodes: how they are opened, what an event makes of them, and what is known where one
-- refuses.
use Rattle.std.specs.Prelude.{◌≡◌, ◌≢◌, ◌⊎◌, ℕ, ◌≤◌, List, [], ◌∷◌, None, Some, length, slice_get, slice_set}
use Rattle.std.specs.FinMap.{empty}
use Rattle.ocpi_text.specs.Text.{key}
use Rattle.ocpi_types.specs.Setups.{node_key}
use Rattle.ocpi_types.specs.declared.rows.Change.{Change}
use Rattle.ocpi_types.specs.declared.rows.Row.{Row}
use Rattle.ocpi_types.specs.declared.setup.Node.{Node}
use Rattle.node_store.specs.Contents.{Content, changed_all, line_of, rows_of}
use Rattle.node_store.specs.Faults.{IsCommitFault, counted_fault}
use Rattle.node_store.specs.declared.fault.Cause.TheVariants.{NoKeeper, NotEmpty}
use Rattle.node_store.specs.declared.fault.StoreFault.{StoreFault}
use Rattle.node_store.specs.declared.fault.StoreFault.TheVariants.{Refused, BadRow, OldLayout, Memory}
use Rattle.node_keepers.specs.declared.keeping.KeptNode.{KeptNode}

-- what is said of keepers of any type K: what each keeps, which is said where it is honest, and how many calls it has
-- refused
pub record Keeping (K : Type 0) : Type 1 where
  pub content : K → Content
  pub is_honest : K → Type 0
  pub refusals : K → ℕ

abbrev pub keeping_of : {K : Type 0} → (K → Content) → (K → Type 0) → (K → ℕ) → Keeping K
keeping_of content is_honest refusals = record { content = content; is_honest = is_honest; refusals = refusals }

-- ---- opening

-- it keeps nothing
abbrev pub IsEmpty : {K : Type 0} → Keeping K → K → Type 0
IsEmpty keeping k = keeping.is_honest k → keeping.content k ≡ empty

-- the keeper of a node that was just opened
pub record IsOpened {K : Type 0} (keeping : Keeping K) (node : Node) (n : KeptNode K) : Type 0 where
  pub party : n.party ≡ node_key node
  pub keeps_nothing : IsEmpty keeping n.keep

-- one for each node, in their order
abbrev pub AreOpened : {K : Type 0} → Keeping K → List Node → List (KeptNode K) → Type 0
AreOpened keeping [] [] = Unit {0}
AreOpened keeping [] (n ∷ ns) = ⊥
AreOpened keeping (x ∷ xs) [] = ⊥
AreOpened keeping (x ∷ xs) (n ∷ ns) = IsOpened keeping x n × AreOpened keeping xs ns

-- a keeper refused to tell what it keeps
pub record CannotLoad {K : Type 0} (keeping : Keeping K) (fault : StoreFault) (before after : K) : Type 0 where
  pub counted : keeping.refusals after ≡ counted_fault fault (keeping.refusals before)
  pub bad : keeping.is_honest after → fault ≡ BadRow → (rows_of (keeping.content before) ≡ None) ⊎ (line_of (keeping.content before) ≡ None)
  pub layout : fault ≢ OldLayout

-- a keeper keeps a row, or a line took hold in it
pub record KeepsSomething {K : Type 0} (keeping : Keeping K) (k : K) : Type 0 where
  pub rows : List Row
  pub line : ℕ
  pub are : keeping.is_honest k → rows_of (keeping.content k) ≡ Some rows
  pub number : keeping.is_honest k → line_of (keeping.content k) ≡ Some line
  pub some : (rows ≢ []) ⊎ (line ≢ 1)

-- Why the node at that place got no keeper: none could be opened, for a fault that the opening at that place may have;
-- or one was opened, but could not tell what it keeps; or it kept a row already, or the number of a line.
pub data IsUnopened {K : Type 0} (keeping : Keeping K) (may_refuse : ℕ → StoreFault → Type 0) (place : ℕ) (fault : StoreFault) : Type 0 where
  Not_opened : may_refuse place fault → IsUnopened keeping may_refuse place fault
  Not_loaded : (before after : K) → CannotLoad keeping fault before after → IsUnopened keeping may_refuse place fault
  Not_new : (k : K) → KeepsSomething keeping k → fault ≡ Refused NotEmpty → IsUnopened keeping may_refuse place fault

-- one of a setup's nodes, whose places are counted from 1, got no keeper, or memory ran out for the list of them
abbrev pub AreUnopened : {K : Type 0} → Keeping K → (ℕ → StoreFault → Type 0) → List Node → StoreFault → Type 0
AreUnopened keeping may_refuse setup fault =
    ((place : ℕ) × (1 ≤ place) × (place ≤ length setup) × IsUnopened keeping may_refuse place fault) ⊎ (fault ≡ Memory)

-- ---- events

-- the keeper of that party's node, and its place
pub record IsKeeperOf {K : Type 0} (kept : List (KeptNode K)) (party : List ℕ) (i : ℕ) (n : KeptNode K) : Type 0 where
  pub here : slice_get kept i ≡ Some n
  pub same : n.party ≡ key party

-- a keeper that is honest afterwards was so before, these changes are made in it, and it has refused no further call
pub record Takes {K : Type 0} (keeping : Keeping K) (changes : List Change) (before after : K) : Type 0 where
  pub earlier : keeping.is_honest after → keeping.is_honest before
  pub makes : keeping.is_honest after → keeping.content after ≡ changed_all (keeping.content before) changes
  pub counted : keeping.refusals after ≡ keeping.refusals before

-- The changes of an event of that party's node are made in its keeper, and all others are as they were. Where there
-- are none, all are.
pub data KeeperTakes {K : Type 0} (keeping : Keeping K) (party : List ℕ) (changes : List Change) (kept next : List (KeptNode K)) : Type 0 where
  Made : (i : ℕ) (n : KeptNode K) → IsKeeperOf kept party i n → (k : K) → Takes keeping changes n.keep k
      → next ≡ slice_set kept i (record { party = n.party; keep = k }) → KeeperTakes keeping party changes kept next
  None_made : changes ≡ [] → next ≡ kept → KeeperTakes keeping party changes kept next

-- A keeper refused a commit with that fault: its count of refusals is raised as the fault says. One that is honest
-- afterwards was so before, and keeps what it kept.
pub record Refuses {K : Type 0} (keeping : Keeping K) (fault : StoreFault) (before after : K) : Type 0 where
  pub counted : keeping.refusals after ≡ counted_fault fault (keeping.refusals before)
  pub is_of_commit : IsCommitFault fault
  pub earlier : keeping.is_honest after → keeping.is_honest before
  pub keeps : keeping.is_honest after → keeping.content after ≡ keeping.content before

-- The keeper of that party's node refused, and all others are as they were; or no node of that party has one, and all
-- are.
pub data KeeperRefuses {K : Type 0} (keeping : Keeping K) (party : List ℕ) (fault : StoreFault) (kept next : List (KeptNode K)) : Type 0 where
  Not_made : (i : ℕ) (n : KeptNode K) → IsKeeperOf kept party i n → (k : K) → Refuses keeping fault n.keep k
      → next ≡ slice_set kept i (record { party = n.party; keep = k }) → KeeperRefuses keeping party fault kept next
  No_keeper : ((i : ℕ) (n : KeptNode K) → IsKeeperOf kept party i n → ⊥) → fault ≡ Refused NoKeeper
      → next ≡ kept → KeeperRefuses keeping party fault kept next
