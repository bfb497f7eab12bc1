-- The parties whose packets are taken as they came, as words name them.
use Rattle.std.specs.Prelude.{◌≡◌, ℕ, List, [], ◌∷◌, Ok, Contains}
use Rattle.std.specs.Borrow.{Bor}
use Rattle.ocpi_text.specs.Party.{party_at}
use Rattle.ocpi_text.specs.Text.{key}
use Rattle.ocpi_types.specs.Setups.{party_of}
use Rattle.ocpi_types.specs.declared.setup.Node.{Node}
use Rattle.replays.specs.Transcripts.{Transcript, teller}
use Rattle.replays.specs.declared.transcript.Opening.{Opening}
use Rattle.weave_runs.specs.declared.fault.GivenFault.{GivenFault}
use Rattle.weave_runs.specs.declared.fault.GivenFault.TheVariants as fault
use Rattle.weave_runs.specs.declared.given.NotGiven.{NotGiven}
use Rattle.weave_runs.specs.declared.given.NotGiven.TheVariants.{Memory, Wrong}

-- a node of the setup spells the party so
pub record IsSpelledBy (setup : List Node) (party spelling : List ℕ) : Type 0 where
  pub node : Node
  pub within : Contains setup node
  pub same : key (party_of node) ≡ key party
  pub is : spelling ≡ party_of node

-- and none is of it
abbrev pub HasNoNode : List Node → List ℕ → Type 0
HasNoNode setup party = (n : Node) → Contains setup n → key (party_of n) ≡ key party → ⊥

-- the word is a party, that of the node, in whichever case
pub record NamesNode (word : List ℕ) (n : Node) : Type 0 where
  pub party : List ℕ
  pub is_party : party_at word ≡ Ok party
  pub same : key (party_of n) ≡ key party

-- some run was opened whose setup has the node
pub record HasNode (told : List Transcript) (n : Node) : Type 0 where
  pub of : Transcript
  pub among : Contains told of
  pub opening : Opening
  pub opened : Contains of.openings opening
  pub within : Contains opening.setup n

-- what is told is of that party, too
abbrev pub HasFile : List Transcript → List ℕ → Type 0
HasFile told party = (t : Transcript) × Contains told t × (key (teller t) ≡ key party)

-- ---- one word

-- it names a node of one of the setups, whose party has that spelling, and nothing that is told is of it
pub record IsGiven (told : List Transcript) (word party : List ℕ) : Type 0 where
  pub node : Node
  pub among : HasNode told node
  pub names : NamesNode word node
  pub spelled : party ≡ party_of node
  pub alone : HasFile told party → ⊥

-- it names no node of any setup
abbrev pub IsUnknown : List Transcript → List ℕ → Type 0
IsUnknown told word = (n : Node) → HasNode told n → NamesNode word n → ⊥

-- it names one of which something is told
pub record IsTaken (told : List Transcript) (word : List ℕ) : Type 0 where
  pub node : Node
  pub among : HasNode told node
  pub names : NamesNode word node
  pub has_file : HasFile told (party_of node)

-- the fault says so of it
abbrev pub IsWrong : List Transcript → List ℕ → GivenFault → Type 0
IsWrong told word (fault.Unknown w) = (w.now ≡ word) × IsUnknown told word
IsWrong told word (fault.HasFile w) = (w.now ≡ word) × IsTaken told word

-- ---- all words

-- the parties are those that the words name, in their order
abbrev pub AreGiven : List Transcript → List (Bor (List ℕ)) → List (List ℕ) → Type 0
AreGiven told [] [] = Unit {0}
AreGiven told [] (p ∷ ps) = ⊥
AreGiven told (w ∷ ws) [] = ⊥
AreGiven told (w ∷ ws) (p ∷ ps) = IsGiven told w.now p × AreGiven told ws ps

-- nothing that is told is of a given party
abbrev pub HaveNoFile : List Transcript → List (List ℕ) → Type 0
HaveNoFile told given = (party : List ℕ) → Contains given party → HasFile told party → ⊥

-- the fault says so of one of the words
abbrev pub IsWrongAmong : List Transcript → List (Bor (List ℕ)) → GivenFault → Type 0
IsWrongAmong told words f = (w : Bor (List ℕ)) × Contains words w × IsWrong told w.now f

-- or memory ran out
abbrev pub IfWrong : List Transcript → List (Bor (List ℕ)) → NotGiven → Type 0
IfWrong told words (Wrong f) = IsWrongAmong told words f
IfWrong told words Memory = Unit {0}
