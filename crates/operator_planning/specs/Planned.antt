-- What is planned of the acts that a line asks for, and why it is not.
use Rattle.std.specs.Prelude.{◌≡◌, ◌<◌, ℕ, ◌+◌, length, List, [], ◌∷◌, ◌++◌, Option, Some, None, ⊤}
use Rattle.ocpi_text.specs.Text.{key}
use Rattle.ocpi_text.specs.Whole.{max_whole}
use Rattle.ocpi_types.specs.declared.sessions.Session.{Session}
use Rattle.ocpi_types.specs.declared.stored.Push.TheVariants as push
use Rattle.command_book.specs.Stored as book
use Rattle.node_steps.specs.Acts.{Act, in_turn}
use Rattle.node_steps.specs.Drafts.{Step}
use Rattle.node_steps.specs.Peers.{IsPeer}
use Rattle.node_steps.specs.declared.fault.NodeFault.{NodeFault}
use Rattle.node_steps.specs.declared.fault.NodeFault.TheVariants.{NotForMe, UnknownOperator, UnknownToken, StampEnd, NumbersUsedUp, Memory}
use Rattle.outbox.specs.Pushes.{IsReplaced, subject}
use Rattle.operator_rows.specs.State.{State}
use Rattle.operator_rows.specs.Steps.{FullStep}
use Rattle.operator_steps.specs.declared.ending.Ending.{Ending}
use Rattle.operator_steps.specs.Acts.{spent, used}
use Rattle.operator_steps.specs.Ends.{ends_acts}
use Rattle.operator_steps.specs.Moves.{AreInRange, Work, step_of_acts}
use Rattle.operator_steps.specs.Sessions.{IsBegun, first_of, numbered_sessions, versioned}
use Rattle.operator_steps.specs.TickFacts.{IsLeftUnanswered}
use Rattle.operator_planning.specs.declared.sessions.Begun.{Begun}
use Rattle.operator_planning.specs.declared.sessions.Versioned.{Versioned}
use Rattle.session_tables.specs.declared.beginning.Beginning.{Beginning}

-- a step of acts, with which nothing that is awaited changes
abbrev pub quiet_step : Step → FullStep
quiet_step x = record { step = x; waits = [] }

-- why these acts are not done: they would take a counter past its last number, or else memory ran out
abbrev pub StopsActs : State → List Act → NodeFault → Type 0
StopsActs s acts NotForMe = ⊥
StopsActs s acts UnknownOperator = ⊥
StopsActs s acts UnknownToken = ⊥
StopsActs s acts StampEnd = ⊥
StopsActs s acts NumbersUsedUp = ¬ AreInRange s acts
StopsActs s acts Memory = AreInRange s acts

-- the step does acts that a line asks for
pub record PlansActs (Line : List Act → Type 0) (s : State) (x : Step) : Type 0 where
  pub acts : List Act
  pub line : Line acts
  pub in_range : AreInRange s acts
  pub step_is : x ≡ step_of_acts s acts

-- why what a line asks for is not done
pub record StopsLine (Line : List Act → Type 0) (s : State) (f : NodeFault) : Type 0 where
  pub acts : List Act
  pub line : Line acts
  pub stops : StopsActs s acts f

-- the version goes to the provider of its token, in place of the push of an older one, if there is one
pub record IsNewVersion (s : State) (v : Session) (x : Versioned) : Type 0 where
  pub version_is : x.version ≡ v
  pub of_provider : IsPeer s.providers v.cdr_token.party x.to
  pub replaces : IsReplaced s.rows.pushes (subject x.to (push.PutSession v)) x.older

-- the acts of a version, of which `last` is the number of the last request before it
abbrev pub version_acts : ℕ → ℕ → Versioned → List Act
version_acts at last x = versioned at last x.to x.older x.version

-- the session of number n that begins
pub record IsNewSession (s : State) (at n : ℕ) (b : Beginning) (x : Begun) : Type 0 where
  pub provider_is : x.provider ≡ key b.token.party
  pub used_is : x.reservation_id ≡ b.reservation_id
  pub first : IsNewVersion s (first_of s at n b) x.first

abbrev pub begun_acts : ℕ → ℕ → Begun → List Act
begun_acts at last x = used x.provider x.reservation_id ++ version_acts at last x.first

abbrev pub all_begun : ℕ → ℕ → List Begun → List Act
all_begun at last xs = in_turn (begun_acts at) last xs

-- the acts of a session of number n that begins, after these commands end and a reference of its provider is spent;
-- `last` is the number of the last request before them
abbrev pub begins_acts : ℕ → book.OpenCommands → ℕ → ℕ → List Ending → Option (List ℕ) → Begun → List Act
begins_acts at m last n ends reference x = numbered_sessions n ∷ ((ends_acts at m last ends ++ spent x.provider reference) ++ begun_acts at (last + length ends) x)

-- a session begins, after these commands end and a reference of its provider is spent
pub record BeginsWith (s : State) (at : ℕ) (ends : List Ending) (reference : Option (List ℕ)) (b : Beginning) (acts : List Act) : Type 0 where
  pub begun : List Act
  pub is_begun : IsBegun s at (s.rows.request + length ends) (s.rows.charged.last_session + 1) b begun
  pub acts_are : acts ≡ numbered_sessions (s.rows.charged.last_session + 1) ∷ ((ends_acts at s.rows.commands.pending s.rows.request ends ++ spent (key b.token.party) reference) ++ begun)

-- the sessions that begin where those authorizations get no answer, in this order
pub data AreBeginnings (s : State) (at : ℕ) : List ℕ → List Beginning → Type 0 where
  None_late : AreBeginnings s at [] []
  Late : (k : ℕ) (ks : List ℕ) (bs : List Beginning) → IsLeftUnanswered s at k None → AreBeginnings s at ks bs → AreBeginnings s at (k ∷ ks) bs
  Late_begins : (k : ℕ) (ks : List ℕ) (b : Beginning) (bs : List Beginning) → IsLeftUnanswered s at k (Some b) → AreBeginnings s at ks bs → AreBeginnings s at (k ∷ ks) (b ∷ bs)

-- and their first versions, numbered one after the other
pub data AreNewSessions (s : State) (at : ℕ) : ℕ → List Beginning → List Begun → Type 0 where
  No_session : (n : ℕ) → AreNewSessions s at n [] []
  Next_session : (n : ℕ) (b : Beginning) (bs : List Beginning) (x : Begun) (xs : List Begun) → IsNewSession s at (n + 1) b x → AreNewSessions s at (n + 1) bs xs →
      AreNewSessions s at n (b ∷ bs) (x ∷ xs)

-- so many sessions more would pass the last number, or memory ran out
abbrev pub CannotNumber : State → ℕ → NodeFault → Type 0
CannotNumber s more NotForMe = ⊥
CannotNumber s more UnknownOperator = ⊥
CannotNumber s more UnknownToken = ⊥
CannotNumber s more StampEnd = ⊥
CannotNumber s more NumbersUsedUp = (0 < more) × (max_whole < s.rows.charged.last_session + more)
CannotNumber s more Memory = ⊤

-- why what a line asks for is not done: acts, and changes of what is awaited
pub record StopsWork (Line : Work → Type 0) (s : State) (f : NodeFault) : Type 0 where
  pub work : Work
  pub line : Line work
  pub stops : StopsActs s work.acts f
