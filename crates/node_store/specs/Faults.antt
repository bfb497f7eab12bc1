-- How a refusal is written, what each call may refuse, and what is told of an error of the database.
use Rattle.std.specs.Prelude.{ℕ, suc, List, codes, Result, Ok, Err}
use Rattle.sqlite.specs.declared.error.Error.{Error}
use Rattle.sqlite.specs.declared.error.Error.TheVariants.{SqliteFailure}
use Rattle.sqlite.specs.declared.error.ErrorCode.TheVariants as code
use Rattle.node_store.specs.declared.fault.Cause.{Cause}
use Rattle.node_store.specs.declared.fault.Cause.TheVariants as cause
use Rattle.node_store.specs.declared.fault.StoreFault.{StoreFault}
use Rattle.node_store.specs.declared.fault.StoreFault.TheVariants.{Refused, BadRow, OldLayout, Memory}

abbrev pub fault_text : StoreFault → List ℕ
fault_text (Refused cause) = codes "1 Refused"
fault_text BadRow = codes "2 BadRow"
fault_text OldLayout = codes "3 OldLayout"
fault_text Memory = codes "4 Memory"

-- the number of calls that a keeper has refused, after a call that failed so
abbrev pub counted_fault : StoreFault → ℕ → ℕ
counted_fault (Refused cause) n = suc n
counted_fault BadRow n = n
counted_fault OldLayout n = n
counted_fault Memory n = n

-- the same, after a call that was answered so
abbrev pub counted : {X : Type 0} → Result X StoreFault → ℕ → ℕ
counted (Ok x) n = n
counted (Err e) n = counted_fault e n

-- the cause is one that is told of an error of the database (`fault_for`), and of nothing else
abbrev pub IsOfDatabase : Cause → Type 0
IsOfDatabase cause.AlreadyExists = ⊥
IsOfDatabase cause.FolderNotFound = ⊥
IsOfDatabase cause.NotFound = ⊥
IsOfDatabase cause.NotAFile = ⊥
IsOfDatabase cause.PermissionDenied = ⊥
IsOfDatabase cause.DatabaseBusy = Unit {0}
IsOfDatabase cause.CannotOpen = Unit {0}
IsOfDatabase cause.NotADatabase = Unit {0}
IsOfDatabase cause.StorageFull = Unit {0}
IsOfDatabase cause.Disk = Unit {0}
IsOfDatabase cause.Size = Unit {0}
IsOfDatabase cause.NotEmpty = ⊥
IsOfDatabase cause.NoKeeper = ⊥
IsOfDatabase cause.OpenedBefore = ⊥
IsOfDatabase cause.Other = Unit {0}

-- what a commit may refuse: what is told of an error of the database
abbrev pub IsCommitFault : StoreFault → Type 0
IsCommitFault (Refused cause) = IsOfDatabase cause
IsCommitFault BadRow = ⊥
IsCommitFault OldLayout = ⊥
IsCommitFault Memory = Unit {0}

-- what a keeper without a disk may refuse
abbrev pub IsListFault : StoreFault → Type 0
IsListFault (Refused cause) = ⊥
IsListFault BadRow = Unit {0}
IsListFault OldLayout = ⊥
IsListFault Memory = Unit {0}

-- what is told of an error of the database: a file that could not be opened, is in use, or is no store; a disk that is
-- full, that failed now, or that failed before; a text that is too large; want of memory; and any other as such
abbrev pub fault_for : Error → StoreFault
fault_for (SqliteFailure code.OutOfMemory) = Memory
fault_for (SqliteFailure code.CannotOpen) = Refused cause.CannotOpen
fault_for (SqliteFailure code.DatabaseBusy) = Refused cause.DatabaseBusy
fault_for (SqliteFailure code.NotADatabase) = Refused cause.NotADatabase
fault_for (SqliteFailure code.DatabaseCorrupt) = Refused cause.NotADatabase
fault_for (SqliteFailure code.DiskFull) = Refused cause.StorageFull
fault_for (SqliteFailure code.SystemIoFailure) = Refused cause.Disk
fault_for (SqliteFailure code.Closed) = Refused cause.Disk
fault_for (SqliteFailure code.TooBig) = Refused cause.Size
fault_for error = Refused cause.Other
