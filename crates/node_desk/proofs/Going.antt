-- What a call makes of a log: it goes on by an entry, or stays as it was.
use Rattle.std.proofs.Common.{Result, Ok, Err, IfErr, arith, ◌≡◌, ◌∙◌, ℕ, ◌+◌, ◌<◌, ◌≤◌, ◌++◌, ◌∷◌, [], List, inl, refl, sym, ap, subst, append_assoc, append-nil, length, length-append}
use Rattle.stored_nodes.specs.Keepers.{Keeper}
use Rattle.node_desk.specs.Faults.{Behind, Full, IsNotCalled, NotEntered, of_cell}
use Rattle.node_desk.specs.Logs.{GoesOn, Log, log_of}
use Rattle.node_desk.specs.declared.fault.Refusal.{Refusal}
use Rattle.receipts.specs.declared.receipt.Receipt.{Receipt}
use Rattle.node_desk.specs.declared.fault.DeskFault.{DeskFault}
use Rattle.node_desk.specs.declared.fault.DeskFault.TheVariants.{Memory, Rewound, TraceFull}
use Rattle.node_cells.specs.Cells as cells
use Rattle.node_cells.specs.Cells.{Cell, Enters, IsNotEntered, StoredStep, most_entries, stored_of}
use Rattle.history_laws.specs.Replays as entries
use Rattle.history_laws.specs.Replays.{EntryStep, Replays}
use Rattle.histories.specs.declared.entry.Entry.{Entry}
use Rattle.node_cells.specs.declared.fault.CellFault.{CellFault}
use Rattle.node_cells.specs.declared.fault.CellFault.TheVariants as cell
use Rattle.node_laws.proofs.Runs.{run_join}
use Rattle.ocpi_types.specs.declared.node_events.NodeEventKind.{NodeEventKind}
use Rattle.ocpi_types.specs.declared.packet.Packet.{Packet}

step_of : {K : Type 0} (keeper : Keeper K) (old new : Cell K) (e : Entry) → StoredStep keeper (stored_of old) e (stored_of new) → EntryStep old.state e new.state
step_of keeper old new e (cells.Does x did commits) = entries.Does x did
step_of keeper old new e (cells.Idle idle same) = entries.Idle idle

-- an entry more
pub goes_on : {K : Type 0} (keeper : Keeper K) (before : Log) (old new : Cell K) (e : Entry) (n m : ℕ) → GoesOn before (log_of old) n → Enters keeper old e new → m ≡ n + 1 → GoesOn before (log_of new) m
goes_on keeper before old new e n m on enters more = record {
  later = on.later ++ e ∷ [];
  history = enters.adds.history ∙ ap (λ (l : List Entry). l ++ e ∷ []) on.history ∙ append_assoc before.history on.later (e ∷ []);
  replays = run_join EntryStep before.state old.state new.state on.later (e ∷ []) on.replays (new.state, step_of keeper old new e enters.adds.step, refl);
  number_is = length-append on.later (e ∷ []) ∙ ap (λ (k : ℕ). k + 1) on.number_is ∙ sym more;
  party = enters.party ∙ on.party;
  first = enters.first ∙ on.first;
  fresh = enters.fresh ∙ on.fresh;
}

-- nothing has gone on yet
pub stays : (before : Log) → GoesOn before before 0
stays before = record {
  later = [];
  history = sym (append-nil before.history);
  replays = refl;
  number_is = refl;
  party = refl;
  first = refl;
  fresh = refl;
}

module _ {K : Type 0} (keeper : Keeper K) (old new : Cell K) where
  same_log : (k : NodeEventKind) (f : CellFault) → IsNotEntered keeper old k f new → log_of new ≡ log_of old
  same_log k f not = let a = not.party in let b = not.first in let d = not.history in let e = not.state in let f = not.fresh in cc

  -- an event that was not entered
  pub still : (before : Log) (seen : ℕ) (k : NodeEventKind) (fault : DeskFault) (n : ℕ) → GoesOn before (log_of old) n → IsNotCalled keeper old seen k fault new → GoesOn before (log_of new) n
  still before seen k fault n on (Full many is same) = subst (λ (c : Cell K). GoesOn before (log_of c) n) (sym same) on
  still before seen k fault n on (Behind few ahead is same) = subst (λ (c : Cell K). GoesOn before (log_of c) n) (sym same) on
  still before seen k fault n on (NotEntered few behind f is not) = subst (λ (l : Log). GoesOn before l n) (sym (same_log k f not)) on

  -- a copy of the event was entered
  pub entered_as : (a b : NodeEventKind) (packets : List Packet) → Enters keeper old (record { event = a; packets = packets }) new → a ≡ b → Enters keeper old (record { event = b; packets = packets }) new
  entered_as a b packets enters same = subst (λ (k : NodeEventKind). Enters keeper old (record { event = k; packets = packets }) new) same enters

  -- there was no memory for a copy of the event
  pub no_copy : (k : NodeEventKind) → (f : CellFault) × (Memory ≡ of_cell f) × IsNotEntered keeper old k f old
  no_copy k = (cell.Memory, refl, record { why = inl refl; state = refl; history = refl; party = refl; first = refl; fresh = refl })

  -- the cell did not enter it
  pub not_entered : (seen : ℕ) (k : NodeEventKind) (fault : DeskFault) → length old.history < most_entries → seen ≤ length old.history →
      (f : CellFault) × (fault ≡ of_cell f) × IsNotEntered keeper old k f new → IsNotCalled keeper old seen k fault new
  not_entered seen k fault few behind (f, is, not) = NotEntered few behind f is not

  -- and so it was refused
  pub refused_call : (seen : ℕ) (k : NodeEventKind) (r : Result Receipt Refusal) → length old.history < most_entries → seen ≤ length old.history →
      IfErr r (λ e. (f : CellFault) × (e.fault ≡ of_cell f) × IsNotEntered keeper old k f new) → IfErr r (λ e. IsNotCalled keeper old seen k e.fault new)
  refused_call seen k (Ok receipt) few behind why = tt
  refused_call seen k (Err refusal) few behind why = not_entered seen k refusal.fault few behind why

  -- what is said of a cell is said of an equal one
  pub entered_at : (inside : Cell K) (e : Entry) → Enters keeper inside e new → old ≡ inside → Enters keeper old e new
  entered_at inside e enters same = subst (λ (c : Cell K). Enters keeper c e new) (sym same) enters

  pub refused_at : (inside : Cell K) (seen own : ℕ) (k : NodeEventKind) (fault : DeskFault) → IsNotCalled keeper inside own k fault new → old ≡ inside → seen ≡ own → IsNotCalled keeper old seen k fault new
  refused_at inside seen own k fault not same alike =
      subst (λ (c : Cell K). IsNotCalled keeper c seen k fault new) (sym same) (subst (λ (n : ℕ). IsNotCalled keeper inside n k fault new) (sym alike) not)

-- which fault is told of a caller that is ahead
not_rewound : (f : CellFault) (n : ℕ) → of_cell f ≡ Rewound n → ⊥
not_rewound cell.TraceFull n same = cc
not_rewound (cell.Store f) n same = cc
not_rewound (cell.Core f) n same = cc
not_rewound cell.Memory n same = cc

same_number : (n m : ℕ) → Rewound n ≡ Rewound m → m ≡ n
same_number n m same = cc

pub only_behind : {K : Type 0} (keeper : Keeper K) (old new : Cell K) (seen : ℕ) (k : NodeEventKind) (fault : DeskFault) → IsNotCalled keeper old seen k fault new → (n : ℕ) → fault ≡ Rewound n → n < seen
only_behind keeper old new seen k fault (Full many is same) n told = let both : TraceFull ≡ Rewound n = sym is ∙ told in absurd (cc)
only_behind keeper old new seen k fault (Behind few ahead is same) n told = let same : n ≡ length old.history = same_number (length old.history) n (sym is ∙ told) in omega (arith, ahead, same)
only_behind keeper old new seen k fault (NotEntered few behind f is not) n told = absurd (not_rewound f n (sym is ∙ told))
