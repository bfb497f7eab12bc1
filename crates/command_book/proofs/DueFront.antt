-- The front of the queue, in order, is what is due.
use Rattle.std.proofs.Common.{◌≡◌, ◌≤◌, ℕ, List, [], ◌++◌, refl, sym, ap, subst, ◌∙◌}
use Rattle.std.specs.Prelude.{Option, Some, None}
use Rattle.std.specs.Option.{option_map}
use Rattle.std.specs.List.Sorted.{IsSorted, IsPermutation}
use Rattle.std.specs.FinMap.{get, entries, entries_sorted}
use Rattle.std.proofs.lemmas.List.Sorted.{Contains-permutation, IsPermutation-sym}
use Rattle.tables.specs.Keys.{text_number_cmp, text_number_total, text_number_exact}
use Rattle.tables.specs.Queues.{due_front}
use Rattle.tables.specs.Tables.{HasNone}
use Rattle.tables.proofs.Options.{none_some, none_else}
use Rattle.tables.proofs.Entries.{listed, listed_only}
use Rattle.tables.proofs.DueFront.{OneMoment, taken, is_taken, taken_once, rise}
use Rattle.ocpi_types.specs.declared.stored.OpenCommand.{OpenCommand}
use Rattle.command_book.specs.Stored.{Request, OpenCommands}
use Rattle.command_book.specs.Queue.{deadline_cmp, Queue, IsQueue}
use Rattle.command_book.specs.Due.{AreDue, IsDue}
use Rattle.command_book.proofs.Queued.{deadline_total, deadline_exact}

deadline_stands : (o : Option OpenCommand) (d : ℕ) → option_map (λ (c : OpenCommand). c.deadline) o ≡ Some d → (c : OpenCommand) × (o ≡ Some c) × (c.deadline ≡ d)
deadline_stands None d h = none_some d h
deadline_stands (Some c) d h = (c, refl, cc)

module _ (queue : Queue) (pending : OpenCommands) (at : ℕ) (h : IsQueue queue pending) where
  -- what stands in the queue by a deadline that is over is due
  stands_due : (d : ℕ) (r : Request) → d ≤ at → get queue (d, r) ≡ Some tt → IsDue pending at r
  stands_due d r past has =
      let until = deadline_stands (get pending r) d ((h d r).0 has) in
      record { command = until.0; stands = until.1; past = subst (λ z. z ≤ at) (sym until.2) past }

  pub none_due : ((r : Request) → IsDue pending at r → ⊥) → HasNone deadline_cmp queue (λ q. q.0 ≤ at)
  none_due none q past = none_else (get queue q) (λ u has. none q.1 (stands_due q.0 q.1 past has))

  due : (requests : List Request) → IsPermutation (due_front at (entries queue)) requests → IsSorted text_number_cmp requests → AreDue pending at requests
  due requests moved up = record {
    exact = λ r. (
      λ i.
          let from = taken at (entries queue) r (Contains-permutation requests front r (IsPermutation-sym front requests moved) i) in
          stands_due from.0 r from.1 (listed_only deadline_total deadline_exact queue (from.0, r) tt from.2),
      λ is. Contains-permutation front requests r moved (is_taken text_number_total text_number_exact at (entries queue) (entries_sorted queue) is.command.deadline r is.past
          (listed deadline_total deadline_exact queue (is.command.deadline, r) tt ((h is.command.deadline r).1 (ap (λ (o : Option OpenCommand). option_map (λ (c : OpenCommand). c.deadline) o) is.stands)))),
    );
    in_order = rise text_number_total text_number_exact front requests (taken_once text_number_total text_number_exact at (entries queue) (entries_sorted queue) one) moved up;
  }
    where
      front : List Request
      front = due_front at (entries queue)

      one : OneMoment text_number_total text_number_exact at (entries queue)
      one d e r i j =
          let a = (h d r).0 (listed_only deadline_total deadline_exact queue (d, r) tt i) in
          let b = (h e r).0 (listed_only deadline_total deadline_exact queue (e, r) tt j) in
          let c : Some d ≡ Some e = sym a ∙ b in cc

  pub due_sorted : (before taken requests : List Request) → before ≡ [] → taken ≡ before ++ due_front at (entries queue) → IsPermutation taken requests → IsSorted text_number_cmp requests → AreDue pending at requests
  due_sorted before taken requests none is moved up = due requests (subst (λ l. IsPermutation l requests) (is ∙ ap (λ l. l ++ due_front at (entries queue)) none) moved) up
