use Rattle.std.proofs.Common.{◌∙◌, ap, rules, subst, sym}
use Rattle.std.specs.Prelude.{Some}
use Rattle.std.specs.List.Sorted.{IsStrictlySortedBy}
use Rattle.tables.proofs.Options.{on_err}
use Rattle.sorted_lists.proofs.Places.{at_of, found_at, gap_of, looked_between, looked_over, none_at, put_last, same_keys, sorted_between}
use Rattle.sorted_lists.proofs.slots.set.Goals as goal

pub returns-in_err-push_back-in-Err-clause-absent : goal.returns-in_err-push_back-in-Err-clause-absent
returns-in_err-push_back-in-Err-clause-absent g c = on_err _ (none_at g.met.K.Ord.total g.met.K.TableKey.exact c.args.key c.args.slots.now.items c.in-Err.place (gap_of g.K.Ord.cmp c.args.key c.args.slots.now.items c.in-Err.place c.in-Err.ensures))

pub returns-in_err-insert-in-Err-2-clause-absent : goal.returns-in_err-insert-in-Err-2-clause-absent
returns-in_err-insert-in-Err-2-clause-absent g c = on_err _ (none_at g.met.K.Ord.total g.met.K.TableKey.exact c.args.key c.args.slots.now.items c.in-Err-2.place (gap_of g.K.Ord.cmp c.args.key c.args.slots.now.items c.in-Err-2.place c.in-Err-2.ensures))

pub returns-in-Ok-clause-ordered : goal.returns-in-Ok-clause-ordered
returns-in-Ok-clause-ordered g c = rw c.replace.ensures.after
    (subst (IsStrictlySortedBy g.K.Ord.cmp) (sym (same_keys g.K.Ord.cmp c.args.key c.args.value c.args.slots.now.items c.in-Ok.place (at_of g.K.Ord.cmp c.args.key c.args.slots.now.items c.in-Ok.place c.in-Ok.ensures))) c.requires)

pub returns-in-Ok-clause-value : goal.returns-in-Ok-clause-value
returns-in-Ok-clause-value g c = ap (λ e. Some e.1) (c.replace.ensures.value ∙ c.index_mut.ensures.value)
    ∙ sym (found_at g.met.K.Ord.total g.met.K.TableKey.exact c.args.key c.args.slots.now.items c.in-Ok.place c.index_mut.result.now c.requires (at_of g.K.Ord.cmp c.args.key c.args.slots.now.items c.in-Ok.place c.in-Ok.ensures))

pub returns-in-Ok-clause-updates : goal.returns-in-Ok-clause-updates
returns-in-Ok-clause-updates g c = rw c.replace.ensures.after
    (looked_over g.met.K.Ord.total g.met.K.TableKey.exact c.args.key c.args.value c.args.slots.now.items c.in-Ok.place c.requires (at_of g.K.Ord.cmp c.args.key c.args.slots.now.items c.in-Ok.place c.in-Ok.ensures))

pub returns-in_ok-push_back-in-Err-clause-ordered : goal.returns-in_ok-push_back-in-Err-clause-ordered
returns-in_ok-push_back-in-Err-clause-ordered g c =
    rw (put_last c.args.key c.args.value c.args.slots.now.items c.push_back.new.self.items c.in-Err.place c.in_ok-push_back-in-Err.ensures.items (search rules)) (sorted_between g.met.K.Ord.total c.args.key c.args.value c.args.slots.now.items c.in-Err.place c.requires (gap_of g.K.Ord.cmp c.args.key c.args.slots.now.items c.in-Err.place c.in-Err.ensures))

pub returns-in_ok-push_back-in-Err-clause-value : goal.returns-in_ok-push_back-in-Err-clause-value
returns-in_ok-push_back-in-Err-clause-value g c = sym (none_at g.met.K.Ord.total g.met.K.TableKey.exact c.args.key c.args.slots.now.items c.in-Err.place (gap_of g.K.Ord.cmp c.args.key c.args.slots.now.items c.in-Err.place c.in-Err.ensures))

pub returns-in_ok-push_back-in-Err-clause-updates : goal.returns-in_ok-push_back-in-Err-clause-updates
returns-in_ok-push_back-in-Err-clause-updates g c =
    rw (put_last c.args.key c.args.value c.args.slots.now.items c.push_back.new.self.items c.in-Err.place c.in_ok-push_back-in-Err.ensures.items (search rules)) (looked_between g.met.K.Ord.total g.met.K.TableKey.exact c.args.key c.args.value c.args.slots.now.items c.in-Err.place (gap_of g.K.Ord.cmp c.args.key c.args.slots.now.items c.in-Err.place c.in-Err.ensures))

pub returns-in_ok-insert-in-Err-2-clause-ordered : goal.returns-in_ok-insert-in-Err-2-clause-ordered
returns-in_ok-insert-in-Err-2-clause-ordered g c = rw c.in_ok-insert-in-Err-2.ensures.items
    (sorted_between g.met.K.Ord.total c.args.key c.args.value c.args.slots.now.items c.in-Err.place c.requires (gap_of g.K.Ord.cmp c.args.key c.args.slots.now.items c.in-Err.place c.in-Err.ensures))

pub returns-in_ok-insert-in-Err-2-clause-value : goal.returns-in_ok-insert-in-Err-2-clause-value
returns-in_ok-insert-in-Err-2-clause-value g c = sym (none_at g.met.K.Ord.total g.met.K.TableKey.exact c.args.key c.args.slots.now.items c.in-Err.place (gap_of g.K.Ord.cmp c.args.key c.args.slots.now.items c.in-Err.place c.in-Err.ensures))

pub returns-in_ok-insert-in-Err-2-clause-updates : goal.returns-in_ok-insert-in-Err-2-clause-updates
returns-in_ok-insert-in-Err-2-clause-updates g c = rw c.in_ok-insert-in-Err-2.ensures.items
    (looked_between g.met.K.Ord.total g.met.K.TableKey.exact c.args.key c.args.value c.args.slots.now.items c.in-Err.place (gap_of g.K.Ord.cmp c.args.key c.args.slots.now.items c.in-Err.place c.in-Err.ensures))
