use Rattle.std.proofs.Common.{◌∙◌, ap, sym}
use Rattle.std.specs.Prelude.{Some}
use Rattle.sorted_lists.proofs.Places.{at_of, found_at, gap_of, none_at}
use Rattle.sorted_lists.proofs.slots.find.Goals as goal

pub returns-in-Ok : goal.returns-in-Ok
returns-in-Ok g c = ap (λ e. Some e.1) c.index.ensures
    ∙ sym (found_at g.met.K.Ord.total g.met.K.TableKey.exact c.args.key c.args.slots.now.items c.in-Ok.place c.index.result.now c.requires (at_of g.K.Ord.cmp c.args.key c.args.slots.now.items c.in-Ok.place c.in-Ok.ensures))

pub returns-in-Err : goal.returns-in-Err
returns-in-Err g c = sym (none_at g.met.K.Ord.total g.met.K.TableKey.exact c.args.key c.args.slots.now.items _ (gap_of g.K.Ord.cmp c.args.key c.args.slots.now.items _ c.in-Err.ensures))
