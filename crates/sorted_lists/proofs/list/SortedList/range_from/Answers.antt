use Rattle.std.proofs.Common.{◌∙◌, ◌<◌, ◌≤◌, ap, arith, length, rules}
use Rattle.std.specs.Ordering.{is_le}
use Rattle.tables.specs.Tables.{shown}
use Rattle.sorted_lists.specs.Slots.{seen}
use Rattle.sorted_lists.proofs.Parts.{PassesFrom, from_at, from_gap, seen_part, to_end}
use Rattle.sorted_lists.proofs.Places.{at_of, gap_of}
use Rattle.sorted_lists.proofs.list.SortedList.range_from.Goals as goal
use Rattle.sorted_lists.proofs.list.SortedList.range_from.Goals.{in-Ok, in-Err}

pub returns : goal.returns
returns g c =
    let part : PassesFrom (λ q. is_le (g.K.Ord.cmp c.args.key q)) c.self.inside.slots.items c.match-place_of.first = elim c.match-place_of.branch [
      | in-Ok w ↦ rw w.first-is (from_at g.met.K.Ord.total c.args.key c.self.inside.slots.items w.in-Ok.place c.self.invariant (at_of g.K.Ord.cmp c.args.key c.self.inside.slots.items w.in-Ok.place w.in-Ok.ensures))
      | in-Err w ↦ rw w.first-is (from_gap g.met.K.Ord.total c.args.key c.self.inside.slots.items w.in-Err.place (gap_of g.K.Ord.cmp c.args.key c.self.inside.slots.items w.in-Err.place w.in-Err.ensures))
    ] in
    let within : c.match-place_of.first ≤ length c.self.inside.slots.items = elim c.match-place_of.branch [
      | in-Ok w ↦ let at : w.in-Ok.place < length c.self.inside.slots.items = w.in-Ok.ensures.0 in rw w.first-is (omega arith)
      | in-Err w ↦ rw w.first-is w.in-Err.ensures.0
    ] in
    rw (← c.self.view_is) (ap (λ es. shown (seen es)) (c.range.ensures.rest ∙ to_end c.self.inside.slots.items c.match-place_of.first _ (search rules) (search rules))
    ∙ seen_part (λ q. is_le (g.K.Ord.cmp c.args.key q)) g.K.Ord.cmp g.met.K.Ord.total g.met.K.TableKey.exact c.self.inside.slots.items c.match-place_of.first c.self.invariant part)
