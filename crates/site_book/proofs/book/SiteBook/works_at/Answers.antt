use Rattle.site_book.proofs.Remarking.{flags_stand, works_there}
use Rattle.site_book.proofs.book.SiteBook.works_at.Goals as goal

pub flag_at-requires : goal.flag_at-requires
flag_at-requires c =
    let has = rw (← c.self.view_is) at c.requires in
    rw c.as_slice.ensures.value ((flags_stand _ c.self.invariant.1 _ c.self.invariant.2 has.0 c.args.position has.1).working)

pub returns : goal.returns
returns c = rw (← c.self.view_is)
    (λ uid has. works_there _ c.self.invariant.1 _ c.self.invariant.2 uid c.args.position has c.flag_at.result (rw c.as_slice.ensures.value at c.flag_at.ensures))
