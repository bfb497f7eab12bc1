use Rattle.std.proofs.Common.{◌≡◌, true, false}
use Rattle.ocpi_text.specs.Text.{key}
use Rattle.site_book.specs.Sites.{works}
use Rattle.site_book.proofs.Finding.{passes_there}
use Rattle.site_book.proofs.book.SiteBook.has_service.Goals as goal

pub returns-in-None-named_position : goal.returns-in-None-named_position
returns-in-None-named_position c = rw c.in-Some.is (λ never. absurd (let same : false ≡ true = never in cc), λ x. absurd (c.in-None-named_position.ensures.none x.0 x.1))

pub works_at-requires : goal.works_at-requires
works_at-requires c = (key c.in-Some.uid, c.in-Some-named_position.ensures.found)

pub returns-in-Some-named_position : goal.returns-in-Some-named_position
returns-in-Some-named_position c =
    let has = c.in-Some-named_position.ensures.found in
    rw c.in-Some.is (passes_there _ _ _ c.requires c.in-Some.uid c.in-Some-named_position.position has c.in-Some-named_position.ensures.there c.works_at.result (works c.args.self.now.out_of_service) (c.works_at.ensures (key c.in-Some.uid) has))
