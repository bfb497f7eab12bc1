use Rattle.std.proofs.Common.{rules, ◌≡◌}
use Rattle.authorization_book.proofs.Indexing.{above_zero, found_at, none_at}
use Rattle.authorization_book.proofs.book.AuthorizationBook.at.Goals as goal

pub first_with-requires : goal.first_with-requires
first_with-requires c =
    let zero : c.unwrap-lowest.result ≡ 0 = search (rules, c.new.ensures, c.unwrap-lowest.ensures) in
    rw zero above_zero

pub returns-in_default-clause-none : goal.returns-in_default-clause-none
returns-in_default-clause-none c = rw (← c.self.view_is) (none_at _ _ _ c.self.invariant c.args.evse c.in_default.ensures.none)

pub returns-clause-some : goal.returns-clause-some
returns-clause-some c = rw (← c.self.view_is) (found_at _ _ _ c.self.invariant c.args.evse c.in-Some.found.0 c.in-Some.ensures.some.0)
