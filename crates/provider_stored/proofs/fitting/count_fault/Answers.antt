use Rattle.std.proofs.Common.{sym, ◌∙◌}
use Rattle.provider_stored.proofs.Fit.{count_fits}
use Rattle.provider_stored.proofs.Spoiled.{counted_before, nothing_counted, other_counter}
use Rattle.provider_stored.proofs.fitting.count_fault.Goals as goal

pub returns-in_default-clause-spoils : goal.returns-in_default-clause-spoils
returns-in_default-clause-spoils c = other_counter c.args.books.now.state c.args.counter c.args.last (sym c.given_last.ensures ∙ c.in_default.is)

pub returns-then-value-ne0-clause-spoils : goal.returns-then-value-ne0-clause-spoils
returns-then-value-ne0-clause-spoils c =
    counted_before c.args.books.now.state c.args.counter c.in-Some.given c.args.last (sym c.given_last.ensures ∙ c.in-Some.is)
    (λ none. c.if-value-ne0.true (c.value.ensures.value ∙ none))

pub returns-then-value-eq0-clause-spoils : goal.returns-then-value-eq0-clause-spoils
returns-then-value-eq0-clause-spoils c = nothing_counted c.args.books.now.state c.args.counter c.args.last (sym c.value-2.ensures.value ∙ c.if-value-eq0.true)

pub returns-clause-fits : goal.returns-clause-fits
returns-clause-fits c =
    count_fits c.args.books.now.state c.args.counter c.in-Some.given c.args.last (sym c.given_last.ensures ∙ c.in-Some.is) (sym c.value.ensures.value ∙ c.if-value-ne0.false)
    (λ none. c.if-value-eq0.false (c.value-2.ensures.value ∙ none)) c.requires
