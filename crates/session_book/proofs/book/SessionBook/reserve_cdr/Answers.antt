use Rattle.session_book.proofs.book.SessionBook.reserve_cdr.Goals as goal

pub returns-clause-keeps : goal.returns-clause-keeps
returns-clause-keeps c = rw (← c.self.view_is) (λ x had. record { of_record = c.reserve.ensures.keeps.cdrs _ had.of_record; of_session = c.reserve.ensures.keeps.by_session _ had.of_session })

pub returns-clause-again : goal.returns-clause-again
returns-clause-again c = rw (← c.self.view_is) (λ had. c.reserve.ensures.again had.of_record had.of_session)
