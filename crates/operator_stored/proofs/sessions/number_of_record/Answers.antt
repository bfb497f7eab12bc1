use Rattle.operator_stored.proofs.TellingSessions.{sole_record}
use Rattle.operator_stored.proofs.sessions.number_of_record.Goals as goal

pub returns-clause-sole : goal.returns-clause-sole
returns-clause-sole c = sole_record c.record_number.result c.party-party.result c.args.books.now.state.party c.args.cdr.now
    c.party-party.ensures c.consistency.ensures.own c.record_number.ensures.some
