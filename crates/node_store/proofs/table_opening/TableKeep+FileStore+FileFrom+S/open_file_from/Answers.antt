use Rattle.node_store.proofs.table_opening.TableKeep+FileStore+FileFrom+S.open_file_from.Goals as goal

pub returns-in-Ok-adopt-clause-content : goal.returns-in-Ok-adopt-clause-content
returns-in-Ok-adopt-clause-content g c clean =
    let early = c.in-Ok-adopt.ensures.honest clean in
    record { was = c.in-Ok.connection; opened = c.in-Ok.ensures.opened early; found = c.in-Ok.ensures.found early; says = c.in-Ok-adopt.ensures.content clean }

pub returns-in-Err-clause-old : goal.returns-in-Err-clause-old
returns-in-Err-clause-old g c clean layout =
    let early = c.in-Err.ensures.unharmed clean in
    record { was = c.in-Ok.connection; opened = c.in-Ok.ensures.opened early; found = c.in-Ok.ensures.found early; says = c.in-Err.ensures.old clean layout }

pub returns-in-Err-clause-spared : goal.returns-in-Err-clause-spared
returns-in-Err-clause-spared g c clean =
    let early = c.in-Err.ensures.unharmed clean in
    record { was = c.in-Ok.connection; opened = c.in-Ok.ensures.opened early; found = c.in-Ok.ensures.found early; says = c.in-Err.ensures.spared clean }

pub returns-in-Err-clause-bad : goal.returns-in-Err-clause-bad
returns-in-Err-clause-bad g c clean is =
    let early = c.in-Err.ensures.unharmed clean in
    record { was = c.in-Ok.connection; opened = c.in-Ok.ensures.opened early; found = c.in-Ok.ensures.found early; says = c.in-Err.ensures.bad clean is }

pub returns-in-Err-default-Some-clause-left : goal.returns-in-Err-default-Some-clause-left
returns-in-Err-default-Some-clause-left g c =
    let found = rw c.in-Err-default-Some.field-0-1-is at c.in-Err-default-Some.ensures.cause in
    record { error = c.in-Err-default-Some.error; named = c.in-Err-default-Some.ensures.named; told = c.fault_of.ensures.value; files = found.0; log = found.1; db = found.2; cause = found.3 }
