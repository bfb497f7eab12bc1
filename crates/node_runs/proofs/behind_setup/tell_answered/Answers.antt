use Rattle.std.proofs.Common.{[], string_bytes, sym, subst}
use Rattle.stored_nodes.specs.Keepers.{keeper_of}
use Rattle.node_runs.specs.Afters.{IsAfter, IsAnswered}
use Rattle.node_runs.specs.declared.list_lines.After.{After}
use Rattle.node_runs.specs.declared.event_lines.Answered.{Answered}
use Rattle.node_runs.proofs.AfterLemmas.{one_declined, one_starved, one_told, one_untold}
use Rattle.node_runs.proofs.behind_setup.tell_answered.Goals as goal

pub returns-in-Told : goal.returns-in-Told
returns-in-Told g c = λ now number line stored is.
    let keeper = keeper_of g.K.Keep.content g.K.Keep.is_honest g.K.Keep.refusals g.K.Keep.may_leave in
    let so = subst (λ (a : Answered). IsAnswered keeper now number line [] c.args.text.now a c.args.running) c.in-Told.is is in
    one_told keeper now c.args.running number line c.args.text.now stored c.is_stored.ensures (string_bytes c.args.output.now) (string_bytes c.tell_written.new.output) c.in-Told.turn c.tell_written.result so
    c.tell_written.ensures.told

pub returns-in-Untold : goal.returns-in-Untold
returns-in-Untold g c = λ now number line stored is.
    let keeper = keeper_of g.K.Keep.content g.K.Keep.is_honest g.K.Keep.refusals g.K.Keep.may_leave in
    let so = subst (λ (a : Answered). IsAnswered keeper now number line [] c.args.text.now a c.args.running) c.in-Untold.is is in
    subst (λ (a : After g.row.K.Denot). IsAfter keeper now number line (string_bytes c.args.output.now) (string_bytes c.args.output.now) a) (sym c.lose.ensures)
    (one_untold keeper now c.args.running number line c.args.text.now stored c.is_stored.ensures (string_bytes c.args.output.now) (string_bytes c.args.output.now) so)

pub returns-in-Starved : goal.returns-in-Starved
returns-in-Starved g c = λ now number line stored is.
    let keeper = keeper_of g.K.Keep.content g.K.Keep.is_honest g.K.Keep.refusals g.K.Keep.may_leave in
    let so = subst (λ (a : Answered). IsAnswered keeper now number line [] c.args.text.now a c.args.running) c.in-Starved.is is in
    subst (λ (a : After g.row.K.Denot). IsAfter keeper now number line (string_bytes c.args.output.now) (string_bytes c.args.output.now) a) (sym c.lose-in-Starved.ensures)
    (one_starved keeper now c.args.running number line c.args.text.now stored c.is_stored.ensures (string_bytes c.args.output.now) (string_bytes c.args.output.now) so)

pub returns-in-Declined : goal.returns-in-Declined
returns-in-Declined g c = λ now number line stored is.
    let keeper = keeper_of g.K.Keep.content g.K.Keep.is_honest g.K.Keep.refusals g.K.Keep.may_leave in
    let so = subst (λ (a : Answered). IsAnswered keeper now number line [] c.args.text.now a c.args.running) c.in-Declined.is is in
    subst (λ (a : After g.row.K.Denot). IsAfter keeper now number line (string_bytes c.args.output.now) (string_bytes c.args.output.now) a) (sym c.lose-in-Declined.ensures)
    (one_declined keeper now c.args.running number line c.args.text.now stored c.is_stored.ensures (string_bytes c.args.output.now) (string_bytes c.args.output.now) c.in-Declined.fault so)
