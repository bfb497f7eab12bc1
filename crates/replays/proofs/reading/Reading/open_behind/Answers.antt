use Rattle.std.proofs.Common.{◌≡◌, ◌∙◌, None, Some, ap, subst, sym}
use Rattle.replays.proofs.OpenLemmas.{begins_so, some_doubt, way_so}
use Rattle.replays.proofs.SetupRead.{none_refused, settled_taken}
use Rattle.replays.specs.Answering.{shown}
use Rattle.replays.specs.Reading.{Reader, Story, taken_in}
use Rattle.replays.specs.RunParts.{After}
use Rattle.replays.specs.Transcripts.{line_of}
use Rattle.replays.specs.Ways.{AreNoWays, AreWays}
use Rattle.replays.proofs.reading.Reading.open_behind.Goals as goal

pub begin-requires-clause-way : goal.begin-requires-clause-way
begin-requires-clause-way c =
    let r = c.args.self.now in
    let t = c.self.inside in
    let piece = c.args.behind.piece in
    let doubt = some_doubt r.story.doubt (λ none. subst AreNoWays c.in-Ok-Was.field-0-is (c.in-Ok-Was.ensures.none none)) in
    way_so r (record { earlier = t.earlier.now; parties = t.parties.items; story = c.take_in.new.self }) c.args.setup piece.bytes.now doubt.0.held c.take_in.new.self.held c.in-Ok-Was.member c.in-Ok-Was.opened
    (sym (ap (λ (x : Reader). x.earlier) c.self.view_is)) (sym (ap (λ (x : Reader). x.parties) c.self.view_is))
    (sym (ap (λ (s : Story). s.held) (c.in_ok-take_in-in-Ok-Was.ensures doubt.0 (ap (λ (x : Reader). x.story.doubt) c.self.view_is ∙ doubt.1))))
    (subst (AreWays r c.args.setup piece.is_closed piece.bytes.now doubt.0.held) c.in-Ok-Was.field-0-is (c.in-Ok-Was.ensures.some doubt.0 doubt.1))

pub begin-requires-clause-doubt : goal.begin-requires-clause-doubt
begin-requires-clause-doubt c =
    let doubt = some_doubt c.args.self.now.story.doubt (λ none. subst AreNoWays c.in-Ok-Was.field-0-is (c.in-Ok-Was.ensures.none none)) in
    ap (λ (s : Story). s.doubt) (c.in_ok-take_in-in-Ok-Was.ensures doubt.0 (ap (λ (x : Reader). x.story.doubt) c.self.view_is ∙ doubt.1))

pub returns-in-Ok-Was-clause-some : goal.returns-in-Ok-Was-clause-some
returns-in-Ok-Was-clause-some c =
    let r = c.args.self.now in
    let t = c.self.inside in
    let now = c.in_ok-running-in-Ok-Was.running in
    let doubt = some_doubt r.story.doubt (λ none. subst AreNoWays c.in-Ok-Was.field-0-is (c.in-Ok-Was.ensures.none none)) in
    After doubt.0 doubt.1 (begins_so (record { earlier = t.earlier.now; parties = t.parties.items; story = c.take_in.new.self }) r c.begin.new.self c.args.behind.line.bytes.now c.args.setup c.args.base
    c.args.behind.piece.bytes.now c.take_in.new.self (taken_in r.story doubt.0) (shown now) now.opening (ap (λ (x : Reader). x.earlier) c.self.view_is) (ap (λ (x : Reader). x.parties) c.self.view_is)
    (c.in_ok-take_in-in-Ok-Was.ensures doubt.0 (ap (λ (x : Reader). x.story.doubt) c.self.view_is ∙ doubt.1) ∙ ap (λ (x : Reader). taken_in x.story doubt.0) c.self.view_is) c.in_ok-running-in-Ok-Was.ensures)

pub returns-in-Ok-clause-none : goal.returns-in-Ok-clause-none
returns-in-Ok-clause-none c =
    let r = c.args.self.now in
    let b = c.args.behind in
    let m = c.in-Ok-May in
    settled_taken r c.settle.new.self b.line.bytes.now c.args.setup c.args.base b.piece.bytes.now b.piece.is_closed b.rest.now c.args.before.items m.after.items b.is_ended c.requires.before
    ((λ d is. subst (AreWays r c.args.setup b.piece.is_closed b.piece.bytes.now d.held) m.field-0-is (m.ensures.some d is)), (λ none. subst AreNoWays m.field-0-is (m.ensures.none none)))
    c.in-Ok.ensures.ok

pub returns-in-Ok-May-clause-err : goal.returns-in-Ok-May-clause-err
returns-in-Ok-May-clause-err c = λ real.
    let r = c.args.self.now in
    let b = c.args.behind in
    let m = c.in-Ok-May in
    let none = c.in-Err-settle.ensures.err real in
    none_refused r r b.line.bytes.now c.args.setup c.args.base b.piece.bytes.now b.piece.is_closed b.rest.now c.args.before.items m.after.items b.line.number (line_of c.in-Err-settle.fault) c.requires.before
    ((λ d is. subst (AreWays r c.args.setup b.piece.is_closed b.piece.bytes.now d.held) m.field-0-is (m.ensures.some d is)), (λ none. subst AreNoWays m.field-0-is (m.ensures.none none)))
    none.0 none.1 none.2
