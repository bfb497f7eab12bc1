use Rattle.std.proofs.Common.{drop}
use Rattle.node_lines.specs.ElementTexts.{AreElementsOf, behind_spaces}
use Rattle.node_lines.proofs.CutLemmas.{ends_with, goes_on, shrinks, texts_of}
use Rattle.node_lines.proofs.ElementLemmas.{slices_read}
use Rattle.node_lines.proofs.array_texts.element_texts.Goals as goal

pub loop-behind-smaller : goal.loop-behind-smaller
loop-behind-smaller c = shrinks c.loop-behind.rest.now c.in-Some.behind c.split_element.result.1 c.split_element.ensures.more c.in-Some.is

pub loop-behind-preserved : goal.loop-behind-preserved
loop-behind-preserved c =
    goes_on (drop 1 (behind_spaces c.args.line.now)) c.loop-behind.texts.items c.push.new.self.items c.loop-behind.rest.now c.split_element.result.0
    c.in-Some.behind c.split_element.result.1
    c.loop-behind.invariant c.split_element.ensures.text c.split_element.ensures.more c.in-Some.is c.in_ok-push-in-Some.ensures.items

pub returns-in-None-clause-cut : goal.returns-in-None-clause-cut
returns-in-None-clause-cut c =
    ends_with (drop 1 (behind_spaces c.args.line.now)) c.loop-behind.texts.items c.push_some.new.texts.items c.loop-behind.rest.now c.split_element.result.0
    c.split_element.result.1
    c.loop-behind.invariant c.split_element.ensures.text c.split_element.ensures.last c.in-None.is c.in_ok-push_some-in-None.ensures

pub returns-in-None-clause-read : goal.returns-in-None-clause-read
returns-in-None-clause-read c =
    let cut : AreElementsOf c.args.line.now (texts_of c.push_some.new.texts.items) =
    ends_with (drop 1 (behind_spaces c.args.line.now)) c.loop-behind.texts.items c.push_some.new.texts.items c.loop-behind.rest.now c.split_element.result.0
    c.split_element.result.1
    c.loop-behind.invariant c.split_element.ensures.text c.split_element.ensures.last c.in-None.is c.in_ok-push_some-in-None.ensures in
    slices_read c.args.line.now c.push_some.new.texts.items cut
