use Rattle.std.proofs.Common.{◌≡◌, ◌<◌, ◌+◌, ◌++◌, ◌∙◌, ℕ, List, [], Err, Ok, Some, take, get_or, refl, sym, ap, ap₂, subst, arith, length, map, slice_get, string_bytes}
use Rattle.std.proofs.lemmas.Option.{slice_get-get_or}
use Rattle.std.proofs.lemmas.List.{length-take-le, take_all, take_more}
use Rattle.json_text.specs.Fault.{Read}
use Rattle.json_text.specs.declared.fault.JsonFault.TheVariants.{Syntax}
use Rattle.ocpi_types.specs.declared.node_events.NodeEvent.{NodeEvent}
use Rattle.ocpi_json.specs.NodeEventForms.{node_event_in}
use Rattle.node_runs.specs.DoneLines.{all_line}
use Rattle.replays.specs.Answering.{EventDone, EventsDone}
use Rattle.replays.specs.Happenings.{IsTextAt}
use Rattle.replays.proofs.AnswerLemmas.{none_yet, on_ok, one_more, size_of_map, text_there}
use Rattle.replays.proofs.answering.Running.answer_all.Goals as goal

pub loop-place-init : goal.loop-place-init
loop-place-init c = λ is.
    subst (λ t. EventsDone c.args.self.now c.args.self.now c.args.number c.args.line.bytes.now [] [] t c.args.happened.now c.args.happened.now) (sym c.requires.text)
    (none_yet c.args.self.now c.args.number c.args.line.bytes.now [] c.args.happened.now)

pub loop-place-preserved : goal.loop-place-preserved
loop-place-preserved c = λ is.
    let events = c.args.elements.now in
    let place = c.loop-place.place in
    let line = c.args.line.bytes.now in
    let none : Read NodeEvent = Err Syntax in
    let within : place < length events = omega (arith, c.loop-place-test.true, c.len-place-end.ensures) in
    let read = get_or events place none in
    let at = slice_get-get_or events place none within in
    let texts = map (λ t. t.now) c.in_ok-texts.texts.items in
    let one = c.in_ok-answer_element.ensures read at in
    let items = c.in_ok-texts.texts.items in
    let read_so = ap length (c.in_ok-texts.ensures.read events is) in
    let size = size_of_map (λ t. node_event_in t.now) items in
    let size_too = size_of_map (λ t. t.now) items in
    let there = text_there line texts place c.in_ok-texts.ensures.cut (omega (arith, within, read_so, size, size_too)) in
    let short : length (take place events) ≡ place = length-take-le place events (omega (arith, within)) in
    subst (λ l. EventsDone c.args.self.now c.answer_element.new.self c.args.number line l [] (string_bytes c.answer_element.new.text) c.args.happened.now c.answer_element.new.happened) (sym (take_more events place none within))
    (one_more c.args.self.now c.loop-place.self c.answer_element.new.self c.args.number line (take place events) read c.text_at.result.now [] (string_bytes c.loop-place.text) (string_bytes c.answer_element.new.text)
    c.args.happened.now c.loop-place.happened c.answer_element.new.happened (c.loop-place.invariant is)
    (subst (λ n. EventDone c.loop-place.self c.answer_element.new.self c.args.number (Some n) read c.text_at.result.now (string_bytes c.loop-place.text) (string_bytes c.answer_element.new.text) c.loop-place.happened c.answer_element.new.happened) (sym short) one)
    (subst (λ n. IsTextAt line (Some n) c.text_at.result.now) (sym short) (there c.text_at.result.now (λ text is_text. c.text_at.ensures text (subst (λ l. slice_get (map (λ t. t.now) l) place ≡ Some text) (sym c.as_slice.ensures.value) is_text)))))

pub returns : goal.returns
returns c =
    let events = c.args.elements.now in
    let place = c.loop-place.place in
    let over : take place events ≡ events = take_all place events (omega (arith, c.loop-place-test.false, c.len-place-end.ensures)) in
    on_ok c.write_all.result (λ written is. record {
      lines = string_bytes c.loop-place.text;
      done = subst (λ l. EventsDone c.args.self.now c.loop-place.self c.args.number c.args.line.bytes.now l [] (string_bytes c.loop-place.text) c.args.happened.now c.loop-place.happened) over (c.loop-place.invariant is);
      written = written ∙ ap₂ (λ n k. string_bytes c.loop-place.text ++ all_line n k) c.value.ensures.value c.len.ensures;
    }) c.write_all.ensures
