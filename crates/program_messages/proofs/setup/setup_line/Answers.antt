use Rattle.std.proofs.Common.{◌≡◌, ◌≤◌, false, length, rules, true}
use Rattle.program_messages.specs.SetupFiles.{begins_object, line_of}
use Rattle.program_messages.specs.declared.setup.TheConstants.{SETUP_BYTES}
use Rattle.program_messages.proofs.SetupLemmas.{longer_text, of_result, of_text, shown_text}
use Rattle.program_messages.proofs.setup.setup_line.Goals as goal

pub returns-in-Ok-clause-line : goal.returns-in-Ok-clause-line
returns-in-Ok-clause-line g c =
    let shown = c.as_slice.result.now in
    let is : shown ≡ c.in-Ok.text.items = search rules in
    let known = g.R.Read.remaining c.args.file in
    let read = shown_text SETUP_BYTES known c.in-Ok.text.items shown is c.in-Ok.ensures in
    of_result (begins_object shown ≡ true) (λ line text. line.items ≡ line_of c.args.number text) SETUP_BYTES known shown c.line_of.result read
    c.line_of.ensures.bounds c.line_of.ensures.line

pub returns-in-Ok-clause-bounds : goal.returns-in-Ok-clause-bounds
returns-in-Ok-clause-bounds g c =
    let shown = c.as_slice.result.now in
    let is : shown ≡ c.in-Ok.text.items = search rules in
    let known = g.R.Read.remaining c.args.file in
    let read = shown_text SETUP_BYTES known c.in-Ok.text.items shown is c.in-Ok.ensures in
    of_result (begins_object shown ≡ true) (λ line text. (begins_object text ≡ true) × (length text ≤ SETUP_BYTES)) SETUP_BYTES known shown
    c.line_of.result read c.line_of.ensures.bounds c.line_of.ensures.bounds

pub returns-in-Ok-clause-long : goal.returns-in-Ok-clause-long
returns-in-Ok-clause-long g c = λ refused.
    let shown = c.as_slice.result.now in
    let is : shown ≡ c.in-Ok.text.items = search rules in
    let known = g.R.Read.remaining c.args.file in
    let read = shown_text SETUP_BYTES known c.in-Ok.text.items shown is c.in-Ok.ensures in
    longer_text SETUP_BYTES known shown read (c.line_of.ensures.long refused)

pub returns-in-Ok-clause-other : goal.returns-in-Ok-clause-other
returns-in-Ok-clause-other g c = λ refused.
    let shown = c.as_slice.result.now in
    let is : shown ≡ c.in-Ok.text.items = search rules in
    let known = g.R.Read.remaining c.args.file in
    let read = shown_text SETUP_BYTES known c.in-Ok.text.items shown is c.in-Ok.ensures in
    let short = c.line_of.ensures.other refused in
    of_text (λ text. begins_object text ≡ false) SETUP_BYTES known shown read short.1 short.0
