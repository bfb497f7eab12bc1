use Rattle.std.proofs.Common.{◌∙◌, sym, length, refl}
use Rattle.std.proofs.lemmas.Option.{slice_get_past, slice_get_read}
use Rattle.weave_runs.proofs.RefusalLemmas as lemma
use Rattle.weave_runs.proofs.refusal.place_of.Goals as goal

pub returns-in_default-get-clause-none : goal.returns-in_default-get-clause-none
returns-in_default-get-clause-none c = λ name line is.
    let told = c.args.transcripts.now in
    lemma.no_teller_of_line told c.args.turn c.args.files.now name line (slice_get_past told c.args.turn.history c.in_default-get.ensures.lookup.3) is

pub returns-in-Some-next_line-clause-some : goal.returns-in-Some-next_line-clause-some
returns-in-Some-next_line-clause-some c =
    let told = c.args.transcripts.now in
    let files = c.args.files.now in
    let u = c.in-Some-get.transcript.now in
    let first = c.in-Some.ensures.lookup in
    let file_at = slice_get_read files (length files) c.args.turn.history c.in-Some.file.now refl first.3.0 first.1 in
    let second = c.in-Some-get.ensures.lookup in
    let here = slice_get_read told (length told) c.args.turn.history u refl second.3.0 second.1 in
    lemma.line_of told c.args.turn u here files c.in-Some.file.now c.in-Some-next_line.line file_at (sym c.next_line.ensures ∙ c.in-Some-next_line.is)

pub returns-in-None-clause-none : goal.returns-in-None-clause-none
returns-in-None-clause-none c = λ name line is.
    let told = c.args.transcripts.now in
    let u = c.in-Some-get.transcript.now in
    let second = c.in-Some-get.ensures.lookup in
    let here = slice_get_read told (length told) c.args.turn.history u refl second.3.0 second.1 in
    lemma.no_line told c.args.turn u here c.args.files.now (sym c.next_line.ensures ∙ c.in-None.is) name line is
