use Rattle.std.proofs.Common.{inl, inr, sym, ap, ◌∙◌}
use Rattle.row_table.specs.Contents.{with_texts}
use Rattle.row_table.specs.Contents as table
use Rattle.row_table.specs.Kept.{content, texts}
use Rattle.row_table.specs.Effects.{set_all}
use Rattle.node_store.proofs.Edited.{some_edits, some_number}
use Rattle.node_store.proofs.Layouts.{layout_changed, texts_made, texts_settled}
use Rattle.node_store.proofs.table_keep.change.Goals as goal

pub returns-in-Ok-clause-all : goal.returns-in-Ok-clause-all
returns-in-Ok-clause-all g c clean =
    let old = texts g.S.Store c.args.table.now in
    ap (λ (d : table.Content). d.texts) (c.in-Ok.ensures.all clean) ∙ ap (set_all old) c.as_slice.ensures.value ∙ c.in_ok-edits.ensures.made old

pub returns-in-Ok-clause-settled : goal.returns-in-Ok-clause-settled
returns-in-Ok-clause-settled g c clean some =
    texts_settled g.S.Store c.change.new.self (c.in-Ok.ensures.settled clean (λ none. some_edits c.args.changes.now c.args.line some (sym (c.as_slice.ensures.value ∙ c.in_ok-edits.ensures.edits) ∙ none)))

pub returns-in-Ok-clause-numbered : goal.returns-in-Ok-clause-numbered
returns-in-Ok-clause-numbered g c clean some =
    texts_settled g.S.Store c.change.new.self (c.in-Ok.ensures.settled clean (λ none. some_number c.args.changes.now c.args.line some (sym (c.as_slice.ensures.value ∙ c.in_ok-edits.ensures.edits) ∙ none)))

pub returns-in-Ok-clause-stops : goal.returns-in-Ok-clause-stops
returns-in-Ok-clause-stops g c clean d may =
    let old = c.args.table.now in
    let made = set_all (texts g.S.Store old) c.as_slice.result.now in
    let same = ap (set_all (texts g.S.Store old)) c.as_slice.ensures.value ∙ c.in_ok-edits.ensures.made (texts g.S.Store old) in
    elim (texts_made g.S.Store old c.change.new.self (with_texts (content g.S.Store old) made) (c.change.ensures.stops clean) d may) [ inl before ↦ inl before | inr is ↦ inr (is ∙ same, c.in_ok-edits.ensures.again) ]

pub returns-in-Ok-clause-layout : goal.returns-in-Ok-clause-layout
returns-in-Ok-clause-layout g c was =
    let old = c.args.table.now in
    layout_changed g.S.Store old c.change.new.self c.change.result (set_all (texts g.S.Store old) c.as_slice.result.now) c.change.ensures.honest c.change.ensures.all c.change.ensures.none c.change.ensures.stops c.change.ensures.whole was

pub returns-clause-none : goal.returns-clause-none
returns-clause-none g c clean = ap (λ (d : table.Content). d.texts) (c.in-Err.ensures.none clean)

pub returns-clause-stops : goal.returns-clause-stops
returns-clause-stops g c clean d may =
    let old = c.args.table.now in
    let made = set_all (texts g.S.Store old) c.as_slice.result.now in
    let same = ap (set_all (texts g.S.Store old)) c.as_slice.ensures.value ∙ c.in_ok-edits.ensures.made (texts g.S.Store old) in
    elim (texts_made g.S.Store old c.change.new.self (with_texts (content g.S.Store old) made) (c.change.ensures.stops clean) d may) [ inl before ↦ inl before | inr is ↦ inr (is ∙ same, c.in_ok-edits.ensures.again) ]

pub returns-clause-layout : goal.returns-clause-layout
returns-clause-layout g c was =
    let old = c.args.table.now in
    layout_changed g.S.Store old c.change.new.self c.change.result (set_all (texts g.S.Store old) c.as_slice.result.now) c.change.ensures.honest c.change.ensures.all c.change.ensures.none c.change.ensures.stops c.change.ensures.whole was
