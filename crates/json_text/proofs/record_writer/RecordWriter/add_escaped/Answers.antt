use Rattle.std.proofs.Common.{◌≡◌, ℕ, [], ◌∷◌, ◌++◌, Vec, ap, rules, ◌∙◌}
use Rattle.std.specs.declared.alloc.Global.{Global}
use Rattle.json.specs.Print.{print}
use Rattle.json.specs.Token.{string}
use Rattle.json_text.proofs.Writing.{print_one}
use Rattle.json_text.proofs.record_writer.RecordWriter.add_escaped.Goals as goal

pub add-requires-clause-text : goal.add-requires-clause-text
add-requires-clause-text c =
    let before : c.string.new.self.before ≡ [] = search rules in
    let tokens : c.string.new.self.tokens ≡ string c.args.text.now ∷ [] = search rules in
    c.deref.ensures ∙ ap (λ (v : Vec ℕ Global). v.items) c.from_utf8_unchecked-quoted.ensures.value ∙ c.into_inner-quoted.ensures.items ∙ (λ i. before i ++ print (tokens i)) ∙ print_one (string c.args.text.now)
