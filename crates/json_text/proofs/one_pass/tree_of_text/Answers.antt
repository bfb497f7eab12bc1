use Rattle.std.proofs.Common.{◌≡◌, [], rules}
use Rattle.json.specs.Json.{value}
use Rattle.json.specs.Lex.{tokens}
use Rattle.json_text.proofs.TaggedLines.{read_at_once}
use Rattle.json_text.proofs.TaggedTrees.{whole_read}
use Rattle.json_text.proofs.one_pass.tree_of_text.Goals as goal

pub returns-clause-ok : goal.returns-clause-ok
returns-clause-ok c =
    let none : c.read.new.reader ≡ [] = search rules in
    whole_read (value 127 (tokens c.args.text.now)) _ (rw (c.in_ok-reader.ensures.ok, none) at c.in_ok-tree.ensures.ok)

pub returns-clause-tree : goal.returns-clause-tree
returns-clause-tree c =
    let none : c.read.new.reader ≡ [] = search rules in
    read_at_once c.args.text.now _ (rw (c.in_ok-reader.ensures.ok, none) at c.in_ok-tree.ensures.ok)
