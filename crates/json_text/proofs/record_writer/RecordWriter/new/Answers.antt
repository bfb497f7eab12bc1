use Rattle.std.proofs.Common.{[], IsUtf8, ap, refl, subst, sym}
use Rattle.std.proofs.lemmas.Str.{IsUtf8-nil}
use Rattle.json.specs.Lex.{tokens, lex, punctuate}
use Rattle.json.specs.Print.{print_from, ArePrintable}
use Rattle.json_text.proofs.record_writer.RecordWriter.new.Goals as goal

pub invariant_of-result : goal.invariant_of-result
unfolding print_from ArePrintable
invariant_of-result c = record {
  printed = [];
  printable = tt;
  text = c.in_ok-out.ensures.items;
  place = refl;
  utf8 = subst IsUtf8 (sym c.in_ok-out.ensures.items) IsUtf8-nil;
}

pub returns : goal.returns
unfolding lex punctuate
returns c = ap tokens c.in_ok-out.ensures.items
