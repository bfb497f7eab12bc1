-- A text of JSON that is being written, seen as its tokens.
use Rattle.std.specs.Prelude.{◌≡◌, List}
use Rattle.std.specs.Str.{IsUtf8}
use Rattle.json.specs.Token.{Token}
use Rattle.json.specs.Lex.{tokens}
use Rattle.json.specs.Print.{print, ends_value, ArePrintable}
use Rattle.json_text.specs.declared.record_writer.RecordWriter.TheInside.{Inside}

-- those that a reader finds in the text
abbrev pub written : Inside → List Token
written w = tokens w.out.items

-- the text is a print of some tokens, and it is known whether a value ends there
pub record IsWriting (w : Inside) : Type 0 where
  pub printed : List Token
  pub printable : ArePrintable printed
  pub text : w.out.items ≡ print printed
  pub place : w.after_value ≡ ends_value printed
  pub utf8 : IsUtf8 w.out.items
