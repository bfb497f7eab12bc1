-- What quoting does to a text, piece by piece: the meaning of `quote` of specs/Quote, told without its modes.
use Rattle.std.specs.Prelude.{◌≡◌, ◌≢◌, ℕ, List, [], ◌∷◌, ◌++◌, codes, flat_map, Bool, true, false, ◌||◌, ◌==◌, Ok, Err}
use Rattle.std.specs.List.{list_all}
use Rattle.json_text.specs.declared.fault.JsonFault.TheVariants.{BadNumberToken, TaggedText}
use Rattle.json_text.specs.Fault.{Read}
use Rattle.json_text.specs.Numbers.{IsJsonNumber}
use Rattle.json_text.specs.Quote.{is_digit, is_number_char, before}

-- what stands in a string: a character, or a backslash and the character behind it
pub data Character : Type 0 where
  plain : ℕ → Character
  escaped : ℕ → Character

-- a string ends at its quote, or with the text, there maybe at a lone backslash
pub data Ending : Type 0 where
  closed : Ending
  unended : Ending
  at_backslash : Ending

pub data Piece : Type 0 where
  number : List ℕ → Piece
  string : List Character → Ending → Piece
  other : ℕ → Piece

abbrev pub character_text : Character → List ℕ
character_text (plain c) = c ∷ []
character_text (escaped c) = 92 ∷ c ∷ []

abbrev pub characters_text : List Character → List ℕ
characters_text cs = flat_map character_text cs

abbrev pub ending_text : Ending → List ℕ
ending_text closed = codes "\""
ending_text unended = []
ending_text at_backslash = codes "\\"

abbrev pub piece_text : Piece → List ℕ
piece_text (number s) = s
piece_text (string cs e) = codes "\"" ++ (characters_text cs ++ ending_text e)
piece_text (other c) = c ∷ []

-- a number becomes a string that begins with U+0001, all else stays
abbrev pub quoted_piece : Piece → List ℕ
quoted_piece (number s) = codes "\"\\u0001" ++ (s ++ codes "\"")
quoted_piece (string cs e) = codes "\"" ++ (characters_text cs ++ ending_text e)
quoted_piece (other c) = c ∷ []

abbrev pub text_of : List Piece → List ℕ
text_of ps = flat_map piece_text ps

abbrev pub quoted_of : List Piece → List ℕ
quoted_of ps = flat_map quoted_piece ps

-- outside strings a number token begins at a digit or a minus
abbrev pub begins_number : ℕ → Bool
begins_number c = is_digit c || (c == 45)

-- and is as long as it can be: it goes on no further here
abbrev pub Stops : List ℕ → Type 0
Stops [] = Unit {0}
Stops (c ∷ cs) = is_number_char c ≡ false

abbrev pub IsCharacter : Character → Type 0
IsCharacter (plain c) = (c ≢ 34) × (c ≢ 92)
IsCharacter (escaped c) = Unit {0}

abbrev pub AreCharacters : List Character → Type 0
AreCharacters [] = Unit {0}
AreCharacters (c ∷ cs) = IsCharacter c × AreCharacters cs

abbrev pub EndsBefore : Ending → List ℕ → Type 0
EndsBefore closed after = Unit {0}
EndsBefore unended after = after ≡ []
EndsBefore at_backslash after = after ≡ []

-- a string that begins with U+0001, written as six characters
abbrev pub IsTagged : List Character → Type 0
IsTagged cs = (more : List ℕ) × (characters_text cs ≡ codes "\\u0001" ++ more)

-- a piece that stands before that text
abbrev pub IsPiece : Piece → List ℕ → Type 0
IsPiece (number s) after = IsJsonNumber s × Stops after
IsPiece (string cs e) after = AreCharacters cs × EndsBefore e after × ¬ (IsTagged cs)
IsPiece (other c) after = (c ≢ 34) × (begins_number c ≡ false)

abbrev pub ArePieces : List Piece → List ℕ → Type 0
ArePieces [] rest = Unit {0}
ArePieces (p ∷ ps) rest = IsPiece p (text_of ps ++ rest) × ArePieces ps rest

-- a number token before that text
pub record IsToken (token after : List ℕ) : Type 0 where
  pub first : ℕ
  pub more : List ℕ
  pub is : token ≡ first ∷ more
  pub begins : begins_number first ≡ true
  pub goes_on : list_all is_number_char more ≡ true
  pub stops : Stops after

-- what quoting says of the rest behind all pieces: nothing stands there, or what it refuses
pub data Last (rest : List ℕ) (read : Read (List ℕ)) : Type 0 where
  whole : rest ≡ [] → read ≡ Ok [] → Last rest read
  bad_number : (token after : List ℕ) → rest ≡ token ++ after → IsToken token after → ¬ (IsJsonNumber token) → read ≡ Err BadNumberToken → Last rest read
  tagged_text : (after : List ℕ) → rest ≡ codes "\"\\u0001" ++ after → read ≡ Err TaggedText → Last rest read

-- the text, quoted, or the first refusal from the left
pub record Quotes (text : List ℕ) (read : Read (List ℕ)) : Type 0 where
  pub pieces : List Piece
  pub rest : List ℕ
  pub last : Read (List ℕ)
  pub are : ArePieces pieces rest
  pub parts : text ≡ text_of pieces ++ rest
  pub ends : Last rest last
  pub gives : read ≡ before (quoted_of pieces) last
