-- Number tokens as strings that begin with U+0001, over the bytes of a text.
use Rattle.std.specs.Prelude.{ℕ, suc, List, [], ◌∷◌, ◌++◌, Bool, true, false, ◌&&◌, ◌||◌, ◌==◌, not, nat_le, codes, Ok, Err, if◌then◌else◌}
use Rattle.std.specs.List.{prefix_len}
use Rattle.json_text.specs.declared.fault.JsonFault.TheVariants.{BadNumberToken, TaggedText}
use Rattle.json_text.specs.declared.quote.Place.{Place}
use Rattle.json_text.specs.declared.quote.Place.TheVariants.{Minus, Zero, Whole, Point, Fraction, Mark, Sign, Exponent, Bad}
use Rattle.json_text.specs.declared.quote.Mode.{Mode}
use Rattle.json_text.specs.declared.quote.Mode.TheVariants.{Between, Number, Opening, Inside, Escaped}
use Rattle.json_text.specs.Fault.{Read, ◌>>=◌}

abbrev pub is_digit : ℕ → Bool
is_digit c = nat_le 48 c && nat_le c 57

abbrev pub is_mark : ℕ → Bool
is_mark c = (c == 101) || (c == 69)

abbrev pub is_sign : ℕ → Bool
is_sign c = (c == 43) || (c == 45)

-- what a number token is made of
abbrev pub is_number_char : ℕ → Bool
is_number_char c = is_digit c || is_sign c || (c == 46) || is_mark c

-- where a number of RFC 8259, section 6, stands after its first character
abbrev pub first_place : ℕ → Place
first_place c = if c == 45 then Minus else if c == 48 then Zero else Whole

-- where it stands after one more
abbrev pub next_place : Place → ℕ → Place
next_place Minus c = if c == 48 then Zero else if is_digit c then Whole else Bad
next_place Zero c = if c == 46 then Point else if is_mark c then Mark else Bad
next_place Whole c = if is_digit c then Whole else if c == 46 then Point else if is_mark c then Mark else Bad
next_place Point c = if is_digit c then Fraction else Bad
next_place Fraction c = if is_digit c then Fraction else if is_mark c then Mark else Bad
next_place Mark c = if is_digit c then Exponent else if is_sign c then Sign else Bad
next_place Sign c = if is_digit c then Exponent else Bad
next_place Exponent c = if is_digit c then Exponent else Bad
next_place Bad c = Bad

-- where it stands after these characters
abbrev pub place_after : Place → List ℕ → Place
place_after p [] = p
place_after p (c ∷ cs) = place_after (next_place p c) cs

-- a number may end here
abbrev pub is_whole : Place → Bool
is_whole Minus = false
is_whole Zero = true
is_whole Whole = true
is_whole Point = false
is_whole Fraction = true
is_whole Mark = false
is_whole Sign = false
is_whole Exponent = true
is_whole Bad = false

-- outside strings and numbers
abbrev pub outside : ℕ → Mode
outside c = if c == 34 then Opening 0 else if is_digit c || (c == 45) then Number (first_place c) else Between

-- the character at k of \u0001
abbrev pub tag_char : ℕ → ℕ
tag_char k = if k == 0 then 92 else if k == 1 then 117 else if k == 5 then 49 else 48

-- in a string, k characters of \u0001 after its quote
abbrev pub in_string : ℕ → Mode
in_string c = if c == 34 then Between else if c == 92 then Escaped else Inside

abbrev pub opened : ℕ → ℕ → Read Mode
opened k c =
    if c == tag_char k then (if nat_le 5 k then Err TaggedText else Ok (Opening (suc k)))
    else if k == 1 then Ok Inside else Ok (in_string c)

-- the mode after one more character
unfoldable pub next_mode : Mode → ℕ → Read Mode
next_mode Between c = Ok (outside c)
next_mode (Number p) c = if is_number_char c then Ok (Number (next_place p c)) else if is_whole p then Ok (outside c) else Err BadNumberToken
next_mode (Opening k) c = opened k c
next_mode Inside c = Ok (in_string c)
next_mode Escaped c = Ok Inside

abbrev pub in_number : Mode → Bool
in_number Between = false
in_number (Number p) = true
in_number (Opening k) = false
in_number Inside = false
in_number Escaped = false

-- neither a quote nor a backslash
abbrev pub is_plain : ℕ → Bool
is_plain c = not (c == 34) && not (c == 92)

-- how many bytes leave the mode as it is, and are copied
abbrev pub skipped : Mode → List ℕ → ℕ
skipped Between s = 0
skipped (Number p) s = 0
skipped (Opening k) s = 0
skipped Inside s = prefix_len is_plain s
skipped Escaped s = 0

-- what stands between two characters of which one or both are in a number
abbrev pub mark_by : Bool → Bool → List ℕ
mark_by false true = 34 ∷ codes "\\u0001"
mark_by true false = 34 ∷ []
mark_by false false = []
mark_by true true = []

-- what stands before a character: the tag before a number's first, a quote after its last
unfoldable pub mark : Mode → Mode → List ℕ
mark m n = mark_by (in_number m) (in_number n)

-- at the end of the text
unfoldable pub ending : Mode → Read (List ℕ)
ending Between = Ok []
ending (Number p) = if is_whole p then Ok (34 ∷ []) else Err BadNumberToken
ending (Opening k) = Ok []
ending Inside = Ok []
ending Escaped = Ok []

abbrev pub before : List ℕ → Read (List ℕ) → Read (List ℕ)
before front read = read >>= λ rest. Ok (front ++ rest)

unfoldable pub quote_from : Mode → List ℕ → Read (List ℕ)
quote_from m [] = ending m
quote_from m (c ∷ cs) = next_mode m c >>= λ n. before (mark m n ++ c ∷ []) (quote_from n cs)

abbrev pub quote : List ℕ → Read (List ℕ)
quote text = quote_from Between text
