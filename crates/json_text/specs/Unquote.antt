-- Tagged strings as the number tokens that they stand for, over the bytes of a text.
use Rattle.std.specs.Prelude.{ℕ, suc, take, List, [], ◌∷◌, ◌++◌, ◌==◌, nat_le, codes, Bool, true, false, if◌then◌else◌}
use Rattle.std.specs.List.{prefix_len}
use Rattle.json_text.specs.declared.unquote.Way.{Way}
use Rattle.json_text.specs.declared.unquote.Way.TheVariants.{Outside, Opened, Within, Skipped, Token}
use Rattle.json_text.specs.Quote.{tag_char, is_plain}

-- a quote and the first k characters of the tag, which were held back
abbrev pub held : ℕ → List ℕ
held k = 34 ∷ take k (codes "\\u0001")

abbrev pub way_in : ℕ → Way
way_in c = if c == 34 then Outside else if c == 92 then Skipped else Within

abbrev pub way_opened : ℕ → ℕ → Way
way_opened k c = if c == tag_char k then (if nat_le 5 k then Token else Opened (suc k)) else if k == 1 then Within else way_in c

-- where a text stands after one more character
unfoldable pub next_way : Way → ℕ → Way
next_way Outside c = if c == 34 then Opened 0 else Outside
next_way (Opened k) c = way_opened k c
next_way Within c = way_in c
next_way Skipped c = Within
next_way Token c = if c == 34 then Outside else Token

-- what is written at one more character
unfoldable pub emits : Way → ℕ → List ℕ
emits Outside c = if c == 34 then [] else c ∷ []
emits (Opened k) c = if c == tag_char k then [] else held k ++ c ∷ []
emits Within c = c ∷ []
emits Skipped c = c ∷ []
emits Token c = if c == 34 then [] else c ∷ []

-- where the string at hand begins, where the one before it began at opening
abbrev pub opening_at : Way → ℕ → ℕ → ℕ
opening_at Outside i opening = i
opening_at (Opened k) i opening = opening
opening_at Within i opening = opening
opening_at Skipped i opening = opening
opening_at Token i opening = opening

-- how far the text stays as it is: a string that may yet be a number is left out
abbrev pub end_at : Way → ℕ → ℕ → ℕ
end_at Outside i opening = i
end_at (Opened k) i opening = opening
end_at Within i opening = i
end_at Skipped i opening = i
end_at Token i opening = i

-- how many bytes leave the way as it is, and are copied
abbrev pub skipped : Way → List ℕ → ℕ
skipped Outside s = prefix_len is_plain s
skipped (Opened k) s = 0
skipped Within s = prefix_len is_plain s
skipped Skipped s = 0
skipped Token s = prefix_len is_plain s

abbrev pub in_token : Way → Bool
in_token Outside = false
in_token (Opened k) = false
in_token Within = false
in_token Skipped = false
in_token Token = true

-- what is written at the end
unfoldable pub last_of : Way → List ℕ
last_of Outside = []
last_of (Opened k) = held k
last_of Within = []
last_of Skipped = []
last_of Token = []

unfoldable pub unquote_from : Way → List ℕ → List ℕ
unquote_from w [] = last_of w
unquote_from w (c ∷ cs) = emits w c ++ unquote_from (next_way w c) cs

abbrev pub unquote : List ℕ → List ℕ
unquote text = unquote_from Outside text
