-- What a node prints are lines that hold something, each with its line feed.
use Rattle.std.proofs.Common.{◌≡◌, ◌≢◌, ◌<◌, ℕ, zero, suc, ◌+◌, ◌/◌, ◌%◌, List, [], ◌∷◌, ◌++◌, Bool, true, false, cond, ◌&&◌, ◌==◌, Option, None, Some, length, codes, decimal, refl, sym, ap, subst, ◌∙◌, append-nil, append_assoc, not-suc-le-zero, zero-lt-suc, arith, inl, inr}
use Rattle.std.specs.Prelude.{not, nat_lt}
use Rattle.std.specs.Fmt.{digit_glyph, digits, digits_onto}
use Rattle.std.proofs.lemmas.Bool.{and_parts, cases_eq, cases_lt}
use Rattle.std.proofs.lemmas.List.Elements.{All-append, All-cons, All-nil}
use Rattle.json.specs.Print.{escape, escape_byte, print_from, quoted}
use Rattle.json.proofs.Printed.Strings.{escape_byte_plain}
use Rattle.json_text.specs.Fault.{fault_field, fault_name}
use Rattle.json_text.specs.declared.fault.JsonFault.{JsonFault}
use Rattle.json_text.specs.declared.fault.JsonFault.TheVariants.{Missing, UnknownKind, UnknownWord, WrongForm}
use Rattle.node_runs.specs.DoneLines.{all_line, fault_line, idle_line, known_line, malformed_line, opened_line, place_member, refused_line, skipped_line, stepped_line, text_json}
use Rattle.node_steps.specs.FaultText.{fault_name as event_fault_name}
use Rattle.node_steps.specs.declared.fault.NodeFault.{NodeFault}
use Rattle.node_steps.specs.declared.fault.NodeFault.TheVariants.{Memory}
use Rattle.ocpi_types.specs.Fields.{name_of}
use Rattle.ocpi_types.specs.declared.field.Field.{Field}
use Rattle.ocpi_types.specs.declared.field.Field.TheVariants.{Line}
use Rattle.replays.proofs.Lists.{Cuts, First, IsPlain, Second, cuts, heads, plain_has_feed, some_is_none, tails}
use Rattle.replays.specs.Cutting.{HasNoEmptyLine}
use Rattle.replays.specs.LineTurns.{IsLine}

-- ---- texts without a line feed

abbrev pub is_text : List ℕ → Bool
is_text [] = true
is_text (c ∷ cs) = not (c == 10) && is_text cs

no_feed : (c : ℕ) → not (c == 10) ≡ true → c ≢ 10
no_feed c is feed = let bad : false ≡ true = ap (λ n. not (n == 10)) (sym feed) ∙ is in absurd cc

pub plain_text : (text : List ℕ) → is_text text ≡ true → IsPlain text
plain_text [] is = All-nil (λ b. b ≢ 10)
plain_text (c ∷ cs) is =
    let both = and_parts (not (c == 10)) (is_text cs) is in
    All-cons (λ b. b ≢ 10) c cs (no_feed c both.0) (plain_text cs both.1)

pub plain_both : (xs ys : List ℕ) → IsPlain xs → IsPlain ys → IsPlain (xs ++ ys)
plain_both xs ys p q = All-append (λ b. b ≢ 10) xs ys p q

pub plain_more : (c : ℕ) (xs : List ℕ) → c ≢ 10 → IsPlain xs → IsPlain (c ∷ xs)
plain_more c xs other p = All-cons (λ b. b ≢ 10) c xs other p

-- numbers
glyph_plain : (d : ℕ) → digit_glyph false d ≢ 10
glyph_plain d = of (nat_lt d 10)
  where
    of : (b : Bool) → cond b (48 + d) (87 + d) ≢ 10
    of true is = absurd (omega (arith, is))
    of false is = absurd (omega (arith, is))

either : (b : Bool) (xs ys : List ℕ) → IsPlain xs → IsPlain ys → IsPlain (cond b xs ys)
either true xs ys p q = p
either false xs ys p q = q

onto_plain : (k n : ℕ) (text : List ℕ) → IsPlain text → IsPlain (digits_onto k 10 false n text)
onto_plain zero n text plain = plain
onto_plain (suc k) n text plain =
    let more = plain_more (digit_glyph false (n % 10)) text (glyph_plain (n % 10)) plain in
    either (n / 10 == 0) (digit_glyph false (n % 10) ∷ text) (digits_onto k 10 false (n / 10) (digit_glyph false (n % 10) ∷ text)) more
    (onto_plain k (n / 10) (digit_glyph false (n % 10) ∷ text) more)

pub decimal_plain : (n : ℕ) → IsPlain (decimal n)
unfolding digits
decimal_plain n = onto_plain 64 n [] (All-nil (λ b. b ≢ 10))

-- what is escaped
abbrev escapes_below : ℕ → Bool
escapes_below zero = true
escapes_below (suc n) = is_text (escape_byte n) && escapes_below n

escape_below : (n : ℕ) → escapes_below n ≡ true → (x : ℕ) → x < n → is_text (escape_byte x) ≡ true
escape_below zero is x low = absurd (omega (arith, low))
escape_below (suc n) is x low =
    let both = and_parts (is_text (escape_byte n)) (escapes_below n) is in
    elim (cases_eq x n) [ inl same ↦ ap (λ m. is_text (escape_byte m)) same ∙ both.0 | inr other ↦ escape_below n both.1 x (omega (arith, low, other)) ]

all_plain : escapes_below 128 ≡ true
unfolding escape_byte
all_plain = refl

byte_plain : (x : ℕ) → IsPlain (escape_byte x)
byte_plain x = elim (cases_lt x 128) [
  | inl small ↦ plain_text (escape_byte x) (escape_below 128 all_plain x small)
  | inr big ↦ subst IsPlain (sym (escape_byte_plain x (λ e. omega (arith, big, e)) (λ e. omega (arith, big, e)) (omega (arith, big)))) (plain_more x [] (λ e. omega (arith, big, e)) (All-nil (λ b. b ≢ 10)))
]

escape_plain : (s : List ℕ) → IsPlain (escape s)
escape_plain [] = All-nil (λ b. b ≢ 10)
escape_plain (x ∷ s) = plain_both (escape_byte x) (escape s) (byte_plain x) (escape_plain s)

pub quoted_plain : (s : List ℕ) → IsPlain (quoted s)
quoted_plain s = plain_more 34 (escape s ++ 34 ∷ []) (λ e. omega (arith, e)) (plain_both (escape s) (34 ∷ []) (escape_plain s) (plain_text (34 ∷ []) refl))

text_plain : (s : List ℕ) → IsPlain (text_json s)
unfolding print_from
text_plain s = plain_both (quoted s) [] (quoted_plain s) (All-nil (λ b. b ≢ 10))

-- names
field_text : (f : Field) → is_text (name_of f) ≡ true
unfolding name_of
field_text Line = refl
field_text f = refl

fault_text : (f : JsonFault) → is_text (fault_name f) ≡ true
fault_text (Missing x) = refl
fault_text (WrongForm x) = refl
fault_text (UnknownWord x) = refl
fault_text UnknownKind = refl
fault_text f = refl

event_text : (f : NodeFault) → is_text (event_fault_name f) ≡ true
event_text Memory = refl
event_text f = refl

place_plain : (place : Option ℕ) → IsPlain (place_member place)
place_plain None = All-nil (λ b. b ≢ 10)
place_plain (Some n) = plain_both (codes ",\"event\":") (decimal n) (plain_text (codes ",\"event\":") refl) (decimal_plain n)

-- ---- lines

-- a line that holds something, with its line feed
pub record IsEnded (text : List ℕ) : Type 0 where
  pub line : List ℕ
  pub fed : IsLine line
  pub is : text ≡ line ++ 10 ∷ []

pub ended_behind : (xs ys : List ℕ) → IsPlain xs → IsEnded ys → IsEnded (xs ++ ys)
ended_behind xs ys plain e = record {
  line = xs ++ e.line;
  fed = record { some = longer xs e.fed.some; plain = plain_both xs e.line plain e.fed.plain };
  is = ap (λ l. xs ++ l) e.is ∙ sym (append_assoc xs e.line (10 ∷ []));
}
  where
    longer : (xs : List ℕ) → 0 < length e.line → 0 < length (xs ++ e.line)
    longer [] some = some
    longer (x ∷ xs) some = zero-lt-suc (length (xs ++ e.line))

word_then : (word ys : List ℕ) → is_text word ≡ true → IsEnded ys → IsEnded (word ++ ys)
word_then word ys is e = ended_behind word ys (plain_text word is) e

number_then : (n : ℕ) (ys : List ℕ) → IsEnded ys → IsEnded (decimal n ++ ys)
number_then n ys e = ended_behind (decimal n) ys (decimal_plain n) e

brace : IsEnded (codes "}\n")
brace = record { line = 125 ∷ []; fed = record { some = zero-lt-suc zero; plain = plain_text (125 ∷ []) refl }; is = refl }

pub known_ended : (n : ℕ) → IsEnded (known_line n)
known_ended n = word_then (codes "{\"done\":\"known\",\"line\":") (decimal n ++ codes "}\n") refl (number_then n (codes "}\n") brace)

numbered : (word : List ℕ) (n : ℕ) → is_text word ≡ true → IsEnded (word ++ (decimal n ++ codes "}\n"))
numbered word n is = word_then word (decimal n ++ codes "}\n") is (number_then n (codes "}\n") brace)

placed : (word : List ℕ) (place : Option ℕ) (ys : List ℕ) → is_text word ≡ true → IsEnded ys → IsEnded (word ++ (place_member place ++ ys))
placed word place ys is e = word_then word (place_member place ++ ys) is (ended_behind (place_member place) ys (place_plain place) e)

pub idle_ended : (n : ℕ) (place : Option ℕ) → IsEnded (idle_line n place)
idle_ended n place = placed (codes "{\"done\":\"idle\"") place (codes ",\"line\":" ++ (decimal n ++ codes "}\n")) refl (numbered (codes ",\"line\":") n refl)

pub skipped_ended : (n : ℕ) (place : Option ℕ) → IsEnded (skipped_line n place)
skipped_ended n place = placed (codes "{\"done\":\"skipped\"") place (codes ",\"line\":" ++ (decimal n ++ codes "}\n")) refl (numbered (codes ",\"line\":") n refl)

pub stepped_ended : (n : ℕ) (place : Option ℕ) (count : ℕ) → IsEnded (stepped_line n place count)
stepped_ended n place count =
    let behind = codes ",\"packets\":" ++ (decimal count ++ codes "}\n") in
    placed (codes "{\"done\":\"stepped\"") place (codes ",\"line\":" ++ (decimal n ++ behind)) refl
    (word_then (codes ",\"line\":") (decimal n ++ behind) refl (number_then n behind (numbered (codes ",\"packets\":") count refl)))

pub all_ended : (n count : ℕ) → IsEnded (all_line n count)
all_ended n count =
    let behind = codes ",\"line\":" ++ (decimal n ++ codes "}\n") in
    word_then (codes "{\"done\":\"all\",\"events\":") (decimal count ++ behind) refl (number_then count behind (numbered (codes ",\"line\":") n refl))

-- a name and a number of a fault
named : (n : ℕ) (name : List ℕ) (number : ℕ) → IsPlain name → IsEnded (codes ",\"line\":" ++ (decimal n ++ (codes ",\"name\":\"" ++ (name ++ (codes "\",\"number\":" ++ (decimal number ++ codes "}\n"))))))
named n name number plain =
    let last = codes "\",\"number\":" ++ (decimal number ++ codes "}\n") in
    let behind = codes ",\"name\":\"" ++ (name ++ last) in
    word_then (codes ",\"line\":") (decimal n ++ behind) refl (number_then n behind
    (word_then (codes ",\"name\":\"") (name ++ last) refl (ended_behind name last plain (numbered (codes "\",\"number\":") number refl))))

pub refused_ended : (n : ℕ) (place : Option ℕ) (fault : NodeFault) → IsEnded (refused_line n place fault)
refused_ended n place fault = placed (codes "{\"done\":\"refused\"") place _ refl (named n (event_fault_name fault) _ (plain_text (event_fault_name fault) (event_text fault)))

pub malformed_ended : (n : ℕ) (place : Option ℕ) (fault : JsonFault) → IsEnded (malformed_line n place fault)
malformed_ended n place fault = of (fault_field fault)
  where
    said : IsPlain (fault_name fault)
    said = plain_text (fault_name fault) (fault_text fault)

    of : (field : Option Field) → IsEnded (fault_line n place fault field)
    of None = placed (codes "{\"done\":\"malformed\"") place _ refl (named n (fault_name fault) _ said)
    of (Some field) =
        placed (codes "{\"done\":\"malformed\"") place _ refl
        (word_then (codes ",\"field\":\"") _ refl (ended_behind (name_of field) _ (plain_text (name_of field) (field_text field))
        (word_then (codes "\"") _ refl (named n (fault_name fault) _ said))))

pub opened_ended : (line : ℕ) (party : List ℕ) (rows serial : ℕ) → IsEnded (opened_line line party rows serial)
opened_ended line party rows serial =
    word_then (codes "{\"done\":\"opened\",\"line\":") _ refl (number_then line _ (word_then (codes ",\"party\":") _ refl (ended_behind (text_json party) _ (text_plain party)
    (word_then (codes ",\"rows\":") _ refl (number_then rows _ (numbered (codes ",\"serial\":") serial refl))))))

-- ---- texts of lines

pub data AreLines : List ℕ → Type 0 where
  no_line : AreLines []
  one_line : (line rest : List ℕ) → IsLine line → AreLines rest → AreLines (line ++ 10 ∷ rest)

pub lines_both : (xs ys : List ℕ) → AreLines xs → AreLines ys → AreLines (xs ++ ys)
lines_both xs ys no_line more = more
lines_both xs ys (one_line line rest fed lines) more =
    subst AreLines (sym (append_assoc line (10 ∷ rest) ys)) (one_line line (rest ++ ys) fed (lines_both rest ys lines more))

pub line_then : (text rest : List ℕ) → IsEnded text → AreLines rest → AreLines (text ++ rest)
line_then text rest e more =
    subst AreLines (sym (append_assoc e.line (10 ∷ []) rest) ∙ ap (λ l. l ++ rest) (sym e.is)) (one_line e.line rest e.fed more)

pub one_ended : (text : List ℕ) → IsEnded text → AreLines text
one_ended text e = subst AreLines (append-nil text) (line_then text [] e no_line)

no_first_feed : (text more : List ℕ) → AreLines text → text ≡ 10 ∷ more → ⊥
no_first_feed text more no_line is = some_is_none 10 more (sym is)
no_first_feed text more (one_line [] rest fed lines) is = not-suc-le-zero fed.some
no_first_feed text more (one_line (c ∷ line) rest fed lines) is =
    fed.plain 0 0 (zero-lt-suc (length line)) (heads c 10 (line ++ 10 ∷ rest) more is)

pub lines_plain : (text : List ℕ) → AreLines text → HasNoEmptyLine text
lines_plain text no_line before after is = nothing before is
  where
    nothing : (b : List ℕ) → [] ≡ b ++ 10 ∷ 10 ∷ after → ⊥
    nothing [] is = some_is_none 10 (10 ∷ after) (sym is)
    nothing (c ∷ b) is = some_is_none c (b ++ 10 ∷ 10 ∷ after) (sym is)
lines_plain text (one_line line rest fed lines) before after is = of (λ m same. lines_plain rest lines m after same) (cuts line (10 ∷ rest) before (10 ∷ 10 ∷ after) is)
  where
    of : ((m : List ℕ) → rest ≢ m ++ 10 ∷ 10 ∷ after) → Cuts line (10 ∷ rest) before (10 ∷ 10 ∷ after) → ⊥
    of later (First m a b) = short m b
      where
        short : (m : List ℕ) → 10 ∷ rest ≡ m ++ 10 ∷ 10 ∷ after → ⊥
        short [] same = no_first_feed rest after lines (tails 10 10 rest (10 ∷ after) same)
        short (c ∷ m) same = later m (tails 10 c rest (m ++ 10 ∷ 10 ∷ after) same)
    of later (Second m a b) = long m a b
      where
        long : (m : List ℕ) → line ≡ before ++ m → 10 ∷ 10 ∷ after ≡ m ++ 10 ∷ rest → ⊥
        long [] a b = no_first_feed rest after lines (sym (tails 10 10 (10 ∷ after) rest b))
        long (c ∷ m) a b =
            let feed : c ≡ 10 = sym (heads 10 c (10 ∷ after) (m ++ 10 ∷ rest) b) in
            plain_has_feed before m (subst IsPlain (a ∙ ap (λ x. before ++ x ∷ m) feed) fed.plain)

-- and so is what begins such a text
pub front_plain : (front more : List ℕ) → AreLines (front ++ more) → HasNoEmptyLine front
front_plain front more lines before after is =
    lines_plain (front ++ more) lines before (after ++ more) (ap (λ l. l ++ more) is ∙ append_assoc before (10 ∷ 10 ∷ after) more)
