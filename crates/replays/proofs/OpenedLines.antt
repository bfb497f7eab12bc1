-- The line of an opening tells its number and its party.
use Rattle.std.proofs.Common.{◌≡◌, ◌≢◌, ◌≤◌, ◌<◌, ◌/◌, ◌%◌, ◌+◌, ◌||◌, ◌==◌, ℕ, zero, suc, List, [], ◌∷◌, ◌++◌, All, Bool, true, false, cond, nat_lt, Some, codes, decimal, refl, sym, ap, subst, ◌∙◌, append-nil, append_assoc, arith, true≢false}
use Rattle.std.proofs.lemmas.Bool.{cond_both}
use Rattle.std.proofs.lemmas.Fmt.{decimal_injective}
use Rattle.std.proofs.lemmas.List.Elements.{All-append, All-cons, All-from_recursion, All-head, All-nil, All-tail, All-weaker}
use Rattle.std.proofs.lemmas.List.Sums.{AllPass-from_list_all}
use Rattle.std.specs.Char.{digit_char}
use Rattle.std.specs.Fmt.{digit_glyph, digits, digits_onto}
use Rattle.json.proofs.Printed.Strings.{content-escape}
use Rattle.json.specs.Print.{escape, escape_byte, escape_letter, print_from, quoted}
use Rattle.json.specs.Text.{content, plain}
use Rattle.node_runs.specs.DoneLines.{opened_line, text_json}
use Rattle.ocpi_text.specs.Text.{is_ascii_text, is_printable}
use Rattle.ocpi_text.specs.Whole.{max_whole}
use Rattle.replays.proofs.Lists.{IsPlain, behind_front, heads, last_is, tails}

-- ---- bytes that are no line feeds

-- those of a number are digits
glyph_high : (d : ℕ) → 48 ≤ digit_glyph false d
glyph_high d = of (nat_lt d 10)
  where
    of : (b : Bool) → 48 ≤ cond b (48 + d) (87 + d)
    of true = omega arith
    of false = omega arith

digits_high : (k n : ℕ) (text : List ℕ) → All (λ b. 48 ≤ b) text → All (λ b. 48 ≤ b) (digits_onto k 10 false n text)
digits_high zero n text high = high
digits_high (suc k) n text high =
    let more = All-cons (λ b. 48 ≤ b) (digit_glyph false (n % 10)) text (glyph_high (n % 10)) high in
    either (n / 10 == 0) (digit_glyph false (n % 10) ∷ text) (digits_onto k 10 false (n / 10) (digit_glyph false (n % 10) ∷ text)) more
    (digits_high k (n / 10) (digit_glyph false (n % 10) ∷ text) more)
  where
    either : (b : Bool) (xs ys : List ℕ) → All (λ b. 48 ≤ b) xs → All (λ b. 48 ≤ b) ys → All (λ b. 48 ≤ b) (cond b xs ys)
    either true xs ys a b = a
    either false xs ys a b = b

pub decimal_high : (n : ℕ) → All (λ b. 48 ≤ b) (decimal n)
unfolding digits
decimal_high n = digits_high 64 n [] (All-nil (λ b. 48 ≤ b))

-- so no lower byte stands in it
pub decimal_without : (c n : ℕ) → c < 48 → All (λ b. b ≢ c) (decimal n)
decimal_without c n low = All-weaker (λ b. 48 ≤ b) (λ b. b ≢ c) (λ b high is. omega (arith, high, is, low)) (decimal n) (decimal_high n)

pub printable_plain : (text : List ℕ) → is_ascii_text text ≡ true → IsPlain text
unfolding is_ascii_text
printable_plain text is =
    All-weaker (λ b. is_printable b ≡ true) (λ b. b ≢ 10) (λ b yes same. true≢false (sym (subst (λ c. is_printable c ≡ true) same yes))) text (AllPass-from_list_all is_printable text is)

-- ---- a text as JSON has it

letter_plain : (x : ℕ) → escape_letter x ≢ 10
letter_plain x =
    cond_both ((x == 34) || (x == 92)) _ _ (λ c. c ≢ 10) (λ yes same. true≢false (sym (subst (λ c. ((c == 34) || (c == 92)) ≡ true) same yes)))
    (λ a. cond_both (x == 8) _ _ (λ c. c ≢ 10) (λ b same. omega (arith, same))
    (λ b. cond_both (x == 12) _ _ (λ c. c ≢ 10) (λ c same. omega (arith, same))
    (λ c. cond_both (x == 10) _ _ (λ c. c ≢ 10) (λ d same. omega (arith, same))
    (λ d. cond_both (x == 13) _ _ (λ c. c ≢ 10) (λ e same. omega (arith, same))
    (λ e. cond_both (x == 9) _ _ (λ c. c ≢ 10) (λ f same. omega (arith, same)) (λ f same. omega (arith, same)))))))

digit_plain : (d : ℕ) → digit_char d ≢ 10
digit_plain d = cond_both (nat_lt d 10) _ _ (λ c. c ≢ 10) (λ a same. omega (arith, same)) (λ a same. omega (arith, same))

control_plain : (high low : ℕ) → high ≢ 10 → low ≢ 10 → IsPlain (92 ∷ 117 ∷ 48 ∷ 48 ∷ high ∷ low ∷ [])
control_plain high low other apart =
    All-from_recursion (λ b. b ≢ 10) (92 ∷ 117 ∷ 48 ∷ 48 ∷ high ∷ low ∷ [])
    ((λ same. omega (arith, same)), ((λ same. omega (arith, same)), ((λ same. omega (arith, same)), ((λ same. omega (arith, same)), (other, (apart, tt))))))

byte_plain : (x : ℕ) → IsPlain (escape_byte x)
unfolding escape_byte
byte_plain x =
    cond_both (nat_lt 0 (escape_letter x)) _ _ IsPlain
    (λ a. All-from_recursion (λ b. b ≢ 10) (92 ∷ escape_letter x ∷ []) ((λ same. omega (arith, same)), (letter_plain x, tt)))
    (λ a. cond_both (nat_lt x 32) _ _ IsPlain (λ b. control_plain (digit_char (x / 16)) (digit_char (x % 16)) (digit_plain (x / 16)) (digit_plain (x % 16)))
    (λ b. All-from_recursion (λ b. b ≢ 10) (x ∷ []) ((λ same. true≢false (subst (λ c. nat_lt c 32 ≡ false) same b)), tt)))

escaped_plain : (text : List ℕ) → IsPlain (escape text)
escaped_plain [] = All-nil (λ b. b ≢ 10)
escaped_plain (x ∷ text) = All-append (λ b. b ≢ 10) (escape_byte x) (escape text) (byte_plain x) (escaped_plain text)

json_is : (text : List ℕ) → text_json text ≡ quoted text
unfolding print_from
json_is text = append-nil (quoted text)

json_plain : (text : List ℕ) → IsPlain (text_json text)
json_plain text =
    subst IsPlain (sym (json_is text)) (All-cons (λ b. b ≢ 10) 34 (escape text ++ 34 ∷ []) (λ same. omega (arith, same))
    (All-append (λ b. b ≢ 10) (escape text) (34 ∷ []) (escaped_plain text) (All-cons (λ b. b ≢ 10) 34 [] (λ same. omega (arith, same)) (All-nil (λ b. b ≢ 10)))))

-- whatever stands behind it, it tells the text
json_tells : (a b xs ys : List ℕ) → text_json a ++ xs ≡ text_json b ++ ys → a ≡ b
json_tells a b xs ys is = of (sym (content-escape a xs) ∙ ap (content plain) bodies ∙ content-escape b ys)
  where
    front : (text rest : List ℕ) → text_json text ++ rest ≡ 34 ∷ (escape text ++ 34 ∷ rest)
    front text rest = ap (λ l. l ++ rest) (json_is text) ∙ ap (λ l. 34 ∷ l) (append_assoc (escape text) (34 ∷ []) rest)

    bodies : escape a ++ 34 ∷ xs ≡ escape b ++ 34 ∷ ys
    bodies = tails 34 34 (escape a ++ 34 ∷ xs) (escape b ++ 34 ∷ ys) (sym (front a xs) ∙ is ∙ front b ys)

    of : Some a ≡ Some b → a ≡ b
    of same = cc

-- ---- the line

pub behind : (xs ys : List ℕ) → IsPlain xs → ((body : List ℕ) × (ys ≡ body ++ 10 ∷ []) × IsPlain body) → (body : List ℕ) × (xs ++ ys ≡ body ++ 10 ∷ []) × IsPlain body
behind xs ys plain_so (body, is, rest) = (xs ++ body, ap (λ l. xs ++ l) is ∙ sym (append_assoc xs body (10 ∷ [])), All-append (λ b. b ≢ 10) xs body plain_so rest)

pub number : (n : ℕ) → IsPlain (decimal n)
number n = decimal_without 10 n (omega arith)

-- what stands behind the party
abbrev tail_of_line : ℕ → ℕ → List ℕ
tail_of_line rows serial = codes ",\"rows\":" ++ (decimal rows ++ (codes ",\"serial\":" ++ (decimal serial ++ codes "}\n")))

tail_ends : (rows serial : ℕ) → (body : List ℕ) × (tail_of_line rows serial ≡ body ++ 10 ∷ []) × IsPlain body
unfolding is_ascii_text
tail_ends rows serial =
    behind (codes ",\"rows\":") _ (printable_plain (codes ",\"rows\":") of_rows) (behind (decimal rows) _ (number rows)
    (behind (codes ",\"serial\":") _ (printable_plain (codes ",\"serial\":") of_serial) (behind (decimal serial) _ (number serial) (125 ∷ [], refl, printable_plain (125 ∷ []) brace))))
  where
    of_rows : is_ascii_text (codes ",\"rows\":") ≡ true
    of_rows = refl

    of_serial : is_ascii_text (codes ",\"serial\":") ≡ true
    of_serial = refl

    brace : is_ascii_text (125 ∷ []) ≡ true
    brace = refl

pub opened_ends : (line : ℕ) (party : List ℕ) (rows serial : ℕ) → (body : List ℕ) × (opened_line line party rows serial ≡ body ++ 10 ∷ []) × IsPlain body
unfolding is_ascii_text
opened_ends line party rows serial =
    behind (codes "{\"done\":\"opened\",\"line\":") _ (printable_plain (codes "{\"done\":\"opened\",\"line\":") opened) (behind (decimal line) _ (number line) (behind (codes ",\"party\":") _ (printable_plain (codes ",\"party\":") of_party)
    (behind (text_json party) _ (json_plain party) (tail_ends rows serial))))
  where
    opened : is_ascii_text (codes "{\"done\":\"opened\",\"line\":") ≡ true
    opened = refl

    of_party : is_ascii_text (codes ",\"party\":") ≡ true
    of_party = refl

pub opened_long : (line : ℕ) (party : List ℕ) (rows serial : ℕ) → opened_line line party rows serial ≢ 10 ∷ []
opened_long line party rows serial is =
    let first = heads 123 10 (codes "\"done\":\"opened\",\"line\":" ++ (decimal line ++ (codes ",\"party\":" ++ (text_json party ++ tail_of_line rows serial)))) [] is in
    omega (arith, first)

-- a text has one place of the first byte of a kind
same_cut : (c : ℕ) (a b xs ys : List ℕ) → All (λ x. x ≢ c) a → All (λ x. x ≢ c) b → a ++ c ∷ xs ≡ b ++ c ∷ ys → (a ≡ b) × (xs ≡ ys)
same_cut c [] [] xs ys p q is = (refl, tails c c xs ys is)
same_cut c [] (y ∷ b) xs ys p q is = absurd (All-head (λ x. x ≢ c) y b q (sym (heads c y xs (b ++ c ∷ ys) is)))
same_cut c (x ∷ a) [] xs ys p q is = absurd (All-head (λ x. x ≢ c) x a p (heads x c (a ++ c ∷ xs) ys is))
same_cut c (x ∷ a) (y ∷ b) xs ys p q is =
    let rest = same_cut c a b xs ys (All-tail (λ x. x ≢ c) x a p) (All-tail (λ x. x ≢ c) y b q) (tails x y (a ++ c ∷ xs) (b ++ c ∷ ys) is) in
    (subst (λ z. x ∷ a ≡ z ∷ b) (heads x y (a ++ c ∷ xs) (b ++ c ∷ ys) is) (ap (λ l. x ∷ l) rest.0), rest.1)

-- whatever stands behind it: its number and its party
front_tells : (a b : ℕ) (p q xs ys : List ℕ) → a ≤ max_whole → b ≤ max_whole
    → codes "{\"done\":\"opened\",\"line\":" ++ (decimal a ++ (codes ",\"party\":" ++ (text_json p ++ xs))) ≡ codes "{\"done\":\"opened\",\"line\":" ++ (decimal b ++ (codes ",\"party\":" ++ (text_json q ++ ys)))
    → (a ≡ b) × (p ≡ q)
front_tells a b p q xs ys small low is =
    let numbers = behind_front (codes "{\"done\":\"opened\",\"line\":") (decimal a ++ (codes ",\"party\":" ++ (text_json p ++ xs))) (decimal b ++ (codes ",\"party\":" ++ (text_json q ++ ys))) is in
    let cut = same_cut 44 (decimal a) (decimal b) (codes "\"party\":" ++ (text_json p ++ xs)) (codes "\"party\":" ++ (text_json q ++ ys)) (decimal_without 44 a (omega arith)) (decimal_without 44 b (omega arith)) numbers in (
      decimal_injective a b (omega (arith, small)) (omega (arith, low)) cut.0,
      json_tells p q xs ys (behind_front (codes "\"party\":") (text_json p ++ xs) (text_json q ++ ys) cut.1),
    )

joined_behind : (a d b j t m : List ℕ) → (a ++ (d ++ (b ++ (j ++ t)))) ++ m ≡ a ++ (d ++ (b ++ (j ++ (t ++ m))))
joined_behind a d b j t m =
    append_assoc a (d ++ (b ++ (j ++ t))) m ∙ ap (λ l. a ++ l) (append_assoc d (b ++ (j ++ t)) m ∙ ap (λ l. d ++ l) (append_assoc b (j ++ t) m ∙ ap (λ l. b ++ l) (append_assoc j t m)))

pub opened_tells : (a b : ℕ) (p q : List ℕ) (r s u v : ℕ) (piece missing : List ℕ) → a ≤ max_whole → b ≤ max_whole → opened_line a p r s ≡ piece ++ 10 ∷ [] → opened_line b q u v ≡ piece ++ missing
    → (a ≡ b) × (p ≡ q)
opened_tells a b p q r s u v piece missing small low whole cut =
    front_tells a b p q (e.0 ++ missing) (tail_of_line u v) small low (sym (rejoined missing) ∙ ap (λ l. l ++ missing) piece_is ∙ sym cut)
  where
    e : (body : List ℕ) × (tail_of_line r s ≡ body ++ 10 ∷ []) × IsPlain body
    e = tail_ends r s

    rejoined : (m : List ℕ) → (codes "{\"done\":\"opened\",\"line\":" ++ (decimal a ++ (codes ",\"party\":" ++ (text_json p ++ e.0)))) ++ m
        ≡ codes "{\"done\":\"opened\",\"line\":" ++ (decimal a ++ (codes ",\"party\":" ++ (text_json p ++ (e.0 ++ m))))
    rejoined m = joined_behind (codes "{\"done\":\"opened\",\"line\":") (decimal a) (codes ",\"party\":") (text_json p) e.0 m

    piece_is : codes "{\"done\":\"opened\",\"line\":" ++ (decimal a ++ (codes ",\"party\":" ++ (text_json p ++ e.0))) ≡ piece
    piece_is =
        last_is (codes "{\"done\":\"opened\",\"line\":" ++ (decimal a ++ (codes ",\"party\":" ++ (text_json p ++ e.0)))) piece 10 10
        (rejoined (10 ∷ []) ∙ ap (λ t. codes "{\"done\":\"opened\",\"line\":" ++ (decimal a ++ (codes ",\"party\":" ++ (text_json p ++ t)))) (sym e.1) ∙ whole)
