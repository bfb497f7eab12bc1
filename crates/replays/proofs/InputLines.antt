-- No line of an input has a line feed.
use Rattle.std.proofs.Common.{◌≡◌, ◌≢◌, ℕ, ◌-◌, List, [], ◌∷◌, ◌++◌, Bool, true, false, cond, ◌==◌, length, take, refl, sym, ap, ◌∙◌}
use Rattle.std.specs.List.{onto_first, slice_split}
use Rattle.std.specs.Prelude.{slice_index}
use Rattle.std.specs.Str.Lines.{lines, lines_of_parts, strip_carriage_return}
use Rattle.std.proofs.lemmas.List.Elements.{All-nil, All-take}
use Rattle.replays.proofs.Lists.{IsPlain}
use Rattle.replays.proofs.OutputTexts.{plain_more}

abbrev pub ArePlain : List (List ℕ) → Type 0
ArePlain [] = Unit {0}
ArePlain (line ∷ lines) = IsPlain line × ArePlain lines

pub plain_parts : (xs ys : List (List ℕ)) → ArePlain (xs ++ ys) → ArePlain xs × ArePlain ys
plain_parts [] ys plain = (tt, plain)
plain_parts (x ∷ xs) ys plain = let more = plain_parts xs ys plain.1 in ((plain.0, more.0), more.1)

-- a byte in front of the first part
onto_plain : (c : ℕ) (parts : List (List ℕ)) → c ≢ 10 → ArePlain parts → ArePlain (onto_first c parts)
onto_plain c [] other plain = (plain_more c [] other (All-nil (λ b. b ≢ 10)), tt)
onto_plain c (part ∷ parts) other plain = (plain_more c part other plain.0, plain.1)

one_more : (c : ℕ) (parts : List (List ℕ)) (b : Bool) → (c == 10) ≡ b → ArePlain parts → ArePlain (cond b ([] ∷ parts) (onto_first c parts))
one_more c parts true is plain = (All-nil (λ b. b ≢ 10), plain)
one_more c parts false is plain = onto_plain c parts (λ feed. let bad : true ≡ false = sym (ap (λ d. d == 10) feed) ∙ is in absurd cc) plain

parts_plain : (text : List ℕ) → ArePlain (slice_split (λ c. c == 10) text)
parts_plain [] = (All-nil (λ b. b ≢ 10), tt)
parts_plain (c ∷ text) = one_more c (slice_split (λ d. d == 10) text) (c == 10) refl (parts_plain text)

-- without a carriage return at its end
strip_plain : (line : List ℕ) → IsPlain line → IsPlain (strip_carriage_return line)
strip_plain line plain = of (slice_index line (length line - 1) == 13)
  where
    of : (b : Bool) → IsPlain (cond b (take (length line - 1) line) line)
    of true = All-take (λ b. b ≢ 10) (length line - 1) line plain
    of false = plain

lines_of_plain : (parts : List (List ℕ)) → ArePlain parts → ArePlain (lines_of_parts parts)
lines_of_plain [] plain = tt
lines_of_plain (x ∷ []) plain = last (length x == 0)
  where
    last : (b : Bool) → ArePlain (cond b [] (x ∷ []))
    last true = tt
    last false = plain
lines_of_plain (x ∷ y ∷ more) plain = (strip_plain x plain.0, lines_of_plain (y ∷ more) plain.1)

pub lines_are_plain : (text : List ℕ) → ArePlain (lines text)
lines_are_plain text = lines_of_plain (slice_split (λ c. c == 10) text) (parts_plain text)
