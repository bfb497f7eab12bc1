-- The text of a moment is printable, and it fits into 24 cells.
use Rattle.std.proofs.Common.{◌≡◌, ℕ, ◌+◌, ◌/◌, ◌%◌, ◌<◌, ◌≤◌, true, List, [], ◌∷◌, ◌++◌, length, refl, arith}
use Rattle.std.specs.Prelude.{◌==◌}
use Rattle.std.proofs.lemmas.Bool.{and_from, cond_both}
use Rattle.std.proofs.lemmas.Bool.Decides.{nat_tests}
use Rattle.ocpi_text.specs.declared.calendar.CalendarDate.{CalendarDate}
use Rattle.ocpi_text.specs.Digits.{two_digits, three_digits}
use Rattle.ocpi_text.specs.Text.{is_printable, is_ascii_text}
use Rattle.ocpi_text.specs.Moment.{date_text, clock_text, fraction_text, parts_text}
use Rattle.ocpi_text.specs.Cells.{padded, IsCiText}
use Rattle.ocpi_text.proofs.Padding.{is_padded}

digit_printable : (d : ℕ) → d < 10 → is_printable (48 + d) ≡ true
digit_printable d small = grind (arith, nat_tests)

before : (x : ℕ) (s : List ℕ) → is_printable x ≡ true → is_ascii_text s ≡ true → is_ascii_text (x ∷ s) ≡ true
unfolding is_ascii_text
before x s first rest = and_from _ _ first rest

two_before : (n : ℕ) (s : List ℕ) → n < 100 → is_ascii_text s ≡ true → is_ascii_text (two_digits n ++ s) ≡ true
two_before n s small rest = before _ _ (digit_printable (n / 10) (omega arith)) (before _ _ (digit_printable (n % 10) (omega arith)) rest)

end_printable : is_ascii_text (90 ∷ []) ≡ true
unfolding is_ascii_text
end_printable = refl

tail_printable : (n : ℕ) → n < 1000 → is_ascii_text (fraction_text n ++ 90 ∷ []) ≡ true
tail_printable n small =
    cond_both (n == 0) [] (46 ∷ three_digits n) (λ (f : List ℕ). is_ascii_text (f ++ 90 ∷ []) ≡ true)
    (λ _. end_printable)
    (λ _. before 46 _ refl (before _ _ (digit_printable (n / 100) (omega arith)) (two_before (n % 100) (90 ∷ []) (omega arith) end_printable)))

parts_printable : (date : CalendarDate) (second millis : ℕ) → date.year < 10000 → date.month < 100 → date.day < 100 → second < 86400 → millis < 1000
    → is_ascii_text (parts_text date second millis) ≡ true
parts_printable date second millis year month day on_clock small =
    two_before (date.year / 100) _ (omega arith) (two_before (date.year % 100) _ (omega arith)
    (before 45 _ refl (two_before date.month _ month (before 45 _ refl (two_before date.day _ day
    (before 84 _ refl (two_before (second / 3600) _ (omega arith)
    (before 58 _ refl (two_before (second / 60 % 60) _ (omega arith)
    (before 58 _ refl (two_before (second % 60) _ (omega arith) (tail_printable millis small))))))))))))

parts_length : (date : CalendarDate) (second millis : ℕ) → length (parts_text date second millis) ≤ 24
parts_length date second millis =
    cond_both (millis == 0) [] (46 ∷ three_digits millis) (λ (f : List ℕ). length (date_text date ++ 84 ∷ clock_text second ++ f ++ 90 ∷ []) ≤ 24)
    (λ _. omega arith)
    (λ _. omega arith)

pub parts_cells : (date : CalendarDate) (second millis : ℕ) → date.year < 10000 → date.month < 100 → date.day < 100 → second < 86400 → millis < 1000
    → (is_ascii_text (parts_text date second millis) ≡ true) × IsCiText 24 (padded 24 (parts_text date second millis))
parts_cells date second millis year month day on_clock small =
    let printable = parts_printable date second millis year month day on_clock small in
    (printable, is_padded 24 (parts_text date second millis) (parts_length date second millis) printable)
