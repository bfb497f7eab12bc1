-- What is so of lists that tell a history.
use Rattle.std.proofs.Common.{◌≡◌, ◌≢◌, ◌<◌, ℕ, zero, suc, ◌+◌, List, [], ◌∷◌, All, length, refl, sym, ap, subst, ◌∙◌, arith}
use Rattle.std.proofs.lemmas.List.Elements.{All-contains, All-cons, All-nil}
use Rattle.std.proofs.lemmas.Option.{slice_get_within}
use Rattle.histories.specs.declared.entry.Entry.{Entry}
use Rattle.replays.proofs.Told.{as_many}
use Rattle.replays.specs.Happenings.{Came, Happening, Opened, OpenedRun, entries_behind, entries_in, openings_in}
use Rattle.replays.specs.Telling.{AreRunsOf, AreSourcesOf, Tells}
use Rattle.replays.specs.Transcripts.{IsTranscript, opening_of}
use Rattle.replays.specs.declared.transcript.Opening.{Opening}
use Rattle.replays.specs.declared.transcript.Source.TheVariants.{Echoed, Restarted}
use Rattle.replays.specs.declared.transcript.Source.{Source}

-- each node is one of its setup
members_within : (os : List OpenedRun) (xs : List Opening) → AreRunsOf os xs → All (λ (x : Opening). x.member < length x.setup) xs
members_within [] [] are = All-nil (λ (x : Opening). x.member < length x.setup)
members_within [] (x ∷ xs) are = absurd are
members_within (o ∷ os) [] are = absurd are
members_within (o ∷ os) (x ∷ xs) (one, more) =
    All-cons (λ (y : Opening). y.member < length y.setup) x xs (slice_get_within x.setup x.member o.member one.2) (members_within os xs more)

-- each entry behind an opening has its source
sizes_behind : (n : ℕ) (told : List Happening) (xs : List Source) → AreSourcesOf (suc n) told xs → length xs ≡ length (entries_behind told)
sizes_behind n [] [] from = refl
sizes_behind n [] (x ∷ xs) from = absurd from
sizes_behind n (Opened o ∷ told) [] from = absurd from
sizes_behind n (Opened o ∷ told) (Echoed at line ∷ xs) from = absurd from
sizes_behind n (Opened o ∷ told) (Restarted at ∷ xs) (is, from) = ap suc (sizes_behind (suc n) told xs from)
sizes_behind n (Came line e ∷ told) [] from = absurd from
sizes_behind n (Came line e ∷ told) (Echoed at text ∷ xs) (is, here, from) = ap suc (sizes_behind n told xs from)
sizes_behind n (Came line e ∷ told) (Restarted at ∷ xs) from = absurd from

no_place : {X : Type 0} (at : ℕ) → suc at ≡ 0 → X
no_place at is = absurd (omega (arith, is))

sizes : (told : List Happening) (xs : List Source) → AreSourcesOf 0 told xs → length xs ≡ length (entries_in told)
sizes [] [] from = refl
sizes [] (x ∷ xs) from = absurd from
sizes (Opened o ∷ told) xs from = sizes_behind 0 told xs from
sizes (Came line e ∷ told) [] from = absurd from
sizes (Came line e ∷ told) (Echoed at text ∷ xs) (is, here, from) = no_place at is
sizes (Came line e ∷ told) (Restarted at ∷ xs) from = absurd from

-- it is of a run that was opened
runs_within : (n : ℕ) (told : List Happening) (xs : List Source) → AreSourcesOf n told xs → All (λ (x : Source). opening_of x < n + length (openings_in told)) xs
runs_within n [] [] from = All-nil (λ (x : Source). opening_of x < n + 0)
runs_within n [] (x ∷ xs) from = absurd from
runs_within zero (Opened o ∷ told) xs from = subst (λ m. All (λ (x : Source). opening_of x < m) xs) (omega arith) (runs_within 1 told xs from)
runs_within (suc n) (Opened o ∷ told) [] from = absurd from
runs_within (suc n) (Opened o ∷ told) (Echoed at line ∷ xs) from = absurd from
runs_within (suc n) (Opened o ∷ told) (Restarted at ∷ xs) (is, from) =
    All-cons (λ (x : Source). opening_of x < suc n + length (openings_in (Opened o ∷ told))) (Restarted at) xs (omega (arith, is))
    (subst (λ m. All (λ (x : Source). opening_of x < m) xs) (omega arith) (runs_within (suc (suc n)) told xs from))
runs_within n (Came line e ∷ told) [] from = absurd from
runs_within n (Came line e ∷ told) (Echoed at text ∷ xs) (is, here, from) =
    All-cons (λ (x : Source). opening_of x < n + length (openings_in told)) (Echoed at text) xs (omega (arith, is)) (runs_within n told xs from)
runs_within n (Came line e ∷ told) (Restarted at ∷ xs) from = absurd from

pub is_transcript : (told : List Happening) (openings : List Opening) (entries : List Entry) (sources : List Source) → Tells told openings entries sources → openings ≢ []
    → IsTranscript (record { openings = openings; entries = entries; sources = sources })
is_transcript told openings entries sources tells some = record {
  some = some;
  members = λ x within. All-contains (λ (y : Opening). y.member < length y.setup) openings x (members_within (openings_in told) openings tells.opened) within;
  size = sizes told sources tells.from ∙ ap length (sym tells.entered);
  runs = λ x within. All-contains (λ (y : Source). opening_of y < length openings) sources x
      (subst (λ m. All (λ (y : Source). opening_of y < m) sources) (let same = as_many (openings_in told) openings tells.opened in omega (arith, same)) (runs_within 0 told sources tells.from)) within;
}

-- some run was opened
pub some_opened : (told : List Happening) (openings : List Opening) (entries : List Entry) (sources : List Source) → Tells told openings entries sources → openings ≢ [] → openings_in told ≢ []
some_opened told openings entries sources tells some none = some (no_more openings (sym (as_many (openings_in told) openings tells.opened) ∙ ap length none))
  where
    no_more : (xs : List Opening) → length xs ≡ 0 → xs ≡ []
    no_more [] same = refl
    no_more (x ∷ xs) same = absurd (omega (arith, same))
