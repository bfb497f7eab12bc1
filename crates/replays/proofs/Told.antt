-- What is told of one run more, and of one line more.
use Rattle.std.proofs.Common.{◌≡◌, ◌≢◌, ℕ, zero, suc, ◌+◌, List, [], ◌∷◌, ◌++◌, length, refl, sym, ap, subst, ◌∙◌, append-nil, arith}
use Rattle.histories.specs.declared.entry.Entry.{Entry}
use Rattle.node_replay.specs.Replayed.{restart_entry}
use Rattle.replays.proofs.Lists.{some_is_none}
use Rattle.replays.specs.Happenings.{Came, Happening, Opened, OpenedRun, Placed, came_by, entries_behind, entries_in, openings_in}
use Rattle.replays.specs.Telling.{AreRunsOf, AreSourcesOf, IsRunOf, Tells}
use Rattle.replays.specs.declared.transcript.Opening.{Opening}
use Rattle.replays.specs.declared.transcript.Source.TheVariants.{Echoed, Restarted}
use Rattle.replays.specs.declared.transcript.Source.{Source}

-- ---- lists that are joined

pub openings_join : (hs ks : List Happening) → openings_in (hs ++ ks) ≡ openings_in hs ++ openings_in ks
openings_join [] ks = refl
openings_join (Opened o ∷ hs) ks = ap (λ l. o ∷ l) (openings_join hs ks)
openings_join (Came line x ∷ hs) ks = openings_join hs ks

pub behind_join : (hs ks : List Happening) → entries_behind (hs ++ ks) ≡ entries_behind hs ++ entries_behind ks
behind_join [] ks = refl
behind_join (Opened o ∷ hs) ks = ap (λ l. restart_entry ∷ l) (behind_join hs ks)
behind_join (Came line x ∷ hs) ks = ap (λ l. x.entry ∷ l) (behind_join hs ks)

pub entries_join : (hs ks : List Happening) → hs ≢ [] → entries_in (hs ++ ks) ≡ entries_in hs ++ entries_behind ks
entries_join [] ks some = absurd (some refl)
entries_join (Opened o ∷ hs) ks some = behind_join hs ks
entries_join (Came line x ∷ hs) ks some = ap (λ l. x.entry ∷ l) (behind_join hs ks)

pub no_openings : (line : List ℕ) (xs : List Placed) → openings_in (came_by line xs) ≡ []
no_openings line [] = refl
no_openings line (x ∷ xs) = no_openings line xs

pub runs_join : (os ps : List OpenedRun) (xs ys : List Opening) → AreRunsOf os xs → AreRunsOf ps ys → AreRunsOf (os ++ ps) (xs ++ ys)
runs_join [] ps [] ys a b = b
runs_join [] ps (x ∷ xs) ys a b = absurd a
runs_join (o ∷ os) ps [] ys a b = absurd a
runs_join (o ∷ os) ps (x ∷ xs) ys (one, more) b = (one, runs_join os ps xs ys more b)

pub as_many : (os : List OpenedRun) (xs : List Opening) → AreRunsOf os xs → length os ≡ length xs
as_many [] [] a = refl
as_many [] (x ∷ xs) a = absurd a
as_many (o ∷ os) [] a = absurd a
as_many (o ∷ os) (x ∷ xs) (one, more) = ap suc (as_many os xs more)

-- the sources of what is told behind come behind
pub sources_join : (n m : ℕ) (hs ks : List Happening) (xs ys : List Source) → AreSourcesOf n hs xs → n + length (openings_in hs) ≡ m
    → AreSourcesOf m ks ys → AreSourcesOf n (hs ++ ks) (xs ++ ys)
sources_join n m [] ks [] ys a count b = subst (λ k. AreSourcesOf k ks ys) (sym (sym (omega arith) ∙ count)) b
sources_join n m [] ks (x ∷ xs) ys a count b = absurd a
sources_join zero m (Opened o ∷ hs) ks xs ys a count b = sources_join 1 m hs ks xs ys a (omega (arith, count)) b
sources_join (suc n) m (Opened o ∷ hs) ks [] ys a count b = absurd a
sources_join (suc n) m (Opened o ∷ hs) ks (Echoed at line ∷ xs) ys a count b = absurd a
sources_join (suc n) m (Opened o ∷ hs) ks (Restarted at ∷ xs) ys (is, a) count b =
    (is, sources_join (suc (suc n)) m hs ks xs ys a (omega (arith, count)) b)
sources_join n m (Came line e ∷ hs) ks [] ys a count b = absurd a
sources_join n m (Came line e ∷ hs) ks (Echoed at text ∷ xs) ys (is, here, a) count b = (is, here, sources_join n m hs ks xs ys a count b)
sources_join n m (Came line e ∷ hs) ks (Restarted at ∷ xs) ys a count b = absurd a

-- ---- what is told

pub nothing_told : Tells [] [] [] []
nothing_told = record { opened = tt; entered = refl; from = tt }

none_first : (os : List Opening) (told : List Happening) → AreRunsOf (openings_in told) os → os ≢ [] → told ≢ []
none_first [] told are some none = some refl
none_first (o ∷ os) [] are some none = are
none_first (o ∷ os) (x ∷ told) are some none = some_is_none x told none

-- of no run nothing is told
pub nothing_before : (told : List Happening) (entries : List Entry) (sources : List Source) → Tells told [] entries sources → told ≡ []
nothing_before [] entries sources tells = refl
nothing_before (Opened o ∷ told) entries sources tells = absurd tells.opened
nothing_before (Came line x ∷ told) entries [] tells = absurd tells.from
nothing_before (Came line x ∷ told) entries (Echoed at text ∷ sources) tells = absurd (none_there at tells.from.0)
  where
    none_there : (at : ℕ) → suc at ≡ 0 → ⊥
    none_there at is = omega (arith, is)
nothing_before (Came line x ∷ told) entries (Restarted at ∷ sources) tells = absurd tells.from

-- the first run
pub first_told : (told : List Happening) (entries : List Entry) (sources : List Source) → Tells told [] entries sources
    → (o : OpenedRun) (x : Opening) → IsRunOf o x → Tells (told ++ Opened o ∷ []) (x ∷ []) entries sources
first_told told entries sources tells o x is = of (nothing_before told entries sources tells) sources tells.from
  where
    of : told ≡ [] → (sources : List Source) → AreSourcesOf 0 told sources → Tells (told ++ Opened o ∷ []) (x ∷ []) entries sources
    of none sources from = record {
      opened = subst (λ l. AreRunsOf (openings_in (l ++ Opened o ∷ [])) (x ∷ [])) (sym none) (is, tt);
      entered = tells.entered ∙ ap entries_in none ∙ ap (λ l. entries_in (l ++ Opened o ∷ [])) (sym none);
      from = subst (λ l. AreSourcesOf 0 (l ++ Opened o ∷ []) sources) (sym none) (subst (λ l. AreSourcesOf 0 l sources) none from);
    }

-- a later one is a restart
pub next_told : (told : List Happening) (openings : List Opening) (entries : List Entry) (sources : List Source) → Tells told openings entries sources → openings ≢ []
    → (o : OpenedRun) (x : Opening) → IsRunOf o x
    → Tells (told ++ Opened o ∷ []) (openings ++ x ∷ []) (entries ++ restart_entry ∷ []) (sources ++ Restarted (length openings) ∷ [])
next_told told openings entries sources tells some o x is = record {
  opened = subst (λ l. AreRunsOf l (openings ++ x ∷ [])) (sym (openings_join told (Opened o ∷ []))) (runs_join (openings_in told) (o ∷ []) openings (x ∷ []) tells.opened (is, tt));
  entered = ap (λ l. l ++ restart_entry ∷ []) tells.entered ∙ sym (entries_join told (Opened o ∷ []) (none_first openings told tells.opened some));
  from = sources_join 0 (length openings) told (Opened o ∷ []) sources (Restarted (length openings) ∷ []) tells.from (count (as_many (openings_in told) openings tells.opened)) (restarts openings some);
}
  where
    count : length (openings_in told) ≡ length openings → 0 + length (openings_in told) ≡ length openings
    count same = omega (arith, same)

    restarts : (os : List Opening) → os ≢ [] → AreSourcesOf (length os) (Opened o ∷ []) (Restarted (length os) ∷ [])
    restarts [] some = absurd (some refl)
    restarts (x ∷ os) some = (refl, tt)

-- what came
pub came_told : (told more : List Happening) (openings : List Opening) (entries : List Entry) (sources added : List Source) → Tells told openings entries sources → openings ≢ []
    → openings_in more ≡ [] → AreSourcesOf (length openings) more added → Tells (told ++ more) openings (entries ++ entries_behind more) (sources ++ added)
came_told told more openings entries sources added tells some quiet from = record {
  opened = subst (λ l. AreRunsOf l openings) (sym (openings_join told more ∙ ap (λ l. openings_in told ++ l) quiet ∙ append-nil (openings_in told))) tells.opened;
  entered = ap (λ l. l ++ entries_behind more) tells.entered ∙ sym (entries_join told more (none_first openings told tells.opened some));
  from = sources_join 0 (length openings) told more sources added tells.from (count (as_many (openings_in told) openings tells.opened)) from;
}
  where
    count : length (openings_in told) ≡ length openings → 0 + length (openings_in told) ≡ length openings
    count same = omega (arith, same)
