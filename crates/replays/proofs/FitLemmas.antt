-- How what stands behind a setup line fits a line.
use Rattle.std.proofs.Common.{append_assoc, ◌≡◌, ◌≢◌, ◌<◌, ℕ, ◌+◌, List, [], ◌∷◌, ◌++◌, All, Bool, true, false, eqb, length, refl, sym, ap, subst, ◌∙◌, append-nil, arith, length-append, true≢false, drop, eqb-true, eq-eqb, Decides, IfOk, Result, Ok, Err, ◌-◌, ap₂, codes, decimal, take, take_at}
use Rattle.std.proofs.lemmas.Fmt.{decimal_nonempty, length-decimal-le_succ}
use Rattle.std.specs.List.{starts_with}
use Rattle.node_core.specs.Members.{IsMadeOfRows, StartsAgainFrom}
use Rattle.node_runs.specs.DoneLines.{opened_line, text_json}
use Rattle.ocpi_types.specs.Setups.{party_of}
use Rattle.ocpi_types.specs.declared.rows.Row.{Row}
use Rattle.ocpi_types.specs.declared.setup.Node.{Node}
use Rattle.ocpi_types.specs.declared.setup.Node.TheVariants as node
use Rattle.operator_rows.specs.Steps as operator_steps
use Rattle.provider_rows.specs.Steps as provider_steps
use Rattle.std.specs.declared.alloc.AllocError.{AllocError}
use Rattle.stored_laws.specs.Nodes.{CanStartAgain, last_serial, restarted}
use Rattle.world_steps.specs.World.{NodeState, Operates, Provides}
use Rattle.replays.proofs.FrontLemmas.{front_of, not_begun}
use Rattle.replays.proofs.Lists.{behind_front, Cuts, First, IsPlain, Second, cuts, last_one, plain_has_feed}
use Rattle.replays.specs.LineTurns.{Held, Store, held_in}
use Rattle.replays.specs.declared.opening.Tried.{Tried}
use Rattle.replays.specs.declared.opening.Tried.TheVariants as tried
use Rattle.replays.specs.Reading.{Fits, IsCut, IsWhole, OpensOver, told_line}
use Rattle.replays.specs.Ways.{IsBegun, IsClosed, IsLineTried, IsNodeTried, IsTried}

pub fit_no : (closed : Bool) (piece line : List ℕ) → starts_with eqb line piece ≡ false → Fits closed piece line → ⊥
fit_no closed piece line no_front (IsWhole is) = not_begun line piece (10 ∷ []) no_front is
fit_no closed piece line no_front (IsCut cut missing is long) = not_begun line piece missing no_front is

pub fit_is : (piece line : List ℕ) → IsClosed line → starts_with eqb line piece ≡ true → length line ≡ length piece + 1 → line ≡ piece ++ 10 ∷ []
fit_is piece line closed front size = of (front_of line piece front)
  where
    of : (rest : List ℕ) × (line ≡ piece ++ rest) → line ≡ piece ++ 10 ∷ []
    of ([], is) = let a = ap length is in let b = length-append piece [] in absurd (omega (arith, a, b, size))
    of (c ∷ [], is) = is ∙ ap (λ x. piece ++ x ∷ []) (last_one piece closed.0 c 10 (sym is ∙ closed.1))
    of (c ∷ d ∷ rest, is) = let a = ap length is in let b = length-append piece (c ∷ d ∷ rest) in absurd (omega (arith, a, b, size))

pub fit_begins : (piece line : List ℕ) → IsClosed line → IsPlain piece → starts_with eqb line piece ≡ true → length line ≢ length piece + 1
    → (missing : List ℕ) × (line ≡ piece ++ missing) × (1 < length missing)
fit_begins piece line closed plain front size = of (front_of line piece front)
  where
    of : (rest : List ℕ) × (line ≡ piece ++ rest) → (missing : List ℕ) × (line ≡ piece ++ missing) × (1 < length missing)
    of ([], is) = plain_has_feed closed.0 [] (subst IsPlain (sym (append-nil piece) ∙ sym is ∙ closed.1) plain)
    of (c ∷ [], is) = let a = ap length is in let b = length-append piece (c ∷ []) in absurd (size (omega (arith, a, b)))
    of (c ∷ d ∷ rest, is) = (c ∷ d ∷ rest, is, omega arith)

-- a line that it does not fit as far as the front of it goes
pub may_not_closed : (piece front rest : List ℕ) → starts_with eqb piece front ≡ false → 1 < length rest → Fits true piece (front ++ rest) → ⊥
may_not_closed piece front rest no_front long (IsCut cut missing is far) = true≢false cut
may_not_closed piece front rest no_front long (IsWhole is) = of (cuts front rest piece (10 ∷ []) is)
  where
    of : Cuts front rest piece (10 ∷ []) → ⊥
    of (First m a b) = not_begun piece front m no_front a
    of (Second m a b) = let x = ap length b in let y = length-append m rest in nothing m a (omega (arith, x, y, long))
      where
        nothing : (m : List ℕ) → front ≡ piece ++ m → ⊥ → ⊥
        nothing m a bad = bad

pub may_not : (piece front rest : List ℕ) → starts_with eqb piece front ≡ false → starts_with eqb front piece ≡ false → (closed : Bool) → Fits closed piece (front ++ rest) → ⊥
may_not piece front rest no_front no_piece closed (IsWhole is) = of (cuts front rest piece (10 ∷ []) is)
  where
    of : Cuts front rest piece (10 ∷ []) → ⊥
    of (First m a b) = not_begun piece front m no_front a
    of (Second m a b) = not_begun front piece m no_piece a
may_not piece front rest no_front no_piece closed (IsCut cut missing is far) = of (cuts front rest piece missing is)
  where
    of : Cuts front rest piece missing → ⊥
    of (First m a b) = not_begun piece front m no_front a
    of (Second m a b) = not_begun front piece m no_piece a

-- ---- the line of an opening

-- up to its serial
line_front : ℕ → List ℕ → ℕ → List ℕ
line_front line party rows =
    codes "{\"done\":\"opened\",\"line\":" ++ (decimal line ++ (codes ",\"party\":" ++ (text_json party ++ (codes ",\"rows\":" ++ (decimal rows ++ codes ",\"serial\":")))))

opened_parts : (line : ℕ) (party : List ℕ) (rows serial : ℕ) → opened_line line party rows serial ≡ line_front line party rows ++ (decimal serial ++ codes "}\n")
unfolding line_front
opened_parts line party rows serial = sym (
    append_assoc a (decimal line ++ (b ++ (text_json party ++ (d ++ (decimal rows ++ e))))) z
    ∙ ap (λ l. a ++ l) (append_assoc (decimal line) (b ++ (text_json party ++ (d ++ (decimal rows ++ e)))) z
    ∙ ap (λ l. decimal line ++ l) (append_assoc b (text_json party ++ (d ++ (decimal rows ++ e))) z
    ∙ ap (λ l. b ++ l) (append_assoc (text_json party) (d ++ (decimal rows ++ e)) z
    ∙ ap (λ l. text_json party ++ l) (append_assoc d (decimal rows ++ e) z ∙ ap (λ l. d ++ l) (append_assoc (decimal rows) e z))))))
  where
    a : List ℕ
    a = codes "{\"done\":\"opened\",\"line\":"

    b : List ℕ
    b = codes ",\"party\":"

    d : List ℕ
    d = codes ",\"rows\":"

    e : List ℕ
    e = codes ",\"serial\":"

    z : List ℕ
    z = decimal serial ++ codes "}\n"

pub opened_closed : (line : ℕ) (party : List ℕ) (rows serial : ℕ) → IsClosed (opened_line line party rows serial)
opened_closed line party rows serial = (
  line_front line party rows ++ (decimal serial ++ 125 ∷ []),
  opened_parts line party rows serial ∙ ap (λ l. line_front line party rows ++ l) (sym (append_assoc (decimal serial) (125 ∷ []) (10 ∷ []))) ∙ sym (append_assoc (line_front line party rows) (decimal serial ++ 125 ∷ []) (10 ∷ [])),
)

-- the line of each serial begins as that of 0 does
pub same_front : (line : ℕ) (party : List ℕ) (rows : ℕ) (text : List ℕ) (n : ℕ) → text ≡ opened_line line party rows 0 → n ≡ length text - 3 → (serial : ℕ)
    → (rest : List ℕ) × (1 < length rest) × (opened_line line party rows serial ≡ take n text ++ rest)
same_front line party rows text n is count serial =
    (decimal serial ++ codes "}\n", long, opened_parts line party rows serial ∙ ap (λ l. l ++ (decimal serial ++ codes "}\n")) (sym front))
  where
    whole : text ≡ line_front line party rows ++ (decimal 0 ++ codes "}\n")
    whole = is ∙ opened_parts line party rows 0

    long : 1 < length (decimal serial ++ codes "}\n")
    long = let a = length-append (decimal serial) (codes "}\n") in omega (arith, a)

    size : n ≡ length (line_front line party rows)
    size =
        let a = ap length whole in
        let b = length-append (line_front line party rows) (decimal 0 ++ codes "}\n") in
        let d = length-append (decimal 0) (codes "}\n") in
        let e = decimal_nonempty 0 (omega arith) in
        let f = length-decimal-le_succ 0 (omega arith) in
        omega (arith, a, b, d, e, f, count)

    front : take n text ≡ line_front line party rows
    front = ap₂ take size whole ∙ take_at (line_front line party rows) (decimal 0 ++ codes "}\n") (length (line_front line party rows)) refl

-- ---- a node that was made

pub line_tried : (member : Node) (held : Held) (rows : List Row) (state : NodeState) (line : List ℕ) (serial : ℕ) (closed : Bool) (piece : List ℕ) (x : Tried) → line ≡ opened_line held.line (party_of member) (length rows) serial
    → serial ≡ last_serial state → IsLineTried line state serial closed piece x → IsNodeTried member held rows state closed piece x
line_tried member held rows state line serial closed piece x is same found = of x found
  where
    told : line ≡ told_line held rows member state
    told = is ∙ ap (λ n. opened_line held.line (party_of member) (length rows) n) same

    of : (x : Tried) → IsLineTried line state serial closed piece x → IsNodeTried member held rows state closed piece x
    of tried.No found = λ fits. found (subst (Fits closed piece) (sym told) fits)
    of tried.May found = subst (IsBegun closed piece) told found
    of (tried.Was o) found = (found.0, sym told ∙ found.1, found.2 ∙ same)

same_serial : (n : NodeState) → last_serial (restarted n) ≡ last_serial n
same_serial (Operates s) = refl
same_serial (Provides s) = refl

-- a node that was made of rows is of its opening
starts_from : (setup : List Node) (member : Node) (rows : List Row) (n : NodeState) → IsMadeOfRows setup member rows n → StartsAgainFrom setup member rows n
starts_from setup (node.Operator party site) rows (Operates s) made = record { of_member = ap operator_steps.restarted made.of_site; has_rows = made.has_rows }
starts_from setup (node.Operator party site) rows (Provides s) made = absurd made
starts_from setup (node.Provider party) rows (Operates s) made = absurd made
starts_from setup (node.Provider party) rows (Provides s) made = record { of_member = ap provider_steps.restarted made.with_peers; has_rows = made.has_rows }

module _ (setup : List Node) (member : Node) (store : Store) (rows : List Row) (same : rows ≡ store.rows) where
  starts_so : (s : NodeState) → OpensOver setup member (held_in store) s → StartsAgainFrom setup member rows s
  starts_so s o = starts_from setup member rows s (subst (λ l. IsMadeOfRows setup member l s) (o.lists ∙ sym same) o.made)

  pub made_over : (n : NodeState) (closed : Bool) (piece : List ℕ) (r : Result Tried AllocError) → IsMadeOfRows setup member rows n
      → CanStartAgain n → ((s : NodeState) → CanStartAgain s → StartsAgainFrom setup member rows s → n ≡ restarted s) → IfOk r (IsNodeTried member (held_in store) store.rows n closed piece)
      → IfOk r (IsTried setup member (held_in store) closed piece)
  made_over n closed piece (Err e) made starts again found = tt
  made_over n closed piece (Ok x) made starts again found = of x found
    where
      over : OpensOver setup member (held_in store) n
      over = record { rows = store.rows; lists = refl; made = subst (λ l. IsMadeOfRows setup member l n) same made; starts = starts }

      one : (s : NodeState) (o : OpensOver setup member (held_in store) s) → told_line (held_in store) o.rows member s ≡ told_line (held_in store) store.rows member n
      one s o =
          let is = again s o.starts (starts_so s o) in
          ap₂ (λ l k. opened_line store.line (party_of member) l k) (ap length o.lists) (sym (same_serial s) ∙ ap last_serial (sym is))

      of : (x : Tried) → IsNodeTried member (held_in store) store.rows n closed piece x → IsTried setup member (held_in store) closed piece x
      of tried.No found = λ s o fits. found (subst (Fits closed piece) (one s o) fits)
      of tried.May found = ((n, (over, found)), (λ s o whole. no_whole found.1.0 found.1.1 found.1.2 (sym (one s o) ∙ whole)))
        where
          no_whole : (missing : List ℕ) → told_line (held_in store) store.rows member n ≡ piece ++ missing → 1 < length missing → told_line (held_in store) store.rows member n ≡ piece ++ 10 ∷ [] → ⊥
          no_whole missing is long whole = let size = ap length (behind_front piece missing (10 ∷ []) (sym is ∙ whole)) in omega (arith, size, long)
      of (tried.Was o) (node_is, tells, serial) = record {
        opens = record { rows = store.rows; lists = refl; made = subst (λ k. IsMadeOfRows setup member store.rows k) (sym node_is) over.made; starts = subst CanStartAgain (sym node_is) starts };
        tells = ap (λ k. told_line (held_in store) store.rows member k) node_is ∙ tells;
        serial = serial ∙ ap last_serial (sym node_is);
      }

  -- rows of which none was made are those of no node
  pub bad_rows : (closed : Bool) (piece : List ℕ) → ((s : NodeState) → CanStartAgain s → StartsAgainFrom setup member rows s → ⊥) → IsTried setup member (held_in store) closed piece tried.No
  bad_rows closed piece none = λ s o fits. none s o.starts (starts_so s o)
