-- What was read of runs is what they printed.
use Rattle.std.proofs.Common.{◌≡◌, ◌≢◌, ◌<◌, ℕ, zero, suc, ◌+◌, List, [], ◌∷◌, ◌++◌, All, Bool, true, false, IsTrue, IsFalse, Option, None, Ok, Contains, length, refl, sym, ap, subst, ◌∙◌, append_assoc, not-suc-le-zero, zero-lt-suc}
use Rattle.std.proofs.lemmas.List.Elements.{All-nil}
use Rattle.json_text.specs.Fault.{Fails as FailsToRead}
use Rattle.json_text.specs.declared.fault.JsonFault.TheVariants.{Memory}
use Rattle.json_text.specs.declared.fault.JsonFault.{JsonFault}
use Rattle.node_runs.specs.DoneLines.{malformed_line}
use Rattle.node_runs.specs.SetupLines.{numbered_setup_in}
use Rattle.ocpi_text.specs.Text.{key}
use Rattle.ocpi_types.specs.Setups.{party_of}
use Rattle.ocpi_types.specs.declared.setup.Node.{Node}
use Rattle.world_steps.specs.World.{NodeState}
use Rattle.replays.proofs.Going.{at_end}
use Rattle.replays.proofs.Lists.{Cuts, First, IsPlain, Second, cuts, heads, joined_is_none, some_is_none, tails}
use Rattle.replays.specs.Cutting.{HasNoEmptyLine}
use Rattle.replays.specs.Happenings.{Happening, Opened}
use Rattle.replays.specs.LineTurns.{Held, IsLine, Running}
use Rattle.replays.specs.Openings.{Opens, opening_of}
use Rattle.replays.specs.Printed as printed
use Rattle.replays.specs.Printed.{GoesOn, Prints}
use Rattle.replays.specs.Reading as read
use Rattle.replays.specs.Reading.{HasSetup, IsBehind, IsFirstLine, MayBeOpened, OpensOver, Reader, begun_over, run_over, told_line}

-- ---- the text of a run

pub record IsText (bytes : List ℕ) : Type 0 where
  pub first : ℕ
  pub others : List ℕ
  pub some : bytes ≡ first ∷ others
  pub begins : first ≢ 10
  pub ends : (before : List ℕ) → bytes ≢ before ++ 10 ∷ []
  pub plain : HasNoEmptyLine bytes

-- its first line holds something, and something stands behind it
pub first_is_line : (bytes line behind : List ℕ) → IsText bytes → IsFirstLine bytes line behind → IsLine line
first_is_line bytes line behind t f = record { some = has line f.is; plain = f.plain }
  where
    has : (l : List ℕ) → bytes ≡ l ++ 10 ∷ behind → 0 < length l
    has [] is = absurd (t.begins (heads t.first 10 t.others behind (sym t.some ∙ is)))
    has (c ∷ l) is = zero-lt-suc (length l)

pub some_behind : (bytes line behind : List ℕ) → IsText bytes → IsFirstLine bytes line behind → behind ≢ []
some_behind bytes line behind t f none = t.ends line (f.is ∙ ap (λ l. line ++ 10 ∷ l) none)

pub has_text : (text : List ℕ) → text ≢ [] → 0 < length text
has_text [] some = absurd (some refl)
has_text (c ∷ text) some = zero-lt-suc (length text)

-- with a line feed more it has no empty line
pub plain_with_feed : (bytes : List ℕ) → IsText bytes → HasNoEmptyLine (bytes ++ 10 ∷ [])
plain_with_feed bytes t before after is = of (cuts bytes (10 ∷ []) before (10 ∷ 10 ∷ after) is)
  where
    of : Cuts bytes (10 ∷ []) before (10 ∷ 10 ∷ after) → ⊥
    of (First m a b) = short m b
      where
        short : (m : List ℕ) → 10 ∷ [] ≡ m ++ 10 ∷ 10 ∷ after → ⊥
        short [] is = some_is_none 10 after (sym (tails 10 10 [] (10 ∷ after) is))
        short (c ∷ m) is = joined_is_none m 10 (10 ∷ after) (sym (tails 10 c [] (m ++ 10 ∷ 10 ∷ after) is))
    of (Second m a b) = long m a b
      where
        long : (m : List ℕ) → bytes ≡ before ++ m → 10 ∷ 10 ∷ after ≡ m ++ 10 ∷ [] → ⊥
        long [] a b = some_is_none 10 after (tails 10 10 (10 ∷ after) [] b)
        long (c ∷ []) a b = t.ends before (a ∙ ap (λ x. before ++ x ∷ []) (sym (heads 10 c (10 ∷ after) (10 ∷ []) b)))
        long (c ∷ d ∷ m) a b =
            let first : c ≡ 10 = sym (heads 10 c (10 ∷ after) (d ∷ (m ++ 10 ∷ [])) b) in
            let second : d ≡ 10 = sym (heads 10 d after (m ++ 10 ∷ []) (tails 10 c (10 ∷ after) (d ∷ (m ++ 10 ∷ [])) b)) in
            t.plain before m (a ∙ ap (λ x. before ++ x ∷ d ∷ m) first ∙ ap (λ x. before ++ 10 ∷ x ∷ m) second)

-- ---- an opening

no_truth : {X : Type 0} (b : Bool) → IsTrue b → IsFalse b → X
no_truth b is not = absurd (let bad : true ≡ false = sym is ∙ not in cc)

module _ (wanted : List ℕ) (setup : List Node) (base : Option ℕ) (line : List ℕ) (reads : numbered_setup_in line ≡ Ok (setup, base)) where
  abbrev pub opens_so : (held : Held) (member : Node) → Contains setup member → key (party_of member) ≡ key wanted → (state : NodeState) → OpensOver setup member held state → Opens wanted held line
  opens_so held member within same state over = record {
    setup = setup;
    base = base;
    reads = reads;
    member = member;
    asked = record { party = wanted; asked = refl; within = within; same = same };
    state = state;
    rows = over.rows;
    lists = over.lists;
    made = over.made;
    starts = over.starts;
  }

-- a beginning of the line of an opening
pub cut_prints : (r : Reader) (bytes line behind piece rest : List ℕ) (setup : List Node) (base : Option ℕ) (closed : Bool) → IsText bytes
    → HasSetup bytes line behind setup base piece closed rest → (held : Held) (party wanted : List ℕ) → MayBeOpened r setup closed piece held party → key party ≡ key wanted
    → Prints wanted held bytes [] held
cut_prints r bytes line behind piece rest setup base closed t h held party wanted m same = of closed rest h.is m.cut
  where
    fed : IsLine line
    fed = first_is_line bytes line behind t h.first

    o : Opens wanted held line
    o = opens_so wanted setup base line h.reads held m.member m.within (ap key m.is ∙ same) m.state m.opens

    of : (c : Bool) (after : List ℕ) → IsBehind behind piece c after → IsFalse c → Prints wanted held bytes [] held
    of c after (read.Line more is) cut = no_truth true refl cut
    of c after (read.Beginning is) cut =
        subst (λ l. Prints wanted held l [] held) (append_assoc line (10 ∷ []) behind ∙ sym h.first.is)
        (printed.CutOpening line fed o behind m.missing (m.tells ∙ ap (λ l. l ++ m.missing) (sym is)) (has_text behind (some_behind bytes line behind t h.first)) m.long)

-- what was said of a first line that is no setup
pub fault_prints : (bytes line behind : List ℕ) → IsText bytes → IsFirstLine bytes line behind → (fault : JsonFault) → FailsToRead fault (numbered_setup_in line) → fault ≢ Memory
    → (missing : List ℕ) → malformed_line 1 None fault ≡ behind ++ missing → (held : Held) (wanted : List ℕ) → Prints wanted held bytes [] held
fault_prints bytes line behind t f fault fails real missing cut held wanted =
    subst (λ l. Prints wanted held l [] held) (append_assoc line (10 ∷ []) behind ∙ sym f.is)
    (printed.NoSetup line (first_is_line bytes line behind t f) fault fails real behind missing cut (has_text behind (some_behind bytes line behind t f)))

-- nothing more than a beginning of the first line
pub unclosed_prints : (bytes : List ℕ) → IsText bytes → IsPlain bytes → (held : Held) (wanted : List ℕ) → Prints wanted held bytes [] held
unclosed_prints bytes t plain held wanted =
    printed.NotBegun bytes (record { some = subst (λ l. 0 < length l) (sym t.some) (zero-lt-suc (length t.others)); plain = plain }) bytes (10 ∷ []) refl

-- where nothing is printed behind an opening nothing is told
nothing_told : (now : Running) (text : List ℕ) (told : List Happening) (left : Held) → GoesOn now text told left → text ≡ [] → told ≡ []
nothing_told now text told left (printed.Stopped line is front more cut kept_by kept) none = refl
nothing_told now text told left (printed.TookHold line is out entered did next gives changed kept_by kept) none = joined_is_none line 10 [] none
nothing_told now text told left (printed.Cut line is out entered did next gives front more cut has kept_by kept) none =
    joined_is_none line 10 front (sym (append_assoc line (10 ∷ []) front) ∙ none)
nothing_told now text told left (printed.Whole line is out entered did next gives behind later kept_by on) none =
    joined_is_none line 10 (out ++ behind) (sym (append_assoc line (10 ∷ []) (out ++ behind)) ∙ none)

pub line_first : (line rest more : List ℕ) → IsLine line → line ++ 10 ∷ rest ≡ 10 ∷ more → ⊥
line_first [] rest more line is = not-suc-le-zero line.some
line_first (c ∷ l) rest more line is = line.plain 0 0 (zero-lt-suc (length l)) (heads c 10 (l ++ 10 ∷ rest) more is)

-- no line feed is printed in front of a line
no_feed_first : (now : Running) (text more : List ℕ) (told : List Happening) (left : Held) → GoesOn now text told left → text ≡ 10 ∷ more → ⊥
no_feed_first now text more told left (printed.Stopped line fed [] behind cut kept_by kept) is = some_is_none 10 more (sym is)
no_feed_first now text more told left (printed.Stopped [] fed (c ∷ front) behind cut kept_by kept) is = not-suc-le-zero fed.some
no_feed_first now text more told left (printed.Stopped (d ∷ line) fed (c ∷ front) behind cut kept_by kept) is =
    fed.plain 0 0 (zero-lt-suc (length line)) (heads d c (line ++ 10 ∷ []) (front ++ behind) cut ∙ heads c 10 front more is)
no_feed_first now text more told left (printed.TookHold line fed out entered did next gives changed kept_by kept) is = line_first line [] more fed is
no_feed_first now text more told left (printed.Cut line fed out entered did next gives front missing cut has kept_by kept) is =
    line_first line front more fed (sym (append_assoc line (10 ∷ []) front) ∙ is)
no_feed_first now text more told left (printed.Whole line fed out entered did next gives behind later kept_by on) is =
    line_first line (out ++ behind) more fed (sym (append_assoc line (10 ∷ []) (out ++ behind)) ∙ is)

-- what is printed with an opening, and behind it
pub opened_prints : (bytes line behind piece rest : List ℕ) (setup : List Node) (base : Option ℕ) (closed : Bool) → IsText bytes
    → HasSetup bytes line behind setup base piece closed rest → (held : Held) (member : Node) → Contains setup member → (state : NodeState) → (over : OpensOver setup member held state)
    → told_line held over.rows member state ≡ piece ++ 10 ∷ [] → (wanted : List ℕ) → key (party_of member) ≡ key wanted
    → (told : List Happening) (left : Held) → GoesOn (begun_over held member state base) rest told left → Prints wanted held bytes (Opened (run_over line setup over.rows member state) ∷ told) left
opened_prints bytes line behind piece rest setup base closed t h held member within state over tells wanted same told left on = of closed rest h.is on
  where
    fed : IsLine line
    fed = first_is_line bytes line behind t h.first

    o : Opens wanted held line
    o = opens_so wanted setup base line h.reads held member within same state over

    of : (c : Bool) (after : List ℕ) → IsBehind behind piece c after → GoesOn (begun_over held member state base) after told left → Prints wanted held bytes (Opened (run_over line setup over.rows member state) ∷ told) left
    of c after (read.Line more is) on =
        subst (λ l. Prints wanted held l (Opened (run_over line setup over.rows member state) ∷ told) left)
        (append_assoc line (10 ∷ []) (opening_of o ++ more) ∙ ap (λ l. line ++ 10 ∷ l) (ap (λ l. l ++ more) tells ∙ append_assoc piece (10 ∷ []) more ∙ sym is) ∙ sym h.first.is)
        (printed.Begun line fed o more told left on)
    of c after (read.Beginning is) on =
        subst (λ l. Prints wanted held bytes (Opened (run_over line setup over.rows member state) ∷ l) left) (sym (nothing_told (begun_over held member state base) [] told left on refl))
        (subst (λ l. Prints wanted held l (Opened (run_over line setup over.rows member state) ∷ []) left) (append_assoc line (10 ∷ []) behind ∙ sym h.first.is)
        (printed.BareOpening line fed o behind (tells ∙ ap (λ l. l ++ 10 ∷ []) (sym is)) left (at_end (begun_over held member state base) [] told left none_plain on)))
      where
        none_plain : IsPlain []
        none_plain = All-nil (λ b. b ≢ 10)

-- the same with a line feed more
pub opened_with_feed : (bytes line behind piece rest : List ℕ) (setup : List Node) (base : Option ℕ) (closed : Bool) → IsText bytes
    → HasSetup bytes line behind setup base piece closed rest → (held : Held) (member : Node) → Contains setup member → (state : NodeState) → (over : OpensOver setup member held state)
    → told_line held over.rows member state ≡ piece ++ 10 ∷ [] → (wanted : List ℕ) → key (party_of member) ≡ key wanted
    → (told : List Happening) (left : Held) → GoesOn (begun_over held member state base) (rest ++ 10 ∷ []) told left
    → Prints wanted held (bytes ++ 10 ∷ []) (Opened (run_over line setup over.rows member state) ∷ told) left
opened_with_feed bytes line behind piece rest setup base closed t h held member within state over tells wanted same told left on = of closed rest h.is on
  where
    fed : IsLine line
    fed = first_is_line bytes line behind t h.first

    o : Opens wanted held line
    o = opens_so wanted setup base line h.reads held member within same state over

    of : (c : Bool) (after : List ℕ) → IsBehind behind piece c after → GoesOn (begun_over held member state base) (after ++ 10 ∷ []) told left
        → Prints wanted held (bytes ++ 10 ∷ []) (Opened (run_over line setup over.rows member state) ∷ told) left
    of c after (read.Line more is) on =
        subst (λ l. Prints wanted held l (Opened (run_over line setup over.rows member state) ∷ told) left)
        (append_assoc line (10 ∷ []) (opening_of o ++ (more ++ 10 ∷ [])) ∙ ap (λ l. line ++ 10 ∷ l) (ap (λ l. l ++ (more ++ 10 ∷ [])) tells ∙ append_assoc piece (10 ∷ []) (more ++ 10 ∷ []) ∙ sym (append_assoc piece (10 ∷ more) (10 ∷ [])) ∙ ap (λ l. l ++ 10 ∷ []) (sym is)) ∙ sym (append_assoc line (10 ∷ behind) (10 ∷ [])) ∙ ap (λ l. l ++ 10 ∷ []) (sym h.first.is))
        (printed.Begun line fed o (more ++ 10 ∷ []) told left on)
    of c after (read.Beginning is) on = absurd (no_feed_first (begun_over held member state base) (10 ∷ []) [] told left on refl)
