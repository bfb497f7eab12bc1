-- What one run printed can be read in one way.
use Rattle.std.proofs.Common.{◌≡◌, ◌≢◌, ◌⊎◌, ◌≤◌, ◌<◌, ℕ, ◌+◌, List, [], ◌∷◌, ◌++◌, Bool, Option, None, Some, Ok, Err, Contains, length, inl, inr, refl, sym, ap, ap₂, subst, ◌∙◌, append_assoc, arith}
use Rattle.json_text.specs.Fault.{Fails as FailsToRead, Read}
use Rattle.json_text.specs.declared.fault.JsonFault.TheVariants.{Memory}
use Rattle.json_text.specs.declared.fault.JsonFault.{JsonFault}
use Rattle.node_core.specs.Members.{IsMadeOfRows}
use Rattle.node_runs.specs.DoneLines.{opened_line}
use Rattle.node_runs.specs.NodeTurns.{number_from}
use Rattle.node_runs.specs.SetupLines.{numbered_setup_in}
use Rattle.ocpi_text.specs.Text.{key}
use Rattle.ocpi_text.specs.Whole.{max_whole}
use Rattle.ocpi_types.specs.Setups.{party_of}
use Rattle.ocpi_types.specs.declared.rows.Row.{Row}
use Rattle.ocpi_types.specs.declared.setup.Node.{Node}
use Rattle.stored_laws.specs.Nodes.{last_serial}
use Rattle.world_steps.specs.World.{NodeState}
use Rattle.replays.proofs.Lines.{Alike, Both, Gifts, Same, one_letter}
use Rattle.replays.proofs.Lists.{IsPlain, behind_front, joined_is_none, plain_has_feed, same_line, some_is_none}
use Rattle.replays.proofs.Seen.{Bare, CutShort, Fault, Seen, WentOn}
use Rattle.replays.specs.Happenings.{Happening}
use Rattle.replays.specs.LineTurns.{Held, IsLeftBy, Lists, Running}
use Rattle.replays.specs.Openings.{Opens, begun, opening_of}
use Rattle.replays.specs.Printed.{GoesOn, Stopped}
use Rattle.replays.specs.Reading as read
use Rattle.replays.specs.Reading.{AreCut, HasSetup, IsAmong, IsBehind, MayBe, OpensOver, Reader, WasOpened, begun_over, told_line}

-- what is known of openings
pub record Openings (Good : Running → Type 0) (Own : Held → Type 0) : Type 0 where
  pub closed : (a : ℕ) (p : List ℕ) (r s : ℕ) → (body : List ℕ) × (opened_line a p r s ≡ body ++ 10 ∷ []) × IsPlain body
  pub long : (a : ℕ) (p : List ℕ) (r s : ℕ) → opened_line a p r s ≢ 10 ∷ []
  -- a line tells its number and its party
  pub one_line : (line : List ℕ) (setup : List Node) (base : Option ℕ) → numbered_setup_in line ≡ Ok (setup, base) → (m n : Node) → Contains setup m → Contains setup n
      → (a b r s u v : ℕ) (piece missing : List ℕ) → a ≤ max_whole → b ≤ max_whole → opened_line a (party_of m) r s ≡ piece ++ 10 ∷ [] → opened_line b (party_of n) u v ≡ piece ++ missing → missing ≢ []
      → (a ≡ b) × (party_of m ≡ party_of n)
  pub no_fault : (line : List ℕ) (setup : List Node) (base : Option ℕ) (fault : JsonFault) → FailsToRead fault (numbered_setup_in line) → fault ≢ Memory
      → numbered_setup_in line ≡ Ok (setup, base) → ⊥
  pub one_fault : (line : List ℕ) (f g : JsonFault) → FailsToRead f (numbered_setup_in line) → f ≢ Memory → FailsToRead g (numbered_setup_in line) → g ≢ Memory → f ≡ g
  pub one_member : (line : List ℕ) (setup : List Node) (base : Option ℕ) → numbered_setup_in line ≡ Ok (setup, base) → (m n : Node) → Contains setup m → Contains setup n
      → key (party_of m) ≡ key (party_of n) → m ≡ n
  pub one_state : (line : List ℕ) (setup : List Node) (base : Option ℕ) → numbered_setup_in line ≡ Ok (setup, base) → (m : Node) → Contains setup m → (held : Held) (s u : NodeState)
      → (o : OpensOver setup m held s) (p : OpensOver setup m held u) → (s ≡ u) × (length o.rows ≡ length p.rows)
  pub same_rows : (held left : Held) → Alike held left → (setup : List Node) (m : Node) (s : NodeState) (rows : List Row) → Lists left.kept rows → IsMadeOfRows setup m rows s
      → (others : List Row) × Lists held.kept others × IsMadeOfRows setup m others s × (length rows ≡ length others)
  pub good : (line : List ℕ) (setup : List Node) (base : Option ℕ) → numbered_setup_in line ≡ Ok (setup, base) → (m : Node) → Contains setup m → (held : Held) → Own held
      → (s : NodeState) → OpensOver setup m held s → Good (begun_over held m s base)
  pub own : (now : Running) (held : Held) → Good now → IsLeftBy now held → Own held
  pub within : (held : Held) → Own held → held.line ≤ max_whole

abbrev setup_in : Read (List Node × Option ℕ) → List Node
setup_in (Ok x) = x.0
setup_in (Err e) = []

abbrev base_in : Read (List Node × Option ℕ) → Option ℕ
base_in (Ok x) = x.1
base_in (Err e) = None

pub same_number : (held left : Held) → Alike held left → left.line ≡ held.line
same_number held left (Same is) = ap (λ (h : Held). h.line) is
same_number held left (Both now a b) = b.line ∙ sym a.line

module _ (Good : Running → Type 0) (gifts : Gifts Good) (Own : Held → Type 0) (known : Openings Good Own) where
  -- one place of the only line feed
  one_feed : (body piece x : List ℕ) → IsPlain body → IsPlain piece → body ++ 10 ∷ [] ≡ piece ++ 10 ∷ x → (body ≡ piece) × (x ≡ [])
  one_feed body piece x p q is = let both = same_line body piece [] x p q is in (both.0, sym both.1)

  -- a line of an opening has one, at its end
  feed_at_end : (held : Held) (rows : List Row) (m : Node) (s : NodeState) (piece x : List ℕ) → IsPlain piece → told_line held rows m s ≡ piece ++ 10 ∷ x → x ≡ []
  feed_at_end held rows m s piece x plain is =
      let c = known.closed held.line (party_of m) (length rows) (last_serial s) in
      (one_feed c.0 piece x c.2 plain (sym c.1 ∙ is)).1

  module _ (line : List ℕ) (setup : List Node) (base : Option ℕ) (reads : numbered_setup_in line ≡ Ok (setup, base)) (w : List ℕ) (held left : Held) (alike : Alike held left) where
    -- an opening over one of two stores that are alike is one over the other
    pub record IsOver (o : Opens w left line) : Type 0 where
      pub within : Contains setup o.member
      pub same : key (party_of o.member) ≡ key w
      pub over : OpensOver setup o.member held o.state
      pub tells : told_line held over.rows o.member o.state ≡ opening_of o
      pub begins : begun o ≡ begun_over held o.member o.state base

    pub is_over : (o : Opens w left line) → IsOver o
    is_over o = record {
      within = subst (λ (l : List Node). Contains l o.member) (sym setups) o.asked.within;
      same = o.asked.same ∙ ap key (some_same o.asked.party w o.asked.asked);
      over = record { rows = rows.0; lists = rows.1; made = subst (λ (l : List Node). IsMadeOfRows l o.member rows.0 o.state) (sym setups) rows.2; starts = o.starts };
      tells = ap₂ (λ a b. opened_line a (party_of o.member) b (last_serial o.state)) (sym number) (sym rows.3);
      begins = ap₂ (λ (a : ℕ) (b : Option ℕ). record { party = party_of o.member; state = o.state; known = a; last = a; number = number_from b a }) number (sym bases);
    }
      where
        setups : setup ≡ o.setup
        setups = ap setup_in (sym reads ∙ o.reads)

        bases : base ≡ o.base
        bases = ap base_in (sym reads ∙ o.reads)

        some_same : (a b : List ℕ) → Some b ≡ Some a → a ≡ b
        some_same a b is = cc

        number : left.line ≡ held.line
        number = same_number held left alike

        rows : (others : List Row) × Lists held.kept others × IsMadeOfRows o.setup o.member others o.state × (length o.rows ≡ length others)
        rows = known.same_rows held left alike o.setup o.member o.state o.rows o.lists o.made

  -- ---- where the line of an opening is cut

  -- what stands behind the first line of a run, which may have a line feed more than was read
  abbrev pub IsRest : List ℕ → List ℕ → Type 0
  IsRest behind also = (also ≡ behind) ⊎ (also ≡ behind ++ 10 ∷ [])

  not_empty : (text : List ℕ) → 1 < length text → text ≢ []
  not_empty [] long none = absurd (omega (arith, long))
  not_empty (c ∷ text) long none = some_is_none c text none

  behind_none : (xs ys : List ℕ) → xs ++ ys ≡ [] → ys ≡ []
  behind_none [] ys none = none
  behind_none (x ∷ xs) ys none = some_is_none x (xs ++ ys) none

  short : (text : List ℕ) → 1 < length text → text ≡ 10 ∷ [] → ⊥
  short text long is = let size = ap length is in omega (arith, long, size)

  module _ (r : Reader) (bytes line behind piece rest : List ℕ) (setup : List Node) (base : Option ℕ) (closed : Bool) (h : HasSetup bytes line behind setup base piece closed rest) (w : List ℕ) (may : MayBe r w) where
    -- it may be of the party of this one's node
    may_be : (party : List ℕ) → key party ≡ key w → MayBe r party
    may_be party same = (λ p within is. may.0 p within (is ∙ same), of may.1)
      where
        of : (r.parties ≡ []) ⊎ IsAmong r.parties w → (r.parties ≡ []) ⊎ IsAmong r.parties party
        of (inl none) = inl none
        of (inr (q, there, also)) = inr (q, there, also ∙ sym same)

    -- a way in which the opening may stand there
    pub record Stands (held left : Held) (alike : Alike held left) (parties : List (List ℕ)) : Type 0 where
      pub party : List ℕ
      pub within : Contains parties party
      pub same : key party ≡ key w

    module _ (held left : Held) (alike : Alike held left) (parties : List (List ℕ)) (cut : AreCut r setup closed piece held parties) where
      of_opening : (o : Opens w left line) → read.Fits closed piece (opening_of o) → Stands held left alike parties × (opening_of o ≢ piece ++ 10 ∷ [])
      of_opening o fits =
          let a = is_over line setup base h.reads w held left alike o in
          let found = cut.all o.member a.within (may_be (party_of o.member) a.same) o.state a.over (subst (λ l. read.Fits closed piece l) (sym a.tells) fits) in
          (record { party = party_of o.member; within = found.0; same = a.same }, (λ is. found.1 (a.tells ∙ is)))

      not_whole : {X : Type 0} (o : Opens w left line) → opening_of o ≡ piece ++ 10 ∷ [] → X
      not_whole o is = absurd ((of_opening o (read.IsWhole is)).1 is)

      no_more : {X : Type 0} (o : Opens w left line) (x : List ℕ) → opening_of o ≡ piece ++ 10 ∷ x → X
      no_more o x is =
          let a = is_over line setup base h.reads w held left alike o in
          let none = feed_at_end held a.over.rows o.member o.state piece x h.plain (a.tells ∙ is) in
          not_whole o (is ∙ ap (λ l. piece ++ 10 ∷ l) none)

      body_is : {X : Type 0} (o : Opens w left line) (text x : List ℕ) → piece ++ 10 ∷ x ≡ opening_of o ++ text → X
      body_is o text x is =
          let a = is_over line setup base h.reads w held left alike o in
          let c = known.closed held.line (party_of o.member) (length a.over.rows) (last_serial o.state) in
          let whole : opening_of o ≡ c.0 ++ 10 ∷ [] = sym a.tells ∙ c.1 in
          let same = same_line piece c.0 x text h.plain c.2 (is ∙ ap (λ l. l ++ text) whole ∙ append_assoc c.0 (10 ∷ []) text) in
          not_whole o (whole ∙ ap (λ l. l ++ 10 ∷ []) (sym same.0))

      pub cut_seen : (also : List ℕ) (said : List Happening) (after : Held) → IsRest behind also → Seen w left line also said after
          → (said ≡ []) × (after ≡ left) × Stands held left alike parties
      cut_seen also said after ends s = by closed rest h.is refl s ends
        where
          by : (c : Bool) (more : List ℕ) → IsBehind behind piece c more → closed ≡ c → Seen w left line also said after → IsRest behind also → (said ≡ []) × (after ≡ left) × Stands held left alike parties
          by c more there e (Fault fault fails real missing is quiet same) ends = absurd (known.no_fault line setup base fault fails real h.reads)
          by c more (read.Line x is) e (CutShort o missing cut_so long quiet same) (inl whole) =
              no_more o (x ++ missing) (cut_so ∙ ap (λ l. l ++ missing) (whole ∙ is) ∙ append_assoc piece (10 ∷ x) missing)
          by c more (read.Line x is) e (CutShort o missing cut_so long quiet same) (inr whole) =
              no_more o ((x ++ 10 ∷ []) ++ missing)
              (cut_so ∙ ap (λ l. l ++ missing) (whole ∙ ap (λ l. l ++ 10 ∷ []) is ∙ append_assoc piece (10 ∷ x) (10 ∷ [])) ∙ append_assoc piece (10 ∷ (x ++ 10 ∷ [])) missing)
          by c more (read.Beginning is) e (CutShort o missing cut_so long quiet same) (inl whole) =
              (quiet, same, (of_opening o (read.IsCut e missing (cut_so ∙ ap (λ l. l ++ missing) (whole ∙ is)) long)).0)
          by c more (read.Beginning is) e (CutShort o missing cut_so long quiet same) (inr whole) =
              no_more o missing (cut_so ∙ ap (λ l. l ++ missing) (whole ∙ ap (λ l. l ++ 10 ∷ []) is) ∙ append_assoc piece (10 ∷ []) missing)
          by c more (read.Line x is) e (Bare o cut_so told kept) (inl whole) =
              no_more o (x ++ 10 ∷ []) (cut_so ∙ ap (λ l. l ++ 10 ∷ []) (whole ∙ is) ∙ append_assoc piece (10 ∷ x) (10 ∷ []))
          by c more (read.Line x is) e (Bare o cut_so told kept) (inr whole) =
              no_more o ((x ++ 10 ∷ []) ++ 10 ∷ [])
              (cut_so ∙ ap (λ l. l ++ 10 ∷ []) (whole ∙ ap (λ l. l ++ 10 ∷ []) is ∙ append_assoc piece (10 ∷ x) (10 ∷ [])) ∙ append_assoc piece (10 ∷ (x ++ 10 ∷ [])) (10 ∷ []))
          by c more (read.Beginning is) e (Bare o cut_so told kept) (inl whole) = not_whole o (cut_so ∙ ap (λ l. l ++ 10 ∷ []) (whole ∙ is))
          by c more (read.Beginning is) e (Bare o cut_so told kept) (inr whole) =
              no_more o (10 ∷ []) (cut_so ∙ ap (λ l. l ++ 10 ∷ []) (whole ∙ ap (λ l. l ++ 10 ∷ []) is) ∙ append_assoc piece (10 ∷ []) (10 ∷ []))
          by c more (read.Line x is) e (WentOn o text told parts said_so on) (inl whole) = body_is o text x (sym is ∙ sym whole ∙ parts)
          by c more (read.Line x is) e (WentOn o text told parts said_so on) (inr whole) =
              body_is o text (x ++ 10 ∷ []) (sym (append_assoc piece (10 ∷ x) (10 ∷ [])) ∙ ap (λ l. l ++ 10 ∷ []) (sym is) ∙ sym whole ∙ parts)
          by c more (read.Beginning is) e (WentOn o text told parts said_so on) (inl whole) =
              let a = is_over line setup base h.reads w held left alike o in
              let c = known.closed held.line (party_of o.member) (length a.over.rows) (last_serial o.state) in
              plain_has_feed c.0 text (subst IsPlain (sym is ∙ sym whole ∙ parts ∙ ap (λ l. l ++ text) (sym a.tells ∙ c.1) ∙ append_assoc c.0 (10 ∷ []) text) h.plain)
          by c more (read.Beginning is) e (WentOn o text told parts said_so on) (inr whole) = body_is o text [] (ap (λ l. l ++ 10 ∷ []) (sym is) ∙ sym whole ∙ parts)

    -- ---- where it stands there

    module _ (held left over : Held) (alike : Alike held left) (way : WasOpened r setup piece over) (number : held.line ≡ over.line → held ≡ over) (owned : Own held) (owned_too : Own over) where
      -- the same node was opened over the same
      record IsIt (o : Opens w left line) : Type 0 where
        here : held ≡ over
        begins : begun o ≡ begun_over over way.member way.state base
        tells : opening_of o ≡ piece ++ 10 ∷ []

      is_it : (o : Opens w left line) (missing : List ℕ) → missing ≢ [] → opening_of o ≡ piece ++ missing → IsIt o
      is_it o missing some is = record {
        here = here;
        begins = a.begins ∙ ap₂ (λ (m : Node) (k : Held). begun_over k m o.state base) members here ∙ ap (λ s. begun_over over way.member s base) states;
        tells = sym a.tells ∙ ap₂ (λ (m : Node) (k : Held). told_line k a.over.rows m o.state) members here ∙ ap₂ (λ s n. opened_line over.line (party_of way.member) n (last_serial s)) both.0 both.1 ∙ way.tells;
      }
        where
          a : IsOver line setup base h.reads w held left alike o
          a = is_over line setup base h.reads w held left alike o

          lines : (over.line ≡ held.line) × (party_of way.member ≡ party_of o.member)
          lines = known.one_line line setup base h.reads way.member o.member way.within a.within over.line held.line (length way.opens.rows) (last_serial way.state) (length a.over.rows) (last_serial o.state) piece missing
              (known.within over owned_too) (known.within held owned) way.tells (a.tells ∙ is) some

          here : held ≡ over
          here = number (sym lines.0)

          members : o.member ≡ way.member
          members = known.one_member line setup base h.reads o.member way.member a.within way.within (ap key (sym lines.1))

          moved : OpensOver setup way.member over o.state
          moved = record {
            rows = a.over.rows;
            lists = subst (λ (k : Held). Lists k.kept a.over.rows) here a.over.lists;
            made = subst (λ (m : Node). IsMadeOfRows setup m a.over.rows o.state) members a.over.made;
            starts = a.over.starts;
          }

          both : (o.state ≡ way.state) × (length a.over.rows ≡ length way.opens.rows)
          both = known.one_state line setup base h.reads way.member way.within over o.state way.state moved way.opens

          states : o.state ≡ way.state
          states = both.0

      -- what the node that was opened printed then
      pub record Went (also : List ℕ) (said : List Happening) (after : Held) : Type 0 where
        pub here : held ≡ over
        pub party : key (party_of way.member) ≡ key w
        pub told : List Happening
        pub on : GoesOn (begun_over over way.member way.state base) rest told after ⊎ ((also ≡ behind ++ 10 ∷ []) × GoesOn (begun_over over way.member way.state base) (rest ++ 10 ∷ []) told after)

      pub opened_seen : (also : List ℕ) (said : List Happening) (after : Held) → IsRest behind also → Seen w left line also said after → Went also said after
      opened_seen also said after ends s = by closed rest h.is refl s ends
        where
          of_it : (o : Opens w left line) → IsIt o → (told : List Happening)
              → GoesOn (begun o) rest told after ⊎ ((also ≡ behind ++ 10 ∷ []) × GoesOn (begun o) (rest ++ 10 ∷ []) told after) → Went also said after
          of_it o it told on = record {
            here = it.here;
            party = party;
            told = told;
            on = over_it on;
          }
            where
              a : IsOver line setup base h.reads w held left alike o
              a = is_over line setup base h.reads w held left alike o

              party : key (party_of way.member) ≡ key w
              party = ap key (sym (ap (λ (n : Running). n.party) it.begins)) ∙ a.same

              over_it : GoesOn (begun o) rest told after ⊎ ((also ≡ behind ++ 10 ∷ []) × GoesOn (begun o) (rest ++ 10 ∷ []) told after)
                  → GoesOn (begun_over over way.member way.state base) rest told after ⊎ ((also ≡ behind ++ 10 ∷ []) × GoesOn (begun_over over way.member way.state base) (rest ++ 10 ∷ []) told after)
              over_it (inl on) = inl (subst (λ n. GoesOn n rest told after) it.begins on)
              over_it (inr (is, on)) = inr (is, subst (λ n. GoesOn n (rest ++ 10 ∷ []) told after) it.begins on)

          no_more : {X : Type 0} (o : Opens w left line) (x : List ℕ) → x ≢ [] → opening_of o ≡ piece ++ 10 ∷ x → X
          no_more o x some is =
              let a = is_over line setup base h.reads w held left alike o in
              absurd (some (feed_at_end held a.over.rows o.member o.state piece x h.plain (a.tells ∙ is)))

          one_more_feed : (x : List ℕ) → behind ≡ piece ++ 10 ∷ x → behind ++ 10 ∷ [] ≡ piece ++ 10 ∷ (x ++ 10 ∷ [])
          one_more_feed x is = ap (λ l. l ++ 10 ∷ []) is ∙ append_assoc piece (10 ∷ x) (10 ∷ [])

          feed_behind : behind ≡ piece → behind ++ 10 ∷ [] ≡ piece ++ 10 ∷ []
          feed_behind is = ap (λ l. l ++ 10 ∷ []) is

          none_there : (x : List ℕ) → x ++ 10 ∷ [] ≢ []
          none_there x none = joined_is_none x 10 [] none

          -- what stands behind an opening
          parts_of : (o : Opens w left line) (text x : List ℕ) → piece ++ 10 ∷ x ≡ opening_of o ++ text → (opening_of o ≡ piece ++ 10 ∷ []) × (x ≡ text)
          parts_of o text x is =
              let a = is_over line setup base h.reads w held left alike o in
              let c = known.closed held.line (party_of o.member) (length a.over.rows) (last_serial o.state) in
              let whole : opening_of o ≡ c.0 ++ 10 ∷ [] = sym a.tells ∙ c.1 in
              let same = same_line piece c.0 x text h.plain c.2 (is ∙ ap (λ l. l ++ text) whole ∙ append_assoc c.0 (10 ∷ []) text) in
              (whole ∙ ap (λ l. l ++ 10 ∷ []) (sym same.0), same.1)

          by : (c : Bool) (more : List ℕ) → IsBehind behind piece c more → rest ≡ more → Seen w left line also said after → IsRest behind also → Went also said after
          by c more there e (Fault fault fails real missing is quiet same) ends = absurd (known.no_fault line setup base fault fails real h.reads)
          by c more (read.Line x is) e (CutShort o missing cut_so long quiet same) (inl whole) =
              no_more o (x ++ missing) (λ none. not_empty missing long (behind_none x missing none)) (cut_so ∙ ap (λ l. l ++ missing) (whole ∙ is) ∙ append_assoc piece (10 ∷ x) missing)
          by c more (read.Line x is) e (CutShort o missing cut_so long quiet same) (inr whole) =
              no_more o ((x ++ 10 ∷ []) ++ missing) (λ none. not_empty missing long (behind_none (x ++ 10 ∷ []) missing none))
              (cut_so ∙ ap (λ l. l ++ missing) (whole ∙ one_more_feed x is) ∙ append_assoc piece (10 ∷ (x ++ 10 ∷ [])) missing)
          by c more (read.Beginning is) e (CutShort o missing cut_so long quiet same) (inl whole) =
              let it = is_it o missing (not_empty missing long) (cut_so ∙ ap (λ l. l ++ missing) (whole ∙ is)) in
              absurd (short missing long (behind_front piece missing (10 ∷ []) (sym (cut_so ∙ ap (λ l. l ++ missing) (whole ∙ is)) ∙ it.tells)))
          by c more (read.Beginning is) e (CutShort o missing cut_so long quiet same) (inr whole) =
              no_more o missing (not_empty missing long) (cut_so ∙ ap (λ l. l ++ missing) (whole ∙ feed_behind is) ∙ append_assoc piece (10 ∷ []) missing)
          by c more (read.Line x is) e (Bare o cut_so told kept) (inl whole) =
              no_more o (x ++ 10 ∷ []) (none_there x) (cut_so ∙ ap (λ l. l ++ 10 ∷ []) (whole ∙ is) ∙ append_assoc piece (10 ∷ x) (10 ∷ []))
          by c more (read.Line x is) e (Bare o cut_so told kept) (inr whole) =
              no_more o ((x ++ 10 ∷ []) ++ 10 ∷ []) (none_there (x ++ 10 ∷ [])) (cut_so ∙ ap (λ l. l ++ 10 ∷ []) (whole ∙ one_more_feed x is) ∙ append_assoc piece (10 ∷ (x ++ 10 ∷ [])) (10 ∷ []))
          by c more (read.Beginning is) e (Bare o cut_so told kept) (inl whole) =
              let it = is_it o (10 ∷ []) (λ none. some_is_none 10 [] none) (cut_so ∙ ap (λ l. l ++ 10 ∷ []) (whole ∙ is)) in
              of_it o it [] (inl (subst (λ l. GoesOn (begun o) l [] after) (sym e) (Stopped (65 ∷ []) one_letter [] (65 ∷ 10 ∷ []) refl after kept)))
          by c more (read.Beginning is) e (Bare o cut_so told kept) (inr whole) =
              no_more o (10 ∷ []) (λ none. some_is_none 10 [] none) (cut_so ∙ ap (λ l. l ++ 10 ∷ []) (whole ∙ feed_behind is) ∙ append_assoc piece (10 ∷ []) (10 ∷ []))
          by c more (read.Line x is) e (WentOn o text told parts said_so on) (inl whole) =
              let p = parts_of o text x (sym is ∙ sym whole ∙ parts) in
              of_it o (is_it o (10 ∷ []) (λ none. some_is_none 10 [] none) p.0) told (inl (subst (λ l. GoesOn (begun o) l told after) (sym p.1 ∙ sym e) on))
          by c more (read.Line x is) e (WentOn o text told parts said_so on) (inr whole) =
              let p = parts_of o text (x ++ 10 ∷ []) (sym (one_more_feed x is) ∙ sym whole ∙ parts) in
              of_it o (is_it o (10 ∷ []) (λ none. some_is_none 10 [] none) p.0) told (inr (whole, subst (λ l. GoesOn (begun o) l told after) (sym p.1 ∙ ap (λ l. l ++ 10 ∷ []) (sym e)) on))
          by c more (read.Beginning is) e (WentOn o text told parts said_so on) (inl whole) =
              let a = is_over line setup base h.reads w held left alike o in
              let c = known.closed held.line (party_of o.member) (length a.over.rows) (last_serial o.state) in
              plain_has_feed c.0 text (subst IsPlain (sym is ∙ sym whole ∙ parts ∙ ap (λ l. l ++ text) (sym a.tells ∙ c.1) ∙ append_assoc c.0 (10 ∷ []) text) h.plain)
          by c more (read.Beginning is) e (WentOn o text told parts said_so on) (inr whole) =
              let p = parts_of o text [] (sym (feed_behind is) ∙ sym whole ∙ parts) in
              of_it o (is_it o (10 ∷ []) (λ none. some_is_none 10 [] none) p.0) told (inl (subst (λ l. GoesOn (begun o) l told after) (sym p.1 ∙ sym e) on))
