-- What a run printed, by what stands behind its first line.
use Rattle.std.proofs.Common.{◌≡◌, ◌≢◌, ◌⊎◌, ◌<◌, ℕ, zero, suc, List, [], ◌∷◌, ◌++◌, None, length, inl, inr, refl, sym, ap, subst, ◌∙◌, append_assoc, not-suc-le-zero, zero-lt-suc}
use Rattle.json_text.specs.Fault.{Fails as FailsToRead}
use Rattle.json_text.specs.declared.fault.JsonFault.TheVariants.{Memory}
use Rattle.json_text.specs.declared.fault.JsonFault.{JsonFault}
use Rattle.node_runs.specs.DoneLines.{malformed_line}
use Rattle.node_runs.specs.SetupLines.{numbered_setup_in}
use Rattle.replays.proofs.Lists.{IsPlain, plain_has_feed, same_line, some_is_none}
use Rattle.replays.specs.Happenings.{Happening, Opened}
use Rattle.replays.specs.LineTurns.{Held, IsLeftBy}
use Rattle.replays.specs.Openings.{Opens, begun, opened_by, opening_of}
use Rattle.replays.specs.Printed as printed
use Rattle.replays.specs.Printed.{GoesOn, Prints}

pub data Seen (wanted : List ℕ) (found : Held) (line behind : List ℕ) (said : List Happening) (left : Held) : Type 0 where
  Fault : (fault : JsonFault) → FailsToRead fault (numbered_setup_in line) → fault ≢ Memory → (missing : List ℕ) → malformed_line 1 None fault ≡ behind ++ missing
      → said ≡ [] → left ≡ found → Seen wanted found line behind said left
  CutShort : (o : Opens wanted found line) → (missing : List ℕ) → opening_of o ≡ behind ++ missing → 1 < length missing → said ≡ [] → left ≡ found → Seen wanted found line behind said left
  Bare : (o : Opens wanted found line) → opening_of o ≡ behind ++ 10 ∷ [] → said ≡ Opened (opened_by o) ∷ [] → IsLeftBy (begun o) left → Seen wanted found line behind said left
  WentOn : (o : Opens wanted found line) → (text : List ℕ) (told : List Happening) → behind ≡ opening_of o ++ text → said ≡ Opened (opened_by o) ∷ told → GoesOn (begun o) text told left
      → Seen wanted found line behind said left

module _ (wanted : List ℕ) (found : Held) where
  of_line : (other line behind : List ℕ) (said : List Happening) (left : Held) → other ≡ line → Seen wanted found other behind said left → Seen wanted found line behind said left
  of_line other line behind said left is seen = subst (λ l. Seen wanted found l behind said left) is seen

  of_behind : (line one other : List ℕ) (said : List Happening) (left : Held) → one ≡ other → Seen wanted found line one said left → Seen wanted found line other said left
  of_behind line one other said left is seen = subst (λ l. Seen wanted found line l said left) is seen

  pub seen : (run : List ℕ) (said : List Happening) (left : Held) → Prints wanted found run said left → (line behind : List ℕ) → IsPlain line → behind ≢ [] → run ≡ line ++ 10 ∷ behind
      → Seen wanted found line behind said left
  seen run said left (printed.NotBegun other is front more cut) line behind plain some same =
      absurd (some (nothing behind more (sym (same_line other line [] (behind ++ more) is.plain plain (cut ∙ ap (λ l. l ++ more) same ∙ append_assoc line (10 ∷ behind) more)).1)))
    where
      nothing : (xs ys : List ℕ) → xs ++ ys ≡ [] → xs ≡ []
      nothing [] ys none = refl
      nothing (x ∷ xs) ys none = some_is_none x (xs ++ ys) none
  seen run said left (printed.NoSetup other is fault fails real front more cut has) line behind plain some same =
      let lines = same_line other line front behind is.plain plain (sym (append_assoc other (10 ∷ []) front) ∙ same) in
      of_line other line behind [] found lines.0 (of_behind other front behind [] found lines.1 (Fault fault fails real more cut refl refl))
  seen run said left (printed.CutOpening other is o front more cut has long) line behind plain some same =
      let lines = same_line other line front behind is.plain plain (sym (append_assoc other (10 ∷ []) front) ∙ same) in
      of_line other line behind [] found lines.0 (of_behind other front behind [] found lines.1 (CutShort o more cut long refl refl))
  seen run said left (printed.BareOpening other is o front cut kept_by kept) line behind plain some same =
      let lines = same_line other line front behind is.plain plain (sym (append_assoc other (10 ∷ []) front) ∙ same) in
      of_line other line behind (Opened (opened_by o) ∷ []) left lines.0 (of_behind other front behind (Opened (opened_by o) ∷ []) left lines.1 (Bare o cut refl kept))
  seen run said left (printed.Begun other is o text told kept_by goes) line behind plain some same =
      let lines = same_line other line (opening_of o ++ text) behind is.plain plain (sym (append_assoc other (10 ∷ []) (opening_of o ++ text)) ∙ same) in
      of_line other line behind (Opened (opened_by o) ∷ told) left lines.0
      (of_behind other (opening_of o ++ text) behind (Opened (opened_by o) ∷ told) left lines.1 (WentOn o text told refl refl goes))

  -- of a first line behind which nothing stands
  module _ (closed : (line : List ℕ) (o : Opens wanted found line) → (body : List ℕ) × (opening_of o ≡ body ++ 10 ∷ []) × IsPlain body) where
    short : {X : Type 0} (run line other behind : List ℕ) → IsPlain other → IsPlain line → 0 < length behind → run ≡ (other ++ 10 ∷ []) ++ behind
        → (run ≡ line) ⊎ (run ≡ line ++ 10 ∷ []) → X
    short run line other behind other_plain plain has same (inl is) = plain_has_feed other behind (subst IsPlain (sym is ∙ same ∙ append_assoc other (10 ∷ []) behind) plain)
    short run line other behind other_plain plain has same (inr is) =
        let none = (same_line other line behind [] other_plain plain (sym (append_assoc other (10 ∷ []) behind) ∙ sym same ∙ is)).1 in
        absurd (not-suc-le-zero (subst (λ l. 0 < length l) none has))

    some_more : (o text : List ℕ) → 0 < length o → 0 < length (o ++ text)
    some_more [] text none = absurd (not-suc-le-zero none)
    some_more (c ∷ o) text some = zero-lt-suc (length (o ++ text))

    has_feed : (body : List ℕ) → 0 < length (body ++ 10 ∷ [])
    has_feed [] = zero-lt-suc 0
    has_feed (c ∷ body) = zero-lt-suc (length (body ++ 10 ∷ []))

    opening_has : (line : List ℕ) (o : Opens wanted found line) → 0 < length (opening_of o)
    opening_has line o = let c = closed line o in subst (λ l. 0 < length l) (sym c.1) (has_feed c.0)

    pub unclosed : (run : List ℕ) (said : List Happening) (left : Held) → Prints wanted found run said left → (line : List ℕ) → IsPlain line → (run ≡ line) ⊎ (run ≡ line ++ 10 ∷ [])
        → (long : (at : List ℕ) (o : Opens wanted found at) → opening_of o ≢ 10 ∷ []) → (said ≡ []) × (left ≡ found)
    unclosed run said left (printed.NotBegun other is front more cut) line plain ends long = (refl, refl)
    unclosed run said left (printed.NoSetup other is fault fails real front more cut has) line plain ends long = short run line other front is.plain plain has refl ends
    unclosed run said left (printed.CutOpening other is o front more cut has far) line plain ends long = short run line other front is.plain plain has refl ends
    unclosed run said left (printed.BareOpening other is o [] cut kept_by kept) line plain ends long = absurd (long other o cut)
    unclosed run said left (printed.BareOpening other is o (c ∷ front) cut kept_by kept) line plain ends long =
        short run line other (c ∷ front) is.plain plain (zero-lt-suc (length front)) refl ends
    unclosed run said left (printed.Begun other is o text told kept_by goes) line plain ends long =
        short run line other (opening_of o ++ text) is.plain plain (some_more (opening_of o) text (opening_has other o)) refl ends
