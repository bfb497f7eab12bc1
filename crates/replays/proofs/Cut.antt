-- How a text of runs is cut.
use Rattle.std.proofs.Common.{◌≡◌, ◌≢◌, ◌⊎◌, ℕ, zero, suc, List, [], ◌∷◌, ◌++◌, inl, inr, refl, sym, ap, subst, ◌∙◌, append-nil}
use Rattle.replays.proofs.Lists.{Cuts, First, Second, cuts, heads, some_is_none, tails}
use Rattle.replays.specs.Cutting.{ArePrintedBy, AtOnce, AtEmptyLine, AtEnd, AtFeed, BeginsAnew, Empty, EndsRun, Other, HasNoEmptyLine, NoMore, OneMore, feeds}

-- ---- runs

pub not_feed : {X : Type 0} (rest text : List ℕ) → BeginsAnew text → 10 ∷ rest ≡ text → X
not_feed rest text Empty is = some_is_none 10 rest is
not_feed rest text (Other c more other) is = absurd (other (sym (heads 10 c rest more is)))

-- what runs print
pub data Form (text : List ℕ) : Type 0 where
  Nothing : text ≡ [] → Form text
  Feed : text ≡ 10 ∷ [] → Form text
  Feeds : (more : List ℕ) → text ≡ 10 ∷ 10 ∷ more → Form text

module _ {H T : Type 0} (Run : H → List ℕ → List T → H → Type 0) where
  pub form : (held : H) (text : List ℕ) (told : List T) → ArePrintedBy Run held text told → Form text
  form held text told NoMore = Nothing refl
  form held text told (AtOnce {rest = rest} more) = with_feed rest (form held rest told more)
    where
      with_feed : (rest : List ℕ) → Form rest → Form (10 ∷ rest)
      with_feed rest (Nothing is) = Feed (ap (λ l. 10 ∷ l) is)
      with_feed rest (Feed is) = Feeds [] (ap (λ l. 10 ∷ l) is)
      with_feed rest (Feeds more is) = Feeds (10 ∷ more) (ap (λ l. 10 ∷ l) is)
  form held text told (OneMore {run = run} {rest = rest} one plain more) = Feeds (run ++ rest) refl

  module _ (silent : (held left : H) (told : List T) → Run held [] told left → (told ≡ []) × (left ≡ held))
      (begins : (held left : H) (c : ℕ) (text : List ℕ) (told : List T) → Run held (c ∷ text) told left → c ≢ 10) where
    -- of line feeds in front two are enough
    pub drop_feeds : (held : H) (text : List ℕ) (told : List T) (n : ℕ) (more : List ℕ) → BeginsAnew more → text ≡ feeds n ++ more
        → ArePrintedBy Run held text told → ArePrintedBy Run held (10 ∷ 10 ∷ more) told
    drop_feeds held text told zero more anew is NoMore =
        subst (λ l. ArePrintedBy Run held (10 ∷ 10 ∷ l) []) is (AtOnce (AtOnce NoMore))
    drop_feeds held text told (suc n) more anew is NoMore = some_is_none 10 (feeds n ++ more) (sym is)
    drop_feeds held text told zero more anew is (AtOnce {rest = rest} later) = not_feed rest more anew is
    drop_feeds held text told (suc n) more anew is (AtOnce {rest = rest} {told = said} later) =
        drop_feeds held rest said n more anew (tails 10 10 rest (feeds n ++ more) is) later
    drop_feeds held text told zero more anew is (OneMore {run = run} {rest = rest} one plain later) = not_feed (10 ∷ (run ++ rest)) more anew is
    drop_feeds held text told (suc zero) more anew is (OneMore {run = run} {rest = rest} one plain later) =
        not_feed (run ++ rest) more anew (tails 10 10 (10 ∷ (run ++ rest)) more is)
    drop_feeds held text told (suc (suc n)) more anew is (OneMore {left = left} {run = []} {rest = rest} {told = said} {later = then} one plain later) =
        let two : rest ≡ feeds n ++ more = tails 10 10 rest (feeds n ++ more) (tails 10 10 (10 ∷ rest) (10 ∷ (feeds n ++ more)) is) in
        let still = silent held left said one in
        subst (λ l. ArePrintedBy Run held (10 ∷ 10 ∷ more) (l ++ then)) (sym still.0)
        (subst (λ h. ArePrintedBy Run h (10 ∷ 10 ∷ more) then) still.1 (drop_feeds left rest then n more anew two later))
    drop_feeds held text told (suc (suc n)) more anew is (OneMore {left = left} {run = c ∷ run} {rest = rest} {told = said} {later = then} one plain later) =
        let other = begins held left c run said one in
        let two : c ∷ (run ++ rest) ≡ feeds n ++ more = tails 10 10 (c ∷ (run ++ rest)) (feeds n ++ more) (tails 10 10 (10 ∷ c ∷ (run ++ rest)) (10 ∷ (feeds n ++ more)) is) in
        none_left n two
      where
        none_left : (n : ℕ) → c ∷ (run ++ rest) ≡ feeds n ++ more → ArePrintedBy Run held (10 ∷ 10 ∷ more) (said ++ then)
        none_left zero is = subst (λ l. ArePrintedBy Run held (10 ∷ 10 ∷ l) (said ++ then)) is (OneMore one plain later)
        none_left (suc n) is = absurd (begins held left c run said one (heads c 10 (run ++ rest) (feeds n ++ more) is))

    -- ---- the next run

    -- what of that text the next run printed: all, or a line feed more, and what it left
    pub record Next (held : H) (bytes behind : List ℕ) (told : List T) : Type 0 where
      pub run : List ℕ
      pub rest : List ℕ
      pub said : List T
      pub later : List T
      pub left : H
      pub one : Run held run said left
      pub more : ArePrintedBy Run left rest later
      pub tells : told ≡ said ++ later
      pub is : ((run ≡ bytes) × (rest ≡ behind)) ⊎ ((run ≡ bytes ++ 10 ∷ []) × (behind ≡ 10 ∷ rest))

    module _ (held : H) (bytes behind : List ℕ) (ends : (before : List ℕ) → bytes ≢ before ++ 10 ∷ []) (plain : HasNoEmptyLine bytes) (stops : EndsRun behind) where
      next_run : (left : H) (run rest : List ℕ) (said later : List T) → Run held run said left → HasNoEmptyLine run → ArePrintedBy Run left rest later
          → Cuts run rest bytes behind → Next held bytes behind (said ++ later)
      next_run left run rest said later one whole more (First m is also) = shorter m is also (form left rest later more)
        where
          here : run ≡ bytes → rest ≡ behind → Next held bytes behind (said ++ later)
          here same last = record { run = run; rest = rest; said = said; later = later; left = left; one = one; more = more; tells = refl; is = inl (same, last) }

          shorter : (m : List ℕ) → bytes ≡ run ++ m → rest ≡ m ++ behind → Form rest → Next held bytes behind (said ++ later)
          shorter [] is also f = here (sym (is ∙ append-nil run)) also
          shorter (c ∷ m) is also (Nothing none) = some_is_none c (m ++ behind) (sym also ∙ none)
          shorter (c ∷ []) is also (Feed one) =
              absurd (ends run (is ∙ ap (λ x. run ++ x ∷ []) (heads c 10 behind [] (sym also ∙ one))))
          shorter (c ∷ d ∷ m) is also (Feed one) = some_is_none d (m ++ behind) (tails c 10 (d ∷ (m ++ behind)) [] (sym also ∙ one))
          shorter (c ∷ []) is also (Feeds more two) =
              absurd (ends run (is ∙ ap (λ x. run ++ x ∷ []) (heads c 10 behind (10 ∷ more) (sym also ∙ two))))
          shorter (c ∷ d ∷ m) is also (Feeds more two) =
              let first : c ≡ 10 = heads c 10 (d ∷ (m ++ behind)) (10 ∷ more) (sym also ∙ two) in
              let second : d ≡ 10 = heads d 10 (m ++ behind) more (tails c 10 (d ∷ (m ++ behind)) (10 ∷ more) (sym also ∙ two)) in
              absurd (plain run m (is ∙ ap (λ x. run ++ x ∷ d ∷ m) first ∙ ap (λ x. run ++ 10 ∷ x ∷ m) second))
      next_run left run rest said later one whole more (Second m is also) = further behind m is also refl stops
        where
          here : run ≡ bytes → rest ≡ behind → Next held bytes behind (said ++ later)
          here same last = record { run = run; rest = rest; said = said; later = later; left = left; one = one; more = more; tells = refl; is = inl (same, last) }

          with_feed : run ≡ bytes ++ 10 ∷ [] → behind ≡ 10 ∷ rest → Next held bytes behind (said ++ later)
          with_feed same last = record { run = run; rest = rest; said = said; later = later; left = left; one = one; more = more; tells = refl; is = inr (same, last) }

          further : (b m : List ℕ) → run ≡ bytes ++ m → b ≡ m ++ rest → behind ≡ b → EndsRun b → Next held bytes behind (said ++ later)
          further b [] is also same end = here (is ∙ append-nil bytes) (sym (same ∙ also))
          further b (c ∷ m) is also same AtEnd = some_is_none c (m ++ rest) (sym also)
          further b (c ∷ []) is also same AtFeed =
              let first : c ≡ 10 = sym (heads 10 c [] rest also) in
              with_feed (is ∙ ap (λ x. bytes ++ x ∷ []) first) (same ∙ also ∙ ap (λ x. x ∷ rest) first)
          further b (c ∷ d ∷ m) is also same AtFeed = some_is_none d (m ++ rest) (sym (tails 10 c [] (d ∷ (m ++ rest)) also))
          further b (c ∷ []) is also same (AtEmptyLine more) =
              let first : c ≡ 10 = sym (heads 10 c (10 ∷ more) rest also) in
              with_feed (is ∙ ap (λ x. bytes ++ x ∷ []) first) (same ∙ also ∙ ap (λ x. x ∷ rest) first)
          further b (c ∷ d ∷ m) is also same (AtEmptyLine more) =
              let first : c ≡ 10 = sym (heads 10 c (10 ∷ more) (d ∷ (m ++ rest)) also) in
              let second : d ≡ 10 = sym (heads 10 d more (m ++ rest) (tails 10 c (10 ∷ more) (d ∷ (m ++ rest)) also)) in
              absurd (whole bytes m (is ∙ ap (λ x. bytes ++ x ∷ d ∷ m) first ∙ ap (λ x. bytes ++ 10 ∷ x ∷ m) second))

      pub cut : (c : ℕ) (others : List ℕ) → bytes ≡ c ∷ others → c ≢ 10
          → (text : List ℕ) (told : List T) → text ≡ 10 ∷ 10 ∷ (bytes ++ behind) → ArePrintedBy Run held text told → Next held bytes behind told
      cut c others some other text told is NoMore = some_is_none 10 (10 ∷ (bytes ++ behind)) (sym is)
      cut c others some other text told is (AtOnce {rest = rest} {told = said} later) = only_once (form held rest said later)
        where
          begin : 10 ∷ (c ∷ (others ++ behind)) ≡ rest
          begin = sym (tails 10 10 rest (10 ∷ (bytes ++ behind)) is ∙ ap (λ l. 10 ∷ (l ++ behind)) some)

          only_once : Form rest → Next held bytes behind told
          only_once (Nothing none) = some_is_none 10 (c ∷ (others ++ behind)) (begin ∙ none)
          only_once (Feed one) = some_is_none c (others ++ behind) (tails 10 10 (c ∷ (others ++ behind)) [] (begin ∙ one))
          only_once (Feeds more two) =
              absurd (other (heads c 10 (others ++ behind) more (tails 10 10 (c ∷ (others ++ behind)) (10 ∷ more) (begin ∙ two))))
      cut c others some other text told is (OneMore {left = left} {run = run} {rest = rest} {told = said} {later = then} one whole more) =
          next_run left run rest said then one whole more
          (cuts run rest bytes behind (tails 10 10 (run ++ rest) (bytes ++ behind) (tails 10 10 (10 ∷ (run ++ rest)) (10 ∷ (bytes ++ behind)) is)))
