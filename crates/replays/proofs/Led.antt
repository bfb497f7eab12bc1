-- Runs that were printed so far, and what follows them.
use Rattle.std.proofs.Common.{◌≡◌, ◌⊎◌, ◌≤◌, ℕ, zero, suc, ◌+◌, List, [], ◌∷◌, ◌++◌, inl, inr, refl, sym, ap, subst, ◌∙◌, append-nil, append_assoc, not-suc-le-zero, arith}
use Rattle.replays.proofs.Lists.{some_is_none}
use Rattle.replays.specs.Cutting.{ArePrintedBy, AtOnce, HasNoEmptyLine, NoMore, OneMore, feeds}

-- the runs of a text, from its front, what is told of them, and what they left
pub data Led {H T : Type 0} (Run : H → List ℕ → List T → H → Type 0) (start : H) : List ℕ → List T → H → Type 0 where
  none_led : Led Run start [] [] start
  feed_led : {text : List ℕ} {told : List T} {held : H} → Led Run start text told held → Led Run start (text ++ 10 ∷ []) told held
  run_led : {text run : List ℕ} {told said : List T} {held left : H} → Led Run start text told held → Run held run said left → HasNoEmptyLine run
      → Led Run start (text ++ 10 ∷ 10 ∷ run) (told ++ said) left

module _ {H T : Type 0} (Run : H → List ℕ → List T → H → Type 0) (start : H) where
  pub led_on : (text : List ℕ) (told : List T) (held : H) → Led Run start text told held → (rest : List ℕ) (later : List T) → ArePrintedBy Run held rest later
      → ArePrintedBy Run start (text ++ rest) (told ++ later)
  led_on text told held none_led rest later printed = printed
  led_on text told held (feed_led {text = before} led) rest later printed =
      subst (λ l. ArePrintedBy Run start l (told ++ later)) (sym (append_assoc before (10 ∷ []) rest)) (led_on before told held led (10 ∷ rest) later (AtOnce printed))
  led_on text told held (run_led {text = before} {run = run} {told = first} {said = said} {held = there} led one plain) rest later printed =
      subst (λ l. ArePrintedBy Run start l ((first ++ said) ++ later)) (sym (append_assoc before (10 ∷ 10 ∷ run) rest))
      (subst (λ l. ArePrintedBy Run start (before ++ (10 ∷ 10 ∷ (run ++ rest))) l) (sym (append_assoc first said later))
      (led_on before first there led (10 ∷ 10 ∷ (run ++ rest)) (said ++ later) (OneMore one plain printed)))

  one_behind : (n : ℕ) → feeds n ++ 10 ∷ [] ≡ feeds (suc n)
  one_behind zero = refl
  one_behind (suc n) = ap (λ l. 10 ∷ l) (one_behind n)

  pub feeds_led : (text : List ℕ) (told : List T) (held : H) (n : ℕ) → Led Run start text told held → Led Run start (text ++ feeds n) told held
  feeds_led text told held zero led = subst (λ l. Led Run start l told held) (sym (append-nil text)) led
  feeds_led text told held (suc n) led =
      subst (λ l. Led Run start l told held) (append_assoc text (feeds n) (10 ∷ []) ∙ ap (λ l. text ++ l) (one_behind n)) (feed_led (feeds_led text told held n led))

  -- ---- how far the runs of a whole text have come

  -- Runs printed all in front of some line feeds, at least two where more stands behind these.
  pub record Reached (whole more : List ℕ) (told : List T) (held : H) : Type 0 where
    pub text : List ℕ
    pub count : ℕ
    pub is : whole ≡ text ++ (feeds count ++ more)
    pub enough : (more ≡ []) ⊎ (2 ≤ count)
    pub led : Led Run start text told held

  pub at_first : (n : ℕ) (more : List ℕ) → Reached (feeds (suc (suc n)) ++ more) more [] start
  at_first n more = record { text = []; count = suc (suc n); is = refl; enough = inr (omega arith); led = none_led }

  -- all was printed
  pub all_printed : (whole : List ℕ) (told : List T) (held : H) → Reached whole [] told held → ArePrintedBy Run start whole told
  all_printed whole told held r =
      subst (λ l. ArePrintedBy Run start l told) (sym (r.is ∙ ap (λ l. r.text ++ l) (append-nil (feeds r.count))))
      (subst (λ l. ArePrintedBy Run start (r.text ++ feeds r.count) l) (append-nil told) (led_on r.text told held r.led (feeds r.count) [] (only_feeds r.count)))
    where
      only_feeds : (n : ℕ) → ArePrintedBy Run held (feeds n) []
      only_feeds zero = NoMore
      only_feeds (suc n) = AtOnce (only_feeds n)

  -- the text in front of the next run
  pub record Before (whole more : List ℕ) (told : List T) (held : H) : Type 0 where
    pub text : List ℕ
    pub is : whole ≡ text ++ (10 ∷ 10 ∷ more)
    pub led : Led Run start text told held

  two_more : (count : ℕ) → 2 ≤ count → (n : ℕ) × (count ≡ suc (suc n))
  two_more zero two = absurd (not-suc-le-zero two)
  two_more (suc zero) two = absurd (omega (arith, two))
  two_more (suc (suc n)) two = (n, refl)

  pub before_next : (whole : List ℕ) (c : ℕ) (others : List ℕ) (told : List T) (held : H) → Reached whole (c ∷ others) told held → Before whole (c ∷ others) told held
  before_next whole c others told held r = of r.enough
    where
      of : (c ∷ others ≡ []) ⊎ (2 ≤ r.count) → Before whole (c ∷ others) told held
      of (inl none) = some_is_none c others none
      of (inr two) =
          let n = two_more r.count two in
          record {
            text = r.text ++ feeds n.0;
            is = r.is ∙ ap (λ k. r.text ++ (feeds k ++ c ∷ others)) n.1 ∙ ap (λ l. r.text ++ l) (ap (λ l. l ++ c ∷ others) (sym (one_behind (suc n.0)) ∙ ap (λ l. l ++ 10 ∷ []) (sym (one_behind n.0))) ∙ append_assoc (feeds n.0 ++ 10 ∷ []) (10 ∷ []) (c ∷ others) ∙ append_assoc (feeds n.0) (10 ∷ []) (10 ∷ c ∷ others)) ∙ sym (append_assoc r.text (feeds n.0) (10 ∷ 10 ∷ c ∷ others));
            led = feeds_led r.text told held n.0 r.led;
          }

  -- one run more
  pub one_more : (whole run more : List ℕ) (told said : List T) (held left : H) (n : ℕ) → (b : Before whole (run ++ (feeds n ++ more)) told held) → Run held run said left → HasNoEmptyLine run
      → (more ≡ []) ⊎ (2 ≤ n) → Reached whole more (told ++ said) left
  one_more whole run more told said held left n b one plain enough = record {
    text = b.text ++ 10 ∷ 10 ∷ run;
    count = n;
    is = b.is ∙ sym (append_assoc b.text (10 ∷ 10 ∷ run) (feeds n ++ more));
    enough = enough;
    led = run_led b.led one plain;
  }

  -- and all in front of a place in a run
  pub printed_to : (whole run rest : List ℕ) (told said : List T) (held left : H) → (b : Before whole (run ++ rest) told held) → Run held run said left → HasNoEmptyLine run
      → ArePrintedBy Run start (b.text ++ 10 ∷ 10 ∷ run) (told ++ said)
  printed_to whole run rest told said held left b one plain =
      subst (λ l. ArePrintedBy Run start l (told ++ said)) (append-nil (b.text ++ 10 ∷ 10 ∷ run))
      (subst (λ l. ArePrintedBy Run start ((b.text ++ 10 ∷ 10 ∷ run) ++ []) l) (append-nil (told ++ said)) (led_on (b.text ++ 10 ∷ 10 ∷ run) (told ++ said) left (run_led b.led one plain) [] [] NoMore))
