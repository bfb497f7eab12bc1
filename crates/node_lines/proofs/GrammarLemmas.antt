-- The lexemes of a value, and what is left behind them.
use Rattle.std.proofs.Common.{◌≡◌, ℕ, suc, Bool, true, false, List, [], ◌∷◌, ◌++◌, Some, refl, sym, ap, subst, ◌∙◌, append_assoc}
use Rattle.json.specs.Token.{Token, begin_object, end_object, begin_array, end_array, key, string, number, boolean, null, bad}
use Rattle.json.specs.Json as json
use Rattle.json.specs.Lex.{Lexeme, Place, token, comma, colon, fresh, after_value, after_comma, after_key, begins_colon, may_begin, may_close, if_allowed, place_token, punctuate}
use Rattle.json.specs.Tree.{json_tokens, items_tokens, members_tokens}
use Rattle.json_text.proofs.FaultyTexts.{IsGood}
use Rattle.node_lines.proofs.LevelLemmas.{AreGood, good_on, levels, levels_on}

-- ---- the first lexeme, by the first token

-- a name is a string that a colon follows
abbrev spelled : Token → Token
spelled begin_object = begin_object
spelled end_object = end_object
spelled begin_array = begin_array
spelled end_array = end_array
spelled (key s) = string s
spelled (string s) = string s
spelled (number s) = number s
spelled (boolean b) = boolean b
spelled null = null
spelled bad = bad

abbrev next : Token → Place
next begin_object = fresh
next end_object = after_value
next begin_array = fresh
next end_array = after_value
next (key s) = after_key
next (string s) = after_value
next (number s) = after_value
next (boolean b) = after_value
next null = after_value
next bad = after_value

abbrev ColonFits : Token → List Lexeme → Type 0
ColonFits begin_object ls = Unit {0}
ColonFits end_object ls = Unit {0}
ColonFits begin_array ls = Unit {0}
ColonFits end_array ls = Unit {0}
ColonFits (key s) ls = begins_colon ls ≡ true
ColonFits (string s) ls = begins_colon ls ≡ false
ColonFits (number s) ls = Unit {0}
ColonFits (boolean b) ls = Unit {0}
ColonFits null ls = Unit {0}
ColonFits bad ls = Unit {0}

record Takes (t : Token) (ts : List Token) (u : Token) (more : List Lexeme) : Type 0 where
  is : u ≡ spelled t
  left : punctuate (next t) more ≡ ts
  fits : ColonFits t more

-- a token that is what it is spelled as
record Stays (t : Token) : Type 0 where
  same : spelled t ≡ t
  fits : (ls : List Lexeme) → ColonFits t ls

allowed : (b : Bool) (u t : Token) (ts : List Token) (p : Place) (more : List Lexeme) → if_allowed b u (λ n. punctuate n more) p ≡ t ∷ ts → IsGood t
    → (u ≡ t) × (punctuate p more ≡ ts)
allowed false u t ts p more e good = absurd (subst IsGood (first e) good)
  where
    first : bad ∷ [] ≡ t ∷ ts → t ≡ bad
    first e = cc
allowed true u t ts p more e good = (cc, cc)

plainly : (b : Bool) (u t : Token) (ts : List Token) (more : List Lexeme) → Stays u → if_allowed b u (λ n. punctuate n more) (next u) ≡ t ∷ ts → IsGood t → Takes t ts u more
plainly b u t ts more s e good =
    let a = allowed b u t ts (next u) more e good in
    subst (λ (x : Token). Takes x ts u more) a.0 (record { is = sym s.same; left = a.1; fits = s.fits more })

texted : (p : Place) (s : List ℕ) (b : Bool) (t : Token) (ts : List Token) (more : List Lexeme) → begins_colon more ≡ b
    → place_token p (string s) b (λ n. punctuate n more) ≡ t ∷ ts → IsGood t
    → Takes t ts (string s) more
texted p s true t ts more c e good =
    let a = allowed (may_begin p) (key s) t ts after_key more e good in
    subst (λ (x : Token). Takes x ts (string s) more) a.0 (record { is = refl; left = a.1; fits = c })
texted p s false t ts more c e good =
    let a = allowed (may_begin p) (string s) t ts after_value more e good in
    subst (λ (x : Token). Takes x ts (string s) more) a.0 (record { is = refl; left = a.1; fits = c })

not_bad : (t : Token) (ts : List Token) → bad ∷ [] ≡ t ∷ ts → IsGood t → ⊥
not_bad t ts e good = let is : t ≡ bad = cc in subst IsGood is good

takes : (p : Place) (u t : Token) (ts : List Token) (more : List Lexeme) → place_token p u (begins_colon more) (λ n. punctuate n more) ≡ t ∷ ts → IsGood t → Takes t ts u more
takes p begin_object t ts more e good = plainly (may_begin p) begin_object t ts more (record { same = refl; fits = λ ls. tt }) e good
takes p end_object t ts more e good = plainly (may_close p) end_object t ts more (record { same = refl; fits = λ ls. tt }) e good
takes p begin_array t ts more e good = plainly (may_begin p) begin_array t ts more (record { same = refl; fits = λ ls. tt }) e good
takes p end_array t ts more e good = plainly (may_close p) end_array t ts more (record { same = refl; fits = λ ls. tt }) e good
takes p (key s) t ts more e good = absurd (not_bad t ts e good)
takes p (string s) t ts more e good = texted p s (begins_colon more) t ts more refl e good
takes p (number s) t ts more e good = plainly (may_begin p) (number s) t ts more (record { same = refl; fits = λ ls. tt }) e good
takes p (boolean b) t ts more e good = plainly (may_begin p) (boolean b) t ts more (record { same = refl; fits = λ ls. tt }) e good
takes p null t ts more e good = plainly (may_begin p) null t ts more (record { same = refl; fits = λ ls. tt }) e good
takes p bad t ts more e good = absurd (not_bad t ts e good)

-- the lexemes begin with that of the token
record Took (t : Token) (ts : List Token) (ls : List Lexeme) : Type 0 where
  more : List Lexeme
  is : ls ≡ token (spelled t) ∷ more
  left : punctuate (next t) more ≡ ts
  fits : ColonFits t more

took : (p : Place) (u t : Token) (ts : List Token) (more : List Lexeme) → place_token p u (begins_colon more) (λ n. punctuate n more) ≡ t ∷ ts → IsGood t
    → Took t ts (token u ∷ more)
took p u t ts more e good =
    let k = takes p u t ts more e good in
    record { more = more; is = ap (λ (x : Token). token x ∷ more) k.is; left = k.left; fits = k.fits }

-- where a value may begin
began : (p : Place) (ls : List Lexeme) (t : Token) (ts : List Token) → may_begin p ≡ true → punctuate p ls ≡ t ∷ ts → IsGood t → Took t ts ls
unfolding punctuate
began fresh [] t ts b e good = absurd cc
began after_comma [] t ts b e good = absurd (not_bad t ts e good)
began after_value ls t ts b e good = absurd cc
began after_key ls t ts b e good = absurd cc
began fresh (token u ∷ ls) t ts b e good = took fresh u t ts ls e good
began after_comma (token u ∷ ls) t ts b e good = took after_comma u t ts ls e good
began fresh (comma ∷ ls) t ts b e good = absurd (not_bad t ts e good)
began after_comma (comma ∷ ls) t ts b e good = absurd (not_bad t ts e good)
began fresh (colon ∷ ls) t ts b e good = absurd (not_bad t ts e good)
began after_comma (colon ∷ ls) t ts b e good = absurd (not_bad t ts e good)

-- a token that does not close
abbrev OpensValue : Token → Type 0
OpensValue begin_object = Unit {0}
OpensValue end_object = ⊥
OpensValue begin_array = Unit {0}
OpensValue end_array = ⊥
OpensValue (key s) = Unit {0}
OpensValue (string s) = Unit {0}
OpensValue (number s) = Unit {0}
OpensValue (boolean b) = Unit {0}
OpensValue null = Unit {0}
OpensValue bad = ⊥

text_refused : (s : List ℕ) (b : Bool) (t : Token) (ts : List Token) (more : List Lexeme) → place_token after_value (string s) b (λ n. punctuate n more) ≡ t ∷ ts → IsGood t → ⊥
text_refused s true t ts more e good = not_bad t ts e good
text_refused s false t ts more e good = not_bad t ts e good

-- behind a value nothing begins but after a comma
refused : (u t : Token) (ts : List Token) (more : List Lexeme) → place_token after_value u (begins_colon more) (λ n. punctuate n more) ≡ t ∷ ts → IsGood t → OpensValue t → ⊥
refused begin_object t ts more e good opens = not_bad t ts e good
refused end_object t ts more e good opens = let is : end_object ≡ t = (allowed true end_object t ts after_value more e good).0 in subst OpensValue (sym is) opens
refused begin_array t ts more e good opens = not_bad t ts e good
refused end_array t ts more e good opens = let is : end_array ≡ t = (allowed true end_array t ts after_value more e good).0 in subst OpensValue (sym is) opens
refused (key s) t ts more e good opens = not_bad t ts e good
refused (string s) t ts more e good opens = text_refused s (begins_colon more) t ts more e good
refused (number s) t ts more e good opens = not_bad t ts e good
refused (boolean b) t ts more e good opens = not_bad t ts e good
refused null t ts more e good opens = not_bad t ts e good
refused bad t ts more e good opens = not_bad t ts e good

pub record Comma (ls : List Lexeme) (ts : List Token) : Type 0 where
  pub more : List Lexeme
  pub is : ls ≡ comma ∷ more
  pub left : punctuate after_comma more ≡ ts

went_on : (ls : List Lexeme) (t : Token) (ts : List Token) → punctuate after_value ls ≡ t ∷ ts → IsGood t → OpensValue t → Comma ls (t ∷ ts)
unfolding punctuate
went_on [] t ts e good opens = absurd cc
went_on (token u ∷ ls) t ts e good opens = absurd (refused u t ts ls e good opens)
went_on (comma ∷ ls) t ts e good opens = record { more = ls; is = refl; left = e }
went_on (colon ∷ ls) t ts e good opens = absurd (not_bad t ts e good)

-- ---- the end of an array or an object

abbrev IsEnd : Token → Type 0
IsEnd begin_object = ⊥
IsEnd end_object = Unit {0}
IsEnd begin_array = ⊥
IsEnd end_array = Unit {0}
IsEnd (key s) = ⊥
IsEnd (string s) = ⊥
IsEnd (number s) = ⊥
IsEnd (boolean b) = ⊥
IsEnd null = ⊥
IsEnd bad = ⊥

text_ends : (s : List ℕ) (b : Bool) (t : Token) (ts : List Token) (more : List Lexeme) → place_token after_comma (string s) b (λ n. punctuate n more) ≡ t ∷ ts → IsEnd t → ⊥
text_ends s true t ts more e end = let is : key s ≡ t = cc in subst IsEnd (sym is) end
text_ends s false t ts more e end = let is : string s ≡ t = cc in subst IsEnd (sym is) end

no_end : (u t : Token) (ts : List Token) (more : List Lexeme) → place_token after_comma u (begins_colon more) (λ n. punctuate n more) ≡ t ∷ ts → IsEnd t → ⊥
no_end begin_object t ts more e end = let is : begin_object ≡ t = cc in subst IsEnd (sym is) end
no_end end_object t ts more e end = let is : bad ≡ t = cc in subst IsEnd (sym is) end
no_end begin_array t ts more e end = let is : begin_array ≡ t = cc in subst IsEnd (sym is) end
no_end end_array t ts more e end = let is : bad ≡ t = cc in subst IsEnd (sym is) end
no_end (key s) t ts more e end = let is : bad ≡ t = cc in subst IsEnd (sym is) end
no_end (string s) t ts more e end = text_ends s (begins_colon more) t ts more e end
no_end (number s) t ts more e end = let is : number s ≡ t = cc in subst IsEnd (sym is) end
no_end (boolean b) t ts more e end = let is : boolean b ≡ t = cc in subst IsEnd (sym is) end
no_end null t ts more e end = let is : null ≡ t = cc in subst IsEnd (sym is) end
no_end bad t ts more e end = let is : bad ≡ t = cc in subst IsEnd (sym is) end

no_end_on : (ls : List Lexeme) (t : Token) (ts : List Token) → punctuate after_comma ls ≡ t ∷ ts → IsEnd t → ⊥
unfolding punctuate
no_end_on [] t ts e end = let is : bad ≡ t = cc in subst IsEnd (sym is) end
no_end_on (token u ∷ ls) t ts e end = no_end u t ts ls e end
no_end_on (comma ∷ ls) t ts e end = let is : bad ≡ t = cc in subst IsEnd (sym is) end
no_end_on (colon ∷ ls) t ts e end = let is : bad ≡ t = cc in subst IsEnd (sym is) end

closed : (ls : List Lexeme) (t : Token) (ts : List Token) → punctuate after_value ls ≡ t ∷ ts → IsGood t → IsEnd t → Took t ts ls
unfolding punctuate
closed [] t ts e good end = absurd cc
closed (token u ∷ ls) t ts e good end = took after_value u t ts ls e good
closed (comma ∷ ls) t ts e good end = absurd (no_end_on ls t ts e end)
closed (colon ∷ ls) t ts e good end = absurd (not_bad t ts e good)

-- ---- a value

pub record ValueAt (j : json.Json) (ls : List Lexeme) (ts : List Token) : Type 0 where
  pub own : List Lexeme
  pub more : List Lexeme
  pub is : ls ≡ own ++ more
  pub left : punctuate after_value more ≡ ts
  pub good : AreGood own
  pub even : (d : ℕ) → levels d own ≡ Some d
  pub again : (p : Place) → may_begin p ≡ true → (rest : List Lexeme) → begins_colon rest ≡ false → punctuate p (own ++ rest) ≡ json_tokens j ++ punctuate after_value rest

-- with the closing bracket
record EndedAt (p : Place) (tokens : List Token) (ls : List Lexeme) (ts : List Token) : Type 0 where
  own : List Lexeme
  more : List Lexeme
  is : ls ≡ own ++ more
  left : punctuate after_value more ≡ ts
  good : AreGood own
  closes : (d : ℕ) → levels (suc d) own ≡ Some d
  again : (rest : List Lexeme) → punctuate p (own ++ rest) ≡ tokens ++ punctuate after_value rest

-- behind a value
record OnAt (tokens : List Token) (ls : List Lexeme) (ts : List Token) : Type 0 where
  at : EndedAt after_value tokens ls ts
  first : (rest : List Lexeme) → begins_colon (at.own ++ rest) ≡ false

one_token : (p : Place) (t : Token) (rest : List Lexeme) → place_token p (spelled t) (begins_colon rest) (λ n. punctuate n rest) ≡ t ∷ punctuate (next t) rest
    → punctuate p (token (spelled t) ∷ rest) ≡ t ∷ punctuate (next t) rest
unfolding punctuate
one_token fresh t rest e = e
one_token after_value t rest e = e
one_token after_comma t rest e = e
one_token after_key t rest e = e

-- the first token of a value
record Head (j : json.Json) : Type 0 where
  first : Token
  rest : List Token
  is : json_tokens j ≡ first ∷ rest
  good : IsGood first
  opens : OpensValue first

head : (j : json.Json) → Head j
head json.null = record { first = null; rest = []; is = refl; good = tt; opens = tt }
head (json.boolean b) = record { first = boolean b; rest = []; is = refl; good = tt; opens = tt }
head (json.number s) = record { first = number s; rest = []; is = refl; good = tt; opens = tt }
head (json.string s) = record { first = string s; rest = []; is = refl; good = tt; opens = tt }
head (json.array js) = record { first = begin_array; rest = items_tokens js; is = refl; good = tt; opens = tt }
head (json.object ms) = record { first = begin_object; rest = members_tokens ms; is = refl; good = tt; opens = tt }

-- a comma stands before a value that comes behind another one
pub comma_first : (j : json.Json) (ls : List Lexeme) (ts : List Token) → punctuate after_value ls ≡ json_tokens j ++ ts → Comma ls (json_tokens j ++ ts)
comma_first j ls ts e =
    let h = head j in
    let same : json_tokens j ++ ts ≡ h.first ∷ (h.rest ++ ts) = ap (λ (us : List Token). us ++ ts) h.is in
    subst (Comma ls) (sym same) (went_on ls h.first (h.rest ++ ts) (e ∙ same) h.good h.opens)

-- an end stands behind the last value
pub record Ended (ls : List Lexeme) (ts : List Token) : Type 0 where
  pub more : List Lexeme
  pub is : ls ≡ token end_array ∷ more
  pub left : punctuate after_value more ≡ ts

pub end_first : (ls : List Lexeme) (ts : List Token) → punctuate after_value ls ≡ end_array ∷ ts → Ended ls ts
end_first ls ts e = let k = closed ls end_array ts e tt tt in record { more = k.more; is = k.is; left = k.left }

pub end_alone : (ls : List Lexeme) (ts : List Token) → punctuate fresh ls ≡ end_array ∷ ts → Ended ls ts
end_alone ls ts e = let k = began fresh ls end_array ts refl e tt in record { more = k.more; is = k.is; left = k.left }

pub no_end_behind_comma : (ls : List Lexeme) (ts : List Token) → punctuate after_comma ls ≡ end_array ∷ ts → ⊥
no_end_behind_comma ls ts e = no_end_on ls end_array ts e tt

-- ---- a value and what stands behind it in its array or object

comma_passed : (ls : List Lexeme) → punctuate after_value (comma ∷ ls) ≡ punctuate after_comma ls
unfolding punctuate
comma_passed ls = refl

colon_passed : (ls : List Lexeme) → punctuate after_key (colon ∷ ls) ≡ punctuate fresh ls
unfolding punctuate
colon_passed ls = refl

ends_at : (p : Place) (t : Token) (ls : List Lexeme) (ts : List Token) → may_close p ≡ true → IsEnd t → Took t ts ls → EndedAt p (t ∷ []) ls ts
ends_at p begin_object ls ts b end k = absurd end
ends_at p end_object ls ts b end k = record {
  own = token end_object ∷ [];
  more = k.more;
  is = k.is;
  left = k.left;
  good = (tt, tt);
  closes = λ d. refl;
  again =
      λ rest. one_token p end_object rest (rw b refl);
}
ends_at p begin_array ls ts b end k = absurd end
ends_at p end_array ls ts b end k = record {
  own = token end_array ∷ [];
  more = k.more;
  is = k.is;
  left = k.left;
  good = (tt, tt);
  closes = λ d. refl;
  again =
      λ rest. one_token p end_array rest (rw b refl);
}
ends_at p (key s) ls ts b end k = absurd end
ends_at p (string s) ls ts b end k = absurd end
ends_at p (number s) ls ts b end k = absurd end
ends_at p (boolean v) ls ts b end k = absurd end
ends_at p null ls ts b end k = absurd end
ends_at p bad ls ts b end k = absurd end

no_colon_by : (t : Token) (ls : List Lexeme) (ts : List Token) (end : IsEnd t) (k : Took t ts ls) (rest : List Lexeme)
    → begins_colon ((ends_at after_value t ls ts refl end k).own ++ rest) ≡ false
unfolding ends_at
no_colon_by begin_object ls ts end k rest = absurd end
no_colon_by end_object ls ts end k rest = refl
no_colon_by begin_array ls ts end k rest = absurd end
no_colon_by end_array ls ts end k rest = refl
no_colon_by (key s) ls ts end k rest = absurd end
no_colon_by (string s) ls ts end k rest = absurd end
no_colon_by (number s) ls ts end k rest = absurd end
no_colon_by (boolean v) ls ts end k rest = absurd end
no_colon_by null ls ts end k rest = absurd end
no_colon_by bad ls ts end k rest = absurd end

on_end : (t : Token) (ls : List Lexeme) (ts : List Token) → IsEnd t → Took t ts ls → OnAt (t ∷ []) ls ts
on_end t ls ts end k = record { at = ends_at after_value t ls ts refl end k; first = no_colon_by t ls ts end k }

joined : (p : Place) (j : json.Json) (us : List Token) (ls : List Lexeme) (ts : List Token) → may_begin p ≡ true → (v : ValueAt j ls (us ++ ts)) → OnAt us v.more ts
    → EndedAt p (json_tokens j ++ us) ls ts
joined p j us ls ts b v on =
    let r = on.at in
    record {
      own = v.own ++ r.own;
      more = r.more;
      is = v.is ∙ ap (λ (xs : List Lexeme). v.own ++ xs) r.is ∙ sym (append_assoc v.own r.own r.more);
      left = r.left;
      good = good_on v.own r.own v.good r.good;
      closes = λ d. levels_on v.own r.own (suc d) (suc d) (v.even (suc d)) ∙ r.closes d;
      again = λ rest. ap (punctuate p) (append_assoc v.own r.own rest) ∙ v.again p b (r.own ++ rest) (on.first rest)
          ∙ ap (λ (xs : List Token). json_tokens j ++ xs) (r.again rest) ∙ sym (append_assoc (json_tokens j) us (punctuate after_value rest));
    }

behind_comma : (us : List Token) (ls : List Lexeme) (ts : List Token) → (c : Comma ls (us ++ ts)) → EndedAt after_comma us c.more ts → OnAt us ls ts
behind_comma us ls ts c r = record {
  at = record {
    own = comma ∷ r.own;
    more = r.more;
    is = c.is ∙ ap (λ (xs : List Lexeme). comma ∷ xs) r.is;
    left = r.left;
    good = r.good;
    closes = λ d. r.closes d;
    again = λ rest. comma_passed (r.own ++ rest) ∙ r.again rest;
  };
  first = λ rest. refl;
}

-- ---- a name

record Named (k : List ℕ) (ls : List Lexeme) (ts : List Token) : Type 0 where
  more : List Lexeme
  is : ls ≡ token (string k) ∷ colon ∷ more
  left : punctuate fresh more ≡ ts

named_by : (k : List ℕ) (ls more : List Lexeme) (ts : List Token) → ls ≡ token (string k) ∷ more → begins_colon more ≡ true → punctuate after_key more ≡ ts → Named k ls ts
named_by k ls [] ts is c e = absurd cc
named_by k ls (token t ∷ more) ts is c e = absurd cc
named_by k ls (comma ∷ more) ts is c e = absurd cc
named_by k ls (colon ∷ more) ts is c e = record { more = more; is = is; left = sym (colon_passed more) ∙ e }

named : (p : Place) (k : List ℕ) (ls : List Lexeme) (ts : List Token) → may_begin p ≡ true → punctuate p ls ≡ key k ∷ ts → Named k ls ts
named p k ls ts b e = let t = began p ls (key k) ts b e tt in named_by k ls t.more ts t.is t.fits t.left

behind_name : (p : Place) (k : List ℕ) (us : List Token) (ls : List Lexeme) (ts : List Token) → may_begin p ≡ true → (n : Named k ls (us ++ ts))
    → EndedAt fresh us n.more ts → EndedAt p (key k ∷ us) ls ts
behind_name p k us ls ts b n r = record {
  own = token (string k) ∷ colon ∷ r.own;
  more = r.more;
  is = n.is ∙ ap (λ (xs : List Lexeme). token (string k) ∷ colon ∷ xs) r.is;
  left = r.left;
  good = (tt, r.good);
  closes = λ d. r.closes d;
  again = λ rest. one_token p (key k) (colon ∷ (r.own ++ rest)) (rw b refl) ∙ ap (λ (xs : List Token). key k ∷ xs) (colon_passed (r.own ++ rest) ∙ r.again rest);
}

-- ---- each kind of value

mutual
  pub value_at : (j : json.Json) (p : Place) (ls : List Lexeme) (ts : List Token) → may_begin p ≡ true → punctuate p ls ≡ json_tokens j ++ ts → ValueAt j ls ts
  value_at json.null p ls ts b e =
      let k = began p ls null ts b e tt in
      record { own = token null ∷ []; more = k.more; is = k.is; left = k.left; good = (tt, tt); even = λ d. refl; again = λ q c rest n. one_token q null rest (rw c refl) }
  value_at (json.boolean v) p ls ts b e =
      let k = began p ls (boolean v) ts b e tt in
      record {
        own = token (boolean v) ∷ [];
        more = k.more;
        is = k.is;
        left = k.left;
        good = (tt, tt);
        even = λ d. refl;
        again = λ q c rest n. one_token q
            (boolean v) rest (rw c refl);
      }
  value_at (json.number s) p ls ts b e =
      let k = began p ls (number s) ts b e tt in
      record {
        own = token (number s) ∷ [];
        more = k.more;
        is = k.is;
        left = k.left;
        good = (tt, tt);
        even = λ d. refl;
        again = λ q c rest n. one_token q
            (number s) rest (rw c refl);
      }
  value_at (json.string s) p ls ts b e =
      let k = began p ls (string s) ts b e tt in
      record {
        own = token (string s) ∷ [];
        more = k.more;
        is = k.is;
        left = k.left;
        good = (tt, tt);
        even = λ d. refl;
        again = λ q c rest n. one_token q
            (string s) rest (rw (n, c) refl);
      }
  value_at (json.array js) p ls ts b e =
      let k = began p ls begin_array (items_tokens js ++ ts) b e tt in
      let r = items_at js k.more ts k.left in
      record {
        own = token begin_array ∷ r.own;
        more = r.more;
        is = k.is ∙ ap (λ (xs : List Lexeme). token begin_array ∷ xs) r.is;
        left = r.left;
        good = (tt, r.good);
        even = λ d. r.closes d;
        again = λ q c rest n. one_token q begin_array (r.own ++ rest) (rw c refl) ∙ ap (λ (us : List Token). begin_array ∷ us) (r.again rest);
      }
  value_at (json.object ms) p ls ts b e =
      let k = began p ls begin_object (members_tokens ms ++ ts) b e tt in
      let r = members_at ms k.more ts k.left in
      record {
        own = token begin_object ∷ r.own;
        more = r.more;
        is = k.is ∙ ap (λ (xs : List Lexeme). token begin_object ∷ xs) r.is;
        left = r.left;
        good = (tt, r.good);
        even = λ d. r.closes d;
        again = λ q c rest n. one_token q begin_object (r.own ++ rest) (rw c refl) ∙ ap (λ (us : List Token). begin_object ∷ us) (r.again rest);
      }

  items_at : (js : json.Items) (ls : List Lexeme) (ts : List Token) → punctuate fresh ls ≡ items_tokens js ++ ts → EndedAt fresh (items_tokens js) ls ts
  items_at json.no_items ls ts e = ends_at fresh end_array ls ts refl tt (began fresh ls end_array ts refl e tt)
  items_at (json.item j js) ls ts e =
      let v = value_at j fresh ls (items_tokens js ++ ts) refl (e ∙ append_assoc (json_tokens j) (items_tokens js) ts) in
      joined fresh j (items_tokens js) ls ts refl v (items_on js v.more ts v.left)

  items_on : (js : json.Items) (ls : List Lexeme) (ts : List Token) → punctuate after_value ls ≡ items_tokens js ++ ts → OnAt (items_tokens js) ls ts
  items_on json.no_items ls ts e = on_end end_array ls ts tt (closed ls end_array ts e tt tt)
  items_on (json.item j js) ls ts e =
      let us = items_tokens js in
      let c = comma_first j ls (us ++ ts) (e ∙ append_assoc (json_tokens j) us ts) in
      let v = value_at j after_comma c.more (us ++ ts) refl c.left in
      let d : Comma ls ((json_tokens j ++ us) ++ ts) = record { more = c.more; is = c.is; left = c.left ∙ sym (append_assoc (json_tokens j) us ts) } in
      behind_comma (json_tokens j ++ us) ls ts d (joined after_comma j us c.more ts refl v (items_on js v.more ts v.left))

  members_at : (ms : json.Members) (ls : List Lexeme) (ts : List Token) → punctuate fresh ls ≡ members_tokens ms ++ ts → EndedAt fresh (members_tokens ms) ls ts
  members_at json.no_members ls ts e = ends_at fresh end_object ls ts refl tt (began fresh ls end_object ts refl e tt)
  members_at (json.member k j ms) ls ts e =
      let us = members_tokens ms in
      let n = named fresh k ls ((json_tokens j ++ us) ++ ts) refl e in
      let v = value_at j fresh n.more (us ++ ts) refl (n.left ∙ append_assoc (json_tokens j) us ts) in
      behind_name fresh k (json_tokens j ++ us) ls ts refl n (joined fresh j us n.more ts refl v (members_on ms v.more ts v.left))

  members_on : (ms : json.Members) (ls : List Lexeme) (ts : List Token) → punctuate after_value ls ≡ members_tokens ms ++ ts → OnAt (members_tokens ms) ls ts
  members_on json.no_members ls ts e = on_end end_object ls ts tt (closed ls end_object ts e tt tt)
  members_on (json.member k j ms) ls ts e =
      let us = members_tokens ms in
      let c = went_on ls (key k) ((json_tokens j ++ us) ++ ts) e tt tt in
      let n = named after_comma k c.more ((json_tokens j ++ us) ++ ts) refl c.left in
      let v = value_at j fresh n.more (us ++ ts) refl (n.left ∙ append_assoc (json_tokens j) us ts) in
      behind_comma (key k ∷ (json_tokens j ++ us)) ls ts c (behind_name after_comma k (json_tokens j ++ us) c.more ts refl n
      (joined fresh j us n.more ts refl v (members_on ms v.more ts v.left)))
