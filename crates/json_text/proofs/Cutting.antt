-- Each text is cut into pieces.
use Rattle.std.proofs.Common.{◌≡◌, ◌≢◌, ℕ, Bool, true, false, List, [], ◌∷◌, ◌++◌, Ok, Err, refl, sym, ap, subst, ◌∙◌}
use Rattle.std.proofs.Common.{append_assoc, codes, ◌==◌}
use Rattle.std.specs.List.{list_all}
use Rattle.json_text.specs.declared.fault.JsonFault.TheVariants.{BadNumberToken, TaggedText}
use Rattle.json_text.specs.Fault.{Read}
use Rattle.json_text.specs.Numbers.{IsJsonNumber}
use Rattle.json_text.specs.Pieces.{Character, plain, escaped, Ending, closed, unended, at_backslash, Piece, number, string, other, characters_text, ending_text, piece_text, text_of, begins_number, Stops, AreCharacters, EndsBefore, IsTagged, IsPiece, ArePieces, IsToken, Last, whole, bad_number, tagged_text}
use Rattle.json_text.specs.Quote.{is_number_char, first_place, place_after, is_whole}
use Rattle.json_text.proofs.Steps.{test_is, test_is_not, first_is}
use Rattle.json_text.proofs.JsonNumbers.{json_from_places, places_from_json}

pub record Cut (text : List ℕ) : Type 0 where
  pub pieces : List Piece
  pub rest : List ℕ
  pub last : Read (List ℕ)
  pub are : ArePieces pieces rest
  pub parts : text ≡ text_of pieces ++ rest
  pub ends : Last rest last

-- the text as the rest of a number token, and what follows
pub record Run (text : List ℕ) : Type 0 where
  pub digits : List ℕ
  pub after : List ℕ
  pub parts : text ≡ digits ++ after
  pub goes_on : list_all is_number_char digits ≡ true
  pub stops : Stops after
  pub cut : Cut after

-- the text as the rest of a string, and what follows
pub record Body (text : List ℕ) : Type 0 where
  pub characters : List Character
  pub ending : Ending
  pub after : List ℕ
  pub parts : text ≡ (characters_text characters ++ ending_text ending) ++ after
  pub are : AreCharacters characters
  pub ends : EndsBefore ending after
  pub cut : Cut after

pub record Cuts (text : List ℕ) : Type 0 where
  pub cut : Cut text
  pub run : Run text
  pub body : Body text
  pub escape : Body (92 ∷ text)

-- ---- whether a string begins with its tag

pub data Begins (front text : List ℕ) : Type 0 where
  begins : (more : List ℕ) → text ≡ front ++ more → Begins front text
  differs : ((more : List ℕ) → text ≡ front ++ more → ⊥) → Begins front text

begins_by : (x y : ℕ) (front text : List ℕ) (b : Bool) → (y == x) ≡ b → Begins front text → Begins (x ∷ front) (y ∷ text)
begins_by x y front text false e h = differs (λ more is. absurd (test_is_not y x e (cc is)))
begins_by x y front text true e (begins more is) = begins more (first_is y x text (front ++ more) (test_is y x e) is)
begins_by x y front text true e (differs n) = differs (λ more is. n more (cc is))

pub begins_with : (front text : List ℕ) → Begins front text
begins_with [] text = begins text refl
begins_with (x ∷ front) [] = differs (λ more is. absurd (cc is))
begins_with (x ∷ front) (y ∷ text) = begins_by x y front text (y == x) refl (begins_with front text)

-- ---- a piece in front

add_piece : (p : Piece) (text : List ℕ) → IsPiece p text → Cut text → Cut (piece_text p ++ text)
add_piece p text h c = record {
  pieces = p ∷ c.pieces;
  rest = c.rest;
  last = c.last;
  are = (subst (IsPiece p) c.parts h, c.are);
  parts = ap (λ (t : List ℕ). piece_text p ++ t) c.parts ∙ sym (append_assoc (piece_text p) (text_of c.pieces) c.rest);
  ends = c.ends;
}

string_cut : (c : ℕ) (text : List ℕ) → c ≡ 34 → (b : Body text) → Begins (codes "\\u0001") (characters_text b.characters) → Cut (c ∷ text)
string_cut c text q b (begins more is) =
    let parts : text ≡ codes "\\u0001" ++ (more ++ (ending_text b.ending ++ b.after)) =
    b.parts ∙ append_assoc (characters_text b.characters) (ending_text b.ending) b.after
    ∙ ap (λ (t : List ℕ). t ++ (ending_text b.ending ++ b.after)) is ∙ append_assoc (codes "\\u0001") more (ending_text b.ending ++ b.after) in
    record { pieces = []; rest = c ∷ text; last = Err TaggedText; are = tt; parts = refl; ends = tagged_text (more ++ (ending_text b.ending ++ b.after)) (first_is c 34 text _ q parts) refl }
string_cut c text q b (differs n) =
    let h : IsPiece (string b.characters b.ending) b.after = (b.are, b.ends, λ (t : IsTagged b.characters). n t.0 t.1) in
    subst Cut (sym (first_is c 34 text _ q b.parts)) (add_piece (string b.characters b.ending) b.after h b.cut)

number_cut : (c : ℕ) (text : List ℕ) (r : Run text) (b : Bool) → begins_number c ≡ true → is_whole (place_after (first_place c) r.digits) ≡ b → Cut (c ∷ text)
number_cut c text r true h e =
    subst Cut (sym (ap (λ (t : List ℕ). c ∷ t) r.parts)) (add_piece (number (c ∷ r.digits)) r.after (json_from_places c r.digits h e, r.stops) r.cut)
number_cut c text r false h e =
    let token : IsToken (c ∷ r.digits) r.after = record { first = c; more = r.digits; is = refl; begins = h; goes_on = r.goes_on; stops = r.stops } in
    record {
      pieces = [];
      rest = c ∷ text;
      last = Err BadNumberToken;
      are = tt;
      parts = refl;
      ends = bad_number (c ∷ r.digits) r.after (ap (λ (t : List ℕ). c ∷ t) r.parts) token (λ (n : IsJsonNumber (c ∷ r.digits)). absurd (cc (places_from_json c r.digits n, e))) refl;
    }

cut_by : (c : ℕ) (text : List ℕ) (a b : Bool) → (c == 34) ≡ a → begins_number c ≡ b → Cuts text → Cut (c ∷ text)
cut_by c text true b h g k = string_cut c text (test_is c 34 h) k.body (begins_with (codes "\\u0001") (characters_text k.body.characters))
cut_by c text false true h g k = number_cut c text k.run (is_whole (place_after (first_place c) k.run.digits)) g refl
cut_by c text false false h g k = add_piece (other c) text (test_is_not c 34 h, g) k.cut

run_by : (c : ℕ) (text : List ℕ) (b : Bool) → is_number_char c ≡ b → Cut (c ∷ text) → Run text → Run (c ∷ text)
run_by c text true h k r = record { digits = c ∷ r.digits; after = r.after; parts = ap (λ (t : List ℕ). c ∷ t) r.parts; goes_on = rw (h, r.goes_on) refl; stops = r.stops; cut = r.cut }
run_by c text false h k r = record { digits = []; after = c ∷ text; parts = refl; goes_on = refl; stops = h; cut = k }

plain_body : (c : ℕ) (text : List ℕ) → c ≢ 34 → c ≢ 92 → Body text → Body (c ∷ text)
plain_body c text q s b = record { characters = plain c ∷ b.characters; ending = b.ending; after = b.after; parts = ap (λ (t : List ℕ). c ∷ t) b.parts; are = ((q, s), b.are); ends = b.ends; cut = b.cut }

escaped_body : (c : ℕ) (text : List ℕ) → Body text → Body (92 ∷ c ∷ text)
escaped_body c text b = record { characters = escaped c ∷ b.characters; ending = b.ending; after = b.after; parts = ap (λ (t : List ℕ). 92 ∷ c ∷ t) b.parts; are = (tt, b.are); ends = b.ends; cut = b.cut }

body_by : (c : ℕ) (text : List ℕ) (a b : Bool) → (c == 34) ≡ a → (c == 92) ≡ b → Cuts text → Body (c ∷ text)
body_by c text true b h g k = record { characters = []; ending = closed; after = text; parts = ap (λ (x : ℕ). x ∷ text) (test_is c 34 h); are = tt; ends = tt; cut = k.cut }
body_by c text false true h g k = subst Body (ap (λ (x : ℕ). x ∷ text) (sym (test_is c 92 g))) k.escape
body_by c text false false h g k = plain_body c text (test_is_not c 34 h) (test_is_not c 92 g) k.body

abbrev nothing : Cut []
nothing = record { pieces = []; rest = []; last = Ok []; are = tt; parts = refl; ends = whole refl refl }

pub cuts : (text : List ℕ) → Cuts text
cuts [] = record {
  cut = nothing;
  run = record { digits = []; after = []; parts = refl; goes_on = refl; stops = tt; cut = nothing };
  body = record { characters = []; ending = unended; after = []; parts = refl; are = tt; ends = refl; cut = nothing };
  escape = record { characters = []; ending = at_backslash; after = []; parts = refl; are = tt; ends = refl; cut = nothing };
}
cuts (c ∷ text) =
    let k : Cuts text = cuts text in
    let here : Cut (c ∷ text) = cut_by c text (c == 34) (begins_number c) refl refl k in
    record { cut = here; run = run_by c text (is_number_char c) refl here k.run; body = body_by c text (c == 34) (c == 92) refl refl k; escape = escaped_body c text k.body }

pub cut : (text : List ℕ) → Cut text
cut text = let k : Cuts text = cuts text in k.cut
