-- What is said of a first line that is no setup.
use Rattle.std.proofs.Common.{◌≡◌, ◌≢◌, ℕ, List, [], ◌∷◌, ◌++◌, Option, None, Some, Ok, Err, true, codes, decimal, refl, sym, ◌∙◌}
use Rattle.std.proofs.lemmas.List.Elements.{All-nil}
use Rattle.json_text.specs.Fault.{Fails, Read, fault_field, fault_name, fault_number}
use Rattle.json_text.specs.declared.fault.JsonFault.{JsonFault}
use Rattle.json_text.specs.declared.fault.JsonFault.TheVariants.{Syntax, BadNumberToken, TaggedText, Missing, WrongForm, UnknownWord, UnknownKind, Memory}
use Rattle.node_runs.specs.DoneLines.{fault_line, malformed_line}
use Rattle.ocpi_text.specs.Text.{is_ascii_text}
use Rattle.ocpi_types.specs.Fields.{name_of}
use Rattle.ocpi_types.specs.declared.field.Field.{Field}
use Rattle.ocpi_types.specs.declared.field.Field.TheVariants.{Line}
use Rattle.replays.proofs.Before.{no_feed_in}
use Rattle.replays.proofs.Lists.{IsPlain}
use Rattle.replays.proofs.OpenedLines.{behind, number, printable_plain}
use Rattle.replays.specs.Fronts.{feeds_of}

module _ {X : Type 0} (read : Read X) where
  -- a refusal that is not want of memory was due
  is_due : (f : JsonFault) → Fails f read → f ≢ Memory → read ≡ Err f
  is_due Memory fails other = absurd (other refl)
  is_due Syntax fails other = fails
  is_due BadNumberToken fails other = fails
  is_due TaggedText fails other = fails
  is_due (Missing f) fails other = fails
  is_due (WrongForm f) fails other = fails
  is_due (UnknownWord f) fails other = fails
  is_due UnknownKind fails other = fails

  -- there is one
  pub one_refusal : (f g : JsonFault) → Fails f read → f ≢ Memory → Fails g read → g ≢ Memory → f ≡ g
  one_refusal f g fails real misses true_too =
      let both : Err f ≡ Err g = sym (is_due f fails real) ∙ is_due g misses true_too in cc

  -- and none where something was read
  pub no_refusal : (f : JsonFault) (x : X) → Fails f read → f ≢ Memory → read ≡ Ok x → ⊥
  no_refusal f x fails real is = absurd (let both : Err f ≡ Ok x = sym (is_due f fails real) ∙ is in cc)

-- ---- its line

field_plain : (f : Field) → is_ascii_text (name_of f) ≡ true
unfolding name_of is_ascii_text
field_plain Line = refl
field_plain f = refl

fault_plain : (fault : JsonFault) → is_ascii_text (fault_name fault) ≡ true
unfolding is_ascii_text
fault_plain Syntax = refl
fault_plain fault = refl

-- it ends with its line feed, and has no other
module _ (line : ℕ) (fault : JsonFault) where
  told_behind : (body : List ℕ) × (codes "\",\"number\":" ++ (decimal (fault_number fault) ++ codes "}\n") ≡ body ++ 10 ∷ []) × IsPlain body
  unfolding is_ascii_text
  told_behind =
      behind (codes "\",\"number\":") _ (printable_plain (codes "\",\"number\":") refl) (behind (decimal (fault_number fault)) _ (number (fault_number fault))
      (125 ∷ [], refl, printable_plain (125 ∷ []) refl))

  named_behind : (body : List ℕ) × (codes ",\"name\":\"" ++ (fault_name fault ++ (codes "\",\"number\":" ++ (decimal (fault_number fault) ++ codes "}\n"))) ≡ body ++ 10 ∷ []) × IsPlain body
  unfolding is_ascii_text
  named_behind =
      behind (codes ",\"name\":\"") _ (printable_plain (codes ",\"name\":\"") refl) (behind (fault_name fault) _ (printable_plain (fault_name fault) (fault_plain fault)) told_behind)

  told : (field : Option Field) → (body : List ℕ) × (fault_line line None fault field ≡ body ++ 10 ∷ []) × IsPlain body
  unfolding is_ascii_text
  told None =
      behind (codes "{\"done\":\"malformed\"") _ (printable_plain (codes "{\"done\":\"malformed\"") refl) (behind [] _ (All-nil (λ b. b ≢ 10))
      (behind (codes ",\"line\":") _ (printable_plain (codes ",\"line\":") refl) (behind (decimal line) _ (number line) named_behind)))
  told (Some field) =
      behind (codes "{\"done\":\"malformed\"") _ (printable_plain (codes "{\"done\":\"malformed\"") refl) (behind [] _ (All-nil (λ b. b ≢ 10))
      (behind (codes ",\"field\":\"") _ (printable_plain (codes ",\"field\":\"") refl) (behind (name_of field) _ (printable_plain (name_of field) (field_plain field))
      (behind (codes "\",\"line\":") _ (printable_plain (codes "\",\"line\":") refl) (behind (decimal line) _ (number line) named_behind)))))

pub malformed_ends : (fault : JsonFault) → (body : List ℕ) × (malformed_line 1 None fault ≡ body ++ 10 ∷ []) × (feeds_of body ≡ 0)
malformed_ends fault = let t = told 1 fault (fault_field fault) in (t.0, t.1, no_feed_in t.0 t.2)
