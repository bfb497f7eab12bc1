-- The order of token types, which is that of their words (OCPI 2.2.1, Tokens: TokenType).
use Rattle.std.specs.Prelude.{◌≡◌, ℕ, refl}
use Rattle.std.proofs.Common.{arith}
use Rattle.ocpi_types.specs.declared.words.TokenType.{TokenType}
use Rattle.ocpi_types.specs.declared.words.TokenType.TheVariants.{AdHocUser, AppUser, Other, Rfid}

-- the place of a type's word among the words, in the order of their bytes
abbrev pub type_place : TokenType → ℕ
type_place AdHocUser = 0
type_place AppUser = 1
type_place Other = 2
type_place Rfid = 3

-- only equal types have one place
pub one_type : (s t : TokenType) → type_place s ≡ type_place t → s ≡ t
one_type AdHocUser AdHocUser e = refl
one_type AdHocUser AppUser e = absurd (omega arith)
one_type AdHocUser Other e = absurd (omega arith)
one_type AdHocUser Rfid e = absurd (omega arith)
one_type AppUser AdHocUser e = absurd (omega arith)
one_type AppUser AppUser e = refl
one_type AppUser Other e = absurd (omega arith)
one_type AppUser Rfid e = absurd (omega arith)
one_type Other AdHocUser e = absurd (omega arith)
one_type Other AppUser e = absurd (omega arith)
one_type Other Other e = refl
one_type Other Rfid e = absurd (omega arith)
one_type Rfid AdHocUser e = absurd (omega arith)
one_type Rfid AppUser e = absurd (omega arith)
one_type Rfid Other e = absurd (omega arith)
one_type Rfid Rfid e = refl
