-- How a computed line is written: the bytes that a definition gives and the text that they must be; or a text, and the number that reading it back must answer.
use Rattle.std.specs.Prelude.{ℕ, Bool, List, [], ◌∷◌, eqb, if◌then◌else◌, MatchBool}
use Prim.Native.String.{String}
use Rattle.text.specs.Ascii.{ascii}
use Rattle.listing.specs.Stands.{equal}
use Rattle.listing.proofs.Reading.{is_listed}

-- a claim, and whether it is so
pub record Line : Type 0 where
  pub right : Bool

infix 70 ◌shows◌ ◌answers◌
unfoldable pub ◌shows◌ : List ℕ → String → Line
bytes shows text = record { right = equal bytes (ascii text) }

unfoldable pub ◌answers◌ : List ℕ → ℕ → Line
line answers number = record { right = eqb (if is_listed line then 0 else 12) number }

pub data Wrong : Type 0 where

abbrev pub Right : Line → Type 0
Right l = MatchBool l.right Unit Wrong

-- all of a list are right: one proof a line, so that an error names it
infixr 10 ◌and◌
pub data Lines : List Line → Type 0 where
  end : Lines []
  ◌and◌ : {l : Line} {ls : List Line} → Right l → Lines ls → Lines (l ∷ ls)
