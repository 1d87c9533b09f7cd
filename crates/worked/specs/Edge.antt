-- Document 01, "Numbers returned", edges: a number that a definition gives, and the number that document 01 says.
use Rattle.std.specs.Prelude.{ℕ, List, [], ◌∷◌, eqb, MatchBool}
use Rattle.worked.specs.Line.{Differs}

pub record Edge : Type 0 where
  pub found : ℕ
  pub said : ℕ

infix 70 ◌gives◌
abbrev pub ◌gives◌ : ℕ → ℕ → Edge
x gives y = record { found = x; said = y }

abbrev pub Right : Edge → Type 0
Right e = MatchBool (eqb e.found e.said) Unit (Differs e.found e.said)

-- every edge of a list is right: one proof an edge, so that an error names it
infixr 10 ◌and◌
pub data Edges : List Edge → Type 0 where
  end : Edges []
  ◌and◌ : {e : Edge} {es : List Edge} → Right e → Edges es → Edges (e ∷ es)
