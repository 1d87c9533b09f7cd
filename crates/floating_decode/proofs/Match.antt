-- What the match on an opcode byte knows where no arm has its value: document 02, item 7, all 256 values.
use mathlib.Core.Path.{◌≡◌, refl}
use mathlib.Core.List.{List, [], ◌∷◌}
use Prim.Native.Nat.{ℕ}
use borrow.Author.Tests.{ne_eqb}
use Rattle.floating_decode.specs.declared.FloatInstr.TheVariants.{Unlisted}
use Rattle.floating_decode.specs.Opcodes.{FloatRow, find}

-- x is the code of no row: a tuple nested to the left, as the match has it where no arm was taken
abbrev pub NoRow : Type 0 → List FloatRow → ℕ → Type 0
NoRow N [] x = N
NoRow N (r ∷ t) x = NoRow (N × (x ≡ r.code → ⊥)) t x

-- the start of the tuple, and what its rest says of the rows
no_row : (t : List FloatRow) (x : ℕ) (N : Type 0) → NoRow N t x → N × (find x t ≡ Unlisted)
no_row [] x N h = (h, refl)
no_row (r ∷ t) x N h =
    let q : (N × (x ≡ r.code → ⊥)) × (find x t ≡ Unlisted) = no_row t x (N × (x ≡ r.code → ⊥)) h in
    (q.0.0, rw (ne_eqb x r.code q.0.1) q.1)

-- a byte that is no row's is not listed
pub unlisted : (t : List FloatRow) (x : ℕ) → NoRow Unit t x → find x t ≡ Unlisted
unlisted t x h = (no_row t x Unit h).1
