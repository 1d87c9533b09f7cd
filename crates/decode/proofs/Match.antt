-- What a match on a number knows in an arm of several values, and where no arm has the value: document 01, "Opcodes", all 256 values.
use mathlib.Core.Path.{◌≡◌, refl}
use mathlib.Core.List.{List, [], ◌∷◌}
use mathlib.Core.Logic.{inl, inr}
use Prim.Native.Nat.{ℕ}
use types.Run.{OneOf}
use borrow.Author.Tests.{ne_eqb}
use Rattle.decode.specs.declared.Instr.TheVariants.{Illegal}
use Rattle.decode.specs.Opcodes.{Row, find}

-- x is the code of no row: a tuple nested to the left, as the match has it where no arm was taken
abbrev pub NoRow : Type 0 → List Row → ℕ → Type 0
NoRow N [] x = N
NoRow N (r ∷ t) x = NoRow (N × (x ≡ r.code → ⊥)) t x

-- the start of the tuple, and what its rest says of the rows
no_row : (t : List Row) (x : ℕ) (N : Type 0) → NoRow N t x → N × (find x t ≡ Illegal)
no_row [] x N h = (h, refl)
no_row (r ∷ t) x N h =
    let q : (N × (x ≡ r.code → ⊥)) × (find x t ≡ Illegal) = no_row t x (N × (x ≡ r.code → ⊥)) h in
    (q.0.0, rw (ne_eqb x r.code q.0.1) q.1)

-- a byte that is no row's is illegal
pub unlisted : (t : List Row) (x : ℕ) → NoRow Unit t x → find x t ≡ Illegal
unlisted t x h = (no_row t x Unit h).1

-- the values of f at each of the numbers
abbrev pub each : {A : Type 0} → (ℕ → A) → List ℕ → List A
each f [] = []
each f (k ∷ ks) = f k ∷ each f ks

-- two functions that compute to the same values at each of the numbers agree at a number that is one of them
pub agree : {A : Type 0} (f g : ℕ → A) (ks : List ℕ) (x : ℕ) → each f ks ≡ each g ks → OneOf ks x → f x ≡ g x
agree f g [] x e h = absurd h
agree f g (k ∷ []) x e h = rw h (cc)
agree f g (k ∷ (m ∷ ks)) x e (inl h) = rw h (cc)
agree f g (k ∷ (m ∷ ks)) x e (inr h) = agree f g (m ∷ ks) x (cc) h
