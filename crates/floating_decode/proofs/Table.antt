-- The table of the floating opcodes, tested whole by computing, beside document 01's: document 02, item 7, all 256 values. Then its disjointness as a law.
use Rattle.std.proofs.Common.{if◌then◌else◌}
use mathlib.Core.Path.{◌≡◌, refl, sym}
use mathlib.Core.Bool.{Bool, true, false, not, ◌&&◌, ◌||◌, true≢false}
use mathlib.Core.List.{List, [], ◌∷◌}
use Prim.Native.Nat.{ℕ, zero, suc, ◌+◌, ◌<◌}
use lib.Dec.{leb, eqb}
use lib.ListN.{length}
use Rattle.decode.specs.Opcodes.{table, opcode_of, is_illegal}
use Rattle.decode.specs.Illegal.{floating_point, within}
use Rattle.decode.proofs.Table.{every, every_below}
use Rattle.floating_decode.specs.declared.FloatInstr.TheVariants.{Unlisted}
use Rattle.floating_decode.specs.Opcodes.{FloatRow, find, floating_table, floating_opcode_of}
use Rattle.floating_decode.specs.Listed.{is_listed}

-- the codes rise from row to row, beginning at n or above: no code has two rows
abbrev pub rising : ℕ → List FloatRow → Bool
rising n [] = true
rising n (r ∷ t) = leb n r.code && rising (suc r.code) t

-- whether a row has this opcode byte
abbrev pub has_row : ℕ → List FloatRow → Bool
has_row op [] = false
has_row op (r ∷ t) = let rest = has_row op t in eqb op r.code || rest

-- each row's byte is one of those whose line in source 000 names f, g, rf, rg, double or float
abbrev pub all_floating : List FloatRow → Bool
all_floating [] = true
all_floating (r ∷ t) = within floating_point r.code && all_floating t

-- how many of the n numbers from i on pass the test f
abbrev pub count : (ℕ → Bool) → ℕ → ℕ → ℕ
count f i zero = 0
count f i (suc n) = (if f i then 1 else 0) + count f (suc i) n

-- an opcode byte that is legal in the old mode, and one that the new mode adds
unfoldable pub legal : ℕ → ℕ → ℕ → Bool
legal imm field op = not (is_illegal (opcode_of op imm field))

unfoldable pub added : ℕ → ℕ → Bool
added imm op = is_listed (floating_opcode_of op imm)

-- an opcode byte of document 01's table has no row here
unfoldable pub apart : ℕ → ℕ → ℕ → Bool
apart imm field op = is_illegal (opcode_of op imm field) || not (has_row op (floating_table imm))

-- what is tested of the two tables
pub record Tested (imm field : ℕ) : Type 0 where
  pub distinct : rising 0 (floating_table imm) ≡ true
  pub rows : length (floating_table imm) ≡ 46
  pub floating_rows : all_floating (floating_table imm) ≡ true
  pub old_mode_lem : count (legal imm field) 0 256 ≡ 137
  pub added_bytes : count (added imm) 0 256 ≡ 46
  pub new_mode : count (λ op. legal imm field op || added imm op) 0 256 ≡ 183
  pub in_neither : count (λ op. not (legal imm field op || added imm op)) 0 256 ≡ 73
  pub all_apart : every (apart imm field) 0 256 ≡ true

-- the tables pass
pub tables_tested : (imm field : ℕ) → Tested imm field
unfolding table opcode_of floating_table floating_opcode_of legal added apart
tables_tested imm field =
    record { distinct = refl; rows = refl; floating_rows = refl; old_mode_lem = refl; added_bytes = refl; new_mode = refl; in_neither = refl; all_apart = refl }

-- what a byte without a row means
rowless : (op : ℕ) (t : List FloatRow) → has_row op t ≡ false → find op t ≡ Unlisted
rowless op [] e = refl
rowless op (r ∷ t) e = go (eqb op r.code) e (rowless op t)
  where
    go : (b : Bool) → b || has_row op t ≡ false → (has_row op t ≡ false → find op t ≡ Unlisted) → (if b then r.means else find op t) ≡ Unlisted
    go true q f = absurd (true≢false q)
    go false q f = f q

-- an opcode byte that is legal in the old mode has no row here
pub disjoint : (op imm field : ℕ) → op < 256 → is_illegal (opcode_of op imm field) ≡ false → floating_opcode_of op imm ≡ Unlisted
unfolding apart floating_opcode_of
disjoint op imm field h e =
    rowless op (floating_table imm) (go (is_illegal (opcode_of op imm field)) (has_row op (floating_table imm)) e (every_below (apart imm field) 256 (tables_tested imm field).all_apart op h))
  where
    go : (a b : Bool) → a ≡ false → a || not b ≡ true → b ≡ false
    go true b p q = absurd (true≢false p)
    go false true p q = sym q
    go false false p q = refl
