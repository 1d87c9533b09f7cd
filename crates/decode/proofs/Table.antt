-- The opcode table, tested whole by computing: document 01, "Opcodes", all 256 values. Then the test of the illegal bytes as a law.
use Rattle.std.proofs.Common.{if◌then◌else◌}
use mathlib.Core.Path.{◌≡◌, refl, sym, subst}
use mathlib.Core.Bool.{Bool, true, false, ◌&&◌, beq, false≢true}
use mathlib.Core.List.{List, [], ◌∷◌}
use Prim.Native.Nat.{ℕ, zero, suc, ◌+◌, ◌<◌}
use native.Mathlib.Nat.{add-zero, zero-add, add-suc, suc-add, le_of_suc-le-suc, not-suc-le-zero}
use lib.Dec.{leb}
use lib.ListN.{length}
use Rattle.decode.specs.Opcodes.{Row, table, opcode_of, is_illegal, is_privileged}
use Rattle.decode.specs.Illegal.{floating_point, unassigned, size, illegal}
use Rattle.decode.specs.Privileged.{privileged}

-- the codes rise from row to row, beginning at n or above: no code has two rows
abbrev pub rising : ℕ → List Row → Bool
rising n [] = true
rising n (r ∷ t) = leb n r.code && rising (suc r.code) t

-- the codes of the rows of privileged instructions
abbrev pub privileged_rows : List Row → List ℕ
privileged_rows [] = []
privileged_rows (r ∷ t) = if is_privileged r.means then r.code ∷ privileged_rows t else privileged_rows t

-- the test f passes at each of the n numbers from i on
abbrev pub every : (ℕ → Bool) → ℕ → ℕ → Bool
every f i zero = true
every f i (suc n) = f i && every f (suc i) n

-- an opcode byte is decoded to the illegal instruction exactly if it is written out as illegal
unfoldable pub decided : ℕ → ℕ → ℕ → Bool
decided imm field op = beq (is_illegal (opcode_of op imm field)) (illegal op)

-- what is tested of the table
pub record Tested (imm field : ℕ) : Type 0 where
  pub distinct : rising 0 (table imm field) ≡ true
  pub rows : length (table imm field) ≡ 137
  pub privileged_rows_lem : privileged_rows (table imm field) ≡ privileged
  pub privileged_count : length privileged ≡ 16
  pub floating_point_count : size floating_point ≡ 63
  pub unassigned_count : size unassigned ≡ 56
  pub all_decided : every (decided imm field) 0 256 ≡ true

-- the table passes
pub table_tested : (imm field : ℕ) → Tested imm field
unfolding table decided opcode_of illegal
table_tested imm field =
    record { distinct = refl; rows = refl; privileged_rows_lem = refl; privileged_count = refl; floating_point_count = refl; unassigned_count = refl; all_decided = refl }

-- the first of two tests that both pass
and_left : (a b : Bool) → a && b ≡ true → a ≡ true
and_left true b e = refl
and_left false b e = e

-- the second of two tests that both pass
and_right : (a b : Bool) → a && b ≡ true → b ≡ true
and_right true b e = e
and_right false b e = absurd (false≢true e)

-- two truth values that compare equal
pub same : (a b : Bool) → beq a b ≡ true → a ≡ b
same true true e = refl
same true false e = sym e
same false true e = e
same false false e = refl

-- a test that passes at each number from i on passes at the k-th after i
every_from : (f : ℕ → Bool) (i n : ℕ) → every f i n ≡ true → (k : ℕ) → k < n → f (i + k) ≡ true
every_from f i zero e k h = absurd (not-suc-le-zero h)
every_from f i (suc n) e zero h = rw (add-zero i) (and_left (f i) (every f (suc i) n) e)
every_from f i (suc n) e (suc k) h =
    rw (add-suc i k, ← suc-add i k) (every_from f (suc i) n (and_right (f i) (every f (suc i) n) e) k (le_of_suc-le-suc h))

-- a test that passes at each number below n passes at k
pub every_below : (f : ℕ → Bool) (n : ℕ) → every f 0 n ≡ true → (k : ℕ) → k < n → f k ≡ true
every_below f n e k h = subst (λ (m : ℕ). f m ≡ true) (zero-add k) (every_from f 0 n e k h)

-- an opcode byte is illegal exactly if it is written out as illegal
pub illegal_bytes : (op imm field : ℕ) → op < 256 → is_illegal (opcode_of op imm field) ≡ illegal op
unfolding decided
illegal_bytes op imm field h =
    same (is_illegal (opcode_of op imm field)) (illegal op) (every_below (decided imm field) 256 (table_tested imm field).all_decided op h)
