-- The sets of opcode bytes that the code has, tested whole by computing: document 02, item 7.
use mathlib.Core.Path.{◌≡◌}
use mathlib.Core.Bool.{Bool, true, beq}
use Prim.Native.Nat.{ℕ, ◌+◌, ◌*◌, ◌/◌, ◌%◌, ◌^◌}
use lib.Dec.{eqb}
use Rattle.decode.proofs.Table.{every, every_below, same}
use Rattle.floating_decode.specs.Opcodes.{floating_opcode_of}
use Rattle.floating_decode.specs.Listed.{is_listed, QuarterSet}

-- bit i is right
unfoldable pub right : (quarter set imm i : ℕ) → Bool
right quarter set imm i = beq (eqb (set / 2 ^ i % 2) 1) (is_listed (floating_opcode_of (64 * quarter + i) imm))

-- a number whose 64 bits are right is the set of its quarter
pub quarter_set : {quarter : ℕ} (q set : ℕ) → quarter ≡ q → ((imm : ℕ) → every (right q set imm) 0 64 ≡ true) → QuarterSet quarter set
unfolding right
quarter_set q set e t = λ i imm h. rw e (same _ _ (every_below (right q set imm) 64 (t imm) i h))
