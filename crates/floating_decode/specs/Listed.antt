-- Document 02, item 7: whether a word is a floating instruction.
use Rattle.std.specs.Prelude.{Bool, true, false, ◌≡◌, ℕ, ◌+◌, ◌*◌, ◌/◌, ◌%◌, ◌^◌, ◌<◌, eqb}
use Rattle.floating_decode.specs.declared.FloatInstr.{FloatInstr}
use Rattle.floating_decode.specs.declared.FloatInstr.TheVariants.{Unlisted, Load, Store, LoadImm, Lbad, Arith, Compare, Bzf, Bnzf, Branch, Cid, Cud, Cdi, Cdu, Push, Pop, Fabs, Flor, Ceil}
use Rattle.floating_decode.specs.Opcodes.{floating_opcode_of}

-- whether this is an instruction
abbrev pub is_listed : FloatInstr → Bool
is_listed Unlisted = false
is_listed (Load _ _ _ _) = true
is_listed (Store _ _ _) = true
is_listed (LoadImm _ _) = true
is_listed Lbad = true
is_listed (Arith _) = true
is_listed (Compare _) = true
is_listed (Bzf _) = true
is_listed (Bnzf _) = true
is_listed (Branch _ _) = true
is_listed Cid = true
is_listed Cud = true
is_listed Cdi = true
is_listed Cdu = true
is_listed (Push _) = true
is_listed (Pop _) = true
is_listed Fabs = true
is_listed Flor = true
is_listed Ceil = true

-- the opcode bytes from 64 * quarter on as a set: bit i of the number is 1 exactly if the i-th has a row
abbrev pub QuarterSet : ℕ → ℕ → Type 0
QuarterSet quarter set = (i imm : ℕ) → i < 64 → eqb (set / 2 ^ i % 2) 1 ≡ is_listed (floating_opcode_of (64 * quarter + i) imm)
