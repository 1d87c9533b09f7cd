-- Document 01, "Opcodes": jumps, calls and returns. pc has moved 4 on already.
use Rattle.std.specs.Prelude.{ℕ, ◌/◌, ◌≡◌, refl, Bool, if◌then◌else◌}
use Rattle.word.specs.Word.{sum}
use Rattle.decode.specs.Target.{target_from, target_of}
use Rattle.rules.specs.declared.Regs.{Regs}
use Rattle.rules.specs.Record.{with_pc, set_sp, set_pc}
use Rattle.rules.specs.Tree.{Tree}
use Rattle.rules.specs.Outcome.{Out, plain, reading}
use Rattle.rules.specs.Transfer.{push_tree}

-- the target of a jump or branch
abbrev pub target : ℕ → Regs → ℕ
target imm r = target_from r.pc imm

-- it is that of the instruction at the address which pc moved on from
pub target_is_target_of : (imm : ℕ) (r : Regs) → target imm (with_pc (sum r.pc 4) r) ≡ target_of r.pc imm
target_is_target_of imm r = refl

abbrev pub jumped : ℕ → Regs → Regs
jumped x r = set_pc x r

abbrev pub branched : Bool → ℕ → Regs → Regs
branched taken imm r = if taken then jumped (target imm r) r else r

-- "JMPI is pc + imm + (a shifted right by 2, unsigned)"
abbrev pub indexed : ℕ → Regs → ℕ
indexed imm r = sum (target imm r) (r.a / 4)

-- JSR, JSRA: push pc, go on at x
unfoldable pub call_tree : ℕ → Regs → Tree Out
unfolding push_tree
call_tree x r = push_tree r.pc (jumped x r) r

-- LEV: "pc = *sp, sp += imme+8"
unfoldable pub leave_tree : ℕ → Regs → Tree Out
leave_tree imm r = reading 4 r.sp (λ v. plain (jumped v (set_sp (sum r.sp (sum imm 8)) r)))
