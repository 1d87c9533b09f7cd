-- Document 01, "Opcodes": where a jump or branch leads, low bits kept. "Slips to shut out": "Adding the branch offset to the instruction's own address".
use Rattle.std.specs.Prelude.{ℕ, Bool, true, false}
use Rattle.word.specs.Word.{sum}
use Rattle.decode.specs.declared.Instr.{Instr}
use Rattle.decode.specs.declared.Instr.TheVariants.{Illegal, Nop, Trap, Cyc, Jsra, Lba, Lca, Ent, Lev, Jmp, Jmpi, Jsr, Lea, Leag, Block, Load, Store, LoadImm, LoadHigh, Alu}
use Rattle.decode.specs.declared.Instr.TheVariants.{Compare, Bz, Bnz, Branch, Push, Pshi, Pop, Sys}

-- from pc, which has moved on already
abbrev pub target_from : (pc imm : ℕ) → ℕ
target_from pc imm = sum pc imm

-- from the instruction at an address: "pc moves 4 on"
abbrev pub target_of : (address imm : ℕ) → ℕ
target_of address imm = target_from (sum address 4) imm

-- the jumps and branches that lead there: JMP, JSR and the eight branches. JMPI adds a register, JSRA, LEV and RTI have no such operand
abbrev pub has_target : Instr → Bool
has_target (Jmp _) = true
has_target (Jsr _) = true
has_target (Bz _) = true
has_target (Bnz _) = true
has_target (Branch _ _) = true
has_target Illegal = false
has_target Nop = false
has_target Trap = false
has_target Cyc = false
has_target Jsra = false
has_target Lba = false
has_target Lca = false
has_target (Ent _) = false
has_target (Lev _) = false
has_target (Jmpi _) = false
has_target (Lea _) = false
has_target (Leag _) = false
has_target (Block _) = false
has_target (Load _ _ _ _) = false
has_target (Store _ _ _) = false
has_target (LoadImm _ _) = false
has_target (LoadHigh _ _) = false
has_target (Alu _ _) = false
has_target (Compare _) = false
has_target (Push _) = false
has_target (Pshi _) = false
has_target (Pop _) = false
has_target (Sys _) = false
