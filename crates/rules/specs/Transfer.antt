-- Document 01, "Opcodes": loads, stores, pushes and pops.
use Rattle.std.specs.Prelude.{ℕ, ◌+◌, ◌*◌, ◌%◌, ◌^◌}
use Rattle.word.specs.Word.{sum, difference, extend}
use Rattle.memory.specs.declared.Size.{Size}
use Rattle.memory.specs.declared.Size.TheVariants.{Word, Half, Byte}
use Rattle.memory.specs.Memory.{bytes}
use Rattle.decode.specs.declared.Reg.{Reg}
use Rattle.decode.specs.declared.Reg.TheVariants as reg
use Rattle.decode.specs.declared.Base.{Base}
use Rattle.decode.specs.declared.Base.TheVariants as base
use Rattle.decode.specs.declared.Format.{Format}
use Rattle.decode.specs.declared.Format.TheVariants.{Uint, Short, Ushort, Char, Uchar}
use Rattle.rules.specs.declared.Regs.{Regs}
use Rattle.rules.specs.Record.{with_a, with_b, with_c, set_sp}
use Rattle.rules.specs.Tree.{Tree}
use Rattle.rules.specs.Outcome.{Out, plain, reading, writing}

abbrev pub reg_of : Reg → Regs → ℕ
reg_of reg.A r = r.a
reg_of reg.B r = r.b
reg_of reg.C r = r.c

abbrev pub put_reg : Reg → ℕ → Regs → Regs
put_reg reg.A x r = with_a x r
put_reg reg.B x r = with_b x r
put_reg reg.C x r = with_c x r

-- "Loads and stores at sp+imm, pc+imm (pc already moved), a+imm (LX), b+imm (LBX, SX)"
abbrev pub base_of : Base → Regs → ℕ
base_of base.Sp r = r.sp
base_of base.Pc r = r.pc
base_of base.A r = r.a
base_of base.B r = r.b

-- the size of what is loaded
abbrev pub format_size : Format → Size
format_size Uint = Word
format_size Short = Half
format_size Ushort = Half
format_size Char = Byte
format_size Uchar = Byte

-- "S and C forms extend the sign, H and B don't"
abbrev pub widened : Format → ℕ → ℕ
widened Uint v = v
widened Short v = extend 16 v
widened Ushort v = v
widened Char v = extend 8 v
widened Uchar v = v

unfoldable pub load_tree : Reg → Base → Format → ℕ → Regs → Tree Out
load_tree d b f imm r = reading (bytes (format_size f)) (sum (base_of b r) imm) (λ v. plain (put_reg d (widened f v) r))

-- stores are of register a
unfoldable pub store_tree : Base → Size → ℕ → Regs → Tree Out
store_tree b s imm r = writing (bytes s) (sum (base_of b r) imm) r.a r

-- "LHI and LBHI give register × 2^24 plus the unsigned field, unshifted"
abbrev pub high_of : ℕ → ℕ → ℕ
high_of x field = (x * 2 ^ 24 + field) % 2 ^ 32

-- "Pushes lower sp first"; "a push stores four bytes and keeps the other four"
unfoldable pub push_tree : ℕ → Regs → Regs → Tree Out
push_tree v next r = writing 4 (difference r.sp 8) v (set_sp (difference r.sp 8) next)

unfoldable pub pop_tree : Reg → Regs → Tree Out
pop_tree d r = reading 4 r.sp (λ v. plain (set_sp (sum r.sp 8) (put_reg d v r)))
