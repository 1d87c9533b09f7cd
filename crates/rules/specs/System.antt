-- Document 01, "Opcodes", the privileged instructions, and "Traps", RTI. Where a definition does not say otherwise, c is the record before the fetch.
use Rattle.std.specs.Prelude.{ℕ, ◌+◌, ◌%◌, Bool, true, false, not, [], eqb, ltb, if◌then◌else◌}
use Rattle.word.specs.Word.{sum, cut}
use Rattle.decode.specs.declared.PlainOp.{PlainOp}
use Rattle.decode.specs.declared.PlainOp.TheVariants.{Halt, Cli, Sti, Bin, Ssp, Ivec, Time, Lvad, Lusp, Susp, Msiz, Idle}
use Rattle.decode.specs.declared.SysOp.{SysOp}
use Rattle.decode.specs.declared.SysOp.TheVariants.{Plain, Rti, Bout, Pdir, Spag}
use Rattle.paging.specs.declared.Access.TheVariants.{Read}
use Rattle.paging.specs.declared.Cause.TheVariants.{AddressBeyondMemory}
use Rattle.paging.specs.Walk.{bit}
use Rattle.paging.specs.declared.TrapCode.TheVariants.{Fmem, Fpriv}
use Rattle.paging.specs.TrapCode.{code_number, USER}
use Rattle.rules.specs.declared.Stop.TheVariants.{Halted}
use Rattle.rules.specs.declared.Cpu.{Cpu}
use Rattle.rules.specs.Record.{set_pc, set_sp, with_sp, with_regs, with_system, with_clock, with_stop, with_written, with_usp, with_ksp, with_pdir}
use Rattle.rules.specs.Record.{with_paging, with_ivec, with_user, with_iena, with_waiting, with_timeout, with_kbchar, put_a}
use Rattle.rules.specs.Tree.{Reply, got, denied, Tree, ask, access}
use Rattle.rules.specs.Arithmetic.{flag}
use Rattle.rules.specs.Execute.{moved}
use Rattle.rules.specs.Trap.{Final, final, ended, set_space, print, next_pc, trap_tree, fault_tree}

-- ---- those that change the record and nothing else; c has pc moved on, size is M

-- "SSP and SUSP set ksp and usp"; "BIN: a = kbchar, then kbchar = 0xFFFFFFFF"; "TIME with imm not 0 does nothing"; "IDLE: waiting = iena"; "HALT stops with 1,
-- pc after it"
abbrev pub computed : ℕ → PlainOp → Cpu → Cpu
computed size Halt c = with_stop Halted c
computed size Cli c = put_a (flag c.system.iena) (with_system (with_iena false c.system) c)
computed size Sti c = with_system (with_iena true c.system) c
computed size Bin c = put_a c.clock.kbchar (with_clock (with_kbchar 0xffffffff c.clock) c)
computed size Ssp c = with_system (with_ksp (cut 8 c.regs.a) c.system) c
computed size Ivec c = with_system (with_ivec (cut 4 c.regs.a) c.system) c
computed size (Time i) c = if eqb i 0 then with_clock (with_timeout c.regs.a c.clock) c else c
computed size Lvad c = put_a c.vadr c
computed size Lusp c = put_a c.system.usp c
computed size Susp c = with_system (with_usp (cut 8 c.regs.a) c.system) c
computed size Msiz c = put_a size c
computed size Idle c = with_system (with_waiting c.system.iena c.system) c

-- ---- RTI

-- "if the code contains the mark of value 16, ksp = sp, sp = usp, user = 1"; c has sp raised and pc set
abbrev pub back_to : Bool → Cpu → Cpu
back_to true c = with_regs (with_sp c.system.usp c.regs) (with_system (with_ksp c.regs.sp (with_user true c.system)) c)
back_to false c = c

-- "RTI reads code at sp, pc at sp+8; sp rises by 16, iena = 1"
abbrev pub returned : Cpu → ℕ → ℕ → Cpu
returned c code pc =
    back_to (bit USER code) (with_regs (set_pc pc (set_sp (sum c.regs.sp 16) c.regs)) (with_system (with_iena true c.system) c))

abbrev pub or_fault : Cpu → (ℕ → Tree Final) → Reply → Tree Final
or_fault c rest (got v) = rest v
or_fault c rest (denied f) = fault_tree c f (next_pc c)

unfoldable pub rti_tree : Cpu → Tree Final
unfolding fault_tree bit
rti_tree c =
    ask (access Read 4 c.regs.sp) (or_fault c (λ code.
    ask (access Read 4 (sum c.regs.sp 8)) (or_fault c (λ pc.
    ended (returned c code pc)))))

-- ---- console and address space

-- "BOUT: b's low byte appended, a = 1; console full, a = 0xFFFFFFFF"; console_size is the console's length, c has pc moved on
abbrev pub appended : Cpu → Tree Final
appended c = final (put_a 1 (with_written (c.written + 1) c)) [] (print (c.regs.b % 256))

unfoldable pub bout_tree : ℕ → Cpu → Tree Final
bout_tree console_size c = if ltb c.written console_size then appended c else ended (put_a 0xffffffff c)

-- "PDIR: a not below M is FMEM with vadr = a; low twelve bits drop"; "PDIR's own fault counts as address beyond memory"; `old` is the record before the fetch, c has pc moved on
abbrev pub directed : Cpu → Tree Final
directed c = final c [] (set_space (with_pdir (cut 4096 c.regs.a) c.space))

unfoldable pub pdir_tree : ℕ → Cpu → Cpu → Tree Final
unfolding fault_tree
pdir_tree size old c = if ltb c.regs.a size then directed c else fault_tree old (record { code = Fmem; cause = AddressBeyondMemory; address = c.regs.a }) (next_pc old)

-- "SPAG: paging = (a ≠ 0)"; c has pc moved on
abbrev pub spag_tree : Cpu → Tree Final
spag_tree c = final c [] (set_space (with_paging (not (eqb c.regs.a 0)) c.space))

-- ---- all of them

-- what each does: `old` is the record before the fetch, c has pc moved on
unfoldable pub privileged_tree : (size console_size : ℕ) → SysOp → Cpu → Cpu → Tree Final
unfolding rti_tree bout_tree pdir_tree
privileged_tree size console_size (Plain op) old c = ended (computed size op c)
privileged_tree size console_size Rti old c = rti_tree old
privileged_tree size console_size Bout old c = bout_tree console_size c
privileged_tree size console_size Pdir old c = pdir_tree size old c
privileged_tree size console_size Spag old c = spag_tree c

-- "Privileged: the source's fifteen, and SSP"
unfoldable pub system_tree : (size console_size : ℕ) → SysOp → Cpu → Tree Final
unfolding privileged_tree trap_tree
system_tree size console_size op c =
    if c.system.user
    then trap_tree c (code_number Fpriv) (next_pc c)
    else privileged_tree size console_size op c (with_regs (moved c.regs) c)
