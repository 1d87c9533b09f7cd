-- Document 01, "How much a contract says", and document 02, item 7: what the functions over memory, page buffer and hint promise, to end as the tree of the rules says.
use Rattle.std.specs.Prelude.{ℕ, ◌≡◌, Bool, List, [], length, Ok, Err}
use Rattle.paging.specs.declared.Space.{Space}
use Rattle.paging.specs.declared.Cause.TheVariants.{AddressBeyondMemory}
use Rattle.paging.specs.declared.Fault.{Fault}
use Rattle.paging.specs.declared.TrapCode.TheVariants.{Fmem}
use Rattle.paging.specs.Answer.{Answer}
use Rattle.mmu.specs.declared.bus.Bus.{Bus}
use Rattle.mmu.specs.Good.{Good}
use Rattle.mmu.specs.Translates.{Kept, Result, result, kept_in, translator}
use Rattle.rules.specs.declared.Regs.{Regs}
use Rattle.rules.specs.declared.Floats.{Floats}
use Rattle.rules.specs.declared.Cpu.{Cpu}
use Rattle.rules.specs.declared.Key.{Key}
use Rattle.rules.specs.Tree.{Tree, Grant, Ended, store_all, interpret}
use Rattle.rules.specs.Outcome.{Out, fine, unfetched, trap, refused, system, floated, undecoded}
use Rattle.rules.specs.Trap.{Final}
use Rattle.rules.specs.Step.{State, finished}
use Rattle.rules.specs.Run.{steps_of, last_of}
use Rattle.contracts.specs.declared.End.{End}
use Rattle.contracts.specs.declared.End.TheVariants as end
use Rattle.contracts.specs.declared.Done.{Done}
use Rattle.contracts.specs.declared.FloatDone.{FloatDone}

-- ---- the code's answers

abbrev pub ok : Regs → Done
ok r = record { regs = r; end = end.Ok }

abbrev pub bad : Regs → End → Done
bad r e = record { regs = r; end = e }

abbrev pub float_ok : Regs → Floats → FloatDone
float_ok r v = record { regs = r; floats = v; end = end.Ok }

abbrev pub float_bad : Regs → Floats → End → FloatDone
float_bad r v e = record { regs = r; floats = v; end = e }

abbrev pub fault_of : Answer → Fault
fault_of (Ok p) = record { code = Fmem; cause = AddressBeyondMemory; address = 0 }
fault_of (Err f) = f

-- an operand access that was denied
abbrev pub refused_by : Regs → Answer → Done
refused_by r a = bad r (end.Refused (fault_of a))

-- the rules' answer that the code's stands for, its stores made: the registers count only where the instruction ended well
abbrev pub out_by : Regs → End → Out
out_by r end.Ok = fine r []
out_by r (end.Unfetched f) = unfetched f
out_by r (end.Trap code) = trap code
out_by r (end.Refused f) = refused f
out_by r (end.System op) = system op
out_by r (end.Undecoded pad w) = undecoded w

abbrev pub out_of : Done → Out
out_of d = out_by d.regs d.end

-- the same with f and g
abbrev pub float_out_by : Regs → Floats → End → Out
float_out_by r v end.Ok = floated r v []
float_out_by r v (end.Unfetched f) = unfetched f
float_out_by r v (end.Trap code) = trap code
float_out_by r v (end.Refused f) = refused f
float_out_by r v (end.System op) = system op
float_out_by r v (end.Undecoded pad w) = undecoded w

abbrev pub float_out_of : FloatDone → Out
float_out_of d = float_out_by d.regs d.floats d.end

-- ---- an instruction

-- a rule's answer, with the stores made
unfoldable pub made_by : Out → List Grant → List ℕ → Kept → Result Out
made_by (fine r vs) gs m es = result (fine r []) (store_all gs vs m) es
made_by (unfetched f) gs m es = result (unfetched f) m es
made_by (trap code) gs m es = result (trap code) m es
made_by (refused f) gs m es = result (refused f) m es
made_by (system op) gs m es = result (system op) m es
made_by (floated r v vs) gs m es = result (floated r v []) (store_all gs vs m) es
made_by (undecoded w) gs m es = result (undecoded w) m es

abbrev pub made : Ended Kept Out → Result Out
made e = made_by e.leaf e.grants e.mem e.buffer

-- with writes gs granted, from memory m and buffer l: the code answered d, with memory m' and buffer l', as the tree says
pub record Executes (t : Tree Out) (s : Space) (user : Bool) (gs : List Grant) (m l : List ℕ) (d : Done) (m' l' : List ℕ) : Type 0 where
  pub same : result (out_of d) m' (kept_in l') ≡ made (interpret translator s user t m (kept_in l) gs)
  pub good : Good (length m') s.pdir l'

-- the same of a floating instruction
pub record FloatExecutes (t : Tree Out) (s : Space) (user : Bool) (gs : List Grant) (m l : List ℕ) (d : FloatDone) (m' l' : List ℕ) : Type 0 where
  pub same : result (float_out_of d) m' (kept_in l') ≡ made (interpret translator s user t m (kept_in l) gs)
  pub good : Good (length m') s.pdir l'

-- the same over a bus, from b to b'
abbrev pub ExecutesOn : Tree Out → Bus → Done → Bus → Type 0
ExecutesOn t b d b' = Executes t b.space b.user [] b.mem.now b.tlb.now d b'.mem.now b'.tlb.now

abbrev pub FloatExecutesOn : Tree Out → Bus → FloatDone → Bus → Type 0
FloatExecutesOn t b d b' = FloatExecutes t b.space b.user [] b.mem.now b.tlb.now d b'.mem.now b'.tlb.now

-- ---- a step, or the rest of one

abbrev pub state_of : Cpu → List ℕ → List ℕ → List ℕ → State Kept
state_of c m con l = record { cpu = c; mem = m; console = con; buffer = kept_in l }

-- where at most n steps from a state end
abbrev pub end_of : List Key → ℕ → State Kept → State Kept
end_of ks n s = last_of s (steps_of translator ks n s)

-- from the record `old`, memory m, console con and buffer l: the code answered c, with m', con' and l', as the tree says
pub record Finishes (t : Tree Final) (old : Cpu) (m con l : List ℕ) (c : Cpu) (m' con' l' : List ℕ) : Type 0 where
  pub same : state_of c m' con' l' ≡ finished translator old.regs.count old.space old.written con (interpret translator old.space old.system.user t m (kept_in l) [])
  pub good : Good (length m') c.space.pdir l'
