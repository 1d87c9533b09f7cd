-- Document 01, "Opcodes": BOUT, a privileged instruction that changes the record alone, and any of them in user mode.
use Rattle.std.proofs.Common.{if◌then◌else◌}
use Prim.Native.Nat.{ℕ, ◌+◌, ◌%◌, ◌≤◌, ◌<◌}
use mathlib.Core.Bool.{Bool, true, false}
use mathlib.Core.List.{List}
use mathlib.Core.Path.{◌≡◌, refl, sym, subst, ◌∙◌}
use lib.ListN.{length, set}
use lib.Dec.{eqb}
use borrow.Author.Tests.{lt-ltb, le-ltb}
use Rattle.decode.specs.declared.SysOp.{SysOp}
use Rattle.decode.specs.declared.PlainOp.{PlainOp}
use Rattle.decode.specs.declared.PlainOp.TheVariants.{Halt, Cli, Sti, Bin, Ssp, Ivec, Time, Lvad, Lusp, Susp, Msiz, Idle}
use Rattle.decode.specs.declared.SysOp.TheVariants.{Plain}
use Rattle.paging.specs.declared.TrapCode.TheVariants.{Fpriv}
use Rattle.paging.specs.TrapCode.{code_number}
use Rattle.mmu.specs.Good.{Good}
use Rattle.rules.specs.declared.Cpu.{Cpu}
use Rattle.rules.specs.Record.{put_a, with_written, with_clock, with_timeout}
use Rattle.rules.specs.Trap.{none, next_pc, trap_tree}
use Rattle.rules.specs.System.{computed, bout_tree, privileged_tree, system_tree}
use Rattle.rules.specs.Step.{space_after}
use Rattle.contracts.specs.Contract.{Finishes}
use Rattle.contracts.proofs.Steps.{record_after, finishes_ended, finishes_printed}
use Rattle.system.specs.Moved.{moved_on}
use Rattle.system.proofs.Choices.{finishes_then, finishes_else, at_next}

-- ---- "BOUT: b's low byte appended, a = 1; console full, a = 0xFFFFFFFF"

module _ (c : Cpu) {m con l : List ℕ} (g : Good (length m) c.space.pdir l) {x : Cpu} where
  pub bout_room : {y : Cpu} {con' : List ℕ} → c.written < length con → y ≡ put_a 1 c → x ≡ with_written (c.written + 1) y
      → con' ≡ set con c.written (c.regs.b % 256) → Finishes (bout_tree (length con) c) c m con l x m con' l
  unfolding bout_tree space_after
  bout_room h e f z = finishes_then _ _ (lt-ltb _ _ h) (finishes_printed (rw e at f) z g)

  pub bout_full : length con ≤ c.written → x ≡ put_a 0xffffffff c → Finishes (bout_tree (length con) c) c m con l x m con l
  unfolding bout_tree space_after
  bout_full h f = finishes_else _ _ (le-ltb _ _ h) (finishes_ended f g)

-- ---- the privileged instructions

-- by the instruction
pub privileged_at : (size console_size : ℕ) (c : Cpu) (op : SysOp) {op' : SysOp} {m con l : List ℕ} {x : Cpu} {m' con' l' : List ℕ} → op ≡ op'
    → Finishes (privileged_tree size console_size op' c (moved_on c)) c m con l x m' con' l'
    → Finishes (privileged_tree size console_size op c (moved_on c)) c m con l x m' con' l'
privileged_at size console_size c op {op'} {m} {con} {l} {x} {m'} {con'} {l'} e h =
    subst (λ z. Finishes (privileged_tree size console_size z c (moved_on c)) c m con l x m' con' l') (sym e) h

-- those that change the record alone leave step count and address space
computed_kept : (size : ℕ) (op : PlainOp) (c : Cpu) → record_after c none (computed size op c) ≡ computed size op c
unfolding space_after
computed_kept size Halt c = refl
computed_kept size Cli c = refl
computed_kept size Sti c = refl
computed_kept size Bin c = refl
computed_kept size Ssp c = refl
computed_kept size Ivec c = refl
computed_kept size (Time i) c = go (eqb i 0)
  where
    go : (b : Bool) → let x = if b then with_clock (with_timeout c.regs.a c.clock) c else c in record_after c none x ≡ x
    go true = unfold space_after in refl
    go false = unfold space_after in refl
computed_kept size Lvad c = refl
computed_kept size Lusp c = refl
computed_kept size Susp c = refl
computed_kept size Msiz c = refl
computed_kept size Idle c = refl

pub plain_ends : (size console_size : ℕ) (c : Cpu) (op : PlainOp) {m con l : List ℕ} → Good (length m) c.space.pdir l → {n x : Cpu} → n ≡ moved_on c → x ≡ computed size op n
    → Finishes (privileged_tree size console_size (Plain op) c (moved_on c)) c m con l x m con l
unfolding privileged_tree space_after
plain_ends size console_size c op g e f = finishes_ended (rw e at f ∙ sym (computed_kept size op (moved_on c))) g

-- ---- "privilege"

module _ (size console_size : ℕ) (op : SysOp) (c : Cpu) {m con l : List ℕ} {x : Cpu} {m' con' l' : List ℕ} where
  pub system_denied : {number n : ℕ} → c.system.user ≡ true → number ≡ code_number Fpriv → n ≡ next_pc c → Finishes (trap_tree c number n) c m con l x m' con' l'
      → Finishes (system_tree size console_size op c) c m con l x m' con' l'
  unfolding system_tree
  system_denied e q p h = finishes_then _ _ e (at_next (trap_tree c (code_number Fpriv)) c p (rw q at h))

  pub system_allowed : c.system.user ≡ false → Finishes (privileged_tree size console_size op c (moved_on c)) c m con l x m' con' l'
      → Finishes (system_tree size console_size op c) c m con l x m' con' l'
  unfolding system_tree
  system_allowed e h = finishes_else _ _ e h
