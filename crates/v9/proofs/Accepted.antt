-- Document 01, "Numbers returned": what an accepted run tells of the record, of memory's size and of the budget.
use Rattle.std.proofs.Common.{if◌then◌else◌, Result}
use Prim.Native.Nat.{ℕ, ◌≤◌, ◌<◌, ◌%◌, ◌^◌}
use native.Mathlib.Omega.{arith}
use native.Mathlib.Nat.{not-suc-le-zero}
use mathlib.Core.Bool.{Bool, true, false, ◌&&◌}
use mathlib.Core.Path.{◌≡◌, refl}
use lib.Dec.{ltb, leb, eqb}
use borrow.Author.Tests.{ltb-true, leb-true}
use Rattle.memory.specs.Memory.{size_ok}
use Rattle.paging.specs.Buffer.{buffer_ok}
use Rattle.word.proofs.BoolLaws.{both}
use Rattle.walk.specs.Directory.{Directory}
use Rattle.rules.specs.declared.Cpu.{Cpu}
use Rattle.rules.specs.declared.Machine.{Machine}
use Rattle.rules.specs.declared.RunRefusal.{RunRefusal}
use Rattle.rules.specs.Run.{registers_ok, is_accepted, allowance, budget_ok}
use Rattle.rules.proofs.AcceptableRecord.{registers_acceptable}
use Rattle.rules.proofs.AcceptedRun.{accepted_tests, size_whole}
use Rattle.refusals.specs.View.{entries_of}
use Rattle.refusals.specs.Refusal.{refusal_of}

-- 1 and 2: memory of whole pages, a page directory in it, and a step count below 2^63
module _ (size : ℕ) (c : Cpu) where
  size_small : size_ok size ≡ true → size ≤ 134217728
  unfolding size_ok
  size_small s = leb-true _ _ (both (ltb 0 size && eqb (size % 4096) 0) _ s).1

  directory_in : size_ok size ≡ true → registers_ok size c ≡ true → Directory size c.space.pdir
  directory_in s r =
      let d = (registers_acceptable size c.clock.taken c.written c r (omega arith) (omega arith)).directory in
      record { whole = size_whole size s; small = size_small s; aligned = d.aligned; below = d.inside }

  count_below : registers_ok size c ≡ true → c.regs.count < 2 ^ 63
  unfolding registers_ok
  count_below r =
      ltb-true _ _
      (both
      (eqb (c.regs.pc % 4) 0 && eqb (c.system.ivec % 4) 0 && eqb (c.regs.sp % 8) 0 && eqb (c.system.usp % 8) 0
      && eqb (c.system.ksp % 8) 0 && eqb (c.space.pdir % 4096) 0 && ltb c.space.pdir size)
      _ r).1

-- a record, memory of `size` bytes and a budget that no refusal is given for
pub record Accepted (m : Machine) (size budget : ℕ) : Type 0 where
  pub directory : Directory size m.cpu.space.pdir
  pub count : m.cpu.regs.count < 2 ^ 63
  pub entries : buffer_ok size (entries_of m) ≡ true
  pub most : budget ≤ 1000000

pub accepted_record : (m : Machine) (size console_size : ℕ) (rising : Bool) (keys budget : ℕ) → is_accepted (refusal_of m size console_size rising keys budget) ≡ true
    → Accepted m size budget
unfolding refusal_of
accepted_record m size console_size rising keys budget e =
    let t =
    accepted_tests (size_ok size) (registers_ok size m.cpu) (buffer_ok size (entries_of m)) (rising && leb m.cpu.clock.taken keys)
    (leb m.cpu.written console_size) (budget_ok budget) e in
    record {
      directory = directory_in size m.cpu t.0 t.1;
      count = count_below size m.cpu t.1;
      entries = t.2;
      most = leb-true budget 1000000 t.5;
    }

-- some steps are left only of an accepted run, and no more than its budget
pub allowance_some : (a : Result Unit RunRefusal) (budget : ℕ) → 0 < allowance a budget → is_accepted a ≡ true
allowance_some a budget h = go (is_accepted a) h
  where
    go : (b : Bool) → 0 < (if b then budget else 0) → b ≡ true
    go true h = refl
    go false h = absurd (not-suc-le-zero h)

pub allowance_most : (a : Result Unit RunRefusal) (budget : ℕ) → allowance a budget ≤ budget
allowance_most a budget = go (is_accepted a)
  where
    go : (b : Bool) → (if b then budget else 0) ≤ budget
    go true = omega arith
    go false = omega arith
