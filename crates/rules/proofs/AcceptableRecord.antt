-- Document 01, "Numbers returned": what refusals 2, 4 and 5 ask of a record, but for the step count, as facts on its numbers.
use Prim.Native.Nat.{ℕ, ◌%◌, ◌^◌, ◌≤◌, ◌<◌}
use mathlib.Core.Path.{◌≡◌, refl}
use mathlib.Core.Bool.{Bool, true, false, ◌&&◌, false≢true}
use lib.Dec.{eqb, ltb}
use borrow.Author.Tests.{eqb-true, ltb-true, eq-eqb, lt-ltb}
use Rattle.rules.specs.declared.Cpu.{Cpu}
use Rattle.rules.specs.Run.{registers_ok}

-- the numbers by their values, so that a change of another part of the record is none of theirs; the list has `keys` keys, the console `room` bytes
pub record Tested (keys console_size pc ivec sp usp ksp taken written : ℕ) : Type 0 where
  pub pc_aligned : pc % 4 ≡ 0
  pub ivec_aligned : ivec % 4 ≡ 0
  pub sp_aligned : sp % 8 ≡ 0
  pub usp_aligned : usp % 8 ≡ 0
  pub ksp_aligned : ksp % 8 ≡ 0
  pub listed : taken ≤ keys
  pub fits : written ≤ console_size

-- of a record
abbrev pub Passes : (keys console_size : ℕ) → Cpu → Type 0
Passes keys console_size c =
    Tested keys console_size c.regs.pc c.system.ivec c.regs.sp c.system.usp c.system.ksp c.clock.taken c.written

-- the page directory, in a memory of a size
pub record Directory (size pdir : ℕ) : Type 0 where
  pub aligned : pdir % 4096 ≡ 0
  pub inside : pdir < size

-- all of it
pub record Acceptable (size keys console_size : ℕ) (c : Cpu) : Type 0 where
  pub passes : Passes keys console_size c
  pub directory : Directory size c.space.pdir

-- ---- and refusal 2

-- eight tests that hold together
eight : (a b c d e f g h : Bool) → (a && b && c && d && e && f && g && h) ≡ true
    → (a ≡ true) × (b ≡ true) × (c ≡ true) × (d ≡ true) × (e ≡ true) × (f ≡ true) × (g ≡ true) × (h ≡ true)
eight true true true true true true true true q = (refl, refl, refl, refl, refl, refl, refl, refl)
eight true true true true true true true false q = absurd (false≢true q)
eight true true true true true true false h q = absurd (false≢true q)
eight true true true true true false g h q = absurd (false≢true q)
eight true true true true false f g h q = absurd (false≢true q)
eight true true true false e f g h q = absurd (false≢true q)
eight true true false d e f g h q = absurd (false≢true q)
eight true false c d e f g h q = absurd (false≢true q)
eight false b c d e f g h q = absurd (false≢true q)

-- a record that is not refused with 2, 4 or 5
pub registers_acceptable : (size keys console_size : ℕ) (c : Cpu) → registers_ok size c ≡ true → c.clock.taken ≤ keys → c.written ≤ console_size
    → Acceptable size keys console_size c
unfolding registers_ok
registers_acceptable size keys console_size c q t w =
    let r = c.regs in
    let y = c.system in
    let p =
    eight (eqb (r.pc % 4) 0) (eqb (y.ivec % 4) 0) (eqb (r.sp % 8) 0) (eqb (y.usp % 8) 0) (eqb (y.ksp % 8) 0)
    (eqb (c.space.pdir % 4096) 0) (ltb c.space.pdir size) (ltb r.count (2 ^ 63)) q in
    record {
      passes = record {
        pc_aligned = eqb-true _ _ p.0;
        ivec_aligned = eqb-true _ _ p.1;
        sp_aligned = eqb-true _ _ p.2;
        usp_aligned = eqb-true _ _ p.3;
        ksp_aligned = eqb-true _ _ p.4;
        listed = t;
        fits = w;
      };
      directory = record { aligned = eqb-true _ _ p.5; inside = ltb-true _ _ p.6 };
    }

-- what refusal 2 still depends on
pub acceptable_registers : {size keys console_size : ℕ} (c : Cpu) → Acceptable size keys console_size c → registers_ok size c ≡ ltb c.regs.count (2 ^ 63)
unfolding registers_ok
acceptable_registers {size} c g =
    let p = g.passes in
    rw (
      eq-eqb (c.regs.pc % 4) 0 p.pc_aligned,
      eq-eqb (c.system.ivec % 4) 0 p.ivec_aligned,
      eq-eqb (c.regs.sp % 8) 0 p.sp_aligned,
      eq-eqb (c.system.usp % 8) 0 p.usp_aligned,
      eq-eqb (c.system.ksp % 8) 0 p.ksp_aligned,
      eq-eqb (c.space.pdir % 4096) 0 g.directory.aligned,
      lt-ltb c.space.pdir size g.directory.inside,
    )
