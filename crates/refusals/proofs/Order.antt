-- Document 01, "Numbers returned": "lower number wins", as the code tests.
use Rattle.std.proofs.Common.{Result, Ok, Err}
use Prim.Native.Nat.{ℕ}
use mathlib.Core.Bool.{Bool, true, false, ◌&&◌}
use mathlib.Core.Path.{◌≡◌}
use lib.Dec.{leb}
use Rattle.memory.specs.Memory.{size_ok}
use Rattle.paging.specs.Buffer.{buffer_ok}
use Rattle.rules.specs.declared.Machine.{Machine}
use Rattle.rules.specs.declared.RunRefusal.{RunRefusal}
use Rattle.rules.specs.declared.RunRefusal.TheVariants.{BadSize, BadRegisters, BadBuffer, BadKeys, BadConsole, BadBudget}
use Rattle.rules.specs.Run.{registers_ok}
use Rattle.refusals.specs.View.{entries_of}
use Rattle.refusals.specs.Refusal.{refusal_of}

module _ (m : Machine) (size console_size : ℕ) (rising : Bool) (keys budget : ℕ) where
  abbrev answer : Result Unit RunRefusal
  answer = refusal_of m size console_size rising keys budget

  pub bad_size : size_ok size ≡ false → Err BadSize ≡ answer
  unfolding refusal_of
  bad_size e = rw e

  module _ (p : size_ok size ≡ true) where
    pub bad_registers : registers_ok size m.cpu ≡ false → Err BadRegisters ≡ answer
    unfolding refusal_of
    bad_registers e = rw (p, e)

    module _ (q : registers_ok size m.cpu ≡ true) where
      pub bad_buffer : buffer_ok size (entries_of m) ≡ false → Err BadBuffer ≡ answer
      unfolding refusal_of
      bad_buffer e = rw (p, q, e)

      module _ (r : buffer_ok size (entries_of m) ≡ true) where
        pub bad_keys : (rising && leb m.cpu.clock.taken keys) ≡ false → Err BadKeys ≡ answer
        unfolding refusal_of
        bad_keys e = rw (p, q, r, e)

        module _ (s : (rising && leb m.cpu.clock.taken keys) ≡ true) where
          pub bad_console : leb m.cpu.written console_size ≡ false → Err BadConsole ≡ answer
          unfolding refusal_of
          bad_console e = rw (p, q, r, s, e)

          module _ (t : leb m.cpu.written console_size ≡ true) where
            pub bad_budget : leb budget 1000000 ≡ false → Err BadBudget ≡ answer
            unfolding refusal_of
            bad_budget e = rw (p, q, r, s, t, e)

            pub accepted : leb budget 1000000 ≡ true → Ok tt ≡ answer
            unfolding refusal_of
            accepted e = rw (p, q, r, s, t, e)
