-- Document 01, "Numbers returned": a run's answer, from the record and the sizes of what is lent.
use Rattle.std.specs.Prelude.{ℕ, Bool, ◌&&◌, leb, Result}
use Rattle.memory.specs.Memory.{size_ok}
use Rattle.paging.specs.Buffer.{buffer_ok}
use Rattle.rules.specs.declared.Machine.{Machine}
use Rattle.rules.specs.declared.RunRefusal.{RunRefusal}
use Rattle.rules.specs.Run.{registers_ok, budget_ok, first_refusal}
use Rattle.refusals.specs.View.{entries_of}

-- for memory of `size` bytes, a console of `console_size`, and a list of so many keys, whose step numbers never fall where `rising`
unfoldable pub refusal_of : Machine → (size console_size : ℕ) (rising : Bool) (keys budget : ℕ) → Result Unit RunRefusal
refusal_of m size console_size rising keys budget =
    first_refusal (size_ok size) (registers_ok size m.cpu) (buffer_ok size (entries_of m)) (rising && leb m.cpu.clock.taken keys)
    (leb m.cpu.written console_size) (budget_ok budget)
