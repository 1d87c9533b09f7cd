-- Document 01, "Numbers returned": what refusals 1, 2 and 3 leave of a memory's size, a page directory's address and a page buffer.
use Rattle.std.specs.Prelude.{ℕ, true, ◌≡◌, List}
use Rattle.paging.specs.Buffer.{buffer_ok}
use Rattle.buffer.specs.Held.{entries_in, Buffer}
use Rattle.walk.specs.Directory.{Directory}

-- a memory's size, a page directory in it, and a page buffer: pages below 2^20, frames in memory, and no page twice
pub record Good (size pdir : ℕ) (l : List ℕ) : Type 0 where
  pub directory : Directory size pdir
  pub buffer : Buffer l
  pub entries : buffer_ok size (entries_in l) ≡ true
