-- Document 01, "Numbers returned": what refusals 1 and 2 leave of a memory's size and a page directory's address.
use Rattle.std.specs.Prelude.{ℕ, ◌%◌, ◌≤◌, ◌<◌, ◌≡◌}

-- a memory of whole pages, and a page directory in it
pub record Directory (size pdir : ℕ) : Type 0 where
  pub whole : size % 4096 ≡ 0
  pub small : size ≤ 134217728
  pub aligned : pdir % 4096 ≡ 0
  pub below : pdir < size
