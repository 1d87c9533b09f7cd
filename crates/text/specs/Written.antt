-- What the writers of a lent line promise.
use Rattle.std.specs.Prelude.{ℕ, ◌+◌, ◌≡◌, List, ◌++◌, length, take, drop}

-- into the line l, from `at` on, bytes were written: the line is then l', and r the index after the last of them; what stands from there on stays
pub record Written (bytes l : List ℕ) (at : ℕ) (l' : List ℕ) (r : ℕ) : Type 0 where
  pub end : r ≡ at + length bytes
  pub front : take r l' ≡ take at l ++ bytes
  pub rest : drop r l' ≡ drop r l
