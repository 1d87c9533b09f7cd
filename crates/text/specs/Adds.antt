-- What the writers of lent bytes ask and promise.
use Rattle.std.specs.Prelude.{ℕ, ◌+◌, ◌≤◌, ◌≡◌, List, length}
use Rattle.text.specs.declared.Writer.{Writer}
use Rattle.text.specs.Written.{Written}

-- n more bytes fit
abbrev pub Room : ℕ → Writer → Type 0
Room n w = w.end + n ≤ length w.bytes.now

-- the bytes were written after those that stood, into the same lent bytes
pub record Adds (bytes : List ℕ) (w w' : Writer) : Type 0 where
  pub same : w'.bytes.ghost_name ≡ w.bytes.ghost_name
  pub written : Written bytes w.bytes.now w.end w'.bytes.now w'.end
  pub size : length w'.bytes.now ≡ length w.bytes.now
