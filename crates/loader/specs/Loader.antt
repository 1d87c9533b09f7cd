-- Document 01, "The record and the loaded program": a load's result as the rules have it.
use Rattle.std.specs.Prelude.{ℕ, ◌+◌, ◌^◌, ◌<◌, ◌≤◌, List, ◌≡◌, length}
use Rattle.executable.specs.Executable.{load_number}
use Rattle.rules.specs.Load.{Loaded, load}
use Rattle.loader.specs.declared.Loaded.{Loaded as LoadedResult}

-- what a load needs of an accepted file and its memory: a header, a body that fits, and a size that is a word
pub record Loadable (size : ℕ) (file : List ℕ) : Type 0 where
  pub header : 16 ≤ length file
  pub body : length file ≤ 16 + size
  pub small : size < 2 ^ 32

-- the answer and the record, beside memory
abbrev pub loaded_with : LoadedResult → List ℕ → Loaded
loaded_with r m = record { answer = r.answer; machine = r.machine; mem = m }

-- a load of a file into memory m gave r and left m', all as the rules say
pub record LoadsAs (file m : List ℕ) (r : LoadedResult) (m' : List ℕ) : Type 0 where
  pub number : load_number r.answer ≡ load_number (load file m).answer
  pub same : loaded_with r m' ≡ load file m
