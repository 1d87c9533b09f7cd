-- Document 02, item 2: "A file the run program refuses gets its refused line": the listing of a file that is not accepted is the one line that the run program prints of it.
use Rattle.std.proofs.Common.{Result, Ok, Err}
use Prim.Native.Nat.{ℕ}
use mathlib.Core.List.{List, [], ◌∷◌}
use mathlib.Core.Path.{◌≡◌, refl, sym, ◌∙◌, ap}
use borrow.Author.Tests.{ne_eqb}
use lib.ListN.{length, replicate, length-replicate}
use Rattle.executable.specs.declared.LoadRefusal.{LoadRefusal}
use Rattle.executable.specs.Executable.{load_number, load_answer}
use Rattle.rules.specs.Load.{load_by, load}
use Rattle.text.specs.Ascii.{ascii}
use Rattle.result_line.specs.Line as run
use Rattle.result_line.specs.Program.{line_of, program_line}
use Rattle.listing.specs.Listing.{memory_size, answer_of, refused_line, listing_of}

-- the two definitions of the line
same_line : (n : ℕ) → run.refused_line n ≡ refused_line n
unfolding run.refused_line refused_line ascii
same_line n = refl

-- what a load answers
answer_by_lem : (a : Result Unit LoadRefusal) (file m : List ℕ) → (load_by a file m).answer ≡ a
answer_by_lem (Ok tt) file m = refl
answer_by_lem (Err e) file m = refl

-- by a machine of any memory of that size
module _ (file m con : List ℕ) (e : length m ≡ memory_size) (z : answer_of file ≡ 0 → ⊥) where
  answer : load_number (load file m).answer ≡ answer_of file
  unfolding load
  answer = ap load_number (answer_by_lem (load_answer (length m) file) file m ∙ ap (λ (n : ℕ). load_answer n file) e)

  line_refused : line_of file m con ≡ run.refused_line (answer_of file)
  unfolding line_of
  line_refused = rw (answer, ne_eqb (answer_of file) 0 z)

pub refused_as_run : (file : List ℕ) → (answer_of file ≡ 0 → ⊥) → listing_of file ≡ program_line file ∷ []
unfolding listing_of program_line
refused_as_run file z =
    rw (ne_eqb (answer_of file) 0 z)
    (ap (λ (l : List ℕ). l ∷ [])
    (sym (line_refused file (replicate memory_size 0) (replicate 4096 0) (length-replicate {A = ℕ} memory_size 0) z ∙ same_line (answer_of file))))
