-- Document 01, "Numbers returned": what holds of a file that is accepted, and of the memory that it is loaded into: no test refused it.
use Rattle.std.specs.Result.{is_err}
use Rattle.std.proofs.Common.{if◌then◌else◌, Result, Ok, Err}
use Prim.Native.Nat.{ℕ, ◌+◌, ◌-◌, ◌%◌, ◌<◌, ◌≤◌}
use mathlib.Core.Bool.{Bool, true, false, ◌&&◌, true≢false}
use mathlib.Core.List.{List}
use mathlib.Core.Path.{◌≡◌, refl}
use native.Mathlib.Omega.{arith}
use borrow.Author.Tests.{leb-true, ltb-true, eqb-true}
use lib.Dec.{eqb, ltb, leb}
use lib.ListN.{length}
use Rattle.word.proofs.BoolLaws.{both}
use Rattle.memory.specs.Memory.{size_ok}
use Rattle.executable.specs.declared.LoadRefusal.{LoadRefusal}
use Rattle.executable.specs.declared.LoadRefusal.TheVariants.{BadSize, ShortFile, BadMagic, BadBody, BadDataStart, BadEntry}
use Rattle.executable.specs.Executable.{load_number, magic_of, entry_of, data_start_of, body_ok, entry_ok, load_answer}

-- a choice whose other side is a refusal
chosen : (t : Bool) (x y : Result Unit LoadRefusal) → 0 < load_number y → (if t then x else y) ≡ Ok tt → (t ≡ true) × (x ≡ Ok tt)
chosen true x y r e = (refl, e)
chosen false x y r e = let z : 0 < load_number (Ok tt) = rw e at r in absurd (omega arith)

-- the answer of number 0 is the accepting one
pub accepting : (a : Result Unit LoadRefusal) → load_number a ≡ 0 → a ≡ Ok tt
accepting (Ok tt) e = refl
accepting (Err BadSize) e = absurd (omega arith)
accepting (Err ShortFile) e = absurd (omega arith)
accepting (Err BadMagic) e = absurd (omega arith)
accepting (Err BadBody) e = absurd (omega arith)
accepting (Err BadDataStart) e = absurd (omega arith)
accepting (Err BadEntry) e = absurd (omega arith)

-- an answer that is no refusal
pub unrefused : {E : Type 0} (a : Result Unit E) → is_err a ≡ false → a ≡ Ok tt
unrefused (Ok tt) h = refl
unrefused (Err e) h = absurd (true≢false h)

-- what an accepted file and its memory have
pub record Fit (size : ℕ) (file : List ℕ) : Type 0 where
  pub ok : size_ok size ≡ true
  pub some : 0 < size
  pub pages : size % 4096 ≡ 0
  pub most : size ≤ 134217728
  pub header : 16 ≤ length file
  pub body : length file - 16 ≤ size
  pub entry : entry_of file % 4 ≡ 0
  pub text : entry_of file + 4 ≤ data_start_of file

pub fit : (size : ℕ) (file : List ℕ) → load_answer size file ≡ Ok tt → Fit size file
unfolding load_answer size_ok
fit size file e =
    let sized = chosen (size_ok size) _ _ (omega arith) e in
    let headed = chosen (leb 16 (length file)) _ _ (omega arith) sized.1 in
    let marked = chosen (eqb (magic_of file) 0xc0def00d) _ _ (omega arith) headed.1 in
    let bodied = chosen (body_ok size (length file - 16)) _ _ (omega arith) marked.1 in
    let started = chosen (leb (data_start_of file) (length file - 16)) _ _ (omega arith) bodied.1 in
    let entered = chosen (entry_ok (entry_of file) (data_start_of file)) _ _ (omega arith) started.1 in
    let up_to = both (ltb 0 size && eqb (size % 4096) 0) (leb size 134217728) sized.0 in
    let whole = both (ltb 0 size) (eqb (size % 4096) 0) up_to.0 in
    record {
      ok = sized.0;
      some = ltb-true 0 size whole.0;
      pages = eqb-true (size % 4096) 0 whole.1;
      most = leb-true size 134217728 up_to.1;
      header = leb-true 16 (length file) headed.0;
      body = leb-true (length file - 16) size (both (ltb 0 (length file - 16)) _ bodied.0).1;
      entry = eqb-true (entry_of file % 4) 0 (both (eqb (entry_of file % 4) 0) _ entered.0).0;
      text = leb-true (entry_of file + 4) (data_start_of file) (both (eqb (entry_of file % 4) 0) _ entered.0).1;
    }
