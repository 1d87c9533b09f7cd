-- Document 01, "Numbers returned": a load by what its parts ensure: the answer decides whether the file is loaded.
use Rattle.std.specs.Result.{is_err}
use Rattle.std.proofs.Common.{Result, Ok, Err}
use Prim.Native.Nat.{ℕ}
use mathlib.Core.Bool.{Bool, true, false, false≢true}
use mathlib.Core.List.{List}
use mathlib.Core.Path.{◌≡◌, refl, sym, ◌∙◌, ap}
use native.Mathlib.Omega.{arith}
use lib.ListN.{length}
use Rattle.executable.specs.declared.LoadRefusal.{LoadRefusal}
use Rattle.executable.specs.Executable.{load_number, entry_of, body_of, load_answer}
use Rattle.executable.proofs.Accepted.{unrefused, fit}
use Rattle.rules.specs.declared.Cpu.{Cpu}
use Rattle.rules.specs.declared.Machine.{Machine}
use Rattle.rules.specs.Load.{Loaded, cpu_with, zero_cpu, empty_machine, image, load_by, load}
use Rattle.loader.specs.declared.Loaded.{Loaded as LoadedResult}
use Rattle.loader.specs.Loader.{Loadable, loaded_with, LoadsAs}

-- an accepted file can be loaded
loadable : (size : ℕ) (file : List ℕ) → load_answer size file ≡ Ok tt → Loadable size file
loadable size file e = let f = fit size file e in record { header = f.header; body = omega arith; small = omega arith }

-- what is loaded by any other answer
refused_by_lem : (a : Result Unit LoadRefusal) (file m : List ℕ) → is_err a ≡ true → loaded_with (record { answer = a; machine = empty_machine zero_cpu }) m ≡ load_by a file m
refused_by_lem (Ok tt) file m h = absurd (false≢true h)
refused_by_lem (Err e) file m h = refl

-- a load as the rules have it answers with their number
as_ruled : (file m : List ℕ) (r : LoadedResult) {m' : List ℕ} → loaded_with r m' ≡ load file m → LoadsAs file m r m'
as_ruled file m r e = record { number = ap (λ (l : Loaded). load_number l.answer) e; same = e }

module _ (file m : List ℕ) {a : Result Unit LoadRefusal} {b : Bool} (p : a ≡ load_answer (length m) file) (q : b ≡ is_err a) where
  -- a refused load
  pub refused : {c : Cpu} {r : Machine} → b ≡ true → c ≡ cpu_with 0 0 0 → r ≡ empty_machine c → LoadsAs file m (record { answer = a; machine = r }) m
  unfolding load
  refused {r = r} h d e = as_ruled file m (record { answer = a; machine = r }) (rw (e, d, ← p) (refused_by_lem a file m (sym q ∙ h)))

  module _ (z : b ≡ false) where
    -- an accepted one: the file can be loaded
    pub accepted_file : Loadable (length m) file
    accepted_file = loadable (length m) file (sym p ∙ unrefused a (sym q ∙ z))

    -- and is
    pub accepted : {c : Cpu} {r : Machine} {x : ℕ} {m' : List ℕ} → m' ≡ image (length m) (body_of file) → x ≡ entry_of file
        → c ≡ cpu_with (length m) x 0xffffffff → r ≡ empty_machine c
        → LoadsAs file m (record { answer = a; machine = r }) m'
    unfolding load
    accepted {r = r} f x d e = as_ruled file m (record { answer = a; machine = r }) (rw (f, e, d, x, ← p, unrefused a (sym q ∙ z)))
