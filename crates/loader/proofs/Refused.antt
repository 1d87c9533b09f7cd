-- Document 01, "Numbers returned": "A refused load returns an all-zero record and leaves memory", by the contract of `loader::load`.
use Rattle.std.proofs.Common.{Result, Ok, Err}
use Prim.Native.Nat.{ℕ}
use mathlib.Core.Path.{◌≡◌, ap}
use mathlib.Core.List.{List}
use lib.ListN.{length}
use Rattle.executable.specs.declared.LoadRefusal.{LoadRefusal}
use Rattle.executable.specs.Executable.{load_number, load_answer}
use Rattle.rules.specs.Load.{Loaded, zero_cpu, empty_machine, load_by, load}
use Rattle.loader.specs.declared.Loaded.{Loaded as LoadedResult}
use Rattle.loader.specs.Loader.{loaded_with, LoadsAs}

-- a load gave r and left mem'
module _ (file mem : List ℕ) {r : LoadedResult} {mem' : List ℕ} where
  -- by each answer
  refused_as : (a : Result Unit LoadRefusal) → loaded_with r mem' ≡ load_by a file mem → (load_number r.answer ≡ 0 → ⊥)
      → (r.machine ≡ empty_machine zero_cpu) × (mem' ≡ mem)
  refused_as (Ok tt) e h = absurd (h (ap (λ (l : Loaded). load_number l.answer) e))
  refused_as (Err refusal) e h = (ap (λ (l : Loaded). l.machine) e, ap (λ (l : Loaded). l.mem) e)

  pub refused_load : LoadsAs file mem r mem' → (load_number r.answer ≡ 0 → ⊥) → (r.machine ≡ empty_machine zero_cpu) × (mem' ≡ mem)
  unfolding load
  refused_load l = refused_as (load_answer (length mem) file) l.same
