-- Document 01, "One step", the order of faults, and document 02, item 7: how an instruction ends. Only a completed one carries stores.
use Rattle.std.specs.Prelude.{ℕ, List, [], ◌∷◌}
use Rattle.decode.specs.declared.SysOp.{SysOp}
use Rattle.paging.specs.declared.Access.TheVariants.{Read, Write}
use Rattle.paging.specs.declared.Fault.{Fault}
use Rattle.paging.specs.declared.TrapCode.{TrapCode}
use Rattle.rules.specs.declared.Regs.{Regs}
use Rattle.rules.specs.declared.Floats.{Floats}
use Rattle.rules.specs.Tree.{Reply, got, denied, Tree, ask, done, access}

pub data Out : Type 0 where
  -- new registers, and the values stored
  fine : Regs → List ℕ → Out
  -- the fetch was denied
  unfetched : Fault → Out
  -- a fault without an address, or TRAP: its code
  trap : TrapCode → Out
  -- an operand access was denied
  refused : Fault → Out
  -- a privileged instruction
  system : SysOp → Out
  -- a floating instruction: new registers, f and g, and the values stored
  floated : Regs → Floats → List ℕ → Out
  -- a word that document 01's table has no row for
  undecoded : ℕ → Out

-- new registers and no store
abbrev pub plain : Regs → Tree Out
plain r = done (fine r [])

-- "a fault ends the instruction"
abbrev pub or_refused : (ℕ → Tree Out) → Reply → Tree Out
or_refused rest (got v) = rest v
or_refused rest (denied f) = done (refused f)

-- n bytes read at an address
abbrev pub reading : ℕ → ℕ → (ℕ → Tree Out) → Tree Out
reading n va rest = ask (access Read n va) (or_refused rest)

-- n bytes of v stored at an address, with the registers after it
abbrev pub writing : ℕ → ℕ → ℕ → Regs → Tree Out
writing n va v r = ask (access Write n va) (or_refused (λ x. done (fine r (v ∷ []))))
