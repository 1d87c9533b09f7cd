use Rattle.encoding.specs.Entries.{rights_ok, entry_bytes}
use mathlib.Core.Path.{◌≡◌}
use Prim.Native.Nat.{◌+◌, ◌*◌, ◌-◌}
use Rattle.encoding.proofs.rights_ok.Given as goal

-- The rights of all entries pass just if those from the i-th on do.
abbrev pub invariant-loop-i : goal.invariant-loop-i
invariant-loop-i l = rights_ok l.n l.file l.at ≡ rights_ok (l.n - l.i) l.file (l.at + entry_bytes * l.i)
