-- What is written takes the room that is promised, and a line's start is the line.
use Prim.Native.Nat.{ℕ}
use mathlib.Core.List.{List}
use mathlib.Core.Path.{◌≡◌, sym, ap, ◌∙◌}
use native.Mathlib.Omega.{arith}
use lib.ListN.{length, take, length-take}
use Rattle.text.specs.Written.{Written}
use Rattle.result_line.specs.Line.{Shows}

-- what is written at the start of a line is the line
pub shows : {x l l' : List ℕ} {r : ℕ} → Written x l 0 l' r → Shows x l' r
shows {x} {l} {l'} {r} w =
    let e : r ≡ length x = omega (arith, w.end) in
    let n : r ≡ length (take r l') = e ∙ sym (ap length w.front) in
    record { end = e; front = w.front; within = omega (arith, n ∙ length-take r l'); counts = n }
