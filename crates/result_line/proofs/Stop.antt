-- The seven names with their numbers are the text of the line.
use Prim.Native.Nat.{ℕ}
use mathlib.Core.Path.{◌≡◌}
use Rattle.rules.specs.declared.Regs.{Regs}
use Rattle.text.specs.declared.Writer.{Writer}
use Rattle.text.specs.Adds.{Adds}
use Rattle.text.proofs.Laws.{adds_then}
use Rattle.result_line.specs.Line.{named, stop_line, stop_name, steps_name, a_name, b_name, c_name, sp_name, pc_name}

pub stop_added : (g : Regs) (steps : ℕ) {s x : ℕ} {w₀ w₁ w₂ w₃ w₄ w₅ w₆ w₇ : Writer}
    → s ≡ x → Adds (named stop_name s) w₀ w₁ → Adds (named steps_name steps) w₁ w₂ → Adds (named a_name g.a) w₂ w₃ → Adds (named b_name g.b) w₃ w₄
    → Adds (named c_name g.c) w₄ w₅ → Adds (named sp_name g.sp) w₅ w₆ → Adds (named pc_name g.pc) w₆ w₇
    → Adds (stop_line x steps g) w₀ w₇
unfolding stop_line
stop_added g steps e v w a b c sp pc =
    rw (← e) (adds_then (adds_then (adds_then (adds_then (adds_then (adds_then v w) a) b) c) sp) pc)
