-- Document 01, "Opcodes": "Block opcodes do one byte a step". pc has moved 4 on already.
use Rattle.std.specs.Prelude.{ℕ, ◌%◌, eqb, if◌then◌else◌}
use Rattle.word.specs.Word.{sum, difference}
use Rattle.decode.specs.declared.BlockOp.{BlockOp}
use Rattle.decode.specs.declared.BlockOp.TheVariants.{Mcpy, Mcmp, Mchr, Mset}
use Rattle.rules.specs.declared.Regs.{Regs}
use Rattle.rules.specs.Record.{with_a, with_b, with_c, with_pc}
use Rattle.rules.specs.Tree.{Tree}
use Rattle.rules.specs.Outcome.{Out, plain, reading, writing}

-- "with c = 0 they finish (MCMP, MCHR: a = 0)"
abbrev pub block_end : BlockOp → Regs → Regs
block_end Mcpy r = r
block_end Mcmp r = with_a 0 r
block_end Mchr r = with_a 0 r
block_end Mset r = r

-- "pc returns to the instruction", and c falls by 1
abbrev pub again : Regs → Regs
again r = with_c (difference r.c 1) (with_pc (difference r.pc 4) r)

abbrev pub next_a : Regs → Regs
next_a r = with_a (sum r.a 1) r

abbrev pub next_b : Regs → Regs
next_b r = with_b (sum r.b 1) r

-- MCMP's loop breaks where the bytes x at b and y at a differ: a is their difference, b += c, c = 0
abbrev pub compared : ℕ → ℕ → Regs → Regs
compared x y r = if eqb x y then next_a (next_b (again r)) else with_a (difference x y) (with_b (sum r.b r.c) (with_c 0 r))

-- MCHR's loop breaks at b's low byte
abbrev pub searched : ℕ → Regs → Regs
searched x r = if eqb x (r.b % 256) then with_c 0 r else next_a (again r)

-- one byte by the source's loop; "b is read before a"
unfoldable pub byte_tree : BlockOp → Regs → Tree Out
byte_tree Mcpy r = reading 1 r.b (λ x. writing 1 r.a x (next_a (next_b (again r))))
byte_tree Mcmp r = reading 1 r.b (λ x. reading 1 r.a (λ y. plain (compared x y r)))
byte_tree Mchr r = reading 1 r.a (λ x. plain (searched x r))
byte_tree Mset r = writing 1 r.a (r.b % 256) (next_a (again r))

unfoldable pub block_tree : BlockOp → Regs → Tree Out
unfolding byte_tree
block_tree op r = if eqb r.c 0 then plain (block_end op r) else byte_tree op r
