-- The opcode byte is the one at its remainder by 64 in its quarter.
use native.Mathlib.Omega.{arith}
use mathlib.Core.Path.{◌≡◌, ap, ◌∙◌}
use Prim.Native.Nat.{ℕ, ◌+◌, ◌*◌, ◌/◌, ◌%◌}
use Rattle.word.specs.Word.{extend}
use Rattle.floating_decode.specs.Opcodes.{floating_opcode_of, floating_decode_of}
use Rattle.floating_decode.specs.Listed.{is_listed}
use Rattle.floating_decode.proofs.is_floating.Goals as goal

pub returns : goal.returns
unfolding floating_decode_of
returns c =
    let imm = extend 24 (c.args.word / 256) in
    let byte : 64 * (c.args.word % 256 / 64) + c.args.word % 256 % 64 ≡ c.args.word % 256 = omega arith in
    c.floating_set-set.ensures (c.args.word % 256 % 64) imm (omega arith) ∙ ap (λ (op : ℕ). is_listed (floating_opcode_of op imm)) byte
