-- Document 02, item 7: "the old mode keeps document 01's table": in the old mode an instruction's end by that table is its end.
use Rattle.std.proofs.Common.{if◌then◌else◌}
use mathlib.Core.Path.{◌≡◌, refl}
use mathlib.Core.Bool.{Bool, true, false, true≢false}
use Rattle.floating_decode.specs.Opcodes.{floating_decode_of}
use Rattle.rules.specs.declared.Cpu.{Cpu}
use Rattle.rules.specs.Tree.{done}
use Rattle.rules.specs.Outcome.{Out, fine, unfetched, trap, refused, system, floated, undecoded}
use Rattle.rules.specs.Execute.{moved}
use Rattle.rules.specs.Floating.{float_tree}
use Rattle.rules.specs.Step.{further_tree}

pub old_further : (c : Cpu) → c.model.doubles ≡ false → (o : Out) → further_tree c o ≡ done o
unfolding further_tree
old_further c e (fine r vs) = refl
old_further c e (unfetched f) = refl
old_further c e (trap code) = refl
old_further c e (refused f) = refl
old_further c e (system op) = refl
old_further c e (floated r v vs) = refl
old_further c e (undecoded w) = go c.model.doubles e
  where
    go : (b : Bool) → b ≡ false → (if b then float_tree (floating_decode_of w) (moved c.regs) c.floats else done (undecoded w)) ≡ done (undecoded w)
    go true q = absurd (true≢false q)
    go false q = refl
