-- Document 02, item 6, "never more than five in a step": the translations of each floating instruction, a line for each: one operand, and two for the frame of what
-- may follow. So the whole instruction of a step, in either mode, leaves what the rest of the step needs.
use Prim.Native.Nat.{ℕ}
use mathlib.Core.List.{List}
use native.Mathlib.Omega.{arith}
use Rattle.std.specs.Prelude.{Option, None, Some}
use Rattle.double.specs.Arithmetic.{value_of}
use Rattle.double.specs.Whole.{cut_signed, cut_unsigned}
use Rattle.floating_decode.specs.Opcodes.{floating_decode_of}
use Rattle.floating_decode.specs.declared.FloatInstr.{FloatInstr}
use Rattle.floating_decode.specs.declared.FloatInstr.TheVariants.{Unlisted, Load, Store, LoadImm, Lbad, Arith, Compare, Bzf, Bnzf, Branch, Cid, Cud, Cdi, Cdu}
use Rattle.floating_decode.specs.declared.FloatInstr.TheVariants.{Push, Pop, Fabs, Flor, Ceil}
use Rattle.rules.specs.declared.Cpu.{Cpu}
use Rattle.rules.specs.declared.Floats.{Floats}
use Rattle.rules.specs.declared.Regs.{Regs}
use Rattle.rules.specs.Tree.{done}
use Rattle.rules.specs.Outcome.{Out, fine, unfetched, trap, refused, system, floated, undecoded}
use Rattle.rules.specs.Execute.{moved}
use Rattle.rules.specs.Floating.{cut_tree, float_tree}
use Rattle.rules.specs.Step.{further_tree, executed_tree}
use Rattle.walk_bounds.proofs.Within.{Within, within_leaf, within_if, within_then}
use Rattle.walk_bounds.proofs.FiveInstruction.{rest_of, AtMost, operand_within, instruction_within}

-- it completes
floated_within : {n : ℕ} {r : Regs} {v : Floats} {vs : List ℕ} → AtMost n (done (floated r v vs))
floated_within {n} = within_leaf (omega arith)

-- CDI and CDU complete, or trap
cut_within : (x : Option ℕ) (r : Regs) (v : Floats) → AtMost 3 (cut_tree x r v)
unfolding cut_tree
cut_within None r v = within_leaf (omega arith)
cut_within (Some x) r v = floated_within

-- every floating instruction
float_within : (i : FloatInstr) (r : Regs) (v : Floats) → AtMost 3 (float_tree i r v)
unfolding float_tree
float_within Unlisted r v = within_leaf (omega arith)
float_within (Load d b p i) r v = operand_within (λ x. floated_within)
float_within (Store b p i) r v = operand_within (λ x. floated_within)
float_within (LoadImm d i) r v = floated_within
float_within Lbad r v = floated_within
float_within (Arith op) r v = floated_within
float_within (Compare t) r v = floated_within
float_within (Bzf i) r v = floated_within
float_within (Bnzf i) r v = floated_within
float_within (Branch t i) r v = floated_within
float_within Cid r v = floated_within
float_within Cud r v = floated_within
float_within Cdi r v = cut_within (cut_signed (value_of v.f)) r v
float_within Cdu r v = cut_within (cut_unsigned (value_of v.f)) r v
float_within (Push d) r v = operand_within (λ x. floated_within)
float_within (Pop d) r v = operand_within (λ x. floated_within)
float_within Fabs r v = floated_within
float_within Flor r v = floated_within
float_within Ceil r v = floated_within

-- what a word without a row comes to, in the mode of the record
further_within : (c : Cpu) (o : Out) → AtMost (rest_of o) (further_tree c o)
unfolding further_tree
further_within c (fine r vs) = within_leaf (omega arith)
further_within c (unfetched f) = within_leaf (omega arith)
further_within c (trap code) = within_leaf (omega arith)
further_within c (refused f) = within_leaf (omega arith)
further_within c (system op) = within_leaf (omega arith)
further_within c (floated r v vs) = within_leaf (omega arith)
further_within c (undecoded w) = within_if c.model.doubles (float_within (floating_decode_of w) (moved c.regs) c.floats) (within_leaf (omega arith))

-- the whole instruction
pub executed_within : (c : Cpu) → Within rest_of 5 (executed_tree c)
unfolding executed_tree
executed_within c = within_then 5 (further_tree c) (instruction_within c.regs) (further_within c)
