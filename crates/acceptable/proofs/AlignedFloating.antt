-- Document 01, "Addresses", for document 02's item 7: every floating instruction leaves pc at a multiple of 4 and sp at a multiple of 8, a line for each; and so does
-- the whole instruction of a step, in either mode.
use Rattle.word.specs.Word.{difference, sum}
use Rattle.std.specs.Prelude.{ℕ, Option, None, Some}
use Rattle.double.specs.Arithmetic.{value_of}
use Rattle.double.specs.Whole.{cut_signed, cut_unsigned}
use Rattle.floating_decode.specs.Opcodes.{floating_decode_of}
use Rattle.floating_decode.specs.declared.FloatTest.TheVariants.{Eq, Ne}
use Rattle.floating_decode.specs.declared.FloatInstr.{FloatInstr}
use Rattle.floating_decode.specs.declared.FloatInstr.TheVariants.{Unlisted, Load, Store, LoadImm, Lbad, Arith, Compare, Bzf, Bnzf, Branch, Cid, Cud, Cdi, Cdu}
use Rattle.floating_decode.specs.declared.FloatInstr.TheVariants.{Push, Pop, Fabs, Flor, Ceil}
use Rattle.rules.specs.declared.Cpu.{Cpu}
use Rattle.rules.specs.declared.Floats.{Floats}
use Rattle.rules.specs.declared.Regs.{Regs}
use Rattle.rules.specs.Outcome.{Out, fine, unfetched, trap, refused, system, floated, undecoded}
use Rattle.rules.specs.Execute.{moved}
use Rattle.rules.specs.Floating.{float_holds, cut_tree, float_tree}
use Rattle.rules.specs.Step.{further_tree, executed_tree}
use Rattle.rules.proofs.Leaves.{Leaves, at_leaf, at_ask, leaves_then, leaves_if}
use Rattle.acceptable.proofs.AlignedInstruction.{RegsAligned, OutAligned, AllAligned, reply_aligned, sp_aligned_set, branch_aligned, moved_aligned, instruction_aligned}

-- CDI and CDU set a, or trap
cut_aligned : (x : Option ℕ) (r : Regs) (v : Floats) → RegsAligned r → AllAligned (cut_tree x r v)
unfolding cut_tree
cut_aligned None r v h = at_leaf tt
cut_aligned (Some x) r v h = at_leaf h

-- every floating instruction, with pc moved on
float_aligned : (i : FloatInstr) (r : Regs) (v : Floats) → RegsAligned r → AllAligned (float_tree i r v)
unfolding float_tree
float_aligned Unlisted r v h = at_leaf tt
float_aligned (Load d b p i) r v h = at_ask (reply_aligned (λ x. at_leaf h))
float_aligned (Store b p i) r v h = at_ask (reply_aligned (λ x. at_leaf h))
float_aligned (LoadImm d i) r v h = at_leaf h
float_aligned Lbad r v h = at_leaf h
float_aligned (Arith op) r v h = at_leaf h
float_aligned (Compare t) r v h = at_leaf h
float_aligned (Bzf i) r v h = at_leaf (branch_aligned (float_holds Eq v.f 0) i r h)
float_aligned (Bnzf i) r v h = at_leaf (branch_aligned (float_holds Ne v.f 0) i r h)
float_aligned (Branch t i) r v h = at_leaf (branch_aligned (float_holds t v.f v.g) i r h)
float_aligned Cid r v h = at_leaf h
float_aligned Cud r v h = at_leaf h
float_aligned Cdi r v h = cut_aligned (cut_signed (value_of v.f)) r v h
float_aligned Cdu r v h = cut_aligned (cut_unsigned (value_of v.f)) r v h
float_aligned (Push d) r v h = at_ask (reply_aligned (λ x. at_leaf (sp_aligned_set (difference r.sp 8) r h)))
float_aligned (Pop d) r v h = at_ask (reply_aligned (λ x. at_leaf (sp_aligned_set (sum r.sp 8) r h)))
float_aligned Fabs r v h = at_leaf h
float_aligned Flor r v h = at_leaf h
float_aligned Ceil r v h = at_leaf h

-- what a word without a row comes to, in the mode of the record
further_aligned : (c : Cpu) → RegsAligned c.regs → (o : Out) → OutAligned o → AllAligned (further_tree c o)
unfolding further_tree
further_aligned c h (fine r vs) o = at_leaf o
further_aligned c h (unfetched f) o = at_leaf o
further_aligned c h (trap code) o = at_leaf o
further_aligned c h (refused f) o = at_leaf o
further_aligned c h (system op) o = at_leaf o
further_aligned c h (floated r v vs) o = at_leaf o
further_aligned c h (undecoded w) o =
    leaves_if c.model.doubles (float_aligned (floating_decode_of w) (moved c.regs) c.floats (moved_aligned c.regs h)) (at_leaf o)

-- the whole instruction
pub executed_aligned : (c : Cpu) → RegsAligned c.regs → Leaves OutAligned (executed_tree c)
unfolding executed_tree
executed_aligned c h = leaves_then (further_tree c) (instruction_aligned c.regs h) (further_aligned c h)
