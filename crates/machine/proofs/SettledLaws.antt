-- Document 01, "One step", rule 5: the state after the rest of a step, from how its instruction ended.
use Rattle.std.proofs.Common.{if◌then◌else◌}
use Prim.Native.Nat.{ℕ}
use mathlib.Core.Bool.{Bool, true, false}
use mathlib.Core.List.{List, []}
use mathlib.Core.Path.{◌≡◌, refl, ap, ◌∙◌}
use lib.ListN.{length}
use Rattle.floating_decode.specs.Opcodes.{floating_decode_of}
use Rattle.mmu.specs.Translates.{Kept, Result, result, translator}
use Rattle.rules.specs.declared.Regs.{Regs}
use Rattle.rules.specs.declared.Cpu.{Cpu}
use Rattle.rules.specs.Record.{with_count, with_regs}
use Rattle.rules.specs.Tree.{Tree, done, bind, Grant, interpret, store_all}
use Rattle.rules.specs.Outcome.{Out, fine, unfetched, trap, refused, system, floated, undecoded}
use Rattle.rules.specs.Execute.{moved}
use Rattle.rules.specs.Floating.{float_tree}
use Rattle.rules.specs.Step.{further_tree, settle_tree, finished}
use Rattle.contracts.specs.declared.End.{End}
use Rattle.contracts.specs.declared.End.TheVariants.{Ok, Unfetched, Trap, Refused, System, Undecoded}
use Rattle.contracts.specs.declared.Done.{Done}
use Rattle.contracts.specs.Contract.{out_by, out_of, made_by, made}
use Rattle.contracts.proofs.Trees.{bind_law}
use Rattle.machine.specs.Settled.{furthered, completed, settled}
use Rattle.machine.proofs.FreshFloating.{fresh_float}
use Rattle.machine.proofs.SettleLaw.{settle_law}

-- ---- an instruction's tree, and the rest of its step

module _ (x : Cpu) where
  abbrev ran : Tree Out → List ℕ → Kept → List Grant → Result Out
  ran t m es gs = made (interpret translator x.space x.system.user t m es gs)

  -- what was granted before does not count in the mode's table
  further_fresh : (doubles : Bool) (w : ℕ) (m : List ℕ) (es : Kept) (gs : List Grant)
      → ran (if doubles then float_tree (floating_decode_of w) (moved x.regs) x.floats else done (undecoded w)) m es gs
      ≡ ran (if doubles then float_tree (floating_decode_of w) (moved x.regs) x.floats else done (undecoded w)) m es []
  unfolding interpret made_by
  further_fresh true w m es gs = (fresh_float x.space x.system.user (floating_decode_of w) (moved x.regs) x.floats).fresh m es gs
  further_fresh false w m es gs = refl

  further_by : (o : Out) (gs : List Grant) (m : List ℕ) (es : Kept) → ran (further_tree x o) m es gs ≡ furthered x (made_by o gs m es)
  unfolding furthered further_tree made_by interpret store_all
  further_by (fine r vs) gs m es = refl
  further_by (unfetched f) gs m es = refl
  further_by (trap code) gs m es = refl
  further_by (refused f) gs m es = refl
  further_by (system op) gs m es = refl
  further_by (floated r v vs) gs m es = refl
  further_by (undecoded w) gs m es = further_fresh x.model.doubles w m es gs

  -- by document 01's table, then in the machine's mode
  further_law : (t : Tree Out) (m : List ℕ) (es : Kept) → ran (bind t (further_tree x)) m es [] ≡ furthered x (ran t m es [])
  further_law t m es =
      let e = interpret translator x.space x.system.user t m es [] in
      ap made (bind_law translator x.space x.system.user (further_tree x) t m es []) ∙ further_by e.leaf e.grants e.mem e.buffer

pub settled_law : (size : ℕ) (x : Cpu) (con : List ℕ) (t : Tree Out) (m : List ℕ) (es : Kept)
    → finished translator x.regs.count x.space x.written con
    (interpret translator x.space x.system.user (bind (bind t (further_tree x)) (settle_tree size (length con) x)) m es [])
    ≡ settled size x con (made (interpret translator x.space x.system.user t m es []))
unfolding settled completed
settled_law size x con t m es = settle_law size (length con) x con (bind t (further_tree x)) m es ∙ ap (completed size x con) (further_law x t m es)

-- ---- by how the instruction ended

-- the state after an instruction that ended well
pub settled_ok : (size : ℕ) (x : Cpu) (con : List ℕ) (d : Done) (m : List ℕ) (es : Kept) → d.end ≡ Ok
    → settled size x con (result (out_of d) m es) ≡ record { cpu = with_regs (with_count x.regs.count d.regs) x; mem = m; console = con; buffer = es }
unfolding settled furthered further_tree completed settle_tree interpret made_by finished store_all
settled_ok size x con d m es e = ap (λ (y : End). settled size x con (result (out_by d.regs y) m es)) e

-- the step count is the record's
pub settled_count : (size : ℕ) (x : Cpu) (con : List ℕ) (n : ℕ) (r : Regs) (m : List ℕ) (es : Kept)
    → settled size x con (result (fine (with_count n r) []) m es) ≡ settled size x con (result (fine r []) m es)
unfolding settled furthered further_tree completed settle_tree interpret made_by finished store_all
settled_count size x con n r m es = refl

-- the registers of an instruction that did not end well are not used
pub by_end : (r r' : Regs) (e : End) → (e ≡ Ok → ⊥) → out_by r e ≡ out_by r' e
by_end r r' Ok n = absurd (n refl)
by_end r r' (Unfetched f) n = refl
by_end r r' (Trap code) n = refl
by_end r r' (Refused f) n = refl
by_end r r' (System op) n = refl
by_end r r' (Undecoded pad w) n = refl
