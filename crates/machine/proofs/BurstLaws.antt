-- Document 02, item 7: instructions of the machine's mode one after another: by document 01's table, and from where that one has no row by the mode's.
use Rattle.std.proofs.Common.{if◌then◌else◌}
use Prim.Native.Nat.{ℕ}
use mathlib.Core.Bool.{Bool, true, false}
use mathlib.Core.List.{List, []}
use mathlib.Core.Path.{◌≡◌, refl, sym, ap, ◌∙◌}
use Rattle.floating_decode.specs.Opcodes.{floating_decode_of}
use Rattle.mmu.specs.Translates.{Kept, result, kept_in, translator}
use Rattle.rules.specs.declared.Cpu.{Cpu}
use Rattle.rules.specs.declared.Floats.{Floats}
use Rattle.rules.specs.declared.Regs.{Regs}
use Rattle.rules.specs.Record.{with_count, with_regs, with_floats}
use Rattle.rules.specs.Tree.{done, interpret, store_all}
use Rattle.rules.specs.Outcome.{fine, floated, undecoded}
use Rattle.rules.specs.Execute.{moved}
use Rattle.rules.specs.Floating.{float_tree}
use Rattle.rules.specs.Step.{further_tree, settle_tree, finished}
use Rattle.contracts.specs.declared.End.{End}
use Rattle.contracts.specs.declared.End.TheVariants.{Ok, Unfetched, Trap, Refused, System, Undecoded}
use Rattle.contracts.specs.declared.FloatDone.{FloatDone}
use Rattle.contracts.specs.Contract.{out_by, float_out_by, float_out_of, made_by, made, FloatExecutes}
use Rattle.machine.specs.Settled.{furthered, completed, settled}

-- ---- ends

-- an end in the machine's mode that is the one by document 01's table: it has a row, or the mode is the old one
abbrev pub Settles : Bool → End → Type 0
Settles doubles e = doubles ≡ true → (pad w : ℕ) → e ≡ Undecoded pad w → ⊥

module _ (x : Cpu) (m : List ℕ) (es : Kept) where
  further_undecoded : (w : ℕ) (doubles : Bool) → (doubles ≡ true → ⊥)
      → made (interpret translator x.space x.system.user (if doubles then float_tree (floating_decode_of w) (moved x.regs) x.floats else done (undecoded w)) m es [])
      ≡ result (undecoded w) m es
  unfolding interpret made_by
  further_undecoded w true n = absurd (n refl)
  further_undecoded w false n = refl

  further_same : (r : Regs) (e : End) → Settles x.model.doubles e → furthered x (result (out_by r e) m es) ≡ result (out_by r e) m es
  unfolding furthered further_tree interpret made_by store_all
  further_same r Ok n = refl
  further_same r (Unfetched f) n = refl
  further_same r (Trap code) n = refl
  further_same r (Refused f) n = refl
  further_same r (System op) n = refl
  further_same r (Undecoded pad w) n = further_undecoded w x.model.doubles (λ e. n e pad w refl)

-- registers, f and g of an instruction that did not end well are not used
pub by_float_end : (r r' : Regs) (v : Floats) (e : End) → (e ≡ Ok → ⊥) → out_by r e ≡ float_out_by r' v e
by_float_end r r' v Ok n = absurd (n refl)
by_float_end r r' v (Unfetched f) n = refl
by_float_end r r' v (Trap code) n = refl
by_float_end r r' v (Refused f) n = refl
by_float_end r r' v (System op) n = refl
by_float_end r r' v (Undecoded pad w) n = refl

-- ---- the rest of a step

module _ (size : ℕ) (x : Cpu) (con m : List ℕ) (es : Kept) where
  -- an instruction that ended well, and has no f and g of its own
  pub well : (r : Regs) → completed size x con (result (floated r x.floats []) m es) ≡ settled size x con (result (fine r []) m es)
  unfolding settled furthered further_tree completed settle_tree interpret made_by finished store_all
  well r = refl

  -- the state after a floating instruction that ended well; its step count is the record's
  pub floated_state : (r : Regs) (v : Floats)
      → completed size x con (result (floated r v []) m es) ≡ record { cpu = with_floats v (with_regs (with_count x.regs.count r) x); mem = m; console = con; buffer = es }
  unfolding completed settle_tree interpret finished store_all
  floated_state r v = refl

  -- the same of a record that has them
  pub carried : (r : Regs) (v : Floats) → completed size (with_floats v x) con (result (fine r []) m es) ≡ completed size x con (result (floated r v []) m es)
  unfolding completed settle_tree interpret finished store_all
  carried r v = refl

  -- an end in the machine's mode that is the one by document 01's table
  pub settles : (r : Regs) (e : End) → Settles x.model.doubles e → completed size x con (result (out_by r e) m es) ≡ settled size x con (result (out_by r e) m es)
  unfolding settled
  settles r e h = ap (completed size x con) (sym (further_same x m es r e h))

-- a floating instruction: d is the code's answer
module _ (size : ℕ) (x : Cpu) (con : List ℕ) (doubles : x.model.doubles ≡ true) (w : ℕ) {m l m' l' : List ℕ} {d : FloatDone}
    (h : FloatExecutes (float_tree (floating_decode_of w) (moved x.regs) x.floats) x.space x.system.user [] m l d m' l') where
  pub by_float : settled size x con (result (undecoded w) m (kept_in l)) ≡ completed size x con (result (float_out_of d) m' (kept_in l'))
  unfolding settled furthered further_tree
  by_float =
      ap (λ (b : Bool).
      completed size x con
      (made (interpret translator x.space x.system.user (if b then float_tree (floating_decode_of w) (moved x.regs) x.floats else done (undecoded w)) m (kept_in l) [])))
      doubles
      ∙ ap (completed size x con) (sym h.same)
