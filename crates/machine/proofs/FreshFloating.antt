-- Document 02, item 7: a floating instruction stores only through the write that it was granted itself: what was granted before does not count.
use Rattle.std.proofs.Common.{Ok, Err}
use Prim.Native.Nat.{ℕ}
use mathlib.Core.Bool.{Bool}
use mathlib.Core.List.{List, [], ◌∷◌, ◌++◌}
use mathlib.Core.Path.{◌≡◌, refl}
use Rattle.memory.specs.Memory.{load_n}
use Rattle.std.specs.Prelude.{Option, None, Some}
use Rattle.double.specs.Arithmetic.{value_of}
use Rattle.double.specs.Whole.{cut_signed, cut_unsigned}
use Rattle.floating_decode.specs.declared.FloatInstr.{FloatInstr}
use Rattle.floating_decode.specs.declared.FloatInstr.TheVariants.{Unlisted, Load, Store, LoadImm, Lbad, Arith, Compare, Bzf, Bnzf, Branch, Cid, Cud, Cdi, Cdu}
use Rattle.floating_decode.specs.declared.FloatInstr.TheVariants.{Push, Pop, Fabs, Flor, Ceil}
use Rattle.paging.specs.declared.Access.TheVariants.{Read, Write}
use Rattle.paging.specs.Answer.{Answer}
use Rattle.paging.specs.declared.Space.{Space}
use Rattle.paging.specs.declared.TrapCode.{TrapCode}
use Rattle.paging.specs.Walk.{is_write}
use Rattle.mmu.specs.Translates.{Kept, translator}
use Rattle.rules.specs.declared.Regs.{Regs}
use Rattle.rules.specs.declared.Floats.{Floats}
use Rattle.rules.specs.Tree.{Tree, done, Grant, reply_to, requested, answered, store_all, interpret}
use Rattle.rules.specs.Outcome.{Out, trap, floated, or_refused, reading}
use Rattle.rules.specs.Floating.{storing, cut_tree, float_tree}
use Rattle.contracts.specs.Contract.{made_by, made}
use Rattle.contracts.proofs.Laws.{store_none}

module _ (s : Space) (user : Bool) where
  pub record FreshOut (t : Tree Out) : Type 0 where
    pub fresh : (m : List ℕ) (es : Kept) (gs : List Grant) → made (interpret translator s user t m es gs) ≡ made (interpret translator s user t m es [])

  -- new registers, f and g, and no store
  fresh_fine : (r : Regs) (v : Floats) → FreshOut (done (floated r v []))
  unfolding interpret made_by store_all
  fresh_fine r v = record { fresh = λ m es gs. rw (store_none gs m) }

  fresh_trap : (code : TrapCode) → FreshOut (done (trap code))
  unfolding interpret made_by
  fresh_trap code = record { fresh = λ m es gs. refl }

  -- a read grants no write
  module _ (n va : ℕ) (k : ℕ → Tree Out) (h : (x : ℕ) → FreshOut (k x)) where
    read_reply : (a : Answer) (m : List ℕ) (es : Kept) (gs : List Grant)
        → made (interpret translator s user (or_refused k (reply_to Read n m a).reply) m es ((reply_to Read n m a).grants ++ gs))
        ≡ made (interpret translator s user (or_refused k (reply_to Read n m a).reply) m es ((reply_to Read n m a).grants ++ []))
    unfolding reply_to is_write interpret made_by
    read_reply (Ok p) m es gs = (h (load_n n m p)).fresh m es gs
    read_reply (Err f) m es gs = refl

    fresh_reading : FreshOut (reading n va k)
    unfolding interpret answered
    fresh_reading = record {
      fresh = λ m es gs.
          let o = translator.translate s (requested Read n va user) m es in
          read_reply o.answer o.mem o.buffer gs;
    }

  -- a store goes through its own
  module _ (n va x : ℕ) (r : Regs) (v : Floats) where
    store_reply : (a : Answer) (m : List ℕ) (es : Kept) (gs : List Grant)
        → made (interpret translator s user (or_refused (λ old. done (floated r v (x ∷ []))) (reply_to Write n m a).reply) m es ((reply_to Write n m a).grants ++ gs))
        ≡ made (interpret translator s user (or_refused (λ old. done (floated r v (x ∷ []))) (reply_to Write n m a).reply) m es ((reply_to Write n m a).grants ++ []))
    unfolding reply_to is_write interpret made_by store_all
    store_reply (Ok p) m es gs = rw (store_none gs)
    store_reply (Err f) m es gs = refl

    fresh_storing : FreshOut (storing n va x r v)
    unfolding interpret answered
    fresh_storing = record {
      fresh = λ m es gs.
          let o = translator.translate s (requested Write n va user) m es in
          store_reply o.answer o.mem o.buffer gs;
    }

  fresh_cut : (x : Option ℕ) (r : Regs) (v : Floats) → FreshOut (cut_tree x r v)
  unfolding cut_tree
  fresh_cut None r v = fresh_trap _
  fresh_cut (Some x) r v = fresh_fine _ v

  -- every floating instruction
  pub fresh_float : (i : FloatInstr) (r : Regs) (v : Floats) → FreshOut (float_tree i r v)
  unfolding float_tree
  fresh_float Unlisted r v = fresh_trap _
  fresh_float (Load d b p i) r v = fresh_reading _ _ _ (λ x. fresh_fine _ _)
  fresh_float (Store b p i) r v = fresh_storing _ _ _ _ _
  fresh_float (LoadImm d i) r v = fresh_fine _ _
  fresh_float Lbad r v = fresh_fine _ _
  fresh_float (Arith op) r v = fresh_fine _ _
  fresh_float (Compare t) r v = fresh_fine _ _
  fresh_float (Bzf i) r v = fresh_fine _ _
  fresh_float (Bnzf i) r v = fresh_fine _ _
  fresh_float (Branch t i) r v = fresh_fine _ _
  fresh_float Cid r v = fresh_fine _ _
  fresh_float Cud r v = fresh_fine _ _
  fresh_float Cdi r v = fresh_cut (cut_signed (value_of v.f)) r v
  fresh_float Cdu r v = fresh_cut (cut_unsigned (value_of v.f)) r v
  fresh_float (Push d) r v = fresh_storing _ _ _ _ _
  fresh_float (Pop d) r v = fresh_reading _ _ _ (λ x. fresh_fine _ _)
  fresh_float Fabs r v = fresh_fine _ _
  fresh_float Flor r v = fresh_fine _ _
  fresh_float Ceil r v = fresh_fine _ _
