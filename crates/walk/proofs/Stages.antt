-- What each way through the walk gives, one law a return; and the frame that is found.
use Prim.Native.Nat.{ℕ, ◌+◌, ◌*◌, ◌/◌, ◌%◌, ◌≤◌, ◌<◌}
use mathlib.Core.Bool.{Bool, true, false, ◌&&◌}
use mathlib.Core.Path.{◌≡◌}
use mathlib.Core.List.{List}
use lib.ListN.{length}
use borrow.Author.Tests.{lt-ltb, le-ltb}
use Rattle.word.specs.Word.{cut}
use Rattle.memory.specs.Memory.{load_n}
use Rattle.paging.specs.declared.Access.{Access}
use Rattle.paging.specs.declared.Cause.{Cause}
use Rattle.paging.specs.declared.Cause.TheVariants.{DirectoryAbsent, DirectoryBeyondMemory, FrameBeyondMemory}
use Rattle.paging.specs.declared.TrapCode.{TrapCode}
use Rattle.paging.specs.declared.TrapCode.TheVariants.{Fmem}
use Rattle.paging.specs.TrapCode.{page_fault}
use Rattle.paging.specs.Walk.{bit, mark, mark_for, allows, refused_by, walk_frame, walk_table, walk_below, walk_dir, walk, dir_at, tab_at}
use Rattle.walk.specs.Found.{Finding, mapped, faulted, found_by, walk_result, walked_by, FrameWalk, TableWalk}
use Rattle.walk.proofs.Marks.{length-mark, length-mark_for}

-- ---- the frame, in a memory with the marks

module _ (m : List ℕ) (dir table at : ℕ) where
  pub frame_beyond : length m ≤ cut 4096 table → FrameWalk dir table at m (faulted Fmem FrameBeyondMemory)
  unfolding walked_by found_by walk_frame
  frame_beyond h es da = rw (le-ltb _ _ h)

  pub frame_mapped : {t : ℕ} {u w : Bool} → cut 4096 table < length m → t ≡ load_n 4 m at → u ≡ bit 4 dir && bit 4 table
      → w ≡ bit 2 dir && bit 2 table && bit 64 t → FrameWalk dir table at m (mapped (table / 4096) u w)
  unfolding walked_by found_by walk_frame
  frame_mapped h p q r es da = rw (lt-ltb _ _ h, q, r, p)

-- ---- the table word

module _ (m : List ℕ) (dir at : ℕ) (k : Access) (user : Bool) {t : ℕ} (p : t ≡ load_n 4 m at) where
  pub table_refused : {c : TrapCode} {x : Cause} → allows dir t k user ≡ false → c ≡ page_fault k → x ≡ refused_by dir t user → TableWalk dir at k user m (faulted c x) m
  unfolding walked_by found_by walk_table
  table_refused e c x es da = rw (← p, e, c, x)

  pub table_allowed : {r : Finding} {m' : List ℕ} → allows dir t k user ≡ true → m' ≡ mark_for k m at → FrameWalk dir t at m' r → TableWalk dir at k user m r m'
  unfolding walk_table
  table_allowed e f h es da = rw (← p, e, ← length-mark_for m at k, ← f) (h _ da)

-- ---- the directory word

module _ (m : List ℕ) (pdir page : ℕ) (k : Access) (user : Bool) {d : ℕ} {ok : Bool}
    (p : d ≡ load_n 4 m (pdir + 4 * (page / 1024))) (q : ok ≡ bit 1 d) where
  pub dir_absent : {c : TrapCode} → ok ≡ false → c ≡ page_fault k → walk_result (faulted c DirectoryAbsent) m ≡ walked_by (walk m pdir page k user)
  unfolding walked_by found_by walk walk_dir dir_at
  dir_absent e c = rw (← p, ← q, e, c)

  module _ {m' : List ℕ} (e : ok ≡ true) (g : m' ≡ mark 32 m (pdir + 4 * (page / 1024))) where
    pub dir_beyond : length m' ≤ cut 4096 d → walk_result (faulted Fmem DirectoryBeyondMemory) m' ≡ walked_by (walk m pdir page k user)
    unfolding walked_by found_by walk walk_dir walk_below dir_at
    dir_beyond l = rw (← p, ← q, e, ← length-mark m (pdir + 4 * (page / 1024)) 32, ← g, le-ltb _ _ l)

    pub dir_present : {r : Finding} {m'' : List ℕ} → cut 4096 d < length m'
        → TableWalk d (cut 4096 d + 4 * (page % 1024)) k user m' r m'' → walk_result r m'' ≡ walked_by (walk m pdir page k user)
    unfolding walk walk_dir walk_below dir_at tab_at
    dir_present l h = rw (← p, ← q, e, ← length-mark m (pdir + 4 * (page / 1024)) 32, ← g, lt-ltb _ _ l) (h _ _)
