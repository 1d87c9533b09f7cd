-- Document 02, item 6: a walk for a page whose entry does not serve. Either it faults, or the access is a write, the entry has no write right, and what is found
-- has it.
use Prim.Native.Nat.{ℕ}
use mathlib.Core.Path.{◌≡◌, refl}
use mathlib.Core.Bool.{Bool, true, false, not, ◌&&◌, ◌||◌, true≢false}
use mathlib.Core.List.{List}
use lib.ListN.{length}
use lib.Dec.{ltb}
use Rattle.word.specs.Word.{cut}
use Rattle.memory.specs.Memory.{load_n}
use Rattle.paging.specs.declared.Access.{Access}
use Rattle.paging.specs.declared.Access.TheVariants.{Fetch, Read, Write}
use Rattle.paging.specs.declared.Entry.{Entry}
use Rattle.paging.specs.Event.{Event, Words}
use Rattle.paging.specs.Walk.{present, writable, for_user, dirty, is_write, user_ok, write_ok, allows, mark_for}
use Rattle.paging.specs.Walk.{Found, fault, found, walk_frame, walk_table, walk_below, walk_dir, walk}
use Rattle.paging.specs.Buffer.{serves}
use Rattle.word.proofs.BoolLaws.{both}
use Rattle.paging.proofs.TableWord.{mark_A, mark_D, mark_again, mark_sets}
use Rattle.paging.proofs.Coherent.{Maps, CoherentEntry}

-- what a walk finds that is made because the entry e does not serve
abbrev pub SecondFound : Entry → Found → Type 0
SecondFound e (fault code cause) = Unit
SecondFound e (found f u w da ta) = (e.write ≡ false) × (w ≡ true)

module _ {dw size : ℕ} (m : List ℕ) (a : ℕ) (e : Entry) (c : Maps dw (load_n 4 m a) size e) where
  abbrev tw : ℕ
  tw = load_n 4 m a

  -- user right is not what the entry lacks: where both words have U, it has it
  lacks_write : (k : Access) (user : Bool) → user_ok dw tw user ≡ true → serves e k user ≡ false → not (is_write k) || e.write ≡ false
  unfolding user_ok serves
  lacks_write k true u s =
      let r = both (for_user dw) (for_user tw) u in
      rw (c.user_exact r.0 r.1) at s
  lacks_write k false u s = s

  -- the entry has no write right, and the walk finds it
  abbrev Gains : Access → Type 0
  Gains k = (e.write ≡ false) × (writable dw && writable tw && dirty (load_n 4 (mark_for k m a) a) ≡ true)

  -- so the access is a write, and its own mark sets D
  gains_write : (k : Access) → not (is_write k) || e.write ≡ false → write_ok dw tw k ≡ true → Gains k
  unfolding is_write write_ok mark_for
  gains_write Fetch n w = absurd (true≢false n)
  gains_write Read n w = absurd (true≢false n)
  gains_write Write n w =
      let r = both (writable dw) (writable tw) w in
      (n, rw (r.0, r.1, mark_again mark_A m a c.tab_accessed, mark_sets mark_D m a c.tab_present))

  -- the last two stages of the walk
  second_frame : (b : Bool) (es : List Event) (da : ℕ) (k : Access) → Gains k → SecondFound e (walk_frame b es (mark_for k m a) dw tw da a).found
  unfolding walk_frame
  second_frame false es da k g = tt
  second_frame true es da k g = g

  second_table : (b : Bool) (es : List Event) (da : ℕ) (k : Access) (user : Bool) → allows dw tw k user ≡ b → serves e k user ≡ false
      → SecondFound e (walk_table b es m dw tw da a k user).found
  unfolding walk_table allows
  second_table false es da k user al s = tt
  second_table true es da k user al s =
      let r = both (present tw && user_ok dw tw user) (write_ok dw tw k) al in
      let u = (both (present tw) (user_ok dw tw user) r.0).1 in
      second_frame (ltb (cut 4096 tw) (length m)) _ da k (gains_write k (lacks_write k user u s) r.1)

-- the walk for the entry's page
pub second_walk : {m : List ℕ} {pdir : ℕ} (e : Entry) (h : Words) (k : Access) (user : Bool) → CoherentEntry m pdir e h → serves e k user ≡ false
    → SecondFound e (walk m pdir e.page k user).found
unfolding walk walk_dir walk_below
second_walk {m} {pdir} e h k user c s =
    let M = c.maps in
    rw (← c.dir_is, M.dir_present, mark_again mark_A m h.dir M.dir_accessed, M.dir_inside, ← c.tab_is)
    (second_table m h.tab e M (allows (load_n 4 m h.dir) (load_n 4 m h.tab) k user) _ _ k user refl s)
