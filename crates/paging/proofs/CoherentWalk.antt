-- Document 01, "Addresses": what a walk does, whether it faults or not. It only sets marks, and what it finds is coherent.
use Prim.Native.Nat.{ℕ, ◌%◌}
use mathlib.Core.Path.{◌≡◌, refl, sym}
use mathlib.Core.Bool.{Bool, true, false, ◌&&◌}
use mathlib.Core.List.{List, ◌∷◌, ◌++◌}
use lib.ListN.{length}
use lib.Dec.{ltb}
use Rattle.word.specs.Word.{cut}
use Rattle.memory.specs.Memory.{load_n}
use Rattle.paging.specs.declared.Access.{Access}
use Rattle.paging.specs.declared.Access.TheVariants.{Fetch, Read, Write}
use Rattle.paging.specs.Event.{Event, walked}
use Rattle.paging.specs.Walk.{present, writable, for_user, accessed, dirty, mark, mark_for, mark_events, dir_at, tab_at, user_ok, write_ok, allows}
use Rattle.paging.specs.Walk.{Found, fault, found, Walked, walk_frame, walk_table, walk_below, walk_dir, walk}
use Rattle.word.proofs.BoolLaws.{both}
use Rattle.paging.proofs.TableWord.{is_P, is_W, is_U, is_A, mark_A, mark_D, flag_kept, user_was, MarkedMemory, unmarked, marked_twice, mark_marks, mark_sets}
use Rattle.paging.proofs.Coherent.{CoherentEntry, dir_aligned, tab_aligned, tab_kept}
use Rattle.paging.proofs.EventLaws.{WalkOnly, no_events, walk_began, walk_both, marks_only}

-- the entry that a finding gives, and its words
abbrev pub FoundCoherent : ℕ → ℕ → List ℕ → Found → Type 0
FoundCoherent pdir page m (fault code cause) = Unit
FoundCoherent pdir page m (found f u w da ta) =
    CoherentEntry m pdir (record { page = page; frame = f; user = u; write = w }) (record { page = page; dir = da; tab = ta })

-- what a walk from m does
pub record WalkKeeps (m : List ℕ) (pdir page : ℕ) (w : Walked) : Type 0 where
  pub marks : MarkedMemory m w.mem
  pub coherent : FoundCoherent pdir page w.mem w.found
  pub only : WalkOnly w.events

-- ---- the marks of the table word

-- A, for a write A and D, are marks
mark_for_marks : (k : Access) (m : List ℕ) (a : ℕ) → a % 4 ≡ 0 → MarkedMemory m (mark_for k m a)
unfolding mark_for
mark_for_marks Fetch m a h = mark_marks mark_A m a h
mark_for_marks Read m a h = mark_marks mark_A m a h
mark_for_marks Write m a h = marked_twice (mark_marks mark_A m a h) (mark_marks mark_D (mark 32 m a) a h)

-- A is set then
mark_for_sets : (k : Access) (m : List ℕ) (a : ℕ) → a % 4 ≡ 0 → present (load_n 4 m a) ≡ true → accessed (load_n 4 (mark_for k m a) a) ≡ true
unfolding mark_for
mark_for_sets Fetch m a h p = mark_sets mark_A m a p
mark_for_sets Read m a h p = mark_sets mark_A m a p
mark_for_sets Write m a h p = flag_kept is_A ((mark_marks mark_D (mark 32 m a) a h).words a h) (mark_sets mark_A m a p)

-- "It must have P"
allowed_present : (dw tw : ℕ) (k : Access) (user : Bool) → allows dw tw k user ≡ true → present tw ≡ true
unfolding allows
allowed_present dw tw k user s = (both (present tw) (user_ok dw tw user) (both (present tw && user_ok dw tw user) (write_ok dw tw k) s).0).0

-- ---- the stages, from the last to the first

module _ (m : List ℕ) (pdir page : ℕ) (k : Access) (user : Bool) (al : pdir % 4 ≡ 0) where
  abbrev da : ℕ
  da = dir_at pdir page

  abbrev dw : ℕ
  dw = load_n 4 m da

  abbrev ta : ℕ
  ta = tab_at dw page

  abbrev m1 : List ℕ
  m1 = mark 32 m da

  abbrev tw : ℕ
  tw = load_n 4 m1 ta

  abbrev m2 : List ℕ
  m2 = mark_for k m1 ta

  -- the events of the directory word
  abbrev es1 : List Event
  es1 = walked ∷ mark_events Read dw da

  dir_marks : MarkedMemory m m1
  dir_marks = mark_marks mark_A m da (dir_aligned pdir page al)

  tab_marks : MarkedMemory m1 m2
  tab_marks = mark_for_marks k m1 ta (tab_aligned dw page)

  all_marks : MarkedMemory m m2
  all_marks = marked_twice dir_marks tab_marks

  dir_only : WalkOnly es1
  dir_only = walk_began (marks_only Read dw da)

  all_only : WalkOnly (es1 ++ mark_events k tw ta)
  all_only = walk_both dir_only (marks_only k tw ta)

  -- "If its frame is not below M, FMEM. Then an entry is kept"
  frame_keeps : (b : Bool) → present dw ≡ true → ltb (cut 4096 dw) (length m) ≡ true → allows dw tw k user ≡ true → ltb (cut 4096 tw) (length m1) ≡ b
      → WalkKeeps m pdir page (walk_frame b (es1 ++ mark_events k tw ta) m2 dw tw da ta)
  unfolding walk_frame
  frame_keeps false hp hi ha hf = record { marks = all_marks; coherent = tt; only = all_only }
  frame_keeps true hp hi ha hf =
      let d_a = dir_aligned pdir page al in
      let t_a = tab_aligned dw page in
      let gd = all_marks.words da d_a in
      let gt = tab_marks.words ta t_a in
      let tp = allowed_present dw tw k user ha in
      record {
        marks = all_marks;
        coherent = record {
          aligned = al;
          page_is = refl;
          dir_is = refl;
          tab_is = sym (tab_kept page gd);
          maps = record {
            dir_present = flag_kept is_P gd hp;
            dir_accessed = flag_kept is_A (tab_marks.words da d_a) (mark_sets mark_A m da hp);
            dir_inside = rw (gd.frame, all_marks.size) hi;
            tab_present = flag_kept is_P gt tp;
            tab_accessed = mark_for_sets k m1 ta t_a tp;
            tab_inside = rw (gt.frame, tab_marks.size) hf;
            frame_is = gt.frame;
            user_right = λ u.
                let r = both (for_user dw) (for_user tw) u in
                (flag_kept is_U gd r.0, flag_kept is_U gt r.1);
            user_exact = λ d t. rw (user_was gd d, user_was gt t);
            write_right = λ u.
                let r = both (writable dw && writable tw) (dirty (load_n 4 m2 ta)) u in
                let s = both (writable dw) (writable tw) r.0 in
                (flag_kept is_W gd s.0, flag_kept is_W gt s.1, r.1);
          };
        };
        only = all_only;
      }

  -- "else page fault"
  table_keeps : (b : Bool) → present dw ≡ true → ltb (cut 4096 dw) (length m) ≡ true → allows dw tw k user ≡ b
      → WalkKeeps m pdir page (walk_table b es1 m1 dw tw da ta k user)
  unfolding walk_table
  table_keeps false hp hi ha = record { marks = dir_marks; coherent = tt; only = dir_only }
  table_keeps true hp hi ha = frame_keeps (ltb (cut 4096 tw) (length m1)) hp hi ha refl

  -- "if its frame address is not below M, FMEM"
  below_keeps : (b : Bool) → present dw ≡ true → ltb (cut 4096 dw) (length m) ≡ b → WalkKeeps m pdir page (walk_below b es1 m1 dw da page k user)
  unfolding walk_below
  below_keeps false hp hi = record { marks = dir_marks; coherent = tt; only = dir_only }
  below_keeps true hp hi = table_keeps (allows dw tw k user) hp hi refl

  -- "Without P: page fault"
  dir_keeps : (b : Bool) → present dw ≡ b → WalkKeeps m pdir page (walk_dir b m dw da page k user)
  unfolding walk_dir
  dir_keeps false hp = record { marks = unmarked m; coherent = tt; only = walk_began no_events }
  dir_keeps true hp = below_keeps (ltb (cut 4096 dw) (length m)) hp refl

  -- the whole walk
  pub walk_keeps : WalkKeeps m pdir page (walk m pdir page k user)
  unfolding walk
  walk_keeps = dir_keeps (present dw) refl
