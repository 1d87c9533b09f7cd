-- A frame that a walk finds is in memory. A law of the rules alone.
use Prim.Native.Nat.{ℕ, ◌/◌, ◌%◌, ◌<◌}
use native.Mathlib.Omega.{arith}
use mathlib.Core.Bool.{Bool, true, false}
use mathlib.Core.Path.{◌≡◌, refl, sym, ap, ◌∙◌}
use mathlib.Core.List.{List, ◌++◌, ◌∷◌}
use lib.ListN.{length}
use lib.Dec.{ltb}
use borrow.Author.Tests.{ltb-true}
use Rattle.word.specs.Word.{cut}
use Rattle.memory.specs.Memory.{load_n}
use Rattle.paging.specs.declared.Access.{Access}
use Rattle.paging.specs.declared.Access.TheVariants.{Read}
use Rattle.paging.specs.Event.{Event, walked}
use Rattle.paging.specs.Walk.{mark, mark_for, mark_events, present, allows, dir_at, tab_at, Found, fault, found, walk_frame, walk_table, walk_below, walk_dir, walk}
use Rattle.walk.proofs.Marks.{length-mark}

-- a frame that is found is one of a memory of n bytes
unfoldable pub FrameIn : ℕ → Found → Type 0
FrameIn n (fault code cause) = Unit {0}
FrameIn n (found f u w da ta) = f < n / 4096

module _ (n : ℕ) (whole : n % 4096 ≡ 0) where
  in_frame : (b : Bool) (es : List Event) (m : List ℕ) (dw tw da ta : ℕ) → ltb (cut 4096 tw) n ≡ b → FrameIn n (walk_frame b es m dw tw da ta).found
  unfolding walk_frame FrameIn
  in_frame true es m dw tw da ta e = omega (arith, ltb-true (cut 4096 tw) n e)
  in_frame false es m dw tw da ta e = tt

  in_table : (b : Bool) (es : List Event) (m : List ℕ) (dw tw da ta : ℕ) (k : Access) (user : Bool) → length m ≡ n
      → FrameIn n (walk_table b es m dw tw da ta k user).found
  unfolding walk_table FrameIn
  in_table true es m dw tw da ta k user h =
      in_frame (ltb (cut 4096 tw) (length m)) (es ++ mark_events k tw ta) (mark_for k m ta) dw tw da ta (ap (λ (x : ℕ). ltb (cut 4096 tw) x) (sym h))
  in_table false es m dw tw da ta k user h = tt

  in_below : (b : Bool) (es : List Event) (m : List ℕ) (dw da page : ℕ) (k : Access) (user : Bool) → length m ≡ n
      → FrameIn n (walk_below b es m dw da page k user).found
  unfolding walk_below FrameIn
  in_below true es m dw da page k user h =
      in_table (allows dw (load_n 4 m (tab_at dw page)) k user) es m dw (load_n 4 m (tab_at dw page)) da (tab_at dw page) k user h
  in_below false es m dw da page k user h = tt

  in_dir : (b : Bool) (m : List ℕ) (dw da page : ℕ) (k : Access) (user : Bool) → length m ≡ n → FrameIn n (walk_dir b m dw da page k user).found
  unfolding walk_dir FrameIn
  in_dir true m dw da page k user h =
      in_below (ltb (cut 4096 dw) (length m)) (walked ∷ mark_events Read dw da) (mark 32 m da) dw da page k user (length-mark m da 32 ∙ h)
  in_dir false m dw da page k user h = tt

pub frame_in_lem : (m : List ℕ) (pdir page : ℕ) (k : Access) (user : Bool) → length m % 4096 ≡ 0 → FrameIn (length m) (walk m pdir page k user).found
unfolding walk
frame_in_lem m pdir page k user whole =
    in_dir (length m) whole (present (load_n 4 m (dir_at pdir page))) m (load_n 4 m (dir_at pdir page)) (dir_at pdir page) page k user refl
