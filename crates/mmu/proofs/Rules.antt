-- An answered address lies in memory with all its bytes. A law of the rules alone.
use Rattle.std.proofs.Common.{if◌then◌else◌, Ok, Err}
use Prim.Native.Nat.{ℕ, ◌+◌, ◌/◌, ◌%◌, ◌≤◌, ◌<◌}
use native.Mathlib.Omega.{arith}
use mathlib.Core.Bool.{Bool, true, false}
use mathlib.Core.Option.{Option, none, some}
use mathlib.Core.Path.{◌≡◌, refl}
use mathlib.Core.List.{List}
use lib.ListN.{length}
use lib.Dec.{ltb}
use borrow.Author.Tests.{ltb-true}
use Rattle.word.specs.Word.{cut}
use Rattle.memory.specs.declared.Size.{Size}
use Rattle.memory.specs.declared.Size.TheVariants.{Word, Half, Byte}
use Rattle.memory.specs.Memory.{bytes}
use Rattle.paging.specs.declared.Access.{Access}
use Rattle.paging.specs.declared.Entry.{Entry}
use Rattle.paging.specs.Answer.{Answer}
use Rattle.paging.specs.declared.Cause.TheVariants.{AddressBeyondMemory}
use Rattle.paging.specs.declared.TrapCode.TheVariants.{Fmem}
use Rattle.paging.specs.Walk.{Found, fault, found}
use Rattle.paging.specs.Buffer.{hit, buffer_ok}
use Rattle.paging.specs.Translate.{page_of, in_frame, denied, direct, answer_of, refilled, paged_by, paged, translate_by}
use Rattle.walk.proofs.Bounds.{FrameIn, frame_in_lem}
use Rattle.buffer.proofs.Entries.{buffer_entries, hit_below}
use Rattle.mmu.specs.Translates.{request}

-- an answer of s bytes lies in n bytes
unfoldable pub Within : ℕ → ℕ → Answer → Type 0
Within n s (Ok p) = p + s ≤ n
Within n s (Err f) = Unit {0}

-- an aligned access of a size lies in its page, and below every end of a page that its address is below
cut_within : (s : Size) (a : ℕ) → cut (bytes s) a % 4096 + bytes s ≤ 4096
cut_within Word a = omega arith
cut_within Half a = omega arith
cut_within Byte a = omega arith

cut_below : (s : Size) (a n : ℕ) → n % 4096 ≡ 0 → a < n → cut (bytes s) a + bytes s ≤ n
cut_below Word a n z h = omega arith
cut_below Half a n z h = omega arith
cut_below Byte a n z h = omega arith

module _ (k : Access) (s : Size) (a : ℕ) (u : Bool) (m : List ℕ) (whole : length m % 4096 ≡ 0) where
  frame_within : (f : ℕ) → f < length m / 4096 → Within (length m) (bytes s) (in_frame f (request k s a u))
  unfolding Within
  frame_within f h = let c = cut_within s a in omega arith

  found_within : (r : Found) → FrameIn (length m) r → Within (length m) (bytes s) (answer_of (request k s a u) r)
  unfolding answer_of FrameIn Within
  found_within (fault code cause) h = tt
  found_within (found f us w da ta) h = frame_within f h

  paged_within : (pdir : ℕ) (es : List Entry) (o : Option ℕ) → ((f : ℕ) → o ≡ some f → f < length m / 4096)
      → Within (length m) (bytes s) (paged_by o pdir (request k s a u) m es).answer
  unfolding paged_by refilled
  paged_within pdir es (some f) h = frame_within f (h f refl)
  paged_within pdir es none h = found_within _ (frame_in_lem m pdir (page_of (request k s a u)) k u whole)

  direct_within : Within (length m) (bytes s) (direct (request k s a u) m)
  unfolding direct Within
  direct_within = go (ltb a (length m)) refl
    where
      go : (b : Bool) → ltb a (length m) ≡ b → Within (length m) (bytes s) (if b then Ok (cut (bytes s) a) else denied Fmem AddressBeyondMemory (request k s a u))
      go true e = cut_below s a (length m) whole (ltb-true _ _ e)
      go false e = tt

  pub translate_within : (paging : Bool) (pdir : ℕ) (es : List Entry) → buffer_ok (length m) es ≡ true
      → Within (length m) (bytes s) (translate_by paging pdir (request k s a u) m es).answer
  unfolding translate_by paged
  translate_within true pdir es h =
      paged_within pdir es (hit (page_of (request k s a u)) k u es) (λ f e. hit_below (length m) (page_of (request k s a u)) k u es (buffer_entries (length m) es h) e)
  translate_within false pdir es h = direct_within
