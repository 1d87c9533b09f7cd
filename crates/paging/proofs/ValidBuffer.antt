-- Document 01, "Addresses" and refusal 3: a request leaves a buffer that would not be refused with 3, whatever its entries say, and the size of memory.
use Prim.Native.Nat.{ℕ, ◌*◌, ◌/◌, ◌%◌, ◌<◌}
use mathlib.Core.Path.{◌≡◌, refl, ◌∙◌}
use mathlib.Core.Bool.{Bool, true, false}
use mathlib.Core.List.{List}
use mathlib.Core.Option.{Option, none, some}
use native.Mathlib.Omega.{arith}
use lib.ListN.{length}
use borrow.Author.Tests.{ltb-true, lt-ltb}
use Rattle.paging.specs.declared.Entry.{Entry}
use Rattle.paging.specs.declared.Space.{Space}
use Rattle.paging.specs.Event.{Words}
use Rattle.paging.specs.Walk.{Found, fault, found, Walked, walk}
use Rattle.paging.specs.Buffer.{hit, after_walk, entry_ok, buffer_ok}
use Rattle.paging.specs.Translate.{Request, page_of, refilled, paged_by, paged, translate_by, buffered}
use Rattle.paging.proofs.Coherent.{CoherentEntry}
use Rattle.paging.proofs.CoherentWalk.{FoundCoherent, WalkKeeps, walk_keeps}
use Rattle.paging.proofs.BufferLaws.{keep_ok}

-- what holds before each request: the directory is at a multiple of 4, memory is whole pages, and the buffer would not be refused with 3
pub record Valid (s : Space) (m : List ℕ) (es : List Entry) : Type 0 where
  pub aligned : s.pdir % 4 ≡ 0
  pub whole : length m % 4096 ≡ 0
  pub ok : buffer_ok (length m) es ≡ true

-- memory n and the entries es come of m: memory keeps its size, and this holds of them
pub record Keeps (s : Space) (m n : List ℕ) (es : List Entry) : Type 0 where
  pub size : length n ≡ length m
  pub valid : Valid s n es

pub keeps_all : {s : Space} {m : List ℕ} {es : List Entry} → Valid s m es → Keeps s m m es
keeps_all v = record { size = refl; valid = v }

pub keeps_both : {s : Space} {l m n : List ℕ} {es fs : List Entry} → Keeps s l m es → Keeps s m n fs → Keeps s l n fs
keeps_both g h = record { size = h.size ∙ g.size; valid = h.valid }

-- the frame that a walk finds is in memory
found_ok : {n : List ℕ} {pdir : ℕ} {h : Words} (e : Entry) → e.page < 1048576 → length n % 4096 ≡ 0 → CoherentEntry n pdir e h
    → entry_ok (length n) e ≡ true
unfolding entry_ok
found_ok {n} e p w c =
    let l : e.frame * 4096 < length n = rw (← c.maps.frame_is) (ltb-true _ _ c.maps.tab_inside) in
    rw (lt-ltb e.page 1048576 p, lt-ltb e.frame (length n / 4096) (omega arith))

-- refusal 3 does not come of a walk
after_ok : (n : List ℕ) (pdir : ℕ) (es : List Entry) (p : ℕ) (o : Found) → p < 1048576 → length n % 4096 ≡ 0 → FoundCoherent pdir p n o
    → buffer_ok (length n) es ≡ true → buffer_ok (length n) (after_walk p es o) ≡ true
unfolding after_walk
after_ok n pdir es p (fault code cause) pb wh ok b = b
after_ok n pdir es p (found f u w da ta) pb wh ok b = keep_ok (length n) _ es (found_ok _ pb wh ok) b

module _ (s : Space) (q : Request) (m : List ℕ) (es : List Entry) (v : Valid s m es) where
  walk_valid : (w : Walked) → WalkKeeps m s.pdir (page_of q) w → Keeps s m (refilled q es w).mem (refilled q es w).buffer
  unfolding refilled
  walk_valid w k =
      let p : page_of q < 1048576 = omega arith in
      let wh : length w.mem % 4096 ≡ 0 = rw k.marks.size v.whole in
      record {
        size = k.marks.size;
        valid = record {
          aligned = v.aligned;
          whole = wh;
          ok = after_ok w.mem s.pdir es (page_of q) w.found p wh k.coherent (rw k.marks.size v.ok);
        };
      }

  paged_valid : (f : Option ℕ) → Keeps s m (paged_by f s.pdir q m es).mem (paged_by f s.pdir q m es).buffer
  unfolding paged_by
  paged_valid none = walk_valid (walk m s.pdir (page_of q) q.kind q.user) (walk_keeps m s.pdir (page_of q) q.kind q.user v.aligned)
  paged_valid (some f) = keeps_all v

  by_valid : (on : Bool) → Keeps s m (translate_by on s.pdir q m es).mem (translate_by on s.pdir q m es).buffer
  unfolding translate_by paged
  by_valid true = paged_valid (hit (page_of q) q.kind q.user es)
  by_valid false = keeps_all v

  -- one request
  pub request_keeps : Keeps s m (buffered.translate s q m es).mem (buffered.translate s q m es).buffer
  request_keeps = by_valid s.paging
