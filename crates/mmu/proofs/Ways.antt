-- What each way through the code of translation gives: one law a return.
use Rattle.std.proofs.Common.{Ok, Err, Option, Some, None}
use Prim.Native.Nat.{ℕ, ◌+◌, ◌*◌, ◌/◌, ◌%◌, ◌^◌, ◌≤◌, ◌<◌}
use native.Mathlib.Omega.{arith}
use mathlib.Core.Bool.{Bool, true, false}
use mathlib.Core.Option.{none, some}
use mathlib.Core.Path.{◌≡◌, refl, sym, ap, ◌∙◌}
use mathlib.Core.List.{List, ◌++◌}
use lib.ListN.{length, set}
use borrow.Author.Tests.{lt-ltb, le-ltb}
use Rattle.word.specs.Word.{cut}
use Rattle.memory.specs.declared.Size.{Size}
use Rattle.memory.specs.Memory.{bytes}
use Rattle.paging.specs.declared.Access.{Access}
use Rattle.paging.specs.declared.Entry.{Entry}
use Rattle.paging.specs.Answer.{Answer}
use Rattle.paging.specs.declared.Cause.TheVariants.{AddressBeyondMemory}
use Rattle.paging.specs.declared.Space.{Space}
use Rattle.paging.specs.declared.TrapCode.TheVariants.{Fmem}
use Rattle.paging.specs.Walk.{Found, fault, found, walk}
use Rattle.paging.specs.Buffer.{hit, keep, after_walk, walk_events}
use Rattle.paging.specs.Translate.{Request, in_frame, denied, direct, answer_of, refilled, paged_by, paged, translate_by}
use Rattle.paging.specs.Counting.{counted, counted_from, raised}
use Rattle.paging.proofs.CountingLaws.{raised_one}
use Rattle.paging.proofs.CountedWalk.{refill_walks}
use Rattle.walk.specs.declared.Mapping.{Mapping}
use Rattle.walk.specs.declared.Denial.{Denial}
use Rattle.walk.specs.Found.{Finding, WalkResult, walk_result, found_by, walked_by}
use Rattle.walk.proofs.Bounds.{FrameIn, frame_in_lem}
use Rattle.buffer.specs.Held.{walks, page_in, frames, entry, unpack, entries_in, lent, index_of, slot_hit, Buffer}
use Rattle.buffer.proofs.Slots.{held_raised, buffer_raised, walks_raised}
use Rattle.buffer.proofs.Hits.{slot_frame, slot_miss}
use Rattle.mmu.specs.Good.{Good}
use Rattle.mmu.specs.Translates.{Kept, result, seen, Refills, Translates}
use Rattle.mmu.proofs.Laws.{translated}

-- the page of a 32-bit address
page_is : (a : ℕ) → a < 4294967296 → a / 4096 % 1048576 ≡ a / 4096
page_is a h = omega arith

-- ---- a walk's answer and entry, by what the code found

abbrev answer_for : Request → Finding → Answer
answer_for q (Ok x) = in_frame x.frame q
answer_for q (Err d) = denied d.code d.cause q

abbrev kept_for : ℕ → List Entry → Finding → List Entry
kept_for p es (Ok x) = keep (entry p x.frame x.user x.write) es
kept_for p es (Err d) = es

answer_found : (q : Request) (r : Found) → answer_for q (found_by r) ≡ answer_of q r
unfolding found_by answer_of
answer_found q (fault code cause) = refl
answer_found q (found f u w da ta) = refl

kept_found : (p : ℕ) (es : List Entry) (r : Found) → kept_for p es (found_by r) ≡ after_walk p es r
unfolding found_by after_walk
kept_found p es (fault code cause) = refl
kept_found p es (found f u w da ta) = refl

frame_found : (n : ℕ) (r : Found) {x : Mapping} → found_by r ≡ Ok x → FrameIn n r → x.frame < n / 4096
unfolding found_by FrameIn
frame_found n (fault code cause) e h = absurd (let z : ◌≡◌ {A = ℕ} 0 1 = cc in omega arith)
frame_found n (found f u w da ta) {x} e h = let q : f ≡ x.frame = cc in rw (← q) h

-- a frame that a walk found has a number of fifteen bits
pub frame_small : (m : List ℕ) (pdir page : ℕ) (k : Access) (user : Bool) {l m' : List ℕ} {r : Finding} {x : Mapping}
    → Good (length m) pdir l → walk_result r m' ≡ walked_by (walk m pdir page k user) → r ≡ Ok x → x.frame < frames
unfolding walked_by
frame_small m pdir page k user {l} {m'} {r} {x} g p e =
    let i = frame_in_lem m pdir page k user g.directory.whole in
    let h : x.frame < length m / 4096 = frame_found (length m) _ (ap (λ (o : WalkResult). o.answer) (sym p) ∙ e) i in
    omega (arith, g.directory.small)

-- one walk more, and the lent buffer with it
abbrev one_more : List ℕ → ℕ
one_more l = (walks l + 1) % 2 ^ 64

abbrev pub raised_in : List ℕ → List ℕ
raised_in l = set l 65 (one_more l)

module _ (l : List ℕ) {l₁ : List ℕ} (b : Buffer l) (c : l₁ ≡ raised_in l) where
  -- the walk is counted first: what is held stays
  counted_walk : lent l₁ ≡ counted (entries_in l) (one_more l)
  counted_walk = rw (c, held_raised l b (one_more l), walks_raised l b (one_more l))

  pub counted_buffer : Buffer l₁
  counted_buffer = rw c (buffer_raised l b (one_more l))

  held_still : entries_in l₁ ≡ entries_in l
  held_still = ap (λ (k : Kept). k.held) counted_walk

  -- an entry is kept where its page was looked up
  pub kept_at : (e : ℕ) {i p f : ℕ} {u w : Bool} → unpack e ≡ entry p f u w → i ≡ index_of p (entries_in l) → i ≡ index_of (page_in e) (entries_in l₁)
  kept_at e {i} {p} k h =
      let s : page_in e ≡ p = ap (λ (x : Entry). x.page) k in
      rw (s, held_still) h

module _ (pdir : ℕ) (q : Request) (m l : List ℕ) (g : Good (length m) pdir l) (small : q.addr < 4294967296)
    {r : Finding} {m' : List ℕ} (p : walk_result r m' ≡ walked_by (walk m pdir (q.addr / 4096) q.kind q.user)) where
  refill_by : result (answer_for q r) m' (counted (kept_for (q.addr / 4096) (entries_in l) r) (one_more l))
      ≡ seen (counted_from (walks l) (paged_by none pdir q m (entries_in l)))
  unfolding paged_by refilled walked_by
  refill_by =
      let w = walk m pdir (q.addr / 4096) q.kind q.user in
      let f : r ≡ found_by w.found = ap (λ (x : WalkResult). x.answer) p in
      let e : m' ≡ w.mem = ap (λ (x : WalkResult). x.mem) p in
      rw (
        page_is q.addr small,
        f,
        e,
        answer_found q w.found,
        kept_found (q.addr / 4096) (entries_in l) w.found,
        raised_one (walks l) (w.events ++ walk_events (q.addr / 4096) (entries_in l) w.found) (refill_walks m pdir (q.addr / 4096) q.kind q.user (entries_in l)),
      )

  module _ {l₁ : List ℕ} (c : l₁ ≡ raised_in l) where
    pub refill_mapped : (e : ℕ) {x : Mapping} {at : ℕ} {l' : List ℕ} → r ≡ Ok x → unpack e ≡ entry (q.addr / 4096) x.frame x.user x.write
        → (lent l' ≡ counted (keep (unpack e) (entries_in l₁)) (walks l₁)) × Buffer l' → at ≡ x.frame * 4096 + cut q.size q.addr % 4096
        → Refills pdir q m l (Ok at) m' l'
    refill_mapped e d k h a =
        let n : walks l₁ ≡ one_more l = ap (λ (x : Kept). x.walks) (counted_walk l g.buffer c) in
        record { same = rw (h.0, held_still l g.buffer c, n, k, a) (rw d at refill_by); buffer = h.1 }

    pub refill_faulted : {d : Denial} {a : Answer} → r ≡ Err d → a ≡ denied d.code d.cause q → Refills pdir q m l a m' l₁
    refill_faulted e d = record { same = rw (counted_walk l g.buffer c, d) (rw e at refill_by); buffer = counted_buffer l g.buffer c }

-- ---- a hit, and a miss

module _ (s : Space) (q : Request) (m l : List ℕ) (g : Good (length m) s.pdir l) where
  module _ (small : q.addr < 4294967296) (on : s.paging ≡ true) (i : ℕ) {h : Option ℕ} (p : h ≡ slot_hit l i (q.addr / 4096) q.kind q.user) where
    pub translate_hit : {f at : ℕ} → h ≡ Some f → at ≡ f * 4096 + cut q.size q.addr % 4096 → Translates s q m l (Ok at) m l
    unfolding translate_by paged paged_by raised
    translate_hit {f} e a =
        let z : hit (q.addr / 4096) q.kind q.user (entries_in l) ≡ some f =
        slot_frame l i (q.addr / 4096) q.kind q.user (length m) g.buffer g.entries (sym p ∙ e) in
        record { same = rw (on, page_is q.addr small, z, a); good = g }

    pub translate_miss : {a : Answer} {m' l' : List ℕ} → h ≡ None → i ≡ index_of (q.addr / 4096) (entries_in l) → Refills s.pdir q m l a m' l'
        → Translates s q m l a m' l'
    unfolding translate_by paged
    translate_miss e j t =
        let z : hit (q.addr / 4096) q.kind q.user (entries_in l) ≡ none =
        slot_miss l i (q.addr / 4096) q.kind q.user (length m) g.buffer g.entries j (sym p ∙ e) in
        translated g q (rw (on, page_is q.addr small, z) t.same) t.buffer

  -- ---- paging off

  pub translate_at : {at : ℕ} → s.paging ≡ false → q.addr < length m → at ≡ cut q.size q.addr → Translates s q m l (Ok at) m l
  unfolding translate_by direct raised
  translate_at off h e = record { same = rw (off, lt-ltb _ _ h, e); good = g }

  pub translate_beyond : {a : Answer} → s.paging ≡ false → length m ≤ q.addr → a ≡ denied Fmem AddressBeyondMemory q → Translates s q m l a m l
  unfolding translate_by direct raised
  translate_beyond off h d = record { same = rw (off, le-ltb _ _ h, d); good = g }

-- ---- an aligned address

pub aligned : (a : ℕ) {s s' : Size} (r : ℕ) → s ≡ s' → r ≡ cut (bytes s') a → r ≡ cut (bytes s) a
aligned a r e h = rw e h
