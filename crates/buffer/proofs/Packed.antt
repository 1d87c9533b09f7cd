-- A record's slots go into the lent array and back: one law a turn, and what fits its place.
use Rattle.std.proofs.Common.{◌≡◌, ℕ, zero, suc, ◌+◌, ◌/◌, ◌<◌, ◌≤◌, true, false, not, ltb, List, [], ◌∷◌, map, length, get_or, take, set, sym, ap}
use Rattle.std.proofs.Common.{◌∙◌, add-one, arith, length-set, get_or-take, take-suc, get_or-set_same, take-suc-set, ltb-true}
use lib.Seq.{take-set-le}
use Rattle.paging.specs.declared.Entry.{Entry}
use Rattle.paging.specs.Buffer.{has, entry_page, entry_ok, entries_ok, buffer_ok}
use Rattle.word.proofs.BoolLaws.{both}
use Rattle.paging.specs.Counting.{counted}
use Rattle.buffer.specs.Held.{frames, page_in, count, entry, unpack, entries_in, lent, Buffer}
use Rattle.buffer.proofs.Slots.{length-held, held_at, map_snoc, held_raised, buffer_raised, walks_raised}
use Rattle.buffer.proofs.Entries.{buffer_entries}

abbrev zeros : Entry
zeros = entry 0 0 false false

-- ---- entries that refusal 3 lets pass fit their place

pages_small : (n : ℕ) (d : Entry) (es : List Entry) (i : ℕ) → entries_ok n es ≡ true → i < length es → (get_or es i d).page < 1048576
unfolding entries_ok entry_ok
pages_small n d [] i h l = absurd (omega arith)
pages_small n d (e ∷ es) zero h l = ltb-true _ _ (both (ltb e.page 1048576) _ (both (entry_ok n e) _ h).0).0
pages_small n d (e ∷ es) (suc i) h l = pages_small n d es i (both (not (has entry_page e.page es)) _ (both (entry_ok n e) _ h).1).1 (omega arith)

-- the page of a counted number
pub page_fits : (n : ℕ) (l : List ℕ) (i : ℕ) → Buffer l → buffer_ok n (entries_in l) ≡ true → i < count l → page_in (get_or l i 0) < 1048576
page_fits n l i b h k =
    let r = pages_small n (unpack 0) (entries_in l) i (buffer_entries n (entries_in l) h) (rw (length-held l b) k) in
    rw (← ap (λ (e : Entry). e.page) (held_at l i k)) r

frames_small : (n : ℕ) (es : List Entry) (i : ℕ) → n ≤ 134217728 → entries_ok n es ≡ true → (get_or es i zeros).frame < frames
unfolding entries_ok entry_ok
frames_small n [] i m h = omega arith
frames_small n (e ∷ es) zero m h =
    let f : e.frame < n / 4096 = ltb-true _ _ (both (ltb e.page 1048576) _ (both (entry_ok n e) _ h).0).1 in
    omega arith
frames_small n (e ∷ es) (suc i) m h = frames_small n es i m (both (not (has entry_page e.page es)) _ (both (entry_ok n e) _ h).1).1

-- the frame of one of the first n slots
pub frame_fits : (size n : ℕ) (es : List Entry) (i : ℕ) → size ≤ 134217728 → buffer_ok size (take n es) ≡ true → i < n → (get_or es i zeros).frame < frames
frame_fits size n es i m h k =
    let f = frames_small size (take n es) i m (buffer_entries size (take n es) h) in
    rw (get_or-take n es i zeros k) at f

-- ---- into the lent array

module _ (n : ℕ) (es : List Entry) (z : length es ≡ 64) (few : n ≤ 64) where
  pub packed_next : (l : List ℕ) (i e : ℕ) → length l ≡ 66 → i < n → map unpack (take i l) ≡ take i es → unpack e ≡ get_or es i zeros
      → map unpack (take (i + 1) (set l i e)) ≡ take (i + 1) es
  packed_next l i e y h inv q =
      let a : i < length l = omega arith in
      let b : i < length es = omega arith in
      rw (add-one i, take-suc-set l i e a, map_snoc unpack (take i l) e, inv, q, take-suc es i zeros b)

  pub packed_all : (l : List ℕ) (i w : ℕ) → length l ≡ 66 → i ≤ n → n ≤ i → map unpack (take i l) ≡ take i es
      → (lent (set (set l 64 n) 65 w) ≡ counted (take n es) w) × Buffer (set (set l 64 n) 65 w)
  unfolding entries_in
  packed_all l i w y h k inv' =
      let q : i ≡ n = omega arith in
      let inv : map unpack (take n l) ≡ take n es = rw q at inv' in
      let a : 64 < length l = omega arith in
      let c = get_or-set_same l 64 n 0 a in
      let b : Buffer (set l 64 n) = record { size = length-set l 64 n ∙ y; few = rw c few } in
      let e : entries_in (set l 64 n) ≡ take n es = rw (c, take-set-le n l 64 n few) inv in
      (rw (held_raised (set l 64 n) b w, walks_raised (set l 64 n) b w, e), buffer_raised (set l 64 n) b w)

-- ---- out of the lent array

pub unpacked_next : (l : List ℕ) (es : List Entry) (i : ℕ) {e : Entry} → length es ≡ 64 → i < 64 → i < length l
    → take i es ≡ map unpack (take i l) → e ≡ unpack (get_or l i 0)
    → take (i + 1) (set es i e) ≡ map unpack (take (i + 1) l)
unpacked_next l es i {e} z h k inv q =
    let a : i < length es = omega arith in
    rw (add-one i, take-suc-set es i e a, inv, q, take-suc l i 0 k) (sym (map_snoc unpack (take i l) (get_or l i 0)))

pub unpacked_all : (l : List ℕ) (es : List Entry) (i : ℕ) → i ≤ count l → count l ≤ i → take i es ≡ map unpack (take i l)
    → take (count l) es ≡ entries_in l
unfolding entries_in
unpacked_all l es i h k inv = let q : i ≡ count l = omega arith in rw q at inv
