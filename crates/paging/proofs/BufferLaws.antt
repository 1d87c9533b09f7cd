-- Document 01, "Addresses" and refusal 3: a buffer that is not refused with 3 stays so when an entry is kept: at most 64 entries, each page
-- and frame in range, no page twice.
use Prim.Native.Nat.{ℕ, suc, ◌≤◌}
use mathlib.Core.Path.{◌≡◌, refl, ap, sym}
use mathlib.Core.Bool.{Bool, true, false, not, cond, ◌&&◌, ◌||◌, false≢true}
use mathlib.Core.List.{List, [], ◌∷◌}
use native.Mathlib.Omega.{arith}
use lib.ListN.{length}
use lib.Dec.{ltb, leb, eqb}
use borrow.Author.Tests.{eqb-true, eqb-false, ne_eqb, ltb-true, leb-true, le-leb, not-true}
use Rattle.paging.specs.declared.Entry.{Entry}
use Rattle.paging.specs.Buffer.{has, place, entry_page, capacity, fits, room_in, keep, entry_ok, entries_ok, buffer_ok}
use Rattle.word.proofs.BoolLaws.{both, neither}

-- the empty buffer
pub empty_ok : (size : ℕ) → buffer_ok size [] ≡ true
unfolding buffer_ok
empty_ok size = refl

-- ---- no page twice

-- a page that is neither the new entry's nor an old one's is not there
has_placed : (e : Entry) (es : List Entry) (p : ℕ) → eqb e.page p ≡ false → has entry_page p es ≡ false → has entry_page p (place entry_page e es) ≡ false
unfolding has place
has_placed e [] p ne h = rw ne
has_placed e (x ∷ xs) p ne h =
    let n = neither (eqb x.page p) (has entry_page p xs) h in
    go (eqb x.page e.page) n.0 n.1 (has_placed e xs p ne n.1)
  where
    go : (b : Bool) → eqb x.page p ≡ false → has entry_page p xs ≡ false → has entry_page p (place entry_page e xs) ≡ false
        → has entry_page p (cond b (e ∷ xs) (x ∷ place entry_page e xs)) ≡ false
    go true f g r = rw (ne, g)
    go false f g r = rw (f, r)

-- the entries after one more is placed among them
entries_placed : (size : ℕ) (e : Entry) (es : List Entry) → entry_ok size e ≡ true → entries_ok size es ≡ true → entries_ok size (place entry_page e es) ≡ true
unfolding entries_ok place has
entries_placed size e [] g h = rw g
entries_placed size e (x ∷ xs) g h =
    let p = both (entry_ok size x) (not (has entry_page x.page xs) && entries_ok size xs) h in
    let q = both (not (has entry_page x.page xs)) (entries_ok size xs) p.1 in
    go (eqb x.page e.page) refl p.0 (not-true (has entry_page x.page xs) q.0) q.1 (entries_placed size e xs g q.1)
  where
    go : (b : Bool) → eqb x.page e.page ≡ b → entry_ok size x ≡ true → has entry_page x.page xs ≡ false → entries_ok size xs ≡ true
        → entries_ok size (place entry_page e xs) ≡ true → entries_ok size (cond b (e ∷ xs) (x ∷ place entry_page e xs)) ≡ true
    go true t k n a r =
        let n2 : has entry_page e.page xs ≡ false = rw (eqb-true x.page e.page t) at n in
        rw (g, n2, a)
    go false t k n a r =
        let ne = ne_eqb e.page x.page (λ d. eqb-false x.page e.page t (sym d)) in
        rw (k, has_placed e xs x.page ne n, r)

-- ---- at most 64 entries

-- "The same page replaces its entry"
length-replaced : (e : Entry) (es : List Entry) → has entry_page e.page es ≡ true → length (place entry_page e es) ≡ length es
unfolding has place
length-replaced e [] h = absurd (false≢true h)
length-replaced e (x ∷ xs) h = go (eqb x.page e.page) h (length-replaced e xs)
  where
    go : (b : Bool) → b || has entry_page e.page xs ≡ true → (has entry_page e.page xs ≡ true → length (place entry_page e xs) ≡ length xs)
        → length (cond b (e ∷ xs) (x ∷ place entry_page e xs)) ≡ suc (length xs)
    go true t r = refl
    go false t r = ap suc (r t)

-- at most one more
length-placed : (e : Entry) (es : List Entry) → length (place entry_page e es) ≤ suc (length es)
unfolding place
length-placed e [] = omega arith
length-placed e (x ∷ xs) = go (eqb x.page e.page) (length-placed e xs)
  where
    go : (b : Bool) → length (place entry_page e xs) ≤ suc (length xs) → length (cond b (e ∷ xs) (x ∷ place entry_page e xs)) ≤ suc (suc (length xs))
    go true r = omega arith
    go false r = omega arith

-- "a new page when 64 are held empties the buffer first"
keep_count : (e : Entry) (es : List Entry) → length es ≤ capacity → length (keep e es) ≤ capacity
unfolding fits keep place
keep_count e es h = go (has entry_page e.page es) (ltb (length es) capacity) refl refl
  where
    go : (b c : Bool) → has entry_page e.page es ≡ b → ltb (length es) capacity ≡ c → length (place entry_page e (room_in (b || c) es)) ≤ capacity
    go true c q r = omega (arith, length-replaced e es q)
    go false true q r = omega (arith, length-placed e es, ltb-true (length es) capacity r)
    go false false q r = omega arith

-- ---- both together

-- the entries that are left when room is made
entries_room : (size : ℕ) (b : Bool) (es : List Entry) → entries_ok size es ≡ true → entries_ok size (room_in b es) ≡ true
unfolding room_in entries_ok
entries_room size true es h = h
entries_room size false es h = refl

-- the entries when one more is kept
keep_entries : (size : ℕ) (e : Entry) (es : List Entry) → entry_ok size e ≡ true → entries_ok size es ≡ true → entries_ok size (keep e es) ≡ true
unfolding keep
keep_entries size e es g h = entries_placed size e (room_in (fits e.page es) es) g (entries_room size (fits e.page es) es h)

-- a buffer that is not refused with 3, with one more entry
pub keep_ok : (size : ℕ) (e : Entry) (es : List Entry) → entry_ok size e ≡ true → buffer_ok size es ≡ true → buffer_ok size (keep e es) ≡ true
unfolding buffer_ok
keep_ok size e es g h =
    let p = both (leb (length es) capacity) (entries_ok size es) h in
    rw (le-leb (length (keep e es)) capacity (keep_count e es (leb-true (length es) capacity p.0)), keep_entries size e es g p.1)
