-- The rules' `keep` by the place of a page's entry, and each way through the code that keeps an entry.
use Rattle.std.proofs.Common.{◌≡◌, ℕ, suc, ◌+◌, ◌<◌, ◌≤◌, Bool, true, false, cond, ◌||◌, eqb, List, [], ◌∷◌, ◌++◌, length, set, refl, ap, ◌∙◌, arith, le-ltb, lt-ltb, if◌then◌else◌}
use Rattle.paging.specs.declared.Entry.{Entry}
use Rattle.paging.specs.Buffer.{has, place, entry_page, fits, room_in, keep}
use Rattle.paging.specs.Counting.{counted}
use Rattle.buffer.specs.Held.{page_in, count, walks, unpack, entries_in, lent, index_of, Buffer}
use Rattle.buffer.proofs.Slots.{length-held, lent_is, walks_set, buffer_set, buffer_counted, held_set, held_append}

-- ---- `has` and `place` by the place of a page's entry

pub has_found : (p : ℕ) (es : List Entry) → index_of p es < length es → has entry_page p es ≡ true
unfolding has index_of
has_found p [] l = absurd (omega arith)
has_found p (x ∷ xs) l = go (eqb x.page p) l (has_found p xs)
  where
    go : (b : Bool) → (if b then 0 else suc (index_of p xs)) < suc (length xs) → (index_of p xs < length xs → has entry_page p xs ≡ true)
        → (b || has entry_page p xs) ≡ true
    go true h f = refl
    go false h f = f (omega arith)

pub has_none : (p : ℕ) (es : List Entry) → length es ≤ index_of p es → has entry_page p es ≡ false
unfolding has index_of
has_none p [] l = refl
has_none p (x ∷ xs) l = go (eqb x.page p) l (has_none p xs)
  where
    go : (b : Bool) → suc (length xs) ≤ (if b then 0 else suc (index_of p xs)) → (length xs ≤ index_of p xs → has entry_page p xs ≡ false)
        → (b || has entry_page p xs) ≡ false
    go true h f = absurd (omega arith)
    go false h f = f (omega arith)

place_found : (e : Entry) (es : List Entry) → index_of e.page es < length es → place entry_page e es ≡ set es (index_of e.page es) e
unfolding place index_of
place_found e [] l = absurd (omega arith)
place_found e (x ∷ xs) l = go (eqb x.page e.page) l (place_found e xs)
  where
    go : (b : Bool) → (if b then 0 else suc (index_of e.page xs)) < suc (length xs)
        → (index_of e.page xs < length xs → place entry_page e xs ≡ set xs (index_of e.page xs) e)
        → cond b (e ∷ xs) (x ∷ place entry_page e xs) ≡ set (x ∷ xs) (if b then 0 else suc (index_of e.page xs)) e
    go true h f = refl
    go false h f = ap (λ (ys : List Entry). x ∷ ys) (f (omega arith))

place_new : (e : Entry) (es : List Entry) → length es ≤ index_of e.page es → place entry_page e es ≡ es ++ (e ∷ [])
unfolding place index_of
place_new e [] l = refl
place_new e (x ∷ xs) l = go (eqb x.page e.page) l (place_new e xs)
  where
    go : (b : Bool) → suc (length xs) ≤ (if b then 0 else suc (index_of e.page xs))
        → (length xs ≤ index_of e.page xs → place entry_page e xs ≡ xs ++ (e ∷ []))
        → cond b (e ∷ xs) (x ∷ place entry_page e xs) ≡ x ∷ (xs ++ (e ∷ []))
    go true h f = absurd (omega arith)
    go false h f = ap (λ (ys : List Entry). x ∷ ys) (f (omega arith))

-- ---- the three ways to keep an entry

abbrev Kept : ℕ → List ℕ → List ℕ → Type 0
Kept e l l' = (lent l' ≡ counted (keep (unpack e) (entries_in l)) (walks l)) × Buffer l'

module _ (l : List ℕ) (e : ℕ) (b : Buffer l) {i : ℕ} (p : i ≡ index_of (page_in e) (entries_in l)) where
  pub keep_same : i < count l → Kept e l (set l i e)
  unfolding keep room_in fits
  keep_same h =
      let q : index_of (page_in e) (entries_in l) < length (entries_in l) = rw (← p, length-held l b) h in
      let s : i < 64 = omega arith in
      let t : entries_in (set l i e) ≡ keep (unpack e) (entries_in l) = rw (has_found _ _ q, place_found (unpack e) (entries_in l) q, ← p) (held_set l b e i s h) in
      (lent_is l _ t (walks_set l i e (omega arith)), buffer_set l b e i s)

  module _ (h : count l ≤ i) where
    -- a slot and the count set anew
    walks_both : (j n : ℕ) → j ≤ 64 → walks (set (set l j e) 64 n) ≡ walks l
    walks_both j n k = walks_set (set l j e) 64 n (omega arith) ∙ walks_set l j e k

    new : length (entries_in l) ≤ index_of (page_in e) (entries_in l)
    new = rw (← p, length-held l b) h

    pub keep_first : 64 ≤ count l → Kept e l (set (set l 0 e) 64 1)
    unfolding keep room_in fits place
    keep_first q =
        let s : 0 < 64 = omega arith in
        let r : 64 ≤ length (entries_in l) = rw (length-held l b) q in
        let t : entries_in (set (set l 0 e) 64 1) ≡ keep (unpack e) (entries_in l) = rw (has_none _ _ new, le-ltb _ _ r) (held_append l b e 0 s) in
        (lent_is l _ t (walks_both 0 1 (omega arith)), buffer_counted (set l 0 e) (buffer_set l b e 0 s) 1 (omega arith))

    pub keep_next : {n : ℕ} → n ≡ count l → n < 64 → Kept e l (set (set l n e) 64 (n + 1))
    unfolding keep room_in fits entries_in
    keep_next {n} c s =
        let r : length (entries_in l) < 64 = rw (length-held l b, ← c) s in
        let u : entries_in (set (set l n e) 64 (n + 1)) ≡ keep (unpack e) (entries_in l) =
        rw (has_none _ _ new, lt-ltb _ _ r, place_new (unpack e) (entries_in l) new, ← c) (held_append l b e n s) in
        let t = buffer_counted (set l n e) (buffer_set l b e n s) (n + 1) (omega arith) in
        (lent_is l (set (set l n e) 64 (n + 1)) u (walks_both n (n + 1) (omega arith)), t)
