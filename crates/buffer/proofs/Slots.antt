-- The entries held in a lent array: how many, which, and what a store into the array does to them.
use Rattle.std.proofs.Common.{◌≡◌, ℕ, zero, suc, ◌+◌, ◌<◌, ◌≤◌, List, [], ◌∷◌, ◌++◌, map, length, get_or, take, set, refl, ap, ◌∙◌, add-one, arith}
use Rattle.std.proofs.Common.{length-set, length-take-le, get_or-set_other, get_or-take, get_or-set_same, take-suc-set}
use lib.ListN.{length-map, get_or-map}
use lib.Seq.{take-set-lt, take-set-le}
use Rattle.paging.specs.declared.Entry.{Entry}
use Rattle.paging.specs.Counting.{counted}
use Rattle.buffer.specs.Held.{count, walks, unpack, entries_in, lent, Buffer}

pub length-held : (l : List ℕ) → Buffer l → length (entries_in l) ≡ count l
unfolding entries_in
length-held l b = length-map (take (count l) l) unpack ∙ length-take-le (count l) l (omega arith)

pub held_at : (l : List ℕ) (i : ℕ) → i < count l → get_or (entries_in l) i (unpack 0) ≡ unpack (get_or l i 0)
unfolding entries_in
held_at l i h = get_or-map unpack (take (count l) l) i 0 ∙ ap unpack (get_or-take (count l) l i 0 h)

map_set : {A B : Type 0} (f : A → B) (l : List A) (i : ℕ) (a : A) → map f (set l i a) ≡ set (map f l) i (f a)
map_set f [] i a = refl
map_set f (x ∷ xs) zero a = refl
map_set f (x ∷ xs) (suc i) a = ap (λ (ys : List _). f x ∷ ys) (map_set f xs i a)

pub map_snoc : {A B : Type 0} (f : A → B) (l : List A) (a : A) → map f (l ++ (a ∷ [])) ≡ map f l ++ (f a ∷ [])
map_snoc f [] a = refl
map_snoc f (x ∷ xs) a = ap (λ (ys : List _). f x ∷ ys) (map_snoc f xs a)

-- other entries, and as many walks
pub lent_is : (l l' : List ℕ) {es : List Entry} → entries_in l' ≡ es → walks l' ≡ walks l → lent l' ≡ counted es (walks l)
lent_is l l' p q = rw (p, q)

-- a slot or the count set anew
pub walks_set : (l : List ℕ) (i e : ℕ) → i ≤ 64 → walks (set l i e) ≡ walks l
walks_set l i e h = get_or-set_other l i 65 e 0 (λ q. omega arith)

module _ (l : List ℕ) (b : Buffer l) where
  -- the count set anew
  pub buffer_counted : (n : ℕ) → n ≤ 64 → Buffer (set l 64 n)
  buffer_counted n h =
      let k : 64 < length l = omega arith in
      record { size = length-set l 64 n ∙ b.size; few = rw (get_or-set_same l 64 n 0 k) h }

  pub held_none : entries_in (set l 64 0) ≡ []
  unfolding entries_in
  held_none =
      let k : 64 < length l = omega arith in
      rw (get_or-set_same l 64 0 0 k)

  module _ (e i : ℕ) (h : i < 64) where
    -- a slot set anew
    pub buffer_set : Buffer (set l i e)
    buffer_set =
        let n : (64 ≡ i → ⊥) = λ q. omega arith in
        record { size = length-set l i e ∙ b.size; few = rw (get_or-set_other l i 64 e 0 n) b.few }

    pub held_set : i < count l → entries_in (set l i e) ≡ set (entries_in l) i (unpack e)
    unfolding entries_in
    held_set k =
        let n : (64 ≡ i → ⊥) = λ q. omega arith in
        rw (get_or-set_other l i 64 e 0 n, take-set-lt (count l) l i e k) (map_set unpack (take (count l) l) i e)

    -- a slot set anew that is the last counted one from now on
    pub held_append : entries_in (set (set l i e) 64 (i + 1)) ≡ map unpack (take i l) ++ (unpack e ∷ [])
    unfolding entries_in
    held_append =
        let k : 64 < length (set l i e) = rw (length-set l i e) (omega arith) in
        let k' : i < length l = omega arith in
        let k'' : suc i ≤ 64 = omega arith in
        rw (get_or-set_same (set l i e) 64 (i + 1) 0 k, add-one i, take-set-le (suc i) (set l i e) 64 (suc i) k'', take-suc-set l i e k')
        (map_snoc unpack (take i l) e)

  -- the walks set anew
  module _ (n : ℕ) where
    pub held_raised : entries_in (set l 65 n) ≡ entries_in l
    unfolding entries_in
    held_raised = rw (get_or-set_other l 65 64 n 0 (λ q. omega arith), take-set-le (count l) l 65 n (omega arith))

    pub buffer_raised : Buffer (set l 65 n)
    buffer_raised = record { size = length-set l 65 n ∙ b.size; few = rw (get_or-set_other l 65 64 n 0 (λ q. omega arith)) b.few }

    pub walks_raised : walks (set l 65 n) ≡ n
    walks_raised = get_or-set_same l 65 n 0 (omega (arith, b.size))
