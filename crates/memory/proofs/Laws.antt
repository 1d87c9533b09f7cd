-- Loads and stores, shown once over the width n in bytes. Document 01, "What is emulated": "Words are little-endian".
use Prim.Native.Nat.{ℕ, zero, suc, ◌+◌, ◌*◌, ◌/◌, ◌%◌, ◌^◌, ◌≤◌, ◌<◌}
use mathlib.Core.List.{List, [], ◌∷◌}
use mathlib.Core.Logic.{◌⊎◌, inl, inr, ⊎_elim}
use mathlib.Core.Path.{◌≡◌, refl, sym, ◌∙◌, ap}
use native.Mathlib.Nat.{zero-add, add-zero, suc-add, add-suc, mul_assoc, pow-suc, pow-succ', div-one, mod-one, div-div-eq-div-mul}
use native.Mathlib.Omega.{arith}
use lib.Arith.{mod-mul}
use lib.Dec.{lit<}
use lib.ListN.{length, get_or, set, take, length-set}
use lib.Seq.{get_or-set_same, get_or-set_other}
use borrow.Rule.Slice.PartMut.{put_mid}
use Rattle.std.proofs.lemmas.Slice.{put_mid-paste}
use Rattle.std.proofs.lemmas.List.{take_all}
use Rattle.std.proofs.lemmas.List.Edits.{sets, sets-eq}
use Rattle.memory.specs.Memory.{load_n, store_n}

-- ---- splitting

-- a load of a + b bytes is a load of a bytes and a load of b bytes above them
pub load_split : (a b : ℕ) (m : List ℕ) (at : ℕ) → load_n (a + b) m at ≡ load_n a m at + 256 ^ a * load_n b m (at + a)
unfolding load_n
load_split zero b m at = rw (zero-add b, add-zero at) (omega arith)
load_split (suc a) b m at =
    rw (suc-add, load_split a b m (suc at), suc-add, add-suc, pow-succ')
    (omega (arith, mul_assoc 256 (256 ^ a) (load_n b m (suc (at + a)))))

-- a store of a + b bytes is a store of the low a bytes and a store of the rest above them
pub store_split : (a b : ℕ) (m : List ℕ) (at v : ℕ) → store_n (a + b) m at v ≡ store_n b (store_n a m at v) (at + a) (v / 256 ^ a)
unfolding store_n
store_split zero b m at v = rw (zero-add b, add-zero at, div-one)
store_split (suc a) b m at v =
    rw (suc-add, store_split a b (set m at (v % 256)) (suc at) (v / 256), suc-add, add-suc, pow-succ', div-div-eq-div-mul)

-- powers of 256 are positive
pow256_pos : (n : ℕ) → 0 < 256 ^ n
pow256_pos zero = omega arith
pow256_pos (suc n) = rw (pow-suc 256 n) (let h = pow256_pos n in omega (arith, h))

-- a store of n bytes takes only the low n bytes of its number
pub store_low : (n : ℕ) (m : List ℕ) (at v : ℕ) → store_n n m at (v % 256 ^ n) ≡ store_n n m at v
unfolding store_n
store_low zero m at v = refl
store_low (suc n) m at v =
    let e : v % 256 ^ suc n ≡ (v / 256 % 256 ^ n) * 256 + v % 256 = ap (λ (x : ℕ). v % x) (pow-suc 256 n) ∙ mod-mul v (pow256_pos n) (lit< tt) in
    let low : v % 256 ^ suc n % 256 ≡ v % 256 = omega (arith, e) in
    let rest : v % 256 ^ suc n / 256 ≡ v / 256 % 256 ^ n = omega (arith, e) in
    rw (low, rest, store_low n (set m at (v % 256)) (suc at) (v / 256))

-- ---- what a store keeps

-- the length
pub length-store : (n : ℕ) (m : List ℕ) (at v : ℕ) → length (store_n n m at v) ≡ length m
unfolding store_n
length-store zero m at v = refl
length-store (suc n) m at v = length-store n (set m at (v % 256)) (suc at) (v / 256) ∙ length-set m at (v % 256)

-- every byte outside the n bytes from `at` on
pub get_or-store : (n : ℕ) (m : List ℕ) (at v c d : ℕ) → (c < at) ⊎ (at + n ≤ c) → get_or (store_n n m at v) c d ≡ get_or m c d
unfolding store_n
get_or-store zero m at v c d h = refl
get_or-store (suc n) m at v c d h =
    let k : (c < suc at) ⊎ (suc at + n ≤ c) = ⊎_elim (λ l. inl (omega arith)) (λ l. inr (omega arith)) h in
    let e : (c ≡ at → ⊥) = λ q. ⊎_elim (λ l. omega arith) (λ l. omega arith) h in
    get_or-store n (set m at (v % 256)) (suc at) (v / 256) c d k ∙ get_or-set_other m at c (v % 256) d e

-- ---- loads

-- two memories that agree on the bytes loaded
pub load_same : (k : ℕ) (m m' : List ℕ) (at : ℕ) → ((i : ℕ) → at ≤ i → i < at + k → get_or m i 0 ≡ get_or m' i 0) → load_n k m at ≡ load_n k m' at
unfolding load_n
load_same zero m m' at h = refl
load_same (suc k) m m' at h =
    rw (h at (omega arith) (omega arith), load_same k m m' (suc at) (λ i p q. h i (omega arith) (omega arith)))

-- a load of bytes that the store does not overlap
pub load_other : (k n : ℕ) (m : List ℕ) (from at v : ℕ) → (from + k ≤ at) ⊎ (at + n ≤ from) → load_n k (store_n n m at v) from ≡ load_n k m from
load_other k n m from at v h =
    load_same k (store_n n m at v) m from
    (λ i p q. get_or-store n m at v i 0 (⊎_elim (λ l. inl (omega arith)) (λ l. inr (omega arith)) h))

-- a load of what was stored
pub load_stored : (n : ℕ) (m : List ℕ) (at v : ℕ) → at + n ≤ length m → load_n n (store_n n m at v) at ≡ v % 256 ^ n
unfolding load_n store_n
load_stored zero m at v h = sym (mod-one v)
load_stored (suc n) m at v h =
    let b : at < length m = omega arith in
    let c : 0 < 256 = lit< tt in
    let l : suc at + n ≤ length (set m at (v % 256)) = rw (length-set m at (v % 256)) (omega arith) in
    rw (
      get_or-store n (set m at (v % 256)) (suc at) (v / 256) at 0 (inl (omega arith)),
      get_or-set_same m at (v % 256) 0 b,
      load_stored n (set m at (v % 256)) (suc at) (v / 256) l,
      pow-suc 256 n,
      mod-mul v (pow256_pos n) c,
    )
    (omega arith)

-- ---- a store as the library writes it

-- the low n bytes of v, the lowest first
abbrev pub digits : ℕ → ℕ → List ℕ
digits zero v = []
digits (suc n) v = v % 256 ∷ digits n (v / 256)

length-digits : (n v : ℕ) → length (digits n v) ≡ n
length-digits zero v = refl
length-digits (suc n) v = ap suc (length-digits n (v / 256))

take-digits : (n k v : ℕ) → n ≤ k → take n (digits k v) ≡ digits n v
take-digits zero k v h = refl
take-digits (suc n) zero v h = absurd (omega arith)
take-digits (suc n) (suc k) v h = ap (λ (bs : List ℕ). v % 256 ∷ bs) (take-digits n k (v / 256) (omega arith))

-- the first n of a number's eight bytes
pub first_digits : (n v : ℕ) → n ≤ 8
    → take n (v % 256 ∷ v / 256 % 256 ∷ v / 65536 % 256 ∷ v / 16777216 % 256 ∷ v / 4294967296 % 256 ∷ v / 1099511627776 % 256
    ∷ v / 281474976710656 % 256 ∷ v / 72057594037927936 % 256 ∷ []) ≡ digits n v
first_digits n v h = ap (take n) eight ∙ take-digits n 8 v h
  where
    further : (a b c : ℕ) → a * b ≡ c → v / c ≡ v / a / b
    further a b c e = rw (← e) (sym (div-div-eq-div-mul v a b))

    eight : (v % 256 ∷ v / 256 % 256 ∷ v / 65536 % 256 ∷ v / 16777216 % 256 ∷ v / 4294967296 % 256 ∷ v / 1099511627776 % 256
        ∷ v / 281474976710656 % 256 ∷ v / 72057594037927936 % 256 ∷ []) ≡ digits 8 v
    eight =
        rw (
          further 281474976710656 256 72057594037927936 refl,
          further 1099511627776 256 281474976710656 refl,
          further 4294967296 256 1099511627776 refl,
          further 16777216 256 4294967296 refl,
          further 65536 256 16777216 refl,
          further 256 256 65536 refl,
        )
        refl

-- a store sets them one after another
store_sets : (n : ℕ) (m : List ℕ) (at v : ℕ) → store_n n m at v ≡ sets m at (digits n v)
unfolding store_n
store_sets zero m at v = refl
store_sets (suc n) m at v = store_sets n (set m at (v % 256)) (suc at) (v / 256)

-- a part of memory in which they are put
pub store_put : (n : ℕ) (m : List ℕ) (at v k : ℕ) (ys : List ℕ) → at + n ≤ length m → k ≡ n → ys ≡ digits n v → put_mid at k m ys ≡ store_n n m at v
store_put n m at v k ys h e is =
    let bs = digits n v in
    let l : length bs ≡ n = length-digits n v in
    let all : take n bs ≡ bs = take_all n bs (omega (arith, l)) in
    let end : at + length bs ≡ at + n = ap (λ (x : ℕ). at + x) l in
    put_mid-paste at k m ys bs n is (sym e) (sym l)
    ∙ rw (all, ← end) (sym (sets-eq bs m at (omega (arith, l, h))))
    ∙ sym (store_sets n m at v)
