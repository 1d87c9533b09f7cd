-- Document 01, "Addresses": directory and table words under the walk's marks A and D.
use Prim.Native.Nat.{ℕ, suc, ◌+◌, ◌*◌, ◌/◌, ◌%◌, ◌≤◌, ◌<◌}
use mathlib.Core.Path.{◌≡◌, refl, ◌∙◌}
use mathlib.Core.Logic.{◌≢◌}
use mathlib.Core.Bool.{true}
use mathlib.Core.List.{List}
use native.Mathlib.Omega.{arith}
use native.Mathlib.Decide.{dec_lt, ℕ_discrete}
use lib.ListN.{length, get_or, set, length-set, get_or-eq_default}
use lib.Seq.{get_or-set_same, get_or-set_other, set-get_or, set_out}
use borrow.Author.Tests.{eqb-true, eq-eqb}
use Rattle.memory.specs.Memory.{load_n}
use Rattle.memory.proofs.Laws.{load_same}
use Rattle.paging.specs.Walk.{bit, set_bit, mark}

-- the bits of a word that the walk reads, by their value
pub data Flag : ℕ → Type 0 where
  is_P : Flag 1
  is_W : Flag 2
  is_U : Flag 4
  is_A : Flag 32
  is_D : Flag 64

-- those that it sets
pub data Mark : ℕ → Type 0 where
  mark_A : Mark 32
  mark_D : Mark 64

-- a bit that is set, as a number, and back
pub bit_one : (k w : ℕ) → bit k w ≡ true → w / k % 2 ≡ 1
unfolding bit
bit_one k w e = eqb-true (w / k % 2) 1 e

pub one_bit : (k w : ℕ) → w / k % 2 ≡ 1 → bit k w ≡ true
unfolding bit
one_bit k w e = eq-eqb (w / k % 2) 1 e

-- ---- one word

-- v is w with no marks or more marks set
pub record MarkedWord (w v : ℕ) : Type 0 where
  pub present : v / 1 % 2 ≡ w / 1 % 2
  pub writable : v / 2 % 2 ≡ w / 2 % 2
  pub user : v / 4 % 2 ≡ w / 4 % 2
  pub accessed : w / 32 % 2 ≤ v / 32 % 2
  pub dirty : w / 64 % 2 ≤ v / 64 % 2
  pub frame : v / 4096 ≡ w / 4096

unmarked_word : (w : ℕ) → MarkedWord w w
unmarked_word w = omega arith

marked_word_twice : {u v w : ℕ} → MarkedWord u v → MarkedWord v w → MarkedWord u w
marked_word_twice g h = omega arith

-- no bit that the walk reads is lost
pub flag_kept : {k w v : ℕ} → Flag k → MarkedWord w v → bit k w ≡ true → bit k v ≡ true
flag_kept {w = w} {v = v} is_P g e = one_bit 1 v (omega (arith, bit_one 1 w e))
flag_kept {w = w} {v = v} is_W g e = one_bit 2 v (omega (arith, bit_one 2 w e))
flag_kept {w = w} {v = v} is_U g e = one_bit 4 v (omega (arith, bit_one 4 w e))
flag_kept {w = w} {v = v} is_A g e = one_bit 32 v (omega (arith, bit_one 32 w e))
flag_kept {w = w} {v = v} is_D g e = one_bit 64 v (omega (arith, bit_one 64 w e))

-- nor is U gained
pub user_was : {w v : ℕ} → MarkedWord w v → bit 4 v ≡ true → bit 4 w ≡ true
user_was {w} {v} g e = one_bit 4 w (omega (arith, bit_one 4 v e))

-- a mark in the low byte b of a word, the rest of which is r
low_marked : {k : ℕ} → Mark k → (b r : ℕ) → MarkedWord (b + 256 * r) (set_bit k b + 256 * r)
unfolding set_bit
low_marked mark_A b r = omega arith
low_marked mark_D b r = omega arith

-- the mark is set then
low_set : {k : ℕ} → Mark k → (b r : ℕ) → (set_bit k b + 256 * r) / k % 2 ≡ 1
unfolding set_bit
low_set mark_A b r = omega arith
low_set mark_D b r = omega arith

-- a mark that is there already
low_there : {k : ℕ} → Mark k → (b r : ℕ) → (b + 256 * r) / k % 2 ≡ 1 → set_bit k b ≡ b
unfolding set_bit
low_there mark_A b r h = omega arith
low_there mark_D b r h = omega arith

-- ---- memory

-- n is m with no marks or more marks set
pub record MarkedMemory (m n : List ℕ) : Type 0 where
  pub size : length n ≡ length m
  pub words : (a : ℕ) → a % 4 ≡ 0 → MarkedWord (load_n 4 m a) (load_n 4 n a)

pub unmarked : (m : List ℕ) → MarkedMemory m m
unmarked m = record { size = refl; words = λ a h. unmarked_word (load_n 4 m a) }

pub marked_twice : {l m n : List ℕ} → MarkedMemory l m → MarkedMemory m n → MarkedMemory l n
marked_twice g h = record { size = h.size ∙ g.size; words = λ a e. marked_word_twice (g.words a e) (h.words a e) }

-- the word that is marked
mark_here : (k : ℕ) (m : List ℕ) (a : ℕ) → a < length m → load_n 4 (mark k m a) a ≡ set_bit k (get_or m a 0) + 256 * load_n 3 m (suc a)
unfolding mark load_n
mark_here k m a h =
    let v = set_bit k (get_or m a 0) in
    rw (get_or-set_same m a v 0 h, load_same 3 (set m a v) m (suc a) (λ i p q. get_or-set_other m a i v 0 (omega arith)))

-- another word
mark_there : (k : ℕ) (m : List ℕ) (a c : ℕ) → a % 4 ≡ 0 → c % 4 ≡ 0 → c ≢ a → load_n 4 (mark k m a) c ≡ load_n 4 m c
unfolding mark
mark_there k m a c h g ne =
    let v = set_bit k (get_or m a 0) in
    load_same 4 (set m a v) m c (λ i p q. get_or-set_other m a i v 0 (omega arith))

-- outside memory nothing is marked
mark_outside : (k : ℕ) (m : List ℕ) (a : ℕ) → length m ≤ a → mark k m a ≡ m
unfolding mark
mark_outside k m a h = set_out m a (set_bit k (get_or m a 0)) h

-- a mark at any word, in memory or not
pub mark_marks : {k : ℕ} → Mark k → (m : List ℕ) (a : ℕ) → a % 4 ≡ 0 → MarkedMemory m (mark k m a)
unfolding mark load_n
mark_marks {k} q m a h = record { size = length-set m a (set_bit k (get_or m a 0)); words = at }
  where
    here : (c : ℕ) → c ≡ a → Dec (a < length m) → MarkedWord (load_n 4 m c) (load_n 4 (mark k m a) c)
    here c e (yes l) = rw (e, mark_here k m a l) (low_marked q (get_or m a 0) (load_n 3 m (suc a)))
    here c e (no l) = rw (mark_outside k m a (omega arith)) (unmarked_word (load_n 4 m c))

    go : (c : ℕ) → c % 4 ≡ 0 → Dec (c ≡ a) → MarkedWord (load_n 4 m c) (load_n 4 (mark k m a) c)
    go c g (yes e) = here c e (dec_lt a (length m))
    go c g (no ne) = rw (mark_there k m a c h g ne) (unmarked_word (load_n 4 m c))

    at : (c : ℕ) → c % 4 ≡ 0 → MarkedWord (load_n 4 m c) (load_n 4 (mark k m a) c)
    at c g = go c g (ℕ_discrete c a)

-- a word that is present lies in memory
present_inside : (m : List ℕ) (a : ℕ) → bit 1 (load_n 4 m a) ≡ true → a < length m
unfolding load_n
present_inside m a p = go (dec_lt a (length m))
  where
    go : Dec (a < length m) → a < length m
    go (yes l) = l
    go (no l) =
        let z : get_or m a 0 ≡ 0 = get_or-eq_default m 0 (omega arith) in
        omega (arith, bit_one 1 (load_n 4 m a) p)

-- the mark is then set
pub mark_sets : {k : ℕ} → Mark k → (m : List ℕ) (a : ℕ) → bit 1 (load_n 4 m a) ≡ true → bit k (load_n 4 (mark k m a) a) ≡ true
mark_sets {k} q m a p = one_bit k _ (rw (mark_here k m a (present_inside m a p)) (low_set q (get_or m a 0) (load_n 3 m (suc a))))

-- a mark that is there already changes nothing
pub mark_again : {k : ℕ} → Mark k → (m : List ℕ) (a : ℕ) → bit k (load_n 4 m a) ≡ true → mark k m a ≡ m
unfolding mark load_n
mark_again {k} q m a p = rw (low_there q (get_or m a 0) (load_n 3 m (suc a)) (bit_one k (load_n 4 m a) p)) (set-get_or m a 0)
