-- Document 01, "The record and the loaded program": the record's counted entries, in the lent array and back.
use Prim.Native.Nat.{ℕ, zero, suc, ◌+◌, ◌≤◌, ◌<◌}
use native.Mathlib.Omega.{arith}
use mathlib.Core.Bool.{true}
use mathlib.Core.Path.{◌≡◌, sym, ◌∙◌, ap, subst}
use mathlib.Core.List.{List, [], ◌∷◌, map}
use lib.ListN.{length, get_or, take, set}
use lib.Dec.{leb}
use borrow.Author.Tests.{leb-true}
use Rattle.paging.specs.declared.Entry.{Entry}
use Rattle.paging.specs.Buffer.{buffer_ok}
use Rattle.word.proofs.BoolLaws.{both}
use Rattle.paging.specs.Counting.{counted}
use Rattle.buffer.specs.Held.{count, unpack, entries_in, Buffer}
use Rattle.mmu.specs.Translates.{kept_in}
use Rattle.buffer.proofs.Slots.{length-held}
use Rattle.buffer.proofs.Packed.{packed_all, unpacked_next, unpacked_all}
use Rattle.refusals.specs.View.{first_slots}
use Rattle.refusals.proofs.Slots.{first_take, first_length}

-- refusal 3 lets no more than 64 pass
module _ (size n : ℕ) (es : List Entry) (z : length es ≡ 64) (h : buffer_ok size (first_slots n es) ≡ true) where
  pub held_few : n ≤ 64
  unfolding buffer_ok
  held_few = let l = leb-true (length (first_slots n es)) 64 (both (leb (length (first_slots n es)) 64) _ h).0 in rw (first_length n es) at l

  pub held_first : take n es ≡ first_slots n es
  held_first = sym (first_take n es (omega (arith, held_few, z)))

  pub held_passes : buffer_ok size (take n es) ≡ true
  held_passes = ap (buffer_ok size) held_first ∙ h

  -- all of them are in the lent array, and counted
  pub all_packed : (l : List ℕ) (i w : ℕ) {l' : List ℕ} → l' ≡ set (set l 64 n) 65 w → length l ≡ 66 → i ≤ n → n ≤ i → map unpack (take i l) ≡ take i es
      → (kept_in l' ≡ counted (first_slots n es) w) × Buffer l'
  all_packed l i w e y p q inv =
      let r = packed_all n es z held_few l i w y p q inv in
      (ap kept_in e ∙ r.0 ∙ ap (λ (xs : List Entry). counted xs w) held_first, subst Buffer (sym e) r.1)

-- as many slots as are counted are there
slots_there : (n : ℕ) (es : List Entry) → length (take n es) ≡ n → n ≤ length es
slots_there zero es e = omega arith
slots_there (suc n) [] e = omega (arith, e)
slots_there (suc n) (x ∷ es) e = let h = slots_there n es (omega (arith, e)) in omega (arith, h)

pub unpacked_first : (l : List ℕ) (es : List Entry) → Buffer l → take (count l) es ≡ entries_in l → first_slots (count l) es ≡ entries_in l
unpacked_first l es b e = first_take (count l) es (slots_there (count l) es (ap length e ∙ length-held l b)) ∙ e

-- out of the lent array, of which n entries are counted: a turn, and the last
module _ {l : List ℕ} (b : Buffer l) {n : ℕ} (c : n ≡ count l) (es : List Entry) (j : ℕ) (inv : take j es ≡ map unpack (take j l)) where
  pub unpacked_turn : {e : Entry} → length es ≡ 64 → j < n → e ≡ unpack (get_or l j 0) → take (j + 1) (set es j e) ≡ map unpack (take (j + 1) l)
  unpacked_turn z h q = unpacked_next l es j z (omega (arith, h, c, b.few)) (omega (arith, h, c, b.few, b.size)) inv q

  pub unpacked_last : j ≤ n → n ≤ j → take (count l) es ≡ entries_in l
  unpacked_last h k = unpacked_all l es j (omega (arith, h, c)) (omega (arith, k, c)) inv
