-- Document 01, refusal 3: the loops over a record's slots, one law a turn.
use Prim.Native.Nat.{ℕ, zero, suc, ◌+◌, ◌-◌, ◌%◌, ◌≤◌, ◌<◌}
use native.Mathlib.Numerals.{add-one}
use native.Mathlib.Omega.{arith}
use mathlib.Core.Bool.{Bool, true, false, not, ◌&&◌, ◌||◌, true≢false}
use mathlib.Core.Path.{◌≡◌, refl, sym, ◌∙◌, ap}
use mathlib.Core.List.{List, [], ◌∷◌}
use lib.ListN.{length, get_or, take, drop, set, length-set, drop_of_length-le}
use lib.Seq.{length-take-le, get_or-take, get_or-set_same, get_or-set_other, drop-cons}
use lib.Dec.{eqb}
use borrow.Author.Tests.{eq-eqb, ne_eqb, eqb-true, eqb-false, le-leb, lt-leb}
use Rattle.paging.specs.declared.Entry.{Entry}
use Rattle.paging.specs.Buffer.{has, entry_page, entry_ok, entries_ok, buffer_ok}
use Rattle.word.proofs.BoolLaws.{both}
use Rattle.rules.specs.Load.{zero_entry}
use Rattle.refusals.specs.View.{first_slots}
use Rattle.refusals.proofs.Slots.{first_take, first_length}

-- ---- remainders that were seen

-- the remainder of each entry's page is among those seen
unfoldable pub all_seen : List Bool → List Entry → Bool
all_seen s [] = true
all_seen s (e ∷ es) = get_or s (e.page % 256) false && all_seen s es

seen_stays : (s : List Bool) (k j : ℕ) → k < length s → get_or s j false ≡ true → get_or (set s k true) j false ≡ true
seen_stays s k j l h = go (eqb j k) refl
  where
    go : (b : Bool) → eqb j k ≡ b → get_or (set s k true) j false ≡ true
    go true e = rw (eqb-true j k e, get_or-set_same s k true false l)
    go false e = get_or-set_other s k j true false (eqb-false j k e) ∙ h

all_seen_set : (s : List Bool) (k : ℕ) (es : List Entry) → k < length s → all_seen s es ≡ true → all_seen (set s k true) es ≡ true
unfolding all_seen
all_seen_set s k [] l h = refl
all_seen_set s k (e ∷ es) l h =
    let b = both (get_or s (e.page % 256) false) _ h in
    rw (seen_stays s k (e.page % 256) l b.0) (all_seen_set s k es l b.1)

pub unseen : (s : List Bool) (p : ℕ) (es : List Entry) → all_seen s es ≡ true → get_or s (p % 256) false ≡ false → has entry_page p es ≡ false
unfolding all_seen has
unseen s p [] h q = refl
unseen s p (e ∷ es) h q = let b = both (get_or s (e.page % 256) false) _ h in go (eqb e.page p) refl b.0 (unseen s p es b.1 q)
  where
    go : (t : Bool) → eqb e.page p ≡ t → get_or s (e.page % 256) false ≡ true → has entry_page p es ≡ false → (t || has entry_page p es) ≡ false
    go true z g i = absurd (true≢false (sym g ∙ ap (λ (j : ℕ). get_or s (j % 256) false) (eqb-true e.page p z) ∙ q))
    go false z g i = i

-- ---- entries that fail

failing : (size k : ℕ) (es : List Entry) → entries_ok size (drop k es) ≡ false → entries_ok size es ≡ false
unfolding entries_ok
failing size zero es h = h
failing size (suc k) [] h = h
failing size (suc k) (e ∷ es) h = rw (failing size k es h) (go (entry_ok size e) (not (has entry_page e.page es)))
  where
    go : (a b : Bool) → a && (b && false) ≡ false
    go true true = refl
    go true false = refl
    go false b = refl

-- ---- a record's slots, of which n are counted

pub slots_many : (size n : ℕ) (es : List Entry) → 64 < n → false ≡ buffer_ok size (first_slots n es)
unfolding buffer_ok
slots_many size n es h = rw (first_length n es, lt-leb _ _ h)

module _ (n : ℕ) (es : List Entry) (z : length es ≡ 64) (few : n ≤ 64) where
  -- the counted entries from slot i on
  from : (i : ℕ) → i < n → drop i (take n es) ≡ get_or es i zero_entry ∷ drop (i + 1) (take n es)
  from i h =
      let l : i < length (take n es) = rw (length-take-le n es (omega arith)) h in
      rw (add-one i, drop-cons (take n es) i zero_entry l, get_or-take n es i zero_entry h)

  past : (i : ℕ) → n ≤ i → drop i (take n es) ≡ []
  past i h =
      let l : length (take n es) ≤ i = rw (length-take-le n es (omega arith)) h in
      drop_of_length-le (take n es) l

  -- the search for a page
  module _ (p i : ℕ) {b : Bool} (inv : b ≡ has entry_page p (drop i (take n es))) where
    pub page_here : i < n → (get_or es i zero_entry).page ≡ p → b ≡ true
    unfolding has
    page_here h e = inv ∙ rw (from i h, eq-eqb _ _ e)

    pub page_next : i < n → ((get_or es i zero_entry).page ≡ p → ⊥) → b ≡ has entry_page p (drop (i + 1) (take n es))
    unfolding has
    page_next h e = inv ∙ rw (from i h, ne_eqb _ _ e)

    pub page_nowhere : n ≤ i → b ≡ false
    unfolding has
    page_nowhere h = inv ∙ rw (past i h)

  -- the test of the entries, from the last on: those from slot k on have passed
  pub tested : (size : ℕ) → buffer_ok size (first_slots n es) ≡ entries_ok size (take n es)
  unfolding buffer_ok
  tested size = rw (first_length n es, le-leb _ _ few, first_take n es (omega (arith, few, z)))

  pub record Passed (size k : ℕ) (s : List Bool) : Type 0 where
    pub least : k ≤ n
    pub console_size : length s ≡ 256
    pub passed : entries_ok size (drop k (take n es)) ≡ true
    pub seen : all_seen s (drop k (take n es)) ≡ true

  pub none_passed : (size : ℕ) (s : List Bool) → length s ≡ 256 → Passed size n s
  unfolding entries_ok all_seen
  none_passed size s l = record { least = omega arith; console_size = l; passed = rw (past n (omega arith)); seen = rw (past n (omega arith)) }

  pub all_passed : (size k : ℕ) {s : List Bool} → Passed size k s → k ≤ 0 → true ≡ buffer_ok size (first_slots n es)
  all_passed size k p h = let q : k ≡ 0 = omega arith in sym (tested size ∙ rw q at p.passed)

  module _ (size k : ℕ) {s : List Bool} (p : Passed size k s) (some : 0 < k) {o : Bool} (q : o ≡ entry_ok size (get_or es (k - 1) zero_entry)) where
    abbrev entry : Entry
    entry = get_or es (k - 1) zero_entry

    last : drop (k - 1) (take n es) ≡ entry ∷ drop k (take n es)
    last = let e : (k - 1) + 1 ≡ k = omega arith in rw e at (from (k - 1) (omega (arith, p.least, some)))

    fails : entries_ok size (drop (k - 1) (take n es)) ≡ false → false ≡ buffer_ok size (first_slots n es)
    fails h = sym (tested size ∙ failing size (k - 1) (take n es) h)

    pub entry_fails : o ≡ false → false ≡ buffer_ok size (first_slots n es)
    unfolding entries_ok
    entry_fails e = fails (rw (last, ← q, e))

    module _ (ok : o ≡ true) where
      -- the slots after the entry's own are those from slot k on
      after : (k - 1) + 1 ≡ k
      after = omega (arith, some)

      pub page_twice : has entry_page entry.page (drop ((k - 1) + 1) (take n es)) ≡ true → false ≡ buffer_ok size (first_slots n es)
      unfolding entries_ok
      page_twice e = fails (rw (last, ← q, ok, rw after at e))

      entry_passes : has entry_page entry.page (drop k (take n es)) ≡ false → Passed size (k - 1) (set s (entry.page % 256) true)
      unfolding entries_ok all_seen
      entry_passes e =
          let l : entry.page % 256 < length s = omega (arith, p.console_size) in
          record {
            least = omega (arith, p.least);
            console_size = length-set s (entry.page % 256) true ∙ p.console_size;
            passed = rw (last, ← q, ok, e) p.passed;
            seen = rw (last, get_or-set_same s (entry.page % 256) true false l) (all_seen_set s (entry.page % 256) (drop k (take n es)) l p.seen);
          }

      pub entry_new : get_or s (entry.page % 256) false ≡ false → Passed size (k - 1) (set s (entry.page % 256) true)
      entry_new e = entry_passes (unseen s entry.page (drop k (take n es)) p.seen e)

      pub entry_searched : has entry_page entry.page (drop ((k - 1) + 1) (take n es)) ≡ false → Passed size (k - 1) (set s (entry.page % 256) true)
      entry_searched e = entry_passes (rw after at e)
