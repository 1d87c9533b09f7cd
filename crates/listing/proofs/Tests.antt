-- Whether a line is that of a word, by the code's tests.
use Prim.Native.Nat.{ℕ, ◌%◌, ◌<◌, ◌≤◌}
use mathlib.Core.Bool.{Bool, true, false, not, ◌&&◌, ◌||◌}
use mathlib.Core.List.{List}
use mathlib.Core.Path.{◌≡◌, refl, sym, ◌∙◌}
use borrow.Author.Tests.{not-false, leb-true, leb-false, lt-ltb, le-ltb, le-leb, lt-leb}
use lib.Dec.{eqb, ltb, leb}
use Rattle.word.proofs.BoolLaws.{neither}
use Rattle.mnemonics.specs.Line.{text_line, data_line}
use Rattle.listing.specs.Listing.{memory_size}
use Rattle.listing.specs.Stands.{equal, is_line_of}

-- the address is none that a listing has
off_by : (s : Bool) (a : ℕ) (rest : Bool) → (not s || leb memory_size a) ≡ true → false ≡ (s && ltb a memory_size && rest)
off_by false a rest e = refl
off_by true a rest e = rw (le-ltb a memory_size (leb-true memory_size a e))

module _ (l : List ℕ) (a w : ℕ) where
  pub not_listed_there : (not (eqb (a % 4) 0) || leb memory_size a) ≡ true → false ≡ is_line_of l a w
  unfolding is_line_of
  not_listed_there e = off_by (eqb (a % 4) 0) a _ e

  module _ (e : (not (eqb (a % 4) 0) || leb memory_size a) ≡ false) where
    -- it is one
    there : is_line_of l a w ≡ (equal l (text_line a w) || (leb 4 a && equal l (data_line a w)))
    unfolding is_line_of
    there =
        let h = neither (not (eqb (a % 4) 0)) (leb memory_size a) e in
        rw (not-false (eqb (a % 4) 0) h.0, lt-ltb a memory_size (leb-false memory_size a h.1))

    module _ {s : Bool} {x : List ℕ} (p : s ≡ equal l x) (q : x ≡ text_line a w) where
      pub as_text : s ≡ true → true ≡ is_line_of l a w
      as_text f = sym (there ∙ rw (← q, ← p, f))

      module _ (f : s ≡ false) where
        pub not_text : a < 4 → false ≡ is_line_of l a w
        not_text h = sym (there ∙ rw (← q, ← p, f, lt-leb 4 a h))

        pub as_data : {t : Bool} {y : List ℕ} → 4 ≤ a → t ≡ equal l y → y ≡ data_line a w → t ≡ is_line_of l a w
        as_data h g k = sym (there ∙ rw (← q, ← p, f, le-leb 4 a h, ← k, ← g))
