-- Document 02, item 2: what reading a line gives, by the code's tests; then "turn each listed line .. back into the address and word it came from", for every accepted
-- file and every word of it.
use Rattle.std.proofs.Common.{if◌then◌else◌, Result, Ok, Err}
use Prim.Native.Nat.{ℕ, ◌*◌, ◌<◌}
use mathlib.Core.Bool.{Bool, true, false, true≢false}
use mathlib.Core.List.{List}
use mathlib.Core.Path.{◌≡◌, refl, sym, ◌∙◌}
use native.Mathlib.Omega.{arith}
use lib.ListN.{length}
use Rattle.text.specs.Hex.{hex_value}
use Rattle.text.proofs.HexLaws.{hex_value_below}
use Rattle.listing.specs.declared.LineRefusal.{LineRefusal}
use Rattle.listing.specs.declared.LineRefusal.TheVariants.{Unlisted}
use Rattle.listing.specs.declared.LineRead.{LineRead}
use Rattle.listing.specs.Listing.{answer_of, word_of, words_of, line_of}
use Rattle.listing.specs.Listed.{line_number, Bytes, Listed, ReadBy, no_read, Reads}
use Rattle.listing.specs.Stands.{is_line_of}
use Rattle.listing.proofs.Exactly.{listed_stands, stands_listed, stands_columns, stands_test, test_stands, distinct}

-- ---- whether a line is listed, computed

-- the columns of the line say which word's line it would be
abbrev pub is_listed : List ℕ → Bool
is_listed l = is_line_of l (hex_value 8 l 0) (hex_value 8 l 9)

-- a listed line passes
listed_passes : {l : List ℕ} {a w : ℕ} → Listed l a w → is_listed l ≡ true
listed_passes {l} x =
    let s = listed_stands x in
    let c = stands_columns s in
    rw (c.address, c.word) (stands_test s)

-- and one that passes is listed
passes_listed : (l : List ℕ) → is_listed l ≡ true → Listed l (hex_value 8 l 0) (hex_value 8 l 9)
passes_listed l e = stands_listed (test_stands (hex_value_below 8 l 9) e)

module _ (l : List ℕ) (a w : ℕ) where
  number_by : (answer : Result Unit LineRefusal) (t : Bool) → is_listed l ≡ t → ReadBy answer l a w → line_number answer ≡ (if t then 0 else 12)
  number_by (Ok tt) true e x = refl
  number_by (Ok tt) false e x = absurd (true≢false (sym (listed_passes x) ∙ e))
  number_by (Err Unlisted) true e x = absurd (x.0 _ _ (passes_listed l e))
  number_by (Err Unlisted) false e x = refl

pub read_number : (l : List ℕ) (r : LineRead) → Reads l r → line_number r.answer ≡ (if is_listed l then 0 else 12)
read_number l r x = number_by l r.address r.word r.answer (is_listed l) refl x

-- ---- by the code's tests

module _ (l : List ℕ) where
  refused : {r : LineRead} → r ≡ no_read → ((a w : ℕ) → Listed l a w → ⊥) → Reads l r
  refused e n = rw e (n, refl, refl)

  -- too short for address and word
  pub read_short : {r : LineRead} → r ≡ no_read → length l < 17 → Reads l r
  read_short e h = refused e (λ a w x. let long = (stands_columns (listed_stands x)).long in omega arith)

  module _ {a w : ℕ} (p : a ≡ hex_value 8 l 0) (q : w ≡ hex_value 8 l 9) {t : Bool} (f : t ≡ is_line_of l a w) where
    -- the line of the word that it names
    pub read_line_lem : t ≡ true → Reads l (record { answer = Ok tt; address = a; word = w })
    read_line_lem e = rw (p, q) (passes_listed l (rw (p, q) at (sym f ∙ e)))

    -- and any other
    pub read_other : {r : LineRead} → r ≡ no_read → t ≡ false → Reads l r
    read_other e n = refused e (λ b v x. true≢false (sym (listed_passes x) ∙ rw (p, q) at (sym f ∙ n)))

-- ---- and back

back_by : (answer : Result Unit LineRefusal) {l : List ℕ} {a w b v : ℕ} → Listed l a w → ReadBy answer l b v
    → ◌≡◌ {A = LineRead} (record { answer = answer; address = b; word = v }) (record { answer = Ok tt; address = a; word = w })
back_by (Ok tt) x y = let e = distinct y x in rw (e.0, e.1)
back_by (Err Unlisted) {a = a} {w = w} x y = absurd (y.0 a w x)

-- every line of an accepted file is read as the address and word of its number
pub reads_back : (file : List ℕ) → Bytes file → answer_of file ≡ 0 → (n : ℕ) → n < words_of file
    → (r : LineRead) → Reads (line_of file n) r → r ≡ record { answer = Ok tt; address = 4 * n; word = word_of file n }
reads_back file b e n h r t =
    back_by r.answer (record { file = file; bytes = b; accepted = e; number = n; within = h; stands = refl; place = refl; content = refl }) t
