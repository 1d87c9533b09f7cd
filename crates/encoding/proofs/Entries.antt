-- Document 02, item 5: entries written into a file and read from it, one law a turn.
use Prim.Native.Nat.{ℕ, zero, suc, ◌+◌, ◌*◌, ◌-◌, ◌≤◌, ◌<◌}
use native.Mathlib.Nat.{not-suc-le-zero, le_of_suc-le-suc}
use native.Mathlib.Numerals.{add-one}
use native.Mathlib.Omega.{arith}
use mathlib.Core.Bool.{Bool, true, false}
use mathlib.Core.List.{List, [], ◌∷◌, ◌++◌, append-nil, append_assoc}
use mathlib.Core.Path.{◌≡◌, refl, sym, ◌∙◌, ap}
use lib.ListN.{length, get_or, take, set, replicate, length-append}
use lib.Seq.{append_snoc, set_at}
use Rattle.paging.specs.declared.Entry.{Entry}
use Rattle.rules.specs.Load.{zero_entry}
use Rattle.text.specs.declared.Writer.{Writer}
use Rattle.text.specs.Adds.{Adds}
use Rattle.text.proofs.Laws.{nothing_added, adds_then, adds_as}
use Rattle.encoding.specs.Encoding.{encoded, little_endian}
use Rattle.encoding.specs.Entries.{entry_longs, entry_bytes, entry_numbers, encoded_entries, entry_in, entries_in, rights_are, rights_ok, slots_in}

-- ---- entries written: the first i stand in the file up to p

pub length-entry : (e : Entry) → length (encoded entry_longs (entry_numbers e)) ≡ entry_bytes
unfolding encoded little_endian
length-entry e = refl

pub length-encoded_entries : (es : List Entry) → length (encoded_entries es) ≡ entry_bytes * length es
unfolding encoded_entries
length-encoded_entries [] = refl
length-encoded_entries (e ∷ es) =
    length-append (encoded entry_longs (entry_numbers e)) (encoded_entries es) ∙ omega (arith, length-entry e, length-encoded_entries es)

entries_snoc : (i : ℕ) (es : List Entry) → i < length es
    → encoded_entries (take (suc i) es) ≡ encoded_entries (take i es) ++ encoded entry_longs (entry_numbers (get_or es i zero_entry))
unfolding encoded_entries
entries_snoc i [] h = absurd (not-suc-le-zero h)
entries_snoc zero (e ∷ es) h = append-nil (encoded entry_longs (entry_numbers e))
entries_snoc (suc i) (e ∷ es) h =
    ap (λ (t : List ℕ). encoded entry_longs (entry_numbers e) ++ t) (entries_snoc i es (le_of_suc-le-suc h))
    ∙ sym (append_assoc (encoded entry_longs (entry_numbers e)) (encoded_entries (take i es)) (encoded entry_longs (entry_numbers (get_or es i zero_entry))))

pub record Putting (es : List Entry) (w₀ : Writer) (i : ℕ) (w : Writer) : Type 0 where
  pub adds : Adds (encoded_entries (take i es)) w₀ w
  pub place : w.end ≡ w₀.end + entry_bytes * i

module _ {es : List Entry} {w₀ : Writer} where
  pub putting_start : Putting es w₀ 0 w₀
  unfolding encoded_entries
  putting_start = record { adds = nothing_added w₀; place = omega arith }

  pub putting_on : {i : ℕ} {w w' : Writer} → i < length es → Putting es w₀ i w → Adds (encoded entry_longs (entry_numbers (get_or es i zero_entry))) w w'
      → Putting es w₀ (i + 1) w'
  putting_on {i} l h a = record {
    adds = rw (add-one i) (adds_as (sym (entries_snoc i es l)) (adds_then h.adds a));
    place = omega (arith, a.written.end, length-entry (get_or es i zero_entry), h.place);
  }

  pub putting_end : {n i : ℕ} {w : Writer} → i ≤ n → n ≤ i → Putting es w₀ i w → Adds (encoded_entries (take n es)) w₀ w
  putting_end {n} {i} l k h = let e : i ≡ n = omega arith in rw e at h.adds

-- ---- entries read: i of them, and zeros after them

pub length-entries_in : (i : ℕ) (f : List ℕ) (at : ℕ) → length (entries_in i f at) ≡ i
unfolding entries_in
length-entries_in zero f at = refl
length-entries_in (suc i) f at = ap suc (length-entries_in i f (at + entry_bytes))

entries_in_snoc : (i : ℕ) (f : List ℕ) (at : ℕ) → entries_in (suc i) f at ≡ entries_in i f at ++ (entry_in f (at + entry_bytes * i) ∷ [])
unfolding entries_in
entries_in_snoc zero f at = let e : at + entry_bytes * 0 ≡ at = omega arith in rw e
entries_in_snoc (suc i) f at =
    let e : at + entry_bytes + entry_bytes * i ≡ at + entry_bytes * suc i = omega arith in
    ap (λ (t : List Entry). entry_in f at ∷ t) (rw e at (entries_in_snoc i f (at + entry_bytes)))

-- one more slot is filled
pub slots_on : (f : List ℕ) (at i : ℕ) {es : List Entry} {e : Entry} → i < 64 → e ≡ entry_in f (at + entry_bytes * i) → es ≡ slots_in i f at → set es i e ≡ slots_in (i + 1) f at
slots_on f at i {es} {e} h q k =
    let m : 64 - i ≡ suc (64 - suc i) = omega arith in
    rw (add-one i, k, m, q, entries_in_snoc i f at)
    (set_at (entries_in i f at) zero_entry (replicate (64 - suc i) zero_entry) (entry_in f (at + entry_bytes * i)) i (length-entries_in i f at)
    ∙ sym (append_snoc (entries_in i f at) (entry_in f (at + entry_bytes * i)) (replicate (64 - suc i) zero_entry)))

pub slots_end : (f : List ℕ) (at n i : ℕ) {es : List Entry} → i ≤ n → n ≤ i → es ≡ slots_in i f at → es ≡ slots_in n f at
slots_end f at n i h l k = let e : i ≡ n = omega arith in rw e at k

-- ---- rights tested: those from the i-th entry on decide

rights_start : (f : List ℕ) (at n : ℕ) → rights_ok n f at ≡ rights_ok (n - 0) f (at + entry_bytes * 0)
rights_start f at n = let a : n - 0 ≡ n = omega arith in let b : at + entry_bytes * 0 ≡ at = omega arith in rw (a, b)

module _ (f : List ℕ) (at n i : ℕ) (h : i < n) where
  here : rights_ok (n - i) f (at + entry_bytes * i) ≡ rights_ok (suc (n - suc i)) f (at + entry_bytes * i)
  here = let m : n - i ≡ suc (n - suc i) = omega arith in ap (λ (k : ℕ). rights_ok k f (at + entry_bytes * i)) m

  pub rights_fail : {b : Bool} → b ≡ rights_are f (at + entry_bytes * i) → b ≡ false → rights_ok n f at ≡ rights_ok (n - i) f (at + entry_bytes * i)
      → false ≡ rights_ok n f at
  unfolding rights_ok
  rights_fail q e k = sym (k ∙ here ∙ rw (← q, e))

  pub rights_on : {b : Bool} → b ≡ rights_are f (at + entry_bytes * i) → b ≡ true → rights_ok n f at ≡ rights_ok (n - i) f (at + entry_bytes * i)
      → rights_ok n f at ≡ rights_ok (n - (i + 1)) f (at + entry_bytes * (i + 1))
  unfolding rights_ok
  rights_on q e k =
      let a : at + entry_bytes * i + entry_bytes ≡ at + entry_bytes * suc i = omega arith in
      k ∙ here ∙ rw (← q, e, add-one i, a)

pub rights_end : (f : List ℕ) (at n i : ℕ) → n ≤ i → rights_ok n f at ≡ rights_ok (n - i) f (at + entry_bytes * i) → true ≡ rights_ok n f at
unfolding rights_ok
rights_end f at n i h k = let z : n - i ≡ 0 = omega arith in sym (rw z at k)
