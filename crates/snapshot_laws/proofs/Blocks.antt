-- Document 02, item 5: numbers and entries as bytes, there and back. A block stands in a file at a place where the file without what is before it begins with it.
use Prim.Native.Nat.{ℕ, zero, suc, ◌+◌, ◌*◌, ◌/◌, ◌%◌, ◌^◌, ◌≤◌, ◌<◌}
use native.Mathlib.Nat.{pow-suc, div-lt_iff_lt-mul}
use native.Mathlib.Omega.{arith}
use mathlib.Core.Bool.{Bool, true, false, ◌&&◌}
use mathlib.Core.List.{List, [], ◌∷◌, ◌++◌, append_assoc}
use mathlib.Core.Path.{◌≡◌, refl, sym, ◌∙◌, ap}
use borrow.Author.Tests.{leb-true}
use lib.Dec.{leb, lit<}
use lib.ListN.{length, get_or, take, drop}
use lib.Seq.{drop-cons, drop-drop, drop_at, get_or-drop, take-add}
use Rattle.word.proofs.BoolLaws.{both}
use Rattle.memory.specs.Memory.{load_n}
use Rattle.paging.specs.declared.Entry.{Entry}
use Rattle.rules.specs.Arithmetic.{flag}
use Rattle.rules.specs.Numbers.{flag_of}
use Rattle.rules.proofs.RecordNumbers.{flag_read}
use Rattle.encoding.specs.declared.Width.{Width}
use Rattle.encoding.specs.Encoding.{width, widths, little_endian, encoded, decoded, Fitting}
use Rattle.encoding.specs.Entries.{entry_longs, entry_bytes, entry_numbers, encoded_entries, entry_in, entries_in, rights_are, rights_ok}
use Rattle.encoding.proofs.Numbers.{length-little_endian}
use Rattle.encoding.proofs.Entries.{length-entry}
use Rattle.snapshot_laws.specs.Carried.{Bytes}
use Rattle.snapshot_laws.proofs.NumbersBack.{flag_back}

-- ---- one number

-- a number is read from what begins at its place
load_from : (n : ℕ) (f : List ℕ) (at i : ℕ) → load_n n f (at + i) ≡ load_n n (drop at f) i
unfolding load_n
load_from zero f at i = refl
load_from (suc n) f at i =
    let e : suc (at + i) ≡ at + suc i = omega arith in
    rw (e, get_or-drop at f i 0, load_from n f at (suc i))

load_next : (n : ℕ) (x : ℕ) (l : List ℕ) (i : ℕ) → load_n n (x ∷ l) (suc i) ≡ load_n n l i
unfolding load_n
load_next zero x l i = refl
load_next (suc n) x l i = rw (load_next n x l (suc i))

load_little : (n v : ℕ) (rest : List ℕ) → v < 256 ^ n → load_n n (little_endian n v ++ rest) 0 ≡ v
unfolding load_n little_endian
load_little zero v rest h = omega arith
load_little (suc n) v rest h =
    let l : v / 256 < 256 ^ n = (div-lt_iff_lt-mul (lit< tt)).1 (rw (pow-suc 256 n) at h) in
    rw (load_next n (v % 256) (little_endian n (v / 256) ++ rest) 0, load_little n (v / 256) rest l) (omega arith)

module _ (f : List ℕ) (at : ℕ) where
  from_place : (n : ℕ) → load_n n f at ≡ load_n n (drop at f) 0
  from_place n = let e : at ≡ at + 0 = omega arith in ap (λ (a : ℕ). load_n n f a) e ∙ load_from n f at 0

  -- a number that stands at a place is read
  load_standing : (n v : ℕ) (rest : List ℕ) → v < 256 ^ n → drop at f ≡ little_endian n v ++ rest → load_n n f at ≡ v
  load_standing n v rest h e = from_place n ∙ ap (λ (l : List ℕ). load_n n l 0) e ∙ load_little n v rest h

-- and back: the bytes of a number that was read
little_back : (n : ℕ) (f : List ℕ) (at : ℕ) → Bytes f → at + n ≤ length f → little_endian n (load_n n f at) ≡ take n (drop at f)
unfolding load_n little_endian
little_back zero f at b h = refl
little_back (suc n) f at b h =
    let x = get_or f at 0 in
    let y = load_n n f (suc at) in
    let low : (x + 256 * y) % 256 ≡ x = omega (arith, b at) in
    let high : (x + 256 * y) / 256 ≡ y = omega (arith, b at) in
    rw (low, high, drop-cons f at 0 (omega arith), little_back n f (suc at) b (omega arith))

-- ---- numbers

-- numbers that stand at a place are read
pub decoded_standing : (ls : List Width) (vs f : List ℕ) (at : ℕ) (rest : List ℕ) → Fitting ls vs → length vs ≡ length ls → drop at f ≡ encoded ls vs ++ rest
    → decoded ls f at ≡ vs
unfolding decoded encoded Fitting
decoded_standing [] [] f at rest p k e = refl
decoded_standing [] (v ∷ vs) f at rest p k e = absurd (omega (arith, k))
decoded_standing (l ∷ ls) [] f at rest p k e = absurd (omega (arith, k))
decoded_standing (l ∷ ls) (v ∷ vs) f at rest p k e =
    let w = width l in
    let s : drop at f ≡ little_endian w v ++ (encoded ls vs ++ rest) = e ∙ append_assoc (little_endian w v) (encoded ls vs) rest in
    let t : drop (at + w) f ≡ encoded ls vs ++ rest =
    sym (drop-drop w at f) ∙ ap (drop w) s ∙ drop_at (little_endian w v) (encoded ls vs ++ rest) w (length-little_endian w v) in
    λ i. load_standing f at w v (encoded ls vs ++ rest) p.0 s i ∷ decoded_standing ls vs f (at + w) rest p.1 (omega (arith, k)) t i

-- and back
pub encoded_back : (ls : List Width) (f : List ℕ) (at : ℕ) → Bytes f → at + widths ls ≤ length f → encoded ls (decoded ls f at) ≡ take (widths ls) (drop at f)
unfolding decoded encoded widths
encoded_back [] f at b h = refl
encoded_back (l ∷ ls) f at b h =
    rw (take-add (width l) (widths ls) (drop at f), drop-drop (width l) at f, ← little_back (width l) f at b (omega arith), ← encoded_back ls f (at + width l) b (omega arith))

-- ---- entries

-- an entry that a word holds
abbrev pub InWords : Entry → Type 0
InWords e = (e.page < 2 ^ 32) × (e.frame < 2 ^ 32)

flag_fits : (b : Bool) → flag b < 2 ^ 32
flag_fits true = lit< tt
flag_fits false = lit< tt

flags_ok : (a b : Bool) → (leb (flag a) 1 && leb (flag b) 1) ≡ true
flags_ok true true = refl
flags_ok true false = refl
flags_ok false true = refl
flags_ok false false = refl

-- the four words of an entry
entry_words : (f : List ℕ) (at : ℕ) → decoded entry_longs f at ≡ load_n 4 f at ∷ load_n 4 f (at + 4) ∷ load_n 4 f (at + 8) ∷ load_n 4 f (at + 12) ∷ []
unfolding decoded
entry_words f at =
    let a : at + 4 + 4 ≡ at + 8 = omega arith in
    let b : at + 4 + 4 + 4 ≡ at + 12 = omega arith in
    λ i. load_n 4 f at ∷ load_n 4 f (at + 4) ∷ load_n 4 f (a i) ∷ load_n 4 f (b i) ∷ []

-- an entry that stands at a place
module _ (e : Entry) (f : List ℕ) (at : ℕ) (rest : List ℕ) (p : InWords e) (q : drop at f ≡ encoded entry_longs (entry_numbers e) ++ rest) where
  words : load_n 4 f at ∷ load_n 4 f (at + 4) ∷ load_n 4 f (at + 8) ∷ load_n 4 f (at + 12) ∷ [] ≡ entry_numbers e
  unfolding Fitting
  words =
      sym (entry_words f at)
      ∙ decoded_standing entry_longs (entry_numbers e) f at rest (p.0, (p.1, (flag_fits e.user, (flag_fits e.write, tt)))) refl q

  -- is read
  entry_standing : entry_in f at ≡ e
  entry_standing = λ i. record {
    page = get_or (words i) 0 0;
    frame = get_or (words i) 1 0;
    user = (ap (λ (l : List ℕ). flag_of (get_or l 2 0)) words ∙ flag_read e.user) i;
    write = (ap (λ (l : List ℕ). flag_of (get_or l 3 0)) words ∙ flag_read e.write) i;
  }

  -- and has the rights of an entry
  rights_standing : rights_are f at ≡ true
  rights_standing =
      rw (ap (λ (l : List ℕ). get_or l 2 0) words, ap (λ (l : List ℕ). get_or l 3 0) words) (flags_ok e.user e.write)

unfoldable pub AllInWords : List Entry → Type 0
AllInWords [] = Unit
AllInWords (e ∷ es) = InWords e × AllInWords es

-- entries that stand at a place are read, and their rights are 0 or 1
module _ (f rest : List ℕ) where
  after_entry : (e : Entry) (es : List Entry) (at : ℕ) → drop at f ≡ encoded_entries (e ∷ es) ++ rest
      → (drop at f ≡ encoded entry_longs (entry_numbers e) ++ (encoded_entries es ++ rest)) × (drop (at + entry_bytes) f ≡ encoded_entries es ++ rest)
  unfolding encoded_entries
  after_entry e es at q =
      let bytes = encoded entry_longs (entry_numbers e) in
      let s : drop at f ≡ bytes ++ (encoded_entries es ++ rest) = q ∙ append_assoc bytes (encoded_entries es) rest in
      (s, sym (drop-drop entry_bytes at f) ∙ ap (drop entry_bytes) s ∙ drop_at bytes (encoded_entries es ++ rest) entry_bytes (length-entry e))

  pub entries_standing : (es : List Entry) (at : ℕ) → AllInWords es → drop at f ≡ encoded_entries es ++ rest → entries_in (length es) f at ≡ es
  unfolding entries_in AllInWords
  entries_standing [] at p q = refl
  entries_standing (e ∷ es) at p q =
      let s = after_entry e es at q in
      λ i. entry_standing e f at (encoded_entries es ++ rest) p.0 s.0 i ∷ entries_standing es (at + entry_bytes) p.1 s.1 i

  pub rights_read : (es : List Entry) (at : ℕ) → AllInWords es → drop at f ≡ encoded_entries es ++ rest → rights_ok (length es) f at ≡ true
  unfolding rights_ok AllInWords
  rights_read [] at p q = refl
  rights_read (e ∷ es) at p q =
      let s = after_entry e es at q in
      rw (rights_standing e f at (encoded_entries es ++ rest) p.0 s.0) (rights_read es (at + entry_bytes) p.1 s.1)

-- and back
entry_back : (f : List ℕ) (at : ℕ) → rights_are f at ≡ true → entry_numbers (entry_in f at) ≡ decoded entry_longs f at
entry_back f at h =
    let r = both (leb (load_n 4 f (at + 8)) 1) (leb (load_n 4 f (at + 12)) 1) h in
    rw (flag_back (load_n 4 f (at + 8)) (leb-true (load_n 4 f (at + 8)) 1 r.0), flag_back (load_n 4 f (at + 12)) (leb-true (load_n 4 f (at + 12)) 1 r.1))
    (sym (entry_words f at))

pub entries_back : (n : ℕ) (f : List ℕ) (at : ℕ) → Bytes f → at + entry_bytes * n ≤ length f → rights_ok n f at ≡ true
    → encoded_entries (entries_in n f at) ≡ take (entry_bytes * n) (drop at f)
unfolding encoded_entries entries_in rights_ok widths
entries_back zero f at b h r = refl
entries_back (suc n) f at b h r =
    let t = both (rights_are f at) (rights_ok n f (at + entry_bytes)) r in
    let m : entry_bytes * suc n ≡ entry_bytes + entry_bytes * n = omega arith in
    let first : encoded entry_longs (entry_numbers (entry_in f at)) ≡ take entry_bytes (drop at f) =
    ap (encoded entry_longs) (entry_back f at t.0) ∙ encoded_back entry_longs f at b (omega arith) in
    let others = entries_back n f (at + entry_bytes) b (omega arith) t.1 in
    (λ i. first i ++ others i)
    ∙ ap (λ (l : List ℕ). take entry_bytes (drop at f) ++ take (entry_bytes * n) l) (sym (drop-drop entry_bytes at f))
    ∙ sym (take-add entry_bytes (entry_bytes * n) (drop at f))
    ∙ ap (λ (k : ℕ). take k (drop at f)) (sym m)
