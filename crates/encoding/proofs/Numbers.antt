-- Document 02, item 5: numbers written into a file and read from it, one law a turn.
use Prim.Native.Nat.{ℕ, zero, suc, ◌+◌, ◌/◌, ◌%◌, ◌^◌, ◌≤◌, ◌<◌}
use native.Mathlib.Nat.{not-suc-le-zero, le_of_suc-le-suc, div-div-eq-div-mul}
use native.Mathlib.Numerals.{add-one}
use native.Mathlib.Omega.{arith}
use mathlib.Core.List.{List, [], ◌∷◌, ◌++◌, append-nil, append_assoc}
use mathlib.Core.Path.{◌≡◌, refl, sym, ◌∙◌, ap, subst}
use lib.ListN.{length, get_or, take, drop, set, length-set, drop_of_length-le}
use lib.Seq.{take_all, take-suc-set, drop-cons, append_snoc}
use Rattle.memory.specs.Memory.{load_n}
use Rattle.std.specs.Int.{w32, w64, to_le_bytes}
use Rattle.text.specs.declared.Writer.{Writer}
use Rattle.text.specs.Adds.{Adds, Room}
use Rattle.text.proofs.Laws.{nothing_added, adds_then, adds_as}
use Rattle.encoding.specs.declared.Width.{Width}
use Rattle.encoding.specs.declared.Width.TheVariants.{Four, Eight}
use Rattle.encoding.specs.Encoding.{width, widths, little_endian, encoded, decoded, Fitting, Decoded}

-- ---- one number

pub length-little_endian : (n v : ℕ) → length (little_endian n v) ≡ n
unfolding little_endian
length-little_endian zero v = refl
length-little_endian (suc n) v = ap suc (length-little_endian n (v / 256))

-- as std writes them
word_bytes : (v : ℕ) → to_le_bytes w32 (v % 2 ^ 32) ≡ little_endian 4 v
unfolding little_endian
word_bytes v =
    let a : v % 2 ^ 32 % 256 ≡ v % 256 = omega arith in
    let b : v % 2 ^ 32 / 256 % 256 ≡ v / 256 % 256 = omega arith in
    let c : v % 2 ^ 32 / 65536 % 256 ≡ v / 256 / 256 % 256 = omega arith in
    let d : v % 2 ^ 32 / 16777216 % 256 ≡ v / 256 / 256 / 256 % 256 = omega arith in
    rw (← a, ← b, ← c, ← d) refl

long_bytes : (v : ℕ) → to_le_bytes w64 v ≡ little_endian 8 v
unfolding little_endian
long_bytes v =
    rw (div-div-eq-div-mul, div-div-eq-div-mul, div-div-eq-div-mul, div-div-eq-div-mul, div-div-eq-div-mul, div-div-eq-div-mul) refl

module _ (n : Width) (v : ℕ) {b : List ℕ} {w w' : Writer} where
  pub long_put : n ≡ Eight → b ≡ to_le_bytes w64 v → Adds b w w' → Adds (little_endian (width n) v) w w'
  long_put e p a = adds_as (p ∙ long_bytes v ∙ rw e refl) a

  pub short_put : n ≡ Four → b ≡ to_le_bytes w32 (v % 2 ^ 32) → Adds b w w' → Adds (little_endian (width n) v) w w'
  short_put e p a = adds_as (p ∙ word_bytes v ∙ rw e refl) a

-- a number of either width
module _ (n : Width) (f : List ℕ) (at : ℕ) where
  pub long_fits : n ≡ Eight → at + width n ≤ length f → at + 8 ≤ length f
  long_fits e h = rw e at h

  pub short_fits : n ≡ Four → at + width n ≤ length f → at + 4 ≤ length f
  short_fits e h = rw e at h

  pub long_got : {r : ℕ} → n ≡ Eight → r ≡ load_n 8 f at → r < 2 ^ 64 → (r ≡ load_n (width n) f at) × (r < 256 ^ width n)
  long_got e q s = rw e (q, s)

  pub short_got : {r : ℕ} → n ≡ Four → r ≡ load_n 4 f at → r < 2 ^ 32 → (r ≡ load_n (width n) f at) × (r < 256 ^ width n)
  short_got e q s = rw e (q, s)

-- ---- numbers written: the first i stand in the file up to p

widths_from : (ls : List Width) (i : ℕ) → i < length ls → widths (drop i ls) ≡ width (get_or ls i Four) + widths (drop (suc i) ls)
unfolding widths
widths_from ls i h = rw (drop-cons ls i Four h)

encoded_snoc : (i : ℕ) (ls : List Width) (vs : List ℕ) → i < length ls → i < length vs
    → encoded (take (suc i) ls) (take (suc i) vs) ≡ encoded (take i ls) (take i vs) ++ little_endian (width (get_or ls i Four)) (get_or vs i 0)
unfolding encoded
encoded_snoc i [] vs h k = absurd (not-suc-le-zero h)
encoded_snoc i (l ∷ ls) [] h k = absurd (not-suc-le-zero k)
encoded_snoc zero (l ∷ ls) (v ∷ vs) h k = append-nil (little_endian (width l) v)
encoded_snoc (suc i) (l ∷ ls) (v ∷ vs) h k =
    ap (λ (t : List ℕ). little_endian (width l) v ++ t) (encoded_snoc i ls vs (le_of_suc-le-suc h) (le_of_suc-le-suc k))
    ∙ sym (append_assoc (little_endian (width l) v) (encoded (take i ls) (take i vs)) (little_endian (width (get_or ls i Four)) (get_or vs i 0)))

pub record Putting (ls : List Width) (vs : List ℕ) (w₀ : Writer) (i : ℕ) (w : Writer) : Type 0 where
  pub adds : Adds (encoded (take i ls) (take i vs)) w₀ w
  pub left : w.end + widths (drop i ls) ≡ w₀.end + widths ls

module _ {ls : List Width} {vs : List ℕ} {w₀ : Writer} where
  pub putting_start : Putting ls vs w₀ 0 w₀
  unfolding encoded
  putting_start = record { adds = nothing_added w₀; left = refl }

  module _ {i : ℕ} {w : Writer} (h : Putting ls vs w₀ i w) where
    -- there is room for the next
    pub putting_room : i < length ls → Room (widths ls) w₀ → Room (width (get_or ls i Four)) w
    putting_room l r = omega (arith, h.left, h.adds.size, widths_from ls i l, r)

    pub putting_on : {w' : Writer} → i < length ls → length vs ≡ length ls → Adds (little_endian (width (get_or ls i Four)) (get_or vs i 0)) w w'
        → Putting ls vs w₀ (i + 1) w'
    putting_on {w'} l k a = record {
      adds = rw (add-one i) (adds_as (sym (encoded_snoc i ls vs l (omega arith))) (adds_then h.adds a));
      left =
          rw (add-one i)
          (omega (arith, a.written.end, length-little_endian (width (get_or ls i Four)) (get_or vs i 0), widths_from ls i l, h.left));
    }

    pub putting_end : length ls ≤ i → length vs ≡ length ls → Adds (encoded ls vs) w₀ w
    putting_end l k = rw (take_all i ls l, take_all i vs (omega arith)) at h.adds

-- ---- numbers read: the first i are, and the others stand in the file from p on

pub record Getting (ls : List Width) (f : List ℕ) (at i : ℕ) (ns : List ℕ) (p : ℕ) : Type 0 where
  pub same : take i ns ++ decoded (drop i ls) f p ≡ decoded ls f at
  pub fitting : Fitting (drop i ls) (decoded (drop i ls) f p) → Fitting ls (decoded ls f at)
  pub left : p + widths (drop i ls) ≡ at + widths ls
  pub size : length ns ≡ length ls

module _ {ls : List Width} {f : List ℕ} {at : ℕ} where
  pub getting_start : (ns : List ℕ) → length ns ≡ length ls → Getting ls f at 0 ns at
  getting_start ns k = record { same = refl; fitting = λ x. x; left = refl; size = k }

  module _ {i p : ℕ} {ns : List ℕ} (h : Getting ls f at i ns p) where
    pub getting_room : i < length ls → at + widths ls ≤ length f → p + width (get_or ls i Four) ≤ length f
    getting_room l r = omega (arith, h.left, widths_from ls i l, r)

    pub getting_on : {v w : ℕ} → i < length ls → (v ≡ load_n (width (get_or ls i Four)) f p) × (v < 256 ^ width (get_or ls i Four)) → w ≡ width (get_or ls i Four)
        → Getting ls f at (i + 1) (set ns i v) (p + w)
    unfolding decoded Fitting
    getting_on {v} {w} l q e =
        let d : drop i ls ≡ get_or ls i Four ∷ drop (suc i) ls = drop-cons ls i Four l in
        record {
          same =
              rw (add-one i, take-suc-set ns i v (omega (arith, h.size)), append_snoc (take i ns) v (decoded (drop (suc i) ls) f (p + w)), e, q.0)
              (rw d at h.same);
          fitting = rw (add-one i, e) (λ x. (rw d at h.fitting) (rw (← q.0) q.1, x));
          left = rw (add-one i) (omega (arith, e, widths_from ls i l, h.left));
          size = length-set ns i v ∙ h.size;
        }

    pub getting_end : length ls ≤ i → Decoded ls f at ns
    unfolding decoded Fitting
    getting_end l =
        let d : drop i ls ≡ [] = drop_of_length-le ls l in
        let s : ns ≡ decoded ls f at =
        sym (append-nil ns) ∙ ap (λ (t : List ℕ). t ++ []) (sym (take_all i ns (omega (arith, h.size)))) ∙ rw d at h.same in
        record { same = s; fitting = subst (λ (t : List ℕ). Fitting ls t) (sym s) ((rw d at h.fitting) tt) }
