-- Document 02, item 5: the numbers of a record that was read are those that stand in the file; the record's own direction is `rules/proofs/RecordNumbers.antt`.
use Prim.Native.Nat.{ℕ, zero, suc, ◌+◌, ◌≤◌}
use native.Mathlib.Omega.{arith}
use mathlib.Core.Bool.{true}
use mathlib.Core.List.{List, [], ◌∷◌}
use mathlib.Core.Path.{◌≡◌, refl, sym, ◌∙◌, ap}
use borrow.Author.Tests.{leb-true}
use lib.Dec.{leb}
use lib.ListN.{length, get_or, drop, drop_of_length-le}
use lib.Seq.{drop-cons}
use Rattle.word.proofs.BoolLaws.{both}
use Rattle.rules.specs.Arithmetic.{flag}
use Rattle.rules.specs.Record.{stop_number, cause_number}
use Rattle.rules.specs.Numbers.{numbers_of, flag_of, stop_of, cause_of, record_by, record_of}
use Rattle.machine_file.specs.Judged.{flag_ok, numbers_ok}

-- ---- flags, stop reasons and causes, from their numbers and back

pub flag_back : (n : ℕ) → n ≤ 1 → flag (flag_of n) ≡ n
flag_back zero h = refl
flag_back (suc zero) h = refl
flag_back (suc (suc n)) h = absurd (omega arith)

stop_back : (n : ℕ) → n ≤ 3 → stop_number (stop_of n) ≡ n
unfolding stop_of
stop_back zero h = refl
stop_back (suc zero) h = refl
stop_back (suc (suc zero)) h = refl
stop_back (suc (suc (suc zero))) h = refl
stop_back (suc (suc (suc (suc n)))) h = absurd (omega arith)

cause_back : (n : ℕ) → n ≤ 7 → cause_number (cause_of n) ≡ n
unfolding cause_of
cause_back zero h = refl
cause_back (suc zero) h = refl
cause_back (suc (suc zero)) h = refl
cause_back (suc (suc (suc zero))) h = refl
cause_back (suc (suc (suc (suc zero)))) h = refl
cause_back (suc (suc (suc (suc (suc zero))))) h = refl
cause_back (suc (suc (suc (suc (suc (suc zero)))))) h = refl
cause_back (suc (suc (suc (suc (suc (suc (suc zero))))))) h = refl
cause_back (suc (suc (suc (suc (suc (suc (suc (suc n)))))))) h = absurd (omega arith)

-- ---- a list of numbers, written out

listed : ℕ → ℕ → List ℕ → List ℕ
listed zero i l = []
listed (suc n) i l = get_or l i 0 ∷ listed n (suc i) l

listed_all : (n i : ℕ) (l : List ℕ) → i + n ≡ length l → listed n i l ≡ drop i l
unfolding listed
listed_all zero i l e = let h : length l ≤ i = omega (arith, e) in sym (drop_of_length-le l h)
listed_all (suc n) i l e = ap (λ (t : List ℕ). get_or l i 0 ∷ t) (listed_all n (suc i) l (omega arith)) ∙ sym (drop-cons l i 0 (omega arith))

-- numbers with a meaning are those of the record that they give
pub numbers_back : (l : List ℕ) (taken written : ℕ) → length l ≡ 25 → numbers_ok l ≡ true → numbers_of (record_of l taken written) ≡ l
unfolding numbers_ok record_by listed
numbers_back l taken written n h =
    let m = both _ (flag_ok l 22) h in
    let g = both _ (leb (get_or l 20 0) 7) m.0 in
    let f = both _ (leb (get_or l 19 0) 3) g.0 in
    let e = both _ (flag_ok l 18) f.0 in
    let d = both _ (flag_ok l 17) e.0 in
    let c = both _ (flag_ok l 16) d.0 in
    let b = both _ (flag_ok l 15) c.0 in
    let a = both (flag_ok l 13) (flag_ok l 14) b.0 in
    rw (
      flag_back (get_or l 13 0) (leb-true (get_or l 13 0) 1 a.0),
      flag_back (get_or l 14 0) (leb-true (get_or l 14 0) 1 a.1),
      flag_back (get_or l 15 0) (leb-true (get_or l 15 0) 1 b.1),
      flag_back (get_or l 16 0) (leb-true (get_or l 16 0) 1 c.1),
      flag_back (get_or l 17 0) (leb-true (get_or l 17 0) 1 d.1),
      flag_back (get_or l 18 0) (leb-true (get_or l 18 0) 1 e.1),
      stop_back (get_or l 19 0) (leb-true (get_or l 19 0) 3 f.1),
      cause_back (get_or l 20 0) (leb-true (get_or l 20 0) 7 g.1),
      flag_back (get_or l 22 0) (leb-true (get_or l 22 0) 1 m.1),
    )
    (listed_all 25 0 l (sym n))
