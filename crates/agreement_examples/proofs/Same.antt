-- Document 01, "How much a contract says": tests that compute whether all that demand 3 compares of two runs is equal; each is true, that is, what passes it is equal.
use Prim.Native.Nat.{ℕ}
use mathlib.Core.Path.{◌≡◌, refl}
use mathlib.Core.Bool.{Bool, true, false, ◌&&◌, false≢true}
use mathlib.Core.List.{List, [], ◌∷◌, head-eq_of_cons-eq, tail-eq_of_cons-eq}
use lib.Dec.{eqb}
use borrow.Author.Tests.{eqb-true}
use Rattle.word.proofs.BoolLaws.{both}
use Rattle.rules.specs.declared.Cpu.{Cpu}
use Rattle.rules.specs.Numbers.{numbers_of}
use Rattle.rules.proofs.RecordNumbers.{same_record_lem}
use Rattle.agreement.specs.Agreement.{Shown}
use Rattle.agreement.proofs.EqualTranscripts.{Compared}

-- ---- lists

module _ {A : Type 0} (test : A → A → Bool) where
  -- item by item
  abbrev pub same_all : List A → List A → Bool
  same_all [] [] = true
  same_all [] (y ∷ ys) = false
  same_all (x ∷ xs) [] = false
  same_all (x ∷ xs) (y ∷ ys) = test x y && same_all xs ys

  -- true if the test of two items is
  same_all_lem : ((x y : A) → test x y ≡ true → x ≡ y) → (xs ys : List A) → same_all xs ys ≡ true → xs ≡ ys
  same_all_lem sound [] [] e = refl
  same_all_lem sound [] (y ∷ ys) e = absurd (false≢true e)
  same_all_lem sound (x ∷ xs) [] e = absurd (false≢true e)
  same_all_lem sound (x ∷ xs) (y ∷ ys) e =
      let p = both (test x y) (same_all xs ys) e in
      λ i. sound x y p.0 i ∷ same_all_lem sound xs ys p.1 i

-- of numbers
abbrev pub same_numbers : List ℕ → List ℕ → Bool
same_numbers = same_all eqb

-- true
same_numbers_lem : (xs ys : List ℕ) → same_numbers xs ys ≡ true → xs ≡ ys
same_numbers_lem = same_all_lem eqb eqb-true

-- ---- the record

-- its numbers, keys taken, console bytes written
abbrev pub same_record : Cpu → Cpu → Bool
same_record c d = same_numbers (c.clock.taken ∷ c.written ∷ numbers_of c) (d.clock.taken ∷ d.written ∷ numbers_of d)

-- true
same_cpu : (c d : Cpu) → same_record c d ≡ true → c ≡ d
same_cpu c d e =
    let p = same_numbers_lem (c.clock.taken ∷ c.written ∷ numbers_of c) (d.clock.taken ∷ d.written ∷ numbers_of d) e in
    let q = tail-eq_of_cons-eq p in
    same_record_lem c d (tail-eq_of_cons-eq q) (head-eq_of_cons-eq p) (head-eq_of_cons-eq q)

-- ---- a state, and a run

-- record, memory, console
abbrev pub same_shown : Shown → Shown → Bool
same_shown s t = same_record s.cpu t.cpu && same_numbers s.mem t.mem && same_numbers s.console t.console

-- true
same_shown_lem : (s t : Shown) → same_shown s t ≡ true → s ≡ t
same_shown_lem s t e =
    let p = both (same_record s.cpu t.cpu && same_numbers s.mem t.mem) (same_numbers s.console t.console) e in
    let q = both (same_record s.cpu t.cpu) (same_numbers s.mem t.mem) p.0 in
    λ i. record { cpu = same_cpu s.cpu t.cpu q.0 i; mem = same_numbers_lem s.mem t.mem q.1 i; console = same_numbers_lem s.console t.console p.1 i }

-- answer, reported steps, states
abbrev pub same_run : Compared → Compared → Bool
same_run x y = eqb x.answer y.answer && eqb x.reported y.reported && same_all same_shown (x.last ∷ x.states) (y.last ∷ y.states)

-- true
same_run_lem : (x y : Compared) → same_run x y ≡ true → x ≡ y
same_run_lem x y e =
    let a = eqb x.answer y.answer in
    let r = eqb x.reported y.reported in
    let p = both (a && r) (same_all same_shown (x.last ∷ x.states) (y.last ∷ y.states)) e in
    let q = both a r p.0 in
    let s = same_all_lem same_shown same_shown_lem (x.last ∷ x.states) (y.last ∷ y.states) p.1 in
    λ i. record { answer = eqb-true x.answer y.answer q.0 i; reported = eqb-true x.reported y.reported q.1 i; states = tail-eq_of_cons-eq s i; last = head-eq_of_cons-eq s i }

-- runs whose test holds are equal in all that is compared
pub same_runs : (xs ys : List Compared) → same_all same_run xs ys ≡ true → xs ≡ ys
same_runs = same_all_lem same_run same_run_lem
