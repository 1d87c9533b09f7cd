-- Document 02, item 5: the blocks of registers and entries, by what the readers and writers of their parts promise.
use Prim.Native.Nat.{ℕ, zero, suc, ◌%◌, ◌^◌, ◌<◌}
use native.Mathlib.Nat.{not-suc-le-zero, le_of_suc-le-suc, mod-eq_of_lt}
use mathlib.Core.Bool.{Bool, ◌&&◌}
use mathlib.Core.List.{List, [], ◌∷◌}
use mathlib.Core.Path.{◌≡◌, refl, ◌∙◌, ap, subst}
use lib.Dec.{lit<}
use lib.ListN.{length, get_or}
use Rattle.paging.specs.Buffer.{buffer_ok}
use Rattle.rules.specs.declared.Cpu.{Cpu}
use Rattle.rules.specs.declared.Machine.{Machine}
use Rattle.rules.specs.Numbers.{record_by, record_of, record_of_low}
use Rattle.rules.specs.Run.{registers_ok}
use Rattle.refusals.specs.View.{entries_of}
use Rattle.text.specs.declared.Writer.{Writer}
use Rattle.text.specs.Adds.{Adds}
use Rattle.encoding.specs.declared.Width.{Width}
use Rattle.encoding.specs.declared.Width.TheVariants.{Four}
use Rattle.encoding.specs.Encoding.{encoded, Fitting, Decoded}
use Rattle.encoding.specs.Entries.{rights_ok}
use Rattle.machine_file.specs.declared.Counts.{Counts}
use Rattle.machine_file.specs.Layout.{header_longs, register_longs, registers_at, entries_at, console_at, memory_at, header_of}
use Rattle.machine_file.proofs.Counted.{counted}
use Rattle.machine_file.specs.Judged.{numbers_in, cpu_in, machine_in, numbers_ok, record_ok}

-- the header, with the offsets as they were computed
pub header_added : (k : Counts) {x y : ℕ} {w w' : Writer} → x ≡ console_at k → y ≡ memory_at k
    → Adds (encoded header_longs (k.pages ∷ k.entries ∷ k.console ∷ registers_at ∷ entries_at ∷ x ∷ y ∷ [])) w w' → Adds (encoded header_longs (header_of k)) w w'
header_added k {w = w} {w' = w'} p q a =
    subst (λ (l : List ℕ). Adds (encoded header_longs l) w w')
    (λ i. k.pages ∷ k.entries ∷ k.console ∷ registers_at ∷ entries_at ∷ p i ∷ q i ∷ []) a

-- ---- the record

-- a word that was read is below 2^32
word_fits : (i : ℕ) (ls : List Width) (vs : List ℕ) → Fitting ls vs → i < length ls → get_or ls i Four ≡ Four → get_or vs i 0 < 2 ^ 32
unfolding Fitting
word_fits i [] vs f h e = absurd (not-suc-le-zero h)
word_fits i (l ∷ ls) [] f h e = lit< tt
word_fits zero (l ∷ ls) (v ∷ vs) f h e = rw e at f.0
word_fits (suc i) (l ∷ ls) (v ∷ vs) f h e = word_fits i ls vs f.1 (le_of_suc-le-suc h) e

-- so that the record is made of the numbers as they are
low_same : (ns : List ℕ) (taken written : ℕ) → Fitting register_longs ns → record_of_low ns taken written ≡ record_of ns taken written
unfolding record_by
low_same ns taken written f =
    let low : (i : ℕ) → i < 25 → get_or register_longs i Four ≡ Four → get_or ns i 0 % 2 ^ 32 ≡ get_or ns i 0 = λ i h e. mod-eq_of_lt (word_fits i register_longs ns f h e) in
    rw (
      low 0 (lit< tt) refl,
      low 1 (lit< tt) refl,
      low 2 (lit< tt) refl,
      low 3 (lit< tt) refl,
      low 4 (lit< tt) refl,
      low 5 (lit< tt) refl,
      low 6 (lit< tt) refl,
      low 7 (lit< tt) refl,
      low 8 (lit< tt) refl,
      low 9 (lit< tt) refl,
      low 10 (lit< tt) refl,
      low 11 (lit< tt) refl,
      low 12 (lit< tt) refl,
    )

module _ (file : List ℕ) (k : Counts) {ns : List ℕ} (d : Decoded register_longs file registers_at ns) where
  pub cpu_read : {r : Cpu} → r ≡ record_of_low ns 0 k.console → r ≡ cpu_in file k
  unfolding cpu_in numbers_in
  cpu_read e = e ∙ low_same ns 0 k.console d.fitting ∙ ap (λ (l : List ℕ). record_of l 0 k.console) d.same

  -- ---- refusal 16

  pub record_judged : (size : ℕ) {m : Machine} {n r g e : Bool} → n ≡ numbers_ok ns → r ≡ rights_ok k.entries file entries_at → m ≡ machine_in file k
      → g ≡ registers_ok size m.cpu → e ≡ buffer_ok size (entries_of m) → n && r && g && e ≡ record_ok size file k
  unfolding record_ok numbers_in machine_in
  record_judged size a b c g e = rw (a, b, g, e, c, counted file k, d.same)
