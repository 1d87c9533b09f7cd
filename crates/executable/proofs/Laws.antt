-- Document 01, "Numbers returned": how each answer of a load follows from the tests before it.
use Rattle.std.proofs.Common.{Ok, Err}
use Prim.Native.Nat.{ℕ, ◌-◌, ◌<◌, ◌≤◌}
use mathlib.Core.Bool.{Bool, true, false, not}
use mathlib.Core.Path.{◌≡◌}
use mathlib.Core.List.{List}
use lib.ListN.{length}
use borrow.Author.Tests.{not-true, not-false, lt-leb, le-leb, ne_eqb, eq-eqb}
use Rattle.memory.specs.Memory.{size_ok}
use Rattle.executable.specs.declared.LoadRefusal.TheVariants.{BadSize, ShortFile, BadMagic, BadBody, BadDataStart, BadEntry}
use Rattle.executable.specs.Executable.{magic_of, entry_of, data_start_of, body_ok, entry_ok, load_answer}

module _ (size : ℕ) (file : List ℕ) {s : Bool} (p : s ≡ size_ok size) where
  pub bad_size : not s ≡ true → Err BadSize ≡ load_answer size file
  unfolding load_answer
  bad_size e = rw (← p, not-true s e)

  module _ (hs : not s ≡ false) where
    pub short_file : length file < 16 → Err ShortFile ≡ load_answer size file
    unfolding load_answer
    short_file e = rw (← p, not-false s hs, lt-leb 16 (length file) e)

    module _ (hl : 16 ≤ length file) {w : ℕ} (pm : w ≡ magic_of file) where
      pub bad_magic : (w ≡ 0xc0def00d → ⊥) → Err BadMagic ≡ load_answer size file
      unfolding load_answer
      bad_magic e = rw (← p, not-false s hs, le-leb 16 (length file) hl, ← pm, ne_eqb w 0xc0def00d e)

      module _ (hm : w ≡ 0xc0def00d) {b : Bool} (pb : b ≡ body_ok size (length file - 16)) where
        pub bad_body : not b ≡ true → Err BadBody ≡ load_answer size file
        unfolding load_answer
        bad_body e = rw (← p, not-false s hs, le-leb 16 (length file) hl, ← pm, eq-eqb w 0xc0def00d hm, ← pb, not-true b e)

        module _ (hb : not b ≡ false) {t : ℕ} (pt : t ≡ data_start_of file) where
          pub bad_data_start : length file - 16 < t → Err BadDataStart ≡ load_answer size file
          unfolding load_answer
          bad_data_start e = rw (← p, not-false s hs, le-leb 16 (length file) hl, ← pm, eq-eqb w 0xc0def00d hm, ← pb, not-false b hb, ← pt, lt-leb t (length file - 16) e)

          module _ (ht : t ≤ length file - 16) {n : ℕ} (pn : n ≡ entry_of file) {y : Bool} (py : y ≡ entry_ok n t) where
            pub bad_entry : not y ≡ true → Err BadEntry ≡ load_answer size file
            unfolding load_answer
            bad_entry e =
                rw (← p, not-false s hs, le-leb 16 (length file) hl, ← pm, eq-eqb w 0xc0def00d hm, ← pb, not-false b hb, ← pt, le-leb t (length file - 16) ht, ← pn, ← py, not-true y e)

            pub accepted : not y ≡ false → Ok tt ≡ load_answer size file
            unfolding load_answer
            accepted e =
                rw (← p, not-false s hs, le-leb 16 (length file) hl, ← pm, eq-eqb w 0xc0def00d hm, ← pb, not-false b hb, ← pt, le-leb t (length file - 16) ht, ← pn, ← py, not-false y e)
