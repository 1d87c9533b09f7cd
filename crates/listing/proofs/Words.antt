-- Document 02, item 2: the words of an accepted file, "a short last word padded with zeros".
use Rattle.std.specs.Result.{is_err}
use Rattle.std.proofs.Common.{Result}
use Prim.Native.Nat.{ℕ, zero, suc, ◌+◌, ◌-◌, ◌/◌, ◌<◌, ◌≤◌}
use mathlib.Core.Bool.{Bool, true, false, true≢false}
use mathlib.Core.List.{List, [], ◌∷◌}
use Rattle.std.specs.Int.{w32, from_le_bytes}
use mathlib.Core.Path.{◌≡◌, refl, sym, ◌∙◌, ap}
use native.Mathlib.Nat.{add-suc}
use native.Mathlib.Omega.{arith}
use lib.ListN.{length, get_or}
use lib.Seq.{get_or-drop}
use Rattle.memory.specs.Memory.{load_n}
use Rattle.executable.specs.Executable.{load_number, load_answer, body_of}
use Rattle.executable.specs.declared.LoadRefusal.{LoadRefusal}
use Rattle.executable.proofs.Accepted.{Fit, fit, accepting, unrefused}
use Rattle.listing.specs.Listing.{memory_size, answer_of, line_of}
use Rattle.listing.specs.Stands.{HasWord}
use Rattle.listing.proofs.Lines.{none_refused, line_past}

-- a word of four bytes
pub four_bytes : (l : List ℕ) (at : ℕ) {p q r s n : ℕ} → p ≡ get_or l at 0 → q ≡ get_or l (at + 1) 0 → r ≡ get_or l (at + 2) 0 → s ≡ get_or l (at + 3) 0
    → n ≡ from_le_bytes w32 (p ∷ q ∷ r ∷ s ∷ []) → n ≡ load_n 4 l at
unfolding load_n
four_bytes l at e f g h k =
    let one : at + 1 ≡ suc at = omega arith in
    let two : at + 2 ≡ suc (suc at) = omega arith in
    let three : at + 3 ≡ suc (suc (suc at)) = omega arith in
    rw (k, e, f, g, h, one, two, three) (omega arith)

-- a word of the body is one of the file
pub load_body : (k : ℕ) (file : List ℕ) (at : ℕ) → load_n k file (16 + at) ≡ load_n k (body_of file) at
unfolding load_n
load_body zero file at = refl
load_body (suc k) file at = rw (get_or-drop 16 file at 0, ← load_body k file (suc at), add-suc 16 at)

-- ---- what is known of an accepted file

module _ (file : List ℕ) {a : Result Unit LoadRefusal} (p : a ≡ load_answer memory_size file) where
  pub number_of : {n : ℕ} → n ≡ load_number a → n ≡ answer_of file
  number_of q = q ∙ ap load_number p

  module _ {t : Bool} (s : t ≡ is_err a) where
    pub numbered : {n : ℕ} → n ≡ load_number a → t ≡ true → n ≡ 0 → ⊥
    numbered q h z = true≢false (sym h ∙ s ∙ ap is_err (accepting a (sym q ∙ z)))

    pub unnumbered : t ≡ false → answer_of file ≡ 0
    unnumbered h = ap load_number (sym p ∙ unrefused a (sym s ∙ h))

    pub fits : t ≡ false → Fit memory_size file
    fits h = fit memory_size file (sym p ∙ unrefused a (sym s ∙ h))

    pub has_word : (i : ℕ) → t ≡ false → i < (length file - 16 + 3) / 4 → HasWord file i
    has_word i h b = let f = fits h in record { header = f.header; body = f.body; word = omega arith }

-- ---- no listing has more lines than the run program's memory has words

lines_by : (file : List ℕ) (a n : ℕ) → a ≡ answer_of file → 8192 ≤ n → [] ≡ line_of file n
lines_by file zero n e h =
    let f = fit memory_size file (accepting _ (sym e)) in
    line_past file e refl n (omega (arith, f.body, h))
lines_by file (suc a) n e h = none_refused file n e (λ z. absurd (omega arith)) (λ z. absurd (omega arith))

pub no_more_lines : (file : List ℕ) (n : ℕ) → 8192 ≤ n → [] ≡ line_of file n
no_more_lines file n h = lines_by file (answer_of file) n refl h
