-- The fields of a word's line, written one after another.
use Prim.Native.Nat.{ℕ, ◌%◌}
use mathlib.Core.List.{List, [], ◌∷◌, ◌++◌, append-nil}
use mathlib.Core.Path.{◌≡◌, sym, ◌∙◌, ap}
use native.Mathlib.Omega.{arith}
use lib.ListN.{length, length-append}
use lib.Seq.{append_snoc}
use Rattle.text.specs.Ascii.{ascii}
use Rattle.text.specs.Hex.{hex_of}
use Rattle.text.specs.Signed.{signed_of}
use Rattle.text.specs.declared.Writer.{Writer}
use Rattle.text.specs.Adds.{Adds}
use Rattle.text.proofs.Laws.{nothing_added, adds_then, adds_as}
use Rattle.text.proofs.HexLaws.{length-hex}
use Rattle.word.specs.Word.{sum}
use Rattle.mnemonics.specs.declared.OperandForm.{OperandForm}
use Rattle.mnemonics.specs.declared.OperandForm.TheVariants.{Nothing, Immediate, Target}
use Rattle.mnemonics.specs.Mnemonics.{form_of}
use Rattle.mnemonics.specs.Line.{spaced, operand_of, imm_of, fields_of, line_by, text_line, data_line}

-- address and word take 17 bytes
pub length_fields : (a w : ℕ) → length (fields_of a w) ≡ 17
length_fields a w = length-append (hex_of a) (spaced (hex_of w)) ∙ rw (length-hex 8 a, length-hex 8 w) (omega arith)

-- ---- the operand

module _ {form : OperandForm} (a i : ℕ) where
  pub no_operand : (w : Writer) → form ≡ Nothing → Adds (operand_of form a i) w w
  unfolding operand_of
  no_operand w e = rw e (nothing_added w)

  pub number_operand : {w w' : Writer} → form ≡ Immediate → Adds (spaced (signed_of i)) w w' → Adds (operand_of form a i) w w'
  unfolding operand_of
  number_operand e p = rw e p

  pub target_operand : {w w' : Writer} {x y : ℕ} → form ≡ Target → x ≡ sum a 4 → y ≡ sum x i → Adds (spaced (hex_of y)) w w' → Adds (operand_of form a i) w w'
  unfolding operand_of
  target_operand e f g p = rw (e, ← f, ← g) p

-- ---- the lines

module _ (a w : ℕ) {v₀ v₁ v₂ : Writer} where
  pub text_added : {v₃ v₄ : Writer} {i : ℕ} {form : OperandForm} {name : List ℕ} → Adds (fields_of a w) v₀ v₁ → Adds (32 ∷ []) v₁ v₂ → Adds name v₂ v₃
      → name ≡ (form_of (w % 256)).name → form ≡ (form_of (w % 256)).operand → i ≡ imm_of w → Adds (operand_of form a i) v₃ v₄ → Adds (text_line a w) v₀ v₄
  unfolding line_by
  text_added {i = i} {form = form} f s n e p q o =
      let name = (form_of (w % 256)).name in
      let named = adds_as (append_snoc (fields_of a w) 32 name) (adds_then (adds_then f s) (adds_as e n)) in
      let operand = ap (λ (e : OperandForm). operand_of e a i) p ∙ ap (operand_of (form_of (w % 256)).operand a) q in
      adds_as (ap (λ (t : List ℕ). fields_of a w ++ spaced name ++ t) operand) (adds_then named o)

  pub data_added : Adds (fields_of a w) v₀ v₁ → Adds (32 ∷ 100 ∷ 97 ∷ 116 ∷ 97 ∷ []) v₁ v₂ → Adds (data_line a w) v₀ v₂
  unfolding line_by operand_of ascii
  data_added f d = adds_as (sym (append-nil (fields_of a w ++ spaced (ascii "data")))) (adds_then f d)
