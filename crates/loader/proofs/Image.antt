-- Document 01, "The record and the loaded program": "Loading puts the body at address 0, zeros the rest": the two writes into memory are its image.
use Prim.Native.Nat.{ℕ, ◌+◌, ◌-◌}
use mathlib.Core.List.{List, ◌++◌, append-nil}
use mathlib.Core.Path.{◌≡◌, refl, ◌∙◌, ap}
use native.Mathlib.Omega.{arith}
use borrow.Rule.Slice.PartMut.{put_mid}
use lib.ListN.{length, take, drop, replicate, length-append, length-drop}
use lib.Seq.{take_all, take-append_seam, drop_at, drop-length}
use Rattle.rules.specs.Load.{image}
use Rattle.executable.specs.Executable.{body_of}
use Rattle.loader.specs.Loader.{Loadable}

-- zeros in the place of what follows the body
image_by : (body rest zeros : List ℕ) (n : ℕ) → n ≡ length body + length rest
    → zeros ≡ replicate (length (take (length (body ++ rest) - length body) (drop (length body) (body ++ rest)))) 0
    → put_mid (length body) (length (body ++ rest) - length body) (body ++ rest) zeros ≡ image n body
unfolding image
image_by body rest zeros n e z =
    let d : drop (length body) (body ++ rest) ≡ rest = drop_at body rest (length body) refl in
    let k : length body + length rest - length body ≡ length rest = omega arith in
    rw (z, length-append, k, take-append_seam body rest, d, take_all (length rest) rest (omega arith), drop-length rest, append-nil, e, k)

module _ (file m : List ℕ) (h : Loadable (length m) file) where
  -- the part of a file past its header
  abbrev part : List ℕ
  part = take (length file - 16) (drop 16 file)

  -- put at address 0, and zeros after it
  pub filled : {body zeros : List ℕ} → body ≡ part
      → zeros ≡ replicate (length (take (length (body ++ drop (length part) m) - length part) (drop (length part) (body ++ drop (length part) m)))) 0
      → put_mid (length part) (length (body ++ drop (length part) m) - length part) (body ++ drop (length part) m) zeros ≡ image (length m) (body_of file)
  filled {body} {zeros} e z =
      let d : length (drop 16 file) ≡ length file - 16 = length-drop 16 file in
      let b : part ≡ body_of file = take_all (length file - 16) (drop 16 file) (omega arith) in
      let l : length (drop (length part) m) ≡ length m - length part = length-drop (length part) m in
      let n : length part ≡ length file - 16 = rw b d in
      rw e (image_by part (drop (length part) m) zeros (length m) (omega arith) (rw e at z) ∙ ap (λ (x : List ℕ). image (length m) x) b)
