-- The number of an entry, and the rights read from it.
use Rattle.std.proofs.Common.{◌≡◌, ℕ, ◌+◌, ◌*◌, ◌/◌, ◌%◌, ◌<◌, ◌≤◌, Bool, true, false, arith, eq-eqb, ne_eqb}
use mir.Val.{bool_byte}
use Rattle.paging.specs.Walk.{bit}
use Rattle.buffer.specs.Held.{page_unit, frame_unit, frames, page_in, frame_in, entry, unpack}

pub bool_le : (b : Bool) → bool_byte b ≤ 1
bool_le true = omega arith
bool_le false = omega arith

bit_bool : (k n : ℕ) (u : Bool) → n / k % 2 ≡ bool_byte u → bit k n ≡ u
unfolding bit
bit_bool k n true e = eq-eqb _ _ e
bit_bool k n false e = ne_eqb _ _ (λ (q : n / k % 2 ≡ 1). omega arith)

pub pack_is : (p f : ℕ) (u w : Bool) → f < frames → unpack (p * page_unit + (f * frame_unit + (bool_byte u * 2 + bool_byte w))) ≡ entry p f u w
pack_is p f u w h =
    let n = p * page_unit + (f * frame_unit + (bool_byte u * 2 + bool_byte w)) in
    let bu = bool_le u in let bw = bool_le w in
    let e1 : page_in n ≡ p = omega arith in
    let e2 : frame_in n ≡ f = omega arith in
    let e3 : bit 2 n ≡ u = bit_bool 2 n u (omega arith) in
    let e4 : bit 1 n ≡ w = bit_bool 1 n w (omega arith) in
    cc
