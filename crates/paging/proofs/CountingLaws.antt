-- Document 02, item 6: table walks, counted over events one after another.
use Prim.Native.Nat.{ℕ, ◌+◌, ◌%◌, ◌^◌, ◌<◌}
use mathlib.Core.Path.{◌≡◌, refl, ◌∙◌}
use mathlib.Core.List.{List, [], ◌∷◌, ◌++◌}
use native.Mathlib.Omega.{arith}
use Rattle.paging.specs.Event.{Event, walked, kept, emptied, marked, stored, delivered}
use Rattle.paging.specs.Counting.{walks_in, raised}

-- the walks of two lists of events
pub walks_append : (es fs : List Event) → walks_in (es ++ fs) ≡ walks_in es + walks_in fs
unfolding walks_in
walks_append [] fs = omega arith
walks_append (walked ∷ es) fs = omega (arith, walks_append es fs)
walks_append (kept w ∷ es) fs = omega (arith, walks_append es fs)
walks_append (emptied ∷ es) fs = omega (arith, walks_append es fs)
walks_append (marked a ∷ es) fs = omega (arith, walks_append es fs)
walks_append (stored a n ∷ es) fs = omega (arith, walks_append es fs)
walks_append (delivered c ∷ es) fs = omega (arith, walks_append es fs)

-- the counter after two lists of events
pub raised_append : (n : ℕ) (es fs : List Event) → raised n (es ++ fs) ≡ raised (raised n es) fs
unfolding raised
raised_append n [] fs = refl
raised_append n (walked ∷ es) fs = raised_append ((n + 1) % 2 ^ 64) es fs
raised_append n (kept w ∷ es) fs = raised_append n es fs
raised_append n (emptied ∷ es) fs = raised_append n es fs
raised_append n (marked a ∷ es) fs = raised_append n es fs
raised_append n (stored a b ∷ es) fs = raised_append n es fs
raised_append n (delivered c ∷ es) fs = raised_append n es fs

-- the counter has all walks, as long as they are below 2^64
pub raised_walks : (n : ℕ) (es : List Event) → n + walks_in es < 2 ^ 64 → raised n es ≡ n + walks_in es
unfolding walks_in raised
raised_walks n [] h = omega arith
raised_walks n (walked ∷ es) h =
    let e : (n + 1) % 2 ^ 64 ≡ n + 1 = omega arith in
    rw e (raised_walks (n + 1) es (omega arith) ∙ omega arith)
raised_walks n (kept w ∷ es) h = raised_walks n es h
raised_walks n (emptied ∷ es) h = raised_walks n es h
raised_walks n (marked a ∷ es) h = raised_walks n es h
raised_walks n (stored a b ∷ es) h = raised_walks n es h
raised_walks n (delivered c ∷ es) h = raised_walks n es h

-- events without a walk leave the counter
pub raised_none : (n : ℕ) (es : List Event) → walks_in es ≡ 0 → raised n es ≡ n
unfolding walks_in raised
raised_none n [] h = refl
raised_none n (walked ∷ es) h = absurd (omega arith)
raised_none n (kept w ∷ es) h = raised_none n es h
raised_none n (emptied ∷ es) h = raised_none n es h
raised_none n (marked a ∷ es) h = raised_none n es h
raised_none n (stored a b ∷ es) h = raised_none n es h
raised_none n (delivered c ∷ es) h = raised_none n es h

-- events with one walk raise it by one
pub raised_one : (n : ℕ) (es : List Event) → walks_in es ≡ 1 → raised n es ≡ (n + 1) % 2 ^ 64
unfolding walks_in raised
raised_one n [] h = absurd (omega arith)
raised_one n (walked ∷ es) h = raised_none ((n + 1) % 2 ^ 64) es (omega arith)
raised_one n (kept w ∷ es) h = raised_one n es h
raised_one n (emptied ∷ es) h = raised_one n es h
raised_one n (marked a ∷ es) h = raised_one n es h
raised_one n (stored a b ∷ es) h = raised_one n es h
raised_one n (delivered c ∷ es) h = raised_one n es h
