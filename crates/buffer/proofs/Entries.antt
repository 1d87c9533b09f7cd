-- Laws of the rules alone: among entries that refusal 3 lets pass, the entry of a page alone decides a hit, and its frame is in memory.
use Rattle.std.proofs.Common.{◌≡◌, ℕ, zero, suc, ◌/◌, ◌<◌, Bool, true, false, cond, not, ◌&&◌, ◌||◌, eqb, ltb, leb, List, [], ◌∷◌, length, get_or}
use Rattle.std.proofs.Common.{sym, refl, ◌∙◌, arith, ltb-true, eq-eqb, ne_eqb, eqb-true, if◌then◌else◌}
use mathlib.Core.Option.{none, some}
use borrow.Author.Tests.{not-true}
use Rattle.paging.specs.declared.Access.{Access}
use Rattle.paging.specs.declared.Entry.{Entry}
use Rattle.paging.specs.Buffer.{serves, hit, has, entry_page, capacity, entry_ok, entries_ok, buffer_ok}
use Rattle.word.proofs.BoolLaws.{both}
use Rattle.buffer.specs.Held.{unpack, index_of}

-- ---- the parts of the test

record Parts (n : ℕ) (e : Entry) (es : List Entry) : Type 0 where
  frame : e.frame < n / 4096
  once : has entry_page e.page es ≡ false
  rest : entries_ok n es ≡ true

parts : (n : ℕ) (e : Entry) (es : List Entry) → entries_ok n (e ∷ es) ≡ true → Parts n e es
unfolding entries_ok entry_ok
parts n e es h =
    let k = both (entry_ok n e) _ h in
    let f = both (ltb e.page 1048576) _ k.0 in
    let o = both (not (has entry_page e.page es)) _ k.1 in
    record { frame = ltb-true _ _ f.1; once = not-true _ o.0; rest = o.1 }

pub buffer_entries : (n : ℕ) (es : List Entry) → buffer_ok n es ≡ true → entries_ok n es ≡ true
unfolding buffer_ok
buffer_entries n es h = (both (leb (length es) capacity) _ h).1

-- ---- a hit

pub hit_none : (p : ℕ) (k : Access) (user : Bool) (es : List Entry) → has entry_page p es ≡ false → hit p k user es ≡ none
unfolding hit has
hit_none p k user [] h = refl
hit_none p k user (x ∷ xs) h = go (eqb x.page p) h (hit_none p k user xs)
  where
    go : (b : Bool) → (b || has entry_page p xs) ≡ false → (has entry_page p xs ≡ false → hit p k user xs ≡ none)
        → cond (b && serves x k user) (some x.frame) (hit p k user xs) ≡ none
    go true h' f = cc
    go false h' f = f h'

has_at : (p : ℕ) (es : List Entry) (i : ℕ) → i < length es → (get_or es i (unpack 0)).page ≡ p → has entry_page p es ≡ true
unfolding has
has_at p [] i l q = absurd (omega arith)
has_at p (x ∷ xs) zero l q = rw (eq-eqb _ _ q)
has_at p (x ∷ xs) (suc i) l q = go (eqb x.page p) (has_at p xs i (omega arith) q)
  where
    go : (b : Bool) → has entry_page p xs ≡ true → (b || has entry_page p xs) ≡ true
    go true h = refl
    go false h = h

-- no other entry has the page
pub hit_at : (n p : ℕ) (k : Access) (user : Bool) (es : List Entry) (i : ℕ) → entries_ok n es ≡ true → i < length es → (get_or es i (unpack 0)).page ≡ p
    → hit p k user es ≡ cond (serves (get_or es i (unpack 0)) k user) (some (get_or es i (unpack 0)).frame) none
unfolding hit
hit_at n p k user [] i h l q = absurd (omega arith)
hit_at n p k user (x ∷ xs) zero h l q =
    let d : has entry_page p xs ≡ false = rw q at (parts n x xs h).once in
    rw (eq-eqb _ _ q, hit_none p k user xs d)
hit_at n p k user (x ∷ xs) (suc i) h l q =
    let l' : i < length xs = omega arith in
    let d : (x.page ≡ p → ⊥) = λ r.
    let a : has entry_page p xs ≡ false = rw r at (parts n x xs h).once in
    let z : true ≡ false = sym (has_at p xs i l' q) ∙ a in
    let y : ◌≡◌ {A = ℕ} 0 1 = cc in omega arith
    in
    rw (ne_eqb _ _ d) (hit_at n p k user xs i (parts n x xs h).rest l' q)

-- the frame of a hit is in memory
pub hit_below : (n p : ℕ) (k : Access) (user : Bool) (es : List Entry) {f : ℕ} → entries_ok n es ≡ true → hit p k user es ≡ some f → f < n / 4096
unfolding hit
hit_below n p k user [] h q = absurd (let z : ◌≡◌ {A = ℕ} 0 1 = cc in omega arith)
hit_below n p k user (x ∷ xs) {f} h q = go (eqb x.page p && serves x k user) q (hit_below n p k user xs (parts n x xs h).rest)
  where
    go : (b : Bool) → cond b (some x.frame) (hit p k user xs) ≡ some f → (hit p k user xs ≡ some f → f < n / 4096) → f < n / 4096
    go true r i = let e : x.frame ≡ f = cc in rw (← e) (parts n x xs h).frame
    go false r i = i r

-- the page of the entry that the search finds
pub index_page : (p : ℕ) (es : List Entry) → index_of p es < length es → (get_or es (index_of p es) (unpack 0)).page ≡ p
unfolding index_of
index_page p [] l = absurd (omega arith)
index_page p (x ∷ xs) l = go (eqb x.page p) refl l (index_page p xs)
  where
    go : (b : Bool) → eqb x.page p ≡ b → (if b then 0 else suc (index_of p xs)) < suc (length xs)
        → (index_of p xs < length xs → (get_or xs (index_of p xs) (unpack 0)).page ≡ p) → (get_or (x ∷ xs) (if b then 0 else suc (index_of p xs)) (unpack 0)).page ≡ p
    go true e h f = eqb-true _ _ e
    go false e h f = f (omega arith)
