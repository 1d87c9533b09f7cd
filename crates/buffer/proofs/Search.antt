-- The search for a page in the lent array: what `position` finds among the counted numbers, or their count, is where the page's entry stands.
use Rattle.std.proofs.Common.{◌≡◌, ℕ, suc, ◌+◌, ◌≤◌, Bool, true, false, cond, eqb, ltb, List}
use Rattle.std.proofs.Common.{[], ◌∷◌, map, length, take, refl, arith, length-take-le, ltb-false, Option, Some, None, if◌then◌else◌}
use Rattle.std.specs.Prelude.{unwrap_or, position}
use Rattle.std.specs.List.{position_or_len}
use Rattle.std.proofs.lemmas.List.Recursion.{is_position_or_len}
use Rattle.buffer.specs.Held.{page_in, count, unpack, entries_in, index_of, Buffer}

module _ (p : ℕ) where
  abbrev pub of_page : ℕ → Bool
  of_page e = eqb (page_in e) p

  index_first : (es : List ℕ) → index_of p (map unpack es) ≡ position_or_len of_page es
  unfolding index_of
  index_first = is_position_or_len (λ es. index_of p (map unpack es)) of_page refl (λ x xs. go (of_page x) _)
    where
      go : (b : Bool) (n : ℕ) → (if b then 0 else suc n) ≡ cond b 0 (1 + n)
      go true n = refl
      go false n = omega arith

  index_most : (es : List ℕ) → index_of p (map unpack es) ≤ length es
  unfolding index_of
  index_most [] = omega arith
  index_most (x ∷ xs) = go (of_page x) (index_most xs)
    where
      go : (b : Bool) {n k : ℕ} → n ≤ k → (if b then 0 else suc n) ≤ suc k
      go true h = omega arith
      go false h = omega arith

  pub searched : (l : List ℕ) → Buffer l → {r : Option ℕ} {n : ℕ} → r ≡ position of_page (take (count l) l) → n ≡ count l → unwrap_or r n ≡ index_of p (entries_in l)
  unfolding entries_in
  searched l b {r} {n} f e =
      let counted : length (take (count l) l) ≡ count l = length-take-le (count l) l (omega arith) in
      let most = rw (index_first (take (count l) l), counted) at (index_most (take (count l) l)) in
      rw (f, e, counted, index_first (take (count l) l)) (go (position_or_len of_page (take (count l) l)) most (ltb (position_or_len of_page (take (count l) l)) (count l)) refl)
    where
      go : (k : ℕ) → k ≤ count l → (c : Bool) → ltb k (count l) ≡ c → unwrap_or (cond c (Some k) None) (count l) ≡ k
      go k h true e = refl
      go k h false e = let past = ltb-false _ _ e in omega arith
