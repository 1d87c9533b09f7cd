-- What a slot gives: each way through the code, and what it says of the rules' hit.
use Rattle.std.proofs.Common.{◌≡◌, ℕ, ◌<◌, ◌≤◌, Bool, true, false, cond, ◌&&◌, eqb, ltb, List, get_or}
use Rattle.std.proofs.Common.{sym, refl, ap, ◌∙◌, ltb-false, ltb-true, le-ltb, lt-ltb, eq-eqb, eqb-true, if◌then◌else◌, Some, None}
use mathlib.Core.Option.{none, some}
use Rattle.paging.specs.declared.Access.{Access}
use Rattle.paging.specs.declared.Entry.{Entry}
use Rattle.paging.specs.Buffer.{serves, hit, buffer_ok}
use Rattle.buffer.specs.Held.{page_in, frame_in, count, unpack, entries_in, index_of, slot_hit, Buffer}
use Rattle.buffer.proofs.Slots.{length-held, held_at}
use Rattle.buffer.proofs.Keeping.{has_none}
use Rattle.buffer.proofs.Entries.{buffer_entries, hit_none, hit_at, index_page}

module _ (l : List ℕ) (i p : ℕ) (k : Access) (user : Bool) where
  abbrev here : Entry
  here = unpack (get_or l i 0)

  pub slot_past : count l ≤ i → None ≡ slot_hit l i p k user
  unfolding slot_hit
  slot_past h = rw (le-ltb _ _ h)

  module _ (h : i < count l) {s : Bool} (q : s ≡ serves here k user) where
    pub slot_serves : eqb (page_in (get_or l i 0)) p && s ≡ true → Some (frame_in (get_or l i 0)) ≡ slot_hit l i p k user
    unfolding slot_hit
    slot_serves e = rw (lt-ltb _ _ h, ← q, e)

    pub slot_refuses : eqb (page_in (get_or l i 0)) p && s ≡ false → None ≡ slot_hit l i p k user
    unfolding slot_hit
    slot_refuses e = rw (lt-ltb _ _ h, ← q, e)

  -- a slot's entry decides, as no other has its page
  module _ (n : ℕ) (b : Buffer l) (ok : buffer_ok n (entries_in l) ≡ true) where
    decides : i < count l → here.page ≡ p → hit p k user (entries_in l) ≡ cond (serves here k user) (some here.frame) none
    decides h q =
        let e = held_at l i h in
        rw e at (hit_at n p k user (entries_in l) i (buffer_entries n (entries_in l) ok) (rw (length-held l b) h) (ap (λ (x : Entry). x.page) e ∙ q))

    pub slot_frame : {f : ℕ} → slot_hit l i p k user ≡ Some f → hit p k user (entries_in l) ≡ some f
    unfolding slot_hit
    slot_frame {f} h = go (ltb i (count l)) refl (eqb here.page p) refl (serves here k user) refl h
      where
        go : (x : Bool) → ltb i (count l) ≡ x → (y : Bool) → eqb here.page p ≡ y → (z : Bool) → serves here k user ≡ z
            → (if x && (y && z) then Some here.frame else None) ≡ Some f → hit p k user (entries_in l) ≡ some f
        go true a true c true d g = decides (ltb-true _ _ a) (eqb-true _ _ c) ∙ rw d (cc)
        go true a true c false d g = cc
        go true a false c z d g = cc
        go false a y c z d g = cc

    pub slot_miss : i ≡ index_of p (entries_in l) → slot_hit l i p k user ≡ None → hit p k user (entries_in l) ≡ none
    unfolding slot_hit
    slot_miss w h = go (ltb i (count l)) refl (serves here k user) refl h
      where
        go : (x : Bool) → ltb i (count l) ≡ x → (z : Bool) → serves here k user ≡ z
            → (if x && (eqb here.page p && z) then Some here.frame else None) ≡ None → hit p k user (entries_in l) ≡ none
        go false a z d g = hit_none p k user (entries_in l) (has_none p (entries_in l) (rw (← w, length-held l b) (ltb-false _ _ a)))
        go true a z d g =
            let t : i < count l = ltb-true _ _ a in
            let q : here.page ≡ p =
            ap (λ (x : Entry). x.page) (sym (held_at l i t)) ∙ (ap (λ (j : ℕ). (get_or (entries_in l) j (unpack 0)).page) w ∙ index_page p (entries_in l) (rw (← w, length-held l b) t)) in
            decides t q ∙ turn z d (rw (eq-eqb _ _ q) at g)
          where
            turn : (z : Bool) → serves here k user ≡ z → (if z then Some here.frame else None) ≡ None
                → cond (serves here k user) (some here.frame) none ≡ none
            turn true d g = cc
            turn false d g = rw d
