-- Document 01, "Addresses" and "The table reader": the page buffer is coherent with the page tables. Each entry gives its page's frame and
-- user right, and at most the write right that the two words give. Marks keep this, and so does a store that touches no word of an entry held.
use Prim.Native.Nat.{ℕ, ◌+◌, ◌/◌, ◌%◌, ◌≤◌}
use mathlib.Core.Path.{◌≡◌, refl, sym, ◌∙◌}
use mathlib.Core.Logic.{◌⊎◌, inl, inr}
use mathlib.Core.Bool.{Bool, true, false, ◌&&◌, ◌||◌}
use mathlib.Core.List.{List, [], ◌∷◌}
use native.Mathlib.Omega.{arith}
use lib.ListN.{length}
use lib.Dec.{ltb}
use borrow.Author.Tests.{ltb-false}
use Rattle.word.specs.Word.{cut}
use Rattle.memory.specs.Memory.{load_n, store_n}
use Rattle.memory.proofs.Laws.{length-store, load_other}
use Rattle.paging.specs.declared.Entry.{Entry}
use Rattle.paging.specs.Event.{Words}
use Rattle.paging.specs.Walk.{present, writable, for_user, accessed, dirty, dir_at, tab_at}
use Rattle.paging.specs.Held.{touches, touches_held}
use Rattle.word.proofs.BoolLaws.{neither}
use Rattle.paging.proofs.TableWord.{is_P, is_W, is_U, is_A, is_D, MarkedWord, flag_kept, user_was, MarkedMemory}

-- ---- the invariant

-- a directory word and a table word give the entry's frame, its user right, and at least its write right: D may be set in the table word
-- without the entry having it, as a write through another page may have set D.
pub record Maps (dw tw size : ℕ) (e : Entry) : Type 0 where
  pub dir_present : present dw ≡ true
  pub dir_accessed : accessed dw ≡ true
  pub dir_inside : ltb (cut 4096 dw) size ≡ true
  pub tab_present : present tw ≡ true
  pub tab_accessed : accessed tw ≡ true
  pub tab_inside : ltb (cut 4096 tw) size ≡ true
  pub frame_is : tw / 4096 ≡ e.frame
  pub user_right : e.user ≡ true → (for_user dw ≡ true) × (for_user tw ≡ true)
  pub user_exact : for_user dw ≡ true → for_user tw ≡ true → e.user ≡ true
  pub write_right : e.write ≡ true → (writable dw ≡ true) × (writable tw ≡ true) × (dirty tw ≡ true)

-- an entry, with the addresses of its words
pub record CoherentEntry (m : List ℕ) (pdir : ℕ) (e : Entry) (h : Words) : Type 0 where
  pub aligned : pdir % 4 ≡ 0
  pub page_is : h.page ≡ e.page
  pub dir_is : h.dir ≡ dir_at pdir e.page
  pub tab_is : h.tab ≡ tab_at (load_n 4 m h.dir) e.page
  pub maps : Maps (load_n 4 m h.dir) (load_n 4 m h.tab) (length m) e

-- all entries, with the addresses of their words
pub data Coherent (m : List ℕ) (pdir : ℕ) : List Entry → List Words → Type 0 where
  none_held : Coherent m pdir [] []
  one_more : {e : Entry} {h : Words} {es : List Entry} {hs : List Words} → CoherentEntry m pdir e h → Coherent m pdir es hs
      → Coherent m pdir (e ∷ es) (h ∷ hs)

-- ---- the addresses of the two words

pub dir_aligned : (pdir page : ℕ) → pdir % 4 ≡ 0 → dir_at pdir page % 4 ≡ 0
unfolding dir_at
dir_aligned pdir page h = omega arith

pub tab_aligned : (dw page : ℕ) → tab_at dw page % 4 ≡ 0
unfolding tab_at
tab_aligned dw page = omega arith

-- marks do not move the table
pub tab_kept : {w v : ℕ} (page : ℕ) → MarkedWord w v → tab_at v page ≡ tab_at w page
unfolding tab_at
tab_kept page g = rw g.frame

-- ---- marks

-- two words that are marked
maps_marked : {dw tw dv tv size : ℕ} {e : Entry} → MarkedWord dw dv → MarkedWord tw tv → Maps dw tw size e → Maps dv tv size e
maps_marked g h c = record {
  dir_present = flag_kept is_P g c.dir_present;
  dir_accessed = flag_kept is_A g c.dir_accessed;
  dir_inside = rw g.frame c.dir_inside;
  tab_present = flag_kept is_P h c.tab_present;
  tab_accessed = flag_kept is_A h c.tab_accessed;
  tab_inside = rw h.frame c.tab_inside;
  frame_is = h.frame ∙ c.frame_is;
  user_right = λ u.
      let r = c.user_right u in
      (flag_kept is_U g r.0, flag_kept is_U h r.1);
  user_exact = λ d t. c.user_exact (user_was g d) (user_was h t);
  write_right = λ u.
      let r = c.write_right u in
      (flag_kept is_W g r.0, flag_kept is_W h r.1, flag_kept is_D h r.2);
}

-- an entry's words lie at multiples of 4, where marks are set
entry_marked : {m n : List ℕ} {pdir : ℕ} {e : Entry} {h : Words} → MarkedMemory m n → CoherentEntry m pdir e h → CoherentEntry n pdir e h
entry_marked {m} {pdir = pdir} {e = e} {h = h} g c =
    let gd = g.words h.dir (rw c.dir_is (dir_aligned pdir e.page c.aligned)) in
    let gt = g.words h.tab (rw c.tab_is (tab_aligned (load_n 4 m h.dir) e.page)) in
    record {
      aligned = c.aligned;
      page_is = c.page_is;
      dir_is = c.dir_is;
      tab_is = c.tab_is ∙ sym (tab_kept e.page gd);
      maps = rw g.size (maps_marked gd gt c.maps);
    }

-- kept by marks, wherever they are set
pub coherent_marked : {m n : List ℕ} {pdir : ℕ} {es : List Entry} {hs : List Words} → MarkedMemory m n → Coherent m pdir es hs
    → Coherent n pdir es hs
coherent_marked g none_held = none_held
coherent_marked g (one_more c cs) = one_more (entry_marked g c) (coherent_marked g cs)

-- ---- stores

-- a store that does not touch a word leaves it
pub word_apart : (n : ℕ) (m : List ℕ) (a v w : ℕ) → touches a n w ≡ false → load_n 4 (store_n n m a v) w ≡ load_n 4 m w
unfolding touches
word_apart n m a v w t = load_other 4 n m w a v (go (ltb a (w + 4)) refl t)
  where
    go : (b : Bool) → ltb a (w + 4) ≡ b → b && ltb w (a + n) ≡ false → (w + 4 ≤ a) ⊎ (a + n ≤ w)
    go true e u = inr (ltb-false w (a + n) u)
    go false e u = inl (ltb-false a (w + 4) e)

-- an entry neither of whose words is touched
entry_stored : {m : List ℕ} {pdir : ℕ} {e : Entry} {h : Words} (n a v : ℕ) → touches a n h.dir ≡ false → touches a n h.tab ≡ false
    → CoherentEntry m pdir e h → CoherentEntry (store_n n m a v) pdir e h
entry_stored {m} {h = h} n a v s t c = record {
  aligned = c.aligned;
  page_is = c.page_is;
  dir_is = c.dir_is;
  tab_is = rw (word_apart n m a v h.dir s) c.tab_is;
  maps = rw (word_apart n m a v h.dir s, word_apart n m a v h.tab t, length-store n m a v) c.maps;
}

-- kept by a store of any size that touches no word of an entry held
pub coherent_stored : {m : List ℕ} {pdir : ℕ} {es : List Entry} {hs : List Words} (n a v : ℕ) → touches_held a n hs ≡ false
    → Coherent m pdir es hs → Coherent (store_n n m a v) pdir es hs
unfolding touches_held
coherent_stored n a v t none_held = none_held
coherent_stored n a v t (one_more {h = h} {hs = hs} c cs) =
    let d = touches a n h.dir in
    let b = touches a n h.tab in
    let p = neither (d || b) (touches_held a n hs) t in
    let q = neither d b p.0 in
    one_more (entry_stored n a v q.0 q.1 c) (coherent_stored n a v p.1 cs)
