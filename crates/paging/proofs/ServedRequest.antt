-- Document 01, "Addresses": where an entry serves, the walk would give the same frame and change nothing.
use Prim.Native.Nat.{ℕ}
use mathlib.Core.Path.{◌≡◌, refl}
use mathlib.Core.Bool.{Bool, true, false}
use mathlib.Core.List.{List}
use Rattle.memory.specs.Memory.{load_n}
use Rattle.paging.specs.declared.Access.{Access}
use Rattle.paging.specs.declared.Access.TheVariants.{Fetch, Read, Write}
use Rattle.paging.specs.declared.Entry.{Entry}
use Rattle.paging.specs.Event.{Words}
use Rattle.paging.specs.Walk.{is_write, user_ok, write_ok, allows, mark_for, Walked, walk_frame, walk_table, walk_below, walk_dir, walk}
use Rattle.paging.specs.Buffer.{serves}
use Rattle.paging.specs.Translate.{Request, in_frame, answer_of}
use Rattle.word.proofs.BoolLaws.{both}
use Rattle.paging.proofs.TableWord.{mark_A, mark_D, mark_again}
use Rattle.paging.proofs.Coherent.{Maps, CoherentEntry}

-- an entry that serves a user access has user right
served_user : (e : Entry) (k : Access) → serves e k true ≡ true → e.user ≡ true
unfolding serves
served_user e k s = (both e.user _ s).0

-- an entry that serves a write has write right
served_write : (e : Entry) (user : Bool) → serves e Write user ≡ true → e.write ≡ true
unfolding serves is_write
served_write e true s = (both e.user e.write s).1
served_write e false s = s

-- "in user mode U in both words"
user_allowed : {dw tw size : ℕ} (e : Entry) (k : Access) (user : Bool) → Maps dw tw size e → serves e k user ≡ true → user_ok dw tw user ≡ true
unfolding user_ok
user_allowed e k true c s =
    let u = c.user_right (served_user e k s) in
    rw (u.0, u.1)
user_allowed e k false c s = refl

-- "for a write W in both words"
write_allowed : {dw tw size : ℕ} (e : Entry) (k : Access) (user : Bool) → Maps dw tw size e → serves e k user ≡ true → write_ok dw tw k ≡ true
unfolding write_ok is_write
write_allowed e Fetch user c s = refl
write_allowed e Read user c s = refl
write_allowed e Write user c s =
    let w = c.write_right (served_write e user s) in
    rw (w.0, w.1)

-- the table word allows what the entry serves
served_allowed : {dw tw size : ℕ} (e : Entry) (k : Access) (user : Bool) → Maps dw tw size e → serves e k user ≡ true → allows dw tw k user ≡ true
unfolding allows
served_allowed e k user c s = rw (c.tab_present, user_allowed e k user c s, write_allowed e k user c s)

-- its marks are there already
served_marked : {dw size : ℕ} (m : List ℕ) (a : ℕ) (e : Entry) (k : Access) (user : Bool) → Maps dw (load_n 4 m a) size e → serves e k user ≡ true
    → mark_for k m a ≡ m
unfolding mark_for
served_marked m a e Fetch user c s = mark_again mark_A m a c.tab_accessed
served_marked m a e Read user c s = mark_again mark_A m a c.tab_accessed
served_marked m a e Write user c s =
    rw (mark_again mark_A m a c.tab_accessed) (mark_again mark_D m a (c.write_right (served_write e user s)).2)

-- what a walk comes to where an entry with frame f serves: that frame, and memory as it was
pub record WalkGives (m : List ℕ) (f : ℕ) (w : Walked) : Type 0 where
  pub mem : w.mem ≡ m
  pub answer : (q : Request) → answer_of q w.found ≡ in_frame f q

-- the walk for the entry's page comes to this
pub served_walk : {m : List ℕ} {pdir : ℕ} (e : Entry) (h : Words) (k : Access) (user : Bool) → CoherentEntry m pdir e h → serves e k user ≡ true
    → WalkGives m e.frame (walk m pdir e.page k user)
unfolding walk walk_dir walk_below walk_table walk_frame answer_of
served_walk {m} {pdir} e h k user c s =
    let M = c.maps in
    rw (
      ← c.dir_is,
      M.dir_present,
      mark_again mark_A m h.dir M.dir_accessed,
      M.dir_inside,
      ← c.tab_is,
      served_allowed e k user M s,
      served_marked m h.tab e k user M s,
      M.tab_inside,
      M.frame_is,
    )
    (record { mem = refl; answer = λ q. refl })
