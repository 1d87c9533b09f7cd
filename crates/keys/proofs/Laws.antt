-- Document 01, refusal 4 ("key step numbers ever fall") and "One step", rule 2: the order of keys and the next key, at one place of the list.
use Rattle.std.proofs.Common.{Some, None, slice_get}
use Prim.Native.Nat.{ℕ, suc, ◌<◌, ◌≤◌}
use mathlib.Core.Bool.{true, false}
use mathlib.Core.List.{List}
use mathlib.Core.Path.{◌≡◌}
use Rattle.std.proofs.lemmas.Bool.{lt-ltb, le-ltb, lt-leb, le-leb}
use Rattle.std.proofs.lemmas.Option.{slice_get_within, get_or_from_slice_get}
use lib.ListN.{length, drop, drop_of_length-le}
use lib.Seq.{drop-cons}
use Rattle.rules.specs.declared.Key.{Key}
use Rattle.rules.specs.Run.{keys_rise}
use Rattle.rules.specs.Clock.{next_of}

module _ (ks : List Key) (i : ℕ) where
  module _ {k : Key} (q : slice_get ks i ≡ Some k) (last : ℕ) where
    -- from the i-th key on they rise where it does not fall and the later ones rise
    pub rise_on : last ≤ k.step → keys_rise last (drop i ks) ≡ keys_rise k.step (drop (suc i) ks)
    unfolding keys_rise
    rise_on l = rw (drop-cons ks i k (slice_get_within ks i k q), get_or_from_slice_get ks i k k q, le-leb _ _ l)

    pub rise_fails : k.step < last → keys_rise last (drop i ks) ≡ false
    unfolding keys_rise
    rise_fails l = rw (drop-cons ks i k (slice_get_within ks i k q), get_or_from_slice_get ks i k k q, lt-leb _ _ l)

  -- past the last there is nothing to fall
  pub rise_end : (last : ℕ) → length ks ≤ i → keys_rise last (drop i ks) ≡ true
  unfolding keys_rise
  rise_end last l = rw (drop_of_length-le ks l)

  -- the next key is the one after those taken
  pub next_some : {k : Key} → i < length ks → slice_get ks i ≡ Some k → next_of ks i ≡ Some k
  unfolding next_of
  next_some {k} l q = rw (lt-ltb i (length ks) l, get_or_from_slice_get ks i k (record { step = 0; byte = 0 }) q)

  -- after the last there is none
  pub next_none : length ks ≤ i → next_of ks i ≡ None
  unfolding next_of
  next_none l = rw (le-ltb i (length ks) l)
