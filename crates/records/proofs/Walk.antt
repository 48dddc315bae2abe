-- A walk over the first k of n values that are known to be there, whatever reads one and whatever the loop does with it.
-- Assumes nothing.
use Prim.Native.Nat.{ℕ, ◌+◌, ◌-◌, ◌≤◌, ◌<◌}
use native.Mathlib.Omega.{arith}
use mathlib.Core.Path.{◌≡◌, refl}
use mathlib.Core.List.{List, [], ◌∷◌, ◌++◌}
use lib.ListN.{length, drop, length-append}
use lib.Dec.{T}
use Rattle.format.specs.Got.{Got, got, stop}
use Rattle.records.specs.Form.{read_many}
use Rattle.records.specs.Found.{is_got}
use Rattle.records.proofs.Many.{Reading, begin, onward, all_read, no_stop, Ahead, ahead, Front, front}
use Rattle.records.proofs.RunsThere.{here_got}

pub record Walk {A : Type 0} (f : List ℕ → Got A) (s : List ℕ) (from n k at : ℕ) (seen : List A) : Type 0 where
  pub reading : Reading f s from n (n - k) at seen
  pub there : T (is_got (read_many f n (drop from s)))
  pub upto : k ≤ n
  pub count : length seen ≡ k

pub walk_begin : {A : Type 0} (f : List ℕ → Got A) (s : List ℕ) (from n : ℕ) → from ≤ length s → T (is_got (read_many f n (drop from s))) → Walk f s from n 0 from []
walk_begin f s from n h t =
    let z : n - 0 ≡ n = omega arith in
    record { reading = rw z (begin f s from n h); there = t; upto = omega arith; count = refl }

module _ {A : Type 0} {f : List ℕ → Got A} {s : List ℕ} {from n k at : ℕ} {seen : List A} (p : Walk f s from n k at seen) where
  pub walk_all : n ≤ k → read_many f n (drop from s) ≡ got seen (drop at s)
  walk_all h = let z : n - k ≤ 0 = omega arith in all_read p.reading z

  pub walk_front : Front (read_many f n (drop from s)) seen
  walk_front = front p.reading p.there

  module _ (h : k < n) where
    left : 0 < n - k
    left = omega arith

    pub walk_never : {j : ℕ} → f (drop at s) ≡ stop j → ⊥
    walk_never e = no_stop p.reading p.there left e

    pub walk_here : T (is_got (f (drop at s)))
    walk_here = here_got p.reading p.there left

    pub walk_ahead : {a : A} (r : List ℕ) → f (drop at s) ≡ got a r → Ahead (read_many f n (drop from s)) seen a
    walk_ahead r e = ahead p.reading p.there r left e

    pub walk_onward : {a : A} {next : ℕ} → f (drop at s) ≡ got a (drop next s) → next ≤ length s → Walk f s from n (k + 1) next (seen ++ (a ∷ []))
    walk_onward e w =
        let z : n - k - 1 ≡ n - (k + 1) = omega arith in
        record {
          reading = rw z at (onward p.reading left e w);
          there = p.there;
          upto = omega arith;
          count = rw length-append (omega (arith, p.count));
        }
