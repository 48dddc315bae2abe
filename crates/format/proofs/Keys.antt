-- The exits of `key_at`.
-- Assumes nothing.
use Prim.Native.Nat.{ℕ, ◌+◌, ◌-◌, ◌<◌, ◌≤◌}
use native.Mathlib.Omega.{arith}
use mathlib.Core.Path.{◌≡◌, refl, sym}
use mathlib.Core.List.{List}
use mathlib.Core.Bool.{Bool, true, false}
use lib.ListN.{length, take, drop, length-drop}
use lib.Seq.{drop-drop}
use lib.Dec.{leb}
use borrow.Author.Tests.{le-leb, lt-leb, leb-true}
use Rattle.base.specs.Pick.{pick}
use Rattle.format.specs.Got.{got, stop}
use Rattle.key.specs.Word.{digits}
use Rattle.format.specs.Number.{read_number, number_of}
use Rattle.format.specs.Key.{read_bytes, read_key, KeyFound}
use Rattle.format.specs.declared.Number.{Number}
use Rattle.format.specs.declared.Number.TheVariants.{Value, Short}
use Rattle.format.specs.declared.KeyRead.TheVariants.{At, Stop}

-- a number was read: its bytes are there
there : (b : Bool) (n v w : ℕ) (l r q : List ℕ) → b ≡ leb n (length l) → got v r ≡ pick b (got w q) (stop 1) → n ≤ length l
there true n v w l r q e h = leb-true n (length l) (sym e)
there false n v w l r q e h = let z : ◌≡◌ {A = ℕ} 0 1 = cc in omega arith

pub number_there : (n v : ℕ) (l r : List ℕ) → got v r ≡ read_number n l → n ≤ length l
unfolding read_number
number_there n v l r q = there (leb n (length l)) n v (digits 0 (take n l)) l r (drop n l) refl q

module _ (s : List ℕ) (at : ℕ) {o : Number} (e : number_of 2 s at o ≡ read_number 2 (drop at s)) where
  pub no_length : o ≡ Short → KeyFound s (read_key (drop at s)) (Stop 1)
  unfolding read_key
  no_length q = record { meaning = rw (← e, q); inside = tt }

  module _ {n : ℕ} (q : o ≡ Value n) where
    read : got n (drop (at + 2) s) ≡ read_number 2 (drop at s)
    read = rw q at e

    pub enough : at + 2 ≤ length s
    enough = omega (arith, rw length-drop at (number_there 2 n (drop at s) (drop (at + 2) s) read))

    pub too_long : 1024 < n → KeyFound s (read_key (drop at s)) (Stop 3)
    unfolding read_key
    too_long h = record { meaning = rw (← read, lt-leb n 1024 h); inside = tt }

    pub cut : n ≤ 1024 → length s - (at + 2) < n → KeyFound s (read_key (drop at s)) (Stop 1)
    unfolding read_key read_bytes
    cut k h = record { meaning = simp (sym read, length-drop, le-leb n 1024 k, lt-leb _ _ h); inside = tt }

    pub whole_key : n ≤ 1024 → n ≤ length s - (at + 2) → KeyFound s (read_key (drop at s)) (At (at + 2) n (at + 2 + n))
    unfolding read_key read_bytes
    whole_key k h =
        record {
          meaning = simp (sym read, drop-drop, length-drop, le-leb n 1024 k, le-leb _ _ h);
          inside = (refl, omega (arith, enough));
        }

pub ruleset key_exits = (no_length, enough, too_long, cut, whole_key)
