-- A reading that succeeded has its bytes: the exits of the functions of `there`, which read them again.
-- Assumes nothing.
use Prim.Native.Nat.{ℕ, ◌+◌, ◌/◌, ◌%◌, ◌<◌, ◌≤◌}
use native.Mathlib.Omega.{arith}
use native.Mathlib.Numerals.{add-one}
use mathlib.Core.Path.{◌≡◌, refl, ap, ◌∙◌}
use mathlib.Core.Bool.{Bool, true, false}
use mathlib.Core.List.{List, []}
use lib.ListN.{length, get_or, take, drop, length-drop, drop_of_length-le}
use lib.Seq.{drop-cons, drop-drop}
use lib.Dec.{T, leb, ltb, eqb}
use borrow.Author.Tests.{le-leb, leb-true, leb-false}
use Rattle.base.specs.Pick.{pick}
use Rattle.key.specs.Word.{digits}
use Rattle.comparable_range.specs.declared.Kind.{Kind}
use Rattle.format.specs.Got.{Got, got, stop, and_then, is_got}
use Rattle.format.specs.Number.{read_number}
use Rattle.format.specs.Key.{read_bytes, read_key}
use Rattle.format.specs.Range.{kind_of, head_of, headed, read_bound, read_range, range_in}
use Rattle.format.specs.There.{KeyThere, BoundThere}
use Rattle.format.specs.declared.range.Head.{Head}
use Rattle.format.specs.declared.range.Head.TheVariants.{Kinds, Stop as HeadStop}
use Rattle.format.specs.declared.range.BoundSpan.{BoundSpan}

-- ---- what succeeded
pub picked : {A : Type 0} (b : Bool) (g : Got A) (k : ℕ) → T (is_got (pick b g (stop k))) → b ≡ true
picked true g k t = refl
picked false g k t = absurd t

pub first_got : {A B : Type 0} (g : Got A) (f : A → List ℕ → Got B) → T (is_got (and_then g f)) → T (is_got g)
first_got (got a r) f t = tt
first_got (stop k) f t = t

pub number_got : (n : ℕ) (l : List ℕ) → T (is_got (read_number n l)) → n ≤ length l
unfolding read_number
number_got n l t = leb-true n (length l) (picked (leb n (length l)) (got (digits 0 (take n l)) (drop n l)) 1 t)

pub bytes_got : (n : ℕ) (l : List ℕ) → T (is_got (read_bytes n l)) → n ≤ length l
unfolding read_bytes
bytes_got n l t = leb-true n (length l) (picked (leb n (length l)) (got (take n l) (drop n l)) 1 t)

-- ---- key_there
module _ (s : List ℕ) (at : ℕ) (t : T (is_got (read_key (drop at s)))) where
  pub length_there : at + 2 ≤ length s
  unfolding read_key
  length_there = omega (arith, rw length-drop at (number_got 2 (drop at s) (first_got (read_number 2 (drop at s)) _ t)))

  module _ {n : ℕ} (e : read_number 2 (drop at s) ≡ got n (drop (at + 2) s)) where
    opened : T (is_got (pick (leb n 1024) (read_bytes n (drop (at + 2) s)) (stop 3)))
    unfolding read_key
    opened = rw e at t

    short : leb n 1024 ≡ true
    short = picked (leb n 1024) (read_bytes n (drop (at + 2) s)) 3 opened

    room : n ≤ length (drop (at + 2) s)
    room = bytes_got n (drop (at + 2) s) (rw short at opened)

    pub key_is : KeyThere s (read_key (drop at s)) (record { at = at + 2; len = n })
    unfolding read_key read_bytes
    key_is =
        record {
          meaning = rw (e, short, le-leb n (length (drop (at + 2) s)) room, drop-drop);
          inside = omega (arith, length_there, rw length-drop at room);
        }

pub ruleset key_there_exits = (length_there, key_is)

-- ---- a range that is there: its head byte names two kinds, and a bound of each follows
heads : (a b c : Bool) (h : Head) (l : List ℕ) → T (is_got (headed (pick a (pick b (pick c h (HeadStop 2)) (HeadStop 2)) (HeadStop 2)) l)) → pick a (pick b (pick c h (HeadStop 2)) (HeadStop 2)) (HeadStop 2) ≡ h
heads true true true h l t = refl
heads true true false h l t = absurd t
heads true false c h l t = absurd t
heads false b c h l t = absurd t

head_is : (b : ℕ) (l : List ℕ) → T (is_got (headed (head_of b) l)) → head_of b ≡ Kinds (kind_of (b / 64)) (kind_of (b / 16 % 4))
unfolding head_of
head_is b l t = heads (ltb (b / 64) 3) (ltb (b / 16 % 4) 3) (eqb (b % 16) 0) (Kinds (kind_of (b / 64)) (kind_of (b / 16 % 4))) l t

past_got : (l : List ℕ) → l ≡ [] → T (is_got (read_range l)) → ⊥
unfolding read_range
past_got l e t = rw e at t

module _ (s : List ℕ) (at : ℕ) (t : T (is_got (read_range (drop at s)))) where
  pub head_there : at < length s
  head_there = go (leb (length s) at) refl
    where
      go : (b : Bool) → leb (length s) at ≡ b → at < length s
      go true e = absurd (past_got (drop at s) (drop_of_length-le s {i = at} (leb-true (length s) at e)) t)
      go false e = leb-false (length s) at e

  abbrev ks : Kind
  ks = kind_of (get_or s at 0 / 64)

  abbrev ke : Kind
  ke = kind_of (get_or s at 0 / 16 % 4)

  head_opened : read_range (drop at s) ≡ headed (head_of (get_or s at 0)) (drop (at + 1) s)
  unfolding read_range
  head_opened = rw (drop-cons s at 0 head_there, add-one)

  bounds_opened : read_range (drop at s) ≡ headed (Kinds ks ke) (drop (at + 1) s)
  bounds_opened = head_opened ∙ ap (λ h. headed h (drop (at + 1) s)) (head_is (get_or s at 0) (drop (at + 1) s) (rw head_opened at t))

  pub bounds_place : at + 1 ≤ length s
  bounds_place = omega (arith, head_there)

  module _ {j : Kind} (p : j ≡ ks) where
    start_opened : read_range (drop at s) ≡ headed (Kinds j ke) (drop (at + 1) s)
    start_opened = rw p bounds_opened

    pub start_got : T (is_got (read_bound j (drop (at + 1) s)))
    start_got = first_got (read_bound j (drop (at + 1) s)) _ (rw start_opened at t)

    module _ {k : Kind} (q : k ≡ ke) {b : BoundSpan} (f : BoundThere s (read_bound j (drop (at + 1) s)) b) where
      both_opened : read_range (drop at s) ≡ headed (Kinds j k) (drop (at + 1) s)
      both_opened = rw q start_opened

      pub end_got : T (is_got (read_bound k (drop (b.at + b.len) s)))
      end_got = first_got (read_bound k (drop (b.at + b.len) s)) _ (rw (both_opened, f.meaning) at t)

      pub range_is : {c : BoundSpan} → BoundThere s (read_bound k (drop (b.at + b.len) s)) c → read_range (drop at s) ≡ got (range_in s b c) (drop (c.at + c.len) s)
      range_is g = both_opened ∙ rw (f.meaning, g.meaning)

pub ruleset range_there_exits = (head_there, bounds_place, start_got, end_got)
