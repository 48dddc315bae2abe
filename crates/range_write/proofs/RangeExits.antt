-- The exits of the functions that put and measure the bytes of a range.
-- Assumes nothing.
use Prim.Native.Nat.{ℕ, ◌+◌, ◌≤◌, ◌<◌, ◌^◌}
use native.Mathlib.Omega.{arith}
use mathlib.Core.Path.{◌≡◌, refl, sym, ap, subst, ◌∙◌}
use mathlib.Core.List.{List, [], ◌∷◌, ◌++◌}
use lib.ListN.{length, length-append}
use mir.Val.{Fits}
use mir.Syntax.{w64}
use Rattle.base.specs.Splice.{splice, length_splice, splice_splice}
use Rattle.key.specs.Order.{Key}
use Rattle.comparable_range.specs.Range.{bound_of, range_of}
use Rattle.comparable_range.specs.declared.Kind.{Kind}
use Rattle.comparable_range.specs.declared.Kind.TheVariants.{Unbounded, Included, Excluded}
use Rattle.format.specs.Number.{write_number}
use Rattle.format.specs.Key.{write_key}
use Rattle.format.specs.Range.{head_byte, kind_of_bound, write_bound, write_range}
use Rattle.format.proofs.Layouts.{number_length, key_length}
use Rattle.range_write.specs.Put.{Put}
use Rattle.range_write.proofs.Pieces.{put_here, put_none, put_same, same_room, same_length, one_room, two_room, three_room, all_put, all_length}

-- ---- put_key: the length, and the key
module _ (d : List ℕ) (to : ℕ) (k : Key) (room : to + length (write_key k) ≤ length d) where
  long : length (write_key k) ≡ 2 + length k
  long = key_length k

  pub count_room : to + 2 ≤ length d
  count_room = omega (arith, long, room)

  pub key_fits : length d < 2 ^ 64 → Fits w64 (to + 2 + length k)
  key_fits h = omega (arith, long, room)

  module _ {e : List ℕ} (p : e ≡ splice d to (write_number 2 (length k))) where
    number_same : length e ≡ length d
    number_same = let l = number_length 2 (length k) in ap length p ∙ length_splice d to (write_number 2 (length k)) (omega (arith, count_room))

    pub bytes_room : to + 2 + length k ≤ length e
    bytes_room = omega (arith, number_same, long, room)

    module _ {f : List ℕ} (q : f ≡ splice e (to + 2) k) where
      pub key_put : Put d to (write_key k) f (to + 2 + length k)
      unfolding write_key
      key_put =
          let l = number_length 2 (length k) in
          record {
            is = q ∙ ap (λ z. splice z (to + 2) k) p ∙ splice_splice d to (write_number 2 (length k)) k (to + 2) (omega (arith, l)) (omega (arith, l, count_room));
            past_is = omega (arith, long);
          }

      pub key_same : length f ≡ length d
      key_same = ap length q ∙ length_splice e (to + 2) k bytes_room ∙ number_same

pub ruleset key_exits = (count_room, key_fits, bytes_room, key_put, key_same)

-- ---- put_bound
module _ (k : Kind) (key : Key) where
  bound_none : k ≡ Unbounded → [] ≡ write_bound (bound_of k key)
  unfolding write_bound
  bound_none e = rw e

  pub bound_included : k ≡ Included → write_key key ≡ write_bound (bound_of k key)
  unfolding write_bound
  bound_included e = rw e

  pub bound_excluded : k ≡ Excluded → write_key key ≡ write_bound (bound_of k key)
  unfolding write_bound
  bound_excluded e = rw e

pub unbounded_put : (d : List ℕ) (to : ℕ) (k : Kind) (key : Key) → k ≡ Unbounded → Put d to (write_bound (bound_of k key)) d to
unbounded_put d to k key e = put_same (put_none d to) (bound_none k key e)

pub ruleset bound_exits = (unbounded_put, bound_included, bound_excluded, put_same, same_room, same_length)

-- ---- put_range: the head, and the bounds
kind_back : (k : Kind) (key : Key) → kind_of_bound (bound_of k key) ≡ k
kind_back Unbounded key = refl
kind_back Included key = refl
kind_back Excluded key = refl

range_is : (ks : Kind) (s : Key) (ke : Kind) (e : Key) → write_range (range_of ks s ke e) ≡ (head_byte ks ke ∷ []) ++ (write_bound (bound_of ks s) ++ write_bound (bound_of ke e))
unfolding write_range
range_is ks s ke e = rw (kind_back ks s, kind_back ke e)

module _ (d : List ℕ) (to : ℕ) (ks : Kind) (s : Key) (ke : Kind) (e : Key) (room : to + length (write_range (range_of ks s ke e)) ≤ length d) where
  abbrev start : List ℕ
  start = write_bound (bound_of ks s)

  abbrev end : List ℕ
  end = write_bound (bound_of ke e)

  range_roomy : to + length ((head_byte ks ke ∷ []) ++ (start ++ end)) ≤ length d
  range_roomy = subst (λ (z : List ℕ). to + length z ≤ length d) (range_is ks s ke e) room

  pub head_room : to < length d
  head_room = omega (arith, one_room d to (head_byte ks ke ∷ []) start end range_roomy)

  module _ {f : List ℕ} (h : ℕ) (p : f ≡ splice d to (h ∷ [])) where
    headed : Put d to (h ∷ []) f (to + 1)
    headed = put_here d to (h ∷ []) p refl

    pub start_room : to + 1 + length (write_bound (bound_of ks s)) ≤ length f
    start_room = two_room d to (h ∷ []) start end range_roomy headed

    module _ {o : List ℕ} {a : ℕ} (u : Put f (to + 1) (write_bound (bound_of ks s)) o a) where
      pub end_room : a + length (write_bound (bound_of ke e)) ≤ length o
      end_room = three_room d to (h ∷ []) start end range_roomy headed u

      module _ {o' : List ℕ} {b : ℕ} (v : Put o a (write_bound (bound_of ke e)) o' b) where
        pub range_put : h ≡ head_byte ks ke → Put d to (write_range (range_of ks s ke e)) o' b
        range_put c = put_same (all_put d to (h ∷ []) start end range_roomy headed u v) (ap (λ z. z ∷ (start ++ end)) c ∙ sym (range_is ks s ke e))

        pub range_same : length o' ≡ length d
        range_same = all_length d to (h ∷ []) start end range_roomy headed u v

pub ruleset range_exits = (head_room, start_room, end_room, range_put, range_same)

-- ---- range_size
pub both_sizes : (ks : Kind) (s : Key) (ke : Kind) (e : Key) {m n : ℕ} → m ≡ length (write_bound (bound_of ks s)) → n ≡ length (write_bound (bound_of ke e)) → 1 + m + n ≡ length (write_range (range_of ks s ke e))
both_sizes ks s ke e p q =
    let l = length-append (write_bound (bound_of ks s)) (write_bound (bound_of ke e)) in
    omega (arith, p, q, l, ap length (range_is ks s ke e))
