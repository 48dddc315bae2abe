-- The range of a prefix and a subrange is put piece by piece: its head, its start, its end.
-- Assumes nothing.
use Prim.Native.Nat.{ℕ, ◌+◌, ◌<◌, ◌≤◌}
use native.Mathlib.Omega.{arith}
use native.Mathlib.Nat.{zero-add}
use mathlib.Core.Path.{◌≡◌, refl, ◌∙◌, ap}
use mathlib.Core.List.{List, [], ◌∷◌, ◌++◌}
use lib.ListN.{length, length-append}
use Rattle.base.specs.Splice.{splice, spliced_length, splice_splice}
use Rattle.base.specs.Outcome.{over}
use Rattle.key.specs.Order.{Key}
use Rattle.comparable_range.specs.Range.{Range, bound_of, range_of}
use Rattle.comparable_range.specs.declared.Kind.{Kind}
use Rattle.format.specs.Range.{kind_of_bound, head_byte, write_bound, write_range}
use Rattle.bytes_range.specs.Prefix.{join_start, join_end, from_prefix_and_subrange}

module _ (d : List ℕ) (p : Key) (ks : Kind) (s : Key) (ke : Kind) (e : Key) where
  abbrev made : Range
  made = from_prefix_and_subrange p (range_of ks s ke e)

  abbrev starts : List ℕ
  starts = write_bound (join_start p (bound_of ks s))

  abbrev ends : List ℕ
  ends = write_bound (join_end p (bound_of ke e))

  pub size_is : 1 + length starts + length ends ≡ length (write_range made)
  unfolding write_range from_prefix_and_subrange
  size_is = rw length-append (omega arith)

  pub range_size : {m n : ℕ} → m ≡ length starts → n ≡ length ends → 1 + m + n ≡ length (write_range made)
  range_size a b = rw (a, b) size_is

  pub range_room : {m n : ℕ} (r : ℕ) → m ≡ length starts → n ≡ length ends → 1 + m + n ≤ r → length (write_range made) ≤ r
  range_room r a b h = omega (arith, range_size a b)

  module _ (room : length (write_range made) ≤ length d) where
    pub head_room : 0 < length d
    head_room = omega (arith, size_is, room)

    module _ {d₁ : List ℕ} {h : ℕ} (e₁ : d₁ ≡ splice d 0 (h ∷ [])) where
      length₁ : length d₁ ≡ length d
      length₁ = spliced_length d 0 (h ∷ []) e₁ (omega (arith, size_is, room))

      pub start_room : 1 + length starts ≤ length d₁
      start_room = omega (arith, length₁, size_is, room)

      module _ {d₂ : List ℕ} (e₂ : d₂ ≡ splice d₁ 1 starts) {at : ℕ} (f : at ≡ 1 + length starts) where
        length₂ : length d₂ ≡ length d
        length₂ = spliced_length d₁ 1 starts e₂ start_room ∙ length₁

        pub end_room : at + length ends ≤ length d₂
        end_room = omega (arith, length₂, size_is, room)

        pub all_put : {j k : Kind} {d₃ : List ℕ} → j ≡ kind_of_bound (join_start p (bound_of ks s)) → k ≡ kind_of_bound (join_end p (bound_of ke e)) → h ≡ head_byte j k → d₃ ≡ splice d₂ at ends → d₃ ≡ splice d 0 (write_range made)
        unfolding write_range from_prefix_and_subrange
        all_put a b c e₃ =
            let x : d₂ ≡ splice d 0 (h ∷ starts) = e₂ ∙ rw e₁ (splice_splice d 0 (h ∷ []) starts 1 refl (omega (arith, size_is, room))) in
            let y : splice d₂ at ends ≡ splice d 0 (h ∷ (starts ++ ends)) = rw x (splice_splice d 0 (h ∷ starts) ends at (f ∙ omega arith) (omega (arith, size_is, room))) in
            let z : h ≡ head_byte (kind_of_bound (join_start p (bound_of ks s))) (kind_of_bound (join_end p (bound_of ke e))) = rw (← a, ← b) c in
            e₃ ∙ y ∙ ap (λ (n : ℕ). splice d 0 (n ∷ (starts ++ ends))) z

-- what stands at the front of a buffer is put at its start
pub at_front : (d b : List ℕ) {f : List ℕ} → f ≡ splice d 0 b → f ≡ over b d
at_front d b e = e ∙ rw zero-add

pub ruleset range_puts = (range_size, range_room, at_front, head_room, start_room, end_room, all_put, spliced_length)
