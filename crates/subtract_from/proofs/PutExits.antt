-- The exits of the functions that measure and put the parts of a range.
-- Assumes nothing.
use Prim.Native.Nat.{ℕ, ◌+◌, ◌≤◌}
use native.Mathlib.Omega.{arith}
use native.Mathlib.Nat.{zero-add}
use mathlib.Core.Path.{◌≡◌, refl, sym, ap, ◌∙◌}
use mathlib.Core.List.{List, ◌++◌, append-nil}
use lib.ListN.{length, take, drop, length-append, length-take, length-drop}
use Rattle.base.specs.Outcome.{over}
use Rattle.base.specs.Splice.{splice}
use Rattle.key.specs.Order.{Key}
use Rattle.comparable_range.specs.Range.{bound_of, range_of, of}
use Rattle.comparable_range.specs.declared.Kind.{Kind}
use Rattle.comparable_range.specs.declared.Kind.TheVariants.{Unbounded, Included, Excluded}
use Rattle.comparable_range.specs.declared.Side.{Side}
use Rattle.comparable_range.specs.declared.Side.TheVariants.{First, Second}
use Rattle.format.specs.Joint as joint
use Rattle.format.specs.Number.{write_number}
use Rattle.format.specs.Range.{write_range}
use Rattle.format.specs.Span.{SuppliedInside, supplied_bound, bound_key, joint_in, MetInside}
use Rattle.format.specs.declared.span.Supplied.{Supplied}
use Rattle.format.specs.declared.span.JointSpan.{JointSpan}
use Rattle.format.specs.Span.{Met}
use Rattle.std.specs.Prelude.{None, Some}
use Rattle.format.proofs.Joints.{supplied_bound_lem}
use Rattle.format.proofs.Layouts.{number_length}
use Rattle.records.specs.Form.{write_many}
use Rattle.records.specs.Layouts.{plan}
use Rattle.range_write.specs.Put.{Put}
use Rattle.range_write.proofs.Pieces.{put_here, put_none, put_same, put_length, one_room, two_room, three_room, all_put, all_length}
use Rattle.subtract_from.specs.Found.{part_in, part_bytes, part_count, parts_in}

-- ---- part_size and put_part
key_short : (k : Kind) (x : Key) → length (bound_key (bound_of k x)) ≤ length x
key_short Unbounded x = omega arith
key_short Included x = omega arith
key_short Excluded x = omega arith

slice_short : (n at : ℕ) (s : List ℕ) → length (take n (drop at s)) ≤ length s
slice_short n at s = omega (arith, length-take n (drop at s), length-drop at s)

side_short : (side : Side) (a b : List ℕ) → length a ≤ 65536 → length b ≤ 65536 → length (of side a b) ≤ 65536
side_short First a b i j = i
side_short Second a b i j = j

pub key_small : (a b : List ℕ) (x : Supplied) {k : Key} → k ≡ bound_key (supplied_bound a b x) → length a ≤ 65536 → length b ≤ 65536 → length k ≤ 65536
key_small a b x {k} q i j =
    let s = of x.side a b in
    let n = key_short x.bound.kind (take x.bound.len (drop x.bound.at s)) in
    omega (arith, ap length q, n, slice_short x.bound.len x.bound.at s, side_short x.side a b i j)

module _ (a b : List ℕ) {m : Met} where
  pub no_size : m ≡ None → 0 ≡ length (part_bytes (part_in a b m))
  no_size e = rw e

  pub no_part : (d : List ℕ) (to : ℕ) → m ≡ None → Put d to (part_bytes (part_in a b m)) d to
  no_part d to e = put_same (put_none d to) (rw e)

  module _ {j : JointSpan} (w : m ≡ Some j) where
    pub start_there : MetInside a b m → SuppliedInside a b j.start
    start_there i = (rw w at i).start

    pub end_there : MetInside a b m → SuppliedInside a b j.end
    end_there i = (rw w at i).end

    module _ {s e : Key} (p : s ≡ bound_key (supplied_bound a b j.start)) (q : e ≡ bound_key (supplied_bound a b j.end)) where
      bytes_are : write_range (range_of j.start.bound.kind s j.end.bound.kind e) ≡ part_bytes (part_in a b m)
      bytes_are = rw (w, supplied_bound_lem a b j.start refl p, supplied_bound_lem a b j.end refl q)

      pub size_is : {n : ℕ} → n ≡ length (write_range (range_of j.start.bound.kind s j.end.bound.kind e)) → n ≡ length (part_bytes (part_in a b m))
      size_is h = h ∙ ap length bytes_are

      pub part_room : (d : List ℕ) (to : ℕ) → to + length (part_bytes (part_in a b m)) ≤ length d → to + length (write_range (range_of j.start.bound.kind s j.end.bound.kind e)) ≤ length d
      part_room d to h = rw bytes_are h

      module _ (d : List ℕ) (to : ℕ) {f : List ℕ} {past : ℕ} (u : Put d to (write_range (range_of j.start.bound.kind s j.end.bound.kind e)) f past) where
        pub part_put : Put d to (part_bytes (part_in a b m)) f past
        part_put = put_same u bytes_are

        pub part_same : to + length (part_bytes (part_in a b m)) ≤ length d → length f ≡ length d
        part_same h = put_length u (part_room d to h)

pub ruleset size_exits = (no_size, start_there, end_there, key_small, size_is)

pub ruleset put_exits = (no_part, start_there, end_there, part_room, part_put, part_same)

-- ---- put_parts: the count, and the parts
pub parts_are : (a b : List ℕ) (m n : Met) → plan.write (parts_in a b m n) ≡ write_number 1 (part_count m + part_count n) ++ (part_bytes (part_in a b m) ++ part_bytes (part_in a b n))
unfolding plan write_many
parts_are a b None None = refl
parts_are a b (Some j) None = refl
parts_are a b None (Some k) = rw append-nil
parts_are a b (Some j) (Some k) = rw (append-nil (write_range (joint.range (joint_in a b k))))

module _ (a b : List ℕ) (m n : Met) (d : List ℕ) (room : length (plan.write (parts_in a b m n)) ≤ length d) where
  abbrev x : List ℕ
  x = part_bytes (part_in a b m)

  abbrev y : List ℕ
  y = part_bytes (part_in a b n)

  roomy : (v : ℕ) → 0 + length (write_number 1 v ++ (x ++ y)) ≤ length d
  roomy v =
      let l = length-append (write_number 1 v) (x ++ y) in
      let k = length-append (write_number 1 (part_count m + part_count n)) (x ++ y) in
      omega (arith, room, l, k, number_length 1 v, number_length 1 (part_count m + part_count n), ap length (parts_are a b m n))

  pub count_room : 0 + 1 ≤ length d
  count_room = omega (arith, one_room d 0 (write_number 1 0) x y (roomy 0), number_length 1 0)

  module _ (i j : ℕ) {e : List ℕ} (p : e ≡ splice d 0 (write_number 1 (i + j))) where
    counted : Put d 0 (write_number 1 (i + j)) e 1
    counted = put_here d 0 (write_number 1 (i + j)) p (omega (arith, number_length 1 (i + j)))

    pub before_room : 1 + length (part_bytes (part_in a b m)) ≤ length e
    before_room = two_room d 0 (write_number 1 (i + j)) x y (roomy (i + j)) counted

    module _ {f : List ℕ} {to : ℕ} (q : Put e 1 (part_bytes (part_in a b m)) f to) where
      pub from_room : to + length (part_bytes (part_in a b n)) ≤ length f
      from_room = three_room d 0 (write_number 1 (i + j)) x y (roomy (i + j)) counted q

      module _ {g : List ℕ} {past : ℕ} (r : Put f to (part_bytes (part_in a b n)) g past) where
        pub parts_put : i ≡ part_count m → j ≡ part_count n → g ≡ over (plan.write (parts_in a b m n)) d
        parts_put h k =
            let c : write_number 1 (i + j) ++ (x ++ y) ≡ plan.write (parts_in a b m n) = rw (h, k) (sym (parts_are a b m n)) in
            (all_put d 0 (write_number 1 (i + j)) x y (roomy (i + j)) counted q r).is ∙ ap (splice d 0) c ∙ rw zero-add

        pub parts_same : length g ≡ length d
        parts_same = all_length d 0 (write_number 1 (i + j)) x y (roomy (i + j)) counted q r

pub ruleset parts_exits = (count_room, before_room, from_room, parts_put, parts_same)

-- ---- parts_written
module _ (a b : List ℕ) (m n : Met) {i j : ℕ} (p : i ≡ length (part_bytes (part_in a b m))) (q : j ≡ length (part_bytes (part_in a b n))) where
  pub parts_size : 1 + i + j ≡ length (plan.write (parts_in a b m n))
  parts_size =
      let x = part_bytes (part_in a b m) in
      let y = part_bytes (part_in a b n) in
      let k = length-append (write_number 1 (part_count m + part_count n)) (x ++ y) in
      omega (arith, p, q, k, length-append x y, number_length 1 (part_count m + part_count n), ap length (parts_are a b m n))

pub has_room : (b d : List ℕ) {n : ℕ} → n ≡ length b → n ≤ length d → length b ≤ length d
has_room b d e h = omega (arith, e, h)
