-- The exits of the functions that put the bytes of a row.
-- Assumes nothing.
use Prim.Native.Nat.{ℕ, ◌+◌, ◌-◌, ◌≤◌, ◌<◌, ◌^◌}
use native.Mathlib.Omega.{arith}
use mathlib.Core.Path.{◌≡◌, refl, ap, ◌∙◌}
use mathlib.Core.List.{List, [], ◌∷◌, ◌++◌}
use lib.ListN.{length, take, drop}
use lib.Seq.{take-take}
use mir.Val.{Fits}
use mir.Syntax.{w64}
use Rattle.base.specs.Splice.{splice}
use Rattle.key.specs.Order.{Key}
use Rattle.comparable_range.specs.Range.{of, range_of}
use Rattle.comparable_range.specs.declared.Side.{Side}
use Rattle.comparable_range.specs.declared.Side.TheVariants.{Second}
use Rattle.format.specs.Range.{BoundInside, write_range}
use Rattle.commit_rows.specs.Bytes.{between, new_id_bytes, cut_bytes, whole_bytes, row_range, RowInside, row_bytes}
use Rattle.commit_rows.specs.declared.rows.Form.TheVariants.{Whole, Output, CutOutput, Cut}
use Rattle.commit_rows.specs.declared.rows.Row.{Row}
use Rattle.range_write.specs.Put.{Put}
use Rattle.commit_write.specs.Rows.{sided_range}
use Rattle.range_write.proofs.Pieces.{put_here, put_same, same_room, same_length, put_length, first_room, second_room, both_put, both_length, one_room, two_room, three_room, all_put, all_length}

-- ---- ids

-- the first bytes of an id that was read at a place stand there
time_is : (s : List ℕ) (at : ℕ) {id : List ℕ} → id ≡ take 16 (drop at s) → take 6 id ≡ between s at (at + 6)
time_is s at e = let n : at + 6 - at ≡ 6 = omega arith in rw (e, n) (take-take 6 16 (drop at s) (omega arith))

-- all of them
read_is : (s : List ℕ) (at : ℕ) {id : List ℕ} → id ≡ take 16 (drop at s) → id ≡ between s at (at + 16)
read_is s at e = let n : at + 16 - at ≡ 16 = omega arith in rw n e

-- ---- put_new_id
pub time_inside : (old : List ℕ) → length old ≡ 16 → 6 ≤ length old
time_inside old h = omega (arith, h)

module _ (d : List ℕ) (to : ℕ) (old : List ℕ) (ids : List ℕ) (ten : ℕ) (room : to + length (take 6 old ++ between ids ten (ten + 10)) ≤ length d) where
  pub time_room : to + length (take 6 old) ≤ length d
  time_room = first_room d to (take 6 old) (between ids ten (ten + 10)) room

  module _ {e : List ℕ} {a : ℕ} (p : Put d to (take 6 old) e a) where
    pub ten_room : a + length (between ids ten (ten + 10)) ≤ length e
    ten_room = second_room d to (take 6 old) (between ids ten (ten + 10)) room p

    module _ {f : List ℕ} {b : ℕ} (q : Put e a (between ids ten (ten + 10)) f b) where
      pub id_put : Put d to (take 6 old ++ between ids ten (ten + 10)) f b
      id_put = both_put d to (take 6 old) (between ids ten (ten + 10)) room p q

      pub id_same : length f ≡ length d
      id_same = both_length d to (take 6 old) (between ids ten (ten + 10)) room p q

pub ruleset id_exits = (time_inside, time_room, ten_room, id_put, id_same)

-- ---- put_flagged: one byte, and the range
module _ (d : List ℕ) (to : ℕ) (x : List ℕ) (room : to + length (128 ∷ x) ≤ length d) where
  pub flag_room : to < length d
  flag_room = omega (arith, room)

  module _ {e : List ℕ} (p : e ≡ splice d to (128 ∷ [])) where
    flag_put : Put d to (128 ∷ []) e (to + 1)
    flag_put = put_here d to (128 ∷ []) p refl

    pub flagged_room : to + 1 + length x ≤ length e
    flagged_room = second_room d to (128 ∷ []) x room flag_put

    module _ {f : List ℕ} {past : ℕ} (q : Put e (to + 1) x f past) where
      pub flagged_put : Put d to (128 ∷ x) f past
      flagged_put = both_put d to (128 ∷ []) x room flag_put q

      pub flagged_same : length f ≡ length d
      flagged_same = both_length d to (128 ∷ []) x room flag_put q

pub ruleset flag_exits = (flag_room, flagged_room, flagged_put, flagged_same)

-- ---- put_visible: the keys stand in the slices of their sides
module _ (image job : List ℕ) (a b : Side) (r : Row) {s e : List ℕ} (x : s ≡ of a image job) (y : e ≡ of b image job) where
  pub start_inside : BoundInside (of a image job) r.start → BoundInside s r.start
  start_inside h = rw x h

  pub end_inside : BoundInside (of b image job) r.end → BoundInside e r.end
  end_inside h = rw y h

  module _ {k j : Key} (u : k ≡ take r.start.len (drop r.start.at s)) (v : j ≡ take r.end.len (drop r.end.at e)) where
    keys_are : write_range (range_of r.start.kind k r.end.kind j) ≡ write_range (sided_range a b image job r)
    keys_are = rw (u, v, x, y)

    pub visible_room : (d : List ℕ) (to : ℕ) → to + length (128 ∷ write_range (sided_range a b image job r)) ≤ length d → to + length (128 ∷ write_range (range_of r.start.kind k r.end.kind j)) ≤ length d
    visible_room d to h = rw keys_are h

    module _ (d : List ℕ) (to : ℕ) {f : List ℕ} {past : ℕ} (p : Put d to (128 ∷ write_range (range_of r.start.kind k r.end.kind j)) f past) where
      pub visible_put : Put d to (128 ∷ write_range (sided_range a b image job r)) f past
      visible_put = put_same p (ap (λ z. 128 ∷ z) keys_are)

      pub visible_same : to + length (128 ∷ write_range (sided_range a b image job r)) ≤ length d → length f ≡ length d
      visible_same h = put_length p (visible_room d to h)

pub ruleset visible_exits = (start_inside, end_inside, visible_room, visible_put, visible_same)

-- ---- put_output: the id, the table, and one byte
module _ (d : List ℕ) (to : ℕ) (job : List ℕ) (a b : ℕ) {id : List ℕ} (i : id ≡ take 16 (drop a job)) (room : to + length (whole_bytes (between job a (a + 16)) (between job a b)) ≤ length d) where
  abbrev table : List ℕ
  table = between job a b

  whole_is : id ++ (table ++ (0 ∷ [])) ≡ whole_bytes (between job a (a + 16)) table
  unfolding whole_bytes
  whole_is = ap (λ z. z ++ (table ++ (0 ∷ []))) (read_is job a i)

  whole_roomy : to + length (id ++ (table ++ (0 ∷ []))) ≤ length d
  whole_roomy = rw whole_is room

  pub whole_id_room : to + length id ≤ length d
  whole_id_room = one_room d to id table (0 ∷ []) whole_roomy

  module _ {e : List ℕ} {u : ℕ} (p : Put d to id e u) where
    pub whole_table_room : u + length (between job a b) ≤ length e
    whole_table_room = two_room d to id table (0 ∷ []) whole_roomy p

    module _ {f : List ℕ} {v : ℕ} (q : Put e u (between job a b) f v) where
      zero_room : v + 1 ≤ length f
      zero_room = three_room d to id table (0 ∷ []) whole_roomy p q

      pub whole_flag_room : v < length f
      whole_flag_room = omega (arith, zero_room)

      same_before : length f ≡ length d
      same_before = put_length q whole_table_room ∙ put_length p whole_id_room

      pub whole_flag_fits : length d < 2 ^ 64 → Fits w64 (v + 1)
      whole_flag_fits h = omega (arith, zero_room, same_before)

      module _ {g : List ℕ} (w : g ≡ splice f v (0 ∷ [])) where
        last : Put f v (0 ∷ []) g (v + 1)
        last = put_here f v (0 ∷ []) w refl

        pub whole_put : Put d to (whole_bytes (between job a (a + 16)) (between job a b)) g (v + 1)
        whole_put = put_same (all_put d to id table (0 ∷ []) whole_roomy p q last) whole_is

        pub whole_same : length g ≡ length d
        whole_same = all_length d to id table (0 ∷ []) whole_roomy p q last

pub ruleset output_exits = (whole_id_room, whole_table_room, whole_flag_room, whole_flag_fits, whole_put, whole_same)

-- ---- a row by its form
module _ (image job ids : List ℕ) (r : Row) where
  pub whole_bytes_lem : r.form ≡ Whole → between image r.at r.past ≡ row_bytes image job ids r
  unfolding row_bytes
  whole_bytes_lem e = rw e

  pub output_bytes : r.form ≡ Output → whole_bytes (between job r.at (r.at + 16)) (between job r.at r.past) ≡ row_bytes image job ids r
  unfolding row_bytes
  output_bytes e = rw e

  -- a new id, by the bytes of the old one
  abbrev new_bytes : List ℕ → List ℕ
  new_bytes old = take 6 old ++ between ids r.ten (r.ten + 10)

  cut_output_bytes : {old : List ℕ} → old ≡ take 16 (drop r.at job) → r.form ≡ CutOutput → new_bytes old ++ (between job r.at r.past ++ (128 ∷ write_range (sided_range Second Second image job r))) ≡ row_bytes image job ids r
  unfolding row_bytes cut_bytes row_range new_id_bytes
  cut_output_bytes i e = rw (time_is job r.at i, e)

  cut_bytes_lem : {a b : Side} {old : List ℕ} → old ≡ take 16 (drop r.at image) → r.form ≡ Cut a b → new_bytes old ++ (between image (r.at + 16) r.past ++ (128 ∷ write_range (sided_range a b image job r))) ≡ row_bytes image job ids r
  unfolding row_bytes cut_bytes row_range new_id_bytes
  cut_bytes_lem i e = rw (time_is image r.at i, e)

  module _ (i : RowInside image job ids r) where
    pub whole_inside : r.form ≡ Whole → r.past ≤ length image
    whole_inside e = rw e at i.past

    pub whole_order : r.at ≤ r.past
    whole_order = omega (arith, i.id)

    pub output_id : r.at + 16 ≤ r.past
    output_id = i.id

    pub output_inside : r.form ≡ Output → r.past ≤ length job
    output_inside e = rw e at i.past

    -- the range of an output
    module _ (f : r.form ≡ CutOutput) where
      pub cut_output_inside : r.past ≤ length job
      cut_output_inside = rw f at i.past

      pub cut_output_id : r.at + 16 ≤ length job
      cut_output_id = omega (arith, i.id, cut_output_inside)

      pub cut_output_ten : r.ten + 10 ≤ length ids
      cut_output_ten = rw f at i.ten

      pub cut_output_start : BoundInside job r.start
      cut_output_start = rw f at i.start

      pub cut_output_end : BoundInside job r.end
      cut_output_end = rw f at i.end

      module _ {old : List ℕ} (k : old ≡ take 16 (drop r.at job)) (d : List ℕ) (to : ℕ) (room : to + length (row_bytes image job ids r) ≤ length d) where
        abbrev x : List ℕ
        x = new_bytes old

        abbrev y : List ℕ
        y = between job r.at r.past

        abbrev z : List ℕ
        z = 128 ∷ write_range (sided_range Second Second image job r)

        roomy : to + length (x ++ (y ++ z)) ≤ length d
        roomy = rw (cut_output_bytes k f) room

        pub cut_output_id_room : to + length (new_bytes old) ≤ length d
        cut_output_id_room = one_room d to x y z roomy

        module _ {e : List ℕ} {u : ℕ} (p : Put d to (new_bytes old) e u) where
          pub cut_output_table_room : u + length (between job r.at r.past) ≤ length e
          cut_output_table_room = two_room d to x y z roomy p

          module _ {o : List ℕ} {v : ℕ} (q : Put e u (between job r.at r.past) o v) where
            pub cut_output_range_room : v + length (128 ∷ write_range (sided_range Second Second image job r)) ≤ length o
            cut_output_range_room = three_room d to x y z roomy p q

            module _ {g : List ℕ} {w : ℕ} (t : Put o v (128 ∷ write_range (sided_range Second Second image job r)) g w) where
              pub cut_output_put : Put d to (row_bytes image job ids r) g w
              cut_output_put = put_same (all_put d to x y z roomy p q t) (cut_output_bytes k f)

              pub cut_output_same : length g ≡ length d
              cut_output_same = all_length d to x y z roomy p q t

    -- the range of a view
    module _ {a b : Side} (f : r.form ≡ Cut a b) where
      pub cut_inside : r.past ≤ length image
      cut_inside = rw f at i.past

      pub cut_id : r.at + 16 ≤ length image
      cut_id = omega (arith, i.id, cut_inside)

      pub cut_ten : r.ten + 10 ≤ length ids
      cut_ten = rw f at i.ten

      pub cut_start : BoundInside (of a image job) r.start
      cut_start = rw f at i.start

      pub cut_end : BoundInside (of b image job) r.end
      cut_end = rw f at i.end

      module _ {old : List ℕ} (k : old ≡ take 16 (drop r.at image)) (d : List ℕ) (to : ℕ) (room : to + length (row_bytes image job ids r) ≤ length d) where
        abbrev x' : List ℕ
        x' = new_bytes old

        abbrev y' : List ℕ
        y' = between image (r.at + 16) r.past

        abbrev z' : List ℕ
        z' = 128 ∷ write_range (sided_range a b image job r)

        cut_roomy : to + length (x' ++ (y' ++ z')) ≤ length d
        cut_roomy = rw (cut_bytes_lem k f) room

        pub cut_id_room : to + length (new_bytes old) ≤ length d
        cut_id_room = one_room d to x' y' z' cut_roomy

        module _ {e : List ℕ} {u : ℕ} (p : Put d to (new_bytes old) e u) where
          pub cut_table_room : u + length (between image (r.at + 16) r.past) ≤ length e
          cut_table_room = two_room d to x' y' z' cut_roomy p

          module _ {o : List ℕ} {v : ℕ} (q : Put e u (between image (r.at + 16) r.past) o v) where
            pub cut_range_room : v + length (128 ∷ write_range (sided_range a b image job r)) ≤ length o
            cut_range_room = three_room d to x' y' z' cut_roomy p q

            module _ {g : List ℕ} {w : ℕ} (t : Put o v (128 ∷ write_range (sided_range a b image job r)) g w) where
              pub cut_put : Put d to (row_bytes image job ids r) g w
              cut_put = put_same (all_put d to x' y' z' cut_roomy p q t) (cut_bytes_lem k f)

              pub cut_same : length g ≡ length d
              cut_same = all_length d to x' y' z' cut_roomy p q t

pub ruleset cut_output_exits = (whole_order, cut_output_inside, cut_output_id, cut_output_ten, cut_output_start, cut_output_end, cut_output_id_room, cut_output_table_room, cut_output_range_room, cut_output_put, cut_output_same)

pub ruleset cut_exits = (output_id, cut_inside, cut_id, cut_ten, cut_start, cut_end, cut_id_room, cut_table_room, cut_range_room, cut_put, cut_same)

pub ruleset view_exits = (whole_inside, whole_order, output_id, output_inside, whole_bytes_lem, output_bytes, put_same, same_room, same_length, put_length)
