-- The walk over the rows in order, which marks the boundaries: what is marked and what is still to come are all of them.
-- Assumes nothing.
use Prim.Native.Nat.{ℕ, suc, ◌+◌, ◌-◌, ◌<◌, ◌≤◌, ◌^◌}
use native.Mathlib.Omega.{arith}
use native.Mathlib.Numerals.{add-one}
use mathlib.Core.Path.{◌≡◌, refl, sym, ap, ◌∙◌}
use mathlib.Core.Bool.{Bool, true, false, ◌&&◌}
use mathlib.Core.List.{List, [], ◌∷◌, ◌++◌, map, append_assoc, append-nil}
use lib.ListN.{length, get_or, take, drop, set, length-set}
use lib.Seq.{slice, slice-cons, slice_empty, take-suc, take-suc-set}
use lib.Dec.{T, leb, ltb}
use borrow.Author.Tests.{leb-true, ltb-true}
use mir.Val.{Fits}
use mir.Syntax.{w64}
use Rattle.base.specs.Lists.{map_append}
use Rattle.base.specs.Sort.{sort}
use Rattle.base.specs.Pick.{pick, and_first, and_second}
use Rattle.key.specs.Order.{Key, cmp_key, is_equal, key_below}
use Rattle.comparable_range.proofs.Keyless.{equal_keys}
use Rattle.format.specs.Got.{is_got}
use Rattle.format.specs.Key.{read_key}
use Rattle.records.specs.Values.{Anchor, Anchors}
use Rattle.manifest.specs.Checks.{total}
use Rattle.key_rows.specs.Rows.{key_there, Rows, count_from, in_order}
use Rattle.subcompaction.specs.Boundaries.{prepared, boundaries_from, boundaries}
use Rattle.planned.specs.Marks.{marked_keys, Marked}
use Rattle.subcompaction.specs.Tables.{anchor_at, anchors_in}
use Rattle.key_rows.proofs.RowLaws.{rows_none, rows_more}
use Rattle.subcompaction.proofs.OneRange.{prepared_ordered, one_key}
use Rattle.planned.proofs.Ordered.{prepared_rows, total_prepared, row_below}

-- one more mark
marked_more : (s marks : List ℕ) (n at : ℕ) → n < length marks → marked_keys s (set marks n at) (n + 1) ≡ marked_keys s marks n ++ (key_there s at ∷ [])
marked_more s marks n at h = rw (add-one, take-suc-set marks n at h) (map_append (key_there s) (take n marks) (at ∷ []))

abbrev begun : ℕ → ℕ → ℕ → Key → Key → Bool
begun left threshold reached last key = ltb 0 left && leb threshold reached && key_below last key

-- the anchors of the rows from i on
abbrev pub anchors_from : List ℕ → List ℕ → List ℕ → List ℕ → ℕ → ℕ → Anchors
anchors_from s keys bytes order n i = map (anchor_at s keys bytes) (slice i n order)

pub record Walking (s keys bytes order : List ℕ) (n parts goal : ℕ) (marks₀ marks : List ℕ) (last count threshold reached i : ℕ) : Type 0 where
  pub rows : Rows s keys n
  pub in_bytes : n ≤ length bytes
  pub in_order_lem : n ≤ length order
  pub ordered : take n order ≡ in_order s keys n
  pub upto : i ≤ n
  pub wanted : count < parts
  pub most : parts ≤ 64
  pub wide : length marks ≡ 64
  pub same : length marks ≡ length marks₀
  pub there : Rows s marks count
  pub last_there : T (is_got (read_key (drop last s)))
  pub sum : reached + total (anchors_from s keys bytes order n i) ≡ total (anchors_in s keys bytes n)
  pub small : total (anchors_in s keys bytes n) < 2 ^ 63
  pub goal_small : goal < 2 ^ 63
  pub low : threshold ≤ reached + goal
  pub rest : marked_keys s marks count ++ boundaries_from goal (parts - 1 - count) threshold reached (key_there s last) (anchors_from s keys bytes order n i) ≡ boundaries parts goal (prepared (anchors_in s keys bytes n))

-- ---- before the walk
pub no_rows : (s keys bytes marks : List ℕ) (parts goal : ℕ) {n : ℕ} → n ≡ 0 → Marked s marks 0 (boundaries parts goal (prepared (anchors_in s keys bytes n)))
unfolding anchors_in count_from prepared boundaries sort
no_rows s keys bytes marks parts goal e = record { few = omega arith; there = rows_none s marks; keys = rw e }

opens : (parts goal : ℕ) (k : Key) (a : Anchor) {as' l : Anchors} → l ≡ a ∷ as' → k ≡ a.key → boundaries_from goal (parts - 1 - 0) goal 0 k l ≡ boundaries parts goal l
unfolding boundaries
opens parts goal k a e f =
    let z : parts - 1 - 0 ≡ parts - 1 = omega arith in
    rw (z, e, f)

module _ (s keys bytes order : List ℕ) (n : ℕ) (rows : Rows s keys n) (o : take n order ≡ in_order s keys n) where
  all_rows : anchors_from s keys bytes order n 0 ≡ prepared (anchors_in s keys bytes n)
  all_rows = ap (map (anchor_at s keys bytes)) o ∙ sym (prepared_rows s keys bytes n)

  pub first_row : (n ≡ 0 → ⊥) → get_or order 0 0 < length keys
  first_row z = (rows.row (get_or order 0 0) (row_below s keys order n 0 o (omega arith))).inside

  pub last_row : (n ≡ 0 → ⊥) → get_or order (n - 1) 0 < length keys
  last_row z = (rows.row (get_or order (n - 1) 0) (row_below s keys order n (n - 1) o (omega arith))).inside

  pub first_there : (n ≡ 0 → ⊥) → T (is_got (read_key (drop (get_or keys (get_or order 0 0) 0) s)))
  first_there z = (rows.row (get_or order 0 0) (row_below s keys order n 0 o (omega arith))).there

  pub last_there : (n ≡ 0 → ⊥) → T (is_got (read_key (drop (get_or keys (get_or order (n - 1) 0) 0) s)))
  last_there z = (rows.row (get_or order (n - 1) 0) (row_below s keys order n (n - 1) o (omega arith))).there

  -- the largest key is the smallest
  pub one_key_marked :
      (parts goal : ℕ) (marks : List ℕ) {t : Bool}
      → (n ≡ 0 → ⊥)
      → n ≤ length order
      → t ≡ is_equal (cmp_key (key_there s (get_or keys (get_or order 0 0) 0)) (key_there s (get_or keys (get_or order (n - 1) 0) 0)))
      → t ≡ true
      → Marked s marks 0 (boundaries parts goal (prepared (anchors_in s keys bytes n)))
  one_key_marked parts goal marks z h e f =
      let first = ap (map (anchor_at s keys bytes)) (slice-cons 0 n order 0 (omega arith) h) in
      let one : suc (n - 1) ≡ n = omega arith in
      let last = ap (λ i. map (anchor_at s keys bytes) (take i order)) (sym one) ∙ ap (map (anchor_at s keys bytes)) (take-suc order (n - 1) 0 (omega arith)) ∙ map_append (anchor_at s keys bytes) (take (n - 1) order) (get_or order (n - 1) 0 ∷ []) in
      record {
        few = omega arith;
        there = rows_none s marks;
        keys =
            sym
            (one_key parts goal (map (anchor_at s keys bytes) (take (n - 1) order)) (anchor_at s keys bytes (get_or order 0 0)) (anchor_at s keys bytes (get_or order (n - 1) 0))
            (sym all_rows ∙ first)
            (sym all_rows ∙ last)
            (prepared_ordered (anchors_in s keys bytes n))
            (equal_keys (key_there s (get_or keys (get_or order 0 0) 0)) (key_there s (get_or keys (get_or order (n - 1) 0) 0)) (sym e ∙ f)));
      }

  pub walk_begin :
      (parts goal : ℕ) (marks : List ℕ)
      → (n ≡ 0 → ⊥)
      → n ≤ length bytes
      → n ≤ length order
      → 0 < parts
      → parts ≤ 64
      → length marks ≡ 64
      → goal < 2 ^ 63
      → total (anchors_in s keys bytes n) < 2 ^ 63
      → Walking s keys bytes order n parts goal marks marks (get_or keys (get_or order 0 0) 0) 0 goal 0 0
  walk_begin parts goal marks z b h g m w l t =
      record {
        rows = rows;
        in_bytes = b;
        in_order_lem = h;
        ordered = o;
        upto = omega arith;
        wanted = g;
        most = m;
        wide = w;
        same = refl;
        there = rows_none s marks;
        last_there = (rows.row (get_or order 0 0) (row_below s keys order n 0 o (omega arith))).there;
        sum = omega (arith, ap total all_rows ∙ total_prepared (anchors_in s keys bytes n));
        small = t;
        goal_small = l;
        low = omega arith;
        rest = opens parts goal (key_there s (get_or keys (get_or order 0 0) 0)) (anchor_at s keys bytes (get_or order 0 0)) (ap (map (anchor_at s keys bytes)) (slice-cons 0 n order 0 (omega arith) h)) refl ∙ ap (boundaries parts goal) all_rows;
      }

-- ---- a turn
module _ {s keys bytes order : List ℕ} {n parts goal : ℕ} {marks₀ marks : List ℕ} {last count threshold reached i : ℕ} (p : Walking s keys bytes order n parts goal marks₀ marks last count threshold reached i) where
  pub walk_left : 1 ≤ parts
  walk_left = omega (arith, p.wanted)

  pub walk_left_2 : count ≤ parts - 1
  walk_left_2 = omega (arith, p.wanted)

  pub walk_last : T (is_got (read_key (drop last s)))
  walk_last = p.last_there

  pub walk_same : length marks ≡ length marks₀
  walk_same = p.same

  pub walk_end : n ≤ i → Marked s marks count (boundaries parts goal (prepared (anchors_in s keys bytes n)))
  unfolding boundaries_from
  walk_end h =
      let e : i ≡ n = omega (arith, p.upto) in
      let z : slice i n order ≡ [] = rw e (slice_empty n order) in
      record { few = omega (arith, p.wanted, p.most); there = p.there; keys = sym (append-nil (marked_keys s marks count)) ∙ rw z at p.rest }

  module _ (h : i < n) where
    abbrev row : ℕ
    row = get_or order i 0

    abbrev at : ℕ
    at = get_or keys row 0

    abbrev rest_of : Anchors
    rest_of = anchors_from s keys bytes order n (i + 1)

    pub walk_row : i < length order
    walk_row = omega (arith, p.in_order_lem)

    below : row < n
    below = row_below s keys order n i p.ordered h

    pub walk_keys : row < length keys
    walk_keys = (p.rows.row row below).inside

    pub walk_bytes : row < length bytes
    walk_bytes = omega (arith, below, p.in_bytes)

    pub walk_there : T (is_got (read_key (drop at s)))
    walk_there = (p.rows.row row below).there

    next_is : anchors_from s keys bytes order n i ≡ anchor_at s keys bytes row ∷ rest_of
    next_is = rw (slice-cons i n order 0 h p.in_order_lem, add-one)

    next_sum : reached + (get_or bytes row 0 + total rest_of) ≡ total (anchors_in s keys bytes n)
    unfolding total
    next_sum = rw next_is at p.sum

    pub walk_sum : Fits w64 (reached + get_or bytes row 0)
    walk_sum = omega (arith, next_sum, p.small)

    next_rest : marked_keys s marks count ++ pick (begun (parts - 1 - count) threshold reached (key_there s last) (key_there s at)) (key_there s at ∷ boundaries_from goal (parts - 1 - count - 1) (threshold + goal) (reached + get_or bytes row 0) (key_there s at) rest_of) (boundaries_from goal (parts - 1 - count) threshold (reached + get_or bytes row 0) (key_there s last) rest_of) ≡ boundaries parts goal (prepared (anchors_in s keys bytes n))
    unfolding boundaries_from
    next_rest = rw next_is at p.rest

    -- a range begins here
    module _ {t : Bool} (e : t ≡ begun (parts - 1 - count) threshold reached (key_there s last) (key_there s at)) (y : t ≡ true) where
      yes : begun (parts - 1 - count) threshold reached (key_there s last) (key_there s at) ≡ true
      yes = sym e ∙ y

      two : (ltb 0 (parts - 1 - count) && leb threshold reached) ≡ true
      two = and_first (ltb 0 (parts - 1 - count) && leb threshold reached) (key_below (key_there s last) (key_there s at)) yes

      more : 0 < parts - 1 - count
      more = ltb-true 0 (parts - 1 - count) (and_first (ltb 0 (parts - 1 - count)) (leb threshold reached) two)

      full : threshold ≤ reached
      full = leb-true threshold reached (and_second (ltb 0 (parts - 1 - count)) (leb threshold reached) two)

      pub mark_in : count < length marks
      mark_in = omega (arith, more, p.most, p.wide)

      pub mark_more : Walking s keys bytes order n parts goal marks₀ (set marks count at) at (count + 1) (threshold + goal) (reached + get_or bytes row 0) (i + 1)
      mark_more =
          let c : parts - 1 - count - 1 ≡ parts - 1 - (count + 1) = omega arith in
          let after = boundaries_from goal (parts - 1 - (count + 1)) (threshold + goal) (reached + get_or bytes row 0) (key_there s at) rest_of in
          let all : marked_keys s marks count ++ (key_there s at ∷ after) ≡ boundaries parts goal (prepared (anchors_in s keys bytes n)) = rw (yes, c) at next_rest in
          record {
            rows = p.rows;
            in_bytes = p.in_bytes;
            in_order_lem = p.in_order_lem;
            ordered = p.ordered;
            upto = omega arith;
            wanted = omega (arith, more);
            most = p.most;
            wide = length-set marks count at ∙ p.wide;
            same = length-set marks count at ∙ p.same;
            there = rows_more p.there at walk_there mark_in;
            last_there = walk_there;
            sum = omega (arith, next_sum);
            small = p.small;
            goal_small = p.goal_small;
            low = omega (arith, full);
            rest = ap (λ l. l ++ after) (marked_more s marks count at mark_in) ∙ append_assoc (marked_keys s marks count) (key_there s at ∷ []) after ∙ all;
          }

    -- none does
    pub no_mark : {t : Bool} → t ≡ begun (parts - 1 - count) threshold reached (key_there s last) (key_there s at) → t ≡ false → Walking s keys bytes order n parts goal marks₀ marks last count threshold (reached + get_or bytes row 0) (i + 1)
    no_mark e y =
        record {
          rows = p.rows;
          in_bytes = p.in_bytes;
          in_order_lem = p.in_order_lem;
          ordered = p.ordered;
          upto = omega arith;
          wanted = p.wanted;
          most = p.most;
          wide = p.wide;
          same = p.same;
          there = p.there;
          last_there = p.last_there;
          sum = omega (arith, next_sum);
          small = p.small;
          goal_small = p.goal_small;
          low = omega (arith, p.low);
          rest = rw (sym e ∙ y) at next_rest;
        }

pub ruleset walk_exits = (no_rows, first_row, last_row, first_there, last_there, one_key_marked, walk_begin, walk_left, walk_left_2, walk_last, walk_same, walk_end, walk_row, walk_keys, walk_bytes, walk_there, walk_sum)
