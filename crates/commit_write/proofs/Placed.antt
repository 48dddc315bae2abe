-- Pieces and outputs by bucket are the pieces of each gap, and between them the outputs of each interval.
-- Assumes nothing.
use Prim.Native.Nat.{ℕ, zero, suc, ◌+◌, ◌*◌, ◌<◌, ◌≤◌}
use native.Mathlib.Omega.{arith}
use mathlib.Core.Path.{◌≡◌, refl, sym, ◌∙◌, ap}
use mathlib.Core.Logic.{inl, inr}
use mathlib.Core.List.{List, [], ◌∷◌, ◌++◌, map, flat_map, append-nil, append_assoc}
use lib.Dec.{eqb}
use lib.ListN.{length}
use borrow.Author.Tests.{eq-eqb, ne_eqb, eqb-true, eqb-false}
use Rattle.base.specs.Lists.{All, All-map, All-append, All-mapped, map_append, flat_map_map}
use Rattle.base.specs.Rows.{Each}
use Rattle.base.specs.SortLaws.{decided}
use Rattle.incremental_progress.specs.Gaps.{Placed, in_gap, by_gap}
use Rattle.commit_rows.specs.Bytes.{row_bytes}
use Rattle.commit_rows.specs.declared.rows.Row.{Row}
use Rattle.commit_write.specs.Rows.{view_bytes}
use Rattle.commit_write.specs.Buckets.{in_bucket, by_bucket, destination_rows}
use Rattle.commit_write.specs.BucketLaws.{bucket_same, bucket_other, bucket_append, by_each}

-- ---- items with their buckets: 2 g for the pieces of gap g, 2 i + 1 for the outputs of interval i
abbrev pub placed_at : {A : Type 0} → ℕ → A → Placed A
placed_at g a = record { gap = g; item = a }

unfoldable pub outputs_placed : {A : Type 0} → ℕ → List (List A) → List (Placed A)
outputs_placed i [] = []
outputs_placed i (os ∷ outs) = map (placed_at (2 * i + 1)) os ++ outputs_placed (suc i) outs

unfoldable pub pieces_placed : {A : Type 0} → List (Placed A) → List (Placed A)
pieces_placed ps = map (λ p. placed_at (2 * p.gap) p.item) ps

-- ---- buckets that hold nothing
module _ {A : Type 0} (f : A → ℕ) where
  bucket_void : (g : ℕ) (xs : List A) → All (λ x. f x ≡ g → ⊥) xs → in_bucket f g xs ≡ []
  unfolding in_bucket
  bucket_void g [] a = refl
  bucket_void g (x ∷ xs) a = bucket_other f g x xs a.0 ∙ bucket_void g xs a.1

  bucket_full : (g : ℕ) (xs : List A) → All (λ x. f x ≡ g) xs → in_bucket f g xs ≡ xs
  unfolding in_bucket
  bucket_full g [] a = refl
  bucket_full g (x ∷ xs) a = bucket_same f g x xs a.0 ∙ ap (λ l. x ∷ l) (bucket_full g xs a.1)

  by_void : (g k : ℕ) (xs : List A) → All (λ x. f x < g) xs → by_bucket f g k xs ≡ []
  unfolding by_bucket
  by_void g zero xs a = refl
  by_void g (suc k) xs a =
      let e = bucket_void g xs (All-map (λ x h. λ q. let l : f x < g = h in omega arith) xs a) in
      let d = by_void (g + 1) k xs (All-map (λ x h. let l : f x < g = h in omega arith) xs a) in
      rw (e, d)

  -- those of lower buckets are passed over
  by_past : (g k : ℕ) (ys xs : List A) → All (λ x. f x < g) ys → by_bucket f g k (ys ++ xs) ≡ by_bucket f g k xs
  unfolding by_bucket
  by_past g zero ys xs a = refl
  by_past g (suc k) ys xs a =
      let e : in_bucket f g (ys ++ xs) ≡ in_bucket f g xs
      = bucket_append f g ys xs ∙ ap (λ l. l ++ in_bucket f g xs) (bucket_void g ys (All-map (λ x h. λ q. let l : f x < g = h in omega arith) ys a)) in
      let d = by_past (g + 1) k ys xs (All-map (λ x h. let l : f x < g = h in omega arith) ys a) in
      rw (e, d)

module _ {A : Type 0} where
  abbrev num : Placed A → ℕ
  num p = p.gap

  abbrev what : Placed A → A
  what p = p.item

  -- the outputs are in odd buckets, from the first interval's on
  outputs_odd : (i : ℕ) (outs : List (List A)) → All (λ p. 2 * i < num p) (outputs_placed i outs)
  unfolding outputs_placed
  outputs_odd i [] = tt
  outputs_odd i (os ∷ outs) =
      All-append (λ p. 2 * i < num p) (map (placed_at (2 * i + 1)) os) (outputs_placed (suc i) outs)
      (All-mapped (λ p. 2 * i < num p) (placed_at (2 * i + 1)) os (each os))
      (All-map (λ p h. let l : 2 * suc i < num p = h in omega arith) (outputs_placed (suc i) outs) (outputs_odd (suc i) outs))
    where
      each : (xs : List A) → All (λ x. 2 * i < 2 * i + 1) xs
      each [] = tt
      each (x ∷ xs) = (omega arith, each xs)

  one_bucket : (b : ℕ) (os : List A) → All (λ p. num p ≡ b) (map (placed_at b) os)
  one_bucket b [] = tt
  one_bucket b (x ∷ os) = (refl, one_bucket b os)

  one_back : (b : ℕ) (os : List A) → map what (map (placed_at b) os) ≡ os
  one_back b [] = refl
  one_back b (x ∷ os) = ap (λ l. x ∷ l) (one_back b os)

  -- the pieces of a gap
  pieces_gap : (g : ℕ) (ps : List (Placed A)) → map what (in_bucket num (2 * g) (pieces_placed ps)) ≡ in_gap g ps
  unfolding pieces_placed in_bucket in_gap
  pieces_gap g [] = refl
  pieces_gap g (p ∷ ps) =
      elim (decided (eqb p.gap g)) [
        | inl h ↦
            let e : p.gap ≡ g = eqb-true p.gap g h in
            rw (h, eq-eqb (2 * p.gap) (2 * g) (omega arith)) (ap (λ l. p.item ∷ l) (pieces_gap g ps))
        | inr h ↦
            let e = eqb-false p.gap g h in
            rw (h, ne_eqb (2 * p.gap) (2 * g) (λ q. e (omega arith))) (pieces_gap g ps)
      ]

  pieces_even : (g : ℕ) (ps : List (Placed A)) → All (λ p. num p ≡ 2 * g + 1 → ⊥) (pieces_placed ps)
  unfolding pieces_placed
  pieces_even g [] = tt
  pieces_even g (p ∷ ps) = (λ q. let e : 2 * p.gap ≡ 2 * g + 1 = q in omega arith, pieces_even g ps)

  pieces_low : (g : ℕ) (ps : List (Placed A)) → All (λ p. p.gap ≤ g) ps → All (λ p. num p < 2 * g + 1) (pieces_placed ps)
  unfolding pieces_placed
  pieces_low g [] a = tt
  pieces_low g (p ∷ ps) a = (let l : p.gap ≤ g = a.0 in omega arith, pieces_low g ps a.1)

  -- two buckets at a time: a gap's, and those of the interval after it
  two_more : (g k : ℕ) (xs : List (Placed A)) → by_bucket num (2 * g) (2 * suc k + 1) xs ≡ in_bucket num (2 * g) xs ++ (in_bucket num (2 * g + 1) xs ++ by_bucket num (2 * suc g) (2 * k + 1) xs)
  unfolding by_bucket
  two_more g k xs =
      let z : 2 * suc k + 1 ≡ suc (suc (2 * k + 1)) = omega arith in
      let y : 2 * g + 1 + 1 ≡ 2 * suc g = omega arith in
      rw (z, y)

  last_gap_lem : (g k : ℕ) (ps : List (Placed A)) → All (λ p. p.gap ≤ g) ps → map what (by_bucket num (2 * g) (2 * k + 1) (pieces_placed ps)) ≡ in_gap g ps
  unfolding by_bucket
  last_gap_lem g k ps a =
      let z : 2 * k + 1 ≡ suc (2 * k) = omega arith in
      rw (z, by_void num (2 * g + 1) (2 * k) (pieces_placed ps) (pieces_low g ps a), append-nil) (pieces_gap g ps)

  gaps_from_lem : (g k : ℕ) (outs : List (List A)) (ps : List (Placed A)) → length outs ≤ k → All (λ p. p.gap ≤ g + length outs) ps → map what (by_bucket num (2 * g) (2 * k + 1) (outputs_placed g outs ++ pieces_placed ps)) ≡ by_gap g outs ps
  unfolding outputs_placed by_gap
  gaps_from_lem g k [] ps h a = last_gap_lem g k ps (All-map (λ p q. let l : p.gap ≤ g + 0 = q in omega arith) ps a)
  gaps_from_lem g zero (os ∷ outs) ps h a = absurd (omega arith)
  gaps_from_lem g (suc k) (os ∷ outs) ps h a =
      let these = map (placed_at (2 * g + 1)) os in
      let later = outputs_placed (suc g) outs in
      let pieces = pieces_placed ps in
      let above : All (λ p. 2 * suc g < num p) later = outputs_odd (suc g) outs in
      let one : All (λ p. num p ≡ 2 * g + 1) these = one_bucket (2 * g + 1) os in
      let as' : (these ++ later) ++ pieces ≡ these ++ (later ++ pieces) = append_assoc these later pieces in
      let first : in_bucket num (2 * g) (these ++ (later ++ pieces)) ≡ in_bucket num (2 * g) pieces
      = bucket_append num (2 * g) these (later ++ pieces)
      ∙ ap (λ l. l ++ in_bucket num (2 * g) (later ++ pieces)) (bucket_void num (2 * g) these (All-map (λ p e. λ q. let l : num p ≡ 2 * g + 1 = e in omega arith) these one))
      ∙ bucket_append num (2 * g) later pieces
      ∙ ap (λ l. l ++ in_bucket num (2 * g) pieces) (bucket_void num (2 * g) later (All-map (λ p e. λ q. let l : 2 * suc g < num p = e in omega arith) later above)) in
      let second : in_bucket num (2 * g + 1) (these ++ (later ++ pieces)) ≡ these
      = bucket_append num (2 * g + 1) these (later ++ pieces)
      ∙ ap (λ l. l ++ in_bucket num (2 * g + 1) (later ++ pieces)) (bucket_full num (2 * g + 1) these one)
      ∙ ap (λ l. these ++ l)
      (bucket_append num (2 * g + 1) later pieces
      ∙ ap (λ l. l ++ in_bucket num (2 * g + 1) pieces) (bucket_void num (2 * g + 1) later (All-map (λ p e. λ q. let l : 2 * suc g < num p = e in omega arith) later above))
      ∙ bucket_void num (2 * g + 1) pieces (pieces_even g ps))
      ∙ append-nil these in
      let third : by_bucket num (2 * suc g) (2 * k + 1) (these ++ (later ++ pieces)) ≡ by_bucket num (2 * suc g) (2 * k + 1) (later ++ pieces)
      = by_past num (2 * suc g) (2 * k + 1) these (later ++ pieces) (All-map (λ p e. let l : num p ≡ 2 * g + 1 = e in omega arith) these one) in
      let rest = by_bucket num (2 * suc g) (2 * k + 1) (later ++ pieces) in
      let next : map what rest ≡ by_gap (suc g) outs ps
      = gaps_from_lem (suc g) k outs ps (omega arith) (All-map (λ p q. let l : p.gap ≤ g + suc (length outs) = q in omega arith) ps a) in
      rw (as', two_more g k, first, second, third)
      (map_append what (in_bucket num (2 * g) pieces) (these ++ rest)
      ∙ ap (λ l. l ++ map what (these ++ rest)) (pieces_gap g ps)
      ∙ ap (λ l. in_gap g ps ++ l) (map_append what these rest ∙ ap (λ l. l ++ map what rest) (one_back (2 * g + 1) os) ∙ ap (λ l. os ++ l) next))

  -- by bucket is by gap
  pub buckets_are_gaps : (outs : List (List A)) (ps : List (Placed A)) → length outs ≤ 64 → All (λ p. p.gap ≤ length outs) ps → map what (by_bucket num 0 131 (outputs_placed 0 outs ++ pieces_placed ps)) ≡ by_gap 0 outs ps
  buckets_are_gaps outs ps h a = gaps_from_lem 0 65 outs ps (omega arith) (All-map (λ p q. let l : p.gap ≤ length outs = q in omega arith) ps a)

-- ---- the destination's bytes, where rows stand for placed items one by one
module _ {A : Type 0} (w : A → List ℕ) (image job ids : List ℕ) where
  -- the row has the item's bucket and bytes
  pub record RowFor (p : Placed A) (r : Row) : Type 0 where
    pub bucket_is : p.gap ≡ r.bucket
    pub bytes_are : w p.item ≡ row_bytes image job ids r

  each_bytes : (ps : List (Placed A)) (rs : List Row) → Each RowFor ps rs → flat_map (λ p. w p.item) ps ≡ view_bytes image job ids rs
  unfolding flat_map
  each_bytes [] [] e = refl
  each_bytes [] (r ∷ rs) e = absurd e
  each_bytes (p ∷ ps) [] e = absurd e
  each_bytes (p ∷ ps) (r ∷ rs) e = rw (e.0.bytes_are, each_bytes ps rs e.1)

  pub destination_bytes_lem :
      (outs : List (List A)) (ps : List (Placed A)) (outputs pieces : List Row)
      → length outs ≤ 64
      → All (λ p. p.gap ≤ length outs) ps
      → Each RowFor (outputs_placed 0 outs ++ pieces_placed ps) (outputs ++ pieces)
      → view_bytes image job ids (destination_rows outputs pieces) ≡ flat_map w (by_gap 0 outs ps)
  unfolding destination_rows
  destination_bytes_lem outs ps outputs pieces h a e =
      let all = outputs_placed 0 outs ++ pieces_placed ps in
      let b = by_each (λ (p : Placed A). p.gap) (λ (r : Row). r.bucket) RowFor (λ p r f. f.bucket_is) 0 131 all (outputs ++ pieces) e in
      sym (each_bytes (by_bucket (λ (p : Placed A). p.gap) 0 131 all) (by_bucket (λ (r : Row). r.bucket) 0 131 (outputs ++ pieces)) b)
      ∙ sym (flat_map_map w (λ (p : Placed A). p.item) (by_bucket (λ (p : Placed A). p.gap) 0 131 all))
      ∙ ap (flat_map w) (buckets_are_gaps outs ps h a)
