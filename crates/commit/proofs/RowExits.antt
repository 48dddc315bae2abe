-- The exits of `column_sum` and `rows_at_most`.
-- Assumes nothing.
use Prim.Native.Nat.{ℕ, zero, suc, ◌+◌, ◌-◌, ◌*◌, ◌^◌, ◌≤◌, ◌<◌}
use native.Mathlib.Omega.{arith}
use mathlib.Core.Path.{◌≡◌, refl, sym, ap, ◌∙◌}
use mathlib.Core.List.{List, [], ◌∷◌, flat_map}
use lib.ListN.{length, get_or, drop, length-append}
use mir.Val.{Fits}
use mir.Syntax.{w64}
use Rattle.base.specs.Lists.{All, All-of}
use Rattle.base.specs.Rows.{rows_in, row_at, rows_at, row_number, length_rows, Each}
use Rattle.records.specs.Values.{Run}
use Rattle.records.specs.Layouts.{table}
use Rattle.records.proofs.Forms.{read_many_length}
use Rattle.incremental_progress.specs.Jobs.{outputs}
use Rattle.commit_index.specs.Index.{image_of, IndexHold, RunIs}
use Rattle.commit_rows.specs.Numbers.{part_of}
use Rattle.commit_durable.specs.Tables.{job_of, PartIs, PartsHold}
use Rattle.commit.specs.Stages.{column_sum, rows_at_most}
use Rattle.commit.proofs.EachLaws.{each_all}

-- ---- products
-- a row before the end of a table
before_end : (w n k : ℕ) → k < n → k * w + w ≤ n * w
before_end w n k h =
    let d = n - (k + 1) in
    let e : (k + 1 + d) * w ≡ n * w = ap (λ x. x * w) (omega arith) in
    omega (arith, e)

times_most : (a b c : ℕ) → a ≤ c → a * b ≤ c * b
times_most a b c h =
    let d = c - a in
    let e : (a + d) * b ≡ c * b = ap (λ x. x * b) (omega arith) in
    omega (arith, e)

-- ---- column_sum
drop_all : {A : Type 0} (P : A → Type 0) (k : ℕ) (xs : List A) {x : A} {more : List A} → All P xs → drop k xs ≡ x ∷ more → P x
drop_all P zero [] {x} {more} a e = absurd (let z : 0 ≡ length (x ∷ more) = ap length e in omega (arith, z))
drop_all P zero (y ∷ xs) {x} a e = let z : y ≡ x = cc in rw z at a.0
drop_all P (suc k) [] {x} {more} a e = absurd (let z : 0 ≡ length (x ∷ more) = ap length e in omega (arith, z))
drop_all P (suc k) (y ∷ xs) a e = drop_all P k xs a.1 e

drop_none : {A : Type 0} (k : ℕ) (xs : List A) → length xs ≤ k → drop k xs ≡ []
drop_none zero [] h = refl
drop_none zero (x ∷ xs) h = absurd (omega arith)
drop_none (suc k) [] h = refl
drop_none (suc k) (x ∷ xs) h = drop_none k xs (omega arith)

abbrev Small : ℕ → List ℕ → Type 0
Small c row = get_or row c 0 ≤ 1024

pub record Summed (t : List ℕ) (w c n sum k : ℕ) : Type 0 where
  pub inside : c < w
  pub few : n ≤ 64
  pub long : n * w ≤ length t
  pub small : All (Small c) (rows_in w n t)
  pub upto : k ≤ n
  pub most : sum ≤ k * 1024
  pub rest : column_sum c (rows_in w n t) ≡ sum + column_sum c (drop k (rows_in w n t))

pub sum_begin : (t : List ℕ) (w c n : ℕ) → c < w → n ≤ 64 → n * w ≤ length t → All (λ row. get_or row c 0 ≤ 1024) (rows_in w n t) → Summed t w c n 0 0
sum_begin t w c n h f l a = record { inside = h; few = f; long = l; small = a; upto = omega arith; most = omega arith; rest = omega arith }

module _ {t : List ℕ} {w c n sum k : ℕ} (p : Summed t w c n sum k) where
  pub sum_all : n ≤ k → sum ≡ column_sum c (rows_in w n t)
  unfolding column_sum
  sum_all h = sym (p.rest ∙ ap (λ l. sum + column_sum c l) (drop_none k (rows_in w n t) (omega (arith, length_rows w n t))) ∙ (omega arith))

  module _ (h : k < n) where
    pub sum_place : k * w + c < length t
    sum_place = omega (arith, before_end w n k h, p.inside, p.long)

    pub sum_row_fits : length t < 2 ^ 64 → Fits w64 (k * w)
    sum_row_fits l = omega (arith, sum_place)

    pub sum_place_fits : length t < 2 ^ 64 → Fits w64 (k * w + c)
    sum_place_fits l = omega (arith, sum_place)

    this : get_or (row_at w k t) c 0 ≡ get_or t (k * w + c) 0
    this = row_number w k c t p.inside

    this_small : get_or t (k * w + c) 0 ≤ 1024
    this_small = rw this at (drop_all (Small c) k (rows_in w n t) p.small (rows_at w n k t h))

    pub sum_fits : Fits w64 (sum + get_or t (k * w + c) 0)
    sum_fits = omega (arith, this_small, p.most, p.few)

    pub sum_next : Summed t w c n (sum + get_or t (k * w + c) 0) (k + 1)
    unfolding column_sum
    sum_next =
        record {
          inside = p.inside;
          few = p.few;
          long = p.long;
          small = p.small;
          upto = omega arith;
          most = omega (arith, this_small, p.most);
          rest = p.rest ∙ ap (λ l. sum + column_sum c l) (rows_at w n k t h) ∙ ap (λ x. sum + (x + column_sum c (drop (k + 1) (rows_in w n t)))) this ∙ (omega arith);
        }

pub ruleset sum_exits = (sum_begin, sum_all, sum_place, sum_row_fits, sum_place_fits, sum_fits, sum_next)

-- ---- rows_at_most
-- a column that counts lists, one a row
column_is : {A B : Type 0} (R : A → List ℕ → Type 0) (f : A → List B) (c : ℕ) → ((x : A) (row : List ℕ) → R x row → get_or row c 0 ≡ length (f x))
    → (xs : List A) (rows : List (List ℕ)) → Each R xs rows → column_sum c rows ≡ length (flat_map f xs)
unfolding column_sum flat_map
column_is R f c h [] [] e = refl
column_is R f c h [] (row ∷ rows) e = absurd e
column_is R f c h (x ∷ xs) [] e = absurd e
column_is R f c h (x ∷ xs) (row ∷ rows) e = rw (length-append (f x) (flat_map f xs), h x row e.0, column_is R f c h xs rows e.1)

column_small : (c : ℕ) (rows : List (List ℕ)) → All (Small c) rows → column_sum c rows ≤ length rows * 1024
unfolding column_sum
column_small c [] a = omega arith
column_small c (row ∷ rows) a = omega (arith, a.0, column_small c rows a.1)

module _ {s t : List ℕ} {n : ℕ} (h : IndexHold s n t) where
  pub index_long : n * 4 ≤ length t
  index_long = rw h.count h.rows.long

  pub views_small : All (λ row. get_or row 1 0 ≤ 1024) (rows_in 4 n t)
  views_small =
      rw h.count
      (each_all (RunIs s) (λ r. Unit {0}) (Small 1) (λ r row x u. x.few) (image_of s) (rows_in 4 (length (image_of s)) t) h.rows.rows (All-of (λ r. tt) (image_of s)))

  views_are : column_sum 1 (rows_in 4 n t) ≡ length (flat_map (λ (r : Run). r.views) (image_of s))
  views_are =
      rw h.count (column_is (RunIs s) (λ r. r.views) 1 (λ r row x. x.count) (image_of s) (rows_in 4 (length (image_of s)) t) h.rows.rows)

  views_few : column_sum 1 (rows_in 4 n t) ≤ 65536
  views_few = omega (arith, column_small 1 (rows_in 4 n t) views_small, length_rows 4 n t, h.most)

  module _ {j p : List ℕ} {m : ℕ} (k : PartsHold j m p) where
    pub parts_long : m * 10 ≤ length p
    parts_long = rw k.count k.rows.long

    pub outputs_small : All (λ row. get_or row 2 0 ≤ 1024) (rows_in 10 m p)
    outputs_small =
        rw k.count
        (each_all (PartIs j) (λ q. Unit {0}) (Small 2) (λ q row x u. x.few) (job_of j).parts (rows_in 10 (length (job_of j).parts) p) k.rows.rows (All-of (λ q. tt) (job_of j).parts))

    outputs_are : column_sum 2 (rows_in 10 m p) ≡ length (outputs (job_of j).parts)
    outputs_are =
        rw k.count
        (column_is (PartIs j) (λ q. q.outputs) 2
        (λ q row x. sym (read_many_length table.read (part_of row).outputs (drop (part_of row).first j) q.outputs x.past x.outputs_are)) (job_of j).parts
        (rows_in 10 (length (job_of j).parts) p) k.rows.rows)

    outputs_few : column_sum 2 (rows_in 10 m p) ≤ 65536
    outputs_few = omega (arith, column_small 2 (rows_in 10 m p) outputs_small, length_rows 10 m p, k.most)

    module _ {v : ℕ} (e : v ≡ column_sum 1 (rows_in 4 n t)) where
      product : v * (m + 1) ≤ 65536 * 65
      product = omega (arith, times_most v (m + 1) 65536 (rw e views_few), k.most)

      pub views_fit : Fits w64 (v * (m + 1))
      views_fit = omega (arith, product)

      module _ {o : ℕ} (f : o ≡ column_sum 2 (rows_in 10 m p)) where
        pub rows_fit : Fits w64 (v * (m + 1) + o)
        rows_fit = let l : o ≤ 65536 = rw f outputs_few in omega (arith, product, l)

        pub rows_are : v * (m + 1) + o ≡ rows_at_most (image_of s) (job_of j)
        unfolding rows_at_most
        rows_are = rw (e, f, views_are, outputs_are, ← k.count)

pub ruleset most_exits = (index_long, views_small, parts_long, outputs_small, views_fit, rows_fit, rows_are)
