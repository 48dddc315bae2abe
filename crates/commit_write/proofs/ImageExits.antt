-- What the loop over the runs keeps, and the exits of `put_image`.
-- Assumes nothing.
use Prim.Native.Nat.{ℕ, zero, suc, ◌+◌, ◌*◌, ◌≤◌, ◌<◌, ◌^◌}
use native.Mathlib.Omega.{arith}
use mathlib.Core.Path.{◌≡◌, refl, sym, ap, subst, ◌∙◌}
use mathlib.Core.List.{List, [], ◌∷◌, ◌++◌, map, append_assoc, append-nil}
use lib.ListN.{length, take, drop, length-append, length-map, drop_of_length-le}
use mir.Val.{Fits}
use mir.Syntax.{w64}
use Rattle.base.specs.Lists.{All, All-left, All-unmapped, All-both}
use Rattle.base.specs.Rows.{row_at, rows_in, rows_at, length_rows}
use Rattle.base.specs.Splice.{splice}
use Rattle.format.specs.Number.{write_number}
use Rattle.format.proofs.Layouts.{number_length}
use Rattle.commit_rows.specs.Numbers.{run_of}
use Rattle.commit_rows.specs.Bytes.{RowInside}
use Rattle.commit_rows.specs.declared.rows.Row.{Row}
use Rattle.commit_rows.specs.declared.runs.RunRow.{RunRow}
use Rattle.range_write.specs.Put.{Put}
use Rattle.commit_write.specs.Rows.{row_in, count_from, view_rows, RowThere, RowsThere}
use Rattle.commit_write.specs.Runs.{run_bytes, runs_bytes, new_image_bytes, runs_in, planned, all_rows, planned_image, Bucketed, RunFits, RunsFit, Writable, RunWritable}
use Rattle.commit_write.specs.declared.runs.Counts.{Counts}
use Rattle.range_write.proofs.Pieces.{put_length, put_same, put_none, first_room, second_room, both_put}
use Rattle.commit_write.proofs.Counting.{count_append, count_all, rows_numbered, rows_take, rows_skip}

-- ---- a run, and those after it
drop_map : {A B : Type 0} (f : A → B) (k : ℕ) (xs : List A) → drop k (map f xs) ≡ map f (drop k xs)
drop_map f zero xs = refl
drop_map f (suc k) [] = refl
drop_map f (suc k) (x ∷ xs) = drop_map f k xs

runs_at : (n k : ℕ) (t : List ℕ) → k < n → drop k (runs_in n t) ≡ run_of (row_at 6 k t) ∷ drop (k + 1) (runs_in n t)
runs_at n k t h =
    drop_map run_of k (rows_in 6 n t) ∙ ap (map run_of) (rows_at 6 n k t h) ∙ ap (λ l. run_of (row_at 6 k t) ∷ l) (sym (drop_map run_of (k + 1) (rows_in 6 n t)))

runs_length_lem : (n : ℕ) (t : List ℕ) → length (runs_in n t) ≡ n
runs_length_lem n t = length-map (rows_in 6 n t) run_of ∙ length_rows 6 n t

planned_first : (r : RunRow) (rs : List RunRow) → planned (r ∷ rs) ≡ r.rows + planned rs
unfolding planned
planned_first r rs = refl

bytes_first :
    (image job ids : List ℕ) (outputs : List Row) (r : RunRow) (rs : List RunRow) (row : ℕ) (t : List ℕ)
    → runs_bytes image job ids outputs (r ∷ rs) (view_rows row (planned (r ∷ rs)) t)
    ≡ run_bytes image job ids outputs r (view_rows row r.rows t) ++ runs_bytes image job ids outputs rs (view_rows (row + r.rows) (planned rs) t)
unfolding runs_bytes
bytes_first image job ids outputs r rs row t = rw (planned_first r rs, rows_take row r.rows (planned rs) t, rows_skip row r.rows (planned rs) t)

bytes_none : (image job ids : List ℕ) (outputs rows : List Row) → runs_bytes image job ids outputs [] rows ≡ []
unfolding runs_bytes
bytes_none image job ids outputs rows = refl

fit_first :
    (image : List ℕ) (m places : ℕ) (r : RunRow) (rs : List RunRow) (row : ℕ) (t : List ℕ)
    → RunsFit image m places (r ∷ rs) (view_rows row (planned (r ∷ rs)) t)
    → RunFits image m places r (view_rows row r.rows t) × RunsFit image m places rs (view_rows (row + r.rows) (planned rs) t)
fit_first image m places r rs row t f = (
  subst (RunFits image m places r) (ap (λ n. take r.rows (view_rows row n t)) (planned_first r rs) ∙ rows_take row r.rows (planned rs) t) f.0,
  subst (RunsFit image m places rs) (ap (λ n. drop r.rows (view_rows row n t)) (planned_first r rs) ∙ rows_skip row r.rows (planned rs) t) f.1,
)

All-right : {A : Type 0} (P : A → Type 0) (xs ys : List A) → All P (xs ++ ys) → All P ys
All-right P [] ys a = a
All-right P (x ∷ xs) ys a = All-right P xs ys a.1

there_first :
    (image job ids t : List ℕ) (r : RunRow) (rs : List RunRow) (row : ℕ)
    → RowsThere image job ids t row (planned (r ∷ rs))
    → RowsThere image job ids t row r.rows × RowsThere image job ids t (row + r.rows) (planned rs)
there_first image job ids t r rs row a =
    let both : All (RowThere image job ids t) (count_from row r.rows ++ count_from (row + r.rows) (planned rs))
    = rw (planned_first r rs, count_append row r.rows (planned rs)) at a in (
      All-left (RowThere image job ids t) (count_from row r.rows) (count_from (row + r.rows) (planned rs)) both,
      All-right (RowThere image job ids t) (count_from row r.rows) (count_from (row + r.rows) (planned rs)) both,
    )

-- ---- the loop: k runs are put
pub record Putting (image job ids runs rows order₀ d : List ℕ) (n m : ℕ) (order out : List ℕ) (k row to : ℕ) : Type 0 where
  pub upto : k ≤ n
  pub runs_fit : length runs < 2 ^ 64
  pub rows_fit : length rows < 2 ^ 64
  pub order_same : length order ≡ length order₀
  pub runs_long : n * 6 ≤ length runs
  pub rows_long : (row + planned (drop k (runs_in n runs))) * 11 ≤ length rows
  pub outputs : RowsThere image job ids rows 0 m
  pub small : Bucketed (view_rows 0 m rows)
  pub there : RowsThere image job ids rows row (planned (drop k (runs_in n runs)))
  pub fit : RunsFit image m (length order₀) (drop k (runs_in n runs)) (view_rows row (planned (drop k (runs_in n runs))) rows)
  pub done : List ℕ
  pub all_is :
      runs_bytes image job ids (view_rows 0 m rows) (runs_in n runs) (view_rows m (planned (runs_in n runs)) rows)
      ≡ done ++ runs_bytes image job ids (view_rows 0 m rows) (drop k (runs_in n runs)) (view_rows row (planned (drop k (runs_in n runs))) rows)
  pub room : 1 + length (runs_bytes image job ids (view_rows 0 m rows) (runs_in n runs) (view_rows m (planned (runs_in n runs)) rows)) ≤ length d
  pub put : Put d 1 done out to

-- the rows of the tables, by their numbers
module _ (runs rows : List ℕ) (c : Counts) where
  abbrev p : ℕ
  p = planned (runs_in c.runs runs)

  outputs_are : take c.outputs (all_rows c runs rows) ≡ view_rows 0 c.outputs rows
  outputs_are = ap (take c.outputs) (rows_numbered (c.outputs + p) rows) ∙ rows_take 0 c.outputs p rows

  plan_is : drop c.outputs (all_rows c runs rows) ≡ view_rows c.outputs p rows
  plan_is =
      let z : 0 + c.outputs ≡ c.outputs = omega arith in
      ap (drop c.outputs) (rows_numbered (c.outputs + p) rows) ∙ rows_skip 0 c.outputs p rows ∙ ap (λ k. view_rows k p rows) z

  image_is : (image job ids : List ℕ) → planned_image image job ids runs rows c ≡ write_number 1 c.runs ++ runs_bytes image job ids (view_rows 0 c.outputs rows) (runs_in c.runs runs) (view_rows c.outputs p rows)
  unfolding new_image_bytes
  image_is image job ids = rw (outputs_are, plan_is, runs_length_lem c.runs runs)

rows_there : (image job ids t : List ℕ) (n : ℕ) → n * 11 ≤ length t → All (RowInside image job ids) (view_rows 0 n t) → RowsThere image job ids t 0 n
rows_there image job ids t n h a =
    All-both (λ k l x. record { long = l; inside = x }) (count_from 0 n)
    (count_all (λ k. k * 11 + 11 ≤ length t) 0 n (λ k a b. omega arith))
    (All-unmapped (RowInside image job ids) (row_in t) (count_from 0 n) a)

module _ {image job ids runs rows order₀ d : List ℕ} {n m : ℕ} {order out : List ℕ} {k row to : ℕ} (p : Putting image job ids runs rows order₀ d n m order out k row to) where
  abbrev outs : List Row
  outs = view_rows 0 m rows

  abbrev bytes : List RunRow → ℕ → List ℕ
  bytes rs from = runs_bytes image job ids outs rs (view_rows from (planned rs) rows)

  all_long : length (bytes (runs_in n runs) m) ≡ length p.done + length (bytes (drop k (runs_in n runs)) row)
  all_long = ap length p.all_is ∙ length-append p.done (bytes (drop k (runs_in n runs)) row)

  pub putting_length : length out ≡ length d
  putting_length = put_length p.put (omega (arith, all_long, p.room))

  putting_all : n ≤ k → Put d 1 (runs_bytes image job ids (view_rows 0 m rows) (runs_in n runs) (view_rows m (planned (runs_in n runs)) rows)) out to
  putting_all h =
      let e : drop k (runs_in n runs) ≡ [] = drop_of_length-le (runs_in n runs) {i = k} (rw (runs_length_lem n runs) h) in
      let a : bytes (runs_in n runs) m ≡ p.done = p.all_is ∙ ap (λ rs. p.done ++ bytes rs row) e ∙ ap (λ l. p.done ++ l) (bytes_none image job ids outs (view_rows row (planned []) rows)) ∙ append-nil p.done in
      put_same p.put (sym a)

  module _ (h : k < n) where
    module _ {r : RunRow} (q : r ≡ run_of (row_at 6 k runs)) where
      abbrev left : List RunRow
      left = drop (k + 1) (runs_in n runs)

      open' : drop k (runs_in n runs) ≡ r ∷ left
      open' = runs_at n k runs h ∙ ap (λ x. x ∷ left) (sym q)

      rows_left : planned (drop k (runs_in n runs)) ≡ r.rows + planned left
      rows_left = ap planned open' ∙ planned_first r left

      pub putting_fits : Fits w64 (row + r.rows)
      putting_fits = omega (arith, p.rows_long, p.rows_fit, rows_left)

      fit_now : RunFits image m (length order₀) r (view_rows row r.rows rows) × RunsFit image m (length order₀) left (view_rows (row + r.rows) (planned left) rows)
      fit_now = fit_first image m (length order₀) r left row rows (subst (λ rs. RunsFit image m (length order₀) rs (view_rows row (planned rs) rows)) open' p.fit)

      there_now : RowsThere image job ids rows row r.rows × RowsThere image job ids rows (row + r.rows) (planned left)
      there_now = there_first image job ids rows r left row (subst (λ rs. RowsThere image job ids rows row (planned rs)) open' p.there)

      abbrev this : List ℕ
      this = run_bytes image job ids (view_rows 0 m rows) r (view_rows row r.rows rows)

      left_bytes : bytes (drop k (runs_in n runs)) row ≡ this ++ bytes left (row + r.rows)
      left_bytes = ap (λ rs. bytes rs row) open' ∙ bytes_first image job ids outs r left row rows

      this_room : 1 + length (p.done ++ this) ≤ length d
      this_room =
          let a = ap length left_bytes ∙ length-append this (bytes left (row + r.rows)) in
          let b = length-append p.done this in
          omega (arith, p.room, all_long, a, b)

      pub putting_writable : RunWritable image job ids rows order r (record { outputs = m; row = row; to = to }) out
      putting_writable =
          record {
            outputs = p.outputs;
            small = p.small;
            there = there_now.0;
            fits = rw p.order_same fit_now.0;
            room = second_room d 1 p.done this this_room p.put;
          }

      pub putting_more :
          {order' out' : List ℕ} {past : ℕ}
          → Put out to (run_bytes image job ids (view_rows 0 m rows) r (view_rows row r.rows rows)) out' past
          → length order' ≡ length order
          → Putting image job ids runs rows order₀ d n m order' out' (k + 1) (row + r.rows) past
      putting_more {order'} {out'} {past} u o =
          record {
            upto = omega arith;
            runs_fit = p.runs_fit;
            rows_fit = p.rows_fit;
            order_same = o ∙ p.order_same;
            runs_long = p.runs_long;
            rows_long = omega (arith, p.rows_long, rows_left);
            outputs = p.outputs;
            small = p.small;
            there = there_now.1;
            fit = fit_now.1;
            done = p.done ++ this;
            all_is = p.all_is ∙ ap (λ l. p.done ++ l) left_bytes ∙ sym (append_assoc p.done this (bytes left (row + r.rows)));
            room = p.room;
            put = both_put d 1 p.done this this_room p.put u;
          }

-- ---- put_image
module _ {image job ids runs rows order : List ℕ} {c : Counts} {d : List ℕ} (w : Writable image job ids runs rows order c d) where
  abbrev count : List ℕ
  count = write_number 1 c.runs

  abbrev every : List ℕ
  every = runs_bytes image job ids (view_rows 0 c.outputs rows) (runs_in c.runs runs) (view_rows c.outputs (planned (runs_in c.runs runs)) rows)

  image_room : 0 + length (count ++ every) ≤ length d
  image_room = let e = ap length (image_is runs rows c image job ids) in omega (arith, w.room, e)

  pub count_room : 0 + 1 ≤ length d
  count_room = omega (arith, first_room d 0 count every image_room, number_length 1 c.runs)

  module _ {e : List ℕ} (a : e ≡ splice d 0 (write_number 1 c.runs)) where
    count_put : Put d 0 count e 1
    count_put = record { is = a; past_is = omega (arith, number_length 1 c.runs) }

    pub putting_begin : length runs < 2 ^ 64 → length rows < 2 ^ 64 → Putting image job ids runs rows order e c.runs c.outputs order e 0 c.outputs 1
    putting_begin u v =
        let n = planned (runs_in c.runs runs) in
        let all : RowsThere image job ids rows 0 (c.outputs + n)
        = rows_there image job ids rows (c.outputs + n) w.rows_long (subst (All (RowInside image job ids)) (rows_numbered (c.outputs + n) rows) w.inside) in
        let split : All (RowThere image job ids rows) (count_from 0 c.outputs ++ count_from (0 + c.outputs) n) = rw (count_append 0 c.outputs n) at all in
        let z : 0 + c.outputs ≡ c.outputs = omega arith in
        record {
          upto = omega arith;
          runs_fit = u;
          rows_fit = v;
          order_same = refl;
          runs_long = w.runs_long;
          rows_long = w.rows_long;
          outputs = All-left (RowThere image job ids rows) (count_from 0 c.outputs) (count_from (0 + c.outputs) n) split;
          small = subst Bucketed (outputs_are runs rows c) w.small;
          there = rw z at (All-right (RowThere image job ids rows) (count_from 0 c.outputs) (count_from (0 + c.outputs) n) split);
          fit = subst (RunsFit image c.outputs (length order) (runs_in c.runs runs)) (plan_is runs rows c) w.fit;
          done = [];
          all_is = refl;
          room = second_room d 0 count every image_room count_put;
          put = put_none e 1;
        }

    module _ {order' out : List ℕ} {k row to : ℕ} (p : Putting image job ids runs rows order e c.runs c.outputs order' out k row to) where
      pub image_put : c.runs ≤ k → out ≡ splice d 0 (planned_image image job ids runs rows c)
      image_put h = (both_put d 0 count every image_room count_put (putting_all p h)).is ∙ ap (splice d 0) (sym (image_is runs rows c image job ids))

      pub image_same : length out ≡ length d
      image_same = putting_length p ∙ put_length count_put (first_room d 0 count every image_room)

pub ruleset image_exits = (count_room, putting_begin, putting_length, putting_fits, putting_more, image_put, image_same)
