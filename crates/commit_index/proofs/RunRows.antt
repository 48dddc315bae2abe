-- The ids of runs in rows of four numbers.
-- Assumes nothing.
use Prim.Native.Nat.{ℕ, zero, suc, ◌+◌, ◌*◌, ◌<◌}
use native.Mathlib.Omega.{arith}
use mathlib.Core.Path.{◌≡◌, refl, ◌∙◌}
use mathlib.Core.List.{List, [], ◌∷◌, map}
use lib.ListN.{length, get_or, drop, length-map}
use lib.Seq.{get_or-take, get_or-drop}
use Rattle.base.specs.Rows.{rows_in, length_rows, Each, RowsHold}
use Rattle.records.specs.Values.{Run}
use Rattle.commit_index.specs.Index.{row_ids, RunIs}

pub ids_length : (n : ℕ) (t : List ℕ) → length (row_ids n t) ≡ n
ids_length n t = length-map (rows_in 4 n t) (λ row. get_or row 0 0) ∙ length_rows 4 n t

pub id_number : (n i : ℕ) (t : List ℕ) → i < n → get_or (row_ids n t) i 0 ≡ get_or t (i * 4) 0
unfolding rows_in
id_number zero i t h = absurd (omega arith)
id_number (suc n) zero t h = get_or-take 4 t 0 0 (omega arith)
id_number (suc n) (suc i) t h =
    let z : 4 + i * 4 ≡ suc i * 4 = omega arith in
    id_number n i (drop 4 t) (omega arith) ∙ get_or-drop 4 t (i * 4) 0 ∙ rw z

each_id : (s : List ℕ) (rs : List Run) (rows : List (List ℕ)) → Each (RunIs s) rs rows → map (λ row. get_or row 0 0) rows ≡ map (λ r. r.id) rs
each_id s [] [] e = refl
each_id s [] (y ∷ rows) e = absurd e
each_id s (r ∷ rs) [] e = absurd e
each_id s (r ∷ rs) (y ∷ rows) e = rw (e.0.id, each_id s rs rows e.1)

pub held_ids : (s : List ℕ) (rs : List Run) (t : List ℕ) → RowsHold 4 (RunIs s) rs t → row_ids (length rs) t ≡ map (λ r. r.id) rs
held_ids s rs t p = each_id s rs (rows_in 4 (length rs) t) p.rows
