-- The lines of some views after those of others.
-- Assumes nothing.
use Prim.Native.Nat.{ℕ, suc, ◌+◌, ◌≤◌}
use native.Mathlib.Omega.{arith}
use mathlib.Core.Path.{◌≡◌, refl, sym, ◌∙◌}
use mathlib.Core.List.{List, [], ◌∷◌, ◌++◌, append_assoc, append-nil}
use lib.ListN.{length, length-append}
use Rattle.records.specs.Values.{View, Run}
use Rattle.listing.specs.Listing.{line, lines, run_lines}

pub lines_append : (id place : ℕ) (vs ws : List View) → lines id place (vs ++ ws) ≡ lines id place vs ++ lines id (place + length vs) ws
unfolding lines
lines_append id place [] ws = let z : place + 0 ≡ place = omega arith in rw z
lines_append id place (v ∷ vs) ws =
    let z : place + suc (length vs) ≡ suc place + length vs = omega arith in
    rw (lines_append id (suc place) vs ws, z) (sym (append_assoc (line id place v) (lines id (suc place) vs) (lines id (suc place + length vs) ws)))

pub lines_more : (id place : ℕ) (vs : List View) (v : View) → length vs ≡ place → lines id 0 (vs ++ (v ∷ [])) ≡ lines id 0 vs ++ line id place v
unfolding lines
lines_more id place vs v e =
    lines_append id 0 vs (v ∷ []) ∙ rw (let z : 0 + length vs ≡ place = omega arith in z, append-nil)

pub run_lines_append : (rs qs : List Run) → run_lines (rs ++ qs) ≡ run_lines rs ++ run_lines qs
unfolding run_lines
run_lines_append [] qs = refl
run_lines_append (r ∷ rs) qs = rw (run_lines_append rs qs) (sym (append_assoc (lines r.id 0 r.views) (run_lines rs) (run_lines qs)))

pub run_lines_more : (rs : List Run) (r : Run) → run_lines (rs ++ (r ∷ [])) ≡ run_lines rs ++ lines r.id 0 r.views
unfolding run_lines
run_lines_more rs r = run_lines_append rs (r ∷ []) ∙ rw append-nil

-- ---- the lines of one view are among those of all
pub line_within : (id place : ℕ) (vs : List View) (v : View) (ws : List View) → length vs ≡ place → length (lines id 0 vs) + length (line id place v) ≤ length (lines id 0 (vs ++ (v ∷ ws)))
unfolding lines
line_within id place vs v ws e =
    let z : 0 + length vs ≡ place = omega arith in
    rw (lines_append id 0 vs (v ∷ ws), z, length-append, length-append) (omega arith)

pub run_within : (rs : List Run) (r : Run) (qs : List Run) → length (run_lines rs) + length (lines r.id 0 r.views) ≤ length (run_lines (rs ++ (r ∷ qs)))
unfolding run_lines
run_within rs r qs = rw (run_lines_append rs (r ∷ qs), length-append, length-append) (omega arith)
