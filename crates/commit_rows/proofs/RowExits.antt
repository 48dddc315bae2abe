-- The exits of the functions that read and write rows, and that what was written is read again.
-- Assumes nothing.
use Prim.Native.Nat.{ℕ, ◌+◌, ◌*◌, ◌≤◌}
use native.Mathlib.Omega.{arith}
use mathlib.Core.Path.{◌≡◌, refl, ap, ◌∙◌}
use mathlib.Core.Bool.{Bool, true, false}
use mathlib.Core.List.{List, [], ◌∷◌, ◌++◌}
use lib.ListN.{length, get_or, set}
use lib.Dec.{eqb}
use Rattle.base.specs.Rows.{row_at, row_number}
use Rattle.base.specs.Splice.{splice, spliced_length, splice_splice, set_is_splice}
use Rattle.comparable_range.specs.declared.Kind.{Kind}
use Rattle.comparable_range.specs.declared.Kind.TheVariants.{Unbounded, Included, Excluded}
use Rattle.comparable_range.specs.declared.Side.TheVariants.{First, Second}
use Rattle.format.specs.Range.{kind_of, kind_number}
use Rattle.format.specs.declared.range.BoundSpan.{BoundSpan}
use Rattle.commit_rows.specs.Numbers.{span_at, bound_numbers, gap_of, gap_numbers, bit_of, part_of, part_numbers, form_of, form_number, row_of, row_numbers, run_kind_of, run_kind_number, run_of, run_numbers}
use Rattle.commit_rows.specs.declared.parts.PartSpan.{PartSpan}
use Rattle.commit_rows.specs.declared.rows.Form.{Form}
use Rattle.commit_rows.specs.declared.rows.Form.TheVariants.{Whole, Output, CutOutput, Cut}
use Rattle.commit_rows.specs.declared.rows.Row.{Row}
use Rattle.commit_rows.specs.declared.runs.RunKind.{RunKind}
use Rattle.commit_rows.specs.declared.runs.RunKind.TheVariants.{Other, Source, Destination}
use Rattle.commit_rows.specs.declared.runs.RunRow.{RunRow}

abbrev made : ℕ → ℕ → ℕ → BoundSpan
made k a l = record { kind = kind_of k; at = a; len = l }

-- three numbers of a row are three of the table
span_of_row : (w k i j : ℕ) (t : List ℕ) → i + 3 ≤ w → j ≡ k * w + i → span_at i (row_at w k t) ≡ span_at j t
span_of_row w k i j t h e =
    let a : k * w + (i + 1) ≡ j + 1 = omega arith in
    let b : k * w + (i + 2) ≡ j + 2 = omega arith in
    rw (row_number w k i t (omega arith), row_number w k (i + 1) t (omega arith), row_number w k (i + 2) t (omega arith), a, b, ← e)

-- ---- parts
module _ (t : List ℕ) (k : ℕ) (h : k * 10 + 10 ≤ length t) where
  pub part_read_lem :
      {a b : BoundSpan} {d c : Bool}
      → d ≡ eqb (get_or t (k * 10) 0) 1
      → c ≡ eqb (get_or t (k * 10 + 1) 0) 1
      → a ≡ span_at (k * 10 + 4) t
      → b ≡ span_at (k * 10 + 7) t
      → record { durable = d; completed = c; outputs = get_or t (k * 10 + 2) 0; first = get_or t (k * 10 + 3) 0; start = a; end = b } ≡ part_of (row_at 10 k t)
  part_read_lem p q e f =
      let z : k * 10 + 0 ≡ k * 10 = omega arith in
      rw (
        p,
        q,
        e,
        f,
        row_number 10 k 0 t (omega arith),
        z,
        row_number 10 k 1 t (omega arith),
        row_number 10 k 2 t (omega arith),
        row_number 10 k 3 t (omega arith),
        span_of_row 10 k 4 (k * 10 + 4) t (omega arith) refl,
        span_of_row 10 k 7 (k * 10 + 7) t (omega arith) refl,
      )

-- ---- views
module _ (t : List ℕ) (k : ℕ) (h : k * 11 + 11 ≤ length t) where
  pub row_read :
      {a b : BoundSpan} {o : Form}
      → o ≡ form_of (get_or t (k * 11) 0)
      → a ≡ span_at (k * 11 + 4) t
      → b ≡ span_at (k * 11 + 7) t
      → record { form = o; bucket = get_or t (k * 11 + 1) 0; at = get_or t (k * 11 + 2) 0; past = get_or t (k * 11 + 3) 0; start = a; end = b; ten = get_or t (k * 11 + 10) 0 }
      ≡ row_of (row_at 11 k t)
  row_read q e f =
      let z : k * 11 + 0 ≡ k * 11 = omega arith in
      rw (
        q,
        e,
        f,
        row_number 11 k 0 t (omega arith),
        z,
        row_number 11 k 1 t (omega arith),
        row_number 11 k 2 t (omega arith),
        row_number 11 k 3 t (omega arith),
        row_number 11 k 10 t (omega arith),
        span_of_row 11 k 4 (k * 11 + 4) t (omega arith) refl,
        span_of_row 11 k 7 (k * 11 + 7) t (omega arith) refl,
      )

-- four numbers, two bounds and one number, one after the other
pub row_put :
    (t : List ℕ) (k : ℕ) (r : Row) {n : ℕ} {u v w : List ℕ}
    → k * 11 + 11 ≤ length t
    → n ≡ form_number r.form
    → u ≡ splice t (k * 11) (n ∷ r.bucket ∷ r.at ∷ r.past ∷ [])
    → v ≡ splice u (k * 11 + 4) (bound_numbers r.start)
    → w ≡ splice v (k * 11 + 7) (bound_numbers r.end)
    → set w (k * 11 + 10) r.ten ≡ splice t (k * 11) (row_numbers r)
row_put t k r {n} {u} {v} {w} h x e f g =
    let front = n ∷ r.bucket ∷ r.at ∷ r.past ∷ [] in
    let two : v ≡ splice t (k * 11) (front ++ bound_numbers r.start) = f ∙ rw e (splice_splice t (k * 11) front (bound_numbers r.start) (k * 11 + 4) refl (omega arith)) in
    let three : w ≡ splice t (k * 11) (front ++ bound_numbers r.start ++ bound_numbers r.end)
    = g ∙ rw two (splice_splice t (k * 11) (front ++ bound_numbers r.start) (bound_numbers r.end) (k * 11 + 7) refl (omega arith)) in
    let l : length w ≡ length t = spliced_length t (k * 11) (front ++ bound_numbers r.start ++ bound_numbers r.end) three (omega arith) in
    let all : set w (k * 11 + 10) r.ten ≡ splice t (k * 11) (front ++ bound_numbers r.start ++ bound_numbers r.end ++ (r.ten ∷ []))
    = set_is_splice w (k * 11 + 10) r.ten (omega arith)
    ∙ ap (λ (l : List ℕ). splice l (k * 11 + 10) (r.ten ∷ [])) three
    ∙ splice_splice t (k * 11) (front ++ bound_numbers r.start ++ bound_numbers r.end) (r.ten ∷ []) (k * 11 + 10) refl (omega arith) in
    rw (← x) all

-- ---- what was written is read again
kind_back : (k : Kind) → kind_of (kind_number k) ≡ k
kind_back Unbounded = refl
kind_back Included = refl
kind_back Excluded = refl

span_back : (b : BoundSpan) → made (kind_number b.kind) b.at b.len ≡ b
span_back b = ap (λ k. record { kind = k; at = b.at; len = b.len }) (kind_back b.kind)

bit_back : (b : Bool) → eqb (bit_of b) 1 ≡ b
bit_back true = refl
bit_back false = refl

form_back : (f : Form) → form_of (form_number f) ≡ f
form_back Whole = refl
form_back Output = refl
form_back CutOutput = refl
form_back (Cut First First) = refl
form_back (Cut First Second) = refl
form_back (Cut Second First) = refl
form_back (Cut Second Second) = refl

pub gap_back : (a b : BoundSpan) → gap_of (gap_numbers a b) ≡ record { start = a; end = b }
gap_back a b = rw (span_back a, span_back b)

pub part_back : (p : PartSpan) → part_of (part_numbers p) ≡ p
part_back p = rw (span_back p.start, span_back p.end, bit_back p.durable, bit_back p.completed)

pub row_back : (r : Row) → row_of (row_numbers r) ≡ r
row_back r = rw (span_back r.start, span_back r.end, form_back r.form)

run_kind_back : (k : RunKind) → run_kind_of (run_kind_number k) ≡ k
run_kind_back Other = refl
run_kind_back Source = refl
run_kind_back Destination = refl

pub run_back : (r : RunRow) → run_of (run_numbers r) ≡ r
run_back r = rw (run_kind_back r.kind)
