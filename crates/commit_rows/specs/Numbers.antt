-- Bounds, gaps, parts, runs and views as numbers of a row, and back.
use Rattle.std.specs.Prelude.{ℕ, zero, suc, ◌+◌, Bool, List, [], ◌∷◌, ◌++◌, eqb, get_or}
use Rattle.base.specs.Pick.{pick}
use Rattle.comparable_range.specs.declared.Side.{Side}
use Rattle.comparable_range.specs.declared.Side.TheVariants.{First, Second}
use Rattle.format.specs.Range.{kind_of, kind_number}
use Rattle.format.specs.declared.range.BoundSpan.{BoundSpan}
use Rattle.format.specs.declared.span.RangeSpan.{RangeSpan}
use Rattle.commit_rows.specs.declared.parts.PartSpan.{PartSpan}
use Rattle.commit_rows.specs.declared.rows.Form.{Form}
use Rattle.commit_rows.specs.declared.rows.Form.TheVariants.{Whole, Output, CutOutput, Cut}
use Rattle.commit_rows.specs.declared.rows.Row.{Row}
use Rattle.commit_rows.specs.declared.runs.RunKind.{RunKind}
use Rattle.commit_rows.specs.declared.runs.RunKind.TheVariants.{Other, Source, Destination}
use Rattle.commit_rows.specs.declared.runs.RunRow.{RunRow}

-- ---- a bound: kind, place and length
abbrev pub span_at : ℕ → List ℕ → BoundSpan
span_at i row = record { kind = kind_of (get_or row i 0); at = get_or row (i + 1) 0; len = get_or row (i + 2) 0 }

abbrev pub bound_numbers : BoundSpan → List ℕ
bound_numbers b = kind_number b.kind ∷ b.at ∷ b.len ∷ []

-- ---- a gap: its start and its end
abbrev pub gap_of : List ℕ → RangeSpan
gap_of row = record { start = span_at 0 row; end = span_at 3 row }

abbrev pub gap_numbers : BoundSpan → BoundSpan → List ℕ
gap_numbers start end = bound_numbers start ++ bound_numbers end

-- ---- a part of the job
abbrev pub bit_of : Bool → ℕ
bit_of b = pick b 1 0

abbrev pub part_of : List ℕ → PartSpan
part_of row =
    record {
      durable = eqb (get_or row 0 0) 1;
      completed = eqb (get_or row 1 0) 1;
      outputs = get_or row 2 0;
      first = get_or row 3 0;
      start = span_at 4 row;
      end = span_at 7 row;
    }

abbrev pub part_numbers : PartSpan → List ℕ
part_numbers p = (bit_of p.durable ∷ bit_of p.completed ∷ p.outputs ∷ p.first ∷ []) ++ (bound_numbers p.start ++ bound_numbers p.end)

-- ---- a run of the old image
abbrev pub run_kind_of : ℕ → RunKind
run_kind_of zero = Other
run_kind_of (suc zero) = Source
run_kind_of (suc (suc n)) = Destination

abbrev pub run_kind_number : RunKind → ℕ
run_kind_number Other = 0
run_kind_number Source = 1
run_kind_number Destination = 2

abbrev pub run_of : List ℕ → RunRow
run_of row =
    record {
      id = get_or row 0 0;
      views = get_or row 1 0;
      first = get_or row 2 0;
      past = get_or row 3 0;
      kind = run_kind_of (get_or row 4 0);
      rows = get_or row 5 0;
    }

abbrev pub run_numbers : RunRow → List ℕ
run_numbers r = r.id ∷ r.views ∷ r.first ∷ r.past ∷ run_kind_number r.kind ∷ r.rows ∷ []

-- ---- a view of the new image
abbrev pub form_of : ℕ → Form
form_of zero = Whole
form_of (suc zero) = Output
form_of (suc (suc zero)) = CutOutput
form_of (suc (suc (suc zero))) = Cut First First
form_of (suc (suc (suc (suc zero)))) = Cut First Second
form_of (suc (suc (suc (suc (suc zero))))) = Cut Second First
form_of (suc (suc (suc (suc (suc (suc n)))))) = Cut Second Second

abbrev pub cut_number : Side → Side → ℕ
cut_number First First = 3
cut_number First Second = 4
cut_number Second First = 5
cut_number Second Second = 6

abbrev pub form_number : Form → ℕ
form_number Whole = 0
form_number Output = 1
form_number CutOutput = 2
form_number (Cut start end) = cut_number start end

abbrev pub row_of : List ℕ → Row
row_of row =
    record {
      form = form_of (get_or row 0 0);
      bucket = get_or row 1 0;
      at = get_or row 2 0;
      past = get_or row 3 0;
      start = span_at 4 row;
      end = span_at 7 row;
      ten = get_or row 10 0;
    }

abbrev pub row_numbers : Row → List ℕ
row_numbers r =
    (form_number r.form ∷ r.bucket ∷ r.at ∷ r.past ∷ []) ++ (bound_numbers r.start ++ (bound_numbers r.end ++ (r.ten ∷ [])))
