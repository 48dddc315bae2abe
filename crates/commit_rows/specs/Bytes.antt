-- The bytes that a row of the new image stands for: places are in the image, in the job or in the supply ids.
use Rattle.std.specs.Prelude.{ℕ, ◌+◌, ◌-◌, ◌≤◌, List, [], ◌∷◌, ◌++◌, length, take, drop}
use Rattle.comparable_range.specs.Range.{Range, of}
use Rattle.comparable_range.specs.declared.Kind.{Kind}
use Rattle.comparable_range.specs.declared.Kind.TheVariants.{Unbounded, Included, Excluded}
use Rattle.format.specs.Range.{bound_in, BoundInside, write_range}
use Rattle.format.specs.declared.range.BoundSpan.{BoundSpan}
use Rattle.commit_rows.specs.declared.rows.Form.{Form}
use Rattle.commit_rows.specs.declared.rows.Form.TheVariants.{Whole, Output, CutOutput, Cut}
use Rattle.commit_rows.specs.declared.rows.Row.{Row}

-- the bytes from a place up to another
abbrev pub between : List ℕ → ℕ → ℕ → List ℕ
between s a b = take (b - a) (drop a s)

-- the time of the id at a place, and ten bytes of the supply
unfoldable pub new_id_bytes : List ℕ → ℕ → List ℕ → ℕ → List ℕ
new_id_bytes s id ids ten = between s id (id + 6) ++ between ids ten (ten + 10)

-- an id, a table, the flag, and the visible range
unfoldable pub cut_bytes : List ℕ → List ℕ → List ℕ → List ℕ
cut_bytes id t r = id ++ (t ++ (128 ∷ r))

-- an id and a table, with no visible range
unfoldable pub whole_bytes : List ℕ → List ℕ → List ℕ
whole_bytes id t = id ++ (t ++ (0 ∷ []))

-- ---- where a row's fields stand
-- the view or the output
abbrev pub source_of : Form → List ℕ → List ℕ → List ℕ
source_of Whole image job = image
source_of Output image job = job
source_of CutOutput image job = job
source_of (Cut a b) image job = image

-- the start's key, and the end's
abbrev pub start_in : Form → List ℕ → List ℕ → List ℕ
start_in Whole image job = job
start_in Output image job = job
start_in CutOutput image job = job
start_in (Cut a b) image job = of a image job

abbrev pub end_in : Form → List ℕ → List ℕ → List ℕ
end_in Whole image job = job
end_in Output image job = job
end_in CutOutput image job = job
end_in (Cut a b) image job = of b image job

unfoldable pub row_range : List ℕ → List ℕ → Row → Range
row_range image job r = record { start = bound_in (start_in r.form image job) r.start; end = bound_in (end_in r.form image job) r.end }

-- ten bytes of the supply, if an id is drawn
abbrev pub TenInside : Form → List ℕ → ℕ → Type 0
TenInside Whole ids ten = Unit
TenInside Output ids ten = Unit
TenInside CutOutput ids ten = ten + 10 ≤ length ids
TenInside (Cut a b) ids ten = ten + 10 ≤ length ids

pub record RowInside (image job ids : List ℕ) (r : Row) : Type 0 where
  pub id : r.at + 16 ≤ r.past
  pub past : r.past ≤ length (source_of r.form image job)
  pub ten : TenInside r.form ids r.ten
  pub start : BoundInside (start_in r.form image job) r.start
  pub end : BoundInside (end_in r.form image job) r.end

-- ---- its bytes
abbrev pub bytes_as : Form → List ℕ → List ℕ → List ℕ → Row → List ℕ
bytes_as Whole image job ids r = between image r.at r.past
bytes_as Output image job ids r = whole_bytes (between job r.at (r.at + 16)) (between job r.at r.past)
bytes_as CutOutput image job ids r = cut_bytes (new_id_bytes job r.at ids r.ten) (between job r.at r.past) (write_range (row_range image job r))
bytes_as (Cut a b) image job ids r = cut_bytes (new_id_bytes image r.at ids r.ten) (between image (r.at + 16) r.past) (write_range (row_range image job r))

unfoldable pub row_bytes : List ℕ → List ℕ → List ℕ → Row → List ℕ
row_bytes image job ids r = bytes_as r.form image job ids r

-- ---- how many they are, which the supply does not change
abbrev pub bound_length : Kind → ℕ → ℕ
bound_length Unbounded n = 0
bound_length Included n = 2 + n
bound_length Excluded n = 2 + n

abbrev pub range_length : BoundSpan → BoundSpan → ℕ
range_length start end = 1 + bound_length start.kind start.len + bound_length end.kind end.len

abbrev pub length_as : Form → Row → ℕ
length_as Whole r = r.past - r.at
length_as Output r = 17 + (r.past - r.at)
length_as CutOutput r = 17 + (r.past - r.at) + range_length r.start r.end
length_as (Cut a b) r = 1 + (r.past - r.at) + range_length r.start r.end

unfoldable pub row_length : Row → ℕ
row_length r = length_as r.form r
