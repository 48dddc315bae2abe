-- The image that a commit was planned to make: the runs of the old one in their order, each with its rows of the plan.
use Rattle.std.specs.Prelude.{ℕ, ◌+◌, ◌-◌, ◌*◌, ◌<◌, ◌≤◌, ◌≡◌, List, [], ◌∷◌, ◌++◌, map, length, take, drop}
use Rattle.base.specs.Lists.{All}
use Rattle.base.specs.Rows.{rows_in}
use Rattle.format.specs.Number.{write_number}
use Rattle.commit_rows.specs.Numbers.{row_of, run_of}
use Rattle.commit_rows.specs.Bytes.{between, RowInside}
use Rattle.commit_rows.specs.declared.rows.Row.{Row}
use Rattle.commit_rows.specs.declared.runs.RunKind.{RunKind}
use Rattle.commit_rows.specs.declared.runs.RunKind.TheVariants.{Other, Source, Destination}
use Rattle.commit_rows.specs.declared.runs.RunRow.{RunRow}
use Rattle.commit_write.specs.Rows.{view_rows, view_bytes, RowsThere}
use Rattle.commit_write.specs.Buckets.{destination_rows}
use Rattle.commit_write.specs.declared.runs.Counts.{Counts}
use Rattle.commit_write.specs.declared.runs.Reached.{Reached}

-- ---- the bytes of a run
-- its id and the number of its views
unfoldable pub head_bytes : ℕ → ℕ → List ℕ
head_bytes i n = write_number 4 i ++ write_number 2 (n * 16)

-- a source is made of its rows, the destination of its rows and the outputs
abbrev pub source_bytes : List ℕ → List ℕ → List ℕ → RunRow → List Row → List ℕ
source_bytes image job ids r rows = head_bytes r.id r.rows ++ view_bytes image job ids rows

abbrev pub destination_bytes : List ℕ → List ℕ → List ℕ → List Row → RunRow → List Row → List ℕ
destination_bytes image job ids outputs r rows = head_bytes r.id (length outputs + r.rows) ++ view_bytes image job ids (destination_rows outputs rows)

-- any other is copied from its head on
abbrev pub run_bytes_as : RunKind → List ℕ → List ℕ → List ℕ → List Row → RunRow → List Row → List ℕ
run_bytes_as Other image job ids outputs r rows = between image (r.first - 6) r.past
run_bytes_as Source image job ids outputs r rows = source_bytes image job ids r rows
run_bytes_as Destination image job ids outputs r rows = destination_bytes image job ids outputs r rows

unfoldable pub run_bytes : List ℕ → List ℕ → List ℕ → List Row → RunRow → List Row → List ℕ
run_bytes image job ids outputs r rows = run_bytes_as r.kind image job ids outputs r rows

-- ---- the bytes of the image: rows are those of the first run, then those of the next
unfoldable pub runs_bytes : List ℕ → List ℕ → List ℕ → List Row → List RunRow → List Row → List ℕ
runs_bytes image job ids outputs [] rows = []
runs_bytes image job ids outputs (r ∷ rs) rows = run_bytes image job ids outputs r (take r.rows rows) ++ runs_bytes image job ids outputs rs (drop r.rows rows)

unfoldable pub new_image_bytes : List ℕ → List ℕ → List ℕ → List Row → List RunRow → List Row → List ℕ
new_image_bytes image job ids outputs rs rows = write_number 1 (length rs) ++ runs_bytes image job ids outputs rs rows

-- ---- what the tables hold
abbrev pub runs_in : ℕ → List ℕ → List RunRow
runs_in n t = map run_of (rows_in 6 n t)

-- how many rows are the runs' own
unfoldable pub planned : List RunRow → ℕ
planned [] = 0
planned (r ∷ rs) = r.rows + planned rs

-- the outputs' rows and the runs'
abbrev pub all_rows : Counts → List ℕ → List ℕ → List Row
all_rows c runs rows = map row_of (rows_in 11 (c.outputs + planned (runs_in c.runs runs)) rows)

abbrev pub planned_image : List ℕ → List ℕ → List ℕ → List ℕ → List ℕ → Counts → List ℕ
planned_image image job ids runs rows c =
    new_image_bytes image job ids (take c.outputs (all_rows c runs rows)) (runs_in c.runs runs) (drop c.outputs (all_rows c runs rows))

-- ---- what writing it needs
abbrev pub Bucketed : List Row → Type 0
Bucketed rs = All (λ r. r.bucket < 131) rs

-- a run that is copied stands in the image
pub record Copied (image : List ℕ) (r : RunRow) : Type 0 where
  pub head : 6 ≤ r.first
  pub order : r.first ≤ r.past
  pub past : r.past ≤ length image

-- the one that takes m outputs has places for all of its rows
pub record DestinationFits (m places : ℕ) (r : RunRow) (rows : List Row) : Type 0 where
  pub few : m + r.rows ≤ 1024
  pub room : m + r.rows ≤ places
  pub small : Bucketed rows

pub record RunFits (image : List ℕ) (m places : ℕ) (r : RunRow) (rows : List Row) : Type 0 where
  pub other : r.kind ≡ Other → Copied image r
  pub source : r.kind ≡ Source → r.rows ≤ 1024
  pub destination : r.kind ≡ Destination → DestinationFits m places r rows

abbrev pub RunsFit : List ℕ → ℕ → ℕ → List RunRow → List Row → Type 0
RunsFit image m places [] rows = Unit {0}
RunsFit image m places (r ∷ rs) rows = RunFits image m places r (take r.rows rows) × RunsFit image m places rs (drop r.rows rows)

-- the tables hold a plan, and out has room for what it makes
pub record Writable (image job ids runs rows order : List ℕ) (c : Counts) (out : List ℕ) : Type 0 where
  pub runs_long : c.runs * 6 ≤ length runs
  pub rows_long : (c.outputs + planned (runs_in c.runs runs)) * 11 ≤ length rows
  pub inside : All (RowInside image job ids) (all_rows c runs rows)
  pub small : Bucketed (take c.outputs (all_rows c runs rows))
  pub fit : RunsFit image c.outputs (length order) (runs_in c.runs runs) (drop c.outputs (all_rows c runs rows))
  pub room : length (planned_image image job ids runs rows c) ≤ length out

-- ---- one run, whose rows begin at a row and whose bytes go to a place
abbrev pub run_at : List ℕ → List ℕ → List ℕ → List ℕ → RunRow → Reached → List ℕ
run_at image job ids rows r at = run_bytes image job ids (view_rows 0 at.outputs rows) r (view_rows at.row r.rows rows)

pub record RunWritable (image job ids rows order : List ℕ) (r : RunRow) (at : Reached) (out : List ℕ) : Type 0 where
  pub outputs : RowsThere image job ids rows 0 at.outputs
  pub small : Bucketed (view_rows 0 at.outputs rows)
  pub there : RowsThere image job ids rows at.row r.rows
  pub fits : RunFits image at.outputs (length order) r (view_rows at.row r.rows rows)
  pub room : at.to + length (run_at image job ids rows r at) ≤ length out
