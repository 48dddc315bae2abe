-- What it means that entries are planned: they are counted, their ids are drawn as far as the supply goes, and the rows stand
-- for the views that they become.
use Rattle.std.specs.Prelude.{ℕ, ◌+◌, ◌*◌, ◌≤◌, ◌≡◌, Bool, true, false, List, [], ◌∷◌, ◌++◌, map, length, take, drop}
use Rattle.base.specs.Pick.{pick}
use Rattle.base.specs.Rows.{RowsHold}
use Rattle.base.specs.Splice.{splice}
use Rattle.comparable_range.specs.Range.{Range}
use Rattle.records.specs.Form.{write_many}
use Rattle.records.specs.Values.{View}
use Rattle.records.specs.Layouts.{view}
use Rattle.records.specs.declared.ids.ViewId.{ViewId}
use Rattle.incremental_progress.specs.Draws.{used_up, got, supply, draw, drawn_view, fill_all}
use Rattle.incremental_progress.specs.Entries.{Entry, whole, cut, entry_view}
use Rattle.incremental_progress.specs.Gaps.{Placed, placed}
use Rattle.commit_rows.specs.Numbers.{row_of, row_numbers}
use Rattle.commit_rows.specs.Bytes.{RowInside, row_bytes, row_length}
use Rattle.commit_rows.specs.declared.rows.Row.{Row}
use Rattle.commit_entries.specs.declared.Plan.{Plan}
use Rattle.commit_entries.specs.declared.Ten.{Ten}

-- ---- one row
-- its numbers are those of places in lawful slices
pub record RowSmall (r : Row) : Type 0 where
  pub order : r.at ≤ r.past
  pub past : r.past ≤ 262144
  pub start : r.start.len ≤ 262144
  pub end : r.end.len ≤ 262144

-- t is d with row k, if there was room
pub record KeptRow (k : ℕ) (r : Row) (d t : List ℕ) : Type 0 where
  pub same : length t ≡ length d
  pub put : k * 11 + 11 ≤ length d → t ≡ splice d (k * 11) (row_numbers r)

-- ---- a plan
pub record PlanReady (ids : List ℕ) (most : ℕ) (p : Plan) : Type 0 where
  pub few : p.rows ≤ most
  pub few_cuts : p.cuts ≤ p.rows
  pub short : p.bytes ≤ p.rows * 1048576
  pub within : p.drawn ≤ length ids

-- with one row more
pub record Added (r : Row) (p : Plan) (d : List ℕ) (q : Plan) (t : List ℕ) : Type 0 where
  pub kept : KeptRow p.rows r d t
  pub is : q ≡ record { rows = p.rows + 1; bytes = p.bytes + row_length r; cuts = p.cuts; drawn = p.drawn; enough = p.enough }
  pub most : row_length r ≤ 1048576

-- after a draw that came to a place, or found nothing
abbrev pub drew : Plan → ℕ → Bool → Plan
drew p at enough = record { rows = p.rows; bytes = p.bytes; cuts = p.cuts + 1; drawn = at; enough = enough }

pub data TenFound (old : ViewId) (ids : List ℕ) (p : Plan) : Ten → Type 0 where
  drawn_at :
      {at : ℕ}
      → p.enough ≡ true
      → draw old (supply (drop p.drawn ids)) ≡ got (take 10 (drop at ids)) (supply (drop (at + 10) ids))
      → at + 10 ≤ length ids
      → TenFound old ids p (record { at = at; plan = drew p (at + 10) true })
  none_left : p.enough ≡ true → draw old (supply (drop p.drawn ids)) ≡ used_up → TenFound old ids p (record { at = 0; plan = drew p p.drawn false })
  none_before : p.enough ≡ false → TenFound old ids p (record { at = 0; plan = drew p p.drawn false })

abbrev pub with_ten : Row → ℕ → Row
with_ten r at = record { form = r.form; bucket = r.bucket; at = r.at; past = r.past; start = r.start; end = r.end; ten = at }

pub record AddedCut (old : ViewId) (ids : List ℕ) (r : Row) (p : Plan) (d : List ℕ) (q : Plan) (t : List ℕ) : Type 0 where
  pub ten : Ten
  pub found : TenFound old ids p ten
  pub added : Added (with_ten r ten.at) ten.plan d q t

-- ---- entries
abbrev pub view_bytes : List View → List ℕ
view_bytes vs = write_many view.write vs

-- under the ids that they had, which are as long as the new ones
abbrev pub entry_bytes : List Entry → List ℕ
entry_bytes es = view_bytes (map entry_view es)

abbrev pub is_cut : Entry → ℕ
is_cut (whole v) = 0
is_cut (cut v r) = 1

unfoldable pub cuts_in : List Entry → ℕ
cuts_in [] = 0
cuts_in (e ∷ es) = is_cut e + cuts_in es

-- the row of a view that is planned, with its bucket
pub record RowIs (image job ids : List ℕ) (p : Placed View) (row : List ℕ) : Type 0 where
  pub inside : RowInside image job ids (row_of row)
  pub bytes : row_bytes image job ids (row_of row) ≡ view.write p.item
  pub bucket : (row_of row).bucket ≡ p.gap

-- all entries so far, with their buckets bs, from the front of the supply on
pub record Planned (image job ids : List ℕ) (es : List Entry) (bs : List ℕ) (t : List ℕ) (p : Plan) : Type 0 where
  pub count : p.rows ≡ length es
  pub many : length bs ≡ length es
  pub bytes : p.bytes ≡ length (entry_bytes es)
  pub cuts : p.cuts ≡ cuts_in es
  pub views : List View
  pub drawn : fill_all es (supply ids) ≡ pick p.enough (got views (supply (drop p.drawn ids))) used_up
  pub kept : p.enough ≡ true → p.rows * 11 ≤ length t → RowsHold 11 (RowIs image job ids) (placed bs views) t

-- whatever was planned before, now these come after it
pub record PlannedMore (image job ids : List ℕ) (es : List Entry) (bs : List ℕ) (p : Plan) (d : List ℕ) (q : Plan) (t : List ℕ) : Type 0 where
  pub more : (before : List Entry) (at : List ℕ) → Planned image job ids before at d p → Planned image job ids (before ++ es) (at ++ bs) t q
  pub ready : (n : ℕ) → PlanReady ids n p → PlanReady ids (n + length es) q
  pub same : length t ≡ length d

-- ---- what a row must be for an entry
pub record WholeRow (image job ids : List ℕ) (v : View) (b : ℕ) (r : Row) : Type 0 where
  pub inside : RowInside image job ids r
  pub bytes : row_bytes image job ids r ≡ view.write v
  pub long : row_length r ≡ length (view.write v)
  pub bucket : r.bucket ≡ b

pub record CutRow (image job ids : List ℕ) (v : View) (q : Range) (b : ℕ) (r : Row) : Type 0 where
  pub inside : (ten : ℕ) → ten + 10 ≤ length ids → RowInside image job ids (with_ten r ten)
  pub bytes : (ten : ℕ) → ten + 10 ≤ length ids → row_bytes image job ids (with_ten r ten) ≡ view.write (drawn_view v q (take 10 (drop ten ids)))
  pub long : row_length r ≡ length (view.write (entry_view (cut v q)))
  pub bucket : r.bucket ≡ b
