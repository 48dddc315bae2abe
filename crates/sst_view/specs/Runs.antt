-- What the code finds of the views of a run.
use Rattle.std.specs.Prelude.{ℕ, suc, ◌<◌, ◌≤◌, ◌≡◌, Bool, List, [], length, drop, get_or, T, ltb}
use Rattle.base.specs.Pick.{pick}
use Rattle.base.specs.Outcome.{Outcome, answer, stop}
use Rattle.comparable_range.specs.Range.{Bound, unbounded, included, excluded, end_holds}
use Rattle.records.specs.Form.{read_many}
use Rattle.records.specs.Found.{is_got, values_of}
use Rattle.records.specs.Values.{View}
use Rattle.records.specs.Layouts.{view}
use Rattle.records.specs.declared.there.RunSpan.{RunSpan}
use Rattle.partitioned_keyspace.specs.Partitions.{partition_point}
use Rattle.db_state.specs.Lookup.{start_keys}
use Rattle.records.specs.There.{Past}
use Rattle.sst_view.specs.declared.places.RunPlaced.{RunPlaced}
use Rattle.sst_view.specs.declared.places.RunPlaced.TheVariants.{At, Stop}

-- ---- the views of a run whose head was read
abbrev pub views_of : List ℕ → RunSpan → List View
views_of s r = values_of (read_many view.read r.views (drop r.first s))

pub record RunInside (s : List ℕ) (r : RunSpan) : Type 0 where
  pub first : r.first ≤ length s
  pub there : T (is_got (read_many view.read r.views (drop r.first s)))
  pub most : r.views ≤ 1024

abbrev pub run_outcome : List ℕ → RunPlaced → Outcome (List View)
run_outcome s (At r) = answer (views_of s r)
run_outcome s (Stop k) = stop k

abbrev pub RunPlacedInside : List ℕ → RunPlaced → Type 0
RunPlacedInside s (At r) = RunInside s r
RunPlacedInside s (Stop k) = Unit

-- the views that an outcome has are those of the run that the answer tells of
pub record RunCalled (s : List ℕ) (o : Outcome (List View)) (r : RunPlaced) : Type 0 where
  pub meaning : run_outcome s r ≡ o
  pub inside : RunPlacedInside s r

-- a table says where each view stands: past those before it
pub record PlacesOf (s : List ℕ) (r : RunSpan) (places : List ℕ) : Type 0 where
  pub at : (i : ℕ) → i < r.views → Past s (read_many view.read i (drop r.first s)) (get_or places i 0)
  pub room : r.views ≤ length places

-- ---- how many start keys lead that stand within an end
unfoldable pub leading : Bound → List View → ℕ
leading end vs = partition_point (end_holds end) (start_keys vs)

-- with one more start key, after so many that were seen
abbrev pub one_more : Bool → ℕ → ℕ → ℕ
one_more within lead seen = pick (ltb lead seen) lead (pick within (suc lead) lead)

-- a start key stands within this end if it is at or below a start; no key is below an unbounded one
abbrev pub up_to : Bound → Bound
up_to unbounded = excluded []
up_to (included k) = included k
up_to (excluded k) = included k
