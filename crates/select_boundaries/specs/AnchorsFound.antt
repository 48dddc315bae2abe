-- Anchors read into tables, and what the rest of `select_boundaries` makes of them.
use Rattle.std.specs.Prelude.{ℕ, ◌≤◌, ◌^◌, ◌≡◌, List, length, drop}
use Rattle.base.specs.Outcome.{Outcome, answer, and_then, written_to}
use Rattle.format.specs.Got.{Got, got, stop}
use Rattle.format.specs.Whole.{ended}
use Rattle.records.specs.Form.{read_many}
use Rattle.records.specs.Values.{Anchors}
use Rattle.records.specs.Layouts.{anchor, plan}
use Rattle.manifest.specs.Checks.{checked, total, anchors_checks}
use Rattle.manifest.specs.Faults.{least}
use Rattle.key_rows.specs.Rows.{Rows}
use Rattle.subcompaction.specs.Boundaries.{select_boundaries}
use Rattle.subcompaction.specs.Tables.{anchors_in}
use Rattle.select_boundaries.specs.declared.AnchorsRead.{AnchorsRead}
use Rattle.select_boundaries.specs.declared.AnchorsRead.TheVariants.{At, Stop}

-- what an answer says of the anchors from a place on, which the tables hold
abbrev pub anchors_of : List ℕ → List ℕ → List ℕ → ℕ → AnchorsRead → Got Anchors
anchors_of s keys bytes n (At sum next) = got (anchors_in s keys bytes n) (drop next s)
anchors_of s keys bytes n (Stop k) = stop k

-- n rows of the tables are anchors, and the sum is their total, or 2^63 if that is less
pub record Tabled (s keys bytes : List ℕ) (n sum next : ℕ) : Type 0 where
  pub rows : Rows s keys n
  pub wide : n ≤ length bytes
  pub within : next ≤ length s
  pub sum_is : sum ≡ least (total (anchors_in s keys bytes n)) (2 ^ 63)

abbrev pub AnchorsTabled : List ℕ → List ℕ → List ℕ → ℕ → AnchorsRead → Type 0
AnchorsTabled s keys bytes n (At sum next) = Tabled s keys bytes n sum next
AnchorsTabled s keys bytes n (Stop k) = Unit

pub record AnchorsFound (s keys bytes : List ℕ) (n : ℕ) (g : Got Anchors) (r : AnchorsRead) : Type 0 where
  pub meaning : anchors_of s keys bytes n r ≡ g
  pub inside : AnchorsTabled s keys bytes n r

-- n anchors from a place on, which end the buffer
abbrev pub anchors_ending : List ℕ → ℕ → ℕ → Outcome Anchors
anchors_ending s n from = ended (read_many anchor.read n (drop from s))

-- `select_boundaries` once its buffer is read
unfoldable pub selected_from : ℕ → ℕ → Outcome Anchors → ℕ → Outcome (List ℕ)
selected_from parts least o room =
    and_then (and_then o (λ a. checked (anchors_checks a) (answer a))) (λ a. written_to room (plan.write (select_boundaries parts least a)))
