-- What the walk over an image's views has found: m are the index images, laid end to end.
use Rattle.std.specs.Prelude.{ℕ, ◌+◌, ◌*◌, ◌^◌, ◌≤◌, max, ◌≡◌, true, List, [], ◌∷◌, ◌++◌, T, ltb, length, drop}
use Rattle.base.specs.Pick.{pick}
use Rattle.base.specs.Outcome.{answer}
use Rattle.format.specs.Got.{Got, stop}
use Rattle.format.specs.Whole.{whole}
use Rattle.records.specs.Form.{read_many}
use Rattle.records.specs.Found.{is_got, values_of}
use Rattle.records.specs.Values.{View, Index}
use Rattle.records.specs.Layouts.{view, image, index}
use Rattle.records.specs.There.{Past}
use Rattle.records.specs.declared.there.RunSpan.{RunSpan}
use Rattle.manifest.specs.Checks.{Checks, all, total, image_checks, index_checks}
use Rattle.manifest.specs.Faults.{fault_of, least, ordered}
use Rattle.manifest.specs.Spans.{size_fits, faults, JudgedFound}
use Rattle.manifest.specs.declared.images.Judged.TheVariants.{At as JudgedAt}
use Rattle.subcompaction.specs.PlanCalls.{sampled}
use Rattle.subcompaction.specs.Tables.{Held}
use Rattle.plan_subcompaction_ranges.specs.declared.SoFar.{SoFar}
use Rattle.plan_subcompaction_ranges.specs.declared.Walked.{Walked}
use Rattle.plan_subcompaction_ranges.specs.declared.Walked.TheVariants.{All, Stop as WalkedStop}
use Rattle.plan_subcompaction_ranges.specs.declared.RunWalked.{RunWalked}
use Rattle.plan_subcompaction_ranges.specs.declared.RunWalked.TheVariants.{At, Stop}

-- ---- the views of a run whose head was read
abbrev pub run_views : List ℕ → RunSpan → List View
run_views s r = values_of (read_many view.read r.views (drop r.first s))

pub record RunViews (s : List ℕ) (r : RunSpan) : Type 0 where
  pub first : r.first ≤ length s
  pub there : T (is_got (read_many view.read r.views (drop r.first s)))
  pub most : r.views ≤ 1024

-- ---- what was found of some views
-- one index image for each
abbrev pub indexes_read : List ℕ → List View → Got (List Index)
indexes_read m vs = read_many index.read (length vs) m

abbrev pub indexes_of : List ℕ → List View → List Index
indexes_of m vs = values_of (indexes_read m vs)

-- a table's raw size, or 0 if check 7 refuses it
abbrev pub passing_size : ℕ → ℕ → ℕ
passing_size offset len = pick (size_fits offset len) (offset + len) 0

-- the largest of these
unfoldable pub largest_passing : List View → ℕ
largest_passing [] = 0
largest_passing (v ∷ vs) = max (passing_size v.table.index_offset v.table.index_len) (largest_passing vs)

-- The tables hold the anchors of these views. A block takes at least 10 bytes, so there are few rows.
pub record Sampled (m keys bytes : List ℕ) (vs : List View) (w : SoFar) : Type 0 where
  pub read : Past m (indexes_read m vs) w.at
  pub order : w.fault ≡ fault_of (ordered (all (λ x. (index_checks x).order) (indexes_of m vs)))
  pub held : Held m keys bytes w.kept.rows (sampled vs (indexes_of m vs))
  pub sum : w.kept.total ≡ least (total (sampled vs (indexes_of m vs))) (2 ^ 63)
  pub few : w.kept.rows * 10 ≤ w.at
  pub largest : w.largest ≡ largest_passing vs

-- some views were walked over
pub record SampledSome (m keys bytes : List ℕ) (w : SoFar) : Type 0 where
  pub views : List View
  pub are : Sampled m keys bytes views w

-- an index image stands at a place: where it ends, and the first check that it fails, or 8
pub record IndexNext (m : List ℕ) (at next fault : ℕ) : Type 0 where
  pub found : JudgedFound m (faults index_checks (index.read (drop at m))) (JudgedAt next fault)

-- one more view: the tables go on from what they held
pub record WithView (m keys bytes : List ℕ) (w : SoFar) (v : View) (keys' bytes' : List ℕ) (r : SoFar) : Type 0 where
  pub after : (before : List View) → Sampled m keys bytes before w → Sampled m keys' bytes' (before ++ (v ∷ [])) r

-- more views, those of a run, and the place past them
abbrev pub SampledIn : List ℕ → List ℕ → List ℕ → List View → RunWalked → Type 0
SampledIn m keys bytes vs (At next w) = Sampled m keys bytes vs w
SampledIn m keys bytes vs (Stop k) = indexes_read m vs ≡ stop k

pub record SampledBy (m keys bytes : List ℕ) (vs : List View) (r : RunWalked) : Type 0 where
  pub is : SampledIn m keys bytes vs r

pub record SampledMore (m keys bytes : List ℕ) (w : SoFar) (vs : List View) (keys' bytes' : List ℕ) (r : RunWalked) : Type 0 where
  pub after : (before : List View) → Sampled m keys bytes before w → SampledBy m keys' bytes' (before ++ vs) r

abbrev pub PastViews : List ℕ → RunSpan → RunWalked → Type 0
PastViews s r (At next w) = Past s (read_many view.read r.views (drop r.first s)) next
PastViews s r (Stop k) = Unit

pub record ViewsPast (s : List ℕ) (r : RunSpan) (w : RunWalked) : Type 0 where
  pub is : PastViews s r w

-- all views, in a table of keys that has as many rows as before
abbrev pub AllIn : List ℕ → List ℕ → List ℕ → List View → Walked → Type 0
AllIn m keys bytes vs (All w) = Sampled m keys bytes vs w
AllIn m keys bytes vs (WalkedStop k) = indexes_read m vs ≡ stop k

pub record SampledAll (m keys₀ keys bytes : List ℕ) (vs : List View) (r : Walked) : Type 0 where
  pub is : AllIn m keys bytes vs r
  pub rows : length keys ≡ length keys₀

-- ---- what the call knows before the walk
-- the first of the checks 4 to 7 that an image fails, or 8
pub record ImageJudged (s : List ℕ) (fault : ℕ) : Type 0 where
  pub given : whole image.read s ≡ answer (values_of (image.read s))
  pub there : T (is_got (image.read s))
  pub fault_is : fault ≡ fault_of (image_checks (values_of (image.read s)))

-- as many anchors as may come, up to the ceiling, have a row in a table
pub record RowsEnough (m keys : List ℕ) : Type 0 where
  pub room : (n : ℕ) → n ≤ 4096 → n * 10 ≤ length m → n ≤ length keys

-- check 7 of a total alone
unfoldable pub total_fits : ℕ → Checks
total_fits n = record { ranges = true; tables = true; order = true; sizes = ltb n (2 ^ 63) }

-- the first check that both inputs fail, or 8: fault is the image's
unfoldable pub first_fault : ℕ → SoFar → ℕ
first_fault fault w = least fault (least w.fault (fault_of (total_fits w.kept.total)))

-- the stop after the walk over an index buffer of so many bytes, or 8
unfoldable pub stop_after : ℕ → SoFar → ℕ → ℕ
stop_after fault w len =
    pick (ltb w.at len) 1
    (pick (ltb (first_fault fault w) 8) (first_fault fault w) (pick (ltb 4096 w.kept.rows) 15 8))
