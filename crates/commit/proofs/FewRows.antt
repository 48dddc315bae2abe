-- A plan has at most one row for each 60 bytes of its image.
-- Assumes nothing.
use Prim.Native.Nat.{ℕ, ◌+◌, ◌*◌, ◌≤◌}
use native.Mathlib.Omega.{arith}
use mathlib.Core.Path.{◌≡◌, refl, sym}
use mathlib.Core.Bool.{Bool, true, false, ◌||◌, false≢true}
use mathlib.Core.List.{List, [], ◌∷◌, ◌++◌, map, flat_map}
use lib.Dec.{eqb}
use lib.ListN.{length, length-append}
use borrow.Author.Tests.{eqb-true, eq-eqb}
use Rattle.base.specs.Bytes.{Bytes}
use Rattle.base.specs.Pick.{pick, and_first, and_second}
use Rattle.base.specs.Lists.{All, All-map, All-of, All-mapped, All-flatMap}
use Rattle.comparable_range.specs.Range.{Range}
use Rattle.records.specs.Values.{View, Run, Image, Job}
use Rattle.records.proofs.Within.{ViewWithin}
use Rattle.manifest.specs.Ranges.{effective}
use Rattle.manifest.specs.Checks.{all, has}
use Rattle.commit_index.specs.Index.{image_of}
use Rattle.incremental_progress.specs.Views.{same_range}
use Rattle.incremental_progress.specs.Entries.{Entry, whole, cut, piece_entry, part_entries}
use Rattle.incremental_progress.specs.Gaps.{pieces, gap_entries}
use Rattle.incremental_progress.specs.Checks.{destination_is_source, sources_there}
use Rattle.incremental_progress.specs.Plans.{job_gaps, run_draws, draw_entries, entry_bytes, view_bytes, views_length, runs_length, image_length}
use Rattle.incremental_progress.proofs.Ceilings.{EntryWithin, outputs_within}
use Rattle.incremental_progress.proofs.Filling.{source}
use Rattle.commit_durable.specs.Tables.{job_of}
use Rattle.commit.proofs.ReadWithin.{image_read, parts_read}
use Rattle.commit.proofs.LeastBytes.{entries_least}

abbrev SourceWithin : Entry → Type 0
SourceWithin e = ViewWithin (source e)

-- ---- the entries are of views that were read
gap_within : (gs : List Range) (v : View) → ViewWithin v → All SourceWithin (gap_entries gs v)
unfolding gap_entries
gap_within gs v w = All-mapped SourceWithin (piece_entry v) (pieces gs (effective v)) (All-of (λ r. go r (same_range r (effective v))) (pieces gs (effective v)))
  where
    go : (r : Range) (b : Bool) → SourceWithin (pick b (whole v) (cut v r))
    go r true = w
    go r false = w

output_within : (e : Entry) → EntryWithin e → SourceWithin e
output_within (whole v) w = w
output_within (cut v r) w = w.0

-- ---- a run's bytes, for its own entries and the outputs
module _ (j : Job) (r : Run) (w : All ViewWithin r.views) where
  abbrev es : List Entry
  es = flat_map (gap_entries (job_gaps j)) r.views

  abbrev outs : List Entry
  outs = flat_map part_entries j.parts

  own_least : 60 * length es ≤ length (entry_bytes es)
  own_least = entries_least es (All-flatMap ViewWithin SourceWithin (gap_entries (job_gaps j)) (gap_within (job_gaps j)) r.views w)

  run_least : 60 * length (run_draws j r) ≤ views_length j r
  unfolding run_draws views_length
  run_least = go (eqb r.id j.destination) (has r.id j.sources)
    where
      go : (d m : Bool)
          → 60 * length (pick (d || m) es [])
          ≤ pick d (length (entry_bytes (pick (d || m) es [])) + length (entry_bytes outs)) (pick m (length (entry_bytes (pick (d || m) es []))) (length (view_bytes r.views)))
      go true m = omega (arith, own_least)
      go false true = own_least
      go false false = omega arith

  destination_least : eqb r.id j.destination ≡ true → 60 * length (run_draws j r) + length (entry_bytes outs) ≤ views_length j r
  unfolding run_draws views_length
  destination_least e = rw e (omega (arith, own_least))

-- ---- all runs
module _ (j : Job) where
  runs_least : (rs : List Run) → All (λ r. All ViewWithin r.views) rs → 60 * length (flat_map (run_draws j) rs) ≤ runs_length j rs
  unfolding flat_map runs_length
  runs_least [] w = omega arith
  runs_least (r ∷ rs) w =
      let l = length-append (run_draws j r) (flat_map (run_draws j) rs) in
      omega (arith, l, run_least j r w.0, runs_least rs w.1)

  -- if the destination is one of them, it takes the outputs
  with_outputs_lem : (rs : List Run) → All (λ r. All ViewWithin r.views) rs → has j.destination (map (λ r. r.id) rs) ≡ true
      → 60 * length (flat_map (run_draws j) rs) + length (entry_bytes (flat_map part_entries j.parts)) ≤ runs_length j rs
  unfolding flat_map runs_length has
  with_outputs_lem [] w e = absurd (false≢true e)
  with_outputs_lem (r ∷ rs) w e = go (eqb j.destination r.id) refl (with_outputs_lem rs w.1) e
    where
      l : length (run_draws j r ++ flat_map (run_draws j) rs) ≡ length (run_draws j r) + length (flat_map (run_draws j) rs)
      l = length-append (run_draws j r) (flat_map (run_draws j) rs)

      go : (b : Bool) → eqb j.destination r.id ≡ b
          → (has j.destination (map (λ r. r.id) rs) ≡ true → 60 * length (flat_map (run_draws j) rs) + length (entry_bytes (flat_map part_entries j.parts)) ≤ runs_length j rs)
          → (b || has j.destination (map (λ r. r.id) rs)) ≡ true
          → 60 * length (run_draws j r ++ flat_map (run_draws j) rs) + length (entry_bytes (flat_map part_entries j.parts)) ≤ (6 + views_length j r) + runs_length j rs
      go true h f e =
          let same = eq-eqb r.id j.destination (sym (eqb-true j.destination r.id h)) in
          omega (arith, l, destination_least j r w.0 same, runs_least rs w.1)
      go false h f e = omega (arith, l, run_least j r w.0, f e)

-- ---- checks 8 and 9: the destination is in the image
all_has : (f : ℕ → Bool) (n : ℕ) (ms : List ℕ) → has n ms ≡ true → all f ms ≡ true → f n ≡ true
unfolding has all
all_has f n [] h e = absurd (false≢true h)
all_has f n (m ∷ ms) h e = go (eqb n m) refl (λ k. all_has f n ms k (and_second (f m) (all f ms) e)) h
  where
    go : (b : Bool) → eqb n m ≡ b → (has n ms ≡ true → f n ≡ true) → (b || has n ms) ≡ true → f n ≡ true
    go true k t h = rw (eqb-true n m k) (and_first (f m) (all f ms) e)
    go false k t h = t h

pub destination_there : (i : Image) (j : Job) → destination_is_source j ≡ true → sources_there i j ≡ true → has j.destination (map (λ r. r.id) i) ≡ true
unfolding destination_is_source sources_there
destination_there i j h e = all_has (λ n. has n (map (λ r. r.id) i)) j.destination j.sources h e

-- ---- all rows
module _ {given record' : List ℕ} (b : Bytes given) (c : Bytes record') where
  abbrev i : Image
  i = image_of given

  abbrev j : Job
  j = job_of record'

  outputs_least : 60 * length (flat_map part_entries j.parts) ≤ length (entry_bytes (flat_map part_entries j.parts))
  outputs_least =
      entries_least (flat_map part_entries j.parts) (All-map output_within (flat_map part_entries j.parts) (outputs_within j.parts (parts_read record' c)))

  pub rows_least : destination_is_source j ≡ true → sources_there i j ≡ true → 60 * length (draw_entries j i) ≤ image_length j i
  unfolding draw_entries image_length
  rows_least h e =
      let w = All-map (λ r k. k.views) i (image_read given b).runs in
      let l = length-append (flat_map part_entries j.parts) (flat_map (run_draws j) i) in
      omega (arith, l, outputs_least, with_outputs_lem j i w (destination_there i j h e))
