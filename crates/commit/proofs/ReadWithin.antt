-- The image and the job that stand in bytes are within the ceilings of their layouts.
-- Assumes nothing.
use Prim.Native.Nat.{ℕ, ◌≤◌}
use native.Mathlib.Omega.{arith}
use mathlib.Core.Path.{◌≡◌, refl}
use mathlib.Core.List.{List}
use lib.ListN.{length}
use Rattle.base.specs.Bytes.{Bytes}
use Rattle.base.specs.Lists.{All}
use Rattle.format.specs.Got.{Got, got, stop}
use Rattle.records.specs.Found.{values_of}
use Rattle.records.specs.Values.{Image, Job}
use Rattle.records.specs.Layouts.{image, job}
use Rattle.records.proofs.RecordLayouts.{image_layout, job_layout}
use Rattle.records.proofs.Within.{ImageWithin, image_parts, PartWithin, job_parts}
use Rattle.commit_index.specs.Index.{image_of}
use Rattle.incremental_progress.specs.Plans.{draw_entries}
use Rattle.incremental_progress.proofs.Filling.{Full}
use Rattle.incremental_progress.proofs.Follow.{full_parts}
use Rattle.incremental_progress.proofs.NewImages.{closed}
use Rattle.incremental_progress.proofs.PlanBytes.{draws_full}
use Rattle.commit_durable.specs.Tables.{job_of, job_got}

-- none of it, where nothing was read
pub image_read : (given : List ℕ) → Bytes given → ImageWithin (image_of given)
image_read given b = go (image.read given) refl
  where
    go : (g : Got Image) → image.read given ≡ g → ImageWithin (values_of g)
    go (got i r) e = image_parts i (image_layout.only given i r b e).within
    go (stop k) e = record { count = omega arith; runs = tt }

pub parts_read : (record' : List ℕ) → Bytes record' → All PartWithin (job_of record').parts
parts_read record' b = go (job.read record') refl
  where
    go : (g : Got Job) → job.read record' ≡ g → All PartWithin (job_got g).parts
    go (got j r) e = job_parts j (job_layout.only record' j r b e).within
    go (stop k) e = tt

few_parts : (j : Job) → job.Within j → length j.parts ≤ 64
unfolding job
few_parts j w = w.second.second.first

pub parts_few : (record' : List ℕ) → Bytes record' → length (job_of record').parts ≤ 64
parts_few record' b = go (job.read record') refl
  where
    go : (g : Got Job) → job.read record' ≡ g → length (job_got g).parts ≤ 64
    go (got j r) e = few_parts j (job_layout.only record' j r b e).within
    go (stop k) e = omega arith

-- so the ids of all entries have 16 bytes
pub entries_full : (given record' : List ℕ) → Bytes given → Bytes record' → All Full (draw_entries (job_of record') (image_of given))
entries_full given record' b c =
    draws_full (job_of record') (image_of given) (full_parts (job_of record').parts (parts_read record' c)) (closed (image_of given) (image_read given b))
