-- Which bytes of a commit are left open: bytes 6 to 15 of each id that it draws, and no other.
use Rattle.std.specs.Prelude.{ℕ, zero, suc, ◌+◌, ◌≡◌, Bool, true, false, length, get_or, take, drop}
use Rattle.std.proofs.Math.Option.{none, some}
use mathlib.Core.List.{List, [], ◌∷◌, ◌++◌, map, flat_map}
use Rattle.base.specs.Bytes.{Bytes}
use Rattle.base.specs.Outcome.{answer}
use Rattle.base.specs.Pick.{pick}
use Rattle.format.specs.Whole.{whole as read_whole}
use Rattle.records.specs.Values.{View, Image, Job}
use Rattle.records.specs.Layouts.{view, run, image, job}
use Rattle.manifest.specs.Checks.{has}
use Rattle.incremental_progress.specs.Entries.{Entry, whole, cut, entry_view}
use Rattle.incremental_progress.specs.Jobs.{OpenRun, commit_runs}
use Rattle.incremental_progress.specs.Commit.{commit_outcome}
use Rattle.incremental_progress.specs.Patterns.{Pattern, image_pattern}

-- the places that a pattern leaves open, where its first byte is at n
unfoldable pub open_from : ℕ → Pattern → List ℕ
open_from n [] = []
open_from n (some b ∷ p) = open_from (suc n) p
open_from n (none ∷ p) = n ∷ open_from (suc n) p

abbrev pub open_places : Pattern → List ℕ
open_places p = open_from 0 p

-- so many numbers from n on
unfoldable pub numbers : ℕ → ℕ → List ℕ
numbers zero n = []
numbers (suc k) n = n ∷ numbers k (suc n)

-- bytes 6 to 15 of an id that stands at n
abbrev pub last_ten : ℕ → List ℕ
last_ten n = numbers 10 (n + 6)

-- ---- where ids stand in an image's bytes: a run count of 1 byte comes first, then each run with a head of 6 bytes and its
-- views, and a view begins with its id
unfoldable pub view_places : ℕ → List View → List ℕ
view_places n [] = []
view_places n (v ∷ vs) = n ∷ view_places (n + length (view.write v)) vs

unfoldable pub run_places : ℕ → Image → List ℕ
run_places n [] = []
run_places n (r ∷ rs) = view_places (n + 6) r.views ++ run_places (n + length (run.write r)) rs

abbrev pub id_places : Image → List ℕ
id_places i = run_places 1 i

-- there they stand
abbrev pub IdsStandThere : Type 0
IdsStandThere =
    (l : List ℕ) (i : Image)
    → Bytes l
    → read_whole image.read l ≡ answer i
    → map (λ n. take 16 (drop n l)) (id_places i) ≡ map (λ v. v.id.0) (flat_map (λ r. r.views) i)

-- ---- the ids that a commit draws
-- what it writes, each view under the id that it had
abbrev pub undrawn : List OpenRun → Image
undrawn os = map (λ o. record { id = o.id; views = map entry_view o.entries }) os

-- whether the id is a new one
abbrev pub is_drawn : Entry → Bool
is_drawn (whole v) = false
is_drawn (cut v r) = true

abbrev pub are_drawn : List OpenRun → List Bool
are_drawn os = flat_map (λ o. map is_drawn o.entries) os

-- the places whose flag is set
unfoldable pub those : List Bool → List ℕ → List ℕ
those [] ns = []
those (b ∷ bs) [] = []
those (b ∷ bs) (n ∷ ns) = pick b (n ∷ those bs ns) (those bs ns)

abbrev pub drawn_places : List OpenRun → List ℕ
drawn_places os = those (are_drawn os) (id_places (undrawn os))

-- the open places are bytes 6 to 15 of each of these ids, and no other
abbrev pub OpenPlacesAreDrawn : Type 0
OpenPlacesAreDrawn =
    (first record' : List ℕ) (before : Image) (progress : Job)
    → Bytes first
    → Bytes record'
    → read_whole image.read first ≡ answer before
    → read_whole job.read record' ≡ answer progress
    → open_places (image_pattern (commit_runs progress before)) ≡ flat_map last_ten (drawn_places (commit_runs progress before))

-- the ids of an accepted commit's image stand where they do in what it writes
abbrev pub NewIdsStandThere : Type 0
NewIdsStandThere =
    (first record' ids : List ℕ) (room : ℕ) (new : List ℕ) (before now : Image) (progress : Job)
    → Bytes first
    → Bytes record'
    → read_whole image.read first ≡ answer before
    → read_whole job.read record' ≡ answer progress
    → commit_outcome first record' ids room ≡ answer new
    → read_whole image.read new ≡ answer now
    → id_places now ≡ id_places (undrawn (commit_runs progress before))

-- two images as long as each other, and equal but in bytes 6 to 15 of those ids
pub record DifferInDrawnBits (os : List OpenRun) (l m : List ℕ) : Type 0 where
  pub as_long : length l ≡ length m
  pub elsewhere : (n : ℕ) → has n (flat_map last_ten (drawn_places os)) ≡ false → get_or l n 0 ≡ get_or m n 0
