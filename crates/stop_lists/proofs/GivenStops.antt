-- What calls are given stops with the numbers that a list has: ranges, bounds, images, and a view of an image.
-- Assumes nothing.
use Prim.Native.Nat.{ℕ, zero, suc}
use mathlib.Core.Path.{◌≡◌, refl}
use mathlib.Core.Bool.{true, ◌&&◌}
use mathlib.Core.Option.{Option, none, some}
use mathlib.Core.List.{List, [], ◌∷◌}
use lib.ListN.{length}
use lib.Dec.{leb}
use Rattle.base.specs.Outcome.{Outcome}
use Rattle.comparable_range.specs.Range.{non_empty}
use Rattle.format.specs.Range.{read_range}
use Rattle.format.specs.Whole.{whole, key_given}
use Rattle.format.specs.Given.{bound_given, nothing_left}
use Rattle.records.specs.Values.{Image}
use Rattle.records.specs.Form.{range}
use Rattle.records.specs.Layouts.{image}
use Rattle.manifest.specs.Checks.{has, Checks, checked, image_checks, image_given}
use Rattle.db_state.specs.Places.{at, placed, view_at, view_given}
use Rattle.db_state.specs.LookupCalls.{views_at}
use Rattle.incremental_progress.specs.Repeated.{StopsIn}
use Rattle.incremental_progress.proofs.Repeated.{answers, stops}
use Rattle.bilqarush.specs.Calls.{range_given, ranges_given}
use Rattle.stop_lists.proofs.Stopping.{checks, and-then, key_given_lem, Reads, range_stops, image_stops, whole_stops}

module _ {ns : List ℕ} (R : Reads ns) where
  pub whole_range : (l : List ℕ) → StopsIn ns (whole read_range l)
  whole_range l = whole_stops R.keys range (range_stops R) l

  pub range_given_lem : (l : List ℕ) → has 4 ns ≡ true → StopsIn ns (range_given l)
  unfolding range_given
  range_given_lem l h = and-then (whole read_range l) (whole_range l) (λ r. checks 4 (non_empty r) h (λ _. answers r))

  pub ranges_given_lem : (a b : List ℕ) → has 4 ns ≡ true → StopsIn ns (ranges_given a b)
  unfolding ranges_given
  ranges_given_lem a b h =
      and-then (whole read_range a) (whole_range a) (λ r. and-then (whole read_range b) (whole_range b) (λ q. checks 4 (non_empty r && non_empty q) h (λ _. answers _)))

  nothing_left_lem : (l : List ℕ) → StopsIn ns (nothing_left l)
  nothing_left_lem [] = answers _
  nothing_left_lem (b ∷ l) = stops 1 R.keys.one

  pub bound_given_lem : (k : ℕ) (l : List ℕ) → StopsIn ns (bound_given k l)
  unfolding bound_given
  bound_given_lem zero l = checks 3 (leb (length l) 65536) R.keys.three (λ _. nothing_left_lem l)
  bound_given_lem (suc zero) l = and-then (key_given l) (key_given_lem l R.keys.three) (λ k. answers _)
  bound_given_lem (suc (suc zero)) l = and-then (key_given l) (key_given_lem l R.keys.three) (λ k. answers _)
  bound_given_lem (suc (suc (suc n))) l = stops 2 R.two

-- a list that has the stops of readers and of the checks 4 to 7
pub record Given (ns : List ℕ) : Type 0 where
  pub reads : Reads ns
  pub four : has 4 ns ≡ true
  pub five : has 5 ns ≡ true
  pub six : has 6 ns ≡ true
  pub seven : has 7 ns ≡ true

pub three_listed : {ns : List ℕ} → Reads (1 ∷ 2 ∷ 3 ∷ ns)
unfolding has
three_listed = record { keys = record { one = refl; three = refl }; two = refl }

pub seven_listed : {ns : List ℕ} → Given (1 ∷ 2 ∷ 3 ∷ 4 ∷ 5 ∷ 6 ∷ 7 ∷ ns)
unfolding has
seven_listed = record { reads = three_listed; four = refl; five = refl; six = refl; seven = refl }

module _ {ns : List ℕ} where
  pub placed_stops : {A : Type 0} (o : Option A) → has 9 ns ≡ true → StopsIn ns (placed o)
  placed_stops none h = stops 9 h
  placed_stops (some a) h = answers a

  pub views_at_lem : (i : Image) (run : ℕ) → has 9 ns ≡ true → StopsIn ns (views_at i run)
  views_at_lem i run h = and-then (placed (at i run)) (placed_stops (at i run) h) (λ r. answers _)

  pub view_at_lem : (i : Image) (run view : ℕ) → has 9 ns ≡ true → StopsIn ns (view_at i run view)
  unfolding view_at
  view_at_lem i run view h = and-then (placed (at i run)) (placed_stops (at i run) h) (λ r. placed_stops (at r.views view) h)

module _ {ns : List ℕ} (G : Given ns) where
  -- what follows the checks 4 to 7 is reached where 5 passes
  pub checked_stops : {A : Type 0} (c : Checks) {o : Outcome A} → (c.tables ≡ true → StopsIn ns o) → StopsIn ns (checked c o)
  checked_stops c s =
      checks 4 c.ranges G.four (λ _. checks 5 c.tables G.five (λ t. checks 6 c.order G.six (λ _. checks 7 c.sizes G.seven (λ _. s t))))

  pub whole_image : (l : List ℕ) → StopsIn ns (whole image.read l)
  whole_image l = whole_stops G.reads.keys image (image_stops G.reads) l

  pub image_given_lem : (l : List ℕ) → StopsIn ns (image_given l)
  unfolding image_given
  image_given_lem l =
      and-then (whole image.read l) (whole_image l) (λ i. checked_stops (image_checks i) (λ _. answers i))

  pub view_given_lem : (l : List ℕ) (run view : ℕ) → has 9 ns ≡ true → StopsIn ns (view_given l run view)
  unfolding view_given
  view_given_lem l run view h = and-then (image_given l) (image_given_lem l) (λ i. view_at_lem i run view h)
