-- The line of a place, from the laws on listings.
-- Assumes nothing.
use Prim.Native.Nat.{ℕ, zero, suc, ◌+◌}
use native.Mathlib.Omega.{arith}
use mathlib.Core.Path.{◌≡◌, refl, sym, ap, ◌∙◌}
use mathlib.Core.Option.{Option, none, some}
use mathlib.Core.List.{List, [], ◌∷◌, ◌++◌}
use lib.ListN.{length, get_or, take, drop}
use Rattle.base.specs.Outcome.{answer}
use Rattle.records.specs.Values.{View, Run, Image}
use Rattle.manifest.specs.Ranges.{effective}
use Rattle.manifest.specs.Checks.{image_given}
use Rattle.db_state.specs.Places.{at, placed, view_at, view_given}
use Rattle.listing.specs.Listing.{names, bounds_text, listing}
use Rattle.listing.specs.Rows.{split, views_in}
use Rattle.listing.proofs.Rows.{line_of_a_view}
use Rattle.incremental_progress.proofs.Outcomes.{answered}
use Rattle.bilqarush.specs.ImageCalls.{compacted_effective_range_outcome, list_outcome}
use Rattle.bilqarush.specs.Lines.{LinesShowEffectiveRanges}
use Rattle.bilqarush.proofs.Answered.{wrote_that}

-- ---- places
-- a value that is called by its place stands after as many others
record Stands {A : Type 0} (l : List A) (n : ℕ) (a : A) : Type 0 where
  all : l ≡ take n l ++ a ∷ drop (suc n) l
  long : length (take n l) ≡ n

stands_next : {A : Type 0} {x : A} {l : List A} {n : ℕ} {a : A} → Stands l n a → Stands (x ∷ l) (suc n) a
stands_next {x = x} s = record { all = ap (λ l. x ∷ l) s.all; long = ap suc s.long }

stands : {A : Type 0} (l : List A) (n : ℕ) (a : A) → at l n ≡ some a → Stands l n a
unfolding at
stands [] n a e = absurd (let z : ◌≡◌ {A = ℕ} 0 1 = cc in omega arith)
stands (x ∷ l) zero a e = let z : x ≡ a = cc in record { all = ap (λ b. b ∷ l) z; long = refl }
stands (x ∷ l) (suc n) a e = stands_next (stands l n a e)

placed_is : {A : Type 0} (o : Option A) (a : A) → placed o ≡ answer a → o ≡ some a
placed_is none a e = absurd (let z : ◌≡◌ {A = ℕ} 0 1 = cc in omega arith)
placed_is (some b) a e = let z : b ≡ a = cc in ap some z

same_answer : {A : Type 0} {a b : A} → answer a ≡ answer b → a ≡ b
same_answer e = cc

-- ---- the line
line_there :
    (i : Image) (n m : ℕ) (r : Run) (v : View)
    → at i n ≡ some r
    → at r.views m ≡ some v
    → get_or (split (listing i)) (1 + views_in (take n i) + m) [] ≡ names r.id m v.table.id.0 ++ bounds_text (effective v)
line_there i n m r v e f =
    let s = stands i n r e in
    let t = stands r.views m v f in
    let q = line_of_a_view (take n i) r (drop (suc n) i) (take m r.views) v (drop (suc m) r.views) t.all in
    rw (← s.all, t.long) at q

pub lines_show_effective_ranges : LinesShowEffectiveRanges
unfolding list_outcome compacted_effective_range_outcome view_given view_at
lines_show_effective_ranges l text room n m bounds e f =
    let x = answered (image_given l) _ text e in
    let y = answered (view_given l n m) _ bounds f in
    let z = answered (image_given l) (λ i. view_at i n m) y.value y.first in
    let same : z.value ≡ x.value = same_answer (sym z.first ∙ x.first) in
    let u = answered (placed (at x.value n)) _ y.value (rw same at z.second) in
    let r = placed_is (at x.value n) u.value u.first in
    let v = placed_is (at u.value.views m) y.value u.second in
    let b : effective y.value ≡ bounds = same_answer y.second in
    record {
      image = x.value;
      given = x.first;
      its_run = u.value;
      at_run = r;
      its_view = y.value;
      at_view = v;
      line =
          ap (λ t. get_or (split t) (1 + views_in (take n x.value) + m) []) (sym (wrote_that room (listing x.value) text x.second))
          ∙ line_there x.value n m u.value y.value r v
          ∙ ap (λ q. names u.value.id m y.value.table.id.0 ++ bounds_text q) b;
    }
