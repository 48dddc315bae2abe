-- Accepted bytes are the writing of their value, by the two laws of the layout; and what a visible range makes of a view.
-- Assumes nothing.
use Prim.Native.Nat.{ℕ}
use native.Mathlib.Omega.{arith}
use mathlib.Core.Path.{◌≡◌, refl, sym, ap, ◌∙◌}
use mathlib.Core.Bool.{Bool, true, false, ◌&&◌, not, true≢false}
use mathlib.Core.Option.{some}
use mathlib.Core.List.{[], append-nil}
use lib.ListN.{length}
use borrow.Author.Tests.{le-leb}
use Rattle.base.specs.Pick.{and_second}
use Rattle.base.specs.Outcome.{Outcome, stop, answer, check, and_then}
use Rattle.comparable_range.specs.Range.{Range, non_empty, overlap, intersect, intersect_sides, meets}
use Rattle.format.specs.Got.{got}
use Rattle.format.specs.Whole.{whole}
use Rattle.records.specs.Values.{Image}
use Rattle.records.specs.Layouts.{image}
use Rattle.records.proofs.RecordLayouts.{image_layout}
use Rattle.manifest.specs.Ranges.{own, effective}
use Rattle.manifest.specs.Checks.{Checks, checked, image_checks, image_given, table_passes, keys_in_order, meets_own, is_excluded}
use Rattle.manifest.specs.Laws.{EffectiveIsTheIntersection, EffectiveIsOwn, OnlyWritingsAreImages, ImagesAreSmall, WrittenImagesAreRead}
use Rattle.manifest.proofs.Given.{whole_read}

-- ---- effective ranges
pub effective_is_own : EffectiveIsOwn
unfolding effective
effective_is_own v e = rw e

meeting : (t : Bool) (r q : Range) → non_empty (overlap r q) ≡ t → meets (intersect_sides r q) ≡ true → intersect r q ≡ some (overlap r q)
unfolding intersect_sides
meeting true r q e h = rw e
meeting false r q e h = absurd (true≢false (sym (rw e at h)))

pub effective_is_the_intersection : EffectiveIsTheIntersection
unfolding effective table_passes
effective_is_the_intersection v r e h =
    let m : (not (is_excluded r.start) && meets (intersect_sides (own v.table) r)) ≡ true = rw e at (and_second (keys_in_order v.table) (meets_own (own v.table) v.visible) h) in
    meeting (non_empty (overlap (own v.table) r)) (own v.table) r refl (and_second (not (is_excluded r.start)) (meets (intersect_sides (own v.table) r)) m) ∙ rw e

-- ---- images
one_check : {A : Type 0} (n : ℕ) (t : Bool) (o : Outcome A) (a : A) → check n t o ≡ answer a → o ≡ answer a
one_check n true o a e = e
one_check n false o a e = absurd (let z : ◌≡◌ {A = ℕ} 0 1 = cc in omega arith)

all_checks_lem : {A : Type 0} (c : Checks) (o : Outcome A) (a : A) → checked c o ≡ answer a → o ≡ answer a
all_checks_lem c o a e =
    one_check 7 c.sizes o a
    (one_check 6 c.order _ a (one_check 5 c.tables _ a (one_check 4 c.ranges _ a e)))

was_read : (o : Outcome Image) (i : Image) → and_then o (λ j. checked (image_checks j) (answer j)) ≡ answer i → o ≡ answer i
was_read (answer j) i e = all_checks_lem (image_checks j) (answer j) i e
was_read (stop k) i e = absurd (let z : ◌≡◌ {A = ℕ} 0 1 = cc in omega arith)

pub only_writings_are_images : OnlyWritingsAreImages
unfolding image_given
only_writings_are_images l i b e =
    let w = whole_read image.read l i (was_read (whole image.read l) i e) in
    (image_layout.only l i [] b w.all).bytes ∙ append-nil (image.write i)

pub images_are_small : ImagesAreSmall
unfolding image_given
images_are_small l i e = (whole_read image.read l i (was_read (whole image.read l) i e)).small

pub written_images_are_read : WrittenImagesAreRead
unfolding image_given whole
written_images_are_read i w h =
    let e : image.read (image.write i) ≡ got i [] = ap image.read (sym (append-nil (image.write i))) ∙ image_layout.back i [] w in
    rw (le-leb (length (image.write i)) 65536 h, e)
