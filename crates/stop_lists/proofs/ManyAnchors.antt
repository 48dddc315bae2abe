-- An image of which over 4,096 anchors are sampled: 33 views of a table with 128 blocks.
-- Assumes nothing.
use Prim.Native.Nat.{ℕ, zero, suc}
use native.Mathlib.Omega.{arith}
use mathlib.Core.Path.{◌≡◌, refl}
use mathlib.Core.Bool.{true}
use mathlib.Core.Option.{none}
use mathlib.Core.List.{List, [], ◌∷◌, flat_map}
use lib.Dec.{leb}
use lib.ListN.{length}
use Rattle.base.specs.Outcome.{stop, answer}
use Rattle.key.specs.Order.{cmp_key, cmp_number}
use Rattle.key.specs.Word.{digits}
use Rattle.comparable_range.specs.Range.{cmp_bound, bounds_pass, start_holds, end_holds, holds, start_side, end_side, intersect_sides}
use Rattle.format.specs.Number.{read_number, write_number}
use Rattle.format.specs.Key.{read_bytes, read_key, write_key}
use Rattle.format.specs.Whole.{whole}
use Rattle.records.specs.Form.{Form, All, none_left, one_more, read_if, write_if, read_many, write_many, many}
use Rattle.records.specs.Values.{View, Image, Block, Index}
use Rattle.records.specs.Layouts.{flag_of, count_of, view_count_of, table, view, run, image, block, index}
use Rattle.records.proofs.Forms.{many_form}
use Rattle.records.proofs.RecordLayouts.{index_layout}
use Rattle.manifest.specs.Ranges.{effective}
use Rattle.manifest.specs.Checks.{all, visible_passes, keys_in_order, table_passes, ascend_from, has, distinct, size_passes, total, image_checks, index_checks}
use Rattle.subcompaction.specs.Anchors.{stride, groups, held_by, sample_anchors}
use Rattle.subcompaction.specs.PlanCalls.{views, sampled, sampled_checks, ranges_planned, plan_subcompaction_ranges_outcome}
use Rattle.stop_lists.proofs.Crowded.{zeros, written_back}
use Rattle.stop_lists.proofs.Refused.{a_table}

abbrev copies : {A : Type 0} → ℕ → A → List A
copies zero a = []
copies (suc n) a = a ∷ copies n a

abbrev a_view : View
a_view = record { id = record { 0 = zeros 16 }; table = a_table 0 [] []; visible = none }

abbrev many_views : Image
many_views = record { id = 7; views = copies 33 a_view } ∷ []

abbrev a_block : Block
a_block = record { offset = 0; first = [] }

abbrev many_blocks : List Index
many_blocks = copies 33 (copies 128 a_block)

abbrev pub views_image : List ℕ
views_image = image.write many_views

abbrev pub blocks_images : List ℕ
blocks_images = (many index 33).write many_blocks

-- ---- both are read back from their writings
views_read : whole image.read views_image ≡ answer many_views
unfolding digits read_number write_number read_bytes read_key write_key whole read_if write_if read_many write_many flag_of count_of view_count_of table view run image
views_read = refl

short : leb (length blocks_images) 65536 ≡ true
unfolding write_number write_key write_many block index
short = refl

copies_within : {A : Type 0} (f : Form A) (a : A) → f.Within a → (n : ℕ) → All f n (copies n a)
copies_within f a w zero = none_left
copies_within f a w (suc n) = one_more w (copies_within f a w n)

blocks_within : index.Within (copies 128 a_block)
unfolding index block
blocks_within = record { first = omega arith; second = copies_within block a_block (record { first = omega arith; second = omega arith }) 128 }

blocks_read : whole (read_many index.read 33) blocks_images ≡ answer many_blocks
blocks_read = written_back (many index 33) (many_form 33 index_layout) many_blocks (copies_within index (copies 128 a_block) blocks_within 33) short

-- ---- so the planner refuses them
pub many_anchors_are_refused : plan_subcompaction_ranges_outcome 1 views_image blocks_images 0 ≡ stop 15
unfolding flat_map cmp_number cmp_key cmp_bound bounds_pass start_holds end_holds holds start_side end_side intersect_sides effective all visible_passes keys_in_order table_passes ascend_from has distinct size_passes total image_checks index_checks stride groups held_by sample_anchors sampled sampled_checks ranges_planned plan_subcompaction_ranges_outcome
many_anchors_are_refused = rw (views_read, blocks_read)
