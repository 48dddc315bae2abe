-- The layouts of document 01, "Images", in its order: each is lawful by the law of its combinators.
-- Assumes nothing.
use Prim.Native.Nat.{ℕ, zero, suc, ◌+◌, ◌*◌, ◌/◌, ◌%◌, ◌^◌, ◌≤◌, ◌<◌}
use native.Mathlib.Omega.{arith}
use mathlib.Core.Path.{◌≡◌, refl, sym}
use mathlib.Core.Bool.{Bool, true, false}
use lib.Dec.{leb, eqb}
use borrow.Author.Tests.{le-leb, leb-true, eqb-true}
use Rattle.base.specs.Outcome.{Outcome, answer, check}
use Rattle.records.specs.Layouts.{flag_number, flag_of, flag, count_of, up_to, view_count_of, view_count, outputs_of, output_count, table_of, table_fields, table, view_of, view_fields, view, run, image, part_of, part_fields, part, job, block, index, anchor, anchors, plan}
use Rattle.records.specs.Laws.{Lawful, TableLayout, ViewLayout, RunLayout, ImageLayout, PartLayout, JobLayout, BlockLayout, IndexLayout, AnchorLayout, AnchorsLayout, PlanLayout}
use Rattle.records.proofs.Forms.{Joined, packed_form, number_form, bytes_form, key_form, range_form, seq_form, named_form, optional_form, there_flag, many_form, all_length, counted_form}

-- a test before an answer passed
checked : {A : Type 0} (n : ℕ) (t : Bool) (o : Outcome A) (v : A) → check n t o ≡ answer v → (t ≡ true) × (o ≡ answer v)
checked n true o v e = (refl, e)
checked n false o v e = absurd (let z : ◌≡◌ {A = ℕ} 0 1 = cc in omega arith)

-- ---- fields that share a byte or two
flag_bit : (f : Bool) → eqb (flag_number f) 1 ≡ f
flag_bit true = refl
flag_bit false = refl

flag_small : (f : Bool) → flag_number f < 2
flag_small true = omega arith
flag_small false = omega arith

bit_flag : (b : ℕ) → b < 2 → flag_number (eqb b 1) ≡ b
bit_flag zero h = refl
bit_flag (suc zero) h = refl
bit_flag (suc (suc b)) h = absurd (omega arith)

flag_back : (f : Bool) → flag_of (flag_number f * 128) ≡ answer f
unfolding flag_of
flag_back true = refl
flag_back false = refl

flag_only : (w : ℕ) (f : Bool) → w < 256 ^ 1 → flag_of w ≡ answer f → Joined (λ f. flag_number f * 128) (λ f. Unit) w f
unfolding flag_of
flag_only w f h e =
    let c = checked 2 (eqb (w % 128) 0) (answer (eqb (w / 128) 1)) f e in
    let z : w % 128 ≡ 0 = eqb-true (w % 128) 0 c.0 in
    let x : f ≡ eqb (w / 128) 1 = cc c.1 in
    let b = bit_flag (w / 128) (omega arith) in
    record { number = rw (x, b) (omega arith); within = tt }

pub flag_form : Lawful flag
flag_form = packed_form (record { back = λ f h. flag_back f; small = λ f h. omega (arith, flag_small f); only = flag_only })

count_back : (most v : ℕ) → v ≤ most → count_of most v ≡ answer v
unfolding count_of
count_back most v h = rw (le-leb v most h)

count_only : (most w v : ℕ) → count_of most w ≡ answer v → Joined (λ v. v) (λ v. v ≤ most) w v
unfolding count_of
count_only most w v e =
    let c = checked 3 (leb w most) (answer w) v e in
    let x : v ≡ w = cc c.1 in
    record { number = sym x; within = rw x (leb-true w most c.0) }

pub up_to_form : (n most : ℕ) → most < 256 ^ n → Lawful (up_to n most)
up_to_form n most m =
    packed_form (record { back = count_back most; small = λ v h. omega arith; only = λ w v h e. count_only most w v e })

views_back : (v : ℕ) → v ≤ 1024 → view_count_of (v * 16) ≡ answer v
unfolding view_count_of
views_back v h =
    let a : v * 16 / 16 ≡ v = omega arith in
    let b : v * 16 % 16 ≡ 0 = omega arith in
    rw (a, b, le-leb v 1024 h)

views_only : (w v : ℕ) → view_count_of w ≡ answer v → Joined (λ v. v * 16) (λ v. v ≤ 1024) w v
unfolding view_count_of
views_only w v e =
    let c = checked 3 (leb (w / 16) 1024) (check 2 (eqb (w % 16) 0) (answer (w / 16))) v e in
    let d = checked 2 (eqb (w % 16) 0) (answer (w / 16)) v c.1 in
    let z : w % 16 ≡ 0 = eqb-true (w % 16) 0 d.0 in
    let x : v ≡ w / 16 = cc d.1 in
    record { number = rw x (omega arith); within = rw x (leb-true (w / 16) 1024 c.0) }

pub view_count_form : Lawful view_count
view_count_form = packed_form (record { back = views_back; small = λ v h. omega arith; only = λ w v h e. views_only w v e })

outputs_back : (v : Bool × ℕ) → v.1 ≤ 1024 → outputs_of (flag_number v.0 * 32768 + v.1) ≡ answer v
unfolding outputs_of
outputs_back v h =
    let a : (flag_number v.0 * 32768 + v.1) % 32768 ≡ v.1 = omega arith in
    let b : (flag_number v.0 * 32768 + v.1) / 32768 ≡ flag_number v.0 = omega arith in
    rw (a, b, le-leb v.1 1024 h, flag_bit)

outputs_only : (w : ℕ) (v : Bool × ℕ) → w < 256 ^ 2 → outputs_of w ≡ answer v → Joined (λ v. flag_number v.0 * 32768 + v.1) (λ v. v.1 ≤ 1024) w v
unfolding outputs_of
outputs_only w v h e =
    let c = checked 3 (leb (w % 32768) 1024) (answer (eqb (w / 32768) 1, w % 32768)) v e in
    let x : v ≡ (eqb (w / 32768) 1, w % 32768) = cc c.1 in
    let b = bit_flag (w / 32768) (omega arith) in
    record { number = rw (x, b) (omega arith); within = rw x (leb-true (w % 32768) 1024 c.0) }

pub output_count_form : Lawful output_count
output_count_form =
    packed_form (record { back = outputs_back; small = λ v h. omega (arith, flag_small v.0); only = outputs_only })

-- ---- the records
pub table_layout : TableLayout
unfolding table
table_layout =
    named_form table_of table_fields (λ t. refl) (λ p h. rw (there_flag h.second.second.second.second.second.second))
    (seq_form (bytes_form 16) (λ id. seq_form (number_form 8) (λ offset. seq_form (number_form 8) (λ len. seq_form (number_form 8) (λ filter. seq_form flag_form (λ f. seq_form key_form (λ first. optional_form f key_form)))))))

pub view_layout : ViewLayout
unfolding view
view_layout =
    named_form view_of view_fields (λ v. refl) (λ p h. rw (there_flag h.second.second.second))
    (seq_form (bytes_form 16) (λ id. seq_form table_layout (λ t. seq_form flag_form (λ f. optional_form f range_form))))

pub run_layout : RunLayout
unfolding run
run_layout =
    named_form (λ p. record { id = p.0; views = p.1 }) (λ r. (r.id, r.views)) (λ r. refl) (λ p h. refl)
    (seq_form (number_form 4) (λ id. counted_form view_count_form view_layout))

pub image_layout : ImageLayout
unfolding image
image_layout = counted_form (up_to_form 1 64 (omega arith)) run_layout

pub part_layout : PartLayout
unfolding part
part_layout =
    named_form part_of part_fields (λ p. refl) (λ p h. rw (all_length h.second.second))
    (seq_form range_form (λ r. seq_form output_count_form (λ h. many_form h.1 table_layout)))

pub job_layout : JobLayout
unfolding job
job_layout =
    named_form (λ p. record { destination = p.0; sources = p.1.0; parts = p.1.1 }) (λ j. (j.destination, (j.sources, j.parts))) (λ j. refl) (λ p h. refl)
    (seq_form (number_form 4) (λ destination. seq_form (counted_form (up_to_form 1 64 (omega arith)) (number_form 4)) (λ sources. counted_form (up_to_form 1 64 (omega arith)) part_layout)))

pub block_layout : BlockLayout
unfolding block
block_layout =
    named_form (λ p. record { offset = p.0; first = p.1 }) (λ b. (b.offset, b.first)) (λ b. refl) (λ p h. refl)
    (seq_form (number_form 8) (λ offset. key_form))

pub index_layout : IndexLayout
unfolding index
index_layout = counted_form (number_form 2) block_layout

pub anchor_layout : AnchorLayout
unfolding anchor
anchor_layout =
    named_form (λ p. record { key = p.0; bytes = p.1 }) (λ a. (a.key, a.bytes)) (λ a. refl) (λ p h. refl)
    (seq_form key_form (λ k. number_form 8))

pub anchors_layout : AnchorsLayout
unfolding anchors
anchors_layout = counted_form (up_to_form 2 4096 (omega arith)) anchor_layout

pub plan_layout : PlanLayout
unfolding plan
plan_layout = counted_form (up_to_form 1 64 (omega arith)) range_form
