-- The keys of an image and of a job that are read from bytes are bytes.
-- Assumes nothing.
use Prim.Native.Nat.{ℕ}
use mathlib.Core.Path.{◌≡◌}
use mathlib.Core.Option.{Option, none, some}
use mathlib.Core.List.{List, [], ◌∷◌, ◌++◌}
use lib.ListN.{length}
use Rattle.base.specs.Bytes.{Bytes, bytes_none, bytes_tail, bytes_cons, bytes_rest}
use Rattle.base.specs.Outcome.{answer}
use Rattle.key.specs.Order.{Key}
use Rattle.comparable_range.specs.declared.Side.{Side}
use Rattle.comparable_range.specs.declared.Side.TheVariants.{First, Second}
use Rattle.comparable_range.specs.Range.{Bound, unbounded, included, excluded, Range, of, start_side, end_side}
use Rattle.comparable_range.specs.Laws.{ByteBound, ByteRange}
use Rattle.format.specs.Number.{write_number}
use Rattle.format.specs.Key.{write_key}
use Rattle.format.specs.Range.{write_bound, write_range}
use Rattle.format.specs.Whole.{whole}
use Rattle.records.specs.Values.{Table, View, Run, Image, Part, Job}
use Rattle.records.specs.Form.{Form, number, key, range, write_if, write_many}
use Rattle.records.specs.Layouts.{flag, up_to, view_count, output_count, counted, is_there, table, view, run, image, part, job}
use Rattle.records.proofs.RecordLayouts.{image_layout, job_layout}
use Rattle.manifest.specs.Ranges.{last_bound, own, cut_by, effective}
use Rattle.manifest.proofs.Given.{whole_read}
use Rattle.base.specs.Lists.{All}
use Rattle.records.proofs.Within.{If}

-- ---- what is written in bytes
bytes_front : (k l : List ℕ) → Bytes (k ++ l) → Bytes k
bytes_front [] l b = bytes_none
bytes_front (x ∷ k) l b = bytes_cons (b.below 0) (bytes_front k l (bytes_tail b))

module _ {A : Type 0} (P : A → Type 0) (w : A → List ℕ) (f : (a : A) → Bytes (w a) → P a) where
  each_written : (as' : List A) → Bytes (write_many w as') → All P as'
  unfolding write_many
  each_written [] b = tt
  each_written (a ∷ as') b = (f a (bytes_front (w a) _ b), each_written as' (bytes_rest (w a) _ b))

if_written : {A : Type 0} (P : A → Type 0) (f : Form A) → ((a : A) → Bytes (f.write a) → P a) → (o : Option A) → Bytes (write_if f o) → If P o
unfolding write_if
if_written P f g none b = tt
if_written P f g (some a) b = g a b

key_written : (k : Key) → Bytes (write_key k) → Bytes k
unfolding write_key
key_written k b = bytes_rest (write_number 2 (length k)) k b

bound_written : (b : Bound) → Bytes (write_bound b) → ByteBound b
unfolding write_bound
bound_written unbounded b = tt
bound_written (included k) b = key_written k b
bound_written (excluded k) b = key_written k b

range_written : (r : Range) → Bytes (write_range r) → ByteRange r
unfolding write_range
range_written r b =
    record {
      start = bound_written r.start (bytes_front _ (write_bound r.end) (bytes_tail b));
      end = bound_written r.end (bytes_rest (write_bound r.start) _ (bytes_tail b));
    }

-- ---- tables, views
pub record TableBytes (t : Table) : Type 0 where
  pub first : Bytes t.first
  pub last : If Bytes t.last

table_written : (t : Table) → Bytes (table.write t) → TableBytes t
unfolding table
table_written t b =
    let sizes = bytes_rest t.id.0 _ b in
    let flagged = bytes_rest (write_number 8 t.filter_offset) _ (bytes_rest (write_number 8 t.index_len) _ (bytes_rest (write_number 8 t.index_offset) _ sizes)) in
    let c = bytes_rest (flag.write (is_there t.last)) _ flagged in
    record { first = key_written t.first (bytes_front (write_key t.first) _ c); last = if_written Bytes key key_written t.last (bytes_rest (write_key t.first) _ c) }

pub record ViewBytes (v : View) : Type 0 where
  pub table : TableBytes v.table
  pub visible : If ByteRange v.visible

view_written : (v : View) → Bytes (view.write v) → ViewBytes v
unfolding view
view_written v b =
    let c = bytes_rest v.id.0 _ b in
    record {
      table = table_written v.table (bytes_front (table.write v.table) _ c);
      visible = if_written ByteRange range range_written v.visible (bytes_rest (flag.write (is_there v.visible)) _ (bytes_rest (table.write v.table) _ c));
    }

-- ---- the ranges of a view
pub own_bytes : (t : Table) → TableBytes t → ByteRange (own t)
own_bytes t b = record { start = b.first; end = go t.last b.last }
  where
    go : (o : Option Key) → If Bytes o → ByteBound (last_bound o)
    go none c = tt
    go (some k) c = c

either : (d : Side) (a b : Bound) → ByteBound a → ByteBound b → ByteBound (of d a b)
either First a b p q = p
either Second a b p q = q

pub effective_bytes : (v : View) → ViewBytes v → ByteRange (effective v)
unfolding effective
effective_bytes v b = go v.visible b.visible
  where
    r : Range
    r = own v.table

    h : ByteRange r
    h = own_bytes v.table b.table

    go : (o : Option Range) → If ByteRange o → ByteRange (cut_by o r)
    go none c = h
    go (some q) c =
        record {
          start = either (start_side r.start q.start) r.start q.start h.start c.start;
          end = either (end_side r.end q.end) r.end q.end h.end c.end;
        }

-- ---- parts
pub record PartBytes (p : Part) : Type 0 where
  pub planned : ByteRange p.planned
  pub outputs : All TableBytes p.outputs

part_written : (p : Part) → Bytes (part.write p) → PartBytes p
unfolding part
part_written p b =
    record {
      planned = range_written p.planned (bytes_front (write_range p.planned) _ b);
      outputs = each_written TableBytes table.write table_written p.outputs (bytes_rest (output_count.write (p.completed, length p.outputs)) _ (bytes_rest (write_range p.planned) _ b));
    }

-- ---- images and jobs
run_written : (r : Run) → Bytes (run.write r) → All ViewBytes r.views
unfolding run
run_written r b = each_written ViewBytes view.write view_written r.views
    (bytes_rest (view_count.write (length r.views)) _ (bytes_rest (write_number 4 r.id) _ b))

image_written : (i : Image) → Bytes (image.write i) → All (λ r. All ViewBytes r.views) i
unfolding image
image_written i b = each_written (λ r. All ViewBytes r.views) run.write run_written i (bytes_rest ((up_to 1 64).write (length i)) _ b)

job_written : (j : Job) → Bytes (job.write j) → All PartBytes j.parts
unfolding job
job_written j b = each_written PartBytes part.write part_written j.parts
    (bytes_rest ((up_to 1 64).write (length j.parts)) _ (bytes_rest ((counted (up_to 1 64) (number 4)).write j.sources) _ (bytes_rest (write_number 4 j.destination) _ b)))

pub image_keys : (l : List ℕ) (i : Image) → Bytes l → whole image.read l ≡ answer i → All (λ r. All ViewBytes r.views) i
image_keys l i b e =
    let o = image_layout.only l i [] b (whole_read image.read l i e).all in
    image_written i (bytes_front (image.write i) [] (rw o.bytes at b))

pub job_keys : (l : List ℕ) (j : Job) → Bytes l → whole job.read l ≡ answer j → All PartBytes j.parts
job_keys l j b e =
    let o = job_layout.only l j [] b (whole_read job.read l j e).all in
    job_written j (bytes_front (job.write j) [] (rw o.bytes at b))
