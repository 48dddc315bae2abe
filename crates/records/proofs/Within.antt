-- What the ceilings say of images and jobs that were read, part by part.
-- Assumes nothing.
use Prim.Native.Nat.{ℕ, ◌^◌, ◌≤◌, ◌<◌}
use mathlib.Core.Path.{◌≡◌}
use mathlib.Core.Bool.{Bool}
use mathlib.Core.Option.{Option, none, some}
use mathlib.Core.List.{List, [], ◌∷◌}
use lib.ListN.{length}
use Rattle.base.specs.Lists.{All, All-map}
use Rattle.format.specs.Laws.{KeyWithin, RangeWithin}
use Rattle.records.specs.Values.{Table, View, Run, Image, Part, Job}
use Rattle.records.specs.Form.{Form, There, absent, present, range}
use Rattle.records.specs.Form as form
use Rattle.records.specs.Layouts.{is_there, table, view, run, image, part, job}

-- ---- lists
pub all_of_many : {A : Type 0} {f : Form A} {n : ℕ} {xs : List A} → form.All f n xs → All f.Within xs
all_of_many form.none_left = tt
all_of_many (form.one_more h a) = (h, all_of_many a)

pub many_of_all : {A : Type 0} (f : Form A) (xs : List A) → All f.Within xs → form.All f (length xs) xs
many_of_all f [] a = form.none_left
many_of_all f (x ∷ xs) a = form.one_more a.0 (many_of_all f xs a.1)

-- ---- what may be missing
abbrev pub If : {A : Type 0} → (A → Type 0) → Option A → Type 0
If P none = Unit {0}
If P (some a) = P a

if_there : {A : Type 0} {f : Form A} {b : Bool} {o : Option A} → There f b o → If f.Within o
if_there absent = tt
if_there (present h) = h

there_if : {A : Type 0} (f : Form A) (o : Option A) → If f.Within o → There f (is_there o) o
there_if f none h = absent
there_if f (some a) h = present h

-- ---- tables, views, runs, images
pub record TableKeys (t : Table) : Type 0 where
  pub id : length t.id.0 ≡ 16
  pub first : KeyWithin t.first
  pub last : If KeyWithin t.last

pub table_keys : (t : Table) → table.Within t → TableKeys t
unfolding table
table_keys t w =
    let k = w.second.second.second.second.second in
    record { id = w.first; first = k.first; last = if_there k.second }

pub record ViewWithin (v : View) : Type 0 where
  pub id : length v.id.0 ≡ 16
  pub table : table.Within v.table
  pub visible : If RangeWithin v.visible

view_parts : (v : View) → view.Within v → ViewWithin v
unfolding view
view_parts v w = record { id = w.first; table = w.second.first; visible = if_there w.second.second.second }

view_within : (v : View) → ViewWithin v → view.Within v
unfolding view
view_within v h =
    record {
      first = h.id;
      second = record { first = h.table; second = record { first = tt; second = there_if range v.visible h.visible } };
    }

pub record RunWithin (r : Run) : Type 0 where
  pub id : r.id < 256 ^ 4
  pub count : length r.views ≤ 1024
  pub views : All ViewWithin r.views

run_parts : (r : Run) → run.Within r → RunWithin r
unfolding run
run_parts r w =
    record {
      id = w.first;
      count = w.second.first;
      views = All-map view_parts r.views (all_of_many w.second.second);
    }

run_within : (r : Run) → RunWithin r → run.Within r
unfolding run
run_within r h =
    record {
      first = h.id;
      second = record { first = h.count; second = many_of_all view r.views (All-map view_within r.views h.views) };
    }

pub record ImageWithin (i : Image) : Type 0 where
  pub count : length i ≤ 64
  pub runs : All RunWithin i

pub image_parts : (i : Image) → image.Within i → ImageWithin i
unfolding image
image_parts i w = record { count = w.first; runs = All-map run_parts i (all_of_many w.second) }

pub image_within : (i : Image) → ImageWithin i → image.Within i
unfolding image
image_within i h = record { first = h.count; second = many_of_all run i (All-map run_within i h.runs) }

-- ---- parts, jobs
pub record PartWithin (p : Part) : Type 0 where
  pub planned : RangeWithin p.planned
  pub outputs : All table.Within p.outputs

part_parts : (p : Part) → part.Within p → PartWithin p
unfolding part
part_parts p w = record { planned = w.first; outputs = all_of_many w.second.second }

pub job_parts : (j : Job) → job.Within j → All PartWithin j.parts
unfolding job
job_parts j w = All-map part_parts j.parts (all_of_many w.second.second.second)
