-- One value of each layout of document 01, "Images", with its bytes; and counts past their ceilings.
use Rattle.std.specs.Prelude.{ℕ, zero, suc, ◌≡◌, true, false, List, [], ◌∷◌, ◌++◌}
use Rattle.std.proofs.Math.Option.{none, some}
use Rattle.comparable_range.specs.Range.{Range, unbounded, included, excluded}
use Rattle.format.specs.Got.{got, stop}
use Rattle.records.specs.Form.{Form}
use Rattle.records.specs.Values.{Table, Image, Job, Index, Anchors, Plan}
use Rattle.records.specs.Layouts.{image, part, job, index, anchors, plan}

-- the value is written as those bytes, and read from them
pub record Stands {A : Type 0} (f : Form A) (v : A) (l : List ℕ) : Type 0 where
  pub written : f.write v ≡ l
  pub read : f.read l ≡ got v []

abbrev zeros : ℕ → List ℕ
zeros zero = []
zeros (suc n) = 0 ∷ zeros n

-- keys a, b, c, d
abbrev first_table : Table
first_table =
    record {
      id = record { 0 = zeros 15 ++ (1 ∷ []) };
      index_offset = 2;
      index_len = 3;
      filter_offset = 4;
      first = 97 ∷ [];
      last = some (99 ∷ []);
    }

abbrev second_table : Table
second_table =
    record {
      id = record { 0 = zeros 15 ++ (2 ∷ []) };
      index_offset = 5;
      index_len = 6;
      filter_offset = 7;
      first = 100 ∷ [];
      last = none;
    }

abbrev until_c : Range
until_c = record { start = unbounded; end = excluded (99 ∷ []) }

abbrev since_c : Range
since_c = record { start = included (99 ∷ []); end = unbounded }

abbrev from_ato_c : Range
from_ato_c = record { start = included (97 ∷ []); end = excluded (99 ∷ []) }

abbrev an_image : Image
an_image =
    record {
      id = 7;
      views =
          record { id = record { 0 = zeros 15 ++ (8 ∷ []) }; table = first_table; visible = some from_ato_c }
          ∷ record { id = record { 0 = zeros 15 ++ (9 ∷ []) }; table = second_table; visible = none }
          ∷ [];
    }
    ∷ []

abbrev a_job : Job
a_job =
    record {
      destination = 7;
      sources = 7 ∷ 9 ∷ [];
      parts =
          record { planned = until_c; completed = true; outputs = first_table ∷ [] }
          ∷ record { planned = since_c; completed = false; outputs = [] }
          ∷ [];
    }

abbrev an_index : Index
an_index = record { offset = 5; first = 97 ∷ [] } ∷ record { offset = 258; first = [] } ∷ []

abbrev the_anchors : Anchors
the_anchors = record { key = 97 ∷ []; bytes = 10 } ∷ record { key = 98 ∷ []; bytes = 9223372036854775808 } ∷ []

abbrev a_plan : Plan
a_plan = until_c ∷ since_c ∷ []

abbrev pub ImageStands : Type 0
ImageStands =
    Stands image an_image
    (1 ∷ 0 ∷ 0 ∷ 0 ∷ 7 ∷ 0 ∷ 32 ∷ 0 ∷ 0 ∷ 0 ∷ 0 ∷ 0 ∷ 0 ∷ 0 ∷ 0 ∷ 0 ∷ 0 ∷ 0 ∷ 0 ∷ 0 ∷ 0 ∷ 0 ∷ 8 ∷ 0
    ∷ 0 ∷ 0 ∷ 0 ∷ 0 ∷ 0 ∷ 0 ∷ 0 ∷ 0 ∷ 0 ∷ 0 ∷ 0 ∷ 0 ∷ 0 ∷ 0 ∷ 1 ∷ 0 ∷ 0 ∷ 0 ∷ 0 ∷ 0 ∷ 0 ∷ 0 ∷ 2 ∷ 0
    ∷ 0 ∷ 0 ∷ 0 ∷ 0 ∷ 0 ∷ 0 ∷ 3 ∷ 0 ∷ 0 ∷ 0 ∷ 0 ∷ 0 ∷ 0 ∷ 0 ∷ 4 ∷ 128 ∷ 0 ∷ 1 ∷ 97 ∷ 0 ∷ 1 ∷ 99 ∷ 128 ∷ 96
    ∷ 0 ∷ 1 ∷ 97 ∷ 0 ∷ 1 ∷ 99 ∷ 0 ∷ 0 ∷ 0 ∷ 0 ∷ 0 ∷ 0 ∷ 0 ∷ 0 ∷ 0 ∷ 0 ∷ 0 ∷ 0 ∷ 0 ∷ 0 ∷ 0 ∷ 9 ∷ 0 ∷ 0
    ∷ 0 ∷ 0 ∷ 0 ∷ 0 ∷ 0 ∷ 0 ∷ 0 ∷ 0 ∷ 0 ∷ 0 ∷ 0 ∷ 0 ∷ 0 ∷ 2 ∷ 0 ∷ 0 ∷ 0 ∷ 0 ∷ 0 ∷ 0 ∷ 0 ∷ 5 ∷ 0 ∷ 0
    ∷ 0 ∷ 0 ∷ 0 ∷ 0 ∷ 0 ∷ 6 ∷ 0 ∷ 0 ∷ 0 ∷ 0 ∷ 0 ∷ 0 ∷ 0 ∷ 7 ∷ 0 ∷ 0 ∷ 1 ∷ 100 ∷ 0 ∷ [])

abbrev pub JobStands : Type 0
JobStands =
    Stands job a_job
    (0 ∷ 0 ∷ 0 ∷ 7 ∷ 2 ∷ 0 ∷ 0 ∷ 0 ∷ 7 ∷ 0 ∷ 0 ∷ 0 ∷ 9 ∷ 2 ∷ 32 ∷ 0 ∷ 1 ∷ 99 ∷ 128 ∷ 1 ∷ 0 ∷ 0 ∷ 0 ∷ 0
    ∷ 0 ∷ 0 ∷ 0 ∷ 0 ∷ 0 ∷ 0 ∷ 0 ∷ 0 ∷ 0 ∷ 0 ∷ 0 ∷ 1 ∷ 0 ∷ 0 ∷ 0 ∷ 0 ∷ 0 ∷ 0 ∷ 0 ∷ 2 ∷ 0 ∷ 0 ∷ 0 ∷ 0
    ∷ 0 ∷ 0 ∷ 0 ∷ 3 ∷ 0 ∷ 0 ∷ 0 ∷ 0 ∷ 0 ∷ 0 ∷ 0 ∷ 4 ∷ 128 ∷ 0 ∷ 1 ∷ 97 ∷ 0 ∷ 1 ∷ 99 ∷ 64 ∷ 0 ∷ 1 ∷ 99 ∷ 0
    ∷ 0 ∷ [])

abbrev pub IndexStands : Type 0
IndexStands =
    Stands index an_index
    (0 ∷ 2 ∷ 0 ∷ 0 ∷ 0 ∷ 0 ∷ 0 ∷ 0 ∷ 0 ∷ 5 ∷ 0 ∷ 1 ∷ 97 ∷ 0 ∷ 0 ∷ 0 ∷ 0 ∷ 0 ∷ 0 ∷ 1 ∷ 2 ∷ 0 ∷ 0 ∷ [])

abbrev pub AnchorsStand : Type 0
AnchorsStand =
    Stands anchors the_anchors
    (0 ∷ 2 ∷ 0 ∷ 1 ∷ 97 ∷ 0 ∷ 0 ∷ 0 ∷ 0 ∷ 0 ∷ 0 ∷ 0 ∷ 10 ∷ 0 ∷ 1 ∷ 98 ∷ 128 ∷ 0 ∷ 0 ∷ 0 ∷ 0 ∷ 0 ∷ 0 ∷ 0 ∷ [])

abbrev pub PlanStands : Type 0
PlanStands =
    Stands plan a_plan
    (2 ∷ 32 ∷ 0 ∷ 1 ∷ 99 ∷ 64 ∷ 0 ∷ 1 ∷ 99 ∷ [])

-- ---- stop 3: 65 runs, 1,025 views with padding set, 65 sources, 65 parts, 1,025 outputs, 4,097 anchors, 65 ranges
pub record CeilingsHold : Type 0 where
  pub runs : image.read (65 ∷ []) ≡ stop 3
  pub views : image.read (1 ∷ zeros 4 ++ (64 ∷ 31 ∷ [])) ≡ stop 3
  pub sources : job.read (zeros 4 ++ (65 ∷ [])) ≡ stop 3
  pub parts : job.read (zeros 4 ++ (0 ∷ 65 ∷ [])) ≡ stop 3
  pub outputs : part.read (0 ∷ 4 ∷ 1 ∷ []) ≡ stop 3
  pub anchors_most : anchors.read (16 ∷ 1 ∷ []) ≡ stop 3
  pub ranges : plan.read (65 ∷ []) ≡ stop 3

-- and the ceilings themselves do not stop: the input then ends inside a field
pub record CeilingsPass : Type 0 where
  pub runs : image.read (64 ∷ []) ≡ stop 1
  pub views : image.read (1 ∷ zeros 4 ++ (64 ∷ 0 ∷ [])) ≡ stop 1
  pub sources : job.read (zeros 4 ++ (64 ∷ [])) ≡ stop 1
  pub parts : job.read (zeros 4 ++ (0 ∷ 64 ∷ [])) ≡ stop 1
  pub outputs : part.read (0 ∷ 4 ∷ 0 ∷ []) ≡ stop 1
  pub anchors_most : anchors.read (16 ∷ 0 ∷ []) ≡ stop 1
  pub ranges : plan.read (64 ∷ []) ≡ stop 1
