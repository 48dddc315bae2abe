-- Durable intervals, computed. Letters are ASCII; square bracket included, round bracket excluded.
use Rattle.std.specs.Prelude.{◌≡◌, Bool, true, false, List, [], ◌∷◌}
use Rattle.std.proofs.Math.Option.{some}
use Rattle.base.specs.Outcome.{stop, answer}
use Rattle.key.specs.Order.{Key}
use Rattle.comparable_range.specs.Range.{Bound, unbounded, included, excluded, Range}
use Rattle.records.specs.Values.{Table, Part, Job}
use Rattle.records.specs.Layouts.{job}
use Rattle.incremental_progress.specs.Example.{first_record, third_record, wrong_record}
use Rattle.from_compaction.specs.ProgressCalls.{from_compaction, from_compaction_outcome}

abbrev a : Key
a = 97 ∷ []

abbrev c : Key
c = 99 ∷ []

abbrev e : Key
e = 101 ∷ []

abbrev range : Bound → Bound → Range
range s t = record { start = s; end = t }

-- an output from a key to another
abbrev output : Key → Key → Table
output k l =
    record {
      id = record { 0 = 0 ∷ 0 ∷ 0 ∷ 0 ∷ 0 ∷ 0 ∷ 0 ∷ 0 ∷ 0 ∷ 0 ∷ 0 ∷ 0 ∷ 0 ∷ 0 ∷ 0 ∷ 7 ∷ [] };
      index_offset = 0;
      index_len = 0;
      filter_offset = 0;
      first = k;
      last = some l;
    }

abbrev part : Range → Bool → List Table → Part
part r done ts = record { planned = r; completed = done; outputs = ts }

abbrev in_run_one : List Part → Job
in_run_one ps = record { destination = 1; sources = 1 ∷ []; parts = ps }

-- [a, c) completed without an output, and from c on unfinished with c to e written: [a, c) and [c, e)
abbrev pub CompletedAndUnfinished : Type 0
CompletedAndUnfinished =
    from_compaction
    (in_run_one (part (range (included a) (excluded c)) true [] ∷ part (range (included c) unbounded) false (output c e ∷ []) ∷ []))
    ≡ range (included a) (excluded c) ∷ range (included c) (excluded e) ∷ []

-- "Unfinished part from c, last key c: no interval." The answer is a count of 0.
abbrev from_c_to_c : Job
from_c_to_c = in_run_one (part (range (included c) unbounded) false (output c c ∷ []) ∷ [])

pub record LastKeyIsTheStart : Type 0 where
  pub none : from_compaction from_c_to_c ≡ []
  pub on_bytes : from_compaction_outcome (job.write from_c_to_c) 1 ≡ answer (0 ∷ [])

-- The records of the example of commits. First: up to d). Third: up to m), and [m, p); a buffer of that length is enough.
pub record RecordsOfTheExample : Type 0 where
  pub first : from_compaction_outcome first_record 100 ≡ answer (1 ∷ 32 ∷ 0 ∷ 1 ∷ 100 ∷ [])
  pub third : from_compaction_outcome third_record 12 ≡ answer (2 ∷ 32 ∷ 0 ∷ 1 ∷ 109 ∷ 96 ∷ 0 ∷ 1 ∷ 109 ∷ 0 ∷ 1 ∷ 112 ∷ [])
  pub short : from_compaction_outcome third_record 11 ≡ stop 16
  pub no_source : from_compaction_outcome wrong_record 100 ≡ stop 8
