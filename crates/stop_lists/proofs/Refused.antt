-- Inputs that are refused, each by one stop.
-- Assumes nothing.
use Prim.Native.Nat.{ℕ, ◌^◌}
use mathlib.Core.Bool.{false}
use mathlib.Core.Option.{Option, none, some}
use mathlib.Core.List.{List, [], ◌∷◌, ◌++◌, map}
use Rattle.key.specs.Order.{Key}
use Rattle.comparable_range.specs.Range.{Range, included, excluded}
use Rattle.records.specs.Values.{Table}
use Rattle.records.specs.Layouts.{image, job, index}
use Rattle.stop_lists.proofs.Crowded.{zeros}

-- ---- range images
-- a padding bit
abbrev pub padded : List ℕ
padded = 1 ∷ []

-- up to a key of 1,025 bytes
abbrev pub long : List ℕ
long = 16 ∷ 4 ∷ 1 ∷ []

-- from the empty key to before it
abbrev pub empty : List ℕ
empty = 96 ∷ 0 ∷ 0 ∷ 0 ∷ 0 ∷ []

-- every key
abbrev pub every : List ℕ
every = 0 ∷ []

-- ---- images
-- of run 7 with one view of a table
abbrev pub a_table : ℕ → Key → Key → Table
a_table offset first last =
    record {
      id = record { 0 = zeros 16 };
      index_offset = offset;
      index_len = 1;
      filter_offset = 0;
      first = first;
      last = some last;
    }

abbrev pub image_of : Table → Option Range → List ℕ
image_of t visible = image.write (record { id = 7; views = record { id = record { 0 = zeros 16 }; table = t; visible = visible } ∷ [] } ∷ [])

-- a padding bit in a run's head
abbrev pub padded_run : List ℕ
padded_run = 1 ∷ zeros 5 ++ (1 ∷ [])

abbrev pub too_many_runs : List ℕ
too_many_runs = 65 ∷ []

-- a visible range that fails the test
abbrev pub empty_view : List ℕ
empty_view = image_of (a_table 0 [] []) (some (record { start = included []; end = excluded [] }))

-- from b to a
abbrev pub turned : List ℕ
turned = image_of (a_table 0 (98 ∷ []) (97 ∷ [])) none

-- two runs 0
abbrev pub twice : List ℕ
twice = 2 ∷ zeros 12

-- index_offset + index_len is 2^53 + 1
abbrev pub large : List ℕ
large = image_of (a_table (2 ^ 53) [] []) none

abbrev pub no_runs : List ℕ
no_runs = 0 ∷ []

-- ---- jobs
-- a record of run 7's compaction into itself, with one part, not completed, and one output
abbrev pub job_with : List ℕ → Range → Table → List ℕ
job_with sources planned output =
    job.write (record {
      destination = 7;
      sources = sources;
      parts = record { planned = planned; completed = false; outputs = output ∷ [] } ∷ [];
    })

-- its output from a to c
abbrev pub job_of : List ℕ → Range → List ℕ
job_of sources planned = job_with sources planned (a_table 0 (97 ∷ []) (99 ∷ []))

-- ---- index images
-- with blocks of these first keys
abbrev pub index_of : List Key → List ℕ
index_of ks = index.write (map (λ k. record { offset = 0; first = k }) ks)

abbrev pub no_blocks : List ℕ
no_blocks = index_of []

-- first keys b, a
abbrev pub descending : List ℕ
descending = index_of ((98 ∷ []) ∷ (97 ∷ []) ∷ [])
