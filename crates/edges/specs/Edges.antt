-- The starred edges of document 01, as rows of one checked list: what the definition of a call answers, and what the paper says.
-- Letters are ASCII.
use Rattle.std.specs.Prelude.{ℕ, ◌≡◌, Bool, true, false, List, [], ◌∷◌, map, ℤ, pos, negsuc}
use Rattle.std.proofs.Math.Option.{some}
use Rattle.base.specs.Outcome.{Outcome}
use Rattle.base.specs.Outcome as outcome
use Rattle.key.specs.Order.{Key}
use Rattle.comparable_range.specs.Range.{Bound, unbounded, included, excluded, Range, holds}
use Rattle.comparable_range.specs.Laws.{keyless}
use Rattle.format.specs.Range.{write_range}
use Rattle.records.specs.Layouts.{job, index, anchors, plan}
use Rattle.records.specs.Layouts as records
use Rattle.partitioned_keyspace.specs.Partitions.{Places}
use Rattle.partitioned_keyspace.specs.Calls.{partitions_covering_range_outcome}
use Rattle.view_sizes.specs.SizeCalls.{estimate_visible_size_outcome}
use Rattle.subcompaction.specs.PlanCalls.{select_boundaries_outcome}
use Rattle.from_compaction.specs.ProgressCalls.{from_compaction_outcome}
use Rattle.subtract_from.specs.SubtractCalls.{subtract_from_outcome}
use Rattle.bilqarush.specs.Calls.{cmp_bound_outcome, non_empty_outcome, contains_outcome, from_prefix_outcome}

-- the answers of all calls in one type
pub data Answer : Type 0 where
  stop : ℕ → Answer
  is : Bool → Answer
  order : ℤ → Answer
  bytes : List ℕ → Answer
  places : ℕ → ℕ → Answer
  size : ℕ → Answer

abbrev test : Outcome Bool → Answer
test (outcome.stop n) = stop n
test (outcome.answer t) = is t

abbrev comparison : Outcome ℤ → Answer
comparison (outcome.stop n) = stop n
comparison (outcome.answer z) = order z

abbrev writing : Outcome (List ℕ) → Answer
writing (outcome.stop n) = stop n
writing (outcome.answer l) = bytes l

abbrev covering : Outcome Places → Answer
covering (outcome.stop n) = stop n
covering (outcome.answer p) = places p.start p.end

abbrev sizing : Outcome ℕ → Answer
sizing (outcome.stop n) = stop n
sizing (outcome.answer n) = size n

pub record Edge : Type 0 where
  pub answered : Answer
  pub expected : Answer

infix 40 ◌∶◌
abbrev ◌∶◌ : Answer → Answer → Edge
x ∶ y = record { answered = x; expected = y }

-- ---- the inputs
abbrev a : Key
a = 97 ∷ []

abbrev a00 : Key
a00 = 97 ∷ 0 ∷ []

abbrev b : Key
b = 98 ∷ []

abbrev c : Key
c = 99 ∷ []

abbrev d : Key
d = 100 ∷ []

abbrev f : Key
f = 102 ∷ []

abbrev z : Key
z = 122 ∷ []

abbrev ulid : List ℕ
ulid = 0 ∷ 0 ∷ 0 ∷ 0 ∷ 0 ∷ 0 ∷ 0 ∷ 0 ∷ 0 ∷ 0 ∷ 0 ∷ 0 ∷ 0 ∷ 0 ∷ 0 ∷ 1 ∷ []

abbrev range : Bound → Bound → Range
range s e = record { start = s; end = e }

abbrev image : Bound → Bound → List ℕ
image s e = write_range (range s e)

-- a job of run 7 into itself, with a part from c on, whose worker wrote one table, from c to the last key given
abbrev unfinished : Key → List ℕ
unfinished last =
    job.write (record {
      destination = 7;
      sources = 7 ∷ [];
      parts = record {
        planned = range (included c) unbounded;
        completed = false;
        outputs =
            record { id = record { 0 = ulid }; index_offset = 0; index_len = 0; filter_offset = 0; first = c; last = some last }
            ∷ [];
      } ∷ [];
    })

abbrev index_of : List Key → List ℕ
index_of ks = index.write (map (λ k. record { offset = 0; first = k }) ks)

-- an image of one run with one view, of a table from one key to another, with a raw size
abbrev view_image : Key → Key → ℕ → Range → List ℕ
view_image first last raw visible =
    (records.image).write (record {
      id = 7;
      views = record {
        id = record { 0 = ulid };
        table = record { id = record { 0 = ulid }; index_offset = raw; index_len = 0; filter_offset = 0; first = first; last = some last };
        visible = some visible;
      } ∷ [];
    } ∷ [])

abbrev anchors_of : List (Key × ℕ) → List ℕ
anchors_of l = anchors.write (map (λ p. record { key = p.0; bytes = p.1 }) l)

abbrev plan_of : List Range → List ℕ
plan_of p = plan.write p

-- ---- the rows
unfoldable pub edges : List Edge
edges =
    -- [a,a) empty; [a,a] holds a; (a, a00) passes, holds nothing
    (test (non_empty_outcome (image (included a) (excluded a))) ∶ is false)
    ∷ (test (non_empty_outcome (image (included a) (included a))) ∶ is true)
    ∷ (test (contains_outcome (image (included a) (included a)) a) ∶ is true)
    ∷ (test (non_empty_outcome (image (excluded a) (excluded a00))) ∶ is true)
    ∷ (is (keyless (range (excluded a) (excluded a00))) ∶ is true)
    -- starts [a, (a: -1; the same two as ends: 1
    ∷ (comparison (cmp_bound_outcome 1 a 2 a true) ∶ order (negsuc 0))
    ∷ (comparison (cmp_bound_outcome 1 a 2 a false) ∶ order (pos 1))
    -- prefix 61 FF ends before 62; FF FF is unbounded
    ∷ (writing (from_prefix_outcome (97 ∷ 255 ∷ []) 8) ∶ bytes (image (included (97 ∷ 255 ∷ [])) (excluded (98 ∷ []))))
    ∷ (writing (from_prefix_outcome (255 ∷ 255 ∷ []) 5) ∶ bytes (image (included (255 ∷ 255 ∷ [])) unbounded))
    -- first keys a,b,b,d: point b gives 0..3; - to b) gives 0..2
    ∷ (covering (partitions_covering_range_outcome (index_of (a ∷ b ∷ b ∷ d ∷ [])) (image (included b) (included b))) ∶ places 0 3)
    ∷ (covering (partitions_covering_range_outcome (index_of (a ∷ b ∷ b ∷ d ∷ [])) (image unbounded (excluded b))) ∶ places 0 2)
    -- first key b: point a gives 0..0
    ∷ (covering (partitions_covering_range_outcome (index_of (b ∷ [])) (image (included a) (included a))) ∶ places 0 0)
    -- table keys 00 to 80 (hexadecimal), visible [00,40), raw size 5: 3
    ∷ (sizing (estimate_visible_size_outcome (view_image (0x00 ∷ []) (0x80 ∷ []) 5 (range (included (0x00 ∷ [])) (excluded (0x40 ∷ [])))) 0 0) ∶ size 3)
    -- anchors a,b,c,d of 10 each, 2 parts, least 0: -..c), [c..-
    ∷ (writing (select_boundaries_outcome 2 0 (anchors_of ((a, 10) ∷ (b, 10) ∷ (c, 10) ∷ (d, 10) ∷ [])) 9) ∶ bytes (plan_of (range unbounded (excluded c) ∷ range (included c) unbounded ∷ [])))
    -- the same, 4 parts, least 40: one range
    ∷ (writing (select_boundaries_outcome 4 40 (anchors_of ((a, 10) ∷ (b, 10) ∷ (c, 10) ∷ (d, 10) ∷ [])) 2) ∶ bytes (plan_of (range unbounded unbounded ∷ [])))
    -- equal keys keep their given order: a 5, b 30, b 10, c 5 splits at b, and with the two b exchanged at c
    ∷ (writing (select_boundaries_outcome 2 0 (anchors_of ((a, 5) ∷ (b, 30) ∷ (b, 10) ∷ (c, 5) ∷ [])) 9) ∶ bytes (plan_of (range unbounded (excluded b) ∷ range (included b) unbounded ∷ [])))
    ∷ (writing (select_boundaries_outcome 2 0 (anchors_of ((a, 5) ∷ (b, 10) ∷ (b, 30) ∷ (c, 5) ∷ [])) 9) ∶ bytes (plan_of (range unbounded (excluded c) ∷ range (included c) unbounded ∷ [])))
    -- [a,z] less [c,f): [a,c), [f,z]; [c,f] less it: [f,f]
    ∷ (writing (subtract_from_outcome (image (included c) (excluded f)) (image (included a) (included z)) 15) ∶ bytes (plan_of (range (included a) (excluded c) ∷ range (included f) (included z) ∷ [])))
    ∷ (writing (subtract_from_outcome (image (included c) (excluded f)) (image (included c) (included f)) 8) ∶ bytes (plan_of (range (included f) (included f) ∷ [])))
    -- unfinished part from c, last key c: no interval
    ∷ (writing (from_compaction_outcome (unfinished c) 1) ∶ bytes (plan_of []))
    -- and with last key f: up to f, without it
    ∷ (writing (from_compaction_outcome (unfinished f) 8) ∶ bytes (plan_of (range (included c) (excluded f) ∷ [])))
    ∷ []

abbrev pub EdgesHold : Type 0
EdgesHold = map (λ e. e.answered) edges ≡ map (λ e. e.expected) edges

-- (a, a00) holds nothing, whatever the key
abbrev pub NothingBetween : Type 0
NothingBetween = (x : Key) → holds (range (excluded a) (excluded a00)) x ≡ false
