-- What holds of planned ranges, of the boundaries between them, and of sampled anchors. Keys are of any length.
use Rattle.std.specs.Prelude.{ℕ, suc, ◌+◌, ◌-◌, ◌*◌, ◌^◌, ◌<◌, ◌≤◌, max, ◌≡◌, ◌⊎◌, ◌↔◌, true, false, List, [], ◌∷◌, ◌++◌, map, length}
use Rattle.base.specs.Bytes.{Bytes}
use Rattle.base.specs.Lists.{All, Pairwise}
use Rattle.base.specs.Pick.{pick}
use Rattle.base.specs.StableSort.{StableSort}
use Rattle.base.specs.Outcome.{answer}
use Rattle.key.specs.Order.{Key, key_at_most, key_below}
use Rattle.comparable_range.specs.Range.{unbounded, included, excluded, Range, non_empty, holds}
use Rattle.comparable_range.specs.Cut.{below}
use Rattle.format.specs.Range.{read_range}
use Rattle.format.specs.Whole.{whole, ended}
use Rattle.records.specs.Values.{Block, Index, Anchor, Anchors, Part, Plan}
use Rattle.records.specs.Layouts.{anchors, plan}
use Rattle.manifest.specs.Checks.{total, index_checks}
use Rattle.incremental_progress.specs.Checks.{planned_from}
use Rattle.incremental_progress.specs.Members.{In}
use Rattle.subcompaction.specs.Anchors.{sample_anchors}
use Rattle.subcompaction.specs.Boundaries.{target, unsplit, prepared, chosen, select_boundaries}
use Rattle.subcompaction.specs.PlanCalls.{anchors_sampled, sample_anchors_outcome, select_boundaries_outcome, plan_subcompaction_ranges_outcome}

-- ---- "Planned ranges hold every byte key exactly once."
-- how many of some ranges hold a key
unfoldable pub holders : Key → Plan → ℕ
holders x [] = 0
holders x (r ∷ rs) = pick (holds r x) 1 0 + holders x rs

abbrev pub PlannedRangesHoldEachKeyOnce : Type 0
PlannedRangesHoldEachKeyOnce = (parts least : ℕ) (a : Anchors) (x : Key) → holders x (select_boundaries parts least a) ≡ 1

-- ---- how many there are, and how they meet
-- "At most max(1, parts) ranges result."
abbrev pub OneToPartsResult : Type 0
OneToPartsResult =
    (parts least : ℕ) (a : Anchors) → (1 ≤ length (select_boundaries parts least a)) × (length (select_boundaries parts least a) ≤ max 1 parts)

-- each range but the last ends excluded where the next starts included; the first start and the last end are unbounded
pub data Meeting : Plan → Type 0 where
  last_range : {r : Range} → r.end ≡ unbounded → Meeting (r ∷ [])
  then_range : {r q : Range} {rs : Plan} {k : Key} → r.end ≡ excluded k → q.start ≡ included k → Meeting (q ∷ rs) → Meeting (r ∷ q ∷ rs)

pub data FromTheLeast : Plan → Type 0 where
  least_start : {r : Range} {rs : Plan} → r.start ≡ unbounded → FromTheLeast (r ∷ rs)

abbrev pub RangesMeetAtBoundaries : Type 0
RangesMeetAtBoundaries =
    (parts least : ℕ) (a : Anchors) → FromTheLeast (select_boundaries parts least a) × Meeting (select_boundaries parts least a)

-- ---- "Anchors are sorted by key; equal keys keep their given order."
-- the same anchors, ascending, and those of each key as given: there is one such list
abbrev pub AnchorsAreSortedStably : Type 0
AnchorsAreSortedStably = (a b : Anchors) → StableSort key_at_most (λ x. x.key) a b ↔ (b ≡ prepared a)

-- ---- the boundaries
-- the smallest key of some anchors
pub record Smallest (k : Key) (a : Anchors) : Type 0 where
  pub there : In k (map (λ x. x.key) a)
  pub least : All (λ x. key_at_most k x.key ≡ true) a

-- "A boundary exceeds the smallest anchor key and the boundary before it", and is an anchor's key
pub record Boundaries (a : Anchors) (ks : List Key) : Type 0 where
  pub anchors : All (λ k. In k (map (λ x. x.key) a)) ks
  pub ascending : Pairwise (λ k l. key_below k l ≡ true) ks
  pub above : (m : Key) → Smallest m a → All (λ k. key_below m k ≡ true) ks

abbrev pub BoundariesAreAnchorKeys : Type 0
BoundariesAreAnchorKeys = (parts least : ℕ) (a : Anchors) → Boundaries a (chosen parts least a)

-- anchors with one of them, and those before it
pub record Split (l : Anchors) (k : Key) : Type 0 where
  pub before : Anchors
  pub anchor : Anchor
  pub after : Anchors
  pub is : l ≡ before ++ (anchor ∷ after)
  pub key : anchor.key ≡ k

-- the bytes before the key of the n-th boundary, counted from 1, reach n times the target
pub record Reached (a : Anchors) (bytes : ℕ) (k : Key) : Type 0 where
  pub split : Split (prepared a) k
  pub reach : bytes ≤ total split.before

abbrev pub BoundariesOpenOnceReached : Type 0
BoundariesOpenOnceReached =
    (parts least : ℕ) (a : Anchors) (front : List Key) (k : Key) (rest : List Key)
    → chosen parts least a ≡ front ++ (k ∷ rest)
    → Reached a (suc (length front) * target parts least (total a)) k

-- how many of some keys are below one
unfoldable pub count_below : Key → List Key → ℕ
count_below k [] = 0
count_below k (l ∷ ls) = pick (key_below l k) 1 0 + count_below k ls

-- a key that is not the smallest, a range that is left for it, and bytes before it that reach the next threshold
pub record MayOpen (parts goal : ℕ) (a : Anchors) (ks : List Key) (k : Key) : Type 0 where
  pub split : Split (prepared a) k
  pub not_smallest : Smallest k a → ⊥
  pub one_left : suc (count_below k ks) < parts
  pub reach : suc (count_below k ks) * goal ≤ total split.before

-- no boundary is left out
abbrev pub EachReachedKeyOpens : Type 0
EachReachedKeyOpens =
    (parts least : ℕ) (a : Anchors) (k : Key)
    → unsplit parts (target parts least (total a)) (total a) ≡ false
    → MayOpen parts (target parts least (total a)) a (chosen parts least a) k
    → In k (chosen parts least a)

-- ---- when one unbounded range results
-- "if parts ≤ 1, target = 0 or target ≥ total"
abbrev pub UnsplitCases : Type 0
UnsplitCases = (parts goal bytes : ℕ) → (unsplit parts goal bytes ≡ true) ↔ ((parts ≤ 1) ⊎ ((goal ≡ 0) ⊎ (bytes ≤ goal)))

abbrev pub every_key : Plan
every_key = record { start = unbounded; end = unbounded } ∷ []

-- Of anchors in order the bytes before the last one do not reach the target, or it has the smallest key, so that all have.
pub record NoneReaches (goal : ℕ) (a : Anchors) : Type 0 where
  pub front : Anchors
  pub last : Anchor
  pub is : prepared a ≡ front ++ (last ∷ [])
  pub short : (total front < goal) ⊎ (Smallest last.key a)

-- exactly where document 01 says so, or where no boundary is chosen
abbrev pub OneRangeResults : Type 0
OneRangeResults =
    (parts least : ℕ) (a : Anchors)
    → (select_boundaries parts least a ≡ every_key)
    ↔ ((unsplit parts (target parts least (total a)) (total a) ≡ true) ⊎ NoneReaches (target parts least (total a)) a)

-- ---- a planned range may be a part of a job
abbrev pub part_of : Range → Part
part_of r = record { planned = r; completed = false; outputs = [] }

-- each passes `non_empty`, and check 10 holds of them in order
pub record MayBeParts (p : Plan) : Type 0 where
  pub pass : All (λ r. non_empty r ≡ true) p
  pub in_order : planned_from below (map part_of p) ≡ true

abbrev pub PlannedRangesMayBeParts : Type 0
PlannedRangesMayBeParts = (parts least : ℕ) (a : Anchors) → MayBeParts (select_boundaries parts least a)

-- ---- of what the calls answer, on any bytes
-- the bytes are the layout of a plan, are read back as that plan, and all of the above holds of it
pub record PlanAnswered (parts : ℕ) (b : List ℕ) : Type 0 where
  pub ranges : Plan
  pub is : b ≡ plan.write ranges
  pub reads_back : ended (plan.read b) ≡ answer ranges
  pub once : (x : Key) → holders x ranges ≡ 1
  pub some : 1 ≤ length ranges
  pub most : length ranges ≤ max 1 parts
  pub from_the_least : FromTheLeast ranges
  pub meeting : Meeting ranges
  pub parts_of_a_job : MayBeParts ranges

pub record EachPlanAnswered : Type 0 where
  pub select_boundaries_lem :
      (parts least : ℕ) (l : List ℕ) (room : ℕ) (b : List ℕ)
      → select_boundaries_outcome parts least l room ≡ answer b
      → PlanAnswered parts b
  pub plan_subcompaction_ranges_lem :
      (parts : ℕ) (l m : List ℕ) (room : ℕ) (b : List ℕ)
      → plan_subcompaction_ranges_outcome parts l m room ≡ answer b
      → PlanAnswered parts b

-- ---- sampled anchors
abbrev pub every_key_range : Range
every_key_range = record { start = unbounded; end = unbounded }

-- offsets that do not fall, up to the end of the data
unfoldable pub Rising : ℕ → Index → Type 0
Rising data_end [] = Unit
Rising data_end (b ∷ []) = b.offset ≤ data_end
Rising data_end (b ∷ c ∷ bs) = (b.offset ≤ c.offset) × Rising data_end (c ∷ bs)

abbrev pub AtMostThatManyAnchors : Type 0
AtMostThatManyAnchors = (most data_end : ℕ) (x : Index) (r : Range) → length (sample_anchors most data_end x r) ≤ max 1 most

abbrev pub SampledKeysAreHeld : Type 0
SampledKeysAreHeld = (most data_end : ℕ) (x : Index) (r : Range) → All (λ a. holds r a.key ≡ true) (sample_anchors most data_end x r)

-- of first keys that do not descend (check 6)
abbrev pub SampledKeysAscend : Type 0
SampledKeysAscend =
    (most data_end : ℕ) (x : Index) (r : Range)
    → (index_checks x).order ≡ true
    → Pairwise (λ a b. key_at_most a.key b.key ≡ true) (sample_anchors most data_end x r)

abbrev pub SampledBytesAddUp : Type 0
SampledBytesAddUp =
    (most data_end : ℕ) (b : Block) (bs : Index)
    → Rising data_end (b ∷ bs)
    → total (sample_anchors most data_end (b ∷ bs) every_key_range) ≡ data_end - b.offset

-- what `sample_anchors` answers on any bytes: the layout of such anchors, read back as they are
pub record AnchorsAnswered (most data_end : ℕ) (l q b : List ℕ) : Type 0 where
  pub sampled : Anchors
  pub is : b ≡ anchors.write sampled
  pub reads_back : ended (anchors.read b) ≡ answer sampled
  pub few : length sampled ≤ max 1 most
  pub ascending : Pairwise (λ x y. key_at_most x.key y.key ≡ true) sampled
  pub held : (r : Range) → whole read_range q ≡ answer r → All (λ a. holds r a.key ≡ true) sampled
  -- of a data end of 64 bits and of bytes they are those of the definition: no size is cut off
  pub as_sampled : data_end < 2 ^ 64 → Bytes l → anchors_sampled most data_end l q ≡ answer sampled

abbrev pub EachSampleAnswered : Type 0
EachSampleAnswered =
    (most data_end : ℕ) (l q : List ℕ) (room : ℕ) (b : List ℕ)
    → sample_anchors_outcome most data_end l q room ≡ answer b
    → AnchorsAnswered most data_end l q b
