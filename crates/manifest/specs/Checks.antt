-- The checks 4 to 7, each over all of an input. Document 01, "Stops, in checking order".
use Rattle.std.specs.Prelude.{ℕ, ◌+◌, ◌^◌, Bool, true, false, not, ◌&&◌, ◌||◌, List, [], ◌∷◌, map, leb, ltb, eqb}
use Rattle.std.proofs.Math.Option.{Option, none, some}
use Rattle.base.specs.Outcome.{Outcome, answer, check, and_then}
use Rattle.key.specs.Order.{Key, at_most, key_at_most}
use Rattle.comparable_range.specs.Range.{Bound, unbounded, included, excluded, Range, non_empty, cmp_bound, intersect_sides, meets}
use Rattle.format.specs.Whole.{whole}
use Rattle.records.specs.Values.{Table, View, Image, Job, Index, Anchors}
use Rattle.records.specs.Layouts.{image}
use Rattle.manifest.specs.Ranges.{own, effective}

-- whether an input passes each of the checks 4, 5, 6 and 7
pub record Checks : Type 0 where
  pub ranges : Bool
  pub tables : Bool
  pub order : Bool
  pub sizes : Bool

-- the first that fails decides
abbrev pub checked : {A : Type 0} → Checks → Outcome A → Outcome A
checked c rest = check 4 c.ranges (check 5 c.tables (check 6 c.order (check 7 c.sizes rest)))

-- of two inputs: each check covers both before the next
abbrev pub joined : Checks → Checks → Checks
joined c d =
    record {
      ranges = c.ranges && d.ranges;
      tables = c.tables && d.tables;
      order = c.order && d.order;
      sizes = c.sizes && d.sizes;
    }

unfoldable pub all : {A : Type 0} → (A → Bool) → List A → Bool
all p [] = true
all p (a ∷ bs) = p a && all p bs

-- ---- 4: a range fails `non_empty`
abbrev pub passes_if : Option Range → Bool
passes_if none = true
passes_if (some r) = non_empty r

unfoldable pub visible_passes : View → Bool
visible_passes v = passes_if v.visible

-- ---- 5: a last key is below its first key, a visible range starts excluded, or it does not meet its table's own range
abbrev pub reaches : Key → Option Key → Bool
reaches k none = true
reaches k (some l) = key_at_most k l

unfoldable pub keys_in_order : Table → Bool
keys_in_order t = reaches t.first t.last

abbrev pub is_excluded : Bound → Bool
is_excluded unbounded = false
is_excluded (included k) = false
is_excluded (excluded k) = true

abbrev pub meets_own : Range → Option Range → Bool
meets_own o none = true
meets_own o (some r) = not (is_excluded r.start) && meets (intersect_sides o r)

unfoldable pub table_passes : View → Bool
table_passes v = keys_in_order v.table && meets_own (own v.table) v.visible

-- ---- 6: view starts in a run or first keys within one index image descend, or two runs share an id
unfoldable pub ascend_from : Bound → List Bound → Bool
ascend_from a [] = true
ascend_from a (b ∷ bs) = at_most (cmp_bound true a b) && ascend_from b bs

abbrev pub ascend : List Bound → Bool
ascend [] = true
ascend (a ∷ bs) = ascend_from a bs

-- a view starts where its effective range does
abbrev pub starts : List View → List Bound
starts vs = map (λ v. (effective v).start) vs

unfoldable pub has : ℕ → List ℕ → Bool
has n [] = false
has n (m ∷ ms) = eqb n m || has n ms

unfoldable pub distinct : List ℕ → Bool
distinct [] = true
distinct (n ∷ ns) = not (has n ns) && distinct ns

-- ---- 7: index_offset + index_len exceeds 2^53, or anchor bytes total 2^63 or more
unfoldable pub size_passes : Table → Bool
size_passes t = leb (t.index_offset + t.index_len) (2 ^ 53)

unfoldable pub total : Anchors → ℕ
total [] = 0
total (a ∷ as') = a.bytes + total as'

-- ---- the inputs
unfoldable pub image_checks : Image → Checks
image_checks i =
    record {
      ranges = all (λ r. all visible_passes r.views) i;
      tables = all (λ r. all table_passes r.views) i;
      order = all (λ r. ascend (starts r.views)) i && distinct (map (λ r. r.id) i);
      sizes = all (λ r. all (λ v. size_passes v.table) r.views) i;
    }

unfoldable pub job_checks : Job → Checks
job_checks j =
    record {
      ranges = all (λ p. non_empty p.planned) j.parts;
      tables = all (λ p. all keys_in_order p.outputs) j.parts;
      order = true;
      sizes = all (λ p. all size_passes p.outputs) j.parts;
    }

unfoldable pub index_checks : Index → Checks
index_checks x = record { ranges = true; tables = true; order = ascend (map (λ b. included b.first) x); sizes = true }

unfoldable pub anchors_checks : Anchors → Checks
anchors_checks a = record { ranges = true; tables = true; order = true; sizes = ltb (total a) (2 ^ 63) }

-- the image that is the whole of a buffer
unfoldable pub image_given : List ℕ → Outcome Image
image_given l = and_then (whole image.read l) (λ i. checked (image_checks i) (answer i))
