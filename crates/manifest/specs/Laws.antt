-- The promises on tables' own ranges, views' effective ranges and accepted images. Their proofs are in proofs/.
use Rattle.std.specs.Prelude.{ℕ, ◌≤◌, ◌≡◌, Bool, true, ◌&&◌, List, length}
use Rattle.std.proofs.Math.Option.{Option, none, some}
use Rattle.base.specs.Bytes.{Bytes}
use Rattle.base.specs.Outcome.{answer}
use Rattle.key.specs.Order.{Key}
use Rattle.comparable_range.specs.Range.{Range, included, holds, intersect}
use Rattle.records.specs.Values.{Table, View, Image}
use Rattle.records.specs.Layouts.{image}
use Rattle.manifest.specs.Ranges.{own, effective}
use Rattle.manifest.specs.Checks.{keys_in_order, table_passes, checked, image_checks, image_given}

-- a table's own range starts included, and holds its first key unless its last key is below it
abbrev pub OwnHoldsFirst : Type 0
OwnHoldsFirst = (t : Table) → keys_in_order t ≡ true → holds (own t) t.first ≡ true

-- a range that starts included and holds the key that it starts with
pub record StartsHeld (r : Range) : Type 0 where
  pub key : Key
  pub start : r.start ≡ included key
  pub held : holds r key ≡ true

-- the effective range of a view that passes check 5 starts included, and holds its start key
abbrev pub EffectiveStartIsHeld : Type 0
EffectiveStartIsHeld = (v : View) → table_passes v ≡ true → StartsHeld (effective v)

-- no visible range hides nothing
abbrev pub seen_through : Option Range → Key → Bool
seen_through none x = true
seen_through (some r) x = holds r x

-- a view's effective range holds a key exactly if its table's own range and its visible range do
abbrev pub EffectiveHoldsWhatBothHold : Type 0
EffectiveHoldsWhatBothHold =
    (v : View) (x : Key) → holds (effective v) x ≡ (holds (own v.table) x && seen_through v.visible x)

-- it is the intersection of the two, which a view that passes check 5 has
abbrev pub EffectiveIsTheIntersection : Type 0
EffectiveIsTheIntersection =
    (v : View) (r : Range) → v.visible ≡ some r → table_passes v ≡ true → intersect (own v.table) r ≡ some (effective v)

-- without a visible range it is the table's own range
abbrev pub EffectiveIsOwn : Type 0
EffectiveIsOwn = (v : View) → v.visible ≡ none → effective v ≡ own v.table

-- ---- images, as bytes
-- bytes that are accepted as an image are the writing of its value
abbrev pub OnlyWritingsAreImages : Type 0
OnlyWritingsAreImages = (l : List ℕ) (i : Image) → Bytes l → image_given l ≡ answer i → l ≡ image.write i

-- and at most 65,536
abbrev pub ImagesAreSmall : Type 0
ImagesAreSmall = (l : List ℕ) (i : Image) → image_given l ≡ answer i → length l ≤ 65536

-- the writing of a value within the ceilings is accepted as that value, unless a check from 4 to 7 refuses it
abbrev pub WrittenImagesAreRead : Type 0
WrittenImagesAreRead =
    (i : Image) → image.Within i → length (image.write i) ≤ 65536 → image_given (image.write i) ≡ checked (image_checks i) (answer i)
