-- The promises on the lines of a listing: one line a view after the header, in the order of runs and views, and what stands
-- on it. Their proofs are in proofs/Rows.antt.
use Rattle.std.specs.Prelude.{ℕ, ◌+◌, ◌≡◌, true, List, [], ◌∷◌, ◌++◌, length, get_or, eqb}
use Rattle.base.specs.Pick.{pick}
use Rattle.key.specs.Order.{Key}
use Rattle.comparable_range.specs.Range.{unbounded, included, excluded}
use Rattle.text.specs.Text.{hex}
use Rattle.records.specs.Values.{View, Run, Image}
use Rattle.manifest.specs.Ranges.{effective}
use Rattle.manifest.specs.Checks.{table_passes}
use Rattle.listing.specs.Listing.{start_text, end_text, names, bounds_text, listing}

-- ---- the lines of a text, each with the newline that ends it
abbrev pub before : ℕ → List (List ℕ) → List (List ℕ)
before b [] = (b ∷ []) ∷ []
before b (w ∷ ws) = (b ∷ w) ∷ ws

unfoldable pub split : List ℕ → List (List ℕ)
split [] = []
split (b ∷ l) = pick (eqb b 10) ((b ∷ []) ∷ split l) (before b (split l))

-- how many views are in some runs
unfoldable pub views_in : List Run → ℕ
views_in [] = 0
views_in (r ∷ rs) = length r.views + views_in rs

-- the header, and one line a view
abbrev pub ListingHasALineAView : Type 0
ListingHasALineAView = (i : Image) → length (split (listing i)) ≡ 1 + views_in i

-- The line of a view comes after the header, the lines of the runs before its run and those of the views before it: the
-- run's id, the view's place, its table's id, and the bounds of its effective range.
abbrev pub LineOfAView : Type 0
LineOfAView =
    (rs : List Run) (r : Run) (ss : List Run) (us : List View) (v : View) (ws : List View)
    → r.views ≡ us ++ v ∷ ws
    → get_or (split (listing (rs ++ r ∷ ss))) (1 + views_in rs + length us) []
    ≡ names r.id (length us) v.table.id.0 ++ bounds_text (effective v)

-- ---- brackets
-- the bounds of a range at the key a, 61 in hexadecimal: [ and ] where it is included, ( and ) where it is excluded, and -
pub record BracketsAreAsSaid : Type 0 where
  pub included_start : start_text (included (97 ∷ [])) ≡ 91 ∷ 54 ∷ 49 ∷ []
  pub excluded_start : start_text (excluded (97 ∷ [])) ≡ 40 ∷ 54 ∷ 49 ∷ []
  pub unbounded_start : start_text unbounded ≡ 45 ∷ []
  pub included_end : end_text (included (97 ∷ [])) ≡ 54 ∷ 49 ∷ 93 ∷ []
  pub excluded_end : end_text (excluded (97 ∷ [])) ≡ 54 ∷ 49 ∷ 41 ∷ []
  pub unbounded_end : end_text unbounded ≡ 45 ∷ []

-- of an accepted image only the first of these starts is ever shown
pub record SquareStart (text : List ℕ) : Type 0 where
  pub key : Key
  pub is : text ≡ 91 ∷ hex key

abbrev pub StartsAreSquare : Type 0
StartsAreSquare = (v : View) → table_passes v ≡ true → SquareStart (start_text (effective v).start)
