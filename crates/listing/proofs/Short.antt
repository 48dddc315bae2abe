-- A view's line is at most twice as long as the view's writing, since the keys of its bounds stand there; so are all lines.
-- Assumes nothing.
use Prim.Native.Nat.{ℕ, suc, ◌+◌, ◌*◌, ◌≤◌}
use native.Mathlib.Omega.{arith}
use mathlib.Core.Path.{ap}
use mathlib.Core.Option.{Option, none, some}
use mathlib.Core.List.{List, [], ◌∷◌}
use lib.ListN.{length, length-append}
use Rattle.key.specs.Order.{Key}
use Rattle.comparable_range.specs.declared.Side.{Side}
use Rattle.comparable_range.specs.declared.Side.TheVariants.{First, Second}
use Rattle.comparable_range.specs.Range.{Bound, unbounded, included, excluded, Range, of, start_side, end_side}
use Rattle.format.specs.Range.{write_bound, write_range}
use Rattle.format.proofs.Layouts.{number_length, key_length}
use Rattle.text.proofs.Hex.{hex_length}
use Rattle.records.specs.Values.{View, Run}
use Rattle.records.specs.Form.{key, range, write_if, write_many}
use Rattle.records.specs.Layouts.{table, view, run, image}
use Rattle.manifest.specs.Ranges.{last_bound, own, cut_by, effective}
use Rattle.manifest.proofs.ImageLaws.{only_writings_are_images, images_are_small}
use Rattle.listing.specs.Listing.{start_text, end_text, line, lines, run_lines, listing}
use Rattle.listing.specs.Laws.{ListingIsShort, ListingFits}
use Rattle.listing.proofs.Lengths.{decimal_most, line_length}

-- ---- bounds
start_short : (b : Bound) → length (start_text b) ≤ 1 + 2 * length (write_bound b)
unfolding start_text write_bound
start_short unbounded = omega arith
start_short (included k) = omega (arith, hex_length k, key_length k)
start_short (excluded k) = omega (arith, hex_length k, key_length k)

end_short : (b : Bound) → length (end_text b) ≤ 1 + 2 * length (write_bound b)
unfolding end_text write_bound
end_short unbounded = omega arith
end_short (included k) = rw length-append (omega (arith, hex_length k, key_length k))
end_short (excluded k) = rw length-append (omega (arith, hex_length k, key_length k))

-- one of two bounds is no longer than both
one_of : (s : Side) (a b : Bound) → length (write_bound (of s a b)) ≤ length (write_bound a) + length (write_bound b)
one_of First a b = omega arith
one_of Second a b = omega arith

abbrev size : Range → ℕ
size r = length (write_bound r.start) + length (write_bound r.end)

cut_short : (q : Option Range) (r : Range) → size (cut_by q r) ≤ size r + length (write_if range q)
unfolding write_if write_range
cut_short none r = omega arith
cut_short (some q) r =
    rw length-append
    (omega (arith, one_of (start_side r.start q.start) r.start q.start, one_of (end_side r.end q.end) r.end q.end))

last_short : (k : Option Key) → length (write_bound (last_bound k)) ≤ length (write_if key k)
unfolding write_bound write_if
last_short none = omega arith
last_short (some k) = omega arith

-- ---- views
view_length :
    (v : View)
    → 26 + length v.table.id.0 + size (own v.table) + length (write_if range v.visible) ≤ length (view.write v)
unfolding view table write_bound
view_length v = simp (length-append, number_length) (omega (arith, last_short v.table.last))

line_short : (id place : ℕ) (v : View) → length (line id place v) ≤ 2 * length (view.write v)
unfolding effective
line_short id place v =
    omega (
      arith,
      line_length id place v,
      decimal_most id,
      decimal_most place,
      start_short (effective v).start,
      end_short (effective v).end,
      cut_short v.visible (own v.table),
      view_length v,
    )

-- ---- all lines
lines_short : (id place : ℕ) (vs : List View) → length (lines id place vs) ≤ 2 * length (write_many view.write vs)
unfolding lines write_many
lines_short id place [] = omega arith
lines_short id place (v ∷ vs) = simp length-append (omega (arith, line_short id place v, lines_short id (suc place) vs))

run_lines_short : (rs : List Run) → length (run_lines rs) ≤ 2 * length (write_many run.write rs)
unfolding run_lines run write_many
run_lines_short [] = omega arith
run_lines_short (r ∷ rs) = simp length-append (omega (arith, lines_short r.id 0 r.views, run_lines_short rs))

pub listing_is_short : ListingIsShort
unfolding listing image
listing_is_short i = simp length-append (omega (arith, run_lines_short i))

pub listing_fits : ListingFits
listing_fits l i b e =
    omega (arith, listing_is_short i, images_are_small l i e, ap length (only_writings_are_images l i b e))
