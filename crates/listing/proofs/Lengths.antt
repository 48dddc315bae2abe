-- How long the texts are, and the exits of the functions that measure a line.
-- Assumes nothing.
use Prim.Native.Nat.{ℕ, zero, suc, ◌+◌, ◌*◌, ◌≤◌, ◌/◌, ◌%◌}
use native.Mathlib.Omega.{arith}
use mathlib.Core.Path.{◌≡◌, refl, ap, ◌∙◌}
use mathlib.Core.Bool.{Bool, true, false}
use mathlib.Core.List.{List, [], ◌∷◌, ◌++◌}
use lib.ListN.{length, take, drop, length-append, length-drop}
use lib.Seq.{length-take-le}
use lib.Dec.{ltb}
use mir.Val.{Fits}
use mir.Syntax.{w64}
use Rattle.base.specs.Pick.{pick}
use Rattle.comparable_range.specs.Range.{Range}
use Rattle.comparable_range.specs.declared.Kind.{Kind}
use Rattle.comparable_range.specs.declared.Kind.TheVariants.{Unbounded, Included, Excluded}
use Rattle.format.specs.Range.{bound_in, BoundInside}
use Rattle.format.specs.declared.range.BoundSpan.{BoundSpan}
use Rattle.format.specs.declared.span.RangeSpan.{RangeSpan}
use Rattle.text.specs.Text.{decimal_in, decimal, hex, glyph}
use Rattle.text.proofs.Hex.{hex_length}
use Rattle.records.specs.Values.{View}
use Rattle.records.specs.Spans.{view_in, ViewInside}
use Rattle.records.specs.declared.views.ViewSpan.{ViewSpan}
use Rattle.manifest.specs.Ranges.{effective}
use Rattle.manifest.specs.Spans.{EffectiveFound}
use Rattle.listing.specs.Listing.{start_text, end_text, names, bounds_text, line}

-- ---- a key that stands in s
key_length : (s : List ℕ) (b : BoundSpan) → BoundInside s b → length (take b.len (drop b.at s)) ≡ b.len
key_length s b h = length-take-le b.len (drop b.at s) (rw length-drop (omega arith))

-- ---- bound_len
hex_key : (s : List ℕ) (b : BoundSpan) → BoundInside s b → length (hex (take b.len (drop b.at s))) ≡ 2 * b.len
hex_key s b h = hex_length (take b.len (drop b.at s)) ∙ ap (λ n. 2 * n) (key_length s b h)

module _ (s : List ℕ) (b : BoundSpan) where
  pub start_free : b.kind ≡ Unbounded → 1 ≡ length (start_text (bound_in s b))
  unfolding start_text
  start_free e = rw e

  pub start_in : b.kind ≡ Included → BoundInside s b → 1 + 2 * b.len ≡ length (start_text (bound_in s b))
  unfolding start_text
  start_in e h = rw e (omega (arith, hex_key s b h))

  pub start_ex : b.kind ≡ Excluded → BoundInside s b → 1 + 2 * b.len ≡ length (start_text (bound_in s b))
  unfolding start_text
  start_ex e h = rw e (omega (arith, hex_key s b h))

  pub end_free : b.kind ≡ Unbounded → 1 ≡ length (end_text (bound_in s b))
  unfolding end_text
  end_free e = rw e

  pub end_in : b.kind ≡ Included → BoundInside s b → 1 + 2 * b.len ≡ length (end_text (bound_in s b))
  unfolding end_text
  end_in e h = rw (e, length-append) (omega (arith, hex_key s b h))

  pub end_ex : b.kind ≡ Excluded → BoundInside s b → 1 + 2 * b.len ≡ length (end_text (bound_in s b))
  unfolding end_text
  end_ex e h = rw (e, length-append) (omega (arith, hex_key s b h))

pub ruleset bound_exits = (start_free, start_in, start_ex, end_free, end_in, end_ex)

-- ---- no text of a bound is longer than this
start_most : (s : List ℕ) (b : BoundSpan) → BoundInside s b → length s ≤ 65536 → length (start_text (bound_in s b)) ≤ 131073
start_most s b h l = go b.kind refl
  where
    go : (k : Kind) → b.kind ≡ k → length (start_text (bound_in s b)) ≤ 131073
    go Unbounded e = omega (arith, start_free s b e)
    go Included e = omega (arith, start_in s b e h, h)
    go Excluded e = omega (arith, start_ex s b e h, h)

end_most : (s : List ℕ) (b : BoundSpan) → BoundInside s b → length s ≤ 65536 → length (end_text (bound_in s b)) ≤ 131073
end_most s b h l = go b.kind refl
  where
    go : (k : Kind) → b.kind ≡ k → length (end_text (bound_in s b)) ≤ 131073
    go Unbounded e = omega (arith, end_free s b e)
    go Included e = omega (arith, end_in s b e h, h)
    go Excluded e = omega (arith, end_ex s b e h, h)

one_digit_more : (t : Bool) (k g : ℕ) (l : List ℕ) (h : ℕ) → length l ≤ k → length (pick t (g ∷ []) (l ++ (h ∷ []))) ≤ suc k
one_digit_more true k g l h m = omega arith
one_digit_more false k g l h m = rw length-append (omega arith)

decimal_in_most : (k n : ℕ) → length (decimal_in k n) ≤ k
unfolding decimal_in
decimal_in_most zero n = omega arith
decimal_in_most (suc k) n = one_digit_more (ltb n 10) k (glyph n) (decimal_in k (n / 10)) (glyph (n % 10)) (decimal_in_most k (n / 10))

pub decimal_most : (n : ℕ) → length (decimal n) ≤ 20
unfolding decimal
decimal_most n = decimal_in_most 20 n

-- ---- line_len
pub line_length :
    (id place : ℕ) (v : View)
    → length (line id place v) ≡ length (decimal id) + length (decimal place) + 2 * length v.table.id.0 + 5 + length (start_text (effective v).start) + length (end_text (effective v).end)
unfolding line names bounds_text
line_length id place v =
    simp (length-append) (omega (arith, hex_length v.table.id.0))

module _ (s : List ℕ) (v : ViewSpan) (id place : ℕ) (p : ViewInside s v) {e : RangeSpan} (x : EffectiveFound s v e) where
  pub start_inside : BoundInside s e.start
  start_inside = x.start

  pub end_inside : BoundInside s e.end
  end_inside = x.end

  id_length : length (take 16 (drop v.table.id s)) ≡ 16
  id_length = length-take-le 16 (drop v.table.id s) (rw length-drop (omega (arith, p.table.id)))

  module _ {a b c d : ℕ} (ha : a ≡ length (decimal id)) (hb : b ≡ length (decimal place)) (hc : c ≡ length (start_text (bound_in s e.start))) (hd : d ≡ length (end_text (bound_in s e.end))) where
    pub line_is : a + b + 37 + c + d ≡ length (line id place (view_in s v))
    line_is =
        let start : length (start_text (bound_in s e.start)) ≡ length (start_text (effective (view_in s v)).start) = ap (λ (r : Range). length (start_text r.start)) x.meaning in
        let end : length (end_text (bound_in s e.end)) ≡ length (end_text (effective (view_in s v)).end) = ap (λ (r : Range). length (end_text r.end)) x.meaning in
        omega (arith, line_length id place (view_in s v), id_length)

    pub line_most : length s ≤ 65536 → a + b + 37 + c + d ≤ 262223
    line_most l = omega (arith, decimal_most id, decimal_most place, start_most s e.start x.start l, end_most s e.end x.end l)

  module _ {a b : ℕ} (ha : a ≡ length (decimal id)) (hb : b ≡ length (decimal place)) where
    pub numbers_fit : Fits w64 (a + b)
    numbers_fit = omega (arith, decimal_most id, decimal_most place)

    pub id_fits : Fits w64 (a + b + 37)
    id_fits = omega (arith, decimal_most id, decimal_most place)

    module _ {c : ℕ} (l : length s ≤ 65536) (hc : c ≡ length (start_text (bound_in s e.start))) where
      pub starts_fit : Fits w64 (a + b + 37 + c)
      starts_fit = omega (arith, decimal_most id, decimal_most place, start_most s e.start x.start l)

      pub ends_fit : {d : ℕ} → d ≡ length (end_text (bound_in s e.end)) → Fits w64 (a + b + 37 + c + d)
      ends_fit hd = omega (arith, decimal_most id, decimal_most place, start_most s e.start x.start l, end_most s e.end x.end l)

pub ruleset line_exits = (start_inside, end_inside, line_is, line_most, numbers_fit, id_fits, starts_fit, ends_fit)
