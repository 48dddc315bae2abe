-- The exits of `put_start`, `put_end` and `put_line`: a line is put word by word.
-- Assumes nothing.
use Prim.Native.Nat.{ℕ, ◌+◌, ◌≤◌}
use mathlib.Core.Path.{◌≡◌, refl, sym, ap, ◌∙◌}
use mathlib.Core.List.{List, [], ◌∷◌, ◌++◌, append_assoc}
use lib.ListN.{length, take, drop}
use Rattle.base.specs.Splice.{splice}
use Rattle.comparable_range.specs.declared.Kind.TheVariants.{Unbounded, Included, Excluded}
use Rattle.format.specs.Range.{bound_in, range_in, BoundInside}
use Rattle.format.specs.declared.range.BoundSpan.{BoundSpan}
use Rattle.format.specs.declared.span.RangeSpan.{RangeSpan}
use Rattle.text.specs.Text.{decimal, hex}
use Rattle.records.specs.Spans.{view_in, ViewInside}
use Rattle.records.specs.declared.views.ViewSpan.{ViewSpan}
use Rattle.manifest.specs.Ranges.{effective}
use Rattle.manifest.specs.Spans.{EffectiveFound}
use Rattle.listing.specs.Listing.{spaced, closed, start_text, end_text, names, bounds_text, line}
use Rattle.listing.proofs.Pieces.{first_room, second_room, both_put, both_past}

-- ---- a text that is two pieces
module _ (d : List ℕ) (at : ℕ) (text x y : List ℕ) (e : text ≡ x ++ y) (room : at + length text ≤ length d) where
  room_of : at + length (x ++ y) ≤ length d
  room_of = rw e at room

  piece_room : at + length x ≤ length d
  piece_room = first_room d at x y room_of

  module _ {f : List ℕ} {to : ℕ} (p : f ≡ splice d at x) (t : to ≡ at + length x) where
    rest_room : to + length y ≤ length f
    rest_room = second_room d at x y room_of p t

    rest_put : {g : List ℕ} → g ≡ splice f to y → g ≡ splice d at text
    rest_put q = both_put d at x y room_of p t q ∙ ap (splice d at) (sym e)

    rest_past : {z : ℕ} → z ≡ to + length y → z ≡ at + length text
    rest_past q = both_past d at x y room_of p t q ∙ ap (λ l. at + length l) (sym e)

-- ---- put_opened: a bracket, and a word after it
module _ (d : List ℕ) (at bracket : ℕ) (k : List ℕ) (room : at + length (bracket ∷ spaced (hex k)) ≤ length d) {f : List ℕ} (p : f ≡ splice d at (bracket ∷ [])) where
  pub opened_put : {g : List ℕ} → g ≡ splice f (at + 1) (spaced (hex k)) → g ≡ splice d at (bracket ∷ spaced (hex k))
  opened_put q = rest_put d at (bracket ∷ spaced (hex k)) (bracket ∷ []) (spaced (hex k)) refl room p refl q

-- ---- put_start, by the kind of the bound; k is its key
module _ (s : List ℕ) (b : BoundSpan) where
  pub start_dash : b.kind ≡ Unbounded → spaced (start_text (bound_in s b)) ≡ 45 ∷ 32 ∷ []
  unfolding start_text
  start_dash e = rw e

  pub start_square : {k : List ℕ} → b.kind ≡ Included → k ≡ take b.len (drop b.at s) → spaced (start_text (bound_in s b)) ≡ 91 ∷ spaced (hex k)
  unfolding start_text
  start_square e q = rw (e, q)

  pub start_round : {k : List ℕ} → b.kind ≡ Excluded → k ≡ take b.len (drop b.at s) → spaced (start_text (bound_in s b)) ≡ 40 ∷ spaced (hex k)
  unfolding start_text
  start_round e q = rw (e, q)

pub ruleset start_put_exits = (start_dash, start_square, start_round)

-- ---- put_end, by the kind of the bound
module _ (s : List ℕ) (b : BoundSpan) where
  pub end_dash : b.kind ≡ Unbounded → closed (end_text (bound_in s b)) ≡ 45 ∷ 10 ∷ []
  unfolding end_text
  end_dash e = rw e

  pub end_square : {k : List ℕ} → b.kind ≡ Included → k ≡ take b.len (drop b.at s) → closed (end_text (bound_in s b)) ≡ hex k ++ (93 ∷ 10 ∷ [])
  unfolding end_text
  end_square e q = rw (e, q) (append_assoc (hex (take b.len (drop b.at s))) (93 ∷ []) (10 ∷ []))

  pub end_round : {k : List ℕ} → b.kind ≡ Excluded → k ≡ take b.len (drop b.at s) → closed (end_text (bound_in s b)) ≡ hex k ++ (41 ∷ 10 ∷ [])
  unfolding end_text
  end_round e q = rw (e, q) (append_assoc (hex (take b.len (drop b.at s))) (41 ∷ []) (10 ∷ []))

pub ruleset end_put_exits = (end_dash, end_square, end_round)

-- ---- put_names
module _ (d : List ℕ) (at id place : ℕ) (k : List ℕ) (room : at + length (names id place k) ≤ length d) where
  three : names id place k ≡ spaced (decimal id) ++ (spaced (decimal place) ++ spaced (hex k))
  unfolding names
  three = refl

  pub id_room : at + length (spaced (decimal id)) ≤ length d
  id_room = piece_room d at (names id place k) (spaced (decimal id)) (spaced (decimal place) ++ spaced (hex k)) three room

  module _ {f : List ℕ} {a : ℕ} (p : f ≡ splice d at (spaced (decimal id))) (t : a ≡ at + length (spaced (decimal id))) where
    left : a + length (spaced (decimal place) ++ spaced (hex k)) ≤ length f
    left = rest_room d at (names id place k) (spaced (decimal id)) (spaced (decimal place) ++ spaced (hex k)) three room p t

    pub place_room : a + length (spaced (decimal place)) ≤ length f
    place_room = first_room f a (spaced (decimal place)) (spaced (hex k)) left

    module _ {g : List ℕ} {b : ℕ} (p' : g ≡ splice f a (spaced (decimal place))) (t' : b ≡ a + length (spaced (decimal place))) where
      pub table_room : b + length (spaced (hex k)) ≤ length g
      table_room = second_room f a (spaced (decimal place)) (spaced (hex k)) left p' t'

      pub names_past : {y : ℕ} → y ≡ b + length (spaced (hex k)) → y ≡ at + length (names id place k)
      names_past q =
          rest_past d at (names id place k) (spaced (decimal id)) (spaced (decimal place) ++ spaced (hex k)) three room p t
          (both_past f a (spaced (decimal place)) (spaced (hex k)) left p' t' q)

      pub names_put : {l : List ℕ} → l ≡ splice g b (spaced (hex k)) → l ≡ splice d at (names id place k)
      names_put q =
          rest_put d at (names id place k) (spaced (decimal id)) (spaced (decimal place) ++ spaced (hex k)) three room p t
          (both_put f a (spaced (decimal place)) (spaced (hex k)) left p' t' q)

pub ruleset names_exits = (id_room, place_room, table_room, names_past, names_put)

-- ---- put_bounds
module _ (s d : List ℕ) (b c : BoundSpan) (at : ℕ) (room : at + length (bounds_text (range_in s b c)) ≤ length d) where
  two : bounds_text (range_in s b c) ≡ spaced (start_text (bound_in s b)) ++ closed (end_text (bound_in s c))
  unfolding bounds_text
  two = refl

  pub start_room : at + length (spaced (start_text (bound_in s b))) ≤ length d
  start_room = piece_room d at (bounds_text (range_in s b c)) (spaced (start_text (bound_in s b))) (closed (end_text (bound_in s c))) two room

  module _ {f : List ℕ} {a : ℕ} (p : f ≡ splice d at (spaced (start_text (bound_in s b)))) (t : a ≡ at + length (spaced (start_text (bound_in s b)))) where
    pub end_room : a + length (closed (end_text (bound_in s c))) ≤ length f
    end_room = rest_room d at (bounds_text (range_in s b c)) (spaced (start_text (bound_in s b))) (closed (end_text (bound_in s c))) two room p t

    pub bounds_past : {y : ℕ} → y ≡ a + length (closed (end_text (bound_in s c))) → y ≡ at + length (bounds_text (range_in s b c))
    bounds_past q = rest_past d at (bounds_text (range_in s b c)) (spaced (start_text (bound_in s b))) (closed (end_text (bound_in s c))) two room p t q

    pub bounds_put : {l : List ℕ} → l ≡ splice f a (closed (end_text (bound_in s c))) → l ≡ splice d at (bounds_text (range_in s b c))
    bounds_put q = rest_put d at (bounds_text (range_in s b c)) (spaced (start_text (bound_in s b))) (closed (end_text (bound_in s c))) two room p t q

pub ruleset bounds_exits = (start_room, end_room, bounds_past, bounds_put)

-- ---- put_line
module _ (s d : List ℕ) (v : ViewSpan) (id place at : ℕ) {e : RangeSpan} {k : List ℕ} (x : EffectiveFound s v e) (h : k ≡ take 16 (drop v.table.id s)) (room : at + length (line id place (view_in s v)) ≤ length d) where
  halves : line id place (view_in s v) ≡ names id place k ++ bounds_text (range_in s e.start e.end)
  unfolding line
  halves = ap (λ l. names id place l ++ bounds_text (effective (view_in s v))) (sym h) ∙ ap (λ r. names id place k ++ bounds_text r) (sym x.meaning)

  pub names_room : at + length (names id place k) ≤ length d
  names_room = piece_room d at (line id place (view_in s v)) (names id place k) (bounds_text (range_in s e.start e.end)) halves room

  module _ {f : List ℕ} {a : ℕ} (p : f ≡ splice d at (names id place k)) (t : a ≡ at + length (names id place k)) where
    pub bounds_room : a + length (bounds_text (range_in s e.start e.end)) ≤ length f
    bounds_room = rest_room d at (line id place (view_in s v)) (names id place k) (bounds_text (range_in s e.start e.end)) halves room p t

    pub line_past : {y : ℕ} → y ≡ a + length (bounds_text (range_in s e.start e.end)) → y ≡ at + length (line id place (view_in s v))
    line_past q = rest_past d at (line id place (view_in s v)) (names id place k) (bounds_text (range_in s e.start e.end)) halves room p t q

    pub line_put : {l : List ℕ} → l ≡ splice f a (bounds_text (range_in s e.start e.end)) → l ≡ splice d at (line id place (view_in s v))
    line_put q = rest_put d at (line id place (view_in s v)) (names id place k) (bounds_text (range_in s e.start e.end)) halves room p t q

pub start_inside : {s : List ℕ} {v : ViewSpan} {e : RangeSpan} → EffectiveFound s v e → BoundInside s e.start
start_inside x = x.start

pub end_inside : {s : List ℕ} {v : ViewSpan} {e : RangeSpan} → EffectiveFound s v e → BoundInside s e.end
end_inside x = x.end

pub id_inside : {s : List ℕ} (v : ViewSpan) → ViewInside s v → v.table.id + 16 ≤ length s
id_inside v p = p.table.id

pub ruleset line_put_exits = (names_room, bounds_room, line_past, line_put, start_inside, end_inside, id_inside)
