-- No text on a line has a newline, so the lines of a listing are those that were put together.
-- Assumes nothing.
use Prim.Native.Nat.{ℕ, zero, suc, ◌+◌, ◌/◌, ◌%◌}
use native.Mathlib.Omega.{arith}
use mathlib.Core.Path.{◌≡◌, refl, sym, ap, ◌∙◌}
use mathlib.Core.Bool.{Bool, true, false}
use native.Mathlib.Nat.{zero-add, add-zero}
use mathlib.Core.List.{List, [], ◌∷◌, ◌++◌, append_assoc}
use lib.ListN.{length, length-append}
use lib.Seq.{get_or-append_seam}
use lib.Dec.{ltb}
use borrow.Author.Tests.{ne_eqb}
use Rattle.base.specs.Pick.{pick}
use Rattle.comparable_range.specs.Range.{Bound, unbounded, included, excluded}
use Rattle.text.specs.Text.{glyph, decimal_in, decimal, hex}
use Rattle.records.specs.Values.{View, Run}
use Rattle.manifest.specs.Ranges.{effective}
use Rattle.manifest.proofs.ViewRanges.{effective_start_is_held}
use Rattle.listing.specs.Listing.{start_text, end_text, names, bounds_text, line, lines, run_lines, listing, header}
use Rattle.listing.specs.Rows.{split, views_in, ListingHasALineAView, LineOfAView, BracketsAreAsSaid, StartsAreSquare}

-- ---- texts without a newline
data Plain : List ℕ → Type 0 where
  none : Plain []
  next : {b : ℕ} {l : List ℕ} → (b ≡ 10 → ⊥) → Plain l → Plain (b ∷ l)

plain_append : {k l : List ℕ} → Plain k → Plain l → Plain (k ++ l)
plain_append none q = q
plain_append (next h p) q = next h (plain_append p q)

plain_glyph : (d : ℕ) {l : List ℕ} → Plain l → Plain (glyph d ∷ l)
plain_glyph d p = next (go (ltb d 10)) p
  where
    go : (t : Bool) → pick t (48 + d) (87 + d) ≡ 10 → ⊥
    go true q = omega arith
    go false q = omega arith

plain_hex : (l : List ℕ) → Plain (hex l)
unfolding hex
plain_hex [] = none
plain_hex (b ∷ l) = plain_glyph (b / 16) (plain_glyph (b % 16) (plain_hex l))

plain_either : (t : Bool) {k l : List ℕ} → Plain k → Plain l → Plain (pick t k l)
plain_either true p q = p
plain_either false p q = q

plain_decimal_in : (k n : ℕ) → Plain (decimal_in k n)
unfolding decimal_in
plain_decimal_in zero n = none
plain_decimal_in (suc k) n =
    plain_either (ltb n 10) (plain_glyph n none) (plain_append (plain_decimal_in k (n / 10)) (plain_glyph (n % 10) none))

plain_decimal : (n : ℕ) → Plain (decimal n)
unfolding decimal
plain_decimal n = plain_decimal_in 20 n

plain_spaced : {w : List ℕ} → Plain w → Plain (w ++ (32 ∷ []))
plain_spaced p = plain_append p (next (λ q. omega arith) none)

plain_start_lem : (b : Bound) → Plain (start_text b)
unfolding start_text
plain_start_lem unbounded = next {b = 45} (λ q. omega arith) none
plain_start_lem (included k) = next {b = 91} (λ q. omega arith) (plain_hex k)
plain_start_lem (excluded k) = next {b = 40} (λ q. omega arith) (plain_hex k)

plain_end : (b : Bound) → Plain (end_text b)
unfolding end_text
plain_end unbounded = next {b = 45} (λ q. omega arith) none
plain_end (included k) = plain_append (plain_hex k) (next (λ q. omega arith) none)
plain_end (excluded k) = plain_append (plain_hex k) (next (λ q. omega arith) none)

-- ---- a text with a newline after it is one line
split_one : {w : List ℕ} (l : List ℕ) → Plain w → split (w ++ 10 ∷ l) ≡ (w ++ (10 ∷ [])) ∷ split l
unfolding split
split_one l none = refl
split_one l (next {b} h p) = rw (ne_eqb b 10 h, split_one l p)

-- a line up to its newline
abbrev shown : ℕ → ℕ → View → List ℕ
shown id place v = names id place v.table.id.0 ++ ((start_text (effective v).start ++ (32 ∷ [])) ++ end_text (effective v).end)

line_is : (id place : ℕ) (v : View) → line id place v ≡ shown id place v ++ (10 ∷ [])
unfolding line bounds_text
line_is id place v =
    let n = names id place v.table.id.0 in
    let s = start_text (effective v).start ++ (32 ∷ []) in
    let e = end_text (effective v).end in
    ap (λ t. n ++ t) (sym (append_assoc s e (10 ∷ []))) ∙ sym (append_assoc n (s ++ e) (10 ∷ []))

plain_names : (id place : ℕ) (table : List ℕ) → Plain (names id place table)
unfolding names
plain_names id place table =
    plain_append (plain_spaced (plain_decimal id)) (plain_append (plain_spaced (plain_decimal place)) (plain_spaced (plain_hex table)))

plain_shown : (id place : ℕ) (v : View) → Plain (shown id place v)
plain_shown id place v =
    plain_append (plain_names id place v.table.id.0)
    (plain_append (plain_spaced (plain_start_lem (effective v).start)) (plain_end (effective v).end))

split_line : (id place : ℕ) (v : View) (l : List ℕ) → split (line id place v ++ l) ≡ line id place v ∷ split l
split_line id place v l =
    rw (line_is id place v, append_assoc (shown id place v) (10 ∷ []) l) (split_one l (plain_shown id place v))

-- ---- the lines of views and of runs
unfoldable view_rows : ℕ → ℕ → List View → List (List ℕ)
view_rows id place [] = []
view_rows id place (v ∷ vs) = line id place v ∷ view_rows id (suc place) vs

unfoldable run_rows : List Run → List (List ℕ)
run_rows [] = []
run_rows (r ∷ rs) = view_rows r.id 0 r.views ++ run_rows rs

split_lines : (id place : ℕ) (vs : List View) (l : List ℕ) → split (lines id place vs ++ l) ≡ view_rows id place vs ++ split l
unfolding lines view_rows
split_lines id place [] l = refl
split_lines id place (v ∷ vs) l =
    ap split (append_assoc (line id place v) (lines id (suc place) vs) l)
    ∙ split_line id place v (lines id (suc place) vs ++ l)
    ∙ ap (λ t. line id place v ∷ t) (split_lines id (suc place) vs l)

split_runs : (rs : List Run) → split (run_lines rs) ≡ run_rows rs
unfolding run_lines run_rows split
split_runs [] = refl
split_runs (r ∷ rs) = split_lines r.id 0 r.views (run_lines rs) ∙ ap (λ t. view_rows r.id 0 r.views ++ t) (split_runs rs)

split_listing : (rs : List Run) → split (listing rs) ≡ header ∷ run_rows rs
unfolding listing split
split_listing rs = ap (λ t. header ∷ t) (split_runs rs)

-- ---- how many there are
view_rows_length : (id place : ℕ) (vs : List View) → length (view_rows id place vs) ≡ length vs
unfolding view_rows
view_rows_length id place [] = refl
view_rows_length id place (v ∷ vs) = ap suc (view_rows_length id (suc place) vs)

run_rows_length : (rs : List Run) → length (run_rows rs) ≡ views_in rs
unfolding run_rows views_in
run_rows_length [] = refl
run_rows_length (r ∷ rs) = rw (length-append, view_rows_length, run_rows_length rs)

pub listing_has_a_line_a_view : ListingHasALineAView
listing_has_a_line_a_view i = rw (split_listing i) (omega (arith, run_rows_length i))

-- ---- which they are
view_rows_append : (id place : ℕ) (us : List View) (v : View) (ws : List View) → view_rows id place (us ++ v ∷ ws) ≡ view_rows id place us ++ line id (place + length us) v ∷ view_rows id (suc (place + length us)) ws
unfolding view_rows
view_rows_append id place [] v ws = rw add-zero
view_rows_append id place (u ∷ us) v ws =
    let z : suc place + length us ≡ place + suc (length us) = omega arith in
    ap (λ t. line id place u ∷ t) (rw (← z) (view_rows_append id (suc place) us v ws))

run_rows_append : (rs ss : List Run) → run_rows (rs ++ ss) ≡ run_rows rs ++ run_rows ss
unfolding run_rows
run_rows_append [] ss = refl
run_rows_append (r ∷ rs) ss =
    ap (λ t. view_rows r.id 0 r.views ++ t) (run_rows_append rs ss) ∙ sym (append_assoc (view_rows r.id 0 r.views) (run_rows rs) (run_rows ss))

-- the lines in front of a view's line, that line, and those after it
rows_split :
    (rs : List Run) (r : Run) (ss : List Run) (us : List View) (v : View) (ws : List View)
    → r.views ≡ us ++ v ∷ ws
    → run_rows (rs ++ r ∷ ss)
    ≡ (run_rows rs ++ view_rows r.id 0 us) ++ line r.id (length us) v ∷ (view_rows r.id (suc (length us)) ws ++ run_rows ss)
unfolding run_rows
rows_split rs r ss us v ws e =
    let m = view_rows r.id 0 us in
    let n = view_rows r.id (suc (length us)) ws in
    let x = line r.id (length us) v in
    let q : view_rows r.id 0 r.views ≡ m ++ x ∷ n = rw (e, view_rows_append r.id 0 us v ws, zero-add) in
    run_rows_append rs (r ∷ ss)
    ∙ ap (λ t. run_rows rs ++ (t ++ run_rows ss)) q
    ∙ ap (λ t. run_rows rs ++ t) (append_assoc m (x ∷ n) (run_rows ss))
    ∙ sym (append_assoc (run_rows rs) m (x ∷ (n ++ run_rows ss)))

pub line_of_a_view : LineOfAView
unfolding line
line_of_a_view rs r ss us v ws e =
    let front = header ∷ (run_rows rs ++ view_rows r.id 0 us) in
    let x = line r.id (length us) v in
    let rest = view_rows r.id (suc (length us)) ws ++ run_rows ss in
    let long : 1 + views_in rs + length us ≡ length front = simp (length-append) (omega (arith, run_rows_length rs, view_rows_length r.id 0 us)) in
    rw (split_listing (rs ++ r ∷ ss), rows_split rs r ss us v ws e, long) (get_or-append_seam front x rest [])

-- ---- brackets
pub brackets_are_as_said : BracketsAreAsSaid
unfolding start_text end_text hex
brackets_are_as_said =
    record {
      included_start = refl;
      excluded_start = refl;
      unbounded_start = refl;
      included_end = refl;
      excluded_end = refl;
      unbounded_end = refl;
    }

pub starts_are_square : StartsAreSquare
unfolding start_text
starts_are_square v h = let s = effective_start_is_held v h in record { key = s.key; is = rw s.start }
