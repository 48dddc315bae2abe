-- The exits of the functions that put an answer's bytes.
-- Assumes nothing.
use Prim.Native.Nat.{ℕ, ◌+◌, ◌≤◌, ◌<◌}
use native.Mathlib.Omega.{arith}
use mathlib.Core.Path.{◌≡◌, refl, sym, ap, ◌∙◌}
use mathlib.Core.List.{List, [], ◌∷◌, ◌++◌, append_assoc}
use lib.ListN.{length, length-append}
use Rattle.base.specs.Outcome.{Outcome, lent, reported, written_to}
use Rattle.base.proofs.Outcome.{stops_16, keeps, wrote, stands}
use Rattle.base.specs.Splice.{splice, splice_splice}
use Rattle.base.specs.declared.Written.{Written}
use Rattle.base.specs.declared.Written.TheVariants.{Wrote, Stop}
use Rattle.format.specs.Number.{write_number}
use Rattle.format.specs.Range.{kind_number}
use Rattle.format.specs.declared.range.BoundSpan.{BoundSpan}
use Rattle.format.proofs.Layouts.{number_length}
use Rattle.format.specs.declared.span.Supplied.{Supplied}
use Rattle.bytes_range.proofs.RangePut.{at_front}
use Rattle.bilqarush.specs.declared.Point.{Point}
use Rattle.bilqarush.specs.declared.Point.TheVariants.{At, Nothing as NoPoint, Stop as PointStop}
use Rattle.format.specs.declared.span.Joined.{Joined}
use Rattle.format.specs.declared.span.Joined.TheVariants.{Range as Bounds, Nothing, Stop as JoinedStop}
use Rattle.bilqarush.specs.declared.images.ViewRange.{ViewRange}
use Rattle.bilqarush.specs.declared.images.ViewRange.TheVariants.{At as RangeAt, Stop as RangeStop}
use Rattle.told_bytes.specs.Layouts.{side_number, place, bound, supplied, nothing, point_to, joined_to, view_range_to}

-- ---- lengths
place_length : (at len : ℕ) → length (place at len) ≡ 16
place_length at len = length-append (write_number 8 at) (write_number 8 len) ∙ rw (number_length 8 at, number_length 8 len)

bound_length_lem : (b : BoundSpan) → length (bound b) ≡ 17
bound_length_lem b = omega (arith, place_length b.at b.len)

supplied_length : (x : Supplied) → length (supplied x) ≡ 18
supplied_length x = omega (arith, place_length x.bound.at x.bound.len)

-- ---- one piece after another
module _ (d : List ℕ) (to : ℕ) where
  next : {e f : List ℕ} (x y : List ℕ) (n : ℕ) → length x ≡ n → to + n ≤ length d → e ≡ splice d to x → f ≡ splice e (to + n) y → f ≡ splice d to (x ++ y)
  next x y n l h p q =
      q ∙ ap (λ z. splice z (to + n) y) p ∙ splice_splice d to x y (to + n) (ap (λ m. to + m) (sym l)) (omega (arith, l))

  pub place_put :
      {e f : List ℕ} (at len : ℕ)
      → to + 16 ≤ length d
      → e ≡ splice d to (write_number 8 at)
      → f ≡ splice e (to + 8) (write_number 8 len)
      → f ≡ splice d to (place at len)
  place_put at len h p q = next (write_number 8 at) (write_number 8 len) 8 (number_length 8 at) (omega arith) p q

  pub bound_put :
      {e f : List ℕ} (b : BoundSpan) (k : ℕ)
      → to + 17 ≤ length d
      → k ≡ kind_number b.kind
      → e ≡ splice d to (k ∷ [])
      → f ≡ splice e (to + 1) (place b.at b.len)
      → f ≡ splice d to (bound b)
  bound_put b k h t p q =
      next (k ∷ []) (place b.at b.len) 1 refl (omega arith) p q ∙ ap (λ n. splice d to ((n ∷ []) ++ place b.at b.len)) t

  pub supplied_put :
      {c e f : List ℕ} (x : Supplied) (k s : ℕ)
      → to + 18 ≤ length d
      → k ≡ kind_number x.bound.kind
      → s ≡ side_number x.side
      → c ≡ splice d to (k ∷ [])
      → e ≡ splice c (to + 1) (s ∷ [])
      → f ≡ splice e (to + 2) (place x.bound.at x.bound.len)
      → f ≡ splice d to (supplied x)
  supplied_put x k s h t u o p q =
      let both = next (k ∷ []) (s ∷ []) 1 refl (omega arith) o p in
      let l = place x.bound.at x.bound.len in
      next (k ∷ s ∷ []) l 2 refl (omega arith) both q
      ∙ ap (λ n. splice d to ((n ∷ s ∷ []) ++ l)) t
      ∙ ap (λ n. splice d to ((kind_number x.bound.kind ∷ n ∷ []) ++ l)) u

-- ---- an outcome that is bytes, if they fit: n of them
module _ (d b : List ℕ) {o : Outcome (List ℕ)} {n : ℕ} (is : o ≡ written_to (length d) b) (l : n ≡ length b) where
  short : length d < n → Stop 16 ≡ reported o
  short h = stops_16 d b l h ∙ sym (ap reported is)

  short_kept : length d < n → d ≡ lent d o
  short_kept h = keeps d b l h ∙ sym (ap (lent d) is)

  full : n ≤ length d → Wrote n ≡ reported o
  full h = wrote d b l h ∙ sym (ap reported is)

  there : {f : List ℕ} → n ≤ length d → f ≡ splice d 0 b → f ≡ lent d o
  there h q = stands d b l h (at_front d b q) ∙ sym (ap (lent d) is)

-- ---- a point
abbrev point_bytes : ℕ → ℕ → List ℕ
point_bytes at len = (1 ∷ []) ++ place at len

module _ (d : List ℕ) {p : Point} where
  module _ {n : ℕ} (q : p ≡ PointStop n) where
    pub point_refused : Stop n ≡ reported (point_to (length d) p)
    unfolding point_to
    point_refused = rw q

    pub point_refused_kept : d ≡ lent d (point_to (length d) p)
    unfolding point_to
    point_refused_kept = rw q

  module _ (q : p ≡ NoPoint) where
    pub no_point : {w : Written} → w ≡ reported (written_to (length d) nothing) → w ≡ reported (point_to (length d) p)
    unfolding point_to
    no_point x = rw q x

    pub no_point_there : {f : List ℕ} → f ≡ lent d (written_to (length d) nothing) → f ≡ lent d (point_to (length d) p)
    unfolding point_to
    no_point_there x = rw q x

  module _ {at len : ℕ} (q : p ≡ At at len) where
    is : point_to (length d) p ≡ written_to (length d) (point_bytes at len)
    unfolding point_to
    is = rw q

    size : 17 ≡ length (point_bytes at len)
    size = omega (arith, place_length at len)

    pub point_short : length d < 17 → Stop 16 ≡ reported (point_to (length d) p)
    point_short = short d (point_bytes at len) is size

    pub point_short_kept : length d < 17 → d ≡ lent d (point_to (length d) p)
    point_short_kept = short_kept d (point_bytes at len) is size

    pub point_wrote : 17 ≤ length d → Wrote 17 ≡ reported (point_to (length d) p)
    point_wrote = full d (point_bytes at len) is size

    pub point_there : {e f : List ℕ} → 17 ≤ length d → e ≡ splice d 0 (1 ∷ []) → f ≡ splice e 1 (place at len) → f ≡ lent d (point_to (length d) p)
    point_there h x y = there d (point_bytes at len) is size h (next d 0 (1 ∷ []) (place at len) 1 refl (omega arith) x y)

pub ruleset point_exits = (point_refused, point_refused_kept, no_point, no_point_there, point_short, point_short_kept, point_wrote, point_there)

-- ---- a range of which each bound stands in one of two slices
abbrev joined_bytes : Supplied → Supplied → List ℕ
joined_bytes s e = (1 ∷ []) ++ (supplied s ++ supplied e)

module _ (d : List ℕ) {j : Joined} where
  module _ {n : ℕ} (q : j ≡ JoinedStop n) where
    pub joined_refused : Stop n ≡ reported (joined_to (length d) j)
    unfolding joined_to
    joined_refused = rw q

    pub joined_refused_kept : d ≡ lent d (joined_to (length d) j)
    unfolding joined_to
    joined_refused_kept = rw q

  module _ (q : j ≡ Nothing) where
    pub no_range : {w : Written} → w ≡ reported (written_to (length d) nothing) → w ≡ reported (joined_to (length d) j)
    unfolding joined_to
    no_range x = rw q x

    pub no_range_there : {f : List ℕ} → f ≡ lent d (written_to (length d) nothing) → f ≡ lent d (joined_to (length d) j)
    unfolding joined_to
    no_range_there x = rw q x

  module _ {s e : Supplied} (q : j ≡ Bounds s e) where
    is_j : joined_to (length d) j ≡ written_to (length d) (joined_bytes s e)
    unfolding joined_to
    is_j = rw q

    size_j : 37 ≡ length (joined_bytes s e)
    size_j = omega (arith, length-append (supplied s) (supplied e), supplied_length s, supplied_length e)

    pub joined_short : length d < 37 → Stop 16 ≡ reported (joined_to (length d) j)
    joined_short = short d (joined_bytes s e) is_j size_j

    pub joined_short_kept : length d < 37 → d ≡ lent d (joined_to (length d) j)
    joined_short_kept = short_kept d (joined_bytes s e) is_j size_j

    pub joined_wrote : 37 ≤ length d → Wrote 37 ≡ reported (joined_to (length d) j)
    joined_wrote = full d (joined_bytes s e) is_j size_j

    pub joined_there :
        {a b f : List ℕ}
        → 37 ≤ length d
        → a ≡ splice d 0 (1 ∷ [])
        → b ≡ splice a 1 (supplied s)
        → f ≡ splice b 19 (supplied e)
        → f ≡ lent d (joined_to (length d) j)
    joined_there h x y z =
        let first = next d 0 (1 ∷ []) (supplied s) 1 refl (omega arith) x y in
        let all = next d 0 ((1 ∷ []) ++ supplied s) (supplied e) 19 (omega (arith, supplied_length s)) (omega arith) first z in
        there d (joined_bytes s e) is_j size_j h (all ∙ ap (splice d 0) (append_assoc (1 ∷ []) (supplied s) (supplied e)))

pub ruleset joined_exits = (joined_refused, joined_refused_kept, no_range, no_range_there, joined_short, joined_short_kept, joined_wrote, joined_there)

-- ---- the effective range of a view
abbrev view_bytes_lem : BoundSpan → BoundSpan → List ℕ
view_bytes_lem s e = bound s ++ bound e

module _ (d : List ℕ) {v : ViewRange} where
  module _ {n : ℕ} (q : v ≡ RangeStop n) where
    pub view_refused : Stop n ≡ reported (view_range_to (length d) v)
    unfolding view_range_to
    view_refused = rw q

    pub view_refused_kept : d ≡ lent d (view_range_to (length d) v)
    unfolding view_range_to
    view_refused_kept = rw q

  module _ {s e : BoundSpan} (q : v ≡ RangeAt s e) where
    is_v : view_range_to (length d) v ≡ written_to (length d) (view_bytes_lem s e)
    unfolding view_range_to
    is_v = rw q

    size_v : 34 ≡ length (view_bytes_lem s e)
    size_v = omega (arith, length-append (bound s) (bound e), bound_length_lem s, bound_length_lem e)

    pub view_short : length d < 34 → Stop 16 ≡ reported (view_range_to (length d) v)
    view_short = short d (view_bytes_lem s e) is_v size_v

    pub view_short_kept : length d < 34 → d ≡ lent d (view_range_to (length d) v)
    view_short_kept = short_kept d (view_bytes_lem s e) is_v size_v

    pub view_wrote : 34 ≤ length d → Wrote 34 ≡ reported (view_range_to (length d) v)
    view_wrote = full d (view_bytes_lem s e) is_v size_v

    pub view_there : {b f : List ℕ} → 34 ≤ length d → b ≡ splice d 0 (bound s) → f ≡ splice b 17 (bound e) → f ≡ lent d (view_range_to (length d) v)
    view_there h x y = there d (view_bytes_lem s e) is_v size_v h (next d 0 (bound s) (bound e) 17 (bound_length_lem s) (omega arith) x y)

pub ruleset view_exits = (view_refused, view_refused_kept, view_short, view_short_kept, view_wrote, view_there)
