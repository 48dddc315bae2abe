-- What is kept of a prefix, and what each case of `end_size` makes of it.
-- Assumes nothing.
use Prim.Native.Nat.{ℕ, zero, suc, ◌+◌, ◌-◌, ◌≤◌}
use native.Mathlib.Omega.{arith}
use native.Mathlib.Nat.{le_refl}
use mathlib.Core.Path.{◌≡◌, refl, sym, ◌∙◌, ap}
use mathlib.Core.Bool.{Bool, true, false}
use mathlib.Core.Option.{some}
use mathlib.Core.List.{List, [], ◌∷◌, ◌++◌}
use lib.ListN.{length, get_or, take, length-append}
use lib.Seq.{length-take-le}
use lib.Dec.{eqb}
use mir.Val.{Fits}
use mir.Syntax.{w64}
use borrow.Author.Tests.{ne_eqb, eqb-false, leb-true}
use Rattle.base.specs.Pick.{pick}
use Rattle.key.specs.Order.{Key}
use Rattle.comparable_range.specs.Range.{Bound, unbounded, included, excluded, bound_of}
use Rattle.comparable_range.specs.declared.Kind.{Kind}
use Rattle.comparable_range.specs.declared.Kind.TheVariants.{Unbounded, Included, Excluded}
use Rattle.format.specs.Key.{write_key}
use Rattle.format.specs.Range.{write_bound}
use Rattle.format.proofs.Layouts.{key_length}
use Rattle.bytes_range.specs.Prefix.{kept_of, raised, next_prefix, join_end}
use Rattle.bytes_range.specs.Writing.{kept_for, joins_within}

-- ---- kept: n is 0 or one more
pub none_left : (p : List ℕ) {n : ℕ} → n ≡ 0 → 0 ≡ kept_of p n
unfolding kept_of
none_left p e = rw e

pub fewer_left : (p : List ℕ) (m n : ℕ) {r : ℕ} → kept_of p m ≡ kept_of p n → r ≡ kept_of p m → r ≡ kept_of p n
fewer_left p m n e q = q ∙ e

pub kept_here : (p : List ℕ) (n : ℕ) → (n ≡ 0 → ⊥) → (get_or p (n - 1) 0 ≡ 255 → ⊥) → n ≡ kept_of p n
unfolding kept_of
kept_here p zero h e = absurd (h refl)
kept_here p (suc m) h e =
    let z : suc m - 1 ≡ m = omega arith in
    rw (ne_eqb _ _ (rw z at e))

pub ruleset kept_exits = (none_left, fewer_left, kept_here)

-- what the answer of `kept_for` says of an unbounded end
pub kept_free : (p : Key) (k : Kind) {n : ℕ} → k ≡ Unbounded → n ≡ kept_for k p → n ≡ kept_of p (length p)
unfolding kept_for
kept_free p k h q = rw h at q

-- what is kept is within the prefix, and its last byte is not FF
pub kept_le : (p : List ℕ) (n : ℕ) → kept_of p n ≤ n
unfolding kept_of
kept_le p zero = le_refl 0
kept_le p (suc n) = by_test (eqb (get_or p n 0) 255) (kept_le p n)
  where
    by_test : (t : Bool) → kept_of p n ≤ n → pick t (kept_of p n) (suc n) ≤ suc n
    by_test true k = omega arith
    by_test false k = le_refl (suc n)

pub kept_last : (p : List ℕ) (n m : ℕ) → suc m ≡ kept_of p n → get_or p m 0 ≡ 255 → ⊥
unfolding kept_of
kept_last p zero m e q = omega arith
kept_last p (suc n) m e q = by_test (eqb (get_or p n 0) 255) refl e (λ r. kept_last p n m r q)
  where
    by_test : (t : Bool) → eqb (get_or p n 0) 255 ≡ t → suc m ≡ pick t (kept_of p n) (suc n) → (suc m ≡ kept_of p n → ⊥) → ⊥
    by_test true w r k = k r
    by_test false w r k = let z : m ≡ n = omega arith in eqb-false (get_or p n 0) 255 w (rw z at q)

-- ---- the joined end
raised_is : (p : Key) (n : ℕ) → (n ≡ 0 → ⊥) → raised p n ≡ some (take (n - 1) p ++ ((get_or p (n - 1) 0 + 1) ∷ []))
unfolding raised
raised_is p zero h = absurd (h refl)
raised_is p (suc m) h = let z : suc m - 1 ≡ m = omega arith in rw z

module _ (p e : Key) {k : Kind} where
  pub end_free : {n : ℕ} → k ≡ Unbounded → n ≡ kept_of p (length p) → n ≡ 0 → join_end p (bound_of k e) ≡ unbounded
  unfolding join_end next_prefix raised
  end_free h q z = rw (h, ← q, z)

  pub end_in : k ≡ Included → join_end p (bound_of k e) ≡ included (p ++ e)
  unfolding join_end
  end_in h = rw h

  pub end_ex : k ≡ Excluded → join_end p (bound_of k e) ≡ excluded (p ++ e)
  unfolding join_end
  end_ex h = rw h

pub end_next : (p : Key) {n : ℕ} → n ≡ kept_of p (length p) → (n ≡ 0 → ⊥) → join_end p unbounded ≡ excluded (take (n - 1) p ++ ((get_or p (n - 1) 0 + 1) ∷ []))
unfolding join_end next_prefix
end_next p {n} q z = rw (← q, raised_is p n z)

-- a bound without a key, or with one, as it is written
pub written_none : (b : Bound) → b ≡ unbounded → write_bound b ≡ []
unfolding write_bound
written_none b e = rw e

pub written_in : (b : Bound) (k : Key) → b ≡ included k → write_bound b ≡ write_key k
unfolding write_bound
written_in b k e = rw e

pub written_ex : (b : Bound) (k : Key) → b ≡ excluded k → write_bound b ≡ write_key k
unfolding write_bound
written_ex b k e = rw e

size_joined : (p s : Key) → length (write_key (p ++ s)) ≡ 2 + length p + length s
size_joined p s = key_length (p ++ s) ∙ rw length-append (omega arith)

-- ---- end_size
module _ (p e : Key) {k : Kind} where
  module _ (h : k ≡ Unbounded) {n : ℕ} (f : n ≡ kept_for k p) where
    counted : n ≡ kept_of p (length p)
    counted = kept_free p k h f

    next_end : (n ≡ 0 → ⊥) → join_end p (bound_of k e) ≡ excluded (take (n - 1) p ++ ((get_or p (n - 1) 0 + 1) ∷ []))
    next_end z = rw h (end_next p counted z)

    pub end_size_free : n ≡ 0 → 0 ≡ length (write_bound (join_end p (bound_of k e)))
    end_size_free z = sym (ap length (written_none _ (end_free p e h counted z)))

    pub end_size_next : (n ≡ 0 → ⊥) → 2 + n ≡ length (write_bound (join_end p (bound_of k e)))
    end_size_next z =
        sym (ap length (written_ex _ _ (next_end z))
        ∙ size_joined (take (n - 1) p) ((get_or p (n - 1) 0 + 1) ∷ [])
        ∙ rw (length-take-le (n - 1) p (omega (arith, counted, kept_le p (length p)))) (omega (arith, z)))

    pub kept_fits : length p ≤ 1024 → Fits w64 (2 + n)
    kept_fits l = omega (arith, counted, kept_le p (length p))

    pub kept_short : length p ≤ 1024 → 2 + n ≤ 1026
    kept_short l = omega (arith, counted, kept_le p (length p))

  pub end_size_in : k ≡ Included → 2 + length p + length e ≡ length (write_bound (join_end p (bound_of k e)))
  end_size_in h = sym (ap length (written_in _ (p ++ e) (end_in p e h)) ∙ size_joined p e)

  pub end_size_ex : k ≡ Excluded → 2 + length p + length e ≡ length (write_bound (join_end p (bound_of k e)))
  end_size_ex h = sym (ap length (written_ex _ (p ++ e) (end_ex p e h)) ∙ size_joined p e)

module _ (p s : Key) {k : Kind} where
  joined_in : k ≡ Included → joins_within p (bound_of k s) ≡ true → length p + length s ≤ 1024
  unfolding joins_within
  joined_in h w = leb-true (length p + length s) 1024 (rw h at w)

  joined_ex : k ≡ Excluded → joins_within p (bound_of k s) ≡ true → length p + length s ≤ 1024
  unfolding joins_within
  joined_ex h w = leb-true (length p + length s) 1024 (rw h at w)

  pub fits_in : k ≡ Included → joins_within p (bound_of k s) ≡ true → Fits w64 (2 + length p + length s)
  fits_in h w = omega (arith, joined_in h w)

  pub fits_ex : k ≡ Excluded → joins_within p (bound_of k s) ≡ true → Fits w64 (2 + length p + length s)
  fits_ex h w = omega (arith, joined_ex h w)

  pub small_in : k ≡ Included → joins_within p (bound_of k s) ≡ true → 2 + length p + length s ≤ 1026
  small_in h w = omega (arith, joined_in h w)

  pub small_ex : k ≡ Excluded → joins_within p (bound_of k s) ≡ true → 2 + length p + length s ≤ 1026
  small_ex h w = omega (arith, joined_ex h w)

pub ruleset end_exits = (end_size_free, end_size_next, kept_fits, kept_short, end_size_in, end_size_ex, fits_in, fits_ex, small_in, small_ex)
