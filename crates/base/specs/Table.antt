-- A rule that is computed for each number below a bound, but for some that are listed.
use Rattle.std.specs.Prelude.{ℕ, zero, suc, ◌<◌, ◌≡◌, List, [], ◌∷◌, Bool, true, false, ◌&&◌, ◌||◌, T, eqb}
use Rattle.std.proofs.Common.{not-suc-le-zero, le_of_suc-le-suc, eq-or-lt_of_le, sym, subst, ⊎_elim, eqb→eq}

-- what an arm of ranges knows: its number is none of the single numbers of the other arms, the last first
abbrev pub NoneOf : ℕ → List ℕ → Type 0
NoneOf b [] = Unit
NoneOf b (k ∷ ks) = NoneOf b ks × (b ≡ k → ⊥)

abbrev pub unless : ℕ → List ℕ → Bool → Bool
unless b [] t = t
unless b (k ∷ ks) t = eqb b k || unless b ks t

abbrev pub all_below : (ℕ → Bool) → ℕ → Bool
all_below p zero = true
all_below p (suc n) = p n && all_below p n

or_false : (s t : Bool) → (T s → ⊥) → T (s || t) → T t
or_false true t h w = absurd (h tt)
or_false false t h w = w

and_both : (s t : Bool) → T (s && t) → T s × T t
and_both true t w = (tt, w)
and_both false t w = absurd w

pub below_all : (p : ℕ → Bool) (n : ℕ) → T (all_below p n) → (b : ℕ) → b < n → T (p b)
below_all p zero w b h = absurd (not-suc-le-zero h)
below_all p (suc n) w b h =
    let s = and_both (p n) (all_below p n) w in
    ⊎_elim (λ e. subst (λ (m : ℕ). T (p m)) (sym e) s.0) (λ l. below_all p n s.1 b l) (eq-or-lt_of_le (le_of_suc-le-suc h))

unless_none : (b : ℕ) (ks : List ℕ) (t : Bool) → NoneOf b ks → T (unless b ks t) → T t
unless_none b [] t h w = w
unless_none b (k ∷ ks) t h w =
    unless_none b ks t h.0 (or_false (eqb b k) (unless b ks t) (λ e. h.1 (eqb→eq b k e)) w)

pub ruled : (p : ℕ → Bool) (ks : List ℕ) (n : ℕ) → T (all_below (λ b. unless b ks (p b)) n) → (b : ℕ) → b < n → NoneOf b ks → T (p b)
ruled p ks n w b h r = unless_none b ks (p b) r (below_all (λ b. unless b ks (p b)) n w b h)
