-- The comparisons with their arguments exchanged.
-- Assumes nothing.
use Prim.Native.Nat.{ℕ}
use native.Mathlib.Omega.{arith}
use mathlib.Core.Path.{◌≡◌, refl, sym, ap, ◌∙◌}
use lib.IntN.{ℤ, neg_ℤ}
use Rattle.base.specs.Outcome.{Outcome, stop, answer, and_then}
use Rattle.key.specs.Order.{cmp_key, sign}
use Rattle.key.proofs.Linear.{sign_swap, key_order_is_total}
use Rattle.comparable_range.specs.Range.{cmp_bound}
use Rattle.comparable_range.proofs.ByCuts.{cmp_bound_negates}
use Rattle.format.specs.Whole.{key_given}
use Rattle.format.specs.Given.{bound_given}
use Rattle.bilqarush.specs.Calls.{compare_outcome, cmp_bound_outcome}
use Rattle.bilqarush.specs.Exchange.{Exchanged, CompareExchanged, CmpBoundExchanged}

no_answer : {A : Type 0} {B : Type 0} {n : ℕ} {a : A} → stop n ≡ answer a → B
no_answer e = absurd (let z : ◌≡◌ {A = ℕ} 0 1 = cc in omega arith)

-- the number of a stop is that of any other outcome's
same_number : {A B : Type 0} {m n : ℕ} → ◌≡◌ {A = Outcome A} (stop m) (stop n) → ◌≡◌ {A = Outcome B} (stop m) (stop n)
same_number {m = m} {n = n} e = let x : m ≡ n = cc in ap stop x

-- two values given, and their comparison as a number
abbrev compared : {A : Type 0} → (A → A → ℤ) → Outcome A → Outcome A → Outcome ℤ
compared f x y = and_then x (λ a. and_then y (λ b. answer (f a b)))

exchanged : {A : Type 0} (f : A → A → ℤ) → ((a b : A) → f b a ≡ neg_ℤ (f a b)) → (x y : Outcome A) → Exchanged x y (compared f x y) (compared f y x)
exchanged f neg (stop m) (stop n) =
    record {
      negates = λ z e. no_answer e;
      alike = refl;
      answers = λ a b e q. no_answer e;
      one = λ k b e q. no_answer q;
      both = λ k l e q. (same_number e, same_number q);
    }
exchanged f neg (stop m) (answer b) =
    record {
      negates = λ z e. no_answer e;
      alike = refl;
      answers = λ a c e q. no_answer e;
      one = λ k c e q. (same_number e, same_number e);
      both = λ k l e q. no_answer (sym q);
    }
exchanged f neg (answer a) (stop n) =
    record {
      negates = λ z e. no_answer e;
      alike = refl;
      answers = λ c b e q. no_answer q;
      one = λ k b e q. no_answer q;
      both = λ k l e q. no_answer (sym e);
    }
exchanged f neg (answer a) (answer b) =
    record {
      negates = λ z e. let x : f a b ≡ z = cc in rw (neg a b, x);
      alike = refl;
      answers = λ c d e q. refl;
      one = λ k c e q. no_answer (sym e);
      both = λ k l e q. no_answer (sym e);
    }

pub compare_exchanged : CompareExchanged
unfolding compare_outcome
compare_exchanged a b =
    exchanged (λ j k. sign (cmp_key j k)) (λ j k. ap sign (key_order_is_total.swaps j k) ∙ sign_swap (cmp_key j k)) (key_given a) (key_given b)

pub cmp_bound_exchanged : CmpBoundExchanged
unfolding cmp_bound_outcome
cmp_bound_exchanged ka a kb b start =
    exchanged (λ x y. sign (cmp_bound start x y)) (cmp_bound_negates start) (bound_given ka a) (bound_given kb b)
