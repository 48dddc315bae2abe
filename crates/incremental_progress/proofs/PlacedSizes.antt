-- Items placed gap by gap between outputs are all there, once: so they weigh together what they weigh apart.
-- Assumes nothing.
use Prim.Native.Nat.{ℕ, suc, ◌+◌, ◌≤◌, ◌<◌}
use native.Mathlib.Omega.{arith}
use mathlib.Core.Path.{◌≡◌, refl, sym, ◌∙◌}
use mathlib.Core.Bool.{Bool, true, false, true≢false}
use mathlib.Core.List.{List, [], ◌∷◌, ◌++◌, flatten}
use lib.ListN.{length}
use lib.Dec.{eqb}
use borrow.Author.Tests.{eq-eqb, ne_eqb, eqb-true}
use Rattle.incremental_progress.specs.Gaps.{Placed, in_gap, by_gap, placed}
use Rattle.base.specs.Lists.{All}

-- what items weigh together
unfoldable pub total : {A : Type 0} → (A → ℕ) → List A → ℕ
total w [] = 0
total w (a ∷ bs) = w a + total w bs

total_append : {A : Type 0} (w : A → ℕ) (xs ys : List A) → total w (xs ++ ys) ≡ total w xs + total w ys
unfolding total
total_append w [] ys = omega arith
total_append w (x ∷ xs) ys = omega (arith, total_append w xs ys)

later : (g k : ℕ) → g ≤ k → eqb k g ≡ false → suc g ≤ k
later g k h e = above (λ z. true≢false (sym (eq-eqb k g z) ∙ e))
  where
    above : (k ≡ g → ⊥) → suc g ≤ k
    above n = omega arith

module _ {A : Type 0} where
  -- an item of an earlier gap is not met again
  before : (g : ℕ) (outs : List (List A)) (p : Placed A) (ps : List (Placed A)) → p.gap < g → by_gap g outs (p ∷ ps) ≡ by_gap g outs ps
  unfolding by_gap in_gap
  before g [] p ps h = rw (ne_eqb p.gap g (λ e. omega arith))
  before g (os ∷ outs) p ps h = rw (ne_eqb p.gap g (λ e. omega arith), before (suc g) outs p ps (omega arith))

  others : (w : A → ℕ) (is os l k : List A) (x : ℕ) → total w l ≡ x + total w k → total w (is ++ (os ++ l)) ≡ x + total w (is ++ (os ++ k))
  others w is os l k x e = rw (total_append w is (os ++ l), total_append w os l, total_append w is (os ++ k), total_append w os k) (omega arith)

  -- one of the gaps from g on has it
  one_placed : (w : A → ℕ) (g : ℕ) (outs : List (List A)) (p : Placed A) (ps : List (Placed A)) → g ≤ p.gap → p.gap ≤ g + length outs
      → total w (by_gap g outs (p ∷ ps)) ≡ w p.item + total w (by_gap g outs ps)
  unfolding total by_gap in_gap
  one_placed w g [] p ps h k = rw (eq-eqb p.gap g (omega arith))
  one_placed w g (os ∷ outs) p ps h k = here (eqb p.gap g) refl (λ l. one_placed w (suc g) outs p ps l (omega arith))
    where
      here : (b : Bool) → eqb p.gap g ≡ b
          → (suc g ≤ p.gap → total w (by_gap (suc g) outs (p ∷ ps)) ≡ w p.item + total w (by_gap (suc g) outs ps))
          → total w (in_gap g (p ∷ ps) ++ (os ++ by_gap (suc g) outs (p ∷ ps))) ≡ w p.item + total w (in_gap g ps ++ (os ++ by_gap (suc g) outs ps))
      here true e f = rw (e, before (suc g) outs p ps (omega (arith, eqb-true p.gap g e)))
      here false e f = rw e (others w (in_gap g ps) os (by_gap (suc g) outs (p ∷ ps)) (by_gap (suc g) outs ps) (w p.item) (f (later g p.gap h e)))

  none_placed : (g : ℕ) (outs : List (List A)) → by_gap g outs [] ≡ flatten outs
  unfolding by_gap in_gap flatten
  none_placed g [] = refl
  none_placed g (os ∷ outs) = rw (none_placed (suc g) outs)

  pub all_placed : (w : A → ℕ) (outs : List (List A)) (ns : List ℕ) (xs : List A) → length ns ≡ length xs → All (λ n. n ≤ length outs) ns
      → total w (by_gap 0 outs (placed ns xs)) ≡ total w xs + total w (flatten outs)
  unfolding placed total
  all_placed w outs [] [] e a = rw (none_placed 0 outs) (omega arith)
  all_placed w outs [] (x ∷ xs) e a = absurd (omega arith)
  all_placed w outs (n ∷ ns) [] e a = absurd (omega arith)
  all_placed w outs (n ∷ ns) (x ∷ xs) e a =
      let one = one_placed w 0 outs (record { gap = n; item = x }) (placed ns xs) (omega arith) (omega (arith, a.0)) in
      omega (arith, one, all_placed w outs ns xs (omega arith) a.1)
