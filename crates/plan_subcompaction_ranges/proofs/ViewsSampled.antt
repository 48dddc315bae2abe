-- What one more view adds to what was sampled: its index image after the others, its anchors after the others.
-- Assumes nothing.
use Prim.Native.Nat.{ℕ, zero, suc, ◌+◌, ◌<◌, max, min}
use native.Mathlib.Omega.{arith}
use native.Mathlib.Nat.{zero-add, suc-add}
use native.Mathlib.Nat.{max_comm}
use mathlib.Core.Path.{◌≡◌, refl, sym, ap, ◌∙◌}
use mathlib.Core.Bool.{Bool, true, false}
use mathlib.Core.List.{List, [], ◌∷◌, ◌++◌, append_assoc, append-nil}
use lib.ListN.{length, length-append}
use lib.Dec.{ltb}
use Rattle.base.specs.Pick.{pick}
use borrow.Author.Tests.{le-ltb, ltb-true, ltb-false}
use Rattle.format.specs.Got.{Got, got, stop, and_then}
use Rattle.records.specs.Form.{read_many}
use Rattle.records.specs.Values.{View, Index}
use Rattle.records.specs.Layouts.{index}
use Rattle.records.proofs.Many.{after}
use Rattle.manifest.specs.Ranges.{effective}
use Rattle.manifest.specs.Checks.{all, index_checks}
use Rattle.manifest.specs.Faults.{fault_of, least, ordered}
use Rattle.manifest.proofs.AnchorExits.{by_test}
use Rattle.manifest.proofs.Steps.{least_joined, all_more}
use Rattle.subcompaction.specs.Anchors.{sample_anchors}
use Rattle.subcompaction.specs.PlanCalls.{sampled}
use Rattle.plan_subcompaction_ranges.specs.Walks.{indexes_read, passing_size, largest_passing}

-- ---- the index images of more views
after_got : {A : Type 0} (a : A) (g : Got (List A)) (f : List A → List ℕ → Got (List A)) (h : List A → List ℕ → Got (List A)) → ((bs : List A) (r : List ℕ) → and_then (f bs r) (λ cs q. got (a ∷ cs) q) ≡ h (a ∷ bs) r) → and_then (and_then g f) (λ bs q. got (a ∷ bs) q) ≡ and_then (and_then g (λ bs q. got (a ∷ bs) q)) h
after_got a (got bs r) f h e = e bs r
after_got a (stop k) f h e = refl

after_cons : {A : Type 0} (a : A) (bs : List A) (g : Got (List A)) → and_then (after bs g) (λ cs q. got (a ∷ cs) q) ≡ after (a ∷ bs) g
after_cons a bs (got cs r) = refl
after_cons a bs (stop k) = refl

after_nil : {A : Type 0} (g : Got (List A)) → g ≡ after [] g
after_nil (got bs r) = refl
after_nil (stop k) = refl

-- the first m of m + n values, and the n after these
pub read_sum : {A : Type 0} (f : List ℕ → Got A) (m n : ℕ) (l : List ℕ) → read_many f (m + n) l ≡ and_then (read_many f m l) (λ bs r. after bs (read_many f n r))
unfolding read_many
read_sum f zero n l = rw zero-add (after_nil (read_many f n l))
read_sum {A} f (suc m) n l = rw suc-add (go (f l) (read_sum f m n))
  where
    go : (g : Got A) → ((r : List ℕ) → read_many f (m + n) r ≡ and_then (read_many f m r) (λ bs q. after bs (read_many f n q))) → and_then g (λ a r. and_then (read_many f (m + n) r) (λ bs q. got (a ∷ bs) q)) ≡ and_then (and_then g (λ a r. and_then (read_many f m r) (λ bs q. got (a ∷ bs) q))) (λ bs r. after bs (read_many f n r))
    go (stop k) e = refl
    go (got a r) e =
        ap (λ g. and_then g (λ bs q. got (a ∷ bs) q)) (e r)
        ∙ after_got a (read_many f m r) (λ bs q. after bs (read_many f n q)) (λ bs q. after bs (read_many f n q)) (λ bs q. after_cons a bs (read_many f n q))

module _ (m : List ℕ) (vs ws : List View) where
  pub indexes_more : indexes_read m (vs ++ ws) ≡ and_then (indexes_read m vs) (λ xs r. after xs (read_many index.read (length ws) r))
  indexes_more = rw length-append (read_sum index.read (length vs) (length ws) m)

  -- what stops, stops with more views too
  pub stops_with_more : {k : ℕ} → indexes_read m vs ≡ stop k → indexes_read m (vs ++ ws) ≡ stop k
  stops_with_more e = indexes_more ∙ rw e

-- ---- the anchors of more views
pub sampled_more :
    (vs : List View) (xs : List Index) (v : View) (x : Index)
    → length xs ≡ length vs
    → sampled (vs ++ (v ∷ [])) (xs ++ (x ∷ [])) ≡ sampled vs xs ++ sample_anchors 128 v.table.filter_offset x (effective v)
unfolding sampled
sampled_more [] [] v x e = append-nil (sample_anchors 128 v.table.filter_offset x (effective v))
sampled_more [] (y ∷ xs) v x e = absurd (omega arith)
sampled_more (u ∷ vs) [] v x e = absurd (omega arith)
sampled_more (u ∷ vs) (y ∷ xs) v x e =
    ap (λ l. sample_anchors 128 u.table.filter_offset y (effective u) ++ l) (sampled_more vs xs v x (omega arith))
    ∙ sym (append_assoc (sample_anchors 128 u.table.filter_offset y (effective u)) (sampled vs xs) _)

-- ---- a total that stops at a limit
module _ (limit t : ℕ) where
  pub least_tests : ltb (least t limit) limit ≡ ltb t limit
  least_tests = by_test limit t (λ x. ltb x limit ≡ ltb t limit) (λ h. refl) (λ h. le-ltb limit limit (omega arith) ∙ sym (le-ltb t limit h))

  pub below_limit : t < limit → least t limit ≡ t
  below_limit k = by_test limit t (λ x. x ≡ t) (λ h. refl) (λ h. absurd (omega arith))

-- ---- the largest size
max_assoc : (a b c : ℕ) → max a (max b c) ≡ max (max a b) c
max_assoc a b c = omega arith

pub largest_more :
    (vs : List View) (v : View)
    → largest_passing (vs ++ (v ∷ []))
    ≡ max (largest_passing vs) (passing_size v.table.index_offset v.table.index_len)
unfolding largest_passing
largest_more [] v = max_comm _ 0
largest_more (u ∷ vs) v =
    ap (max (passing_size u.table.index_offset u.table.index_len)) (largest_more vs v)
    ∙ max_assoc _ (largest_passing vs) _

-- ---- one view more
pub order_more :
    (xs : List Index) (x : Index)
    → least (fault_of (ordered (all (λ y. (index_checks y).order) xs))) (fault_of (index_checks x))
    ≡ fault_of (ordered (all (λ y. (index_checks y).order) (xs ++ (x ∷ []))))
unfolding index_checks
order_more xs x = rw (all_more (λ y. (index_checks y).order) xs x) (least_joined (ordered (all (λ y. (index_checks y).order) xs)) (index_checks x))

pub min_least : (a b : ℕ) → min a b ≡ least a b
unfolding least
min_least a b = go (ltb a b) refl
  where
    go : (t : Bool) → ltb a b ≡ t → min a b ≡ pick t a b
    go true e = omega (arith, ltb-true a b e)
    go false e = omega (arith, ltb-false a b e)
