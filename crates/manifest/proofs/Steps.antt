-- One more element in what is checked: the fault of all is the least of the fault so far and the faults of the element.
-- Assumes nothing.
use Prim.Native.Nat.{ℕ, ◌<◌, ◌≤◌, min}
use native.Mathlib.Omega.{arith}
use mathlib.Core.Path.{◌≡◌, refl, sym, ap, ◌∙◌}
use mathlib.Core.Bool.{Bool, true, false, not, ◌&&◌, ◌||◌, and-true, and_assoc, or_assoc, or-false}
use mathlib.Core.List.{List, [], ◌∷◌, ◌++◌, map, map-append}
use lib.Dec.{eqb, ltb}
use borrow.Author.Tests.{eqb-true, eqb-false, eq-eqb, ne_eqb, lt-ltb, le-ltb, ltb-true, ltb-false}
use Rattle.std.specs.List.{list_any}
use Rattle.base.specs.Pick.{pick, and_first, and_second}
use Rattle.base.specs.Outcome.{Outcome, stop}
use Rattle.key.specs.Order.{at_most}
use Rattle.comparable_range.specs.Range.{Bound, unbounded, included, excluded, non_empty, cmp_bound}
use Rattle.records.specs.Values.{Table, View, Run, Image, Part, Job}
use Rattle.manifest.specs.Ranges.{effective}
use Rattle.manifest.specs.Checks.{Checks, checked, joined, all, ascend_from, ascend, starts, has, distinct, image_checks, job_checks}
use Rattle.manifest.specs.Faults.{fault_of, least, ordered, view_checks, views_checks, last_of, not_below, table_checks, tables_checks, parts_checks, planned}

-- ---- the fault of two inputs, computed at all values of the checks
abbrev checks_of : Bool → Bool → Bool → Bool → Checks
checks_of a b c d = record { ranges = a; tables = b; order = c; sizes = d }

abbrev both : (Bool → Bool) → Bool
both p = p true && p false

at_both : (p : Bool → Bool) → both p ≡ true → (b : Bool) → p b ≡ true
at_both p e true = and_first (p true) (p false) e
at_both p e false = and_second (p true) (p false) e

abbrev all_checks : (Checks → Bool) → Bool
all_checks p = both (λ a. both (λ b. both (λ c. both (λ d. p (checks_of a b c d)))))

at_checks : (p : Checks → Bool) → all_checks p ≡ true → (c : Checks) → p c ≡ true
at_checks p e c =
    let e₁ = at_both (λ a. both (λ b. both (λ c. both (λ d. p (checks_of a b c d))))) e c.ranges in
    let e₂ = at_both (λ b. both (λ o. both (λ d. p (checks_of c.ranges b o d)))) e₁ c.tables in
    let e₃ = at_both (λ o. both (λ d. p (checks_of c.ranges c.tables o d))) e₂ c.order in
    at_both (λ d. p (checks_of c.ranges c.tables c.order d)) e₃ c.sizes

abbrev least_is_joined : Checks → Checks → Bool
least_is_joined c d = eqb (least (fault_of c) (fault_of d)) (fault_of (joined c d))

least_table : all_checks (λ c. all_checks (least_is_joined c)) ≡ true
unfolding least fault_of
least_table = refl

pub least_joined : (c d : Checks) → least (fault_of c) (fault_of d) ≡ fault_of (joined c d)
least_joined c d =
    eqb-true _ _ (at_checks (least_is_joined c) (at_checks (λ c. all_checks (least_is_joined c)) least_table c) d)

-- std's `min` is the least
pub min_is_least : (a b : ℕ) → min a b ≡ least a b
unfolding least
min_is_least a b = go (ltb a b) refl
  where
    go : (t : Bool) → ltb a b ≡ t → min a b ≡ pick t a b
    go true e = let h : a < b = ltb-true a b e in omega arith
    go false e = let h : b ≤ a = ltb-false a b e in omega arith

-- ---- what a fault says
module _ {A : Type 0} (c : Checks) (rest : Outcome A) where
  checked_is : checked c rest ≡ pick (ltb (fault_of c) 8) (stop (fault_of c)) rest
  unfolding fault_of
  checked_is = go c.ranges c.tables c.order c.sizes
    where
      go :
          (r t o s : Bool)
          → checked (checks_of r t o s) rest
          ≡ pick (ltb (fault_of (checks_of r t o s)) 8) (stop (fault_of (checks_of r t o s))) rest
      go false t o s = refl
      go true false o s = refl
      go true true false s = refl
      go true true true false = refl
      go true true true true = refl

  pub fault_stops : fault_of c < 8 → checked c rest ≡ stop (fault_of c)
  fault_stops h = checked_is ∙ ap (λ t. pick t (stop (fault_of c)) rest) (lt-ltb (fault_of c) 8 h)

  pub fault_passes : 8 ≤ fault_of c → checked c rest ≡ rest
  fault_passes h = checked_is ∙ ap (λ t. pick t (stop (fault_of c)) rest) (le-ltb (fault_of c) 8 h)

-- ---- one more in a list
pub all_more : {A : Type 0} (p : A → Bool) (seen : List A) (a : A) → all p (seen ++ (a ∷ [])) ≡ (all p seen && p a)
unfolding all
all_more p [] a = and-true (p a)
all_more p (b ∷ seen) a = rw (all_more p seen a) (sym (and_assoc (p b) (all p seen) (p a)))

pub ascend_more :
    (b : Bound) (bs : List Bound) (c : Bound)
    → ascend_from b (bs ++ (c ∷ [])) ≡ (ascend_from b bs && at_most (cmp_bound true (last_of b bs) c))
unfolding ascend_from last_of
ascend_more b [] c = and-true (at_most (cmp_bound true b c))
ascend_more b (a ∷ bs) c = rw (ascend_more a bs c) (sym (and_assoc (at_most (cmp_bound true b a)) (ascend_from a bs) _))

pub last_more : (b : Bound) (bs : List Bound) (c : Bound) → last_of b (bs ++ (c ∷ [])) ≡ c
unfolding last_of
last_more b [] c = refl
last_more b (a ∷ bs) c = last_more a bs c

pub ascend_from_unbounded : (bs : List Bound) → ascend bs ≡ ascend_from unbounded bs
unfolding ascend_from cmp_bound
ascend_from_unbounded [] = refl
ascend_from_unbounded (unbounded ∷ bs) = refl
ascend_from_unbounded (included k ∷ bs) = refl
ascend_from_unbounded (excluded k ∷ bs) = refl

pub has_more : (n : ℕ) (ms : List ℕ) (m : ℕ) → has n (ms ++ (m ∷ [])) ≡ (has n ms || eqb n m)
unfolding has
has_more n [] m = or-false (eqb n m)
has_more n (l ∷ ms) m = rw (has_more n ms m) (sym (or_assoc (eqb n l) (has n ms) (eqb n m)))

eqb_commutes : (m n : ℕ) → eqb m n ≡ eqb n m
eqb_commutes m n = go (eqb n m) refl
  where
    go : (t : Bool) → eqb n m ≡ t → eqb m n ≡ t
    go true e = eq-eqb m n (sym (eqb-true n m e))
    go false e = ne_eqb m n (λ q. eqb-false n m e (sym q))

-- as std's `contains` says it
pub has_is_any : (n : ℕ) (ms : List ℕ) → list_any (λ m. eqb m n) ms ≡ has n ms
unfolding has
has_is_any n [] = refl
has_is_any n (m ∷ ms) = rw (eqb_commutes n m, has_is_any n ms)

pub distinct_more : (ns : List ℕ) (n : ℕ) → distinct (ns ++ (n ∷ [])) ≡ (distinct ns && not (has n ns))
unfolding distinct has
distinct_more [] n = refl
distinct_more (m ∷ ns) n =
    rw (has_more m ns n, distinct_more ns n, eqb_commutes m n) (go (has m ns) (eqb n m) (distinct ns) (has n ns))
  where
    go : (a b c d : Bool) → (not (a || b) && (c && not d)) ≡ ((not a && c) && not (b || d))
    go true b c d = refl
    go false true true d = refl
    go false true false d = refl
    go false false c d = refl

-- ---- a run's views
pub starts_more : (seen : List View) (v : View) → starts (seen ++ (v ∷ [])) ≡ starts seen ++ ((effective v).start ∷ [])
starts_more seen v = map-append (λ v. (effective v).start) seen (v ∷ [])

pub views_none : fault_of (views_checks []) ≡ 8
unfolding fault_of views_checks all ascend_from
views_none = refl

pub views_more :
    (seen : List View) (v : View)
    → fault_of (views_checks (seen ++ (v ∷ [])))
    ≡ least (fault_of (views_checks seen))
    (least (fault_of (view_checks v)) (fault_of (not_below (last_of unbounded (starts seen)) v)))
unfolding views_checks view_checks
views_more seen v = simp (least_joined, starts_more, all_more, ascend_more, and-true)

-- ---- an image's runs
pub image_none : fault_of (image_checks []) ≡ 8
unfolding fault_of image_checks all distinct
image_none = refl

swap_middle : (a b c d : Bool) → ((a && b) && (c && d)) ≡ ((a && c) && (b && d))
swap_middle false b c d = refl
swap_middle true false false d = refl
swap_middle true false true d = refl
swap_middle true true c d = refl

pub image_more :
    (seen : Image) (r : Run)
    → fault_of (image_checks (seen ++ (r ∷ [])))
    ≡ least (fault_of (image_checks seen))
    (least (fault_of (views_checks r.views)) (fault_of (ordered (not (has r.id (map (λ r. r.id) seen))))))
unfolding image_checks views_checks
image_more seen r =
    simp (least_joined, all_more, map-append, distinct_more, ascend_from_unbounded, and-true)
    (rw (swap_middle _ (ascend_from unbounded (starts r.views))))

-- ---- a job's tables and parts
pub tables_none : fault_of (tables_checks []) ≡ 8
unfolding fault_of tables_checks all
tables_none = refl

pub tables_more :
    (seen : List Table) (t : Table)
    → fault_of (tables_checks (seen ++ (t ∷ []))) ≡ least (fault_of (tables_checks seen)) (fault_of (table_checks t))
unfolding tables_checks table_checks
tables_more seen t = simp (least_joined, all_more)

pub parts_none : fault_of (parts_checks []) ≡ 8
unfolding fault_of parts_checks all
parts_none = refl

pub parts_more :
    (seen : List Part) (p : Part)
    → fault_of (parts_checks (seen ++ (p ∷ [])))
    ≡ least (fault_of (parts_checks seen))
    (least (fault_of (planned (non_empty p.planned))) (fault_of (tables_checks p.outputs)))
unfolding parts_checks tables_checks
parts_more seen p = simp (least_joined, all_more, and-true)

pub job_parts : (j : Job) → job_checks j ≡ parts_checks j.parts
unfolding job_checks parts_checks
job_parts j = refl
