-- Bounds and ranges by cuts: at each pair of kinds, the definition and the order of cuts compute to the same of the order of
-- the two keys.
-- Assumes nothing.
use mathlib.Core.Path.{◌≡◌, refl, sym, ap, ◌∙◌}
use mathlib.Core.Bool.{Bool, true, false, not, ◌&&◌}
use Rattle.base.specs.Pick.{pick}
use Rattle.key.specs.Order.{Key, cmp_key, cmp_number, or_else, at_most, is_less}
use Rattle.std.specs.declared.cmp.Ordering.{Ordering}
use Rattle.std.specs.declared.cmp.Ordering.TheVariants.{Less, Equal, Greater}
use Rattle.key.proofs.Linear.{or_else_end, sign_swap}
use Rattle.comparable_range.specs.declared.Side.TheVariants.{First, Second}
use Rattle.comparable_range.specs.Range.{Bound, unbounded, included, excluded, Range, of, cmp_bound, bounds_pass, start_holds, end_holds, holds, start_side, end_side, greater_end_side}
use Rattle.comparable_range.specs.Cut.{Cut, below, before, after, above, cmp_cut, cut_at_most, cut_below, ◌≼◌, ◌≺◌, later, sooner, start_cut, end_cut, bound_cut}
use Rattle.comparable_range.specs.Laws.{CmpBoundNegates, CmpBoundByCuts, NonEmptyByCuts, HoldsByCuts}
use Rattle.comparable_range.proofs.Cut.{cut_order_is_total, cut_below_not}

-- ---- the order of bounds
pub cmp_start : (a b : Bound) → cmp_bound true a b ≡ cmp_cut (start_cut a) (start_cut b)
unfolding cmp_bound cmp_cut cmp_number cmp_key
cmp_start unbounded unbounded = refl
cmp_start unbounded (included b) = refl
cmp_start unbounded (excluded b) = refl
cmp_start (included a) unbounded = refl
cmp_start (included a) (included b) = sym (or_else_end (cmp_key a b))
cmp_start (included a) (excluded b) = refl
cmp_start (excluded a) unbounded = refl
cmp_start (excluded a) (included b) = refl
cmp_start (excluded a) (excluded b) = sym (or_else_end (cmp_key a b))

pub cmp_end : (a b : Bound) → cmp_bound false a b ≡ cmp_cut (end_cut a) (end_cut b)
unfolding cmp_bound cmp_cut cmp_number cmp_key
cmp_end unbounded unbounded = refl
cmp_end unbounded (included b) = refl
cmp_end unbounded (excluded b) = refl
cmp_end (included a) unbounded = refl
cmp_end (included a) (included b) = sym (or_else_end (cmp_key a b))
cmp_end (included a) (excluded b) = refl
cmp_end (excluded a) unbounded = refl
cmp_end (excluded a) (included b) = refl
cmp_end (excluded a) (excluded b) = sym (or_else_end (cmp_key a b))

pub cmp_bound_by_cuts : CmpBoundByCuts
cmp_bound_by_cuts true a b = cmp_start a b
cmp_bound_by_cuts false a b = cmp_end a b

pub cmp_bound_negates : CmpBoundNegates
cmp_bound_negates start a b =
    let c = bound_cut start a in
    let d = bound_cut start b in
    rw (cmp_bound_by_cuts start b a, cmp_bound_by_cuts start a b, cut_order_is_total.swaps c d) (sign_swap (cmp_cut c d))

-- ---- the test
less_tie : (o : Ordering) → at_most o ≡ is_less (or_else o Less)
less_tie Less = refl
less_tie Equal = refl
less_tie Greater = refl

greater_tie : (o : Ordering) → is_less o ≡ is_less (or_else o Greater)
greater_tie Less = refl
greater_tie Equal = refl
greater_tie Greater = refl

pub passes_by_cuts : (s e : Bound) → bounds_pass s e ≡ cut_below (start_cut s) (end_cut e)
unfolding bounds_pass cut_below cmp_cut cmp_number cmp_key
passes_by_cuts unbounded unbounded = refl
passes_by_cuts unbounded (included b) = refl
passes_by_cuts unbounded (excluded b) = refl
passes_by_cuts (included a) unbounded = refl
passes_by_cuts (included a) (included b) = less_tie (cmp_key a b)
passes_by_cuts (included a) (excluded b) = rw (or_else_end (cmp_key a b))
passes_by_cuts (excluded a) unbounded = refl
passes_by_cuts (excluded a) (included b) = rw (or_else_end (cmp_key a b))
passes_by_cuts (excluded a) (excluded b) = greater_tie (cmp_key a b)

pub non_empty_by_cuts : NonEmptyByCuts
non_empty_by_cuts r = passes_by_cuts r.start r.end

-- ---- the keys held
strict : (o : Ordering) → is_less o ≡ at_most (or_else o Greater)
strict Less = refl
strict Equal = refl
strict Greater = refl

pub start_holds_by_cuts : (s : Bound) (x : Key) → start_holds s x ≡ cut_at_most (start_cut s) (before x)
unfolding start_holds cut_at_most cmp_cut cmp_number
start_holds_by_cuts unbounded x = refl
start_holds_by_cuts (included a) x = rw (or_else_end (cmp_key a x))
start_holds_by_cuts (excluded a) x = strict (cmp_key a x)

pub end_holds_by_cuts : (e : Bound) (x : Key) → end_holds e x ≡ cut_at_most (after x) (end_cut e)
unfolding end_holds cut_at_most cmp_cut cmp_number
end_holds_by_cuts unbounded x = refl
end_holds_by_cuts (included b) x = rw (or_else_end (cmp_key x b))
end_holds_by_cuts (excluded b) x = strict (cmp_key x b)

pub holds_by_cuts : HoldsByCuts
unfolding holds
holds_by_cuts r x = simp (start_holds_by_cuts, end_holds_by_cuts)

-- ---- cuts tell bounds apart
start_of : Cut → Bound
start_of below = unbounded
start_of (before k) = included k
start_of (after k) = excluded k
start_of above = unbounded

end_of : Cut → Bound
end_of below = unbounded
end_of (before k) = excluded k
end_of (after k) = included k
end_of above = unbounded

start_back : (b : Bound) → start_of (start_cut b) ≡ b
unfolding start_of
start_back unbounded = refl
start_back (included k) = refl
start_back (excluded k) = refl

end_back : (b : Bound) → end_of (end_cut b) ≡ b
unfolding end_of
end_back unbounded = refl
end_back (included k) = refl
end_back (excluded k) = refl

pub start_injective : {a b : Bound} → start_cut a ≡ start_cut b → a ≡ b
start_injective {a} {b} e = sym (start_back a) ∙ ap start_of e ∙ start_back b

pub end_injective : {a b : Bound} → end_cut a ≡ end_cut b → a ≡ b
end_injective {a} {b} e = sym (end_back a) ∙ ap end_of e ∙ end_back b

-- ---- the chosen bounds: the later start, the sooner and the later end
pub start_side_cut : (a b : Bound) → start_cut (of (start_side a b) a b) ≡ later (start_cut a) (start_cut b)
unfolding start_side later cut_at_most
start_side_cut a b = rw cmp_start (go (at_most (cmp_cut (start_cut a) (start_cut b))))
  where
    go : (t : Bool) → start_cut (of (pick t Second First) a b) ≡ pick t (start_cut b) (start_cut a)
    go true = refl
    go false = refl

pub end_side_cut : (a b : Bound) → end_cut (of (end_side a b) a b) ≡ sooner (end_cut a) (end_cut b)
unfolding end_side sooner cut_at_most
end_side_cut a b = rw cmp_end (go (at_most (cmp_cut (end_cut a) (end_cut b))))
  where
    go : (t : Bool) → end_cut (of (pick t First Second) a b) ≡ pick t (end_cut a) (end_cut b)
    go true = refl
    go false = refl

pub greater_end_cut : (a b : Bound) → end_cut (of (greater_end_side a b) a b) ≡ later (end_cut a) (end_cut b)
unfolding greater_end_side later cut_at_most
greater_end_cut a b = rw cmp_end (go (at_most (cmp_cut (end_cut a) (end_cut b))))
  where
    go : (t : Bool) → end_cut (of (pick t Second First) a b) ≡ pick t (end_cut b) (end_cut a)
    go true = refl
    go false = refl

-- ---- the tests as statements
off : (t : Bool) → not t ≡ true → t ≡ false
off true e = sym e
off false e = refl

on : (t : Bool) → not t ≡ false → t ≡ true
on true e = refl
on false e = sym e

pub ≺-of-below : {c d : Cut} → cut_below c d ≡ true → c ≺ d
≺-of-below {c} {d} h = record { fails = off _ (sym (cut_below_not c d) ∙ h) }

pub ≼-of-not-below : {c d : Cut} → cut_below c d ≡ false → d ≼ c
≼-of-not-below {c} {d} h = record { holds = on _ (sym (cut_below_not c d) ∙ h) }

pub below-of-≺ : {c d : Cut} → c ≺ d → cut_below c d ≡ true
below-of-≺ {c} {d} h = rw (cut_below_not c d, h.fails)

pub not-below-of-≼ : {c d : Cut} → d ≼ c → cut_below c d ≡ false
not-below-of-≼ {c} {d} h = rw (cut_below_not c d, h.holds)

pub passes-≺ : (s e : Bound) → bounds_pass s e ≡ true → start_cut s ≺ end_cut e
passes-≺ s e h = ≺-of-below (sym (passes_by_cuts s e) ∙ h)

pub ≺-passes : (s e : Bound) → start_cut s ≺ end_cut e → bounds_pass s e ≡ true
≺-passes s e h = passes_by_cuts s e ∙ below-of-≺ h

pub fails-≼ : (s e : Bound) → bounds_pass s e ≡ false → end_cut e ≼ start_cut s
fails-≼ s e h = ≼-of-not-below (sym (passes_by_cuts s e) ∙ h)

both : (s t : Bool) → (s && t) ≡ true → (s ≡ true) × (t ≡ true)
both true t e = (refl, e)
both false t e = (e, cc)

pub held_parts : (r : Range) (x : Key) → holds r x ≡ true → (start_cut r.start ≼ before x) × (after x ≼ end_cut r.end)
held_parts r x h = let p = both _ _ (sym (holds_by_cuts r x) ∙ h) in (record { holds = p.0 }, record { holds = p.1 })

pub held_by_parts : (r : Range) (x : Key) → start_cut r.start ≼ before x → after x ≼ end_cut r.end → holds r x ≡ true
held_by_parts r x s e = rw (holds_by_cuts r x, s.holds, e.holds)
