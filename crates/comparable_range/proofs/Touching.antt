-- Where a union is missing. What lies between an end and a start is again a range, from the cut of the one to the cut of the
-- other; so it holds a key unless it is (k, k00), that is, unless the end includes k and the start includes k00.
-- Assumes nothing.
use mathlib.Core.Path.{◌≡◌, refl, sym, ap, ◌∙◌}
use mathlib.Core.Logic.{inl, inr}
use mathlib.Core.Bool.{true, false, false≢true, or-true}
use mathlib.Core.List.{[], ◌∷◌, ◌++◌}
use mathlib.Core.Option.{Option, none, some}
use Rattle.key.specs.Order.{is_less}
use Rattle.comparable_range.specs.Range.{Bound, unbounded, included, excluded, Range, cmp_range, union}
use Rattle.comparable_range.specs.Cut.{before, after, ◌≺◌, start_cut, end_cut}
use Rattle.comparable_range.specs.Laws.{keyless_bounds, ByteBound, is_none, lesser_of, greater_of, touching, TouchingLeavesNoKeyBetween, UnionIsNoneThoughTouching, KeyBetween, ApartOthersLeaveAKey}
use Rattle.comparable_range.proofs.Cut.{order, ≼-not-≺, ≼-≺-trans, ≺-≼-trans, below-≼, ≼-above, before-≺-after, ≼-before}
use Rattle.comparable_range.proofs.ByCuts.{start_holds_by_cuts, end_holds_by_cuts, ≺-of-below, below-of-≺}
use Rattle.comparable_range.proofs.Keyless.{equal_keys, next-≼, after-≺-next, Within, key_within}
use Rattle.comparable_range.proofs.Unions.{union_is_none_where_apart, pick_both}

pub touching_leaves_no_key_between : TouchingLeavesNoKeyBetween
unfolding touching
touching_leaves_no_key_between unbounded s t x = absurd (false≢true t)
touching_leaves_no_key_between (included k) unbounded t x = absurd (false≢true t)
touching_leaves_no_key_between (included k) (included j) t x =
    elim (order (after x) (after k)) [
      | inl h ↦ rw (end_holds_by_cuts (included k) x, h.holds)
      | inr h ↦ let n = next-≼ k x (≼-before h) in
          rw (start_holds_by_cuts (included j) x, ← equal_keys (k ++ 0 ∷ []) j t, n.holds, or-true)
    ]
touching_leaves_no_key_between (included k) (excluded j) t x = absurd (false≢true t)
touching_leaves_no_key_between (excluded k) s t x = absurd (false≢true t)

touching-≺ : (e s : Bound) → touching e s ≡ true → end_cut e ≺ start_cut s
unfolding touching
touching-≺ unbounded s t = absurd (false≢true t)
touching-≺ (included k) unbounded t = absurd (false≢true t)
touching-≺ (included k) (included j) t = rw (← equal_keys (k ++ 0 ∷ []) j t) (after-≺-next k)
touching-≺ (included k) (excluded j) t = absurd (false≢true t)
touching-≺ (excluded k) s t = absurd (false≢true t)

pub union_is_none_though_touching : UnionIsNoneThoughTouching
union_is_none_though_touching r q p₁ p₂ t =
    let apart = touching-≺ (lesser_of r q).end (greater_of r q).start t in
    go (union r q) (union_is_none_where_apart r q p₁ p₂ ∙ below-of-≺ apart)
  where
    go : (o : Option Range) → is_none o ≡ true → o ≡ none
    go none e = refl
    go (some u) e = absurd (false≢true e)

-- ---- the key between the others
key_between :
    (e s : Bound)
    → ByteBound e
    → ByteBound s
    → end_cut e ≺ start_cut s
    → touching e s ≡ false
    → Within (end_cut e) (start_cut s)
unfolding touching keyless_bounds
key_between unbounded s b c p n = ≼-not-≺ (≼-above (start_cut s)) p
key_between (included k) unbounded b c p n = ≼-not-≺ (below-≼ (after k)) p
key_between (included k) (included j) b c p n = key_within (excluded k) (excluded j) b c p n
key_between (included k) (excluded j) b c p n = key_within (excluded k) (included j) b c p refl
key_between (excluded k) unbounded b c p n = ≼-not-≺ (below-≼ (before k)) p
key_between (excluded k) (included j) b c p n = key_within (included k) (excluded j) b c p refl
key_between (excluded k) (excluded j) b c p n = key_within (included k) (included j) b c p refl

between : (e s : Bound) → Within (end_cut e) (start_cut s) → KeyBetween e s
between e s w =
    record {
      key = w.key;
      bytes = w.bytes;
      after_end = rw (end_holds_by_cuts e w.key) (≼-≺-trans w.from (before-≺-after w.key)).fails;
      before_start = rw (start_holds_by_cuts s w.key) (≺-≼-trans (before-≺-after w.key) w.to).fails;
    }

pub apart_others_leave_a_key : ApartOthersLeaveAKey
apart_others_leave_a_key r q b c p₁ p₂ u n =
    let t = is_less (cmp_range r q) in
    let e = (lesser_of r q).end in
    let s = (greater_of r q).start in
    let d = pick_both (λ r. ByteBound r.end) t b.end c.end in
    let f = pick_both (λ r. ByteBound r.start) t c.start b.start in
    let apart = ≺-of-below (sym (union_is_none_where_apart r q p₁ p₂) ∙ ap is_none u) in
    between e s (key_between e s d f apart n)
