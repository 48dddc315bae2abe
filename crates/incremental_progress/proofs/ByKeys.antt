-- Checks 11 and 12 by the keys that ranges hold.
-- Assumes nothing.
use mathlib.Core.Path.{◌≡◌, refl, sym, ◌∙◌}
use mathlib.Core.Bool.{true}
use mathlib.Core.Option.{Option, some}
use mathlib.Core.List.{List, [], ◌∷◌}
use borrow.Author.Tests.{eq-eqb}
use Rattle.key.specs.Order.{Key, key_at_most}
use Rattle.comparable_range.specs.Range.{included, start_holds, holds}
use Rattle.comparable_range.specs.Cut.{Cut, before, after, ◌≼◌, start_cut, end_cut}
use Rattle.comparable_range.proofs.Cut.{≼_refl}
use Rattle.comparable_range.proofs.ByCuts.{start_holds_by_cuts, held_parts, held_by_parts}
use Rattle.records.specs.Values.{Table, Part}
use Rattle.manifest.specs.Ranges.{own}
use Rattle.manifest.specs.Checks.{all, keys_in_order, job_checks}
use Rattle.manifest.proofs.ViewRanges.{own_holds_first}
use Rattle.incremental_progress.specs.Checks.{ends_by, last_cut, outputs_from, outputs_inside, outputs_in_order, output_views_covered}
use Rattle.incremental_progress.specs.Members.{In, here, further}
use Rattle.incremental_progress.specs.ByKeys.{LiesInPlan, InTurn, none_listed, one_listed, next_listed, OutputsLie, CheckElevenByKeys, ReplacedViewsLeaveNothing}
use Rattle.base.specs.Lists.{All}
use Rattle.incremental_progress.proofs.Job.{Ascending, no_more, output, Fits, fits_all, fits_holds}
use Rattle.incremental_progress.proofs.Checks.{all_each, ascending, implied}
use Rattle.incremental_progress.proofs.NewImages.{true_all}
use Rattle.incremental_progress.proofs.GapDestination.{others_entries}

-- ---- the elements of a list
pub of_all : {A : Type 0} (P : A → Type 0) (xs : List A) → All P xs → (x : A) → In x xs → P x
of_all P [] a x m = elim m [ ]
of_all P (y ∷ xs) a x (here e) = rw e a.0
of_all P (y ∷ xs) a x (further m) = of_all P xs a.1 x m

pub to_all : {A : Type 0} (P : A → Type 0) (xs : List A) → ((x : A) → In x xs → P x) → All P xs
to_all P [] f = tt
to_all P (x ∷ xs) f = (f x (here refl), to_all P xs (λ y m. f y (further m)))

-- ---- check 11
pub at_most_before : (k l : Key) → key_at_most k l ≡ true → before k ≼ before l
unfolding start_holds
at_most_before k l e = record { holds = sym (start_holds_by_cuts (included k) l) ∙ e }

before_at_most : (k l : Key) → before k ≼ before l → key_at_most k l ≡ true
unfolding start_holds
before_at_most k l h = start_holds_by_cuts (included k) l ∙ h.holds

same_last : {o : Option Key} {l b : Key} (u : Table) → o ≡ some l → o ≡ some b → before l ≼ before u.first → key_at_most b u.first ≡ true
same_last {l} {b} u e f h = let g : l ≡ b = cc in rw (← g) (before_at_most l u.first h)

in_turn : {e c : Cut} {ts : List Table} → Ascending e c ts → InTurn ts
in_turn no_more = none_listed
in_turn (output i h k m no_more) = one_listed
in_turn (output {l} i h k m (output {t = u} j n p q a)) =
    next_listed (λ b f. same_last u i f n) (in_turn (output j n p q a))

lies : (p : Part) (t : Table) → Fits (start_cut p.planned.start) (end_cut p.planned.end) t → LiesInPlan p t
lies p t f =
    record {
      last = f.key;
      last_is = f.is;
      inside = λ x h. let w = fits_holds x f h in held_by_parts p.planned x w.0 w.1;
    }

outputs_lie : (p : Part) → all keys_in_order p.outputs ≡ true → outputs_inside p ≡ true → OutputsLie p
unfolding outputs_inside
outputs_lie p k h =
    let a = ascending (end_cut p.planned.end) (start_cut p.planned.start) p.outputs h (all_each keys_in_order p.outputs k) in
    record { each = λ t m. lies p t (of_all _ p.outputs (fits_all a) t m); in_turn = in_turn a }

-- and back: an output's first and last keys are keys of its own range
module _ (p : Part) where
  starts_in : (t : Table) → keys_in_order t ≡ true → LiesInPlan p t → start_cut p.planned.start ≼ before t.first
  starts_in t k h = (held_parts p.planned t.first (h.inside t.first (own_holds_first t k))).0

  ends_in : (t : Table) → keys_in_order t ≡ true → LiesInPlan p t → ends_by (end_cut p.planned.end) t.last ≡ true
  unfolding keys_in_order
  ends_in t k h =
      let o = h.last_is in
      let l = h.last in
      let r : key_at_most t.first l ≡ true = rw o at k in
      let w : holds (own t) l ≡ true = held_by_parts (own t) l (at_most_before t.first l r) (rw o (≼_refl (after l))) in
      rw o (held_parts p.planned l (h.inside l w)).1.holds

  outputs_from_lem : (c : Cut) (ts : List Table) → All (λ t. keys_in_order t ≡ true) ts → All (LiesInPlan p) ts → InTurn ts
      → ((t : Table) (us : List Table) → ts ≡ t ∷ us → c ≼ before t.first) → outputs_from (end_cut p.planned.end) c ts ≡ true
  unfolding outputs_from
  outputs_from_lem c [] k a i f = refl
  outputs_from_lem c (t ∷ []) k a i f = rw ((f t [] refl).holds, ends_in t k.0 a.0)
  outputs_from_lem c (t ∷ u ∷ ts) k a (next_listed g i) f =
      rw ((f t (u ∷ ts) refl).holds, ends_in t k.0 a.0)
      (outputs_from_lem (last_cut t.last) (u ∷ ts) k.1 a.1 i
      (λ v vs e. let w : u ≡ v = cc in let l = a.0.last_is in rw (l, ← w) (at_most_before a.0.last u.first (g a.0.last l))))

  lie_outputs : all keys_in_order p.outputs ≡ true → OutputsLie p → outputs_inside p ≡ true
  unfolding outputs_inside
  lie_outputs k h =
      let ks = all_each keys_in_order p.outputs k in
      let a = to_all (LiesInPlan p) p.outputs h.each in
      outputs_from_lem (start_cut p.planned.start) p.outputs ks a h.in_turn
      (λ t us e. let m : In t p.outputs = rw e (here refl) in starts_in t (of_all _ p.outputs ks t m) (h.each t m))

pub check_eleven_by_keys : CheckElevenByKeys
unfolding job_checks outputs_in_order
check_eleven_by_keys j k =
    let ks = all_each _ j.parts k in (
      λ h p m. outputs_lie p (of_all _ j.parts ks p m) (of_all _ j.parts (all_each outputs_inside j.parts h) p m),
      λ f. true_all outputs_inside j.parts (to_all (λ p. outputs_inside p ≡ true) j.parts (λ p m. lie_outputs p (of_all _ j.parts ks p m) (f p m))),
    )

-- ---- views that are replaced
pub replaced_views_leave_nothing : ReplacedViewsLeaveNothing
unfolding output_views_covered
replaced_views_leave_nothing i j r h m d =
    others_entries j.parts r.views (implied _ _ (of_all _ i (all_each _ i h) r m) (eq-eqb r.id j.destination d))
