-- What holds of each entry of a commit holds of each view of the new image.
-- Assumes nothing.
use Prim.Native.Nat.{ℕ, zero, suc, ◌*◌, ◌/◌, ◌≤◌}
use native.Mathlib.Omega.{arith}
use mathlib.Core.Path.{◌≡◌, refl, ap}
use mathlib.Core.Bool.{Bool, true, false}
use mathlib.Core.List.{List, [], ◌∷◌, ◌++◌, map, flat_map}
use lib.Dec.{eqb}
use borrow.Author.Tests.{eqb-true}
use lib.ListN.{length, drop, length-drop}
use lib.Seq.{length-take-le}
use Rattle.base.specs.Pick.{pick}
use Rattle.records.specs.Values.{View, Run, Image, Part, Job}
use Rattle.records.specs.declared.ids.ViewId.{ViewId}
use Rattle.manifest.specs.Checks.{has}
use Rattle.incremental_progress.specs.Views.{start}
use Rattle.incremental_progress.specs.Parts.{intervals}
use Rattle.incremental_progress.specs.Jobs.{is_output, others}
use Rattle.incremental_progress.specs.Ids.{random_length}
use Rattle.incremental_progress.specs.Draws.{Ten, tens, supply, Drawn, used_up, got, next, is_old, draw, fill, fill_all, fill_views, fill_runs, fill_commit}
use Rattle.incremental_progress.specs.Entries.{Entry, view_entries, run_entries, part_entries}
use Rattle.base.specs.Lists.{All, All-append, All-flatMap}
use Rattle.base.specs.Sort.{sort}
use Rattle.base.proofs.SortLaws.{All-sort}
use Rattle.comparable_range.specs.Cut.{cut_at_most}
use Rattle.incremental_progress.proofs.NewRuns.{fill_by_kind}

-- ---- the supply: each draw has ten bytes
abbrev pub IsTen : Ten → Type 0
IsTen ten = length ten ≡ random_length

tens_are : (n : ℕ) (l : List ℕ) → random_length * n ≤ length l → All IsTen (tens n l)
unfolding tens
tens_are zero l h = tt
tens_are (suc n) l h = (length-take-le random_length l (omega arith), tens_are n (drop random_length l) (rw length-drop (omega arith)))

pub supply_tens : (l : List ℕ) → All IsTen (supply l)
unfolding supply
supply_tens l = tens_are (length l / random_length) l (omega arith)

-- ---- what was drawn, if anything was: the value, and ten bytes in each draw that is left
abbrev pub Of : {A : Type 0} → (A → Type 0) → Drawn A → Type 0
Of P used_up = Unit {0}
Of P (got a s) = P a × All IsTen s

pub next_of : {A B : Type 0} (P : A → Type 0) (Q : B → Type 0) (d : Drawn A) (f : A → List Ten → Drawn B) → Of P d → ((a : A) (s : List Ten) → P a → All IsTen s → Of Q (f a s)) → Of Q (next d f)
next_of P Q used_up f h k = tt
next_of P Q (got a s) f h k = k a s h.0 h.1

pick_of : {A : Type 0} (P : A → Type 0) (b : Bool) (c d : Drawn A) → Of P c → Of P d → Of P (pick b c d)
pick_of P true c d h k = h
pick_of P false c d h k = k

pub draw_ten : (id : ViewId) (s : List Ten) → All IsTen s → Of IsTen (draw id s)
unfolding draw
draw_ten id [] a = tt
draw_ten id (ten ∷ s) a = pick_of IsTen (is_old id ten) (draw id s) (got ten s) (draw_ten id s a.1) (a.0, a.1)

pub got_of : {A : Type 0} (P : A → Type 0) (d : Drawn A) (a : A) (s : List Ten) → d ≡ got a s → Of P d → P a
got_of P d a s e h = (rw e at h).0

-- ---- the views that are no output's
pub All-others : (P : View → Type 0) (ps : List Part) (vs : List View) → All P vs → All P (others ps vs)
unfolding others
All-others P ps [] a = tt
All-others P ps (v ∷ vs) a = go (is_output ps v.table) (All-others P ps vs a.1)
  where
    go : (b : Bool) → All P (others ps vs) → All P (pick b (others ps vs) (v ∷ others ps vs))
    go true h = h
    go false h = (a.0, h)

-- ---- the commit
-- E holds of entries, and H of the views that they become
module _ (H : View → Type 0) (E : Entry → Type 0) (fill-keeps : (e : Entry) (s : List Ten) → E e → All IsTen s → Of H (fill e s)) where
  fill_all_keeps : (es : List Entry) (s : List Ten) → All E es → All IsTen s → Of (All H) (fill_all es s)
  unfolding fill_all
  fill_all_keeps [] s a t = (tt, t)
  fill_all_keeps (e ∷ es) s a t =
      next_of H (All H) (fill e s) _ (fill-keeps e s a.0 t)
      (λ v u w x. next_of (All H) (All H) (fill_all es u) _ (fill_all_keeps es u a.1 x) (λ vs y z p. ((w, z), p)))

  module _ (j : Job) (is_source : has j.destination j.sources ≡ true) where
    -- a run, and the entries of its views if it is a source
    pub record Ready (r : Run) : Type 0 where
      pub views : All H r.views
      pub entries : has r.id j.sources ≡ true → All (λ v. All E (view_entries (intervals j.parts) v)) r.views

    entries_of : (vs : List View) → All (λ v. All E (view_entries (intervals j.parts) v)) vs → All E (run_entries (intervals j.parts) vs)
    unfolding run_entries
    entries_of vs a = All-flatMap (λ v. All E (view_entries (intervals j.parts) v)) E _ (λ v h. h) vs a

    fill_views_keeps : (outs : List View) (r : Run) (s : List Ten) → All H outs → Ready r → All IsTen s → Of (All H) (fill_views j outs r.id r.views s)
    fill_views_keeps outs r s o h t = rw fill_by_kind (go (eqb r.id j.destination) (has r.id j.sources) refl refl)
      where
        -- the entries of the whole run, and of what the destination keeps
        entries : List Entry
        entries = run_entries (intervals j.parts) r.views

        left : List Entry
        left = run_entries (intervals j.parts) (others j.parts r.views)

        go : (a b : Bool) → eqb r.id j.destination ≡ a → has r.id j.sources ≡ b
            → Of (All H) (pick a (next (fill_all left s) (λ ws s. got (sort cut_at_most start (ws ++ outs)) s)) (pick b (fill_all entries s) (got r.views s)))
        go true b p q =
            let e = h.entries (rw (eqb-true r.id j.destination p) is_source) in
            next_of (All H) (All H) (fill_all left s) _
            (fill_all_keeps left s (entries_of (others j.parts r.views) (All-others _ j.parts r.views e)) t)
            (λ ws u k x. (All-sort cut_at_most start H (ws ++ outs) (All-append H ws outs k o), x))
        go false true p q = fill_all_keeps entries s (entries_of r.views (h.entries q)) t
        go false false p q = (h.views, t)

    -- the new runs: the same ids, and views of which H holds
    pub record Kept (i new : List Run) : Type 0 where
      pub ids : map (λ r. r.id) new ≡ map (λ r. r.id) i
      pub views : All (λ r. All H r.views) new

    fill_runs_keeps : (outs : List View) (rs : List Run) (s : List Ten) → All H outs → All Ready rs → All IsTen s → Of (Kept rs) (fill_runs j outs rs s)
    unfolding fill_runs
    fill_runs_keeps outs [] s o a t = (record { ids = refl; views = tt }, t)
    fill_runs_keeps outs (r ∷ rs) s o a t =
        next_of (All H) (Kept (r ∷ rs)) (fill_views j outs r.id r.views s) _ (fill_views_keeps outs r s o a.0 t)
        (λ vs u w x.
        next_of (Kept rs) (Kept (r ∷ rs)) (fill_runs j outs rs u) _ (fill_runs_keeps outs rs u o a.1 x)
        (λ new y z p. (record { ids = ap (λ l. r.id ∷ l) z.ids; views = (w, z.views) }, p)))

    pub fill_commit_keeps : (i : Image) (s : List Ten) → All E (flat_map part_entries j.parts) → All Ready i → All IsTen s → Of (Kept i) (fill_commit j i s)
    unfolding fill_commit
    fill_commit_keeps i s e a t =
        next_of (All H) (Kept i) (fill_all (flat_map part_entries j.parts) s) _ (fill_all_keeps (flat_map part_entries j.parts) s e t)
        (λ outs u w x. fill_runs_keeps outs i u w a x)
