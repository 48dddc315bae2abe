-- New view ids from the lent supply: cut outputs draw first, in job order, then source runs in image order.
use Rattle.std.specs.Prelude.{ℕ, zero, suc, ◌/◌, Bool, length, take, drop}
use Rattle.std.proofs.Math.Option.{some}
use mathlib.Core.List.{List, [], ◌∷◌, ◌++◌, flat_map}
use Rattle.base.specs.Pick.{pick}
use Rattle.comparable_range.specs.Range.{Range}
use Rattle.records.specs.Values.{View, Run, Image, Job}
use Rattle.records.specs.declared.ids.ViewId.{ViewId}
use Rattle.incremental_progress.specs.Ids.{same_view_id, random_length, time_of}
use Rattle.incremental_progress.specs.Views.{start}
use Rattle.incremental_progress.specs.Entries.{Entry, whole, cut, part_entries}
use Rattle.incremental_progress.specs.Jobs.{left_entries, with_outputs}

-- ---- the supply, ten bytes a draw; a rest of fewer is no draw
abbrev pub Ten : Type 0
Ten = List ℕ

unfoldable pub tens : ℕ → List ℕ → List Ten
tens zero l = []
tens (suc n) l = take random_length l ∷ tens n (drop random_length l)

unfoldable pub supply : List ℕ → List Ten
supply l = tens (length l / random_length) l

pub data Drawn (A : Type 0) : Type 0 where
  used_up : Drawn A
  got : A → List Ten → Drawn A

abbrev pub next : {A B : Type 0} → Drawn A → (A → List Ten → Drawn B) → Drawn B
next used_up f = used_up
next (got a s) f = f a s

-- the time of an id, and ten new bytes
abbrev pub new_id : ViewId → Ten → ViewId
new_id id ten = record { 0 = time_of id ++ ten }

abbrev pub is_old : ViewId → Ten → Bool
is_old id ten = same_view_id (new_id id ten) id

-- the next ten bytes, drawn again if the id would be the old one
unfoldable pub draw : ViewId → List Ten → Drawn Ten
draw id [] = used_up
draw id (ten ∷ s) = pick (is_old id ten) (draw id s) (got ten s)

abbrev pub drawn_view : View → Range → Ten → View
drawn_view v r ten = record { id = new_id v.id ten; table = v.table; visible = some r }

abbrev pub fill : Entry → List Ten → Drawn View
fill (whole v) s = got v s
fill (cut v r) s = next (draw v.id s) (λ ten s. got (drawn_view v r ten) s)

unfoldable pub fill_all : List Entry → List Ten → Drawn (List View)
fill_all [] s = got [] s
fill_all (e ∷ es) s = next (fill e s) (λ v s. next (fill_all es s) (λ vs s. got (v ∷ vs) s))

-- ---- the commit
unfoldable pub fill_views : Job → List View → ℕ → List View → List Ten → Drawn (List View)
fill_views j outs n vs s = next (fill_all (left_entries j n vs) s) (λ ws s. got (with_outputs start j n ws outs) s)

unfoldable pub fill_runs : Job → List View → List Run → List Ten → Drawn (List Run)
fill_runs j outs [] s = got [] s
fill_runs j outs (r ∷ rs) s =
    next (fill_views j outs r.id r.views s)
    (λ vs s. next (fill_runs j outs rs s) (λ new s. got (record { id = r.id; views = vs } ∷ new) s))

unfoldable pub fill_commit : Job → Image → List Ten → Drawn Image
fill_commit j i s = next (fill_all (flat_map part_entries j.parts) s) (λ outs s. fill_runs j outs i s)
