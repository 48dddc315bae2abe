-- A view of a run and the one after it, each read where it stands; and the start key of a view, which always has one.
-- Assumes nothing.
use Prim.Native.Nat.{ℕ, suc, ◌+◌, ◌<◌, ◌≤◌}
use native.Mathlib.Omega.{arith}
use native.Mathlib.Numerals.{add-one}
use mathlib.Core.Path.{◌≡◌, refl, sym, ap, ◌∙◌}
use mathlib.Core.Option.{Option, none, some}
use mathlib.Core.List.{List}
use lib.ListN.{drop}
use lib.Dec.{T}
use Rattle.key.specs.Order.{Key}
use Rattle.comparable_range.specs.Range.{Bound, unbounded, included, excluded, Range, bound_of, of, start_side, cmp_bound}
use Rattle.comparable_range.specs.declared.Kind.{Kind}
use Rattle.comparable_range.specs.declared.Kind.TheVariants.{Unbounded, Included, Excluded}
use Rattle.comparable_range.specs.declared.Side.{Side}
use Rattle.comparable_range.specs.declared.Side.TheVariants.{First, Second}
use Rattle.format.specs.Got.{Got, got}
use Rattle.format.specs.Range.{bound_in}
use Rattle.format.specs.Span.{bound_key}
use Rattle.format.specs.declared.span.RangeSpan.{RangeSpan}
use Rattle.records.specs.Form.{read_many}
use Rattle.records.specs.Found.{is_got}
use Rattle.records.specs.Layouts.{view}
use Rattle.records.specs.Values.{View}
use Rattle.records.specs.Spans.{view_in, ViewInside}
use Rattle.records.specs.There.{ViewThere}
use Rattle.records.specs.declared.views.ViewSpan.{ViewSpan}
use Rattle.records.specs.declared.there.RunSpan.{RunSpan}
use Rattle.manifest.specs.Ranges.{own, cut_by, effective}
use Rattle.manifest.specs.Spans.{EffectiveFound}
use Rattle.db_state.specs.Places.{at as index_at}
use Rattle.db_state.specs.Lookup.{start_key}
use Rattle.records.specs.There.{Past}
use Rattle.sst_view.specs.Runs.{views_of, RunInside}
use Rattle.sst_view.specs.Views.{key_at, StartThere}
use Rattle.sst_view.proofs.Past.{past_more, past_here, value_here, none_past}

-- ---- by place
module _ (s : List ℕ) (r : RunSpan) (place : ℕ) (i : RunInside s r) where
  pub no_next : r.views ≤ place + 1 → index_at (views_of s r) (suc place) ≡ none
  no_next h = none_past view.read (suc place) r.views (drop r.first s) (omega arith) i.there

  module _ {e : ℕ} (x : Past s (read_many view.read place (drop r.first s)) e) {v : ViewSpan} (y : ViewThere s (view.read (drop e s)) v) where
    pub this_view : place < r.views → index_at (views_of s r) place ≡ some (view_in s v)
    this_view h = value_here view.read s r.first place x r.views h i.there y.meaning

    next_past : Past s (read_many view.read (place + 1) (drop r.first s)) v.past
    next_past = past_more view.read s r.first place x y.meaning y.inside.past

    pub next_there : place + 1 < r.views → T (is_got (view.read (drop v.past s)))
    next_there h = past_here view.read s r.first (place + 1) next_past r.views h i.there

    pub next_view : {u : View} {q : List ℕ} → place + 1 < r.views → view.read (drop v.past s) ≡ got u q → index_at (views_of s r) (suc place) ≡ some u
    next_view h z = rw (← add-one) (value_here view.read s r.first (place + 1) next_past r.views h i.there z)

-- ---- the start of an effective range
not_free : (b : Bound) → (b ≡ unbounded → ⊥) → (k : Key) (side : Side) → of side (included k) b ≡ unbounded → ⊥
not_free b h k First e = absurd (let z : ◌≡◌ {A = ℕ} 0 1 = cc in omega arith)
not_free b h k Second e = h e

greater_keyed : (k : Key) (b : Bound) → of (start_side (included k) b) (included k) b ≡ unbounded → ⊥
unfolding start_side cmp_bound
greater_keyed k unbounded e = absurd (let z : ◌≡◌ {A = ℕ} 0 1 = cc in omega arith)
greater_keyed k (included j) e = not_free (included j) (λ z. absurd (let y : ◌≡◌ {A = ℕ} 0 1 = cc in omega arith)) k (start_side (included k) (included j)) e
greater_keyed k (excluded j) e = not_free (excluded j) (λ z. absurd (let y : ◌≡◌ {A = ℕ} 0 1 = cc in omega arith)) k (start_side (included k) (excluded j)) e

starts_keyed : (v : View) → (effective v).start ≡ unbounded → ⊥
unfolding effective
starts_keyed v e = go v.visible e
  where
    go : (o : Option Range) → (cut_by o (own v.table)).start ≡ unbounded → ⊥
    go none e = absurd (let z : ◌≡◌ {A = ℕ} 0 1 = cc in omega arith)
    go (some q) e = greater_keyed v.table.first q.start e

key_back : (kind : Kind) (k : Key) → (bound_of kind k ≡ unbounded → ⊥) → bound_key (bound_of kind k) ≡ k
key_back Unbounded k h = absurd (h refl)
key_back Included k h = refl
key_back Excluded k h = refl

pub start_key_lem : (s : List ℕ) {v : ViewSpan} {w : RangeSpan} → EffectiveFound s v w → key_at s w.start ≡ start_key (view_in s v)
unfolding start_key
start_key_lem s {v} {w} f =
    let e : bound_in s w.start ≡ (effective (view_in s v)).start = ap (λ (r : Range). r.start) f.meaning in
    sym (key_back w.start.kind (key_at s w.start) (λ z. starts_keyed (view_in s v) (sym e ∙ z))) ∙ ap bound_key e

-- ---- start_at
pub starts_there : (s : List ℕ) {g : Got View} {v : ViewSpan} {w : RangeSpan} → ViewThere s g v → EffectiveFound s v w → StartThere s g w.start
starts_there s {g} {v} y f = record { value = view_in s v; rest = drop v.past s; read = y.meaning; key = start_key_lem s f; inside = f.start }

pub there_inside : {s : List ℕ} {g : Got View} {v : ViewSpan} → ViewThere s g v → ViewInside s v
there_inside y = y.inside

pub ruleset start_exits = (there_inside, starts_there)
