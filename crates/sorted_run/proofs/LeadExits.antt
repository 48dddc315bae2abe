-- The walk that puts the places of a run's views into a table and counts those that lead: each place is past the views before
-- it, and each count is that of the views seen.
-- Assumes nothing.
use Prim.Native.Nat.{ℕ, ◌+◌, ◌<◌, ◌≤◌}
use native.Mathlib.Omega.{arith}
use native.Mathlib.Numerals.{add-one}
use native.Mathlib.Nat.{eq-or-lt_of_le}
use mathlib.Core.Path.{◌≡◌, refl, sym, ap, ap₂, ◌∙◌}
use mathlib.Core.Logic.{inl, inr}
use mathlib.Core.Bool.{Bool, true, false}
use mathlib.Core.List.{List}
use lib.ListN.{length, drop, get_or, set, length-set}
use lib.Seq.{get_or-set_same, get_or-set_other}
use lib.Dec.{T}
use borrow.Author.Tests.{lt-ltb, le-ltb}
use Rattle.key.specs.Order.{Key}
use Rattle.comparable_range.specs.Range.{Bound, bound_of, range_of, start_holds, end_holds, holds}
use Rattle.comparable_range.specs.declared.Kind.{Kind}
use Rattle.comparable_range.specs.declared.Kind.TheVariants.{Unbounded, Included, Excluded}
use Rattle.format.specs.Got.{Got}
use Rattle.format.specs.Range.{bound_in, BoundInside}
use Rattle.format.specs.declared.range.BoundSpan.{BoundSpan}
use Rattle.records.specs.Form.{read_many}
use Rattle.records.specs.Found.{is_got, values_of}
use Rattle.records.specs.Layouts.{view}
use Rattle.records.specs.Values.{View}
use Rattle.records.specs.declared.there.RunSpan.{RunSpan}
use Rattle.records.proofs.Forms.{read_many_length}
use Rattle.db_state.specs.Lookup.{start_key}
use Rattle.records.specs.There.{Past}
use Rattle.sst_view.specs.Runs.{RunInside, leading, one_more, up_to}
use Rattle.sst_view.specs.Views.{key_at}
use Rattle.sst_view.proofs.Past.{past_none, past_more, past_here, values_more}
use Rattle.sst_view.proofs.Leading.{leading_none, leading_more, leading_most}
use Rattle.sorted_run.specs.Found.{EffectiveThere, up_to_span, LeadsFound}
use Rattle.sorted_run.specs.declared.views.EffectiveSpan.{EffectiveSpan}
use Rattle.sorted_run.proofs.ViewExits.{start_inside}

-- ---- up_to
pub up_to_is : (q : List ℕ) (b : BoundSpan) → bound_in q (up_to_span b) ≡ up_to (bound_in q b)
up_to_is q b = go b.kind refl
  where
    go : (k : Kind) → b.kind ≡ k → bound_in q (up_to_span b) ≡ up_to (bound_in q b)
    go Unbounded e = rw e
    go Included e = rw e
    go Excluded e = rw e

pub up_to_inside : (q : List ℕ) (b : BoundSpan) → BoundInside q b → BoundInside q (up_to_span b)
up_to_inside q b h = go b.kind refl
  where
    go : (k : Kind) → b.kind ≡ k → BoundInside q (up_to_span b)
    go Unbounded e = rw e (omega (arith, h))
    go Included e = rw e h
    go Excluded e = rw e h

-- ---- one_more
within : (k : Kind) (e x : Key) → holds (range_of Unbounded x k e) x ≡ end_holds (bound_of k e) x
unfolding holds start_holds
within k e x = refl

module _ (s q : List ℕ) (lead seen : ℕ) (start end : BoundSpan) where
  pub more_past : lead < seen → lead ≡ one_more (end_holds (bound_in q end) (key_at s start)) lead seen
  more_past h = rw (lt-ltb lead seen h)

  module _ (h : seen ≤ lead) {x e : Key} (f : x ≡ key_at s start) (g : e ≡ key_at q end) {t : Bool} (w : t ≡ holds (range_of Unbounded x end.kind e) x) where
    held : t ≡ end_holds (bound_in q end) (key_at s start)
    held = w ∙ (within end.kind e x ∙ ap₂ (λ a b. end_holds (bound_of end.kind a) b) g f)

    pub more_within : t ≡ true → lead + 1 ≡ one_more (end_holds (bound_in q end) (key_at s start)) lead seen
    more_within u = rw (le-ltb lead seen h, ← held, u) (add-one lead)

    pub more_not : t ≡ false → lead ≡ one_more (end_holds (bound_in q end) (key_at s start)) lead seen
    more_not u = rw (le-ltb lead seen h, ← held, u)

pub ruleset more_exits = (more_past, more_within, more_not)

-- ---- put_places
pub record Putting (s : List ℕ) (r : RunSpan) (q : List ℕ) (from to : BoundSpan) (room : ℕ) (places : List ℕ) (seen at start end : ℕ) : Type 0 where
  pub run : RunInside s r
  pub upto : seen ≤ r.views
  pub past : Past s (read_many view.read seen (drop r.first s)) at
  pub long : length places ≡ room
  pub placed : (i : ℕ) → i < seen → Past s (read_many view.read i (drop r.first s)) (get_or places i 0)
  pub starts : start ≡ leading (bound_in q from) (values_of (read_many view.read seen (drop r.first s)))
  pub ends : end ≡ leading (bound_in q to) (values_of (read_many view.read seen (drop r.first s)))

none_lead : (f : List ℕ → Got View) (l : List ℕ) (b : Bound) → 0 ≡ leading b (values_of (read_many f 0 l))
unfolding read_many
none_lead f l b = sym (leading_none b)

pub put_begin : (s : List ℕ) (r : RunSpan) (q : List ℕ) (from to : BoundSpan) (places : List ℕ) → RunInside s r → Putting s r q from to (length places) places 0 r.first 0 0
put_begin s r q from to places i =
    record {
      run = i;
      upto = omega arith;
      past = past_none view.read s r.first i.first;
      long = refl;
      placed = λ i h. absurd (omega arith);
      starts = none_lead view.read (drop r.first s) (bound_in q from);
      ends = none_lead view.read (drop r.first s) (bound_in q to);
    }

module _ {s q : List ℕ} {r : RunSpan} {from to : BoundSpan} {room : ℕ} {places : List ℕ} {seen at start end : ℕ} (p : Putting s r q from to room places seen at start end) where
  abbrev values : List View
  values = values_of (read_many view.read seen (drop r.first s))

  values_long : length values ≡ seen
  values_long = read_many_length view.read seen (drop r.first s) values (drop at s) p.past.is

  pub start_most : start ≤ 1024
  start_most = omega (arith, p.starts, leading_most (bound_in q from) values, values_long, p.upto, p.run.most)

  pub end_most : end ≤ 1024
  end_most = omega (arith, p.ends, leading_most (bound_in q to) values, values_long, p.upto, p.run.most)

  pub put_same_length : length places ≡ room
  put_same_length = p.long

  pub all_put : r.views ≤ seen → 1024 ≤ room → LeadsFound s r q from to places (record { start = start; end = end })
  all_put h k =
      let z : seen ≡ r.views = omega (arith, p.upto) in
      record {
        start = p.starts ∙ ap (λ n. leading (bound_in q from) (values_of (read_many view.read n (drop r.first s)))) z;
        end = p.ends ∙ ap (λ n. leading (bound_in q to) (values_of (read_many view.read n (drop r.first s)))) z;
        table = record { at = λ i l. p.placed i (omega arith); room = omega (arith, p.long, p.run.most) };
      }

  module _ (h : seen < r.views) where
    pub put_room : 1024 ≤ room → seen < length places
    put_room k = omega (arith, p.long, p.run.most)

    pub put_here : T (is_got (view.read (drop at s)))
    put_here = past_here view.read s r.first seen p.past r.views h p.run.there

    module _ {e : EffectiveSpan} (x : EffectiveThere s (view.read (drop at s)) e) where
      more : (b : Bound) {lead n : ℕ} → lead ≡ leading b values → n ≡ one_more (end_holds b (key_at s e.range.start)) lead seen → n ≡ leading b (values_of (read_many view.read (seen + 1) (drop r.first s)))
      more b {lead} {n} f g =
          g ∙ (ap (λ k. one_more (end_holds b k) lead seen) x.key
          ∙ (ap₂ (λ l m. one_more (end_holds b (start_key x.value)) l m) f (sym values_long)
          ∙ (sym (leading_more b values x.value)
          ∙ sym (ap (leading b) (values_more view.read s r.first seen p.past x.read)))))

      placed_more : 1024 ≤ room → (i : ℕ) → i < seen + 1 → Past s (read_many view.read i (drop r.first s)) (get_or (set places seen at) i 0)
      placed_more k i l = let u : i ≤ seen = omega arith in elim (eq-or-lt_of_le u) [
        | inl z ↦ rw (z, get_or-set_same places seen at 0 (put_room k)) p.past
        | inr z ↦ rw (get_or-set_other places seen i at 0 (λ w. absurd (omega arith))) (p.placed i z)
      ]

      pub put_onward :
          {a b : ℕ}
          → 1024 ≤ room
          → a ≡ one_more (end_holds (bound_in q from) (key_at s e.range.start)) start seen
          → b ≡ one_more (end_holds (bound_in q to) (key_at s e.range.start)) end seen
          → Putting s r q from to room (set places seen at) (seen + 1) e.past a b
      put_onward k f g =
          record {
            run = p.run;
            upto = omega arith;
            past = past_more view.read s r.first seen p.past x.read x.past;
            long = length-set places seen at ∙ p.long;
            placed = placed_more k;
            starts = more (bound_in q from) p.starts f;
            ends = more (bound_in q to) p.ends g;
          }

pub ruleset put_exits = (start_inside, put_begin, start_most, end_most, put_same_length, all_put, put_room, put_here, put_onward)
