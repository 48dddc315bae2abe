-- A job's parts: where their intervals and outputs lie, and what the published views show.
-- Assumes nothing.
use Prim.Native.Nat.{ℕ, ◌+◌}
use native.Mathlib.Omega.{arith}
use mathlib.Core.Path.{◌≡◌, refl, sym, ap, ◌∙◌}
use mathlib.Core.Logic.{inl, inr}
use mathlib.Core.Bool.{Bool, true, false, ◌&&◌, true≢false}
use mathlib.Core.Option.{Option, none, some}
use mathlib.Core.List.{List, [], ◌∷◌, ◌++◌, map, flat_map, append-nil}
use Rattle.base.specs.Pick.{pick}
use Rattle.key.specs.Order.{Key}
use Rattle.key.proofs.Linear.{key_self}
use Rattle.comparable_range.specs.Range.{Range, non_empty, overlap, holds}
use Rattle.comparable_range.specs.Cut.{Cut, before, after, ◌≼◌, ◌≺◌, start_cut, end_cut}
use Rattle.comparable_range.proofs.Cut.{≼_trans, ≼_refl, ≺-≼, ≼-not-≺, ≺-≼-trans, order, ≼-antisym, after-≼, before-≺, below-≺, before-≺-after}
use Rattle.comparable_range.proofs.Keyless.{equal_keys, failing_holds_none}
use Rattle.comparable_range.proofs.Intersection.{overlap_holds}
use Rattle.records.specs.Values.{Table, Part}
use Rattle.manifest.specs.Ranges.{own, effective}
use Rattle.incremental_progress.specs.Intervals.{Interval, to_range, start_bound, end_bound, any_holds, bit, listed}
use Rattle.incremental_progress.specs.Views.{shown}
use Rattle.incremental_progress.proofs.Marked.{marked, publish, published}
use Rattle.incremental_progress.specs.Entries.{whole, cut, output_entries}
use Rattle.incremental_progress.specs.Parts.{planned_interval, last_written, is_key, up_to_key, durable, intervals, identity, open_key, listings, listed_in}
use Rattle.base.specs.Lists.{All, All-map}
use Rattle.incremental_progress.proofs.Span.{within_parts, within_yes}
use Rattle.incremental_progress.proofs.Subtraction.{holds_within}
use Rattle.incremental_progress.proofs.Views.{shown_append}

-- ---- the checks on a part's outputs
abbrev pub from_cut : Interval → Cut
from_cut iv = start_cut (start_bound iv.start)

abbrev pub to_cut : Interval → Cut
to_cut iv = end_cut (end_bound iv.end)

-- The outputs have last keys, none below its first key, and end before e; each starts at or after the last key of the one before it, the first at or after c.
pub data Ascending (e : Cut) : Cut → List Table → Type 0 where
  no_more : {c : Cut} → Ascending e c []
  output : {c : Cut} {t : Table} {l : Key} {ts : List Table} → t.last ≡ some l → c ≼ before t.first → before t.first ≼ before l → after l ≼ e
      → Ascending e (before l) ts → Ascending e c (t ∷ ts)

-- the parts from a cut on: each planned range runs, its outputs lie in it, and the next part starts at its end or after it
pub data Planned : Cut → List Part → Type 0 where
  no_parts : {c : Cut} → Planned c []
  with_part : {c : Cut} {p : Part} {ps : List Part} → c ≼ from_cut (planned_interval p) → from_cut (planned_interval p) ≺ to_cut (planned_interval p)
      → Ascending (to_cut (planned_interval p)) (from_cut (planned_interval p)) p.outputs → Planned (to_cut (planned_interval p)) ps → Planned c (p ∷ ps)

-- a table that lies from a cut on, with its last key at or before b
pub record Lies (c : Cut) (b : Key) (t : Table) : Type 0 where
  pub key : Key
  pub is : t.last ≡ some key
  pub begins : c ≼ before t.first
  pub runs : before t.first ≼ before key
  pub ends : before key ≼ before b

-- the last written key of some outputs
pub record Written (e c : Cut) (ts : List Table) : Type 0 where
  pub key : Key
  pub is : last_written ts ≡ some key
  pub from : c ≼ before key
  pub to : after key ≼ e
  pub all : All (Lies c key) ts

lies_sooner : {c d : Cut} {b : Key} (t : Table) → c ≼ d → Lies d b t → Lies c b t
lies_sooner t h k = record { key = k.key; is = k.is; begins = ≼_trans h k.begins; runs = k.runs; ends = k.ends }

pub written : {e c : Cut} {t : Table} (ts : List Table) → Ascending e c (t ∷ ts) → Written e c (t ∷ ts)
unfolding last_written
written [] (output {l} i h k m a) =
    record {
      key = l;
      is = i;
      from = ≼_trans h k;
      to = m;
      all = (record { key = l; is = i; begins = h; runs = k; ends = ≼_refl (before l) }, tt);
    }
written (u ∷ ts) (output {l} i h k m a) =
    let w = written ts a in
    record {
      key = w.key;
      is = w.is;
      from = ≼_trans (≼_trans h k) w.from;
      to = w.to;
      all =
          (record { key = l; is = i; begins = h; runs = k; ends = w.from }, All-map (λ t j. lies_sooner t (≼_trans h k) j) (u ∷ ts) w.all);
    }

-- ---- what of a part is durable
is_key_yes : (o : Option Key) (b : Key) → is_key o b ≡ true → o ≡ some b
unfolding is_key
is_key_yes none b e = cc
is_key_yes (some a) b e = ap some (equal_keys a b e)

is_key_self : (b : Key) → is_key (some b) b ≡ true
unfolding is_key
is_key_self b = rw (key_self b)

-- a start that is not the key and is at or before it is before it
not_key : (o : Option Key) (b : Key) → is_key o b ≡ false → start_cut (start_bound o) ≼ before b → start_cut (start_bound o) ≺ before b
not_key none b e h = below-≺ b
not_key (some a) b e h =
    elim (order (before b) (before a)) [
      | inl k ↦
          let p : before a ≡ before b = ≼-antisym h k in
          let q : a ≡ b = cc in
          absurd (true≢false (sym (is_key_self b) ∙ cc))
      | inr k ↦ k
    ]

pub none_some : {b : Key} → ◌≡◌ {A = Option Key} none (some b) → ⊥
none_some e = let z : ◌≡◌ {A = ℕ} 0 1 = cc in omega arith

pub data Status (p : Part) : Type 0 where
  finished : p.completed ≡ true → durable p ≡ some (planned_interval p) → open_key p ≡ none → Status p
  nothing : p.completed ≡ false → durable p ≡ none → ((b : Key) → last_written p.outputs ≡ some b → before b ≼ from_cut (planned_interval p)) → Status p
  ongoing : (b : Key) → p.completed ≡ false → last_written p.outputs ≡ some b → durable p ≡ some (record { start = (planned_interval p).start; end = some b }) → open_key p ≡ some b
      → from_cut (planned_interval p) ≺ before b → after b ≼ to_cut (planned_interval p) → All (Lies (from_cut (planned_interval p)) b) p.outputs → Status p

pub status : (p : Part) → Ascending (to_cut (planned_interval p)) (from_cut (planned_interval p)) p.outputs → Status p
unfolding durable open_key up_to_key last_written
status p a = go p.completed refl p.outputs refl a
  where
    ongoing? : p.completed ≡ false → (w : Written (to_cut (planned_interval p)) (from_cut (planned_interval p)) p.outputs) (d : Bool) → is_key (planned_interval p).start w.key ≡ d → Status p
    ongoing? e w true d =
        let s : (planned_interval p).start ≡ some w.key = is_key_yes (planned_interval p).start w.key d in
        nothing e (rw (e, w.is, d)) (λ b f. let g : b ≡ w.key = cc w.is in rw (s, g) (≼_refl _))
    ongoing? e w false d = ongoing w.key e w.is (rw (e, w.is, d)) (rw e w.is) (not_key (planned_interval p).start w.key d w.from) w.to w.all

    go : (d : Bool) → p.completed ≡ d → (ts : List Table) → p.outputs ≡ ts → Ascending (to_cut (planned_interval p)) (from_cut (planned_interval p)) ts → Status p
    go true e ts f a = finished e (rw e) (rw e)
    go false e [] f a = nothing e (rw (e, f)) (λ b g. let h : last_written [] ≡ some b = rw f at g in absurd (none_some h))
    go false e (t ∷ ts) f a = ongoing? e (rw f (written ts a)) _ refl

-- ---- what the published views show
shown_identity : (q : Table → Bool) (x : Key) (t : Table) (w : Bool) → (holds (own t) x ≡ true → w ≡ true)
    → shown q x (identity t ∷ []) ≡ pick w (bit (q t && holds (own t) x)) 0
unfolding shown effective
shown_identity q x t w f = go (q t) (holds (own t) x) w f
  where
    go : (a h w : Bool) → (h ≡ true → w ≡ true) → bit (a && h) + 0 ≡ pick w (bit (a && h)) 0
    go a h true f = omega arith
    go true true false f = absurd (true≢false (sym (f refl)))
    go true false false f = refl
    go false h false f = refl

shown_cut : (q : Table → Bool) (x : Key) (t : Table) (r : Range)
    → shown q x (map marked (pick (non_empty (overlap (own t) r)) (cut (identity t) r ∷ []) [])) ≡ pick (holds r x) (bit (q t && holds (own t) x)) 0
unfolding shown effective
shown_cut q x t r = go (non_empty (overlap (own t) r)) refl
  where
    both : (a h w : Bool) → bit (a && (h && w)) ≡ pick w (bit (a && h)) 0
    both true true true = refl
    both true true false = refl
    both true false true = refl
    both true false false = refl
    both false h true = refl
    both false h false = refl

    here : bit (q t && holds (overlap (own t) r) x) ≡ pick (holds r x) (bit (q t && holds (own t) x)) 0
    here = rw overlap_holds (both (q t) (holds (own t) x) (holds r x))

    zero_bit : (a : Bool) → bit (a && false) ≡ 0
    zero_bit true = refl
    zero_bit false = refl

    go : (b : Bool) → non_empty (overlap (own t) r) ≡ b → shown q x (map marked (pick b (cut (identity t) r ∷ []) [])) ≡ pick (holds r x) (bit (q t && holds (own t) x)) 0
    go true e = omega (arith, here)
    go false e = sym (rw (failing_holds_none (overlap (own t) r) e x) (zero_bit (q t))) ∙ here

-- a table that is not cut lies in the interval
abbrev pub Covered : Option Key → Interval → Table → Type 0
Covered k iv t = ((b : Key) → k ≡ some b → is_key t.last b ≡ false) → (x : Key) → holds (own t) x ≡ true → holds (to_range iv) x ≡ true

shown_publish : (q : Table → Bool) (x : Key) (k : Option Key) (iv : Interval) (t : Table) → Covered k iv t
    → shown q x (publish k iv t) ≡ pick (holds (to_range iv) x) (bit (q t && holds (own t) x)) 0
unfolding publish output_entries
shown_publish q x none iv t f = shown_identity q x t (holds (to_range iv) x) (f (λ b e. cc) x)
shown_publish q x (some b) iv t f = go (is_key t.last b) refl
  where
    go : (d : Bool) → is_key t.last b ≡ d
        → shown q x (map marked (pick d (pick (non_empty (overlap (own t) (to_range iv))) (cut (identity t) (to_range iv) ∷ []) []) (whole (identity t) ∷ [])))
        ≡ pick (holds (to_range iv) x) (bit (q t && holds (own t) x)) 0
    go true e = shown_cut q x t (to_range iv)
    go false e = shown_identity q x t (holds (to_range iv) x) (f (λ c d. let g : b ≡ c = cc in rw (← g) e) x)

shown_publish_all : (q : Table → Bool) (x : Key) (k : Option Key) (iv : Interval) (ts : List Table) → All (Covered k iv) ts
    → shown q x (flat_map (publish k iv) ts) ≡ pick (holds (to_range iv) x) (listings q x ts) 0
unfolding flat_map listings shown
shown_publish_all q x k iv [] a = go (holds (to_range iv) x)
  where
    go : (b : Bool) → ◌≡◌ {A = ℕ} 0 (pick b 0 0)
    go true = refl
    go false = refl
shown_publish_all q x k iv (t ∷ ts) a =
    rw (shown_append, shown_publish q x k iv t a.0, shown_publish_all q x k iv ts a.1) (go (holds (to_range iv) x))
  where
    go : (w : Bool) → pick w (bit (q t && holds (own t) x)) 0 + pick w (listings q x ts) 0 ≡ pick w (bit (q t && holds (own t) x) + listings q x ts) 0
    go true = refl
    go false = refl

-- a table that lies between two cuts
pub record Fits (c e : Cut) (t : Table) : Type 0 where
  pub key : Key
  pub is : t.last ≡ some key
  pub begins : c ≼ before t.first
  pub runs : before t.first ≼ before key
  pub ends : after key ≼ e

pub fits_all : {e c : Cut} {ts : List Table} → Ascending e c ts → All (Fits c e) ts
fits_all no_more = tt
fits_all (output {l} {ts} i h k m a) = (
  record { key = l; is = i; begins = h; runs = k; ends = m },
  All-map (λ t f. record { key = f.key; is = f.is; begins = ≼_trans (≼_trans h k) f.begins; runs = f.runs; ends = f.ends }) ts (fits_all a),
)

pub fits_holds : {c e : Cut} {t : Table} (x : Key) → Fits c e t → holds (own t) x ≡ true → (c ≼ before x) × (after x ≼ e)
fits_holds {t} x f h =
    let w = within_parts x (sym (holds_within (own t) x) ∙ h) in
    (≼_trans f.begins w.0, ≼_trans (rw f.is at w.1) f.ends)

pub covers : (iv : Interval) (t : Table) → Fits (from_cut iv) (to_cut iv) t → (x : Key) → holds (own t) x ≡ true → holds (to_range iv) x ≡ true
covers iv t f x h = let w = fits_holds x f h in rw (holds_within (to_range iv) x) (within_yes x w.0 w.1)

-- an output of an unfinished part that is not cut ends before the last written key
pub uncut : {c : Cut} {b : Key} (t : Table) → Lies c b t → is_key t.last b ≡ false → Fits c (before b) t
uncut {b} t l e =
    record { key = l.key; is = l.is; begins = l.begins; runs = l.runs; ends = after-≼ (not_key (some l.key) b (rw l.is at e) l.ends) }

once : (w : Bool) (n : ℕ) → pick w n 0 ≡ pick (pick w true false) n 0
once true n = refl
once false n = refl

-- Inside its durable interval a part's views show what its outputs hold, and outside nothing.
pub part_shown : (q : Table → Bool) (x : Key) (p : Part) → Ascending (to_cut (planned_interval p)) (from_cut (planned_interval p)) p.outputs → Status p
    → shown q x (published p) ≡ pick (any_holds (listed (durable p)) x) (listings q x p.outputs) 0
unfolding published flat_map any_holds shown
part_shown q x p a (nothing d e f) = rw e
part_shown q x p a (finished d e f) =
    rw (e, f, append-nil, shown_publish_all q x none (planned_interval p) p.outputs (All-map (λ t h g. covers (planned_interval p) t h) p.outputs (fits_all a)))
    (once (holds (to_range (planned_interval p)) x) _)
part_shown q x p a (ongoing b d k e f m n l) =
    let iv : Interval = record { start = (planned_interval p).start; end = some b } in
    rw (e, f, append-nil, shown_publish_all q x (some b) iv p.outputs (All-map (λ t h g. covers iv t (uncut t h (g b refl))) p.outputs l))
    (once (holds (to_range iv) x) _)

-- ---- all the parts
pub any_append : (s t : List Interval) (x : Key) → any_holds (s ++ t) x ≡ pick (any_holds s x) true (any_holds t x)
unfolding any_holds
any_append [] t x = refl
any_append (i ∷ s) t x = rw (any_append s t x) (go (holds (to_range i) x))
  where
    go : (w : Bool) → pick w true (pick (any_holds s x) true (any_holds t x)) ≡ pick (pick w true (any_holds s x)) true (any_holds t x)
    go true = refl
    go false = refl

interval_parts : (iv : Interval) (x : Key) → any_holds (iv ∷ []) x ≡ true → (from_cut iv ≼ before x) × (after x ≼ to_cut iv)
unfolding any_holds
interval_parts iv x h = go (holds (to_range iv) x) refl h
  where
    go : (w : Bool) → holds (to_range iv) x ≡ w → pick w true false ≡ true → (from_cut iv ≼ before x) × (after x ≼ to_cut iv)
    go true e h = within_parts x (sym (holds_within (to_range iv) x) ∙ e)
    go false e h = absurd (true≢false (sym h))

-- a durable interval lies in the planned range
pub durable_in_plan : (p : Part) (x : Key) → Status p → any_holds (listed (durable p)) x ≡ true → (from_cut (planned_interval p) ≼ before x) × (after x ≼ to_cut (planned_interval p))
unfolding any_holds
durable_in_plan p x (nothing d e f) h = absurd (true≢false (sym (rw e at h)))
durable_in_plan p x (finished d e f) h = interval_parts (planned_interval p) x (rw e at h)
durable_in_plan p x (ongoing b d k e f m n l) h =
    let w = interval_parts (record { start = (planned_interval p).start; end = some b }) x (rw e at h) in
    (w.0, ≼_trans w.1 (≼_trans (≺-≼ (before-≺-after b)) n))

pub intervals_from : {c : Cut} {ps : List Part} (x : Key) → Planned c ps → any_holds (intervals ps) x ≡ true → c ≼ before x
unfolding intervals flat_map any_holds
intervals_from x no_parts h = absurd (true≢false (sym h))
intervals_from {c} x (with_part {p} {ps} l r a n) h = go (any_holds (listed (durable p)) x) refl (rw any_append at h) (λ k. intervals_from x n k)
  where
    go : (w : Bool) → any_holds (listed (durable p)) x ≡ w → pick w true (any_holds (intervals ps) x) ≡ true
        → (any_holds (intervals ps) x ≡ true → to_cut (planned_interval p) ≼ before x) → c ≼ before x
    go true e h ih = ≼_trans l (durable_in_plan p x (status p a) e).0
    go false e h ih = ≼_trans l (≼_trans (≺-≼ r) (ih h))

listings_none : {c e : Cut} (q : Table → Bool) (x : Key) (ts : List Table) → All (Fits c e) ts → (c ≼ before x → after x ≼ e → ⊥) → listings q x ts ≡ 0
unfolding listings
listings_none q x [] a f = refl
listings_none q x (t ∷ ts) a f = rw (listings_none q x ts a.1 f) (go (q t) (holds (own t) x) refl)
  where
    go : (b h : Bool) → holds (own t) x ≡ h → bit (b && h) + 0 ≡ 0
    go b true e = let w = fits_holds x a.0 e in absurd (f w.0 w.1)
    go true false e = refl
    go false false e = refl

listed_none : {c : Cut} {ps : List Part} (q : Table → Bool) (x : Key) → Planned c ps → before x ≺ c → listed_in q x ps ≡ 0
unfolding listed_in
listed_none q x no_parts h = refl
listed_none q x (with_part {p} {ps} l r a n) h =
    rw (listings_none q x p.outputs (fits_all a) (λ k m. ≼-not-≺ (≼_trans l k) h), listed_none q x n (≺-≼-trans h (≼_trans l (≺-≼ r))))

-- Inside the durable intervals the published views show what the listed outputs hold, and outside nothing.
pub job_shown : {c : Cut} {ps : List Part} (q : Table → Bool) (x : Key) → Planned c ps
    → shown q x (flat_map published ps) ≡ pick (any_holds (intervals ps) x) (listed_in q x ps) 0
unfolding flat_map intervals listed_in shown any_holds
job_shown q x no_parts = refl
job_shown q x (with_part {p} {ps} l r a n) =
    rw (shown_append, part_shown q x p a (status p a), job_shown q x n, any_append)
    (go (any_holds (listed (durable p)) x) (any_holds (intervals ps) x) refl refl)
  where
    go : (w v : Bool) → any_holds (listed (durable p)) x ≡ w → any_holds (intervals ps) x ≡ v
        → pick w (listings q x p.outputs) 0 + pick v (listed_in q x ps) 0 ≡ pick (pick w true v) (listings q x p.outputs + listed_in q x ps) 0
    go true v e f =
        rw (listed_none q x n (before-≺ (durable_in_plan p x (status p a) e).1)) (same_zero v)
      where
        same_zero : (v : Bool) → listings q x p.outputs + pick v 0 0 ≡ listings q x p.outputs + 0
        same_zero true = refl
        same_zero false = refl
    go false true e f = rw (listings_none q x p.outputs (fits_all a) (λ k m. ≼-not-≺ (≼_trans m (intervals_from x n f)) (before-≺-after x)))
    go false false e f = refl
