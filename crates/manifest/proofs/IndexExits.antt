-- What the loop over blocks keeps: those read so far, and whether their first keys ascend; and the exits of `index_at`.
-- Assumes nothing.
use Prim.Native.Nat.{ℕ, ◌+◌, ◌-◌, ◌^◌, ◌≤◌, ◌<◌, min}
use native.Mathlib.Omega.{arith}
use native.Mathlib.Nat.{add-zero}
use mathlib.Core.Path.{◌≡◌, refl, sym, ap, ◌∙◌}
use mathlib.Core.Bool.{true}
use mathlib.Core.List.{List, [], ◌∷◌, ◌++◌, map, map-append}
use lib.ListN.{length, drop, length-drop}
use mir.Val.{Fits}
use mir.Syntax.{w64}
use Rattle.key.specs.Order.{at_most}
use Rattle.comparable_range.specs.Range.{Bound, unbounded, included, cmp_bound}
use Rattle.comparable_range.specs.declared.Kind.TheVariants.{Unbounded, Included}
use Rattle.format.specs.Got.{got}
use Rattle.format.specs.Number.{read_number}
use Rattle.format.specs.Range.{bound_in, BoundInside}
use Rattle.format.specs.declared.range.BoundSpan.{BoundSpan}
use Rattle.records.specs.Form.{read_many}
use Rattle.records.specs.Values.{Block}
use Rattle.records.specs.Layouts.{block, index}
use Rattle.records.specs.Spans.{key_in, BlockFound}
use Rattle.records.specs.declared.blocks.BlockRead.{BlockRead}
use Rattle.records.specs.declared.blocks.BlockRead.TheVariants.{At as BlockAt, Stop as BlockStop}
use Rattle.records.proofs.Many.{Reading, begin, stopped, onward, all_read}
use Rattle.records.proofs.FieldExits.{number_short}
use Rattle.records.proofs.BlockExits.{index_is}
use Rattle.manifest.specs.Checks.{index_checks}
use Rattle.manifest.specs.Faults.{fault_of, least, ordered, last_of}
use Rattle.manifest.specs.Spans.{faults, JudgedFound}
use Rattle.manifest.specs.declared.images.Judged.{Judged}
use Rattle.manifest.specs.declared.images.Judged.TheVariants.{At, Stop}
use Rattle.manifest.proofs.Steps.{min_is_least, least_joined, ascend_more, last_more, ascend_from_unbounded}

-- ---- one more block in what is checked
abbrev firsts : List Block → List Bound
firsts bs = map (λ b. included b.first) bs

index_none : fault_of (index_checks []) ≡ 8
unfolding fault_of index_checks
index_none = refl

index_more :
    (seen : List Block) (b : Block)
    → fault_of (index_checks (seen ++ (b ∷ [])))
    ≡ least (fault_of (index_checks seen))
    (fault_of (ordered (at_most (cmp_bound true (last_of unbounded (firsts seen)) (included b.first)))))
unfolding index_checks
index_more seen b = simp (least_joined, map-append, ascend_from_unbounded, ascend_more)

-- ---- blocks_judged
pub record BlocksSeen (s : List ℕ) (from n k at fault : ℕ) (before : BoundSpan) : Type 0 where
  pub seen : List Block
  pub reading : Reading block.read s from n (n - k) at seen
  pub so_far : fault ≡ fault_of (index_checks seen)
  pub last : bound_in s before ≡ last_of unbounded (firsts seen)
  pub last_in_lem : BoundInside s before

abbrev free : ℕ → BoundSpan
free at = record { kind = Unbounded; at = at; len = 0 }

abbrev at_key : ℕ → ℕ → BoundSpan
at_key at len = record { kind = Included; at = at; len = len }

pub blocks_begin : (s : List ℕ) (from n : ℕ) → from ≤ length s → BlocksSeen s from n 0 from 8 (free from)
unfolding last_of
blocks_begin s from n h =
    let z : n - 0 ≡ n = omega arith in
    record { seen = []; reading = rw z (begin block.read s from n h); so_far = sym index_none; last = refl; last_in_lem = rw add-zero h }

module _ {s : List ℕ} {from n k at fault : ℕ} {before : BoundSpan} (p : BlocksSeen s from n k at fault before) where
  pub blocks_at : at ≤ length s
  blocks_at = p.reading.within

  pub before_in : BoundInside s before
  before_in = p.last_in_lem

  pub blocks_end : n ≤ k → JudgedFound s (faults index_checks (read_many block.read n (drop from s))) (At at fault)
  blocks_end h =
      let z : n - k ≤ 0 = omega arith in
      record { meaning = rw (all_read p.reading z, p.so_far); inside = p.reading.within }

  module _ (h : k < n) {r : BlockRead} (f : BlockFound s (block.read (drop at s)) r) where
    one_left : 0 < n - k
    one_left = omega arith

    pub blocks_stop : {j : ℕ} → r ≡ BlockStop j → JudgedFound s (faults index_checks (read_many block.read n (drop from s))) (Stop j)
    blocks_stop {j} q = record { meaning = rw (stopped p.reading {k = j} one_left (sym f.meaning ∙ rw q)); inside = tt }

    module _ {o i m next : ℕ} (q : r ≡ BlockAt o i m next) where
      pub first_in : BoundInside s (at_key i m)
      first_in = (rw q at f.inside).0

      pub blocks_onward :
          {a d : ℕ}
          → a ≡ fault_of (ordered (at_most (cmp_bound true (bound_in s before) (bound_in s (at_key i m)))))
          → d ≡ min fault a
          → BlocksSeen s from n (k + 1) next d (at_key i m)
      blocks_onward {a} {d} ha hd =
          let here : Block = record { offset = o; first = key_in s i m } in
          let z : n - k - 1 ≡ n - (k + 1) = omega arith in
          record {
            seen = p.seen ++ (here ∷ []);
            reading = rw z at (onward p.reading {a = here} one_left (sym f.meaning ∙ rw q) (rw q at f.inside).1);
            so_far = hd ∙ min_is_least fault a ∙ rw (ha, p.so_far, p.last) (sym (index_more p.seen here));
            last = sym (ap (last_of unbounded) (map-append _ p.seen (here ∷ [])) ∙ last_more unbounded (firsts p.seen) (included here.first));
            last_in_lem = first_in;
          }

pub ruleset blocks_exits = (blocks_begin, blocks_at, before_in, blocks_end, blocks_stop, first_in, blocks_onward)

-- ---- index_at
module _ (s : List ℕ) (at : ℕ) where
  pub no_blocks : at ≤ length s → length s - at < 2 → JudgedFound s (faults index_checks (index.read (drop at s))) (Stop 1)
  no_blocks h l =
      record { meaning = rw (index_is (drop at s), number_short 2 (drop at s) (rw length-drop l)); inside = tt }

  pub count_there : 2 ≤ length s - at → at + 2 ≤ length s
  count_there h = omega arith

  pub blocks_fit : 2 ≤ length s - at → length s < 2 ^ 64 → Fits w64 (at + 2)
  blocks_fit h k = omega arith

  pub index_read :
      {n : ℕ} {w : Judged}
      → read_number 2 (drop at s) ≡ got n (drop (at + 2) s)
      → JudgedFound s (faults index_checks (read_many block.read n (drop (at + 2) s))) w
      → JudgedFound s (faults index_checks (index.read (drop at s))) w
  index_read {n} e x =
      let z : index.read (drop at s) ≡ read_many block.read n (drop (at + 2) s) = index_is (drop at s) ∙ rw e in
      record { meaning = x.meaning ∙ sym (ap (faults index_checks) z); inside = x.inside }

pub ruleset index_exits = (no_blocks, count_there, blocks_fit, index_read)
