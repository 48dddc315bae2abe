-- An index is a count and its blocks, anchors are a count and as many; and the exits of `block_at` and `anchor_at`.
-- Assumes nothing.
use Prim.Native.Nat.{ℕ, ◌+◌, ◌-◌, ◌^◌, ◌<◌, ◌≤◌}
use native.Mathlib.Omega.{arith}
use mathlib.Core.Path.{◌≡◌}
use mathlib.Core.List.{List}
use lib.ListN.{length, drop, length-drop}
use mir.Val.{Fits}
use mir.Syntax.{w64}
use Rattle.format.specs.Got.{got, and_then}
use Rattle.format.specs.Number.{read_number}
use Rattle.format.specs.Key.{read_key, KeyFound}
use Rattle.format.specs.declared.KeyRead.{KeyRead}
use Rattle.format.specs.declared.KeyRead.TheVariants.{At as KeyAt, Stop as KeyStop}
use Rattle.records.specs.Form.{number, read_many}
use Rattle.records.specs.Layouts.{up_to, block, index, anchor, anchors}
use Rattle.records.specs.Spans.{BlockFound, AnchorFound}
use Rattle.records.specs.declared.blocks.BlockRead.TheVariants.{At as BlockAt, Stop as BlockStop}
use Rattle.records.specs.declared.blocks.AnchorRead.TheVariants.{At as AnchorAt, Stop as AnchorStop}
use Rattle.records.proofs.FieldExits.{number_short}
use Rattle.records.proofs.HeadExits.{counted_is}

pub index_is : (l : List ℕ) → index.read l ≡ and_then (read_number 2 l) (read_many block.read)
unfolding index
index_is l = counted_is (number 2) block l

pub anchors_is : (l : List ℕ) → anchors.read l ≡ and_then ((up_to 2 4096).read l) (read_many anchor.read)
unfolding anchors
anchors_is l = counted_is (up_to 2 4096) anchor l

-- ---- eight bytes that are there
module _ (s : List ℕ) (at : ℕ) (h : 8 ≤ length s - at) where
  pub eight_there : at + 8 ≤ length s
  eight_there = omega arith

  pub past_fits : length s < 2 ^ 64 → Fits w64 (at + 8)
  past_fits k = omega arith

-- ---- block_at
module _ (s : List ℕ) (at : ℕ) where
  pub no_offset : at ≤ length s → length s - at < 8 → BlockFound s (block.read (drop at s)) (BlockStop 1)
  unfolding block
  no_offset h l = record { meaning = rw (number_short 8 (drop at s) (rw length-drop l)); inside = tt }

  module _ {o : ℕ} (e : read_number 8 (drop at s) ≡ got o (drop (at + 8) s)) {r : KeyRead} (x : KeyFound s (read_key (drop (at + 8) s)) r) where
    pub bad_first : {k : ℕ} → r ≡ KeyStop k → BlockFound s (block.read (drop at s)) (BlockStop k)
    unfolding block
    bad_first q = record { meaning = rw (e, ← x.meaning, q); inside = tt }

    pub block_read : {i m p : ℕ} → r ≡ KeyAt i m p → BlockFound s (block.read (drop at s)) (BlockAt o i m p)
    unfolding block
    block_read q =
        let v = rw q at x.inside in
        record { meaning = rw (e, ← x.meaning, q); inside = (rw v.0 v.1, v.1) }

pub ruleset block_exits = (eight_there, past_fits, no_offset, bad_first, block_read)

-- ---- anchor_at
module _ (s : List ℕ) (at : ℕ) {r : KeyRead} (x : KeyFound s (read_key (drop at s)) r) where
  pub bad_key : {k : ℕ} → r ≡ KeyStop k → AnchorFound s (anchor.read (drop at s)) (AnchorStop k)
  unfolding anchor
  bad_key q = record { meaning = rw (← x.meaning, q); inside = tt }

  module _ {i m p : ℕ} (q : r ≡ KeyAt i m p) where
    pub key_end : p ≤ length s
    key_end = (rw q at x.inside).1

    pub no_bytes : length s - p < 8 → AnchorFound s (anchor.read (drop at s)) (AnchorStop 1)
    unfolding anchor
    no_bytes l =
        record { meaning = rw (← x.meaning, q, number_short 8 (drop p s) (rw length-drop l)); inside = tt }

    pub anchor_read_lem :
        {v : ℕ}
        → 8 ≤ length s - p
        → read_number 8 (drop p s) ≡ got v (drop (p + 8) s)
        → AnchorFound s (anchor.read (drop at s)) (AnchorAt i m v (p + 8))
    unfolding anchor
    anchor_read_lem h e =
        let v = rw q at x.inside in
        record { meaning = rw (← x.meaning, q, e); inside = (rw v.0 v.1, omega arith) }

pub ruleset anchor_exits = (eight_there, past_fits, bad_key, key_end, no_bytes, anchor_read_lem)
