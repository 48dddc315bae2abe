-- What the walks keep that look for a place only.
-- Assumes nothing.
use Prim.Native.Nat.{ℕ, ◌+◌, ◌^◌, ◌<◌, ◌≤◌}
use native.Mathlib.Omega.{arith}
use mathlib.Core.List.{List, [], ◌∷◌, ◌++◌}
use lib.ListN.{length, drop}
use lib.Dec.{T}
use mir.Val.{Fits}
use mir.Syntax.{w64}
use Rattle.format.specs.Got.{Got}
use Rattle.format.specs.Key.{read_key}
use Rattle.format.specs.There.{KeyThere}
use Rattle.format.specs.declared.there.KeySpan.{KeySpan}
use Rattle.records.specs.Form.{read_many}
use Rattle.records.specs.Found.{is_got}
use Rattle.records.specs.Layouts.{view, block}
use Rattle.records.specs.Spans.{view_in}
use Rattle.records.specs.There.{ViewThere, Past}
use Rattle.records.specs.declared.views.ViewSpan.{ViewSpan}
use Rattle.records.proofs.ThereExits.{block_room, block_key, OneBlock, block_opened}
use Rattle.records.proofs.Walk.{Walk, walk_begin, walk_all, walk_here, walk_onward}

-- ---- a walk that keeps nothing but its place
pub record Walked {A : Type 0} (f : List ℕ → Got A) (s : List ℕ) (from n k at : ℕ) : Type 0 where
  pub seen : List A
  pub walk : Walk f s from n k at seen

pub past : {A : Type 0} {f : List ℕ → Got A} {s : List ℕ} {from n k at : ℕ} → Walked f s from n k at → n ≤ k → Past s (read_many f n (drop from s)) at
past p h = record { is = let e = walk_all p.walk h in rw e; inside = p.walk.reading.within }

-- ---- views_end
pub views_begin : (s : List ℕ) (from n : ℕ) → from ≤ length s → T (is_got (read_many view.read n (drop from s))) → Walked view.read s from n 0 from
views_begin s from n h t = record { seen = []; walk = walk_begin view.read s from n h t }

module _ {s : List ℕ} {from n k at : ℕ} (p : Walked view.read s from n k at) where
  pub views_past : n ≤ k → Past s (read_many view.read n (drop from s)) at
  views_past h = past p h

  pub view_here : k < n → T (is_got (view.read (drop at s)))
  view_here h = walk_here p.walk h

  pub views_onward : {v : ViewSpan} → k < n → ViewThere s (view.read (drop at s)) v → Walked view.read s from n (k + 1) v.past
  views_onward {v} h f = record { seen = p.seen ++ (view_in s v ∷ []); walk = walk_onward p.walk h f.meaning f.inside.past }

pub ruleset view_walk = (views_begin, views_past, view_here, views_onward)

-- ---- blocks_past
pub blocks_begin : (s : List ℕ) (from n : ℕ) → from ≤ length s → T (is_got (read_many block.read n (drop from s))) → Walked block.read s from n 0 from
blocks_begin s from n h t = record { seen = []; walk = walk_begin block.read s from n h t }

module _ {s : List ℕ} {from n k at : ℕ} (p : Walked block.read s from n k at) where
  pub blocks_end : n ≤ k → Past s (read_many block.read n (drop from s)) at
  blocks_end h = past p h

  module _ (h : k < n) where
    here : T (is_got (block.read (drop at s)))
    here = walk_here p.walk h

    pub offset_fits : length s < 2 ^ 64 → Fits w64 (at + 8)
    offset_fits l = omega (arith, block_room s at here)

    pub first_here : T (is_got (read_key (drop (at + 8) s)))
    first_here = block_key s at here

    pub blocks_onward : {m : KeySpan} → KeyThere s (read_key (drop (at + 8) s)) m → Walked block.read s from n (k + 1) (m.at + m.len)
    blocks_onward {m} f =
        let o : OneBlock s at m = block_opened s at here f in
        record { seen = p.seen ++ (o.value ∷ []); walk = walk_onward p.walk h o.is f.inside }

pub ruleset block_walk = (blocks_begin, blocks_end, offset_fits, first_here, blocks_onward)
