-- Demand 1 for C: a range that a call names is a stop where the outcome is one, and so leaves the buffer and the slot.
-- Assumes nothing.
use Prim.Native.Nat.{ℕ}
use native.Mathlib.Omega.{arith}
use mathlib.Core.Path.{◌≡◌, ◌∙◌}
use mathlib.Core.List.{List}
use lib.ListN.{length}
use Rattle.base.specs.Outcome.{Outcome, stop}
use Rattle.format.specs.Span.{joint_of}
use Rattle.format.specs.declared.span.Joined.{Joined}
use Rattle.format.specs.declared.span.Joined.TheVariants.{Range as Bounds, Nothing, Stop}
use Rattle.bilqarush.specs.ImageCalls.{view_range_answer}
use Rattle.bilqarush.specs.declared.images.ViewRange.{ViewRange}
use Rattle.bilqarush.specs.declared.images.ViewRange.TheVariants.{At as RangeAt, Stop as RangeStop}
use Rattle.told.specs.Told.{Held, Told}
use Rattle.told.specs.Laws.{Kept}
use Rattle.told.proofs.Laws.{refusal_keeps_the_buffer}
use Rattle.told_bytes.specs.Layouts.{joined_to, view_range_to}
use Rattle.told_bytes.specs.Laws.{RefusedRangeKeepsTheBuffer, RefusedViewKeepsTheBuffer}

kept_by : (n : ℕ) (out : Held (List ℕ)) (written : Held ℕ) (r : ℕ) {o : Outcome (List ℕ)} → o ≡ stop n → Told o out written r → (r ≡ n) × (Kept out × Kept written)
kept_by n out written r e t = refusal_keeps_the_buffer n out written r (rw e at t)

-- the range that a call names of its own choosing is a stop where the outcome is one
joined_stop : (room : ℕ) (a b : List ℕ) (n : ℕ) (j : Joined) → joint_of a b j ≡ stop n → joined_to room j ≡ stop n
unfolding joined_to
joined_stop room a b n (Bounds s e) h = absurd (let z : ◌≡◌ {A = ℕ} 0 1 = cc in omega arith)
joined_stop room a b n Nothing h = absurd (let z : ◌≡◌ {A = ℕ} 0 1 = cc in omega arith)
joined_stop room a b n (Stop k) h = let z : k ≡ n = cc in rw z

pub refused_range_keeps_the_buffer : RefusedRangeKeepsTheBuffer
refused_range_keeps_the_buffer a b n out written r t =
    kept_by n out written r (joined_stop (length out.before) a b n t.joined t.found.meaning) t.told

view_stop : (room : ℕ) (image : List ℕ) (n : ℕ) (v : ViewRange) → view_range_answer image v ≡ stop n → view_range_to room v ≡ stop n
unfolding view_range_to
view_stop room image n (RangeAt start end) h = absurd (let z : ◌≡◌ {A = ℕ} 0 1 = cc in omega arith)
view_stop room image n (RangeStop k) h = let z : k ≡ n = cc in rw z

pub refused_view_keeps_the_buffer : RefusedViewKeepsTheBuffer
refused_view_keeps_the_buffer image run view n out written r e t =
    kept_by n out written r (view_stop (length out.before) image n t.range (t.found.meaning ∙ e)) t.told
