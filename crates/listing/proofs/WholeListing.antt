-- The exits of `listing_len` and `put_listing`: the header, and then the lines of all runs.
-- Assumes nothing.
use Prim.Native.Nat.{ℕ, ◌+◌, ◌≤◌}
use native.Mathlib.Omega.{arith}
use native.Mathlib.Nat.{zero-add}
use mathlib.Core.Path.{◌≡◌, refl, sym, ap, ◌∙◌}
use mathlib.Core.List.{List, ◌++◌}
use lib.ListN.{length, drop, length-append}
use lib.Dec.{T}
use mir.Val.{Fits}
use mir.Syntax.{w64}
use Rattle.base.specs.Outcome.{over}
use Rattle.base.specs.Splice.{splice, length_splice, splice_splice}
use Rattle.records.specs.Form.{read_many}
use Rattle.records.specs.Found.{is_got, values_of}
use Rattle.records.specs.Layouts.{run, image}
use Rattle.records.specs.There.{RunsThere}
use Rattle.listing.specs.Listing.{header, run_lines, listing}

over_splice : (d b : List ℕ) → splice d 0 b ≡ over b d
over_splice d b = rw zero-add

module _ {s : List ℕ} (t : T (is_got (image.read s))) {n : ℕ} (f : RunsThere s (image.read s) n) where
  pub runs_from : 1 ≤ length s
  runs_from = f.inside

  pub runs_most : n ≤ 64
  runs_most = f.most

  pub runs_there : T (is_got (read_many run.read n (drop 1 s)))
  runs_there = rw f.meaning at t

  listing_is : listing (values_of (image.read s)) ≡ header ++ run_lines (values_of (read_many run.read n (drop 1 s)))
  unfolding listing
  listing_is = rw f.meaning

  size : length (listing (values_of (image.read s))) ≡ 25 + length (run_lines (values_of (read_many run.read n (drop 1 s))))
  size = ap length listing_is ∙ length-append header (run_lines (values_of (read_many run.read n (drop 1 s))))

  pub all_measured : {k : ℕ} → k ≡ length (run_lines (values_of (read_many run.read n (drop 1 s)))) → 25 + k ≡ length (listing (values_of (image.read s)))
  all_measured e = omega (arith, size)

  module _ (d : List ℕ) (room : length (listing (values_of (image.read s))) ≤ length d) where
    pub header_room : 25 ≤ length d
    header_room = omega (arith, size)

    module _ {g : List ℕ} (p : g ≡ splice d 0 header) where
      pub runs_room : 25 + length (run_lines (values_of (read_many run.read n (drop 1 s)))) ≤ length g
      runs_room = rw (p, length_splice d 0 header header_room) (omega (arith, size))

      pub all_put : {h : List ℕ} → h ≡ splice g 25 (run_lines (values_of (read_many run.read n (drop 1 s)))) → h ≡ over (listing (values_of (image.read s))) d
      all_put w =
          w
          ∙ ap (λ l. splice l 25 (run_lines (values_of (read_many run.read n (drop 1 s))))) p
          ∙ splice_splice d 0 header (run_lines (values_of (read_many run.read n (drop 1 s)))) 25 refl header_room
          ∙ ap (splice d 0) (sym listing_is)
          ∙ over_splice d (listing (values_of (image.read s)))

pub lines_fit : {k : ℕ} → k ≤ 17185046528 → Fits w64 (25 + k)
lines_fit h = omega arith

pub ruleset listing_len_exits = (runs_from, runs_most, runs_there, all_measured, lines_fit)

pub ruleset listing_put_exits = (runs_from, runs_there, header_room, runs_room, all_put)
