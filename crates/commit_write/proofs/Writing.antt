-- What the loops keep that put rows by their numbers.
-- Assumes nothing.
use Prim.Native.Nat.{ℕ, zero, suc, ◌+◌, ◌*◌, ◌≤◌, ◌<◌, ◌^◌}
use native.Mathlib.Omega.{arith}
use mathlib.Core.Path.{◌≡◌, sym, ap, ◌∙◌}
use mathlib.Core.List.{List, [], ◌∷◌, ◌++◌, append-nil, flat_map}
use lib.ListN.{length, get_or, take, drop, length-append, take-append-drop}
use lib.Seq.{take_all}
use mir.Val.{Fits}
use mir.Syntax.{w64}
use Rattle.base.specs.Lists.{All, flat_map_append, flat_map_map}
use Rattle.base.specs.Rows.{row_at}
use Rattle.commit_rows.specs.Numbers.{row_of}
use Rattle.commit_rows.specs.Bytes.{RowInside, row_bytes}
use Rattle.commit_rows.specs.declared.rows.Row.{Row}
use Rattle.range_write.specs.Put.{Put}
use Rattle.commit_write.specs.Rows.{row_in, count_from, view_rows, view_bytes, numbered_bytes, RowThere, RowsThere}
use Rattle.range_write.proofs.Pieces.{put_none, put_same, second_room, both_put}
use Rattle.commit_write.proofs.Counting.{length_count, count_at, all_at, take_more}

-- the first i of the rows with the numbers ks are put at `to` of d
pub record Writing (image job ids t ks d : List ℕ) (to : ℕ) (out : List ℕ) (i past : ℕ) : Type 0 where
  pub upto : i ≤ length ks
  pub there : All (RowThere image job ids t) ks
  pub room : to + length (numbered_bytes image job ids t ks) ≤ length d
  pub put : Put d to (numbered_bytes image job ids t (take i ks)) out past

pub writing_begin :
    {image job ids t ks d : List ℕ} {to : ℕ}
    → All (RowThere image job ids t) ks
    → to + length (numbered_bytes image job ids t ks) ≤ length d
    → Writing image job ids t ks d to d 0 to
unfolding flat_map
writing_begin {image} {job} {ids} {t} {ks} {d} {to} a h = record { upto = omega arith; there = a; room = h; put = put_none d to }

one_numbered : (image job ids t : List ℕ) (k : ℕ) → numbered_bytes image job ids t (k ∷ []) ≡ row_bytes image job ids (row_in t k)
unfolding flat_map
one_numbered image job ids t k = append-nil (row_bytes image job ids (row_in t k))

module _ {image job ids t ks d : List ℕ} {to : ℕ} {out : List ℕ} {i past : ℕ} (p : Writing image job ids t ks d to out i past) where
  abbrev bytes : List ℕ → List ℕ
  bytes l = numbered_bytes image job ids t l

  pub writing_all : length ks ≤ i → Put d to (numbered_bytes image job ids t ks) out past
  writing_all h = rw (take_all i ks h) at p.put

  module _ (h : i < length ks) {k : ℕ} (e : k ≡ get_or ks i 0) where
    here : RowThere image job ids t k
    here = rw e (all_at (RowThere image job ids t) ks i p.there h)

    pub writing_row : k * 11 + 11 ≤ length t
    writing_row = here.long

    module _ {r : Row} (q : r ≡ row_of (row_at 11 k t)) where
      pub writing_inside : RowInside image job ids r
      writing_inside = rw q here.inside

      more : numbered_bytes image job ids t (take (i + 1) ks) ≡ numbered_bytes image job ids t (take i ks) ++ row_bytes image job ids r
      more =
          ap bytes (take_more ks i e h)
          ∙ flat_map_append (λ k. row_bytes image job ids (row_in t k)) (take i ks) (k ∷ [])
          ∙ ap (λ z. bytes (take i ks) ++ z) (one_numbered image job ids t k ∙ ap (row_bytes image job ids) (sym q))

      more_room : to + length (numbered_bytes image job ids t (take i ks) ++ row_bytes image job ids r) ≤ length d
      more_room =
          let s : numbered_bytes image job ids t (take (i + 1) ks ++ drop (i + 1) ks) ≡ bytes (take (i + 1) ks) ++ bytes (drop (i + 1) ks)
          = flat_map_append (λ k. row_bytes image job ids (row_in t k)) (take (i + 1) ks) (drop (i + 1) ks) in
          let l = length-append (bytes (take (i + 1) ks)) (bytes (drop (i + 1) ks)) in
          omega (arith, p.room, l, ap length s, ap (λ z. length (bytes z)) (take-append-drop (i + 1) ks), ap length more)

      pub writing_room : past + length (row_bytes image job ids r) ≤ length out
      writing_room = second_room d to (numbered_bytes image job ids t (take i ks)) (row_bytes image job ids r) more_room p.put

      pub writing_more : {out' : List ℕ} {past' : ℕ} → Put out past (row_bytes image job ids r) out' past' → Writing image job ids t ks d to out' (i + 1) past'
      writing_more {out'} {past'} u =
          record {
            upto = omega arith;
            there = p.there;
            room = p.room;
            put = put_same (both_put d to (numbered_bytes image job ids t (take i ks)) (row_bytes image job ids r) more_room p.put u) (sym more);
          }

-- ---- the numbers from a row on
pub rows_bytes : (image job ids t : List ℕ) (from n : ℕ) → view_bytes image job ids (view_rows from n t) ≡ numbered_bytes image job ids t (count_from from n)
rows_bytes image job ids t from n = flat_map_map (row_bytes image job ids) (row_in t) (count_from from n)

pub rows_fit : (image job ids t : List ℕ) (from n : ℕ) → RowsThere image job ids t from n → from < 2 ^ 64 → length t < 2 ^ 64 → Fits w64 (from + n)
rows_fit image job ids t from zero a f l = omega arith
rows_fit image job ids t from (suc n) a f l =
    let k = all_at (RowThere image job ids t) (count_from from (suc n)) n a (rw length_count (omega arith)) in
    omega (arith, k.long, count_at from (suc n) n (omega arith))
