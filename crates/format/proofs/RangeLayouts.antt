-- Ranges are a layout: the head byte and its two kinds tell of each other, and each bound is a key or nothing.
-- Assumes nothing.
use Prim.Native.Nat.{ℕ, ◌<◌}
use mathlib.Core.Path.{◌≡◌, refl, sym, ap, ◌∙◌}
use mathlib.Core.Bool.{Bool, true}
use mathlib.Core.List.{List, [], ◌∷◌, ◌++◌, append_assoc}
use native.Mathlib.Omega.{arith}
use lib.Dec.{eqb, eqb→eq}
use Rattle.base.specs.Bytes.{Bytes, bytes_tail, bytes_rest}
use Rattle.base.specs.Table.{below_all}
use Rattle.comparable_range.specs.Range.{Bound, unbounded, included, excluded, Range}
use Rattle.comparable_range.specs.declared.Kind.{Kind}
use Rattle.comparable_range.specs.declared.Kind.TheVariants.{Unbounded, Included, Excluded}
use Rattle.format.specs.Got.{Got, got, and_then}
use Rattle.format.specs.Key.{read_key}
use Rattle.format.specs.Range.{head_of, head_byte, kind_of_bound, read_bound, write_bound, headed, read_range, write_range}
use Rattle.format.specs.Laws.{Written, BoundWithin, RangeWithin, RangeLayout}
use Rattle.format.specs.declared.range.Head.{Head}
use Rattle.format.specs.declared.range.Head.TheVariants.{Kinds, Stop as HeadStop}
use Rattle.format.proofs.Layouts.{came, key_layout}

-- ---- the head byte
pub head_back : (ks ke : Kind) → head_of (head_byte ks ke) ≡ Kinds ks ke
unfolding head_of
head_back Unbounded Unbounded = refl
head_back Unbounded Included = refl
head_back Unbounded Excluded = refl
head_back Included Unbounded = refl
head_back Included Included = refl
head_back Included Excluded = refl
head_back Excluded Unbounded = refl
head_back Excluded Included = refl
head_back Excluded Excluded = refl

abbrev is_head : ℕ → Head → Bool
is_head b (Kinds ks ke) = eqb b (head_byte ks ke)
is_head b (HeadStop n) = true

-- a byte that is read as two kinds is theirs: computed for each byte
head_only : (b : ℕ) (ks ke : Kind) → b < 256 → head_of b ≡ Kinds ks ke → b ≡ head_byte ks ke
unfolding head_of
head_only b ks ke h e = eqb→eq b (head_byte ks ke) (rw e at (below_all (λ b. is_head b (head_of b)) 256 tt b h))

-- ---- bounds
bound_back : (b : Bound) (r : List ℕ) → BoundWithin b → read_bound (kind_of_bound b) (write_bound b ++ r) ≡ got b r
unfolding read_bound write_bound
bound_back unbounded r h = refl
bound_back (included k) r h = rw (key_layout.back k r h)
bound_back (excluded k) r h = rw (key_layout.back k r h)

record BoundWritten (k : Kind) (l : List ℕ) (b : Bound) (r : List ℕ) : Type 0 where
  kind : kind_of_bound b ≡ k
  bytes : l ≡ write_bound b ++ r
  within : BoundWithin b

same_written : {k : Kind} {l : List ℕ} {b c : Bound} {r q : List ℕ} → b ≡ c → r ≡ q → BoundWritten k l c q → BoundWritten k l b r
same_written x y w = rw (x, y) w

bound_only : (k : Kind) (l : List ℕ) (b : Bound) (r : List ℕ) → Bytes l → read_bound k l ≡ got b r → BoundWritten k l b r
unfolding read_bound write_bound
bound_only Unbounded l b r h e =
    let x : b ≡ unbounded = cc in
    let y : r ≡ l = cc in
    same_written x y (record { kind = refl; bytes = refl; within = tt })
bound_only Included l b r h e =
    let c = came (read_key l) (λ k r. got (included k) r) b r e in
    let x : b ≡ included c.value = cc c.second in
    let y : r ≡ c.rest = cc c.second in
    let w = key_layout.only l c.value c.rest h c.first in
    same_written x y (record { kind = refl; bytes = w.bytes; within = w.within })
bound_only Excluded l b r h e =
    let c = came (read_key l) (λ k r. got (excluded k) r) b r e in
    let x : b ≡ excluded c.value = cc c.second in
    let y : r ≡ c.rest = cc c.second in
    let w = key_layout.only l c.value c.rest h c.first in
    same_written x y (record { kind = refl; bytes = w.bytes; within = w.within })

-- ---- ranges
range_back : (v : Range) (r : List ℕ) → RangeWithin v → read_range (write_range v ++ r) ≡ got v r
unfolding read_range write_range
range_back v r h =
    rw (
      head_back (kind_of_bound v.start) (kind_of_bound v.end),
      append_assoc,
      bound_back v.start (write_bound v.end ++ r) h.start,
      bound_back v.end r h.end,
    )

abbrev both : Kind → Kind → List ℕ → Got Range
both ks ke l = and_then (read_bound ks l) (λ s r. and_then (read_bound ke r) (λ e q. got (record { start = s; end = e }) q))

same_range_lem : {l m : List ℕ} {v u : Range} {r q : List ℕ} → l ≡ m → v ≡ u → r ≡ q → Written write_range RangeWithin m u q → Written write_range RangeWithin l v r
same_range_lem x y z w = rw (x, y, z) w

after_head : (b : ℕ) (ks ke : Kind) (l : List ℕ) (v : Range) (r : List ℕ) → b ≡ head_byte ks ke → Bytes l → both ks ke l ≡ got v r → Written write_range RangeWithin (b ∷ l) v r
unfolding write_range
after_head b ks ke l v r h bytes e =
    let c = came (read_bound ks l) _ v r e in
    let s = bound_only ks l c.value c.rest bytes c.first in
    let d = came (read_bound ke c.rest) _ v r c.second in
    let t = bound_only ke c.rest d.value d.rest (bytes_rest (write_bound c.value) c.rest (rw s.bytes at bytes)) d.first in
    let x : v ≡ record { start = c.value; end = d.value } = cc d.second in
    let y : r ≡ d.rest = cc d.second in
    same_range_lem
    (ap (λ n. n ∷ l) h ∙ ap (λ m. head_byte ks ke ∷ m) (s.bytes ∙ ap (λ m. write_bound c.value ++ m) t.bytes ∙ sym (append_assoc (write_bound c.value) (write_bound d.value) d.rest)))
    x
    y
    (record {
      bytes = rw (s.kind, t.kind);
      within = record { start = s.within; end = t.within };
    })

headed_only : (b : ℕ) (g : Head) (l : List ℕ) (v : Range) (r : List ℕ) → head_of b ≡ g → b < 256 → Bytes l → headed g l ≡ got v r → Written write_range RangeWithin (b ∷ l) v r
headed_only b (HeadStop n) l v r q h bytes e = absurd (let z : ◌≡◌ {A = ℕ} 0 1 = cc in omega arith)
headed_only b (Kinds ks ke) l v r q h bytes e = after_head b ks ke l v r (head_only b ks ke h q) bytes e

range_only : (l : List ℕ) (v : Range) (r : List ℕ) → Bytes l → read_range l ≡ got v r → Written write_range RangeWithin l v r
unfolding read_range
range_only [] v r bytes e = absurd (let z : ◌≡◌ {A = ℕ} 0 1 = cc in omega arith)
range_only (b ∷ l) v r bytes e = headed_only b (head_of b) l v r refl (bytes.below 0) (bytes_tail bytes) e

pub range_layout : RangeLayout
range_layout = record { back = range_back; only = range_only }
