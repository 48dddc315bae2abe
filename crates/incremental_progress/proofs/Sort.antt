-- Laws of the stable sort by start, with the order of cuts as statements: they are base's, at the order of cuts.
-- Assumes nothing.
use mathlib.Core.Path.{◌≡◌}
use mathlib.Core.Logic.{◌⊎◌}
use mathlib.Core.Bool.{false}
use mathlib.Core.List.{List, [], ◌∷◌, ◌++◌, flat_map}
use Rattle.base.specs.Lists.{All-map, Pairwise}
use Rattle.base.specs.Sort.{insert, sort, Preorder}
use Rattle.base.specs.SortLaws as sorting
use Rattle.base.proofs.SortLaws as laws
use Rattle.base.specs.StableSort.{alike, at}
use Rattle.base.specs.StableSortLaws as pieces
use Rattle.base.proofs.StableSortLaws as stable
use Rattle.comparable_range.specs.Cut.{Cut, cut_at_most, ◌≼◌, ◌≺◌}
use Rattle.comparable_range.proofs.Cut.{≼_trans, ≺-≼}

pub cut_preorder : Preorder cut_at_most
cut_preorder =
    record {
      total = λ c d h. (≺-≼ {c = d} {d = c} (record { fails = h })).holds;
      trans = λ b c d h k. (≼_trans {a = b} {b = c} {c = d} (record { holds = h }) (record { holds = k })).holds;
    }

pub alike_before : {c d : Cut} → c ≺ d → alike cut_at_most c d ≡ false
alike_before h = stable.alike_below cut_at_most h.fails

pub alike_after : {c d : Cut} → d ≺ c → alike cut_at_most c d ≡ false
alike_after h = stable.alike_above cut_at_most h.fails

module _ {A : Type 0} (start : A → Cut) where
  abbrev pub Sorted : List A → Type 0
  Sorted = Pairwise (λ x y. start x ≼ start y)

  tested : (xs : List A) → Sorted xs → sorting.Sorted cut_at_most start xs
  tested [] s = tt
  tested (x ∷ xs) s = (All-map (λ y h. h.holds) xs s.0, tested xs s.1)

  stated : (xs : List A) → sorting.Sorted cut_at_most start xs → Sorted xs
  stated [] s = tt
  stated (x ∷ xs) s = (All-map (λ y h. record { holds = h }) xs s.0, stated xs s.1)

  pub insert_first : {x y : A} (ys : List A) → start x ≼ start y → insert cut_at_most start x (y ∷ ys) ≡ x ∷ y ∷ ys
  insert_first ys h = laws.insert_first cut_at_most start ys h.holds

  pub insert_next : {x y : A} (ys : List A) → start y ≺ start x → insert cut_at_most start x (y ∷ ys) ≡ y ∷ insert cut_at_most start x ys
  insert_next ys h = laws.insert_next cut_at_most start ys h.fails

  pub sort_sorted : (xs : List A) → Sorted (sort cut_at_most start xs)
  sort_sorted xs = stated (sort cut_at_most start xs) (laws.sort_sorted cut_preorder start xs)

  pub sort_unique : (xs ys : List A) → Sorted xs → Sorted ys → ((c : Cut) → at cut_at_most start c xs ≡ at cut_at_most start c ys) → xs ≡ ys
  sort_unique xs ys s t e = stable.sort_unique cut_preorder start xs ys (tested xs s) (tested ys t) e

  -- Each element is cut into pieces by f. The pieces of an element that starts later share no start with those of a later one that starts sooner.
  module _ (f : A → List A) where
    abbrev pub Untied : A → A → Type 0
    Untied x y = start y ≺ start x → (c : Cut) → (at cut_at_most start c (f x) ≡ []) ⊎ (at cut_at_most start c (f y) ≡ [])

    untied : (xs : List A) → Pairwise Untied xs → Pairwise (pieces.Untied cut_at_most start f) xs
    untied [] p = tt
    untied (x ∷ xs) p = (All-map (λ y u h c. u (record { fails = h }) c) xs p.0, untied xs p.1)

    -- Sorting before the cut changes nothing that sorting after it does not.
    pub sort_between : (xs outs : List A) → Pairwise Untied xs → sort cut_at_most start (flat_map f (sort cut_at_most start xs) ++ outs) ≡ sort cut_at_most start (flat_map f xs ++ outs)
    sort_between xs outs p = stable.sort_between cut_preorder start f xs outs (untied xs p)
