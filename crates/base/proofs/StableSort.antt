-- The sort is stable, and no other list is a stable sort.
-- Assumes nothing.
use mathlib.Core.Path.{sym, ◌∙◌}
use Rattle.base.specs.Sort.{sort}
use Rattle.base.proofs.SortLaws.{sort_sorted}
use Rattle.base.specs.StableSort.{SortIsStable, OnlyTheSortIsStable}
use Rattle.base.proofs.StableSortLaws.{sort_permutes, sort_stable, sort_unique}

pub sort_is_stable : SortIsStable
sort_is_stable A K le o key xs = record { permutation = sort_permutes le key xs; ascending = sort_sorted o key xs; kept = λ c. sort_stable o key c xs }

pub only_the_sort_is_stable : OnlyTheSortIsStable
only_the_sort_is_stable A K le o key xs ys s =
    sort_unique o key ys (sort le key xs) s.ascending (sort_sorted o key xs) (λ c. s.kept c ∙ sym (sort_stable o key c xs))
