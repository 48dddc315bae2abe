-- The listing of an image, as `runlist` prints it. Document 01, program `runlist`.
use Rattle.std.specs.Prelude.{ℕ, suc, List, [], ◌∷◌, ◌++◌}
use Rattle.comparable_range.specs.Range.{Bound, unbounded, included, excluded, Range}
use Rattle.text.specs.Text.{decimal, hex}
use Rattle.records.specs.Values.{View, Run, Image}
use Rattle.manifest.specs.Ranges.{effective}

-- `run view table start end` and a newline, in ASCII
abbrev pub header : List ℕ
header =
    114 ∷ 117 ∷ 110 ∷ 32
    ∷ 118 ∷ 105 ∷ 101 ∷ 119 ∷ 32
    ∷ 116 ∷ 97 ∷ 98 ∷ 108 ∷ 101 ∷ 32
    ∷ 115 ∷ 116 ∷ 97 ∷ 114 ∷ 116 ∷ 32
    ∷ 101 ∷ 110 ∷ 100 ∷ 10 ∷ []

-- [ before the key of an included start, ( before that of an excluded one; - for an unbounded one
unfoldable pub start_text : Bound → List ℕ
start_text unbounded = 45 ∷ []
start_text (included k) = 91 ∷ hex k
start_text (excluded k) = 40 ∷ hex k

-- ] after the key of an included end, ) after that of an excluded one
unfoldable pub end_text : Bound → List ℕ
end_text unbounded = 45 ∷ []
end_text (included k) = hex k ++ (93 ∷ [])
end_text (excluded k) = hex k ++ (41 ∷ [])

-- a word, and the space or the newline after it
abbrev pub spaced : List ℕ → List ℕ
spaced w = w ++ (32 ∷ [])

abbrev pub closed : List ℕ → List ℕ
closed w = w ++ (10 ∷ [])

-- the run's id, the view's place in the run, and the table's id
unfoldable pub names : ℕ → ℕ → List ℕ → List ℕ
names id place table = spaced (decimal id) ++ (spaced (decimal place) ++ spaced (hex table))

-- the bounds of a range
unfoldable pub bounds_text : Range → List ℕ
bounds_text r = spaced (start_text r.start) ++ closed (end_text r.end)

unfoldable pub line : ℕ → ℕ → View → List ℕ
line id place v = names id place v.table.id.0 ++ bounds_text (effective v)

-- a run's views, of which the first is at a place
unfoldable pub lines : ℕ → ℕ → List View → List ℕ
lines id place [] = []
lines id place (v ∷ vs) = line id place v ++ lines id (suc place) vs

unfoldable pub run_lines : List Run → List ℕ
run_lines [] = []
run_lines (r ∷ rs) = lines r.id 0 r.views ++ run_lines rs

unfoldable pub listing : Image → List ℕ
listing i = header ++ run_lines i
