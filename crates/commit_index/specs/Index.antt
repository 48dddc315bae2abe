-- What the table of an image's runs holds: four numbers a run. The places are in the image s.
use Rattle.std.specs.Prelude.{ℕ, ◌+◌, ◌≤◌, ◌≡◌, List, [], ◌∷◌, map, length, get_or, drop}
use Rattle.base.specs.Outcome.{answer}
use Rattle.base.specs.Outcome as outcome
use Rattle.base.specs.Rows.{rows_in, RowsHold}
use Rattle.format.specs.Got.{Got, got, stop}
use Rattle.format.specs.Whole.{ended}
use Rattle.records.specs.Form.{read_many}
use Rattle.records.specs.Found.{values_of}
use Rattle.records.specs.Values.{Run, Image}
use Rattle.records.specs.Layouts.{view, run, image}
use Rattle.manifest.specs.Checks.{image_checks}
use Rattle.manifest.specs.Faults.{fault_of, views_checks}
use Rattle.manifest.specs.Spans.{faults, JudgedFound}
use Rattle.manifest.specs.declared.images.Judged.{Judged}
use Rattle.manifest.specs.declared.images.Judged.TheVariants.{At, Stop}
use Rattle.commit_index.specs.declared.RunJudged.{RunJudged}
use Rattle.commit_index.specs.declared.RunJudged.TheVariants.{At as RunAt, Stop as RunStop}
use Rattle.commit_index.specs.declared.Indexed.{Indexed}
use Rattle.commit_index.specs.declared.Indexed.TheVariants.{At as IndexedAt, Stop as IndexedStop}
use Rattle.commit_index.specs.declared.runs.IndexedRun.{IndexedRun}

-- ---- the image that was read
abbrev pub image_of : List ℕ → Image
image_of s = values_of (image.read s)

abbrev pub image_ids : List ℕ → List ℕ
image_ids s = map (λ r. r.id) (image_of s)

-- ---- a run as numbers of a row, and back
abbrev pub indexed_of : List ℕ → IndexedRun
indexed_of row = record { id = get_or row 0 0; views = get_or row 1 0; first = get_or row 2 0; past = get_or row 3 0 }

abbrev pub indexed_numbers : IndexedRun → List ℕ
indexed_numbers r = r.id ∷ r.views ∷ r.first ∷ r.past ∷ []

-- the ids in the first n rows
abbrev pub row_ids : ℕ → List ℕ → List ℕ
row_ids n t = map (λ row. get_or row 0 0) (rows_in 4 n t)

-- ---- rows
-- h stands for the run, which begins at a place: an id and a view count in six bytes, and then its views
pub record RunHeld (s : List ℕ) (r : Run) (h : IndexedRun) : Type 0 where
  pub id : h.id ≡ r.id
  pub count : h.views ≡ length r.views
  pub few : h.views ≤ 1024
  pub at : ℕ
  pub first : h.first ≡ at + 6
  pub views_from : h.first ≤ length s
  pub past : h.past ≤ length s
  pub run_is : run.read (drop at s) ≡ got r (drop h.past s)
  pub views_are : read_many view.read h.views (drop h.first s) ≡ got r.views (drop h.past s)

abbrev pub RunIs : List ℕ → Run → List ℕ → Type 0
RunIs s r row = RunHeld s r (indexed_of row)

-- the n runs of the image
pub record IndexHold (s : List ℕ) (n : ℕ) (t : List ℕ) : Type 0 where
  pub count : n ≡ length (image_of s)
  pub most : n ≤ 64
  pub rows : RowsHold 4 (RunIs s) (image_of s) t

-- r is run k
pub record IndexedFound (s : List ℕ) (k : ℕ) (r : IndexedRun) : Type 0 where
  pub run : Run
  pub is : drop k (image_of s) ≡ run ∷ drop (k + 1) (image_of s)
  pub held : RunHeld s run r

-- ---- answers
-- h and fault tell of the run that a reader finds
pub record RunGot (s : List ℕ) (g : Got Run) (h : IndexedRun) (fault : ℕ) : Type 0 where
  pub run : Run
  pub is : g ≡ got run (drop h.past s)
  pub fault_is : fault ≡ fault_of (views_checks run.views)
  pub held : RunHeld s run h

abbrev pub RunAnswer : List ℕ → Got Run → RunJudged → Type 0
RunAnswer s g (RunAt h fault) = RunGot s g h fault
RunAnswer s g (RunStop k) = g ≡ stop k

pub record RunPassed (s : List ℕ) (g : Got Run) (r : RunJudged) : Type 0 where
  pub is : RunAnswer s g r

-- the runs that a reader finds, put into a table t
abbrev pub RunsKept : List ℕ → Got (List Run) → List ℕ → Judged → Type 0
RunsKept s g t (At next fault) = RowsHold 4 (RunIs s) (values_of g) t
RunsKept s g t (Stop k) = Unit

-- the table was d
pub record RunsIndexed (s : List ℕ) (g : Got (List Run)) (d t : List ℕ) (r : Judged) : Type 0 where
  pub found : JudgedFound s (faults image_checks g) r
  pub kept : RunsKept s g t r
  pub same : length t ≡ length d

-- n and fault tell of the image, and its runs stand in a table t
pub record ImageTold (s t : List ℕ) (n fault : ℕ) : Type 0 where
  pub is : ended (image.read s) ≡ answer (image_of s)
  pub fault_is : fault ≡ fault_of (image_checks (image_of s))
  pub runs : IndexHold s n t

abbrev pub ImageAnswer : List ℕ → List ℕ → Indexed → Type 0
ImageAnswer s t (IndexedAt n fault) = ImageTold s t n fault
ImageAnswer s t (IndexedStop k) = ended (image.read s) ≡ outcome.stop k

-- the table was d
pub record ImageIndexed (s d t : List ℕ) (r : Indexed) : Type 0 where
  pub is : ImageAnswer s t r
  pub same : length t ≡ length d
