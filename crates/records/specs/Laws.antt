-- The promises on layouts: what is written reads back, and what is accepted is the writing of its value. Their proofs
-- are in proofs/.
use Rattle.format.specs.Laws.{Layout}
use Rattle.records.specs.Form.{Form}
use Rattle.records.specs.Layouts.{table, view, run, image, part, job, block, index, anchor, anchors, plan}

abbrev pub Lawful : {A : Type 0} → Form A → Type 0
Lawful f = Layout f.read f.write f.Within

abbrev pub TableLayout : Type 0
TableLayout = Lawful table

abbrev pub ViewLayout : Type 0
ViewLayout = Lawful view

abbrev pub RunLayout : Type 0
RunLayout = Lawful run

abbrev pub ImageLayout : Type 0
ImageLayout = Lawful image

abbrev pub PartLayout : Type 0
PartLayout = Lawful part

abbrev pub JobLayout : Type 0
JobLayout = Lawful job

abbrev pub BlockLayout : Type 0
BlockLayout = Lawful block

abbrev pub IndexLayout : Type 0
IndexLayout = Lawful index

abbrev pub AnchorLayout : Type 0
AnchorLayout = Lawful anchor

abbrev pub AnchorsLayout : Type 0
AnchorsLayout = Lawful anchors

abbrev pub PlanLayout : Type 0
PlanLayout = Lawful plan
