-- The layouts of document 01, "Images", in its order: each line of it is one definition, for reading and for writing.
use Rattle.std.specs.Prelude.{ℕ, ◌+◌, ◌*◌, ◌/◌, ◌%◌, ◌≤◌, Bool, true, false, List, length, leb, eqb}
use Rattle.std.proofs.Math.Option.{Option, none, some}
use Rattle.base.specs.Outcome.{Outcome, answer, check}
use Rattle.key.specs.Order.{Key}
use Rattle.comparable_range.specs.Range.{Range}
use Rattle.records.specs.Values.{Table, View, Run, Image, Part, Job, Block, Index, Anchor, Anchors, Plan}
use Rattle.records.specs.Form.{Form, number, bytes, key, range, packed, seq, named, optional, many}

-- ---- fields that share a byte or two
abbrev pub flag_number : Bool → ℕ
flag_number true = 1
flag_number false = 0

-- flag 1, padding 7
unfoldable pub flag_of : ℕ → Outcome Bool
flag_of w = check 2 (eqb (w % 128) 0) (answer (eqb (w / 128) 1))

abbrev pub flag : Form Bool
flag = packed 1 flag_of (λ f. flag_number f * 128) (λ f. Unit)

-- a count of n bytes, with a ceiling
unfoldable pub count_of : ℕ → ℕ → Outcome ℕ
count_of most w = check 3 (leb w most) (answer w)

abbrev pub up_to : ℕ → ℕ → Form ℕ
up_to n most = packed n (count_of most) (λ v. v) (λ v. v ≤ most)

-- view count 12, padding 4: the count comes before its padding
unfoldable pub view_count_of : ℕ → Outcome ℕ
view_count_of w = check 3 (leb (w / 16) 1024) (check 2 (eqb (w % 16) 0) (answer (w / 16)))

abbrev pub view_count : Form ℕ
view_count = packed 2 view_count_of (λ n. n * 16) (λ n. n ≤ 1024)

-- completed flag 1, output count 15
unfoldable pub outputs_of : ℕ → Outcome (Bool × ℕ)
outputs_of w = check 3 (leb (w % 32768) 1024) (answer (eqb (w / 32768) 1, w % 32768))

abbrev pub output_count : Form (Bool × ℕ)
output_count = packed 2 outputs_of (λ h. flag_number h.0 * 32768 + h.1) (λ h. h.1 ≤ 1024)

-- a count, and as many values
abbrev pub counted : {A : Type 0} → Form ℕ → Form A → Form (List A)
counted count f = named (λ p. p.1) (λ l. (length l, l)) (seq count (λ n. many f n))

abbrev pub is_there : {A : Type 0} → Option A → Bool
is_there none = false
is_there (some a) = true

-- ---- Table: id 128, index_offset 64, index_len 64, filter_offset 64, last_key flag 1, padding 7, first key, last key if flagged
abbrev TableFields : Type 0
TableFields = List ℕ × (ℕ × (ℕ × (ℕ × (Bool × (Key × Option Key)))))

abbrev pub table_of : TableFields → Table
table_of p =
    record {
      id = record { 0 = p.0 };
      index_offset = p.1.0;
      index_len = p.1.1.0;
      filter_offset = p.1.1.1.0;
      first = p.1.1.1.1.1.0;
      last = p.1.1.1.1.1.1;
    }

abbrev pub table_fields : Table → TableFields
table_fields t = (t.id.0, (t.index_offset, (t.index_len, (t.filter_offset, (is_there t.last, (t.first, t.last))))))

unfoldable pub table : Form Table
table =
    named table_of table_fields
    (seq (bytes 16) (λ id. seq (number 8) (λ offset. seq (number 8) (λ len. seq (number 8) (λ filter. seq flag (λ f. seq key (λ first. optional key f)))))))

-- ---- View: id 128, table, visible flag 1, padding 7, range if flagged
abbrev ViewFields : Type 0
ViewFields = List ℕ × (Table × (Bool × Option Range))

abbrev pub view_of : ViewFields → View
view_of p = record { id = record { 0 = p.0 }; table = p.1.0; visible = p.1.1.1 }

abbrev pub view_fields : View → ViewFields
view_fields v = (v.id.0, (v.table, (is_there v.visible, v.visible)))

unfoldable pub view : Form View
view = named view_of view_fields (seq (bytes 16) (λ id. seq table (λ t. seq flag (λ f. optional range f))))

-- ---- Image: run count 8; each run: id 32, view count 12, padding 4, views
unfoldable pub run : Form Run
run =
    named (λ p. record { id = p.0; views = p.1 }) (λ r. (r.id, r.views))
    (seq (number 4) (λ id. counted view_count view))

unfoldable pub image : Form Image
image = counted (up_to 1 64) run

-- ---- Job: destination 32, source count 8, source ids 32 each, part count 8; each part: range, completed flag 1, output
-- count 15, tables
abbrev PartFields : Type 0
PartFields = Range × ((Bool × ℕ) × List Table)

abbrev pub part_of : PartFields → Part
part_of p = record { planned = p.0; completed = p.1.0.0; outputs = p.1.1 }

abbrev pub part_fields : Part → PartFields
part_fields p = (p.planned, ((p.completed, length p.outputs), p.outputs))

unfoldable pub part : Form Part
part = named part_of part_fields (seq range (λ r. seq output_count (λ h. many table h.1)))

unfoldable pub job : Form Job
job =
    named (λ p. record { destination = p.0; sources = p.1.0; parts = p.1.1 }) (λ j. (j.destination, (j.sources, j.parts)))
    (seq (number 4) (λ destination. seq (counted (up_to 1 64) (number 4)) (λ sources. counted (up_to 1 64) part)))

-- ---- Index: block count 16; each block: offset 64, first key
unfoldable pub block : Form Block
block = named (λ p. record { offset = p.0; first = p.1 }) (λ b. (b.offset, b.first)) (seq (number 8) (λ offset. key))

unfoldable pub index : Form Index
index = counted (number 2) block

-- ---- Anchors: count 16; each: key, bytes 64
unfoldable pub anchor : Form Anchor
anchor = named (λ p. record { key = p.0; bytes = p.1 }) (λ a. (a.key, a.bytes)) (seq key (λ k. number 8))

unfoldable pub anchors : Form Anchors
anchors = counted (up_to 2 4096) anchor

-- ---- Plan, as answered: count 8; ranges
unfoldable pub plan : Form Plan
plan = counted (up_to 1 64) range
