-- What the code's answers say of the bytes s that they point into.
use Rattle.std.specs.Prelude.{ℕ, zero, suc, ◌+◌, ◌*◌, ◌≤◌, ◌≡◌, Bool, List, [], ◌∷◌, length, take, drop}
use Rattle.std.proofs.Math.Option.{Option, none, some}
use Rattle.base.specs.Pick.{pick}
use Rattle.base.specs.Outcome.{Outcome, answer}
use Rattle.base.specs.Outcome as outcome
use Rattle.key.specs.Order.{Key}
use Rattle.key.specs.Word.{digits}
use Rattle.comparable_range.specs.Range.{Range}
use Rattle.format.specs.Got.{Got, got, stop}
use Rattle.format.specs.Key.{KeyInside}
use Rattle.format.specs.Range.{range_in, BoundInside, RangeInside}
use Rattle.format.specs.declared.KeyRead.{KeyRead}
use Rattle.format.specs.declared.KeyRead.TheVariants.{At as KeyAt, Stop as KeyStop}
use Rattle.format.specs.declared.range.RangeRead.{RangeRead}
use Rattle.format.specs.declared.range.RangeRead.TheVariants.{At as RangeAt, Stop as RangeStop}
use Rattle.records.specs.Form.{Form, number, key, range, seq, read_if}
use Rattle.records.specs.Values.{Table, View, Block, Anchor}
use Rattle.records.specs.Layouts.{view_count, output_count, up_to, counted}
use Rattle.records.specs.declared.blocks.BlockRead.{BlockRead}
use Rattle.records.specs.declared.blocks.BlockRead.TheVariants.{At as BlockAt, Stop as BlockStop}
use Rattle.records.specs.declared.blocks.AnchorRead.{AnchorRead}
use Rattle.records.specs.declared.blocks.AnchorRead.TheVariants.{At as AnchorAt, Stop as AnchorStop}
use Rattle.records.specs.declared.fields.FlagRead.{FlagRead}
use Rattle.records.specs.declared.fields.FlagRead.TheVariants.{Is, Stop as FlagStop}
use Rattle.records.specs.declared.tables.TableSpan.{TableSpan}
use Rattle.records.specs.declared.tables.TableRead.{TableRead}
use Rattle.records.specs.declared.tables.TableRead.TheVariants.{At as TableAt, Stop as TableStop}
use Rattle.records.specs.declared.views.ViewSpan.{ViewSpan}
use Rattle.records.specs.declared.views.ViewRead.{ViewRead}
use Rattle.records.specs.declared.views.ViewRead.TheVariants.{At as ViewAt, Stop as ViewStop}
use Rattle.records.specs.declared.runs.RunRead.{RunRead}
use Rattle.records.specs.declared.runs.RunRead.TheVariants.{At as RunAt, Stop as RunStop}
use Rattle.records.specs.declared.runs.CountRead.{CountRead}
use Rattle.records.specs.declared.runs.CountRead.TheVariants.{At as CountAt, Stop as CountStop}
use Rattle.records.specs.declared.parts.PartRead.{PartRead}
use Rattle.records.specs.declared.parts.PartRead.TheVariants.{At as PartAt, Stop as PartStop}
use Rattle.records.specs.declared.parts.SourcesRead.{SourcesRead}
use Rattle.records.specs.declared.parts.SourcesRead.TheVariants.{At as SourcesAt, Stop as SourcesStop}
use Rattle.records.specs.declared.parts.JobRead.{JobRead}
use Rattle.records.specs.declared.parts.JobRead.TheVariants.{At as JobAt, Stop as JobStop}

abbrev pub flag_read : FlagRead → Outcome Bool
flag_read (Is f) = answer f
flag_read (FlagStop n) = outcome.stop n

-- a value that is there if a flag says so
abbrev pub if_so : {A : Type 0} → Bool → A → Option A
if_so f a = pick f (some a) none

abbrev pub key_in : List ℕ → ℕ → ℕ → Key
key_in s at len = take len (drop at s)

-- ---- tables
unfoldable pub last_if : Bool → List ℕ → Got (Option Key)
last_if f l = read_if key f l

abbrev pub last_read : List ℕ → Bool → KeyRead → Got (Option Key)
last_read s f (KeyAt at len next) = got (if_so f (key_in s at len)) (drop next s)
last_read s f (KeyStop n) = stop n

pub record LastFound (s : List ℕ) (f : Bool) (g : Got (Option Key)) (r : KeyRead) : Type 0 where
  pub meaning : last_read s f r ≡ g
  pub inside : KeyInside s r

abbrev pub table_in : List ℕ → TableSpan → Table
table_in s t =
    record {
      id = record { 0 = take 16 (drop t.id s) };
      index_offset = t.index_offset;
      index_len = t.index_len;
      filter_offset = t.filter_offset;
      first = key_in s t.first_at t.first_len;
      last = if_so t.flagged (key_in s t.last_at t.last_len);
    }

pub record TableInside (s : List ℕ) (t : TableSpan) : Type 0 where
  pub id : t.id + 16 ≤ length s
  pub first : t.first_at + t.first_len ≤ length s
  pub last : t.last_at + t.last_len ≤ length s
  pub past : t.past ≤ length s

abbrev pub table_read : List ℕ → TableRead → Got Table
table_read s (TableAt t) = got (table_in s t) (drop t.past s)
table_read s (TableStop n) = stop n

abbrev pub TableReadInside : List ℕ → TableRead → Type 0
TableReadInside s (TableAt t) = TableInside s t
TableReadInside s (TableStop n) = Unit

-- the table that a reader finds stands where the answer says
pub record TableFound (s : List ℕ) (g : Got Table) (r : TableRead) : Type 0 where
  pub meaning : table_read s r ≡ g
  pub inside : TableReadInside s r

-- ---- views
unfoldable pub range_if : Bool → List ℕ → Got (Option Range)
range_if f l = read_if range f l

abbrev pub visible_read : List ℕ → Bool → RangeRead → Got (Option Range)
visible_read s f (RangeAt start end next) = got (if_so f (range_in s start end)) (drop next s)
visible_read s f (RangeStop n) = stop n

pub record VisibleFound (s : List ℕ) (f : Bool) (g : Got (Option Range)) (r : RangeRead) : Type 0 where
  pub meaning : visible_read s f r ≡ g
  pub inside : RangeInside s r

abbrev pub view_in : List ℕ → ViewSpan → View
view_in s v =
    record {
      id = record { 0 = take 16 (drop v.id s) };
      table = table_in s v.table;
      visible = if_so v.shown (range_in s v.start v.end);
    }

pub record ViewInside (s : List ℕ) (v : ViewSpan) : Type 0 where
  pub id : v.id + 16 ≤ length s
  pub table : TableInside s v.table
  pub start : BoundInside s v.start
  pub end : BoundInside s v.end
  pub past : v.past ≤ length s

abbrev pub view_read : List ℕ → ViewRead → Got View
view_read s (ViewAt v) = got (view_in s v) (drop v.past s)
view_read s (ViewStop n) = stop n

abbrev pub ViewReadInside : List ℕ → ViewRead → Type 0
ViewReadInside s (ViewAt v) = ViewInside s v
ViewReadInside s (ViewStop n) = Unit

pub record ViewFound (s : List ℕ) (g : Got View) (r : ViewRead) : Type 0 where
  pub meaning : view_read s r ≡ g
  pub inside : ViewReadInside s r

-- ---- runs: id and view count
abbrev pub run_head : Form (ℕ × ℕ)
run_head = seq (number 4) (λ id. view_count)

abbrev pub run_read : List ℕ → RunRead → Got (ℕ × ℕ)
run_read s (RunAt id views next) = got (id, views) (drop next s)
run_read s (RunStop n) = stop n

abbrev pub RunReadInside : List ℕ → RunRead → Type 0
RunReadInside s (RunAt id views next) = next ≤ length s
RunReadInside s (RunStop n) = Unit

pub record RunFound (s : List ℕ) (g : Got (ℕ × ℕ)) (r : RunRead) : Type 0 where
  pub meaning : run_read s r ≡ g
  pub inside : RunReadInside s r

-- ---- counts
abbrev pub count_read : List ℕ → CountRead → Got ℕ
count_read s (CountAt n next) = got n (drop next s)
count_read s (CountStop n) = stop n

abbrev pub CountInside : List ℕ → CountRead → Type 0
CountInside s (CountAt n next) = next ≤ length s
CountInside s (CountStop n) = Unit

pub record CountFound (s : List ℕ) (g : Got ℕ) (r : CountRead) : Type 0 where
  pub meaning : count_read s r ≡ g
  pub inside : CountInside s r

-- ---- parts: planned range, completed flag and output count
abbrev pub part_head : Form (Range × (Bool × ℕ))
part_head = seq range (λ r. output_count)

abbrev pub part_read : List ℕ → PartRead → Got (Range × (Bool × ℕ))
part_read s (PartAt start end completed outputs next) = got (range_in s start end, (completed, outputs)) (drop next s)
part_read s (PartStop n) = stop n

abbrev pub PartReadInside : List ℕ → PartRead → Type 0
PartReadInside s (PartAt start end completed outputs next) = BoundInside s start × (BoundInside s end × (next ≤ length s))
PartReadInside s (PartStop n) = Unit

pub record PartFound (s : List ℕ) (g : Got (Range × (Bool × ℕ))) (r : PartRead) : Type 0 where
  pub meaning : part_read s r ≡ g
  pub inside : PartReadInside s r

-- ---- sources: a count, and as many ids
abbrev pub sources : Form (List ℕ)
sources = counted (up_to 1 64) (number 4)

-- n ids of 4 bytes, one after another
unfoldable pub ids_in : ℕ → List ℕ → List ℕ
ids_in zero l = []
ids_in (suc n) l = digits 0 (take 4 l) ∷ ids_in n (drop 4 l)

abbrev pub sources_read : List ℕ → SourcesRead → Got (List ℕ)
sources_read s (SourcesAt count from next) = got (ids_in count (drop from s)) (drop next s)
sources_read s (SourcesStop n) = stop n

abbrev pub SourcesInside : List ℕ → SourcesRead → Type 0
SourcesInside s (SourcesAt count from next) = (from + 4 * count ≡ next) × (next ≤ length s)
SourcesInside s (SourcesStop n) = Unit

pub record SourcesFound (s : List ℕ) (g : Got (List ℕ)) (r : SourcesRead) : Type 0 where
  pub meaning : sources_read s r ≡ g
  pub inside : SourcesInside s r

-- ---- jobs: destination, sources and part count
abbrev pub job_head : Form (ℕ × (List ℕ × ℕ))
job_head = seq (number 4) (λ destination. seq sources (λ ids. up_to 1 64))

abbrev pub job_read : List ℕ → JobRead → Got (ℕ × (List ℕ × ℕ))
job_read s (JobAt destination count from parts next) = got (destination, (ids_in count (drop from s), parts)) (drop next s)
job_read s (JobStop n) = stop n

abbrev pub JobReadInside : List ℕ → JobRead → Type 0
JobReadInside s (JobAt destination count from parts next) = (from + 4 * count ≤ length s) × (next ≤ length s)
JobReadInside s (JobStop n) = Unit

pub record JobFound (s : List ℕ) (g : Got (ℕ × (List ℕ × ℕ))) (r : JobRead) : Type 0 where
  pub meaning : job_read s r ≡ g
  pub inside : JobReadInside s r

-- ---- the blocks of an index
abbrev pub block_read : List ℕ → BlockRead → Got Block
block_read s (BlockAt offset start len next) = got (record { offset = offset; first = key_in s start len }) (drop next s)
block_read s (BlockStop n) = stop n

abbrev pub BlockInside : List ℕ → BlockRead → Type 0
BlockInside s (BlockAt offset start len next) = (start + len ≤ length s) × (next ≤ length s)
BlockInside s (BlockStop n) = Unit

pub record BlockFound (s : List ℕ) (g : Got Block) (r : BlockRead) : Type 0 where
  pub meaning : block_read s r ≡ g
  pub inside : BlockInside s r

-- ---- anchors
abbrev pub anchor_read : List ℕ → AnchorRead → Got Anchor
anchor_read s (AnchorAt start len bytes next) = got (record { key = key_in s start len; bytes = bytes }) (drop next s)
anchor_read s (AnchorStop n) = stop n

abbrev pub AnchorInside : List ℕ → AnchorRead → Type 0
AnchorInside s (AnchorAt start len bytes next) = (start + len ≤ length s) × (next ≤ length s)
AnchorInside s (AnchorStop n) = Unit

pub record AnchorFound (s : List ℕ) (g : Got Anchor) (r : AnchorRead) : Type 0 where
  pub meaning : anchor_read s r ≡ g
  pub inside : AnchorInside s r
