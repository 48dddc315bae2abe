-- What is known to be there stands where the code's answers say: no stop is left to tell of.
use Rattle.std.specs.Prelude.{ℕ, ◌+◌, ◌≤◌, ◌≡◌, Bool, List, length, drop}
use Rattle.std.proofs.Math.Option.{Option}
use Rattle.key.specs.Order.{Key}
use Rattle.format.specs.Got.{Got, got}
use Rattle.format.specs.Key.{read_key}
use Rattle.format.specs.declared.there.KeySpan.{KeySpan}
use Rattle.records.specs.Form.{read_many}
use Rattle.records.specs.Found.{values_of}
use Rattle.records.specs.Values.{Table, View, Image, Block}
use Rattle.records.specs.Layouts.{table, view, run}
use Rattle.records.specs.Spans.{if_so, key_in, table_in, TableInside, view_in, ViewInside}
use Rattle.records.specs.declared.tables.TableSpan.{TableSpan}
use Rattle.records.specs.declared.views.ViewSpan.{ViewSpan}
use Rattle.records.specs.declared.there.RunSpan.{RunSpan}
use Rattle.records.specs.declared.there.BlockSpan.{BlockSpan}

-- how many runs an image at the front has: they stand from its second byte on
pub record RunsThere (s : List ℕ) (g : Got Image) (n : ℕ) : Type 0 where
  pub meaning : g ≡ read_many run.read n (drop 1 s)
  pub inside : 1 ≤ length s
  pub most : n ≤ 64

pub record RunThere (s : List ℕ) (g : Got (ℕ × ℕ)) (r : RunSpan) : Type 0 where
  pub meaning : g ≡ got (r.id, r.views) (drop r.first s)
  pub inside : r.first ≤ length s

pub record LastThere (s : List ℕ) (f : Bool) (g : Got (Option Key)) (k : KeySpan) : Type 0 where
  pub meaning : g ≡ got (if_so f (key_in s k.at k.len)) (drop (k.at + k.len) s)
  pub inside : k.at + k.len ≤ length s

pub record TableThere (s : List ℕ) (g : Got Table) (t : TableSpan) : Type 0 where
  pub meaning : g ≡ got (table_in s t) (drop t.past s)
  pub inside : TableInside s t

pub record ViewThere (s : List ℕ) (g : Got View) (v : ViewSpan) : Type 0 where
  pub meaning : g ≡ got (view_in s v) (drop v.past s)
  pub inside : ViewInside s v

-- the view at a place, and its table
pub record ViewKnown (s : List ℕ) (at : ℕ) (v : ViewSpan) : Type 0 where
  pub whole : ViewThere s (view.read (drop at s)) v
  pub table_there : TableThere s (table.read (drop (at + 16) s)) v.table

-- a block, whose first key is read where the answer says
pub record BlockThere (s : List ℕ) (g : Got Block) (b : BlockSpan) : Type 0 where
  pub first : Key
  pub key : read_key (drop b.key s) ≡ got first (drop b.past s)
  pub meaning : g ≡ got (record { offset = b.offset; first = first }) (drop b.past s)
  pub inside : b.past ≤ length s

-- the place past some values
pub record Past {A : Type 0} (s : List ℕ) (g : Got (List A)) (r : ℕ) : Type 0 where
  pub is : g ≡ got (values_of g) (drop r s)
  pub inside : r ≤ length s
