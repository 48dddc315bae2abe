-- The values that the images of document 01 stand for.
use Rattle.std.specs.Prelude.{ℕ, Bool, List}
use Rattle.std.proofs.Math.Option.{Option}
use Rattle.key.specs.Order.{Key}
use Rattle.comparable_range.specs.Range.{Range}
use Rattle.records.specs.declared.ids.TableId.{TableId}
use Rattle.records.specs.declared.ids.ViewId.{ViewId}

pub record Table : Type 0 where
  pub id : TableId
  pub index_offset : ℕ
  pub index_len : ℕ
  pub filter_offset : ℕ
  pub first : Key
  pub last : Option Key

pub record View : Type 0 where
  pub id : ViewId
  pub table : Table
  pub visible : Option Range

pub record Run : Type 0 where
  pub id : ℕ
  pub views : List View

abbrev pub Image : Type 0
Image = List Run

pub record Part : Type 0 where
  pub planned : Range
  pub completed : Bool
  pub outputs : List Table

pub record Job : Type 0 where
  pub destination : ℕ
  pub sources : List ℕ
  pub parts : List Part

pub record Block : Type 0 where
  pub offset : ℕ
  pub first : Key

abbrev pub Index : Type 0
Index = List Block

pub record Anchor : Type 0 where
  pub key : Key
  pub bytes : ℕ

abbrev pub Anchors : Type 0
Anchors = List Anchor

abbrev pub Plan : Type 0
Plan = List Range
