-- The examples of checks 6 and 7, computed.
-- Assumes nothing.
use mathlib.Core.Path.{refl}
use Rattle.key.specs.Order.{cmp_key, cmp_number}
use Rattle.key.specs.Word.{digits}
use Rattle.comparable_range.specs.Range.{cmp_bound}
use Rattle.format.specs.Number.{read_number}
use Rattle.format.specs.Key.{read_bytes, read_key}
use Rattle.format.specs.Whole.{whole}
use Rattle.records.specs.Form.{read_many}
use Rattle.records.specs.Layouts.{count_of, block, index, anchor, anchors}
use Rattle.manifest.specs.Checks.{ascend_from, total, index_checks, anchors_checks}
use Rattle.manifest.specs.Examples.{FirstKeysAscend, AnchorTotals}

pub first_keys_ascend : FirstKeysAscend
unfolding cmp_number cmp_key digits cmp_bound read_number read_bytes read_key whole read_many block index ascend_from index_checks
first_keys_ascend = record { descending = refl; ascending = refl; equal = refl }

pub anchor_totals : AnchorTotals
unfolding digits read_number read_bytes read_key whole read_many count_of anchor anchors total anchors_checks
anchor_totals = record { below = refl; reached = refl; past = refl }
