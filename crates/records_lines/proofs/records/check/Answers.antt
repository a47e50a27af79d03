use Rattle.hex_digits.proofs.NumberLaws.{all_take}
use Rattle.std.proofs.Common.{◌-◌, length, drop, arith}
use Rattle.records_lines.proofs.RecordLaws.{record_parts, digit_in, right_sum, wrong_sum, none_refused}
use Rattle.records_lines.proofs.records.check.Goals as goal

pub returns-then-not-is_record : goal.returns-then-not-is_record
returns-then-not-is_record c = none_refused _ _ c.is_record.ensures c.if-not-is_record.true

pub overflow_sub-end : goal.overflow_sub-end
overflow_sub-end c = let p = record_parts _ _ c.is_record.ensures c.if-not-is_record.false in omega (arith, p.long)

pub bounds-line-end : goal.bounds-line-end
bounds-line-end c = let p = record_parts _ _ c.is_record.ensures c.if-not-is_record.false in omega (arith, p.long)

pub bounds-line-end-2 : goal.bounds-line-end-2
bounds-line-end-2 c = let p = record_parts _ _ c.is_record.ensures c.if-not-is_record.false in omega (arith, p.long)

pub slice_bounds-checksum-count : goal.slice_bounds-checksum-count
slice_bounds-checksum-count c = let p = record_parts _ _ c.is_record.ensures c.if-not-is_record.false in omega (arith, p.long)

pub slice_bounds-checksum-start : goal.slice_bounds-checksum-start
slice_bounds-checksum-start c = let p = record_parts _ _ c.is_record.ensures c.if-not-is_record.false in omega (arith, p.long)

pub checksum-requires : goal.checksum-requires
checksum-requires c = let p = record_parts _ _ c.is_record.ensures c.if-not-is_record.false in all_take (length c.args.line.now - 2 - 2) (drop 2 c.args.line.now) p.digits

pub returns-then-sum-checksum : goal.returns-then-sum-checksum
returns-then-sum-checksum c = let s = c.args.line.now in
    let p = record_parts _ _ c.is_record.ensures c.if-not-is_record.false in
    right_sum s p _ _ (c.byte_of_digits-sum.ensures.digits (digit_in s p _ (omega (arith, p.long)) (omega (arith, p.long))) (digit_in s p _ (omega (arith, p.long)) (omega (arith, p.long)))) c.checksum.ensures c.if-sum-checksum.true

pub returns-else-sum-checksum : goal.returns-else-sum-checksum
returns-else-sum-checksum c = let s = c.args.line.now in
    let p = record_parts _ _ c.is_record.ensures c.if-not-is_record.false in
    wrong_sum s p _ _ (c.byte_of_digits-sum.ensures.digits (digit_in s p _ (omega (arith, p.long)) (omega (arith, p.long))) (digit_in s p _ (omega (arith, p.long)) (omega (arith, p.long)))) c.checksum.ensures c.if-sum-checksum.false
