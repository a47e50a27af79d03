use Rattle.std.proofs.Common.{◌≡◌, Err, sym, arith, rules}
use Rattle.records_lines.proofs.ConversionLaws.{parts_of, record_refused, no_data, none_type, parts_long, parts_least, address_ready, data_put}
use Rattle.records_lines.proofs.records.convert_record.Goals as goal

pub returns-in_err-check-clause-text : goal.returns-in_err-check-clause-text
returns-in_err-check-clause-text c = let e : c.from_residual.result ≡ Err c.in_err-check.field-0.0 = search rules in
    rw e (record_refused _ _ _ c.in_err-check.ensures)

pub bounds-line-1 : goal.bounds-line-1
bounds-line-1 c = let p = parts_of _ (sym c.in_ok-check.ensures) in omega (arith, p.long)

pub slice_bounds-digits-count : goal.slice_bounds-digits-count
slice_bounds-digits-count c = let l = parts_least _ c.in_ok-check.ensures _ c.in-Some.ensures in omega (arith, l)

pub slice_bounds-digits-start : goal.slice_bounds-digits-start
slice_bounds-digits-start c = let l = parts_least _ c.in_ok-check.ensures _ c.in-Some.ensures in omega (arith, l)

pub split_at-requires : goal.split_at-requires
split_at-requires c = parts_long _ c.in_ok-check.ensures _ c.in-Some.ensures

pub address_of-requires : goal.address_of-requires
address_of-requires c = rw c.split_at.ensures.front (address_ready _ c.in_ok-check.ensures _ c.in-Some.ensures)

pub returns-in-Some-clause-text : goal.returns-in-Some-clause-text
returns-in-Some-clause-text c = data_put _ _ c.in_ok-check.ensures _ c.is_data_type.ensures _ c.in-Some.ensures _ _ _ _ c.if-is_data_type.true c.split_at.ensures.front c.split_at.ensures.back c.address_of.ensures c.put_frames.ensures.text

pub returns-in_default-clause-text : goal.returns-in_default-clause-text
returns-in_default-clause-text c = none_type _ _ c.in_ok-check.ensures c.in_default.ensures.0

pub returns-else-is_data_type-clause-text : goal.returns-else-is_data_type-clause-text
returns-else-is_data_type-clause-text c = no_data _ _ c.in_ok-check.ensures _ c.is_data_type.ensures c.if-is_data_type.false
