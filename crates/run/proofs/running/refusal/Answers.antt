use Rattle.run.proofs.RunLaws.{refuses_board, refuses_register, refuses_level, refuses_confined, refuses_nothing}
use Rattle.std.proofs.lemmas.Bool.{not_from_false, not_from_true}
use Rattle.run.proofs.running.refusal.Goals as goal

pub returns-then-not-whole_pages : goal.returns-then-not-whole_pages
returns-then-not-whole_pages c = λ q. refuses_board c.args.confined c.args.level c.args.r.now q c.args.m.now _ c.whole_pages.ensures (not_from_false _ c.if-not-whole_pages.true)

pub returns-then-not-good_bank : goal.returns-then-not-good_bank
returns-then-not-good_bank c = λ q. refuses_register c.args.confined c.args.level c.args.r.now q c.args.m.now _ c.whole_pages.ensures (not_from_true _ c.if-not-whole_pages.false) _ c.good_bank.ensures (not_from_false _ c.if-not-good_bank.true)

pub returns-then-level-gt-MOST_LEVEL : goal.returns-then-level-gt-MOST_LEVEL
returns-then-level-gt-MOST_LEVEL c = λ q. refuses_level c.args.confined c.args.level c.args.r.now q c.args.m.now _ c.whole_pages.ensures (not_from_true _ c.if-not-whole_pages.false) _ c.good_bank.ensures (not_from_true _ c.if-not-good_bank.false) c.if-level-gt-MOST_LEVEL.true

pub returns-then-confined-is_user : goal.returns-then-confined-is_user
returns-then-confined-is_user c = λ q. refuses_confined c.args.confined c.args.level c.args.r.now q c.args.m.now _ c.whole_pages.ensures (not_from_true _ c.if-not-whole_pages.false) _ c.good_bank.ensures (not_from_true _ c.if-not-good_bank.false) c.if-level-gt-MOST_LEVEL.false _ _ c.is_user.ensures c.is_virtual.ensures c.if-confined-is_user.true

pub returns : goal.returns
returns c = λ q. refuses_nothing c.args.confined c.args.level c.args.r.now q c.args.m.now _ c.whole_pages.ensures (not_from_true _ c.if-not-whole_pages.false) _ c.good_bank.ensures (not_from_true _ c.if-not-good_bank.false) c.if-level-gt-MOST_LEVEL.false _ _ c.is_user.ensures c.is_virtual.ensures c.if-confined-is_user.false
