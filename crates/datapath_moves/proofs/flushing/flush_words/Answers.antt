use Rattle.datapath_moves.proofs.FlushLaws.{quad_first, quad_second, quad_third, quad_fourth, quad_flushed}
use Rattle.access_spec.specs.Journal.{journaled}
use mathlib.Core.Path.{refl}
use Rattle.datapath_moves.proofs.flushing.flush_words.Goals as goal

pub returns-then-x0-ge-EXCEPTION : goal.returns-then-x0-ge-EXCEPTION
returns-then-x0-ge-EXCEPTION c = quad_first c.args.r.now c.args.q.now c.args.a (journaled c.args.m.now c.args.journal.now) _ _ c.flush_word-x0.ensures _ c.if-x0-ge-EXCEPTION.true c.set_fault.ensures

pub returns-then-x1-ge-EXCEPTION : goal.returns-then-x1-ge-EXCEPTION
returns-then-x1-ge-EXCEPTION c = quad_second c.args.r.now c.args.q.now c.args.a (journaled c.args.m.now c.args.journal.now) _ _ c.flush_word-x0.ensures _ c.if-x0-ge-EXCEPTION.false _ c.plus-b.ensures _ _ c.flush_word-x1.ensures c.if-x1-ge-EXCEPTION.true c.set_fault-then-x1-ge-EXCEPTION.ensures

pub returns-then-x2-ge-EXCEPTION : goal.returns-then-x2-ge-EXCEPTION
returns-then-x2-ge-EXCEPTION c = quad_third c.args.r.now c.args.q.now c.args.a (journaled c.args.m.now c.args.journal.now) _ _ c.flush_word-x0.ensures _ c.if-x0-ge-EXCEPTION.false _ c.plus-b.ensures _ _ c.flush_word-x1.ensures c.if-x1-ge-EXCEPTION.false _ c.plus-c.ensures _ _ c.flush_word-x2.ensures c.if-x2-ge-EXCEPTION.true c.set_fault-then-x2-ge-EXCEPTION.ensures

pub returns-then-x3-ge-EXCEPTION : goal.returns-then-x3-ge-EXCEPTION
returns-then-x3-ge-EXCEPTION c = quad_fourth c.args.r.now c.args.q.now c.args.a (journaled c.args.m.now c.args.journal.now) _ _ c.flush_word-x0.ensures _ c.if-x0-ge-EXCEPTION.false _ c.plus-b.ensures _ _ c.flush_word-x1.ensures c.if-x1-ge-EXCEPTION.false _ c.plus-c.ensures _ _ c.flush_word-x2.ensures c.if-x2-ge-EXCEPTION.false _ c.plus-d.ensures _ _ c.flush_word-x3.ensures c.if-x3-ge-EXCEPTION.true c.set_fault-then-x3-ge-EXCEPTION.ensures

pub returns : goal.returns
returns c = quad_flushed c.args.r.now c.args.q.now c.args.a (journaled c.args.m.now c.args.journal.now) _ _ c.flush_word-x0.ensures _ c.if-x0-ge-EXCEPTION.false _ c.plus-b.ensures _ _ c.flush_word-x1.ensures c.if-x1-ge-EXCEPTION.false _ c.plus-c.ensures _ _ c.flush_word-x2.ensures c.if-x2-ge-EXCEPTION.false _ c.plus-d.ensures _ _ c.flush_word-x3.ensures c.if-x3-ge-EXCEPTION.false refl
