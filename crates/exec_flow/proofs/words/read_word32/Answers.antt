use Rattle.exec_flow.proofs.WordLaws.{by_absolute, by_stack, by_indirect, by_immediate, by_absolute_indirect, by_stack_indirect, by_relative, by_flow_absolute}
use Rattle.access_spec.specs.Journal.{journaled}
use Rattle.exec_flow.proofs.words.read_word32.Goals as goal

pub returns-in-WordAbsolute : goal.returns-in-WordAbsolute
returns-in-WordAbsolute c = by_absolute c.args.r.now c.args.q.now c.args.mode c.args.v _ _ (journaled c.args.m.now c.args.journal.now) _ c.in-WordAbsolute.is c.load.ensures

pub returns-in-WordStack : goal.returns-in-WordStack
returns-in-WordStack c = by_stack c.args.r.now c.args.q.now c.args.mode c.args.v _ _ (journaled c.args.m.now c.args.journal.now) _ _ c.stack_address.ensures c.in-WordStack.is c.load-in-WordStack.ensures

pub returns-in-WordIndirect : goal.returns-in-WordIndirect
returns-in-WordIndirect c = by_indirect c.args.r.now c.args.q.now c.args.mode c.args.v _ _ (journaled c.args.m.now c.args.journal.now) _ _ c.stack_address-in-WordIndirect.ensures c.in-WordIndirect.is c.read_through.ensures

pub returns-in-WordImmediate : goal.returns-in-WordImmediate
returns-in-WordImmediate c = by_immediate c.args.r.now c.args.q.now c.args.mode c.args.v _ (journaled c.args.m.now c.args.journal.now) c.in-WordImmediate.is c.good.ensures

pub returns-in-FlowAbsoluteIndirect : goal.returns-in-FlowAbsoluteIndirect
returns-in-FlowAbsoluteIndirect c = by_absolute_indirect c.args.r.now c.args.q.now c.args.mode c.args.v _ _ (journaled c.args.m.now c.args.journal.now) _ c.in-FlowAbsoluteIndirect.is c.load-in-FlowAbsoluteIndirect.ensures

pub returns-in-FlowStackIndirect : goal.returns-in-FlowStackIndirect
returns-in-FlowStackIndirect c = by_stack_indirect c.args.r.now c.args.q.now c.args.mode c.args.v _ _ (journaled c.args.m.now c.args.journal.now) _ _ c.stack_address-in-FlowStackIndirect.ensures c.in-FlowStackIndirect.is c.load-in-FlowStackIndirect.ensures

pub returns-in-FlowRelative : goal.returns-in-FlowRelative
returns-in-FlowRelative c = by_relative c.args.r.now c.args.q.now c.args.mode c.args.v _ (journaled c.args.m.now c.args.journal.now) c.in-FlowRelative.is _ c.plus.ensures c.good-in-FlowRelative.ensures

pub returns-in-FlowAbsolute : goal.returns-in-FlowAbsolute
returns-in-FlowAbsolute c = by_flow_absolute c.args.r.now c.args.q.now c.args.mode c.args.v _ (journaled c.args.m.now c.args.journal.now) c.in-FlowAbsolute.is c.good-in-FlowAbsolute.ensures
