use Rattle.exec_stack.proofs.TargetLaws.{target_absolute, target_stack, target_indirect, target_immediate, target_flow1, target_flow2, target_flow3, target_flow4}
use Rattle.access_spec.specs.Journal.{journaled}
use Rattle.exec_stack.proofs.targets.stack_target.Goals as goal

pub returns-in-WordAbsolute : goal.returns-in-WordAbsolute
returns-in-WordAbsolute c = target_absolute c.args.r.now c.args.q.now c.args.mode c.args.v _ _ (journaled c.args.m.now c.args.journal.now) _ c.in-WordAbsolute.is c.load.ensures

pub returns-in-WordStack : goal.returns-in-WordStack
returns-in-WordStack c = target_stack c.args.r.now c.args.q.now c.args.mode c.args.v _ (journaled c.args.m.now c.args.journal.now) c.in-WordStack.is _ c.stack_address.ensures c.good.ensures

pub returns-in-WordIndirect : goal.returns-in-WordIndirect
returns-in-WordIndirect c = target_indirect c.args.r.now c.args.q.now c.args.mode c.args.v _ _ (journaled c.args.m.now c.args.journal.now) _ _ c.stack_address-in-WordIndirect.ensures c.in-WordIndirect.is c.load-in-WordIndirect.ensures

pub returns-in-WordImmediate : goal.returns-in-WordImmediate
returns-in-WordImmediate c = target_immediate c.args.r.now c.args.q.now c.args.mode c.args.v _ (journaled c.args.m.now c.args.journal.now) c.good-in-WordImmediate.ensures c.in-WordImmediate.is

pub returns-in-FlowAbsoluteIndirect : goal.returns-in-FlowAbsoluteIndirect
returns-in-FlowAbsoluteIndirect c = target_flow1 c.args.r.now c.args.q.now c.args.mode c.args.v _ (journaled c.args.m.now c.args.journal.now) c.good-in-FlowAbsoluteIndirect.ensures c.in-FlowAbsoluteIndirect.is

pub returns-in-FlowStackIndirect : goal.returns-in-FlowStackIndirect
returns-in-FlowStackIndirect c = target_flow2 c.args.r.now c.args.q.now c.args.mode c.args.v _ (journaled c.args.m.now c.args.journal.now) c.good-in-FlowStackIndirect.ensures c.in-FlowStackIndirect.is

pub returns-in-FlowRelative : goal.returns-in-FlowRelative
returns-in-FlowRelative c = target_flow3 c.args.r.now c.args.q.now c.args.mode c.args.v _ (journaled c.args.m.now c.args.journal.now) c.good-in-FlowRelative.ensures c.in-FlowRelative.is

pub returns-in-FlowAbsolute : goal.returns-in-FlowAbsolute
returns-in-FlowAbsolute c = target_flow4 c.args.r.now c.args.q.now c.args.mode c.args.v _ (journaled c.args.m.now c.args.journal.now) c.good-in-FlowAbsolute.ensures c.in-FlowAbsolute.is
