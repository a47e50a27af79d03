use Rattle.exec.proofs.NiladicLaws.{is_kret, is_cret, is_nop, is_testv, is_testc, is_clre}
use Rattle.access_spec.specs.Journal.{journaled}
use Rattle.exec.proofs.niladics.execute_niladic.Goals as goal

pub returns-in-Kret : goal.returns-in-Kret
returns-in-Kret c = is_kret c.args.r.now c.args.q.now c.args.o c.args.n (journaled c.args.m.now c.args.journal.now) _ c.in-Kret.is (c.kret_privileged.ensures _)

pub returns-in-Cret : goal.returns-in-Cret
returns-in-Cret c = is_cret c.args.r.now c.args.q.now c.args.o c.args.n (journaled c.args.m.now c.args.journal.now) _ c.in-Cret.is c.cret_privileged.ensures

pub returns-in-Nop : goal.returns-in-Nop
returns-in-Nop c = is_nop c.args.r.now c.args.q.now c.args.o c.args.n (journaled c.args.m.now c.args.journal.now) c.in-Nop.is _ c.advance_pc.ensures

pub returns-in-Testv : goal.returns-in-Testv
returns-in-Testv c = is_testv c.args.r.now c.args.q.now c.args.o c.args.n (journaled c.args.m.now c.args.journal.now) _ _ c.advance_pc-in-Testv.ensures c.in-Testv.is c.tested.ensures

pub returns-in-Testc : goal.returns-in-Testc
returns-in-Testc c = is_testc c.args.r.now c.args.q.now c.args.o c.args.n (journaled c.args.m.now c.args.journal.now) _ _ c.advance_pc-in-Testc.ensures c.in-Testc.is c.tested-in-Testc.ensures

pub returns-in-Clre : goal.returns-in-Clre
returns-in-Clre c = is_clre c.args.r.now c.args.q.now c.args.o c.args.n (journaled c.args.m.now c.args.journal.now) _ _ c.advance_pc-in-Clre.ensures c.in-Clre.is c.with_guard.ensures
