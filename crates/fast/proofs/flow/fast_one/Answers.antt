use Rattle.fast.proofs.FlowLaws.{calls, returns_effect_free, jumps, jumps_true, jumps_false, pops, catches, enters}
use Rattle.word.proofs.CaseLaws.{not_both}
use mathlib.Core.Path.{refl}
use Rattle.fast.proofs.flow.fast_one.Goals as goal

pub returns-in-Kcall : goal.returns-in-Kcall
returns-in-Kcall c = (λ h. not_both h, λ h. (refl, refl))

pub returns-in-Call : goal.returns-in-Call
returns-in-Call c = (λ h. calls c.args.m.now c.args.r.now _ c.args.q.now _ c.args.o c.args.mode c.args.v c.args.n c.in-Call.is (c.call.ensures.0 h), λ h. c.call.ensures.1 h)

pub returns-in-Return : goal.returns-in-Return
returns-in-Return c = (λ h. returns_effect_free c.args.m.now c.args.r.now _ c.args.q.now _ c.args.o c.args.mode c.args.v c.args.n c.in-Return.is refl (c.return_from.ensures.0 h), λ h. (c.return_from.ensures.1 h, refl))

pub returns-in-Jmp : goal.returns-in-Jmp
returns-in-Jmp c = (λ h. jumps c.args.m.now c.args.r.now _ c.args.q.now _ c.args.o c.args.mode c.args.v c.args.n c.in-Jmp.is refl (c.jump.ensures.0 h), λ h. (c.jump.ensures.1 h, refl))

pub returns-in-JmpFalse : goal.returns-in-JmpFalse
returns-in-JmpFalse c = (λ h. jumps_false c.args.m.now c.args.r.now _ c.args.q.now _ c.args.o c.args.mode c.args.v c.args.n c.in-JmpFalse.is refl c.bit-flag.result c.bit-flag.ensures (c.jump_if.ensures.0 h), λ h. (c.jump_if.ensures.1 h, refl))

pub returns-in-JmpTrue : goal.returns-in-JmpTrue
returns-in-JmpTrue c = (λ h. jumps_true c.args.m.now c.args.r.now _ c.args.q.now _ c.args.o c.args.mode c.args.v c.args.n c.in-JmpTrue.is refl c.bit-flag.result c.bit-flag.ensures (c.jump_if-in-JmpTrue.ensures.0 h), λ h. (c.jump_if-in-JmpTrue.ensures.1 h, refl))

pub returns-in-Catch : goal.returns-in-Catch
returns-in-Catch c = (λ h. catches c.args.m.now c.args.r.now _ c.args.q.now _ c.args.o c.args.mode c.args.v c.args.n c.in-Catch.is refl (c.catch.ensures.0 h), λ h. (c.catch.ensures.1 h, refl))

pub returns-in-Enter : goal.returns-in-Enter
returns-in-Enter c = (λ h. enters c.args.m.now c.args.r.now _ c.args.q.now _ c.args.o c.args.mode c.args.v c.args.n c.in-Enter.is refl (c.enter.ensures.0 h), λ h. (c.enter.ensures.1 h, refl))

pub returns-in-Ldraa : goal.returns-in-Ldraa
returns-in-Ldraa c = (λ h. not_both h, λ h. (refl, refl))

pub returns-in-Flush : goal.returns-in-Flush
returns-in-Flush c = (λ h. not_both h, λ h. (refl, refl))

pub returns-in-Popn : goal.returns-in-Popn
returns-in-Popn c = (λ h. pops c.args.m.now c.args.r.now _ c.args.q.now _ c.args.o c.args.mode c.args.v c.args.n c.in-Popn.is refl (c.pop.ensures.0 h), λ h. (c.pop.ensures.1 h, refl))
