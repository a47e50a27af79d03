use mathlib.Core.Path.{sym, ap}
use Rattle.exec_spec.specs.declared.Monadic.{Monadic}
use Rattle.exec_spec.specs.Execute.{one_operand}
use Rattle.run_spec.specs.Run.{is_kcall}
use Rattle.exec.proofs.attempt.kcalls.Goals as goal

pub returns-in-Kcall : goal.returns-in-Kcall
returns-in-Kcall c = λ k v. ap (λ (x : Monadic). is_kcall (one_operand x k v)) (sym c.in-Kcall.is)

pub returns-in-Call : goal.returns-in-Call
returns-in-Call c = λ k v. ap (λ (x : Monadic). is_kcall (one_operand x k v)) (sym c.in-Call.is)

pub returns-in-Return : goal.returns-in-Return
returns-in-Return c = λ k v. ap (λ (x : Monadic). is_kcall (one_operand x k v)) (sym c.in-Return.is)

pub returns-in-Jmp : goal.returns-in-Jmp
returns-in-Jmp c = λ k v. ap (λ (x : Monadic). is_kcall (one_operand x k v)) (sym c.in-Jmp.is)

pub returns-in-JmpFalse : goal.returns-in-JmpFalse
returns-in-JmpFalse c = λ k v. ap (λ (x : Monadic). is_kcall (one_operand x k v)) (sym c.in-JmpFalse.is)

pub returns-in-JmpTrue : goal.returns-in-JmpTrue
returns-in-JmpTrue c = λ k v. ap (λ (x : Monadic). is_kcall (one_operand x k v)) (sym c.in-JmpTrue.is)

pub returns-in-Catch : goal.returns-in-Catch
returns-in-Catch c = λ k v. ap (λ (x : Monadic). is_kcall (one_operand x k v)) (sym c.in-Catch.is)

pub returns-in-Enter : goal.returns-in-Enter
returns-in-Enter c = λ k v. ap (λ (x : Monadic). is_kcall (one_operand x k v)) (sym c.in-Enter.is)

pub returns-in-Ldraa : goal.returns-in-Ldraa
returns-in-Ldraa c = λ k v. ap (λ (x : Monadic). is_kcall (one_operand x k v)) (sym c.in-Ldraa.is)

pub returns-in-Flush : goal.returns-in-Flush
returns-in-Flush c = λ k v. ap (λ (x : Monadic). is_kcall (one_operand x k v)) (sym c.in-Flush.is)

pub returns-in-Popn : goal.returns-in-Popn
returns-in-Popn c = λ k v. ap (λ (x : Monadic). is_kcall (one_operand x k v)) (sym c.in-Popn.is)
