use Rattle.exec_dyadic.proofs.MoveLaws.{general_address, register_address}
use Rattle.exec_dyadic.proofs.moving.address_of.Goals as goal

pub returns-in-General : goal.returns-in-General
returns-in-General c = general_address c.args.o c.args.a _ c.in-General.mode c.in-General.v c.in-General.is c.general_address.ensures

pub returns-in-Register : goal.returns-in-Register
returns-in-Register c = register_address c.args.o c.args.a c.args.a _ c.in-Register.is
