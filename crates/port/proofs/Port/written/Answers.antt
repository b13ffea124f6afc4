use Rattle.port.specs.Registers.{address}
use Rattle.port.proofs.Keep.{stored_ready, connect_ready}
use Rattle.port.proofs.Port.written.Goals as goal

pub after_store-requires : goal.after_store-requires
after_store-requires c =
    connect_ready c.connect.new.self c.stored.new.self c.external-external.result c.connect.ensures
    (stored_ready c.stored.new.self c.args.self.now (address c.args.register) c.args.v c.stored.ensures c.requires)
