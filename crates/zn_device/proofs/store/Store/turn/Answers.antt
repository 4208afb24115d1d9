use Rattle.zn_device.proofs.Harms.{turned_store}
use Rattle.zn_device.proofs.store.Store.turn.Goals as goal

pub returns-in-Good : goal.returns-in-Good
returns-in-Good c = record {
  zone = λ kind. turned_store c.args.self.now c.flush.new.self kind c.args.info c.args.to c.in-Good.is (c.flush.ensures.zone kind);
  buffer = c.flush.ensures.buffer;
}
