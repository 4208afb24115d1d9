use Rattle.std.proofs.lemmas.Bool.{both_ways}
use Rattle.zn_host.proofs.AdapterLaws.{takes_gathered, takes_sent}
use Rattle.zn_host.proofs.adapters.WriterSinkSink.write.Goals as goal

pub returns-then-not-is_due-clause-takes : goal.returns-then-not-is_due-clause-takes
returns-then-not-is_due-clause-takes g c =
    rw (← c.self.view_is, c.put_behind-count.ensures.bytes)
    (takes_gathered _ _ _ _ _ (λ due. both_ways _ c.if-not-is_due.true (c.is_due.ensures.1 due)))

pub returns-clause-takes : goal.returns-clause-takes
returns-clause-takes g c =
    rw (← c.self.view_is)
    (takes_sent _ _ _ _ _ _ (rw (c.deref.ensures.value, c.put_behind-count.ensures.bytes) at c.in_ok-write_out.ensures.bytes))
