use Rattle.zn_device.proofs.store.Store.write.Goals as goal

pub returns-in-Conventional-clause-zone : goal.returns-in-Conventional-clause-zone
returns-in-Conventional-clause-zone c = rw c.in-Conventional.is (λ info held. c.replace.ensures.zone info)
