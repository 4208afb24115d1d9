use Rattle.std.proofs.Common.{rules}
use Rattle.zn_device.proofs.Harms.{rest_truth, device_rested}
use Rattle.zn_device.proofs.harming.rest_stored.Goals as goal

pub returns-clause-truth : goal.returns-clause-truth
returns-clause-truth c = λ stores. search (rules, rest_truth)

pub returns-clause-device : goal.returns-clause-device
returns-clause-device c = λ stores device. search (rules, device_rested)
