use Rattle.zn_stand.proofs.DeviceRest.{stands, sound_at_rest, only}
use Rattle.zn_stand.proofs.device_laws.rest_is_standing.Goals as goal

pub returns : goal.returns
returns c = record { stands = stands; is_sound = sound_at_rest; only = only }
