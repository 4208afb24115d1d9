-- The calls that look at a volume issue no order.
use Rattle.std.proofs.Common.{ℕ, false, List, [], Option, Some, None}
use Rattle.zn_truth.specs.Truth.{Geometry}
use Rattle.zn_model.specs.CallAnswers.{answered}
use Rattle.zn_model.specs.Looks.{stat_by, stat_call, entries_by, entries_call, attributes_of, attr_call}
use Rattle.zn_model.specs.Reading.{size_by, size_call}
use Rattle.zn_model.specs.Volume.{Live, Mounted, live_at}
use Rattle.zn_model.specs.ZoneFiles.{file_named, listing_of}
use Rattle.zn_model.specs.declared.handles.Handle.{Handle}
use Rattle.zn_model.proofs.KeysKept.{with_power_holds}
use Rattle.zn_remains.proofs.CallOrders.{OrdersOf}
use Rattle.zn_remains.proofs.CallsOnRequests.{StaysWent}
use Rattle.zn_remains.proofs.Recovering.{VolumeAgrees, went_nowhere}

pub stays_here : (g : Geometry) (m : Mounted) → VolumeAgrees g m.volume → StaysWent g m.world m
stays_here g m agrees = went_nowhere g (OrdersOf g [] (λ z. false)) m agrees

size_by_went : (g : Geometry) (found : Option Live) (m : Mounted) → VolumeAgrees g m.volume → StaysWent g m.world (size_by found m).mounted
size_by_went g None m agrees = stays_here g m agrees
size_by_went g (Some live) m agrees = stays_here g m agrees

pub size_went : (g : Geometry) (m : Mounted) (h : Handle) → VolumeAgrees g m.volume → StaysWent g m.world (size_call m h).mounted
unfolding size_call
size_went g m h agrees = with_power_holds (StaysWent g m.world) m (size_by (live_at m.volume.handles h) m) (stays_here g m agrees) (size_by_went g (live_at m.volume.handles h) m agrees)

stat_by_went : (g : Geometry) (names : Option (List (List ℕ))) (file : Option ℕ) (m : Mounted) → VolumeAgrees g m.volume → StaysWent g m.world (stat_by names file m).mounted
stat_by_went g (Some names) file m agrees = stays_here g m agrees
stat_by_went g None (Some f) m agrees = stays_here g m agrees
stat_by_went g None None m agrees = stays_here g m agrees

pub stat_went : (g : Geometry) (m : Mounted) (path : List ℕ) → VolumeAgrees g m.volume → StaysWent g m.world (stat_call m path).mounted
unfolding stat_call
stat_went g m path agrees =
    let names = listing_of m.volume.inodes.layout path in
    let file = file_named m.volume.inodes.layout path in
    with_power_holds (StaysWent g m.world) m (stat_by names file m) (stays_here g m agrees) (stat_by_went g names file m agrees)

entries_by_went : (g : Geometry) (names : Option (List (List ℕ))) (m : Mounted) → VolumeAgrees g m.volume → StaysWent g m.world (entries_by names m).mounted
entries_by_went g None m agrees = stays_here g m agrees
entries_by_went g (Some names) m agrees = stays_here g m agrees

pub entries_went : (g : Geometry) (m : Mounted) (path : List ℕ) → VolumeAgrees g m.volume → StaysWent g m.world (entries_call m path).mounted
unfolding entries_call
entries_went g m path agrees =
    let names = listing_of m.volume.inodes.layout path in
    with_power_holds (StaysWent g m.world) m (entries_by names m) (stays_here g m agrees) (entries_by_went g names m agrees)

pub attr_went : (g : Geometry) (m : Mounted) → VolumeAgrees g m.volume → StaysWent g m.world (attr_call m).mounted
unfolding attr_call
attr_went g m agrees = with_power_holds (StaysWent g m.world) m (answered (attributes_of m) m) (stays_here g m agrees) (stays_here g m agrees)
