-- A mount, and the calls that look at a volume, without keys.
use Rattle.std.proofs.Common.{◌≡◌, ℕ, Bool, true, false, List, Option, Some, None, Result, Ok, Err, refl, ap}
use Rattle.std.specs.Prelude.{IfOk, if◌then◌else◌}
use Rattle.std.proofs.lemmas.List.{length-map}
use Rattle.zn_truth.specs.declared.ZoneInfo.{ZoneInfo}
use Rattle.zn_truth.specs.Truth.{Truth}
use Rattle.zn_truth.specs.Orders.{ReadAt, Reply}
use Rattle.zn_truth.specs.OrderLists.{issue_all}
use Rattle.zn_truth.specs.World.{World, Outcome, issue}
use Rattle.zn_model.specs.declared.answers.SuperError.{SuperError}
use Rattle.zn_model.specs.declared.files.Attr.{Attr}
use Rattle.zn_model.specs.declared.files.MountOpts.{MountOpts}
use Rattle.zn_model.specs.declared.files.Stat.{Stat}
use Rattle.zn_model.specs.SuperBlock.{SuperBlock}
use Rattle.zn_model.specs.ZoneFiles.{file_named, listing_of}
use Rattle.zn_model.specs.Volume.{Volume, Mounted}
use Rattle.zn_model.specs.Looks.{file_stat, stat_by, stat_call, entries_by, entries_call, attributes_of, attr_call, after_report, report_all, all_infos, report_call}
use Rattle.zn_model.specs.Given.{copies_in}
use Rattle.zn_model.specs.Mounting.{MountAnswer, not_formatted, is_zone0_unfull, super_block_of, closes, fresh_volume, mount_closed, mount_decoded, mount_read, mount_reported, mount_call, unmount_refusal}
use Rattle.zn_model.specs.CallAnswers.{Answer, answered}
use Rattle.zn_model.specs.Keys.{unkeyed_live, unkeyed_volume, unkeyed, unkeyed_answer}
use Rattle.zn_model.proofs.KeysHandles.{writers_unkeyed}
use Rattle.zn_model.proofs.KeysFailures.{wro_unkeyed, with_power_unkeyed}

-- ---- looks

stat_by_unkeyed : (names : Option (List (List ℕ))) (file : Option ℕ) (m : Mounted) → stat_by names file (unkeyed m) ≡ unkeyed_answer (stat_by names file m)
stat_by_unkeyed (Some names) file m = refl
stat_by_unkeyed None (Some f) m = ap (λ writers. let answer : Answer Stat = answered (record (file_stat m.volume f) { writers = writers }) (unkeyed m) in answer) (writers_unkeyed m.volume.handles f)
stat_by_unkeyed None None m = refl

pub stat_unkeyed : (m : Mounted) (path : List ℕ) → stat_call (unkeyed m) path ≡ unkeyed_answer (stat_call m path)
unfolding stat_call
stat_unkeyed m path =
    let names = listing_of m.volume.inodes.layout path in
    let file = file_named m.volume.inodes.layout path in
    with_power_unkeyed m (stat_by names file (unkeyed m)) (stat_by names file m) (stat_by_unkeyed names file m)

entries_by_unkeyed : (names : Option (List (List ℕ))) (m : Mounted) → entries_by names (unkeyed m) ≡ unkeyed_answer (entries_by names m)
entries_by_unkeyed None m = refl
entries_by_unkeyed (Some names) m = refl

pub entries_unkeyed : (m : Mounted) (path : List ℕ) → entries_call (unkeyed m) path ≡ unkeyed_answer (entries_call m path)
unfolding entries_call
entries_unkeyed m path =
    let names = listing_of m.volume.inodes.layout path in
    with_power_unkeyed m (entries_by names (unkeyed m)) (entries_by names m) (entries_by_unkeyed names m)

attributes_unkeyed : (m : Mounted) → attributes_of (unkeyed m) ≡ attributes_of m
attributes_unkeyed m = ap (λ n. let new : Attr = record (attributes_of m) { nr_wro = n } in new) (wro_unkeyed m.volume)

pub attr_unkeyed : (m : Mounted) → attr_call (unkeyed m) ≡ unkeyed_answer (attr_call m)
unfolding attr_call
attr_unkeyed m = with_power_unkeyed m (answered (attributes_of (unkeyed m)) (unkeyed m)) (answered (attributes_of m) m)
    (ap (λ (attributes : Attr). let answer : Answer Attr = answered attributes (unkeyed m) in answer) (attributes_unkeyed m))

after_report_unkeyed : (reply : Reply) (infos : List ZoneInfo) (m : Mounted) → after_report reply infos (unkeyed m) ≡ unkeyed_answer (after_report reply infos m)
after_report_unkeyed (Ok unit) infos m = refl
after_report_unkeyed (Err error) infos m = refl

pub report_unkeyed : (m : Mounted) → report_call (unkeyed m) ≡ unkeyed_answer (report_call m)
unfolding report_call
report_unkeyed m =
    let done = issue m.world (report_all m.world.truth) in
    after_report_unkeyed done.reply (all_infos m.world.truth) (record m { world = done.world })

-- ---- mount

module _ (P : Volume → Type 0) (fresh : (t : Truth) (super_block : SuperBlock) (opts : MountOpts) → P (fresh_volume t super_block opts)) where
  closed_fresh : (closed : Outcome) (reply : Reply) (v : Volume) → P v → IfOk (mount_closed closed reply v).reply P
  closed_fresh closed (Ok unit) v holds = holds
  closed_fresh closed (Err error) v holds = tt

  decoded_fresh : (found : Result SuperBlock SuperError) (w : World) (t : Truth) (opts : MountOpts) → IfOk (mount_decoded found w t opts).reply P
  decoded_fresh (Err error) w t opts = tt
  decoded_fresh (Ok super_block) w t opts = closed_fresh (issue_all w (closes t)) (issue_all w (closes t)).reply (fresh_volume t super_block opts) (fresh t super_block opts)

  read_fresh : (given : List ℕ) (copies : Outcome) (reply : Reply) (t : Truth) (opts : MountOpts) → IfOk (mount_read given copies reply t opts).reply P
  read_fresh given copies (Ok unit) t opts = decoded_fresh (super_block_of (copies_in t given)) copies.world t opts
  read_fresh given copies (Err error) t opts = tt

  chosen_fresh : (b : Bool) (one other : MountAnswer) → IfOk one.reply P → IfOk other.reply P → IfOk (if b then one else other).reply P
  chosen_fresh true one other holds holds' = holds
  chosen_fresh false one other holds holds' = holds'

  reported_fresh : (given : List ℕ) (reported : Outcome) (reply : Reply) (t : Truth) (opts : MountOpts) → IfOk (mount_reported given reported reply t opts).reply P
  reported_fresh given reported (Err error) t opts = tt
  reported_fresh given reported (Ok unit) t opts =
      let copies = issue reported.world (ReadAt 0 0 2) in
      chosen_fresh (is_zone0_unfull t) (not_formatted _ reported.world) (mount_read given copies copies.reply t opts) tt (read_fresh given copies copies.reply t opts)

  -- what holds of every volume as a mount leaves it holds of a mount's
  pub mount_fresh : (given : List ℕ) (w : World) (opts : MountOpts) → IfOk (mount_call given w opts).reply P
  unfolding mount_call
  mount_fresh given w opts = let reported = issue w (report_all w.truth) in reported_fresh given reported reported.reply w.truth opts

fresh_unkeyed : (t : Truth) (super_block : SuperBlock) (opts : MountOpts) → unkeyed_volume (fresh_volume t super_block opts) ≡ fresh_volume t super_block opts
unfolding fresh_volume
fresh_unkeyed t super_block opts = refl

pub mount_unkeyed : (given : List ℕ) (w : World) (opts : MountOpts) → IfOk (mount_call given w opts).reply (λ v. unkeyed_volume v ≡ v)
mount_unkeyed given w opts = mount_fresh (λ v. unkeyed_volume v ≡ v) fresh_unkeyed given w opts

pub unmount_unkeyed : (m : Mounted) → unmount_refusal (unkeyed m) ≡ unmount_refusal m
unfolding unmount_refusal
unmount_unkeyed m = rw (length-map m.volume.handles.live unkeyed_live)
