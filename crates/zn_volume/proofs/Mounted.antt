-- What a mounted volume is, and what its parts keep to.
use Rattle.std.proofs.Common.{◌≡◌, ℕ, ◌*◌, ◌<◌, ◌≤◌, Bool, true, false, List, length, Ok, refl, sym, ap, ◌∙◌, subst, arith}
use Rattle.std.proofs.lemmas.Bool.{false≢true}
use Rattle.std.proofs.lemmas.List.{get_or-map, length-map}
use Rattle.zn_truth.specs.declared.Cond.{Cond}
use Rattle.zn_truth.specs.declared.Cond.TheVariants.{Good, ReadOnly as cond_read_only, Offline as cond_offline}
use Rattle.zn_truth.specs.declared.Kind.{Kind}
use Rattle.zn_truth.specs.declared.Shape.{Shape}
use Rattle.zn_truth.specs.declared.ZoneInfo.{ZoneInfo}
use Rattle.zn_truth.specs.Truth.{Truth, Geometry, geometry, IsSound}
use Rattle.zn_truth.specs.World.{World, geometry_of}
use Rattle.zn_truth.specs.Limits.{IsWithinLimits}
use Rattle.zn_truth.specs.Obeying.{is_answered}
use Rattle.zn_device.specs.States.{DeviceState, Ordered}
use Rattle.zn_model.specs.declared.files.MountOpts.{MountOpts}
use Rattle.zn_model.specs.declared.files.Shown.{Shown}
use Rattle.zn_model.specs.SuperBlock.{SuperBlock}
use Rattle.zn_model.specs.ZoneFiles.{Layout, layout_of, files_of}
use Rattle.zn_model.specs.ShownStates.{infos_of, worst, holds, showing, mounted_by, mounted_shown}
use Rattle.zn_model.specs.Looks.{all_infos, report_all}
use Rattle.zn_model.specs.Mounting.{MountAnswer, fresh_handles, fresh_inodes, fresh_queue, fresh_volume}
use Rattle.zn_model.specs.Volume.{Inodes, Handles, Queue, Volume, file_at, shown_at, no_file}
use Rattle.zn_inode.specs.Mounts.{AreInside, mounted_inodes}
use Rattle.zn_inode.specs.Sizes.{IsWithinRoom}
use Rattle.zn_inode.proofs.Mounts.{mounted_fresh}
use Rattle.zn_handle.specs.HandleState as handles
use Rattle.zn_io.specs.Files.{IsFile}
use Rattle.zn_io.proofs.Sizes.{holds_file}
use Rattle.zn_volume.specs.MountSteps.{ArePrepared, found_in, mount_orders, Finds}
use Rattle.zn_volume.specs.Mounts.{IsMounted}
use Rattle.zn_volume.specs.InFlight.{AreInFlight}
use Rattle.zn_volume.specs.VolumeState.{Agrees, IsHeldSequential}
use Rattle.zn_volume.proofs.Finding.{found_cases}
use Rattle.zn_volume.proofs.Layouts.{layout_file, layout_single, layout_cnv, layout_seq, layout_inside}
use Rattle.zn_volume.proofs.MountAnswers.{answer_is}
use Rattle.zn_volume.proofs.MountCauses.{only_world, done_powered}

pub geometry-of : (w : World) → geometry w.truth ≡ geometry_of w
unfolding geometry_of
geometry-of w = refl

-- ---- the files

-- the files that were prepared, mounted by what the device holds
pub fresh_is : (t : Truth) (g : Geometry) (aggr : Bool) (before after : Inodes) (seen : handles.HandleState) (infos : List ZoneInfo) → ArePrepared g.kinds aggr g.shape before seen → geometry t ≡ g
    → AreInside (length infos) before.layout → infos ≡ all_infos t → after ≡ mounted_inodes before.layout before.shape infos → after ≡ fresh_inodes t (layout_of (geometry t).kinds aggr)
fresh_is t g aggr before after seen infos prepared same inside told is =
    is
    ∙ ap (λ (shape : Shape). mounted_inodes before.layout shape infos) (prepared.shape ∙ sym (ap (λ (h : Geometry). h.shape) same))
    ∙ ap (λ (l : List ZoneInfo). mounted_inodes before.layout t.shape l) told
    ∙ mounted_fresh t before.layout (subst (λ (l : List ZoneInfo). AreInside (length l) before.layout) told inside)
    ∙ ap (λ (l : Layout). fresh_inodes t l) (prepared.layout ∙ ap (λ (h : Geometry). layout_of h.kinds aggr) (sym same))

-- the zones of files that were prepared lie in the device
pub prepared_inside : (kinds : List Kind) (aggr : Bool) (shape : Shape) (inodes : Inodes) (seen : handles.HandleState) (n : ℕ) → ArePrepared kinds aggr shape inodes seen → n ≡ length kinds
    → AreInside n inodes.layout
prepared_inside kinds aggr shape inodes seen n prepared is =
    subst (λ (l : Layout). AreInside n l) (sym prepared.layout) (subst (λ (m : ℕ). AreInside m (layout_of kinds aggr)) (sym is) (layout_inside kinds aggr))

-- ---- what the parts of a volume keep to

mounted_size : (cond : Cond) (held : ℕ) → (mounted_by cond held).size ≤ held
mounted_size Good held = omega arith
mounted_size cond_read_only held = omega arith
mounted_size cond_offline held = omega arith

mounted_closed : (cond : Cond) (held : ℕ) → (mounted_by cond held).held_open ≡ false
mounted_closed Good held = refl
mounted_closed cond_read_only held = refl
mounted_closed cond_offline held = refl

fresh_shown : (t : Truth) (layout : Layout) (f : ℕ) → f < length (files_of layout) → shown_at (fresh_inodes t layout) f ≡ mounted_shown t (file_at (fresh_inodes t layout) f)
fresh_shown t layout f below = get_or-map (mounted_shown t) (files_of layout) f no_file (showing 0 false false false) below

fresh_sizes : (w : World) (aggr : Bool) → IsSound w.truth → IsWithinLimits (geometry_of w) → IsWithinRoom (fresh_inodes w.truth (layout_of (geometry w.truth).kinds aggr))
unfolding geometry_of
fresh_sizes w aggr sound limits = record {
  size = λ f below.
      let layout = layout_of (geometry w.truth).kinds aggr in
      let e = fresh_shown w.truth (layout_of (geometry w.truth).kinds aggr) f below in
      let h = holds_file w (file_at (fresh_inodes w.truth (layout_of (geometry w.truth).kinds aggr)) f) sound (layout_file (geometry w.truth) aggr f limits below) in
      let m = mounted_size (worst (infos_of w.truth (file_at (fresh_inodes w.truth (layout_of (geometry w.truth).kinds aggr)) f))) (4096 * holds (infos_of w.truth (file_at (fresh_inodes w.truth (layout_of (geometry w.truth).kinds aggr)) f))) in
      let size = ap (λ (s : Shown). s.size) e in
      omega (arith, size, h, m);
}

fresh_held : (t : Truth) (layout : Layout) → IsHeldSequential (fresh_inodes t layout)
fresh_held t layout = record {
  file = λ f below held.
      absurd (false≢true (sym (mounted_closed (worst (infos_of t (file_at (fresh_inodes t layout) f))) (4096 * holds (infos_of t (file_at (fresh_inodes t layout) f)))) ∙ sym (ap (λ (s : Shown). s.held_open) (fresh_shown t layout f below)) ∙ held));
}

pub fresh_agrees : (v w : World) (aggr : Bool) (inodes : Inodes) (seen : handles.HandleState) (queue : Queue) (infos scratch : ℕ) → IsSound v.truth → IsWithinLimits (geometry_of v) → geometry_of w ≡ geometry_of v
    → inodes ≡ fresh_inodes v.truth (layout_of (geometry v.truth).kinds aggr) → seen.cnv ≡ length inodes.layout.cnv → seen.files ≡ length (files_of inodes.layout)
    → queue ≡ fresh_queue → infos ≡ length (geometry_of v).kinds → 4096 * 257 ≤ scratch → Agrees w inodes seen queue.queued infos scratch
unfolding geometry_of
fresh_agrees v w aggr inodes seen queue infos scratch sound limits same is cnv known none places blocks =
    let fresh : Inodes = fresh_inodes v.truth (layout_of (geometry v.truth).kinds aggr) in
    record {
      files = subst (λ (i : Inodes). (f : ℕ) → f < length (files_of i.layout) → IsFile (geometry_of w) (file_at i f)) (sym is)
          (λ f below. subst (λ (g : Geometry). IsFile g (file_at (fresh_inodes v.truth (layout_of (geometry v.truth).kinds aggr)) f)) (sym same) (layout_file (geometry v.truth) aggr f limits below));
      conventional = subst (λ (i : Inodes). (f : ℕ) → f < length i.layout.cnv → (file_at i f).seq ≡ false) (sym is) (layout_cnv (geometry v.truth).kinds aggr);
      sequential = subst (λ (i : Inodes). (f : ℕ) → length i.layout.cnv ≤ f → f < length (files_of i.layout) → (file_at i f).seq ≡ true) (sym is) (layout_seq (geometry v.truth).kinds aggr);
      single = subst (λ (i : Inodes). (f : ℕ) → f < length (files_of i.layout) → (file_at i f).seq ≡ true → (file_at i f).zones ≡ 1) (sym is) (layout_single (geometry v.truth).kinds aggr);
      shape = ap (λ (i : Inodes). i.shape) is ∙ ap (λ (g : Geometry). g.shape) (sym same);
      shown = subst (λ (i : Inodes). length i.shown ≡ length (files_of i.layout)) (sym is) (length-map _ _);
      sizes = subst (λ (i : Inodes). IsWithinRoom i) (sym is) (fresh_sizes v aggr sound limits);
      held = subst (λ (i : Inodes). IsHeldSequential i) (sym is) (fresh_held v.truth (layout_of (geometry v.truth).kinds aggr));
      flight = subst (λ (q : Queue). AreInFlight inodes q.queued) (sym none) (record { line = tt });
      cnv = cnv;
      known = known;
      places = places ∙ ap (λ (g : Geometry). length g.kinds) (sym same);
      blocks = omega (arith, blocks);
    }

-- ---- the volume

-- a volume of these parts
volume_of : SuperBlock → MountOpts → Inodes → Handles → Queue → Volume
volume_of super_block opts inodes handles queue = record { super_block = super_block; policy = opts.policy; explicit_open = opts.explicit_open; inodes = inodes; handles = handles; queue = queue }

volume_is : (t : Truth) (super_block : SuperBlock) (opts : MountOpts) (inodes : Inodes) (handles : Handles) (queue : Queue) → inodes ≡ fresh_inodes t (layout_of (geometry t).kinds super_block.aggr_cnv) → handles ≡ fresh_handles → queue ≡ fresh_queue
    → fresh_volume t super_block opts ≡ volume_of super_block opts inodes handles queue
unfolding fresh_volume volume_of
volume_is t super_block opts inodes handles queue is fresh none =
    ap (λ (i : Inodes). volume_of super_block opts i fresh_handles fresh_queue) (sym is) ∙ ap (λ (h : Handles). volume_of super_block opts inodes h fresh_queue) (sym fresh) ∙ ap (λ (q : Queue). volume_of super_block opts inodes handles q) (sym none)

pub mounted_is : (opts : MountOpts) (super_block : SuperBlock) (old new : DeviceState) (inodes : Inodes) (handles : Handles) (queue : Queue) → old.spoilt ≡ false → Finds mount_orders (Ok super_block) old new
    → inodes ≡ fresh_inodes old.world.truth (layout_of (geometry old.world.truth).kinds super_block.aggr_cnv) → handles ≡ fresh_handles → queue ≡ fresh_queue
    → IsMounted opts old (record { device = new; volume = record { super_block = super_block; policy = opts.policy; explicit_open = opts.explicit_open; inodes = inodes; handles = handles; queue = queue } })
unfolding volume_of
mounted_is opts super_block old new inodes handles queue unspoilt h is fresh none =
    let found = found_cases h.reply (found_in h.given old.world.truth) super_block h.is in
    let done = subst (λ r. Ordered (mount_orders h.given old.world.truth) r old new) found.done h.done in
    record {
      given = h.given;
      bytes = h.bytes;
      answer = answer_is (Ok super_block) old new opts h (ap is_answered found.done)
          ∙ ap (λ (v : Volume). let a : MountAnswer = record { reply = Ok v; world = new.world } in a) (volume_is old.world.truth super_block opts inodes handles queue is fresh none);
      device = only_world (mount_orders h.given old.world.truth) old new unspoilt done;
      fresh = sym (volume_is old.world.truth super_block opts inodes handles queue is fresh none);
      formatted = found.is;
      powered = done_powered (report_all old.world.truth) _ old new done;
      geometry = done.obeys.geometry;
    }
