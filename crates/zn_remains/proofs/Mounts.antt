-- A mount reaches its device by its orders, and leaves a volume that agrees with it.
use Rattle.std.proofs.Common.{◌≡◌, inl, inr, ℕ, ◌+◌, ◌*◌, ◌<◌, ◌≤◌, Bool, true, false, List, [], ◌∷◌, length, map, filter, Result, Ok, Err, refl, sym, ap, ◌∙◌, subst, get_or, All, arith}
use Rattle.std.specs.Prelude.{if◌then◌else◌, ◌&&◌, nat_lt, IfOk}
use Rattle.std.specs.List.{range_with_len}
use Rattle.std.proofs.lemmas.Bool.{and_parts, cases_lt, true≢false}
use Rattle.std.proofs.lemmas.List.{get_or-map, get_or_past, length-map}
use Rattle.std.proofs.lemmas.List.Elements.{All-nil, All-map, All-filter, filter_passes}
use Rattle.std.proofs.lemmas.List.FromFn.{length-range_with_len, get_or-range_with_len}
use Rattle.zn_truth.specs.declared.Command.{Command}
use Rattle.zn_truth.specs.declared.Command.TheVariants.{Read, Close, Report}
use Rattle.zn_truth.specs.declared.Cond.{Cond}
use Rattle.zn_truth.specs.declared.Cond.TheVariants.{Good, ReadOnly, Offline}
use Rattle.zn_truth.specs.declared.Kind.{Kind}
use Rattle.zn_truth.specs.declared.Kind.TheVariants.{Conventional, Sequential}
use Rattle.zn_truth.specs.declared.Shape.{Shape}
use Rattle.zn_truth.specs.declared.ZoneOp.{ZoneOp}
use Rattle.zn_truth.specs.declared.ZoneOp.TheVariants.{Close as do_close}
use Rattle.zn_truth.specs.Limits.{IsWithinLimits}
use Rattle.zn_truth.specs.Truth.{Geometry, Truth, zone_at, room, kind_at, is_sequential, is_good}
use Rattle.zn_truth.specs.Orders.{Order, ReadAt, Manage, Reply}
use Rattle.zn_truth.specs.OrderLists.{issue_all}
use Rattle.zn_truth.specs.World.{World, Outcome, issue, geometry_of, command_of_op}
use Rattle.zn_truth.specs.Obeying.{Fits}
use Rattle.zn_truth.proofs.Issuing.{kind_is, kinds-length}
use Rattle.zn_model.specs.declared.answers.MountError.{MountError}
use Rattle.zn_model.specs.declared.answers.SuperError.{SuperError}
use Rattle.zn_model.specs.declared.answers.Why.TheVariants.{Zone0NotFull}
use Rattle.zn_model.specs.declared.files.MountOpts.{MountOpts}
use Rattle.zn_model.specs.declared.files.Shown.{Shown}
use Rattle.zn_model.specs.Given.{copies_in}
use Rattle.zn_model.specs.Looks.{report_all}
use Rattle.zn_model.specs.Mounting.{MountAnswer, is_zone0_unfull, super_block_of, closes, fresh_inodes, fresh_volume, not_formatted, mount_closed, mount_decoded, mount_read, mount_reported, mount_call}
use Rattle.zn_model.specs.ShownStates.{showing, infos_of, worst, holds, mounted_by, mounted_shown}
use Rattle.zn_model.specs.SuperBlock.{SuperBlock}
use Rattle.zn_model.specs.Volume.{no_file, file_at, capacity_at, shown_at}
use Rattle.zn_model.specs.ZoneFiles.{Layout, layout_of, files_of, room_of}
use Rattle.zn_report.proofs.LayoutLaws.{layout_is}
use Rattle.zn_remains.specs.Events.{Ordered}
use Rattle.zn_remains.specs.LineEvents.{IsOrderOf}
use Rattle.zn_remains.proofs.Agreement.{Agrees, IsRequestFor}
use Rattle.zn_remains.proofs.Areas.{IsFileIn}
use Rattle.zn_remains.proofs.CallOrders.{OrdersOf, Has}
use Rattle.zn_remains.proofs.Reached.{Reached, reached_none, reached_one, reached_both, reached_all}
use Rattle.zn_remains.proofs.Recovering.{VolumeAgrees, shape_is, holds_file}
use Rattle.zn_remains.proofs.Standing.{Stands}

-- every zone
abbrev pub any_zone : ℕ → Bool
any_zone z = true

-- ---- orders on the whole device

pub zones_in : (g : Geometry) (w : World) → Stands g w → length w.truth.zones ≡ length g.kinds
zones_in g w stands = sym (kinds-length w) ∙ ap (λ (h : Geometry). length h.kinds) stands.geometry

pub kind_in : (g : Geometry) (w : World) (z : ℕ) → Stands g w → kind_at g z ≡ (zone_at w.truth z).kind
kind_in g w z stands = ap (λ (h : Geometry). kind_at h z) (sym stands.geometry) ∙ kind_is w z

-- a report of all zones
pub report_all_is : (g : Geometry) (w : World) (commands : List Command) (zones : ℕ → Bool) → Stands g w → Has commands Report → IsOrderOf g commands zones (report_all w.truth)
report_all_is g w commands zones stands has = record { fits = omega (arith, zones_in g w stands); command = has; zone = tt }

-- zone 0 has room for two blocks
room_least : (shape : Shape) (kind : Kind) → 2 ≤ shape.zone_capacity → shape.zone_capacity ≤ shape.zone_blocks → 2 ≤ room shape kind
room_least shape Conventional least fits = omega arith
room_least shape Sequential least fits = omega arith

pub copies_fit : (g : Geometry) (at n : ℕ) → IsWithinLimits g → at + n ≤ 2 → Fits g 0 at n
copies_fit g at n limits most = record { zone = limits.some; room = omega (arith, most, room_least g.shape (kind_at g 0) limits.capacity limits.fits) }

pub read_copies_is : (g : Geometry) (commands : List Command) → IsWithinLimits g → Has commands Read → IsOrderOf g commands any_zone (ReadAt 0 0 2)
read_copies_is g commands limits has = record { fits = copies_fit g 0 2 limits (omega arith); command = has; zone = refl }

pub sequential_is : (kind : Kind) → is_sequential kind ≡ true → kind ≡ Sequential
sequential_is Sequential is = refl
sequential_is Conventional is = absurd (true≢false (sym is))

-- what holds of each zone that passes a test holds of each order for these
pub chosen_zones : (P : Order → Type 0) (order : ℕ → Order) (test : ℕ → Bool) (n : ℕ) → ((z : ℕ) → test z ≡ true → z < n → P (order z)) → All P (map order (filter test (range_with_len 0 n)))
chosen_zones P order test n gives =
    let below : All (λ z. z < n) (range_with_len 0 n) = λ k d inside.
    let within : k < n = omega (arith, length-range_with_len 0 n) in
    subst (λ (z : ℕ). z < n) (sym (get_or-range_with_len 0 n k d within)) (omega arith) in
    All-map P order (filter test (range_with_len 0 n)) (λ k d inside.
    gives (get_or (filter test (range_with_len 0 n)) k d) (filter_passes test (range_with_len 0 n) k d inside) (All-filter test (λ z. z < n) (range_with_len 0 n) below k d inside))

-- an order to manage a sequential zone of the device
pub manage_is : (g : Geometry) (w : World) (commands : List Command) (z : ℕ) (op : ZoneOp) → Stands g w → z < length w.truth.zones → is_sequential (zone_at w.truth z).kind ≡ true → Has commands (command_of_op op)
    → IsOrderOf g commands any_zone (Manage z op)
manage_is g w commands z op stands below seq has = record {
  fits = record { zone = omega (arith, below, zones_in g w stands); kind = kind_in g w z stands ∙ sequential_is (zone_at w.truth z).kind seq };
  command = has;
  zone = refl;
}

-- ---- what a mount leaves

mounted_size : (cond : Cond) (held most : ℕ) → held ≤ most → (mounted_by cond held).size ≤ most
mounted_size Good held most within = within
mounted_size ReadOnly held most within = omega arith
mounted_size Offline held most within = omega arith

mounted_open : (cond : Cond) (held : ℕ) → (mounted_by cond held).held_open ≡ false
mounted_open Good held = refl
mounted_open ReadOnly held = refl
mounted_open Offline held = refl

-- a file of the layout, or none
no_file_in : (g : Geometry) → IsFileIn g no_file
no_file_in g = record { inside = omega arith; kinds = λ i below. absurd (omega arith); single = λ is. absurd (true≢false (sym is)) }

layout_file : (g : Geometry) (aggr : Bool) (f : ℕ) → IsFileIn g (get_or (files_of (layout_of g.kinds aggr)) f no_file)
layout_file g aggr f = elim (cases_lt f (length (files_of (layout_of g.kinds aggr)))) [
  | inl below ↦ let is = (layout_is g.kinds aggr).files f no_file below in record { inside = is.inside; kinds = is.alike; single = is.single }
  | inr past ↦ subst (IsFileIn g) (sym (get_or_past (files_of (layout_of g.kinds aggr)) f no_file past)) (no_file_in g)
]

-- what holds of size 0 without rights and of what each file is mounted with holds of what each shows
fresh_cases : (P : Shown → Type 0) (t : Truth) (layout : Layout) (f : ℕ) → P (showing 0 false false false) → P (mounted_shown t (get_or (files_of layout) f no_file)) → P (shown_at (fresh_inodes t layout) f)
fresh_cases P t layout f none some = elim (cases_lt f (length (files_of layout))) [
  | inl below ↦ subst P (sym (get_or-map (mounted_shown t) (files_of layout) f no_file (showing 0 false false false) below)) some
  | inr past ↦ subst P (sym (get_or_past (map (mounted_shown t) (files_of layout)) f (showing 0 false false false) (omega (arith, past, length-map (files_of layout) (mounted_shown t))))) none
]

fresh_agrees : (g : Geometry) (w : World) (aggr : Bool) → Stands g w → Agrees g (fresh_inodes w.truth (layout_of g.kinds aggr)) []
fresh_agrees g w aggr stands =
    let layout = layout_of g.kinds aggr in
    let inodes = fresh_inodes w.truth layout in
    let size : (f : ℕ) → (shown_at inodes f).size ≤ capacity_at inodes f = λ f. fresh_cases (λ (s : Shown). s.size ≤ capacity_at inodes f) w.truth layout f (omega arith)
    (let file = get_or (files_of layout) f no_file in
    let within = holds_file g w file stands (layout_file g aggr f) in
    let room : room_of w.truth.shape file ≡ room_of g.shape file = ap (λ (s : Shape). room_of s file) (shape_is g w stands) in
    mounted_size (worst (infos_of w.truth file)) (4096 * holds (infos_of w.truth file)) (capacity_at inodes f) (omega (arith, within, room))) in
    record {
      files = layout_file g aggr;
      shape = shape_is g w stands;
      sizes = size;
      ends = λ f seq. omega (arith, size f);
      held = λ f. fresh_cases (λ (s : Shown). s.held_open ≡ true → (file_at inodes f).seq ≡ true) w.truth layout f (λ is. absurd (true≢false (sym is)))
          (let file = get_or (files_of layout) f no_file in
          λ is. absurd (true≢false (sym is ∙ mounted_open (worst (infos_of w.truth file)) (4096 * holds (infos_of w.truth file)))));
      waiting = All-nil (IsRequestFor inodes);
    }

fresh_volume_agrees : (g : Geometry) (w : World) (super_block : SuperBlock) (opts : MountOpts) → Stands g w → VolumeAgrees g (fresh_volume w.truth super_block opts)
unfolding fresh_volume geometry_of
fresh_volume_agrees g w super_block opts stands =
    subst (λ (h : Geometry). Agrees g (fresh_inodes w.truth (layout_of h.kinds super_block.aggr_cnv)) []) (sym stands.geometry) (fresh_agrees g w super_block.aggr_cnv stands)

-- ---- mount

abbrev pub mount_commands : List Command
mount_commands = Report ∷ Read ∷ Close ∷ []

-- the device that is reached, and the volume that is mounted, if one is
pub record MountWent (g : Geometry) (w : World) (answer : MountAnswer) : Type 0 where
  pub reached : Reached (OrdersOf g mount_commands any_zone) w answer.world
  pub agrees : IfOk answer.reply (VolumeAgrees g)

module _ (g : Geometry) (limits : IsWithinLimits g) (before : World) (stands : Stands g before) (opts : MountOpts) where
  abbrev ByMount : World → World → Type 0
  ByMount w v = Reached (OrdersOf g mount_commands any_zone) w v

  mount_later : (w v : World) (answer : MountAnswer) → ByMount w v → MountWent g v answer → MountWent g w answer
  mount_later w v answer first went = record { reached = reached_both (OrdersOf g mount_commands any_zone) w v answer.world first went.reached; agrees = went.agrees }

  -- a mount that ends here with an error
  mount_ends : (w : World) (error : MountError) → MountWent g w (record { reply = Err error; world = w })
  mount_ends w error = record { reached = reached_none (OrdersOf g mount_commands any_zone) w; agrees = tt }

  closed_went : (closed : Outcome) (reply : Reply) (super_block : SuperBlock) → MountWent g closed.world (mount_closed closed reply (fresh_volume before.truth super_block opts))
  closed_went closed (Ok unit) super_block = record { reached = reached_none (OrdersOf g mount_commands any_zone) closed.world; agrees = fresh_volume_agrees g before super_block opts stands }
  closed_went closed (Err error) super_block = mount_ends closed.world _

  closes_are : All (IsOrderOf g mount_commands any_zone) (closes before.truth)
  closes_are = chosen_zones (IsOrderOf g mount_commands any_zone) (λ z. Manage z do_close) (λ z. is_good (zone_at before.truth z).cond && (zone_at before.truth z).explicit) (length before.truth.zones) (λ z passes below.
      let explicit = (and_parts (is_good (zone_at before.truth z).cond) (zone_at before.truth z).explicit passes).1 in
      let is = (stands.sound.zones z below).explicit explicit in
      let seq = (and_parts (is_sequential (zone_at before.truth z).kind) (is_good (zone_at before.truth z).cond) (and_parts (is_sequential (zone_at before.truth z).kind && is_good (zone_at before.truth z).cond) (nat_lt (zone_at before.truth z).held before.truth.shape.zone_capacity) is).0).0 in
      manage_is g before mount_commands z do_close stands below seq refl)

  decoded_went : (found : Result SuperBlock SuperError) (w : World) → MountWent g w (mount_decoded found w before.truth opts)
  decoded_went (Err error) w = mount_ends w _
  decoded_went (Ok super_block) w =
      let closed = issue_all w (closes before.truth) in
      mount_later w closed.world (mount_closed closed closed.reply (fresh_volume before.truth super_block opts)) (reached_all (OrdersOf g mount_commands any_zone) w (closes before.truth) closes_are) (closed_went closed closed.reply super_block)

  copies_went : (given : List ℕ) (copies : Outcome) (reply : Reply) → MountWent g copies.world (mount_read given copies reply before.truth opts)
  copies_went given copies (Ok unit) = decoded_went (super_block_of (copies_in before.truth given)) copies.world
  copies_went given copies (Err error) = mount_ends copies.world _

  chosen_mount : (w : World) (b : Bool) (one other : MountAnswer) → MountWent g w one → MountWent g w other → MountWent g w (if b then one else other)
  chosen_mount w true one other here there = here
  chosen_mount w false one other here there = there

  reported_went : (given : List ℕ) (reported : Outcome) (reply : Reply) → MountWent g reported.world (mount_reported given reported reply before.truth opts)
  reported_went given reported (Err error) = mount_ends reported.world _
  reported_went given reported (Ok unit) =
      let copies = issue reported.world (ReadAt 0 0 2) in
      chosen_mount reported.world (is_zone0_unfull before.truth) (not_formatted Zone0NotFull reported.world) (mount_read given copies copies.reply before.truth opts) (mount_ends reported.world _)
      (mount_later reported.world copies.world (mount_read given copies copies.reply before.truth opts) (reached_one (OrdersOf g mount_commands any_zone) reported.world (Ordered (ReadAt 0 0 2)) (read_copies_is g mount_commands limits refl))
      (copies_went given copies copies.reply))

  pub mount_went : (given : List ℕ) → MountWent g before (mount_call given before opts)
  unfolding mount_call
  mount_went given =
      let reported = issue before (report_all before.truth) in
      mount_later before reported.world (mount_reported given reported reported.reply before.truth opts)
      (reached_one (OrdersOf g mount_commands any_zone) before (Ordered (report_all before.truth)) (report_all_is g before mount_commands any_zone stands refl)) (reported_went given reported reported.reply)
