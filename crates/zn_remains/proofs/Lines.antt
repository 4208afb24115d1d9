-- Each line of a script makes its own events, and leaves a volume that agrees with the device.
use Rattle.std.proofs.Common.{◌≡◌, ℕ, ◌≤◌, Bool, true, false, List, [], ◌∷◌, length, Option, Some, None, Result, Ok, Err, refl}
use Rattle.std.specs.Prelude.{if◌then◌else◌, IfSome, IfOk}
use Rattle.std.specs.Result.{result_ok}
use Rattle.zn_truth.specs.declared.Command.{Command}
use Rattle.zn_truth.specs.declared.Command.TheVariants.{Report}
use Rattle.zn_truth.specs.Limits.{IsWithinLimits}
use Rattle.zn_truth.specs.Truth.{Geometry}
use Rattle.zn_model.specs.declared.answers.MountError.{MountError}
use Rattle.zn_model.specs.declared.answers.OptError.{OptError}
use Rattle.zn_model.specs.declared.answers.Refusal.{Refusal}
use Rattle.zn_model.specs.declared.files.FormatOpts.{FormatOpts}
use Rattle.zn_model.specs.declared.files.MountOpts.{MountOpts}
use Rattle.zn_model.specs.declared.handles.Handle.{Handle}
use Rattle.zn_model.specs.CallAnswers.{Answer}
use Rattle.zn_model.specs.Formatting.{super_block_by}
use Rattle.zn_model.specs.Looks.{report_all}
use Rattle.zn_model.specs.Volume.{Volume, Mounted}
use Rattle.zn_lines.specs.Session.{Stepped, on_volume, on_handle, handle_then, tells, opens, freed_by, is_busy, unmounts, unless_mounted, label_in, uuid_in, format_with, mount_with, zones_line}
use Rattle.zn_lines.specs.Table.{Table, handle_of, without_number}
use Rattle.zn_remains.specs.Events.{Event, Ordered}
use Rattle.zn_remains.specs.LineEvents.{in_open, in_mounted}
use Rattle.zn_remains.proofs.Blocks.{uuid_sixteen, label_short}
use Rattle.zn_remains.proofs.CallOrders.{OrdersOf}
use Rattle.zn_remains.proofs.Formats.{format_commands, format_went}
use Rattle.zn_remains.proofs.Mounts.{any_zone, mount_commands, mount_went, report_all_is}
use Rattle.zn_remains.proofs.Reached.{Reached, reached_none, reached_one}
use Rattle.zn_remains.proofs.Recovering.{Went, VolumeAgrees}
use Rattle.zn_remains.proofs.Standing.{Stands}

-- what is mounted agrees with the device, if something is
abbrev pub AgreesIf : Geometry → Option Volume → Type 0
AgreesIf g None = Unit {0}
AgreesIf g (Some v) = VolumeAgrees g v

-- A session whose device is sound, with a volume that agrees with it, if one is mounted.
pub record Sits (g : Geometry) (table : Table) : Type 0 where
  pub stands : Stands g table.world
  pub agrees : AgreesIf g table.volume
  pub entropy : length table.entropy ≡ 16

-- what such events make of the device, with a volume that agrees with it, and the same sixteen bytes
pub record Led (g : Geometry) (P : Event → Type 0) (before : Table) (after : Stepped) : Type 0 where
  pub reached : Reached P before.world after.table.world
  pub agrees : AgreesIf g after.table.volume
  pub entropy : after.table.entropy ≡ before.entropy

module _ (g : Geometry) (P : Event → Type 0) (table : Table) (sits : Sits g table) where
  -- a line that leaves the session as it is
  pub led_nowhere : (text : List ℕ) → Led g P table (record { text = text; table = table })
  led_nowhere text = record { reached = reached_none P table.world; agrees = sits.agrees; entropy = refl }

  pub led_chosen : (b : Bool) (one other : Stepped) → Led g P table one → Led g P table other → Led g P table (if b then one else other)
  led_chosen true one other here there = here
  led_chosen false one other here there = there

  -- what a call leaves
  pub led_told : {X : Type 0} (told : X → List ℕ) (answer : Answer X) → Went g P table.world answer.mounted → Led g P table (tells told table answer)
  led_told told answer went = record { reached = went.reached; agrees = went.agrees; entropy = refl }

  pub led_opens : (answer : Answer Handle) (reply : Result Handle Refusal) (n : ℕ) → Went g P table.world answer.mounted → Led g P table (opens answer reply table n)
  led_opens answer (Ok h) n went = record { reached = went.reached; agrees = went.agrees; entropy = refl }
  led_opens answer (Err refusal) n went = record { reached = went.reached; agrees = went.agrees; entropy = refl }

  freed_if : (busy : Bool) (text : List ℕ) (after : Table) (n : ℕ) → Led g P table (record { text = text; table = after }) → Led g P table (record { text = text; table = if busy then after else without_number after n })
  freed_if true text after n led = led
  freed_if false text after n led = record { reached = led.reached; agrees = led.agrees; entropy = led.entropy }

  pub led_freed : (reply : Result (Unit {0}) Refusal) (text : List ℕ) (after : Table) (n : ℕ) → Led g P table (record { text = text; table = after }) → Led g P table (record { text = text; table = freed_by reply after n })
  led_freed (Ok unit) text after n led = freed_if false text after n led
  led_freed (Err refusal) text after n led = freed_if (is_busy refusal) text after n led

  pub led_unmounts : (refusal : Option Refusal) → Led g P table (unmounts refusal table)
  led_unmounts (Some refusal) = led_nowhere _
  led_unmounts None = record { reached = reached_none P table.world; agrees = tt; entropy = refl }

  pub led_unless : (volume : Option Volume) (step : Stepped) → Led g P table step → Led g P table (unless_mounted volume table step)
  led_unless (Some v) step led = led_nowhere _
  led_unless None step led = led

-- ---- lines on a volume, and on a handle

module _ (g : Geometry) (commands : List Command) (table : Table) (sits : Sits g table) where
  pub on_volume_led : (volume : Option Volume) (zones : Volume → ℕ → Bool) (step : Mounted → Stepped) → AgreesIf g volume
      → ((v : Volume) → VolumeAgrees g v → Led g (OrdersOf g commands (zones v)) table (step (record { world = table.world; volume = v })))
      → Led g (OrdersOf g commands (in_mounted volume zones)) table (on_volume volume table step)
  on_volume_led None zones step agrees each = led_nowhere g (OrdersOf g commands (in_mounted None zones)) table sits _
  on_volume_led (Some v) zones step agrees each = each v agrees

  on_handle_led : (v : Volume) (found : Option Handle) (step : Handle → Stepped) → ((h : Handle) → Led g (OrdersOf g commands (in_open v (Some h))) table (step h)) → Led g (OrdersOf g commands (in_open v found)) table (on_handle found table step)
  on_handle_led v None step each = led_nowhere g (OrdersOf g commands (in_open v None)) table sits _
  on_handle_led v (Some h) step each = each h

  pub handle_then_led : (n : ℕ) (step : Mounted → Handle → Stepped)
      → ((v : Volume) (h : Handle) → VolumeAgrees g v → Led g (OrdersOf g commands (in_open v (Some h))) table (step (record { world = table.world; volume = v }) h))
      → Led g (OrdersOf g commands (in_mounted table.volume (λ v. in_open v (handle_of table n)))) table (handle_then table n step)
  handle_then_led n step each =
      on_volume_led table.volume (λ v. in_open v (handle_of table n)) (λ m. on_handle (handle_of table n) table (step m)) sits.agrees
      (λ v agrees. on_handle_led v (handle_of table n) (step (record { world = table.world; volume = v })) (λ h. each v h agrees))

  -- lines that issue no order, on whatever volume
  pub on_any_volume_led : (step : Mounted → Stepped) (zones : ℕ → Bool) → ((v : Volume) → VolumeAgrees g v → Led g (OrdersOf g commands zones) table (step (record { world = table.world; volume = v })))
      → Led g (OrdersOf g commands zones) table (on_volume table.volume table step)
  on_any_volume_led step zones each = by_volume table.volume sits.agrees
    where
      by_volume : (volume : Option Volume) → AgreesIf g volume → Led g (OrdersOf g commands zones) table (on_volume volume table step)
      by_volume None agrees = led_nowhere g (OrdersOf g commands zones) table sits _
      by_volume (Some v) agrees = each v agrees

  pub any_handle_led : (n : ℕ) (step : Mounted → Handle → Stepped) (zones : ℕ → Bool) → ((v : Volume) (h : Handle) → VolumeAgrees g v → Led g (OrdersOf g commands zones) table (step (record { world = table.world; volume = v }) h))
      → Led g (OrdersOf g commands zones) table (handle_then table n step)
  any_handle_led n step zones each = on_any_volume_led (λ m. on_handle (handle_of table n) table (step m)) zones (λ v agrees. by_handle v agrees (handle_of table n))
    where
      by_handle : (v : Volume) → VolumeAgrees g v → (found : Option Handle) → Led g (OrdersOf g commands zones) table (on_handle found table (step (record { world = table.world; volume = v })))
      by_handle v agrees None = led_nowhere g (OrdersOf g commands zones) table sits _
      by_handle v agrees (Some h) = each v h agrees

-- ---- lines on the device

module _ (g : Geometry) (limits : IsWithinLimits g) (table : Table) (sits : Sits g table) where
  format_led : (given : List ℕ) (label uuid : Option (List ℕ)) (opts : Result FormatOpts OptError) (force : Bool) → IfSome label (λ (label : List ℕ). length label ≤ 64) → IfSome uuid (λ (uuid : List ℕ). length uuid ≡ 16)
      → Led g (OrdersOf g format_commands any_zone) table (format_with given label uuid opts force table)
  format_led given None uuid opts force short sixteen = led_nowhere g (OrdersOf g format_commands any_zone) table sits _
  format_led given (Some label) None opts force short sixteen = led_nowhere g (OrdersOf g format_commands any_zone) table sits _
  format_led given (Some label) (Some uuid) (Err error) force short sixteen = led_nowhere g (OrdersOf g format_commands any_zone) table sits _
  format_led given (Some label) (Some uuid) (Ok opts) force short sixteen = record {
    reached = format_went g limits table.world sits.stands (super_block_by label uuid opts) (record { label = short; uuid = sixteen }) given force;
    agrees = sits.agrees;
    entropy = refl;
  }

  pub mkfs_led : (given : List ℕ) (label uuid : Option (List ℕ)) (opts : Result FormatOpts OptError) (force : Bool)
      → Led g (OrdersOf g format_commands any_zone) table (unless_mounted table.volume table (format_with given (label_in label) (uuid_in uuid table.entropy) opts force table))
  mkfs_led given label uuid opts force =
      led_unless g (OrdersOf g format_commands any_zone) table sits table.volume (format_with given (label_in label) (uuid_in uuid table.entropy) opts force table)
      (format_led given (label_in label) (uuid_in uuid table.entropy) opts force (label_short label) (uuid_sixteen uuid table.entropy sits.entropy))

  mounted_agrees : (reply : Result Volume MountError) → IfOk reply (VolumeAgrees g) → AgreesIf g (result_ok reply)
  mounted_agrees (Ok v) agrees = agrees
  mounted_agrees (Err error) agrees = tt

  mount_with_led : (given : List ℕ) (opts : Result MountOpts OptError) → Led g (OrdersOf g mount_commands any_zone) table (mount_with given opts table)
  mount_with_led given (Err error) = led_nowhere g (OrdersOf g mount_commands any_zone) table sits _
  mount_with_led given (Ok opts) = let went = mount_went g limits table.world sits.stands opts given in record { reached = went.reached; agrees = mounted_agrees _ went.agrees; entropy = refl }

  pub mount_led : (given : List ℕ) (opts : Result MountOpts OptError) → Led g (OrdersOf g mount_commands any_zone) table (unless_mounted table.volume table (mount_with given opts table))
  mount_led given opts = led_unless g (OrdersOf g mount_commands any_zone) table sits table.volume (mount_with given opts table) (mount_with_led given opts)

  pub zones_led : Led g (OrdersOf g (Report ∷ []) (λ z. false)) table (zones_line table)
  zones_led = record {
    reached = reached_one (OrdersOf g (Report ∷ []) (λ z. false)) table.world (Ordered (report_all table.world.truth)) (report_all_is g table.world (Report ∷ []) (λ z. false) sits.stands refl);
    agrees = sits.agrees;
    entropy = refl;
  }
