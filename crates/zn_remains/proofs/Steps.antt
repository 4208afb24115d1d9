-- Each line makes events of its own that lead to what it leaves.
use Rattle.std.proofs.Common.{◌≡◌, ℕ, Bool, true, false, List, [], ◌∷◌, length, Option, Some, None, refl, sym, ap, ◌∙◌, subst}
use Rattle.std.specs.Prelude.{codes, is_some, IfSome, ◌==◌}
use Rattle.std.specs.List.{All}
use Rattle.std.proofs.lemmas.List.Elements.{All-nil, All-cons, All-weaker}
use Rattle.zn_truth.specs.Limits.{IsWithinLimits}
use Rattle.zn_truth.specs.Truth.{Geometry}
use Rattle.zn_model.specs.Looks.{stat_call, entries_call, attr_call}
use Rattle.zn_model.specs.Mounting.{unmount_refusal}
use Rattle.zn_model.specs.OpenClose.{open_call, close_call}
use Rattle.zn_model.specs.Reading.{read_call, size_call}
use Rattle.zn_model.specs.Requests.{submit_call, complete_call, reap_call}
use Rattle.zn_model.specs.Truncating.{truncate_call, sync_call}
use Rattle.zn_model.specs.Writing.{write_call}
use Rattle.zn_model.specs.Volume.{Volume, Mounted}
use Rattle.zn_model.specs.ZoneFiles.{file_named, listing_of}
use Rattle.zn_lines.specs.Lines.{Line, Mkfs, Mount, Umount, OpenFile, CloseFile, SizeOf, ReadFrom, WriteTo, TruncateTo, SyncFile, SubmitTo, Complete, Reap, StatOf, ListOf, Attributes, Changes, Zones, FaultOn, TurnTo, PowerLoss, PowerLossIn, PowerOn, bytes_of}
use Rattle.zn_lines.specs.ReplyTexts.{plain, reply_text, refusal_name, number_text, read_text, done_text, stat_text, list_text, attr_text}
use Rattle.zn_lines.specs.Session.{Stepped, says_error, opens, open_line, close_line, unmounts, names_in, features_in, options_in, list_line, line_now, line_step, dropped_unless}
use Rattle.zn_lines.specs.Table.{Table, handle_of, with_mounted}
use Rattle.zn_remains.specs.Events.{Event, Ordered, FaultAsked, Turned, PowerLost, LossArmed, PowerBack, after_event, after_events, FitsIn}
use Rattle.zn_remains.specs.LineEvents.{Makes, truncates, asked_by, commands_of, may_name, in_found, in_first}
use Rattle.zn_remains.proofs.CallOrders.{OrdersOf}
use Rattle.zn_remains.proofs.CallsOnFiles.{read_commands, write_commands, sync_commands, read_went, write_went, truncate_went, sync_went}
use Rattle.zn_remains.proofs.CallsOnHandles.{open_commands, close_commands, open_went, close_went}
use Rattle.zn_remains.proofs.CallsOnRequests.{submit_went, complete_went, reap_went}
use Rattle.zn_remains.proofs.Looking.{size_went, stat_went, entries_went, attr_went}
use Rattle.zn_remains.proofs.Lines.{Sits, Led, AgreesIf, led_nowhere, led_chosen, led_told, led_opens, led_freed, led_unmounts, on_volume_led, handle_then_led, on_any_volume_led, any_handle_led, mkfs_led, mount_led, zones_led}
use Rattle.zn_remains.proofs.Standing.{Stands, stands_events}

-- ---- events of lines

-- an order of a line is an event of it
order_made : (g : Geometry) (table : Table) (line : Line) (event : Event) → OrdersOf g (commands_of line) (may_name table line) event → Makes g table line event
order_made g table line (Ordered order) is = is
order_made g table line (FaultAsked fault) is = absurd is
order_made g table line (Turned z to) is = absurd is
order_made g table line (PowerLost loss) is = absurd is
order_made g table line (LossArmed armed) is = absurd is
order_made g table line PowerBack is = absurd is

-- and fits the device
pub made_fits : (g : Geometry) (table : Table) (line : Line) (event : Event) → Makes g table line event → FitsIn g event
made_fits g table line (Ordered order) is = is.fits
made_fits g table line (FaultAsked fault) is = tt
made_fits g table line (Turned z to) is = tt
made_fits g table line (PowerLost loss) is = tt
made_fits g table line (LossArmed armed) is = tt
made_fits g table line PowerBack is = tt

-- A line's events, and what they lead to: the device after it, and a volume that agrees with that.
pub record LineLed (g : Geometry) (table : Table) (line : Line) (after : Stepped) : Type 0 where
  pub events : List Event
  pub each : All (Makes g table line) events
  pub asked : IfSome (asked_by line) (λ (event : Event). events ≡ event ∷ [])
  pub world : after.table.world ≡ after_events table.world events
  pub agrees : AgreesIf g after.table.volume
  pub entropy : after.table.entropy ≡ table.entropy

-- a line of orders
by_orders : (g : Geometry) (table : Table) (line : Line) (after : Stepped) → asked_by line ≡ None → Led g (OrdersOf g (commands_of line) (may_name table line)) table after → LineLed g table line after
by_orders g table line after none led = record {
  events = led.reached.events;
  each = All-weaker (OrdersOf g (commands_of line) (may_name table line)) (Makes g table line) (order_made g table line) led.reached.events led.reached.each;
  asked = subst (λ (found : Option Event). IfSome found (λ (event : Event). led.reached.events ≡ event ∷ [])) (sym none) tt;
  world = led.reached.world;
  agrees = led.agrees;
  entropy = led.entropy;
}

-- a line that asks for one event
by_event : (g : Geometry) (table : Table) (line : Line) (event : Event) (text : List ℕ) (sits : Sits g table) → asked_by line ≡ Some event → Makes g table line event
    → LineLed g table line (record { text = text; table = record table { world = after_event table.world event } })
by_event g table line event text sits is made = record {
  events = event ∷ [];
  each = All-cons (Makes g table line) event [] made (All-nil (Makes g table line));
  asked = subst (λ (found : Option Event). IfSome found (λ (e : Event). event ∷ [] ≡ e ∷ [])) (sym is) refl;
  world = refl;
  agrees = sits.agrees;
  entropy = refl;
}

-- ---- each line

module _ (g : Geometry) (limits : IsWithinLimits g) (given : List ℕ) (table : Table) (sits : Sits g table) where
  -- the mounted volume, with its device
  abbrev on : Volume → Mounted
  on v = record { world = table.world; volume = v }

  now_led : (line : Line) → LineLed g table line (line_now given table line)
  unfolding line_now
  now_led (Mkfs words) = by_orders g table (Mkfs words) _ refl (mkfs_led g limits table sits given words.label words.uuid (features_in words.features) words.force)
  now_led (Mount text) = by_orders g table (Mount text) _ refl (mount_led g limits table sits given (options_in text))
  now_led Umount = by_orders g table Umount _ refl
      (on_any_volume_led g [] table sits (λ m. unmounts (unmount_refusal m) table) (λ z. false) (λ v agrees. led_unmounts g (OrdersOf g [] (λ z. false)) table sits (unmount_refusal (on v))))
  now_led (OpenFile n path mode who) = by_orders g table (OpenFile n path mode who) _ refl
      (on_volume_led g open_commands table sits table.volume (λ v. in_found v (file_named v.inodes.layout path)) (open_line table n path mode who) sits.agrees (λ v agrees.
      let P = OrdersOf g open_commands (in_found v (file_named v.inodes.layout path)) in
      led_chosen g P table sits (is_some (handle_of table n)) (says_error (codes "handle-in-use") table) (opens (open_call (on v) 0 path mode who) (open_call (on v) 0 path mode who).reply table n)
      (led_nowhere g P table sits _) (led_opens g P table sits (open_call (on v) 0 path mode who) (open_call (on v) 0 path mode who).reply n (open_went g (on v) 0 path mode who sits.stands agrees))))
  now_led (CloseFile n) = by_orders g table (CloseFile n) _ refl
      (handle_then_led g close_commands table sits n (close_line table n) (λ v h agrees.
      let answer = close_call (on v) h in
      let went = close_went g (on v) h sits.stands agrees in
      led_freed g _ table sits answer.reply (reply_text plain refusal_name answer.reply) (with_mounted table answer.mounted) n (record { reached = went.reached; agrees = went.agrees; entropy = refl })))
  now_led (SizeOf n) = by_orders g table (SizeOf n) _ refl
      (any_handle_led g [] table sits n _ (λ z. false) (λ v h agrees. led_told g _ table sits number_text (size_call (on v) h) (size_went g (on v) h agrees)))
  now_led (ReadFrom n offset len) = by_orders g table (ReadFrom n offset len) _ refl
      (handle_then_led g read_commands table sits n _ (λ v h agrees. led_told g _ table sits read_text (read_call given (on v) h offset len) (read_went g given (on v) h offset len sits.stands agrees)))
  now_led (WriteTo n offset runs) = by_orders g table (WriteTo n offset runs) _ refl
      (handle_then_led g write_commands table sits n _ (λ v h agrees. led_told g _ table sits plain (write_call (on v) h offset (bytes_of runs)) (write_went g (on v) h offset (bytes_of runs) sits.stands agrees)))
  now_led (TruncateTo n size) = by_orders g table (TruncateTo n size) _ refl
      (handle_then_led g (truncates (size == 0)) table sits n _ (λ v h agrees. led_told g _ table sits plain (truncate_call (on v) h size) (truncate_went g (on v) h size sits.stands agrees)))
  now_led (SyncFile n) = by_orders g table (SyncFile n) _ refl
      (any_handle_led g sync_commands table sits n _ (λ z. false) (λ v h agrees. led_told g _ table sits plain (sync_call (on v) h) (sync_went g (on v) h sits.stands agrees)))
  now_led (SubmitTo n offset runs) = by_orders g table (SubmitTo n offset runs) _ refl
      (any_handle_led g [] table sits n _ (λ z. false) (λ v h agrees. led_told g _ table sits number_text (submit_call (on v) h offset (bytes_of runs)) (submit_went g (on v) h offset (bytes_of runs) agrees)))
  now_led Complete = by_orders g table Complete _ refl
      (on_volume_led g write_commands table sits table.volume (λ v. in_first v v.queue.queued) _ sits.agrees (λ v agrees. led_told g _ table sits number_text (complete_call (on v)) (complete_went g (on v) sits.stands agrees)))
  now_led Reap = by_orders g table Reap _ refl
      (on_any_volume_led g [] table sits _ (λ z. false) (λ v agrees. led_told g _ table sits done_text (reap_call (on v)) (reap_went g (on v) agrees)))
  now_led (StatOf path) = by_orders g table (StatOf path) _ refl
      (on_any_volume_led g [] table sits _ (λ z. false) (λ v agrees. led_told g _ table sits (stat_text path) (stat_call (on v) path) (stat_went g (on v) path agrees)))
  now_led (ListOf path) = by_orders g table (ListOf path) _ refl
      (on_any_volume_led g [] table sits (list_line table path) (λ z. false) (λ v agrees.
      led_told g _ table sits (λ n. list_text (names_in (listing_of v.inodes.layout path))) (entries_call (on v) path) (entries_went g (on v) path agrees)))
  now_led Attributes = by_orders g table Attributes _ refl
      (on_any_volume_led g [] table sits _ (λ z. false) (λ v agrees. led_told g _ table sits attr_text (attr_call (on v)) (attr_went g (on v) agrees)))
  now_led (Changes change) = by_orders g table (Changes change) _ refl (on_any_volume_led g [] table sits _ (λ z. false) (λ v agrees. led_nowhere g _ table sits _))
  now_led Zones = by_orders g table Zones _ refl (zones_led g limits table sits)
  now_led (FaultOn z command keep) = by_event g table (FaultOn z command keep) (FaultAsked (record { zone = record { 0 = z }; command = command; keep = keep })) _ sits refl refl
  now_led (TurnTo z to) = by_event g table (TurnTo z to) (Turned z to) _ sits refl refl
  now_led (PowerLoss fill cuts) = by_event g table (PowerLoss fill cuts) (PowerLost (record { cuts = cuts; fill = fill })) _ sits refl refl
  now_led (PowerLossIn z command carried_out fill cuts) =
      by_event g table (PowerLossIn z command carried_out fill cuts) (LossArmed (record { zone = record { 0 = z }; command = command; carried_out = carried_out; loss = record { cuts = cuts; fill = fill } })) _ sits refl refl
  now_led PowerOn = by_event g table PowerOn PowerBack _ sits refl refl

  -- lost power drops the volume
  dropped_led : (powered : Bool) (line : Line) (text : List ℕ) (after : Table) → LineLed g table line (record { text = text; table = after }) → LineLed g table line (record { text = text; table = dropped_unless powered after })
  dropped_led true line text after led = led
  dropped_led false line text after led = record { events = led.events; each = led.each; asked = led.asked; world = led.world; agrees = tt; entropy = led.entropy }

  pub line_led : (line : Line) → LineLed g table line (line_step given table line)
  unfolding line_step
  line_led line = let after = line_now given table line in dropped_led after.table.world.powered line after.text after.table (now_led line)

  -- the session that a line leaves
  pub sits_after : (line : Line) → Sits g (line_step given table line).table
  sits_after line =
      let led = line_led line in
      record {
        stands = subst (Stands g) (sym led.world) (stands_events g table.world led.events sits.stands (All-weaker (Makes g table line) (FitsIn g) (made_fits g table line) led.events led.each));
        agrees = led.agrees;
        entropy = ap (λ (bytes : List ℕ). length bytes) led.entropy ∙ sits.entropy;
      }
