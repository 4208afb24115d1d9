-- The small device, worked through.
use Rattle.std.proofs.Common.{◌≡◌, inl, ℕ, zero, suc, ◌<◌, [], ◌∷◌, ◌++◌, refl, ap, ◌∙◌, arith}
use Rattle.std.specs.Prelude.{replicate, set, Some, None, true, false}
use Rattle.std.specs.Fmt.{digits}
use Rattle.zn_truth.specs.declared.Command.TheVariants.{Write}
use Rattle.zn_truth.specs.Inject.{arm_loss, power_on}
use Rattle.zn_truth.specs.OrderLists.{each_zone}
use Rattle.zn_truth.specs.Orders.{WriteAt, done}
use Rattle.zn_truth.specs.Power.{lost, during}
use Rattle.zn_truth.specs.Truth.{geometry, zone_at, IsSoundZone}
use Rattle.zn_truth.specs.World.{World, calm, geometry_of, issue, met, unmet}
use Rattle.zn_model.specs.declared.files.Policy.TheVariants.{RemountRo}
use Rattle.zn_model.specs.Access.{access}
use Rattle.zn_model.specs.Mounting.{fresh_volume, fresh_inodes, fresh_queue, mount_call}
use Rattle.zn_model.specs.OpenClose.{opening_refusal, open_now, open_call}
use Rattle.zn_model.specs.Options.{mount_options}
use Rattle.zn_model.specs.Recovery.{after_failure}
use Rattle.zn_model.specs.ShownStates.{showing}
use Rattle.zn_model.specs.SuperBlock.{zeros, encoded, number_at, features_of, fields_of, first_difference, first_nonzero, first_bad_label, bad_field, super_refusal, decoded}
use Rattle.zn_model.specs.SuperLaws.{example}
use Rattle.zn_model.specs.Truncating.{syncing_refusal, sync_now, sync_call}
use Rattle.zn_model.specs.Volume.{Volume}
use Rattle.zn_model.specs.Writing.{write_at_once, write_now, write_call}
use Rattle.zn_model.specs.ZoneFiles.{layout_of, file_named}
use Rattle.zn_lines.specs.Session.{line_now, line_step}
use Rattle.zn_lines.specs.Table.{Table, no_numbers}
use Rattle.zn_remains.specs.Events.{Ordered, after_events, PowerGoes}
use Rattle.zn_remains.specs.Laws.{MayBegin}
use Rattle.zn_remains.specs.Histories.{after_line, after_lines, events_of}
use Rattle.zn_remains.specs.Cases.{LossInWrite, LossInReset, LossInScript, formatted_zone, session, lines_before, lines_behind, mounts, opens, writes_first, syncs, writes_second, arms, writes_third, powers, device, holding, blocks, waiting, dark, cut_to_three, half_durable}

pub loss_in_write : LossInWrite
unfolding issue done met unmet lost during power_on encoded zeros
loss_in_write = record { goes = refl; stays = refl }

pub loss_in_reset : LossInReset
unfolding issue done met unmet lost during encoded zeros
loss_in_reset = record { done = refl; not_done = refl }

-- ---- the tables of the script

-- the mounted volume, with a handle open on `seq/0`, which shows this size
volume_at : ℕ → Volume
volume_at size = record {
  super_block = example;
  policy = RemountRo;
  explicit_open = false;
  inodes = record (fresh_inodes (device (holding 0 0 [])) (layout_of (geometry (device (holding 0 0 []))).kinds false)) { shown = showing size true true false ∷ [] };
  handles = record { live = record { handle = record { key = 0; generation = 0 }; file = 0; mode = record { 0 = 3 } } ∷ []; opened = 1 };
  queue = fresh_queue;
}

table_at : World → ℕ → Table
table_at w size = record { world = w; volume = Some (volume_at size); numbers = set no_numbers 0 (Some (record { key = 0; generation = 0 })); entropy = replicate 16 7 }

mounted_table : Table
mounted_table = record {
  world = calm (device (holding 0 0 []));
  volume = Some (fresh_volume (device (holding 0 0 [])) example (record { policy = RemountRo; explicit_open = false }));
  numbers = no_numbers;
  entropy = replicate 16 7;
}

-- ---- its lines

mounting : after_line session mounts ≡ mounted_table
unfolding line_step line_now mount_options mount_call decoded super_refusal number_at zeros first_difference encoded bad_field first_bad_label first_nonzero features_of fields_of fresh_volume layout_of issue met unmet done mounted_table
mounting = refl

opening : after_line mounted_table opens ≡ table_at (calm (device (holding 0 0 []))) 0
unfolding line_step line_now open_call opening_refusal open_now access file_named digits fresh_volume layout_of mounted_table table_at volume_at
opening = refl

writing_first : after_line (table_at (calm (device (holding 0 0 []))) 0) writes_first ≡ table_at (calm (device (holding 1 0 (blocks 1 97)))) 4096
unfolding line_step line_now write_call write_at_once write_now each_zone issue met unmet done layout_of table_at volume_at
writing_first = refl

syncing : after_line (table_at (calm (device (holding 1 0 (blocks 1 97)))) 4096) syncs ≡ table_at (calm (device (holding 1 1 (blocks 1 97)))) 4096
unfolding line_step line_now sync_call syncing_refusal sync_now issue met unmet done layout_of table_at volume_at
syncing = refl

writing_second : after_line (table_at (calm (device (holding 1 1 (blocks 1 97)))) 4096) writes_second ≡ table_at (calm (device half_durable)) 8192
unfolding line_step line_now write_call write_at_once write_now each_zone issue met unmet done layout_of table_at volume_at
writing_second = refl

arming : after_line (table_at (calm (device half_durable)) 8192) arms ≡ table_at (waiting (cut_to_three Write false) half_durable) 8192
unfolding line_step line_now arm_loss table_at volume_at
arming = refl

-- what is left when the power went
dark_table : World → Table
dark_table w = record { world = w; volume = None; numbers = no_numbers; entropy = replicate 16 7 }

writing_third : after_line (table_at (waiting (cut_to_three Write false) half_durable) 8192) writes_third ≡ dark_table (dark (holding 3 3 (blocks 1 97 ++ blocks 2 238)))
unfolding line_step line_now write_call write_at_once write_now each_zone issue met unmet done lost during encoded zeros after_failure layout_of table_at volume_at dark_table
writing_third = refl

powering : after_line (dark_table (dark (holding 3 3 (blocks 1 97 ++ blocks 2 238)))) powers ≡ dark_table (calm (device (holding 3 3 (blocks 1 97 ++ blocks 2 238))))
unfolding line_step line_now power_on dark_table
powering = refl

-- ---- all of it

table_before : after_lines session lines_before ≡ table_at (waiting (cut_to_three Write false) half_durable) 8192
table_before =
    ap (λ (t : Table). after_lines t (opens ∷ writes_first ∷ syncs ∷ writes_second ∷ arms ∷ [])) mounting
    ∙ ap (λ (t : Table). after_lines t (writes_first ∷ syncs ∷ writes_second ∷ arms ∷ [])) opening
    ∙ ap (λ (t : Table). after_lines t (syncs ∷ writes_second ∷ arms ∷ [])) writing_first
    ∙ ap (λ (t : Table). after_lines t (writes_second ∷ arms ∷ [])) syncing
    ∙ ap (λ (t : Table). after_lines t (arms ∷ [])) writing_second
    ∙ arming

table_after : after_lines session (lines_before ++ lines_behind) ≡ dark_table (calm (device (holding 3 3 (blocks 1 97 ++ blocks 2 238))))
table_after =
    ap (λ (t : Table). after_lines t lines_behind) table_before
    ∙ ap (λ (t : Table). after_lines t (powers ∷ [])) writing_third
    ∙ powering

world_before : (after_lines session lines_before).world ≡ waiting (cut_to_three Write false) half_durable
unfolding table_at
world_before = ap (λ (t : Table). t.world) table_before

world_after : (after_lines session (lines_before ++ lines_behind)).world ≡ calm (device (holding 3 3 (blocks 1 97 ++ blocks 2 238)))
unfolding dark_table
world_after = ap (λ (t : Table). t.world) table_after

events_before : after_events session.world (events_of lines_before) ≡ waiting (cut_to_three Write false) half_durable
unfolding issue met unmet done arm_loss
events_before = refl

power_goes : PowerGoes (after_events session.world (events_of lines_before)) (Ordered (WriteAt 1 2 (blocks 2 99)))
unfolding issue met unmet done lost during arm_loss encoded zeros
power_goes = record { on = refl; off = refl }

events_after : after_events session.world (events_of (lines_before ++ lines_behind)) ≡ calm (device (holding 3 3 (blocks 1 97 ++ blocks 2 238)))
unfolding issue met unmet done lost during arm_loss power_on encoded zeros
events_after = refl

-- ---- the session may begin

-- the zones are sound, and no limit is there to be met
formatted_sound : IsSoundZone true (device (holding 0 0 [])).shape formatted_zone
unfolding encoded zeros
formatted_sound = record {
  held = omega arith;
  bytes = refl;
  durable = omega arith;
  full = λ is same. refl;
  offline = λ is. absurd (cc);
  settled = λ not_good. refl;
  flushed = λ not_good. refl;
  conventional = λ not_sequential not_offline. refl;
  whole = λ not_sequential. refl;
  flags = refl;
  explicit = λ is. absurd (cc);
}

empty_sound : IsSoundZone true (device (holding 0 0 [])).shape (holding 0 0 [])
empty_sound = record {
  held = omega arith;
  bytes = refl;
  durable = omega arith;
  full = λ is same. refl;
  offline = λ is. refl;
  settled = λ not_good. refl;
  flushed = λ not_good. refl;
  conventional = λ not_sequential. absurd (not_sequential refl);
  whole = λ not_sequential. refl;
  flags = refl;
  explicit = λ is. absurd (cc);
}

zones_sound : (z : ℕ) → z < 2 → IsSoundZone true (device (holding 0 0 [])).shape (zone_at (device (holding 0 0 [])) z)
zones_sound zero below = formatted_sound
zones_sound (suc zero) below = empty_sound
zones_sound (suc (suc z)) below = absurd (omega arith)

session_begins : MayBegin session
unfolding geometry_of
session_begins = record {
  unmounted = refl;
  sound = record { zones = zones_sound; active = λ some. absurd (omega arith); explicit = λ some. absurd (omega arith) };
  limits = record {
    some = omega arith;
    most = omega arith;
    capacity = omega arith;
    fits = omega arith;
    size = omega arith;
    open_zones = omega arith;
    active_zones = omega arith;
    ordered = inl refl;
  };
  entropy = refl;
}

pub loss_in_script : LossInScript
loss_in_script = record { begins = session_begins; before = world_before; events_before = events_before; goes = power_goes; after = world_after; events_after = events_after }
