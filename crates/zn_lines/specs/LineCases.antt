-- Lines and numbers, and what they are read as. (own)
use Rattle.std.specs.Prelude.{◌≡◌, ℕ, true, false, List, [], ◌∷◌, replicate, Some, None, Ok, Err, codes}
use Rattle.zn_truth.specs.declared.Command.TheVariants.{Read as Reading, Write as Writing, Reset as Resetting, Flush as Flushing, Report as Reporting}
use Rattle.zn_truth.specs.declared.Cond.TheVariants.{ReadOnly, Offline}
use Rattle.zn_truth.specs.declared.ZoneNo.{ZoneNo}
use Rattle.zn_model.specs.declared.answers.Outcome.TheVariants.{Ok as WasDone, IoError, TooManyActive, TooManyOpen}
use Rattle.zn_model.specs.declared.answers.Refusal.TheVariants.{QueueFull, PoolEmpty, NothingQueued, NothingDone}
use Rattle.zn_model.specs.declared.limits.TheConstants.{MOST_BYTES}
use Rattle.zn_lines.specs.declared.words.Change.TheVariants.{Create, Rename, Chmod, Chown}
use Rattle.zn_lines.specs.Lines.{FormatWords, plain_format, Line, Mkfs, Mount, Umount, OpenFile, CloseFile, SizeOf, ReadFrom, WriteTo, TruncateTo, SyncFile, SubmitTo, Complete, Reap, StatOf, ListOf, Attributes, Changes, Zones, FaultOn, TurnTo, PowerLoss, PowerLossIn, PowerOn}
use Rattle.zn_base.specs.Decimals.{number_in}
use Rattle.zn_lines.specs.Grammar.{last_offset, last_zone, last_u32, who_named, root, line_of, reading_of}
use Rattle.zn_lines.specs.LineTexts.{spaced, line_text}
use Rattle.zn_lines.specs.ReplyTexts.{refusal_name, reply_text, number_text, done_text}

-- ---- lines

-- the user 0 opens `seq/0` as handle 0, for reading and writing
abbrev pub open_both : Line
open_both = OpenFile 0 (codes "seq/0") (record { 0 = 3 }) root

-- the user 1000 and the group 100 open it for reading
abbrev pub open_as : Line
open_as = OpenFile 0 (codes "seq/0") (record { 0 = 1 }) (who_named (Some 1000) (Some 100))

-- the greatest user opens it for both
abbrev pub open_as_last : Line
open_as_last = OpenFile 0 (codes "seq/0") (record { 0 = 3 }) (who_named (Some last_u32) None)

-- the user 0 and the group 7 open it for both
abbrev pub open_as_group : Line
open_as_group = OpenFile 0 (codes "seq/0") (record { 0 = 3 }) (who_named None (Some 7))

-- all that a format can be asked for
abbrev pub all_asked : FormatWords
all_asked =
    record { force = true; label = Some (codes "data"); uuid = Some (codes "u"); features = Some (codes "aggr_cnv") }

-- a read of the greatest handle number, offset and length
abbrev pub read_last : Line
read_last = ReadFrom 2047 last_offset MOST_BYTES

-- one block of the byte 0x61, at offset 0
abbrev pub write_one : Line
write_one = WriteTo 0 0 (record { byte = 0x61; count = 4096 } ∷ [])

-- two runs at offset 4096: the byte 0x0a no times, and the byte 0xff once
abbrev pub write_two : Line
write_two = WriteTo 0 4096 (record { byte = 0x0a; count = 0 } ∷ record { byte = 0xff; count = 1 } ∷ [])

-- the greatest handle number and the greatest size
abbrev pub truncate_last : Line
truncate_last = TruncateTo 2047 last_offset

-- one block of the byte 0x61 at the greatest offset, by the greatest handle number
abbrev pub submit_last : Line
submit_last = SubmitTo 2047 last_offset (record { byte = 0x61; count = 4096 } ∷ [])

-- two blocks, of the bytes 0x61 and 0x62, at offset 8192
abbrev pub submit_two : Line
submit_two = SubmitTo 7 8192 (record { byte = 0x61; count = 4096 } ∷ record { byte = 0x62; count = 4096 } ∷ [])

-- the zone 1 is cut to two blocks
abbrev pub cut_one : ZoneNo × ℕ
cut_one = (record { 0 = 1 }, 2)

-- the greatest zone is cut to the greatest number of blocks
abbrev pub cut_last : ZoneNo × ℕ
cut_last = (record { 0 = last_zone }, last_u32)

-- a loss fills in the byte 0xee, and cuts two zones
abbrev pub lose_two : Line
lose_two = PowerLoss (Some 0xee) (cut_one ∷ cut_last ∷ [])

-- the power goes after a reset of the zone 2; the byte 0x0f is filled in, and one zone is cut
abbrev pub lose_in_reset : Line
lose_in_reset = PowerLossIn 2 Resetting true (Some 0x0f) (cut_one ∷ [])

-- a loss with so many cuts, all of them the same
abbrev pub many_cuts : ℕ → List ℕ
many_cuts n = spaced (codes "power-loss" ∷ replicate n (codes "1:2"))

-- lines that are read
pub record LinesRead : Type 0 where
  pub opening : line_of (codes "open 0 seq/0 rw") ≡ Ok open_both
  pub close : line_of (codes "close 7") ≡ Ok (CloseFile 7)
  pub size : line_of (codes "size 0") ≡ Ok (SizeOf 0)
  pub read : line_of (codes "read 0 0 4096") ≡ Ok (ReadFrom 0 0 4096)
  pub read_last : line_of (codes "read 2047 18446744073709551615 1048576") ≡ Ok read_last
  pub write_one : line_of (codes "write 0 0 61*4096") ≡ Ok write_one
  pub write_two : line_of (codes "write 0 4096 0a*0+ff*1") ≡ Ok write_two
  pub truncate : line_of (codes "truncate 0 4096") ≡ Ok (TruncateTo 0 4096)
  pub truncate_last : line_of (codes "truncate 2047 18446744073709551615") ≡ Ok truncate_last
  pub sync : line_of (codes "sync 7") ≡ Ok (SyncFile 7)
  pub stat : line_of (codes "stat /") ≡ Ok (StatOf (codes "/"))
  pub listing : line_of (codes "list #") ≡ Ok (ListOf (codes "#"))
  pub attr : line_of (codes "attr") ≡ Ok Attributes
  pub create : line_of (codes "create cnv/9") ≡ Ok (Changes Create)
  pub rename : line_of (codes "rename cnv/0 cnv/1") ≡ Ok (Changes Rename)
  pub chmod : line_of (codes "chmod cnv/0 438") ≡ Ok (Changes Chmod)
  pub chown : line_of (codes "chown cnv/0 4294967295 0") ≡ Ok (Changes Chown)

-- lines that format, mount and unmount; the items of a format are read in any order
pub record FormatsRead : Type 0 where
  pub plain : line_of (codes "mkfs") ≡ Ok (Mkfs plain_format)
  pub force : line_of (codes "mkfs force") ≡ Ok (Mkfs (record plain_format { force = true }))
  pub label : line_of (codes "mkfs label=a=b") ≡ Ok (Mkfs (record plain_format { label = Some (codes "a=b") }))
  pub all : line_of (codes "mkfs force label=data uuid=u features=aggr_cnv") ≡ Ok (Mkfs all_asked)
  pub another_order : line_of (codes "mkfs features=aggr_cnv uuid=u force label=data") ≡ Ok (Mkfs all_asked)
  pub mount : line_of (codes "mount") ≡ Ok (Mount None)
  pub mount_with : line_of (codes "mount explicit-open") ≡ Ok (Mount (Some (codes "explicit-open")))
  pub umount : line_of (codes "umount") ≡ Ok Umount

-- who opens: a user or a group that is left out is 0
pub record UsersRead : Type 0 where
  pub both : line_of (codes "open 0 seq/0 r uid=1000 gid=100") ≡ Ok open_as
  pub user : line_of (codes "open 0 seq/0 rw uid=4294967295") ≡ Ok open_as_last
  pub group : line_of (codes "open 0 seq/0 rw gid=7") ≡ Ok open_as_group
  pub zeros : line_of (codes "open 0 seq/0 rw uid=0 gid=0") ≡ Ok open_both

-- Faults and turns. Whether the device has the zone, and takes the fault, is no matter of the grammar.
pub record FaultsRead : Type 0 where
  pub fault : line_of (codes "fault 1 write") ≡ Ok (FaultOn 1 Writing None)
  pub part : line_of (codes "fault 1 write 0") ≡ Ok (FaultOn 1 Writing (Some 0))
  pub part_of_a_read : line_of (codes "fault 0 read 1") ≡ Ok (FaultOn 0 Reading (Some 1))
  pub last : line_of (codes "fault 18446744073709551615 flush 4294967295") ≡ Ok (FaultOn last_zone Flushing (Some last_u32))
  pub report : line_of (codes "fault 2 report") ≡ Ok (FaultOn 2 Reporting None)
  pub turn : line_of (codes "turn 1 ro") ≡ Ok (TurnTo 1 ReadOnly)
  pub turn_last : line_of (codes "turn 18446744073709551615 off") ≡ Ok (TurnTo last_zone Offline)

-- requests: `complete` and `reap` have no other words
pub record RequestsRead : Type 0 where
  pub submit : line_of (codes "submit 7 8192 61*4096+62*4096") ≡ Ok submit_two
  pub last : line_of (codes "submit 2047 18446744073709551615 61*4096") ≡ Ok submit_last
  pub complete : line_of (codes "complete") ≡ Ok Complete
  pub reap : line_of (codes "reap") ≡ Ok Reap

-- what is told of requests: a ticket, and how the request that has it ended
pub record RequestsTold : Type 0 where
  pub submitted : reply_text number_text refusal_name (Ok 3) ≡ codes "ok 3\n"
  pub full : reply_text number_text refusal_name (Err QueueFull) ≡ codes "error queue-full\n"
  pub no_blocks : reply_text number_text refusal_name (Err PoolEmpty) ≡ codes "error pool-empty\n"
  pub none_queued : reply_text number_text refusal_name (Err NothingQueued) ≡ codes "error nothing-queued\n"
  pub written : reply_text done_text refusal_name (Ok (record { ticket = 1; outcome = WasDone })) ≡ codes "ok 1 ok\n"
  pub failed : reply_text done_text refusal_name (Ok (record { ticket = 20; outcome = IoError })) ≡ codes "ok 20 io-error\n"
  pub too_many_active : reply_text done_text refusal_name (Ok (record { ticket = 300; outcome = TooManyActive })) ≡ codes "ok 300 too-many-active\n"
  pub too_many_open : reply_text done_text refusal_name (Ok (record { ticket = 4000; outcome = TooManyOpen })) ≡ codes "ok 4000 too-many-open\n"
  pub none_ended : reply_text done_text refusal_name (Err NothingDone) ≡ codes "error nothing-done\n"

-- A report of all zones, and losses and return of power. Whether the device has the zones, and may be cut so, is no matter
-- of the grammar.
pub record LossesRead : Type 0 where
  pub zones : line_of (codes "zones") ≡ Ok Zones
  pub plain : line_of (codes "power-loss") ≡ Ok (PowerLoss None [])
  pub fill : line_of (codes "power-loss fill=00") ≡ Ok (PowerLoss (Some 0) [])
  pub cut : line_of (codes "power-loss 1:2") ≡ Ok (PowerLoss None (cut_one ∷ []))
  pub twice : line_of (codes "power-loss 1:2 1:2") ≡ Ok (PowerLoss None (cut_one ∷ cut_one ∷ []))
  pub both : line_of (codes "power-loss fill=ee 1:2 18446744073709551615:4294967295") ≡ Ok lose_two
  pub most : line_of (many_cuts 64) ≡ Ok (PowerLoss None (replicate 64 cut_one))
  pub within : line_of (codes "power-loss-in 0 write") ≡ Ok (PowerLossIn 0 Writing false None [])
  pub last : line_of (codes "power-loss-in 18446744073709551615 flush") ≡ Ok (PowerLossIn last_zone Flushing false None [])
  pub done : line_of (codes "power-loss-in 2 reset done") ≡ Ok (PowerLossIn 2 Resetting true None [])
  pub fill_within : line_of (codes "power-loss-in 2 read fill=9a") ≡ Ok (PowerLossIn 2 Reading false (Some 0x9a) [])
  pub all : line_of (codes "power-loss-in 2 reset done fill=0f 1:2") ≡ Ok lose_in_reset
  pub on : line_of (codes "power-on") ≡ Ok PowerOn

-- the plain texts of lines
pub record LinesWritten : Type 0 where
  pub format : line_text (Mkfs all_asked) ≡ codes "mkfs force label=data uuid=u features=aggr_cnv"
  pub mount : line_text (Mount None) ≡ codes "mount"
  pub opening : line_text open_both ≡ codes "open 0 seq/0 rw"
  pub opening_as : line_text open_as ≡ codes "open 0 seq/0 r uid=1000 gid=100"
  pub size : line_text (SizeOf 0) ≡ codes "size 0"
  pub read : line_text (ReadFrom 0 0 4096) ≡ codes "read 0 0 4096"
  pub read_last : line_text read_last ≡ codes "read 2047 18446744073709551615 1048576"
  pub write_one : line_text write_one ≡ codes "write 0 0 61*4096"
  pub write_two : line_text write_two ≡ codes "write 0 4096 0a*0+ff*1"
  pub truncate : line_text (TruncateTo 0 0) ≡ codes "truncate 0 0"
  pub truncate_last : line_text truncate_last ≡ codes "truncate 2047 18446744073709551615"
  pub sync : line_text (SyncFile 2047) ≡ codes "sync 2047"
  pub attr : line_text Attributes ≡ codes "attr"
  pub fault : line_text (FaultOn 1 Resetting None) ≡ codes "fault 1 reset"
  pub fault_part : line_text (FaultOn 1 Flushing (Some 0)) ≡ codes "fault 1 flush 0"
  pub turn : line_text (TurnTo 2 Offline) ≡ codes "turn 2 off"
  pub submit : line_text submit_last ≡ codes "submit 2047 18446744073709551615 61*4096"
  pub complete : line_text Complete ≡ codes "complete"
  pub reap : line_text Reap ≡ codes "reap"
  pub zones : line_text Zones ≡ codes "zones"
  pub loss : line_text (PowerLoss None []) ≡ codes "power-loss"
  pub loss_two : line_text lose_two ≡ codes "power-loss fill=ee 1:2 18446744073709551615:4294967295"
  pub loss_within : line_text (PowerLossIn 0 Writing false None []) ≡ codes "power-loss-in 0 write"
  pub loss_after : line_text lose_in_reset ≡ codes "power-loss-in 2 reset done fill=0f 1:2"
  pub on : line_text PowerOn ≡ codes "power-on"

-- ---- lines that are refused, each at the column of the first word that does not fit

-- an empty line, and first words that are no verb: always column 1
pub record VerbsRefused : Type 0 where
  pub nothing : line_of [] ≡ Err 1
  pub other : line_of (codes "sizes 0") ≡ Err 1
  pub capital : line_of (codes "Size 0") ≡ Err 1
  pub blank_before : line_of (codes " size 0") ≡ Err 1
  pub longer_verb : line_of (codes "attributes") ≡ Err 1

-- words behind a verb that are missing, one too many, or not of their form
pub record WordsRefused : Type 0 where
  pub missing_handle : line_of (codes "size") ≡ Err 5
  pub two_blanks : line_of (codes "size  0") ≡ Err 6
  pub leading_zero : line_of (codes "size 00") ≡ Err 6
  pub handle_too_large : line_of (codes "size 2048") ≡ Err 6
  pub blank_behind : line_of (codes "size 0 ") ≡ Err 8
  pub one_too_many : line_of (codes "size 0 0") ≡ Err 8
  pub missing_offset : line_of (codes "read 0") ≡ Err 7
  pub offset_too_large : line_of (codes "read 0 18446744073709551616 0") ≡ Err 8
  pub length_too_large : line_of (codes "read 0 0 1048577") ≡ Err 10
  pub missing_size : line_of (codes "truncate 7") ≡ Err 11
  pub size_too_large : line_of (codes "truncate 7 18446744073709551616") ≡ Err 12
  pub size_with_a_sign : line_of (codes "truncate 7 +1") ≡ Err 12
  pub word_behind_size : line_of (codes "truncate 7 0 0") ≡ Err 14
  pub missing_synced_handle : line_of (codes "sync") ≡ Err 5
  pub synced_handle_too_large : line_of (codes "sync 2048") ≡ Err 6
  pub word_behind_sync : line_of (codes "sync 7 8") ≡ Err 8
  pub word_behind_attr : line_of (codes "attr 0") ≡ Err 6
  pub blank_behind_attr : line_of (codes "attr ") ≡ Err 6
  pub mode_the_other_way : line_of (codes "open 0 seq/0 wr") ≡ Err 14
  pub path_not_printable : line_of (codes "stat a\tb") ≡ Err 6
  pub user_too_large : line_of (codes "chown cnv/0 4294967296 0") ≡ Err 13

-- items of a format that are none, that repeat, or that lack their text
pub record FormatsRefused : Type 0 where
  pub no_item : line_of (codes "mkfs forced") ≡ Err 6
  pub repeated_force : line_of (codes "mkfs force force") ≡ Err 12
  pub repeated_label : line_of (codes "mkfs label=a force label=b") ≡ Err 20
  pub empty_label : line_of (codes "mkfs label=") ≡ Err 6
  pub blank_behind : line_of (codes "mkfs force ") ≡ Err 12
  pub options_not_printable : line_of (codes "mount a\tb") ≡ Err 7
  pub empty_options : line_of (codes "mount ") ≡ Err 7
  pub options_twice : line_of (codes "mount explicit-open explicit-open") ≡ Err 21
  pub umount_with : line_of (codes "umount now") ≡ Err 8

-- users and groups in another order, twice, or that are no numbers
pub record UsersRefused : Type 0 where
  pub group_first : line_of (codes "open 0 seq/0 r gid=1 uid=1") ≡ Err 22
  pub user_twice : line_of (codes "open 0 seq/0 r uid=1 uid=1") ≡ Err 22
  pub group_twice : line_of (codes "open 0 seq/0 r gid=1 gid=1") ≡ Err 22
  pub user_too_large : line_of (codes "open 0 seq/0 r uid=4294967296") ≡ Err 16
  pub empty_group : line_of (codes "open 0 seq/0 r uid=1 gid=") ≡ Err 22
  pub missing_mode : line_of (codes "open 0 seq/0 uid=1") ≡ Err 14
  pub one_too_many : line_of (codes "open 0 seq/0 r uid=1 gid=1 x") ≡ Err 28

-- faults and turns: words that are missing, one too many, or not of their form; a last word of a fault that is no
-- number is one too many
pub record FaultsRefused : Type 0 where
  pub missing_zone : line_of (codes "fault") ≡ Err 6
  pub zone_too_large : line_of (codes "fault 18446744073709551616 read") ≡ Err 7
  pub missing_kind : line_of (codes "fault 1") ≡ Err 8
  pub no_kind : line_of (codes "fault 1 append") ≡ Err 9
  pub blank_behind : line_of (codes "fault 1 write ") ≡ Err 15
  pub no_number : line_of (codes "fault 1 write all") ≡ Err 15
  pub number_too_large : line_of (codes "fault 1 write 4294967296") ≡ Err 15
  pub one_too_many : line_of (codes "fault 1 write 1 2") ≡ Err 17
  pub missing_turned_zone : line_of (codes "turn") ≡ Err 5
  pub turned_zone_too_large : line_of (codes "turn 18446744073709551616 ro") ≡ Err 6
  pub missing_condition : line_of (codes "turn 1") ≡ Err 7
  pub turned_to_good : line_of (codes "turn 1 good") ≡ Err 8
  pub word_behind_turn : line_of (codes "turn 1 ro off") ≡ Err 11

-- requests: words that are missing, one too many, or not of their form
pub record RequestsRefused : Type 0 where
  pub missing_handle : line_of (codes "submit") ≡ Err 7
  pub handle_too_large : line_of (codes "submit 2048 0 61*1") ≡ Err 8
  pub missing_offset : line_of (codes "submit 0") ≡ Err 9
  pub offset_too_large : line_of (codes "submit 0 18446744073709551616 61*1") ≡ Err 10
  pub missing_data : line_of (codes "submit 0 0") ≡ Err 11
  pub no_data : line_of (codes "submit 0 0 61") ≡ Err 12
  pub word_behind_data : line_of (codes "submit 0 0 61*1 0") ≡ Err 17
  pub word_behind_complete : line_of (codes "complete 0") ≡ Err 10
  pub blank_behind_complete : line_of (codes "complete ") ≡ Err 10
  pub word_behind_reap : line_of (codes "reap 0") ≡ Err 6
  pub blank_behind_reap : line_of (codes "reap ") ≡ Err 6

-- zones, and losses and return of power: words that are missing, in another order, twice, one too many, or not of their
-- form
pub record LossesRefused : Type 0 where
  pub word_behind_zones : line_of (codes "zones 0") ≡ Err 7
  pub blank_behind_zones : line_of (codes "zones ") ≡ Err 7
  pub word_behind_on : line_of (codes "power-on 0") ≡ Err 10
  pub blank_behind : line_of (codes "power-loss ") ≡ Err 12
  pub fill_twice : line_of (codes "power-loss fill=ee fill=ee") ≡ Err 20
  pub fill_behind_cut : line_of (codes "power-loss 1:2 fill=ee") ≡ Err 16
  pub capital_fill : line_of (codes "power-loss fill=EE") ≡ Err 12
  pub short_fill : line_of (codes "power-loss fill=e") ≡ Err 12
  pub long_fill : line_of (codes "power-loss fill=eee") ≡ Err 12
  pub empty_fill : line_of (codes "power-loss fill=") ≡ Err 12
  pub done_without_a_command : line_of (codes "power-loss done") ≡ Err 12
  pub zone_alone : line_of (codes "power-loss 1") ≡ Err 12
  pub no_blocks : line_of (codes "power-loss 1:") ≡ Err 12
  pub no_zone : line_of (codes "power-loss :2") ≡ Err 12
  pub two_colons : line_of (codes "power-loss 1:2:3") ≡ Err 12
  pub zone_too_large : line_of (codes "power-loss 18446744073709551616:0") ≡ Err 12
  pub blocks_too_large : line_of (codes "power-loss 0:4294967296") ≡ Err 12
  pub leading_zero : line_of (codes "power-loss 1:2 01:2") ≡ Err 16
  pub two_blanks : line_of (codes "power-loss 1:2  1:2") ≡ Err 16
  pub one_too_many : line_of (many_cuts 65) ≡ Err 268
  pub missing_zone : line_of (codes "power-loss-in") ≡ Err 14
  pub zone_too_large_within : line_of (codes "power-loss-in 18446744073709551616 read") ≡ Err 15
  pub missing_kind : line_of (codes "power-loss-in 0") ≡ Err 16
  pub no_kind : line_of (codes "power-loss-in 0 append") ≡ Err 17
  pub done_behind_fill : line_of (codes "power-loss-in 0 reset fill=ee done") ≡ Err 31
  pub done_twice : line_of (codes "power-loss-in 0 reset done done") ≡ Err 28
  pub done_behind_cut : line_of (codes "power-loss-in 0 reset 1:2 done") ≡ Err 27

-- faulty data of a write: the column is where the data begins, whichever part is at fault
pub record DataRefused : Type 0 where
  pub half_a_byte : line_of (codes "write 0 0 6*1") ≡ Err 11
  pub capital_digit : line_of (codes "write 0 0 6A*1") ≡ Err 11
  pub no_count : line_of (codes "write 0 0 61*") ≡ Err 11
  pub no_second_part : line_of (codes "write 0 0 61*1+") ≡ Err 11
  pub count_too_large : line_of (codes "write 0 0 61*1048577") ≡ Err 11
  pub counts_too_large : line_of (codes "write 0 0 61*1048576+62*1") ≡ Err 11

-- ---- comments

-- empty lines and comments have no reply; a comment does not stand behind blanks
pub record CommentsRead : Type 0 where
  pub nothing : reading_of [] ≡ Ok None
  pub comment : reading_of (codes "# size 0") ≡ Ok None
  pub mark : reading_of (codes "#") ≡ Ok None
  pub line : reading_of (codes "size 0") ≡ Ok (Some (SizeOf 0))
  pub blank_before : reading_of (codes " # size 0") ≡ Err 1

-- ---- numbers

-- the least and greatest numbers, and words that are none
pub record NumbersRead : Type 0 where
  pub least : number_in last_offset (codes "0") ≡ Some 0
  pub greatest : number_in last_offset (codes "18446744073709551615") ≡ Some last_offset
  pub one_more : number_in last_offset (codes "18446744073709551616") ≡ None
  pub nothing : number_in last_offset [] ≡ None
  pub two_zeros : number_in last_offset (codes "00") ≡ None
  pub leading_zero : number_in last_offset (codes "01") ≡ None
  pub sign : number_in last_offset (codes "+1") ≡ None
  pub letter : number_in last_offset (codes "1a") ≡ None
