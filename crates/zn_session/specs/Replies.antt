-- The texts of replies. (own)
use Rattle.std.specs.Prelude.{ℕ, Bool, true, false, ◌≤◌, ◌<◌, ◌^◌, List, [], ◌∷◌, take, length, Ok, Err, codes}
use Rattle.std.specs.Fmt.{decimal}
use Rattle.std.specs.List.{flat_map, enumerate_from}
use Rattle.zn_model.specs.declared.limits.TheConstants.{MOST_BYTES}
use Rattle.zn_base.specs.Texts.{◌⧺◌}
use Rattle.zn_lines.specs.ReplyTexts.{refusal_name, mount_error_name, format_error_name, option_error_name, inject_error_name}
use Rattle.zn_lines.specs.ReplyTexts.{error_text, ok_text, number_text, read_text, done_text, stat_text, list_text, attr_text}
use Rattle.zn_truth.specs.Inject.{InjectReply}
use Rattle.zn_model.specs.ZoneFiles.{names_to}
use Rattle.zn_model.specs.ZoneTexts.{zone_text}
use Rattle.zn_session.specs.declared.replies.Reply.{Reply}
use Rattle.zn_session.specs.declared.replies.Reply.TheVariants.{NotMounted, AlreadyMounted, HandleInUse, BadLabel, BadUuid}
use Rattle.zn_session.specs.declared.replies.Reply.TheVariants.{Refused, OptionRefused, FormatRefused, MountRefused}
use Rattle.zn_session.specs.declared.replies.Reply.TheVariants.{InjectRefused, Done, Number, Bytes, Reaped}
use Rattle.zn_session.specs.declared.replies.Reply.TheVariants.{Told, Directories, Names, Attributes, Zones}
use Rattle.zn_session.specs.declared.room.Room.{Room}
use Rattle.zn_session.specs.declared.room.ZoneTold.{ZoneTold}

-- What a session keeps that replies tell: the bytes of a read, and the zones of a report.
pub record Kept : Type 0 where
  pub bytes : List ℕ
  pub zones : List ZoneTold

-- what is kept where these are the bytes and the zones
abbrev pub kept_as : List ℕ → List ZoneTold → Kept
kept_as bytes zones = record { bytes = bytes; zones = zones }

-- what is kept in the room for it
abbrev pub kept_in : Room → Kept
kept_in room = kept_as room.bytes.items room.zones.items

-- the names of the directories that exist
abbrev pub directory_names : Bool → Bool → List (List ℕ)
directory_names false false = []
directory_names true false = codes "cnv" ∷ []
directory_names false true = codes "seq" ∷ []
directory_names true true = codes "cnv" ∷ codes "seq" ∷ []

-- what stands before the bytes of a read
abbrev pub front_text : ℕ → List ℕ
front_text count = codes "ok " ⧺ decimal count ⧺ codes " "

-- the line of a zone, with its number
abbrev pub told_line : ℕ × ZoneTold → List ℕ
told_line entry = zone_text entry.0 entry.1.kind entry.1.info entry.1.room entry.1.place

-- how many zones, and each on a line
abbrev pub told_zones : List ZoneTold → List ℕ
told_zones zones = number_text (length zones) ⧺ flat_map told_line (enumerate_from 0 zones)

-- the text of a reply, where the bytes of a read are at the front of those that are kept
abbrev pub text_of : Reply → Kept → List ℕ
text_of NotMounted kept = error_text (codes "not-mounted")
text_of AlreadyMounted kept = error_text (codes "already-mounted")
text_of HandleInUse kept = error_text (codes "handle-in-use")
text_of BadLabel kept = error_text (codes "bad-label")
text_of BadUuid kept = error_text (codes "bad-uuid")
text_of (Refused refusal) kept = error_text (refusal_name refusal)
text_of (OptionRefused error) kept = error_text (option_error_name error)
text_of (FormatRefused error) kept = error_text (format_error_name error)
text_of (MountRefused error) kept = error_text (mount_error_name error)
text_of (InjectRefused error) kept = error_text (inject_error_name error)
text_of Done kept = ok_text
text_of (Number n) kept = number_text n
text_of (Bytes n) kept = read_text (take n kept.bytes)
text_of (Reaped done) kept = done_text done
text_of (Told path stat) kept = stat_text path.now stat
text_of (Directories cnv seq) kept = list_text (directory_names cnv seq)
text_of (Names n) kept = list_text (names_to n)
text_of (Attributes attr) kept = attr_text attr
text_of Zones kept = told_zones kept.zones

-- the reply to what was done to the device
abbrev pub inject_reply : InjectReply → Reply
inject_reply (Ok unit) = Done
inject_reply (Err error) = InjectRefused error

-- as many bytes are kept as the reply tells, and these are not too many; zones have numbers of 32 bits
abbrev pub IsWritable : Reply → Kept → Type 0
IsWritable (Bytes n) kept = (n ≤ length kept.bytes) × (n ≤ MOST_BYTES)
IsWritable Zones kept = length kept.zones < 2 ^ 32
IsWritable _ kept = Unit {0}
