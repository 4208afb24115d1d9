-- What a device over files keeps of a zone beside its condition. (own)
use Rattle.std.specs.Prelude.{Bool, true, false}
use Rattle.zn_zloop.specs.declared.kept.Mark.{Mark}
use Rattle.zn_zloop.specs.declared.kept.Mark.TheVariants.{Clean, Listed, Changed}

-- whether the zone is in the list of those that changed
abbrev pub is_listed : Mark → Bool
is_listed Clean = false
is_listed Listed = true
is_listed Changed = true

-- whether the zone's file changed since its last sync
abbrev pub is_changed : Mark → Bool
is_changed Clean = false
is_changed Listed = false
is_changed Changed = true

-- the mark once the file is synced: it stays in the list
abbrev pub synced_mark : Mark → Mark
synced_mark Clean = Clean
synced_mark Listed = Listed
synced_mark Changed = Listed
