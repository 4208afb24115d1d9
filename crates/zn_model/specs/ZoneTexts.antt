-- The text of a zone, as a line of its own. (own)
use Rattle.std.specs.Prelude.{ℕ, List, codes}
use Rattle.std.specs.Fmt.{decimal}
use Rattle.zn_base.specs.Texts.{◌⧺◌}
use Rattle.zn_truth.specs.declared.Cond.{Cond}
use Rattle.zn_truth.specs.declared.Cond.TheVariants.{Good, ReadOnly, Offline}
use Rattle.zn_truth.specs.declared.Kind.{Kind}
use Rattle.zn_truth.specs.declared.Kind.TheVariants.{Conventional, Sequential}
use Rattle.zn_truth.specs.declared.ZoneInfo.{ZoneInfo}
use Rattle.zn_model.specs.declared.files.Place.{Place}
use Rattle.zn_model.specs.declared.files.Place.TheVariants.{Super, Cnv, Seq, Unplaced}
use Rattle.zn_model.specs.ZoneFiles.{cnv_path, seq_path}

-- a zone is good, read-only or offline
abbrev pub cond_name : Cond → List ℕ
cond_name Good = codes "good"
cond_name ReadOnly = codes "read-only"
cond_name Offline = codes "offline"

-- a kind of zone is called as the directory of its files
abbrev pub kind_name : Kind → List ℕ
kind_name Conventional = codes "cnv"
kind_name Sequential = codes "seq"

-- `super` for zone 0, else the path of the zone's file, or a hyphen where there is none
abbrev pub place_name : Place → List ℕ
place_name Super = codes "super"
place_name (Cnv i) = cnv_path i
place_name (Seq i) = seq_path i
place_name Unplaced = codes "-"

-- a zone: its number, kind, condition, the blocks that it holds and has room for, and where it is shown
abbrev pub zone_text : ℕ → Kind → ZoneInfo → ℕ → Place → List ℕ
zone_text z kind info room place =
    codes "zone " ⧺ decimal z ⧺ codes " " ⧺ kind_name kind ⧺ codes " " ⧺ cond_name info.cond ⧺ codes " "
    ⧺ decimal info.held ⧺ codes " " ⧺ decimal room ⧺ codes " " ⧺ place_name place ⧺ codes "\n"
