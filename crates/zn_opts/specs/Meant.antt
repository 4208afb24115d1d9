-- The options given so far, as the definitions have them and as they are kept. (own)
use Rattle.std.specs.Prelude.{Result}
use Rattle.zn_model.specs.Options as options
use Rattle.zn_model.specs.declared.answers.OptError.{OptError}
use Rattle.zn_opts.specs.Items.{mapped}
use Rattle.zn_opts.specs.declared.format.FormatGiven.{FormatGiven}
use Rattle.zn_opts.specs.declared.mount.MountGiven.{MountGiven}

-- as the definitions have those of a mount
abbrev pub mount_meant : MountGiven → options.MountGiven
mount_meant given = record { policy = given.policy; explicit_open = given.explicit_open }

-- as those of a mount are kept
abbrev pub mount_of : options.MountGiven → MountGiven
mount_of given = record { policy = given.policy; explicit_open = given.explicit_open }

-- what an item adds to those of a mount
abbrev pub mount_step : MountGiven → options.Item → Result MountGiven OptError
mount_step given item = mapped mount_of (options.mount_item (mount_meant given) item)

-- as the definitions have those of a format
abbrev pub format_meant : FormatGiven → options.FormatGiven
format_meant given = record { aggr_cnv = given.aggr_cnv; uid = given.uid; gid = given.gid; perm = given.perm }

-- as those of a format are kept
abbrev pub format_of : options.FormatGiven → FormatGiven
format_of given = record { aggr_cnv = given.aggr_cnv; uid = given.uid; gid = given.gid; perm = given.perm }

-- what an item adds to those of a format
abbrev pub format_step : FormatGiven → options.Item → Result FormatGiven OptError
format_step given item = mapped format_of (options.format_item (format_meant given) item)
