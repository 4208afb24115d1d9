-- What items ask for, as it is kept.
use Rattle.std.proofs.Common.{◌≡◌, ℕ, false, List, [], ◌∷◌, None, Result, Ok, Err, refl, ap, ◌∙◌}
use Rattle.std.specs.Option.{unwrap_or}
use Rattle.zn_model.specs.declared.answers.OptError.{OptError}
use Rattle.zn_model.specs.declared.files.FormatOpts.{FormatOpts}
use Rattle.zn_model.specs.declared.files.MountOpts.{MountOpts}
use Rattle.zn_model.specs.declared.files.Policy.TheVariants.{RemountRo}
use Rattle.zn_model.specs.Options as options
use Rattle.zn_model.specs.Options.{Item, each_item, ◌>>>◌}
use Rattle.zn_opts.specs.Items.{mapped}
use Rattle.zn_opts.specs.Meant.{mount_meant, mount_of, mount_step, format_meant, format_of, format_step}
use Rattle.zn_opts.specs.declared.format.FormatGiven.{FormatGiven}
use Rattle.zn_opts.specs.declared.mount.MountGiven.{MountGiven}

mount_then : (r : Result options.MountGiven OptError) (items : List Item)
    → ((given : MountGiven) → each_item mount_step given items ≡ mapped mount_of (each_item options.mount_item (mount_meant given) items))
    → (mapped mount_of r >>> (λ after. each_item mount_step after items)) ≡ mapped mount_of (r >>> (λ after. each_item options.mount_item after items))
mount_then (Ok given) items same = same (mount_of given)
mount_then (Err error) items same = refl

pub mount_items : (given : MountGiven) (items : List Item) → each_item mount_step given items ≡ mapped mount_of (each_item options.mount_item (mount_meant given) items)
mount_items given [] = refl
mount_items given (item ∷ items) = mount_then (options.mount_item (mount_meant given) item) items (λ given. mount_items given items)

format_then : (r : Result options.FormatGiven OptError) (items : List Item)
    → ((given : FormatGiven) → each_item format_step given items ≡ mapped format_of (each_item options.format_item (format_meant given) items))
    → (mapped format_of r >>> (λ after. each_item format_step after items)) ≡ mapped format_of (r >>> (λ after. each_item options.format_item after items))
format_then (Ok given) items same = same (format_of given)
format_then (Err error) items same = refl

pub format_items : (given : FormatGiven) (items : List Item) → each_item format_step given items ≡ mapped format_of (each_item options.format_item (format_meant given) items)
format_items given [] = refl
format_items given (item ∷ items) = format_then (options.format_item (format_meant given) item) items (λ given. format_items given items)

-- ---- a whole text of a mount

-- what is asked for, where this is given
abbrev pub mount_asked : MountGiven → MountOpts
mount_asked given = record { policy = unwrap_or given.policy RemountRo; explicit_open = given.explicit_open }

-- before the first item
abbrev pub no_mount : MountGiven
no_mount = record { policy = None; explicit_open = false }

mount_ends : (r : Result options.MountGiven OptError) → mapped mount_asked (mapped mount_of r) ≡ r >>> options.mount_given
mount_ends (Ok given) = refl
mount_ends (Err error) = refl

pub mount_read : (text : List ℕ) (r : Result MountGiven OptError) → r ≡ each_item mount_step no_mount (options.items_of text) → mapped mount_asked r ≡ options.mount_options text
unfolding options.mount_options
mount_read text r is = ap (mapped mount_asked) (is ∙ mount_items no_mount (options.items_of text)) ∙ mount_ends (each_item options.mount_item options.no_mount_options (options.items_of text))

-- ---- a whole text of a format

-- what is asked for, where this is given
abbrev pub format_asked : FormatGiven → FormatOpts
format_asked given = record { aggr_cnv = given.aggr_cnv; uid = unwrap_or given.uid 0; gid = unwrap_or given.gid 0; perm = unwrap_or given.perm 0o640 }

-- before the first item
abbrev pub no_format : FormatGiven
no_format = record { aggr_cnv = false; uid = None; gid = None; perm = None }

format_ends : (r : Result options.FormatGiven OptError) → mapped format_asked (mapped format_of r) ≡ r >>> options.format_given
format_ends (Ok given) = refl
format_ends (Err error) = refl

pub format_read : (text : List ℕ) (r : Result FormatGiven OptError) → r ≡ each_item format_step no_format (options.items_of text) → mapped format_asked r ≡ options.format_options text
unfolding options.format_options
format_read text r is = ap (mapped format_asked) (is ∙ format_items no_format (options.items_of text)) ∙ format_ends (each_item options.format_item options.no_format_options (options.items_of text))
