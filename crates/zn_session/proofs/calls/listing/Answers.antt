use Rattle.std.proofs.Common.{◌≡◌, true, false, refl, sym, ap, ◌∙◌}
use Rattle.std.specs.Prelude.{codes, nat_lt}
use Rattle.std.specs.Str.{bytes_eq}
use Rattle.zn_lines.specs.ReplyTexts.{list_text}
use Rattle.zn_lines.specs.Session.{names_in}
use Rattle.zn_model.specs.ZoneFiles.{listing_of}
use Rattle.zn_session.specs.Replies.{directory_names}
use Rattle.zn_session.proofs.Answering.{tells_value}
use Rattle.zn_session.proofs.Listings.{some_is, root_names, root_listed, files_listed}
use Rattle.zn_session.proofs.calls.listing.Goals as goal

-- the text of the names that are listed
pub returns-then-eq : goal.returns-then-eq
returns-then-eq g c = λ kept.
    let layout = c.args.volume.now.volume.inodes.layout in
    let root : bytes_eq c.args.path.now (codes "/") ≡ true = sym c.eq.ensures ∙ c.if-eq.true in
    let names : names_in (listing_of layout c.args.path.now) ≡ directory_names (nat_lt 0 c.files-cnv.result.0) (nat_lt 0 c.files-cnv.result.1) =
    ap names_in (root_listed layout c.args.path.now root) ∙ root_names layout _ _ (some_is _ _ c.files-cnv.ensures.cnv) (some_is _ _ c.files-cnv.ensures.seq) in
    tells_value tt (ap list_text (sym names)) refl

pub returns-else-eq : goal.returns-else-eq
returns-else-eq g c = λ kept.
    let layout = c.args.volume.now.volume.inodes.layout in
    let other : bytes_eq c.args.path.now (codes "/") ≡ false = sym c.eq.ensures ∙ c.if-eq.false in
    tells_value tt (ap list_text (sym (files_listed layout c.args.path.now c.args.entries other c.requires))) refl
