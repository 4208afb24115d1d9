use Rattle.std.proofs.Common.{Ok, Err, sym, ◌∙◌}
use Rattle.zn_script.specs.Items.{format_meant}
use Rattle.zn_session.proofs.Formatted.{bad_label, bad_uuid, bad_features, formatted}
use Rattle.zn_session.proofs.formats.format_bare.Goals as goal

pub returns-in_default : goal.returns-in_default
returns-in_default g c = λ kept numbers none.
    bad_label (format_meant c.args.words.now) kept c.args.entropy.now _ numbers none c.requires.unspoilt (sym c.label_in.ensures ∙ c.in_default.is)

pub returns-in_default-uuid_in : goal.returns-in_default-uuid_in
returns-in_default-uuid_in g c = λ kept numbers none.
    bad_uuid (format_meant c.args.words.now) kept c.args.entropy.now _ numbers none c.requires.unspoilt c.in-Some.label (sym c.label_in.ensures ∙ c.in-Some.is) (sym c.uuid_in.ensures ∙ c.in_default-uuid_in.is)

pub returns-in-Err : goal.returns-in-Err
returns-in-Err g c = λ kept numbers none.
    bad_features (format_meant c.args.words.now) kept c.args.entropy.now _ numbers none c.requires.unspoilt c.in-Some.label (sym c.label_in.ensures ∙ c.in-Some.is)
    c.in-Some-uuid_in.uuid (sym c.uuid_in.ensures ∙ c.in-Some-uuid_in.is) c.in-Err.error (sym c.features_in.ensures.value ∙ c.in-Err.is)

pub returns-in-Ok-format : goal.returns-in-Ok-format
returns-in-Ok-format g c = λ kept numbers none.
    formatted (format_meant c.args.words.now) kept c.args.entropy.now _ numbers none c.requires.unspoilt c.in-Some.label (sym c.label_in.ensures ∙ c.in-Some.is)
    c.in-Some-uuid_in.uuid (sym c.uuid_in.ensures ∙ c.in-Some-uuid_in.is) c.in-Ok.opts (sym c.features_in.ensures.value ∙ c.in-Ok.is) (Ok tt) _ c.in-Ok-format.ensures.cause c.in-Ok-format.ensures.done

pub returns-in-Err-format : goal.returns-in-Err-format
returns-in-Err-format g c = λ kept numbers none.
    formatted (format_meant c.args.words.now) kept c.args.entropy.now _ numbers none c.requires.unspoilt c.in-Some.label (sym c.label_in.ensures ∙ c.in-Some.is)
    c.in-Some-uuid_in.uuid (sym c.uuid_in.ensures ∙ c.in-Some-uuid_in.is) c.in-Ok.opts (sym c.features_in.ensures.value ∙ c.in-Ok.is) (Err c.in-Err-format.error) _ c.in-Err-format.ensures.cause c.in-Err-format.ensures.done
