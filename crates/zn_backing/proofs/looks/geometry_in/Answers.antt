use Rattle.std.proofs.Common.{◌∙◌, sym, ap, arith, ◌<◌}
use Rattle.zn_stand.specs.DeviceText.{text_read}
use Rattle.zn_stand.specs.ZoneNames.{device_name}
use Rattle.zn_backing.proofs.Finding.{text_tells, text_refused, text_long, text_missing, geometry_within}
use Rattle.zn_backing.proofs.Looking.{listed_file}
use Rattle.zn_backing.proofs.looks.geometry_in.Goals as goal

pub returns-then-not-contains-clause-sought : goal.returns-then-not-contains-clause-sought
unfolding device_name
returns-then-not-contains-clause-sought g c = text_missing c.args.names.now (g.F.Files.state c.args.files.now) c.requires (sym c.contains.ensures ∙ c.if-not-contains.true)

pub len_of-requires : goal.len_of-requires
unfolding device_name
len_of-requires g c = listed_file c.args.names.now device_name (g.F.Files.state c.args.files.now) c.requires (sym c.if-not-contains.false ∙ c.contains.ensures)

pub returns-then-len-clause-sought : goal.returns-then-len-clause-sought
unfolding device_name
returns-then-len-clause-sought g c = text_long c.args.names.now c.in-Ok.len (g.F.Files.state c.args.files.now) (g.F.Files.state c.len_of.new.files) c.requires (sym c.if-not-contains.false ∙ c.contains.ensures) c.in-Ok.ensures.steps c.in-Ok.ensures.len (omega arith)

pub text_of-requires-clause-there : goal.text_of-requires-clause-there
unfolding device_name
text_of-requires-clause-there g c = λ d told. listed_file c.args.names.now device_name (g.F.Files.state c.args.files.now) c.requires (sym c.if-not-contains.false ∙ c.contains.ensures) d (sym (c.in-Ok.ensures.steps.same (λ is. absurd (cc))) ∙ told)

pub returns-in-Ok-read_text-clause-sought : goal.returns-in-Ok-read_text-clause-sought
unfolding device_name
returns-in-Ok-read_text-clause-sought g c = text_tells c.args.names.now c.in-Ok-text_of.text.items c.in-Ok-read_text.geo c.in-Ok.len c.in-Ok-text_of.text (g.F.Files.state c.args.files.now) (g.F.Files.state c.len_of.new.files) (g.F.Files.state c.text_of.new.files) c.requires (sym c.if-not-contains.false ∙ c.contains.ensures)
    c.in-Ok.ensures.steps c.in-Ok-text_of.ensures.steps c.in-Ok-text_of.ensures.bytes (c.in-Ok-read_text.ensures ∙ ap text_read c.deref.ensures.value)

pub returns-in-Ok-read_text-clause-within : goal.returns-in-Ok-read_text-clause-within
returns-in-Ok-read_text-clause-within g c = geometry_within c.deref.result.now c.in-Ok-read_text.geo c.in-Ok-read_text.ensures

pub returns-clause-sought : goal.returns-clause-sought
unfolding device_name
returns-clause-sought g c = text_refused c.args.names.now c.in-Ok-text_of.text.items c.in-Err-read_text.line c.in-Ok.len c.in-Ok-text_of.text (g.F.Files.state c.args.files.now) (g.F.Files.state c.len_of.new.files) (g.F.Files.state c.text_of.new.files) c.requires (sym c.if-not-contains.false ∙ c.contains.ensures)
    c.in-Ok.ensures.steps c.in-Ok-text_of.ensures.steps c.in-Ok-text_of.ensures.bytes (c.in-Err-read_text.ensures ∙ ap text_read c.deref.ensures.value)
