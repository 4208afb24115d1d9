use Rattle.std.proofs.Common.{inl, inr}
use Rattle.zn_model.specs.Formatting.{super_block_by}
use Rattle.zn_zloop.specs.Telling.{state_told}
use Rattle.zn_commands.proofs.FormatLaws.{format_causes}
use Rattle.zn_commands.proofs.formatting.mkfs.Goals as goal

pub returns-in-Ok-clause-causes : goal.returns-in-Ok-clause-causes
returns-in-Ok-clause-causes g c =
    let files = g.F.Files.state in
    let sink = g.K.Sink.state in
    let device = c.in-Ok.device in
    format_causes (super_block_by c.args.label.now c.args.uuid c.args.opts.now) c.args.force c.end_format-status.result
    (files c.args.files) (files c.format_device-reply.result.1) (sink c.args.sink.now) (sink c.end_format-status.new.sink)
    (record {
      means = inr (record {
        device = state_told device.is_spoilt (files device.files) device.zones device.kepts.items;
        middle = files device.files;
        opened = c.in-Ok.ensures.opened;
        reply = c.format_device-reply.result.0;
        formatted = c.format_device-reply.ensures;
        closed = c.end_format-status.ensures;
      });
    })

pub returns-in-Err-clause-causes : goal.returns-in-Err-clause-causes
returns-in-Err-clause-causes g c =
    let files = g.F.Files.state in
    let sink = g.K.Sink.state in
    format_causes (super_block_by c.args.label.now c.args.uuid c.args.opts.now) c.args.force c.end_shut-status.result
    (files c.args.files) (files c.in-Err.field-0.files) (sink c.args.sink.now) (sink c.end_shut-status.new.sink)
    (record { means = inl (record { why = c.in-Err.field-0.why; shut = c.in-Err.ensures.left; closed = c.end_shut-status.ensures }) })
