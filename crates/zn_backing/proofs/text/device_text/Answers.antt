use Rattle.zn_backing.proofs.TextReading.{text_of_lines}
use Rattle.zn_backing.proofs.text.device_text.Goals as goal

pub returns : goal.returns
returns c = text_of_lines c.args.geo.now _ _ _ _ _ _ _ _ c.new-text.ensures.items c.in_ok-push_line.ensures c.in_ok-push_line-2.ensures c.in_ok-push_line-3.ensures c.in_ok-push_line-4.ensures c.in_ok-push_line-5.ensures c.in_ok-push_line-6.ensures c.in_ok-push_line-7.ensures
