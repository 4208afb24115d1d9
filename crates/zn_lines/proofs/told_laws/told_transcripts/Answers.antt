use Rattle.zn_lines.proofs.ToldLines.{transcript_same}
use Rattle.zn_lines.proofs.told_laws.told_transcripts.Goals as goal

pub returns : goal.returns
returns c = transcript_same
