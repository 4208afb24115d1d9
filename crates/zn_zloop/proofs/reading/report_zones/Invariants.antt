use Rattle.std.proofs.Common.{◌≡◌, take, map}
use Rattle.std.specs.List.{range_with_len}
use Rattle.zn_zone.specs.Facts.{facts_at, info_of}
use Rattle.zn_zone.specs.Machine.{facts}
use Rattle.zn_zloop.proofs.reading.report_zones.Given as goal

-- those before the index are told
abbrev pub invariant-loop-i : goal.invariant-loop-i
invariant-loop-i l = take l.i l.out ≡ map (λ z. info_of (facts_at (facts l.zones) z)) (range_with_len l.first.0 l.i)
