use Rattle.std.proofs.Common.{◌≡◌, ◌<◌, ◌^◌, cond, drop, Some, None}
use Rattle.std.specs.List.{list_all, fold}
use Rattle.zn_model.specs.Options.{is_octal, octal_worth}
use Rattle.std.proofs.Common.{◌+◌, ◌*◌, ◌-◌}
use Rattle.zn_opts.proofs.values.octal_number.Given as goal

-- the digits so far are read
abbrev pub invariant-loop-byte : goal.invariant-loop-byte
invariant-loop-byte l = record {
  below : l.number < 8 ^ l.byte-index;
  read : cond (list_all is_octal (drop l.byte-index l.word)) (Some (fold (λ n b. n * 8 + (b - 48)) l.number (drop l.byte-index l.word))) None
      ≡ cond (list_all is_octal l.word) (Some (octal_worth l.word)) None;
}
