use Rattle.std.proofs.Common.{leb, sym, ◌∙◌, arith, rules}
use Rattle.std.proofs.lemmas.List.Sorted.{IsPartitionPoint-from_clause}
use Rattle.zn_model.specs.Volume.{no_file}
use Rattle.zn_report.specs.Layouts.{end_of}
use Rattle.zn_report.proofs.Places.{ends_in_order, found_at, found_none}
use Rattle.zn_report.proofs.files.file_of.Goals as goal
use Rattle.zn_report.proofs.files.file_of.Goals.{else-i-files-via-then-i-files+else-has_zone, else-i-files-via-else-i-files}

pub returns-then-has_zone : goal.returns-then-has_zone
returns-then-has_zone c =
    let z = c.args.z.0 in
    let point = IsPartitionPoint-from_clause (λ file. leb (end_of file) c.args.z.0) _ _ c.partition_point-i.ensures.partitioned (ends_in_order z c.args.files.now c.requires.order) (λ a r q k. search rules) in
    sym (found_at z c.partition_point-i.result c.args.files.now no_file point c.if-i-files.true (sym c.has_zone.ensures ∙ c.if-has_zone.true))

pub returns-else-i-files : goal.returns-else-i-files
returns-else-i-files c =
    let z = c.args.z.0 in
    let i = c.partition_point-i.result in
    let order = c.requires.order in
    let within = c.partition_point-i.ensures.bound in
    let point = IsPartitionPoint-from_clause (λ file. leb (end_of file) c.args.z.0) _ _ c.partition_point-i.ensures.partitioned (ends_in_order z c.args.files.now order) (λ a r q k. search rules) in
    elim c.else-i-files.branch [
      | else-i-files-via-then-i-files+else-has_zone w ↦ sym (found_none z i c.args.files.now no_file order point within (λ inside. sym w.has_zone.ensures ∙ w.if-has_zone.false))
      | else-i-files-via-else-i-files w ↦ sym (found_none z i c.args.files.now no_file order point within (λ inside. absurd (omega (arith, w.if-i-files.false))))
    ]
