use Rattle.std.proofs.Common.{◌≡◌, ◌∙◌, true, false, sym, ap, subst}
use Rattle.zn_truth.specs.declared.Kind.{Kind}
use Rattle.zn_truth.specs.declared.Cond.{Cond}
use Rattle.std.specs.Prelude.{Some, IsSome}
use Rattle.zn_stand.specs.Directory.{file_at, contents}
use Rattle.zn_stand.specs.ZoneNames.{kind_of, zone_name}
use Rattle.zn_stand.specs.Standing.{is_file_length}
use Rattle.zn_stand.specs.AtRest.{MissingFile as NoFile, BadZoneFile as WrongFile}
use Rattle.zn_backing.specs.Listing.{is_among}
use Rattle.zn_backing.specs.Looks.{cond_listed, info_with, IsZoneFound}
use Rattle.zn_backing.proofs.Looking.{zone_missing, zone_bad, zone_found, listed_file}
use Rattle.zn_backing.proofs.zones.zone_info.Goals as goal

pub returns-then-not-contains-clause-fault : goal.returns-then-not-contains-clause-fault
returns-then-not-contains-clause-fault g c = λ d told.
    let name : c.zone_name-name.result.now ≡ zone_name (kind_of c.args.geo.now c.args.z.0) c.args.z.0 = c.zone_name-name.ensures ∙ ap (λ (k : Kind). zone_name k c.args.z.0) c.kind_of-kind.ensures in
    let none : c.contains.result ≡ false = c.if-not-contains.true in
    zone_missing d c.args.names.now c.args.geo.now c.args.z.0 (c.requires d told) (ap (is_among c.args.names.now) (sym name) ∙ sym c.contains.ensures ∙ none)
    ∙ ap (λ (k : Kind). Some (NoFile k c.args.z.0)) (sym c.kind_of-kind.ensures)

pub len_of-requires : goal.len_of-requires
len_of-requires g c = listed_file c.args.names.now c.zone_name-name.result.now (g.F.Files.state c.args.files.now) c.requires (sym c.if-not-contains.false ∙ c.contains.ensures)

pub returns-then-not-is_file_length-clause-fault : goal.returns-then-not-is_file_length-clause-fault
returns-then-not-is_file_length-clause-fault g c = λ d told.
    let name : c.zone_name-name.result.now ≡ zone_name (kind_of c.args.geo.now c.args.z.0) c.args.z.0 = c.zone_name-name.ensures ∙ ap (λ (k : Kind). zone_name k c.args.z.0) c.kind_of-kind.ensures in
    let there = listed_file c.args.names.now c.zone_name-name.result.now (g.F.Files.state c.args.files.now) c.requires (sym c.if-not-contains.false ∙ c.contains.ensures) d told in
    zone_bad d c.args.geo.now c.args.z.0 c.in_ok-len.len (subst (λ n. IsSome (file_at d n)) name there) (λ f is. c.in_ok-len.ensures.len d f told (ap (file_at d) name ∙ is))
    (ap (λ (k : Kind). is_file_length c.args.geo.now.shape k c.in_ok-len.len) (sym c.kind_of-kind.ensures) ∙ sym c.is_file_length.ensures.fits ∙ c.if-not-is_file_length.true)
    ∙ ap (λ (k : Kind). Some (WrongFile k c.args.z.0 c.in_ok-len.len)) (sym c.kind_of-kind.ensures)

pub returns-clause-found : goal.returns-clause-found
returns-clause-found g c = λ d told.
    let name : c.zone_name-name.result.now ≡ zone_name (kind_of c.args.geo.now c.args.z.0) c.args.z.0 = c.zone_name-name.ensures ∙ ap (λ (k : Kind). zone_name k c.args.z.0) c.kind_of-kind.ensures in
    let there = listed_file c.args.names.now c.zone_name-name.result.now (g.F.Files.state c.args.files.now) c.requires (sym c.if-not-contains.false ∙ c.contains.ensures) d told in
    let info : c.info_with.result ≡ info_with (cond_listed c.args.names.now (kind_of c.args.geo.now c.args.z.0) c.args.z.0) c.in_ok-len.len =
    c.info_with.ensures ∙ ap (λ (k : Cond). info_with k c.in_ok-len.len) (c.cond_listed.ensures ∙ ap (λ (k : Kind). cond_listed c.args.names.now k c.args.z.0) c.kind_of-kind.ensures) in
    subst (IsZoneFound (contents d) c.args.geo.now c.args.z.0) (sym info)
    (zone_found d c.args.names.now c.args.geo.now c.args.z.0 c.in_ok-len.len (c.requires d told) (subst (λ n. IsSome (file_at d n)) name there) (λ f is. c.in_ok-len.ensures.len d f told (ap (file_at d) name ∙ is))
    (ap (λ (k : Kind). is_file_length c.args.geo.now.shape k c.in_ok-len.len) (sym c.kind_of-kind.ensures) ∙ sym c.is_file_length.ensures.fits ∙ c.if-not-is_file_length.false))
