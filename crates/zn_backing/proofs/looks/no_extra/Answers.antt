use Rattle.std.proofs.Common.{◌≡◌, ◌<◌, ◌≤◌, ◌+◌, ◌∙◌, Bool, Ok, true, false, sym, ap, subst, take, length, arith}
use Rattle.std.proofs.Math.Seq.{take-length}
use Rattle.zn_stand.specs.Directory.{contents}
use Rattle.zn_backing.specs.Steps.{Steps}
use Rattle.zn_backing.specs.Looks.{HasNames}
use Rattle.zn_backing.proofs.Finding.{name_there, extra_found, plain_more, names_all}
use Rattle.zn_backing.proofs.looks.no_extra.Goals as goal

pub is_extra-requires : goal.is_extra-requires
is_extra-requires g c = name_there c.args.names.now c.loop-i.i c.at-name.result.now (g.F.Files.state c.args.files.now) (g.F.Files.state c.loop-i.files) c.requires.listed c.loop-i.invariant.steps (omega (arith, c.count-i-end.ensures.count)) c.at-name.ensures

pub returns-then-extra : goal.returns-then-extra
returns-then-extra g c = extra_found (λ d all. HasNames (contents d) c.args.geo.now) c.args.geo.now c.args.names.now c.loop-i.i c.at-name.result.now c.in_ok-new.field-0 (g.F.Files.state c.args.files.now) (g.F.Files.state c.loop-i.files) (g.F.Files.state c.is_extra.new.files)
    c.loop-i.invariant (omega (arith, c.count-i-end.ensures.count)) c.at-name.ensures (c.in_ok-new.ensures ∙ c.as_bytes.ensures.value) c.requires.listed c.requires.held
    (subst (λ (b : Bool). Steps {T = Bool} (Ok b) (g.F.Files.state c.loop-i.files) (g.F.Files.state c.is_extra.new.files)) c.if-extra.true c.in-Ok.ensures.steps) (λ d told. sym c.if-extra.true ∙ c.in-Ok.ensures.extra d told)

pub loop-i-preserved : goal.loop-i-preserved
loop-i-preserved g c = plain_more c.args.geo.now c.args.names.now c.loop-i.i c.at-name.result.now (g.F.Files.state c.args.files.now) (g.F.Files.state c.loop-i.files) (g.F.Files.state c.is_extra.new.files)
    c.loop-i.invariant (omega (arith, c.count-i-end.ensures.count)) c.at-name.ensures
    (subst (λ (b : Bool). Steps {T = Bool} (Ok b) (g.F.Files.state c.loop-i.files) (g.F.Files.state c.is_extra.new.files)) c.if-extra.false c.in-Ok.ensures.steps) (λ d told. sym c.if-extra.false ∙ c.in-Ok.ensures.extra d told)

pub returns : goal.returns
returns g c =
    let all : c.loop-i.i ≡ length c.args.names.now = omega (arith, c.count-i-end.ensures.count) in
    names_all c.args.geo.now c.args.names.now c.loop-i.i (g.F.Files.state c.args.files.now) (g.F.Files.state c.loop-i.files) c.loop-i.invariant (ap (λ n. take n c.args.names.now) all ∙ take-length c.args.names.now) c.requires.listed
