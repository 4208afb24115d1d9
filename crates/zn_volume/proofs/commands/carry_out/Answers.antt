use Rattle.std.proofs.Common.{◌≡◌, List, Ok, Err, refl, sym, ◌∙◌, subst, rules}
use Rattle.std.proofs.lemmas.Grind.{common_steps}
use Rattle.zn_truth.specs.Orders.{Order}
use Rattle.zn_device.specs.States.{Ordered}
use Rattle.zn_model.specs.Looks.{all_infos}
use Rattle.zn_model.specs.declared.answers.MountError.{MountError}
use Rattle.zn_volume.specs.MountSteps.{mount_orders, Finds}
use Rattle.zn_volume.proofs.Closes.{closable, closes_are}
use Rattle.zn_volume.proofs.Finding.{no_closes, all_closed, close_fails}
use Rattle.zn_volume.proofs.Mounted.{geometry-of}
use Rattle.zn_volume.proofs.commands.carry_out.Goals as goal

pub returns-in_err-super_block-clause-found : goal.returns-in_err-super_block-clause-found
returns-in_err-super_block-clause-found g c =
    let h : Finds mount_orders (Err c.in_err-super_block.field-0.0) (g.D.Zoned.state c.args.dev.now) (g.D.Zoned.state c.find_super_block.new.dev) =
    no_closes c.in_err-super_block.field-0.0 _ _ c.in_err-super_block.ensures.found in
    grind (rules, common_steps, h)

pub close_all-requires-clause-closable : goal.close_all-requires-clause-closable
close_all-requires-clause-closable g c =
    let D = g.D.Zoned in
    closable (D.state c.args.dev.now).world.truth _ c.deref.result.now (g.met.D.Zoned.is_sound c.args.dev.now)
    (c.in_ok-super_block.ensures.found.done.obeys.geometry ∙ sym (geometry-of (D.state c.args.dev.now).world))
    (c.deref.ensures.value ∙ c.in_ok-super_block.ensures.infos refl)

pub returns-in-Ok-clause-found : goal.returns-in-Ok-clause-found
returns-in-Ok-clause-found g c =
    let D = g.D.Zoned in
    let told : c.deref.result.now ≡ all_infos (g.D.Zoned.state c.args.dev.now).world.truth = c.deref.ensures.value ∙ c.in_ok-super_block.ensures.infos refl in
    all_closed c.in_ok-super_block.super_block (D.state c.args.dev.now) (D.state c.find_super_block.new.dev) (D.state c.close_all.new.dev) c.in_ok-super_block.ensures.found
    (subst (λ (orders : List Order). Ordered orders (Ok tt) (g.D.Zoned.state c.find_super_block.new.dev) (g.D.Zoned.state c.close_all.new.dev)) (closes_are (D.state c.args.dev.now).world.truth c.deref.result.now told) c.in-Ok.ensures.done)

pub returns-in-Err-clause-found : goal.returns-in-Err-clause-found
returns-in-Err-clause-found g c =
    let D = g.D.Zoned in
    let told : c.deref.result.now ≡ all_infos (g.D.Zoned.state c.args.dev.now).world.truth = c.deref.ensures.value ∙ c.in_ok-super_block.ensures.infos refl in
    subst (λ (why : MountError). Finds mount_orders (Err why) (g.D.Zoned.state c.args.dev.now) (g.D.Zoned.state c.close_all.new.dev)) (sym c.mount_error.ensures)
    (close_fails c.in_ok-super_block.super_block c.in-Err.error (D.state c.args.dev.now) (D.state c.find_super_block.new.dev) (D.state c.close_all.new.dev) c.in_ok-super_block.ensures.found
    (subst (λ (orders : List Order). Ordered orders (Err c.in-Err.error) (g.D.Zoned.state c.find_super_block.new.dev) (g.D.Zoned.state c.close_all.new.dev)) (closes_are (D.state c.args.dev.now).world.truth c.deref.result.now told) c.in-Err.ensures.done))
